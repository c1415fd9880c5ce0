-- The kinds of tokens by number, and how they are spelled.
-- Made by `tools/grammar_tables` from `tools/grammar/verilog_a.txt`; edit that file.
use Rattle.std.specs.Prelude.{ℕ, List, [], ◌∷◌, Option, Some, None, codes}
use Rattle.va_grammar.specs.declared.terminal.Terminal.{Terminal}
use Rattle.va_grammar.specs.declared.terminal.Terminal.TheVariants as kind

-- the number of a kind
abbrev pub terminal_number : Terminal → ℕ
terminal_number kind.EndOfText = 0
terminal_number kind.Name = 1
terminal_number kind.System = 2
terminal_number kind.Number = 3
terminal_number kind.Text = 4
terminal_number kind.Module = 5
terminal_number kind.Endmodule = 6
terminal_number kind.Input = 7
terminal_number kind.Output = 8
terminal_number kind.Inout = 9
terminal_number kind.Nature = 10
terminal_number kind.Endnature = 11
terminal_number kind.Discipline = 12
terminal_number kind.Enddiscipline = 13
terminal_number kind.Potential = 14
terminal_number kind.Flow = 15
terminal_number kind.Domain = 16
terminal_number kind.Branch = 17
terminal_number kind.Parameter = 18
terminal_number kind.Localparam = 19
terminal_number kind.Aliasparam = 20
terminal_number kind.Real = 21
terminal_number kind.Integer = 22
terminal_number kind.From = 23
terminal_number kind.Exclude = 24
terminal_number kind.Inf = 25
terminal_number kind.Analog = 26
terminal_number kind.Function = 27
terminal_number kind.Endfunction = 28
terminal_number kind.Begin = 29
terminal_number kind.End = 30
terminal_number kind.If = 31
terminal_number kind.Else = 32
terminal_number kind.Case = 33
terminal_number kind.Endcase = 34
terminal_number kind.Default = 35
terminal_number kind.For = 36
terminal_number kind.While = 37
terminal_number kind.Repeat = 38
terminal_number kind.InitialStep = 39
terminal_number kind.FinalStep = 40
terminal_number kind.LeftParenthesis = 41
terminal_number kind.RightParenthesis = 42
terminal_number kind.LeftBracket = 43
terminal_number kind.RightBracket = 44
terminal_number kind.Comma = 45
terminal_number kind.Semicolon = 46
terminal_number kind.Colon = 47
terminal_number kind.Dot = 48
terminal_number kind.Assign = 49
terminal_number kind.EqualTo = 50
terminal_number kind.NotEqualTo = 51
terminal_number kind.Less = 52
terminal_number kind.LessOrEqual = 53
terminal_number kind.Contribute = 54
terminal_number kind.Greater = 55
terminal_number kind.GreaterOrEqual = 56
terminal_number kind.Plus = 57
terminal_number kind.Minus = 58
terminal_number kind.Times = 59
terminal_number kind.ToThePower = 60
terminal_number kind.DividedBy = 61
terminal_number kind.Modulo = 62
terminal_number kind.Not = 63
terminal_number kind.AndAnd = 64
terminal_number kind.OrOr = 65
terminal_number kind.Question = 66
terminal_number kind.At = 67
terminal_number kind.AttributeOpen = 68
terminal_number kind.AttributeClose = 69

-- how a keyword or a mark is spelled; the other kinds have no spelling of their own
abbrev pub spelling_of : Terminal → Option (List ℕ)
spelling_of kind.EndOfText = None
spelling_of kind.Name = None
spelling_of kind.System = None
spelling_of kind.Number = None
spelling_of kind.Text = None
spelling_of kind.Module = Some (codes "module")
spelling_of kind.Endmodule = Some (codes "endmodule")
spelling_of kind.Input = Some (codes "input")
spelling_of kind.Output = Some (codes "output")
spelling_of kind.Inout = Some (codes "inout")
spelling_of kind.Nature = Some (codes "nature")
spelling_of kind.Endnature = Some (codes "endnature")
spelling_of kind.Discipline = Some (codes "discipline")
spelling_of kind.Enddiscipline = Some (codes "enddiscipline")
spelling_of kind.Potential = Some (codes "potential")
spelling_of kind.Flow = Some (codes "flow")
spelling_of kind.Domain = Some (codes "domain")
spelling_of kind.Branch = Some (codes "branch")
spelling_of kind.Parameter = Some (codes "parameter")
spelling_of kind.Localparam = Some (codes "localparam")
spelling_of kind.Aliasparam = Some (codes "aliasparam")
spelling_of kind.Real = Some (codes "real")
spelling_of kind.Integer = Some (codes "integer")
spelling_of kind.From = Some (codes "from")
spelling_of kind.Exclude = Some (codes "exclude")
spelling_of kind.Inf = Some (codes "inf")
spelling_of kind.Analog = Some (codes "analog")
spelling_of kind.Function = Some (codes "function")
spelling_of kind.Endfunction = Some (codes "endfunction")
spelling_of kind.Begin = Some (codes "begin")
spelling_of kind.End = Some (codes "end")
spelling_of kind.If = Some (codes "if")
spelling_of kind.Else = Some (codes "else")
spelling_of kind.Case = Some (codes "case")
spelling_of kind.Endcase = Some (codes "endcase")
spelling_of kind.Default = Some (codes "default")
spelling_of kind.For = Some (codes "for")
spelling_of kind.While = Some (codes "while")
spelling_of kind.Repeat = Some (codes "repeat")
spelling_of kind.InitialStep = Some (codes "initial_step")
spelling_of kind.FinalStep = Some (codes "final_step")
spelling_of kind.LeftParenthesis = Some (codes "(")
spelling_of kind.RightParenthesis = Some (codes ")")
spelling_of kind.LeftBracket = Some (codes "[")
spelling_of kind.RightBracket = Some (codes "]")
spelling_of kind.Comma = Some (codes ",")
spelling_of kind.Semicolon = Some (codes ";")
spelling_of kind.Colon = Some (codes ":")
spelling_of kind.Dot = Some (codes ".")
spelling_of kind.Assign = Some (codes "=")
spelling_of kind.EqualTo = Some (codes "==")
spelling_of kind.NotEqualTo = Some (codes "!=")
spelling_of kind.Less = Some (codes "<")
spelling_of kind.LessOrEqual = Some (codes "<=")
spelling_of kind.Contribute = Some (codes "<+")
spelling_of kind.Greater = Some (codes ">")
spelling_of kind.GreaterOrEqual = Some (codes ">=")
spelling_of kind.Plus = Some (codes "+")
spelling_of kind.Minus = Some (codes "-")
spelling_of kind.Times = Some (codes "*")
spelling_of kind.ToThePower = Some (codes "**")
spelling_of kind.DividedBy = Some (codes "/")
spelling_of kind.Modulo = Some (codes "%")
spelling_of kind.Not = Some (codes "!")
spelling_of kind.AndAnd = Some (codes "&&")
spelling_of kind.OrOr = Some (codes "||")
spelling_of kind.Question = Some (codes "?")
spelling_of kind.At = Some (codes "@")
spelling_of kind.AttributeOpen = Some (codes "(*")
spelling_of kind.AttributeClose = Some (codes "*)")

-- the keywords (Lexical conventions)
abbrev pub keywords : List Terminal
keywords =
    kind.Module ∷ kind.Endmodule ∷ kind.Input ∷ kind.Output ∷ kind.Inout ∷ kind.Nature ∷ kind.Endnature ∷ kind.Discipline ∷
    kind.Enddiscipline ∷ kind.Potential ∷ kind.Flow ∷ kind.Domain ∷ kind.Branch ∷ kind.Parameter ∷ kind.Localparam ∷ kind.Aliasparam ∷
    kind.Real ∷ kind.Integer ∷ kind.From ∷ kind.Exclude ∷ kind.Inf ∷ kind.Analog ∷ kind.Function ∷ kind.Endfunction ∷ kind.Begin ∷
    kind.End ∷ kind.If ∷ kind.Else ∷ kind.Case ∷ kind.Endcase ∷ kind.Default ∷ kind.For ∷ kind.While ∷ kind.Repeat ∷ kind.InitialStep ∷
    kind.FinalStep ∷ []

-- the operators and brackets (Operators)
abbrev pub marks : List Terminal
marks =
    kind.LeftParenthesis ∷ kind.RightParenthesis ∷ kind.LeftBracket ∷ kind.RightBracket ∷ kind.Comma ∷ kind.Semicolon ∷ kind.Colon ∷
    kind.Dot ∷ kind.Assign ∷ kind.EqualTo ∷ kind.NotEqualTo ∷ kind.Less ∷ kind.LessOrEqual ∷ kind.Contribute ∷ kind.Greater ∷
    kind.GreaterOrEqual ∷ kind.Plus ∷ kind.Minus ∷ kind.Times ∷ kind.ToThePower ∷ kind.DividedBy ∷ kind.Modulo ∷ kind.Not ∷ kind.AndAnd ∷
    kind.OrOr ∷ kind.Question ∷ kind.At ∷ kind.AttributeOpen ∷ kind.AttributeClose ∷ []
