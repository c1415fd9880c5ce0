-- A table of the spellings of all kinds, in the order of their numbers, has the spelling of each kind at its number.
-- Made by `tools/grammar_tables` from `tools/grammar/verilog_a.txt`; edit that file.
use Rattle.std.specs.Prelude.{◌≡◌, ℕ, suc, zero, List, [], ◌∷◌, Option, None, map, get_or, refl}
use Rattle.std.specs.Option.{option_map}
use Rattle.std.proofs.Common.{ap, ◌∙◌, Bor}
use Rattle.va_grammar.specs.declared.terminal.Terminal.{Terminal}
use Rattle.va_grammar.specs.declared.terminal.Terminal.TheVariants.{EndOfText, Name, System, Number, Text, Module, Endmodule, Input, Output, Inout, Nature, Endnature, Discipline, Enddiscipline, Potential, Flow, Domain, Branch, Parameter, Localparam, Aliasparam, Real, Integer, From, Exclude, Inf, Analog, Function, Endfunction, Begin, End, If, Else, Case, Endcase, Default, For, While, Repeat, InitialStep, FinalStep, LeftParenthesis, RightParenthesis, LeftBracket, RightBracket, Comma, Semicolon, Colon, Dot, Assign, EqualTo, NotEqualTo, Less, LessOrEqual, Contribute, Greater, GreaterOrEqual, Plus, Minus, Times, ToThePower, DividedBy, Modulo, Not, AndAnd, OrOr, Question, At, AttributeOpen, AttributeClose}
use Rattle.va_grammar.specs.Terminals.{spelling_of, terminal_number}

-- all kinds in the order of their numbers
abbrev pub all_kinds : List Terminal
all_kinds =
    EndOfText ∷ Name ∷ System ∷ Number ∷ Text ∷ Module ∷ Endmodule ∷ Input ∷ Output ∷ Inout ∷ Nature ∷ Endnature ∷ Discipline ∷
    Enddiscipline ∷ Potential ∷ Flow ∷ Domain ∷ Branch ∷ Parameter ∷ Localparam ∷ Aliasparam ∷ Real ∷ Integer ∷ From ∷ Exclude ∷ Inf ∷
    Analog ∷ Function ∷ Endfunction ∷ Begin ∷ End ∷ If ∷ Else ∷ Case ∷ Endcase ∷ Default ∷ For ∷ While ∷ Repeat ∷ InitialStep ∷ FinalStep ∷
    LeftParenthesis ∷ RightParenthesis ∷ LeftBracket ∷ RightBracket ∷ Comma ∷ Semicolon ∷ Colon ∷ Dot ∷ Assign ∷ EqualTo ∷ NotEqualTo ∷
    Less ∷ LessOrEqual ∷ Contribute ∷ Greater ∷ GreaterOrEqual ∷ Plus ∷ Minus ∷ Times ∷ ToThePower ∷ DividedBy ∷ Modulo ∷ Not ∷ AndAnd ∷
    OrOr ∷ Question ∷ At ∷ AttributeOpen ∷ AttributeClose ∷ []

kind_at : (t : Terminal) → get_or (map spelling_of all_kinds) (terminal_number t) None ≡ spelling_of t
kind_at EndOfText = refl
kind_at Name = refl
kind_at System = refl
kind_at Number = refl
kind_at Text = refl
kind_at Module = refl
kind_at Endmodule = refl
kind_at Input = refl
kind_at Output = refl
kind_at Inout = refl
kind_at Nature = refl
kind_at Endnature = refl
kind_at Discipline = refl
kind_at Enddiscipline = refl
kind_at Potential = refl
kind_at Flow = refl
kind_at Domain = refl
kind_at Branch = refl
kind_at Parameter = refl
kind_at Localparam = refl
kind_at Aliasparam = refl
kind_at Real = refl
kind_at Integer = refl
kind_at From = refl
kind_at Exclude = refl
kind_at Inf = refl
kind_at Analog = refl
kind_at Function = refl
kind_at Endfunction = refl
kind_at Begin = refl
kind_at End = refl
kind_at If = refl
kind_at Else = refl
kind_at Case = refl
kind_at Endcase = refl
kind_at Default = refl
kind_at For = refl
kind_at While = refl
kind_at Repeat = refl
kind_at InitialStep = refl
kind_at FinalStep = refl
kind_at LeftParenthesis = refl
kind_at RightParenthesis = refl
kind_at LeftBracket = refl
kind_at RightBracket = refl
kind_at Comma = refl
kind_at Semicolon = refl
kind_at Colon = refl
kind_at Dot = refl
kind_at Assign = refl
kind_at EqualTo = refl
kind_at NotEqualTo = refl
kind_at Less = refl
kind_at LessOrEqual = refl
kind_at Contribute = refl
kind_at Greater = refl
kind_at GreaterOrEqual = refl
kind_at Plus = refl
kind_at Minus = refl
kind_at Times = refl
kind_at ToThePower = refl
kind_at DividedBy = refl
kind_at Modulo = refl
kind_at Not = refl
kind_at AndAnd = refl
kind_at OrOr = refl
kind_at Question = refl
kind_at At = refl
kind_at AttributeOpen = refl
kind_at AttributeClose = refl

-- the bytes of a text that may be missing
abbrev pub bytes_of : Option (Bor (List ℕ)) → Option (List ℕ)
bytes_of text = option_map (λ text. text.now) text

bytes_at : (texts : List (Option (Bor (List ℕ)))) (i : ℕ) → bytes_of (get_or texts i None) ≡ get_or (map bytes_of texts) i None
bytes_at [] i = refl
bytes_at (text ∷ texts) zero = refl
bytes_at (text ∷ texts) (suc i) = bytes_at texts i

pub spelling_at : (texts : List (Option (Bor (List ℕ)))) (t : Terminal) (number : ℕ) → map bytes_of texts ≡ map spelling_of all_kinds →
    number ≡ terminal_number t → bytes_of (get_or texts number None) ≡ spelling_of t
spelling_at texts t number same is =
    bytes_at texts number ∙ ap (λ l. get_or l number None) same ∙ ap (λ n. get_or (map spelling_of all_kinds) n None) is ∙ kind_at t
