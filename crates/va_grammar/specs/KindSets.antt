-- What can be empty, begin and follow, for each nonterminal in the order of their numbers.
-- Made by `tools/grammar_tables` from `tools/grammar/verilog_a.txt`; edit that file.
use Rattle.std.specs.Prelude.{ℕ, Bool, true, false, List, [], ◌∷◌, map}
use Rattle.va_grammar.specs.declared.terminal.Terminal.{Terminal}
use Rattle.va_grammar.specs.declared.terminal.Terminal.TheVariants.{EndOfText, Name, System, Number, Text, Module, Endmodule, Input, Output, Inout, Nature, Endnature, Discipline, Enddiscipline, Potential, Flow, Domain, Branch, Parameter, Localparam, Aliasparam, Real, Integer, From, Exclude, Inf, Analog, Function, Endfunction, Begin, End, If, Else, Case, Endcase, Default, For, While, Repeat, InitialStep, FinalStep, LeftParenthesis, RightParenthesis, LeftBracket, RightBracket, Comma, Semicolon, Colon, Dot, Assign, EqualTo, NotEqualTo, Less, LessOrEqual, Greater, GreaterOrEqual, Plus, Minus, Times, ToThePower, DividedBy, Modulo, Not, AndAnd, OrOr, Question, At, AttributeOpen, AttributeClose}
use Rattle.va_grammar.specs.Terminals.{terminal_number}

-- the numbers of these kinds
abbrev pub kinds : List Terminal → List ℕ
kinds terminals = map terminal_number terminals

-- whether a nonterminal can be empty
abbrev pub va_empty : List Bool
va_empty =
    true ∷  -- Source
    false ∷  -- TopItem
    false ∷  -- TopItemBody
    true ∷  -- Attributes
    true ∷  -- MoreAttributes
    false ∷  -- Attribute
    true ∷  -- AttributeValue
    false ∷  -- Argument
    false ∷  -- NatureDeclaration
    true ∷  -- ParentNature
    true ∷  -- OptionalSemicolon
    true ∷  -- NatureItems
    false ∷  -- DisciplineDeclaration
    true ∷  -- DisciplineItems
    false ∷  -- DisciplineItem
    false ∷  -- NatureBinding
    false ∷  -- ModuleDeclaration
    true ∷  -- Ports
    true ∷  -- PortList
    true ∷  -- MoreNames
    true ∷  -- Items
    false ∷  -- Item
    false ∷  -- ItemBody
    false ∷  -- Direction
    true ∷  -- DirectionTail
    true ∷  -- SecondNode
    true ∷  -- OptionalType
    false ∷  -- ParameterAssignments
    true ∷  -- MoreParameterAssignments
    false ∷  -- ParameterAssignment
    true ∷  -- Ranges
    false ∷  -- Interval
    false ∷  -- LowerBracket
    false ∷  -- UpperBracket
    false ∷  -- Exclusion
    false ∷  -- ExclusionRest
    false ∷  -- Variables
    true ∷  -- MoreVariables
    false ∷  -- Variable
    true ∷  -- Initialiser
    false ∷  -- AnalogItem
    true ∷  -- FunctionItems
    false ∷  -- FunctionItem
    false ∷  -- Statement
    true ∷  -- Label
    true ∷  -- Declarations
    false ∷  -- Declaration
    true ∷  -- Statements
    true ∷  -- ElseBranch
    true ∷  -- CaseItems
    false ∷  -- CaseItem
    true ∷  -- OptionalColon
    true ∷  -- MoreCaseValues
    false ∷  -- Event
    true ∷  -- EventArguments
    true ∷  -- MoreEventArguments
    false ∷  -- StatementRest
    true ∷  -- TaskArguments
    true ∷  -- Arguments
    true ∷  -- MoreArguments
    false ∷  -- Expression
    true ∷  -- ConditionalTail
    false ∷  -- Or
    true ∷  -- OrTail
    false ∷  -- And
    true ∷  -- AndTail
    false ∷  -- Equality
    true ∷  -- EqualityTail
    false ∷  -- Relation
    true ∷  -- RelationTail
    false ∷  -- Sum
    true ∷  -- SumTail
    false ∷  -- Product
    true ∷  -- ProductTail
    false ∷  -- Power
    true ∷  -- PowerTail
    false ∷  -- Unary
    false ∷  -- Primary
    true ∷  -- CallArguments
    []

-- the kinds with which a nonterminal can begin
abbrev pub va_begins : List (List ℕ)
va_begins =
    kinds (Module ∷ Nature ∷ Discipline ∷ AttributeOpen ∷ []) ∷  -- Source
    kinds (Module ∷ Nature ∷ Discipline ∷ AttributeOpen ∷ []) ∷  -- TopItem
    kinds (Module ∷ Nature ∷ Discipline ∷ []) ∷  -- TopItemBody
    kinds (AttributeOpen ∷ []) ∷  -- Attributes
    kinds (Comma ∷ []) ∷  -- MoreAttributes
    kinds (Name ∷ []) ∷  -- Attribute
    kinds (Assign ∷ []) ∷  -- AttributeValue
    kinds (Name ∷ System ∷ Number ∷ Text ∷ Inf ∷ LeftParenthesis ∷ Plus ∷ Minus ∷ Not ∷ []) ∷  -- Argument
    kinds (Nature ∷ []) ∷  -- NatureDeclaration
    kinds (Colon ∷ []) ∷  -- ParentNature
    kinds (Semicolon ∷ []) ∷  -- OptionalSemicolon
    kinds (Name ∷ []) ∷  -- NatureItems
    kinds (Discipline ∷ []) ∷  -- DisciplineDeclaration
    kinds (Potential ∷ Flow ∷ Domain ∷ []) ∷  -- DisciplineItems
    kinds (Potential ∷ Flow ∷ Domain ∷ []) ∷  -- DisciplineItem
    kinds (Name ∷ Dot ∷ []) ∷  -- NatureBinding
    kinds (Module ∷ []) ∷  -- ModuleDeclaration
    kinds (LeftParenthesis ∷ []) ∷  -- Ports
    kinds (Name ∷ []) ∷  -- PortList
    kinds (Comma ∷ []) ∷  -- MoreNames
    kinds (Name ∷ Input ∷ Output ∷ Inout ∷ Branch ∷ Parameter ∷ Localparam ∷ Aliasparam ∷ Real ∷ Integer ∷ Analog ∷
    AttributeOpen ∷ []) ∷  -- Items
    kinds (Name ∷ Input ∷ Output ∷ Inout ∷ Branch ∷ Parameter ∷ Localparam ∷ Aliasparam ∷ Real ∷ Integer ∷ Analog ∷
    AttributeOpen ∷ []) ∷  -- Item
    kinds (Name ∷ Input ∷ Output ∷ Inout ∷ Branch ∷ Parameter ∷ Localparam ∷ Aliasparam ∷ Real ∷ Integer ∷ Analog ∷ []) ∷  -- ItemBody
    kinds (Input ∷ Output ∷ Inout ∷ []) ∷  -- Direction
    kinds (Name ∷ Comma ∷ []) ∷  -- DirectionTail
    kinds (Comma ∷ []) ∷  -- SecondNode
    kinds (Real ∷ Integer ∷ []) ∷  -- OptionalType
    kinds (Name ∷ []) ∷  -- ParameterAssignments
    kinds (Comma ∷ []) ∷  -- MoreParameterAssignments
    kinds (Name ∷ []) ∷  -- ParameterAssignment
    kinds (From ∷ Exclude ∷ []) ∷  -- Ranges
    kinds (LeftParenthesis ∷ LeftBracket ∷ []) ∷  -- Interval
    kinds (LeftParenthesis ∷ LeftBracket ∷ []) ∷  -- LowerBracket
    kinds (RightParenthesis ∷ RightBracket ∷ []) ∷  -- UpperBracket
    kinds (Name ∷ System ∷ Number ∷ Inf ∷ LeftParenthesis ∷ LeftBracket ∷ Plus ∷ Minus ∷ Not ∷ []) ∷  -- Exclusion
    kinds (RightParenthesis ∷ Colon ∷ []) ∷  -- ExclusionRest
    kinds (Name ∷ []) ∷  -- Variables
    kinds (Comma ∷ []) ∷  -- MoreVariables
    kinds (Name ∷ []) ∷  -- Variable
    kinds (Assign ∷ []) ∷  -- Initialiser
    kinds (Name ∷ System ∷ Function ∷ Begin ∷ If ∷ Case ∷ For ∷ While ∷ Repeat ∷ Semicolon ∷ At ∷ []) ∷  -- AnalogItem
    kinds (Input ∷ Real ∷ Integer ∷ []) ∷  -- FunctionItems
    kinds (Input ∷ Real ∷ Integer ∷ []) ∷  -- FunctionItem
    kinds (Name ∷ System ∷ Begin ∷ If ∷ Case ∷ For ∷ While ∷ Repeat ∷ Semicolon ∷ At ∷ []) ∷  -- Statement
    kinds (Colon ∷ []) ∷  -- Label
    kinds (Real ∷ Integer ∷ []) ∷  -- Declarations
    kinds (Real ∷ Integer ∷ []) ∷  -- Declaration
    kinds (Name ∷ System ∷ Begin ∷ If ∷ Case ∷ For ∷ While ∷ Repeat ∷ Semicolon ∷ At ∷ []) ∷  -- Statements
    kinds (Else ∷ []) ∷  -- ElseBranch
    kinds (Name ∷ System ∷ Number ∷ Inf ∷ Default ∷ LeftParenthesis ∷ Plus ∷ Minus ∷ Not ∷ []) ∷  -- CaseItems
    kinds (Name ∷ System ∷ Number ∷ Inf ∷ Default ∷ LeftParenthesis ∷ Plus ∷ Minus ∷ Not ∷ []) ∷  -- CaseItem
    kinds (Colon ∷ []) ∷  -- OptionalColon
    kinds (Comma ∷ []) ∷  -- MoreCaseValues
    kinds (InitialStep ∷ FinalStep ∷ []) ∷  -- Event
    kinds (LeftParenthesis ∷ []) ∷  -- EventArguments
    kinds (Comma ∷ []) ∷  -- MoreEventArguments
    kinds (LeftParenthesis ∷ Assign ∷ []) ∷  -- StatementRest
    kinds (LeftParenthesis ∷ []) ∷  -- TaskArguments
    kinds (Name ∷ System ∷ Number ∷ Text ∷ Inf ∷ LeftParenthesis ∷ Plus ∷ Minus ∷ Not ∷ []) ∷  -- Arguments
    kinds (Comma ∷ []) ∷  -- MoreArguments
    kinds (Name ∷ System ∷ Number ∷ Inf ∷ LeftParenthesis ∷ Plus ∷ Minus ∷ Not ∷ []) ∷  -- Expression
    kinds (Question ∷ []) ∷  -- ConditionalTail
    kinds (Name ∷ System ∷ Number ∷ Inf ∷ LeftParenthesis ∷ Plus ∷ Minus ∷ Not ∷ []) ∷  -- Or
    kinds (OrOr ∷ []) ∷  -- OrTail
    kinds (Name ∷ System ∷ Number ∷ Inf ∷ LeftParenthesis ∷ Plus ∷ Minus ∷ Not ∷ []) ∷  -- And
    kinds (AndAnd ∷ []) ∷  -- AndTail
    kinds (Name ∷ System ∷ Number ∷ Inf ∷ LeftParenthesis ∷ Plus ∷ Minus ∷ Not ∷ []) ∷  -- Equality
    kinds (EqualTo ∷ NotEqualTo ∷ []) ∷  -- EqualityTail
    kinds (Name ∷ System ∷ Number ∷ Inf ∷ LeftParenthesis ∷ Plus ∷ Minus ∷ Not ∷ []) ∷  -- Relation
    kinds (Less ∷ LessOrEqual ∷ Greater ∷ GreaterOrEqual ∷ []) ∷  -- RelationTail
    kinds (Name ∷ System ∷ Number ∷ Inf ∷ LeftParenthesis ∷ Plus ∷ Minus ∷ Not ∷ []) ∷  -- Sum
    kinds (Plus ∷ Minus ∷ []) ∷  -- SumTail
    kinds (Name ∷ System ∷ Number ∷ Inf ∷ LeftParenthesis ∷ Plus ∷ Minus ∷ Not ∷ []) ∷  -- Product
    kinds (Times ∷ DividedBy ∷ Modulo ∷ []) ∷  -- ProductTail
    kinds (Name ∷ System ∷ Number ∷ Inf ∷ LeftParenthesis ∷ Plus ∷ Minus ∷ Not ∷ []) ∷  -- Power
    kinds (ToThePower ∷ []) ∷  -- PowerTail
    kinds (Name ∷ System ∷ Number ∷ Inf ∷ LeftParenthesis ∷ Plus ∷ Minus ∷ Not ∷ []) ∷  -- Unary
    kinds (Name ∷ System ∷ Number ∷ Inf ∷ LeftParenthesis ∷ []) ∷  -- Primary
    kinds (LeftParenthesis ∷ []) ∷  -- CallArguments
    []

-- the kinds that can follow a nonterminal
abbrev pub va_follows : List (List ℕ)
va_follows =
    kinds (EndOfText ∷ []) ∷  -- Source
    kinds (EndOfText ∷ Module ∷ Nature ∷ Discipline ∷ AttributeOpen ∷ []) ∷  -- TopItem
    kinds (EndOfText ∷ Module ∷ Nature ∷ Discipline ∷ AttributeOpen ∷ []) ∷  -- TopItemBody
    kinds (Name ∷ Module ∷ Input ∷ Output ∷ Inout ∷ Nature ∷ Discipline ∷ Branch ∷ Parameter ∷ Localparam ∷ Aliasparam ∷ Real ∷ Integer ∷
    Analog ∷ []) ∷  -- Attributes
    kinds (AttributeClose ∷ []) ∷  -- MoreAttributes
    kinds (Comma ∷ AttributeClose ∷ []) ∷  -- Attribute
    kinds (Comma ∷ AttributeClose ∷ []) ∷  -- AttributeValue
    kinds (RightParenthesis ∷ Comma ∷ Semicolon ∷ AttributeClose ∷ []) ∷  -- Argument
    kinds (EndOfText ∷ Module ∷ Nature ∷ Discipline ∷ AttributeOpen ∷ []) ∷  -- NatureDeclaration
    kinds (Name ∷ Endnature ∷ Semicolon ∷ []) ∷  -- ParentNature
    kinds (Name ∷ Endnature ∷ Enddiscipline ∷ Potential ∷ Flow ∷ Domain ∷ []) ∷  -- OptionalSemicolon
    kinds (Endnature ∷ []) ∷  -- NatureItems
    kinds (EndOfText ∷ Module ∷ Nature ∷ Discipline ∷ AttributeOpen ∷ []) ∷  -- DisciplineDeclaration
    kinds (Enddiscipline ∷ []) ∷  -- DisciplineItems
    kinds (Enddiscipline ∷ Potential ∷ Flow ∷ Domain ∷ []) ∷  -- DisciplineItem
    kinds (Enddiscipline ∷ Potential ∷ Flow ∷ Domain ∷ []) ∷  -- NatureBinding
    kinds (EndOfText ∷ Module ∷ Nature ∷ Discipline ∷ AttributeOpen ∷ []) ∷  -- ModuleDeclaration
    kinds (Semicolon ∷ []) ∷  -- Ports
    kinds (RightParenthesis ∷ []) ∷  -- PortList
    kinds (RightParenthesis ∷ Semicolon ∷ []) ∷  -- MoreNames
    kinds (Endmodule ∷ []) ∷  -- Items
    kinds (Name ∷ Endmodule ∷ Input ∷ Output ∷ Inout ∷ Branch ∷ Parameter ∷ Localparam ∷ Aliasparam ∷ Real ∷ Integer ∷ Analog ∷
    AttributeOpen ∷ []) ∷  -- Item
    kinds (Name ∷ Endmodule ∷ Input ∷ Output ∷ Inout ∷ Branch ∷ Parameter ∷ Localparam ∷ Aliasparam ∷ Real ∷ Integer ∷ Analog ∷
    AttributeOpen ∷ []) ∷  -- ItemBody
    kinds (Name ∷ []) ∷  -- Direction
    kinds (Semicolon ∷ []) ∷  -- DirectionTail
    kinds (RightParenthesis ∷ []) ∷  -- SecondNode
    kinds (Name ∷ []) ∷  -- OptionalType
    kinds (Semicolon ∷ []) ∷  -- ParameterAssignments
    kinds (Semicolon ∷ []) ∷  -- MoreParameterAssignments
    kinds (Comma ∷ Semicolon ∷ []) ∷  -- ParameterAssignment
    kinds (Comma ∷ Semicolon ∷ []) ∷  -- Ranges
    kinds (From ∷ Exclude ∷ Comma ∷ Semicolon ∷ []) ∷  -- Interval
    kinds (Name ∷ System ∷ Number ∷ Inf ∷ LeftParenthesis ∷ Plus ∷ Minus ∷ Not ∷ []) ∷  -- LowerBracket
    kinds (From ∷ Exclude ∷ Comma ∷ Semicolon ∷ []) ∷  -- UpperBracket
    kinds (From ∷ Exclude ∷ Comma ∷ Semicolon ∷ []) ∷  -- Exclusion
    kinds (From ∷ Exclude ∷ Comma ∷ Semicolon ∷ []) ∷  -- ExclusionRest
    kinds (Semicolon ∷ []) ∷  -- Variables
    kinds (Semicolon ∷ []) ∷  -- MoreVariables
    kinds (Comma ∷ Semicolon ∷ []) ∷  -- Variable
    kinds (Comma ∷ Semicolon ∷ []) ∷  -- Initialiser
    kinds (Name ∷ Endmodule ∷ Input ∷ Output ∷ Inout ∷ Branch ∷ Parameter ∷ Localparam ∷ Aliasparam ∷ Real ∷ Integer ∷ Analog ∷
    AttributeOpen ∷ []) ∷  -- AnalogItem
    kinds (Name ∷ System ∷ Begin ∷ If ∷ Case ∷ For ∷ While ∷ Repeat ∷ Semicolon ∷ At ∷ []) ∷  -- FunctionItems
    kinds (Name ∷ System ∷ Input ∷ Real ∷ Integer ∷ Begin ∷ If ∷ Case ∷ For ∷ While ∷ Repeat ∷ Semicolon ∷ At ∷ []) ∷  -- FunctionItem
    kinds (Name ∷ System ∷ Number ∷ Endmodule ∷ Input ∷ Output ∷ Inout ∷ Branch ∷ Parameter ∷ Localparam ∷ Aliasparam ∷ Real ∷ Integer ∷
    Inf ∷ Analog ∷ Endfunction ∷ Begin ∷ End ∷ If ∷ Else ∷ Case ∷ Endcase ∷ Default ∷ For ∷ While ∷ Repeat ∷ LeftParenthesis ∷ Semicolon ∷
    Plus ∷ Minus ∷ Not ∷ At ∷ AttributeOpen ∷ []) ∷  -- Statement
    kinds (Name ∷ System ∷ Real ∷ Integer ∷ Begin ∷ End ∷ If ∷ Case ∷ For ∷ While ∷ Repeat ∷ Semicolon ∷ At ∷ []) ∷  -- Label
    kinds (Name ∷ System ∷ Begin ∷ End ∷ If ∷ Case ∷ For ∷ While ∷ Repeat ∷ Semicolon ∷ At ∷ []) ∷  -- Declarations
    kinds (Name ∷ System ∷ Real ∷ Integer ∷ Begin ∷ End ∷ If ∷ Case ∷ For ∷ While ∷ Repeat ∷ Semicolon ∷ At ∷ []) ∷  -- Declaration
    kinds (End ∷ []) ∷  -- Statements
    kinds (Name ∷ System ∷ Number ∷ Endmodule ∷ Input ∷ Output ∷ Inout ∷ Branch ∷ Parameter ∷ Localparam ∷ Aliasparam ∷ Real ∷ Integer ∷
    Inf ∷ Analog ∷ Endfunction ∷ Begin ∷ End ∷ If ∷ Else ∷ Case ∷ Endcase ∷ Default ∷ For ∷ While ∷ Repeat ∷ LeftParenthesis ∷ Semicolon ∷
    Plus ∷ Minus ∷ Not ∷ At ∷ AttributeOpen ∷ []) ∷  -- ElseBranch
    kinds (Endcase ∷ []) ∷  -- CaseItems
    kinds (Name ∷ System ∷ Number ∷ Inf ∷ Endcase ∷ Default ∷ LeftParenthesis ∷ Plus ∷ Minus ∷ Not ∷ []) ∷  -- CaseItem
    kinds (Name ∷ System ∷ Begin ∷ If ∷ Case ∷ For ∷ While ∷ Repeat ∷ Semicolon ∷ At ∷ []) ∷  -- OptionalColon
    kinds (Colon ∷ []) ∷  -- MoreCaseValues
    kinds (RightParenthesis ∷ []) ∷  -- Event
    kinds (RightParenthesis ∷ []) ∷  -- EventArguments
    kinds (RightParenthesis ∷ []) ∷  -- MoreEventArguments
    kinds (Name ∷ System ∷ Number ∷ Endmodule ∷ Input ∷ Output ∷ Inout ∷ Branch ∷ Parameter ∷ Localparam ∷ Aliasparam ∷ Real ∷ Integer ∷
    Inf ∷ Analog ∷ Endfunction ∷ Begin ∷ End ∷ If ∷ Else ∷ Case ∷ Endcase ∷ Default ∷ For ∷ While ∷ Repeat ∷ LeftParenthesis ∷ Semicolon ∷
    Plus ∷ Minus ∷ Not ∷ At ∷ AttributeOpen ∷ []) ∷  -- StatementRest
    kinds (Semicolon ∷ []) ∷  -- TaskArguments
    kinds (RightParenthesis ∷ []) ∷  -- Arguments
    kinds (RightParenthesis ∷ []) ∷  -- MoreArguments
    kinds (From ∷ Exclude ∷ RightParenthesis ∷ RightBracket ∷ Comma ∷ Semicolon ∷ Colon ∷ AttributeClose ∷ []) ∷  -- Expression
    kinds (From ∷ Exclude ∷ RightParenthesis ∷ RightBracket ∷ Comma ∷ Semicolon ∷ Colon ∷ AttributeClose ∷ []) ∷  -- ConditionalTail
    kinds (From ∷ Exclude ∷ RightParenthesis ∷ RightBracket ∷ Comma ∷ Semicolon ∷ Colon ∷ Question ∷ AttributeClose ∷ []) ∷  -- Or
    kinds (From ∷ Exclude ∷ RightParenthesis ∷ RightBracket ∷ Comma ∷ Semicolon ∷ Colon ∷ Question ∷ AttributeClose ∷ []) ∷  -- OrTail
    kinds (From ∷ Exclude ∷ RightParenthesis ∷ RightBracket ∷ Comma ∷ Semicolon ∷ Colon ∷ OrOr ∷ Question ∷ AttributeClose ∷ []) ∷  -- And
    kinds (From ∷ Exclude ∷ RightParenthesis ∷ RightBracket ∷ Comma ∷ Semicolon ∷ Colon ∷ OrOr ∷ Question ∷
    AttributeClose ∷ []) ∷  -- AndTail
    kinds (From ∷ Exclude ∷ RightParenthesis ∷ RightBracket ∷ Comma ∷ Semicolon ∷ Colon ∷ AndAnd ∷ OrOr ∷ Question ∷
    AttributeClose ∷ []) ∷  -- Equality
    kinds (From ∷ Exclude ∷ RightParenthesis ∷ RightBracket ∷ Comma ∷ Semicolon ∷ Colon ∷ AndAnd ∷ OrOr ∷ Question ∷
    AttributeClose ∷ []) ∷  -- EqualityTail
    kinds (From ∷ Exclude ∷ RightParenthesis ∷ RightBracket ∷ Comma ∷ Semicolon ∷ Colon ∷ EqualTo ∷ NotEqualTo ∷ AndAnd ∷ OrOr ∷ Question ∷
    AttributeClose ∷ []) ∷  -- Relation
    kinds (From ∷ Exclude ∷ RightParenthesis ∷ RightBracket ∷ Comma ∷ Semicolon ∷ Colon ∷ EqualTo ∷ NotEqualTo ∷ AndAnd ∷ OrOr ∷ Question ∷
    AttributeClose ∷ []) ∷  -- RelationTail
    kinds (From ∷ Exclude ∷ RightParenthesis ∷ RightBracket ∷ Comma ∷ Semicolon ∷ Colon ∷ EqualTo ∷ NotEqualTo ∷ Less ∷ LessOrEqual ∷
    Greater ∷ GreaterOrEqual ∷ AndAnd ∷ OrOr ∷ Question ∷ AttributeClose ∷ []) ∷  -- Sum
    kinds (From ∷ Exclude ∷ RightParenthesis ∷ RightBracket ∷ Comma ∷ Semicolon ∷ Colon ∷ EqualTo ∷ NotEqualTo ∷ Less ∷ LessOrEqual ∷
    Greater ∷ GreaterOrEqual ∷ AndAnd ∷ OrOr ∷ Question ∷ AttributeClose ∷ []) ∷  -- SumTail
    kinds (From ∷ Exclude ∷ RightParenthesis ∷ RightBracket ∷ Comma ∷ Semicolon ∷ Colon ∷ EqualTo ∷ NotEqualTo ∷ Less ∷ LessOrEqual ∷
    Greater ∷ GreaterOrEqual ∷ Plus ∷ Minus ∷ AndAnd ∷ OrOr ∷ Question ∷ AttributeClose ∷ []) ∷  -- Product
    kinds (From ∷ Exclude ∷ RightParenthesis ∷ RightBracket ∷ Comma ∷ Semicolon ∷ Colon ∷ EqualTo ∷ NotEqualTo ∷ Less ∷ LessOrEqual ∷
    Greater ∷ GreaterOrEqual ∷ Plus ∷ Minus ∷ AndAnd ∷ OrOr ∷ Question ∷ AttributeClose ∷ []) ∷  -- ProductTail
    kinds (From ∷ Exclude ∷ RightParenthesis ∷ RightBracket ∷ Comma ∷ Semicolon ∷ Colon ∷ EqualTo ∷ NotEqualTo ∷ Less ∷ LessOrEqual ∷
    Greater ∷ GreaterOrEqual ∷ Plus ∷ Minus ∷ Times ∷ DividedBy ∷ Modulo ∷ AndAnd ∷ OrOr ∷ Question ∷ AttributeClose ∷ []) ∷  -- Power
    kinds (From ∷ Exclude ∷ RightParenthesis ∷ RightBracket ∷ Comma ∷ Semicolon ∷ Colon ∷ EqualTo ∷ NotEqualTo ∷ Less ∷ LessOrEqual ∷
    Greater ∷ GreaterOrEqual ∷ Plus ∷ Minus ∷ Times ∷ DividedBy ∷ Modulo ∷ AndAnd ∷ OrOr ∷ Question ∷ AttributeClose ∷ []) ∷  -- PowerTail
    kinds (From ∷ Exclude ∷ RightParenthesis ∷ RightBracket ∷ Comma ∷ Semicolon ∷ Colon ∷ EqualTo ∷ NotEqualTo ∷ Less ∷ LessOrEqual ∷
    Greater ∷ GreaterOrEqual ∷ Plus ∷ Minus ∷ Times ∷ ToThePower ∷ DividedBy ∷ Modulo ∷ AndAnd ∷ OrOr ∷ Question ∷
    AttributeClose ∷ []) ∷  -- Unary
    kinds (From ∷ Exclude ∷ RightParenthesis ∷ RightBracket ∷ Comma ∷ Semicolon ∷ Colon ∷ EqualTo ∷ NotEqualTo ∷ Less ∷ LessOrEqual ∷
    Greater ∷ GreaterOrEqual ∷ Plus ∷ Minus ∷ Times ∷ ToThePower ∷ DividedBy ∷ Modulo ∷ AndAnd ∷ OrOr ∷ Question ∷
    AttributeClose ∷ []) ∷  -- Primary
    kinds (From ∷ Exclude ∷ RightParenthesis ∷ RightBracket ∷ Comma ∷ Semicolon ∷ Colon ∷ EqualTo ∷ NotEqualTo ∷ Less ∷ LessOrEqual ∷
    Greater ∷ GreaterOrEqual ∷ Plus ∷ Minus ∷ Times ∷ ToThePower ∷ DividedBy ∷ Modulo ∷ AndAnd ∷ OrOr ∷ Question ∷
    AttributeClose ∷ []) ∷  -- CallArguments
    []
