-- The rows of the grammar of Verilog-A, as they are written: the syntax of the reference manual, left-factored so that the next
-- token tells the row. Binary operators associate to the left: a tail lists the operators and operands behind the first.
-- Made by `tools/grammar_tables` from `tools/grammar/verilog_a.txt`; edit that file.
use Rattle.std.specs.Prelude.{List, [], ◌∷◌}
use Rattle.predict.specs.declared.symbol.Symbol.{Symbol}
use Rattle.predict.specs.declared.symbol.Symbol.TheVariants.{Kind, Left}
use Rattle.predict.specs.FirstFit.{Written}
use Rattle.va_grammar.specs.Terminals.{terminal_number}
use Rattle.va_grammar.specs.Nonterminals.{nonterminal_number}
use Rattle.va_grammar.specs.declared.terminal.Terminal.{Terminal}
use Rattle.va_grammar.specs.declared.terminal.Terminal.TheVariants.{Name, System, Number, Text, Module, Endmodule, Input, Output, Inout, Nature, Endnature, Discipline, Enddiscipline, Potential, Flow, Domain, Branch, Parameter, Localparam, Aliasparam, Real, Integer, From, Exclude, Inf, Analog, Function, Endfunction, Begin, End, If, Else, Case, Endcase, Default, For, While, Repeat, InitialStep, FinalStep, LeftParenthesis, RightParenthesis, LeftBracket, RightBracket, Comma, Semicolon, Colon, Dot, Assign, EqualTo, NotEqualTo, Less, LessOrEqual, Contribute, Greater, GreaterOrEqual, Plus, Minus, Times, ToThePower, DividedBy, Modulo, Not, AndAnd, OrOr, Question, At, AttributeOpen, AttributeClose}
use Rattle.va_grammar.specs.declared.nonterminal.Nonterminal.{Nonterminal}
use Rattle.va_grammar.specs.declared.nonterminal.Nonterminal.TheVariants.{Source, TopItem, TopItemBody, Attributes, MoreAttributes, Attribute, AttributeValue, Argument, NatureDeclaration, ParentNature, OptionalSemicolon, NatureItems, DisciplineDeclaration, DisciplineItems, DisciplineItem, NatureBinding, ModuleDeclaration, Ports, PortList, MoreNames, Items, Item, ItemBody, Direction, DirectionTail, SecondNode, OptionalType, ParameterAssignments, MoreParameterAssignments, ParameterAssignment, Ranges, Interval, LowerBracket, UpperBracket, Exclusion, ExclusionRest, Variables, MoreVariables, Variable, Initialiser, AnalogItem, FunctionItems, FunctionItem, Statement, Label, Declarations, Declaration, Statements, ElseBranch, CaseItems, CaseItem, OptionalColon, MoreCaseValues, Event, EventArguments, MoreEventArguments, StatementRest, TaskArguments, Arguments, MoreArguments, Expression, ConditionalTail, Or, OrTail, And, AndTail, Equality, EqualityTail, Relation, RelationTail, Sum, SumTail, Product, ProductTail, Power, PowerTail, Unary, Primary, CallArguments}

-- a token of this kind
abbrev pub token : Terminal → Symbol
token terminal = Kind (terminal_number terminal)

-- a nonterminal among the symbols of a row
abbrev pub rule : Nonterminal → Symbol
rule nonterminal = Left (nonterminal_number nonterminal)

-- a row of this nonterminal
abbrev pub row : Nonterminal → List Symbol → Written
row nonterminal symbols = record { left = nonterminal_number nonterminal; symbols = symbols }

-- The rows. Where two fit, the one that stands first is taken.
abbrev pub rows : List Written
rows =
    row Source (rule TopItem ∷ rule Source ∷ []) ∷
    row Source [] ∷
    row TopItem (rule Attributes ∷ rule TopItemBody ∷ []) ∷
    row TopItemBody (rule NatureDeclaration ∷ []) ∷
    row TopItemBody (rule DisciplineDeclaration ∷ []) ∷
    row TopItemBody (rule ModuleDeclaration ∷ []) ∷
    row Attributes (token AttributeOpen ∷ rule Attribute ∷ rule MoreAttributes ∷ token AttributeClose ∷ rule Attributes ∷ []) ∷
    row Attributes [] ∷
    row MoreAttributes (token Comma ∷ rule Attribute ∷ rule MoreAttributes ∷ []) ∷
    row MoreAttributes [] ∷
    row Attribute (token Name ∷ rule AttributeValue ∷ []) ∷
    row AttributeValue (token Assign ∷ rule Argument ∷ []) ∷
    row AttributeValue [] ∷
    row Argument (token Text ∷ []) ∷
    row Argument (rule Expression ∷ []) ∷
    row NatureDeclaration (token Nature ∷ token Name ∷ rule ParentNature ∷ rule OptionalSemicolon ∷ rule NatureItems ∷
    token Endnature ∷ []) ∷
    row ParentNature (token Colon ∷ token Name ∷ []) ∷
    row ParentNature [] ∷
    row OptionalSemicolon (token Semicolon ∷ []) ∷
    row OptionalSemicolon [] ∷
    row NatureItems (token Name ∷ token Assign ∷ rule Argument ∷ token Semicolon ∷ rule NatureItems ∷ []) ∷
    row NatureItems [] ∷
    row DisciplineDeclaration (token Discipline ∷ token Name ∷ rule OptionalSemicolon ∷ rule DisciplineItems ∷ token Enddiscipline ∷ []) ∷
    row DisciplineItems (rule DisciplineItem ∷ rule DisciplineItems ∷ []) ∷
    row DisciplineItems [] ∷
    row DisciplineItem (token Potential ∷ rule NatureBinding ∷ []) ∷
    row DisciplineItem (token Flow ∷ rule NatureBinding ∷ []) ∷
    row DisciplineItem (token Domain ∷ token Name ∷ token Semicolon ∷ []) ∷
    row NatureBinding (token Name ∷ token Semicolon ∷ []) ∷
    row NatureBinding (token Dot ∷ token Name ∷ token Assign ∷ rule Argument ∷ token Semicolon ∷ []) ∷
    row ModuleDeclaration (token Module ∷ token Name ∷ rule Ports ∷ token Semicolon ∷ rule Items ∷ token Endmodule ∷ []) ∷
    row Ports (token LeftParenthesis ∷ rule PortList ∷ token RightParenthesis ∷ []) ∷
    row Ports [] ∷
    row PortList (token Name ∷ rule MoreNames ∷ []) ∷
    row PortList [] ∷
    row MoreNames (token Comma ∷ token Name ∷ rule MoreNames ∷ []) ∷
    row MoreNames [] ∷
    row Items (rule Item ∷ rule Items ∷ []) ∷
    row Items [] ∷
    row Item (rule Attributes ∷ rule ItemBody ∷ []) ∷
    row ItemBody (rule Direction ∷ token Name ∷ rule DirectionTail ∷ token Semicolon ∷ []) ∷
    row ItemBody (token Name ∷ token Name ∷ rule MoreNames ∷ token Semicolon ∷ []) ∷
    row ItemBody (token Branch ∷ token LeftParenthesis ∷ token Name ∷ rule SecondNode ∷ token RightParenthesis ∷ token Name ∷
    rule MoreNames ∷ token Semicolon ∷ []) ∷
    row ItemBody (token Parameter ∷ rule OptionalType ∷ rule ParameterAssignments ∷ token Semicolon ∷ []) ∷
    row ItemBody (token Localparam ∷ rule OptionalType ∷ rule ParameterAssignments ∷ token Semicolon ∷ []) ∷
    row ItemBody (token Aliasparam ∷ token Name ∷ token Assign ∷ token Name ∷ token Semicolon ∷ []) ∷
    row ItemBody (token Real ∷ rule Variables ∷ token Semicolon ∷ []) ∷
    row ItemBody (token Integer ∷ rule Variables ∷ token Semicolon ∷ []) ∷
    row ItemBody (token Analog ∷ rule AnalogItem ∷ []) ∷
    row Direction (token Input ∷ []) ∷
    row Direction (token Output ∷ []) ∷
    row Direction (token Inout ∷ []) ∷
    row DirectionTail (token Name ∷ rule MoreNames ∷ []) ∷
    row DirectionTail (rule MoreNames ∷ []) ∷
    row SecondNode (token Comma ∷ token Name ∷ []) ∷
    row SecondNode [] ∷
    row OptionalType (token Real ∷ []) ∷
    row OptionalType (token Integer ∷ []) ∷
    row OptionalType [] ∷
    row ParameterAssignments (rule ParameterAssignment ∷ rule MoreParameterAssignments ∷ []) ∷
    row MoreParameterAssignments (token Comma ∷ rule ParameterAssignment ∷ rule MoreParameterAssignments ∷ []) ∷
    row MoreParameterAssignments [] ∷
    row ParameterAssignment (token Name ∷ token Assign ∷ rule Expression ∷ rule Ranges ∷ []) ∷
    row Ranges (token From ∷ rule Interval ∷ rule Ranges ∷ []) ∷
    row Ranges (token Exclude ∷ rule Exclusion ∷ rule Ranges ∷ []) ∷
    row Ranges [] ∷
    row Interval (rule LowerBracket ∷ rule Expression ∷ token Colon ∷ rule Expression ∷ rule UpperBracket ∷ []) ∷
    row LowerBracket (token LeftBracket ∷ []) ∷
    row LowerBracket (token LeftParenthesis ∷ []) ∷
    row UpperBracket (token RightBracket ∷ []) ∷
    row UpperBracket (token RightParenthesis ∷ []) ∷
    row Exclusion (token LeftBracket ∷ rule Expression ∷ token Colon ∷ rule Expression ∷ rule UpperBracket ∷ []) ∷
    row Exclusion (token LeftParenthesis ∷ rule Expression ∷ rule ExclusionRest ∷ []) ∷
    row Exclusion (rule Expression ∷ []) ∷
    row ExclusionRest (token Colon ∷ rule Expression ∷ rule UpperBracket ∷ []) ∷
    row ExclusionRest (token RightParenthesis ∷ []) ∷
    row Variables (rule Variable ∷ rule MoreVariables ∷ []) ∷
    row MoreVariables (token Comma ∷ rule Variable ∷ rule MoreVariables ∷ []) ∷
    row MoreVariables [] ∷
    row Variable (token Name ∷ rule Initialiser ∷ []) ∷
    row Initialiser (token Assign ∷ rule Expression ∷ []) ∷
    row Initialiser [] ∷
    row AnalogItem (token Function ∷ rule OptionalType ∷ token Name ∷ token Semicolon ∷ rule FunctionItems ∷ rule Statement ∷
    token Endfunction ∷ []) ∷
    row AnalogItem (rule Statement ∷ []) ∷
    row FunctionItems (rule FunctionItem ∷ rule FunctionItems ∷ []) ∷
    row FunctionItems [] ∷
    row FunctionItem (token Input ∷ token Name ∷ rule MoreNames ∷ token Semicolon ∷ []) ∷
    row FunctionItem (token Real ∷ token Name ∷ rule MoreNames ∷ token Semicolon ∷ []) ∷
    row FunctionItem (token Integer ∷ token Name ∷ rule MoreNames ∷ token Semicolon ∷ []) ∷
    row Statement (token Begin ∷ rule Label ∷ rule Declarations ∷ rule Statements ∷ token End ∷ []) ∷
    row Statement (token If ∷ token LeftParenthesis ∷ rule Expression ∷ token RightParenthesis ∷ rule Statement ∷ rule ElseBranch ∷ []) ∷
    row Statement (token Case ∷ token LeftParenthesis ∷ rule Expression ∷ token RightParenthesis ∷ rule CaseItems ∷ token Endcase ∷ []) ∷
    row Statement (token For ∷ token LeftParenthesis ∷ token Name ∷ token Assign ∷ rule Expression ∷ token Semicolon ∷ rule Expression ∷
    token Semicolon ∷ token Name ∷ token Assign ∷ rule Expression ∷ token RightParenthesis ∷ rule Statement ∷ []) ∷
    row Statement (token While ∷ token LeftParenthesis ∷ rule Expression ∷ token RightParenthesis ∷ rule Statement ∷ []) ∷
    row Statement (token Repeat ∷ token LeftParenthesis ∷ rule Expression ∷ token RightParenthesis ∷ rule Statement ∷ []) ∷
    row Statement (token At ∷ token LeftParenthesis ∷ rule Event ∷ token RightParenthesis ∷ rule Statement ∷ []) ∷
    row Statement (token Name ∷ rule StatementRest ∷ []) ∷
    row Statement (token System ∷ rule TaskArguments ∷ token Semicolon ∷ []) ∷
    row Statement (token Semicolon ∷ []) ∷
    row Label (token Colon ∷ token Name ∷ []) ∷
    row Label [] ∷
    row Declarations (rule Declaration ∷ rule Declarations ∷ []) ∷
    row Declarations [] ∷
    row Declaration (token Real ∷ rule Variables ∷ token Semicolon ∷ []) ∷
    row Declaration (token Integer ∷ rule Variables ∷ token Semicolon ∷ []) ∷
    row Statements (rule Statement ∷ rule Statements ∷ []) ∷
    row Statements [] ∷
    row ElseBranch (token Else ∷ rule Statement ∷ []) ∷
    row ElseBranch [] ∷
    row CaseItems (rule CaseItem ∷ rule CaseItems ∷ []) ∷
    row CaseItems [] ∷
    row CaseItem (token Default ∷ rule OptionalColon ∷ rule Statement ∷ []) ∷
    row CaseItem (rule Expression ∷ rule MoreCaseValues ∷ token Colon ∷ rule Statement ∷ []) ∷
    row OptionalColon (token Colon ∷ []) ∷
    row OptionalColon [] ∷
    row MoreCaseValues (token Comma ∷ rule Expression ∷ rule MoreCaseValues ∷ []) ∷
    row MoreCaseValues [] ∷
    row Event (token InitialStep ∷ rule EventArguments ∷ []) ∷
    row Event (token FinalStep ∷ rule EventArguments ∷ []) ∷
    row EventArguments (token LeftParenthesis ∷ token Text ∷ rule MoreEventArguments ∷ token RightParenthesis ∷ []) ∷
    row EventArguments [] ∷
    row MoreEventArguments (token Comma ∷ token Text ∷ rule MoreEventArguments ∷ []) ∷
    row MoreEventArguments [] ∷
    row StatementRest (token Assign ∷ rule Expression ∷ token Semicolon ∷ []) ∷
    row StatementRest (token LeftParenthesis ∷ token Name ∷ rule SecondNode ∷ token RightParenthesis ∷ token Contribute ∷ rule Expression ∷
    token Semicolon ∷ []) ∷
    row TaskArguments (token LeftParenthesis ∷ rule Arguments ∷ token RightParenthesis ∷ []) ∷
    row TaskArguments [] ∷
    row Arguments (rule Argument ∷ rule MoreArguments ∷ []) ∷
    row Arguments [] ∷
    row MoreArguments (token Comma ∷ rule Argument ∷ rule MoreArguments ∷ []) ∷
    row MoreArguments [] ∷
    row Expression (rule Or ∷ rule ConditionalTail ∷ []) ∷
    row ConditionalTail (token Question ∷ rule Expression ∷ token Colon ∷ rule Expression ∷ []) ∷
    row ConditionalTail [] ∷
    row Or (rule And ∷ rule OrTail ∷ []) ∷
    row OrTail (token OrOr ∷ rule And ∷ rule OrTail ∷ []) ∷
    row OrTail [] ∷
    row And (rule Equality ∷ rule AndTail ∷ []) ∷
    row AndTail (token AndAnd ∷ rule Equality ∷ rule AndTail ∷ []) ∷
    row AndTail [] ∷
    row Equality (rule Relation ∷ rule EqualityTail ∷ []) ∷
    row EqualityTail (token EqualTo ∷ rule Relation ∷ rule EqualityTail ∷ []) ∷
    row EqualityTail (token NotEqualTo ∷ rule Relation ∷ rule EqualityTail ∷ []) ∷
    row EqualityTail [] ∷
    row Relation (rule Sum ∷ rule RelationTail ∷ []) ∷
    row RelationTail (token Less ∷ rule Sum ∷ rule RelationTail ∷ []) ∷
    row RelationTail (token LessOrEqual ∷ rule Sum ∷ rule RelationTail ∷ []) ∷
    row RelationTail (token Greater ∷ rule Sum ∷ rule RelationTail ∷ []) ∷
    row RelationTail (token GreaterOrEqual ∷ rule Sum ∷ rule RelationTail ∷ []) ∷
    row RelationTail [] ∷
    row Sum (rule Product ∷ rule SumTail ∷ []) ∷
    row SumTail (token Plus ∷ rule Product ∷ rule SumTail ∷ []) ∷
    row SumTail (token Minus ∷ rule Product ∷ rule SumTail ∷ []) ∷
    row SumTail [] ∷
    row Product (rule Power ∷ rule ProductTail ∷ []) ∷
    row ProductTail (token Times ∷ rule Power ∷ rule ProductTail ∷ []) ∷
    row ProductTail (token DividedBy ∷ rule Power ∷ rule ProductTail ∷ []) ∷
    row ProductTail (token Modulo ∷ rule Power ∷ rule ProductTail ∷ []) ∷
    row ProductTail [] ∷
    row Power (rule Unary ∷ rule PowerTail ∷ []) ∷
    row PowerTail (token ToThePower ∷ rule Unary ∷ rule PowerTail ∷ []) ∷
    row PowerTail [] ∷
    row Unary (token Plus ∷ rule Unary ∷ []) ∷
    row Unary (token Minus ∷ rule Unary ∷ []) ∷
    row Unary (token Not ∷ rule Unary ∷ []) ∷
    row Unary (rule Primary ∷ []) ∷
    row Primary (token Number ∷ []) ∷
    row Primary (token Inf ∷ []) ∷
    row Primary (token LeftParenthesis ∷ rule Expression ∷ token RightParenthesis ∷ []) ∷
    row Primary (token Name ∷ rule CallArguments ∷ []) ∷
    row Primary (token System ∷ rule CallArguments ∷ []) ∷
    row CallArguments (token LeftParenthesis ∷ rule Arguments ∷ token RightParenthesis ∷ []) ∷
    row CallArguments [] ∷
    []
