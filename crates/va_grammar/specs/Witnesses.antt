-- What the evidence is made of, for each nonterminal in the order of their numbers.
-- Made by `tools/grammar_tables` from `tools/grammar/verilog_a.txt`; edit that file.
use Rattle.std.specs.Prelude.{ℕ, List, [], ◌∷◌}

-- a number that falls from a row's left side to what the row may begin with
abbrev pub va_ranks : List ℕ
va_ranks =
    3 ∷ 2 ∷ 1 ∷ 0 ∷ 0 ∷ 0 ∷ 0 ∷ 10 ∷ 0 ∷ 0 ∷ 0 ∷ 0 ∷ 0 ∷ 1 ∷ 0 ∷ 0 ∷ 0 ∷ 0 ∷ 0 ∷ 0 ∷ 3 ∷ 2 ∷ 1 ∷ 0 ∷ 1 ∷ 0 ∷ 0 ∷ 1 ∷ 0 ∷ 0 ∷ 0 ∷ 1 ∷ 0 ∷ 0 ∷
    10 ∷ 0 ∷ 1 ∷ 0 ∷ 0 ∷ 0 ∷ 1 ∷ 1 ∷ 0 ∷ 0 ∷ 0 ∷ 1 ∷ 0 ∷ 1 ∷ 0 ∷ 11 ∷ 10 ∷ 0 ∷ 0 ∷ 0 ∷ 0 ∷ 0 ∷ 0 ∷ 0 ∷ 11 ∷ 0 ∷ 9 ∷ 0 ∷ 8 ∷ 0 ∷ 7 ∷ 0 ∷ 6 ∷
    0 ∷ 5 ∷ 0 ∷ 4 ∷ 0 ∷ 3 ∷ 0 ∷ 2 ∷ 0 ∷ 1 ∷ 0 ∷ 0 ∷ []

-- the row of a tree that is the least deep
abbrev pub smallest_rows : List ℕ
smallest_rows =
    1 ∷ 2 ∷ 3 ∷ 7 ∷ 9 ∷ 10 ∷ 12 ∷ 13 ∷ 15 ∷ 16 ∷ 18 ∷ 21 ∷ 22 ∷ 24 ∷ 27 ∷ 28 ∷ 30 ∷ 32 ∷ 34 ∷ 36 ∷ 38 ∷ 39 ∷ 45 ∷ 49 ∷ 52 ∷ 54 ∷ 56 ∷ 59 ∷
    61 ∷ 62 ∷ 65 ∷ 66 ∷ 67 ∷ 69 ∷ 71 ∷ 75 ∷ 76 ∷ 78 ∷ 79 ∷ 81 ∷ 82 ∷ 85 ∷ 86 ∷ 98 ∷ 99 ∷ 102 ∷ 103 ∷ 106 ∷ 108 ∷ 110 ∷ 111 ∷ 113 ∷ 116 ∷
    117 ∷ 120 ∷ 122 ∷ 123 ∷ 126 ∷ 128 ∷ 130 ∷ 131 ∷ 133 ∷ 134 ∷ 136 ∷ 137 ∷ 139 ∷ 140 ∷ 143 ∷ 144 ∷ 149 ∷ 150 ∷ 153 ∷ 154 ∷ 158 ∷ 159 ∷
    161 ∷ 165 ∷ 166 ∷ 172 ∷ []

-- a depth that no such tree exceeds
abbrev pub smallest_depth : ℕ
smallest_depth = 12

-- the kinds that come next where what follows are such trees
abbrev pub va_next : List (List ℕ)
va_next =
    (0 ∷ []) ∷  -- Source
    (0 ∷ []) ∷  -- TopItem
    (0 ∷ []) ∷  -- TopItemBody
    (10 ∷ 20 ∷ []) ∷  -- Attributes
    (69 ∷ []) ∷  -- MoreAttributes
    (69 ∷ []) ∷  -- Attribute
    (69 ∷ []) ∷  -- AttributeValue
    (42 ∷ 46 ∷ 69 ∷ []) ∷  -- Argument
    (0 ∷ []) ∷  -- NatureDeclaration
    (46 ∷ []) ∷  -- ParentNature
    (11 ∷ 13 ∷ []) ∷  -- OptionalSemicolon
    (11 ∷ []) ∷  -- NatureItems
    (0 ∷ []) ∷  -- DisciplineDeclaration
    (13 ∷ []) ∷  -- DisciplineItems
    (13 ∷ []) ∷  -- DisciplineItem
    (13 ∷ []) ∷  -- NatureBinding
    (0 ∷ []) ∷  -- ModuleDeclaration
    (46 ∷ []) ∷  -- Ports
    (42 ∷ []) ∷  -- PortList
    (42 ∷ 46 ∷ []) ∷  -- MoreNames
    (6 ∷ []) ∷  -- Items
    (6 ∷ []) ∷  -- Item
    (6 ∷ []) ∷  -- ItemBody
    (1 ∷ []) ∷  -- Direction
    (46 ∷ []) ∷  -- DirectionTail
    (42 ∷ []) ∷  -- SecondNode
    (1 ∷ []) ∷  -- OptionalType
    (46 ∷ []) ∷  -- ParameterAssignments
    (46 ∷ []) ∷  -- MoreParameterAssignments
    (46 ∷ []) ∷  -- ParameterAssignment
    (46 ∷ []) ∷  -- Ranges
    (46 ∷ []) ∷  -- Interval
    (3 ∷ []) ∷  -- LowerBracket
    (46 ∷ []) ∷  -- UpperBracket
    (46 ∷ []) ∷  -- Exclusion
    (46 ∷ []) ∷  -- ExclusionRest
    (46 ∷ []) ∷  -- Variables
    (46 ∷ []) ∷  -- MoreVariables
    (46 ∷ []) ∷  -- Variable
    (46 ∷ []) ∷  -- Initialiser
    (6 ∷ []) ∷  -- AnalogItem
    (46 ∷ []) ∷  -- FunctionItems
    (46 ∷ []) ∷  -- FunctionItem
    (6 ∷ 28 ∷ 30 ∷ 34 ∷ []) ∷  -- Statement
    (30 ∷ []) ∷  -- Label
    (30 ∷ []) ∷  -- Declarations
    (30 ∷ []) ∷  -- Declaration
    (30 ∷ []) ∷  -- Statements
    (6 ∷ 28 ∷ 30 ∷ 34 ∷ []) ∷  -- ElseBranch
    (34 ∷ []) ∷  -- CaseItems
    (34 ∷ []) ∷  -- CaseItem
    (46 ∷ []) ∷  -- OptionalColon
    (47 ∷ []) ∷  -- MoreCaseValues
    (42 ∷ []) ∷  -- Event
    (42 ∷ []) ∷  -- EventArguments
    (42 ∷ []) ∷  -- MoreEventArguments
    (6 ∷ 28 ∷ 30 ∷ 34 ∷ []) ∷  -- StatementRest
    (46 ∷ []) ∷  -- TaskArguments
    (42 ∷ []) ∷  -- Arguments
    (42 ∷ []) ∷  -- MoreArguments
    (42 ∷ 44 ∷ 46 ∷ 47 ∷ 69 ∷ []) ∷  -- Expression
    (42 ∷ 44 ∷ 46 ∷ 47 ∷ 69 ∷ []) ∷  -- ConditionalTail
    (42 ∷ 44 ∷ 46 ∷ 47 ∷ 69 ∷ []) ∷  -- Or
    (42 ∷ 44 ∷ 46 ∷ 47 ∷ 69 ∷ []) ∷  -- OrTail
    (42 ∷ 44 ∷ 46 ∷ 47 ∷ 69 ∷ []) ∷  -- And
    (42 ∷ 44 ∷ 46 ∷ 47 ∷ 69 ∷ []) ∷  -- AndTail
    (42 ∷ 44 ∷ 46 ∷ 47 ∷ 69 ∷ []) ∷  -- Equality
    (42 ∷ 44 ∷ 46 ∷ 47 ∷ 69 ∷ []) ∷  -- EqualityTail
    (42 ∷ 44 ∷ 46 ∷ 47 ∷ 69 ∷ []) ∷  -- Relation
    (42 ∷ 44 ∷ 46 ∷ 47 ∷ 69 ∷ []) ∷  -- RelationTail
    (42 ∷ 44 ∷ 46 ∷ 47 ∷ 69 ∷ []) ∷  -- Sum
    (42 ∷ 44 ∷ 46 ∷ 47 ∷ 69 ∷ []) ∷  -- SumTail
    (42 ∷ 44 ∷ 46 ∷ 47 ∷ 69 ∷ []) ∷  -- Product
    (42 ∷ 44 ∷ 46 ∷ 47 ∷ 69 ∷ []) ∷  -- ProductTail
    (42 ∷ 44 ∷ 46 ∷ 47 ∷ 69 ∷ []) ∷  -- Power
    (42 ∷ 44 ∷ 46 ∷ 47 ∷ 69 ∷ []) ∷  -- PowerTail
    (42 ∷ 44 ∷ 46 ∷ 47 ∷ 69 ∷ []) ∷  -- Unary
    (42 ∷ 44 ∷ 46 ∷ 47 ∷ 69 ∷ []) ∷  -- Primary
    (42 ∷ 44 ∷ 46 ∷ 47 ∷ 69 ∷ []) ∷  -- CallArguments
    []

-- the row of an `else` and its statement
abbrev pub else_row : ℕ
else_row = 107
