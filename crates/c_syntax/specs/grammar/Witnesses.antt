-- What the evidence is made of, for each nonterminal in the order of their numbers.
-- Made by `tools/grammar_tables` from `crates/c_syntax/specs/grammar/Names.antt` and `Rows.antt`; edit those.
use Rattle.std.specs.Prelude.{ℕ, List, [], ◌∷◌, codes}
use Rattle.c_syntax.specs.grammar.KindSets.{kinds}

-- a number that falls from a row's left side to what the row may begin with
abbrev pub c_ranks : List ℕ
c_ranks =
    0 ∷ 0 ∷ 2 ∷ 1 ∷ 0 ∷ 1 ∷ 0 ∷ 0 ∷ 1 ∷ 1 ∷ 0 ∷ 0 ∷ 0 ∷ 0 ∷ 0 ∷ 0 ∷ 0 ∷ 0 ∷ 0 ∷ 0 ∷ 0 ∷ 0 ∷ 2 ∷ 1 ∷ 0 ∷ 2 ∷ 1 ∷ 2 ∷ 0 ∷ 0 ∷ 2 ∷ 0 ∷ 1 ∷ 0 ∷
    1 ∷ 0 ∷ 0 ∷ 0 ∷ 1 ∷ 0 ∷ 0 ∷ 0 ∷ 0 ∷ 0 ∷ 0 ∷ 0 ∷ 1 ∷ 0 ∷ 0 ∷ 0 ∷ 0 ∷ 0 ∷ 0 ∷ 0 ∷ 0 ∷ 0 ∷ 0 ∷ 0 ∷ 1 ∷ 0 ∷ 0 ∷ 0 ∷ 0 ∷ 1 ∷ 0 ∷ 0 ∷ 0 ∷ 0 ∷
    0 ∷ 0 ∷ 0 ∷ 0 ∷ []

-- the row of a tree that is the least deep
abbrev pub smallest_rows : List ℕ
smallest_rows =
    0 ∷ 1 ∷ 3 ∷ 4 ∷ 5 ∷ 7 ∷ 8 ∷ 10 ∷ 12 ∷ 14 ∷ 16 ∷ 18 ∷ 19 ∷ 22 ∷ 23 ∷ 25 ∷ 27 ∷ 28 ∷ 29 ∷ 30 ∷ 31 ∷ 32 ∷ 34 ∷ 36 ∷ 44 ∷ 45 ∷ 47 ∷ 49 ∷
    54 ∷ 56 ∷ 59 ∷ 61 ∷ 63 ∷ 64 ∷ 75 ∷ 81 ∷ 82 ∷ 85 ∷ 89 ∷ 90 ∷ 91 ∷ 92 ∷ 93 ∷ 94 ∷ 95 ∷ 96 ∷ 98 ∷ 99 ∷ 101 ∷ 103 ∷ 106 ∷ 110 ∷ 111 ∷ 112 ∷
    114 ∷ 115 ∷ 117 ∷ 118 ∷ 120 ∷ 122 ∷ 124 ∷ 125 ∷ 127 ∷ 129 ∷ 130 ∷ 132 ∷ 134 ∷ 135 ∷ 137 ∷ 140 ∷ 141 ∷ 143 ∷ []

-- a depth that no such tree exceeds
abbrev pub smallest_depth : ℕ
smallest_depth = 4

-- the kinds that come next where what follows are such trees
abbrev pub c_next : List (List ℕ)
c_next =
    kinds (codes "<end>") ∷  -- File
    kinds (codes "const") ∷  -- Help
    kinds (codes "const") ∷  -- Modules
    kinds (codes "const") ∷  -- Module
    kinds (codes "static") ∷  -- Structs
    kinds (codes "}") ∷  -- Fields
    kinds (codes "<local> <argument> <field> <fn>") ∷  -- Type
    kinds (codes "static") ∷  -- Functions
    kinds (codes "static") ∷  -- FunctionOrAccess
    kinds (codes ")") ∷  -- Arguments
    kinds (codes ")") ∷  -- MoreArguments
    kinds (codes "return") ∷  -- AccessRows
    kinds (codes ")") ∷  -- InstanceTest
    kinds (codes "return") ∷  -- FlagSetting
    kinds (codes ") ; =") ∷  -- Cell
    kinds (codes ") ; =") ∷  -- FieldName
    kinds (codes "<model> }") ∷  -- Instance
    kinds (codes "res return const") ∷  -- Model
    kinds (codes "} inst") ∷  -- Reset
    kinds (codes "static") ∷  -- SetupModel
    kinds (codes "static") ∷  -- SetupInstance
    kinds (codes "static") ∷  -- Eval
    kinds (codes "} return") ∷  -- Statements
    kinds (codes "} return") ∷  -- Statement
    kinds (codes ";") ∷  -- FirstValue
    kinds (codes "} return") ∷  -- IfRest
    kinds (codes "=") ∷  -- InstanceTarget
    kinds (codes ";") ∷  -- Right
    kinds (codes ";") ∷  -- Conversion
    kinds (codes "(") ∷  -- Callee
    kinds (codes ")") ∷  -- Values
    kinds (codes ")") ∷  -- MoreValues
    kinds (codes ";") ∷  -- Operation
    kinds (codes "<local>") ∷  -- Operator
    kinds (codes ") ;") ∷  -- Atom
    kinds (codes "]") ∷  -- Node
    kinds (codes ") } ;") ∷  -- Integer
    kinds (codes "&& ) } ] ; ,") ∷  -- Number
    kinds (codes "OsdiNode") ∷  -- Loads
    kinds (codes "static") ∷  -- ResidualResist
    kinds (codes "static") ∷  -- ResidualReact
    kinds (codes "static") ∷  -- JacobianResist
    kinds (codes "static") ∷  -- JacobianReact
    kinds (codes "static") ∷  -- JacobianTran
    kinds (codes "static") ∷  -- SpiceRhsDc
    kinds (codes "OsdiNode") ∷  -- SpiceRhsTran
    kinds (codes "}") ∷  -- LoadStatements
    kinds (codes "=") ∷  -- LoadTarget
    kinds (codes "=") ∷  -- MatrixTarget
    kinds (codes "alpha") ∷  -- LoadSign
    kinds (codes ";") ∷  -- Factor
    kinds (codes ";") ∷  -- MoreFactors
    kinds (codes "const") ∷  -- Tables
    kinds (codes "}") ∷  -- NodeRows
    kinds (codes "}") ∷  -- NodeRow
    kinds (codes "}") ∷  -- EntryRows
    kinds (codes "}") ∷  -- EntryRow
    kinds (codes "}") ∷  -- Pair
    kinds (codes "}") ∷  -- SecondNode
    kinds (codes ",") ∷  -- ReactPointer
    kinds (codes "}") ∷  -- EntryParts
    kinds (codes "}") ∷  -- AndReact
    kinds (codes "}") ∷  -- PairRows
    kinds (codes "}") ∷  -- PairRow
    kinds (codes "}") ∷  -- ParamRows
    kinds (codes "}") ∷  -- ParamRow
    kinds (codes "}") ∷  -- MoreStrings
    kinds (codes "|") ∷  -- ParamType
    kinds (codes ",") ∷  -- ParamKind
    kinds (codes "<end>") ∷  -- Exports
    kinds (codes "}") ∷  -- Descriptors
    kinds (codes "}") ∷  -- Descriptor
    []
