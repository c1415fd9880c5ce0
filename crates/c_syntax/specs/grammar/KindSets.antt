-- What can be empty, begin and follow, for each nonterminal in the order of their numbers.
-- Made by `tools/grammar_tables` from `crates/c_syntax/specs/grammar/Names.antt` and `Rows.antt`; edit those.
use Rattle.std.specs.Prelude.{ℕ, Bool, true, false, List, [], ◌∷◌, map, codes}
use Rattle.std.specs.Option.{unwrap_or}
use Rattle.c_tree.specs.Words.{template}
use Rattle.c_syntax.specs.grammar.Names.{kind_names, place_of}

-- the numbers of kinds by their names
abbrev pub kinds : List ℕ → List ℕ
kinds names = map (λ name. unwrap_or (place_of kind_names name) 1) (template names)

-- whether a nonterminal can be empty
abbrev pub c_empty : List Bool
c_empty =
    false ∷  -- File
    false ∷  -- Help
    true ∷  -- Modules
    false ∷  -- Module
    false ∷  -- Structs
    true ∷  -- Fields
    false ∷  -- Type
    false ∷  -- Functions
    false ∷  -- FunctionOrAccess
    true ∷  -- Arguments
    true ∷  -- MoreArguments
    true ∷  -- AccessRows
    true ∷  -- InstanceTest
    true ∷  -- FlagSetting
    false ∷  -- Cell
    false ∷  -- FieldName
    false ∷  -- Instance
    false ∷  -- Model
    false ∷  -- Reset
    false ∷  -- SetupModel
    false ∷  -- SetupInstance
    false ∷  -- Eval
    true ∷  -- Statements
    false ∷  -- Statement
    true ∷  -- FirstValue
    false ∷  -- IfRest
    false ∷  -- InstanceTarget
    false ∷  -- Right
    false ∷  -- Conversion
    false ∷  -- Callee
    true ∷  -- Values
    true ∷  -- MoreValues
    true ∷  -- Operation
    false ∷  -- Operator
    false ∷  -- Atom
    false ∷  -- Node
    false ∷  -- Integer
    false ∷  -- Number
    false ∷  -- Loads
    false ∷  -- ResidualResist
    false ∷  -- ResidualReact
    false ∷  -- JacobianResist
    false ∷  -- JacobianReact
    false ∷  -- JacobianTran
    false ∷  -- SpiceRhsDc
    false ∷  -- SpiceRhsTran
    true ∷  -- LoadStatements
    false ∷  -- LoadTarget
    false ∷  -- MatrixTarget
    false ∷  -- LoadSign
    false ∷  -- Factor
    true ∷  -- MoreFactors
    false ∷  -- Tables
    false ∷  -- NodeRows
    false ∷  -- NodeRow
    false ∷  -- EntryRows
    false ∷  -- EntryRow
    false ∷  -- Pair
    false ∷  -- SecondNode
    false ∷  -- ReactPointer
    false ∷  -- EntryParts
    true ∷  -- AndReact
    false ∷  -- PairRows
    false ∷  -- PairRow
    false ∷  -- ParamRows
    false ∷  -- ParamRow
    true ∷  -- MoreStrings
    false ∷  -- ParamType
    false ∷  -- ParamKind
    false ∷  -- Exports
    false ∷  -- Descriptors
    false ∷  -- Descriptor
    []

-- the kinds with which a nonterminal can begin
abbrev pub c_begins : List (List ℕ)
c_begins =
    kinds (codes "<osdi_header>") ∷  -- File
    kinds (codes "static") ∷  -- Help
    kinds (codes "typedef") ∷  -- Modules
    kinds (codes "typedef") ∷  -- Module
    kinds (codes "typedef") ∷  -- Structs
    kinds (codes "double int32_t") ∷  -- Fields
    kinds (codes "double int32_t") ∷  -- Type
    kinds (codes "static") ∷  -- Functions
    kinds (codes "void double int32_t") ∷  -- FunctionOrAccess
    kinds (codes "double int32_t") ∷  -- Arguments
    kinds (codes ",") ∷  -- MoreArguments
    kinds (codes "if") ∷  -- AccessRows
    kinds (codes "&&") ∷  -- InstanceTest
    kinds (codes "if") ∷  -- FlagSetting
    kinds (codes "inst model") ∷  -- Cell
    kinds (codes "<field> temp") ∷  -- FieldName
    kinds (codes "<inst>") ∷  -- Instance
    kinds (codes "<model>") ∷  -- Model
    kinds (codes "res") ∷  -- Reset
    kinds (codes "static") ∷  -- SetupModel
    kinds (codes "static") ∷  -- SetupInstance
    kinds (codes "static") ∷  -- Eval
    kinds (codes "<local> init_error if double int32_t inst model const for") ∷  -- Statements
    kinds (codes "<local> init_error if double int32_t inst model const for") ∷  -- Statement
    kinds (codes "=") ∷  -- FirstValue
    kinds (codes "<integer> <real> <local> <argument> 0 1 ! inst model x") ∷  -- IfRest
    kinds (codes "<field> col temp") ∷  -- InstanceTarget
    kinds (codes "<integer> <real> <function> <local> <argument> <fn> 0 1 ( - ! inst model x") ∷  -- Right
    kinds (codes "double int32_t") ∷  -- Conversion
    kinds (codes "<function> <fn>") ∷  -- Callee
    kinds (codes "<integer> <real> <local> <argument> 0 1 inst model x") ∷  -- Values
    kinds (codes ",") ∷  -- MoreValues
    kinds (codes "<= >= == != * + - / % < >") ∷  -- Operation
    kinds (codes "<= >= == != * + - / % < >") ∷  -- Operator
    kinds (codes "<integer> <real> <local> <argument> 0 1 inst model x") ∷  -- Atom
    kinds (codes "inst") ∷  -- Node
    kinds (codes "<integer> 0 1") ∷  -- Integer
    kinds (codes "<unsigned> 0u 1u 3u") ∷  -- Number
    kinds (codes "static") ∷  -- Loads
    kinds (codes "static") ∷  -- ResidualResist
    kinds (codes "static") ∷  -- ResidualReact
    kinds (codes "static") ∷  -- JacobianResist
    kinds (codes "static") ∷  -- JacobianReact
    kinds (codes "static") ∷  -- JacobianTran
    kinds (codes "static") ∷  -- SpiceRhsDc
    kinds (codes "static") ∷  -- SpiceRhsTran
    kinds (codes "* dst") ∷  -- LoadStatements
    kinds (codes "* dst") ∷  -- LoadTarget
    kinds (codes "jr jq") ∷  -- MatrixTarget
    kinds (codes "+= -= =") ∷  -- LoadSign
    kinds (codes "inst x alpha") ∷  -- Factor
    kinds (codes "*") ∷  -- MoreFactors
    kinds (codes "OsdiNode") ∷  -- Tables
    kinds (codes "{") ∷  -- NodeRows
    kinds (codes "0 .name") ∷  -- NodeRow
    kinds (codes "{") ∷  -- EntryRows
    kinds (codes "0 .nodes") ∷  -- EntryRow
    kinds (codes ".node_1") ∷  -- Pair
    kinds (codes "<unsigned> 0u 1u 3u UINT32_MAX") ∷  -- SecondNode
    kinds (codes "offsetof UINT32_MAX") ∷  -- ReactPointer
    kinds (codes "JACOBIAN_ENTRY_RESIST JACOBIAN_ENTRY_REACT") ∷  -- EntryParts
    kinds (codes "|") ∷  -- AndReact
    kinds (codes "{") ∷  -- PairRows
    kinds (codes "0 .node_1") ∷  -- PairRow
    kinds (codes "{") ∷  -- ParamRows
    kinds (codes "0 .name") ∷  -- ParamRow
    kinds (codes ",") ∷  -- MoreStrings
    kinds (codes "PARA_TY_REAL PARA_TY_INT") ∷  -- ParamType
    kinds (codes "PARA_KIND_INST PARA_KIND_MODEL PARA_KIND_OPVAR") ∷  -- ParamKind
    kinds (codes "const") ∷  -- Exports
    kinds (codes "{") ∷  -- Descriptors
    kinds (codes "0 .name") ∷  -- Descriptor
    []

-- the kinds that can follow a nonterminal
abbrev pub c_follows : List (List ℕ)
c_follows =
    kinds (codes "<end>") ∷  -- File
    kinds (codes "typedef const") ∷  -- Help
    kinds (codes "const") ∷  -- Modules
    kinds (codes "typedef const") ∷  -- Module
    kinds (codes "static") ∷  -- Structs
    kinds (codes "}") ∷  -- Fields
    kinds (codes "<local> <argument> <field> <fn>") ∷  -- Type
    kinds (codes "static") ∷  -- Functions
    kinds (codes "static") ∷  -- FunctionOrAccess
    kinds (codes ")") ∷  -- Arguments
    kinds (codes ")") ∷  -- MoreArguments
    kinds (codes "return") ∷  -- AccessRows
    kinds (codes ")") ∷  -- InstanceTest
    kinds (codes "return") ∷  -- FlagSetting
    kinds (codes "<= >= == != ) ; , * = + - / % < >") ∷  -- Cell
    kinds (codes "<= >= == != ) ; , * = + - / % < >") ∷  -- FieldName
    kinds (codes "<model> } * dst") ∷  -- Instance
    kinds (codes "res if return const") ∷  -- Model
    kinds (codes "<local> } init_error if double int32_t inst model const for") ∷  -- Reset
    kinds (codes "static") ∷  -- SetupModel
    kinds (codes "static") ∷  -- SetupInstance
    kinds (codes "static") ∷  -- Eval
    kinds (codes "} return") ∷  -- Statements
    kinds (codes "<local> } init_error if double int32_t return inst model const for") ∷  -- Statement
    kinds (codes ";") ∷  -- FirstValue
    kinds (codes "<local> } init_error if double int32_t return inst model const for") ∷  -- IfRest
    kinds (codes "=") ∷  -- InstanceTarget
    kinds (codes ";") ∷  -- Right
    kinds (codes ";") ∷  -- Conversion
    kinds (codes "(") ∷  -- Callee
    kinds (codes ")") ∷  -- Values
    kinds (codes ")") ∷  -- MoreValues
    kinds (codes ";") ∷  -- Operation
    kinds (codes "<integer> <real> <local> <argument> 0 1 inst model x") ∷  -- Operator
    kinds (codes "<= >= == != ) ; , * + - / % < >") ∷  -- Atom
    kinds (codes "]") ∷  -- Node
    kinds (codes "<= >= == != ) } ; , * + - / % < >") ∷  -- Integer
    kinds (codes "&& ) } ] ; ,") ∷  -- Number
    kinds (codes "OsdiNode") ∷  -- Loads
    kinds (codes "static") ∷  -- ResidualResist
    kinds (codes "static") ∷  -- ResidualReact
    kinds (codes "static") ∷  -- JacobianResist
    kinds (codes "static") ∷  -- JacobianReact
    kinds (codes "static") ∷  -- JacobianTran
    kinds (codes "static") ∷  -- SpiceRhsDc
    kinds (codes "OsdiNode") ∷  -- SpiceRhsTran
    kinds (codes "}") ∷  -- LoadStatements
    kinds (codes "+= -= =") ∷  -- LoadTarget
    kinds (codes "+= -= =") ∷  -- MatrixTarget
    kinds (codes "inst x alpha") ∷  -- LoadSign
    kinds (codes "; *") ∷  -- Factor
    kinds (codes ";") ∷  -- MoreFactors
    kinds (codes "typedef const") ∷  -- Tables
    kinds (codes "}") ∷  -- NodeRows
    kinds (codes "}") ∷  -- NodeRow
    kinds (codes "}") ∷  -- EntryRows
    kinds (codes "}") ∷  -- EntryRow
    kinds (codes "}") ∷  -- Pair
    kinds (codes "}") ∷  -- SecondNode
    kinds (codes ",") ∷  -- ReactPointer
    kinds (codes "}") ∷  -- EntryParts
    kinds (codes "}") ∷  -- AndReact
    kinds (codes "}") ∷  -- PairRows
    kinds (codes "}") ∷  -- PairRow
    kinds (codes "}") ∷  -- ParamRows
    kinds (codes "}") ∷  -- ParamRow
    kinds (codes "}") ∷  -- MoreStrings
    kinds (codes "|") ∷  -- ParamType
    kinds (codes ",") ∷  -- ParamKind
    kinds (codes "<end>") ∷  -- Exports
    kinds (codes "}") ∷  -- Descriptors
    kinds (codes "}") ∷  -- Descriptor
    []
