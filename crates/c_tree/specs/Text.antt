-- The text of a C file: its words in order, each with the space or the line end behind it. A name that ends with K belongs to
-- module number K of the file; a host reaches each part through the field of the OSDI struct that is named beside it.
use Rattle.std.specs.Prelude.{ℕ, Bool, true, false, ◌+◌, if◌then◌else◌, List, [], ◌∷◌, ◌++◌, length, codes, decimal}
use Rattle.std.specs.List.{flat_map, enumerate_from}
use Rattle.std.specs.Prelude.{Option, Some, None}
use Rattle.alg_laws.specs.declared.function.Fun1.{Fun1}
use Rattle.alg_laws.specs.declared.function.Fun1.TheVariants.{Exp, Ln, Log, Sqrt, Sin, Cos, Tan, Asin, Acos, Atan, Sinh, Cosh, Tanh, Asinh, Acosh, Atanh, Floor, Ceil}
use Rattle.alg_laws.specs.declared.function.Fun2.{Fun2}
use Rattle.alg_laws.specs.declared.function.Fun2.TheVariants.{Pow, Atan2, Hypot}
use Rattle.alg_laws.specs.declared.number.Ty.{Ty}
use Rattle.alg_laws.specs.declared.number.Ty.TheVariants.{Integer, Real}
use Rattle.c_tree.specs.declared.body.CAtom.{CAtom}
use Rattle.c_tree.specs.declared.body.CAtom.TheVariants as atom
use Rattle.c_tree.specs.declared.body.CCallee.{CCallee}
use Rattle.c_tree.specs.declared.body.CCallee.TheVariants as callee
use Rattle.c_tree.specs.declared.body.CCell.{CCell}
use Rattle.c_tree.specs.declared.body.CField.{CField}
use Rattle.c_tree.specs.declared.body.CField.TheVariants.{Param, Given, Resist, React, EntryResist, EntryReact, OpVar, Stored, Temperature}
use Rattle.c_tree.specs.declared.body.COperator.{COperator}
use Rattle.c_tree.specs.declared.body.COperator.TheVariants.{Plus, Minus, Times, Over, Remainder, Less, AtMost, Greater, AtLeast, Same, Differs}
use Rattle.c_tree.specs.declared.body.CRight.{CRight}
use Rattle.c_tree.specs.declared.body.CRight.TheVariants as right
use Rattle.c_tree.specs.declared.body.CSimple.{CSimple}
use Rattle.c_tree.specs.declared.body.CSimple.TheVariants.{Constant, Join, Head, Assign, SetCell, SetCollapse, Report}
use Rattle.c_tree.specs.declared.body.CStatement.{CStatement}
use Rattle.c_tree.specs.declared.body.Level.{Level}
use Rattle.c_tree.specs.declared.body.Level.TheVariants.{Instance, Model}
use Rattle.c_tree.specs.declared.file.AccessRow.{AccessRow}
use Rattle.c_tree.specs.declared.file.CArgument.{CArgument}
use Rattle.c_tree.specs.declared.file.CFile.{CFile}
use Rattle.c_tree.specs.declared.file.CFunction.{CFunction}
use Rattle.c_tree.specs.declared.file.CModule.{CModule}
use Rattle.c_tree.specs.declared.load.CLoad.{CLoad}
use Rattle.c_tree.specs.declared.load.CLoads.{CLoads}
use Rattle.c_tree.specs.declared.load.LoadFactor.{LoadFactor}
use Rattle.c_tree.specs.declared.load.LoadFactor.TheVariants as factor
use Rattle.c_tree.specs.declared.load.LoadFunction.{LoadFunction}
use Rattle.c_tree.specs.declared.load.LoadFunction.TheVariants.{ResidualResist, ResidualReact, JacobianResist, JacobianReact, JacobianTran, SpiceRhsDc, SpiceRhsTran}
use Rattle.c_tree.specs.declared.load.LoadSign.{LoadSign}
use Rattle.c_tree.specs.declared.load.LoadSign.TheVariants.{Put, Add, Subtract}
use Rattle.c_tree.specs.declared.load.LoadTarget.{LoadTarget}
use Rattle.c_tree.specs.declared.load.LoadTarget.TheVariants as target
use Rattle.c_tree.specs.declared.table.EntryRow.{EntryRow}
use Rattle.c_tree.specs.declared.table.FieldRow.{FieldRow}
use Rattle.c_tree.specs.declared.table.NodeRow.{NodeRow}
use Rattle.c_tree.specs.declared.table.PairRow.{PairRow}
use Rattle.c_tree.specs.declared.table.ParamKind.{ParamKind}
use Rattle.c_tree.specs.declared.table.ParamKind.TheVariants.{Inst, Model as OfModel, Opvar}
use Rattle.c_tree.specs.declared.table.ParamRow.{ParamRow}
use Rattle.c_tree.specs.Blocks.{Block, done, simple, choice, loop, block_of}
use Rattle.c_tree.specs.Words.{Word, spelled, template, numbered, unsigned, word, real_word, string_word, array_length, marked, with_commas, include_words, cast_words}

-- the two functions that each file begins with: one reports a parameter that is out of its range (OsdiInitInfo), and one has
-- nothing to load (OsdiDescriptor: load_limit_rhs_resist, load_limit_rhs_react)
unfoldable pub help_words : List Word
help_words =
    template (codes "static void init_error ( OsdiInitInfo * res , uint32_t id ) {")
    ++ template (codes "OsdiInitError * more = realloc ( res -> errors , ( res -> num_errors + 1u ) * sizeof ( OsdiInitError ) ) ;")
    ++ template (codes "if ( more ) {")
    ++ template (codes "more [ res -> num_errors ] = ( OsdiInitError ) { .code = INIT_ERR_OUT_OF_BOUNDS , .payload.parameter_id = id } ;")
    ++ template (codes "res -> errors = more ;")
    ++ template (codes "res -> num_errors = res -> num_errors + 1u ;")
    ++ template (codes "} }")
    ++ template (codes "static void load_nothing ( void * ip , void * mp , double * dst ) { }")

abbrev pub type_word : Ty → Word
type_word Real = codes "double"
type_word Integer = codes "int32_t"

-- a type of a field, told by whether it is an integer
abbrev pub field_type : Bool → Ty
field_type true = Integer
field_type false = Real

-- a field of a struct: its letters, and its number
abbrev pub field_word : CField → Word
field_word (Param i) = numbered (codes "p") i
field_word (Given i) = numbered (codes "g") i
field_word (Resist i) = numbered (codes "r") i
field_word (React i) = numbered (codes "q") i
field_word (EntryResist i) = numbered (codes "er") i
field_word (EntryReact i) = numbered (codes "eq") i
field_word (OpVar i) = numbered (codes "o") i
field_word (Stored i) = numbered (codes "h") i
field_word Temperature = codes "temp"

-- the declaration of a field
abbrev pub field_words : FieldRow → List Word
field_words field = word (type_word (field_type field.integer)) ++ word field.name ++ word (codes ";")

-- The model's struct (OsdiDescriptor.model_size) and the instance's (instance_size). Of the instance, `node` is at
-- node_mapping_offset, `jr` at jacobian_ptr_resist_offset, an element of `jq` at OsdiJacobianEntry.react_ptr_off, `col` at
-- collapsed_offset, and the rows of a node at OsdiNode.resist_residual_off and react_residual_off.
unfoldable pub structs_words : ℕ → CModule → List Word
structs_words k m =
    template (codes "typedef struct { uint32_t tag ;") ++ flat_map field_words m.model_fields
    ++ word (codes "}") ++ word (numbered (codes "model_") k) ++ word (codes ";")
    ++ template (codes "typedef struct { uint32_t node [") ++ word (unsigned (array_length (length m.nodes)))
    ++ template (codes "] ; double * jr [") ++ word (unsigned (array_length (length m.entries)))
    ++ template (codes "] ; double * jq [") ++ word (unsigned (array_length (length m.entries)))
    ++ template (codes "] ; _Bool col [") ++ word (unsigned (array_length (length m.collapse)))
    ++ template (codes "] ; double temp ;") ++ flat_map field_words m.inst_fields
    ++ word (codes "}") ++ word (numbered (codes "inst_") k) ++ word (codes ";")

-- the struct that a cell is in
abbrev pub level_word : Level → Word
level_word Instance = codes "inst"
level_word Model = codes "model"

abbrev pub cell_words : CCell → List Word
cell_words cell = word (level_word cell.level) ++ word (codes "->") ++ word (field_word cell.field)

-- where one value is wanted
abbrev pub atom_words : CAtom → List Word
atom_words (atom.Local i) = word (numbered (codes "v") i)
atom_words (atom.Argument i) = word (numbered (codes "a") i)
atom_words (atom.Integer i) = word (decimal i)
atom_words (atom.Real d) = word (real_word d.mantissa d.power)
atom_words (atom.Cell cell) = cell_words cell
atom_words (atom.Unknown i) = template (codes "x [ inst -> node [") ++ word (unsigned i) ++ template (codes "] ]")

abbrev pub operator_word : COperator → Word
operator_word Plus = codes "+"
operator_word Minus = codes "-"
operator_word Times = codes "*"
operator_word Over = codes "/"
operator_word Remainder = codes "%"
operator_word Less = codes "<"
operator_word AtMost = codes "<="
operator_word Greater = codes ">"
operator_word AtLeast = codes ">="
operator_word Same = codes "=="
operator_word Differs = codes "!="

-- the functions of C's library
abbrev pub fun1_word : Fun1 → Word
fun1_word Exp = codes "exp"
fun1_word Ln = codes "log"
fun1_word Log = codes "log10"
fun1_word Sqrt = codes "sqrt"
fun1_word Sin = codes "sin"
fun1_word Cos = codes "cos"
fun1_word Tan = codes "tan"
fun1_word Asin = codes "asin"
fun1_word Acos = codes "acos"
fun1_word Atan = codes "atan"
fun1_word Sinh = codes "sinh"
fun1_word Cosh = codes "cosh"
fun1_word Tanh = codes "tanh"
fun1_word Asinh = codes "asinh"
fun1_word Acosh = codes "acosh"
fun1_word Atanh = codes "atanh"
fun1_word Floor = codes "floor"
fun1_word Ceil = codes "ceil"

abbrev pub fun2_word : Fun2 → Word
fun2_word Pow = codes "pow"
fun2_word Atan2 = codes "atan2"
fun2_word Hypot = codes "hypot"

-- a function of module K
abbrev pub function_word : ℕ → ℕ → Word
function_word k j = numbered (codes "fn_") k ++ numbered (codes "_") j

abbrev pub callee_word : ℕ → CCallee → Word
callee_word k (callee.Fun1 f) = fun1_word f
callee_word k (callee.Fun2 f) = fun2_word f
callee_word k (callee.Function j) = function_word k j

-- the right side of a constant local
abbrev pub right_words : ℕ → CRight → List Word
right_words k (right.Same a) = atom_words a
right_words k (right.Negated a) = word (codes "-") ++ atom_words a
right_words k (right.Contrary a) = word (codes "!") ++ atom_words a
right_words k (right.ToReal a) = template (codes "( double )") ++ atom_words a
right_words k (right.ToInteger a) = template (codes "( int32_t ) lround (") ++ atom_words a ++ word (codes ")")
right_words k (right.Call f args) =
    word (callee_word k f) ++ word (codes "(") ++ with_commas atom_words args ++ word (codes ")")
right_words k (right.Binary a op b) = atom_words a ++ word (operator_word op) ++ atom_words b

abbrev pub local_word : ℕ → Word
local_word = numbered (codes "v")

-- a statement without blocks
abbrev pub simple_words : ℕ → CSimple → List Word
simple_words k (Constant ty i side) =
    word (codes "const") ++ word (type_word ty) ++ word (local_word i) ++ word (codes "=") ++ right_words k side ++ word (codes ";")
simple_words k (Join ty i) = word (type_word ty) ++ word (local_word i) ++ word (codes ";")
simple_words k (Head ty i first) =
    word (type_word ty) ++ word (local_word i) ++ word (codes "=") ++ atom_words first ++ word (codes ";")
simple_words k (Assign i value) = word (local_word i) ++ word (codes "=") ++ atom_words value ++ word (codes ";")
simple_words k (SetCell cell value) = cell_words cell ++ word (codes "=") ++ atom_words value ++ word (codes ";")
simple_words k (SetCollapse pair value) =
    template (codes "inst -> col [") ++ word (unsigned pair) ++ template (codes "] =") ++ atom_words value ++ word (codes ";")
simple_words k (Report id) = template (codes "init_error ( res ,") ++ word (unsigned id) ++ template (codes ") ;")

-- the test of an `if`, with what opens its first block
abbrev pub choice_opens : CAtom → List Word
choice_opens test = template (codes "if (") ++ atom_words test ++ template (codes ") {")

-- the test of a `for`
abbrev pub leave_words : CAtom → List Word
leave_words test = template (codes "if ( !") ++ atom_words test ++ template (codes ") { break ; }")

-- the statements of a block
abbrev pub block_words : ℕ → Block → List Word
block_words k done = []
block_words k (simple s rest) = simple_words k s ++ block_words k rest
block_words k (choice test first second rest) =
    choice_opens test ++ block_words k first ++ template (codes "} else {") ++ block_words k second ++ word (codes "}")
    ++ block_words k rest
block_words k (loop before test turn rest) =
    template (codes "for ( ; ; ) {") ++ block_words k before ++ leave_words test ++ block_words k turn ++ word (codes "}")
    ++ block_words k rest

-- the statements of a body
abbrev pub body_words : ℕ → List CStatement → List Word
body_words k body = block_words k (block_of body)

abbrev pub argument_words : CArgument → List Word
argument_words argument = word (type_word argument.ty) ++ word (numbered (codes "a") argument.number)

-- function J of module K
unfoldable pub function_words : ℕ → ℕ → CFunction → List Word
function_words k j f =
    word (codes "static") ++ word (type_word f.result) ++ word (function_word k j)
    ++ word (codes "(") ++ with_commas argument_words f.arguments ++ template (codes ") {")
    ++ body_words k f.body ++ word (codes "return") ++ atom_words f.value ++ template (codes "; }")

-- the statements by which a function takes the instance, and the model
abbrev pub instance_words : ℕ → List Word
instance_words k = cast_words (codes "inst_") (codes "inst") (codes "ip") k

abbrev pub model_words : ℕ → List Word
model_words k = cast_words (codes "model_") (codes "model") (codes "mp") k

-- whether a row holds only for calls that ask for the instance's cell
abbrev pub instance_test_words : Bool → List Word
instance_test_words true = template (codes "&& ( flags & ACCESS_FLAG_INSTANCE )")
instance_test_words false = []

-- a call that sets the cell sets the flag
abbrev pub flag_words : Option CCell → List Word
flag_words None = []
flag_words (Some cell) = template (codes "if ( flags & ACCESS_FLAG_SET ) {") ++ cell_words cell ++ template (codes "= 1 ; }")

abbrev pub access_row_words : AccessRow → List Word
access_row_words row =
    template (codes "if ( id ==") ++ word (unsigned row.id) ++ instance_test_words row.instance ++ template (codes ") {")
    ++ flag_words row.flag ++ template (codes "return &") ++ cell_words row.cell ++ template (codes "; }")

-- where a host finds a parameter or an operating-point variable (OsdiDescriptor.access)
unfoldable pub access_words : ℕ → CModule → List Word
access_words k m =
    template (codes "static void *") ++ word (numbered (codes "access_") k)
    ++ template (codes "( void * ip , void * mp , uint32_t id , uint32_t flags ) {")
    ++ instance_words k ++ model_words k ++ flat_map access_row_words m.access ++ template (codes "return 0 ; }")

-- a set-up begins without errors
unfoldable pub init_words : List Word
init_words = template (codes "res -> flags = 0u ; res -> num_errors = 0u ; res -> errors = 0 ;")

-- the set-up of the model (OsdiDescriptor.setup_model)
unfoldable pub setup_model_words : ℕ → CModule → List Word
setup_model_words k m =
    template (codes "static void") ++ word (numbered (codes "setup_model_") k)
    ++ template (codes "( void * handle , void * mp , OsdiSimParas * sim , OsdiInitInfo * res ) {")
    ++ model_words k ++ init_words ++ body_words k m.setup_model ++ word (codes "}")

-- the set-up of an instance (OsdiDescriptor.setup_instance)
unfoldable pub setup_instance_words : ℕ → CModule → List Word
setup_instance_words k m =
    template (codes "static void") ++ word (numbered (codes "setup_instance_") k)
    ++ template (codes "( void * handle , void * ip , void * mp , double temperature , uint32_t num_terminals ,")
    ++ template (codes "OsdiSimParas * sim , OsdiInitInfo * res ) {")
    ++ instance_words k ++ model_words k ++ init_words ++ template (codes "inst -> temp = temperature ;")
    ++ body_words k m.setup_instance ++ word (codes "}")

-- the evaluation (OsdiDescriptor.eval), at the solution that OsdiSimInfo.prev_solve holds
unfoldable pub eval_words : ℕ → CModule → List Word
eval_words k m =
    template (codes "static uint32_t") ++ word (numbered (codes "eval_") k)
    ++ template (codes "( void * handle , void * ip , void * mp , OsdiSimInfo * info ) {")
    ++ instance_words k ++ model_words k ++ template (codes "const double * x = info -> prev_solve ;")
    ++ body_words k m.eval ++ template (codes "return 0u ; }")

abbrev pub target_words : LoadTarget → List Word
target_words (target.Node i) = template (codes "dst [ inst -> node [") ++ word (unsigned i) ++ template (codes "] ]")
target_words (target.EntryResist e) = template (codes "* inst -> jr [") ++ word (unsigned e) ++ word (codes "]")
target_words (target.EntryReact e) = template (codes "* inst -> jq [") ++ word (unsigned e) ++ word (codes "]")

abbrev pub sign_word : LoadSign → Word
sign_word Put = codes "="
sign_word Add = codes "+="
sign_word Subtract = codes "-="

abbrev pub factor_words : LoadFactor → List Word
factor_words factor.Alpha = word (codes "alpha")
factor_words (factor.Cell field) = template (codes "inst ->") ++ word (field_word field)
factor_words (factor.Solution i) = template (codes "x [ inst -> node [") ++ word (unsigned i) ++ template (codes "] ]")

-- a statement of a load function
abbrev pub load_words : CLoad → List Word
load_words load =
    target_words load.target ++ word (sign_word load.sign) ++ factor_words load.first
    ++ marked (codes "*") factor_words load.more ++ word (codes ";")

-- the name of a load function, without the number of its module; it is also the field of the descriptor, behind a point
abbrev pub load_name : LoadFunction → List ℕ
load_name ResidualResist = codes "load_residual_resist"
load_name ResidualReact = codes "load_residual_react"
load_name JacobianResist = codes "load_jacobian_resist"
load_name JacobianReact = codes "load_jacobian_react"
load_name JacobianTran = codes "load_jacobian_tran"
load_name SpiceRhsDc = codes "load_spice_rhs_dc"
load_name SpiceRhsTran = codes "load_spice_rhs_tran"

-- the arguments of a load function behind the instance and the model
abbrev pub load_arguments : LoadFunction → List Word
load_arguments ResidualResist = template (codes ", double * dst")
load_arguments ResidualReact = template (codes ", double * dst")
load_arguments JacobianResist = []
load_arguments JacobianReact = template (codes ", double alpha")
load_arguments JacobianTran = template (codes ", double alpha")
load_arguments SpiceRhsDc = template (codes ", double * dst , double * x")
load_arguments SpiceRhsTran = template (codes ", double * dst , double * x , double alpha")

-- the statements of a load function
abbrev pub loads_of : CLoads → LoadFunction → List CLoad
loads_of loads ResidualResist = loads.residual_resist
loads_of loads ResidualReact = loads.residual_react
loads_of loads JacobianResist = loads.jacobian_resist
loads_of loads JacobianReact = loads.jacobian_react
loads_of loads JacobianTran = loads.jacobian_tran
loads_of loads SpiceRhsDc = loads.spice_rhs_dc
loads_of loads SpiceRhsTran = loads.spice_rhs_tran

-- a load function of module K
unfoldable pub load_function_words : ℕ → LoadFunction → List CLoad → List Word
load_function_words k f loads =
    template (codes "static void") ++ word (load_name f ++ numbered (codes "_") k)
    ++ template (codes "( void * ip , void * mp") ++ load_arguments f ++ template (codes ") {")
    ++ instance_words k ++ flat_map load_words loads ++ word (codes "}")

-- the load functions, in their order
abbrev pub load_functions : List LoadFunction
load_functions =
    ResidualResist ∷ ResidualReact ∷ JacobianResist ∷ JacobianReact ∷ JacobianTran ∷ SpiceRhsDc ∷ SpiceRhsTran ∷ []

unfoldable pub loads_words : ℕ → CLoads → List Word
loads_words k loads = flat_map (λ f. load_function_words k f (loads_of loads f)) load_functions

-- the offset of a field of the instance
abbrev pub offset_words : ℕ → Word → List Word
offset_words k field =
    template (codes "offsetof (") ++ word (numbered (codes "inst_") k) ++ word (codes ",") ++ word field ++ word (codes ")")

-- node I of module K, whose rows are `rI` and `qI` (OsdiNode)
unfoldable pub node_words : ℕ → ℕ → NodeRow → List Word
node_words k i node =
    template (codes "{ .name =") ++ word (string_word node.name) ++ template (codes ", .units =") ++ word (string_word node.units)
    ++ template (codes ", .residual_units =") ++ word (string_word node.residual_units)
    ++ template (codes ", .resist_residual_off =") ++ offset_words k (numbered (codes "r") i)
    ++ template (codes ", .react_residual_off =") ++ offset_words k (numbered (codes "q") i)
    ++ template (codes ", .resist_limit_rhs_off = UINT32_MAX , .react_limit_rhs_off = UINT32_MAX , .is_flow =")
    ++ word (decimal node.is_flow) ++ word (codes "}")

-- the second node of a pair, which the reference node may be
abbrev pub second_word : Option ℕ → Word
second_word None = codes "UINT32_MAX"
second_word (Some node) = unsigned node

-- a pair of nodes (OsdiNodePair)
abbrev pub pair_words : PairRow → List Word
pair_words pair =
    template (codes "{ .node_1 =") ++ word (unsigned pair.first) ++ template (codes ", .node_2 =")
    ++ word (second_word pair.second) ++ word (codes "}")

-- the place of the pointer to a reactive part, where the entry has such a part
abbrev pub react_offset_words : ℕ → ℕ → Bool → List Word
react_offset_words k e false = word (codes "UINT32_MAX")
react_offset_words k e true =
    template (codes "offsetof (") ++ word (numbered (codes "inst_") k) ++ template (codes ", jq [") ++ word (unsigned e)
    ++ template (codes "] )")

-- which parts an entry has, the resistive before the reactive one
abbrev pub parts_words : Bool → Bool → List Word
parts_words true true = template (codes "JACOBIAN_ENTRY_RESIST | JACOBIAN_ENTRY_REACT")
parts_words true false = word (codes "JACOBIAN_ENTRY_RESIST")
parts_words false true = word (codes "JACOBIAN_ENTRY_REACT")
parts_words false false = []

-- entry E of module K (OsdiJacobianEntry)
unfoldable pub entry_words : ℕ → ℕ → EntryRow → List Word
entry_words k e entry =
    template (codes "{ .nodes = { .node_1 =") ++ word (unsigned entry.row) ++ template (codes ", .node_2 =")
    ++ word (unsigned entry.col) ++ template (codes "} , .react_ptr_off =") ++ react_offset_words k e entry.react
    ++ template (codes ", .flags =") ++ parts_words entry.resist entry.react ++ word (codes "}")

abbrev pub parameter_type_word : Bool → Word
parameter_type_word true = codes "PARA_TY_INT"
parameter_type_word false = codes "PARA_TY_REAL"

abbrev pub kind_word : ParamKind → Word
kind_word Inst = codes "PARA_KIND_INST"
kind_word OfModel = codes "PARA_KIND_MODEL"
kind_word Opvar = codes "PARA_KIND_OPVAR"

-- how many of the names are aliases: all but the first
abbrev pub alias_count : List (List ℕ) → ℕ
alias_count [] = 0
alias_count (name ∷ aliases) = length aliases

-- a parameter or an operating-point variable (OsdiParamOpvar)
unfoldable pub parameter_words : ParamRow → List Word
parameter_words p =
    template (codes "{ .name = ( char * [ ] ) {") ++ with_commas (λ name. word (string_word name)) p.names
    ++ template (codes "} , .num_alias =") ++ word (unsigned (alias_count p.names))
    ++ template (codes ", .description =") ++ word (string_word p.description)
    ++ template (codes ", .units =") ++ word (string_word p.units)
    ++ template (codes ", .flags =") ++ word (parameter_type_word p.integer) ++ word (codes "|") ++ word (kind_word p.kind)
    ++ template (codes ", .len = 0u }")

-- the elements of a table and the element of zeros behind them
abbrev pub elements_words : {T : Type 0} → (T → List Word) → List T → List Word
elements_words words elements = flat_map (λ element. words element ++ word (codes ",")) elements ++ template (codes "{ 0 } } ;")

-- the tables of module K
unfoldable pub tables_words : ℕ → CModule → List Word
tables_words k m =
    word (codes "OsdiNode") ++ word (numbered (codes "nodes_") k) ++ template (codes "[ ] = {")
    ++ elements_words (λ p. node_words k p.0 p.1) (enumerate_from 0 m.nodes)
    ++ word (codes "OsdiJacobianEntry") ++ word (numbered (codes "entries_") k) ++ template (codes "[ ] = {")
    ++ elements_words (λ p. entry_words k p.0 p.1) (enumerate_from 0 m.entries)
    ++ word (codes "OsdiNodePair") ++ word (numbered (codes "collapse_") k) ++ template (codes "[ ] = {")
    ++ elements_words pair_words m.collapse
    ++ word (codes "OsdiParamOpvar") ++ word (numbered (codes "params_") k) ++ template (codes "[ ] = {")
    ++ elements_words parameter_words m.params

-- a module under its number
unfoldable pub module_words : ℕ → CModule → List Word
module_words k m =
    structs_words k m ++ flat_map (λ p. function_words k p.0 p.1) (enumerate_from 0 m.functions) ++ access_words k m
    ++ setup_model_words k m ++ setup_instance_words k m ++ eval_words k m ++ loads_words k m.loads ++ tables_words k m

-- a parameter of the instance
abbrev pub is_instance_kind : ParamKind → Bool
is_instance_kind Inst = true
is_instance_kind OfModel = false
is_instance_kind Opvar = false

-- a parameter of the instance or the model
abbrev pub is_parameter_kind : ParamKind → Bool
is_parameter_kind Inst = true
is_parameter_kind OfModel = true
is_parameter_kind Opvar = false

-- an operating-point variable
abbrev pub is_opvar_kind : ParamKind → Bool
is_opvar_kind Inst = false
is_opvar_kind OfModel = false
is_opvar_kind Opvar = true

-- how many rows have a kind that passes
abbrev pub count_kinds : (ParamKind → Bool) → List ParamRow → ℕ
count_kinds passes [] = 0
count_kinds passes (row ∷ rest) = if passes row.kind then count_kinds passes rest + 1 else count_kinds passes rest

-- the field of a load function in the descriptor
abbrev pub load_field_words : ℕ → LoadFunction → List Word
load_field_words k f =
    word (codes ",") ++ word (codes "." ++ load_name f) ++ word (codes "=") ++ word (load_name f ++ numbered (codes "_") k)

-- the counts of a descriptor's tables
abbrev pub table_fields_words : ℕ → CModule → List Word
table_fields_words k m =
    template (codes "{ .name =") ++ word (string_word m.name)
    ++ template (codes ", .num_nodes =") ++ word (unsigned (length m.nodes))
    ++ template (codes ", .num_terminals =") ++ word (unsigned m.ports)
    ++ template (codes ", .nodes =") ++ word (numbered (codes "nodes_") k)
    ++ template (codes ", .num_jacobian_entries =") ++ word (unsigned (length m.entries))
    ++ template (codes ", .jacobian_entries =") ++ word (numbered (codes "entries_") k)
    ++ template (codes ", .num_collapsible =") ++ word (unsigned (length m.collapse))
    ++ template (codes ", .collapsible =") ++ word (numbered (codes "collapse_") k)

-- what follows them up to the sizes
abbrev pub parameter_fields_words : ℕ → CModule → List Word
parameter_fields_words k m =
    template (codes ", .collapsed_offset =") ++ offset_words k (codes "col")
    ++ template (codes ", .noise_sources = 0 , .num_noise_src = 0u , .num_params =")
    ++ word (unsigned (count_kinds is_parameter_kind m.params))
    ++ template (codes ", .num_instance_params =") ++ word (unsigned (count_kinds is_instance_kind m.params))
    ++ template (codes ", .num_opvars =") ++ word (unsigned (count_kinds is_opvar_kind m.params))
    ++ template (codes ", .param_opvar =") ++ word (numbered (codes "params_") k)

-- the offsets and sizes
abbrev pub offset_fields_words : ℕ → List Word
offset_fields_words k =
    template (codes ", .node_mapping_offset =") ++ offset_words k (codes "node")
    ++ template (codes ", .jacobian_ptr_resist_offset =") ++ offset_words k (codes "jr")
    ++ template (codes ", .num_states = 0u , .state_idx_off = 0u , .bound_step_offset = UINT32_MAX , .instance_size = sizeof (")
    ++ word (numbered (codes "inst_") k) ++ template (codes ") , .model_size = sizeof (")
    ++ word (numbered (codes "model_") k) ++ word (codes ")")

-- the functions
abbrev pub function_fields_words : ℕ → List Word
function_fields_words k =
    template (codes ", .access =") ++ word (numbered (codes "access_") k)
    ++ template (codes ", .setup_model =") ++ word (numbered (codes "setup_model_") k)
    ++ template (codes ", .setup_instance =") ++ word (numbered (codes "setup_instance_") k)
    ++ template (codes ", .eval =") ++ word (numbered (codes "eval_") k)
    ++ template (codes ", .load_noise = 0 , .load_limit_rhs_resist = load_nothing , .load_limit_rhs_react = load_nothing")
    ++ flat_map (load_field_words k) load_functions

-- the descriptor of module K (OsdiDescriptor)
unfoldable pub descriptor_words : ℕ → CModule → List Word
descriptor_words k m =
    table_fields_words k m ++ parameter_fields_words k m ++ offset_fields_words k ++ function_fields_words k ++ word (codes "}")

-- what a host looks for first: the version, and the descriptors
unfoldable pub end_words : List CModule → List Word
end_words modules =
    template (codes "const uint32_t OSDI_VERSION_MAJOR = 0u ; const uint32_t OSDI_VERSION_MINOR = 3u ;")
    ++ template (codes "const uint32_t OSDI_NUM_DESCRIPTORS =") ++ word (unsigned (length modules)) ++ word (codes ";")
    ++ template (codes "const OsdiDescriptor OSDI_DESCRIPTORS [ ] = {")
    ++ elements_words (λ p. descriptor_words p.0 p.1) (enumerate_from 0 modules)

-- the words of a file
unfoldable pub words_of : CFile → List Word
words_of f =
    include_words ++ help_words ++ flat_map (λ p. module_words p.0 p.1) (enumerate_from 0 f.modules) ++ end_words f.modules

-- the text of a file
unfoldable pub text_of : CFile → List ℕ
text_of f = spelled (words_of f)
