-- The raw tree of a C text: what its rows of the grammar hold, with each number that it writes, and with the index of the token
-- at which each number and name stands. The rules of form speak of it; a file keeps what does not follow from them.
use Rattle.std.specs.Prelude.{ℕ, ◌+◌, Bool, List, Option}
use Rattle.alg_laws.specs.declared.number.Ty.{Ty}
use Rattle.c_tree.specs.declared.body.CAtom.{CAtom}
use Rattle.c_tree.specs.declared.body.CCallee.{CCallee}
use Rattle.c_tree.specs.declared.body.CCell.{CCell}
use Rattle.c_tree.specs.declared.body.CField.{CField}
use Rattle.c_tree.specs.declared.body.COperator.{COperator}
use Rattle.c_tree.specs.declared.load.LoadFactor.{LoadFactor}
use Rattle.c_tree.specs.declared.load.LoadSign.{LoadSign}
use Rattle.c_tree.specs.declared.load.LoadTarget.{LoadTarget}
use Rattle.c_tree.specs.declared.table.ParamKind.{ParamKind}

-- what stands at a token, or from a token on
pub record At (T : Type 0) : Type 0 where
  pub at : ℕ
  pub value : T

-- Of a cell `inst -> word` the word stands two tokens further. Of an unknown `x [ inst -> node [ N ] ]`, and of `dst [ inst ->
-- node [ N ] ]`, `inst` stands two tokens further, and the number six.
abbrev pub word_at : {T : Type 0} → At T → ℕ
word_at cell = cell.at + 2

abbrev pub node_at : {T : Type 0} → At T → ℕ
node_at unknown = unknown.at + 6

-- the right side of a constant local
pub data RawRight : Type 0 where
  same : At CAtom → RawRight
  negated : At CAtom → RawRight
  contrary : At CAtom → RawRight
  to_real : At CAtom → RawRight
  to_integer : At CAtom → RawRight
  call : CCallee → List (At CAtom) → RawRight
  binary : At CAtom → COperator → At CAtom → RawRight

-- A statement without blocks. A local stands at its name, a right side at its first token, a cell at `inst` or `model`, a collapse flag at `inst`, and a report
-- at `init_error`. Of a flag `inst -> col [ N ]` the word stands two tokens further and the number four; of a report the number
-- stands four tokens further.
pub data RawSimple : Type 0 where
  constant : Ty → At ℕ → At RawRight → RawSimple
  join : Ty → At ℕ → RawSimple
  head : Ty → At ℕ → At CAtom → RawSimple
  assign : At ℕ → At CAtom → RawSimple
  set_cell : At CCell → At CAtom → RawSimple
  set_flag : At ℕ → At CAtom → RawSimple
  report : At ℕ → RawSimple

-- The statements of a block up to its closing brace, which stands at a token.
pub data RawBlock : Type 0 where
  closed : ℕ → RawBlock
  simple : RawSimple → RawBlock → RawBlock
  -- `if ( ! test ) { break ; }`, whose `if` stands at a token
  leave : ℕ → At CAtom → RawBlock → RawBlock
  choice : At CAtom → RawBlock → RawBlock → RawBlock → RawBlock
  loop : RawBlock → RawBlock → RawBlock

-- a field of a struct, at its name
pub record RawField : Type 0 where
  pub ty : Ty
  pub field : At CField

pub record RawArgument : Type 0 where
  pub ty : Ty
  pub number : At ℕ

-- a function, whose second number stands at its name
pub record RawFunction : Type 0 where
  pub number : At ℕ
  pub result : Ty
  pub arguments : List RawArgument
  pub body : RawBlock
  pub value : At CAtom

pub record RawAccess : Type 0 where
  pub id : At ℕ
  pub instance : Bool
  pub flag : Option (At CCell)
  pub cell : At CCell

-- A statement of a load function. A target stands at `dst` or `*`; of `* inst -> jr [ N ]` the number stands five tokens
-- further.
pub record RawLoad : Type 0 where
  pub target : At LoadTarget
  pub sign : LoadSign
  pub first : At LoadFactor
  pub more : List (At LoadFactor)

pub record RawLoads : Type 0 where
  pub residual_resist : List RawLoad
  pub residual_react : List RawLoad
  pub jacobian_resist : List RawLoad
  pub jacobian_react : List RawLoad
  pub jacobian_tran : List RawLoad
  pub spice_rhs_dc : List RawLoad
  pub spice_rhs_tran : List RawLoad

-- an element of the nodes, with the fields whose offsets it names
pub record RawNode : Type 0 where
  pub name : List ℕ
  pub units : List ℕ
  pub residual_units : List ℕ
  pub resist : At CField
  pub react : At CField
  pub is_flow : ℕ

-- a pair of nodes; None is `UINT32_MAX`
pub record RawPair : Type 0 where
  pub first : At ℕ
  pub second : At (Option ℕ)

-- An element of the entries. The offset stands at its first token; None is `UINT32_MAX`, and of `offsetof ( inst_K , jq [ N ] )`
-- the number stands six tokens further.
pub record RawEntry : Type 0 where
  pub pair : RawPair
  pub react_offset : At (Option ℕ)
  pub resist : Bool
  pub react : Bool

pub record RawParam : Type 0 where
  pub names : List (List ℕ)
  pub num_alias : At ℕ
  pub description : List ℕ
  pub units : List ℕ
  pub integer : Bool
  pub kind : At ParamKind

-- the sizes of the four arrays of the instance
pub record RawSizes : Type 0 where
  pub node : At ℕ
  pub jr : At ℕ
  pub jq : At ℕ
  pub col : At ℕ

pub record RawModule : Type 0 where
  -- the module's number in each C name that has one, calls of functions among them
  pub numbers : List (At ℕ)
  pub model_fields : List RawField
  pub sizes : RawSizes
  pub inst_fields : List RawField
  pub functions : List RawFunction
  pub access : List RawAccess
  pub setup_model : RawBlock
  pub setup_instance : RawBlock
  pub eval : RawBlock
  pub loads : RawLoads
  pub nodes : List RawNode
  pub entries : List RawEntry
  pub collapse : List RawPair
  pub params : List RawParam

-- a descriptor, with the numbers that it writes
pub record RawDescriptor : Type 0 where
  -- the module's number in each C name
  pub numbers : List (At ℕ)
  pub name : List ℕ
  pub num_nodes : At ℕ
  pub num_terminals : At ℕ
  pub num_entries : At ℕ
  pub num_collapsible : At ℕ
  pub num_params : At ℕ
  pub num_instance_params : At ℕ
  pub num_opvars : At ℕ

pub record RawFile : Type 0 where
  pub modules : List RawModule
  pub num_descriptors : At ℕ
  pub descriptors : List RawDescriptor
