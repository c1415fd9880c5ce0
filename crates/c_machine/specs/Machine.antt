-- The machine on which the functions of a C module run, over any algebra: the cells of the two structs, the mappings of nodes and
-- entries, the host's vector and matrix, and the errors that set-ups report. A body that asks for what isn't there, or for
-- another type than is there, is stuck; the rules of form leave no such body.
use Rattle.std.specs.Prelude.{ℕ, ◌+◌, Bool, true, false, if◌then◌else◌, pos}
use Rattle.std.specs.Prelude.{List, [], ◌∷◌, ◌++◌, length, map, replicate, slice_get, set, Option, Some, None, nat_lt}
use Rattle.std.specs.List.{enumerate_from}
use Rattle.std.specs.Str.{bytes_eq}
use Rattle.alg_laws.specs.declared.number.Number.{Number}
use Rattle.alg_laws.specs.declared.number.Number.TheVariants.{Real, Int}
use Rattle.alg_laws.specs.declared.number.Reason.{Reason}
use Rattle.alg_laws.specs.declared.number.Ty.{Ty}
use Rattle.alg_laws.specs.NumberOps.{type_of, zero_of}
use Rattle.alg_laws.specs.Operations.{Operations}
use Rattle.alg_laws.specs.Outcome.{Outcome, gives, ends, among, ◌>>=◌}
use Rattle.c_tree.specs.declared.body.CCell.{CCell}
use Rattle.c_tree.specs.declared.body.CField.{CField}
use Rattle.c_tree.specs.declared.body.CField.TheVariants.{Temperature}
use Rattle.c_tree.specs.declared.body.Level.{Level}
use Rattle.c_tree.specs.declared.body.Level.TheVariants.{Instance, Model}
use Rattle.c_tree.specs.declared.file.CModule.{CModule}
use Rattle.c_tree.specs.declared.table.FieldRow.{FieldRow}
use Rattle.c_tree.specs.SameType.{same_type}
use Rattle.c_tree.specs.Text.{field_word, field_type}
use Rattle.c_tree.specs.Words.{array_length}

-- why a machine stops early: what it does is undefined, or it is stuck
pub data Stop : Type 0 where
  undefined : Reason → Stop
  stuck : Stop

-- what is defined as in the source
abbrev pub defined : {V : Type 0} → Outcome Reason V → Outcome Stop V
defined = among undefined

-- what is there
abbrev pub found : {V : Type 0} → Option V → Outcome Stop V
found None = ends stuck
found (Some x) = gives x

-- go on where a test holds
abbrev pub only_if : {V : Type 0} → Bool → Outcome Stop V → Outcome Stop V
only_if test go = if test then go else ends stuck

-- The machine of one instance and its model. `model` has the cells of the model's fields in their order. `instance` has the
-- collapse flags, then the temperature, then the cells of the instance's fields in their order. Unknown i is mapped to the place
-- `node` i of solutions and of the vector, the parts of entry e to the places `resist_to` e and `react_to` e of the matrix.
pub record Machine (V : Type 0) : Type 0 where
  pub model : List (Number V)
  pub instance : List (Number V)
  pub node : List ℕ
  pub resist_to : List ℕ
  pub react_to : List ℕ
  pub vector : List V
  pub matrix : List V
  -- the ids of parameters that set-ups found out of their range
  pub errors : List ℕ

-- a machine that has nothing, on which functions run
abbrev pub no_machine : {V : Type 0} → Machine V
no_machine =
    record { model = []; instance = []; node = []; resist_to = []; react_to = []; vector = []; matrix = []; errors = [] }

-- how many collapse flags an instance has
abbrev pub flag_count : CModule → ℕ
flag_count m = array_length (length m.collapse)

-- a cell at zero, by its type
abbrev pub zero_cell : {V : Type 0} → Operations V → FieldRow → Number V
zero_cell o row = zero_of o (field_type row.integer)

-- each element of a list is mapped to the place of its own number
abbrev pub own_places : {T : Type 0} → List T → List ℕ
own_places elements = map (λ p. p.0) (enumerate_from 0 elements)

-- the machine of a new instance: its cells are at zero, and each node and entry has the place of its own number
abbrev pub new_machine : {V : Type 0} → Operations V → CModule → List V → List V → Machine V
new_machine o m vector matrix = record {
  model = map (zero_cell o) m.model_fields;
  instance = replicate (flag_count m) (Int (pos 0)) ++ Real o.zero ∷ map (zero_cell o) m.inst_fields;
  node = own_places m.nodes;
  resist_to = own_places m.entries;
  react_to = own_places m.entries;
  vector = vector;
  matrix = matrix;
  errors = [];
}

-- the place of a field among some, counted from a number on
abbrev pub place_among : ℕ → CField → List FieldRow → Option ℕ
place_among i field [] = None
place_among i field (row ∷ rest) = if bytes_eq row.name (field_word field) then Some i else place_among (i + 1) field rest

abbrev pub instance_place : CModule → CField → Option ℕ
instance_place m Temperature = Some (flag_count m)
instance_place m field = place_among (flag_count m + 1) field m.inst_fields

-- the place of a cell in its struct
abbrev pub place_of : CModule → CCell → Option ℕ
place_of m cell = by_level cell.level
  where
    by_level : Level → Option ℕ
    by_level Model = place_among 0 cell.field m.model_fields
    by_level Instance = instance_place m cell.field

-- a value where one of this type is wanted
abbrev pub typed : {V : Type 0} → Ty → Number V → Outcome Stop (Number V)
typed ty v = only_if (same_type (type_of v) ty) (gives v)

-- a list with another value at a place, where a value of the same type is
abbrev pub put_at : {V : Type 0} → List (Number V) → ℕ → Number V → Outcome Stop (List (Number V))
put_at cells i v = do
  old ← found (slice_get cells i)
  new ← typed (type_of old) v
  gives (set cells i new)

abbrev pub cells_of : {V : Type 0} → Machine V → Level → List (Number V)
cells_of s Instance = s.instance
cells_of s Model = s.model

abbrev pub with_cells : {V : Type 0} → Machine V → Level → List (Number V) → Machine V
with_cells s Instance cells = record s { instance = cells }
with_cells s Model cells = record s { model = cells }

abbrev pub read_cell : {V : Type 0} → CModule → Machine V → CCell → Outcome Stop (Number V)
read_cell m s cell = do
  place ← found (place_of m cell)
  found (slice_get (cells_of s cell.level) place)

abbrev pub write_cell : {V : Type 0} → CModule → CCell → Number V → Machine V → Outcome Stop (Machine V)
write_cell m cell v s = do
  place ← found (place_of m cell)
  cells ← put_at (cells_of s cell.level) place v
  gives (with_cells s cell.level cells)

-- a collapse flag is an integer
abbrev pub write_flag : {V : Type 0} → CModule → ℕ → Number V → Machine V → Outcome Stop (Machine V)
write_flag m pair v s = only_if (nat_lt pair (flag_count m)) (do
  cells ← put_at s.instance pair v
  gives (record s { instance = cells }))

-- the value of a list at the place to which a number is mapped
abbrev pub at_place : {V : Type 0} → List ℕ → List V → ℕ → Outcome Stop V
at_place places values i = do
  place ← found (slice_get places i)
  found (slice_get values place)
