-- What the functions of a short C file do, over any algebra. The machine has the cells of an instance and the vector
-- that loads add to; the locals of an evaluation begin anew with each call.
use Rattle.std.specs.Prelude.{ℕ, Bool, false, ◌==◌, List, [], ◌∷◌, if◌then◌else◌}
use Rattle.alg_laws.specs.Operations.{Operations}
use Rattle.c_tree.specs.declared.short.Field.{Field}
use Rattle.c_tree.specs.declared.short.Field.TheVariants.{Param, Row}
use Rattle.c_tree.specs.declared.short.Atom.{Atom}
use Rattle.c_tree.specs.declared.short.Atom.TheVariants as atom
use Rattle.c_tree.specs.declared.short.Operator.{Operator}
use Rattle.c_tree.specs.declared.short.Operator.TheVariants.{Plus, Minus, Times, Over}
use Rattle.c_tree.specs.declared.short.Right.{Right}
use Rattle.c_tree.specs.declared.short.Right.TheVariants.{Same, Negated, Binary}
use Rattle.c_tree.specs.declared.short.Statement.{Statement}
use Rattle.c_tree.specs.declared.short.Statement.TheVariants.{Declare, Set}
use Rattle.c_tree.specs.declared.short.Load.{Load}

-- a value at each number: locals, a solution, a vector
abbrev pub Values : Type 0 → Type 0
Values V = ℕ → V

-- a value at each cell of the instance
abbrev pub Cells : Type 0 → Type 0
Cells V = Field → V

-- the values with another one at a number
abbrev pub with_value : {V : Type 0} → Values V → ℕ → V → Values V
with_value old at new = λ i. if i == at then new else old i

-- whether two cells are one
abbrev pub is_cell : Field → Field → Bool
is_cell (Param i) (Param j) = i == j
is_cell (Row i) (Row j) = i == j
is_cell _ _ = false

-- the cells with another value in one
abbrev pub with_cell : {V : Type 0} → Cells V → Field → V → Cells V
with_cell old at new = λ cell. if is_cell cell at then new else old cell

-- the operators of C between two doubles
abbrev pub operate : {V : Type 0} → Operations V → Operator → V → V → V
operate o Plus x y = o.sum x y
operate o Minus x y = o.sum x (o.negative y)
operate o Times x y = o.product x y
operate o Over x y = o.product x (o.recip y)

-- an atom's value
abbrev pub atom_value : {V : Type 0} → Values V → Values V → Cells V → Atom → V
atom_value unknowns locals cells (atom.Local i) = locals i
atom_value unknowns locals cells (atom.Field cell) = cells cell
atom_value unknowns locals cells (atom.Unknown i) = unknowns i

-- a right side's value
abbrev pub right_value : {V : Type 0} → Operations V → Values V → Values V → Cells V → Right → V
right_value o unknowns locals cells (Same a) = atom_value unknowns locals cells a
right_value o unknowns locals cells (Negated a) = o.negative (atom_value unknowns locals cells a)
right_value o unknowns locals cells (Binary a op b) =
    operate o op (atom_value unknowns locals cells a) (atom_value unknowns locals cells b)

-- the cells after the statements of an evaluation
abbrev pub evaluated : {V : Type 0} → Operations V → Values V → List Statement → Values V → Cells V → Cells V
evaluated o unknowns [] locals cells = cells
evaluated o unknowns (Declare i right ∷ rest) locals cells =
    evaluated o unknowns rest (with_value locals i (right_value o unknowns locals cells right)) cells
evaluated o unknowns (Set cell value ∷ rest) locals cells =
    evaluated o unknowns rest locals (with_cell cells cell (atom_value unknowns locals cells value))

-- the vector after the statements of a load: each adds a row to the target to which its unknown is mapped
abbrev pub loaded : {V : Type 0} → Operations V → (ℕ → ℕ) → Cells V → List Load → Values V → Values V
loaded o node cells [] vector = vector
loaded o node cells (load ∷ rest) vector =
    loaded o node cells rest
    (with_value vector (node load.unknown) (o.sum (vector (node load.unknown)) (cells (Row load.row))))
