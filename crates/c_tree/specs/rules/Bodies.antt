-- The bodies of a module as the rules of form see them: their statements and tests, what these read and set, and which locals are
-- declared before each of them in its block or an enclosing one.
use Rattle.std.specs.Prelude.{ℕ, ◌==◌, if◌then◌else◌, List, [], ◌∷◌, ◌++◌, map}
use Rattle.std.specs.List.{flat_map, enumerate_from}
use Rattle.alg_laws.specs.declared.number.Ty.{Ty}
use Rattle.c_tree.specs.declared.body.CAtom.{CAtom}
use Rattle.c_tree.specs.declared.body.CAtom.TheVariants as atom
use Rattle.c_tree.specs.declared.body.CCell.{CCell}
use Rattle.c_tree.specs.Raw.{At, RawRight, same, negated, contrary, to_real, to_integer, call, binary, RawSimple, constant, join, head, assign, set_cell, set_flag, report, RawBlock, closed, simple, leave, choice, loop, RawArgument, RawFunction, RawModule, RawFile}

-- a local, with its declared type
pub record Declared : Type 0 where
  pub number : ℕ
  pub ty : Ty

-- what a body is made of: statements, the tests of `if` and `break`, and the value that a function returns
pub data Item : Type 0 where
  of_simple : RawSimple → Item
  of_test : At CAtom → Item
  of_value : Ty → At CAtom → Item

-- an item, and the locals that are declared before it in its block or an enclosing one
pub record Scoped : Type 0 where
  pub known : List Declared
  pub item : Item

abbrev pub declares : RawSimple → List Declared
declares (constant ty i side) = record { number = i.value; ty = ty } ∷ []
declares (join ty i) = record { number = i.value; ty = ty } ∷ []
declares (head ty i first) = record { number = i.value; ty = ty } ∷ []
declares (assign i value) = []
declares (set_cell cell value) = []
declares (set_flag pair value) = []
declares (report id) = []

-- the items of a block and its blocks, in the order of the text
abbrev pub scoped : List Declared → RawBlock → List Scoped
scoped known (closed at) = []
scoped known (simple s rest) = record { known = known; item = of_simple s } ∷ scoped (declares s ++ known) rest
scoped known (leave at a rest) = record { known = known; item = of_test a } ∷ scoped known rest
scoped known (choice a x y rest) =
    record { known = known; item = of_test a } ∷ scoped known x ++ scoped known y ++ scoped known rest
scoped known (loop x rest) = scoped known x ++ scoped known rest

-- the locals that a block itself declares
abbrev pub locals_of : RawBlock → List Declared
locals_of (closed at) = []
locals_of (simple s rest) = locals_of rest ++ declares s
locals_of (leave at a rest) = locals_of rest
locals_of (choice a x y rest) = locals_of rest
locals_of (loop x rest) = locals_of rest

-- which body of a module it is; a function is told by its place
pub data BodyKind : Type 0 where
  a_function : ℕ → BodyKind
  setup_of_model : BodyKind
  setup_of_instance : BodyKind
  evaluation : BodyKind

pub record RawBody : Type 0 where
  pub kind : BodyKind
  pub arguments : List RawArgument
  pub block : RawBlock
  -- what stands behind the statements: the value of a function
  pub last : List Item

abbrev pub function_body : ℕ × RawFunction → RawBody
function_body (j, f) =
    record { kind = a_function j; arguments = f.arguments; block = f.body; last = of_value f.result f.value ∷ [] }

abbrev pub plain_body : BodyKind → RawBlock → RawBody
plain_body kind block = record { kind = kind; arguments = []; block = block; last = [] }

-- the bodies of a module
abbrev pub bodies_of : RawModule → List RawBody
bodies_of m =
    map function_body (enumerate_from 0 m.functions)
    ++ plain_body setup_of_model m.setup_model ∷ plain_body setup_of_instance m.setup_instance ∷ plain_body evaluation m.eval ∷ []

-- the items of a body, with what is declared before them
abbrev pub items_of : RawBody → List Scoped
items_of b = scoped [] b.block ++ map (λ item. record { known = locals_of b.block; item = item }) b.last

-- the items of a block and its blocks
abbrev pub items_in : RawBlock → List Item
items_in (closed at) = []
items_in (simple s rest) = of_simple s ∷ items_in rest
items_in (leave at a rest) = of_test a ∷ items_in rest
items_in (choice a x y rest) = of_test a ∷ items_in x ++ items_in y ++ items_in rest
items_in (loop x rest) = items_in x ++ items_in rest

abbrev pub atoms_of_right : RawRight → List (At CAtom)
atoms_of_right (same a) = a ∷ []
atoms_of_right (negated a) = a ∷ []
atoms_of_right (contrary a) = a ∷ []
atoms_of_right (to_real a) = a ∷ []
atoms_of_right (to_integer a) = a ∷ []
atoms_of_right (call f args) = args
atoms_of_right (binary a op b) = a ∷ b ∷ []

abbrev pub atoms_of_simple : RawSimple → List (At CAtom)
atoms_of_simple (constant ty i side) = atoms_of_right side.value
atoms_of_simple (join ty i) = []
atoms_of_simple (head ty i first) = first ∷ []
atoms_of_simple (assign i value) = value ∷ []
atoms_of_simple (set_cell cell value) = value ∷ []
atoms_of_simple (set_flag pair value) = value ∷ []
atoms_of_simple (report id) = []

-- the atoms that an item reads
abbrev pub atoms_of : Item → List (At CAtom)
atoms_of (of_simple s) = atoms_of_simple s
atoms_of (of_test a) = a ∷ []
atoms_of (of_value ty a) = a ∷ []

-- the locals, arguments, cells and unknowns among atoms
abbrev pub local_of : At CAtom → List (At ℕ)
local_of a = among a.value
  where
    among : CAtom → List (At ℕ)
    among (atom.Local i) = record { at = a.at; value = i } ∷ []
    among _ = []

abbrev pub argument_of : At CAtom → List (At ℕ)
argument_of a = among a.value
  where
    among : CAtom → List (At ℕ)
    among (atom.Argument i) = record { at = a.at; value = i } ∷ []
    among _ = []

abbrev pub cell_of : At CAtom → List (At CCell)
cell_of a = among a.value
  where
    among : CAtom → List (At CCell)
    among (atom.Cell cell) = record { at = a.at; value = cell } ∷ []
    among _ = []

abbrev pub unknown_of : At CAtom → List (At ℕ)
unknown_of a = among a.value
  where
    among : CAtom → List (At ℕ)
    among (atom.Unknown i) = record { at = a.at; value = i } ∷ []
    among _ = []

-- the local that a statement sets again
abbrev pub assigned : RawSimple → List (At ℕ)
assigned (assign i value) = i ∷ []
assigned _ = []

-- the cell that a statement sets
abbrev pub set_cells : RawSimple → List (At CCell)
set_cells (set_cell cell value) = cell ∷ []
set_cells _ = []

-- the collapse flag that a statement sets
abbrev pub set_flags : RawSimple → List (At ℕ)
set_flags (set_flag pair value) = pair ∷ []
set_flags _ = []

-- what the statements among items have
abbrev pub of_statement : {T : Type 0} → (RawSimple → List T) → Item → List T
of_statement part (of_simple s) = part s
of_statement part (of_test a) = []
of_statement part (of_value ty a) = []

-- the tokens of the numbers that are a certain one
abbrev pub tokens_of : ℕ → List (At ℕ) → List ℕ
tokens_of i [] = []
tokens_of i (x ∷ rest) = if x.value == i then x.at ∷ tokens_of i rest else tokens_of i rest

-- the tokens at which a number stands again that stood before
abbrev pub repeated : List (At ℕ) → List ℕ
repeated [] = []
repeated (x ∷ rest) = tokens_of x.value rest ++ repeated rest

-- what a rule blames in each module under its number
abbrev pub in_modules : (ℕ → RawModule → List ℕ) → RawFile → List ℕ
in_modules rule raw = flat_map (λ p. rule p.0 p.1) (enumerate_from 0 raw.modules)

-- what a rule blames in each body
abbrev pub in_bodies : (RawModule → RawBody → List ℕ) → RawFile → List ℕ
in_bodies rule = in_modules (λ k m. flat_map (rule m) (bodies_of m))
