-- Short names for the parts of C files that several of the files here have, and for numbers modulo 1000003.
use Rattle.std.specs.Prelude.{ℕ, ◌-◌, true, false, pos, List, [], ◌∷◌, Some, codes}
use Rattle.alg_laws.specs.declared.number.Ty.{Ty}
use Rattle.alg_laws.specs.declared.number.Ty.TheVariants.{Integer, Real}
use Rattle.alg_laws.specs.Residue.{modulus}
use Rattle.c_tree.specs.declared.body.CAtom.{CAtom}
use Rattle.c_tree.specs.declared.body.CField.{CField}
use Rattle.c_tree.specs.declared.body.CField.TheVariants.{Param, Given, Resist, React, EntryResist, EntryReact}
use Rattle.c_tree.specs.declared.body.CRight.{CRight}
use Rattle.c_tree.specs.declared.body.CSimple.TheVariants.{Constant, Join, Assign, SetCell}
use Rattle.c_tree.specs.declared.body.CStatement.{CStatement}
use Rattle.c_tree.specs.declared.body.CStatement.TheVariants.{Simple, If}
use Rattle.c_tree.specs.declared.file.AccessRow.{AccessRow}
use Rattle.c_tree.specs.declared.load.CLoad.{CLoad}
use Rattle.c_tree.specs.declared.load.LoadFactor.TheVariants.{Alpha, Cell, Solution}
use Rattle.c_tree.specs.declared.load.LoadSign.TheVariants.{Add, Subtract}
use Rattle.c_tree.specs.declared.load.LoadTarget.TheVariants.{Node, EntryResist as ResistPlace, EntryReact as ReactPlace}
use Rattle.c_tree.specs.declared.table.EntryRow.{EntryRow}
use Rattle.c_tree.specs.declared.table.NodeRow.{NodeRow}
use Rattle.c_tree.specs.SampleFile.{inst, model, local, real, in_model, node, load}

-- a node, whose unknown is a potential and whose row is a sum of flows
abbrev pub volts : List ℕ → NodeRow
volts name = node name (codes "V") (codes "A") 0

-- entries of the Jacobian by their rows and columns
abbrev pub resistive : ℕ → ℕ → EntryRow
resistive row col = record { row = row; col = col; resist = true; react = false }

abbrev pub reactive : ℕ → ℕ → EntryRow
reactive row col = record { row = row; col = col; resist = false; react = true }

abbrev pub both_parts : ℕ → ℕ → EntryRow
both_parts row col = record { row = row; col = col; resist = true; react = true }

-- the row of the access function for a parameter of the model
abbrev pub of_model : ℕ → AccessRow
of_model id = record { id = id; instance = false; flag = Some (model (Given id)); cell = model (Param id) }

-- `0e0` and `1e0`
abbrev pub nought : CAtom
nought = real 0 (pos 0)

abbrev pub unity : CAtom
unity = real 1 (pos 0)

-- statements without blocks
abbrev pub number : ℕ → CRight → CStatement
number i side = Simple (Constant Real i side)

abbrev pub int : ℕ → CRight → CStatement
int i side = Simple (Constant Integer i side)

abbrev pub assign : ℕ → CAtom → CStatement
assign i value = Simple (Assign i value)

abbrev pub put : CField → CAtom → CStatement
put field value = Simple (SetCell (inst field) value)

-- Local `i` becomes the parameter of the model where that is given, and another value where it isn't; the parameter's cell keeps it.
abbrev pub given_or : Ty → ℕ → ℕ → CAtom → List CStatement
given_or ty i id other =
    Simple (Join ty i) ∷ If (in_model (Given id)) 1 1 ∷ assign i (in_model (Param id)) ∷ assign i other
    ∷ Simple (SetCell (model (Param id)) (local i)) ∷ []

-- row `i` of the vector takes its resistive residual, or loses it
abbrev pub adds_row : ℕ → CLoad
adds_row i = load (Node i) Add (Cell (Resist i)) []

abbrev pub loses_row : ℕ → CLoad
loses_row i = load (Node i) Subtract (Cell (Resist i)) []

-- row `i` of the vector takes its reactive residual
abbrev pub adds_charge : ℕ → CLoad
adds_charge i = load (Node i) Add (Cell (React i)) []

-- the place of an entry takes its resistive part; its own place of reactive parts, or that of the resistive ones, takes alpha times
-- the reactive part
abbrev pub adds_entry : ℕ → CLoad
adds_entry e = load (ResistPlace e) Add (Cell (EntryResist e)) []

abbrev pub adds_reactive : ℕ → CLoad
adds_reactive e = load (ReactPlace e) Add Alpha (Cell (EntryReact e) ∷ [])

abbrev pub adds_in_time : ℕ → CLoad
adds_in_time e = load (ResistPlace e) Add Alpha (Cell (EntryReact e) ∷ [])

-- a row of the vector takes the product of an entry's part with the unknown of its column
abbrev pub adds_product : ℕ → ℕ → ℕ → CLoad
adds_product row e col = load (Node row) Add (Cell (EntryResist e)) (Solution col ∷ [])

abbrev pub adds_product_in_time : ℕ → ℕ → ℕ → CLoad
adds_product_in_time row e col = load (Node row) Add Alpha (Cell (EntryReact e) ∷ Solution col ∷ [])

-- the negative of a number modulo 1000003
abbrev pub minus : ℕ → ℕ
minus n = modulus - n

-- 1/2 modulo 1000003, since twice 500002 is 1000004
abbrev pub half : ℕ
half = 500002
