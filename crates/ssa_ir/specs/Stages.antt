-- The invariants of what the passes hand on: bodies in their frames, and the numbers that stand for something at their ends.
use Rattle.std.specs.Prelude.{◌≡◌, ℕ, Bool, true, false, List, [], ◌∷◌, Option, Some, None, All, length}
use Rattle.alg_laws.specs.declared.number.Ty.{Ty}
use Rattle.alg_laws.specs.declared.number.Ty.TheVariants as type
use Rattle.ssa_ir.specs.declared.stages.BranchNumbers.{BranchNumbers}
use Rattle.ssa_ir.specs.declared.stages.BranchParts.{BranchParts}
use Rattle.ssa_ir.specs.declared.stages.Collapse.{Collapse}
use Rattle.ssa_ir.specs.declared.stages.Derived.{Derived}
use Rattle.ssa_ir.specs.declared.stages.EntryParts.{EntryParts}
use Rattle.ssa_ir.specs.declared.stages.Flags.{Flags}
use Rattle.ssa_ir.specs.declared.stages.Lowered.{Lowered}
use Rattle.ssa_ir.specs.declared.stages.ModuleBodies.{ModuleBodies}
use Rattle.ssa_ir.specs.declared.stages.ParameterNumbers.{ParameterNumbers}
use Rattle.ssa_ir.specs.declared.stages.Parts.{Parts}
use Rattle.ssa_ir.specs.declared.stages.Rows.{Rows}
use Rattle.ssa_ir.specs.declared.stages.SetUp.{SetUp}
use Rattle.ssa_ir.specs.declared.stages.Split.{Split}
use Rattle.ssa_ir.specs.declared.stages.Staged.{Staged}
use Rattle.ssa_ir.specs.Invariant.{Frame, Scope, IsInScope, IsBody, AreFunctions, at_end, signatures}

-- a number that is there has a type
abbrev pub HasTypeIfAny : Scope → Ty → Option ℕ → Type 0
HasTypeIfAny sc t None = Unit {0}
HasTypeIfAny sc t (Some k) = sc k ≡ Some t

abbrev pub PartsIn : Scope → Parts → Type 0
PartsIn sc p = (sc p.resist ≡ Some type.Real) × HasTypeIfAny sc type.Real p.react

-- The parts of a variable's value: that of an integer has no reactive part.
abbrev pub ValueIn : Scope → Parts → Type 0
ValueIn sc p = IsInScope sc p.resist × HasTypeIfAny sc type.Real p.react

abbrev pub CollapseIn : Scope → Option Collapse → Type 0
CollapseIn sc None = Unit {0}
CollapseIn sc (Some c) = (sc c.potential ≡ Some type.Integer) × (sc c.mark ≡ Some type.Integer)

abbrev pub BranchIn : Scope → BranchNumbers → Type 0
BranchIn sc b = (sc b.sum ≡ Some type.Real) × CollapseIn sc b.collapse

abbrev pub BranchPartsIn : Scope → BranchParts → Type 0
BranchPartsIn sc b = PartsIn sc b.sum × CollapseIn sc b.collapse

abbrev pub EntryIn : Scope → EntryParts → Type 0
EntryIn sc e = HasTypeIfAny sc type.Real e.resist × HasTypeIfAny sc type.Real e.react

-- the value of each parameter has the parameter's type
abbrev pub ParametersIn : Scope → List Ty → List ParameterNumbers → Type 0
ParametersIn sc [] [] = Unit {0}
ParametersIn sc (t ∷ ts) (p ∷ ps) = (sc p.value ≡ Some t) × HasTypeIfAny sc type.Integer p.out_of_range × ParametersIn sc ts ps
ParametersIn sc [] (p ∷ ps) = ⊥
ParametersIn sc (t ∷ ts) [] = ⊥

-- Set-up reads what was set for the parameters, and which were set.
abbrev pub set_up_frame : ModuleBodies → Frame
set_up_frame m = record {
  parameters = m.parameters;
  given = true;
  temperature = false;
  unknowns = 0;
  derivatives = false;
  cells = [];
  functions = signatures m.functions;
}

pub record IsSetUp (m : ModuleBodies) (s : SetUp) : Type 0 where
  pub body : IsBody (set_up_frame m) [] s.body
  pub parameters : ParametersIn (at_end [] s.body) m.parameters s.parameters

pub record IsModule (m : ModuleBodies) : Type 0 where
  pub functions : AreFunctions [] m.functions
  pub model : IsSetUp m m.model
  pub instance : IsSetUp m m.instance

-- The analogue blocks read all of a point. Whether they hold time derivatives, and which cells they read, the stage says.
abbrev pub analogue_frame : ModuleBodies → Bool → List Ty → Frame
analogue_frame m derivatives cells = record {
  parameters = m.parameters;
  given = true;
  temperature = true;
  unknowns = m.unknowns;
  derivatives = derivatives;
  cells = cells;
  functions = signatures m.functions;
}

-- What set-up computes reads no unknown.
abbrev pub fixed_frame : ModuleBodies → Frame
fixed_frame m = record (analogue_frame m false []) { unknowns = 0 }

pub record AreFlags (m : ModuleBodies) (f : Flags) : Type 0 where
  pub body : IsBody (fixed_frame m) [] f.body
  pub marks : All (λ k. at_end [] f.body k ≡ Some type.Integer) f.marks

pub record IsLowered (l : Lowered) : Type 0 where
  pub module' : IsModule l.module
  pub body : IsBody (analogue_frame l.module true []) [] l.body
  pub variables : All (IsInScope (at_end [] l.body)) l.variables
  pub branches : All (BranchIn (at_end [] l.body)) l.branches

pub record IsSplit (s : Split) : Type 0 where
  pub module' : IsModule s.module
  pub body : IsBody (analogue_frame s.module false []) [] s.body
  pub variables : All (ValueIn (at_end [] s.body)) s.variables
  pub branches : All (BranchPartsIn (at_end [] s.body)) s.branches

pub record IsRows (r : Rows) : Type 0 where
  pub module' : IsModule r.module
  pub body : IsBody (analogue_frame r.module false []) [] r.body
  pub rows : All (PartsIn (at_end [] r.body)) r.rows
  pub each : length r.rows ≡ r.module.unknowns
  pub operating_point : All (IsInScope (at_end [] r.body)) r.operating_point
  pub flags : AreFlags r.module r.flags

pub record IsDerived (d : Derived) : Type 0 where
  pub module' : IsModule d.module
  pub body : IsBody (analogue_frame d.module false []) [] d.body
  pub rows : All (PartsIn (at_end [] d.body)) d.rows
  pub each : length d.rows ≡ d.module.unknowns
  pub operating_point : All (IsInScope (at_end [] d.body)) d.operating_point
  pub flags : AreFlags d.module d.flags
  pub entries : All (EntryIn (at_end [] d.body)) d.entries

-- the number of each cell's value has its type
abbrev pub CellsIn : Scope → List Ty → List ℕ → Type 0
CellsIn sc [] [] = Unit {0}
CellsIn sc (t ∷ ts) (k ∷ ks) = (sc k ≡ Some t) × CellsIn sc ts ks
CellsIn sc [] (k ∷ ks) = ⊥
CellsIn sc (t ∷ ts) [] = ⊥

pub record IsStaged (s : Staged) : Type 0 where
  pub module' : IsModule s.module
  pub body : IsBody (analogue_frame s.module false s.cell_types) [] s.body
  pub rows : All (PartsIn (at_end [] s.body)) s.rows
  pub each : length s.rows ≡ s.module.unknowns
  pub operating_point : All (IsInScope (at_end [] s.body)) s.operating_point
  pub flags : AreFlags s.module s.flags
  pub entries : All (EntryIn (at_end [] s.body)) s.entries
  pub stored : IsBody (fixed_frame s.module) [] s.stored
  pub cells : CellsIn (at_end [] s.stored) s.cell_types s.cells
