-- A file that obeys the rules of form is never stuck: where the machine has the module's cells, mapped numbers are in range, and
-- each setting finds its cell, a run ends with a machine, for want of turns, or at an integer that leaves its range.
use Rattle.std.specs.Prelude.{◌≡◌, ◌<◌, ℕ, List, ◌∷◌, ◌++◌, length, map, replicate, Option, Some, None, slice_get}
use Rattle.alg_laws.specs.declared.number.Number.{Number}
use Rattle.alg_laws.specs.declared.number.Ty.{Ty}
use Rattle.alg_laws.specs.declared.number.Ty.TheVariants.{Integer, Real}
use Rattle.alg_laws.specs.NumberOps.{type_of}
use Rattle.alg_laws.specs.Operations.{Operations}
use Rattle.alg_laws.specs.Outcome.{ends}
use Rattle.c_tree.specs.declared.file.AccessRow.{AccessRow}
use Rattle.c_tree.specs.declared.file.CFile.{CFile}
use Rattle.c_tree.specs.declared.file.CModule.{CModule}
use Rattle.c_tree.specs.declared.load.CLoad.{CLoad}
use Rattle.c_tree.specs.declared.load.LoadFunction.{LoadFunction}
use Rattle.c_tree.specs.declared.load.LoadFunction.TheVariants.{ResidualResist, ResidualReact, JacobianResist, JacobianReact, JacobianTran, SpiceRhsDc, SpiceRhsTran}
use Rattle.c_tree.specs.declared.load.LoadTarget.{LoadTarget}
use Rattle.c_tree.specs.declared.load.LoadTarget.TheVariants as target
use Rattle.c_tree.specs.declared.table.FieldRow.{FieldRow}
use Rattle.c_tree.specs.Form.{ObeysForm}
use Rattle.c_machine.specs.Machine.{stuck, Machine, flag_count, place_of, cells_of}
use Rattle.c_machine.specs.Runs.{HostCall, set_parameter, setup_model, setup_instance, evaluate, load_residual_resist, load_residual_react, load_jacobian_resist, load_jacobian_react, load_jacobian_tran, load_rhs_dc, load_rhs_tran, row_for, run_calls}
use Rattle.c_tree.specs.Spelling.{EachHas}
use Rattle.c_tree.specs.Text.{field_type, loads_of}

abbrev pub types_of : List FieldRow → List Ty
types_of = map (λ row. field_type (FieldRow.integer row))

-- the machine has the module's cells with their types, and as many mappings as there are unknowns and entries
pub record HasCells {V : Type 0} (m : CModule) (s : Machine V) : Type 0 where
  pub model : map (λ v. type_of v) s.model ≡ types_of m.model_fields
  pub instance : map (λ v. type_of v) s.instance ≡ replicate (flag_count m) Integer ++ Real ∷ types_of m.inst_fields
  pub node : length s.node ≡ length m.nodes
  pub resist_to : length s.resist_to ≡ length m.entries
  pub react_to : length s.react_to ≡ length m.entries

-- each number is below another
abbrev pub AreBelow : ℕ → List ℕ → Type 0
AreBelow count = EachHas (λ place. place < count)

-- the number to which a load's target is mapped is below the length of what it is used on
abbrev pub TargetFits : {V : Type 0} → Machine V → LoadTarget → Type 0
TargetFits s (target.Node i) = (place : ℕ) → slice_get s.node i ≡ Some place → place < length s.vector
TargetFits s (target.EntryResist e) = (place : ℕ) → slice_get s.resist_to e ≡ Some place → place < length s.matrix
TargetFits s (target.EntryReact e) = (place : ℕ) → slice_get s.react_to e ≡ Some place → place < length s.matrix

abbrev pub LoadFits : {V : Type 0} → CModule → Machine V → LoadFunction → Type 0
LoadFits m s f = EachHas (λ load. TargetFits s (CLoad.target load)) (loads_of m.loads f)

-- a row that holds for a setting is there, and its cell has the type of the value
abbrev pub SettingFits : {V : Type 0} → CModule → Machine V → Option AccessRow → Number V → Type 0
SettingFits m s None v = ⊥
SettingFits m s (Some row) v = (place : ℕ) → place_of m row.cell ≡ Some place → slice_get (map (λ u. type_of u) (cells_of s row.cell.level)) place ≡ Some (type_of v)

-- what a call asks of the machine
abbrev pub CallFits : {V : Type 0} → CModule → Machine V → HostCall V → Type 0
CallFits m s (set_parameter instance id v) = SettingFits m s (row_for instance id m.access) v
CallFits m s setup_model = Unit {0}
CallFits m s (setup_instance t) = Unit {0}
CallFits m s (evaluate solution) = AreBelow (length solution) s.node
CallFits m s load_residual_resist = LoadFits m s ResidualResist
CallFits m s load_residual_react = LoadFits m s ResidualReact
CallFits m s load_jacobian_resist = LoadFits m s JacobianResist
CallFits m s (load_jacobian_react alpha) = LoadFits m s JacobianReact
CallFits m s (load_jacobian_tran alpha) = LoadFits m s JacobianTran
CallFits m s (load_rhs_dc x) = LoadFits m s SpiceRhsDc × AreBelow (length x) s.node
CallFits m s (load_rhs_tran x alpha) = LoadFits m s SpiceRhsTran × AreBelow (length x) s.node

-- No run of a module of a file that obeys the rules of form is stuck.
pub record NeverStuck (V : Type 0) (o : Operations V) (valid : V → Type 0) : Type 0 where
  pub runs : (f : CFile) (k n : ℕ) (m : CModule) (calls : List (HostCall V)) (s : Machine V) → ObeysForm f
      → slice_get f.modules k ≡ Some m → HasCells m s → EachHas (CallFits m s) calls
      → run_calls o n m calls s ≡ ends stuck → ⊥
