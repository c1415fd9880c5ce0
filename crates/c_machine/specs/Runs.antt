-- What a host does with an instance, and its runs: lists of calls with the machine after each.
use Rattle.std.specs.Prelude.{ℕ, Bool, true, false, ◌==◌, ◌&&◌, ◌||◌, not, nat_lt, pos, if◌then◌else◌, List, [], ◌∷◌, Option, Some, None}
use Rattle.alg_laws.specs.declared.number.Number.{Number}
use Rattle.alg_laws.specs.declared.number.Number.TheVariants.{Real, Int}
use Rattle.alg_laws.specs.Operations.{Operations}
use Rattle.alg_laws.specs.Outcome.{Outcome, gives, ends, ◌>>=◌}
use Rattle.c_tree.specs.declared.body.CCell.{CCell}
use Rattle.c_tree.specs.declared.body.CField.TheVariants.{Temperature}
use Rattle.c_tree.specs.declared.body.CStatement.{CStatement}
use Rattle.c_tree.specs.declared.body.Level.TheVariants.{Instance}
use Rattle.c_tree.specs.declared.file.AccessRow.{AccessRow}
use Rattle.c_tree.specs.declared.file.CModule.{CModule}
use Rattle.c_tree.specs.declared.load.LoadFunction.{LoadFunction}
use Rattle.c_tree.specs.declared.load.LoadFunction.TheVariants.{ResidualResist, ResidualReact, JacobianResist, JacobianReact, JacobianTran, SpiceRhsDc, SpiceRhsTran}
use Rattle.c_tree.specs.Blocks.{block_of}
use Rattle.c_machine.specs.Execution.{Scope, no_locals, run_block, calls_of}
use Rattle.c_machine.specs.Loading.{LoadArguments, run_loads}
use Rattle.c_machine.specs.Machine.{Stop, stuck, Machine, write_cell}
use Rattle.c_tree.specs.Text.{loads_of}

-- A call of a function of the module (OsdiDescriptor, the fields access, setup_model, setup_instance, eval and load_..).
pub data HostCall (V : Type 0) : Type 0 where
  -- whether the instance's cell is asked for, the id, and the value that is written to the cell
  set_parameter : Bool → ℕ → Number V → HostCall V
  setup_model : HostCall V
  -- the temperature
  setup_instance : V → HostCall V
  -- the solution
  evaluate : List V → HostCall V
  load_residual_resist : HostCall V
  load_residual_react : HostCall V
  load_jacobian_resist : HostCall V
  -- alpha
  load_jacobian_react : V → HostCall V
  load_jacobian_tran : V → HostCall V
  -- the solution
  load_rhs_dc : List V → HostCall V
  -- the solution, and alpha
  load_rhs_tran : List V → V → HostCall V

-- the first row that holds for a call
abbrev pub row_for : Bool → ℕ → List AccessRow → Option AccessRow
row_for instance id [] = None
row_for instance id (row ∷ rest) =
    if row.id == id && (instance || not row.instance) then Some row else row_for instance id rest

-- a flag that is there becomes 1
abbrev pub raise_flag : {V : Type 0} → CModule → Option CCell → Machine V → Outcome Stop (Machine V)
raise_flag m None s = gives s
raise_flag m (Some cell) s = write_cell m cell (Int (pos 1)) s

-- a setting: the row's flag is raised, and the value is written to its cell
abbrev pub set_by : {V : Type 0} → CModule → Option AccessRow → Number V → Machine V → Outcome Stop (Machine V)
set_by m None v s = ends stuck
set_by m (Some row) v s = raise_flag m row.flag s >>= write_cell m row.cell v

-- the temperature of an instance
abbrev pub with_temperature : {V : Type 0} → CModule → V → Machine V → Outcome Stop (Machine V)
with_temperature m t s = write_cell m (record { level = Instance; field = Temperature }) (Real t) s

module _ {V : Type 0} (o : Operations V) (n : ℕ) (m : CModule) where
  -- a body whose locals begin anew
  abbrev pub run_body : Scope V → List CStatement → Machine V → Outcome Stop (Machine V)
  run_body c body s = do
    last ← run_block o n c (block_of body) (record { locals = no_locals; machine = s })
    gives last.machine

  abbrev pub model_scope : Scope V
  model_scope = record {
    tree = m;
    has_model = true;
    has_instance = false;
    reports = true;
    solution = None;
    arguments = λ i. None;
    calls = calls_of o n m;
  }

  abbrev pub instance_scope : Scope V
  instance_scope = record model_scope { has_instance = true }

  abbrev pub eval_scope : List V → Scope V
  eval_scope solution = record instance_scope { reports = false; solution = Some solution }

  abbrev pub run_load_function : LoadFunction → LoadArguments V → Machine V → Outcome Stop (Machine V)
  run_load_function f given s = run_loads o m given (loads_of m.loads f) s

  -- the machine after a call
  abbrev pub run_call : HostCall V → Machine V → Outcome Stop (Machine V)
  run_call (set_parameter instance id v) s = set_by m (row_for instance id m.access) v s
  run_call setup_model s = run_body model_scope m.setup_model s
  run_call (setup_instance t) s = with_temperature m t s >>= run_body instance_scope m.setup_instance
  run_call (evaluate solution) s = run_body (eval_scope solution) m.eval s
  run_call load_residual_resist s =
      run_load_function ResidualResist (record { has_dst = true; alpha = None; solution = None }) s
  run_call load_residual_react s =
      run_load_function ResidualReact (record { has_dst = true; alpha = None; solution = None }) s
  run_call load_jacobian_resist s =
      run_load_function JacobianResist (record { has_dst = false; alpha = None; solution = None }) s
  run_call (load_jacobian_react alpha) s =
      run_load_function JacobianReact (record { has_dst = false; alpha = Some alpha; solution = None }) s
  run_call (load_jacobian_tran alpha) s =
      run_load_function JacobianTran (record { has_dst = false; alpha = Some alpha; solution = None }) s
  run_call (load_rhs_dc x) s =
      run_load_function SpiceRhsDc (record { has_dst = true; alpha = None; solution = Some x }) s
  run_call (load_rhs_tran x alpha) s =
      run_load_function SpiceRhsTran (record { has_dst = true; alpha = Some alpha; solution = Some x }) s

  -- the machines after each of some calls
  abbrev pub run_calls : List (HostCall V) → Machine V → Outcome Stop (List (Machine V))
  run_calls [] s = gives []
  run_calls (call ∷ rest) s = do
    next ← run_call call s
    later ← run_calls rest next
    gives (next ∷ later)

-- where some machines after a first one end
abbrev pub last_machine : {V : Type 0} → Machine V → List (Machine V) → Machine V
last_machine s [] = s
last_machine s (next ∷ later) = last_machine next later

-- the machine after the last of some calls
abbrev pub run_to_end : {V : Type 0} → Operations V → ℕ → CModule → List (HostCall V) → Machine V → Outcome Stop (Machine V)
run_to_end o n m calls s = do
  later ← run_calls o n m calls s
  gives (last_machine s later)

-- whether a call is a load
abbrev pub is_load : {V : Type 0} → HostCall V → Bool
is_load (set_parameter instance id v) = false
is_load setup_model = false
is_load (setup_instance t) = false
is_load (evaluate solution) = false
is_load _ = true

module _ {V : Type 0} where
  abbrev mutual
    -- behind an evaluation: loads, evaluations, and further rounds
    pub goes_on : List (HostCall V) → Bool
    goes_on [] = true
    goes_on (evaluate solution ∷ rest) = goes_on rest
    goes_on (setup_instance t ∷ rest) = begins_evaluations rest
    goes_on (call ∷ rest) = is_load call && goes_on rest

    -- behind the set-up of an instance: an evaluation, and what may follow it
    pub begins_evaluations : List (HostCall V) → Bool
    begins_evaluations (evaluate solution ∷ rest) = goes_on rest
    begins_evaluations _ = false

  -- a round, and what may follow it
  abbrev pub begins_round : List (HostCall V) → Bool
  begins_round (setup_instance t ∷ rest) = begins_evaluations rest
  begins_round _ = false

  -- A run of a module that has so many parameters of the instance, whose ids are the first: settings of parameters, on the instance
  -- of its own alone, the set-up of the model, and one or more rounds. A round is a set-up of the instance, an evaluation, and then
  -- evaluations and loads.
  abbrev pub is_run : ℕ → List (HostCall V) → Bool
  is_run own (set_parameter instance id v ∷ rest) = (not instance || nat_lt id own) && is_run own rest
  is_run own (setup_model ∷ rest) = begins_round rest
  is_run own _ = false
