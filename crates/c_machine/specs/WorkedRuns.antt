-- Runs that are worked out by hand, over the whole numbers and modulo 1000003: a resistor, a diode whose inner node may collapse,
-- and a loop.
use Rattle.std.specs.Prelude.{◌≡◌, ℕ, Bool, true, false, pos, negsuc, List, [], ◌∷◌, Some, codes, slice_get}
use Rattle.alg_laws.specs.declared.number.Number.{Number}
use Rattle.alg_laws.specs.declared.number.Number.TheVariants.{Real, Int}
use Rattle.alg_laws.specs.declared.number.Reason.TheVariants.{Turns, IntRange}
use Rattle.alg_laws.specs.declared.number.Ty.TheVariants.{Integer, Real as RealTy}
use Rattle.alg_laws.specs.declared.function.Fun1.TheVariants.{Exp}
use Rattle.alg_laws.specs.Outcome.{Outcome, gives, ends, ◌>>=◌}
use Rattle.alg_laws.specs.Residue.{residue_ops}
use Rattle.c_tree.specs.declared.body.CAtom.TheVariants as atom
use Rattle.c_tree.specs.declared.body.CCallee.TheVariants as callee
use Rattle.c_tree.specs.declared.body.CField.TheVariants.{Param, Given, Resist, EntryResist, OpVar}
use Rattle.c_tree.specs.declared.body.COperator.TheVariants.{Minus, Over, Same as Equals}
use Rattle.c_tree.specs.declared.body.CRight.TheVariants.{Negated, Call, Binary}
use Rattle.c_tree.specs.declared.body.CSimple.TheVariants.{Constant, Join, Head, Assign, SetCell, SetCollapse, Report}
use Rattle.c_tree.specs.declared.body.CStatement.{CStatement}
use Rattle.c_tree.specs.declared.body.CStatement.TheVariants.{Simple, If, For}
use Rattle.c_tree.specs.declared.file.CModule.{CModule}
use Rattle.c_tree.specs.declared.load.CLoads.{CLoads}
use Rattle.c_tree.specs.declared.load.LoadFactor.TheVariants.{Cell, Solution}
use Rattle.c_tree.specs.declared.load.LoadSign.TheVariants.{Add, Subtract}
use Rattle.c_tree.specs.declared.load.LoadTarget.TheVariants.{Node, EntryResist as EntryResistTarget}
use Rattle.c_tree.specs.declared.table.ParamKind.TheVariants.{Inst, Model as OfModel}
use Rattle.c_machine.specs.Machine.{Stop, undefined, stuck, Machine, new_machine}
use Rattle.c_machine.specs.Runs.{HostCall, set_parameter, setup_model, setup_instance, evaluate, load_residual_resist, load_residual_react, load_jacobian_resist, load_rhs_dc, run_to_end, is_run}
use Rattle.c_tree.specs.SampleFile.{inst, model, local, whole, real, in_inst, in_model, double, int32, node, load, parameter, sample_module}

-- no load has statements
abbrev pub no_loads : CLoads
no_loads = record {
  residual_resist = [];
  residual_react = [];
  jacobian_resist = [];
  jacobian_react = [];
  jacobian_tran = [];
  spice_rhs_dc = [];
  spice_rhs_tran = [];
}

-- a module with nothing in it
abbrev pub bare : CModule
bare = record {
  name = codes "m";
  nodes = [];
  ports = 0;
  entries = [];
  collapse = [];
  params = [];
  model_fields = [];
  inst_fields = [];
  functions = [];
  access = [];
  setup_model = [];
  setup_instance = [];
  eval = [];
  loads = no_loads;
}

-- A resistor of the model's parameter 0, which is 1 where it isn't given: the flow is the difference of the unknowns over it.
abbrev pub resistor : CModule
resistor = record bare {
  nodes = node (codes "a") (codes "V") (codes "A") 0 ∷ node (codes "c") (codes "V") (codes "A") 0 ∷ [];
  ports = 2;
  entries = record { row = 0; col = 0; resist = true; react = false } ∷ record { row = 0; col = 1; resist = true; react = false } ∷ [];
  params = parameter (codes "r" ∷ []) [] [] OfModel ∷ [];
  model_fields = double (codes "p0") ∷ int32 (codes "g0") ∷ [];
  inst_fields = double (codes "p0") ∷ double (codes "r0") ∷ double (codes "r1") ∷ double (codes "er0") ∷ double (codes "er1") ∷ [];
  access = record { id = 0; instance = false; flag = Some (model (Given 0)); cell = model (Param 0) } ∷ [];
  setup_model =
      Simple (Join RealTy 0) ∷ If (in_model (Given 0)) 1 1 ∷ Simple (Assign 0 (in_model (Param 0)))
      ∷ Simple (Assign 0 (real 1 (pos 0))) ∷ Simple (SetCell (model (Param 0)) (local 0))
      ∷ Simple (Constant Integer 1 (Binary (local 0) Equals (real 0 (pos 0)))) ∷ If (local 1) 1 0 ∷ Simple (Report 0) ∷ [];
  setup_instance = Simple (SetCell (inst (Param 0)) (in_model (Param 0))) ∷ [];
  eval =
      Simple (Constant RealTy 0 (Binary (atom.Unknown 0) Minus (atom.Unknown 1)))
      ∷ Simple (Constant RealTy 1 (Binary (local 0) Over (in_inst (Param 0)))) ∷ Simple (Constant RealTy 2 (Negated (local 1)))
      ∷ Simple (Constant RealTy 3 (Binary (real 1 (pos 0)) Over (in_inst (Param 0)))) ∷ Simple (Constant RealTy 4 (Negated (local 3)))
      ∷ Simple (SetCell (inst (Resist 0)) (local 1)) ∷ Simple (SetCell (inst (Resist 1)) (local 2))
      ∷ Simple (SetCell (inst (EntryResist 0)) (local 3)) ∷ Simple (SetCell (inst (EntryResist 1)) (local 4)) ∷ [];
  loads = record no_loads {
    residual_resist = load (Node 0) Add (Cell (Resist 0)) [] ∷ load (Node 1) Add (Cell (Resist 1)) [] ∷ [];
    jacobian_resist =
        load (EntryResistTarget 0) Add (Cell (EntryResist 0)) [] ∷ load (EntryResistTarget 1) Add (Cell (EntryResist 1)) [] ∷ [];
    spice_rhs_dc =
        load (Node 0) Add (Cell (EntryResist 0)) (Solution 0 ∷ []) ∷ load (Node 0) Add (Cell (EntryResist 1)) (Solution 1 ∷ [])
        ∷ load (Node 0) Subtract (Cell (Resist 0)) [] ∷ [];
  };
}

-- A diode with an inner node, which collapses into its port where the series resistance, a parameter of the instance, is 0.
abbrev pub diode : CModule
diode = record bare {
  nodes = node (codes "a") (codes "V") (codes "A") 0 ∷ node (codes "i") (codes "V") (codes "A") 0 ∷ [];
  ports = 1;
  collapse = record { first = 0; second = Some 1 } ∷ [];
  params = parameter (codes "rs" ∷ []) [] [] Inst ∷ [];
  model_fields = [];
  inst_fields = int32 (codes "g0") ∷ double (codes "p0") ∷ double (codes "r0") ∷ double (codes "r1") ∷ [];
  access = record { id = 0; instance = true; flag = Some (inst (Given 0)); cell = inst (Param 0) } ∷ [];
  setup_instance =
      Simple (Constant Integer 0 (Binary (in_inst (Param 0)) Equals (real 0 (pos 0)))) ∷ Simple (SetCollapse 0 (local 0)) ∷ [];
  eval =
      Simple (Constant RealTy 0 (Call (callee.Fun1 Exp) (atom.Unknown 1 ∷ [])))
      ∷ Simple (SetCell (inst (Resist 1)) (local 0)) ∷ [];
  loads = record no_loads {
    residual_resist = load (Node 0) Add (Cell (Resist 0)) [] ∷ load (Node 1) Add (Cell (Resist 1)) [] ∷ [];
  };
}

-- a body of the evaluation of a module that has nothing else
abbrev pub only_eval : List CStatement → CModule
only_eval body = record bare { inst_fields = int32 (codes "o0") ∷ []; eval = body }

-- the vector, the matrix, the errors and the cells of the instance where calls end
abbrev pub end_of : CModule → ℕ → List (HostCall ℕ) → (Machine ℕ → Machine ℕ) → Outcome Stop (Machine ℕ)
end_of m n calls start = run_to_end residue_ops n m calls (start (new_machine residue_ops m (0 ∷ 5 ∷ []) (0 ∷ 0 ∷ [])))

abbrev pub as_new : Machine ℕ → Machine ℕ
as_new s = s

-- both nodes at the place 1
abbrev pub together : Machine ℕ → Machine ℕ
together s = record s { node = 1 ∷ 1 ∷ [] }

abbrev pub vector_of : CModule → (Machine ℕ → Machine ℕ) → List (HostCall ℕ) → Outcome Stop (List ℕ)
vector_of m start calls = end_of m 10 calls start >>= λ s. gives s.vector

abbrev pub matrix_of : CModule → List (HostCall ℕ) → Outcome Stop (List ℕ)
matrix_of m calls = end_of m 10 calls as_new >>= λ s. gives s.matrix

abbrev pub errors_of : CModule → List (HostCall ℕ) → Outcome Stop (List ℕ)
errors_of m calls = end_of m 10 calls as_new >>= λ s. gives s.errors

abbrev pub cells_after : CModule → ℕ → List (HostCall ℕ) → Outcome Stop (List (Number ℕ))
cells_after m n calls = end_of m n calls as_new >>= λ s. gives s.instance

-- parameter 0 set on the model to 2, set-ups, and an evaluation
abbrev pub at_two : List (HostCall ℕ) → List (HostCall ℕ)
at_two rest = set_parameter false 0 (Real 2) ∷ setup_model ∷ setup_instance 300 ∷ evaluate (7 ∷ 3 ∷ []) ∷ rest

abbrev pub diode_with : ℕ → List (HostCall ℕ)
diode_with rs = set_parameter true 0 (Real rs) ∷ setup_model ∷ setup_instance 300 ∷ []

pub record WorkedCRuns : Type 0 where
  -- (7 - 3) / 2 leaves the first port and enters the second
  pub residuals : vector_of resistor as_new (at_two (load_residual_resist ∷ [])) ≡ gives (2 ∷ 3 ∷ [])
  pub each_load_adds : vector_of resistor as_new (at_two (load_residual_resist ∷ load_residual_resist ∷ [])) ≡ gives (4 ∷ 1 ∷ [])
  pub at_one_place : vector_of resistor together (at_two (load_residual_resist ∷ [])) ≡ gives (0 ∷ 5 ∷ [])
  pub nothing_to_load : vector_of resistor as_new (at_two (load_residual_react ∷ [])) ≡ gives (0 ∷ 5 ∷ [])
  pub entries : matrix_of resistor (at_two (load_jacobian_resist ∷ [])) ≡ gives (500002 ∷ 500001 ∷ [])
  -- 1/2 * 8 + (-1/2) * 2 - 2
  pub right_side : vector_of resistor as_new (at_two (load_rhs_dc (8 ∷ 2 ∷ []) ∷ [])) ≡ gives (1 ∷ 5 ∷ [])
  -- where it isn't given the parameter is 1; the temperature follows the one collapse flag
  pub default : cells_after resistor 10 (setup_model ∷ setup_instance 300 ∷ evaluate (7 ∷ 3 ∷ []) ∷ [])
      ≡ gives (Int (pos 0) ∷ Real 300 ∷ Real 1 ∷ Real 4 ∷ Real 999999 ∷ Real 1 ∷ Real 1000002 ∷ [])
  -- each set-up reports 0 as a value out of its range
  pub reported : errors_of resistor (set_parameter false 0 (Real 0) ∷ setup_model ∷ setup_model ∷ []) ≡ gives (0 ∷ 0 ∷ [])
  pub not_reported : errors_of resistor (set_parameter false 0 (Real 3) ∷ setup_model ∷ []) ≡ gives []
  -- the last setting counts; a row without the test of the instance holds for both kinds of calls
  pub last_setting : errors_of resistor
      (set_parameter false 0 (Real 0) ∷ set_parameter true 0 (Real 3) ∷ setup_model ∷ []) ≡ gives []
  pub no_row : errors_of diode (set_parameter false 0 (Real 0) ∷ []) ≡ ends stuck
  pub no_such_id : errors_of resistor (set_parameter false 1 (Real 0) ∷ []) ≡ ends stuck
  pub setting_of_another_type : errors_of resistor (set_parameter false 0 (Int (pos 0)) ∷ []) ≡ ends stuck
  -- the flag of the pair is 1 where the series resistance is 0
  pub collapses : cells_after diode 10 (diode_with 0)
      ≡ gives (Int (pos 1) ∷ Real 300 ∷ Int (pos 1) ∷ Real 0 ∷ Real 0 ∷ Real 0 ∷ [])
  pub keeps_its_node : cells_after diode 10 (diode_with 6)
      ≡ gives (Int (pos 0) ∷ Real 300 ∷ Int (pos 1) ∷ Real 6 ∷ Real 0 ∷ Real 0 ∷ [])
  -- the first function at 3 is 3 * 3 + 1
  pub flow : vector_of diode as_new (setup_instance 300 ∷ evaluate (2 ∷ 3 ∷ []) ∷ load_residual_resist ∷ [])
      ≡ gives (0 ∷ 15 ∷ [])
  -- a solution that is too short, and a load before any evaluation, whose rows are 0
  pub short_solution : vector_of diode as_new (evaluate (2 ∷ []) ∷ []) ≡ ends stuck
  pub before_evaluations : vector_of diode as_new (load_residual_resist ∷ []) ≡ gives (0 ∷ 5 ∷ [])

-- Loops, functions and integers, by the evaluation of the file that has each part of the grammar, and by small bodies.
pub record WorkedBodies : Type 0 where
  -- three turns are made, and no more
  pub loop_ends : (end_of sample_module 3 (evaluate (4 ∷ []) ∷ []) as_new >>= λ s. gives (slice_get s.instance 11)) ≡ gives (Some (Int (pos 0)))
  pub turn_short : cells_after sample_module 2 (evaluate (4 ∷ []) ∷ []) ≡ ends (undefined Turns)
  -- what stands before the test runs once more than there are turns
  pub before_the_test : cells_after (only_eval
      (Simple (Head Integer 0 (whole 1)) ∷ For 1 (whole 1) 0 ∷ Simple (Constant Integer 1 (Binary (whole 1) Over (whole 0))) ∷ [])) 0
      (evaluate [] ∷ []) ≡ ends (undefined IntRange)
  pub turn_too_many_comes_first : cells_after (only_eval
      (For 0 (whole 1) 1 ∷ Simple (Constant Integer 1 (Binary (whole 1) Over (whole 0))) ∷ [])) 0
      (evaluate [] ∷ []) ≡ ends (undefined Turns)
  -- the arm that isn't chosen doesn't run
  pub arm : cells_after (only_eval
      (If (whole 0) 1 0 ∷ Simple (Constant Integer 1 (Binary (whole 1) Over (whole 0))) ∷ Simple (SetCell (inst (OpVar 0)) (whole 9)) ∷ []))
      0 (evaluate [] ∷ []) ≡ gives (Int (pos 0) ∷ Real 0 ∷ Int (pos 9) ∷ [])
  pub integer_quotient : cells_after (only_eval
      (Simple (Constant Integer 0 (Negated (whole 7))) ∷ Simple (Constant Integer 1 (Binary (local 0) Over (whole 2)))
      ∷ Simple (SetCell (inst (OpVar 0)) (local 1)) ∷ [])) 0 (evaluate [] ∷ []) ≡ gives (Int (pos 0) ∷ Real 0 ∷ Int (negsuc 2) ∷ [])
  -- what isn't there, or has another type
  pub no_local : cells_after (only_eval (Simple (SetCell (inst (OpVar 0)) (local 0)) ∷ [])) 0 (evaluate [] ∷ []) ≡ ends stuck
  pub no_value : cells_after (only_eval (Simple (Join Integer 0) ∷ Simple (SetCell (inst (OpVar 0)) (local 0)) ∷ [])) 0 (evaluate [] ∷ [])
      ≡ ends stuck
  pub no_cell : cells_after (only_eval (Simple (SetCell (inst (OpVar 1)) (whole 0)) ∷ [])) 0 (evaluate [] ∷ []) ≡ ends stuck
  pub no_function : cells_after (only_eval (Simple (Constant Integer 0 (Call (callee.Function 0) [])) ∷ [])) 0 (evaluate [] ∷ [])
      ≡ ends stuck
  pub no_reports : cells_after (only_eval (Simple (Report 0) ∷ [])) 0 (evaluate [] ∷ []) ≡ ends stuck
  pub two_types : cells_after (only_eval (Simple (Constant Integer 0 (Binary (whole 1) Equals (real 1 (pos 0)))) ∷ [])) 0 (evaluate [] ∷ [])
      ≡ ends stuck
  pub another_type : cells_after (only_eval (Simple (SetCell (inst (OpVar 0)) (real 1 (pos 0))) ∷ [])) 0 (evaluate [] ∷ []) ≡ ends stuck

abbrev pub is_run_of_residues : ℕ → List (HostCall ℕ) → Bool
is_run_of_residues = is_run

-- which lists of calls are runs
pub record WorkedCalls : Type 0 where
  pub a_run : is_run_of_residues 0 (at_two (load_residual_resist ∷ setup_instance 301 ∷ evaluate [] ∷ [])) ≡ true
  pub no_round : is_run_of_residues 0 (set_parameter false 0 (Real 2) ∷ setup_model ∷ []) ≡ false
  pub no_evaluation : is_run_of_residues 1 (diode_with 0) ≡ false
  pub load_first : is_run_of_residues 0 (setup_model ∷ setup_instance 300 ∷ load_residual_resist ∷ []) ≡ false
  pub late_setting : is_run_of_residues 0 (at_two (set_parameter false 0 (Real 2) ∷ [])) ≡ false
  pub no_set_up : is_run_of_residues 0 (setup_instance 300 ∷ evaluate (7 ∷ []) ∷ []) ≡ false
  -- on an instance its own parameters alone are set
  pub its_own : is_run_of_residues 1 (set_parameter true 0 (Real 2) ∷ at_two []) ≡ true
  pub of_the_model : is_run_of_residues 1 (set_parameter true 1 (Real 2) ∷ at_two []) ≡ false
