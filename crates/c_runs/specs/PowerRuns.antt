-- Runs of the source whose flow is a power, worked out by hand. A power of a degree above 0 needs as many turns as its degree.
use Rattle.std.specs.Prelude.{◌≡◌, ◌++◌, ℕ, ℤ, true, false, pos, negsuc, List, [], ◌∷◌}
use Rattle.alg_laws.specs.declared.number.Number.TheVariants.{Real, Int}
use Rattle.alg_laws.specs.declared.number.Reason.TheVariants.{Turns, IntRange}
use Rattle.alg_laws.specs.Outcome.{Outcome, gives, ends}
use Rattle.c_machine.specs.Machine.{Stop, undefined, stuck, Machine}
use Rattle.c_machine.specs.Runs.{HostCall, set_parameter, setup_model, setup_instance, evaluate, load_residual_resist, load_residual_react, load_jacobian_resist, load_jacobian_react, load_jacobian_tran, load_rhs_dc, load_rhs_tran, is_run}
use Rattle.c_runs.specs.Host.{fresh, after}
use Rattle.c_runs.specs.Notation.{minus}
use Rattle.c_runs.specs.Power.{power_source}

abbrev pub start : Machine ℕ
start = fresh power_source (10 ∷ []) (0 ∷ [])

abbrev pub of_degree : ℤ → List (HostCall ℕ)
of_degree n = set_parameter false 0 (Int n) ∷ []

-- both set-ups, and an evaluation
abbrev pub evaluation : ℕ → List (HostCall ℕ)
evaluation x = setup_model ∷ setup_instance 300 ∷ evaluate (x ∷ []) ∷ []

-- the machine after an evaluation: the degree, whether it is given, the flow, and what it changes by
abbrev pub with_flow : ℤ → ℤ → ℕ → ℕ → Machine ℕ
with_flow degree given flow change = record start {
  model = Int degree ∷ Int given ∷ [];
  -- no pair collapses, the temperature, the degree, the residual with its reactive part, the entry
  instance = Int (pos 0) ∷ Real 300 ∷ Int degree ∷ Real flow ∷ Real 0 ∷ Real change ∷ [];
}

-- of the degree 3 at 2: 2 * 2 * 2 = 8, and 3 * 2 * 2 = 12
abbrev pub cube : Machine ℕ
cube = with_flow (pos 3) (pos 1) 8 12

-- the least integer
abbrev pub least : ℤ
least = negsuc 2147483647

-- every load once, the right sides at 4
abbrev pub all_loads : List (HostCall ℕ)
all_loads =
    load_residual_resist ∷ load_residual_react ∷ load_jacobian_resist ∷ load_jacobian_react 7 ∷ load_jacobian_tran 7
    ∷ load_rhs_dc (4 ∷ []) ∷ load_rhs_tran (4 ∷ []) 7 ∷ []

-- the machine after an evaluation at a value, where each entry to the loop may make so many turns
abbrev pub evaluated : ℕ → List (HostCall ℕ) → ℕ → Outcome Stop (Machine ℕ)
evaluated turns settings x = after power_source turns (settings ++ evaluation x) start

-- what calls leave behind, up to an evaluation
pub record WorkedEvaluations : Type 0 where
  pub given : evaluated 3 (of_degree (pos 3)) 2 ≡ gives cube
  -- of the degree 2 at 5: 25, and 2 * 5
  pub not_given : evaluated 2 [] 5 ≡ gives (with_flow (pos 2) (pos 0) 25 10)
  -- of the degree 1 at 5: 5, and 1 without a turn
  pub of_degree_1 : evaluated 1 (of_degree (pos 1)) 5 ≡ gives (with_flow (pos 1) (pos 1) 5 1)
  -- of the degree 0 no turn is made: 1, and 0 * 1
  pub of_degree_0 : evaluated 0 (of_degree (pos 0)) 5 ≡ gives (with_flow (pos 0) (pos 1) 1 0)
  -- nor is one of a degree below 0: 1, and -1 * 1
  pub below_0 : evaluated 0 (of_degree (negsuc 0)) 5 ≡ gives (with_flow (negsuc 0) (pos 1) 1 (minus 1))
  -- at 0 each turn makes 0, by the first arm
  pub at_0 : evaluated 3 (of_degree (pos 3)) 0 ≡ gives (with_flow (pos 3) (pos 1) 0 0)
  -- a third turn is needed, where two may be made
  pub a_turn_short : evaluated 2 (of_degree (pos 3)) 2 ≡ ends (undefined Turns)
  -- the least integer less 1 has no place in 32 bits; nothing comes behind an evaluation that is undefined
  pub below_32_bits : evaluated 0 (of_degree least) 2 ≡ ends (undefined IntRange)
  pub nothing_behind : after power_source 0 (of_degree least ++ evaluation 2 ++ all_loads) start ≡ ends (undefined IntRange)
  -- the degree is an integer, and the solution has a value for p
  pub no_real_degree : after power_source 0 (set_parameter false 0 (Real 3) ∷ []) start ≡ ends stuck
  pub short_solution : after power_source 0 (evaluate [] ∷ []) start ≡ ends stuck

-- what each load leaves behind
pub record WorkedLoads : Type 0 where
  -- 10 + 8
  pub residual : after power_source 0 (load_residual_resist ∷ []) cube ≡ gives (record cube { vector = 18 ∷ [] })
  pub no_reactive_residual : after power_source 0 (load_residual_react ∷ []) cube ≡ gives cube
  pub entry : after power_source 0 (load_jacobian_resist ∷ []) cube ≡ gives (record cube { matrix = 12 ∷ [] })
  pub no_reactive_entry : after power_source 0 (load_jacobian_react 7 ∷ []) cube ≡ gives cube
  pub entry_in_time : after power_source 0 (load_jacobian_tran 7 ∷ []) cube ≡ gives (record cube { matrix = 12 ∷ [] })
  -- 10 + 12 * 4 - 8
  pub right_side : after power_source 0 (load_rhs_dc (4 ∷ []) ∷ []) cube ≡ gives (record cube { vector = 50 ∷ [] })
  pub right_side_in_time : after power_source 0 (load_rhs_tran (4 ∷ []) 7 ∷ []) cube ≡ gives (record cube { vector = 50 ∷ [] })
  -- a whole run: 10 + 8 + 40 + 40, and twice 12
  pub all_together : after power_source 3 (of_degree (pos 3) ++ evaluation 2 ++ all_loads) start
      ≡ gives (record cube { vector = 98 ∷ []; matrix = 24 ∷ [] })
  pub a_run : is_run 0 (of_degree (pos 3) ++ evaluation 2 ++ all_loads) ≡ true
  -- before an evaluation the cells of a new instance are 0
  pub before_evaluations : after power_source 0 (load_residual_resist ∷ load_jacobian_resist ∷ []) start ≡ gives start
