-- Runs of the resistor, worked out by hand.
use Rattle.std.specs.Prelude.{◌≡◌, ◌++◌, ℕ, true, false, pos, List, [], ◌∷◌}
use Rattle.alg_laws.specs.declared.number.Number.{Number}
use Rattle.alg_laws.specs.declared.number.Number.TheVariants.{Real, Int}
use Rattle.alg_laws.specs.Outcome.{gives, ends}
use Rattle.c_machine.specs.Machine.{stuck, Machine}
use Rattle.c_machine.specs.Runs.{HostCall, set_parameter, setup_model, setup_instance, evaluate, load_residual_resist, load_residual_react, load_jacobian_resist, load_jacobian_react, load_jacobian_tran, load_rhs_dc, load_rhs_tran, is_run}
use Rattle.c_runs.specs.Host.{fresh, after, errors_after}
use Rattle.c_runs.specs.Notation.{minus, half}
use Rattle.c_runs.specs.Resistor.{resistor}

-- the vector has 0 and 5, and the matrix 0, 0, 0 and 10, before the run
abbrev pub start : Machine ℕ
start = fresh resistor (0 ∷ 5 ∷ []) (0 ∷ 0 ∷ 0 ∷ 10 ∷ [])

-- a resistance
abbrev pub of_resistance : Number ℕ → List (HostCall ℕ)
of_resistance r = set_parameter false 0 r ∷ []

-- both set-ups, and an evaluation at 8 and 2
abbrev pub evaluation : List (HostCall ℕ)
evaluation = setup_model ∷ setup_instance 300 ∷ evaluate (8 ∷ 2 ∷ []) ∷ []

-- Of a resistance of 2, V(a, c) is 8 - 2 = 6. The flow is 6/2 = 3, which leaves a and enters c. With V(a) it changes by 1/2, and
-- with V(c) by -1/2. Nothing is differentiated by time.
abbrev pub evaluated : Machine ℕ
evaluated = record {
  -- the resistance, and that it is given
  model = Real 2 ∷ Int (pos 1) ∷ [];
  instance =
      -- no pair collapses, the temperature, the resistance
      Int (pos 0) ∷ Real 300 ∷ Real 2
      -- the resistive and the reactive residuals of a and c
      ∷ Real 3 ∷ Real 0 ∷ Real (minus 3) ∷ Real 0
      -- the entries (a, a), (a, c), (c, a) and (c, c)
      ∷ Real half ∷ Real (minus half) ∷ Real (minus half) ∷ Real half ∷ [];
  node = 0 ∷ 1 ∷ [];
  resist_to = 0 ∷ 1 ∷ 2 ∷ 3 ∷ [];
  react_to = 0 ∷ 1 ∷ 2 ∷ 3 ∷ [];
  vector = 0 ∷ 5 ∷ [];
  matrix = 0 ∷ 0 ∷ 0 ∷ 10 ∷ [];
  errors = [];
}

-- where its resistance isn't given it is 1, the flow is 6, and the entries are 1 and -1
abbrev pub of_default : Machine ℕ
of_default = record evaluated {
  model = Real 1 ∷ Int (pos 0) ∷ [];
  instance =
      Int (pos 0) ∷ Real 300 ∷ Real 1 ∷ Real 6 ∷ Real 0 ∷ Real (minus 6) ∷ Real 0
      ∷ Real 1 ∷ Real (minus 1) ∷ Real (minus 1) ∷ Real 1 ∷ [];
}

-- The reciprocal of 0 is 0 modulo 1000003, so a resistance of 0 has no flow. It is reported as out of its range, and an evaluation
-- has values all the same: only quotients of integers are undefined.
abbrev pub of_zero : Machine ℕ
of_zero = record evaluated {
  model = Real 0 ∷ Int (pos 1) ∷ [];
  instance =
      Int (pos 0) ∷ Real 300 ∷ Real 0 ∷ Real 0 ∷ Real 0 ∷ Real 0 ∷ Real 0 ∷ Real 0 ∷ Real 0 ∷ Real 0 ∷ Real 0 ∷ [];
  errors = 0 ∷ [];
}

-- every load once, the right sides at 12 and 4
abbrev pub all_loads : List (HostCall ℕ)
all_loads =
    load_residual_resist ∷ load_residual_react ∷ load_jacobian_resist ∷ load_jacobian_react 7 ∷ load_jacobian_tran 7
    ∷ load_rhs_dc (12 ∷ 4 ∷ []) ∷ load_rhs_tran (12 ∷ 4 ∷ []) 7 ∷ []

-- what calls leave behind, up to an evaluation
pub record WorkedEvaluations : Type 0 where
  pub given : after resistor 0 (of_resistance (Real 2) ++ evaluation) start ≡ gives evaluated
  pub not_given : after resistor 0 evaluation start ≡ gives of_default
  pub nothing_flows : after resistor 0 (of_resistance (Real 0) ++ evaluation) start ≡ gives of_zero
  -- a resistance of 0 or below is out of its range, and each set-up reports it
  pub zero_is_reported : errors_after resistor (of_resistance (Real 0) ++ setup_model ∷ []) start ≡ gives (0 ∷ [])
  pub below_zero_is_reported : errors_after resistor (of_resistance (Real (minus 1)) ++ setup_model ∷ setup_model ∷ []) start
      ≡ gives (0 ∷ 0 ∷ [])
  pub above_zero_is_not : errors_after resistor (of_resistance (Real 1) ++ setup_model ∷ []) start ≡ gives []
  pub the_last_counts : errors_after resistor (of_resistance (Real 0) ++ of_resistance (Real 4) ++ setup_model ∷ []) start
      ≡ gives []
  -- there is no parameter 1, and no integer in the place of a resistance
  pub no_such_parameter : after resistor 0 (set_parameter false 1 (Real 2) ∷ []) start ≡ ends stuck
  pub an_integer : after resistor 0 (of_resistance (Int (pos 2))) start ≡ ends stuck

-- what each load leaves behind
pub record WorkedLoads : Type 0 where
  -- 0 + 3 and 5 - 3
  pub residuals : after resistor 0 (load_residual_resist ∷ []) evaluated ≡ gives (record evaluated { vector = 3 ∷ 2 ∷ [] })
  -- no residual is reactive
  pub no_reactive_residuals : after resistor 0 (load_residual_react ∷ []) evaluated ≡ gives evaluated
  -- 1/2, -1/2, -1/2, and 10 + 1/2
  pub entries : after resistor 0 (load_jacobian_resist ∷ []) evaluated
      ≡ gives (record evaluated { matrix = half ∷ minus half ∷ minus half ∷ 500012 ∷ [] })
  pub no_reactive_entries : after resistor 0 (load_jacobian_react 7 ∷ []) evaluated ≡ gives evaluated
  -- the same as the resistive ones, whatever alpha is
  pub entries_in_time : after resistor 0 (load_jacobian_tran 7 ∷ []) evaluated
      ≡ gives (record evaluated { matrix = half ∷ minus half ∷ minus half ∷ 500012 ∷ [] })
  -- the entries times 12 and 4, less the residuals: 6 - 2 - 3 = 1 at a and -6 + 2 + 3 = -1 at c
  pub right_side : after resistor 0 (load_rhs_dc (12 ∷ 4 ∷ []) ∷ []) evaluated ≡ gives (record evaluated { vector = 1 ∷ 4 ∷ [] })
  pub right_side_in_time : after resistor 0 (load_rhs_tran (12 ∷ 4 ∷ []) 7 ∷ []) evaluated
      ≡ gives (record evaluated { vector = 1 ∷ 4 ∷ [] })
  -- a whole run: 0 + 3 + 1 + 1 and 5 - 3 - 1 - 1, and each entry twice
  pub all_together : after resistor 0 (of_resistance (Real 2) ++ evaluation ++ all_loads) start
      ≡ gives (record evaluated { vector = 5 ∷ 0 ∷ []; matrix = 1 ∷ minus 1 ∷ minus 1 ∷ 11 ∷ [] })
  pub a_run : is_run 0 (of_resistance (Real 2) ++ evaluation ++ all_loads) ≡ true
  -- what leaves a enters c, so nothing is left where both are at one place
  pub at_one_place : after resistor 0 (load_residual_resist ∷ []) (record evaluated { node = 1 ∷ 1 ∷ [] })
      ≡ gives (record evaluated { node = 1 ∷ 1 ∷ [] })
