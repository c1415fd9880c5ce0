-- Runs of the inductor, worked out by hand. Modulo 1000003 the sixth power of 10 is -3, so 1u is -1/3.
use Rattle.std.specs.Prelude.{◌≡◌, ◌++◌, ℕ, true, false, pos, List, [], ◌∷◌, replicate}
use Rattle.alg_laws.specs.declared.number.Number.TheVariants.{Real, Int}
use Rattle.alg_laws.specs.Outcome.{gives, ends}
use Rattle.c_machine.specs.Machine.{stuck, Machine}
use Rattle.c_machine.specs.Runs.{HostCall, set_parameter, setup_model, setup_instance, evaluate, load_residual_resist, load_residual_react, load_jacobian_resist, load_jacobian_react, load_jacobian_tran, load_rhs_dc, load_rhs_tran, is_run}
use Rattle.c_runs.specs.Host.{fresh, after}
use Rattle.c_runs.specs.Inductor.{inductor}
use Rattle.c_runs.specs.Notation.{minus}

-- three times it are 2000007, which is 1
abbrev pub third : ℕ
third = 666669

-- the entries' reactive parts have places of their own
abbrev pub start : Machine ℕ
start = record (fresh inductor (10 ∷ 20 ∷ 30 ∷ []) (replicate 10 0)) { react_to = 5 ∷ 6 ∷ 7 ∷ 8 ∷ 9 ∷ [] }

-- an inductance of 3
abbrev pub settings : List (HostCall ℕ)
settings = set_parameter false 0 (Real 3) ∷ []

-- both set-ups, and an evaluation where a is at 8, c at 2, and the flow 5
abbrev pub evaluation : List (HostCall ℕ)
evaluation = setup_model ∷ setup_instance 300 ∷ evaluate (8 ∷ 2 ∷ 5 ∷ []) ∷ []

-- The flow leaves a and enters c. The row of the flow is V(a, c) = 8 - 2 = 6, less the flux 3 * 5 = 15 by time.
abbrev pub evaluated : Machine ℕ
evaluated = record start {
  -- the inductance, and that it is given
  model = Real 3 ∷ Int (pos 1) ∷ [];
  instance =
      -- no pair collapses, the temperature, the inductance
      Int (pos 0) ∷ Real 300 ∷ Real 3
      -- the residuals of a, c and the flow, each with its reactive part
      ∷ Real 5 ∷ Real 0 ∷ Real (minus 5) ∷ Real 0 ∷ Real 6 ∷ Real (minus 15)
      -- by the flow in the rows of a and c, by a and c in the row of the flow, and there by the flow in its reactive part
      ∷ Real 1 ∷ Real (minus 1) ∷ Real 1 ∷ Real (minus 1) ∷ Real (minus 3) ∷ [];
}

-- where it isn't given it is -1/3: the flux is -5/3, whose negative is 5 * 666669, less 3 times the modulus
abbrev pub of_default : Machine ℕ
of_default = record start {
  model = Real (minus third) ∷ Int (pos 0) ∷ [];
  instance =
      Int (pos 0) ∷ Real 300 ∷ Real (minus third) ∷ Real 5 ∷ Real 0 ∷ Real (minus 5) ∷ Real 0 ∷ Real 6 ∷ Real 333336
      ∷ Real 1 ∷ Real (minus 1) ∷ Real 1 ∷ Real (minus 1) ∷ Real third ∷ [];
}

-- every load once, the right sides at 9, 4 and 7
abbrev pub all_loads : List (HostCall ℕ)
all_loads =
    load_residual_resist ∷ load_residual_react ∷ load_jacobian_resist ∷ load_jacobian_react 4 ∷ load_jacobian_tran 4
    ∷ load_rhs_dc (9 ∷ 4 ∷ 7 ∷ []) ∷ load_rhs_tran (9 ∷ 4 ∷ 7 ∷ []) 4 ∷ []

-- a host that has a at the place 2, c at 0 and the flow at 1
abbrev pub elsewhere : Machine ℕ → Machine ℕ
elsewhere s = record s { node = 2 ∷ 0 ∷ 1 ∷ [] }

-- what calls leave behind, up to an evaluation
pub record WorkedEvaluations : Type 0 where
  pub given : after inductor 0 (settings ++ evaluation) start ≡ gives evaluated
  pub not_given : after inductor 0 evaluation start ≡ gives of_default
  -- a later evaluation leaves nothing of an earlier one
  pub evaluated_again : after inductor 0 (evaluate (1 ∷ 1 ∷ 1 ∷ []) ∷ evaluate (8 ∷ 2 ∷ 5 ∷ []) ∷ []) evaluated ≡ gives evaluated
  -- the values of a solution stand where the host has the unknowns
  pub evaluated_elsewhere : after inductor 0 (settings ++ setup_model ∷ setup_instance 300 ∷ evaluate (2 ∷ 5 ∷ 8 ∷ []) ∷ []) (elsewhere start)
      ≡ gives (elsewhere evaluated)
  -- there is no parameter 1, and a solution of two values has none for the flow
  pub no_such_parameter : after inductor 0 (set_parameter true 1 (Real 2) ∷ []) start ≡ ends stuck
  pub short_solution : after inductor 0 (evaluate (8 ∷ 2 ∷ []) ∷ []) start ≡ ends stuck

-- what each load leaves behind
pub record WorkedLoads : Type 0 where
  -- 10 + 5, 20 - 5 and 30 + 6
  pub residuals : after inductor 0 (load_residual_resist ∷ []) evaluated
      ≡ gives (record evaluated { vector = 15 ∷ 15 ∷ 36 ∷ [] })
  -- 30 - 15 in the row of the flow alone
  pub reactive_residuals : after inductor 0 (load_residual_react ∷ []) evaluated
      ≡ gives (record evaluated { vector = 10 ∷ 20 ∷ 15 ∷ [] })
  pub entries : after inductor 0 (load_jacobian_resist ∷ []) evaluated
      ≡ gives (record evaluated { matrix = 1 ∷ minus 1 ∷ 1 ∷ minus 1 ∷ replicate 6 0 })
  -- 4 * -3 in the last place
  pub reactive_entries : after inductor 0 (load_jacobian_react 4 ∷ []) evaluated
      ≡ gives (record evaluated { matrix = replicate 9 0 ++ minus 12 ∷ [] })
  -- both in the places of the resistive ones
  pub entries_in_time : after inductor 0 (load_jacobian_tran 4 ∷ []) evaluated
      ≡ gives (record evaluated { matrix = 1 ∷ minus 1 ∷ 1 ∷ minus 1 ∷ minus 12 ∷ replicate 5 0 })
  -- the entries times 9, 4 and 7, less the residuals: 7 - 5 = 2, -7 + 5 = -2, and 9 - 4 - 6 = -1
  pub right_side : after inductor 0 (load_rhs_dc (9 ∷ 4 ∷ 7 ∷ []) ∷ []) evaluated
      ≡ gives (record evaluated { vector = 12 ∷ 18 ∷ 29 ∷ [] })
  -- with 4 * -3 * 7 = -84 in the row of the flow
  pub right_side_in_time : after inductor 0 (load_rhs_tran (9 ∷ 4 ∷ 7 ∷ []) 4 ∷ []) evaluated
      ≡ gives (record evaluated { vector = 12 ∷ 18 ∷ minus 55 ∷ [] })
  -- A whole run: 10 + 5 + 2 + 2, 20 - 5 - 2 - 2, and 30 + 6 - 15 - 1 - 85. Of the matrix each resistive entry twice, and the
  -- reactive one in both places.
  pub all_together : after inductor 0 (settings ++ evaluation ++ all_loads) start
      ≡ gives (record evaluated {
        vector = 19 ∷ 11 ∷ minus 65 ∷ [];
        matrix = 2 ∷ minus 2 ∷ 2 ∷ minus 2 ∷ minus 12 ∷ 0 ∷ 0 ∷ 0 ∷ 0 ∷ minus 12 ∷ [];
      })
  pub a_run : is_run 0 (settings ++ evaluation ++ all_loads) ≡ true
  -- 10 - 5 at c, 20 + 6 at the flow and 30 + 5 at a; and the right side's -2, -1 and 2 there
  pub residuals_elsewhere : after inductor 0 (load_residual_resist ∷ []) (elsewhere evaluated)
      ≡ gives (record (elsewhere evaluated) { vector = 5 ∷ 26 ∷ 35 ∷ [] })
  pub right_side_elsewhere : after inductor 0 (load_rhs_dc (4 ∷ 7 ∷ 9 ∷ []) ∷ []) (elsewhere evaluated)
      ≡ gives (record (elsewhere evaluated) { vector = 8 ∷ 19 ∷ 32 ∷ [] })
