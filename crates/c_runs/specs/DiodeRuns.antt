-- Runs of the diode, worked out by hand. Modulo 1000003 the sixth power of 10 is -3, so 1p is 1/9 and 10f is 1/900; 25m is 1/40, so a
-- quotient by it is a product with 40. The function `exp` of these numbers is x * x + 1.
use Rattle.std.specs.Prelude.{◌≡◌, ◌++◌, ℕ, true, false, pos, List, [], ◌∷◌, replicate}
use Rattle.alg_laws.specs.declared.number.Number.TheVariants.{Real, Int}
use Rattle.alg_laws.specs.Outcome.{gives, ends}
use Rattle.c_machine.specs.Machine.{stuck, Machine}
use Rattle.c_machine.specs.Runs.{HostCall, set_parameter, setup_model, setup_instance, evaluate, load_residual_resist, load_residual_react, load_jacobian_resist, load_jacobian_react, load_jacobian_tran, load_rhs_dc, load_rhs_tran, is_run}
use Rattle.c_runs.specs.Diode.{diode}
use Rattle.c_runs.specs.Host.{fresh, after, errors_after, model_after}
use Rattle.c_runs.specs.Notation.{minus, half}

-- nine times it are 2000007, which is 1
abbrev pub ninth : ℕ
ninth = 222223

-- 900 times it are 533001600, which is 1
abbrev pub one_of_900 : ℕ
one_of_900 = 592224

-- the entries' reactive parts have places of their own
abbrev pub start : Machine ℕ
start = record (fresh diode (10 ∷ 20 ∷ 30 ∷ []) (replicate 14 0)) { react_to = 7 ∷ 8 ∷ 9 ∷ 10 ∷ 11 ∷ 12 ∷ 13 ∷ [] }

-- `is` of the model and of the instance, and `rs`
abbrev pub is_of_model : ℕ → HostCall ℕ
is_of_model is = set_parameter false 0 (Real is)

abbrev pub is_of_instance : ℕ → HostCall ℕ
is_of_instance is = set_parameter true 0 (Real is)

abbrev pub of_series : ℕ → HostCall ℕ
of_series rs = set_parameter false 1 (Real rs)

abbrev pub settings : List (HostCall ℕ)
settings = is_of_model 5 ∷ is_of_instance 2 ∷ of_series 2 ∷ []

-- both set-ups, and an evaluation where a is at 16, c at 1 and ai at 10
abbrev pub evaluation : List (HostCall ℕ)
evaluation = setup_model ∷ setup_instance 300 ∷ evaluate (16 ∷ 1 ∷ 10 ∷ []) ∷ []

-- The flow of the junction: V(ai, c) is 9, over 25m it is 360, exp of it 129601, and the flow 2 * 129600.
abbrev pub flow : ℕ
flow = 259200

-- It changes with V(ai, c) by 2 * 129601 * 40, which is 10368080, less 10 times the modulus.
abbrev pub slope : ℕ
slope = 368050

-- In the series resistance V(a, ai) is 6, and the flow 6/2 = 3, which changes by 1/2. The charge is 9 * 1p = 1, which changes by 1p.
abbrev pub evaluated : Machine ℕ
evaluated = record start {
  -- `is` and `rs` of the model, and that they are given
  model = Real 5 ∷ Int (pos 1) ∷ Real 2 ∷ Int (pos 1) ∷ [];
  instance =
      -- the pair doesn't collapse; the temperature; `is` of the instance, which is given; `rs`
      Int (pos 0) ∷ Real 300 ∷ Real 2 ∷ Int (pos 1) ∷ Real 2
      -- the residuals of a, c and ai, each with its reactive part: into ai flow 3, and 259200 leave it
      ∷ Real 3 ∷ Real 0 ∷ Real (minus flow) ∷ Real (minus 1) ∷ Real 259197 ∷ Real 1
      -- the entries (a, a), (a, ai), (c, c) with its reactive part, (c, ai) with its own
      ∷ Real half ∷ Real (minus half) ∷ Real slope ∷ Real ninth ∷ Real (minus slope) ∷ Real (minus ninth)
      -- (ai, a), (ai, c) with its reactive part, and (ai, ai), where both flows change: 1/2 + 368050, with its own
      ∷ Real (minus half) ∷ Real (minus slope) ∷ Real (minus ninth) ∷ Real 868052 ∷ Real ninth
      -- the operating-point variable
      ∷ Real flow ∷ [];
}

-- every load once, at the point of the evaluation
abbrev pub all_loads : List (HostCall ℕ)
all_loads =
    load_residual_resist ∷ load_residual_react ∷ load_jacobian_resist ∷ load_jacobian_react 9 ∷ load_jacobian_tran 9
    ∷ load_rhs_dc (16 ∷ 1 ∷ 10 ∷ []) ∷ load_rhs_tran (16 ∷ 1 ∷ 10 ∷ []) 9 ∷ []

-- Where `rs` isn't given it is 0, and the set-up of the instance raises the flag of the pair; its `is` is then the model's 5.
abbrev pub set_up : Machine ℕ
set_up = record start {
  model = Real 5 ∷ Int (pos 1) ∷ Real 0 ∷ Int (pos 0) ∷ [];
  instance = Int (pos 1) ∷ Real 300 ∷ Real 5 ∷ Int (pos 0) ∷ Real 0 ∷ replicate 18 (Real 0);
}

-- The host has a and ai at one place, and entries of a 2 by 2 matrix for them and c, the resistive parts from 0 and the reactive
-- ones from 4 on.
abbrev pub as_one : Machine ℕ → Machine ℕ
as_one s = record s {
  node = 0 ∷ 1 ∷ 0 ∷ [];
  resist_to = 0 ∷ 0 ∷ 3 ∷ 2 ∷ 0 ∷ 1 ∷ 0 ∷ [];
  react_to = 4 ∷ 4 ∷ 7 ∷ 6 ∷ 4 ∷ 5 ∷ 4 ∷ [];
  matrix = replicate 8 0;
}

-- At 10 and 1, V(a, ai) is 0 and V(ai, c) is 9. The series resistance has no flow; the junction's is 5 * 129600 = 648000, and
-- changes by 5 * 129601 * 40, which is 25920200, less 25 times the modulus.
abbrev pub collapsed : Machine ℕ
collapsed = record (as_one set_up) {
  instance =
      Int (pos 1) ∷ Real 300 ∷ Real 5 ∷ Int (pos 0) ∷ Real 0
      ∷ Real 0 ∷ Real 0 ∷ Real (minus 648000) ∷ Real (minus 1) ∷ Real 648000 ∷ Real 1
      ∷ Real 0 ∷ Real 0 ∷ Real 920125 ∷ Real ninth ∷ Real (minus 920125) ∷ Real (minus ninth)
      ∷ Real 0 ∷ Real (minus 920125) ∷ Real (minus ninth) ∷ Real 920125 ∷ Real ninth
      ∷ Real 648000 ∷ [];
}

-- what calls leave behind, up to an evaluation
pub record WorkedEvaluations : Type 0 where
  pub given : after diode 0 (settings ++ evaluation) start ≡ gives evaluated
  pub set_up_as_one : after diode 0 (is_of_model 5 ∷ setup_model ∷ setup_instance 300 ∷ []) start ≡ gives set_up
  pub evaluated_as_one : after diode 0 (evaluate (10 ∷ 1 ∷ []) ∷ []) (as_one set_up) ≡ gives collapsed
  -- nothing is given: `is` is 10f, and `rs` 0
  pub defaults : model_after diode (setup_model ∷ []) start ≡ gives (Real one_of_900 ∷ Int (pos 0) ∷ Real 0 ∷ Int (pos 0) ∷ [])
  -- a setting that asks for the instance leaves the model's `is`; `rs` is the model's whatever is asked for
  pub asked_of_the_instance : model_after diode (is_of_instance 2 ∷ set_parameter true 1 (Real 3) ∷ setup_model ∷ []) start
      ≡ gives (Real one_of_900 ∷ Int (pos 0) ∷ Real 3 ∷ Int (pos 1) ∷ [])
  -- `rs` below 0 is out of its range
  pub below_zero_is_reported : errors_after diode (of_series (minus 1) ∷ setup_model ∷ []) start ≡ gives (1 ∷ [])
  pub zero_is_not : errors_after diode (of_series 0 ∷ setup_model ∷ []) start ≡ gives []
  pub nor_is_the_default : errors_after diode (setup_model ∷ []) start ≡ gives []
  -- there is no parameter 3, and a solution of two values has none for ai
  pub no_such_parameter : after diode 0 (set_parameter false 3 (Real 2) ∷ []) start ≡ ends stuck
  pub short_solution : after diode 0 (evaluate (16 ∷ 1 ∷ []) ∷ []) start ≡ ends stuck

-- what each load leaves behind
pub record WorkedLoads : Type 0 where
  -- 10 + 3, 20 - 259200 and 30 + 259197
  pub residuals : after diode 0 (load_residual_resist ∷ []) evaluated
      ≡ gives (record evaluated { vector = 13 ∷ minus 259180 ∷ 259227 ∷ [] })
  -- the charge is 1 on ai, and -1 on c
  pub reactive_residuals : after diode 0 (load_residual_react ∷ []) evaluated
      ≡ gives (record evaluated { vector = 10 ∷ 19 ∷ 31 ∷ [] })
  pub entries : after diode 0 (load_jacobian_resist ∷ []) evaluated
      ≡ gives (record evaluated {
        matrix = half ∷ minus half ∷ slope ∷ minus slope ∷ minus half ∷ minus slope ∷ 868052 ∷ replicate 7 0;
      })
  -- 9 * 1p = 1, in the places from 7 on
  pub reactive_entries : after diode 0 (load_jacobian_react 9 ∷ []) evaluated
      ≡ gives (record evaluated { matrix = replicate 9 0 ++ 1 ∷ minus 1 ∷ 0 ∷ minus 1 ∷ 1 ∷ [] })
  -- both in the places of the resistive ones
  pub entries_in_time : after diode 0 (load_jacobian_tran 9 ∷ []) evaluated
      ≡ gives (record evaluated {
        matrix = half ∷ minus half ∷ 368051 ∷ minus 368051 ∷ minus half ∷ minus 368051 ∷ 868053 ∷ replicate 7 0;
      })
  -- The entries times 16, 1 and 10, less the residuals. At a 8 - 5 - 3 = 0. At c (1 - 10) * 368050 + 259200: 9 * 368050 are 3312450,
  -- less 3 times the modulus 312441, so this is -53241. At ai -8 + 5 + 3, and the contrary of c.
  pub right_side : after diode 0 (load_rhs_dc (16 ∷ 1 ∷ 10 ∷ []) ∷ []) evaluated
      ≡ gives (record evaluated { vector = 10 ∷ minus 53221 ∷ 53271 ∷ [] })
  -- with 9 * 1p * (1 - 10) = -9 at c, and 9 at ai
  pub right_side_in_time : after diode 0 (load_rhs_tran (16 ∷ 1 ∷ 10 ∷ []) 9 ∷ []) evaluated
      ≡ gives (record evaluated { vector = 10 ∷ minus 53230 ∷ 53280 ∷ [] })
  -- A whole run. At a 10 + 3. At c 20 - 259200 - 1 - 53241 - 53250. At ai 30 + 259197 + 1 + 53241 + 53250. Of the matrix twice the
  -- resistive entries, and 1 for each reactive one.
  pub all_together : after diode 0 (settings ++ evaluation ++ all_loads) start
      ≡ gives (record evaluated {
        vector = 13 ∷ minus 365672 ∷ 365719 ∷ [];
        matrix =
            1 ∷ minus 1 ∷ 736101 ∷ minus 736101 ∷ minus 1 ∷ minus 736101 ∷ 736102 ∷ 0 ∷ 0 ∷ 1 ∷ minus 1 ∷ 0 ∷ minus 1 ∷ 1 ∷ [];
      })
  pub a_run : is_run 1 (settings ++ evaluation ++ all_loads) ≡ true
  -- where a and ai are one, the flow of the junction leaves a
  pub residuals_as_one : after diode 0 (load_residual_resist ∷ []) collapsed
      ≡ gives (record collapsed { vector = 648010 ∷ minus 647980 ∷ 30 ∷ [] })
  pub entries_as_one : after diode 0 (load_jacobian_resist ∷ load_jacobian_react 9 ∷ []) collapsed
      ≡ gives (record collapsed { matrix = 920125 ∷ minus 920125 ∷ minus 920125 ∷ 920125 ∷ 1 ∷ minus 1 ∷ minus 1 ∷ 1 ∷ [] })
