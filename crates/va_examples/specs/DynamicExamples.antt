-- Modules with time derivatives, potential branches, collapsing branches and parameters, with values worked out by hand modulo
-- 1000003. Above each row stands the text of the module's items.
use Rattle.std.specs.Prelude.{◌≡◌, ℕ, ◌==◌, pos, Bool, true, false, List, [], ◌∷◌, Some, None, map, codes}
use Rattle.alg_laws.specs.declared.number.Number.TheVariants.{Real, Int}
use Rattle.alg_laws.specs.declared.number.Reason.TheVariants.{IntRange}
use Rattle.alg_laws.specs.Outcome.{gives, ends}
use Rattle.va_sem.specs.declared.branch.Unknown.TheVariants.{Node}
use Rattle.va_sem.specs.Declarations.{analog_bodies}
use Rattle.va_sem.specs.Meanings.{names_of_module}
use Rattle.va_sem.specs.rules.Biased.{Analysis, analysis_of}
use Rattle.va_tree.specs.declared.expr.BinaryOp.TheVariants.{Greater, Add, Multiply, Divide}
use Rattle.va_tree.specs.declared.module.Item.{Item}
use Rattle.va_tree.specs.declared.module.Ty.TheVariants as ty
use Rattle.va_meaning.specs.Classes.{Slots, KeepsToClasses}
use Rattle.va_meaning.specs.Motions.{Motion, still, moving}
use Rattle.va_meaning.specs.TwoParts.{TwoParts, two_parts, moves_at, MovesAlone}
use Rattle.va_meaning.specs.TimeParts.{KeepsReactive, IsRowUntimed, reactive_branches}
use Rattle.va_meaning.specs.Timed.{KeepsToTime, HasLinearTime}
use Rattle.va_examples.specs.Notation.{Text, whole, name, infinity, between, expression, system, of, across, contribute, contribute_alone, begins, if_only, if_or_else, defaulted, from, excluding, parameters, instance_parameters, alias, branch, node, variable, variables, assign, analog}
use Rattle.va_examples.specs.Examples.{v_a, to_a, to_a_c, by_default, on_model, on_instance, part, rows_at, flags_at, errors_at, columns_at, moved_rows, module_of, source_of, model}

abbrev real_parameter : ℕ → List ℕ → Text Item
real_parameter value p = parameters false (Some ty.Real) (defaulted p (whole value) [] ∷ [])

-- parameter real l = 3; branch (a, c) b; analog V(b) <+ l * ddt(I(b));
abbrev inductor : List (Text Item)
inductor =
    real_parameter 3 (codes "l")
    ∷ branch (codes "a") (codes "c") (codes "b")
    ∷ analog (contribute_alone (codes "V") (codes "b") (between (name (codes "l")) Multiply (of (codes "ddt") (of (codes "I") (name (codes "b"))))))
    ∷ []

-- parameter real p = 3; analog I(a) <+ V(a) + ddt(p * V(a) * V(a));
abbrev charge : List (Text Item)
charge =
    real_parameter 3 (codes "p")
    ∷ analog (to_a (between v_a Add (of (codes "ddt") (between (between (name (codes "p")) Multiply v_a) Multiply v_a))))
    ∷ []

-- Time derivatives and potential branches.
pub record WorkedDerivatives : Type 0 where
  pub inductor_rows : rows_at inductor by_default (5 ∷ 3 ∷ 7 ∷ []) ≡ gives (part 7 0 ∷ part 999996 0 ∷ part 2 999982 ∷ [])
  pub inductor_columns : columns_at inductor by_default (5 ∷ 3 ∷ 7 ∷ [])
      ≡ gives ((part 0 0 ∷ part 0 0 ∷ part 1 0 ∷ [])
      ∷ (part 0 0 ∷ part 0 0 ∷ part 1000002 0 ∷ [])
      ∷ (part 1 0 ∷ part 1000002 0 ∷ part 0 1000000 ∷ [])
      ∷ [])
  pub charge_rows : rows_at charge by_default (5 ∷ 0 ∷ []) ≡ gives (part 5 75 ∷ part 0 0 ∷ [])
  pub charge_columns : columns_at charge by_default (5 ∷ 0 ∷ [])
      ≡ gives ((part 1 30 ∷ part 0 0 ∷ []) ∷ (part 0 0 ∷ part 0 0 ∷ []) ∷ [])

-- electrical i; parameter real r = 0; analog begin if (r > 0) I(a, i) <+ V(a, i) / r; else V(a, i) <+ 0; I(i, c) <+ V(i, c); end
abbrev series : List (Text Item)
series =
    node (codes "i")
    ∷ real_parameter 0 (codes "r")
    ∷ analog
    (begins
    (if_or_else (between (name (codes "r")) Greater (whole 0))
    (contribute (codes "I") (codes "a") (codes "i") (between (across (codes "V") (codes "a") (codes "i")) Divide (name (codes "r"))))
    (contribute (codes "V") (codes "a") (codes "i") (whole 0))
    ∷ contribute (codes "I") (codes "i") (codes "c") (across (codes "V") (codes "i") (codes "c"))
    ∷ []))
    ∷ []

-- analog begin I(a, c) <+ 1; V(a, c) <+ 0; I(a, c) <+ 2; end
abbrev discarded : List (Text Item)
discarded = analog (begins (to_a_c (whole 1) ∷ contribute (codes "V") (codes "a") (codes "c") (whole 0) ∷ to_a_c (whole 2) ∷ [])) ∷ []

-- analog begin V(a, c) <+ 0; if (V(a) > 0) I(a, c) <+ 7; end
abbrev mark_and_flow : List (Text Item)
mark_and_flow = analog (begins (contribute (codes "V") (codes "a") (codes "c") (whole 0) ∷ if_only (between v_a Greater (whole 0)) (to_a_c (whole 7)) ∷ [])) ∷ []

-- Branches that collapse.
pub record WorkedCollapses : Type 0 where
  pub collapsed : rows_at series by_default (5 ∷ 3 ∷ 4 ∷ []) ≡ gives (part 0 0 ∷ part 1000002 0 ∷ part 1 0 ∷ [])
  pub collapsed_flag : flags_at series by_default (5 ∷ 3 ∷ 4 ∷ []) ≡ gives (true ∷ [])
  pub with_resistance : rows_at series (on_model (Some (Real 2) ∷ [])) (5 ∷ 3 ∷ 4 ∷ [])
      ≡ gives (part 500002 0 ∷ part 1000002 0 ∷ part 500002 0 ∷ [])
  pub with_resistance_flag : flags_at series (on_model (Some (Real 2) ∷ [])) (5 ∷ 3 ∷ 4 ∷ []) ≡ gives (false ∷ [])
  pub other_quantity_discards : rows_at discarded by_default (5 ∷ 3 ∷ []) ≡ gives (part 2 0 ∷ part 1000001 0 ∷ [])
  pub flow_takes_the_mark_away : flags_at discarded by_default (5 ∷ 3 ∷ []) ≡ gives (false ∷ [])
  pub flow_under_a_biased_condition : rows_at mark_and_flow by_default (5 ∷ 3 ∷ []) ≡ gives (part 7 0 ∷ part 999996 0 ∷ [])
  pub no_flow_where_it_fails : rows_at mark_and_flow by_default (999998 ∷ 3 ∷ []) ≡ gives (part 0 0 ∷ part 0 0 ∷ [])
  pub mark_reads_no_unknown : flags_at mark_and_flow by_default (5 ∷ 3 ∷ []) ≡ gives (true ∷ [])
  pub mark_at_other_unknowns : flags_at mark_and_flow by_default (999998 ∷ 3 ∷ []) ≡ gives (true ∷ [])

-- parameter real w = 0 from [0:1) exclude 5; parameter integer k = 2 from [0:10] exclude 3; aliasparam kk = k; analog I(a) <+ k;
abbrev ranges : List (Text Item)
ranges =
    parameters false (Some ty.Real) (defaulted (codes "w") (whole 0) (from true (whole 0) (whole 1) false ∷ excluding (whole 5) ∷ []) ∷ [])
    ∷ parameters false (Some ty.Integer) (defaulted (codes "k") (whole 2) (from true (whole 0) (whole 10) true ∷ excluding (whole 3) ∷ []) ∷ [])
    ∷ alias (codes "kk") (codes "k")
    ∷ analog (to_a (name (codes "kk")))
    ∷ []

-- parameter real p = 2; localparam real h = p * p; analog I(a) <+ h * V(a);
abbrev derived : List (Text Item)
derived =
    real_parameter 2 (codes "p")
    ∷ parameters true (Some ty.Real) (defaulted (codes "h") (between (name (codes "p")) Multiply (name (codes "p"))) [] ∷ [])
    ∷ analog (to_a (between (name (codes "h")) Multiply v_a))
    ∷ []

-- parameter integer z = 0; (* type = "instance" *) parameter integer s = 1 / z; analog I(a) <+ s;
abbrev level_alone : List (Text Item)
level_alone =
    parameters false (Some ty.Integer) (defaulted (codes "z") (whole 0) [] ∷ [])
    ∷ instance_parameters (Some ty.Integer) (defaulted (codes "s") (between (whole 1) Divide (name (codes "z"))) [] ∷ [])
    ∷ analog (to_a (name (codes "s")))
    ∷ []

-- parameter real p = 1; analog I(a) <+ $param_given(p);
abbrev asks_for_it : List (Text Item)
asks_for_it = real_parameter 1 (codes "p") ∷ analog (to_a (system (codes "$param_given") (expression (name (codes "p")) ∷ []))) ∷ []

-- parameter integer k = 4 from (4:inf); analog I(a) <+ 0;
abbrev open_end : List (Text Item)
open_end = parameters false (Some ty.Integer) (defaulted (codes "k") (whole 4) (from false (whole 4) infinity false ∷ []) ∷ []) ∷ analog (to_a (whole 0)) ∷ []

-- parameter real p = 2; localparam real h = p * p; analog I(a) <+ $param_given(p) + h * V(a);
abbrev asks_and_derives : List (Text Item)
asks_and_derives =
    real_parameter 2 (codes "p")
    ∷ parameters true (Some ty.Real) (defaulted (codes "h") (between (name (codes "p")) Multiply (name (codes "p"))) [] ∷ [])
    ∷ analog
    (to_a
    (between (system (codes "$param_given") (expression (name (codes "p")) ∷ [])) Add (between (name (codes "h")) Multiply v_a)))
    ∷ []

-- Set-up.
pub record WorkedSetUps : Type 0 where
  pub both_out_of_range : errors_at ranges (on_model (Some (Real 1) ∷ Some (Int (pos 3)) ∷ [])) (0 ∷ 0 ∷ []) ≡ gives (0 ∷ 1 ∷ [])
  pub evaluation_goes_on : rows_at ranges (on_model (Some (Real 1) ∷ Some (Int (pos 3)) ∷ [])) (0 ∷ 0 ∷ []) ≡ gives (part 3 0 ∷ part 0 0 ∷ [])
  pub both_in_range : errors_at ranges (on_model (Some (Real 0) ∷ Some (Int (pos 10)) ∷ [])) (0 ∷ 0 ∷ []) ≡ gives []
  pub open_end_is_outside : errors_at open_end by_default (0 ∷ 0 ∷ []) ≡ gives (0 ∷ [])
  pub infinite_end_tests_nothing : errors_at open_end (on_model (Some (Int (pos 5)) ∷ [])) (0 ∷ 0 ∷ []) ≡ gives []
  pub default_follows : rows_at derived (on_model (Some (Real 3) ∷ [])) (5 ∷ 0 ∷ []) ≡ gives (part 45 0 ∷ part 0 0 ∷ [])
  pub undefined_on_the_model : rows_at level_alone (on_instance (None ∷ Some (Int (pos 1)) ∷ [])) (0 ∷ 0 ∷ []) ≡ ends IntRange
  pub given_on_the_model : rows_at level_alone (on_model (None ∷ Some (Int (pos 1)) ∷ [])) (0 ∷ 0 ∷ []) ≡ gives (part 1 0 ∷ part 0 0 ∷ [])
  pub was_not_given : rows_at asks_for_it by_default (0 ∷ 0 ∷ []) ≡ gives (part 0 0 ∷ part 0 0 ∷ [])
  pub was_given : rows_at asks_for_it (on_model (Some (Real 1) ∷ [])) (0 ∷ 0 ∷ []) ≡ gives (part 1 0 ∷ part 0 0 ∷ [])
  -- 2 * 2 * 5, which moves by 2 * 2 * 5 where p moves: what follows from p moves with it, and p is not given
  pub moves_ungiven : moved_rows asks_and_derives 0 2 (5 ∷ 0 ∷ [])
      ≡ gives (record { main = part 20 20; part = part 0 0 } ∷ record { main = part 0 0; part = part 0 0 } ∷ [])

-- parameter real l = 3; real q; analog begin q = ddt(V(a)); I(a) <+ l * q; end
abbrev pub stored : List (Text Item)
stored =
    real_parameter 3 (codes "l")
    ∷ variables ty.Real (variable (codes "q") ∷ [])
    ∷ analog (begins (assign (codes "q") (of (codes "ddt") v_a) ∷ to_a (between (name (codes "l")) Multiply (name (codes "q"))) ∷ []))
    ∷ []

abbrev pub only_first : ℕ → Bool
only_first x = x == 0

abbrev pub stored_analysis : Analysis
stored_analysis = let m = module_of stored in analysis_of (names_of_module (source_of m) 0 m) (analog_bodies m)

-- the variable q and what the branch holds rest in their resistive part
abbrev pub stored_parts : Motion → ℕ → Slots TwoParts
stored_parts react j = record {
  variable = λ x. Some (record { resist = still; react = Some react });
  held = λ b. Some (record { resist = still; react = Some react });
  unknown = λ i. Some (record { resist = moves_at (i == j); react = None });
  mark = λ b. true;
  unsure = false;
}

-- What is timed, linear places, and what moves.
pub record WorkedTimes : Type 0 where
  -- q, the variable of number 0, is timed and biased; what is contributed is linear in it
  pub keeps : KeepsToTime (model stored) only_first
  pub linear : HasLinearTime (model stored) only_first only_first
  -- without q in the set the assignment breaks what is asked
  pub must_be_timed : KeepsToTime (model stored) (λ x. false) → ⊥
  -- The branch of number 0 is reactive. The row of c is untimed, since that branch ends at a and at the reference node; its part is 0.
  pub reactive : KeepsReactive (model stored) only_first only_first
  pub must_be_reactive : KeepsReactive (model stored) only_first (λ b. false) → ⊥
  pub found_reactive : map (reactive_branches stored_analysis) (0 ∷ 1 ∷ []) ≡ true ∷ false ∷ []
  pub row_of_a_is_timed : IsRowUntimed (model stored) only_first (Node 0) → ⊥
  pub row_of_c_is_untimed : IsRowUntimed (model stored) only_first (Node 1)
  -- where c alone moves nothing of it does; where a does, q moves in its reactive part
  pub keeps_where_c_moves : KeepsToClasses (model stored) two_parts (stored_parts still 1)
  pub c_alone : MovesAlone 1 (stored_parts still 1)
  pub q_must_move : KeepsToClasses (model stored) two_parts (stored_parts still 0) → ⊥
  pub keeps_where_a_moves : KeepsToClasses (model stored) two_parts (stored_parts moving 0)
  pub columns : columns_at stored by_default (5 ∷ 3 ∷ []) ≡ gives ((part 0 3 ∷ part 0 0 ∷ []) ∷ (part 0 0 ∷ part 0 0 ∷ []) ∷ [])
  pub parts_of_rows : rows_at stored by_default (5 ∷ 3 ∷ []) ≡ gives (part 0 15 ∷ part 0 0 ∷ [])
