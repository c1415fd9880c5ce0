-- Operators, statements and branches, with values worked out by hand modulo 1000003. Each row gives the residual of node a, where no
-- other text is shown for the statement `I(a) <+ e;`.
use Rattle.std.specs.Prelude.{◌≡◌, ℕ, pos, negsuc, false, List, [], ◌∷◌, Some, codes}
use Rattle.alg_laws.specs.declared.dual.Dual.{Dual}
use Rattle.alg_laws.specs.declared.number.Number.TheVariants.{Real}
use Rattle.alg_laws.specs.declared.number.Reason.{Reason}
use Rattle.alg_laws.specs.declared.number.Reason.TheVariants.{Turns, IntRange}
use Rattle.alg_laws.specs.Outcome.{Outcome, gives, ends}
use Rattle.va_tree.specs.declared.expr.BinaryOp.TheVariants.{And, Or, Equal, Add, Subtract, Multiply, Divide, Remainder, Power}
use Rattle.va_tree.specs.declared.expr.Expr.{Expr}
use Rattle.va_tree.specs.declared.expr.UnaryOp.TheVariants.{Minus, Not}
use Rattle.va_tree.specs.declared.module.Item.{Item}
use Rattle.va_tree.specs.declared.module.Ty.TheVariants as ty
use Rattle.va_tree.specs.declared.stmt.EventKind.TheVariants.{InitialStep, FinalStep}
use Rattle.va_tree.specs.declared.stmt.Stmt.{Stmt}
use Rattle.va_examples.specs.Notation.{Text, whole, decimal, name, in_parentheses, signed, between, choice, expression, system_alone, of, assign, contribute, contribute_alone, begins, case_item, cases, default_first, repeats, waits, task, variable, variables, initialised, labelled, defaulted, parameters, instance_parameters, branch, analog, function}
use Rattle.va_examples.specs.Examples.{v_a, v_c, to_a, by_default, on_both, part, rows_at, columns_at, variable_at}

-- parameter integer k = 0; analog s
abbrev with_zero : Text Stmt → List (Text Item)
with_zero s = parameters false (Some ty.Integer) (defaulted (codes "k") (whole 0) [] ∷ []) ∷ analog s ∷ []

-- the residuals at 5 and 3, where the row of c is 0
abbrev at_a : Text Stmt → Outcome Reason (List (Dual ℕ))
at_a s = rows_at (with_zero s) by_default (5 ∷ 3 ∷ [])

abbrev is : ℕ → Outcome Reason (List (Dual ℕ))
is x = gives (part x 0 ∷ part 0 0 ∷ [])

abbrev over_k : Text Expr
over_k = between (whole 1) Divide (name (codes "k"))

-- -2147483647 - 1, the least integer
abbrev lowest : Text Expr
lowest = in_parentheses (between (signed Minus (whole 2147483647)) Subtract (whole 1))

pub record WorkedOperators : Type 0 where
  -- 1 / 2
  pub quotient_of_integers : at_a (to_a (between (whole 1) Divide (whole 2))) ≡ is 0
  -- 1.0 / 2
  pub quotient_of_reals : at_a (to_a (between (decimal 1 (pos 0)) Divide (whole 2))) ≡ is 500002
  -- -7 / 2
  pub truncated_towards_zero : at_a (to_a (between (signed Minus (whole 7)) Divide (whole 2))) ≡ is 1000000
  -- -7 % 2
  pub remainder_of_negative : at_a (to_a (between (signed Minus (whole 7)) Remainder (whole 2))) ≡ is 1000002
  -- 2 ** 3, which is pow
  pub power_is_real : at_a (to_a (between (whole 2) Power (whole 3))) ≡ is 29
  -- (1 ? 1 : 2.0) / 2
  pub type_of_both_arms : at_a (to_a (between (in_parentheses (choice (whole 1) (whole 1) (decimal 2 (pos 0)))) Divide (whole 2))) ≡ is 500002
  -- (k && 1 / k) + (!k || 1 / k)
  pub right_side_not_asked : at_a (to_a (between (in_parentheses (between (name (codes "k")) And over_k)) Add (in_parentheses (between (signed Not (name (codes "k"))) Or over_k)))) ≡ is 1
  -- 15m
  pub scaled_numeral : at_a (to_a (decimal 15 (negsuc 2))) ≡ is 995003
  -- (-2147483647 - 1) % -1, in which the quotient leaves the range
  pub remainder_of_the_lowest : at_a (to_a (between lowest Remainder (signed Minus (whole 1)))) ≡ ends IntRange
  -- abs(-2147483647 - 1)
  pub absolute_of_the_lowest : at_a (to_a (of (codes "abs") lowest)) ≡ ends IntRange
  -- 1000003 == 0, by the integers; in the algebra both are 0
  pub integers_that_differ : at_a (to_a (between (whole 1000003) Equal (whole 0))) ≡ is 0
  -- $temperature
  pub temperature : at_a (to_a (system_alone (codes "$temperature"))) ≡ is 300

pub record WorkedStatements : Type 0 where
  -- repeat (10) I(a) <+ 1;
  pub counted_turns : at_a (repeats (whole 10) (to_a (whole 1))) ≡ is 10
  -- repeat (11) I(a) <+ 1;
  pub turns_beyond_the_bound : at_a (repeats (whole 11) (to_a (whole 1))) ≡ ends Turns
  -- repeat (11) I(a) <+ 1 / k;
  pub undefined_in_the_first_turn : at_a (repeats (whole 11) (to_a over_k)) ≡ ends IntRange
  -- repeat (-1) I(a) <+ 1 / k;
  pub count_below_one : at_a (repeats (signed Minus (whole 1)) (to_a over_k)) ≡ is 0
  -- case (2) default : I(a) <+ 1; 2 : I(a) <+ 4; endcase
  pub default_stands_anywhere : at_a (default_first (whole 2) (to_a (whole 1)) (case_item (whole 2) (to_a (whole 4)) ∷ [])) ≡ is 4
  -- case (3) default : I(a) <+ 1; 2 : I(a) <+ 4; endcase
  pub default_where_none_is : at_a (default_first (whole 3) (to_a (whole 1)) (case_item (whole 2) (to_a (whole 4)) ∷ [])) ≡ is 1
  -- case (3) 2 : I(a) <+ 4; endcase
  pub no_item_and_no_default : at_a (cases (whole 3) (case_item (whole 2) (to_a (whole 4)) ∷ [])) ≡ is 0
  -- @(initial_step) I(a) <+ 1;
  pub initial_step : at_a (waits InitialStep (to_a (whole 1))) ≡ is 1
  -- @(final_step) I(a) <+ 1 / k;
  pub final_step : at_a (waits FinalStep (to_a over_k)) ≡ is 0
  -- @(final_step) begin : b integer z = 1 / k; end
  pub block_of_the_final_step : at_a (waits FinalStep (labelled (codes "b") ty.Integer (initialised (codes "z") over_k ∷ []) [])) ≡ is 0
  -- begin $strobe(1 / k); I(a) <+ 2; end
  pub task_without_effect : at_a (begins (task (codes "$strobe") (expression over_k ∷ []) ∷ to_a (whole 2) ∷ [])) ≡ is 2

-- analog function real f; input x; f = f + x; endfunction analog I(a) <+ f(1) + f(2);
abbrev starts_anew : List (Text Item)
starts_anew =
    function (Some ty.Real) (codes "f") (codes "x" ∷ []) (assign (codes "f") (between (name (codes "f")) Add (name (codes "x"))))
    ∷ analog (to_a (between (of (codes "f") (whole 1)) Add (of (codes "f") (whole 2))))
    ∷ []

-- branch (a, c) b; analog begin I(b) <+ V(b); I(a, c) <+ 2 * V(c); end
abbrev parallel : List (Text Item)
parallel =
    branch (codes "a") (codes "c") (codes "b")
    ∷ analog
    (begins
    (contribute_alone (codes "I") (codes "b") (of (codes "V") (name (codes "b")))
    ∷ contribute (codes "I") (codes "a") (codes "c") (between (whole 2) Multiply v_c)
    ∷ []))
    ∷ []

-- analog V(a) <+ 3;
abbrev source_to_ground : List (Text Item)
source_to_ground = analog (contribute_alone (codes "V") (codes "a") (whole 3)) ∷ []

-- real x; analog x = V(a) + ddt(V(c));
abbrev timed_variable : List (Text Item)
timed_variable = variables ty.Real (variable (codes "x") ∷ []) ∷ analog (assign (codes "x") (between v_a Add (of (codes "ddt") v_c))) ∷ []

-- (* type = "instance" *) parameter real s = 1; analog I(a) <+ s;
abbrev instance_parameter : List (Text Item)
instance_parameter = instance_parameters (Some ty.Real) (defaulted (codes "s") (whole 1) [] ∷ []) ∷ analog (to_a (name (codes "s"))) ∷ []

-- parameter real s = 1; analog I(a) <+ s;
abbrev model_parameter : List (Text Item)
model_parameter = parameters false (Some ty.Real) (defaulted (codes "s") (whole 1) [] ∷ []) ∷ analog (to_a (name (codes "s"))) ∷ []

pub record WorkedModules : Type 0 where
  pub each_call_starts_anew : rows_at starts_anew by_default (0 ∷ 0 ∷ []) ≡ is 3
  pub named_branch_beside_unnamed : rows_at parallel by_default (5 ∷ 3 ∷ []) ≡ gives (part 8 0 ∷ part 999995 0 ∷ [])
  pub potential_to_ground : rows_at source_to_ground by_default (5 ∷ 3 ∷ 7 ∷ []) ≡ gives (part 7 0 ∷ part 0 0 ∷ part 2 0 ∷ [])
  pub potential_to_ground_columns : columns_at source_to_ground by_default (5 ∷ 3 ∷ 7 ∷ [])
      ≡ gives ((part 0 0 ∷ part 0 0 ∷ part 1 0 ∷ []) ∷ (part 0 0 ∷ part 0 0 ∷ part 0 0 ∷ []) ∷ (part 1 0 ∷ part 0 0 ∷ part 0 0 ∷ []) ∷ [])
  pub operating_value_of_a_timed_variable : variable_at 0 timed_variable by_default (5 ∷ 3 ∷ []) ≡ gives (Real 5)
  pub given_on_the_instance : rows_at instance_parameter (on_both (Some (Real 2) ∷ []) (Some (Real 4) ∷ [])) (0 ∷ 0 ∷ []) ≡ is 4
  pub given_on_the_model_alone : rows_at instance_parameter (on_both (Some (Real 2) ∷ []) []) (0 ∷ 0 ∷ []) ≡ is 2
  pub model_parameter_on_an_instance : rows_at model_parameter (on_both (Some (Real 2) ∷ []) (Some (Real 4) ∷ [])) (0 ∷ 0 ∷ []) ≡ is 2
