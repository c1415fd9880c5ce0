-- Modules without time derivatives, with values worked out by hand modulo 1000003, where 500002 is a half, and -x is 1000003 - x.
-- Above each row stands the text of the module's items.
use Rattle.std.specs.Prelude.{◌≡◌, ℕ, pos, false, List, [], ◌∷◌, map, Some, codes}
use Rattle.alg_laws.specs.declared.number.Number.TheVariants.{Real, Int}
use Rattle.alg_laws.specs.declared.number.Reason.TheVariants.{Turns, IntRange}
use Rattle.alg_laws.specs.Outcome.{gives, ends}
use Rattle.va_tree.specs.declared.expr.BinaryOp.TheVariants.{Equal, Less, Greater, Add, Multiply, Divide}
use Rattle.va_tree.specs.declared.module.Item.{Item}
use Rattle.va_tree.specs.declared.module.Ty.TheVariants as ty
use Rattle.va_sem.specs.Meanings.{known_of}
use Rattle.va_sem.specs.NamesFaults.{names_faults}
use Rattle.va_sem.specs.Sites.{Site}
use Rattle.va_examples.specs.Notation.{Text, whole, name, between, choice, expression, string, system, of, of_two, assign, contribute, nothing, begins, if_only, if_or_else, case_item, cases, sets, counting, during, repeats, variable, variables, initialised, labelled, defaulted, parameters, analog, function}
use Rattle.va_examples.specs.Examples.{source_of, module_of, v_a, v_c, v_a_c, to_a, to_a_c, by_default, on_model, part, rows_at, columns_at, variable_at}

abbrev real_parameter : ℕ → List ℕ → Text Item
real_parameter value p = parameters false (Some ty.Real) (defaulted p (whole value) [] ∷ [])

abbrev integer_parameter : ℕ → List ℕ → Text Item
integer_parameter value p = parameters false (Some ty.Integer) (defaulted p (whole value) [] ∷ [])

-- parameter real r = 1; analog I(a, c) <+ V(a, c) / r;
abbrev resistor : List (Text Item)
resistor = real_parameter 1 (codes "r") ∷ analog (to_a_c (between v_a_c Divide (name (codes "r")))) ∷ []

-- analog if (V(a) > 0) if (V(c) > 0) I(a) <+ 1; else I(a) <+ 2;
abbrev nested_if : List (Text Item)
nested_if =
    analog (if_only (between v_a Greater (whole 0)) (if_or_else (between v_c Greater (whole 0)) (to_a (whole 1)) (to_a (whole 2)))) ∷ []

-- parameter real p = 0; analog I(a, c) <+ pow(V(a, c), 2) + sqrt(p);
abbrev powers : List (Text Item)
powers =
    real_parameter 0 (codes "p")
    ∷ analog (to_a_c (between (of_two (codes "pow") v_a_c (whole 2)) Add (of (codes "sqrt") (name (codes "p")))))
    ∷ []

-- analog I(a, c) <+ exp(V(a, c));
abbrev exponential : List (Text Item)
exponential = analog (to_a_c (of (codes "exp") v_a_c)) ∷ []

-- analog begin I(a, c) <+ V(a, c); I(c, a) <+ V(a, c); end
abbrev back_and_forth : List (Text Item)
back_and_forth = analog (begins (to_a_c v_a_c ∷ contribute (codes "I") (codes "c") (codes "a") v_a_c ∷ [])) ∷ []

-- analog if (V(a) > 0) I(a) <+ V(c);
abbrev under_a_condition : List (Text Item)
under_a_condition = analog (if_only (between v_a Greater (whole 0)) (to_a v_c)) ∷ []

-- analog I(a) <+ max(V(a), V(c));
abbrev greater_one : List (Text Item)
greater_one = analog (to_a (of_two (codes "max") v_a v_c)) ∷ []

-- Straight code and conditions: residuals, and columns of the Jacobian.
pub record WorkedStraight : Type 0 where
  pub resistor_rows : rows_at resistor (on_model (Some (Real 2) ∷ [])) (5 ∷ 3 ∷ []) ≡ gives (part 1 0 ∷ part 1000002 0 ∷ [])
  pub resistor_columns : columns_at resistor (on_model (Some (Real 2) ∷ [])) (5 ∷ 3 ∷ [])
      ≡ gives ((part 500002 0 ∷ part 500001 0 ∷ []) ∷ (part 500001 0 ∷ part 500002 0 ∷ []) ∷ [])
  pub else_of_inner_if : rows_at nested_if by_default (5 ∷ 1000000 ∷ []) ≡ gives (part 2 0 ∷ part 0 0 ∷ [])
  pub outer_test_fails : rows_at nested_if by_default (999998 ∷ 1000000 ∷ []) ≡ gives (part 0 0 ∷ part 0 0 ∷ [])
  pub power_and_root : rows_at powers by_default (0 ∷ 1 ∷ []) ≡ gives (part 22 0 ∷ part 999981 0 ∷ [])
  pub power_and_root_columns : columns_at powers by_default (0 ∷ 1 ∷ [])
      ≡ gives ((part 38 0 ∷ part 999965 0 ∷ []) ∷ (part 999965 0 ∷ part 38 0 ∷ []) ∷ [])
  pub exponential_rows : rows_at exponential by_default (5 ∷ 3 ∷ []) ≡ gives (part 5 0 ∷ part 999998 0 ∷ [])
  pub exponential_columns : columns_at exponential by_default (5 ∷ 3 ∷ [])
      ≡ gives ((part 5 0 ∷ part 999998 0 ∷ []) ∷ (part 999998 0 ∷ part 5 0 ∷ []) ∷ [])
  pub turned_access : rows_at back_and_forth by_default (5 ∷ 3 ∷ []) ≡ gives (part 0 0 ∷ part 0 0 ∷ [])
  pub turned_access_columns : columns_at back_and_forth by_default (5 ∷ 3 ∷ [])
      ≡ gives ((part 0 0 ∷ part 0 0 ∷ []) ∷ (part 0 0 ∷ part 0 0 ∷ []) ∷ [])
  pub conditions_carry_nothing : columns_at under_a_condition by_default (5 ∷ 3 ∷ [])
      ≡ gives ((part 0 0 ∷ part 0 0 ∷ []) ∷ (part 1 0 ∷ part 0 0 ∷ []) ∷ [])
  pub second_of_equals : columns_at greater_one by_default (5 ∷ 5 ∷ [])
      ≡ gives ((part 0 0 ∷ part 0 0 ∷ []) ∷ (part 1 0 ∷ part 0 0 ∷ []) ∷ [])

abbrev counts_up : Text Item
counts_up = analog (begins (counting (sets (codes "i") (whole 0)) (between (name (codes "i")) Less (name (codes "k"))) (sets (codes "i") (between (name (codes "i")) Add (whole 1))) nothing ∷ to_a (name (codes "i")) ∷ []))

-- integer i; parameter integer k = 0; analog begin for (i = 0; i < k; i = i + 1) ; I(a) <+ i; end
abbrev counter : List (Text Item)
counter = variables ty.Integer (variable (codes "i") ∷ []) ∷ integer_parameter 0 (codes "k") ∷ counts_up ∷ []

-- parameter integer k = 2147483647; analog I(a) <+ k + 1;
abbrev too_great : List (Text Item)
too_great = integer_parameter 2147483647 (codes "k") ∷ analog (to_a (between (name (codes "k")) Add (whole 1))) ∷ []

-- integer i; real x; analog begin x = 0; for (i = 0; i < 3; i = i + 1) x = x + V(a); I(a) <+ x; end
abbrev three_times : List (Text Item)
three_times =
    variables ty.Integer (variable (codes "i") ∷ [])
    ∷ variables ty.Real (variable (codes "x") ∷ [])
    ∷ analog
    (begins
    (assign (codes "x") (whole 0)
    ∷ counting (sets (codes "i") (whole 0)) (between (name (codes "i")) Less (whole 3)) (sets (codes "i") (between (name (codes "i")) Add (whole 1))) (assign (codes "x") (between (name (codes "x")) Add v_a))
    ∷ to_a (name (codes "x"))
    ∷ []))
    ∷ []

-- integer k; analog begin k = 0; I(a) <+ k == 0 ? 4 : 1 / k; end
abbrev dead_arm : List (Text Item)
dead_arm =
    variables ty.Integer (variable (codes "k") ∷ [])
    ∷ analog (begins (assign (codes "k") (whole 0) ∷ to_a (choice (between (name (codes "k")) Equal (whole 0)) (whole 4) (between (whole 1) Divide (name (codes "k")))) ∷ []))
    ∷ []

-- parameter integer k = 0; analog case (1) 1 : I(a) <+ 3; 1 / k : I(a) <+ 4; endcase
abbrev later_item : List (Text Item)
later_item =
    integer_parameter 0 (codes "k")
    ∷ analog (cases (whole 1) (case_item (whole 1) (to_a (whole 3)) ∷ case_item (between (whole 1) Divide (name (codes "k"))) (to_a (whole 4)) ∷ []))
    ∷ []

-- analog repeat (3) begin : b real y = 5; y = y + 1; I(a) <+ y; end
abbrev kept_between_entries : List (Text Item)
kept_between_entries =
    analog (repeats (whole 3) (labelled (codes "b") ty.Real (initialised (codes "y") (whole 5) ∷ []) (assign (codes "y") (between (name (codes "y")) Add (whole 1)) ∷ to_a (name (codes "y")) ∷ [])))
    ∷ []

-- parameter integer k = 0; analog if (0) begin : b integer z = 1 / k; end
abbrev block_that_is_not_entered : List (Text Item)
block_that_is_not_entered =
    integer_parameter 0 (codes "k")
    ∷ analog (if_only (whole 0) (labelled (codes "b") ty.Integer (initialised (codes "z") (between (whole 1) Divide (name (codes "k"))) ∷ []) []))
    ∷ []

-- analog while (1) ;
abbrev endless : List (Text Item)
endless = analog (during (whole 1) nothing) ∷ []

-- Loops, choices, and what makes an evaluation undefined.
pub record WorkedLoops : Type 0 where
  pub as_many_turns_as_allowed : rows_at counter (on_model (Some (Int (pos 10)) ∷ [])) (0 ∷ 0 ∷ []) ≡ gives (part 10 0 ∷ part 0 0 ∷ [])
  pub one_turn_too_many : rows_at counter (on_model (Some (Int (pos 11)) ∷ [])) (0 ∷ 0 ∷ []) ≡ ends Turns
  pub integer_out_of_range : rows_at too_great by_default (0 ∷ 0 ∷ []) ≡ ends IntRange
  pub three_turns : rows_at three_times by_default (5 ∷ 0 ∷ []) ≡ gives (part 15 0 ∷ part 0 0 ∷ [])
  pub three_turns_columns : columns_at three_times by_default (5 ∷ 0 ∷ [])
      ≡ gives ((part 3 0 ∷ part 0 0 ∷ []) ∷ (part 0 0 ∷ part 0 0 ∷ []) ∷ [])
  pub counter_at_the_end : variable_at 0 three_times by_default (5 ∷ 0 ∷ []) ≡ gives (Int (pos 3))
  pub arm_that_is_not_chosen : rows_at dead_arm by_default (0 ∷ 0 ∷ []) ≡ gives (part 4 0 ∷ part 0 0 ∷ [])
  pub items_after_the_chosen_one : rows_at later_item by_default (0 ∷ 0 ∷ []) ≡ gives (part 3 0 ∷ part 0 0 ∷ [])
  pub variable_of_a_block : rows_at kept_between_entries by_default (0 ∷ 0 ∷ []) ≡ gives (part 21 0 ∷ part 0 0 ∷ [])
  pub initialiser_of_a_block : rows_at block_that_is_not_entered by_default (0 ∷ 0 ∷ []) ≡ ends IntRange
  pub loop_without_end : rows_at endless by_default (0 ∷ 0 ∷ []) ≡ ends Turns

-- analog function real f; input x, y; f = x * x; endfunction
abbrev square_of_first : Text Item
square_of_first = function (Some ty.Real) (codes "f") (codes "x" ∷ codes "y" ∷ []) (assign (codes "f") (between (name (codes "x")) Multiply (name (codes "x"))))

-- .. analog I(a) <+ f(V(a), V(c));
abbrev one_argument_counts : List (Text Item)
one_argument_counts = square_of_first ∷ analog (to_a (of_two (codes "f") v_a v_c)) ∷ []

-- analog function real g; input x; g = f(x, x) + 1; endfunction .. analog I(a) <+ g(V(a));
abbrev called_before_declared : List (Text Item)
called_before_declared =
    function (Some ty.Real) (codes "g") (codes "x" ∷ []) (assign (codes "g") (between (of_two (codes "f") (name (codes "x")) (name (codes "x"))) Add (whole 1)))
    ∷ square_of_first
    ∷ analog (to_a (of (codes "g") v_a))
    ∷ []

-- parameter integer k = 0; analog I(a) <+ $limit(V(a), "f", 1 / k) + $simparam("g", 2);
abbrev not_looked_at : List (Text Item)
not_looked_at =
    integer_parameter 0 (codes "k")
    ∷ analog
    (to_a
    (between (system (codes "$limit") (expression v_a ∷ string (codes "f") ∷ expression (between (whole 1) Divide (name (codes "k"))) ∷ [])) Add
    (system (codes "$simparam") (string (codes "g") ∷ expression (whole 2) ∷ []))))
    ∷ []

-- Calls.
pub record WorkedCalls : Type 0 where
  pub first_argument_squared : rows_at one_argument_counts by_default (5 ∷ 3 ∷ []) ≡ gives (part 25 0 ∷ part 0 0 ∷ [])
  pub through_the_argument_that_counts : columns_at one_argument_counts by_default (5 ∷ 3 ∷ [])
      ≡ gives ((part 10 0 ∷ part 0 0 ∷ []) ∷ (part 0 0 ∷ part 0 0 ∷ []) ∷ [])
  pub nested_call : rows_at called_before_declared by_default (5 ∷ 3 ∷ []) ≡ gives (part 26 0 ∷ part 0 0 ∷ [])
  pub nested_call_columns : columns_at called_before_declared by_default (5 ∷ 3 ∷ [])
      ≡ gives ((part 10 0 ∷ part 0 0 ∷ []) ∷ (part 0 0 ∷ part 0 0 ∷ []) ∷ [])
  -- its names have no fault, and no two of them stand at one token: so calls are never nested deeper than there are functions
  pub names_without_fault : names_faults (source_of (module_of called_before_declared)) ≡ []
  pub tokens_of_names : map (λ (x : Site). x.at) (known_of (source_of (module_of called_before_declared)) (module_of called_before_declared)).sites
      ≡ 78 ∷ 80 ∷ 84 ∷ 86 ∷ 88 ∷ 89 ∷ 91 ∷ 96 ∷ 99 ∷ 101 ∷ 103 ∷ 105 ∷ 107 ∷ 116 ∷ 119 ∷ 121 ∷ 123 ∷ 125 ∷ 127 ∷ 131 ∷ 133 ∷ 136 ∷ 138 ∷ 140 ∷ []
  pub arguments_that_are_not_looked_at : rows_at not_looked_at by_default (5 ∷ 3 ∷ []) ≡ gives (part 7 0 ∷ part 0 0 ∷ [])
