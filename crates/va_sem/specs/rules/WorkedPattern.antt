-- Entries of the Jacobians of small modules, and the tables of a module, that were worked out by hand.
use Rattle.std.specs.Prelude.{◌≡◌, [], ◌∷◌, Some, codes}
use Rattle.va_tree.specs.declared.expr.BinaryOp.TheVariants.{Add, Subtract, Multiply, Divide}
use Rattle.va_tree.specs.Statements.{Statement}
use Rattle.va_sem.specs.declared.names.Meaning.TheVariants as means
use Rattle.va_sem.specs.rules.Written.{Written, Access, number, reads, in_parentheses, between, choice, of, ddt, calls, limited, assigns, contributes, if_only, if_or_else, finally, begins}
use Rattle.va_sem.specs.rules.SmallModule.{v, i, v_a_c, i_a_c, v_a, i_a, v_i_c, i_i_c, x, y, n, p, biased_test, pairs, collapse, entries, resistive, reactive, both}

-- `V(a, i)` and `I(a, i)`
abbrev v_a_i : Access
v_a_i = v 4 (means.Node 0 ∷ means.Node 2 ∷ [])

abbrev i_a_i : Access
i_a_i = i 4 (means.Node 0 ∷ means.Node 2 ∷ [])

-- begin
--   if (p) I(a, i) <+ V(a, i) / p; else V(a, i) <+ 0;
--   x = p * (limexp(V(i, c) / p) - 1);
--   y = p * V(i, c);
--   I(i, c) <+ x + ddt(y);
-- end
abbrev pub diode : Written Statement
diode =
    begins
    (if_or_else p (contributes i_a_i (between (reads v_a_i) Divide p)) (contributes v_a_i (number 0))
    ∷ assigns 0 (between p Multiply (in_parentheses (between (of (codes "limexp") (between (reads v_i_c) Divide p)) Subtract (number 1))))
    ∷ assigns 1 (between p Multiply (reads v_i_c))
    ∷ contributes i_i_c (between x Add (ddt y))
    ∷ [])

-- Which parts of which entries are listed. The nodes a, c and i are the unknowns 0, 1 and 2, and a potential branch is 3.
pub record WorkedPattern : Type 0 where
  -- I(a, c) <+ V(a, c) / p;
  pub resistor : entries (contributes i_a_c (between (reads v_a_c) Divide p)) ≡ resistive 0 0 ∷ resistive 0 1 ∷ resistive 1 0 ∷ resistive 1 1 ∷ []
  -- I(a, c) <+ p * ddt(V(a, c));
  pub capacitor : entries (contributes i_a_c (between p Multiply (ddt (reads v_a_c)))) ≡ reactive 0 0 ∷ reactive 0 1 ∷ reactive 1 0 ∷ reactive 1 1 ∷ []
  -- V(a, c) <+ p * ddt(I(a, c));
  pub inductor : entries (contributes v_a_c (between p Multiply (ddt (reads i_a_c)))) ≡ resistive 0 3 ∷ resistive 1 3 ∷ resistive 3 0 ∷ resistive 3 1 ∷ reactive 3 3 ∷ []
  pub of_a_diode : entries diode ≡ resistive 0 0 ∷ resistive 0 2 ∷ both 1 1 ∷ both 1 2 ∷ resistive 2 0 ∷ both 2 1 ∷ both 2 2 ∷ []
  pub pairs_of_a_diode : pairs diode ≡ collapse 0 (Some 2) ∷ []
  -- if (V(a) > 0) I(i, c) <+ 1;
  pub condition : entries (if_only biased_test (contributes i_i_c (number 1))) ≡ []
  -- begin I(a) <+ x; x = V(i, c); end
  pub order_plays_no_part : entries (begins (contributes i_a x ∷ assigns 0 (reads v_i_c) ∷ [])) ≡ resistive 0 1 ∷ resistive 0 2 ∷ []
  -- I(a) <+ 0 * V(i, c);
  pub values_play_no_part : entries (contributes i_a (between (number 0) Multiply (reads v_i_c))) ≡ resistive 0 1 ∷ resistive 0 2 ∷ []
  -- begin n = V(i, c); I(a) <+ n; end
  pub integer_variable : entries (begins (assigns 2 (reads v_i_c) ∷ contributes i_a n ∷ [])) ≡ []
  -- begin x = ddt(V(i, c)); I(a) <+ x + V(a); end
  pub timed_variable : entries (begins (assigns 0 (ddt (reads v_i_c)) ∷ contributes i_a (between x Add (reads v_a)) ∷ [])) ≡ resistive 0 0 ∷ reactive 0 1 ∷ reactive 0 2 ∷ []
  -- begin x = V(i, c); I(a) <+ ddt(x); end
  pub time_derivative_of_a_variable : entries (begins (assigns 0 (reads v_i_c) ∷ contributes i_a (ddt x) ∷ [])) ≡ reactive 0 1 ∷ reactive 0 2 ∷ []
  -- I(a) <+ V(a) > 0 ? V(i, c) : 0;
  pub arms : entries (contributes i_a (choice biased_test (reads v_i_c) (number 0))) ≡ resistive 0 1 ∷ resistive 0 2 ∷ []
  -- I(a) <+ f(V(a), V(i, c)); of which the second argument is an integer
  pub function : entries (contributes i_a (calls 0 (reads v_a) (reads v_i_c))) ≡ resistive 0 0 ∷ []
  -- I(a) <+ $limit(V(a), V(i, c));
  pub what_is_not_looked_at : entries (contributes i_a (limited (reads v_a) (reads v_i_c))) ≡ resistive 0 0 ∷ []
  -- @(final_step) I(a) <+ V(a);
  pub final_step : entries (finally (contributes i_a (reads v_a))) ≡ []
