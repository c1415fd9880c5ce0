-- Rules of small modules that were worked out by hand.
use Rattle.std.specs.Prelude.{◌≡◌, ℕ, true, false, [], ◌∷◌, Option, Some, None, codes}
use Rattle.va_base.specs.declared.fault.FaultCode.TheVariants.{DdtNonLinear, DdtUnderBias, DdtInLoop, DdtInFunction, DdtTwice, SwitchBranch, FlowProbe, CollapseProbed, UnknownsMany, ParamsMany, NodesMany}
use Rattle.va_tree.specs.declared.expr.UnaryOp.TheVariants.{Plus, Minus, Not}
use Rattle.va_tree.specs.declared.expr.BinaryOp.TheVariants.{Add, Multiply, Divide, Greater}
use Rattle.va_sem.specs.declared.branch.BranchKind.{BranchKind}
use Rattle.va_sem.specs.declared.branch.BranchKind.TheVariants as kind
use Rattle.va_sem.specs.declared.branch.Unknown.TheVariants.{Node, Branch}
use Rattle.va_sem.specs.rules.Limits.{Limits, limits}
use Rattle.va_sem.specs.rules.Written.{number, reads, in_parentheses, signed, between, choice, of, ddt, limited, nothing, assigns, contributes, if_only, if_or_else, case_default_first, during, counting, finally, begins}
use Rattle.va_sem.specs.rules.SmallModule.{v_a_c, i_a_c, v_a, i_a, v_i_c, i_i_c, x, y, n, p, biased_test, biased, timed, broken, broken_within, broken_in_function, kinds, unknown_list, pairs, collapse}

-- Which variables are biased and timed.
pub record WorkedBiased : Type 0 where
  -- begin y = x; x = V(a); end
  pub order_plays_no_part : biased (begins (assigns 1 x ∷ assigns 0 (reads v_a) ∷ [])) ≡ true ∷ true ∷ false ∷ []
  -- if (V(a) > 0) x = 1;
  pub under_a_biased_condition : biased (if_only biased_test (assigns 0 (number 1))) ≡ true ∷ false ∷ false ∷ []
  -- if (p) x = 1; else y = V(a);
  pub condition_that_is_fixed : biased (if_or_else p (assigns 0 (number 1)) (assigns 1 (reads v_a))) ≡ false ∷ true ∷ false ∷ []
  -- for (x = 0; V(a) > 0; x = 1) ;
  pub condition_of_a_for_stands_over_its_head : biased (counting 0 (number 0) biased_test (number 1) nothing) ≡ true ∷ false ∷ false ∷ []
  -- case (p) default : x = 1; V(a) : ; endcase
  pub items_stand_over_all_arms : biased (case_default_first p (assigns 0 (number 1)) (reads v_a) nothing) ≡ true ∷ false ∷ false ∷ []
  -- @(final_step) x = V(a);
  pub final_step : biased (finally (assigns 0 (reads v_a))) ≡ false ∷ false ∷ false ∷ []
  -- begin n = y; y = ddt(V(a)); x = $limit(V(a), y); end
  pub what_is_not_looked_at : timed (begins (assigns 2 y ∷ assigns 1 (ddt (reads v_a)) ∷ assigns 0 (limited (reads v_a) y) ∷ [])) ≡ false ∷ true ∷ true ∷ []
  -- if (x) y = 1; with a timed x
  pub conditions_make_nothing_timed : timed (begins (if_only x (assigns 1 (number 1)) ∷ assigns 0 (ddt (reads v_a)) ∷ [])) ≡ true ∷ false ∷ false ∷ []

-- Time derivatives. Each row says at which tokens which rules are broken.
pub record WorkedDerivatives : Type 0 where
  -- I(a, c) <+ ddt(V(a, c)) * V(a, c);
  pub beside_a_biased_factor : broken (contributes i_a_c (between (ddt (reads v_a_c)) Multiply (reads v_a_c))) ≡ (9, DdtNonLinear) ∷ []
  -- I(a, c) <+ p * ddt(V(a, c));
  pub beside_a_fixed_factor : broken (contributes i_a_c (between p Multiply (ddt (reads v_a_c)))) ≡ []
  -- I(a, c) <+ p / ddt(V(a, c));
  pub denominator : broken (contributes i_a_c (between p Divide (ddt (reads v_a_c)))) ≡ (11, DdtNonLinear) ∷ []
  -- I(a, c) <+ -(p * ddt(V(a, c))) / p + (p ? ddt(V(a, c)) : 0);
  pub linear_places : broken (contributes i_a_c (between (between (signed Minus (in_parentheses (between p Multiply (ddt (reads v_a_c))))) Divide p) Add (in_parentheses (choice p (ddt (reads v_a_c)) (number 0))))) ≡ []
  -- if (V(a) > 0) I(a, c) <+ ddt(V(a, c));
  pub under_bias : broken (if_only biased_test (contributes i_a_c (ddt (reads v_a_c)))) ≡ (18, DdtUnderBias) ∷ []
  -- x = V(a) > 0 ? (V(a) > 0 ? ddt(V(a)) : 0) : 0;
  pub arms_under_bias : broken (assigns 0 (choice biased_test (in_parentheses (choice biased_test (ddt (reads v_a)) (number 0))) (number 0))) ≡ (11, DdtUnderBias) ∷ (19, DdtUnderBias) ∷ []
  -- while (p) I(a, c) <+ ddt(V(a, c));
  pub in_a_loop : broken (during p (contributes i_a_c (ddt (reads v_a_c)))) ≡ (13, DdtInLoop) ∷ []
  -- for (x = 0; p; x = ddt(V(a, c))) ;
  pub in_the_head_of_a_loop : broken (counting 0 (number 0) p (ddt (reads v_a_c)) nothing) ≡ (12, DdtInLoop) ∷ []
  -- x = ddt(y);
  pub in_a_function : broken_in_function (assigns 0 (ddt y)) ≡ (4, DdtInFunction) ∷ []
  -- x = ddt(exp(ddt(V(a))));
  pub twice : broken (assigns 0 (ddt (of (codes "exp") (ddt (reads v_a))))) ≡ (8, DdtNonLinear) ∷ (6, DdtTwice) ∷ []
  -- x = ddt(ddt(V(a)) * V(a));
  pub twice_at_one_token : broken (assigns 0 (ddt (between (ddt (reads v_a)) Multiply (reads v_a)))) ≡ (6, DdtNonLinear) ∷ (6, DdtTwice) ∷ []
  -- begin I(a) <+ exp(n); n = ddt(V(a)); end
  pub integer_variable : broken (begins (contributes i_a (of (codes "exp") n) ∷ assigns 2 (ddt (reads v_a)) ∷ [])) ≡ (10, DdtNonLinear) ∷ (15, DdtNonLinear) ∷ []
  -- begin I(a, c) <+ x * V(a, c); x = ddt(V(a)); end
  pub timed_variable : broken (begins (contributes i_a_c (between x Multiply (reads v_a_c)) ∷ assigns 0 (ddt (reads v_a)) ∷ [])) ≡ (10, DdtNonLinear) ∷ []
  -- if (ddt(V(a)) > 0) ; the side of the comparison and the whole condition
  pub condition : broken (if_only (between (ddt (reads v_a)) Greater (number 0)) nothing) ≡ (4, DdtNonLinear) ∷ (4, DdtNonLinear) ∷ []
  -- @(final_step) x = ddt(ddt(V(a)));
  pub final_step : broken (finally (assigns 0 (ddt (ddt (reads v_a))))) ≡ []

abbrev pub flow : Option BranchKind
flow = Some kind.Flow

abbrev pub collapsing : Option BranchKind
collapsing = Some kind.Collapsing

abbrev pub potential : Option BranchKind
potential = Some kind.Potential

-- Kinds of the branches a to c, a to the reference node, and i to c, and the rules on them.
pub record WorkedKinds : Type 0 where
  -- I(a, c) <+ V(a, c);
  pub flow_alone : kinds (contributes i_a_c (reads v_a_c)) ≡ flow ∷ flow ∷ flow ∷ []
  -- if (p) I(i, c) <+ V(i, c) / p; else V(i, c) <+ 0;
  pub zero_under_a_fixed_condition : kinds (if_or_else p (contributes i_i_c (between (reads v_i_c) Divide p)) (contributes v_i_c (number 0))) ≡ flow ∷ flow ∷ collapsing ∷ []
  -- if (V(a) > 0) I(i, c) <+ 1; else V(i, c) <+ 0;
  pub zero_under_bias : broken (if_or_else biased_test (contributes i_i_c (number 1)) (contributes v_i_c (number 0))) ≡ (11, SwitchBranch) ∷ []
  -- if (V(a) > 0) V(i, c) <+ 0; else V(i, c) <+ 0;
  pub zero_under_bias_on_every_path : kinds (if_or_else biased_test (contributes v_i_c (number 0)) (contributes v_i_c (number 0))) ≡ flow ∷ flow ∷ potential ∷ []
  -- begin x = V(a); if (x) V(i, c) <+ 0; end
  pub zero_under_a_biased_variable : broken (begins (assigns 0 (reads v_a) ∷ if_only x (contributes v_i_c (number 0)) ∷ [])) ≡ (14, SwitchBranch) ∷ []
  -- V(i, c) <+ -(+0);
  pub signed_zero : kinds (contributes v_i_c (signed Minus (in_parentheses (signed Plus (number 0))))) ≡ flow ∷ flow ∷ collapsing ∷ []
  -- V(i, c) <+ !0;
  pub not_zero : kinds (contributes v_i_c (signed Not (number 0))) ≡ flow ∷ flow ∷ potential ∷ []
  -- if (p) V(i, c) <+ 1;
  pub if_without_else : broken (if_only p (contributes v_i_c (number 1))) ≡ (6, SwitchBranch) ∷ []
  -- if (p) V(i, c) <+ 1; else V(i, c) <+ 2;
  pub if_with_else : kinds (if_or_else p (contributes v_i_c (number 1)) (contributes v_i_c (number 2))) ≡ flow ∷ flow ∷ potential ∷ []
  -- case (p) default : V(i, c) <+ 1; 1 : V(i, c) <+ 2; endcase
  pub case_with_default : kinds (case_default_first p (contributes v_i_c (number 1)) (number 1) (contributes v_i_c (number 2))) ≡ flow ∷ flow ∷ potential ∷ []
  -- while (p) V(i, c) <+ 1;
  pub loop : broken (during p (contributes v_i_c (number 1))) ≡ (6, SwitchBranch) ∷ []
  -- while (p) V(i, c) <+ 0;
  pub zero_in_a_loop : kinds (during p (contributes v_i_c (number 0))) ≡ flow ∷ flow ∷ collapsing ∷ []
  -- begin V(i, c) <+ 0; I(a) <+ I(i, c); end
  pub flow_of_a_zero_on_every_path : kinds (begins (contributes v_i_c (number 0) ∷ contributes i_a (reads i_i_c) ∷ [])) ≡ flow ∷ flow ∷ potential ∷ []
  -- begin if (p) V(i, c) <+ 0; I(a) <+ I(i, c); end
  pub collapse_probed : broken (begins (if_only p (contributes v_i_c (number 0)) ∷ contributes i_a (reads i_i_c) ∷ [])) ≡ (7, CollapseProbed) ∷ []
  -- begin I(a, c) <+ 1; V(a, c) <+ 1; end
  pub first_contribution_of_either : broken (begins (contributes i_a_c (number 1) ∷ contributes v_a_c (number 1) ∷ [])) ≡ (3, SwitchBranch) ∷ []
  -- begin if (V(a) > 0) V(a, c) <+ 0; I(a, c) <+ 1; end
  pub switch_branch : broken (begins (if_only biased_test (contributes v_a_c (number 0)) ∷ contributes i_a_c (number 1) ∷ [])) ≡ (12, SwitchBranch) ∷ []
  -- x = I(a, c);
  pub flow_probe : broken (assigns 0 (reads i_a_c)) ≡ (4, FlowProbe) ∷ []
  -- begin @(final_step) V(a, c) <+ 1; x = I(a, c); end
  pub potential_at_the_final_step : broken (begins (finally (contributes v_a_c (number 1)) ∷ assigns 0 (reads i_a_c) ∷ [])) ≡ (18, FlowProbe) ∷ []

-- limits of which one is small
abbrev pub most_unknowns : ℕ → Limits
most_unknowns most = record limits { unknowns = most }

abbrev pub most_nodes : ℕ → Limits
most_nodes most = record limits { nodes = most }

-- Unknowns in order, pairs in order, and the limits.
pub record WorkedUnknowns : Type 0 where
  -- begin V(i, c) <+ 1; V(a, c) <+ 1; end
  pub branches_by_first_contribution : unknown_list (begins (contributes v_i_c (number 1) ∷ contributes v_a_c (number 1) ∷ [])) ≡ Node 0 ∷ Node 1 ∷ Node 2 ∷ Branch 2 ∷ Branch 0 ∷ []
  -- begin I(a) <+ 1; V(i, c) <+ 0; V(a) <+ 0; end
  pub pairs_by_first_contribution : pairs (begins (contributes i_a (number 1) ∷ contributes v_i_c (number 0) ∷ contributes v_a (number 0) ∷ [])) ≡ collapse 0 None ∷ collapse 2 (Some 1) ∷ []
  -- case (p) default : V(i, c) <+ 0; 1 : V(a, c) <+ 0; endcase
  pub defaults_where_they_stand : pairs (case_default_first p (contributes v_i_c (number 0)) (number 1) (contributes v_a_c (number 0))) ≡ collapse 2 (Some 1) ∷ collapse 0 (Some 1) ∷ []
  -- V(i, c) <+ 1;
  pub as_many_unknowns : broken_within (most_unknowns 4) (contributes v_i_c (number 1)) ≡ []
  pub too_many_unknowns : broken_within (most_unknowns 3) (contributes v_i_c (number 1)) ≡ (0, UnknownsMany) ∷ []
  -- if (p) V(i, c) <+ 1;
  pub branch_without_kind_is_no_unknown : broken_within (most_unknowns 3) (if_only p (contributes v_i_c (number 1))) ≡ (6, SwitchBranch) ∷ []
  pub as_many_parameters : broken_within (record limits { parameters = 2 }) nothing ≡ []
  pub too_many_parameters : broken_within (record limits { parameters = 1 }) nothing ≡ (0, ParamsMany) ∷ []
  -- x = (p + 1);
  pub as_many_nodes : broken_within (most_nodes 3) (assigns 0 (in_parentheses (between p Add (number 1)))) ≡ []
  pub too_many_nodes : broken_within (most_nodes 2) (assigns 0 (in_parentheses (between p Add (number 1)))) ≡ (0, NodesMany) ∷ []
  pub as_many_products : broken_within (record limits { products = 9 }) (assigns 0 (in_parentheses (between p Add (number 1)))) ≡ []
  pub too_many_products : broken_within (record limits { products = 8 }) (assigns 0 (in_parentheses (between p Add (number 1)))) ≡ (0, NodesMany) ∷ []
  -- x = $limit(V(a), y);
  pub nodes_that_are_looked_at : broken_within (most_nodes 3) (assigns 0 (limited (reads v_a) y)) ≡ []
  pub node_in_an_access : broken_within (most_nodes 2) (assigns 0 (limited (reads v_a) y)) ≡ (0, NodesMany) ∷ []
