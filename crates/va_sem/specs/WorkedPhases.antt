-- Rows on the order of phases that were worked out by hand: the token and the code of the answered fault, or none. Above each row
-- stands the text of the items, the first of which begins at token 93.
use Rattle.std.specs.Prelude.{◌≡◌, negsuc, false, [], ◌∷◌, Some, None, codes}
use Rattle.va_base.specs.declared.fault.FaultCode.TheVariants.{UnknownName, ArgumentCount, DdtNonLinear, DdtUnderBias, DdtInLoop, DdtInFunction, DdtTwice, SwitchBranch, FlowProbe, CollapseProbed}
use Rattle.va_tree.specs.declared.expr.BinaryOp.TheVariants.{Greater, Add, Multiply}
use Rattle.va_tree.specs.declared.expr.Callee.TheVariants as callee
use Rattle.va_tree.specs.declared.expr.Arg.TheVariants as arg
use Rattle.va_tree.specs.declared.expr.Expr.TheVariants.{Name, Binary, Call}
use Rattle.va_tree.specs.declared.stmt.Stmt.TheVariants.{Block, If, While, Assign, Contribute}
use Rattle.va_tree.specs.declared.module.Ty.TheVariants as written
use Rattle.va_tree.specs.declared.module.FunctionItem.TheVariants as function
use Rattle.va_tree.specs.declared.module.ItemBody.TheVariants as items
use Rattle.va_sem.specs.Faults.{answered}
use Rattle.va_sem.specs.SmallTrees.{n, whole, decimal, stored, declares, parameter, plain, text}

-- faults of rules, and that those of earlier phases come first
pub record WorkedLater : Type 0 where
  -- analog I(a, c) <+ ddt(V(a, c)) * V(a, c);
  pub derivative_squared : answered (text (plain (items.Analog 93 (Contribute 94 (codes "I") (n 96 (codes "a")) (Some (n 98 (codes "c"))) (Binary 101 (Call 101 callee.Function (codes "ddt") (arg.Expr (Call 103 callee.Function (codes "V") (arg.Expr (Name 105 (codes "a")) ∷ arg.Expr (Name 107 (codes "c")) ∷ [])) ∷ [])) Multiply (Call 111 callee.Function (codes "V") (arg.Expr (Name 113 (codes "a")) ∷ arg.Expr (Name 115 (codes "c")) ∷ []))))) ∷ [])) ≡ Some (101, DdtNonLinear)
  -- analog if (V(a) > 0) I(a, c) <+ ddt(V(c));
  pub derivative_under_bias : answered (text (plain (items.Analog 93 (If 94 (Binary 96 (Call 96 callee.Function (codes "V") (arg.Expr (Name 98 (codes "a")) ∷ [])) Greater (whole 101 0)) (Contribute 103 (codes "I") (n 105 (codes "a")) (Some (n 107 (codes "c"))) (Call 110 callee.Function (codes "ddt") (arg.Expr (Call 112 callee.Function (codes "V") (arg.Expr (Name 114 (codes "c")) ∷ [])) ∷ []))) None)) ∷ [])) ≡ Some (110, DdtUnderBias)
  -- analog while (1) I(a, c) <+ ddt(V(c));
  pub derivative_in_loop : answered (text (plain (items.Analog 93 (While 94 (whole 96 1) (Contribute 98 (codes "I") (n 100 (codes "a")) (Some (n 102 (codes "c"))) (Call 105 callee.Function (codes "ddt") (arg.Expr (Call 107 callee.Function (codes "V") (arg.Expr (Name 109 (codes "c")) ∷ [])) ∷ []))))) ∷ [])) ≡ Some (105, DdtInLoop)
  -- analog function f; input x; f = ddt(x); endfunction
  pub derivative_in_function : answered (text (plain (items.Function 93 None (n 95 (codes "f")) (function.Input 97 (n 98 (codes "x") ∷ []) ∷ []) (Assign 100 (codes "f") (Call 102 callee.Function (codes "ddt") (arg.Expr (Name 104 (codes "x")) ∷ [])))) ∷ [])) ≡ Some (102, DdtInFunction)
  -- analog I(a, c) <+ ddt(ddt(V(a)));
  pub derivative_twice : answered (text (plain (items.Analog 93 (Contribute 94 (codes "I") (n 96 (codes "a")) (Some (n 98 (codes "c"))) (Call 101 callee.Function (codes "ddt") (arg.Expr (Call 103 callee.Function (codes "ddt") (arg.Expr (Call 105 callee.Function (codes "V") (arg.Expr (Name 107 (codes "a")) ∷ [])) ∷ [])) ∷ [])))) ∷ [])) ≡ Some (103, DdtTwice)
  -- analog if (V(a) > 0) V(a, c) <+ 1; else I(a, c) <+ 1;
  pub switch_branch : answered (text (plain (items.Analog 93 (If 94 (Binary 96 (Call 96 callee.Function (codes "V") (arg.Expr (Name 98 (codes "a")) ∷ [])) Greater (whole 101 0)) (Contribute 103 (codes "V") (n 105 (codes "a")) (Some (n 107 (codes "c"))) (whole 110 1)) (Some (Contribute 113 (codes "I") (n 115 (codes "a")) (Some (n 117 (codes "c"))) (whole 120 1))))) ∷ [])) ≡ Some (103, SwitchBranch)
  -- analog I(a) <+ I(c);
  pub flow_probe : answered (text (plain (items.Analog 93 (Contribute 94 (codes "I") (n 96 (codes "a")) None (Call 99 callee.Function (codes "I") (arg.Expr (Name 101 (codes "c")) ∷ [])))) ∷ [])) ≡ Some (99, FlowProbe)
  -- real x; parameter p = 0; analog begin if (p) V(a, c) <+ 0; x = I(a, c); end
  pub collapse_probed : answered (text (plain (items.Variables (declares 93 written.Real (stored (n 94 (codes "x")) None ∷ []))) ∷ plain (items.Parameters 96 false None (parameter (n 97 (codes "p")) (whole 99 0) [] ∷ [])) ∷ plain (items.Analog 101 (Block 102 None [] ((If 103 (Name 105 (codes "p")) (Contribute 107 (codes "V") (n 109 (codes "a")) (Some (n 111 (codes "c"))) (whole 114 0)) None) ∷ (Assign 116 (codes "x") (Call 118 callee.Function (codes "I") (arg.Expr (Name 120 (codes "a")) ∷ arg.Expr (Name 122 (codes "c")) ∷ []))) ∷ []))) ∷ [])) ≡ Some (107, CollapseProbed)
  -- analog begin I(a) <+ I(c); I(a) <+ z; end
  pub names_before_rules : answered (text (plain (items.Analog 93 (Block 94 None [] ((Contribute 95 (codes "I") (n 97 (codes "a")) None (Call 100 callee.Function (codes "I") (arg.Expr (Name 102 (codes "c")) ∷ []))) ∷ (Contribute 105 (codes "I") (n 107 (codes "a")) None (Name 110 (codes "z"))) ∷ []))) ∷ [])) ≡ Some (110, UnknownName)
  -- analog begin I(a) <+ I(c); I(a) <+ exp(1, 2); end
  pub types_before_rules : answered (text (plain (items.Analog 93 (Block 94 None [] ((Contribute 95 (codes "I") (n 97 (codes "a")) None (Call 100 callee.Function (codes "I") (arg.Expr (Name 102 (codes "c")) ∷ []))) ∷ (Contribute 105 (codes "I") (n 107 (codes "a")) None (Call 110 callee.Function (codes "exp") (arg.Expr (whole 112 1) ∷ arg.Expr (whole 114 2) ∷ []))) ∷ []))) ∷ [])) ≡ Some (110, ArgumentCount)
  -- real q; parameter c0 = 1p; analog begin q = c0 * V(a, c); I(a, c) <+ V(a, c) + ddt(q); end
  pub in_order : answered (text (plain (items.Variables (declares 93 written.Real (stored (n 94 (codes "q")) None ∷ []))) ∷ plain (items.Parameters 96 false None (parameter (n 97 (codes "c0")) (decimal 99 1 (negsuc 11)) [] ∷ [])) ∷ plain (items.Analog 101 (Block 102 None [] ((Assign 103 (codes "q") (Binary 105 (Name 105 (codes "c0")) Multiply (Call 107 callee.Function (codes "V") (arg.Expr (Name 109 (codes "a")) ∷ arg.Expr (Name 111 (codes "c")) ∷ [])))) ∷ (Contribute 114 (codes "I") (n 116 (codes "a")) (Some (n 118 (codes "c"))) (Binary 121 (Call 121 callee.Function (codes "V") (arg.Expr (Name 123 (codes "a")) ∷ arg.Expr (Name 125 (codes "c")) ∷ [])) Add (Call 128 callee.Function (codes "ddt") (arg.Expr (Name 130 (codes "q")) ∷ [])))) ∷ []))) ∷ [])) ≡ None
