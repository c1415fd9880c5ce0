-- Rows on types that were worked out by hand: the token and the code of the answered fault, or none. Above each row stands the
-- text of the items, the first of which begins at token 93.
use Rattle.std.specs.Prelude.{◌≡◌, pos, negsuc, true, false, [], ◌∷◌, Some, None, codes}
use Rattle.va_base.specs.declared.fault.FaultCode.TheVariants.{ArgumentCount, ArgumentKind, NotConstant, RealOperand}
use Rattle.va_tree.specs.declared.expr.UnaryOp.TheVariants.{Minus}
use Rattle.va_tree.specs.declared.expr.BinaryOp.TheVariants.{Less, Add, Divide, Remainder, Power}
use Rattle.va_tree.specs.declared.expr.Callee.TheVariants as callee
use Rattle.va_tree.specs.declared.expr.Arg.TheVariants as arg
use Rattle.va_tree.specs.declared.expr.Expr.TheVariants.{Name, Group, Unary, Binary, Choose, Call}
use Rattle.va_tree.specs.declared.stmt.EventKind.TheVariants.{FinalStep}
use Rattle.va_tree.specs.declared.stmt.Stmt.TheVariants.{Block, Event, Assign, Contribute, Task}
use Rattle.va_tree.specs.declared.module.Ty.TheVariants as written
use Rattle.va_tree.specs.declared.module.Range.TheVariants.{From}
use Rattle.va_tree.specs.declared.module.FunctionItem.TheVariants as function
use Rattle.va_tree.specs.declared.module.ItemBody.TheVariants as items
use Rattle.va_sem.specs.Faults.{answered}
use Rattle.va_sem.specs.SmallTrees.{n, whole, decimal, stored, declares, interval, parameter, plain, text}

-- numbers and kinds of arguments
pub record WorkedArguments : Type 0 where
  -- real x; analog x = exp(1, 2);
  pub exp_of_two : answered (text (plain (items.Variables (declares 93 written.Real (stored (n 94 (codes "x")) None ∷ []))) ∷ plain (items.Analog 96 (Assign 97 (codes "x") (Call 99 callee.Function (codes "exp") (arg.Expr (whole 101 1) ∷ arg.Expr (whole 103 2) ∷ [])))) ∷ [])) ≡ Some (99, ArgumentCount)
  -- real x; analog x = pow(1);
  pub pow_of_one : answered (text (plain (items.Variables (declares 93 written.Real (stored (n 94 (codes "x")) None ∷ []))) ∷ plain (items.Analog 96 (Assign 97 (codes "x") (Call 99 callee.Function (codes "pow") (arg.Expr (whole 101 1) ∷ [])))) ∷ [])) ≡ Some (99, ArgumentCount)
  -- real x; analog x = min(1, 2, 3);
  pub min_of_three : answered (text (plain (items.Variables (declares 93 written.Real (stored (n 94 (codes "x")) None ∷ []))) ∷ plain (items.Analog 96 (Assign 97 (codes "x") (Call 99 callee.Function (codes "min") (arg.Expr (whole 101 1) ∷ arg.Expr (whole 103 2) ∷ arg.Expr (whole 105 3) ∷ [])))) ∷ [])) ≡ Some (99, ArgumentCount)
  -- analog I(a) <+ ddt(V(a), 1);
  pub ddt_of_two : answered (text (plain (items.Analog 93 (Contribute 94 (codes "I") (n 96 (codes "a")) None (Call 99 callee.Function (codes "ddt") (arg.Expr (Call 101 callee.Function (codes "V") (arg.Expr (Name 103 (codes "a")) ∷ [])) ∷ arg.Expr (whole 106 1) ∷ [])))) ∷ [])) ≡ Some (99, ArgumentCount)
  -- a string counts as an argument
  -- analog function f; input x; f = x; endfunction real y; analog y = f(1, "s");
  pub function_of_one : answered (text (plain (items.Function 93 None (n 95 (codes "f")) (function.Input 97 (n 98 (codes "x") ∷ []) ∷ []) (Assign 100 (codes "f") (Name 102 (codes "x")))) ∷ plain (items.Variables (declares 105 written.Real (stored (n 106 (codes "y")) None ∷ []))) ∷ plain (items.Analog 108 (Assign 109 (codes "y") (Call 111 callee.Function (codes "f") (arg.Expr (whole 113 1) ∷ arg.Text (n 115 (codes "s")) ∷ [])))) ∷ [])) ≡ Some (111, ArgumentCount)
  -- real x; analog x = $temperature(1);
  pub temperature_of_one : answered (text (plain (items.Variables (declares 93 written.Real (stored (n 94 (codes "x")) None ∷ []))) ∷ plain (items.Analog 96 (Assign 97 (codes "x") (Call 99 callee.System (codes "$temperature") (arg.Expr (whole 101 1) ∷ [])))) ∷ [])) ≡ Some (99, ArgumentCount)
  -- of none and of one
  -- real x; analog x = $vt + $vt() + $vt(300);
  pub thermal_voltage : answered (text (plain (items.Variables (declares 93 written.Real (stored (n 94 (codes "x")) None ∷ []))) ∷ plain (items.Analog 96 (Assign 97 (codes "x") (Binary 99 (Binary 99 (Call 99 callee.System (codes "$vt") []) Add (Call 101 callee.System (codes "$vt") [])) Add (Call 105 callee.System (codes "$vt") (arg.Expr (whole 107 300) ∷ []))))) ∷ [])) ≡ None
  -- real x; analog x = $vt(1, 2);
  pub thermal_voltage_of_two : answered (text (plain (items.Variables (declares 93 written.Real (stored (n 94 (codes "x")) None ∷ []))) ∷ plain (items.Analog 96 (Assign 97 (codes "x") (Call 99 callee.System (codes "$vt") (arg.Expr (whole 101 1) ∷ arg.Expr (whole 103 2) ∷ [])))) ∷ [])) ≡ Some (99, ArgumentCount)
  -- real x; analog x = $simparam("x");
  pub simparam_without_default : answered (text (plain (items.Variables (declares 93 written.Real (stored (n 94 (codes "x")) None ∷ []))) ∷ plain (items.Analog 96 (Assign 97 (codes "x") (Call 99 callee.System (codes "$simparam") (arg.Text (n 101 (codes "x")) ∷ [])))) ∷ [])) ≡ Some (99, ArgumentCount)
  -- real x; analog x = $limit();
  pub limit_of_none : answered (text (plain (items.Variables (declares 93 written.Real (stored (n 94 (codes "x")) None ∷ []))) ∷ plain (items.Analog 96 (Assign 97 (codes "x") (Call 99 callee.System (codes "$limit") []))) ∷ [])) ≡ Some (99, ArgumentCount)
  -- and what a task takes is not looked at
  -- real x; analog $strobe("%g", exp(1, 2), 1.5 % 2);
  pub task_of_any : answered (text (plain (items.Variables (declares 93 written.Real (stored (n 94 (codes "x")) None ∷ []))) ∷ plain (items.Analog 96 (Task 97 (codes "$strobe") (arg.Text (n 99 (codes "%g")) ∷ arg.Expr (Call 101 callee.Function (codes "exp") (arg.Expr (whole 103 1) ∷ arg.Expr (whole 105 2) ∷ [])) ∷ arg.Expr (Binary 108 (decimal 108 15 (negsuc 0)) Remainder (whole 110 2)) ∷ []))) ∷ [])) ≡ None
  -- real x; analog @(final_step) x = exp(1, 2);
  pub at_the_final_step : answered (text (plain (items.Variables (declares 93 written.Real (stored (n 94 (codes "x")) None ∷ []))) ∷ plain (items.Analog 96 (Event 97 FinalStep [] (Assign 101 (codes "x") (Call 103 callee.Function (codes "exp") (arg.Expr (whole 105 1) ∷ arg.Expr (whole 107 2) ∷ []))))) ∷ [])) ≡ Some (103, ArgumentCount)
  -- real x; analog x = exp("s");
  pub string_for_number : answered (text (plain (items.Variables (declares 93 written.Real (stored (n 94 (codes "x")) None ∷ []))) ∷ plain (items.Analog 96 (Assign 97 (codes "x") (Call 99 callee.Function (codes "exp") (arg.Text (n 101 (codes "s")) ∷ [])))) ∷ [])) ≡ Some (101, ArgumentKind)
  -- real x; analog x = $simparam(1, 2);
  pub number_for_string : answered (text (plain (items.Variables (declares 93 written.Real (stored (n 94 (codes "x")) None ∷ []))) ∷ plain (items.Analog 96 (Assign 97 (codes "x") (Call 99 callee.System (codes "$simparam") (arg.Expr (whole 101 1) ∷ arg.Expr (whole 103 2) ∷ [])))) ∷ [])) ≡ Some (101, ArgumentKind)
  -- analog I(a) <+ $limit(V(a), "f", 1);
  pub limit_of_access : answered (text (plain (items.Analog 93 (Contribute 94 (codes "I") (n 96 (codes "a")) None (Call 99 callee.System (codes "$limit") (arg.Expr (Call 101 callee.Function (codes "V") (arg.Expr (Name 103 (codes "a")) ∷ [])) ∷ arg.Text (n 106 (codes "f")) ∷ arg.Expr (whole 108 1) ∷ [])))) ∷ [])) ≡ None
  -- analog I(a) <+ $limit((V(a)));
  pub limit_of_parentheses : answered (text (plain (items.Analog 93 (Contribute 94 (codes "I") (n 96 (codes "a")) None (Call 99 callee.System (codes "$limit") (arg.Expr (Group 101 (Call 102 callee.Function (codes "V") (arg.Expr (Name 104 (codes "a")) ∷ []))) ∷ [])))) ∷ [])) ≡ Some (101, ArgumentKind)
  -- an alias and a local one too
  -- parameter p = 1; localparam q = 2; aliasparam r = p; real x; analog x = $param_given(p) + $param_given(q) + $param_given(r);
  pub given_of_parameter : answered (text (plain (items.Parameters 93 false None (parameter (n 94 (codes "p")) (whole 96 1) [] ∷ [])) ∷ plain (items.Parameters 98 true None (parameter (n 99 (codes "q")) (whole 101 2) [] ∷ [])) ∷ plain (items.Alias 103 (n 104 (codes "r")) (n 106 (codes "p"))) ∷ plain (items.Variables (declares 108 written.Real (stored (n 109 (codes "x")) None ∷ []))) ∷ plain (items.Analog 111 (Assign 112 (codes "x") (Binary 114 (Binary 114 (Call 114 callee.System (codes "$param_given") (arg.Expr (Name 116 (codes "p")) ∷ [])) Add (Call 119 callee.System (codes "$param_given") (arg.Expr (Name 121 (codes "q")) ∷ []))) Add (Call 124 callee.System (codes "$param_given") (arg.Expr (Name 126 (codes "r")) ∷ []))))) ∷ [])) ≡ None
  -- real x; analog x = $param_given(x);
  pub given_of_variable : answered (text (plain (items.Variables (declares 93 written.Real (stored (n 94 (codes "x")) None ∷ []))) ∷ plain (items.Analog 96 (Assign 97 (codes "x") (Call 99 callee.System (codes "$param_given") (arg.Expr (Name 101 (codes "x")) ∷ [])))) ∷ [])) ≡ Some (101, ArgumentKind)
  -- parameter p = 1; real x; analog x = $param_given((p));
  pub given_of_parentheses : answered (text (plain (items.Parameters 93 false None (parameter (n 94 (codes "p")) (whole 96 1) [] ∷ [])) ∷ plain (items.Variables (declares 98 written.Real (stored (n 99 (codes "x")) None ∷ []))) ∷ plain (items.Analog 101 (Assign 102 (codes "x") (Call 104 callee.System (codes "$param_given") (arg.Expr (Group 106 (Name 107 (codes "p"))) ∷ [])))) ∷ [])) ≡ Some (106, ArgumentKind)

-- what defaults, bounds and initialisers read
pub record WorkedConstants : Type 0 where
  -- parameter p = 1; parameter q = p + min(p, 2);
  pub parameter_before : answered (text (plain (items.Parameters 93 false None (parameter (n 94 (codes "p")) (whole 96 1) [] ∷ [])) ∷ plain (items.Parameters 98 false None (parameter (n 99 (codes "q")) (Binary 101 (Name 101 (codes "p")) Add (Call 103 callee.Function (codes "min") (arg.Expr (Name 105 (codes "p")) ∷ arg.Expr (whole 107 2) ∷ []))) [] ∷ [])) ∷ [])) ≡ None
  -- parameter p = 1, q = p;
  pub in_one_item : answered (text (plain (items.Parameters 93 false None (parameter (n 94 (codes "p")) (whole 96 1) [] ∷ parameter (n 98 (codes "q")) (Name 100 (codes "p")) [] ∷ [])) ∷ [])) ≡ None
  -- parameter p = q; parameter q = 1;
  pub parameter_after : answered (text (plain (items.Parameters 93 false None (parameter (n 94 (codes "p")) (Name 96 (codes "q")) [] ∷ [])) ∷ plain (items.Parameters 98 false None (parameter (n 99 (codes "q")) (whole 101 1) [] ∷ [])) ∷ [])) ≡ Some (96, NotConstant)
  -- parameter p = 1 from [0:p];
  pub own_value : answered (text (plain (items.Parameters 93 false None (parameter (n 94 (codes "p")) (whole 96 1) (From (interval true (whole 99 0) (Name 101 (codes "p")) true) ∷ []) ∷ [])) ∷ [])) ≡ Some (101, NotConstant)
  -- by its parameter, wherever the alias stands
  -- parameter p = 1; parameter q = r; aliasparam r = p;
  pub alias_of_one_before : answered (text (plain (items.Parameters 93 false None (parameter (n 94 (codes "p")) (whole 96 1) [] ∷ [])) ∷ plain (items.Parameters 98 false None (parameter (n 99 (codes "q")) (Name 101 (codes "r")) [] ∷ [])) ∷ plain (items.Alias 103 (n 104 (codes "r")) (n 106 (codes "p"))) ∷ [])) ≡ None
  -- aliasparam r = q; parameter p = r; parameter q = 1;
  pub alias_of_one_after : answered (text (plain (items.Alias 93 (n 94 (codes "r")) (n 96 (codes "q"))) ∷ plain (items.Parameters 98 false None (parameter (n 99 (codes "p")) (Name 101 (codes "r")) [] ∷ [])) ∷ plain (items.Parameters 103 false None (parameter (n 104 (codes "q")) (whole 106 1) [] ∷ [])) ∷ [])) ≡ Some (101, NotConstant)
  -- real x; parameter p = x;
  pub variable : answered (text (plain (items.Variables (declares 93 written.Real (stored (n 94 (codes "x")) None ∷ []))) ∷ plain (items.Parameters 96 false None (parameter (n 97 (codes "p")) (Name 99 (codes "x")) [] ∷ [])) ∷ [])) ≡ Some (99, NotConstant)
  -- parameter p = $temperature;
  pub temperature : answered (text (plain (items.Parameters 93 false None (parameter (n 94 (codes "p")) (Call 96 callee.System (codes "$temperature") []) [] ∷ [])) ∷ [])) ≡ Some (96, NotConstant)
  -- parameter p = $simparam("x", 1) ** (1 ? 2 : 3);
  pub simparam : answered (text (plain (items.Parameters 93 false None (parameter (n 94 (codes "p")) (Binary 96 (Call 96 callee.System (codes "$simparam") (arg.Text (n 98 (codes "x")) ∷ arg.Expr (whole 100 1) ∷ [])) Power (Group 103 (Choose 104 (whole 104 1) (whole 106 2) (whole 108 3)))) [] ∷ [])) ∷ [])) ≡ None
  -- parameter p = 1; parameter q = $param_given(p);
  pub given : answered (text (plain (items.Parameters 93 false None (parameter (n 94 (codes "p")) (whole 96 1) [] ∷ [])) ∷ plain (items.Parameters 98 false None (parameter (n 99 (codes "q")) (Call 101 callee.System (codes "$param_given") (arg.Expr (Name 103 (codes "p")) ∷ [])) [] ∷ [])) ∷ [])) ≡ Some (101, NotConstant)
  -- analog function f; input x; f = x; endfunction parameter p = f(1);
  pub function : answered (text (plain (items.Function 93 None (n 95 (codes "f")) (function.Input 97 (n 98 (codes "x") ∷ []) ∷ []) (Assign 100 (codes "f") (Name 102 (codes "x")))) ∷ plain (items.Parameters 105 false None (parameter (n 106 (codes "p")) (Call 108 callee.Function (codes "f") (arg.Expr (whole 110 1) ∷ [])) [] ∷ [])) ∷ [])) ≡ Some (108, NotConstant)
  -- real x = V(a);
  pub access : answered (text (plain (items.Variables (declares 93 written.Real (stored (n 94 (codes "x")) (Some (Call 96 callee.Function (codes "V") (arg.Expr (Name 98 (codes "a")) ∷ []))) ∷ []))) ∷ [])) ≡ Some (96, NotConstant)
  -- real x = ddt(1);
  pub derivative : answered (text (plain (items.Variables (declares 93 written.Real (stored (n 94 (codes "x")) (Some (Call 96 callee.Function (codes "ddt") (arg.Expr (whole 98 1) ∷ []))) ∷ []))) ∷ [])) ≡ Some (96, NotConstant)
  -- an initialiser reads any parameter
  -- real x = p; parameter p = 1;
  pub initialiser_of_later : answered (text (plain (items.Variables (declares 93 written.Real (stored (n 94 (codes "x")) (Some (Name 96 (codes "p"))) ∷ []))) ∷ plain (items.Parameters 98 false None (parameter (n 99 (codes "p")) (whole 101 1) [] ∷ [])) ∷ [])) ≡ None
  -- the variable of the block is meant
  -- parameter p = 1; analog begin : b real p = p; end
  pub hidden_parameter : answered (text (plain (items.Parameters 93 false None (parameter (n 94 (codes "p")) (whole 96 1) [] ∷ [])) ∷ plain (items.Analog 98 (Block 99 (Some (n 101 (codes "b"))) ((declares 102 written.Real (stored (n 103 (codes "p")) (Some (Name 105 (codes "p"))) ∷ [])) ∷ []) [])) ∷ [])) ≡ Some (105, NotConstant)

-- operands of `%`, which show the types of expressions
pub record WorkedRemainders : Type 0 where
  -- integer k; analog k = 7 % k;
  pub of_integers : answered (text (plain (items.Variables (declares 93 written.Integer (stored (n 94 (codes "k")) None ∷ []))) ∷ plain (items.Analog 96 (Assign 97 (codes "k") (Binary 99 (whole 99 7) Remainder (Name 101 (codes "k"))))) ∷ [])) ≡ None
  -- integer k; analog k = 7 % 2.0;
  pub of_real : answered (text (plain (items.Variables (declares 93 written.Integer (stored (n 94 (codes "k")) None ∷ []))) ∷ plain (items.Analog 96 (Assign 97 (codes "k") (Binary 99 (whole 99 7) Remainder (decimal 101 20 (negsuc 0))))) ∷ [])) ≡ Some (99, RealOperand)
  -- integer k; analog k = 7 % -2147483648;
  pub of_large_numeral : answered (text (plain (items.Variables (declares 93 written.Integer (stored (n 94 (codes "k")) None ∷ []))) ∷ plain (items.Analog 96 (Assign 97 (codes "k") (Binary 99 (whole 99 7) Remainder (Unary 101 Minus (decimal 102 2147483648 (pos 0)))))) ∷ [])) ≡ Some (99, RealOperand)
  -- integer k; analog k = 7 % 1k;
  pub of_scaled_numeral : answered (text (plain (items.Variables (declares 93 written.Integer (stored (n 94 (codes "k")) None ∷ []))) ∷ plain (items.Analog 96 (Assign 97 (codes "k") (Binary 99 (whole 99 7) Remainder (decimal 101 1 (pos 3))))) ∷ [])) ≡ Some (99, RealOperand)
  -- real x; integer k; analog k = x % 2;
  pub of_real_variable : answered (text (plain (items.Variables (declares 93 written.Real (stored (n 94 (codes "x")) None ∷ []))) ∷ plain (items.Variables (declares 96 written.Integer (stored (n 97 (codes "k")) None ∷ []))) ∷ plain (items.Analog 99 (Assign 100 (codes "k") (Binary 102 (Name 102 (codes "x")) Remainder (whole 104 2)))) ∷ [])) ≡ Some (102, RealOperand)
  -- at one token the code of the lower number
  -- real x; parameter p = x % 2;
  pub constant_comes_first : answered (text (plain (items.Variables (declares 93 written.Real (stored (n 94 (codes "x")) None ∷ []))) ∷ plain (items.Parameters 96 false None (parameter (n 97 (codes "p")) (Binary 99 (Name 99 (codes "x")) Remainder (whole 101 2)) [] ∷ [])) ∷ [])) ≡ Some (99, NotConstant)
  -- it has the type of its default
  -- integer k; analog k = 2 % $simparam("a", 1);
  pub of_simparam : answered (text (plain (items.Variables (declares 93 written.Integer (stored (n 94 (codes "k")) None ∷ []))) ∷ plain (items.Analog 96 (Assign 97 (codes "k") (Binary 99 (whole 99 2) Remainder (Call 101 callee.System (codes "$simparam") (arg.Text (n 103 (codes "a")) ∷ arg.Expr (whole 105 1) ∷ []))))) ∷ [])) ≡ None
  -- a call whose arguments don't fit has no type
  -- integer k; analog k = 2 % abs();
  pub of_abs_of_none : answered (text (plain (items.Variables (declares 93 written.Integer (stored (n 94 (codes "k")) None ∷ []))) ∷ plain (items.Analog 96 (Assign 97 (codes "k") (Binary 99 (whole 99 2) Remainder (Call 101 callee.Function (codes "abs") [])))) ∷ [])) ≡ Some (99, RealOperand)
  -- integer k; analog k = 2 % $simparam("x", 1, 2.0);
  pub of_simparam_of_three : answered (text (plain (items.Variables (declares 93 written.Integer (stored (n 94 (codes "k")) None ∷ []))) ∷ plain (items.Analog 96 (Assign 97 (codes "k") (Binary 99 (whole 99 2) Remainder (Call 101 callee.System (codes "$simparam") (arg.Text (n 103 (codes "x")) ∷ arg.Expr (whole 105 1) ∷ arg.Expr (decimal 107 20 (negsuc 0)) ∷ []))))) ∷ [])) ≡ Some (99, RealOperand)
  -- integer k; analog k = 2 % $param_given(k);
  pub of_given_of_variable : answered (text (plain (items.Variables (declares 93 written.Integer (stored (n 94 (codes "k")) None ∷ []))) ∷ plain (items.Analog 96 (Assign 97 (codes "k") (Binary 99 (whole 99 2) Remainder (Call 101 callee.System (codes "$param_given") (arg.Expr (Name 103 (codes "k")) ∷ []))))) ∷ [])) ≡ Some (99, RealOperand)
  -- the type of a function of the module is known, whatever its arguments
  -- analog function integer f; input x; f = x; endfunction integer k; analog k = 2 % f();
  pub of_function_of_none : answered (text (plain (items.Function 93 (Some written.Integer) (n 96 (codes "f")) (function.Input 98 (n 99 (codes "x") ∷ []) ∷ []) (Assign 101 (codes "f") (Name 103 (codes "x")))) ∷ plain (items.Variables (declares 106 written.Integer (stored (n 107 (codes "k")) None ∷ []))) ∷ plain (items.Analog 109 (Assign 110 (codes "k") (Binary 112 (whole 112 2) Remainder (Call 114 callee.Function (codes "f") [])))) ∷ [])) ≡ Some (114, ArgumentCount)
  -- integer k; analog k = 2 % 2 ** 3;
  pub of_power : answered (text (plain (items.Variables (declares 93 written.Integer (stored (n 94 (codes "k")) None ∷ []))) ∷ plain (items.Analog 96 (Assign 97 (codes "k") (Binary 99 (whole 99 2) Remainder (Binary 101 (whole 101 2) Power (whole 103 3))))) ∷ [])) ≡ Some (99, RealOperand)
  -- a quotient of integers is an integer
  -- integer k; analog k = 2 % (7 / 2);
  pub of_quotient : answered (text (plain (items.Variables (declares 93 written.Integer (stored (n 94 (codes "k")) None ∷ []))) ∷ plain (items.Analog 96 (Assign 97 (codes "k") (Binary 99 (whole 99 2) Remainder (Group 101 (Binary 102 (whole 102 7) Divide (whole 104 2)))))) ∷ [])) ≡ None
  -- integer k; analog k = 2 % (k ? 1 : 1.0);
  pub of_choice : answered (text (plain (items.Variables (declares 93 written.Integer (stored (n 94 (codes "k")) None ∷ []))) ∷ plain (items.Analog 96 (Assign 97 (codes "k") (Binary 99 (whole 99 2) Remainder (Group 101 (Choose 102 (Name 102 (codes "k")) (whole 104 1) (decimal 106 10 (negsuc 0))))))) ∷ [])) ≡ Some (99, RealOperand)
  -- integer k; analog k = 2 % (1.0 < 2.0);
  pub of_comparison : answered (text (plain (items.Variables (declares 93 written.Integer (stored (n 94 (codes "k")) None ∷ []))) ∷ plain (items.Analog 96 (Assign 97 (codes "k") (Binary 99 (whole 99 2) Remainder (Group 101 (Binary 102 (decimal 102 10 (negsuc 0)) Less (decimal 104 20 (negsuc 0))))))) ∷ [])) ≡ None
  -- integer k; analog k = 2 % min(k, abs(3)) + 2 % max(1, k);
  pub of_minimum : answered (text (plain (items.Variables (declares 93 written.Integer (stored (n 94 (codes "k")) None ∷ []))) ∷ plain (items.Analog 96 (Assign 97 (codes "k") (Binary 99 (Binary 99 (whole 99 2) Remainder (Call 101 callee.Function (codes "min") (arg.Expr (Name 103 (codes "k")) ∷ arg.Expr (Call 105 callee.Function (codes "abs") (arg.Expr (whole 107 3) ∷ [])) ∷ []))) Add (Binary 111 (whole 111 2) Remainder (Call 113 callee.Function (codes "max") (arg.Expr (whole 115 1) ∷ arg.Expr (Name 117 (codes "k")) ∷ [])))))) ∷ [])) ≡ None
  -- analog function integer f; input x; f = x; endfunction analog function g; input x; g = x; endfunction integer k; analog k = 2 % f(1) + 2 % g(1);
  pub of_function : answered (text (plain (items.Function 93 (Some written.Integer) (n 96 (codes "f")) (function.Input 98 (n 99 (codes "x") ∷ []) ∷ []) (Assign 101 (codes "f") (Name 103 (codes "x")))) ∷ plain (items.Function 106 None (n 108 (codes "g")) (function.Input 110 (n 111 (codes "x") ∷ []) ∷ []) (Assign 113 (codes "g") (Name 115 (codes "x")))) ∷ plain (items.Variables (declares 118 written.Integer (stored (n 119 (codes "k")) None ∷ []))) ∷ plain (items.Analog 121 (Assign 122 (codes "k") (Binary 124 (Binary 124 (whole 124 2) Remainder (Call 126 callee.Function (codes "f") (arg.Expr (whole 128 1) ∷ []))) Add (Binary 131 (whole 131 2) Remainder (Call 133 callee.Function (codes "g") (arg.Expr (whole 135 1) ∷ [])))))) ∷ [])) ≡ Some (131, RealOperand)
  -- analog function integer f; integer k; input k, x; f = k % 2 + x % 2; endfunction
  pub of_argument : answered (text (plain (items.Function 93 (Some written.Integer) (n 96 (codes "f")) (function.Variables 98 written.Integer (n 99 (codes "k") ∷ []) ∷ function.Input 101 (n 102 (codes "k") ∷ n 104 (codes "x") ∷ []) ∷ []) (Assign 106 (codes "f") (Binary 108 (Binary 108 (Name 108 (codes "k")) Remainder (whole 110 2)) Add (Binary 112 (Name 112 (codes "x")) Remainder (whole 114 2))))) ∷ [])) ≡ Some (112, RealOperand)
  -- without a type it has that of its default
  -- parameter p = 1; parameter q = p; integer k; analog k = 2 % q;
  pub of_parameter : answered (text (plain (items.Parameters 93 false None (parameter (n 94 (codes "p")) (whole 96 1) [] ∷ [])) ∷ plain (items.Parameters 98 false None (parameter (n 99 (codes "q")) (Name 101 (codes "p")) [] ∷ [])) ∷ plain (items.Variables (declares 103 written.Integer (stored (n 104 (codes "k")) None ∷ []))) ∷ plain (items.Analog 106 (Assign 107 (codes "k") (Binary 109 (whole 109 2) Remainder (Name 111 (codes "q"))))) ∷ [])) ≡ None
  -- parameter p = 1.0; parameter q = p; integer k; analog k = 2 % q;
  pub of_real_parameter : answered (text (plain (items.Parameters 93 false None (parameter (n 94 (codes "p")) (decimal 96 10 (negsuc 0)) [] ∷ [])) ∷ plain (items.Parameters 98 false None (parameter (n 99 (codes "q")) (Name 101 (codes "p")) [] ∷ [])) ∷ plain (items.Variables (declares 103 written.Integer (stored (n 104 (codes "k")) None ∷ []))) ∷ plain (items.Analog 106 (Assign 107 (codes "k") (Binary 109 (whole 109 2) Remainder (Name 111 (codes "q"))))) ∷ [])) ≡ Some (109, RealOperand)
