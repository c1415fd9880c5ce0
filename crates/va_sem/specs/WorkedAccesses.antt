-- Rows on accesses, functions and what is left out, worked out by hand: the token and the code of the answered fault, or none.
-- Above each row stands the text of the items, the first of which begins at token 93, or the text after the disciplines, from
-- token 75 on.
use Rattle.std.specs.Prelude.{◌≡◌, true, false, [], ◌∷◌, Some, None, codes}
use Rattle.va_base.specs.declared.fault.FaultCode.TheVariants.{UnknownName, WrongKind, WrongAccess, DisciplinesDiffer, NotDeclaredNode, FunctionCycle, OutOfProfile}
use Rattle.va_tree.specs.declared.expr.UnaryOp.TheVariants.{Minus, Not}
use Rattle.va_tree.specs.declared.expr.BinaryOp.TheVariants.{Add}
use Rattle.va_tree.specs.declared.expr.Callee.TheVariants as callee
use Rattle.va_tree.specs.declared.expr.Arg.TheVariants as arg
use Rattle.va_tree.specs.declared.expr.Expr.TheVariants.{Inf, Name, Group, Unary, Binary, Call}
use Rattle.va_tree.specs.declared.stmt.EventKind.TheVariants.{FinalStep}
use Rattle.va_tree.specs.declared.stmt.Stmt.TheVariants.{Block, Event, Assign, Contribute, Task}
use Rattle.va_tree.specs.declared.source.Quantity.TheVariants.{Potential, Flow}
use Rattle.va_tree.specs.declared.source.DisciplineItem.TheVariants.{Binding}
use Rattle.va_tree.specs.declared.module.Ty.TheVariants as written
use Rattle.va_tree.specs.declared.module.Range.TheVariants.{From, ExcludeInterval, ExcludeValue}
use Rattle.va_tree.specs.declared.module.FunctionItem.TheVariants as function
use Rattle.va_tree.specs.declared.module.ItemBody.TheVariants as items
use Rattle.va_sem.specs.Faults.{answered}
use Rattle.va_sem.specs.SmallTrees.{n, whole, stored, declares, interval, parameter, attribute, group, plain, with_attributes, module_at, nature_item, nature, discipline, text, modules, all_of}

-- accesses, disciplines and branches
pub record WorkedAccesses : Type 0 where
  -- analog Temp(a) <+ 1;
  pub other_discipline : answered (text (plain (items.Analog 93 (Contribute 94 (codes "Temp") (n 96 (codes "a")) None (whole 99 1))) ∷ [])) ≡ Some (94, WrongAccess)
  -- analog I(a) <+ Pwr(a, c);
  pub other_discipline_read : answered (text (plain (items.Analog 93 (Contribute 94 (codes "I") (n 96 (codes "a")) None (Call 99 callee.Function (codes "Pwr") (arg.Expr (Name 101 (codes "a")) ∷ arg.Expr (Name 103 (codes "c")) ∷ [])))) ∷ [])) ≡ Some (99, WrongAccess)
  -- before the declaration of the node
  -- analog I(n) <+ 1; half n;
  pub no_such_nature : answered (text (plain (items.Analog 93 (Contribute 94 (codes "I") (n 96 (codes "n")) None (whole 99 1))) ∷ plain (items.Nodes 101 (codes "half") (n 102 (codes "n") ∷ [])) ∷ [])) ≡ Some (94, WrongAccess)
  -- half n; analog V(n) <+ 1;
  pub half_discipline : answered (text (plain (items.Nodes 93 (codes "half") (n 94 (codes "n") ∷ [])) ∷ plain (items.Analog 96 (Contribute 97 (codes "V") (n 99 (codes "n")) None (whole 102 1))) ∷ [])) ≡ Some (93, OutOfProfile)
  -- half n; analog I(n) <+ 1;
  pub no_such_nature_after : answered (text (plain (items.Nodes 93 (codes "half") (n 94 (codes "n") ∷ [])) ∷ plain (items.Analog 96 (Contribute 97 (codes "I") (n 99 (codes "n")) None (whole 102 1))) ∷ [])) ≡ Some (93, OutOfProfile)
  -- less than OutOfProfile
  -- thermal t; analog I(t, t) <+ 1;
  pub same_wrong_node : answered (text (plain (items.Nodes 93 (codes "thermal") (n 94 (codes "t") ∷ [])) ∷ plain (items.Analog 96 (Contribute 97 (codes "I") (n 99 (codes "t")) (Some (n 101 (codes "t"))) (whole 104 1))) ∷ [])) ≡ Some (97, WrongAccess)
  -- thermal t; analog I(a, t) <+ 1;
  pub disciplines_differ : answered (text (plain (items.Nodes 93 (codes "thermal") (n 94 (codes "t") ∷ [])) ∷ plain (items.Analog 96 (Contribute 97 (codes "I") (n 99 (codes "a")) (Some (n 101 (codes "t"))) (whole 104 1))) ∷ [])) ≡ Some (97, DisciplinesDiffer)
  -- at its declaration alone
  -- thermal t; analog V(b) <+ 0; branch (a, t) b;
  pub named_branch_differs : answered (text (plain (items.Nodes 93 (codes "thermal") (n 94 (codes "t") ∷ [])) ∷ plain (items.Analog 96 (Contribute 97 (codes "V") (n 99 (codes "b")) None (whole 102 0))) ∷ plain (items.Branch 104 (n 106 (codes "a")) (Some (n 108 (codes "t"))) (n 110 (codes "b") ∷ [])) ∷ [])) ≡ Some (104, DisciplinesDiffer)
  -- analog I(a, a) <+ 1;
  pub one_node : answered (text (plain (items.Analog 93 (Contribute 94 (codes "I") (n 96 (codes "a")) (Some (n 98 (codes "a"))) (whole 101 1))) ∷ [])) ≡ Some (94, OutOfProfile)
  -- analog V(b) <+ 0; branch (c, c) b;
  pub named_branch_of_one_node : answered (text (plain (items.Analog 93 (Contribute 94 (codes "V") (n 96 (codes "b")) None (whole 99 0))) ∷ plain (items.Branch 101 (n 103 (codes "c")) (Some (n 105 (codes "c"))) (n 107 (codes "b") ∷ [])) ∷ [])) ≡ Some (101, OutOfProfile)
  -- module m(a, c); electrical a; analog I(a) <+ V(c); endmodule
  pub port_without_discipline : answered (modules (module_at [] 76 (codes "m") (n 78 (codes "a") ∷ n 80 (codes "c") ∷ []) (plain (items.Nodes 83 (codes "electrical") (n 84 (codes "a") ∷ [])) ∷ plain (items.Analog 86 (Contribute 87 (codes "I") (n 89 (codes "a")) None (Call 92 callee.Function (codes "V") (arg.Expr (Name 94 (codes "c")) ∷ [])))) ∷ []) ∷ [])) ≡ Some (80, NotDeclaredNode)
  -- in the header
  -- module m(a); real a; endmodule
  pub variable_named_as_port : answered (modules (module_at [] 76 (codes "m") (n 78 (codes "a") ∷ []) (plain (items.Variables (declares 81 written.Real (stored (n 82 (codes "a")) None ∷ []))) ∷ []) ∷ [])) ≡ Some (78, NotDeclaredNode)

-- disciplines of nodes, and accesses where they are not looked at
pub record WorkedDisciplinesOfNodes : Type 0 where
  -- a discipline without a meaning counts as one for the port, and its accesses have no fault
  -- module m(a, c); magnetic a; electrical c; analog I(a, c) <+ Temp(a); endmodule
  pub undeclared_discipline_counts : answered (all_of ([]) ([]) (module_at [] 76 (codes "m") (n 78 (codes "a") ∷ n 80 (codes "c") ∷ []) (plain (items.Nodes 83 (codes "magnetic") (n 84 (codes "a") ∷ [])) ∷ plain (items.Nodes 86 (codes "electrical") (n 87 (codes "c") ∷ [])) ∷ plain (items.Analog 89 (Contribute 90 (codes "I") (n 92 (codes "a")) (Some (n 94 (codes "c"))) (Call 97 callee.Function (codes "Temp") (arg.Expr (Name 99 (codes "a")) ∷ [])))) ∷ []) ∷ [])) ≡ Some (83, UnknownName)
  -- analog I(t) <+ 1; thermal t; electrical t;
  pub first_discipline_counts : answered (text (plain (items.Analog 93 (Contribute 94 (codes "I") (n 96 (codes "t")) None (whole 99 1))) ∷ plain (items.Nodes 101 (codes "thermal") (n 102 (codes "t") ∷ [])) ∷ plain (items.Nodes 104 (codes "electrical") (n 105 (codes "t") ∷ [])) ∷ [])) ≡ Some (94, WrongAccess)
  -- accesses in the arguments of tasks are resolved
  -- analog $strobe(Temp(a));
  pub in_a_task : answered (text (plain (items.Analog 93 (Task 94 (codes "$strobe") (arg.Expr (Call 96 callee.Function (codes "Temp") (arg.Expr (Name 98 (codes "a")) ∷ [])) ∷ []))) ∷ [])) ≡ Some (96, WrongAccess)
  -- analog I(a) <+ $limit(V(a), V(c, c));
  pub in_a_limit : answered (text (plain (items.Analog 93 (Contribute 94 (codes "I") (n 96 (codes "a")) None (Call 99 callee.System (codes "$limit") (arg.Expr (Call 101 callee.Function (codes "V") (arg.Expr (Name 103 (codes "a")) ∷ [])) ∷ arg.Expr (Call 106 callee.Function (codes "V") (arg.Expr (Name 108 (codes "c")) ∷ arg.Expr (Name 110 (codes "c")) ∷ [])) ∷ [])))) ∷ [])) ≡ Some (106, OutOfProfile)
  -- a built-in function is no access
  -- nature N units = "x"; access = exp; endnature discipline d potential N; flow Current; enddiscipline module m(a); d a; analog I(a) <+ exp(a); endmodule
  pub builtin_before_access : answered (all_of (nature 76 (codes "N") None (nature_item 77 (codes "units") (arg.Text (n 79 (codes "x"))) ∷ nature_item 81 (codes "access") (arg.Expr (Name 83 (codes "exp"))) ∷ []) ∷ []) (discipline 87 (codes "d") (Binding 88 Potential (n 89 (codes "N")) ∷ Binding 91 Flow (n 92 (codes "Current")) ∷ []) ∷ []) (module_at [] 96 (codes "m") (n 98 (codes "a") ∷ []) (plain (items.Nodes 101 (codes "d") (n 102 (codes "a") ∷ [])) ∷ plain (items.Analog 104 (Contribute 105 (codes "I") (n 107 (codes "a")) None (Call 110 callee.Function (codes "exp") (arg.Expr (Name 112 (codes "a")) ∷ [])))) ∷ []) ∷ [])) ≡ Some (112, WrongKind)

-- what functions see
pub record WorkedSeenInFunctions : Type 0 where
  -- parameters, under all their names
  -- parameter p = 1; aliasparam r = p; analog function f; input x; f = x + p + r; endfunction
  pub parameters_under_all_names : answered (text (plain (items.Parameters 93 false None (parameter (n 94 (codes "p")) (whole 96 1) [] ∷ [])) ∷ plain (items.Alias 98 (n 99 (codes "r")) (n 101 (codes "p"))) ∷ plain (items.Function 103 None (n 105 (codes "f")) (function.Input 107 (n 108 (codes "x") ∷ []) ∷ []) (Assign 110 (codes "f") (Binary 112 (Binary 112 (Name 112 (codes "x")) Add (Name 114 (codes "p"))) Add (Name 116 (codes "r"))))) ∷ [])) ≡ None
  -- no variables of the module
  -- real y; analog function f; input x; f = x + y; endfunction
  pub no_variable : answered (text (plain (items.Variables (declares 93 written.Real (stored (n 94 (codes "y")) None ∷ []))) ∷ plain (items.Function 96 None (n 98 (codes "f")) (function.Input 100 (n 101 (codes "x") ∷ []) ∷ []) (Assign 103 (codes "f") (Binary 105 (Name 105 (codes "x")) Add (Name 107 (codes "y"))))) ∷ [])) ≡ Some (107, UnknownName)
  -- no nodes
  -- analog function f; input x; f = x + a; endfunction
  pub no_node : answered (text (plain (items.Function 93 None (n 95 (codes "f")) (function.Input 97 (n 98 (codes "x") ∷ []) ∷ []) (Assign 100 (codes "f") (Binary 102 (Name 102 (codes "x")) Add (Name 104 (codes "a"))))) ∷ [])) ≡ Some (104, UnknownName)
  -- the functions of the module
  -- analog function f; input x; f = g(x); endfunction analog function g; input x; g = x; endfunction
  pub functions : answered (text (plain (items.Function 93 None (n 95 (codes "f")) (function.Input 97 (n 98 (codes "x") ∷ []) ∷ []) (Assign 100 (codes "f") (Call 102 callee.Function (codes "g") (arg.Expr (Name 104 (codes "x")) ∷ [])))) ∷ plain (items.Function 108 None (n 110 (codes "g")) (function.Input 112 (n 113 (codes "x") ∷ []) ∷ []) (Assign 115 (codes "g") (Name 117 (codes "x")))) ∷ [])) ≡ None
  -- what a name means in the module, if it is seen
  -- real p; analog function f; input x; f = x + p; endfunction parameter p = 1;
  pub first_declaration_counts : answered (text (plain (items.Variables (declares 93 written.Real (stored (n 94 (codes "p")) None ∷ []))) ∷ plain (items.Function 96 None (n 98 (codes "f")) (function.Input 100 (n 101 (codes "x") ∷ []) ∷ []) (Assign 103 (codes "f") (Binary 105 (Name 105 (codes "x")) Add (Name 107 (codes "p"))))) ∷ plain (items.Parameters 110 false None (parameter (n 111 (codes "p")) (whole 113 1) [] ∷ [])) ∷ [])) ≡ Some (107, UnknownName)
  -- its variables, in blocks too
  -- analog function f; input x; real y; begin : b real x; x = y; f = x; end endfunction
  pub variables_of_its_own : answered (text (plain (items.Function 93 None (n 95 (codes "f")) (function.Input 97 (n 98 (codes "x") ∷ []) ∷ function.Variables 100 written.Real (n 101 (codes "y") ∷ []) ∷ []) (Block 103 (Some (n 105 (codes "b"))) ((declares 106 written.Real (stored (n 107 (codes "x")) None ∷ [])) ∷ []) ((Assign 109 (codes "x") (Name 111 (codes "y"))) ∷ (Assign 113 (codes "f") (Name 115 (codes "x"))) ∷ []))) ∷ [])) ≡ None

-- calls of functions in a circle
pub record WorkedCycles : Type 0 where
  -- analog function f; input x; f = g(x); endfunction analog function g; input x; g = f(x); endfunction
  pub of_two : answered (text (plain (items.Function 93 None (n 95 (codes "f")) (function.Input 97 (n 98 (codes "x") ∷ []) ∷ []) (Assign 100 (codes "f") (Call 102 callee.Function (codes "g") (arg.Expr (Name 104 (codes "x")) ∷ [])))) ∷ plain (items.Function 108 None (n 110 (codes "g")) (function.Input 112 (n 113 (codes "x") ∷ []) ∷ []) (Assign 115 (codes "g") (Call 117 callee.Function (codes "f") (arg.Expr (Name 119 (codes "x")) ∷ [])))) ∷ [])) ≡ Some (102, FunctionCycle)
  -- a call into a cycle from outside stands in none
  -- analog function h; input x; h = f(x); endfunction analog function f; input x; f = g(x); endfunction analog function g; input x; g = f(x); endfunction
  pub call_into_cycle : answered (text (plain (items.Function 93 None (n 95 (codes "h")) (function.Input 97 (n 98 (codes "x") ∷ []) ∷ []) (Assign 100 (codes "h") (Call 102 callee.Function (codes "f") (arg.Expr (Name 104 (codes "x")) ∷ [])))) ∷ plain (items.Function 108 None (n 110 (codes "f")) (function.Input 112 (n 113 (codes "x") ∷ []) ∷ []) (Assign 115 (codes "f") (Call 117 callee.Function (codes "g") (arg.Expr (Name 119 (codes "x")) ∷ [])))) ∷ plain (items.Function 123 None (n 125 (codes "g")) (function.Input 127 (n 128 (codes "x") ∷ []) ∷ []) (Assign 130 (codes "g") (Call 132 callee.Function (codes "f") (arg.Expr (Name 134 (codes "x")) ∷ [])))) ∷ [])) ≡ Some (117, FunctionCycle)
  -- analog function f; input x; f = g(x); endfunction analog function g; input x; g = x; endfunction
  pub called_before_declared : answered (text (plain (items.Function 93 None (n 95 (codes "f")) (function.Input 97 (n 98 (codes "x") ∷ []) ∷ []) (Assign 100 (codes "f") (Call 102 callee.Function (codes "g") (arg.Expr (Name 104 (codes "x")) ∷ [])))) ∷ plain (items.Function 108 None (n 110 (codes "g")) (function.Input 112 (n 113 (codes "x") ∷ []) ∷ []) (Assign 115 (codes "g") (Name 117 (codes "x")))) ∷ [])) ≡ None
  -- arguments that are not looked at make no cycle
  -- analog function f; input x; begin f = x; $strobe(g(x)); end endfunction analog function g; input x; g = f(x); endfunction
  pub in_task : answered (text (plain (items.Function 93 None (n 95 (codes "f")) (function.Input 97 (n 98 (codes "x") ∷ []) ∷ []) (Block 100 None [] ((Assign 101 (codes "f") (Name 103 (codes "x"))) ∷ (Task 105 (codes "$strobe") (arg.Expr (Call 107 callee.Function (codes "g") (arg.Expr (Name 109 (codes "x")) ∷ [])) ∷ [])) ∷ []))) ∷ plain (items.Function 115 None (n 117 (codes "g")) (function.Input 119 (n 120 (codes "x") ∷ []) ∷ []) (Assign 122 (codes "g") (Call 124 callee.Function (codes "f") (arg.Expr (Name 126 (codes "x")) ∷ [])))) ∷ [])) ≡ None
  -- analog function f; input x; begin f = x; @(final_step) f = g(x); end endfunction analog function g; input x; g = f(x); endfunction
  pub at_the_final_step : answered (text (plain (items.Function 93 None (n 95 (codes "f")) (function.Input 97 (n 98 (codes "x") ∷ []) ∷ []) (Block 100 None [] ((Assign 101 (codes "f") (Name 103 (codes "x"))) ∷ (Event 105 FinalStep [] (Assign 109 (codes "f") (Call 111 callee.Function (codes "g") (arg.Expr (Name 113 (codes "x")) ∷ [])))) ∷ []))) ∷ plain (items.Function 118 None (n 120 (codes "g")) (function.Input 122 (n 123 (codes "x") ∷ []) ∷ []) (Assign 125 (codes "g") (Call 127 callee.Function (codes "f") (arg.Expr (Name 129 (codes "x")) ∷ [])))) ∷ [])) ≡ Some (111, FunctionCycle)

-- what this profile leaves out
pub record WorkedLeftOut : Type 0 where
  -- analog I(a) <+ idt(V(a));
  pub left_out_function : answered (text (plain (items.Analog 93 (Contribute 94 (codes "I") (n 96 (codes "a")) None (Call 99 callee.Function (codes "idt") (arg.Expr (Call 101 callee.Function (codes "V") (arg.Expr (Name 103 (codes "a")) ∷ [])) ∷ [])))) ∷ [])) ≡ Some (99, OutOfProfile)
  -- real x; analog x = $abstime;
  pub unknown_system_name : answered (text (plain (items.Variables (declares 93 written.Real (stored (n 94 (codes "x")) None ∷ []))) ∷ plain (items.Analog 96 (Assign 97 (codes "x") (Call 99 callee.System (codes "$abstime") []))) ∷ [])) ≡ Some (99, OutOfProfile)
  -- analog $foo;
  pub unknown_task : answered (text (plain (items.Analog 93 (Task 94 (codes "$foo") [])) ∷ [])) ≡ Some (94, OutOfProfile)
  -- analog $strobe("%g", $abstime);
  pub system_name_in_task : answered (text (plain (items.Analog 93 (Task 94 (codes "$strobe") (arg.Text (n 96 (codes "%g")) ∷ arg.Expr (Call 98 callee.System (codes "$abstime") []) ∷ []))) ∷ [])) ≡ Some (98, OutOfProfile)
  -- real x; analog x = inf;
  pub infinity_as_value : answered (text (plain (items.Variables (declares 93 written.Real (stored (n 94 (codes "x")) None ∷ []))) ∷ plain (items.Analog 96 (Assign 97 (codes "x") (Inf 99))) ∷ [])) ≡ Some (99, OutOfProfile)
  -- parameter real p = 1 from (-inf:inf) exclude [-inf:0];
  pub infinity_in_bound : answered (text (plain (items.Parameters 93 false (Some written.Real) (parameter (n 95 (codes "p")) (whole 97 1) (From (interval false (Unary 100 Minus (Inf 101)) (Inf 103) false) ∷ ExcludeInterval (interval true (Unary 107 Minus (Inf 108)) (whole 110 0) true) ∷ []) ∷ [])) ∷ [])) ≡ None
  -- parameter real p = 1 from [0:(inf)];
  pub infinity_in_parentheses : answered (text (plain (items.Parameters 93 false (Some written.Real) (parameter (n 95 (codes "p")) (whole 97 1) (From (interval true (whole 100 0) (Group 102 (Inf 103)) true) ∷ []) ∷ [])) ∷ [])) ≡ Some (103, OutOfProfile)
  -- parameter real p = 1 from [0:!inf];
  pub infinity_negated : answered (text (plain (items.Parameters 93 false (Some written.Real) (parameter (n 95 (codes "p")) (whole 97 1) (From (interval true (whole 100 0) (Unary 102 Not (Inf 103)) true) ∷ []) ∷ [])) ∷ [])) ≡ Some (103, OutOfProfile)
  -- parameter real p = 1 exclude inf;
  pub infinity_excluded : answered (text (plain (items.Parameters 93 false (Some written.Real) (parameter (n 95 (codes "p")) (whole 97 1) (ExcludeValue (Inf 99) ∷ []) ∷ [])) ∷ [])) ≡ Some (99, OutOfProfile)
  -- parameter real p = inf;
  pub infinity_in_default : answered (text (plain (items.Parameters 93 false (Some written.Real) (parameter (n 95 (codes "p")) (Inf 97) [] ∷ [])) ∷ [])) ≡ Some (97, OutOfProfile)
  -- arguments of tasks and attributes may hold it
  -- (* desc = inf *) real x; analog $strobe(inf);
  pub infinity_in_task : answered (text (with_attributes (group (attribute 94 (codes "desc") (Some (arg.Expr (Inf 96))) ∷ []) ∷ []) (items.Variables (declares 98 written.Real (stored (n 99 (codes "x")) None ∷ []))) ∷ plain (items.Analog 101 (Task 102 (codes "$strobe") (arg.Expr (Inf 104) ∷ []))) ∷ [])) ≡ None
  -- real x; analog @(final_step) x = inf;
  pub infinity_at_final_step : answered (text (plain (items.Variables (declares 93 written.Real (stored (n 94 (codes "x")) None ∷ []))) ∷ plain (items.Analog 96 (Event 97 FinalStep [] (Assign 101 (codes "x") (Inf 103)))) ∷ [])) ≡ Some (103, OutOfProfile)
