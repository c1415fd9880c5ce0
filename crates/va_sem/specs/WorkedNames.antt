-- Rows on names that were worked out by hand: the token and the code of the answered fault, or none. Above each row stands the
-- text of the items, the first of which begins at token 93, or the text after the disciplines, from token 75 on.
use Rattle.std.specs.Prelude.{◌≡◌, true, false, [], ◌∷◌, Some, None, codes}
use Rattle.va_base.specs.declared.fault.FaultCode.TheVariants.{UnknownName, TwiceDeclared, WrongKind}
use Rattle.va_tree.specs.declared.expr.BinaryOp.TheVariants.{Add}
use Rattle.va_tree.specs.declared.expr.Callee.TheVariants as callee
use Rattle.va_tree.specs.declared.expr.Arg.TheVariants as arg
use Rattle.va_tree.specs.declared.expr.Expr.TheVariants.{Name, Group, Binary, Call}
use Rattle.va_tree.specs.declared.stmt.Stmt.TheVariants.{Block, Case, Assign, Contribute, Task}
use Rattle.va_tree.specs.declared.source.Quantity.TheVariants.{Potential, Flow}
use Rattle.va_tree.specs.declared.source.DisciplineItem.TheVariants.{Binding}
use Rattle.va_tree.specs.declared.module.Ty.TheVariants as written
use Rattle.va_tree.specs.declared.module.Direction.TheVariants.{Input}
use Rattle.va_tree.specs.declared.module.FunctionItem.TheVariants as function
use Rattle.va_tree.specs.declared.module.ItemBody.TheVariants as items
use Rattle.va_sem.specs.Faults.{answered}
use Rattle.va_sem.specs.SmallTrees.{n, whole, stored, declares, item, by_default, parameter, plain, module_at, nature_item, nature, discipline, text, modules, declarations, all_of}

-- names without a meaning where they stand
pub record WorkedUnknownNames : Type 0 where
  -- analog I(a, c) <+ V(a, c);
  pub in_order : answered (text (plain (items.Analog 93 (Contribute 94 (codes "I") (n 96 (codes "a")) (Some (n 98 (codes "c"))) (Call 101 callee.Function (codes "V") (arg.Expr (Name 103 (codes "a")) ∷ arg.Expr (Name 105 (codes "c")) ∷ [])))) ∷ [])) ≡ None
  -- a name that is declared nowhere
  -- real x; analog x = y;
  pub no_meaning : answered (text (plain (items.Variables (declares 93 written.Real (stored (n 94 (codes "x")) None ∷ []))) ∷ plain (items.Analog 96 (Assign 97 (codes "x") (Name 99 (codes "y")))) ∷ [])) ≡ Some (99, UnknownName)
  -- no nature has the access
  -- analog V(a, c) <+ J(a);
  pub no_access : answered (text (plain (items.Analog 93 (Contribute 94 (codes "V") (n 96 (codes "a")) (Some (n 98 (codes "c"))) (Call 101 callee.Function (codes "J") (arg.Expr (Name 103 (codes "a")) ∷ [])))) ∷ [])) ≡ Some (101, UnknownName)
  -- though the number of arguments is wrong before
  -- real x; analog begin x = exp(1, 2); x = y; end
  pub names_before_types : answered (text (plain (items.Variables (declares 93 written.Real (stored (n 94 (codes "x")) None ∷ []))) ∷ plain (items.Analog 96 (Block 97 None [] ((Assign 98 (codes "x") (Call 100 callee.Function (codes "exp") (arg.Expr (whole 102 1) ∷ arg.Expr (whole 104 2) ∷ []))) ∷ (Assign 107 (codes "x") (Name 109 (codes "y"))) ∷ []))) ∷ [])) ≡ Some (109, UnknownName)
  -- a built-in function without parentheses
  -- real x; analog x = exp;
  pub builtin_without_parentheses : answered (text (plain (items.Variables (declares 93 written.Real (stored (n 94 (codes "x")) None ∷ []))) ∷ plain (items.Analog 96 (Assign 97 (codes "x") (Name 99 (codes "exp")))) ∷ [])) ≡ Some (99, UnknownName)
  -- a discipline has no meaning in a module
  -- real x; analog x = electrical;
  pub discipline_as_value : answered (text (plain (items.Variables (declares 93 written.Real (stored (n 94 (codes "x")) None ∷ []))) ∷ plain (items.Analog 96 (Assign 97 (codes "x") (Name 99 (codes "electrical")))) ∷ [])) ≡ Some (99, UnknownName)
  -- a direction of a node that is no port
  -- electrical n; input n;
  pub direction_of_no_port : answered (text (plain (items.Nodes 93 (codes "electrical") (n 94 (codes "n") ∷ [])) ∷ plain (items.Direction 96 Input None (n 97 (codes "n") ∷ [])) ∷ [])) ≡ Some (97, UnknownName)
  -- it declares the node all the same
  -- analog I(n) <+ 0; input electrical n;
  pub direction_with_discipline : answered (text (plain (items.Analog 93 (Contribute 94 (codes "I") (n 96 (codes "n")) None (whole 99 0))) ∷ plain (items.Direction 101 Input (Some (n 102 (codes "electrical"))) (n 103 (codes "n") ∷ [])) ∷ [])) ≡ Some (103, UnknownName)
  -- magnetic n;
  pub undeclared_discipline : answered (text (plain (items.Nodes 93 (codes "magnetic") (n 94 (codes "n") ∷ [])) ∷ [])) ≡ Some (93, UnknownName)
  -- a nature that is its own parent
  -- nature N : N endnature
  pub own_parent : answered (declarations (nature 76 (codes "N") (Some (n 78 (codes "N"))) [] ∷ []) ([])) ≡ Some (78, UnknownName)
  -- nature N : M endnature nature M endnature
  pub later_parent : answered (declarations (nature 76 (codes "N") (Some (n 78 (codes "M"))) [] ∷ nature 81 (codes "M") None [] ∷ []) ([])) ≡ Some (78, UnknownName)
  -- discipline d potential N; flow Current; enddiscipline nature N endnature
  pub later_nature : answered (declarations (nature 85 (codes "N") None [] ∷ []) (discipline 76 (codes "d") (Binding 77 Potential (n 78 (codes "N")) ∷ Binding 80 Flow (n 81 (codes "Current")) ∷ []) ∷ [])) ≡ Some (78, UnknownName)
  -- it declares nothing
  -- real x; analog x = exp + exp(1); real exp;
  pub builtin_declared_later : answered (text (plain (items.Variables (declares 93 written.Real (stored (n 94 (codes "x")) None ∷ []))) ∷ plain (items.Analog 96 (Assign 97 (codes "x") (Binary 99 (Name 99 (codes "exp")) Add (Call 101 callee.Function (codes "exp") (arg.Expr (whole 103 1) ∷ []))))) ∷ plain (items.Variables (declares 106 written.Real (stored (n 107 (codes "exp")) None ∷ []))) ∷ [])) ≡ Some (99, UnknownName)
  -- module m(a); late a; endmodule discipline late potential Voltage; flow Current; enddiscipline
  pub later_discipline : answered (all_of ([]) (discipline 86 (codes "late") (Binding 87 Potential (n 88 (codes "Voltage")) ∷ Binding 90 Flow (n 91 (codes "Current")) ∷ []) ∷ []) (module_at [] 76 (codes "m") (n 78 (codes "a") ∷ []) (plain (items.Nodes 81 (codes "late") (n 82 (codes "a") ∷ [])) ∷ []) ∷ [])) ≡ Some (81, UnknownName)
  -- aliasparam p = p;
  pub alias_of_itself : answered (text (plain (items.Alias 93 (n 94 (codes "p")) (n 96 (codes "p"))) ∷ [])) ≡ Some (96, UnknownName)
  -- aliasparam p = q; aliasparam q = p;
  pub alias_in_circle : answered (text (plain (items.Alias 93 (n 94 (codes "p")) (n 96 (codes "q"))) ∷ plain (items.Alias 98 (n 99 (codes "q")) (n 101 (codes "p"))) ∷ [])) ≡ Some (96, UnknownName)
  -- real x; analog x = p; aliasparam p = a;
  pub use_of_alias_of_nothing : answered (text (plain (items.Variables (declares 93 written.Real (stored (n 94 (codes "x")) None ∷ []))) ∷ plain (items.Analog 96 (Assign 97 (codes "x") (Name 99 (codes "p")))) ∷ plain (items.Alias 101 (n 102 (codes "p")) (n 104 (codes "a"))) ∷ [])) ≡ Some (99, UnknownName)
  -- an alias may stand before its parameter
  -- aliasparam p = q; aliasparam o = p; real x; analog x = o; localparam q = 1;
  pub alias_of_later : answered (text (plain (items.Alias 93 (n 94 (codes "p")) (n 96 (codes "q"))) ∷ plain (items.Alias 98 (n 99 (codes "o")) (n 101 (codes "p"))) ∷ plain (items.Variables (declares 103 written.Real (stored (n 104 (codes "x")) None ∷ []))) ∷ plain (items.Analog 106 (Assign 107 (codes "x") (Name 109 (codes "o")))) ∷ plain (items.Parameters 111 true None (parameter (n 112 (codes "q")) (whole 114 1) [] ∷ [])) ∷ [])) ≡ None
  -- a function does not see labels
  -- analog begin : b end analog function f; input x; f = b; endfunction
  pub label_in_function : answered (text (plain (items.Analog 93 (Block 94 (Some (n 96 (codes "b"))) [] [])) ∷ plain (items.Function 98 None (n 100 (codes "f")) (function.Input 102 (n 103 (codes "x") ∷ []) ∷ []) (Assign 105 (codes "f") (Name 107 (codes "b")))) ∷ [])) ≡ Some (107, UnknownName)
  -- in a function too
  -- analog function f; input x; J(x) <+ 1; endfunction
  pub contribution_of_nothing : answered (text (plain (items.Function 93 None (n 95 (codes "f")) (function.Input 97 (n 98 (codes "x") ∷ []) ∷ []) (Contribute 100 (codes "J") (n 102 (codes "x")) None (whole 105 1))) ∷ [])) ≡ Some (100, UnknownName)
  -- analog I(a) <+ $limit(V(a), "f", z);
  pub limit_arguments_resolved : answered (text (plain (items.Analog 93 (Contribute 94 (codes "I") (n 96 (codes "a")) None (Call 99 callee.System (codes "$limit") (arg.Expr (Call 101 callee.Function (codes "V") (arg.Expr (Name 103 (codes "a")) ∷ [])) ∷ arg.Text (n 106 (codes "f")) ∷ arg.Expr (Name 108 (codes "z")) ∷ [])))) ∷ [])) ≡ Some (108, UnknownName)
  -- nodes may be named like their discipline and module
  -- electrical electrical, m; analog I(m, electrical) <+ V(m);
  pub access_of_a_nature_named_as_discipline : answered (text (plain (items.Nodes 93 (codes "electrical") (n 94 (codes "electrical") ∷ n 96 (codes "m") ∷ [])) ∷ plain (items.Analog 98 (Contribute 99 (codes "I") (n 101 (codes "m")) (Some (n 103 (codes "electrical"))) (Call 106 callee.Function (codes "V") (arg.Expr (Name 108 (codes "m")) ∷ [])))) ∷ [])) ≡ None
  -- a nature takes the access of its parent
  -- nature N : Voltage endnature discipline d potential N; flow Current; enddiscipline module m(a); d a; analog I(a) <+ V(a); endmodule
  pub access_of_parent : answered (all_of (nature 76 (codes "N") (Some (n 78 (codes "Voltage"))) [] ∷ []) (discipline 81 (codes "d") (Binding 82 Potential (n 83 (codes "N")) ∷ Binding 85 Flow (n 86 (codes "Current")) ∷ []) ∷ []) (module_at [] 90 (codes "m") (n 92 (codes "a") ∷ []) (plain (items.Nodes 95 (codes "d") (n 96 (codes "a") ∷ [])) ∷ plain (items.Analog 98 (Contribute 99 (codes "I") (n 101 (codes "a")) None (Call 104 callee.Function (codes "V") (arg.Expr (Name 106 (codes "a")) ∷ [])))) ∷ []) ∷ [])) ≡ None

-- names that are declared twice, and other second items
pub record WorkedSecondDeclarations : Type 0 where
  -- module m(a, a); electrical a; endmodule
  pub ports : answered (modules (module_at [] 76 (codes "m") (n 78 (codes "a") ∷ n 80 (codes "a") ∷ []) (plain (items.Nodes 83 (codes "electrical") (n 84 (codes "a") ∷ [])) ∷ []) ∷ [])) ≡ Some (80, TwiceDeclared)
  -- module m(exp); electrical exp; endmodule
  pub port_named_as_builtin : answered (modules (module_at [] 76 (codes "m") (n 78 (codes "exp") ∷ []) (plain (items.Nodes 81 (codes "electrical") (n 82 (codes "exp") ∷ [])) ∷ []) ∷ [])) ≡ Some (78, TwiceDeclared)
  -- module m; endmodule module m; endmodule
  pub modules : answered (modules (module_at [] 76 (codes "m") [] [] ∷ module_at [] 80 (codes "m") [] [] ∷ [])) ≡ Some (80, TwiceDeclared)
  -- nature Voltage endnature
  pub natures : answered (declarations (nature 76 (codes "Voltage") None [] ∷ []) ([])) ≡ Some (76, TwiceDeclared)
  -- the first is the meaning everywhere
  -- real a;
  pub variable_and_node : answered (text (plain (items.Variables (declares 93 written.Real (stored (n 94 (codes "a")) None ∷ []))) ∷ [])) ≡ Some (94, TwiceDeclared)
  -- analog I(a) <+ exp(1); real exp;
  pub builtin_variable : answered (text (plain (items.Analog 93 (Contribute 94 (codes "I") (n 96 (codes "a")) None (Call 99 callee.Function (codes "exp") (arg.Expr (whole 101 1) ∷ [])))) ∷ plain (items.Variables (declares 104 written.Real (stored (n 105 (codes "exp")) None ∷ []))) ∷ [])) ≡ Some (105, TwiceDeclared)
  -- real ddx;
  pub left_out_variable : answered (text (plain (items.Variables (declares 93 written.Real (stored (n 94 (codes "ddx")) None ∷ []))) ∷ [])) ≡ Some (94, TwiceDeclared)
  -- electrical a;
  pub second_discipline_of_port : answered (text (plain (items.Nodes 93 (codes "electrical") (n 94 (codes "a") ∷ [])) ∷ [])) ≡ Some (94, TwiceDeclared)
  -- electrical n; thermal n;
  pub second_discipline_of_node : answered (text (plain (items.Nodes 93 (codes "electrical") (n 94 (codes "n") ∷ [])) ∷ plain (items.Nodes 96 (codes "thermal") (n 97 (codes "n") ∷ [])) ∷ [])) ≡ Some (97, TwiceDeclared)
  -- labels of nested blocks and functions are of one set
  -- analog begin : b begin : b end end
  pub labels : answered (text (plain (items.Analog 93 (Block 94 (Some (n 96 (codes "b"))) [] ((Block 97 (Some (n 99 (codes "b"))) [] []) ∷ []))) ∷ [])) ≡ Some (99, TwiceDeclared)
  -- real b; analog begin : b end
  pub label_and_variable : answered (text (plain (items.Variables (declares 93 written.Real (stored (n 94 (codes "b")) None ∷ []))) ∷ plain (items.Analog 96 (Block 97 (Some (n 99 (codes "b"))) [] [])) ∷ [])) ≡ Some (99, TwiceDeclared)
  -- analog begin : b real b; b = 1; end
  pub label_like_its_own_variable : answered (text (plain (items.Analog 93 (Block 94 (Some (n 96 (codes "b"))) ((declares 97 written.Real (stored (n 98 (codes "b")) None ∷ [])) ∷ []) ((Assign 100 (codes "b") (whole 102 1)) ∷ []))) ∷ [])) ≡ None
  -- analog begin : b real x; integer x; end
  pub in_block : answered (text (plain (items.Analog 93 (Block 94 (Some (n 96 (codes "b"))) ((declares 97 written.Real (stored (n 98 (codes "x")) None ∷ [])) ∷ (declares 100 written.Integer (stored (n 101 (codes "x")) None ∷ [])) ∷ []) [])) ∷ [])) ≡ Some (101, TwiceDeclared)
  -- real x; analog begin : b real x; x = 1; end
  pub block_hides : answered (text (plain (items.Variables (declares 93 written.Real (stored (n 94 (codes "x")) None ∷ []))) ∷ plain (items.Analog 96 (Block 97 (Some (n 99 (codes "b"))) ((declares 100 written.Real (stored (n 101 (codes "x")) None ∷ [])) ∷ []) ((Assign 103 (codes "x") (whole 105 1)) ∷ []))) ∷ [])) ≡ None
  -- analog function f; real x; input x; f = x; endfunction
  pub argument_type_is_none : answered (text (plain (items.Function 93 None (n 95 (codes "f")) (function.Variables 97 written.Real (n 98 (codes "x") ∷ []) ∷ function.Input 100 (n 101 (codes "x") ∷ []) ∷ []) (Assign 103 (codes "f") (Name 105 (codes "x")))) ∷ [])) ≡ None
  -- analog function f; input x; real x; integer x; f = x; endfunction
  pub second_argument_type : answered (text (plain (items.Function 93 None (n 95 (codes "f")) (function.Input 97 (n 98 (codes "x") ∷ []) ∷ function.Variables 100 written.Real (n 101 (codes "x") ∷ []) ∷ function.Variables 103 written.Integer (n 104 (codes "x") ∷ []) ∷ []) (Assign 106 (codes "f") (Name 108 (codes "x")))) ∷ [])) ≡ Some (104, TwiceDeclared)
  -- analog function f; input x, x; f = x; endfunction
  pub second_argument : answered (text (plain (items.Function 93 None (n 95 (codes "f")) (function.Input 97 (n 98 (codes "x") ∷ n 100 (codes "x") ∷ []) ∷ []) (Assign 102 (codes "f") (Name 104 (codes "x")))) ∷ [])) ≡ Some (100, TwiceDeclared)
  -- analog function f; input x; real f; f = x; endfunction
  pub own_name_in_function : answered (text (plain (items.Function 93 None (n 95 (codes "f")) (function.Input 97 (n 98 (codes "x") ∷ []) ∷ function.Variables 100 written.Real (n 101 (codes "f") ∷ []) ∷ []) (Assign 103 (codes "f") (Name 105 (codes "x")))) ∷ [])) ≡ Some (101, TwiceDeclared)
  -- the type of an argument that may not have this name
  -- analog function real f; real f; input f; f = 1; endfunction
  pub own_name_as_typed_argument : answered (text (plain (items.Function 93 (Some written.Real) (n 96 (codes "f")) (function.Variables 98 written.Real (n 99 (codes "f") ∷ []) ∷ function.Input 101 (n 102 (codes "f") ∷ []) ∷ []) (Assign 104 (codes "f") (whole 106 1))) ∷ [])) ≡ Some (99, TwiceDeclared)
  -- analog function f; real exp; input exp; f = 1; endfunction
  pub builtin_as_typed_argument : answered (text (plain (items.Function 93 None (n 95 (codes "f")) (function.Variables 97 written.Real (n 98 (codes "exp") ∷ []) ∷ function.Input 100 (n 101 (codes "exp") ∷ []) ∷ []) (Assign 103 (codes "f") (whole 105 1))) ∷ [])) ≡ Some (98, TwiceDeclared)
  -- wherever the items stand
  -- real x; analog case (1) default x = 1; 1: x = 2; default: x = 3; endcase
  pub second_default : answered (text (plain (items.Variables (declares 93 written.Real (stored (n 94 (codes "x")) None ∷ []))) ∷ plain (items.Analog 96 (Case 97 (whole 99 1) (item 106 ((whole 106 1) ∷ []) (Assign 108 (codes "x") (whole 110 2)) ∷ []) (by_default 101 (Assign 102 (codes "x") (whole 104 1)) ∷ by_default 112 (Assign 114 (codes "x") (whole 116 3)) ∷ []))) ∷ [])) ≡ Some (112, TwiceDeclared)
  -- nature N access = A; access = B; endnature
  pub second_access : answered (declarations (nature 76 (codes "N") None (nature_item 77 (codes "access") (arg.Expr (Name 79 (codes "A"))) ∷ nature_item 81 (codes "access") (arg.Expr (Name 83 (codes "B"))) ∷ []) ∷ []) ([])) ≡ Some (81, TwiceDeclared)
  -- nature N units = "u"; units = 1; endnature
  pub second_units_of_wrong_kind : answered (declarations (nature 76 (codes "N") None (nature_item 77 (codes "units") (arg.Text (n 79 (codes "u"))) ∷ nature_item 81 (codes "units") (arg.Expr (whole 83 1)) ∷ []) ∷ []) ([])) ≡ Some (81, TwiceDeclared)
  -- discipline d potential Voltage; potential Heat; flow Current; enddiscipline
  pub second_potential : answered (declarations ([]) (discipline 76 (codes "d") (Binding 77 Potential (n 78 (codes "Voltage")) ∷ Binding 80 Potential (n 81 (codes "Heat")) ∷ Binding 83 Flow (n 84 (codes "Current")) ∷ []) ∷ [])) ≡ Some (80, TwiceDeclared)
  -- discipline d potential Voltage; flow Voltage; enddiscipline
  pub one_nature_for_both : answered (declarations ([]) (discipline 76 (codes "d") (Binding 77 Potential (n 78 (codes "Voltage")) ∷ Binding 80 Flow (n 81 (codes "Voltage")) ∷ []) ∷ [])) ≡ None

-- names that mean something of another kind
pub record WorkedWrongKinds : Type 0 where
  -- real x; analog x = a;
  pub node_as_value : answered (text (plain (items.Variables (declares 93 written.Real (stored (n 94 (codes "x")) None ∷ []))) ∷ plain (items.Analog 96 (Assign 97 (codes "x") (Name 99 (codes "a")))) ∷ [])) ≡ Some (99, WrongKind)
  -- parameter p = 1; analog p = 1;
  pub parameter_assigned : answered (text (plain (items.Parameters 93 false None (parameter (n 94 (codes "p")) (whole 96 1) [] ∷ [])) ∷ plain (items.Analog 98 (Assign 99 (codes "p") (whole 101 1))) ∷ [])) ≡ Some (99, WrongKind)
  -- its own name is the variable of its result
  -- analog function f; input x; f = f(x); endfunction
  pub function_in_itself : answered (text (plain (items.Function 93 None (n 95 (codes "f")) (function.Input 97 (n 98 (codes "x") ∷ []) ∷ []) (Assign 100 (codes "f") (Call 102 callee.Function (codes "f") (arg.Expr (Name 104 (codes "x")) ∷ [])))) ∷ [])) ≡ Some (102, WrongKind)
  -- analog function f; input x; f = x; endfunction real y; analog y = f;
  pub function_as_value : answered (text (plain (items.Function 93 None (n 95 (codes "f")) (function.Input 97 (n 98 (codes "x") ∷ []) ∷ []) (Assign 100 (codes "f") (Name 102 (codes "x")))) ∷ plain (items.Variables (declares 105 written.Real (stored (n 106 (codes "y")) None ∷ []))) ∷ plain (items.Analog 108 (Assign 109 (codes "y") (Name 111 (codes "f")))) ∷ [])) ≡ Some (111, WrongKind)
  -- real x; analog begin : b x = b; end
  pub label_read : answered (text (plain (items.Variables (declares 93 written.Real (stored (n 94 (codes "x")) None ∷ []))) ∷ plain (items.Analog 96 (Block 97 (Some (n 99 (codes "b"))) [] ((Assign 100 (codes "x") (Name 102 (codes "b"))) ∷ []))) ∷ [])) ≡ Some (102, WrongKind)
  -- branch (a, c) b; analog I(b, c) <+ 1;
  pub branch_in_pair : answered (text (plain (items.Branch 93 (n 95 (codes "a")) (Some (n 97 (codes "c"))) (n 99 (codes "b") ∷ [])) ∷ plain (items.Analog 101 (Contribute 102 (codes "I") (n 104 (codes "b")) (Some (n 106 (codes "c"))) (whole 109 1))) ∷ [])) ≡ Some (104, WrongKind)
  -- analog begin : b real a; I(a) <+ 1; end
  pub hidden_node : answered (text (plain (items.Analog 93 (Block 94 (Some (n 96 (codes "b"))) ((declares 97 written.Real (stored (n 98 (codes "a")) None ∷ [])) ∷ []) ((Contribute 100 (codes "I") (n 102 (codes "a")) None (whole 105 1)) ∷ []))) ∷ [])) ≡ Some (102, WrongKind)
  -- real V; analog I(a) <+ V(a);
  pub variable_takes_access : answered (text (plain (items.Variables (declares 93 written.Real (stored (n 94 (codes "V")) None ∷ []))) ∷ plain (items.Analog 96 (Contribute 97 (codes "I") (n 99 (codes "a")) None (Call 102 callee.Function (codes "V") (arg.Expr (Name 104 (codes "a")) ∷ [])))) ∷ [])) ≡ Some (102, WrongKind)
  -- analog I(a) <+ V((a));
  pub access_of_expression : answered (text (plain (items.Analog 93 (Contribute 94 (codes "I") (n 96 (codes "a")) None (Call 99 callee.Function (codes "V") (arg.Expr (Group 101 (Name 102 (codes "a"))) ∷ [])))) ∷ [])) ≡ Some (99, WrongKind)
  -- analog I(a) <+ V(a, c, a);
  pub access_of_three : answered (text (plain (items.Analog 93 (Contribute 94 (codes "I") (n 96 (codes "a")) None (Call 99 callee.Function (codes "V") (arg.Expr (Name 101 (codes "a")) ∷ arg.Expr (Name 103 (codes "c")) ∷ arg.Expr (Name 105 (codes "a")) ∷ [])))) ∷ [])) ≡ Some (99, WrongKind)
  -- analog function f; input x; f = V(a); endfunction
  pub access_in_function : answered (text (plain (items.Function 93 None (n 95 (codes "f")) (function.Input 97 (n 98 (codes "x") ∷ []) ∷ []) (Assign 100 (codes "f") (Call 102 callee.Function (codes "V") (arg.Expr (Name 104 (codes "a")) ∷ [])))) ∷ [])) ≡ Some (102, WrongKind)
  -- analog function f; input x; I(a) <+ x; endfunction
  pub contribution_in_function : answered (text (plain (items.Function 93 None (n 95 (codes "f")) (function.Input 97 (n 98 (codes "x") ∷ []) ∷ []) (Contribute 100 (codes "I") (n 102 (codes "a")) None (Name 105 (codes "x")))) ∷ [])) ≡ Some (100, WrongKind)
  -- analog function f; input x; begin f = x; $strobe(V(a)); end endfunction
  pub access_in_task_of_function : answered (text (plain (items.Function 93 None (n 95 (codes "f")) (function.Input 97 (n 98 (codes "x") ∷ []) ∷ []) (Block 100 None [] ((Assign 101 (codes "f") (Name 103 (codes "x"))) ∷ (Task 105 (codes "$strobe") (arg.Expr (Call 107 callee.Function (codes "V") (arg.Expr (Name 109 (codes "a")) ∷ [])) ∷ [])) ∷ []))) ∷ [])) ≡ Some (107, WrongKind)
  -- less than OutOfProfile
  -- analog idt(a) <+ 1;
  pub builtin_contributed : answered (text (plain (items.Analog 93 (Contribute 94 (codes "idt") (n 96 (codes "a")) None (whole 99 1))) ∷ [])) ≡ Some (94, WrongKind)
  -- real x; analog x = $strobe(1);
  pub task_in_expression : answered (text (plain (items.Variables (declares 93 written.Real (stored (n 94 (codes "x")) None ∷ []))) ∷ plain (items.Analog 96 (Assign 97 (codes "x") (Call 99 callee.System (codes "$strobe") (arg.Expr (whole 101 1) ∷ [])))) ∷ [])) ≡ Some (99, WrongKind)
  -- analog $temperature;
  pub system_function_as_task : answered (text (plain (items.Analog 93 (Task 94 (codes "$temperature") [])) ∷ [])) ≡ Some (94, WrongKind)
  -- real x; analog x = $param_given(a);
  pub given_of_node : answered (text (plain (items.Variables (declares 93 written.Real (stored (n 94 (codes "x")) None ∷ []))) ∷ plain (items.Analog 96 (Assign 97 (codes "x") (Call 99 callee.System (codes "$param_given") (arg.Expr (Name 101 (codes "a")) ∷ [])))) ∷ [])) ≡ Some (101, WrongKind)
  -- analog function f; input x; f = x; endfunction analog I(a) <+ $limit(V(a), f);
  pub limit_of_function : answered (text (plain (items.Function 93 None (n 95 (codes "f")) (function.Input 97 (n 98 (codes "x") ∷ []) ∷ []) (Assign 100 (codes "f") (Name 102 (codes "x")))) ∷ plain (items.Analog 105 (Contribute 106 (codes "I") (n 108 (codes "a")) None (Call 111 callee.System (codes "$limit") (arg.Expr (Call 113 callee.Function (codes "V") (arg.Expr (Name 115 (codes "a")) ∷ [])) ∷ arg.Expr (Name 118 (codes "f")) ∷ [])))) ∷ [])) ≡ Some (118, WrongKind)
  -- nature N access = "A"; endnature
  pub access_is_no_name : answered (declarations (nature 76 (codes "N") None (nature_item 77 (codes "access") (arg.Text (n 79 (codes "A"))) ∷ []) ∷ []) ([])) ≡ Some (77, WrongKind)
  -- nature N units = A; endnature
  pub units_are_no_string : answered (declarations (nature 76 (codes "N") None (nature_item 77 (codes "units") (arg.Expr (Name 79 (codes "A"))) ∷ []) ∷ []) ([])) ≡ Some (77, WrongKind)
  -- aliasparam p = a;
  pub alias_of_node : answered (text (plain (items.Alias 93 (n 94 (codes "p")) (n 96 (codes "a"))) ∷ [])) ≡ Some (96, WrongKind)
