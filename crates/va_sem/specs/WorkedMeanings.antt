-- Rows on meanings and types that were worked out by hand. Above each row stands the text of the items, the first of which begins
-- at token 93.
use Rattle.std.specs.Prelude.{◌≡◌, ℕ, negsuc, true, false, List, [], ◌∷◌, Option, Some, None, codes, get_or, filter, map, nat_le}
use Rattle.va_tree.specs.declared.expr.BinaryOp.TheVariants.{Add, Multiply}
use Rattle.va_tree.specs.declared.expr.Callee.TheVariants as callee
use Rattle.va_tree.specs.declared.expr.Arg.TheVariants as arg
use Rattle.va_tree.specs.declared.expr.Expr.TheVariants.{Name, Binary, Choose, Call}
use Rattle.va_tree.specs.declared.stmt.Stmt.TheVariants.{Block, Case, Assign, Contribute, Task}
use Rattle.va_tree.specs.declared.source.Quantity.TheVariants.{Potential, Flow}
use Rattle.va_tree.specs.declared.source.DisciplineItem.TheVariants.{Binding}
use Rattle.va_tree.specs.declared.module.Ty.TheVariants as written
use Rattle.va_tree.specs.declared.module.FunctionItem.TheVariants as function
use Rattle.va_tree.specs.declared.module.ItemBody.TheVariants as items
use Rattle.alg_laws.specs.declared.number.Ty.{Ty}
use Rattle.alg_laws.specs.declared.number.Ty.TheVariants.{Integer, Real}
use Rattle.va_tree.specs.declared.source.Source.{Source}
use Rattle.va_sem.specs.declared.names.ModuleNames.{ModuleNames}
use Rattle.va_sem.specs.declared.names.BranchName.{BranchName}
use Rattle.va_sem.specs.declared.names.NameUse.{NameUse}
use Rattle.va_sem.specs.declared.names.Meaning.{Meaning}
use Rattle.va_sem.specs.declared.names.Meaning.TheVariants as means
use Rattle.va_sem.specs.Lookup.{Bytes}
use Rattle.va_sem.specs.Meanings.{names_of}
use Rattle.va_sem.specs.Typing.{types_of}
use Rattle.va_sem.specs.SmallTrees.{n, whole, decimal, stored, declares, item, by_default, parameter, attribute, group, plain, with_attributes, module_at, discipline, text, declarations, all_of}

-- of the first module of a text: its branches, its nodes, its variables, and what its names mean from a token on
abbrev pub first_module : Source → ModuleNames
first_module s = get_or (names_of s).modules 0 (record { nodes = []; ports = 0; branches = []; params = []; vars = []; functions = []; uses = [] })

abbrev pub pairs : List NameUse → List (ℕ × Meaning)
pairs = map (λ (u : NameUse). (u.at, u.meaning))

abbrev pub uses_from : ℕ → Source → List (ℕ × Meaning)
uses_from first s = pairs (filter (λ (u : NameUse). nat_le first u.at) (first_module s).uses)

abbrev pub branch : ℕ → Option ℕ → Option Bytes → BranchName
branch plus minus name = record { plus = plus; minus = minus; name = name }

-- the types of a text's expressions, after those of the natures
abbrev pub types : Source → List Ty
types s = (types_of s (names_of s)).exprs

-- what names mean
pub record WorkedMeanings : Type 0 where
  -- branch (a, c) b; analog begin I(c) <+ V(c, a); V(a, c) <+ V(b); end
  pub branches : (first_module (text (plain (items.Branch 93 (n 95 (codes "a")) (Some (n 97 (codes "c"))) (n 99 (codes "b") ∷ [])) ∷ plain (items.Analog 101 (Block 102 None [] ((Contribute 103 (codes "I") (n 105 (codes "c")) None (Call 108 callee.Function (codes "V") (arg.Expr (Name 110 (codes "c")) ∷ arg.Expr (Name 112 (codes "a")) ∷ []))) ∷ (Contribute 115 (codes "V") (n 117 (codes "a")) (Some (n 119 (codes "c"))) (Call 122 callee.Function (codes "V") (arg.Expr (Name 124 (codes "b")) ∷ []))) ∷ []))) ∷ []))).branches ≡ branch 0 (Some 1) (Some (codes "b")) ∷ branch 1 None None ∷ branch 1 (Some 0) None ∷ []
  pub accesses : uses_from 0 (text (plain (items.Branch 93 (n 95 (codes "a")) (Some (n 97 (codes "c"))) (n 99 (codes "b") ∷ [])) ∷ plain (items.Analog 101 (Block 102 None [] ((Contribute 103 (codes "I") (n 105 (codes "c")) None (Call 108 callee.Function (codes "V") (arg.Expr (Name 110 (codes "c")) ∷ arg.Expr (Name 112 (codes "a")) ∷ []))) ∷ (Contribute 115 (codes "V") (n 117 (codes "a")) (Some (n 119 (codes "c"))) (Call 122 callee.Function (codes "V") (arg.Expr (Name 124 (codes "b")) ∷ []))) ∷ []))) ∷ [])) ≡ (76, means.Module 0) ∷ (78, means.Node 0) ∷ (80, means.Node 1) ∷ (84, means.Node 0) ∷ (86, means.Node 1) ∷ (88, means.Discipline 0) ∷ (89, means.Node 0) ∷ (91, means.Node 1) ∷ (95, means.Node 0) ∷ (97, means.Node 1) ∷ (99, means.Branch 0) ∷ (103, means.Access 1 false true) ∷ (105, means.Node 1) ∷ (108, means.Access 2 false false) ∷ (110, means.Node 1) ∷ (112, means.Node 0) ∷ (115, means.Access 2 true false) ∷ (117, means.Node 0) ∷ (119, means.Node 1) ∷ (122, means.Access 0 false false) ∷ (124, means.Branch 0) ∷ []
  -- a first use counts also where it is not looked at
  -- analog begin $strobe(V(c, a)); I(a, c) <+ 1; end
  pub direction : (first_module (text (plain (items.Analog 93 (Block 94 None [] ((Task 95 (codes "$strobe") (arg.Expr (Call 97 callee.Function (codes "V") (arg.Expr (Name 99 (codes "c")) ∷ arg.Expr (Name 101 (codes "a")) ∷ [])) ∷ [])) ∷ (Contribute 105 (codes "I") (n 107 (codes "a")) (Some (n 109 (codes "c"))) (whole 112 1)) ∷ []))) ∷ []))).branches ≡ branch 1 (Some 0) None ∷ []
  pub turned : uses_from 96 (text (plain (items.Analog 93 (Block 94 None [] ((Task 95 (codes "$strobe") (arg.Expr (Call 97 callee.Function (codes "V") (arg.Expr (Name 99 (codes "c")) ∷ arg.Expr (Name 101 (codes "a")) ∷ [])) ∷ [])) ∷ (Contribute 105 (codes "I") (n 107 (codes "a")) (Some (n 109 (codes "c"))) (whole 112 1)) ∷ []))) ∷ [])) ≡ (97, means.Access 0 false false) ∷ (99, means.Node 1) ∷ (101, means.Node 0) ∷ (105, means.Access 0 true true) ∷ (107, means.Node 0) ∷ (109, means.Node 1) ∷ []
  -- branches stand in the order of the text, and the tree has a default after the items
  -- analog begin case (1) default I(a) <+ 1; 1: I(c) <+ 2; endcase end
  pub text_order : (first_module (text (plain (items.Analog 93 (Block 94 None [] ((Case 95 (whole 97 1) (item 107 ((whole 107 1) ∷ []) (Contribute 109 (codes "I") (n 111 (codes "c")) None (whole 114 2)) ∷ []) (by_default 99 (Contribute 100 (codes "I") (n 102 (codes "a")) None (whole 105 1)) ∷ [])) ∷ []))) ∷ []))).branches ≡ branch 0 None None ∷ branch 1 None None ∷ []
  -- parameter p = 1; aliasparam r = p; real x; analog function integer f; input k; integer k; f = k * r; endfunction analog begin : b real p = r; x = f(p) + exp(r); end
  pub variables : (first_module (text (plain (items.Parameters 93 false None (parameter (n 94 (codes "p")) (whole 96 1) [] ∷ [])) ∷ plain (items.Alias 98 (n 99 (codes "r")) (n 101 (codes "p"))) ∷ plain (items.Variables (declares 103 written.Real (stored (n 104 (codes "x")) None ∷ []))) ∷ plain (items.Function 106 (Some written.Integer) (n 109 (codes "f")) (function.Input 111 (n 112 (codes "k") ∷ []) ∷ function.Variables 114 written.Integer (n 115 (codes "k") ∷ []) ∷ []) (Assign 117 (codes "f") (Binary 119 (Name 119 (codes "k")) Multiply (Name 121 (codes "r"))))) ∷ plain (items.Analog 124 (Block 125 (Some (n 127 (codes "b"))) ((declares 128 written.Real (stored (n 129 (codes "p")) (Some (Name 131 (codes "r"))) ∷ [])) ∷ []) ((Assign 133 (codes "x") (Binary 135 (Call 135 callee.Function (codes "f") (arg.Expr (Name 137 (codes "p")) ∷ [])) Add (Call 140 callee.Function (codes "exp") (arg.Expr (Name 142 (codes "r")) ∷ [])))) ∷ []))) ∷ []))).vars ≡ codes "x" ∷ codes "f" ∷ codes "k" ∷ codes "p" ∷ []
  pub scopes : uses_from 93 (text (plain (items.Parameters 93 false None (parameter (n 94 (codes "p")) (whole 96 1) [] ∷ [])) ∷ plain (items.Alias 98 (n 99 (codes "r")) (n 101 (codes "p"))) ∷ plain (items.Variables (declares 103 written.Real (stored (n 104 (codes "x")) None ∷ []))) ∷ plain (items.Function 106 (Some written.Integer) (n 109 (codes "f")) (function.Input 111 (n 112 (codes "k") ∷ []) ∷ function.Variables 114 written.Integer (n 115 (codes "k") ∷ []) ∷ []) (Assign 117 (codes "f") (Binary 119 (Name 119 (codes "k")) Multiply (Name 121 (codes "r"))))) ∷ plain (items.Analog 124 (Block 125 (Some (n 127 (codes "b"))) ((declares 128 written.Real (stored (n 129 (codes "p")) (Some (Name 131 (codes "r"))) ∷ [])) ∷ []) ((Assign 133 (codes "x") (Binary 135 (Call 135 callee.Function (codes "f") (arg.Expr (Name 137 (codes "p")) ∷ [])) Add (Call 140 callee.Function (codes "exp") (arg.Expr (Name 142 (codes "r")) ∷ [])))) ∷ []))) ∷ [])) ≡ (94, means.Param 0) ∷ (99, means.Param 0) ∷ (101, means.Param 0) ∷ (104, means.Var 0) ∷ (109, means.Function 0) ∷ (112, means.Var 2) ∷ (115, means.Var 2) ∷ (117, means.Var 1) ∷ (119, means.Var 2) ∷ (121, means.Param 0) ∷ (129, means.Var 3) ∷ (131, means.Param 0) ∷ (133, means.Var 0) ∷ (135, means.Function 0) ∷ (137, means.Var 3) ∷ (140, means.Builtin 1) ∷ (142, means.Param 0) ∷ []
  -- electrical n; real n2; electrical o;
  pub nodes : uses_from 93 (text (plain (items.Nodes 93 (codes "electrical") (n 94 (codes "n") ∷ [])) ∷ plain (items.Variables (declares 96 written.Real (stored (n 97 (codes "n2")) None ∷ []))) ∷ plain (items.Nodes 99 (codes "electrical") (n 100 (codes "o") ∷ [])) ∷ [])) ≡ (93, means.Discipline 0) ∷ (94, means.Node 2) ∷ (97, means.Var 0) ∷ (99, means.Discipline 0) ∷ (100, means.Node 3) ∷ []
  -- a discipline with one access for both natures has the potential by it
  -- discipline d potential Current; flow Current; enddiscipline module m(a); d a; analog I(a) <+ 1; endmodule
  pub potential_first : uses_from 94 (all_of ([]) (discipline 76 (codes "d") (Binding 77 Potential (n 78 (codes "Current")) ∷ Binding 80 Flow (n 81 (codes "Current")) ∷ []) ∷ []) (module_at [] 85 (codes "m") (n 87 (codes "a") ∷ []) (plain (items.Nodes 90 (codes "d") (n 91 (codes "a") ∷ [])) ∷ plain (items.Analog 93 (Contribute 94 (codes "I") (n 96 (codes "a")) None (whole 99 1))) ∷ []) ∷ [])) ≡ (94, means.Access 0 false false) ∷ (96, means.Node 0) ∷ []
  -- in natures and disciplines
  pub of_disciplines : pairs (names_of (declarations [] [])).uses ≡ (1, means.Nature 0) ∷ (13, means.Nature 1) ∷ (25, means.Nature 2) ∷ (37, means.Nature 3) ∷ (49, means.Discipline 0) ∷ (52, means.Nature 0) ∷ (55, means.Nature 1) ∷ (59, means.Discipline 1) ∷ (62, means.Nature 2) ∷ (65, means.Nature 3) ∷ (69, means.Discipline 2) ∷ (72, means.Nature 0) ∷ []

-- types of expressions in pre-order; the first four are the accesses of the natures
pub record WorkedTypeLists : Type 0 where
  -- parameter p = 1; integer k; analog k = p + $limit(V(a), 1);
  pub not_looked_at : types (text (plain (items.Parameters 93 false None (parameter (n 94 (codes "p")) (whole 96 1) [] ∷ [])) ∷ plain (items.Variables (declares 98 written.Integer (stored (n 99 (codes "k")) None ∷ []))) ∷ plain (items.Analog 101 (Assign 102 (codes "k") (Binary 104 (Name 104 (codes "p")) Add (Call 106 callee.System (codes "$limit") (arg.Expr (Call 108 callee.Function (codes "V") (arg.Expr (Name 110 (codes "a")) ∷ [])) ∷ arg.Expr (whole 113 1) ∷ []))))) ∷ [])) ≡ Real ∷ Real ∷ Real ∷ Real ∷ Integer ∷ Real ∷ Integer ∷ Real ∷ Real ∷ Real ∷ Real ∷ []
  -- (* desc = 1 *) real y = 2; analog begin $strobe(1); y = 1 ? 2 : 3.0; end
  pub attributes_and_tasks : types (text (with_attributes (group (attribute 94 (codes "desc") (Some (arg.Expr (whole 96 1))) ∷ []) ∷ []) (items.Variables (declares 98 written.Real (stored (n 99 (codes "y")) (Some (whole 101 2)) ∷ []))) ∷ plain (items.Analog 103 (Block 104 None [] ((Task 105 (codes "$strobe") (arg.Expr (whole 107 1) ∷ [])) ∷ (Assign 110 (codes "y") (Choose 112 (whole 112 1) (whole 114 2) (decimal 116 30 (negsuc 0)))) ∷ []))) ∷ [])) ≡ Real ∷ Real ∷ Real ∷ Real ∷ Real ∷ Integer ∷ Real ∷ Real ∷ Integer ∷ Integer ∷ Real ∷ []
