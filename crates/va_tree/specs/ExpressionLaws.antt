-- What an expression of the program is, variant by variant. The lemmas `at_..` take what a `match` and the calls of `get` say.
use Rattle.std.specs.Prelude.{◌≡◌, ℕ, List}
use Rattle.std.proofs.Common.{refl, ap, ◌∙◌}
use denote.Hole.Carrier as C
use Rattle.va_tree.specs.declared.expr.UnaryOp.{UnaryOp}
use Rattle.va_tree.specs.declared.expr.BinaryOp.{BinaryOp}
use Rattle.va_tree.specs.declared.expr.Callee.{Callee}
use Rattle.va_tree.specs.declared.expr.Arg.{Arg}
use Rattle.va_tree.specs.declared.expr.Arg.TheVariants as arg
use Rattle.va_tree.specs.declared.expr.Expr.{Expr, Row_of-Arg, end_of-Arg, more_of-Arg, items-the_row-Arg, items_hidden-the_row-Arg-1}
use Rattle.va_tree.specs.declared.expr.Expr.TheVariants.{Group, Unary, Binary, Choose, Call}
use Rattle.va_tree.specs.declared.expr.Arg.TheBlock.{hidden-the_row-Expr-0, shape-the_row-Expr-0, hidden-the_row-Arg-1}
use Rattle.va_tree.specs.Expressions.{group, unary, binary, choose, call, text_then, expression_then, expression_of, arguments_in, arguments_of}

arguments_listed : {n : _} (k : Row_of-Arg n) → arguments_in k ≡ arguments_of (items-the_row-Arg _ k)
arguments_listed end_of-Arg = refl
arguments_listed (more_of-Arg (arg.Text text) k) = ap (text_then text) (arguments_listed k)
arguments_listed (more_of-Arg (arg.Expr e) k) = ap (expression_then (expression_of e)) (arguments_listed k)

pub expression-Group : (at : ℕ) (inner : Expr) → expression_of (Group at inner) ≡ group at (expression_of inner)
unfolding hidden-the_row-Expr-0 shape-the_row-Expr-0 C.hidden
expression-Group at inner = refl

pub expression-Unary : (at : ℕ) (op : UnaryOp) (operand : Expr) → expression_of (Unary at op operand) ≡ unary at op (expression_of operand)
unfolding hidden-the_row-Expr-0 shape-the_row-Expr-0 C.hidden
expression-Unary at op operand = refl

pub expression-Binary : (at : ℕ) (left : Expr) (op : BinaryOp) (right : Expr) → expression_of (Binary at left op right) ≡ binary at (expression_of left) op (expression_of right)
unfolding hidden-the_row-Expr-0 shape-the_row-Expr-0 C.hidden
expression-Binary at left op right = refl

pub expression-Choose : (at : ℕ) (test a b : Expr) → expression_of (Choose at test a b) ≡ choose at (expression_of test) (expression_of a) (expression_of b)
unfolding hidden-the_row-Expr-0 shape-the_row-Expr-0 C.hidden
expression-Choose at test a b = refl

pub expression-Call : (at : ℕ) (callee : Callee) (bytes : List ℕ) (args : List Arg) → expression_of (Call at callee bytes args) ≡ call at callee bytes (arguments_of args)
expression-Call at callee bytes args = ap (call at callee bytes) (arguments_listed (hidden-the_row-Arg-1 args) ∙ ap arguments_of (items_hidden-the_row-Arg-1 args))

pub at_group : (e : Expr) (at : ℕ) (inner inner' : Expr) → e ≡ Group at inner → inner ≡ inner' → expression_of e ≡ group at (expression_of inner')
at_group e at inner inner' h p = ap expression_of h ∙ expression-Group at inner ∙ (λ j. group at (expression_of (p j)))

pub at_unary : (e : Expr) (at : ℕ) (op : UnaryOp) (operand operand' : Expr) → e ≡ Unary at op operand → operand ≡ operand' → expression_of e ≡ unary at op (expression_of operand')
at_unary e at op operand operand' h p = ap expression_of h ∙ expression-Unary at op operand ∙ (λ j. unary at op (expression_of (p j)))

pub at_binary : (e : Expr) (at : ℕ) (left : Expr) (op : BinaryOp) (right left' right' : Expr) → e ≡ Binary at left op right → left ≡ left' → right ≡ right' → expression_of e ≡ binary at (expression_of left') op (expression_of right')
at_binary e at left op right left' right' h p q = ap expression_of h ∙ expression-Binary at left op right ∙ (λ j. binary at (expression_of (p j)) op (expression_of (q j)))

pub at_choose : (e : Expr) (at : ℕ) (test a b test' a' b' : Expr) → e ≡ Choose at test a b → test ≡ test' → a ≡ a' → b ≡ b' → expression_of e ≡ choose at (expression_of test') (expression_of a') (expression_of b')
at_choose e at test a b test' a' b' h p q r = ap expression_of h ∙ expression-Choose at test a b ∙ (λ j. choose at (expression_of (p j)) (expression_of (q j)) (expression_of (r j)))

pub at_call : (e : Expr) (at : ℕ) (callee : Callee) (bytes : List ℕ) (args args' : List Arg) → e ≡ Call at callee bytes args → args ≡ args' → expression_of e ≡ call at callee bytes (arguments_of args')
at_call e at callee bytes args args' h p = ap expression_of h ∙ expression-Call at callee bytes args ∙ (λ j. call at callee bytes (arguments_of (p j)))
