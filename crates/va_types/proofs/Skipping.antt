-- Expressions that aren't looked at, variant by variant.
use Rattle.std.specs.Prelude.{◌≡◌, ℕ, suc, ◌+◌, ◌<◌, ◌≤◌, List, [], ◌∷◌, ◌++◌, drop, length, get_or}
use Rattle.std.proofs.Common.{refl, sym, ap, subst, ◌∙◌, arith}
use Rattle.std.proofs.Math.ListN.{drop_of_length-le}
use Rattle.std.proofs.Math.Seq.{drop-cons}
use Rattle.alg_laws.specs.declared.number.Ty.{Ty}
use Rattle.alg_laws.specs.declared.number.Ty.TheVariants.{Real}
use Rattle.va_tree.specs.declared.expr.Arg.{Arg}
use Rattle.va_tree.specs.declared.expr.Arg.TheVariants as arg
use Rattle.va_tree.specs.declared.expr.BinaryOp.{BinaryOp}
use Rattle.va_tree.specs.declared.expr.UnaryOp.{UnaryOp}
use Rattle.va_tree.specs.declared.expr.Callee.{Callee}
use Rattle.va_tree.specs.declared.expr.Expr.{Expr}
use Rattle.va_tree.specs.declared.expr.Expr.TheVariants.{Group, Unary, Binary, Choose, Call}
use Rattle.va_tree.specs.Expressions.{Expression, expression_of, arguments_of}
use Rattle.va_tree.specs.ExpressionLaws.{at_group, at_unary, at_binary, at_choose, at_call}
use Rattle.va_tree.specs.Preorder.{expressions_in, expressions_in_arguments}
use Rattle.va_sem.specs.Typing.{all_real}
use Rattle.va_types.specs.declared.found.Found.{Found}
use Rattle.va_types.specs.Found.{Finds, in_argument}
use Rattle.va_types.proofs.Finding.{finds_then, Remains, remains_next, remains_end}

real_append : (xs ys : List Expression) → all_real (xs ++ ys) ≡ all_real xs ++ all_real ys
real_append [] ys = refl
real_append (x ∷ xs) ys = ap (λ l. Real ∷ l) (real_append xs ys)

abbrev pub Skips : List Expression → Found → Found → Type 0
Skips es x y = Finds (all_real es) [] x y

pub skips_then : (xs ys : List Expression) (x y z : Found) → Skips xs x y → Skips ys y z → Skips (xs ++ ys) x z
skips_then xs ys x y z p q =
    subst (λ l. Finds l [] x z) (sym (real_append xs ys)) (finds_then (all_real xs) (all_real ys) [] [] x y z p q)

-- an expression before those in it
headed : (es : List Expression) (x y z : Found) → Finds (Real ∷ []) [] x y → Skips es y z → Finds (Real ∷ all_real es) [] x z
headed es x y z p q = finds_then (Real ∷ []) (all_real es) [] [] x y z p q

pub skip_group : (e : Expr) (at : ℕ) (inner inner' : Expr) (x y z : Found) → e ≡ Group at inner → inner ≡ inner' → Finds (Real ∷ []) [] x y → Skips (expressions_in (expression_of inner')) y z
    → Skips (expressions_in (expression_of e)) x z
skip_group e at inner inner' x y z h p a b = rw (at_group e at inner inner' h p) (headed (expressions_in (expression_of inner')) x y z a b)

pub skip_unary : (e : Expr) (at : ℕ) (op : UnaryOp) (operand operand' : Expr) (x y z : Found) → e ≡ Unary at op operand → operand ≡ operand' → Finds (Real ∷ []) [] x y
    → Skips (expressions_in (expression_of operand')) y z → Skips (expressions_in (expression_of e)) x z
skip_unary e at op operand operand' x y z h p a b = rw (at_unary e at op operand operand' h p) (headed (expressions_in (expression_of operand')) x y z a b)

pub skip_binary : (e : Expr) (at : ℕ) (left : Expr) (op : BinaryOp) (right left' right' : Expr) (x y z w : Found) → e ≡ Binary at left op right → left ≡ left' → right ≡ right'
    → Finds (Real ∷ []) [] x y → Skips (expressions_in (expression_of left')) y z → Skips (expressions_in (expression_of right')) z w → Skips (expressions_in (expression_of e)) x w
skip_binary e at left op right left' right' x y z w h p q a b c =
    rw (at_binary e at left op right left' right' h p q)
    (headed (expressions_in (expression_of left') ++ expressions_in (expression_of right')) x y w a
    (skips_then (expressions_in (expression_of left')) (expressions_in (expression_of right')) y z w b c))

pub skip_choose : (e : Expr) (at : ℕ) (test a b test' a' b' : Expr) (x y z w v : Found) → e ≡ Choose at test a b → test ≡ test' → a ≡ a' → b ≡ b'
    → Finds (Real ∷ []) [] x y → Skips (expressions_in (expression_of test')) y z → Skips (expressions_in (expression_of a')) z w → Skips (expressions_in (expression_of b')) w v
    → Skips (expressions_in (expression_of e)) x v
skip_choose e at test a b test' a' b' x y z w v h p q r k l m n =
    rw (at_choose e at test a b test' a' b' h p q r)
    (headed (expressions_in (expression_of test') ++ expressions_in (expression_of a') ++ expressions_in (expression_of b')) x y v k
    (skips_then (expressions_in (expression_of test') ++ expressions_in (expression_of a')) (expressions_in (expression_of b')) y w v
    (skips_then (expressions_in (expression_of test')) (expressions_in (expression_of a')) y z w l m) n))

pub skip_call : (e : Expr) (at : ℕ) (callee : Callee) (bytes : List ℕ) (args args' : List Arg) (x y z : Found) → e ≡ Call at callee bytes args → args ≡ args'
    → Finds (Real ∷ []) [] x y → Skips (expressions_in_arguments (arguments_of args')) y z → Skips (expressions_in (expression_of e)) x z
skip_call e at callee bytes args args' x y z h p a b = rw (at_call e at callee bytes args args' h p) (headed (expressions_in_arguments (arguments_of args')) x y z a b)

-- arguments one after another
abbrev pub SkipsOn : List Arg → Found → ℕ → Found → Type 0
SkipsOn args start i x =
    Remains (all_real (expressions_in_arguments (arguments_of (drop i args)))) (all_real (expressions_in_arguments (arguments_of args))) [] [] start x

pub skips_start : (args : List Arg) (x : Found) → SkipsOn args x 0 x
skips_start args x = record { types_are = refl; least_is = refl }

real_split : (a : Arg) (rest : List Arg) → all_real (expressions_in_arguments (arguments_of (a ∷ rest))) ≡ all_real (in_argument a) ++ all_real (expressions_in_arguments (arguments_of rest))
real_split (arg.Text text) rest = refl
real_split (arg.Expr e) rest = real_append (expressions_in (expression_of e)) (expressions_in_arguments (arguments_of rest))

pub skips_next : (args : List Arg) (start x y : Found) (i : ℕ) (a : Arg) → i < length args → a ≡ get_or args i a → Finds (all_real (in_argument a)) [] x y → SkipsOn args start i x → SkipsOn args start (i + 1) y
skips_next args start x y i a lt is p on =
    let here : drop i args ≡ a ∷ drop (suc i) args = drop-cons args i a lt ∙ ap (λ (z : Arg). z ∷ drop (suc i) args) (sym is) in
    let one : suc i ≡ i + 1 = omega arith in
    let rest : List Ty = all_real (expressions_in_arguments (arguments_of (drop (suc i) args))) in
    let whole : List Ty = all_real (expressions_in_arguments (arguments_of args)) in
    let split : all_real (expressions_in_arguments (arguments_of (drop i args))) ≡ all_real (in_argument a) ++ rest =
    ap (λ (l : List Arg). all_real (expressions_in_arguments (arguments_of l))) here ∙ real_split a (drop (suc i) args) in
    subst (λ (n : ℕ). SkipsOn args start n y) one
    (remains_next (all_real (in_argument a)) rest whole [] [] [] start x y (subst (λ (l : List Ty). Remains l whole [] [] start x) split on) p)

pub skips_end : (args : List Arg) (start x : Found) (i : ℕ) → length args ≤ i → SkipsOn args start i x → Skips (expressions_in_arguments (arguments_of args)) start x
skips_end args start x i h on =
    let whole : List Ty = all_real (expressions_in_arguments (arguments_of args)) in
    remains_end whole [] start x (subst (λ (l : List Arg). Remains (all_real (expressions_in_arguments (arguments_of l))) whole [] [] start x) (drop_of_length-le args h) on)
