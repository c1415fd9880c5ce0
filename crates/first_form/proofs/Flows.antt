-- Expressions of the form: what they say of their parts, and their code.
use Rattle.std.proofs.Common.{◌≡◌, ◌-◌, ◌<◌, ℕ, List, [], ◌∷◌, ◌++◌, refl, ap, sym, ◌∙◌, subst, arith, append_assoc}
use Rattle.std.specs.Prelude.{Bool, true, false, ◌&&◌}
use Rattle.std.proofs.lemmas.Bool.{false≢true}
use Rattle.c_tree.specs.declared.short.Atom.{Atom}
use Rattle.c_tree.specs.declared.short.Operator.{Operator}
use Rattle.c_tree.specs.declared.short.Right.TheVariants.{Binary}
use Rattle.c_tree.specs.declared.short.Statement.TheVariants.{Declare}
use Rattle.va_tree.specs.declared.expr.Expr.{Expr, Literal, Inf, Name, Group', Unary', Binary', Choose', Call', end_of-Expr, more_of-Expr}
use Rattle.va_tree.specs.declared.expr.UnaryOp.{UnaryOp}
use Rattle.va_tree.specs.declared.expr.BinaryOp.{BinaryOp}
use Rattle.va_tree.specs.declared.expr.Callee.{Callee}
use Rattle.va_tree.specs.declared.expr.Arg.{Arg}
use Rattle.va_tree.specs.declared.expr.Arg.TheVariants as arg
use Rattle.va_tree.specs.Expressions.{Expression, group, unary, binary, choose, call, Arguments, expression_of, arguments_of}
use Rattle.first_form.specs.declared.code.Writer.{Writer}
use Rattle.first_form.specs.declared.sums.Scope.{Scope}
use Rattle.first_form.specs.Form.{is_arithmetic, is_name, are_port_names, is_potential, IsSum, open_in}
use Rattle.first_form.specs.Code.{Code, joined, operator_of, potential_code, sum_code}
use Rattle.first_form.specs.Reading.{HasDeclared, HasWritten, is_name_of, is_name_argument, are_port_arguments, IsSumIn, ReadsSum}

-- a name of the program is a name
name-same : (wanted : List ℕ) (e : Expr) → is_name_of wanted e ≡ is_name wanted (expression_of e)
name-same wanted (Literal at value integer) = refl
name-same wanted (Inf at) = refl
name-same wanted (Name at bytes) = refl
name-same wanted (Group' at s (more_of-Expr inner end_of-Expr)) = refl
name-same wanted (Unary' at op s (more_of-Expr operand end_of-Expr)) = refl
name-same wanted (Binary' at s (more_of-Expr left end_of-Expr) op t (more_of-Expr right end_of-Expr)) = refl
name-same wanted (Choose' at s (more_of-Expr test end_of-Expr) t (more_of-Expr a end_of-Expr) u (more_of-Expr b end_of-Expr)) = refl
name-same wanted (Call' at callee bytes s args) = refl

and-false : (b : Bool) → (b && false) ≡ false
and-false true = refl
and-false false = refl

pub port_arguments : (first second : List ℕ) (args : List Arg) → are_port_arguments first second args ≡ are_port_names first second (arguments_of args)
port_arguments first second [] = refl
port_arguments first second (arg.Text a ∷ []) = refl
port_arguments first second (arg.Expr a ∷ []) = refl
port_arguments first second (arg.Text a ∷ arg.Text c ∷ []) = refl
port_arguments first second (arg.Text a ∷ arg.Expr c ∷ []) = refl
port_arguments first second (arg.Expr a ∷ arg.Text c ∷ []) = and-false (is_name_of first a)
port_arguments first second (arg.Expr a ∷ arg.Expr c ∷ []) = λ j. name-same first a j && name-same second c j
port_arguments first second (arg.Text a ∷ arg.Text c ∷ arg.Text d ∷ rest) = refl
port_arguments first second (arg.Text a ∷ arg.Text c ∷ arg.Expr d ∷ rest) = refl
port_arguments first second (arg.Text a ∷ arg.Expr c ∷ arg.Text d ∷ rest) = refl
port_arguments first second (arg.Text a ∷ arg.Expr c ∷ arg.Expr d ∷ rest) = refl
port_arguments first second (arg.Expr a ∷ arg.Text c ∷ arg.Text d ∷ rest) = refl
port_arguments first second (arg.Expr a ∷ arg.Text c ∷ arg.Expr d ∷ rest) = refl
port_arguments first second (arg.Expr a ∷ arg.Expr c ∷ arg.Text d ∷ rest) = refl
port_arguments first second (arg.Expr a ∷ arg.Expr c ∷ arg.Expr d ∷ rest) = refl

-- one code after another, and the declaration that joins their values
written-joined : (old mid next new : Writer) (left right : Code) (value other atom : Atom) (operator : Operator)
    → HasWritten old left mid value → HasWritten mid right next other
    → HasDeclared next (Binary value operator other) new atom → HasWritten old (joined left operator right) new atom
written-joined old mid next new left right value other atom operator a b d =
    let one = append_assoc old.statements.items left.statements right.statements in
    let two = append_assoc old.statements.items (left.statements ++ right.statements)
    (Declare right.next (Binary left.atom operator right.atom) ∷ []) in
    record { statements = cc; next = cc; value = cc }

-- the same, where the second code begins with the next local of the first
written-next : (old mid next new : Writer) (left : Code) (right : ℕ → Code) (value other atom : Atom) (operator : Operator)
    → HasWritten old left mid value → HasWritten mid (right mid.next) next other
    → HasDeclared next (Binary value operator other) new atom → HasWritten old (joined left operator (right left.next)) new atom
written-next old mid next new left right value other atom operator a b d =
    let P : ℕ → Type 0 = λ n. HasWritten mid (right n) next other in
    written-joined old mid next new left (right left.next) value other atom operator a (subst P a.next b) d

module _ (scope : Scope) (depth : ℕ) (e : Expression) where
  abbrev In : Expression → Type 0
  In = IsSumIn scope depth

  -- parentheses
  pub group-deep : (at : ℕ) (inner : Expression) → e ≡ group at inner → depth ≡ 0 → IsSumIn scope depth e → ⊥
  group-deep at inner h z s = let t : In (group at inner) = subst In h s in let k = t.shallow in omega arith

  pub group-unread : (at : ℕ) (inner : Expression) → e ≡ group at inner → (IsSumIn scope (depth - 1) inner → ⊥)
      → IsSumIn scope depth e → ⊥
  group-unread at inner h none s =
      let t : In (group at inner) = subst In h s in
      let k = t.shallow in none (record { sum = t.sum; shallow = omega arith })

  pub group-read : (at : ℕ) (inner : Expression) (old new : Writer) (value : Atom) → e ≡ group at inner → (depth ≡ 0 → ⊥)
      → ReadsSum scope (depth - 1) inner old value new → ReadsSum scope depth e old value new
  group-read at inner old new value h some r =
      let P : Expression → Type 0 = λ x. ReadsSum scope depth x old value new in
      subst P (sym h) (record {
        is = record { sum = r.is.sum; shallow = let k = r.is.shallow in let z : (depth ≡ 0 → ⊥) = some in grind arith };
        written = r.written;
      })

  -- an operator and its operands
  pub operator-unread : (at : ℕ) (left right : Expression) (op : BinaryOp) → e ≡ binary at left op right → is_arithmetic op ≡ false
      → IsSumIn scope depth e → ⊥
  operator-unread at left right op h f s = let t : In (binary at left op right) = subst In h s in false≢true (sym f ∙ t.sum.0)

  pub left-unread : (at : ℕ) (left right : Expression) (op : BinaryOp) → e ≡ binary at left op right → (IsSumIn scope depth left → ⊥)
      → IsSumIn scope depth e → ⊥
  left-unread at left right op h none s =
      let t : In (binary at left op right) = subst In h s in
      let k = t.shallow in none (record { sum = t.sum.1; shallow = omega arith })

  pub right-unread : (at : ℕ) (left right : Expression) (op : BinaryOp) → e ≡ binary at left op right → (IsSumIn scope depth right → ⊥)
      → IsSumIn scope depth e → ⊥
  right-unread at left right op h none s =
      let t : In (binary at left op right) = subst In h s in
      let k = t.shallow in none (record { sum = t.sum.2; shallow = omega arith })

  pub binary-read : (at : ℕ) (left right : Expression) (op : BinaryOp) (old mid next new : Writer) (value other atom : Atom) (operator : Operator)
      → e ≡ binary at left op right → is_arithmetic op ≡ true → operator ≡ operator_of op
      → ReadsSum scope depth left old value mid → ReadsSum scope depth right mid other next
      → HasDeclared next (Binary value operator other) new atom → ReadsSum scope depth e old atom new
  binary-read at left right op old mid next new value other atom operator h t same a b d =
      let P : Expression → Type 0 = λ x. ReadsSum scope depth x old atom new in
      let Q : Operator → Type 0 = λ o. HasDeclared next (Binary value o other) new atom in
      subst P (sym h) (record {
        is = record {
          sum = (t, a.is.sum, b.is.sum);
          shallow = let k = a.is.shallow in let l = b.is.shallow in omega arith;
        };
        written = written-next old mid next new (sum_code scope.names left old.next) (sum_code scope.names right) value other atom (operator_of op)
            a.written b.written (subst Q same d);
      })

  -- a call
  pub call-unread : (at : ℕ) (callee : Callee) (access : List ℕ) (args : Arguments) (test : Bool) → e ≡ call at callee access args
      → test ≡ is_potential scope.first.now scope.second.now callee access args → test ≡ false → IsSumIn scope depth e → ⊥
  call-unread at callee access args test h same f s =
      let t : In (call at callee access args) = subst In h s in false≢true (sym f ∙ same ∙ t.sum)

  pub call-read : (at : ℕ) (callee : Callee) (access : List ℕ) (args : Arguments) (test : Bool) (old new : Writer) (value : Atom)
      → e ≡ call at callee access args → test ≡ is_potential scope.first.now scope.second.now callee access args → test ≡ true
      → HasWritten old (potential_code old.next) new value → ReadsSum scope depth e old value new
  call-read at callee access args test old new value h same t w =
      let P : Expression → Type 0 = λ x. ReadsSum scope depth x old value new in
      subst P (sym h) (record { is = record { sum = sym same ∙ t; shallow = omega arith }; written = w })

  -- what does not stand in the form
  pub sign-unread : (at : ℕ) (op : UnaryOp) (operand : Expression) → e ≡ unary at op operand → IsSumIn scope depth e → ⊥
  sign-unread at op operand h s = let t : In (unary at op operand) = subst In h s in t.sum

  pub choice-unread : (at : ℕ) (test a b : Expression) → e ≡ choose at test a b → IsSumIn scope depth e → ⊥
  choice-unread at test a b h s = let t : In (choose at test a b) = subst In h s in t.sum
