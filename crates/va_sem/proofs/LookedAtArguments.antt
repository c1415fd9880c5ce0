-- Arguments that are looked at by their places.
use Rattle.std.specs.Prelude.{◌≡◌, ℕ, ◌+◌, ◌==◌, ◌<◌, Option, true, false, List, [], ◌∷◌, ◌++◌, length}
use Rattle.std.proofs.Common.{refl, sym, ◌∙◌, ap, arith}
use Rattle.std.proofs.lemmas.Bool.Decides.{nat_tests}
use Rattle.va_tree.specs.declared.expr.Arg.{Arg}
use Rattle.va_tree.specs.declared.expr.Arg.TheVariants as arg
use Rattle.va_tree.specs.Expressions.{Expression, Arguments, expression_of, arguments_of}
use Rattle.va_tree.specs.declared.expr.Callee.{Callee}
use Rattle.va_tree.specs.declared.expr.Callee.TheVariants.{System}
use Rattle.va_sem.specs.declared.builtin.SystemName.{SystemName}
use Rattle.va_sem.specs.Builtins.{system_name_of}
use Rattle.va_sem.specs.LookedAt.{looked_at, looked_at_in_arguments, looks, call_looks}
use Rattle.va_sem.specs.rules.Findings.{looked_at_first}

-- where all are
pub all_looked_at : (args : List Arg) (place : ℕ) → looked_at_in_arguments (λ p. true) place (arguments_of args) ≡ looked_at_first (length args) args
all_looked_at [] place = refl
all_looked_at (arg.Text text ∷ rest) place = all_looked_at rest (place + 1)
all_looked_at (arg.Expr e ∷ rest) place = ap (λ list. looked_at (expression_of e) ++ list) (all_looked_at rest (place + 1))

-- where none are
pub none_looked_at : (args : List Arg) (place : ℕ) → looked_at_in_arguments (λ p. false) place (arguments_of args) ≡ looked_at_first 0 args
none_looked_at [] place = refl
none_looked_at (arg.Text text ∷ rest) place = none_looked_at rest (place + 1)
none_looked_at (arg.Expr e ∷ rest) place = none_looked_at rest (place + 1)

-- those after the first, where the first alone is
after_first : (args : List Arg) (place : ℕ) → 0 < place → looked_at_in_arguments (λ p. p == 0) place (arguments_of args) ≡ looked_at_first 0 args
after_first [] place h = refl
after_first (arg.Text text ∷ rest) place h = after_first rest (place + 1) (omega (arith, h))
after_first (arg.Expr e ∷ rest) place h = (let z : (place == 0) ≡ false = grind (arith, nat_tests) in rw z (after_first rest (place + 1) (omega (arith, h))))

-- of a list of arguments the first
pub first_looked_at : (args : List Arg) → looked_at_in_arguments (λ p. p == 0) 0 (arguments_of args) ≡ looked_at_first 1 args
first_looked_at [] = refl
first_looked_at (arg.Text text ∷ rest) = after_first rest 1 (omega arith)
first_looked_at (arg.Expr e ∷ rest) = ap (λ list. looked_at (expression_of e) ++ list) (after_first rest 1 (omega arith))

pub system_looked_at : (callee : Callee) (name bytes : List ℕ) (r : Option SystemName) (args : Arguments) (list : List Expression) → callee ≡ System → bytes ≡ name → r ≡ system_name_of bytes
    → looked_at_in_arguments (looks r) 0 args ≡ list → looked_at_in_arguments (call_looks callee name) 0 args ≡ list
system_looked_at callee name bytes r args list h p q e =
    rw h (ap (λ n. looked_at_in_arguments (looks (system_name_of n)) 0 args) (sym p) ∙ ap (λ m. looked_at_in_arguments (looks m) 0 args) (sym q) ∙ e)
