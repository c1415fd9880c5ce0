-- Which statements contribute on every path, variant by variant.
use Rattle.std.specs.Prelude.{◌≡◌, ℕ, ◌<◌, ◌≤◌, ◌&&◌, ◌||◌, Bool, true, false, List, [], ◌∷◌, Option, Some, None, drop, length}
use Rattle.std.proofs.Common.{refl, sym, ◌∙◌, ap, arith}
use Rattle.std.proofs.Math.ListN.{drop_of_length-le}
use Rattle.va_tree.specs.declared.stmt.CaseDefault.{CaseDefault}
use Rattle.va_tree.specs.declared.stmt.CaseItem.{CaseItem}
use Rattle.va_tree.specs.declared.stmt.Stmt.{Stmt}
use Rattle.va_tree.specs.Expressions.{Expression}
use Rattle.va_tree.specs.Statements.{Statement, if_of, cases, items_of, defaults_of}
use Rattle.va_sem.specs.declared.names.Meaning.{Meaning}
use Rattle.va_sem.specs.rules.BranchKinds.{always_contributes, each_item_contributes, each_default_contributes}
use Rattle.va_sem.specs.rules.Findings.{else_contributes, some_default, is_among}

and_false : (a : Bool) → a && false ≡ false
and_false true = refl
and_false false = refl

module _ (meaning : ℕ → Option Meaning) (branch : ℕ) where
  pub covers_if : (at : ℕ) (t : Expression) (a : Statement) (o : Option Stmt) → always_contributes meaning branch a && else_contributes meaning branch o ≡ always_contributes meaning branch (if_of at t a o)
  covers_if at t a None = and_false (always_contributes meaning branch a)
  covers_if at t a (Some b) = refl

  pub covers_case : (at : ℕ) (selector : Expression) (items : List CaseItem) (defaults : List CaseDefault)
      → some_default defaults && (each_item_contributes meaning branch (items_of items) && each_default_contributes meaning branch (defaults_of defaults)) ≡ always_contributes meaning branch (cases at selector (items_of items) (defaults_of defaults))
  covers_case at selector items [] = refl
  covers_case at selector items (d ∷ rest) = refl

pub some_if : (defaults : List CaseDefault) (i : ℕ) → i < length defaults → some_default defaults ≡ true
some_if [] i l = absurd (omega (arith, l))
some_if (d ∷ rest) i l = refl

and_true : (a : Bool) → (a && true) ≡ a
and_true true = refl
and_true false = refl

-- after all defaults
module _ (meaning : ℕ → Option Meaning) where
  none_left : (defaults : List CaseDefault) (common : List ℕ) → length defaults ≤ 0 → common ≡ [] → (b : ℕ) → is_among common b ≡ (some_default defaults && each_default_contributes meaning b (defaults_of defaults))
  none_left [] common h e b = ap (λ (xs : List ℕ). is_among xs b) e
  none_left (d ∷ rest) common h e b = absurd (omega (arith, h))

  pub arms_end : (first : Bool) (defaults : List CaseDefault) (i : ℕ) (common : List ℕ) → length defaults ≤ i
      → ((b : ℕ) → ((first || is_among common b) && each_default_contributes meaning b (defaults_of (drop i defaults))) ≡ each_default_contributes meaning b (defaults_of defaults))
      → (first ≡ true → (i ≡ 0) × (common ≡ [])) → (first ≡ false → some_default defaults ≡ true)
      → (b : ℕ) → is_among common b ≡ (some_default defaults && each_default_contributes meaning b (defaults_of defaults))
  arms_end true defaults i common h kept start later b = none_left defaults common (let p = start refl in omega (arith, h, p.0)) (start refl).1 b
  arms_end false defaults i common h kept start later b =
      sym (and_true (is_among common b))
      ∙ ap (λ (xs : List CaseDefault). is_among common b && each_default_contributes meaning b (defaults_of xs)) (sym (drop_of_length-le defaults h))
      ∙ kept b
      ∙ ap (λ v. v && each_default_contributes meaning b (defaults_of defaults)) (sym (later refl))
