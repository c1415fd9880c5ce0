-- What has a use at a token, and what it means there.
use Rattle.std.specs.Prelude.{◌≡◌, ℕ, ◌==◌, Bool, true, false, List, [], ◌∷◌, find, Option, Some, None, option_map, if◌then◌else◌}
use Rattle.std.proofs.Common.{refl, sym, ap, inl, inr}
use Rattle.std.proofs.lemmas.Bool.{eqb-true}
use Rattle.va_sem.specs.declared.names.Meaning.{Meaning}
use Rattle.va_sem.specs.declared.names.NameUse.{NameUse}
use Rattle.va_sem.specs.Meanings.{use_at}
use Rattle.va_sem.specs.Typing.{meaning_at}
use Rattle.va_sem.proofs.Contained.{Has}

-- a use of a name at a token, with its meaning
pub record UsedAt (uses : List NameUse) (at : ℕ) (meaning : Meaning) : Type 0 where
  pub use_of : NameUse
  pub has : Has uses use_of
  pub stands : use_of.at ≡ at
  pub is_meant : use_of.meaning ≡ meaning

used_first : (u : NameUse) (rest : List NameUse) (at : ℕ) (meaning : Meaning) (b : Bool) → (u.at == at) ≡ b
    → (meaning_at rest at ≡ Some meaning → UsedAt rest at meaning)
    → option_map (λ (u : NameUse). u.meaning) (if b then Some u else find (λ (u : NameUse). u.at == at) rest) ≡ Some meaning → UsedAt (u ∷ rest) at meaning
used_first u rest at meaning true e more h = record { use_of = u; has = inl refl; stands = eqb-true u.at at e; is_meant = cc (h) }
used_first u rest at meaning false e more h = (let r = more h in record { use_of = r.use_of; has = inr r.has; stands = r.stands; is_meant = r.is_meant })

pub used_at : (uses : List NameUse) (at : ℕ) (meaning : Meaning) → meaning_at uses at ≡ Some meaning → UsedAt uses at meaning
used_at [] at meaning h = absurd (cc (h))
used_at (u ∷ rest) at meaning h = used_first u rest at meaning (u.at == at) refl (used_at rest at meaning) h

-- what has a use is the meaning
pub used_is : (at : ℕ) (m : Option Meaning) (u : NameUse) → Has (use_at at m) u → (u.at ≡ at) × (m ≡ Some u.meaning)
used_is at None u h = absurd h
used_is at (Some meaning) u (inl e) = (ap (λ (z : NameUse). z.at) (sym e), ap (λ (z : NameUse). Some z.meaning) e)
used_is at (Some meaning) u (inr h) = absurd h
