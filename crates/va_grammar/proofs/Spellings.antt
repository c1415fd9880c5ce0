-- A kind that some bytes spell is among those whose spelling is as long as they are.
use Rattle.std.specs.Prelude.{◌≡◌, ℕ, Bool, true, false, if◌then◌else◌, List, [], ◌∷◌, Option, Some, None, length, refl}
use Rattle.std.specs.Str.{bytes_eq}
use Rattle.std.proofs.Common.{ap, sym, true≢false, ◌∙◌}
use Rattle.std.proofs.lemmas.Bool.Decides.{Decides-eqb}
use Rattle.std.proofs.lemmas.Slice.Eq.{bytes_eq-Decides}
use Rattle.va_grammar.specs.Kinds.{as_long, is_long, is_spelling, spelled_among}
use Rattle.va_grammar.specs.Terminals.{spelling_of}
use Rattle.va_grammar.specs.declared.terminal.Terminal.{Terminal}

-- what is not as long is not the spelling
other_length : (s : Option (List ℕ)) (bytes : List ℕ) → is_long (length bytes) s ≡ false → is_spelling s bytes ≡ false
other_length None bytes h = refl
other_length (Some spelling) bytes h = by (bytes_eq spelling bytes) refl
  where
    by : (r : Bool) → bytes_eq spelling bytes ≡ r → r ≡ false
    by false e = refl
    by true e = absurd (true≢false (sym ((Decides-eqb (length spelling) (length bytes)).1 (ap (λ (l : List ℕ). length l) ((bytes_eq-Decides spelling bytes).0 e))) ∙ h))

-- by whether a kind's spelling is as long
skipped : (b : Bool) (t : Terminal) (kept rest : List Terminal) (bytes : List ℕ) (other : Terminal) → (b ≡ false → is_spelling (spelling_of t) bytes ≡ false) → spelled_among kept bytes other ≡ spelled_among rest bytes other → spelled_among (if b then t ∷ kept else kept) bytes other ≡ spelled_among (t ∷ rest) bytes other
skipped true t kept rest bytes other h same = ap (λ (r : Terminal). if is_spelling (spelling_of t) bytes then t else r) same
skipped false t kept rest bytes other h same = same ∙ sym (ap (λ (b : Bool). if b then t else spelled_among rest bytes other) (h refl))

pub among_as_long : (terminals : List Terminal) (bytes : List ℕ) (other : Terminal) → spelled_among (as_long (length bytes) terminals) bytes other ≡ spelled_among terminals bytes other
among_as_long [] bytes other = refl
among_as_long (t ∷ more) bytes other = skipped (is_long (length bytes) (spelling_of t)) t (as_long (length bytes) more) more bytes other (other_length (spelling_of t) bytes) (among_as_long more bytes other)
