-- What steps give, and lists of names that grow.
use Rattle.std.proofs.Common.{◌≡◌, ℕ, zero, suc, List, [], ◌∷◌, ◌++◌, refl, sym, ap, subst, ◌∙◌, append_assoc}
use Rattle.std.proofs.lemmas.List.{append-nil}
use Rattle.std.specs.Prelude.{Some, None, Ok, Err, slice_get}
use Rattle.va_preproc.specs.Lexemes.{Bytes}
use Rattle.va_preproc.specs.Reading.{Stop, Step, ◌>>=◌}

-- what is known of where a step stops, or of what it gives
abbrev pub Post : {T : Type 0} → (Stop → Type 0) → (T → Type 0) → Step T → Type 0
Post E Q (Ok value) = Q value
Post E Q (Err stop) = E stop

pub post_then : {T U : Type 0} (E F : Stop → Type 0) (Q : T → Type 0) (R : U → Type 0) (m : Step T) (next : T → Step U)
    → ((stop : Stop) → E stop → F stop) → Post E Q m → ((value : T) → Q value → Post F R (next value)) → Post F R (m >>= next)
post_then E F Q R (Ok value) next g q f = f value q
post_then E F Q R (Err stop) next g q f = g stop q

pub post_map : {T : Type 0} (E F : Stop → Type 0) (Q R : T → Type 0) (m : Step T) → ((stop : Stop) → E stop → F stop)
    → ((value : T) → Q value → R value) → Post E Q m → Post F R m
post_map E F Q R (Ok value) g f q = f value q
post_map E F Q R (Err stop) g f q = g stop q

-- names were added at the end
abbrev pub Extends : List Bytes → List Bytes → Type 0
Extends before now = (more : List Bytes) × (now ≡ before ++ more)

pub extends_refl : (names : List Bytes) → Extends names names
extends_refl names = ([], sym (append-nil names))

pub extends_one : (names : List Bytes) (name : Bytes) → Extends names (names ++ name ∷ [])
extends_one names name = (name ∷ [], refl)

pub extends_trans : (a b c : List Bytes) → Extends a b → Extends b c → Extends a c
extends_trans a b c e f = (e.0 ++ f.0, f.1 ∙ ap (λ names. names ++ f.0) e.1 ∙ append_assoc a e.0 f.0)

pub get_append : (xs ys : List Bytes) (i : ℕ) (x : Bytes) → slice_get xs i ≡ Some x → slice_get (xs ++ ys) i ≡ Some x
get_append [] ys i x e = elim (none_some x e) [ ]
  where
    none_some : (x : Bytes) → None ≡ Some x → ⊥
    none_some x e = cc
get_append (y ∷ xs) ys zero x e = e
get_append (y ∷ xs) ys (suc i) x e = get_append xs ys i x e

pub get_extends : (a b : List Bytes) (i : ℕ) (x : Bytes) → Extends a b → slice_get a i ≡ Some x → slice_get b i ≡ Some x
get_extends a b i x e h = subst (λ names. slice_get names i ≡ Some x) (sym e.1) (get_append a e.0 i x h)
