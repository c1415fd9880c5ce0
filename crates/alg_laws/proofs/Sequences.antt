-- Sequences of computations can be regrouped.
use Rattle.std.specs.Prelude.{◌≡◌}
use Rattle.std.proofs.Common.{refl}
use Rattle.alg_laws.specs.Outcome.{Outcome, gives, ends, ◌>>=◌, among, SequencesRegroup}

pub grouped : {E U V W : Type 0} (a : Outcome E U) (f : U → Outcome E V) (g : V → Outcome E W)
    → ((a >>= f) >>= g) ≡ (a >>= λ u. f u >>= g)
grouped (gives u) f g = refl
grouped (ends e) f g = refl

pub last : {E U : Type 0} (a : Outcome E U) → (a >>= gives) ≡ a
last (gives u) = refl
last (ends e) = refl

pub among_more : {E F U V : Type 0} (h : E → F) (a : Outcome E U) (f : U → Outcome E V)
    → among h (a >>= f) ≡ (among h a >>= λ u. among h (f u))
among_more h (gives u) f = refl
among_more h (ends e) f = refl

pub sequences_regroup : (E F U V W : Type 0) → SequencesRegroup E F U V W
sequences_regroup E F U V W = record {
  grouped = grouped;
  first = λ u f. refl;
  last = last;
  early = λ e f. refl;
  among_more = among_more;
}
