-- What a call answers follows a step of the expansion.
use Rattle.std.proofs.Common.{◌≡◌, refl, sym, ap, ◌∙◌}
use Rattle.std.specs.Prelude.{Ok, Err}
use Rattle.va_preproc.specs.Reading.{Stop, Step, ◌>>=◌}

-- steps may be taken together
pub regroup : {T U V : Type 0} (m : Step T) (f : T → Step U) (g : U → Step V) → ((m >>= f) >>= g) ≡ (m >>= λ x. f x >>= g)
regroup (Ok x) f g = refl
regroup (Err stop) f g = refl

-- what follows a step that gives this
pub after : {T U : Type 0} (m : Step T) (v : T) (next : T → Step U) (whole : Step U) → m ≡ Ok v → (m >>= next) ≡ whole → next v ≡ whole
after m v next whole e h = sym (ap (λ step. step >>= next) e) ∙ h

-- what follows a step that stops
pub stop_then : {T U : Type 0} (m : Step T) (next : T → Step U) (stop : Stop) → m ≡ Err stop → (m >>= next) ≡ Err stop
stop_then m next stop e = ap (λ step. step >>= next) e
