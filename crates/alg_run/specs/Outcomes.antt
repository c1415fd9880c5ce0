-- What a call answers, as the outcome of an evaluation.
use Rattle.std.specs.Prelude.{Result, Ok, Err}
use Rattle.alg_laws.specs.Outcome.{Outcome, gives, ends}

-- `Ok` gives its value, and `Err` ends early for its reason.
abbrev pub outcome_of : {V E : Type 0} → Result V E → Outcome E V
outcome_of (Ok v) = gives v
outcome_of (Err e) = ends e
