use Rattle.std.proofs.Common.{◌≡◌, drop}
use Rattle.std.specs.Prelude.{map}
use Rattle.va_preproc.specs.Lexemes.{is_among}
use Rattle.va_preproc.proofs.uses.is_among.Given as goal

-- none of the names before is this one
abbrev pub invariant-loop-other : goal.invariant-loop-other
invariant-loop-other l = is_among (map (λ other. other.now) (drop l.other-index l.fn.names)) l.fn.name ≡ is_among (map (λ other. other.now) l.fn.names) l.fn.name
