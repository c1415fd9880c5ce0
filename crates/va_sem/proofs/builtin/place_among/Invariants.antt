use Rattle.std.proofs.Common.{◌≡◌, drop}
use Rattle.va_sem.specs.Lookup.{place_from}
use Rattle.va_sem.proofs.Places.{spelled}
use Rattle.va_sem.proofs.builtin.place_among.Given as goal

abbrev pub invariant-loop-place : goal.invariant-loop-place
invariant-loop-place l = place_from l.place (spelled (drop l.place l.words)) l.name ≡ place_from 0 (spelled l.words) l.name
