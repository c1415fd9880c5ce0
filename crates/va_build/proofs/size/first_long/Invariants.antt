use Rattle.std.specs.Prelude.{◌≡◌, ◌<◌, ℕ, false}
use Rattle.va_build.specs.SizeFaults.{is_long}
use Rattle.va_build.proofs.size.first_long.Given as goal

-- none before was too long
abbrev pub invariant-loop-at : goal.invariant-loop-at
invariant-loop-at l = (j : ℕ) → j < l.at → is_long l.e j ≡ false
