-- Which calls of a value in memory fail.
use Rattle.std.specs.Prelude.{◌<◌, ◌-◌, ◌^◌, ℕ, List, Contains}

-- a call of this number fails: the number is listed, and is not the last of its type, at which numbers stop
abbrev pub Fails : List ℕ → ℕ → Type 0
Fails listed number = (number < 2 ^ 64 - 1) × Contains listed number
