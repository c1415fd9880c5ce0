-- Values of both types over dual numbers: their mains, their parts, and values that don't move.
use Rattle.alg_laws.specs.declared.dual.Dual.{Dual}
use Rattle.alg_laws.specs.declared.number.Number.{Number}
use Rattle.alg_laws.specs.declared.number.Number.TheVariants.{Real, Int}
use Rattle.alg_laws.specs.Dual.{lift}
use Rattle.alg_laws.specs.Operations.{Operations}

-- The main of a real; an integer is as it is.
abbrev pub main_of : {V : Type 0} → Number (Dual V) → Number V
main_of (Real d) = Real d.main
main_of (Int i) = Int i

-- The part of a real; an integer doesn't move.
abbrev pub part_of : {V : Type 0} → Operations V → Number (Dual V) → V
part_of o (Real d) = d.part
part_of o (Int i) = o.zero

-- A value that doesn't move.
abbrev pub lifted : {V : Type 0} → Operations V → Number V → Number (Dual V)
lifted o (Real x) = Real (lift o x)
lifted o (Int i) = Int i

-- A real has to be valid; an integer is.
abbrev pub NumberValid : {V : Type 0} → (V → Type 0) → Number V → Type 0
NumberValid valid (Real x) = valid x
NumberValid valid (Int i) = Unit {0}
