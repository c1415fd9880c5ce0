-- Whether two types are one.
use Rattle.std.specs.Prelude.{Bool, true, false}
use Rattle.alg_laws.specs.declared.number.Ty.{Ty}
use Rattle.alg_laws.specs.declared.number.Ty.TheVariants.{Integer, Real}

abbrev pub same_type : Ty → Ty → Bool
same_type Integer Integer = true
same_type Real Real = true
same_type Integer Real = false
same_type Real Integer = false
