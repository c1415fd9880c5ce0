-- What the parts of statements are that this crate's own functions hand on. No public contract names them.
use Rattle.c_raw_build.specs.RawBodies as raw
use Rattle.c_raw_build.specs.declared.simple.Target.{Target}
use Rattle.c_raw_build.specs.declared.simple.Target.TheVariants.{Field, Pair}

abbrev pub target_view : Target → raw.Target
target_view (Field field) = raw.of_field field
target_view (Pair pair) = raw.of_pair pair
