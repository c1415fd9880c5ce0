use Rattle.std.specs.Prelude.{length}
use Rattle.std.proofs.Common.{arith, length-append, ◌∷◌, [], ap}
use Rattle.va_build.proofs.ListEnds.{two_taken}
use Rattle.va_build.proofs.DueRows.{taken}
use Rattle.va_build.proofs.done.close_if_else.Goals as goal

pub returns : goal.returns
returns c front a b h =
    let taken = two_taken _ _ _ front a b _ _ h c.last-last_body.ensures c.last-body.ensures in
    grind (arith, taken.0, taken.1, taken.2)

pub last-body-requires : goal.last-body-requires
last-body-requires c = omega (arith, c.requires, ap length c.last-last_body.ensures, length-append c.last-last_body.new.done.items (c.last-last_body.result ∷ []))
