use Rattle.std.proofs.Common.{◌≡◌, ◌∙◌, ap, rules}
use Rattle.std.specs.Option.{is_some}
use Rattle.c_form.proofs.Blaming.{blames_as}
use Rattle.c_form.proofs.Celling.{missing-is}
use Rattle.c_form.proofs.cell_checks.cell_missing.Goals as goal

pub returns : goal.returns
returns c = λ m k.
    let found : c.is_some.result ≡ is_some c.in_ok-found.found = search rules in
    blames_as c.blame_unless.ensures (missing-is _ _ _ (found ∙ ap is_some (c.in_ok-found.ensures m k)))
