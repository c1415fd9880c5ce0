use Rattle.std.proofs.Common.{◌≡◌, ◌∙◌, ap, rules}
use Rattle.std.specs.Option.{is_some}
use Rattle.c_form.proofs.Blaming.{◌▸◌, blames_as, blames_none}
use Rattle.c_form.proofs.Celling.{missing-is}
use Rattle.c_form.proofs.field_rows.factor.Goals as goal

pub returns-in_ok-ty : goal.returns-in_ok-ty
returns-in_ok-ty c = λ m k.
    let there : c.is_some.result ≡ is_some c.in_ok-ty.ty = search rules in
    rw (c.in-Cell.is) (blames_as c.blame_unless.ensures (missing-is _ _ _ (there ∙ ap is_some (c.in_ok-ty.ensures m k))) ▸ blames_none _)
