use Rattle.std.proofs.Common.{◌≡◌, ap, sym, ◌∙◌, [], ◌∷◌, rules}
use Rattle.std.specs.Prelude.{if◌then◌else◌}
use Rattle.std.specs.Option.{is_some}
use Rattle.c_form.proofs.Blaming.{blames_as}
use Rattle.c_form.proofs.Uses.{known-among}
use Rattle.c_form.proofs.locals.used.Goals as goal

pub returns : goal.returns
returns c = λ known k.
    let found : c.is_some.result ≡ is_some c.local_type.result = search rules in
    blames_as c.blame_unless.ensures
    (ap (λ b. if b then [] else c.args.number.at ∷ []) (found ∙ ap is_some (c.local_type.ensures known k) ∙ sym (known-among c.args.number.value known)))
