use Rattle.std.proofs.Common.{◌≡◌, ap, sym, ◌∙◌, [], ◌∷◌, rules}
use Rattle.std.specs.Prelude.{if◌then◌else◌}
use Rattle.std.specs.Option.{is_some}
use Rattle.c_tree.specs.rules.Bodies.{RawBody}
use Rattle.c_form.proofs.Blaming.{◌▸◌, blames_none, blames_as}
use Rattle.c_form.proofs.Uses.{arguments-among}
use Rattle.c_form.proofs.argument_uses.argument_used.Goals as goal

pub returns-in-Argument : goal.returns-in-Argument
returns-in-Argument c = λ b k.
    let found : c.is_some.result ≡ is_some c.argument_type.result = search rules in
    let known = found ∙ ap is_some (c.argument_type.ensures ∙ k c.in-Argument.number) ∙ sym (arguments-among c.in-Argument.number (RawBody.arguments b)) in
    rw (c.in-Argument.is) (blames_as c.blame_unless.ensures (ap (λ t. if t then [] else c.args.atom.at ∷ []) known) ▸ blames_none _)
