use Rattle.std.proofs.Common.{ap, ◌∙◌}
use Rattle.std.specs.Prelude.{Some}
use Rattle.std.specs.Option.{is_some}
use Rattle.c_form.proofs.Naming.{named-updates}
use Rattle.c_form.proofs.Seen.{seen-more}
use Rattle.c_form.proofs.field_names.enter_name.Goals as goal

pub returns-clause-after : goal.returns-clause-after
returns-clause-after c = λ other.
    ap is_some (named-updates c.args.seen.now c.insert.new.self c.args.name.items (Some c.args.ty) c.in_ok-before.ensures.updates other)
    ∙ seen-more _ _ _
