use Rattle.std.proofs.Common.{ap, ◌∙◌}
use Rattle.std.specs.Prelude.{◌||◌}
use Rattle.std.specs.Option.{is_some}
use Rattle.std.specs.Str.{bytes_eq}
use Rattle.c_tree.specs.Text.{field_word}
use Rattle.c_form.specs.FieldTypes.{named}
use Rattle.c_form.proofs.Naming.{bytes_eq-sym}
use Rattle.c_form.proofs.field_names.enter_field.Goals as goal

pub returns-clause-before : goal.returns-clause-before
returns-clause-before c = c.in_ok-before.ensures.before ∙ ap (λ n. is_some (named c.args.seen.now n)) c.in_ok-name.ensures

pub returns-clause-after : goal.returns-clause-after
returns-clause-after c = λ other.
    c.in_ok-before.ensures.after (field_word other)
    ∙ ap (λ b. b || is_some (named c.args.seen.now (field_word other)))
    (ap (bytes_eq (field_word other)) c.in_ok-name.ensures ∙ bytes_eq-sym (field_word other) (field_word c.args.field))
