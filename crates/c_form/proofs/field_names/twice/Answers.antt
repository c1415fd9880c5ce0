use Rattle.std.proofs.Common.{arith, ap, ◌∙◌}
use Rattle.std.specs.Prelude.{map}
use Rattle.std.specs.Option.{is_some}
use Rattle.c_tree.specs.Form.{least_of}
use Rattle.c_tree.specs.Text.{field_word}
use Rattle.c_tree.specs.rules.Fields.{same_field}
use Rattle.c_raw.specs.Views.{field_view}
use Rattle.c_form.specs.FieldTypes.{named}
use Rattle.c_form.proofs.Blaming.{blames_as}
use Rattle.c_form.proofs.Seen.{again-step, again-end, blames_like, field_key, field_token, fields-again, repeated-again, same_field-sym, twice_not, unless-not}
use Rattle.c_form.proofs.field_names.twice.Goals as goal

pub loop-field-preserved : goal.loop-field-preserved
loop-field-preserved c = λ new more.
    c.loop-field.invariant new
    (again-step field_token field_key same_field field_view _ _ new (λ f. is_some (named c.loop-field.seen (field_word f)))
    (λ f. is_some (named c.enter_field.new.seen (field_word f))) c.args.list.now c.loop-field.field-index _ (omega arith)
    c.in_ok-before.ensures.after
    (blames_as c.blame_unless.ensures (unless-not _ _ _ (twice_not _ _ c.in_ok-before.ensures.before))) more)

pub returns : goal.returns
returns c =
    let fields = map field_view c.args.list.now in
    blames_like _ _ _ _
    (c.loop-field.invariant _ (again-end field_token field_key same_field field_view _ (λ f. is_some (named c.loop-field.seen (field_word f))) c.args.list.now c.loop-field.field-index (omega arith)))
    (repeated-again field_token field_key same_field same_field-sym fields ∙ ap least_of (fields-again fields))
