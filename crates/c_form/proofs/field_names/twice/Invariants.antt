use Rattle.std.proofs.Common.{ℕ, drop}
use Rattle.std.specs.Prelude.{map, Option, false}
use Rattle.std.specs.Option.{is_some}
use Rattle.c_tree.specs.Text.{field_word}
use Rattle.c_raw.specs.Views.{field_view}
use Rattle.c_form.specs.Blames.{Blames}
use Rattle.c_form.specs.FieldTypes.{named}
use Rattle.c_form.proofs.Seen.{fields_by}
use Rattle.c_form.proofs.field_names.twice.Given as goal

-- whatever blames what is left blames it all
abbrev pub invariant-loop-field : goal.invariant-loop-field
invariant-loop-field l =
    (new : Option ℕ) → Blames l.least new (fields_by (λ f. is_some (named l.seen (field_word f))) (map field_view (drop l.field-index l.list)))
    → Blames l.fn.least new (fields_by (λ f. false) (map field_view l.list))
