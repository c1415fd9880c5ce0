use Rattle.std.proofs.Common.{◌∙◌, ap}
use Rattle.c_form.specs.FieldTypes.{has_type}
use Rattle.c_form.proofs.Blaming.{blames_as}
use Rattle.c_form.proofs.Celling.{unlike-is}
use Rattle.alg_laws.specs.declared.number.Ty.TheVariants.{Integer}
use Rattle.c_form.proofs.field_rows.access_flag.Goals as goal

pub returns-in_ok-found : goal.returns-in_ok-found
returns-in_ok-found c = λ m k.
    rw (c.in-Some.is) (blames_as c.blame_unless.ensures (unlike-is _ Integer _ _ (c.has_type.ensures ∙ ap (has_type Integer) (c.in_ok-found.ensures m k))))
