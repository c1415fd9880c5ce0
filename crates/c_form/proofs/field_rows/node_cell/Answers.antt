use Rattle.std.proofs.Common.{◌∙◌, ap}
use Rattle.c_form.specs.FieldTypes.{has_type}
use Rattle.c_form.proofs.Blaming.{blames_as}
use Rattle.c_form.proofs.Celling.{unlike-is}
use Rattle.alg_laws.specs.declared.number.Ty.TheVariants.{Real}
use Rattle.c_form.proofs.field_rows.node_cell.Goals as goal

pub returns : goal.returns
returns c = λ m k. blames_as c.blame_unless.ensures (unlike-is _ Real _ _ (c.has_type.ensures ∙ ap (has_type Real) (c.in_ok-found.ensures m k)))
