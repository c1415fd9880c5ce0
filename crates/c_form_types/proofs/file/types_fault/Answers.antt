use Rattle.std.specs.Prelude.{map}
use Rattle.c_raw.specs.Views.{module_view}
use Rattle.c_form.proofs.Blaming.{least_is, unnumbered}
use Rattle.c_form_types.specs.Places.{module_blamed}
use Rattle.c_form_types.proofs.file.types_fault.Goals as goal

pub returns : goal.returns
returns c =
    rw (unnumbered module_blamed 0 (map module_view c.args.raw.now.modules), ← c.as_list.ensures)
    (least_is c.in_ok-modules.ensures)
