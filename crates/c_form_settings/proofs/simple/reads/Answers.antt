use Rattle.std.proofs.Common.{ap, ◌∙◌}
use Rattle.std.specs.Prelude.{map}
use Rattle.std.specs.List.{flat_map}
use Rattle.c_raw.specs.Blocks.{at_view}
use Rattle.c_form.proofs.Blaming.{blames_as}
use Rattle.c_form_settings.specs.Passes.{early_in}
use Rattle.c_form_settings.proofs.simple.reads.Goals as goal

pub returns : goal.returns
returns c =
    blames_as c.read_all.ensures
    (ap (flat_map (early_in c.args.pass.now)) (ap (map at_view) c.deref.ensures.value ∙ c.in_ok-atoms.ensures))
