use Rattle.std.proofs.Common.{arith}
use Rattle.c_raw.specs.Blocks.{at_view}
use Rattle.c_form.proofs.Blaming.{blames_at, blames_last}
use Rattle.c_form_settings.specs.Passes.{early_in}
use Rattle.c_form_settings.proofs.simple.read_all.Goals as goal

pub loop-atom-preserved : goal.loop-atom-preserved
loop-atom-preserved c = λ new more.
    c.loop-atom.invariant new
    (blames_at at_view (early_in c.args.pass.now) _ _ new c.args.atoms.now c.loop-atom.atom-index _ (omega arith) c.read.ensures more)

pub returns : goal.returns
returns c = c.loop-atom.invariant _ (blames_last at_view (early_in c.args.pass.now) _ c.args.atoms.now c.loop-atom.atom-index (omega arith))
