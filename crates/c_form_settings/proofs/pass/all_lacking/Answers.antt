use Rattle.std.proofs.Common.{arith}
use Rattle.c_form.proofs.Blaming.{plain_last}
use Rattle.c_form_settings.specs.Passes.{lacking_in}
use Rattle.c_form_settings.proofs.Least.{blames-here}
use Rattle.c_form_settings.proofs.pass.all_lacking.Goals as goal

pub loop-number-preserved : goal.loop-number-preserved
loop-number-preserved c = λ new more.
    c.loop-number.invariant new
    (blames-here (lacking_in c.args.pass.now c.args.at) _ _ new c.args.numbers.now c.loop-number.number-index _ (omega arith) c.lacking.ensures more)

pub returns : goal.returns
returns c = c.loop-number.invariant _ (plain_last (lacking_in c.args.pass.now c.args.at) _ c.args.numbers.now c.loop-number.number-index (omega arith))
