use Rattle.std.proofs.Common.{arith}
use Rattle.c_raw.specs.Views.{param_view}
use Rattle.c_tree.specs.rules.Tables.{aliases_agree}
use Rattle.c_form.proofs.Blaming.{blames_element, blames_last}
use Rattle.c_form.proofs.entries.params.Goals as goal

pub loop-param-preserved : goal.loop-param-preserved
loop-param-preserved c = λ new more.
    c.loop-param.invariant new
    (blames_element param_view (aliases_agree) _ _ new c.args.list.now c.loop-param.param-index c.param-item.result (omega arith) c.param-item.is
    c.aliases_agree.ensures more)

pub returns : goal.returns
returns c = c.loop-param.invariant _ (blames_last param_view (aliases_agree) _ c.args.list.now c.loop-param.param-index (omega arith))
