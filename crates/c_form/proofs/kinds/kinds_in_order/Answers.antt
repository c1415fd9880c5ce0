use Rattle.std.proofs.Common.{arith, rules, []}
use Rattle.std.specs.Prelude.{map}
use Rattle.c_raw.specs.Views.{param_view}
use Rattle.c_form.proofs.KindOrder.{kinds-above, kind-step, kinds-end}
use Rattle.c_form.proofs.kinds.kinds_in_order.Goals as goal

pub loop-param-preserved : goal.loop-param-preserved
loop-param-preserved c = λ new more.
    c.loop-param.invariant new
    (kind-step _ _ new c.args.params.now c.loop-param.param-index c.loop-param.highest _ _ c.param-item.result (omega arith) c.param-item.is c.rank-place.ensures (search rules)
    c.blame_unless.ensures more)

pub returns : goal.returns
returns c =
    rw (kinds-above [] (map param_view c.args.params.now))
    (c.loop-param.invariant _ (kinds-end _ c.args.params.now c.loop-param.param-index c.loop-param.highest (omega arith)))
