use Rattle.std.proofs.Common.{arith}
use Rattle.c_tree.specs.Raw.{RawFunction}
use Rattle.c_tree.specs.rules.Numbering.{wants}
use Rattle.c_raw.specs.Views.{function_view}
use Rattle.c_form.proofs.Blaming.{blames_numbered, blames_last_numbered}
use Rattle.c_form.proofs.numbering.functions.Goals as goal

pub loop-index-preserved : goal.loop-index-preserved
loop-index-preserved c = λ new more.
    c.loop-index.invariant new
    (blames_numbered function_view (λ p. wants p.0 (RawFunction.number p.1)) _ _ new c.args.list.now c.loop-index.index c.index-list-index.result (omega arith) c.index-list-index.is
    c.wants.ensures more)

pub returns : goal.returns
returns c = c.loop-index.invariant _ (blames_last_numbered function_view (λ p. wants p.0 (RawFunction.number p.1)) _ c.args.list.now c.loop-index.index (omega arith))
