use Rattle.std.proofs.Common.{arith}
use Rattle.c_raw.specs.Blocks.{at_view}
use Rattle.c_form.proofs.Blaming.{blames_at, blames_last}
use Rattle.c_form.proofs.items.all_atoms.Goals as goal

pub loop-atom-preserved : goal.loop-atom-preserved
loop-atom-preserved g c = λ p k new more.
    c.loop-atom.invariant p k new
    (blames_at at_view (g.R.ItemRule.in_atom p) _ _ new c.args.list.now c.loop-atom.atom-index _ (omega arith) (c.in_ok-blame_atom.ensures p k) more)

pub returns : goal.returns
returns g c = λ p k.
    c.loop-atom.invariant p k _ (blames_last at_view (g.R.ItemRule.in_atom p) _ c.args.list.now c.loop-atom.atom-index (omega arith))
