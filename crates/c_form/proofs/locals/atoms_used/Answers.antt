use Rattle.std.proofs.Common.{arith}
use Rattle.c_raw.specs.Blocks.{at_view}
use Rattle.c_form.specs.Uses.{local_used}
use Rattle.c_form.proofs.Blaming.{blames_at, blames_last}
use Rattle.c_form.proofs.locals.atoms_used.Goals as goal

pub loop-atom-preserved : goal.loop-atom-preserved
loop-atom-preserved c = λ known k new more.
    c.loop-atom.invariant known k new
    (blames_at at_view (local_used known) _ _ new c.args.atoms.now c.loop-atom.atom-index _ (omega arith) (c.atom_used.ensures known k) more)

pub returns : goal.returns
returns c = λ known k.
    c.loop-atom.invariant known k _ (blames_last at_view (local_used known) _ c.args.atoms.now c.loop-atom.atom-index (omega arith))
