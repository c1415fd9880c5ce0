use Rattle.std.proofs.Common.{arith}
use Rattle.c_raw.specs.Views.{entry_view, module_view}
use Rattle.c_tree.specs.rules.Tables.{entry_numbers}
use Rattle.c_form.proofs.Blaming.{blames_numbered_at, blames_last_numbered}
use Rattle.c_form.proofs.entries.entries.Goals as goal

pub loop-index-preserved : goal.loop-index-preserved
loop-index-preserved c = λ new more.
    c.loop-index.invariant new
    (blames_numbered_at entry_view (entry_numbers (module_view c.args.tree.now)) _ _ new c.args.list.now c.loop-index.index _ (omega arith)
    c.entry.ensures more)

pub returns : goal.returns
returns c = c.loop-index.invariant _ (blames_last_numbered entry_view (entry_numbers (module_view c.args.tree.now)) _ c.args.list.now c.loop-index.index (omega arith))
