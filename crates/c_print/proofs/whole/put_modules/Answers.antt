use Rattle.std.proofs.Common.{arith}
use Rattle.c_tree.specs.Text.{module_words}
use Rattle.c_print.proofs.Numbered.{prints-element, prints-last}
use Rattle.c_print.proofs.whole.put_modules.Goals as goal

pub loop-index-preserved : goal.loop-index-preserved
loop-index-preserved c = λ new more.
    c.loop-index.invariant new
    (prints-element (module_words) _ _ new c.args.modules.now c.loop-index.index c.index-modules-index.result (omega arith)
    c.index-modules-index.is (c.in_ok-put_module.ensures) more)

pub returns : goal.returns
returns c = c.loop-index.invariant _ (prints-last (module_words) _ c.args.modules.now c.loop-index.index (omega arith))
