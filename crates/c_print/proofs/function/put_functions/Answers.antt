use Rattle.std.proofs.Common.{arith}
use Rattle.c_tree.specs.Text.{function_words}
use Rattle.c_print.proofs.Numbered.{prints-element, prints-last}
use Rattle.c_print.proofs.function.put_functions.Goals as goal

pub loop-index-preserved : goal.loop-index-preserved
loop-index-preserved c = λ new more.
    c.loop-index.invariant new
    (prints-element (function_words c.args.k) _ _ new c.args.functions.now c.loop-index.index c.index-functions-index.result (omega arith)
    c.index-functions-index.is (c.in_ok-put_function.ensures) more)

pub returns : goal.returns
returns c = c.loop-index.invariant _ (prints-last (function_words c.args.k) _ c.args.functions.now c.loop-index.index (omega arith))
