use Rattle.std.proofs.Common.{◌≡◌, arith, rules}
use Rattle.c_tree.specs.short.Text.{module_words}
use Rattle.c_print.specs.Prints.{Prints}
use Rattle.c_print.proofs.Printing.{prints_module, prints_end}
use Rattle.c_print.proofs.module.put_modules.Goals as goal

pub loop-index-preserved : goal.loop-index-preserved
loop-index-preserved c =
    let tree = c.index-modules-index.result in
    let number : c.in-Ok.number ≡ c.loop-index.index = search rules in
    let here : Prints c.loop-index.out.items c.put_module.new.out.items (module_words c.loop-index.index tree) =
    rw number at c.in_ok-put_module.ensures in
    λ new more. c.loop-index.invariant new
    (prints_module _ _ new c.args.modules.now c.loop-index.index tree (omega arith) c.index-modules-index.is here more)

pub returns : goal.returns
returns c = c.loop-index.invariant _ (prints_end _ c.args.modules.now c.loop-index.index (omega arith))
