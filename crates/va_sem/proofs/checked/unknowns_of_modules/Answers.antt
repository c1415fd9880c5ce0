use Rattle.std.proofs.Common.{◌∙◌, ap, ◌++◌, ◌∷◌, []}
use Rattle.va_sem.specs.Kinds.{module_unknowns}
use Rattle.va_sem.proofs.Modules.{listed_more}
use Rattle.va_sem.proofs.checked.unknowns_of_modules.Goals as goal

pub loop-index-preserved : goal.loop-index-preserved
loop-index-preserved c =
    listed_more module_unknowns c.args.modules.now c.args.names.now c.loop-index.index c.index-modules-index.result c.index-names-index.result
    c.loop-index.list.items c.push.new.self.items _ c.loop-index-test.true c.requires c.index-modules-index.is c.index-names-index.is c.loop-index.invariant (c.in_ok-push.ensures.items ∙ ap (λ z. c.loop-index.list.items ++ z ∷ []) c.in_ok-of_module.ensures)
