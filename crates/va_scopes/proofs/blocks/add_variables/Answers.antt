use Rattle.std.proofs.Common.{arith, ap, ◌∙◌, [], ◌∷◌, ◌++◌}
use Rattle.std.specs.Prelude.{map}
use Rattle.va_tree.specs.declared.module.Variable.{Variable}
use Rattle.va_scopes.specs.Bindings.{declared_by}
use Rattle.va_scopes.specs.Blocks.{declared_by_variable}
use Rattle.va_scopes.proofs.BlockNames.{one_more, no_more_left, pushed, singly}
use Rattle.va_scopes.proofs.blocks.add_variables.Goals as goal

pub loop-v-preserved : goal.loop-v-preserved
loop-v-preserved c =
    one_more (λ (v : Variable). declared_by_variable v ∷ []) (map declared_by c.loop-v.bindings.items) _ _ c.args.variables.now c.loop-v.v-index c.v-item.result c.loop-v-test.true c.v-item.is
    (ap (map declared_by) c.in_ok-push.ensures.items ∙ pushed c.loop-v.bindings.items _
    ∙ ap (λ d. map declared_by c.loop-v.bindings.items ++ d ∷ []) c.variable_binding.ensures)
    c.loop-v.invariant

pub returns : goal.returns
returns c =
    no_more_left (λ (v : Variable). declared_by_variable v ∷ []) (map declared_by c.loop-v.bindings.items) _ c.args.variables.now c.loop-v.v-index (omega arith)
    c.loop-v.invariant
    ∙ ap (λ l. map declared_by c.args.bindings.now.items ++ l) (singly c.args.variables.now)
