use Rattle.std.proofs.Common.{arith, ap, ◌∙◌, ◌++◌}
use Rattle.std.specs.Prelude.{map}
use Rattle.va_tree.specs.declared.module.Declaration.{Declaration}
use Rattle.va_scopes.specs.Bindings.{declared_by}
use Rattle.va_scopes.specs.Blocks.{declared_by_variable}
use Rattle.va_scopes.proofs.BlockNames.{one_more, no_more_left}
use Rattle.va_scopes.proofs.blocks.block_bindings.Goals as goal

pub loop-declaration-preserved : goal.loop-declaration-preserved
loop-declaration-preserved c =
    one_more (λ (d : Declaration). map declared_by_variable d.variables) (map declared_by c.loop-declaration.bindings.items) _ _
    c.args.declarations.now c.loop-declaration.declaration-index c.declaration-item.result c.loop-declaration-test.true c.declaration-item.is
    (c.in_ok-add_variables.ensures ∙ ap (λ l. map declared_by c.loop-declaration.bindings.items ++ map declared_by_variable l) c.as_list.ensures)
    c.loop-declaration.invariant

pub returns : goal.returns
returns c =
    no_more_left (λ (d : Declaration). map declared_by_variable d.variables) (map declared_by c.loop-declaration.bindings.items) _
    c.args.declarations.now c.loop-declaration.declaration-index (omega arith) c.loop-declaration.invariant
