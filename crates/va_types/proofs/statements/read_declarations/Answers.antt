use Rattle.va_tree.specs.Declarations.{declared, initialisers}
use Rattle.va_types.proofs.Visiting.{types_over, looked_over, over_types, over_looked, walks_next, same_over}
use Rattle.va_types.proofs.statements.read_declarations.Goals as goal

pub loop-declaration-preserved : goal.loop-declaration-preserved
loop-declaration-preserved c =
    walks_next c.args.table.now (λ ds. types_over c.args.table.now (declared ds)) (λ ds. looked_over c.args.table.now (declared ds)) (λ d. types_over c.args.table.now (initialisers d.variables)) (λ d. looked_over c.args.table.now (initialisers d.variables))
    (λ d rest. over_types c.args.table.now (initialisers d.variables) (declared rest)) (λ d rest. over_looked c.args.table.now (initialisers d.variables) (declared rest))
    c.args.declarations.now c.args.found.now c.loop-declaration.found c.read_variables.new.found c.loop-declaration.declaration-index c.declaration-item.result c.loop-declaration-test.true c.declaration-item.is
    (same_over c.args.table.now c.declaration-item.result c.as_list.result.now c.loop-declaration.found c.read_variables.new.found c.as_list.ensures c.in_ok-read_variables.ensures) c.loop-declaration.invariant
