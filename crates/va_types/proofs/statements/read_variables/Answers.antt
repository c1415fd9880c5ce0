use Rattle.va_tree.specs.Declarations.{if_there, initialisers}
use Rattle.va_types.proofs.Visiting.{types_over, looked_over, over_types, over_looked, walks_next}
use Rattle.va_types.proofs.statements.read_variables.Goals as goal

pub loop-variable-preserved : goal.loop-variable-preserved
loop-variable-preserved c =
    walks_next c.args.table.now (λ vs. types_over c.args.table.now (initialisers vs)) (λ vs. looked_over c.args.table.now (initialisers vs)) (λ v. types_over c.args.table.now (if_there v.initialiser)) (λ v. looked_over c.args.table.now (if_there v.initialiser))
    (λ v rest. over_types c.args.table.now (if_there v.initialiser) (initialisers rest)) (λ v rest. over_looked c.args.table.now (if_there v.initialiser) (initialisers rest))
    c.args.variables.now c.args.found.now c.loop-variable.found c.read_initialiser.new.found c.loop-variable.variable-index c.variable-item.result c.loop-variable-test.true c.variable-item.is c.in_ok-read_initialiser.ensures c.loop-variable.invariant
