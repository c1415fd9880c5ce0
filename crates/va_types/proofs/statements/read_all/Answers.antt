use Rattle.std.specs.Prelude.{map}
use Rattle.std.proofs.Common.{refl}
use Rattle.va_tree.specs.Expressions.{expression_of}
use Rattle.va_sem.specs.LookedAt.{looked_at}
use Rattle.va_sem.specs.Typing.{types_in}
use Rattle.va_types.proofs.Visiting.{types_over, looked_over, walks_next}
use Rattle.va_types.proofs.statements.read_all.Goals as goal

pub loop-e-preserved : goal.loop-e-preserved
loop-e-preserved c =
    walks_next c.args.table.now (λ es. types_over c.args.table.now (map expression_of es)) (λ es. looked_over c.args.table.now (map expression_of es)) (λ e. types_in c.args.table.now (expression_of e)) (λ e. looked_at (expression_of e))
    (λ e rest. refl) (λ e rest. refl) c.args.es.now c.args.found.now c.loop-e.found c.read_one.new.found c.loop-e.e-index c.e-item.result c.loop-e-test.true c.e-item.is c.in_ok-read_one.ensures c.loop-e.invariant
