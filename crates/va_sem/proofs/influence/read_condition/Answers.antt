use Rattle.std.specs.Ordering.{nat_cmp}
use Rattle.std.specs.BTreeMap as tree
use Rattle.std.proofs.Common.{ap, ◌∙◌}
use Rattle.std.specs.Prelude.{◌++◌}
use Rattle.va_tree.specs.Expressions.{expression_of}
use Rattle.va_sem.specs.LookedAt.{looked_at}
use Rattle.va_sem.specs.rules.Findings.{meanings_in}
use Rattle.va_sem.specs.rules.Influence.{edges_to}
use Rattle.va_sem.proofs.influence.read_condition.Goals as goal

pub returns-clause-added : goal.returns-clause-added
returns-clause-added c =
    c.in_ok-read.ensures
    ∙ ap (λ list. list ++ edges_to c.args.count c.in_ok-node.node (meanings_in (tree.get nat_cmp c.args.meanings.now) (looked_at (expression_of c.args.test.now)))) c.in_ok-node.ensures.added
