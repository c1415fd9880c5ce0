use Rattle.std.specs.Ordering.{nat_cmp}
use Rattle.std.specs.BTreeMap as tree
use Rattle.alg_laws.specs.Least.{listed}
use Rattle.va_tree.specs.Expressions.{expression_of}
use Rattle.va_sem.proofs.Visiting.{assign_visits}
use Rattle.va_sem.proofs.findings.assign.Goals as goal

pub returns : goal.returns
returns c =
    assign_visits (tree.get nat_cmp c.args.meanings.now) (listed c.args.biased.now) c.args.at (expression_of c.args.value.now) _ _ _ c.in_ok-is_biased.is_biased c.either.result c.args.under c.meaning_at.result c.in_ok-is_biased.ensures c.either.ensures c.meaning_at.ensures c.in_ok-done.ensures
