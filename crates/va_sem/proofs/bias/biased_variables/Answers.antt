use Rattle.std.specs.Ordering.{nat_cmp}
use Rattle.std.specs.BTreeMap as tree
use Rattle.std.proofs.Common.{arith}
use Rattle.va_sem.specs.rules.Findings.{blocks_of}
use Rattle.va_sem.proofs.Influenced.{biased_listed}
use Rattle.va_sem.proofs.bias.biased_variables.Goals as goal

pub returns : goal.returns
returns c x =
    biased_listed (tree.get nat_cmp c.args.meanings.now) c.args.count (blocks_of c.args.items.now) c.in_ok-edges.edges.items c.as_slice.result.now c.in_ok-nodes.nodes c.in_ok-biased.biased.items _
    c.in_ok-edges.ensures c.as_slice.ensures.value (omega (arith, c.in_ok-nodes.ensures, c.len.ensures)) c.in_ok-biased.ensures c.truncate.ensures.items x
