use Rattle.std.specs.Prelude.{flat_map}
use Rattle.std.specs.Ordering.{nat_cmp}
use Rattle.std.specs.BTreeMap as tree
use Rattle.std.proofs.Common.{ap, arith}
use Rattle.alg_laws.specs.Least.{listed}
use Rattle.va_sem.specs.rules.Findings.{in_declaration, in_variable}
use Rattle.va_sem.proofs.Walks.{reads_next, reads_end}
use Rattle.va_sem.proofs.findings.read_declarations.Goals as goal

pub loop-declaration-preserved : goal.loop-declaration-preserved
loop-declaration-preserved c =
    reads_next (tree.get nat_cmp c.args.meanings.now) (listed c.args.biased.now) in_declaration c.args.declarations.now c.args.findings.now.items c.loop-declaration.declaration-index c.loop-declaration.findings.items c.read_variables.new.findings.items c.loop-declaration.answer c.in_ok-next.next c.either-answer.result c.declaration-item.result _ c.loop-declaration-test.true c.declaration-item.is (ap (flat_map in_variable) c.as_list.ensures) c.in_ok-next.ensures c.either-answer.ensures c.loop-declaration.invariant

pub returns : goal.returns
returns c =
    reads_end (tree.get nat_cmp c.args.meanings.now) (listed c.args.biased.now) in_declaration c.args.declarations.now c.args.findings.now.items c.loop-declaration.declaration-index c.loop-declaration.findings.items c.loop-declaration.answer (omega arith) c.loop-declaration.invariant
