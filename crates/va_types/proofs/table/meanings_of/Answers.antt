use Rattle.std.specs.Prelude.{get_or, ◌-◌}
use Rattle.std.specs.Ordering.{nat_cmp}
use Rattle.std.specs.BTreeMap as tree
use Rattle.std.proofs.Common.{arith, refl}
use Rattle.va_sem.specs.declared.names.Meaning.TheVariants.{Node}
use Rattle.va_sem.specs.declared.names.NameUse.{NameUse}
use Rattle.va_sem.proofs.MeaningTable.{entered}
use Rattle.va_types.proofs.table.meanings_of.Goals as goal

abbrev none : NameUse
none = record { at = 0; meaning = Node 0 }

pub loop-place-preserved : goal.loop-place-preserved
loop-place-preserved c = (entered c.args.uses.now c.loop-place.place (get_or c.args.uses.now (c.loop-place.place - 1) none) none (tree.get nat_cmp c.loop-place.map) (tree.get nat_cmp c.insert.new.self) c.loop-place-test.true c.loop-place.invariant.1 refl c.loop-place.invariant.0 c.in_ok-insert.ensures.updates.0, omega arith)
