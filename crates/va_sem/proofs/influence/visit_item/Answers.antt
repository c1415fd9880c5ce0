use Rattle.std.specs.Ordering.{nat_cmp}
use Rattle.std.specs.BTreeMap as tree
use Rattle.va_sem.proofs.InfluenceWalk.{visit_analog, visit_other}
use Rattle.va_sem.proofs.influence.visit_item.Goals as goal

pub returns-in_ok-done-in-Analog : goal.returns-in_ok-done-in-Analog
returns-in_ok-done-in-Analog c =
    visit_analog (tree.get nat_cmp c.args.meanings.now) c.args.count c.args.item.now c.in-Analog.at c.in-Analog.body c.args.over c.args.edges.now.items c.visit.new.edges.items c.in-Analog.is c.in_ok-done-in-Analog.ensures

pub returns-in_default : goal.returns-in_default
returns-in_default c = visit_other (tree.get nat_cmp c.args.meanings.now) c.args.count c.args.item.now c.args.over c.args.edges.now.items c.in_default.not-Analog
