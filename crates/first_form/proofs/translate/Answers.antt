use Rattle.first_form.proofs.Lowering.{loads_at_four}
use Rattle.first_form.proofs.translate.Goals as goal

pub returns-clause-translated : goal.returns-clause-translated
returns-clause-translated g c =
    let r = c.in_ok-tree.ensures.read in
    record {
      form = r.form;
      parts = r.parts;
      only = r.only;
      tree = c.in_ok-tree.tree;
      alone = c.in_ok-modules.ensures.alone;
      unknowns = r.unknowns;
      params = r.params;
      loads = loads_at_four g.A.Algebra.ops g.A.Algebra.valid g.A.Algebra.unit g.A.Algebra.laws r.form r.parts.in_order.sum c.in_ok-tree.tree r.eval r.loads;
    }
