use Rattle.std.proofs.Common.{arith}
use Rattle.c_form.specs.Bodies.{in_statement}
use Rattle.c_form.specs.Items.{in_item}
use Rattle.c_form.proofs.Blaming.{blames_plain, plain_last}
use Rattle.c_form.proofs.items.all_statements.Goals as goal

pub loop-statement-preserved : goal.loop-statement-preserved
loop-statement-preserved g c = λ p k new more.
    c.loop-statement.invariant p k new
    (blames_plain (in_statement (in_item (g.R.ItemRule.in_atom p) (g.R.ItemRule.in_simple p))) _ _ new c.args.list.now c.loop-statement.statement-index
    c.statement-item.result (omega arith) c.statement-item.is (c.in_ok-statement_items.ensures p k) more)

pub returns : goal.returns
returns g c = λ p k.
    c.loop-statement.invariant p k _
    (plain_last (in_statement (in_item (g.R.ItemRule.in_atom p) (g.R.ItemRule.in_simple p))) _ c.args.list.now c.loop-statement.statement-index (omega arith))
