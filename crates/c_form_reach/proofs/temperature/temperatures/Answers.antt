use Rattle.std.proofs.Common.{arith, ◌∙◌}
use Rattle.c_tree.specs.rules.Bodies.{items_in, of_statement}
use Rattle.c_raw.specs.Blocks.{block_view}
use Rattle.c_form.specs.Bodies.{in_statement}
use Rattle.c_form.proofs.Blaming.{blames_as, blames_plain, plain_last}
use Rattle.c_form.proofs.Flat.{items-body}
use Rattle.c_form_reach.specs.Reach.{temperature_of}
use Rattle.c_form_reach.proofs.Reaching.{temperatures-in}
use Rattle.c_form_reach.proofs.temperature.temperatures.Goals as goal

pub loop-statement-preserved : goal.loop-statement-preserved
loop-statement-preserved c = λ new more.
    c.loop-statement.invariant new
    (blames_plain (in_statement (of_statement temperature_of)) _ _ new c.args.list.now c.loop-statement.statement-index c.statement-item.result (omega arith) c.statement-item.is
    c.statement_temperature.ensures more)

pub returns : goal.returns
returns c =
    blames_as (c.loop-statement.invariant _ (plain_last (in_statement (of_statement temperature_of)) _ c.args.list.now c.loop-statement.statement-index (omega arith)))
    (items-body (of_statement temperature_of) c.args.list.now c.requires ∙ temperatures-in (items_in (block_view c.args.list.now)))
