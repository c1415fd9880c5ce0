use Rattle.std.proofs.Common.{arith}
use Rattle.c_form.proofs.Seen.{blames_like}
use Rattle.c_form_reach.specs.Placed.{nothing}
use Rattle.c_form_reach.specs.Settings.{words_set}
use Rattle.c_form_reach.proofs.Placing.{deeper-body, few-step, walked-last, walked-step}
use Rattle.c_form_reach.proofs.deeper.deeper.Goals as goal

pub loop-statement-preserved : goal.loop-statement-preserved
loop-statement-preserved c = record {
  blames = λ new more.
      c.loop-statement.invariant.blames new
      (walked-step nothing words_set _ _ new c.loop-statement.around _ c.args.list.now c.loop-statement.statement-index c.statement-item.result (omega arith) c.statement-item.is
      c.around_behind-around.ensures c.statement_deeper.ensures more);
  few = few-step c.loop-statement.around _ c.loop-statement.statement-index c.statement-item.result c.around_behind-around.ensures c.loop-statement.invariant.few;
}

pub returns : goal.returns
returns c =
    blames_like _ _ _ _
    (c.loop-statement.invariant.blames _ (walked-last nothing words_set _ c.loop-statement.around c.args.list.now c.loop-statement.statement-index (omega arith)))
    (deeper-body c.args.list.now c.requires)
