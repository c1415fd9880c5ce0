use Rattle.std.proofs.Common.{sym, ◌∙◌}
use Rattle.va_preproc.specs.Values.{state_of}
use Rattle.va_preproc.proofs.Following.{stop_then}
use Rattle.va_preproc.proofs.Loops.{give_all_turn, no_token}
use Rattle.va_preproc.proofs.reading.give_all.Goals as goal

pub returns-in-Err : goal.returns-in-Err
returns-in-Err c = λ k.
    sym (c.loop-token.invariant k)
    ∙ give_all_turn k.files.items c.args.place c.args.tokens.now c.loop-token.token-index no_token (state_of k c.loop-token.progress) c.loop-token-test.true
    ∙ stop_then _ _ _ (c.in-Err.ensures k)
