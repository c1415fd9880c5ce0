use Rattle.std.proofs.Common.{◌≡◌, drop}
use Rattle.va_preproc.specs.declared.known.Known.{Known}
use Rattle.va_preproc.specs.Reading.{give_all as give_all_lem}
use Rattle.va_preproc.specs.Values.{state_of, lexemes_in}
use Rattle.va_preproc.proofs.reading.give_all.Given as goal

-- giving what is left gives the rest of what all give
abbrev pub invariant-loop-token : goal.invariant-loop-token
invariant-loop-token l =
    (k : Known) → give_all_lem l.fn.place (lexemes_in k.files.items (drop l.token-index l.tokens)) (state_of k l.progress)
    ≡ give_all_lem l.fn.place (lexemes_in k.files.items l.tokens) (state_of k l.initial.progress)
