use Rattle.std.proofs.Common.{arith, ◌≡◌, ◌∙◌}
use Rattle.std.proofs.lemmas.Grind.{common_steps}
use Rattle.va_grammar.specs.Kinds.{kinds_of}
use Rattle.va_grammar.proofs.KindsEnd.{kinds_end}
use Rattle.va_grammar.proofs.token_kinds.kinds.Goals as goal

pub returns-clause-ended : goal.returns-clause-ended
returns-clause-ended c =
    let ended = kinds_end c.args.e.now c.requires in
    let all : c.loop-token.list.items ≡ kinds_of c.args.e.now = grind (arith, common_steps) in
    (ended.0, all ∙ ended.1)
