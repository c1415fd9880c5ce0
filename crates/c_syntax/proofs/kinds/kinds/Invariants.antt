use Rattle.std.proofs.Common.{◌≡◌, take, map}
use Rattle.c_syntax.specs.grammar.Kinds.{kind_in}
use Rattle.c_syntax.proofs.kinds.kinds.Given as goal

abbrev pub invariant-loop-token : goal.invariant-loop-token
invariant-loop-token l = l.kinds.items ≡ map (kind_in l.bytes) (take l.token-index l.tokens)
