use Rattle.std.specs.Prelude.{◌≡◌, ◌++◌, drop, map}
use Rattle.va_grammar.specs.Kinds.{kind_in, kinds_of}
use Rattle.va_grammar.proofs.token_kinds.kinds.Given as goal

abbrev pub invariant-loop-token : goal.invariant-loop-token
invariant-loop-token l = l.list.items ++ map (kind_in l.e.files) (drop l.token-index l.tokens) ≡ kinds_of l.e
