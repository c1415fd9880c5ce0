use Rattle.std.specs.Prelude.{◌≡◌, drop}
use Rattle.va_grammar.specs.Kinds.{spelled_among}
use Rattle.va_grammar.proofs.token_kinds.spelled.Given as goal

abbrev pub invariant-loop-terminal : goal.invariant-loop-terminal
invariant-loop-terminal l = spelled_among l.terminals l.bytes l.other ≡ spelled_among (drop l.terminal-index l.terminals) l.bytes l.other
