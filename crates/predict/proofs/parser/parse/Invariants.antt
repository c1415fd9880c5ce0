use Rattle.std.proofs.Common.{◌≡◌, [], reverse, take, length}
use Rattle.predict.specs.Stack.{Reads}
use Rattle.predict.proofs.parser.parse.Given as goal

-- What completes what is left completes the whole text, and the other way round.
abbrev pub invariant-loop-at : goal.invariant-loop-at
invariant-loop-at g l =
    let grammar = g.G.Grammar in
    record {
      reads : Reads (grammar.rules l.grammar) (take l.at l.kinds) (reverse l.parser.stack.items) l.parser.nodes.items;
      left : grammar.is_open l.grammar (reverse l.parser.stack.items);
      ended : l.at ≡ length l.kinds → reverse l.parser.stack.items ≡ [];
    }
