use Rattle.std.proofs.Common.{reverse}
use Rattle.predict.specs.Stack.{AreAlike}
use Rattle.predict.proofs.Weight.{weight}
use Rattle.predict.proofs.parser.Parser.take.Given as goal

-- What is left is as good as what was left, where this kind comes next.
abbrev pub invariant-loop-symbol : goal.invariant-loop-symbol
invariant-loop-symbol g l =
    let grammar = g.G.Grammar in
    record {
      alike : AreAlike (grammar.rules l.grammar) l.kind (reverse l.fn.self.stack.items) l.fn.self.nodes.items (reverse l.self.stack.items) l.self.nodes.items;
      left : grammar.is_open l.grammar (reverse l.self.stack.items);
    }

-- a row has fewer symbols than the base
abbrev pub decreases-loop-symbol : goal.decreases-loop-symbol
decreases-loop-symbol g l = weight 4294967296 (g.G.Grammar.rank l.grammar) (g.G.Grammar.empty l.grammar) (reverse l.self.stack.items)
