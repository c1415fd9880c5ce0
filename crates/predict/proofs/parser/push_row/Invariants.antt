use Rattle.std.proofs.Common.{◌≡◌, ◌+◌, ◌≤◌, ◌++◌, reverse, drop}
use Rattle.predict.specs.Rules.{nonterminal_count}
use Rattle.predict.proofs.parser.push_row.Given as goal

-- the symbols from i on are in front, and their nonterminals are counted
abbrev pub invariant-loop-i : goal.invariant-loop-i
invariant-loop-i g l =
    let symbols = (g.G.Grammar.rules l.grammar).symbols l.row in
    record {
      pushed : reverse l.stack.items ≡ drop l.i symbols ++ reverse l.fn.stack.items;
      counted : l.children ≡ nonterminal_count (drop l.i symbols);
      few : l.children + l.i ≤ l.count;
    }
