use Rattle.std.proofs.Common.{◌+◌, ◌-◌, ◌++◌, reverse, drop, arith, ap, sym, ◌∙◌}
use Rattle.predict.specs.Rules.{nonterminal_count}
use Rattle.predict.proofs.Symbols.{drop_read, reverse_pushed, nonterminal_count-cons, nonterminal_count-one}
use Rattle.predict.proofs.parser.push_row.Goals as goal

pub loop-i-preserved : goal.loop-i-preserved
loop-i-preserved g c =
    let symbols = (g.G.Grammar.rules c.args.grammar.now).symbols c.args.row in
    let i = c.loop-i.i in
    let x = c.symbol-symbol.result in
    let more = drop_read symbols i (i - 1) x c.symbol-symbol.ensures (omega arith) in
    let known = c.loop-i.invariant in
    record {
      pushed = reverse_pushed _ _ (drop i symbols) (reverse c.args.stack.now.items) x c.in_ok-push.ensures.items known.pushed ∙ ap (λ t. t ++ reverse c.args.stack.now.items) (sym more);
      counted = (λ j. known.counted j + c.nonterminals-children.ensures j) ∙ nonterminal_count-cons x (drop i symbols) ∙ ap nonterminal_count (sym more);
      few = omega (arith, nonterminal_count-one x);
    }
