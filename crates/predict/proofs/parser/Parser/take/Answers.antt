use Rattle.std.proofs.Common.{arith, reverse, sym}
use Rattle.predict.specs.declared.symbol.Symbol.TheVariants.{Kind, Left}
use Rattle.predict.proofs.Take.{shown, none_shown, kind_taken, kind_opens, kind_refused, row_refused, end_refused, row_alike, row_opens, row_lighter}
use Rattle.predict.proofs.parser.Parser.take.Goals as goal

pub returns-in-Kind-clause-taken : goal.returns-in-Kind-clause-taken
returns-in-Kind-clause-taken g c h =
    let at = shown c.loop-symbol.self.stack.items c.pop.new.self.items c.in-Some.symbol (Kind c.in-Kind.wanted) c.in-Some.ensures.items c.in-Kind.is in
    kind_taken (g.G.Grammar.rules c.args.grammar.now) c.args.kind c.in-Kind.wanted _ _ _ _ _ c.loop-symbol.invariant.alike at h

pub returns-in-Kind-clause-left : goal.returns-in-Kind-clause-left
returns-in-Kind-clause-left g c h =
    let grammar = c.args.grammar.now in
    let at = shown c.loop-symbol.self.stack.items c.pop.new.self.items c.in-Some.symbol (Kind c.in-Kind.wanted) c.in-Some.ensures.items c.in-Kind.is in
    kind_opens (g.G.Grammar.rules grammar) (g.G.Grammar.is_open grammar) (g.met.G.Grammar.no_dead_end grammar) c.in-Kind.wanted _ _ at c.loop-symbol.invariant.left

pub returns-in-Kind-clause-refused : goal.returns-in-Kind-clause-refused
returns-in-Kind-clause-refused g c h =
    let at = shown c.loop-symbol.self.stack.items c.pop.new.self.items c.in-Some.symbol (Kind c.in-Kind.wanted) c.in-Some.ensures.items c.in-Kind.is in
    kind_refused (g.G.Grammar.rules c.args.grammar.now) c.args.kind c.in-Kind.wanted _ _ _ _ _ c.loop-symbol.invariant.alike at h

pub returns-in-None-clause-refused : goal.returns-in-None-clause-refused
returns-in-None-clause-refused g c h =
    let at = shown c.loop-symbol.self.stack.items c.pop.new.self.items c.in-Some.symbol (Left c.in-Left.left) c.in-Some.ensures.items c.in-Left.is in
    row_refused (g.G.Grammar.rules c.args.grammar.now) c.args.kind c.in-Left.left _ _ _ _ _ c.loop-symbol.invariant.alike at (sym c.in-None.ensures)

pub returns-clause-refused : goal.returns-clause-refused
returns-clause-refused g c h =
    end_refused (g.G.Grammar.rules c.args.grammar.now) c.args.kind _ _ _ _ c.loop-symbol.invariant.alike (none_shown c.loop-symbol.self.stack.items (omega (arith, c.in_default.ensures.cases.0, c.loop-symbol.self.stack.ok.0)))

pub loop-symbol-preserved : goal.loop-symbol-preserved
loop-symbol-preserved g c =
    let grammar = c.args.grammar.now in
    let expanded = c.in_ok-expand-in-Some-row.ensures in
    let at = shown c.loop-symbol.self.stack.items c.pop.new.self.items c.in-Some.symbol (Left c.in-Left.left) c.in-Some.ensures.items c.in-Left.is in
    record {
      alike = row_alike (g.G.Grammar.rules grammar) c.args.kind c.in-Left.left c.in-Some-row.row _ _ _ _ _ _ _ c.loop-symbol.invariant.alike at (sym c.in-Some-row.ensures) expanded.stack expanded.nodes;
      left = row_opens (g.G.Grammar.rules grammar) (g.G.Grammar.is_open grammar) (g.met.G.Grammar.no_dead_end grammar) c.args.kind c.in-Left.left c.in-Some-row.row _ _ _ at (sym c.in-Some-row.ensures) expanded.stack c.loop-symbol.invariant.left;
    }

pub loop-symbol-smaller : goal.loop-symbol-smaller
loop-symbol-smaller g c =
    let grammar = c.args.grammar.now in
    let expanded = c.in_ok-expand-in-Some-row.ensures in
    let at = shown c.loop-symbol.self.stack.items c.pop.new.self.items c.in-Some.symbol (Left c.in-Left.left) c.in-Some.ensures.items c.in-Left.is in
    row_lighter (g.G.Grammar.rules grammar) (g.G.Grammar.rank grammar) (g.G.Grammar.empty grammar) 4294967296 (g.met.G.Grammar.no_left_recursion grammar) c.args.kind c.in-Left.left c.in-Some-row.row (reverse c.loop-symbol.self.stack.items) (reverse c.pop.new.self.items) (reverse c.expand.new.self.stack.items) at (sym c.in-Some-row.ensures) expanded.stack expanded.few
