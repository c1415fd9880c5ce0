use Rattle.std.proofs.Common.{arith, sym, ap, ◌∙◌, Some, rules}
use Rattle.va_grammar.specs.Sets.{va_rules}
use Rattle.va_grammar.proofs.VaSymbols.{row_few, parts_length, part_symbol}
use Rattle.va_grammar.proofs.va_rows.VaRowsGrammar.symbol.Goals as goal

pub offset_bounds-parts-i : goal.offset_bounds-parts-i
offset_bounds-parts-i c = search (rules, arith, row_few c.args.row c.requires.row, c.requires.within)

pub bounds-parts-i : goal.bounds-parts-i
bounds-parts-i c = omega (arith, parts_length c.parts.result.now (va_rules.symbols c.args.row) c.parts.ensures, c.requires.within)

pub returns : goal.returns
returns c = part_symbol c.parts.result.now (va_rules.symbols c.args.row) c.args.i _ c.parts.ensures c.requires.within ∙ ap Some (sym c.symbol.ensures)
