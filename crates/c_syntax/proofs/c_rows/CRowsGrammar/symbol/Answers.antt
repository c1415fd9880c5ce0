use Rattle.std.proofs.Common.{arith, sym, ap, ◌∙◌, Some}
use Rattle.c_syntax.specs.grammar.Sets.{c_rules}
use Rattle.c_syntax.proofs.Tables.{numbers_length, numbered_symbol}
use Rattle.c_syntax.proofs.c_rows.CRowsGrammar.symbol.Goals as goal

pub bounds-symbols-i : goal.bounds-symbols-i
bounds-symbols-i c = omega (arith, numbers_length c.symbols.result.now (c_rules.symbols c.args.row) c.symbols.ensures, c.requires.within)

pub returns : goal.returns
returns c = numbered_symbol c.symbols.result.now (c_rules.symbols c.args.row) c.args.i c.symbols.ensures c.requires.within ∙ ap Some (sym c.symbol_numbered.ensures)
