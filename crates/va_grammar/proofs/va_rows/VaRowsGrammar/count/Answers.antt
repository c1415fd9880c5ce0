use Rattle.std.proofs.Common.{arith}
use Rattle.va_grammar.specs.Sets.{va_rules}
use Rattle.va_grammar.proofs.VaSymbols.{row_few, parts_length}
use Rattle.va_grammar.proofs.va_rows.VaRowsGrammar.count.Goals as goal

pub returns-clause-count : goal.returns-clause-count
returns-clause-count c = parts_length c.parts.result.now (va_rules.symbols c.args.row) c.parts.ensures

pub returns-clause-few : goal.returns-clause-few
returns-clause-few c = omega (arith, parts_length c.parts.result.now (va_rules.symbols c.args.row) c.parts.ensures, row_few c.args.row c.requires)
