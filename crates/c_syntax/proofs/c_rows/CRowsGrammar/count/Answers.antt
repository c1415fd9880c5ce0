use Rattle.std.proofs.Common.{arith}
use Rattle.c_syntax.specs.grammar.Sets.{c_rules}
use Rattle.c_syntax.proofs.Tables.{row_few, numbers_length}
use Rattle.c_syntax.proofs.c_rows.CRowsGrammar.count.Goals as goal

pub returns-clause-count : goal.returns-clause-count
returns-clause-count c = numbers_length c.symbols.result.now (c_rules.symbols c.args.row) c.symbols.ensures

pub returns-clause-few : goal.returns-clause-few
returns-clause-few c = omega (arith, numbers_length c.symbols.result.now (c_rules.symbols c.args.row) c.symbols.ensures, row_few c.args.row c.requires)
