-- The parts of a row as the parser knows them.
use Rattle.predict.specs.declared.symbol.Symbol.{Symbol}
use Rattle.predict.specs.declared.symbol.Symbol.TheVariants.{Kind, Left}
use Rattle.va_grammar.specs.Terminals.{terminal_number}
use Rattle.va_grammar.specs.Nonterminals.{nonterminal_number}
use Rattle.va_grammar.specs.declared.rows.Part.{Part}
use Rattle.va_grammar.specs.declared.rows.Part.TheVariants.{Token, Rule}

-- the symbol that a part is, by its number
abbrev pub symbol_of : Part → Symbol
symbol_of (Token terminal) = Kind (terminal_number terminal)
symbol_of (Rule nonterminal) = Left (nonterminal_number nonterminal)
