use Rattle.std.specs.Prelude.{◌++◌, length}
use Rattle.va_grammar.specs.declared.nonterminal.Nonterminal.TheVariants as nonterminal
use Rattle.va_build.specs.Due.{IsDue}
use Rattle.va_build.specs.Reading.{ReadsOn}
use Rattle.va_build.specs.SourceStatements.{declarations}
use Rattle.va_build.proofs.statement_parts.declarations.Given as goal

abbrev pub invariant-loop-reader : goal.invariant-loop-reader
invariant-loop-reader l = record { reads : ReadsOn (λ at t. l.list.items ++ declarations l.e at t) (declarations l.e) l.initial.reader l.reader; due : IsDue nonterminal.Declarations l.reader }

abbrev pub decreases-loop-reader : goal.decreases-loop-reader
decreases-loop-reader l = length l.reader.nodes
