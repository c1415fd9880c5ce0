use Rattle.std.specs.Prelude.{◌∷◌, ◌++◌, length}
use Rattle.va_grammar.specs.declared.nonterminal.Nonterminal.TheVariants as nonterminal
use Rattle.va_build.specs.Due.{IsDue}
use Rattle.va_build.specs.Reading.{ReadsOn}
use Rattle.va_build.specs.SourceStatements.{more_variables}
use Rattle.va_build.proofs.statement_parts.variables_behind.Given as goal

abbrev pub invariant-loop-reader : goal.invariant-loop-reader
invariant-loop-reader l = record { reads : ReadsOn (λ at t. l.list.items ++ more_variables l.e at t) (λ at t. l.fn.first ∷ more_variables l.e at t) l.initial.reader l.reader; due : IsDue nonterminal.MoreVariables l.reader }

abbrev pub decreases-loop-reader : goal.decreases-loop-reader
decreases-loop-reader l = length l.reader.nodes
