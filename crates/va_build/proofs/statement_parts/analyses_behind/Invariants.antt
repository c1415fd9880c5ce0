use Rattle.std.specs.Prelude.{◌∷◌, ◌++◌, length}
use Rattle.va_grammar.specs.declared.nonterminal.Nonterminal.TheVariants as nonterminal
use Rattle.va_build.specs.Due.{IsDue}
use Rattle.va_build.specs.Reading.{ReadsOn}
use Rattle.va_build.specs.SourceStatements.{more_analyses}
use Rattle.va_build.proofs.statement_parts.analyses_behind.Given as goal

abbrev pub invariant-loop-reader : goal.invariant-loop-reader
invariant-loop-reader l = record { reads : ReadsOn (λ at t. l.list.items ++ more_analyses l.e at t) (λ at t. l.fn.first ∷ more_analyses l.e at t) l.initial.reader l.reader; due : IsDue nonterminal.MoreEventArguments l.reader }

abbrev pub decreases-loop-reader : goal.decreases-loop-reader
decreases-loop-reader l = length l.reader.nodes
