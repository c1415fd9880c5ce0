use Rattle.std.specs.Prelude.{◌∷◌, ◌++◌, length}
use Rattle.va_grammar.specs.declared.nonterminal.Nonterminal.TheVariants as nonterminal
use Rattle.va_build.specs.Due.{IsDue}
use Rattle.va_build.specs.Reading.{ReadsOn}
use Rattle.va_build.specs.SourceItems.{more_names}
use Rattle.va_build.proofs.name_lists.names_behind.Given as goal

abbrev pub invariant-loop-reader : goal.invariant-loop-reader
invariant-loop-reader l = record { reads : ReadsOn (λ at t. l.list.items ++ more_names l.e at t) (λ at t. l.fn.first ∷ more_names l.e at t) l.initial.reader l.reader; due : IsDue nonterminal.MoreNames l.reader }

abbrev pub decreases-loop-reader : goal.decreases-loop-reader
decreases-loop-reader l = length l.reader.nodes
