use Rattle.std.specs.Prelude.{◌++◌, length}
use Rattle.va_grammar.specs.declared.nonterminal.Nonterminal.TheVariants as nonterminal
use Rattle.va_build.specs.Due.{IsDue}
use Rattle.va_build.specs.Reading.{ReadsOn}
use Rattle.va_build.specs.SourceOf.{nature_items}
use Rattle.va_build.proofs.natures.nature_items.Given as goal

abbrev pub invariant-loop-reader : goal.invariant-loop-reader
invariant-loop-reader l = record { reads : ReadsOn (λ at t. l.list.items ++ nature_items l.e at t) (nature_items l.e) l.initial.reader l.reader; due : IsDue nonterminal.NatureItems l.reader }

abbrev pub decreases-loop-reader : goal.decreases-loop-reader
decreases-loop-reader l = length l.reader.nodes
