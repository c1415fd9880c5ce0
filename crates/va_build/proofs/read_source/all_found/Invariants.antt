use Rattle.std.specs.Prelude.{◌++◌, length}
use Rattle.va_grammar.specs.declared.nonterminal.Nonterminal.TheVariants as nonterminal
use Rattle.va_build.specs.Due.{IsDue}
use Rattle.va_build.specs.Reading.{ReadsOn}
use Rattle.va_build.specs.SourceOf.{all_of_sort, nature, discipline_of, module_of}
use Rattle.va_build.proofs.read_source.all_found.Given as goal

abbrev pub invariant-loop-reader : goal.invariant-loop-reader
invariant-loop-reader l = record { reads : ReadsOn (λ at t. l.found.natures.items ++ all_of_sort nature l.e at t) (all_of_sort nature l.e) l.initial.reader l.reader × ReadsOn (λ at t. l.found.disciplines.items ++ all_of_sort discipline_of l.e at t) (all_of_sort discipline_of l.e) l.initial.reader l.reader × ReadsOn (λ at t. l.found.modules.items ++ all_of_sort module_of l.e at t) (all_of_sort module_of l.e) l.initial.reader l.reader; due : IsDue nonterminal.Source l.reader }

abbrev pub decreases-loop-reader : goal.decreases-loop-reader
decreases-loop-reader l = length l.reader.nodes
