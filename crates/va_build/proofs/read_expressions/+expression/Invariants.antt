use Rattle.std.specs.Prelude.{◌∷◌, ◌++◌, length}
use Rattle.va_grammar.specs.declared.nonterminal.Nonterminal.TheVariants as nonterminal
use Rattle.va_build.specs.Due.{IsDue, IsTailDue}
use Rattle.va_build.specs.Reading.{ReadsOn}
use Rattle.va_build.specs.SourceExpressions.{chain, more_arguments}
use Rattle.va_build.proofs.read_expressions.+expression.Given as goal

abbrev pub decreases-argument : goal.decreases-argument
decreases-argument l = length l.reader.now.nodes

abbrev pub decreases-arguments : goal.decreases-arguments
decreases-arguments l = length l.reader.now.nodes

abbrev pub decreases-called : goal.decreases-called
decreases-called l = length l.reader.now.nodes

abbrev pub decreases-chain : goal.decreases-chain
decreases-chain l = length l.reader.now.nodes

abbrev pub decreases-choice : goal.decreases-choice
decreases-choice l = length l.reader.now.nodes

abbrev pub decreases-expression : goal.decreases-expression
decreases-expression l = length l.reader.now.nodes

abbrev pub decreases-more_arguments : goal.decreases-more_arguments
decreases-more_arguments l = length l.reader.now.nodes

abbrev pub decreases-operand : goal.decreases-operand
decreases-operand l = length l.reader.now.nodes

abbrev pub decreases-primary : goal.decreases-primary
decreases-primary l = length l.reader.now.nodes

abbrev pub invariant-chain-loop-op : goal.invariant-chain-loop-op
invariant-chain-loop-op l = record { reads : ReadsOn (chain l.e l.first l.value) (chain l.e l.first l.fn.left) l.initial.reader l.reader; due : IsTailDue l.reader }

abbrev pub decreases-chain-loop-op : goal.decreases-chain-loop-op
decreases-chain-loop-op l = length l.reader.nodes

abbrev pub invariant-more_arguments-loop-reader : goal.invariant-more_arguments-loop-reader
invariant-more_arguments-loop-reader l = record { reads : ReadsOn (λ at t. l.args.items ++ more_arguments l.e at t) (λ at t. l.fn.first ∷ more_arguments l.e at t) l.initial.reader l.reader; due : IsDue nonterminal.MoreArguments l.reader }

abbrev pub decreases-more_arguments-loop-reader : goal.decreases-more_arguments-loop-reader
decreases-more_arguments-loop-reader l = length l.reader.nodes
