use Rattle.std.specs.Prelude.{◌≡◌, ◌+◌, ◌*◌, ◌++◌, length}
use Rattle.va_grammar.specs.declared.nonterminal.Nonterminal.TheVariants as nonterminal
use Rattle.va_build.specs.Due.{IsDue}
use Rattle.va_build.specs.Reading.{ReadsOn}
use Rattle.va_build.specs.SourceStatements.{statements, case_items, case_defaults}
use Rattle.va_build.proofs.read_statements.+statement.Given as goal

abbrev pub decreases-statement : goal.decreases-statement
decreases-statement l = 3 * length l.reader.now.nodes + 2

abbrev pub decreases-loop_or_wait : goal.decreases-loop_or_wait
decreases-loop_or_wait l = 3 * length l.reader.now.nodes + 1

abbrev pub decreases-block : goal.decreases-block
decreases-block l = 3 * length l.reader.now.nodes

abbrev pub decreases-statements : goal.decreases-statements
decreases-statements l = 3 * length l.reader.now.nodes

abbrev pub decreases-if_statement : goal.decreases-if_statement
decreases-if_statement l = 3 * length l.reader.now.nodes

abbrev pub decreases-else_branch : goal.decreases-else_branch
decreases-else_branch l = 3 * length l.reader.now.nodes

abbrev pub decreases-case_statement : goal.decreases-case_statement
decreases-case_statement l = 3 * length l.reader.now.nodes

abbrev pub decreases-case_parts : goal.decreases-case_parts
decreases-case_parts l = 3 * length l.reader.now.nodes

abbrev pub decreases-case_item : goal.decreases-case_item
decreases-case_item l = 3 * length l.reader.now.nodes

abbrev pub decreases-case_default : goal.decreases-case_default
decreases-case_default l = 3 * length l.reader.now.nodes

abbrev pub invariant-statements-loop-reader : goal.invariant-statements-loop-reader
invariant-statements-loop-reader l = record { reads : ReadsOn (λ at t. l.done.items ++ statements l.e at t) (λ at t. l.initial.done.items ++ statements l.e at t) l.initial.reader l.reader; due : IsDue nonterminal.Statements l.reader }

abbrev pub decreases-statements-loop-reader : goal.decreases-statements-loop-reader
decreases-statements-loop-reader l = length l.reader.nodes

abbrev pub invariant-case_parts-loop-reader : goal.invariant-case_parts-loop-reader
invariant-case_parts-loop-reader l = record { items : ReadsOn (λ at t. l.items.items ++ case_items l.e at t) (λ at t. l.initial.items.items ++ case_items l.e at t) l.initial.reader l.reader; defaults : ReadsOn (λ at t. l.defaults.items ++ case_defaults l.e at t) (λ at t. l.initial.defaults.items ++ case_defaults l.e at t) l.initial.reader l.reader; done : l.done.items ≡ l.initial.done.items; due : IsDue nonterminal.CaseItems l.reader }

abbrev pub decreases-case_parts-loop-reader : goal.decreases-case_parts-loop-reader
decreases-case_parts-loop-reader l = length l.reader.nodes
