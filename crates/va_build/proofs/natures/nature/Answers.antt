use Rattle.std.proofs.Common.{arith, refl, sym}
use Rattle.va_build.specs.Reading.{row_symbols}
use Rattle.va_build.specs.SourceOf.{discipline_of, module_of, nature}
use Rattle.va_build.proofs.TakenRows.{read, told}
use Rattle.va_build.proofs.DueRows.{behind, node_left, one_due, only, passed, taken_only, token_left}
use Rattle.va_build.proofs.natures.nature.Goals as goal

pub returns-clause-nature : goal.returns-clause-nature
unfolding row_symbols
returns-clause-nature c = read (nature c.args.e.now c.args.attributes.items) _ _ _ _ 15 _ c.enter.ensures (only 15 c.requires.due c.enter.ensures refl) (grind arith) (grind arith) (grind arith) (grind arith)

pub returns-clause-no_discipline : goal.returns-clause-no_discipline
unfolding row_symbols
returns-clause-no_discipline c = sym (told (λ tree. discipline_of c.args.e.now c.args.attributes.items c.args.reader.now.at tree) _ _ _ 15 _ c.enter.ensures (only 15 c.requires.due c.enter.ensures refl) refl)

pub returns-clause-no_module : goal.returns-clause-no_module
unfolding row_symbols
returns-clause-no_module c = sym (told (λ tree. module_of c.args.e.now c.args.attributes.items c.args.reader.now.at tree) _ _ _ 15 _ c.enter.ensures (only 15 c.requires.due c.enter.ensures refl) refl)

pub enter-requires : goal.enter-requires
enter-requires c = node_left c.requires.due

pub pass-requires : goal.pass-requires
unfolding row_symbols
pass-requires c = token_left (taken_only 15 c.requires.due c.enter.ensures refl)

pub pass-at-requires : goal.pass-at-requires
unfolding row_symbols
pass-at-requires c = token_left (passed (taken_only 15 c.requires.due c.enter.ensures refl) c.pass.ensures)

pub parent-requires-clause-due : goal.parent-requires-clause-due
unfolding row_symbols
parent-requires-clause-due c = one_due (passed (passed (taken_only 15 c.requires.due c.enter.ensures refl) c.pass.ensures) c.pass-at.ensures)

pub semicolon-requires : goal.semicolon-requires
unfolding row_symbols
semicolon-requires c = record { due = one_due (behind (passed (passed (taken_only 15 c.requires.due c.enter.ensures refl) c.pass.ensures) c.pass-at.ensures) c.in_ok-parent.ensures) }

pub nature_items-requires-clause-due : goal.nature_items-requires-clause-due
unfolding row_symbols
nature_items-requires-clause-due c = one_due (behind (behind (passed (passed (taken_only 15 c.requires.due c.enter.ensures refl) c.pass.ensures) c.pass-at.ensures) c.in_ok-parent.ensures) c.semicolon.ensures)

pub pass-requires-2 : goal.pass-requires-2
unfolding row_symbols
pass-requires-2 c = token_left (behind (behind (behind (passed (passed (taken_only 15 c.requires.due c.enter.ensures refl) c.pass.ensures) c.pass-at.ensures) c.in_ok-parent.ensures) c.semicolon.ensures) c.in_ok-items.ensures)
