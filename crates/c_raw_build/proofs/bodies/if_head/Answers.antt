use Rattle.std.proofs.Common.{refl, subst, sym, ◌∙◌, [], ◌∷◌}
use Rattle.c_raw.specs.declared.body.RawStatement.TheVariants.{Leave}
use Rattle.c_raw_build.specs.Reading.{row_symbols, TakesRow}
use Rattle.c_raw_build.specs.Steps.{ReadsHead}
use Rattle.c_raw_build.proofs.BodyDue.{taken_before}
use Rattle.c_raw_build.proofs.DueRows.{no_other, node_left, room}
use Rattle.c_raw_build.proofs.DueTokens.{ahead, behind, due, passed, taken}
use Rattle.c_raw_build.proofs.Statements.{break_head, if_head}
use Rattle.c_raw_build.proofs.bodies.if_head.Goals as goal

pub returns-in-45-clause-read : goal.returns-in-45-clause-read
returns-in-45-clause-read c =
    let taken_row = subst (TakesRow _ _) c.in-45.is c.row.ensures in
    let head = break_head c.args.text.now _ _ _ _ _ _ c.placed_atom-test.result c.take.ensures c.pass.ensures taken_row c.pass-in-45.ensures _ c.placed_atom-test.ensures c.pass-in-45-2.ensures in
    subst (λ i. ReadsHead c.args.text.now c.args.reader.now c.pass-in-45-2.new.self (Leave i c.placed_atom-test.result)) (sym (c.at-at.ensures ∙ c.take.ensures.at_is)) head

pub returns-in-45-clause-due : goal.returns-in-45-clause-due
unfolding row_symbols
returns-in-45-clause-due c = λ open_blocks d.
    let outer = passed 2 (taken_before 23 38 d c.take.ensures refl) c.pass.ensures refl in
    let inner = passed 1 (taken_before 25 45 outer c.row.ensures c.in-45.is) c.pass-in-45.ensures refl in
    passed 5 (behind inner c.placed_atom-test.ensures refl) c.pass-in-45-2.ensures refl

pub returns-in-46-clause-read : goal.returns-in-46-clause-read
returns-in-46-clause-read c =
    let taken_row = subst (TakesRow _ _) c.in-46.is c.row.ensures in
    if_head c.args.text.now _ _ _ _ _ _ _ c.take.ensures c.pass.ensures taken_row c.placed_atom-test-in-46.ensures c.pass-in-46.ensures

pub returns-in-46-clause-due : goal.returns-in-46-clause-due
unfolding row_symbols
returns-in-46-clause-due c = λ open_blocks d.
    let outer = passed 2 (taken_before 23 38 d c.take.ensures refl) c.pass.ensures refl in
    passed 2 (behind (taken_before 25 46 outer c.row.ensures c.in-46.is) c.placed_atom-test-in-46.ensures refl) c.pass-in-46.ensures refl

pub take-requires-clause-there : goal.take-requires-clause-there
take-requires-clause-there c = node_left (ahead c.requires.due)

pub take-requires-clause-row : goal.take-requires-clause-row
take-requires-clause-row c = c.requires.row

pub pass-requires : goal.pass-requires
unfolding row_symbols
pass-requires c = room 2 (taken 38 c.requires.due c.take.ensures refl).due refl

pub row-requires : goal.row-requires
unfolding row_symbols
row-requires c = node_left (ahead (due {lefts = 25 ∷ []} (passed 2 (taken 38 c.requires.due c.take.ensures refl) c.pass.ensures refl) refl))

pub pass-requires-in-45 : goal.pass-requires-in-45
unfolding row_symbols
pass-requires-in-45 c = room 1 (taken 45 (due {lefts = 25 ∷ []} (passed 2 (taken 38 c.requires.due c.take.ensures refl) c.pass.ensures refl) refl) c.row.ensures c.in-45.is).due refl

pub placed_atom-test-requires : goal.placed_atom-test-requires
unfolding row_symbols
placed_atom-test-requires c = due (passed 1 (taken 45 (due {lefts = 25 ∷ []} (passed 2 (taken 38 c.requires.due c.take.ensures refl) c.pass.ensures refl) refl) c.row.ensures c.in-45.is) c.pass-in-45.ensures refl) refl

pub pass-requires-in-45-2 : goal.pass-requires-in-45-2
unfolding row_symbols
pass-requires-in-45-2 c = room 5 (behind (passed 1 (taken 45 (due {lefts = 25 ∷ []} (passed 2 (taken 38 c.requires.due c.take.ensures refl) c.pass.ensures refl) refl) c.row.ensures c.in-45.is) c.pass-in-45.ensures refl) c.placed_atom-test.ensures refl).due refl

pub placed_atom-test-requires-in-46 : goal.placed_atom-test-requires-in-46
unfolding row_symbols
placed_atom-test-requires-in-46 c = due (taken 46 (due {lefts = 25 ∷ []} (passed 2 (taken 38 c.requires.due c.take.ensures refl) c.pass.ensures refl) refl) c.row.ensures c.in-46.is) refl

pub pass-requires-in-46 : goal.pass-requires-in-46
unfolding row_symbols
pass-requires-in-46 c = room 2 (behind (taken 46 (due {lefts = 25 ∷ []} (passed 2 (taken 38 c.requires.due c.take.ensures refl) c.pass.ensures refl) refl) c.row.ensures c.in-46.is) c.placed_atom-test-in-46.ensures refl).due refl

pub unreachable-requires : goal.unreachable-requires
unfolding row_symbols
unreachable-requires c = no_other (45 ∷ 46 ∷ []) (ahead (due {lefts = 25 ∷ []} (passed 2 (taken 38 c.requires.due c.take.ensures refl) c.pass.ensures refl) refl)) c.row.ensures refl (c.in_default.in_default-own.rest.0.1, (c.in_default.in_default-own.rest.1, tt))
