use Rattle.std.proofs.Common.{refl, sym, ◌∙◌, [], ◌∷◌}
use Rattle.c_raw_build.proofs.DueRows.{node_left, none_next}
use Rattle.c_raw_build.proofs.DueTokens.{ahead}
use Rattle.c_raw_build.proofs.simple.simple.Goals as goal

pub next_row-requires : goal.next_row-requires
next_row-requires c = node_left (ahead c.requires.due)

pub constant-requires-clause-due : goal.constant-requires-clause-due
constant-requires-clause-due c = c.requires.due

pub constant-requires-clause-row : goal.constant-requires-clause-row
constant-requires-clause-row c = sym c.next_row.ensures ∙ c.in-35.is

pub declared-requires-clause-due : goal.declared-requires-clause-due
declared-requires-clause-due c = c.requires.due

pub declared-requires-clause-row : goal.declared-requires-clause-row
declared-requires-clause-row c = sym c.next_row.ensures ∙ c.in-36.is

pub assigned-requires-clause-due : goal.assigned-requires-clause-due
assigned-requires-clause-due c = c.requires.due

pub assigned-requires-clause-row : goal.assigned-requires-clause-row
assigned-requires-clause-row c = sym c.next_row.ensures ∙ c.in-37.is

pub set_model-requires-clause-due : goal.set_model-requires-clause-due
set_model-requires-clause-due c = c.requires.due

pub set_model-requires-clause-row : goal.set_model-requires-clause-row
set_model-requires-clause-row c = sym c.next_row.ensures ∙ c.in-40.is

pub set_instance-requires-clause-due : goal.set_instance-requires-clause-due
set_instance-requires-clause-due c = c.requires.due

pub set_instance-requires-clause-row : goal.set_instance-requires-clause-row
set_instance-requires-clause-row c = sym c.next_row.ensures ∙ c.in-41.is

pub report-requires-clause-due : goal.report-requires-clause-due
report-requires-clause-due c = c.requires.due

pub report-requires-clause-row : goal.report-requires-clause-row
report-requires-clause-row c = sym c.next_row.ensures ∙ c.in-42.is

pub unreachable-requires : goal.unreachable-requires
unreachable-requires c = none_next (35 ∷ 36 ∷ 37 ∷ 38 ∷ 39 ∷ 40 ∷ 41 ∷ 42 ∷ []) (ahead c.requires.due) c.next_row.ensures refl (c.in_default.in_default-own.rest.0.0.0.0.0.1, (c.in_default.in_default-own.rest.0.0.0.0.1, (c.in_default.in_default-own.rest.0.0.0.1, (λ e. c.requires.no_if (sym c.next_row.ensures ∙ e), (λ e. c.requires.no_for (sym c.next_row.ensures ∙ e), (c.in_default.in_default-own.rest.0.0.1, (c.in_default.in_default-own.rest.0.1, (c.in_default.in_default-own.rest.1, tt))))))))
