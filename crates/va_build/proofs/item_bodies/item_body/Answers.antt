use Rattle.std.proofs.Common.{refl, [], ◌∷◌, ◌∙◌, sym, inl, inr}
use Rattle.va_build.proofs.DueRows.{node_left, not_next}
use Rattle.va_build.proofs.item_bodies.item_body.Goals as goal

pub peek-requires : goal.peek-requires
peek-requires c = node_left c.requires.due

pub direction_item-requires-clause-row : goal.direction_item-requires-clause-row
direction_item-requires-clause-row c = sym c.peek.ensures ∙ c.in-40.is

pub nodes-requires-clause-row : goal.nodes-requires-clause-row
nodes-requires-clause-row c = sym c.peek.ensures ∙ c.in-41.is

pub branch-alloc-requires-clause-row : goal.branch-alloc-requires-clause-row
branch-alloc-requires-clause-row c = sym c.peek.ensures ∙ c.in-42.is

pub parameter_item-requires-clause-row : goal.parameter_item-requires-clause-row
parameter_item-requires-clause-row c = inl (sym c.peek.ensures ∙ c.in-43.is)

pub parameter_item-requires-in-44-clause-row : goal.parameter_item-requires-in-44-clause-row
parameter_item-requires-in-44-clause-row c = inr (sym c.peek.ensures ∙ c.in-44.is)

pub alias-requires-clause-row : goal.alias-requires-clause-row
alias-requires-clause-row c = sym c.peek.ensures ∙ c.in-45.is

pub variable_item-requires-clause-row : goal.variable_item-requires-clause-row
variable_item-requires-clause-row c = inl (sym c.peek.ensures ∙ c.in-46.is)

pub variable_item-requires-in-47-clause-row : goal.variable_item-requires-in-47-clause-row
variable_item-requires-in-47-clause-row c = inr (sym c.peek.ensures ∙ c.in-47.is)

pub analog_item-requires-clause-row : goal.analog_item-requires-clause-row
analog_item-requires-clause-row c = sym c.peek.ensures ∙ c.in-48.is

pub unreachable-requires : goal.unreachable-requires
unreachable-requires c = not_next (40 ∷ 41 ∷ 42 ∷ 43 ∷ 44 ∷ 45 ∷ 46 ∷ 47 ∷ 48 ∷ []) c.requires.due c.peek.ensures refl (c.in_default.in_default-own.rest.0.0.0.0.0.0.0.0.1, (c.in_default.in_default-own.rest.0.0.0.0.0.0.0.1, (c.in_default.in_default-own.rest.0.0.0.0.0.0.1, (c.in_default.in_default-own.rest.0.0.0.0.0.1, (c.in_default.in_default-own.rest.0.0.0.0.1, (c.in_default.in_default-own.rest.0.0.0.1, (c.in_default.in_default-own.rest.0.0.1, (c.in_default.in_default-own.rest.0.1, (c.in_default.in_default-own.rest.1, tt)))))))))
