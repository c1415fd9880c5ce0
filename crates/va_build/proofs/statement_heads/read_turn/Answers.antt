use Rattle.std.proofs.Common.{refl, ◌∙◌, sym, ◌≡◌}
use Rattle.std.specs.Prelude.{true}
use Rattle.predict.specs.Table.{is_among}
use Rattle.va_build.specs.Due.{loop_rows, turn_rows}
use Rattle.va_build.proofs.SizeDerived.{each_at}
use Rattle.va_build.proofs.DueRows.{node_left}
use Rattle.va_build.proofs.statement_heads.read_turn.Goals as goal

pub peek-requires : goal.peek-requires
peek-requires c = node_left c.requires.due

pub for_head-requires-clause-row : goal.for_head-requires-clause-row
for_head-requires-clause-row c = sym c.peek.ensures ∙ c.in-92.is

pub wait_head-requires-clause-row : goal.wait_head-requires-clause-row
wait_head-requires-clause-row c = sym c.peek.ensures ∙ c.in-95.is

pub loop_head-requires-clause-row : goal.loop_head-requires-clause-row
loop_head-requires-clause-row c = each_at (λ i. (i ≡ 92 → ⊥) → (i ≡ 95 → ⊥) → is_among loop_rows i ≡ true) turn_rows _ ((λ p _. absurd (p refl)), ((λ _ _. refl), ((λ _ _. refl), ((λ _ p. absurd (p refl)), tt)))) c.requires.row (λ h. c.in_default.in_default-own.rest.0.1 (c.peek.ensures ∙ h)) (λ h. c.in_default.in_default-own.rest.1 (c.peek.ensures ∙ h))
