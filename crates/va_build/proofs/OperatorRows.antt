-- Rows of several nonterminals with symbols of one form.
use Rattle.std.specs.Prelude.{◌≡◌, ℕ, true, [], ◌∷◌, refl}
use Rattle.predict.specs.Table.{is_among}
use Rattle.va_build.specs.Due.{operand_rows, tail_rows}
use Rattle.va_build.specs.Reading.{row_symbols, IsOperandRow, IsTailRow}
use Rattle.va_build.specs.declared.operators.OperandRow.TheVariants.{Operands}
use Rattle.va_build.specs.declared.operators.TailRow.TheVariants.{End}
use Rattle.va_build.proofs.SizeDerived.{each_at}

-- a row of an operand that has no sign and isn't unsigned
pub operands : (row : ℕ) → is_among operand_rows row ≡ true → (row ≡ 162 → ⊥) → (row ≡ 163 → ⊥) → (row ≡ 164 → ⊥) → (row ≡ 165 → ⊥) → IsOperandRow row Operands
unfolding row_symbols
operands row is = each_at (λ (i : ℕ). (i ≡ 162 → ⊥) → (i ≡ 163 → ⊥) → (i ≡ 164 → ⊥) → (i ≡ 165 → ⊥) → IsOperandRow i Operands) operand_rows row
    ((λ _ _ _ _. (_, _, refl)), ((λ _ _ _ _. (_, _, refl)), ((λ _ _ _ _. (_, _, refl)), ((λ _ _ _ _. (_, _, refl)), ((λ _ _ _ _. (_, _, refl)), ((λ _ _ _ _. (_, _, refl)), ((λ _ _ _ _. (_, _, refl)), ((λ p _ _ _. absurd (p refl)), ((λ _ p _ _. absurd (p refl)), ((λ _ _ p _. absurd (p refl)), ((λ _ _ _ p. absurd (p refl)), tt)))))))))))
    is

-- a row of what follows a first operand that has no operator
pub ends : (row : ℕ) → is_among tail_rows row ≡ true → (row ≡ 135 → ⊥) → (row ≡ 138 → ⊥) → (row ≡ 141 → ⊥) → (row ≡ 142 → ⊥) → (row ≡ 145 → ⊥) → (row ≡ 146 → ⊥) → (row ≡ 147 → ⊥) → (row ≡ 148 → ⊥) → (row ≡ 151 → ⊥) → (row ≡ 152 → ⊥) → (row ≡ 155 → ⊥) → (row ≡ 156 → ⊥) → (row ≡ 157 → ⊥) → (row ≡ 160 → ⊥) → IsTailRow row End
unfolding row_symbols
ends row is = each_at (λ (i : ℕ). (i ≡ 135 → ⊥) → (i ≡ 138 → ⊥) → (i ≡ 141 → ⊥) → (i ≡ 142 → ⊥) → (i ≡ 145 → ⊥) → (i ≡ 146 → ⊥) → (i ≡ 147 → ⊥) → (i ≡ 148 → ⊥) → (i ≡ 151 → ⊥) → (i ≡ 152 → ⊥) → (i ≡ 155 → ⊥) → (i ≡ 156 → ⊥) → (i ≡ 157 → ⊥) → (i ≡ 160 → ⊥) → IsTailRow i End) tail_rows row
    ((λ p _ _ _ _ _ _ _ _ _ _ _ _ _. absurd (p refl)), ((λ _ _ _ _ _ _ _ _ _ _ _ _ _ _. refl), ((λ _ p _ _ _ _ _ _ _ _ _ _ _ _. absurd (p refl)), ((λ _ _ _ _ _ _ _ _ _ _ _ _ _ _. refl), ((λ _ _ p _ _ _ _ _ _ _ _ _ _ _. absurd (p refl)), ((λ _ _ _ p _ _ _ _ _ _ _ _ _ _. absurd (p refl)), ((λ _ _ _ _ _ _ _ _ _ _ _ _ _ _. refl), ((λ _ _ _ _ p _ _ _ _ _ _ _ _ _. absurd (p refl)), ((λ _ _ _ _ _ p _ _ _ _ _ _ _ _. absurd (p refl)), ((λ _ _ _ _ _ _ p _ _ _ _ _ _ _. absurd (p refl)), ((λ _ _ _ _ _ _ _ p _ _ _ _ _ _. absurd (p refl)), ((λ _ _ _ _ _ _ _ _ _ _ _ _ _ _. refl), ((λ _ _ _ _ _ _ _ _ p _ _ _ _ _. absurd (p refl)), ((λ _ _ _ _ _ _ _ _ _ p _ _ _ _. absurd (p refl)), ((λ _ _ _ _ _ _ _ _ _ _ _ _ _ _. refl), ((λ _ _ _ _ _ _ _ _ _ _ p _ _ _. absurd (p refl)), ((λ _ _ _ _ _ _ _ _ _ _ _ p _ _. absurd (p refl)), ((λ _ _ _ _ _ _ _ _ _ _ _ _ p _. absurd (p refl)), ((λ _ _ _ _ _ _ _ _ _ _ _ _ _ _. refl), ((λ _ _ _ _ _ _ _ _ _ _ _ _ _ p. absurd (p refl)), ((λ _ _ _ _ _ _ _ _ _ _ _ _ _ _. refl), tt)))))))))))))))))))))
    is
