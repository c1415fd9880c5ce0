-- What is due in the rows of operands, and in those of what follows a first operand.
use Rattle.std.specs.Prelude.{◌≡◌, ℕ, Bool, true, false, List, [], ◌∷◌, refl}
use Rattle.std.proofs.Common.{subst}
use Rattle.predict.specs.declared.symbol.Symbol.{Symbol}
use Rattle.predict.specs.declared.symbol.Symbol.TheVariants.{Kind, Left}
use Rattle.predict.specs.Table.{is_among}
use Rattle.predict.specs.Tree.{Tree}
use Rattle.va_grammar.specs.Nonterminals.{nonterminal_number}
use Rattle.va_grammar.specs.Rows.{rule}
use Rattle.va_grammar.specs.Sets.{va_rules}
use Rattle.va_grammar.specs.declared.nonterminal.Nonterminal.TheVariants as nonterminal
use Rattle.va_tree.specs.declared.expr.BinaryOp.{BinaryOp}
use Rattle.va_tree.specs.declared.expr.UnaryOp.{UnaryOp}
use Rattle.va_build.specs.Due.{AreDue, IsOperandDue, IsTailDue, next_row, operands, operand_rows, tails, tail_rows}
use Rattle.va_build.specs.Reading.{row_symbols, Ahead, Reads, TakesEnd, TakesRow, TakesToken, IsOperandRow, IsTailRow, first_tree, trees}
use Rattle.va_build.specs.declared.operators.OperandRow.{OperandRow}
use Rattle.va_build.specs.declared.operators.OperandRow.TheVariants.{Operands, Sign, Unsigned}
use Rattle.va_build.specs.declared.operators.TailRow.{TailRow}
use Rattle.va_build.specs.declared.operators.TailRow.TheVariants.{Operator}
use Rattle.va_build.proofs.SizeDerived.{has_rows, row_among, Each, each_at}
use Rattle.va_build.proofs.DueRows.{behind, next_among, passed, row_of, taken}

-- the symbols of a row of an operand
abbrev pub OperandFits : List Symbol → Type 0
OperandFits [] = ⊥
OperandFits (Left a ∷ []) = a ≡ nonterminal_number nonterminal.Primary
OperandFits (Left a ∷ Left b ∷ more) = (is_among operands a ≡ true) × (is_among tails b ≡ true)
OperandFits (Left a ∷ Kind k ∷ more) = ⊥
OperandFits (Kind k ∷ []) = ⊥
OperandFits (Kind k ∷ Left a ∷ more) = is_among operands a ≡ true
OperandFits (Kind k ∷ Kind j ∷ more) = ⊥

-- the symbols of a row of what follows a first operand
abbrev pub TailFits : List Symbol → Type 0
TailFits [] = Unit {0}
TailFits (Left a ∷ more) = ⊥
TailFits (Kind k ∷ []) = ⊥
TailFits (Kind k ∷ Kind j ∷ more) = ⊥
TailFits (Kind k ∷ Left a ∷ []) = ⊥
TailFits (Kind k ∷ Left a ∷ Kind j ∷ more) = ⊥
TailFits (Kind k ∷ Left a ∷ Left b ∷ more) = (is_among operands a ≡ true) × (is_among tails b ≡ true)

operands_have : Each (λ (l : ℕ). has_rows l operand_rows ≡ true) operands
operands_have = (refl, (refl, (refl, (refl, (refl, (refl, (refl, (refl, tt))))))))

tails_have : Each (λ (l : ℕ). has_rows l tail_rows ≡ true) tails
tails_have = (refl, (refl, (refl, (refl, (refl, (refl, (refl, tt)))))))

operands_fit : Each (λ (i : ℕ). OperandFits (row_symbols i)) operand_rows
unfolding row_symbols
operands_fit = ((refl, refl), ((refl, refl), ((refl, refl), ((refl, refl), ((refl, refl), ((refl, refl), ((refl, refl), (refl, (refl, (refl, (refl, tt)))))))))))

tails_fit : Each (λ (i : ℕ). TailFits (row_symbols i)) tail_rows
unfolding row_symbols
tails_fit = ((refl, refl), (tt, ((refl, refl), (tt, ((refl, refl), ((refl, refl), (tt, ((refl, refl), ((refl, refl), ((refl, refl), ((refl, refl), (tt, ((refl, refl), ((refl, refl), (tt, ((refl, refl), ((refl, refl), ((refl, refl), (tt, ((refl, refl), (tt, tt)))))))))))))))))))))

-- an operand has a row of operands
pub operand_among : {row : ℕ} {a b : Ahead} → IsOperandDue a → TakesRow a b row → is_among operand_rows row ≡ true
operand_among {row} {a} {b} d t = row_among d.0 operand_rows row (va_rules.symbols row) (each_at (λ (l : ℕ). has_rows l operand_rows ≡ true) operands d.0 operands_have d.1) (row_of d.2 t)

pub tail_among : {row : ℕ} {a b : Ahead} → IsTailDue a → TakesRow a b row → is_among tail_rows row ≡ true
tail_among {row} {a} {b} d t = row_among d.0 tail_rows row (va_rules.symbols row) (each_at (λ (l : ℕ). has_rows l tail_rows ≡ true) tails d.0 tails_have d.1) (row_of d.2 t)

pub tail_next : {a : Ahead} → IsTailDue a → is_among tail_rows (next_row a) ≡ true
tail_next {a} d = next_among d.0 d.2.derived.0.0 (first_tree (trees a)) tail_rows (each_at (λ (l : ℕ). has_rows l tail_rows ≡ true) tails d.0 tails_have d.1) d.2.derived.0.1

operand_fits : {row : ℕ} {a b : Ahead} → IsOperandDue a → TakesRow a b row → OperandFits (row_symbols row)
operand_fits {row} {a} {b} d t = each_at (λ (i : ℕ). OperandFits (row_symbols i)) operand_rows row operands_fit (operand_among d t)

tail_fits : {row : ℕ} {a b : Ahead} → IsTailDue a → TakesRow a b row → TailFits (row_symbols row)
tail_fits {row} {a} {b} d t = each_at (λ (i : ℕ). TailFits (row_symbols i)) tail_rows row tails_fit (tail_among d t)

-- what is due in a row of these symbols
symbols_due : {l row : ℕ} {a b : Ahead} (symbols : List Symbol) → AreDue (Left l ∷ []) a → TakesRow a b row → row_symbols row ≡ symbols → AreDue symbols b
symbols_due {l} {row} {a} {b} symbols d t is = subst (λ (s : List Symbol). AreDue s b) is (taken row d t refl)

-- a first operand and what follows it
pub record PairDue (b : Ahead) : Type 0 where
  pub first : ℕ
  pub rest : ℕ
  pub first_is : is_among operands first ≡ true
  pub rest_is : is_among tails rest ≡ true
  pub due : AreDue (Left first ∷ Left rest ∷ []) b

pub pair_due : {row : ℕ} {r : OperandRow} {a b : Ahead} → IsOperandDue a → TakesRow a b row → IsOperandRow row r → r ≡ Operands → PairDue b
pair_due {row} {r} {a} {b} d t row_is is =
    let s : IsOperandRow row Operands = subst (IsOperandRow row) is row_is in
    let fits : OperandFits (Left s.0 ∷ Left s.1 ∷ []) = subst OperandFits s.2 (operand_fits d t) in
    record { first = s.0; rest = s.1; first_is = fits.0; rest_is = fits.1; due = symbols_due (Left s.0 ∷ Left s.1 ∷ []) d.2 t s.2 }

-- what follows the first operand is due
pub rest_due : {X : Type 0} {meaning : ℕ → Tree → X} {x a : Ahead} {value : X} → PairDue x → Reads meaning x a value → IsTailDue a
rest_due p r = (p.rest, p.rest_is, behind p.due r)

-- where no end was taken, nothing was
pub left_alone : (ends : Bool) (a b : Ahead) → TakesEnd ends a b → ends ≡ false → b ≡ a
left_alone ends a b h is = subst (λ (e : Bool). TakesEnd e a b) is h

-- a sign and its operand
pub record SignDue (b : Ahead) : Type 0 where
  pub sign : ℕ
  pub operand : ℕ
  pub operand_is : is_among operands operand ≡ true
  pub due : AreDue (Kind sign ∷ Left operand ∷ []) b

pub sign_due : {row : ℕ} {r : OperandRow} {op : UnaryOp} {a b : Ahead} → IsOperandDue a → TakesRow a b row → IsOperandRow row r → r ≡ Sign op → SignDue b
sign_due {row} {r} {op} {a} {b} d t row_is is =
    let s : IsOperandRow row (Sign op) = subst (IsOperandRow row) is row_is in
    let fits : OperandFits (Kind s.0 ∷ Left s.1 ∷ []) = subst OperandFits s.2 (operand_fits d t) in
    record { sign = s.0; operand = s.1; operand_is = fits; due = symbols_due (Kind s.0 ∷ Left s.1 ∷ []) d.2 t s.2 }

-- an operand without signs
pub unsigned_due : {row : ℕ} {r : OperandRow} {a b : Ahead} → IsOperandDue a → TakesRow a b row → IsOperandRow row r → r ≡ Unsigned → AreDue (rule nonterminal.Primary ∷ []) b
unsigned_due {row} {r} {a} {b} d t row_is is =
    let s : IsOperandRow row Unsigned = subst (IsOperandRow row) is row_is in
    let fits : OperandFits (Left s.0 ∷ []) = subst OperandFits s.1 (operand_fits d t) in
    subst (λ (l : ℕ). AreDue (Left l ∷ []) b) fits (symbols_due (Left s.0 ∷ []) d.2 t s.1)

-- an operator, its right operand, and what follows it
pub record OperatorDue (b : Ahead) : Type 0 where
  pub operator : ℕ
  pub right : ℕ
  pub rest : ℕ
  pub right_is : is_among operands right ≡ true
  pub rest_is : is_among tails rest ≡ true
  pub due : AreDue (Kind operator ∷ Left right ∷ Left rest ∷ []) b

pub operator_due : {row : ℕ} {r : TailRow} {op : BinaryOp} {a b : Ahead} → IsTailDue a → TakesRow a b row → IsTailRow row r → r ≡ Operator op → OperatorDue b
operator_due {row} {r} {op} {a} {b} d t row_is is =
    let s : IsTailRow row (Operator op) = subst (IsTailRow row) is row_is in
    let fits : TailFits (Kind s.0 ∷ Left s.1 ∷ Left s.2 ∷ []) = subst TailFits s.3 (tail_fits d t) in
    record { operator = s.0; right = s.1; rest = s.2; right_is = fits.0; rest_is = fits.1; due = symbols_due (Kind s.0 ∷ Left s.1 ∷ Left s.2 ∷ []) d.2 t s.3 }

-- what follows the right operand is due
pub tail_due : {X : Type 0} {meaning : ℕ → Tree → X} {x y a : Ahead} {i : ℕ} {value : X} → OperatorDue x → TakesToken x y i → Reads meaning y a value → IsTailDue a
tail_due o t r = (o.rest, o.rest_is, behind (passed o.due t) r)
