-- What moves with an unknown of the two parts of a value (Time derivative operator): of what is left in a resting circuit, its resistive
-- part, and of what is differentiated by time, its reactive one. In a product with something that has no reactive part, the reactive
-- part moves as the two factors do.
use Rattle.std.specs.Prelude.{◌≡◌, ℕ, ◌==◌, Bool, true, false, List, Option, Some, None}
use Rattle.std.specs.List.{slice_get}
use Rattle.alg_laws.specs.declared.dual.Dual.{Dual}
use Rattle.alg_laws.specs.Dual.{dual}
use Rattle.alg_laws.specs.Operations.{Operations}
use Rattle.alg_laws.specs.Outcome.{gives}
use Rattle.va_sem.specs.declared.branch.Unknown.{Unknown}
use Rattle.va_meaning.specs.Classes.{Classes, Slots, KeepsToClasses}
use Rattle.va_meaning.specs.Elaborated.{Elaborated}
use Rattle.va_meaning.specs.EvaluationLaws.{PointValid}
use Rattle.va_meaning.specs.Motions.{Motion, still, moving, is_below}
use Rattle.va_meaning.specs.Points.{Point}
use Rattle.va_meaning.specs.Residuals.{moved_point, residual_parts}
use Rattle.va_meaning.specs.RowClasses.{RowIn}

-- how the resistive part moves, and the reactive one, if there may be one
pub record TwoParts : Type 0 where
  pub resist : Motion
  pub react : Option Motion

abbrev pub part_below : Option Motion → Option Motion → Type 0
part_below None t = Unit {0}
part_below (Some m) None = ⊥
part_below (Some m) (Some n) = is_below m n

-- a resistive part that moves so, times a reactive one
abbrev pub term_below : Motion → Option Motion → Option Motion → Type 0
term_below r None t = Unit {0}
term_below r (Some q) t = part_below (Some r) t × part_below (Some q) t

-- The derivative of an operation is taken at the resistive part.
abbrev pub keeps_part : Motion → Option Motion → Type 0
keeps_part r None = Unit {0}
keeps_part r (Some m) = is_below r m

abbrev pub two_parts : Classes TwoParts
two_parts = record {
  below = λ k l. is_below k.resist l.resist × part_below k.react l.react;
  closed = λ k. keeps_part k.resist k.react;
  times = λ k l m. is_below k.resist m.resist × is_below l.resist m.resist × term_below k.resist l.react m.react × term_below l.resist k.react m.react;
  derives = λ k l. part_below (Some k.resist) l.react;
  rest = record { resist = still; react = None };
  top = record { resist = moving; react = Some moving };
  answer = record { resist = still; react = None };
}

abbrev pub moves_at : Bool → Motion
moves_at true = moving
moves_at false = still

-- Unknown j moves, and no other.
abbrev pub MovesAlone : ℕ → Slots TwoParts → Type 0
MovesAlone j slots = (i : ℕ) → slots.unknown i ≡ Some (record { resist = moves_at (i == j); react = None })

-- Where a module keeps to what moves with unknown j, the entries of this unknown's column are 0 in the rows whose parts don't move.
pub record TwoPartsOfResiduals (V : Type 0) (o : Operations V) (valid : V → Type 0) : Type 0 where
  pub resistive : (M : Elaborated) (slots : Slots TwoParts) → KeepsToClasses M two_parts slots → slots.unsure ≡ false → (j : ℕ) → MovesAlone j slots
      → (P : Point V) → PointValid valid P → (n : ℕ) → (rows : List (Dual (Dual V))) → residual_parts M (dual o) (moved_point o j P) n ≡ gives rows
      → (i : ℕ) (u : Unknown) → slice_get M.unknowns i ≡ Some u → (react : Option Motion) → RowIn M two_parts slots (record { resist = still; react = react }) u
      → (row : Dual (Dual V)) → slice_get rows i ≡ Some row → row.main.part ≡ o.zero
  pub reactive : (M : Elaborated) (slots : Slots TwoParts) → KeepsToClasses M two_parts slots → slots.unsure ≡ false → (j : ℕ) → MovesAlone j slots
      → (P : Point V) → PointValid valid P → (n : ℕ) → (rows : List (Dual (Dual V))) → residual_parts M (dual o) (moved_point o j P) n ≡ gives rows
      → (i : ℕ) (u : Unknown) → slice_get M.unknowns i ≡ Some u → (resist : Motion) → RowIn M two_parts slots (record { resist = resist; react = Some still }) u
      → (row : Dual (Dual V)) → slice_get rows i ≡ Some row → row.part.part ≡ o.zero
