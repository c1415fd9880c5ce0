-- Runs of a resistor that are worked out by hand, over the whole numbers, over residues where a quotient is wanted, and over
-- dual numbers for the part of a residual.
use Rattle.std.specs.Prelude.{◌≡◌, ℕ, zero, suc, ℤ, pos, negsuc, List, [], ◌∷◌}
use Rattle.alg_laws.specs.Dual.{dual, lift}
use Rattle.alg_laws.specs.Residue.{residue_ops}
use Rattle.alg_laws.specs.Whole.{whole_ops}
use Rattle.c_tree.specs.declared.short.Field.TheVariants.{Param, Row}
use Rattle.c_tree.specs.declared.short.Atom.TheVariants as atom
use Rattle.c_tree.specs.declared.short.Operator.TheVariants.{Minus, Over}
use Rattle.c_tree.specs.declared.short.Right.TheVariants.{Negated, Binary}
use Rattle.c_tree.specs.declared.short.Statement.TheVariants.{Declare, Set}
use Rattle.c_tree.specs.declared.short.ShortModule.{ShortModule}
use Rattle.c_tree.specs.short.Machine.{Values, Cells, evaluated}
use Rattle.c_tree.specs.short.Run.{Event, Evaluate, Load, vector_after, vector_wanted}

-- a resistor between its ports: the flow is the difference of the unknowns over parameter 0
abbrev pub resistor : ShortModule
resistor = record {
  unknowns = 2;
  params = 1;
  eval =
      Declare 0 (Binary (atom.Unknown 0) Minus (atom.Unknown 1)) ∷ Declare 1 (Binary (atom.Local 0) Over (atom.Field (Param 0)))
      ∷ Declare 2 (Negated (atom.Local 1)) ∷ Set (Row 0) (atom.Local 1) ∷ Set (Row 1) (atom.Local 2) ∷ [];
  loads = record { unknown = 0; row = 0 } ∷ record { unknown = 1; row = 1 } ∷ [];
}

-- these two values at places 0 and 1, and the second at each further one
abbrev pub places : {V : Type 0} → V → V → Values V
places x y zero = x
places x y (suc i) = y

-- the same value at each place
abbrev pub everywhere : {V : Type 0} → V → Values V
everywhere x i = x

-- cells that hold a parameter and the rows 0 and 1
abbrev pub holding : {V : Type 0} → V → V → V → Cells V
holding p x y (Param i) = p
holding p x y (Row i) = places x y i

-- each node is mapped to the place of its number, and each to place 0
abbrev pub apart : ℕ → ℕ
apart i = i

abbrev pub together : ℕ → ℕ
together i = 0

-- The vector after runs of a resistor of this value over the whole numbers, whose cells hold other rows before.
abbrev pub vector_of : ℤ → (ℕ → ℕ) → List (Event ℤ) → ℤ → Values ℤ
vector_of r node events old = vector_after whole_ops resistor node events (holding r (pos 7) (pos 9)) (everywhere old)

-- what a resistor of this value leaves in the vector
pub record WorkedRuns (r : ℤ) : Type 0 where
  -- 5 - 3 leaves the first port and enters the second
  pub first_port : vector_of r apart (Evaluate (places (pos 5) (pos 3)) ∷ Load ∷ []) (pos 0) 0 ≡ pos 2
  pub second_port : vector_of r apart (Evaluate (places (pos 5) (pos 3)) ∷ Load ∷ []) (pos 0) 1 ≡ negsuc 1
  -- ports at one place have one potential, and no flow
  pub ports_together : vector_of r together (Evaluate (places (pos 5) (pos 3)) ∷ Load ∷ Load ∷ []) (pos 5) 0 ≡ pos 5
  -- a load without an evaluation adds the rows that the cells hold, and each load adds both of them at one place
  pub both_rows_at_one_place : vector_of r together (Load ∷ Load ∷ []) (pos 5) 0 ≡ pos 37
  -- each load adds the rows of the evaluation before it
  pub loads_add_up :
      vector_of r apart (Evaluate (places (pos 5) (pos 3)) ∷ Load ∷ Evaluate (places (pos 4) (pos 1)) ∷ Load ∷ []) (pos 1) 0
      ≡ pos 6
  pub last_evaluation_counts :
      vector_of r apart (Evaluate (places (pos 5) (pos 3)) ∷ Evaluate (places (pos 4) (pos 1)) ∷ Load ∷ []) (pos 1) 1
      ≡ negsuc 1
  -- an evaluation keeps the parameter
  pub parameter_kept :
      evaluated whole_ops (places (pos 5) (pos 3)) resistor.eval (everywhere (pos 0)) (holding r (pos 7) (pos 9)) (Param 0) ≡ r

-- what does not depend on the value
pub record WorkedMachine : Type 0 where
  -- (7 - 3) / 2 modulo 1000003
  pub quotient :
      vector_after residue_ops resistor apart (Evaluate (places 7 3) ∷ Load ∷ []) (holding 2 0 0) (everywhere 1) 0 ≡ 3
  -- as unknown 0 moves by 2, so does the flow through a resistor of 1
  pub part : vector_after (dual whole_ops) resistor apart
      (Evaluate (places (record { main = pos 5; part = pos 2 }) (lift whole_ops (pos 3))) ∷ Load ∷ [])
      (holding (lift whole_ops (pos 1)) (lift whole_ops (pos 0)) (lift whole_ops (pos 0))) (everywhere (lift whole_ops (pos 0))) 0
      ≡ record { main = pos 2; part = pos 2 }
  -- what is wanted of runs: the rows 2 and 3 at one place, at two loads
  pub wanted : vector_wanted whole_ops (λ _. pos 2 ∷ pos 3 ∷ []) together
      (Evaluate (everywhere (pos 0)) ∷ Load ∷ Load ∷ []) [] (everywhere (pos 5)) 0 ≡ pos 15
  -- a row that is mapped elsewhere adds nothing
  pub wanted_elsewhere : vector_wanted whole_ops (λ _. pos 2 ∷ pos 3 ∷ []) apart
      (Evaluate (everywhere (pos 0)) ∷ Load ∷ Load ∷ []) [] (everywhere (pos 5)) 7 ≡ pos 5
