-- A module whose evaluation sets the rows, and whose load adds each of them once, loads the rows: what the author of a
-- code generator has to show of a module, and what follows from it.
use Rattle.std.proofs.Common.{◌≡◌, ℕ, zero, suc, ◌+◌, List, [], ◌∷◌, refl, ap, sym, subst, ◌∙◌, arith}
use Rattle.std.specs.Prelude.{Bool, true, false, ◌==◌, if◌then◌else◌}
use Rattle.std.proofs.lemmas.Bool.Decides.{nat_tests}
use Rattle.std.proofs.Math.Path.{fun_ext}
use Rattle.alg_laws.specs.Operations.{Operations, IsAlgebra}
use Rattle.c_tree.specs.declared.short.Field.TheVariants.{Param, Row}
use Rattle.c_tree.specs.declared.short.Load as load
use Rattle.c_tree.specs.declared.short.ShortModule.{ShortModule}
use Rattle.c_tree.specs.short.Machine.{Values, Cells, evaluated, loaded, with_value}
use Rattle.c_tree.specs.short.Run.{Event, Evaluate, Load, unknowns_of, vector_after, rows_at, vector_wanted, AreValid}
use Rattle.c_tree.specs.short.Run.{AreValidEvents, params_of, LoadsRows}

-- n rows from number i on, as the cells hold them
abbrev pub row_list : {V : Type 0} → Cells V → ℕ → ℕ → List V
row_list cells i zero = []
row_list cells i (suc n) = cells (Row i) ∷ row_list cells (i + 1) n

-- a load of each of them, to the target of the unknown of its number
abbrev pub load_list : ℕ → ℕ → List load.Load
load_list i zero = []
load_list i (suc n) = record { unknown = i; row = i } ∷ load_list (i + 1) n

-- each of some rows is valid
abbrev pub AreValidRows : {V : Type 0} → (V → Type 0) → List V → Type 0
AreValidRows valid [] = Unit {0}
AreValidRows valid (row ∷ rows) = valid row × AreValidRows valid rows

-- At valid parameters and unknowns the evaluation sets n valid rows; it keeps the parameters; and the load adds each row.
pub record SetsRows (m : ShortModule) (rows : (V : Type 0) → Operations V → Values V → Values V → List V) (n : ℕ)
    {V : Type 0} (o : Operations V) (valid : V → Type 0) : Type 0 where
  pub rows_are : (cells : Cells V) (unknowns : Values V) → AreValid valid (params_of cells) → AreValid valid unknowns
      → rows V o (params_of cells) unknowns ≡ row_list (evaluated o unknowns m.eval (λ _. o.zero) cells) 0 n
  pub are_valid : (cells : Cells V) (unknowns : Values V) → AreValid valid (params_of cells) → AreValid valid unknowns
      → AreValidRows valid (rows V o (params_of cells) unknowns)
  pub keeps : (cells : Cells V) (unknowns : Values V) (i : ℕ)
      → evaluated o unknowns m.eval (λ _. o.zero) cells (Param i) ≡ cells (Param i)
  pub loads : m.loads ≡ load_list 0 n

same_number : (a b : ℕ) → (a == b) ≡ true → a ≡ b
same_number a b e = grind (arith, nat_tests)

module _ {V : Type 0} (o : Operations V) (valid unit : V → Type 0) (l : IsAlgebra o valid unit) where
  -- a value that is added at a number keeps the others valid
  valid_with : (v : Values V) (at : ℕ) (x : V) → AreValid valid v → valid x → AreValid valid (with_value v at x)
  valid_with v at x h k i = by_test (i == at)
    where
      by_test : (test : Bool) → valid (if test then x else v i)
      by_test true = k
      by_test false = h i

  valid_rows_at : (node : ℕ → ℕ) (i : ℕ) (rows : List V) (target : ℕ) → AreValidRows valid rows
      → valid (rows_at o node i rows target)
  valid_rows_at node i [] target h = l.valid_zero
  valid_rows_at node i (row ∷ rows) target h =
      by_test (target == node i) (rows_at o node (i + 1) rows target) (valid_rows_at node (i + 1) rows target h.1)
    where
      by_test : (test : Bool) (rest : V) → valid rest → valid (if test then o.sum row rest else rest)
      by_test true rest k = l.valid_sum row rest h.0 k
      by_test false rest k = k

  -- what one load and then others add at a target
  one_more : (v : Values V) (target at : ℕ) (row rest : V) → AreValid valid v → valid row → valid rest
      → o.sum (with_value v at (o.sum (v at) row) target) rest
      ≡ o.sum (v target) (if target == at then o.sum row rest else rest)
  one_more v target at row rest h r s = by_test (target == at) (same_number target at)
    where
      by_test : (test : Bool) → (test ≡ true → target ≡ at)
          → o.sum (if test then o.sum (v at) row else v target) rest
          ≡ o.sum (v target) (if test then o.sum row rest else rest)
      by_test true e =
          ap (λ k. o.sum (o.sum (v k) row) rest) (sym (e refl)) ∙ l.sum_assoc (v target) row rest (h target) r s
      by_test false e = refl

  -- a load of rows adds at each target the sum of those that are mapped to it
  loads_add : (node : ℕ → ℕ) (cells : Cells V) (i n : ℕ) (v : Values V) (target : ℕ)
      → AreValid valid v → AreValidRows valid (row_list cells i n)
      → loaded o node cells (load_list i n) v target ≡ o.sum (v target) (rows_at o node i (row_list cells i n) target)
  loads_add node cells i zero v target h r = sym (l.sum_zero (v target) (h target))
  loads_add node cells i (suc n) v target h r =
      let sum = o.sum (v (node i)) (cells (Row i)) in
      let next = valid_with v (node i) sum h (l.valid_sum (v (node i)) (cells (Row i)) (h (node i)) r.0) in
      loads_add node cells (i + 1) n (with_value v (node i) sum) target next r.1
      ∙ one_more v target (node i) (cells (Row i)) (rows_at o node (i + 1) (row_list cells (i + 1) n) target) h r.0
      (valid_rows_at node (i + 1) (row_list cells (i + 1) n) target r.1)

  -- from cells that hold the rows of the last evaluation, a run ends with the vector that is wanted
  after_wanted : (m : ShortModule) (rows : (W : Type 0) → Operations W → Values W → Values W → List W) (n : ℕ)
      → SetsRows m rows n o valid
      → (params : Values V) (node : ℕ → ℕ) (events : List (Event V)) (cells : Cells V) (v : Values V)
      → params_of cells ≡ params → AreValid valid params → AreValidEvents valid events → AreValid valid v
      → AreValidRows valid (row_list cells 0 n)
      → vector_after o m node events cells v ≡ vector_wanted o (rows V o params) node events (row_list cells 0 n) v
  after_wanted m rows n s params node [] cells v p a e h r = refl
  after_wanted m rows n s params node (Evaluate solution ∷ events) cells v p a e h r =
      let unknowns = unknowns_of node solution in
      let next = evaluated o unknowns m.eval (λ _. o.zero) cells in
      let here = subst (AreValid valid) (sym p) a in
      let there : AreValid valid unknowns = λ i. e.0 (node i) in
      let are = s.rows_are cells unknowns here there in
      after_wanted m rows n s params node events next v (fun_ext (s.keeps cells unknowns) ∙ p) a e.1 h
      (subst (AreValidRows valid) are (s.are_valid cells unknowns here there))
      ∙ ap (λ last. vector_wanted o (rows V o params) node events last v) (sym are ∙ ap (λ ps. rows V o ps unknowns) p)
  after_wanted m rows n s params node (Load ∷ events) cells v p a e h r =
      let wanted : Values V = λ target. o.sum (v target) (rows_at o node 0 (row_list cells 0 n) target) in
      let step : loaded o node cells m.loads v ≡ wanted =
      ap (λ ls. loaded o node cells ls v) s.loads ∙ fun_ext (λ target. loads_add node cells 0 n v target h r) in
      let valid_wanted : AreValid valid wanted =
      λ target. l.valid_sum (v target) (rows_at o node 0 (row_list cells 0 n) target) (h target)
      (valid_rows_at node 0 (row_list cells 0 n) target r) in
      ap (vector_after o m node events cells) step
      ∙ after_wanted m rows n s params node events cells wanted p a e valid_wanted r

  pub SetsRows-loads : (m : ShortModule) (rows : (W : Type 0) → Operations W → Values W → Values W → List W) (n : ℕ)
      → SetsRows m rows n o valid → LoadsRows m rows V o valid
  SetsRows-loads m rows n s cells node solution events vector target a b e h =
      let unknowns = unknowns_of node solution in
      let next = evaluated o unknowns m.eval (λ _. o.zero) cells in
      let there : AreValid valid unknowns = λ i. b (node i) in
      let are = s.rows_are cells unknowns a there in
      ap (λ f. f target)
      (after_wanted m rows n s (params_of cells) node events next vector (fun_ext (s.keeps cells unknowns)) a e h
      (subst (AreValidRows valid) are (s.are_valid cells unknowns a there))
      ∙ ap (λ last. vector_wanted o (rows V o (params_of cells)) node events last vector) (sym are))
