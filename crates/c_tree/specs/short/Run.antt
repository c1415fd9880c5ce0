-- Runs of a module of a short C file: evaluations at solutions, and loads of the resistive residuals (OsdiDescriptor: eval,
-- load_residual_resist). What is wanted of a run is said without the machine, by the rows of the source.
use Rattle.std.specs.Prelude.{◌≡◌, ℕ, ◌+◌, ◌==◌, List, [], ◌∷◌, if◌then◌else◌}
use Rattle.alg_laws.specs.Operations.{Operations}
use Rattle.c_tree.specs.declared.short.Field.TheVariants.{Param}
use Rattle.c_tree.specs.declared.short.ShortModule.{ShortModule}
use Rattle.c_tree.specs.short.Machine.{Values, Cells, evaluated, loaded}

-- what a host does with an instance
pub data Event (V : Type 0) : Type 0 where
  Evaluate : (solution : ℕ → V) → Event V
  Load : Event V

-- unknown i is the solution at the place to which node i is mapped
abbrev pub unknowns_of : {V : Type 0} → (ℕ → ℕ) → Values V → Values V
unknowns_of node solution = λ i. solution (node i)

-- the machine's vector after the events
abbrev pub vector_after : {V : Type 0} → Operations V → ShortModule → (ℕ → ℕ) → List (Event V) → Cells V → Values V
    → Values V
vector_after o m node [] cells vector = vector
vector_after o m node (Evaluate solution ∷ events) cells vector =
    vector_after o m node events (evaluated o (unknowns_of node solution) m.eval (λ _. o.zero) cells) vector
vector_after o m node (Load ∷ events) cells vector =
    vector_after o m node events cells (loaded o node cells m.loads vector)

-- the sum of the rows, from number i on, that are mapped to a target
abbrev pub rows_at : {V : Type 0} → Operations V → (ℕ → ℕ) → ℕ → List V → ℕ → V
rows_at o node i [] target = o.zero
rows_at o node i (row ∷ rows) target =
    if target == node i then o.sum row (rows_at o node (i + 1) rows target) else rows_at o node (i + 1) rows target

-- the vector that is wanted: each load adds to each target the sum of the rows mapped to it, those of the last evaluation
abbrev pub vector_wanted : {V : Type 0} → Operations V → (Values V → List V) → (ℕ → ℕ) → List (Event V) → List V
    → Values V → Values V
vector_wanted o rows node [] last vector = vector
vector_wanted o rows node (Evaluate solution ∷ events) last vector =
    vector_wanted o rows node events (rows (unknowns_of node solution)) vector
vector_wanted o rows node (Load ∷ events) last vector =
    vector_wanted o rows node events last (λ target. o.sum (vector target) (rows_at o node 0 last target))

-- each value at a number is valid
abbrev pub AreValid : {V : Type 0} → (V → Type 0) → Values V → Type 0
AreValid valid values = (i : ℕ) → valid (values i)

-- each solution of the events is valid
abbrev pub AreValidEvents : {V : Type 0} → (V → Type 0) → List (Event V) → Type 0
AreValidEvents valid [] = Unit {0}
AreValidEvents valid (Evaluate solution ∷ events) = AreValid valid solution × AreValidEvents valid events
AreValidEvents valid (Load ∷ events) = AreValidEvents valid events

-- the parameters that the cells hold
abbrev pub params_of : {V : Type 0} → Cells V → Values V
params_of cells = λ i. cells (Param i)

-- Each run of the module that begins with an evaluation leaves in each target its old value with what the loads are to
-- add, whatever the other cells held before. The rows are a function of the parameters and the unknowns, over any algebra.
abbrev pub LoadsRows : ShortModule → ((V : Type 0) → Operations V → Values V → Values V → List V)
    → (V : Type 0) → Operations V → (V → Type 0) → Type 0
LoadsRows m rows V o valid =
    (cells : Cells V) (node : ℕ → ℕ) (solution : Values V) (events : List (Event V)) (vector : Values V) (target : ℕ)
    → AreValid valid (params_of cells) → AreValid valid solution → AreValidEvents valid events → AreValid valid vector
    → vector_after o m node (Evaluate solution ∷ events) cells vector target
    ≡ vector_wanted o (rows V o (params_of cells)) node (Evaluate solution ∷ events) [] vector target
