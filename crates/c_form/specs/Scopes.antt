-- Which locals are known at a place of a body, as the program keeps it: a map from numbers to types, and for each open block what
-- the declarations in it hid.
use Rattle.std.specs.Prelude.{◌≡◌, ℕ, ◌==◌, if◌then◌else◌, nat_eq, List, [], ◌∷◌, ◌++◌, Option}
use Rattle.indexmap.specs.IndexMap.{get}
use Rattle.alg_laws.specs.declared.number.Ty.{Ty}
use Rattle.c_tree.specs.rules.Bodies.{Declared, of_simple, of_test, Scoped, declares}
use Rattle.c_tree.specs.rules.Types.{type_of_local}
use Rattle.c_raw.specs.Blocks.{at_view, simple_view}
use Rattle.c_raw.specs.declared.body.RawStatement.{RawStatement}
use Rattle.c_raw.specs.declared.body.RawStatement.TheVariants.{Simple, Leave, If, For, End}
use Rattle.c_form.specs.Blames.{Blames}
use Rattle.c_form.specs.OpenBlocks.{innermost_first}
use Rattle.c_form.specs.declared.scope.Frame.{Frame}
use Rattle.c_form.specs.declared.scope.Hidden.{Hidden}
use Rattle.c_form.specs.declared.scope.Scope.{Scope}

-- the types of locals as they were before some declarations, of which the last stands first
abbrev pub undone : (ℕ → Option Ty) → List Hidden → ℕ → Option Ty
undone types [] = types
undone types (h ∷ hidden) = undone (λ i. if h.number == i then h.ty else types i) hidden

-- a map knows these locals
abbrev pub IsKnown : (ℕ → Option Ty) → List Declared → Type 0
IsKnown types known = (i : ℕ) → types i ≡ type_of_local i known

-- the blocks around the innermost know these locals
abbrev pub Behind : (ℕ → Option Ty) → List Frame → List (List Declared) → Type 0
Behind types [] [] = Unit {0}
Behind types [] (known ∷ outer) = ⊥
Behind types (frame ∷ frames) [] = ⊥
Behind types (frame ∷ frames) (known ∷ outer) =
    IsKnown types known × Behind (undone types (innermost_first frame.hidden.items)) frames outer

-- the innermost block knows these locals, and those around it know those
pub record IsScope (scope : Scope) (known : List Declared) (outer : List (List Declared)) : Type 0 where
  pub knows : IsKnown (get nat_eq scope.types) known
  pub behind : Behind (undone (get nat_eq scope.types) (innermost_first scope.frame.hidden.items)) (innermost_first scope.outer.items) outer

-- the tokens that are blamed at a place of a body, told by the locals that are known there
abbrev pub BlamesInScope : Scope → Option ℕ → Option ℕ → (List Declared → List ℕ) → Type 0
BlamesInScope scope old new tokens = (known : List Declared) → IsKnown (get nat_eq scope.types) known → Blames old new (tokens known)

-- what is known where a block ends: what is known in the block around it, and at the end of a body what was known
abbrev pub known_behind : List Declared → List (List Declared) → List Declared
known_behind known [] = known
known_behind known (around ∷ outer) = around

abbrev pub outer_behind : List (List Declared) → List (List Declared)
outer_behind [] = []
outer_behind (around ∷ outer) = outer

-- what is known behind a statement, in its block and in those around it
abbrev pub known_after : RawStatement → List Declared → List (List Declared) → List Declared
known_after (Simple s) known outer = declares (simple_view s) ++ known
known_after (Leave at test) known outer = known
known_after (If test) known outer = known
known_after For known outer = known
known_after (End at) known outer = known_behind known outer

abbrev pub outer_after : RawStatement → List Declared → List (List Declared) → List (List Declared)
outer_after (Simple s) known outer = outer
outer_after (Leave at test) known outer = outer
outer_after (If test) known outer = known ∷ known ∷ outer
outer_after For known outer = known ∷ outer
outer_after (End at) known outer = outer_behind outer

-- what a rule finds in the item of a statement, where these locals are known
abbrev pub in_scope : {T : Type 0} → (Scoped → List T) → List Declared → RawStatement → List T
in_scope part known (Simple s) = part (record { known = known; item = of_simple (simple_view s) })
in_scope part known (Leave at test) = part (record { known = known; item = of_test (at_view test) })
in_scope part known (If test) = part (record { known = known; item = of_test (at_view test) })
in_scope part known For = []
in_scope part known (End at) = []

-- what a rule finds in statements
abbrev pub walked : {T : Type 0} → (Scoped → List T) → List Declared → List (List Declared) → List RawStatement → List T
walked part known outer [] = []
walked part known outer (s ∷ rest) =
    in_scope part known s ++ walked part (known_after s known outer) (outer_after s known outer) rest

-- what is known at their end
abbrev pub known_at_end : List Declared → List (List Declared) → List RawStatement → List Declared
known_at_end known outer [] = known
known_at_end known outer (s ∷ rest) = known_at_end (known_after s known outer) (outer_after s known outer) rest
