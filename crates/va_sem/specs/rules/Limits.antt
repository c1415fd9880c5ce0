-- The limits of a module: this profile's own.
use Rattle.std.specs.Prelude.{ℕ, ◌*◌, List, [], ◌∷◌, ◌||◌, nat_lt, if◌then◌else◌, flat_map, length}
use Rattle.va_tree.specs.Expressions.{Expression}
use Rattle.va_tree.specs.Parts.{Part, expression, statement}
use Rattle.va_tree.specs.Preorder.{node_count}
use Rattle.va_sem.specs.declared.names.ModuleNames.{ModuleNames}
use Rattle.va_sem.specs.LookedAt.{looked_at}
use Rattle.va_sem.specs.rules.Values.{evaluated, values_of}
use Rattle.va_sem.specs.rules.Biased.{Analysis}
use Rattle.va_sem.specs.rules.ModuleBody.{ModuleBody}
use Rattle.va_sem.specs.rules.Unknowns.{unknowns}

pub record Limits : Type 0 where
  pub unknowns : ℕ
  -- parameters, local ones too
  pub parameters : ℕ
  -- expressions, parentheses aside
  pub nodes : ℕ
  -- expressions, parentheses aside, times unknowns
  pub products : ℕ

abbrev pub limits : Limits
limits = record { unknowns = 64; parameters = 4096; nodes = 300000; products = 4000000 }

-- The expressions of a part that count: those that are looked at. The names left of `<+` are no expressions, those in an access
-- in an expression are.
abbrev pub counted_in : Part → List Expression
counted_in (expression e) = looked_at e
counted_in (statement s) = evaluated (values_of (s ∷ []))

abbrev pub nodes_in : List Part → ℕ
nodes_in parts = node_count (flat_map counted_in parts)

module _ (most : Limits) (names : ModuleNames) (a : Analysis) (m : ModuleBody) where
  abbrev pub unknowns_many : List ℕ
  unknowns_many = if nat_lt most.unknowns (length (unknowns names a)) then m.at ∷ [] else []

  abbrev pub parameters_many : List ℕ
  parameters_many = if nat_lt most.parameters (length names.params) then m.at ∷ [] else []

  abbrev pub nodes_many : List ℕ
  nodes_many =
      if nat_lt most.nodes (nodes_in m.parts) || nat_lt most.products (nodes_in m.parts * length (unknowns names a)) then m.at ∷ [] else []
