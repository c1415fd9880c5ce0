-- A place of a body, and what the program keeps of the types there.
use Rattle.std.specs.Prelude.{◌≡◌, ℕ, nat_eq, List, map, Option}
use Rattle.std.specs.List.{flat_map}
use Rattle.indexmap.specs.IndexMap.{get}
use Rattle.c_tree.specs.Raw.{RawModule}
use Rattle.c_tree.specs.rules.Bodies.{Declared, Item, Scoped, RawBody, items_of, bodies_of}
use Rattle.c_tree.specs.rules.Types.{item_differs}
use Rattle.c_raw.specs.Views.{module_view}
use Rattle.c_form.specs.Blames.{Blames}
use Rattle.c_form.specs.Bodies.{body_view}
use Rattle.c_form.specs.FieldTypes.{HasTypes}
use Rattle.c_form.specs.Scopes.{IsKnown}
use Rattle.c_form.specs.Uses.{HasArguments}
use Rattle.c_form_types.specs.declared.atom_types.BodyTypes.{BodyTypes}
use Rattle.c_form_types.specs.declared.atom_types.Walk.{Walk}

-- a place: the module and the body in which it is, and the locals that are known there
pub record Place : Type 0 where
  pub tree : RawModule
  pub body : RawBody
  pub known : List Declared

-- the program keeps the types of a body of a module
pub record AreTypes (types : BodyTypes) (m : RawModule) (b : RawBody) : Type 0 where
  pub tree : module_view types.tree.now ≡ m
  pub body : body_view types.body ≡ b
  pub cells : HasTypes types.cells.now m
  pub arguments : HasArguments (get nat_eq types.arguments) b

-- a walk over a body stands at a place
pub record IsAt (walk : Walk) (p : Place) : Type 0 where
  pub types_of : AreTypes walk.types.now p.tree p.body
  pub locals : IsKnown (get nat_eq walk.scope.now.types) p.known

-- where a walk stands these tokens are blamed, by the place at which it stands
abbrev pub BlamesAt : Walk → Option ℕ → Option ℕ → (Place → List ℕ) → Type 0
BlamesAt walk old new tokens = (p : Place) → IsAt walk p → Blames old new (tokens p)

-- what the rule on types blames in an item of a body
abbrev pub item_blamed : RawModule → RawBody → Scoped → List ℕ
item_blamed m b s = item_differs m b (Scoped.known s) (Scoped.item s)

-- what it blames in items behind the statements, where the locals of a place are known
abbrev pub returned_blamed : Place → List Item → List ℕ
returned_blamed p items =
    flat_map (item_blamed p.tree p.body) (map (λ item. (let s : Scoped = record { known = p.known; item = item } in s)) items)

-- and in the bodies of a module
abbrev pub module_blamed : RawModule → List ℕ
module_blamed m = flat_map (λ b. flat_map (item_blamed m b) (items_of b)) (bodies_of m)
