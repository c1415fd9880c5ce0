-- What is known behind declarations, and where blocks open and close.
use Rattle.std.proofs.Common.{◌≡◌, ℕ, List, [], ◌∷◌, ◌++◌, refl, ap, sym, ◌∙◌}
use Rattle.std.specs.Prelude.{Bool, true, false, ◌==◌, if◌then◌else◌, nat_eq, Option, Some}
use Rattle.std.proofs.lemmas.Bool.{eqb-true}
use Rattle.indexmap.specs.IndexMap.{get}
use Rattle.alg_laws.specs.declared.number.Ty.{Ty}
use Rattle.c_tree.specs.rules.Bodies.{Declared}
use Rattle.c_form.specs.OpenBlocks.{innermost_first}
use Rattle.c_form.specs.Scopes.{undone, Behind, IsScope, known_behind, outer_behind}
use Rattle.c_form.specs.declared.scope.Frame.{Frame}
use Rattle.c_form.specs.declared.scope.Hidden.{Hidden}
use Rattle.c_form.specs.declared.scope.Scope.{Scope}
use Rattle.c_form.proofs.Open.{innermost-push}

pub undone-same : (hidden : List Hidden) (f g : ℕ → Option Ty) → ((i : ℕ) → f i ≡ g i) → (i : ℕ) → undone f hidden i ≡ undone g hidden i
undone-same [] f g e i = e i
undone-same (h ∷ hidden) f g e i =
    undone-same hidden (λ j. if h.number == j then h.ty else f j) (λ j. if h.number == j then h.ty else g j)
    (λ j. ap (λ t. if h.number == j then h.ty else t) (e j)) i

pub behind-same : (f g : ℕ → Option Ty) (frames : List Frame) (outer : List (List Declared)) → ((i : ℕ) → f i ≡ g i) → Behind f frames outer → Behind g frames outer
behind-same f g [] [] e b = tt
behind-same f g [] (known ∷ outer) e b = absurd b
behind-same f g (frame ∷ frames) [] e b = absurd b
behind-same f g (frame ∷ frames) (known ∷ outer) e b = (
  λ i. sym (e i) ∙ b.0 i,
  behind-same (undone f (innermost_first frame.hidden.items)) (undone g (innermost_first frame.hidden.items)) frames outer
      (undone-same (innermost_first frame.hidden.items) f g e) b.1,
)

-- what a declaration hid is what was there
hid : (number i : ℕ) (ty : Ty) (old : Option Ty) (f : ℕ → Option Ty) → old ≡ f number
    → (if number == i then old else (if number == i then Some ty else f i)) ≡ f i
hid number i ty old f e = by_test (number == i) refl
  where
    by_test : (b : Bool) → (number == i) ≡ b → (if b then old else (if b then Some ty else f i)) ≡ f i
    by_test true h = e ∙ ap f (eqb-true number i h)
    by_test false h = refl

pub declared : (before after : Scope) (number : ℕ) (ty : Ty) (old : Option Ty) (known : List Declared) (outer : List (List Declared))
    → old ≡ get nat_eq before.types number
    → ((i : ℕ) → get nat_eq after.types i ≡ (if number == i then Some ty else get nat_eq before.types i))
    → after.frame.hidden.items ≡ before.frame.hidden.items ++ (let h : Hidden = record { number = number; ty = old } in h) ∷ []
    → after.outer.items ≡ before.outer.items
    → IsScope before known outer → IsScope after (record { number = number; ty = ty } ∷ known) outer
declared before after number ty old known outer was updates hidden same s =
    let f : ℕ → Option Ty = get nat_eq before.types in
    let g : ℕ → Option Ty = get nat_eq after.types in
    let h : Hidden = record { number = number; ty = old } in
    let inner : List Hidden = innermost_first before.frame.hidden.items in
    let back : (i : ℕ) → f i ≡ (if number == i then old else g i) =
    λ i. sym (ap (λ t. if number == i then old else t) (updates i) ∙ hid number i ty old f was) in
    record {
      knows = λ i. updates i ∙ ap (λ t. if number == i then Some ty else t) (s.knows i);
      behind = rw (hidden, innermost-push before.frame.hidden.items h, same)
          (behind-same (undone f inner) (undone (λ i. if number == i then old else g i) inner) (innermost_first before.outer.items) outer
          (undone-same inner f (λ i. if number == i then old else g i) back) s.behind);
    }

pub opened : (before after : Scope) (known : List Declared) (outer : List (List Declared))
    → after.types ≡ before.types → after.frame.hidden.items ≡ [] → after.outer.items ≡ before.outer.items ++ before.frame ∷ []
    → IsScope before known outer → IsScope after known (known ∷ outer)
opened before after known outer types fresh more s = record {
  knows = rw types s.knows;
  behind = rw (fresh, more, innermost-push before.outer.items before.frame, types) (s.knows, s.behind);
}

pub closed : (before after : Scope) (around : Frame) (rest : List Frame) (known : List Declared) (outer : List (List Declared))
    → before.outer.items ≡ rest ++ around ∷ [] → after.frame ≡ around → after.outer.items ≡ rest
    → ((i : ℕ) → get nat_eq after.types i ≡ undone (get nat_eq before.types) (innermost_first before.frame.hidden.items) i)
    → IsScope before known outer → IsScope after (known_behind known outer) (outer_behind outer)
closed before after around rest known [] popped now left restored s =
    let b : Behind (undone (get nat_eq before.types) (innermost_first before.frame.hidden.items)) (around ∷ innermost_first rest) [] =
    rw (popped, innermost-push rest around) at s.behind in
    absurd b
closed before after around rest known (k ∷ outer) popped now left restored s =
    let f : ℕ → Option Ty = undone (get nat_eq before.types) (innermost_first before.frame.hidden.items) in
    let b : Behind f (around ∷ innermost_first rest) (k ∷ outer) = rw (popped, innermost-push rest around) at s.behind in
    let inner : List Hidden = innermost_first around.hidden.items in
    record {
      knows = λ i. restored i ∙ b.0 i;
      behind = rw (now, left)
          (behind-same (undone f inner) (undone (get nat_eq after.types) inner) (innermost_first rest) outer
          (undone-same inner f (get nat_eq after.types) (λ i. sym (restored i))) b.1);
    }

pub stays : (s : Scope) (known : List Declared) (outer : List (List Declared)) → s.outer.items ≡ [] → IsScope s known outer
    → IsScope s (known_behind known outer) (outer_behind outer)
stays s known [] e h = h
stays s known (k ∷ outer) e h =
    let b : Behind (undone (get nat_eq s.types) (innermost_first s.frame.hidden.items)) [] (k ∷ outer) = rw e at h.behind in
    absurd b

-- one declaration less
pub undo-step : (old new : ℕ → Option Ty) (hidden rest : List Hidden) (last : Hidden) (i : ℕ) → hidden ≡ rest ++ last ∷ []
    → ((j : ℕ) → new j ≡ undone old (last ∷ []) j) → undone new (innermost_first rest) i ≡ undone old (innermost_first hidden) i
undo-step old new hidden rest last i popped restored =
    rw (popped, innermost-push rest last)
    (undone-same (innermost_first rest) new (λ j. if last.number == j then last.ty else old j) restored i)
