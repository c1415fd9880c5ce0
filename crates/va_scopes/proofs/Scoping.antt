-- What is seen behind declarations, and where scopes open and close.
use Rattle.std.proofs.Common.{◌≡◌, ℕ, List, [], ◌∷◌, ◌++◌, refl, ap, sym, ◌∙◌}
use Rattle.std.specs.Prelude.{Bool, true, false, if◌then◌else◌, Option, Some, None, option_map, map}
use Rattle.std.specs.Option.{option_or}
use Rattle.std.specs.Str.{bytes_eq}
use Rattle.va_sem.specs.Scopes.{Declared, named, counting, is_builtin}
use Rattle.va_sem.specs.ScopesLaws.{first_named}
use Rattle.va_sem.proofs.ScopesByName.{scopes_by_name}
use Rattle.va_scopes.specs.declared.bindings.Kind.{Kind}
use Rattle.va_scopes.specs.declared.bindings.Kind.TheVariants as kind
use Rattle.va_scopes.specs.declared.bindings.Seen.{Seen}
use Rattle.va_scopes.specs.declared.bindings.Binding.{Binding}
use Rattle.va_scopes.specs.declared.scopes.Frame.{Frame}
use Rattle.va_scopes.specs.declared.scopes.Hidden.{Hidden}
use Rattle.va_scopes.specs.declared.scopes.Scopes.{Scopes}
use Rattle.va_scopes.specs.Tables.{by_name}
use Rattle.va_scopes.specs.Bindings.{kind_of, thing_of, seen_of, seen_under, declared_by}
use Rattle.va_scopes.specs.Declaring.{in_front, all_in_front}
use Rattle.va_scopes.specs.Seeing.{Seeing, innermost_first, undone, Around, IsScope}
use Rattle.va_scopes.proofs.Bytes.{same_names}

-- the innermost scope is the last
pub innermost-push : {T : Type 0} (xs : List T) (x : T) → innermost_first (xs ++ x ∷ []) ≡ x ∷ innermost_first xs
innermost-push [] x = refl
innermost-push (y ∷ xs) x = ap (λ l. l ++ y ∷ []) (innermost-push xs x)

pub undone-same : (hidden : List Hidden) (f g : Seeing) → ((n : List ℕ) → f n ≡ g n) → (n : List ℕ) → undone f hidden n ≡ undone g hidden n
undone-same [] f g e n = e n
undone-same (h ∷ hidden) f g e n =
    undone-same hidden (λ j. if bytes_eq h.name.now j then h.seen else f j) (λ j. if bytes_eq h.name.now j then h.seen else g j)
    (λ j. ap (λ t. if bytes_eq h.name.now j then h.seen else t) (e j)) n

pub around-same : (f g : Seeing) (frames : List Frame) (outer : List (List Declared)) → ((n : List ℕ) → f n ≡ g n)
    → Around f frames outer → Around g frames outer
around-same f g [] [] e b = tt
around-same f g [] (known ∷ outer) e b = absurd b
around-same f g (frame ∷ frames) [] e b = absurd b
around-same f g (frame ∷ frames) (known ∷ outer) e b = (
  λ n. sym (e n) ∙ b.0 n,
  around-same (undone f (innermost_first frame.hidden.items)) (undone g (innermost_first frame.hidden.items)) frames outer
      (undone-same (innermost_first frame.hidden.items) f g e) b.1,
)

-- what a declaration hid is what was there
hid : (name n : List ℕ) (seen : Seen) (old : Option Seen) (f : Seeing) → old ≡ f name
    → (if bytes_eq name n then old else (if bytes_eq name n then Some seen else f n)) ≡ f n
hid name n seen old f e = by_test (bytes_eq name n) refl
  where
    by_test : (b : Bool) → bytes_eq name n ≡ b → (if b then old else (if b then Some seen else f n)) ≡ f n
    by_test true h = e ∙ ap f (same_names name n h)
    by_test false h = refl

kind_kept : (k : Kind) → kind_of (thing_of k) ≡ k
kind_kept kind.Node = refl
kind_kept kind.Branch = refl
kind_kept kind.Parameter = refl
kind_kept kind.Variable = refl
kind_kept kind.Function = refl
kind_kept kind.Label = refl
kind_kept kind.Nothing = refl

seen_kept : (b : Binding) → seen_of (declared_by b) ≡ b.seen
seen_kept b = λ i. record { at = b.seen.at; kind = kind_kept b.seen.kind i }

-- what is seen under a name behind a declaration
seen_first : (b : Binding) (known : List Declared) (n : List ℕ)
    → seen_under (declared_by b ∷ known) n ≡ (if bytes_eq b.name.now n then Some b.seen else seen_under known n)
seen_first b known n = by_test (bytes_eq b.name.now n) refl
  where
    by_test : (t : Bool) → bytes_eq b.name.now n ≡ t → seen_under (declared_by b ∷ known) n ≡ (if t then Some b.seen else seen_under known n)
    by_test true h = rw h (ap Some (seen_kept b))
    by_test false h = rw h refl

pub bound : (before after : Scopes) (b : Binding) (old : Option Seen) (known : List Declared) (outer : List (List Declared))
    → old ≡ by_name before.table b.name.now
    → ((n : List ℕ) → by_name after.table n ≡ (if bytes_eq b.name.now n then Some b.seen else by_name before.table n))
    → after.frame.hidden.items ≡ before.frame.hidden.items ++ (let h : Hidden = record { name = b.name; seen = old } in h) ∷ []
    → after.outer.items ≡ before.outer.items
    → IsScope before known outer → IsScope after (declared_by b ∷ known) outer
bound before after b old known outer was updates hidden same s =
    let f : Seeing = by_name before.table in
    let g : Seeing = by_name after.table in
    let h : Hidden = record { name = b.name; seen = old } in
    let inner : List Hidden = innermost_first before.frame.hidden.items in
    let back : (n : List ℕ) → f n ≡ (if bytes_eq b.name.now n then old else g n) =
    λ n. sym (ap (λ t. if bytes_eq b.name.now n then old else t) (updates n) ∙ hid b.name.now n b.seen old f was) in
    record {
      sees = λ n. updates n ∙ ap (λ t. if bytes_eq b.name.now n then Some b.seen else t) (s.sees n) ∙ sym (seen_first b known n);
      around = rw (hidden, innermost-push before.frame.hidden.items h, same)
          (around-same (undone f inner) (undone (λ n. if bytes_eq b.name.now n then old else g n) inner) (innermost_first before.outer.items) outer
          (undone-same inner f (λ n. if bytes_eq b.name.now n then old else g n) back) s.around);
    }

pub in_front-not : (d : Declared) (known : List Declared) → is_builtin d.name ≡ false → in_front d known ≡ d ∷ known
in_front-not d known e = ap (λ t. if t then known else d ∷ known) e

pub in_front-builtin : (d : Declared) (known : List Declared) → is_builtin d.name ≡ true → in_front d known ≡ known
in_front-builtin d known e = ap (λ t. if t then known else d ∷ known) e

-- the last of some declarations goes before what was known first
pub all-push : {T : Type 0} (f : T → Declared) (xs : List T) (x : T) (known : List Declared)
    → all_in_front (map f (xs ++ x ∷ [])) known ≡ all_in_front (map f xs) (in_front (f x) known)
all-push f [] x known = refl
all-push f (y ∷ xs) x known = ap (in_front (f y)) (all-push f xs x known)

pub opened : (before after : Scopes) (known : List Declared) (outer : List (List Declared))
    → after.table ≡ before.table → after.frame.hidden.items ≡ [] → after.outer.items ≡ before.outer.items ++ before.frame ∷ []
    → IsScope before known outer → IsScope after known (known ∷ outer)
opened before after known outer table fresh more s = record {
  sees = rw table s.sees;
  around = rw (fresh, more, innermost-push before.outer.items before.frame, table) (s.sees, s.around);
}

pub closed : (before after : Scopes) (around : Frame) (rest : List Frame) (known k : List Declared) (outer : List (List Declared))
    → before.outer.items ≡ rest ++ around ∷ [] → after.frame ≡ around → after.outer.items ≡ rest
    → ((n : List ℕ) → by_name after.table n ≡ undone (by_name before.table) (innermost_first before.frame.hidden.items) n)
    → IsScope before known (k ∷ outer) → IsScope after k outer
closed before after around rest known k outer popped now left restored s =
    let f : Seeing = undone (by_name before.table) (innermost_first before.frame.hidden.items) in
    let b : Around f (around ∷ innermost_first rest) (k ∷ outer) = rw (popped, innermost-push rest around) at s.around in
    let inner : List Hidden = innermost_first around.hidden.items in
    record {
      sees = λ n. restored n ∙ b.0 n;
      around = rw (now, left)
          (around-same (undone f inner) (undone (by_name after.table) inner) (innermost_first rest) outer
          (undone-same inner f (by_name after.table) (λ n. sym (restored n))) b.1);
    }

pub never_last : (s : Scopes) (known k : List Declared) (outer : List (List Declared)) → s.outer.items ≡ [] → IsScope s known (k ∷ outer) → ⊥
never_last s known k outer e h =
    let b : Around (undone (by_name s.table) (innermost_first s.frame.hidden.items)) [] (k ∷ outer) = rw e at h.around in
    b

-- one declaration less
pub undo-step : (old new : Seeing) (hidden rest : List Hidden) (last : Hidden) (n : List ℕ) → hidden ≡ rest ++ last ∷ []
    → ((j : List ℕ) → new j ≡ undone old (last ∷ []) j) → undone new (innermost_first rest) n ≡ undone old (innermost_first hidden) n
undo-step old new hidden rest last n popped restored =
    rw (popped, innermost-push rest last)
    (undone-same (innermost_first rest) new (λ j. if bytes_eq last.name.now j then last.seen else old j) restored n)

-- declarations put before others are seen as those that count
front_named : (names known : List Declared) (n : List ℕ) → named (all_in_front names known) n ≡ option_or (first_named names n) (named known n)
front_named [] known n = by_test (is_builtin n)
  where
    by_test : (b : Bool) → named known n ≡ option_or (if b then None else None) (named known n)
    by_test true = refl
    by_test false = refl
front_named (d ∷ names) known n = by_tests (is_builtin d.name) (bytes_eq d.name n) refl refl (front_named names known n)
  where
    by_tests : (b t : Bool) → is_builtin d.name ≡ b → bytes_eq d.name n ≡ t
        → named (all_in_front names known) n ≡ option_or (first_named names n) (named known n)
        → named (if b then all_in_front names known else d ∷ all_in_front names known) n ≡ option_or (first_named (d ∷ names) n) (named known n)
    by_tests true true e h ih =
        let own : is_builtin n ≡ true = ap is_builtin (sym (same_names d.name n h)) ∙ e in
        ih
        ∙ ap (λ t. option_or (if t then None else named names n) (named known n)) own
        ∙ sym (ap (λ t. option_or (if t then None else named (d ∷ names) n) (named known n)) own)
    by_tests true false e h ih = rw h ih
    by_tests false true e h ih =
        let own : is_builtin n ≡ false = ap is_builtin (sym (same_names d.name n h)) ∙ e in
        rw (h, own) refl
    by_tests false false e h ih = rw h ih

-- so a place sees the same
pub counted : (scopes : Scopes) (names known : List Declared) (outer : List (List Declared)) → IsScope scopes (all_in_front names known) outer
    → IsScope scopes (counting names ++ known) outer
counted scopes names known outer s = record {
  sees = λ n. s.sees n
      ∙ ap (option_map seen_of)
      (front_named names known n ∙ ap (λ o. option_or o (named known n)) (sym (scopes_by_name.counted names n))
      ∙ sym (scopes_by_name.after_each_other (counting names) known n));
  around = s.around;
}
