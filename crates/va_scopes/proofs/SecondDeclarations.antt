-- Second declarations, by the names that stood before.
use Rattle.std.proofs.Common.{◌≡◌, ◌<◌, ◌≤◌, ◌+◌, ℕ, List, [], ◌∷◌, ◌++◌, length, get_or, drop, drop-cons, refl, ap, sym, ◌∙◌, add-one}
use Rattle.std.specs.Prelude.{map, Option, Some, Bool, true, false, ◌||◌, if◌then◌else◌, cond}
use Rattle.std.specs.Option.{is_some}
use Rattle.std.specs.List.{list_any}
use Rattle.std.specs.Str.{bytes_eq}
use Rattle.std.proofs.Math.ListN.{drop_of_length-le}
use Rattle.va_base.specs.declared.fault.FaultCode.{FaultCode}
use Rattle.va_base.specs.declared.fault.FaultCode.TheVariants.{TwiceDeclared}
use Rattle.va_tree.specs.declared.name.NameAt.{NameAt}
use Rattle.va_sem.specs.Scopes.{repeated, is_builtin}
use Rattle.va_sem.specs.NamesFaults.{FaultAt, all_at, fault_if}
use Rattle.va_scopes.specs.declared.bindings.Binding.{Binding}
use Rattle.va_scopes.specs.Bindings.{name_at}
use Rattle.va_scopes.specs.Finds.{Finds, of_builtins}
use denote.Bor.{Bor}
use Rattle.std.specs.Map.{lookup}
use Rattle.indexmap.specs.IndexMap.{IndexMap}
use Rattle.va_scopes.specs.Tables.{by_name}
use Rattle.va_scopes.proofs.Bytes.{same_names, bytes_sym}
use Rattle.va_scopes.proofs.Finding.{◌▸◌, finds_none, finds_same}

-- the faults at names that stood before, where a test tells these
abbrev pub again_by : (List ℕ → Bool) → List NameAt → List FaultAt
again_by before [] = []
again_by before (n ∷ rest) = fault_if (before n.name) n.at TwiceDeclared ++ again_by (λ k. bytes_eq n.name k || before k) rest

pub again_same : (f g : List ℕ → Bool) (xs : List NameAt) → ((k : List ℕ) → f k ≡ g k) → again_by f xs ≡ again_by g xs
again_same f g [] e = refl
again_same f g (n ∷ rest) e =
    ap (λ b. fault_if b n.at TwiceDeclared ++ again_by (λ k. bytes_eq n.name k || f k) rest) (e n.name)
    ∙ ap (λ l. fault_if (g n.name) n.at TwiceDeclared ++ l)
    (again_same (λ k. bytes_eq n.name k || f k) (λ k. bytes_eq n.name k || g k) rest (λ k. ap (λ t. bytes_eq n.name k || t) (e k)))

abbrev among : List (List ℕ) → List ℕ → Bool
among before k = list_any (bytes_eq k) before

-- a name that stood before is no new one
already : (before : List (List ℕ)) (name k : List ℕ) → among before name ≡ true → (bytes_eq name k || among before k) ≡ among before k
already before name k e = by_test (bytes_eq name k) refl
  where
    by_test : (b : Bool) → bytes_eq name k ≡ b → (b || among before k) ≡ among before k
    by_test true h = sym (ap (among before) (sym (same_names name k h)) ∙ e)
    by_test false h = refl

pub repeated_again : (before : List (List ℕ)) (xs : List NameAt) → all_at TwiceDeclared (repeated before xs) ≡ again_by (among before) xs
repeated_again before [] = refl
repeated_again before (n ∷ rest) = by_test (among before n.name) refl (repeated_again before rest) (repeated_again (n.name ∷ before) rest)
  where
    by_test : (b : Bool) → among before n.name ≡ b
        → all_at TwiceDeclared (repeated before rest) ≡ again_by (among before) rest
        → all_at TwiceDeclared (repeated (n.name ∷ before) rest) ≡ again_by (among (n.name ∷ before)) rest
        → all_at TwiceDeclared (if b then n.at ∷ repeated before rest else repeated (n.name ∷ before) rest)
        ≡ fault_if b n.at TwiceDeclared ++ again_by (λ k. bytes_eq n.name k || among before k) rest
    by_test true e same more =
        ap (λ l. (n.at, TwiceDeclared) ∷ l)
        (same ∙ again_same (among before) (λ k. bytes_eq n.name k || among before k) rest (λ k. sym (already before n.name k e)))
    by_test false e same more =
        more
        ∙ again_same (among (n.name ∷ before)) (λ k. bytes_eq n.name k || among before k) rest
        (λ k. ap (λ t. t || among before k) (bytes_sym k n.name))

pub again_step : (old mid new : Option FaultAt) (before next : List ℕ → Bool) (xs : List Binding) (i : ℕ) (d : Binding) → i < length xs
    → ((k : List ℕ) → next k ≡ (bytes_eq (get_or xs i d).name.now k || before k))
    → Finds old mid (fault_if (before (get_or xs i d).name.now) (get_or xs i d).seen.at TwiceDeclared)
    → Finds mid new (again_by next (map name_at (drop (i + 1) xs))) → Finds old new (again_by before (map name_at (drop i xs)))
again_step old mid new before next xs i d h e a b =
    let front : drop i xs ≡ get_or xs i d ∷ drop (i + 1) xs = rw add-one (drop-cons xs i d h) in
    let n : List ℕ = (get_or xs i d).name.now in
    rw (front, ← again_same next (λ k. bytes_eq n k || before k) (map name_at (drop (i + 1) xs)) e) (a ▸ b)

pub again_end : (old : Option FaultAt) (before : List ℕ → Bool) (xs : List Binding) (i : ℕ) → length xs ≤ i
    → Finds old old (again_by before (map name_at (drop i xs)))
again_end old before xs i h = rw (drop_of_length-le xs h) (finds_none old)

-- the names of built-in functions, one after the other
abbrev pub builtins_in : List NameAt → List FaultAt
builtins_in [] = []
builtins_in (n ∷ rest) = fault_if (is_builtin n.name) n.at TwiceDeclared ++ builtins_in rest

pub builtins_listed : (xs : List NameAt) → builtins_in xs ≡ of_builtins xs
builtins_listed [] = refl
builtins_listed (n ∷ rest) = by_test (is_builtin n.name) refl (builtins_listed rest)
  where
    by_test : (b : Bool) → is_builtin n.name ≡ b → builtins_in rest ≡ of_builtins rest
        → fault_if b n.at TwiceDeclared ++ builtins_in rest ≡ of_builtins (n ∷ rest)
    by_test true e ih = rw e (ap (λ l. (n.at, TwiceDeclared) ∷ l) ih)
    by_test false e ih = rw e ih

pub builtins_step : (old mid new : Option FaultAt) (xs : List Binding) (i : ℕ) (d : Binding) → i < length xs
    → Finds old mid (fault_if (is_builtin (get_or xs i d).name.now) (get_or xs i d).seen.at TwiceDeclared)
    → Finds mid new (builtins_in (map name_at (drop (i + 1) xs))) → Finds old new (builtins_in (map name_at (drop i xs)))
builtins_step old mid new xs i d h a b =
    let front : drop i xs ≡ get_or xs i d ∷ drop (i + 1) xs = rw add-one (drop-cons xs i d h) in
    rw front (a ▸ b)

pub builtins_end : (old : Option FaultAt) (xs : List Binding) (i : ℕ) → length xs ≤ i → Finds old old (builtins_in (map name_at (drop i xs)))
builtins_end old xs i h = rw (drop_of_length-le xs h) (finds_none old)

pub some_or : {X : Type 0} (b : Bool) (v : X) (o : Option X) → is_some (cond b (Some v) o) ≡ (b || is_some o)
some_or true v o = refl
some_or false v o = refl

pub finds_if : (old new : Option FaultAt) (b c : Bool) (at : ℕ) (code : FaultCode) → b ≡ c → Finds old new (fault_if b at code)
    → Finds old new (fault_if c at code)
finds_if old new b c at code e a = finds_same old new (fault_if b at code) (fault_if c at code) (ap (λ t. fault_if t at code) e) a

-- at first no name stood before
pub again_none : {X S : Type 0} (table : IndexMap (Bor (List ℕ)) X S) (xs : List NameAt) → table.entries ≡ []
    → again_by (λ k. is_some (by_name table k)) xs ≡ again_by (λ k. false) xs
again_none table xs e =
    again_same (λ k. is_some (by_name table k)) (λ k. false) xs (λ k. ap (λ entries. is_some (lookup (λ key. bytes_eq k key.now) entries)) e)
