-- Lists that go over the modules of a text and their names at once.
use Rattle.std.specs.Prelude.{◌≡◌, ◌<◌, ◌+◌, ℕ, suc, List, [], ◌∷◌, ◌++◌, map, zip, drop, length, get_or, min, slice_get, option_map, Some, All}
use Rattle.std.specs.List.{enumerate_from}
use Rattle.std.proofs.Common.{ap, sym, subst, ◌∙◌, arith}
use Rattle.std.proofs.lemmas.List.{drop_more, append_assoc, map-append, length-map}
use Rattle.std.proofs.lemmas.List.FromFn.{length-enumerate_from}
use Rattle.std.proofs.lemmas.Slice.Zip.{length-zip}
use Rattle.std.proofs.lemmas.Option.{slice_get-map, slice_get-get_or}
use Rattle.va_tree.specs.declared.source.Source.{Source}
use Rattle.va_tree.specs.declared.module.Module.{Module}
use Rattle.va_sem.specs.declared.names.ModuleNames.{ModuleNames}
use Rattle.va_sem.specs.Meanings.{names_of, names_of_module}
use Rattle.va_sem.specs.Typing.{modules_with}

pub zipped_more : {X Y : Type 0} (xs : List X) (ys : List Y) (i : ℕ) (x : X) (y : Y) → i < length xs → length ys ≡ length xs → x ≡ get_or xs i x → y ≡ get_or ys i y → zip (drop i xs) (drop i ys) ≡ (x, y) ∷ zip (drop (i + 1) xs) (drop (i + 1) ys)
zipped_more xs ys i x y within same is_x is_y =
    let p : drop i xs ≡ x ∷ drop (i + 1) xs = drop_more xs i x within ∙ ap (λ z. z ∷ drop (i + 1) xs) (sym is_x) in
    let q : drop i ys ≡ y ∷ drop (i + 1) ys =
    drop_more ys i y (subst (λ (n : ℕ). i < n) (sym same) within) ∙ ap (λ z. z ∷ drop (i + 1) ys) (sym is_y) in
    λ j. zip (p j) (q j)

-- one element more of a list that follows two lists
pub listed_more : {X Y Z : Type 0} (f : X × Y → Z) (xs : List X) (ys : List Y) (i : ℕ) (x : X) (y : Y) (done more whole : List Z) → i < length xs → length ys ≡ length xs → x ≡ get_or xs i x → y ≡ get_or ys i y → done ++ map f (zip (drop i xs) (drop i ys)) ≡ whole → more ≡ done ++ f (x, y) ∷ [] → more ++ map f (zip (drop (i + 1) xs) (drop (i + 1) ys)) ≡ whole
listed_more f xs ys i x y done more whole within same is_x is_y before is_more =
    ap (λ l. l ++ map f (zip (drop (i + 1) xs) (drop (i + 1) ys))) is_more
    ∙ append_assoc done (f (x, y) ∷ []) (map f (zip (drop (i + 1) xs) (drop (i + 1) ys)))
    ∙ ap (λ l. done ++ map f l) (sym (zipped_more xs ys i x y within same is_x is_y))
    ∙ before

pub mapped_more : {V Z : Type 0} (g : V → Z) (items more : List V) (v : V) (z : Z) → more ≡ items ++ v ∷ [] → g v ≡ z → map g more ≡ map g items ++ z ∷ []
mapped_more g items more v z is_more is_z =
    ap (map g) is_more ∙ map-append g items (v ∷ []) ∙ ap (λ w. map g items ++ w ∷ []) is_z

pub head_holds : {X : Type 0} (P : X → Type 0) (x : X) (list rest : List X) → list ≡ x ∷ rest → All P list → P x
head_holds P x list rest is h = (subst (All P) is h) 0 x (omega arith)

pub rest_holds : {X : Type 0} (P : X → Type 0) (x : X) (list rest : List X) → list ≡ x ∷ rest → All P list → All P rest
rest_holds P x list rest is h = λ k d within. (subst (All P) is h) (suc k) d (omega (arith, within))

pub modules_named : (s : Source) → length (names_of s).modules ≡ length s.modules
modules_named s =
    length-map (enumerate_from 0 s.modules) (λ (e : ℕ × Module). names_of_module s e.0 e.1) ∙ length-enumerate_from 0 s.modules

pub modules_zipped : (s : Source) → length (modules_with s (names_of s)) ≡ length s.modules
modules_zipped s =
    length-zip s.modules (names_of s).modules ∙ ap (min (length s.modules)) (modules_named s) ∙ omega arith

-- a list that is made module by module has an element for each
pub made_for_each : {X : Type 0} (f : Module × ModuleNames → X) (s : Source) → length (map f (modules_with s (names_of s))) ≡ length s.modules
made_for_each f s = length-map (modules_with s (names_of s)) f ∙ modules_zipped s

-- what is stored under a module's number, where the stored list is what is made of it
pub stored_under : {V X : Type 0} (g : V → X) (stored : List V) (made : List X) (m : ℕ) (v : V) → map g stored ≡ made → m < length made → v ≡ get_or stored m v → slice_get made m ≡ Some (g v)
stored_under g stored made m v is within is_v =
    ap (λ l. slice_get l m) (sym is) ∙ slice_get-map g stored m ∙ ap (option_map g) (slice_get-get_or stored m v (subst (λ (n : ℕ). m < n) (sym (ap length is) ∙ length-map stored g) within) ∙ ap Some (sym is_v))

-- a number of a module is within a list that has an element for each
pub within_list : {V : Type 0} (s t : Source) (list : List V) (m : ℕ) → length list ≡ length s.modules → s ≡ t → m < length t.modules → m < length list
within_list s t list m same is within = subst (λ (k : ℕ). m < k) (ap (λ (u : Source). length u.modules) (sym is) ∙ sym same) within

pub kept_under : {V X : Type 0} (g : V → X) (f : Module × ModuleNames → X) (s t : Source) (stored list : List V) (m : ℕ) (v w : V) → map g stored ≡ map f (modules_with s (names_of s)) → list ≡ stored → s ≡ t → m < length t.modules → v ≡ get_or list m v → w ≡ v → slice_get (map f (modules_with t (names_of t))) m ≡ Some (g w)
kept_under g f s t stored list m v w is list_is s_is within is_v is_w =
    ap (λ (u : Source). slice_get (map f (modules_with u (names_of u))) m) (sym s_is)
    ∙ stored_under g list (map f (modules_with s (names_of s))) m v (ap (map g) list_is ∙ is)
    (subst (λ (k : ℕ). m < k) (ap (λ (u : Source). length u.modules) (sym s_is) ∙ sym (made_for_each f s)) within)
    is_v
    ∙ ap (λ z. Some (g z)) (sym is_w)
