-- What formals give.
use Rattle.std.proofs.Common.{◌≡◌, ◌<◌, ℕ, zero, suc, List, [], ◌∷◌, length, get_or, refl, sym, ap, ◌∙◌, arith, Bool, true, false}
use Rattle.std.specs.Global.{Vec}
use Rattle.std.specs.Borrow.{Bor}
use Rattle.std.specs.Prelude.{Option, Some, None, option_map, unwrap_or, map, slice_get, position, if◌then◌else◌, ◌||◌, ◌++◌}
use Rattle.std.specs.List.{zip, list_any}
use Rattle.std.specs.Str.{bytes_eq}
use Rattle.std.proofs.lemmas.Slice.Eq.{bytes_eq-Decides}
use Rattle.va_base.specs.declared.token.Token.{Token}
use Rattle.std.proofs.lemmas.List.Quantifiers.{position-Some}
use Rattle.indexmap.specs.IndexSet.{insert_key}
use Rattle.va_preproc.specs.Definitions.{new_name_as}
use Rattle.va_preproc.specs.Lexemes.{Bytes, Lexeme, found, is_among}
use Rattle.va_preproc.proofs.Lists.{map_push}

-- what the list of formals and that of arguments give for a name
abbrev pub given_of : Bytes → List (Vec ℕ) → List (Vec Token) → Option (List Token)
given_of name formals arguments = found (zip (map (λ formal. formal.items) formals) (map (λ argument. argument.items) arguments)) name

chosen : {X : Type 0} (b : Bool) (x y : X) → b ≡ false → (if b then x else y) ≡ y
chosen true x y e = cc
chosen false x y e = refl

chosen_first : {X : Type 0} (b : Bool) (x y : X) → b ≡ true → (if b then x else y) ≡ x
chosen_first true x y e = refl
chosen_first false x y e = cc

-- the test of a name from either side
turned : (a b : Bytes) → bytes_eq a b ≡ bytes_eq b a
turned a b = by_cases (bytes_eq a b) (bytes_eq b a) refl refl
  where
    by_cases : (u v : Bool) → bytes_eq a b ≡ u → bytes_eq b a ≡ v → u ≡ v
    by_cases true true e f = refl
    by_cases true false e f = sym ((bytes_eq-Decides b a).1 (sym ((bytes_eq-Decides a b).0 e))) ∙ f
    by_cases false true e f = sym e ∙ (bytes_eq-Decides a b).1 (sym ((bytes_eq-Decides b a).0 f))
    by_cases false false e f = refl

-- the test by which a table finds a name
abbrev pub is_called : Bytes → Vec ℕ → Bool
is_called name formal = bytes_eq name formal.items

-- a name that is no formal gives nothing
pub given_none : (name : Bytes) (formals : List (Vec ℕ)) (arguments : List (Vec Token)) → list_any (is_called name) formals ≡ false
    → given_of name formals arguments ≡ None
given_none name [] arguments h = refl
given_none name (f ∷ formals) [] h = refl
given_none name (f ∷ formals) (a ∷ arguments) h =
    chosen (bytes_eq f.items name) (Some a.items) (given_of name formals arguments)
    (turned f.items name ∙ first_no (is_called name f) (list_any (is_called name) formals) h)
    ∙ given_none name formals arguments (second_no (is_called name f) (list_any (is_called name) formals) h)
  where
    first_no : (u v : Bool) → (u || v) ≡ false → u ≡ false
    first_no true v e = e
    first_no false v e = refl

    second_no : (u v : Bool) → (u || v) ≡ false → v ≡ false
    second_no true v e = cc
    second_no false v e = e

-- a name that is the formal of this number gives the argument of this number
pub given_here : (name : Bytes) (formals : List (Vec ℕ)) (arguments : List (Vec Token)) (i : ℕ) (d : Vec ℕ) → i < length formals
    → is_called name (get_or formals i d) ≡ true
    → ((k : ℕ) → k < i → is_called name (get_or formals k d) ≡ false)
    → given_of name formals arguments ≡ option_map (λ argument. argument.items) (slice_get arguments i)
given_here name [] arguments i d h e before = absurd (omega arith)
given_here name (f ∷ formals) [] zero d h e before = refl
given_here name (f ∷ formals) [] (suc i) d h e before = refl
given_here name (f ∷ formals) (a ∷ arguments) zero d h e before =
    chosen_first (bytes_eq f.items name) (Some a.items) (given_of name formals arguments) (turned f.items name ∙ e)
given_here name (f ∷ formals) (a ∷ arguments) (suc i) d h e before =
    chosen (bytes_eq f.items name) (Some a.items) (given_of name formals arguments) (turned f.items name ∙ before 0 (omega arith))
    ∙ given_here name formals arguments i d (omega arith) e (λ k h. before (suc k) (omega arith))

choice_map : {X Y : Type 0} (g : X → Y) (b : Bool) (x : X) (o : Option Y) (p : Option X) → o ≡ option_map g p
    → (if b then Some (g x) else o) ≡ option_map g (if b then Some x else p)
choice_map g true x o p e = refl
choice_map g false x o p e = e

-- what is given, seen in another way
pub found_map : {X Y : Type 0} (g : List X → List Y) (names : List Bytes) (lists : List (Vec X)) (name : Bytes)
    → found (zip names (map (λ list. g list.items) lists)) name ≡ option_map g (found (zip names (map (λ list. list.items) lists)) name)
found_map g [] lists name = refl
found_map g (n ∷ names) [] name = refl
found_map g (n ∷ names) (l ∷ lists) name =
    choice_map g (bytes_eq n name) l.items (found (zip names (map (λ list. g list.items) lists)) name)
    (found (zip names (map (λ list. list.items) lists)) name) (found_map g names lists name)

map_twice : {X Y Z : Type 0} (f : X → Y) (g : Y → Z) (o : Option X) → option_map g (option_map f o) ≡ option_map (λ x. g (f x)) o
map_twice f g None = refl
map_twice f g (Some x) = refl

-- what a formal gives, with the bytes of its tokens
pub given_seen : (see : List Token → List Lexeme) (formals : List (Vec ℕ)) (arguments : List (Vec Token)) (name : Bytes) (o : Option (Bor (List Token)))
    → option_map (λ argument. argument.now) o ≡ given_of name formals arguments
    → option_map (λ argument. see argument.now) o
    ≡ found (zip (map (λ formal. formal.items) formals) (map (λ argument. see argument.items) arguments)) name
given_seen see formals arguments name o e =
    sym (map_twice (λ argument. argument.now) see o) ∙ ap (option_map see) e
    ∙ sym (found_map see (map (λ formal. formal.items) formals) arguments name)

-- the place of a name among formals, and what the argument of this place is
pub given_at : (name : Bytes) (formals : List (Vec ℕ)) (arguments : List (Vec Token)) (i : ℕ) → position (is_called name) formals ≡ Some i
    → given_of name formals arguments ≡ option_map (λ argument. argument.items) (slice_get arguments i)
given_at name [] arguments i e = cc
given_at name (f ∷ formals) arguments i e =
    let all = position-Some (is_called name) (f ∷ formals) i f e in
    given_here name (f ∷ formals) arguments i f all.0 all.1 all.2

-- a name is among the names of formals
pub among_formals : (name : Bytes) (formals : List (Vec ℕ)) → list_any (is_called name) formals ≡ is_among (map (λ formal. formal.items) formals) name
among_formals name [] = refl
among_formals name (f ∷ formals) = ap (λ rest. is_called name f || rest) (among_formals name formals)

-- a new name is none of those before
pub fresh_name : (seen : List Bytes) (o : Option Bytes) (name : Bytes) → Some name ≡ new_name_as seen o → is_among seen name ≡ false
fresh_name seen None name e = cc
fresh_name seen (Some other) name e = by_test (is_among seen other) refl e
  where
    by_test : (b : Bool) → is_among seen other ≡ b → Some name ≡ (if b then None else Some other) → is_among seen name ≡ false
    by_test true f e = cc
    by_test false f e = ap (λ o. is_among seen (unwrap_or o name)) e ∙ f

-- a formal that is none of those before goes last
pub formal_added : (formals : List (Vec ℕ)) (formal : Vec ℕ) (name : Bytes) → formal.items ≡ name
    → is_among (map (λ formal. formal.items) formals) name ≡ false
    → map (λ formal. formal.items) (insert_key (λ a b. bytes_eq a.items b.items) formals formal) ≡ map (λ formal. formal.items) formals ++ name ∷ []
formal_added formals formal name is fresh =
    ap (map (λ formal. formal.items)) (chosen (list_any (is_called formal.items) formals) formals (formals ++ formal ∷ [])
    (among_formals formal.items formals ∙ ap (is_among (map (λ formal. formal.items) formals)) is ∙ fresh))
    ∙ map_push (λ formal. formal.items) formals formal
    ∙ ap (λ bytes. map (λ formal. formal.items) formals ++ bytes ∷ []) is
