-- The types of a module's parameters are those of their own equation.
use Rattle.std.specs.Prelude.{◌≡◌, ◌⊎◌, ℕ, zero, suc, ◌+◌, ◌<◌, ◌≤◌, ◌==◌, ◌&&◌, ◌||◌, not, Bool, true, false, List, [], ◌∷◌, ◌++◌, map, filter_map, length, get_or, Option, Some, None, option_map, unwrap_or, if◌then◌else◌}
use Rattle.std.specs.List.{list_any, enumerate_from, slice_get, cons_option}
use Rattle.std.specs.Option.{is_some}
use Rattle.std.proofs.Common.{refl, sym, ap, subst, ◌∙◌, arith, inl, inr}
use Rattle.std.proofs.Math.Nat.{eq-or-lt_of_le}
use Rattle.std.proofs.lemmas.Bool.{eq-eqb, false≢true}
use Rattle.std.proofs.lemmas.List.{length-map}
use Rattle.std.proofs.lemmas.Option.{slice_get-map, slice_get_within, get_or_from_slice_get, unwrap_or-slice_get}
use Rattle.alg_laws.specs.Least.{least, Within, IsMonotone}
use Rattle.alg_laws.proofs.Least.{least_closed, least_within}
use Rattle.alg_laws.specs.declared.number.Ty.{Ty}
use Rattle.alg_laws.specs.declared.number.Ty.TheVariants.{Integer, Real}
use Rattle.va_tree.specs.declared.expr.Callee.TheVariants as callee
use Rattle.va_tree.specs.declared.module.Module.{Module}
use Rattle.va_tree.specs.Expressions.{Expression, Arguments, literal, infinity, name, group, unary, binary, choose, call, no_more, text_then, expression_then}
use Rattle.va_sem.specs.declared.builtin.SystemFunction.TheVariants.{Temperature, ThermalVoltage, Limit, SimParam, ParamGiven}
use Rattle.va_sem.specs.declared.builtin.SystemName.{SystemName}
use Rattle.va_sem.specs.declared.builtin.SystemName.TheVariants as system
use Rattle.va_sem.specs.declared.names.Meaning.{Meaning}
use Rattle.va_sem.specs.declared.names.Meaning.TheVariants as means
use Rattle.va_sem.specs.declared.names.NameUse.{NameUse}
use Rattle.va_sem.specs.Builtins.{system_name_of}
use Rattle.va_sem.specs.Declarations.{VariableEntry, ParameterEntry, variables_of, parameters_of, functions_of}
use Rattle.va_sem.specs.LookedAt.{looked_at, looked_at_in_arguments, looks, call_looks}
use Rattle.va_sem.specs.Typing.{Typing, meaning_at, type_of_meaning, either_type, type_of_unary, type_of_binary, type_of_called, type_of_system, arguments_fit, type_of, types_of_arguments, parameter_number, parameter_read, reads_for_type, is_in, leads_back, default_type_or, parameter_types, signature_of}
use Rattle.va_sem.specs.TypingLaws.{ParametersHaveTypes}
use Rattle.va_sem.proofs.Contained.{Has}

-- how many of the numbers below n a set has
abbrev one_if : Bool → ℕ
one_if true = 1
one_if false = 0

abbrev count : ℕ → (ℕ → Bool) → ℕ
count zero f = 0
count (suc n) f = count n f + one_if (f n)

one_if_most : (b : Bool) → one_if b ≤ 1
one_if_most true = omega arith
one_if_most false = omega arith

one_if_more : (a b : Bool) → (a ≡ true → b ≡ true) → one_if a ≤ one_if b
one_if_more true true h = omega arith
one_if_more true false h = absurd (false≢true (h refl))
one_if_more false true h = omega arith
one_if_more false false h = omega arith

count_most : (n : ℕ) (f : ℕ → Bool) → count n f ≤ n
count_most zero f = omega arith
count_most (suc n) f = omega (arith, count_most n f, one_if_most (f n))

count_more : (n : ℕ) (f g : ℕ → Bool) → Within n f g → count n f ≤ count n g
count_more zero f g h = omega arith
count_more (suc n) f g h = omega (arith, count_more n f g (λ x b. h x (omega (arith, b))), one_if_more (f n) (g n) (h n (omega arith)))

-- where one has a number that the other hasn't
one_more_last : (c d : ℕ) (a b : Bool) → a ≡ false → b ≡ true → c ≤ d → c + one_if a + 1 ≤ d + one_if b
one_more_last c d true b h k le = absurd (false≢true (sym h))
one_more_last c d false true h k le = omega (arith, le)
one_more_last c d false false h k le = absurd (false≢true k)

by_place : (n : ℕ) (f g : ℕ → Bool) (x : ℕ) → Within (suc n) f g → f x ≡ false → g x ≡ true → (x < n → count n f + 1 ≤ count n g) → (x ≡ n) ⊎ (x < n)
    → count (suc n) f + 1 ≤ count (suc n) g
by_place n f g x w h k more (inl e) =
    one_more_last (count n f) (count n g) (f n) (g n) (ap f (sym e) ∙ h) (ap g (sym e) ∙ k) (count_more n f g (λ y b. w y (omega (arith, b))))
by_place n f g x w h k more (inr b) = omega (arith, more b, one_if_more (f n) (g n) (w n (omega arith)))

count_grows : (n : ℕ) (f g : ℕ → Bool) (x : ℕ) → x < n → Within n f g → f x ≡ false → g x ≡ true → count n f + 1 ≤ count n g
count_grows zero f g x b w h k = absurd (omega (arith, b))
count_grows (suc n) f g x b w h k =
    by_place n f g x w h k (λ c. count_grows n f g x c (λ y d. w y (omega (arith, d))) h k) (let le : x ≤ n = omega (arith, b) in eq-or-lt_of_le le)

full_last : (c n : ℕ) (b : Bool) → c ≤ n → suc n ≤ c + one_if b → (n ≤ c) × (b ≡ true)
full_last c n true h k = (omega (arith, k), refl)
full_last c n false h k = absurd (omega (arith, h, k))

at_last : (n : ℕ) (f : ℕ → Bool) (x : ℕ) → f n ≡ true → (x < n → f x ≡ true) → (x ≡ n) ⊎ (x < n) → f x ≡ true
at_last n f x h more (inl e) = ap f e ∙ h
at_last n f x h more (inr c) = more c

full : (n : ℕ) (f : ℕ → Bool) → n ≤ count n f → (x : ℕ) → x < n → f x ≡ true
full zero f h x b = absurd (omega (arith, b))
full (suc n) f h x b =
    let last = full_last (count n f) n (f n) (count_most n f) h in
    at_last n f x last.1 (full n f last.0 x) (let le : x ≤ n = omega (arith, b) in eq-or-lt_of_le le)

abbrev with_types : Typing → List Ty → Typing
with_types t types = record t { parameters = types }

-- Types rest on those of the parameters that are read alone.
module _ (t : Typing) (A B : List Ty) where
  abbrev Agree : List Expression → Type 0
  Agree es = (j : ℕ) → Has (filter_map (parameter_read t.uses) es) j → get_or A j Real ≡ get_or B j Real

  joined_has : (o : Option ℕ) (xs : List ℕ) (j : ℕ) → Has xs j → Has (cons_option o xs) j
  joined_has None xs j h = h
  joined_has (Some k) xs j h = inr h

  left_if : (o : Option ℕ) (xs ys : List ℕ) (j : ℕ) → (Has xs j → Has ys j) → Has (cons_option o xs) j → Has (cons_option o ys) j
  left_if None xs ys j more k = more k
  left_if (Some i) xs ys j more (inl k) = inl k
  left_if (Some i) xs ys j more (inr k) = inr (more k)

  left_has : (es fs : List Expression) (j : ℕ) → Has (filter_map (parameter_read t.uses) es) j → Has (filter_map (parameter_read t.uses) (es ++ fs)) j
  left_has [] fs j h = absurd h
  left_has (e ∷ es) fs j h =
      left_if (parameter_read t.uses e) (filter_map (parameter_read t.uses) es) (filter_map (parameter_read t.uses) (es ++ fs)) j (left_has es fs j) h

  right_has : (es fs : List Expression) (j : ℕ) → Has (filter_map (parameter_read t.uses) fs) j → Has (filter_map (parameter_read t.uses) (es ++ fs)) j
  right_has [] fs j h = h
  right_has (e ∷ es) fs j h = joined_has (parameter_read t.uses e) (filter_map (parameter_read t.uses) (es ++ fs)) j (right_has es fs j h)

  meaning_same : (m : Option Meaning) → ((j : ℕ) → Has (cons_option (parameter_number m) []) j → get_or A j Real ≡ get_or B j Real)
      → type_of_meaning (with_types t A) m ≡ type_of_meaning (with_types t B) m
  meaning_same (Some (means.Param n)) h = h n (inl refl)
  meaning_same None h = refl
  meaning_same (Some (means.Var n)) h = refl
  meaning_same (Some (means.Node n)) h = refl
  meaning_same (Some (means.Branch n)) h = refl
  meaning_same (Some (means.Function n)) h = refl
  meaning_same (Some (means.Discipline n)) h = refl
  meaning_same (Some (means.Nature n)) h = refl
  meaning_same (Some (means.Module n)) h = refl
  meaning_same (Some (means.Builtin n)) h = refl
  meaning_same (Some (means.Access n turned flow)) h = refl

  called_same : (fit : Bool) (m : Option Meaning) (tys uys : List (Option Ty)) → tys ≡ uys → type_of_called (with_types t A) fit tys m ≡ type_of_called (with_types t B) fit uys m
  called_same fit m tys uys e = subst (λ cs. type_of_called (with_types t A) fit tys m ≡ type_of_called (with_types t B) fit cs m) e (own m)
    where
      own : (m : Option Meaning) → type_of_called (with_types t A) fit tys m ≡ type_of_called (with_types t B) fit tys m
      own None = refl
      own (Some (means.Var n)) = refl
      own (Some (means.Param n)) = refl
      own (Some (means.Node n)) = refl
      own (Some (means.Branch n)) = refl
      own (Some (means.Function n)) = refl
      own (Some (means.Discipline n)) = refl
      own (Some (means.Nature n)) = refl
      own (Some (means.Module n)) = refl
      own (Some (means.Builtin n)) = refl
      own (Some (means.Access n turned flow)) = refl

  by_name : (s : Option SystemName) (fit : Bool) (args : Arguments) → (((place : ℕ) → looks s place ≡ true) → types_of_arguments (with_types t A) args ≡ types_of_arguments (with_types t B) args)
      → type_of_system fit (types_of_arguments (with_types t A) args) s ≡ type_of_system fit (types_of_arguments (with_types t B) args) s
  by_name None fit args h = refl
  by_name (Some system.Task) fit args h = refl
  by_name (Some (system.Function Temperature)) fit args h = refl
  by_name (Some (system.Function ThermalVoltage)) fit args h = refl
  by_name (Some (system.Function Limit)) fit args h = refl
  by_name (Some (system.Function ParamGiven)) fit args h = refl
  by_name (Some (system.Function SimParam)) fit args h = ap (λ types. type_of_system fit types (Some (system.Function SimParam))) (h (λ place. refl))

  mutual
    type_same : (e : Expression) → Agree (looked_at e) → type_of (with_types t A) e ≡ type_of (with_types t B) e
    type_same (literal at value integer) h = refl
    type_same (infinity at) h = refl
    type_same (name at bytes) h = meaning_same (meaning_at t.uses at) h
    type_same (group at inner) h = type_same inner h
    type_same (unary at op operand) h = ap (type_of_unary op) (type_same operand h)
    type_same (binary at left op right) h =
        λ j. type_of_binary op (type_same left (λ i k. h i (left_has (looked_at left) (looked_at right) i k)) j) (type_same right (λ i k. h i (right_has (looked_at left) (looked_at right) i k)) j)
    type_same (choose at test a b) h =
        λ j. either_type (type_same a (λ i k. h i (left_has (looked_at test ++ looked_at a) (looked_at b) i (right_has (looked_at test) (looked_at a) i k))) j)
        (type_same b (λ i k. h i (right_has (looked_at test ++ looked_at a) (looked_at b) i k)) j)
    type_same (call at callee.Function bytes args) h =
        called_same (arguments_fit t at callee.Function bytes args) (meaning_at t.uses at) (types_of_arguments (with_types t A) args) (types_of_arguments (with_types t B) args)
        (arguments_same (call_looks callee.Function bytes) 0 args (λ place. refl) h)
    type_same (call at callee.System bytes args) h =
        by_name (system_name_of bytes) (arguments_fit t at callee.System bytes args) args
        (λ all. arguments_same (call_looks callee.System bytes) 0 args all h)

    arguments_same : (test : ℕ → Bool) (place : ℕ) (args : Arguments) → ((place : ℕ) → test place ≡ true) → Agree (looked_at_in_arguments test place args)
        → types_of_arguments (with_types t A) args ≡ types_of_arguments (with_types t B) args
    arguments_same test place no_more all h = refl
    arguments_same test place (text_then text rest) all h = ap (λ l. None ∷ l) (arguments_same test (place + 1) rest all h)
    arguments_same test place (expression_then e rest) all h =
        let first = if test place then looked_at e else [] in
        let others = looked_at_in_arguments test (place + 1) rest in
        λ j. Some (type_same e (λ i k. h i (left_has first others i (subst (λ b. Has (filter_map (parameter_read t.uses) (if b then looked_at e else [])) i) (sym (all place)) k))) j)
        ∷ arguments_same test (place + 1) rest all (λ i k. h i (right_has first others i k)) j

-- the elements of a list with their places
numbered : {X Y : Type 0} (f : ℕ × X → Y) (i : ℕ) (xs : List X) (k : ℕ) → slice_get (map f (enumerate_from i xs)) k ≡ option_map (λ x. f (i + k, x)) (slice_get xs k)
numbered f i [] k = refl
numbered f i (x ∷ xs) zero = (let e : i ≡ i + 0 = omega arith in ap (λ m. Some (f (m, x))) e)
numbered f i (x ∷ xs) (suc k) = (let e : i + 1 + k ≡ i + suc k = omega arith in numbered f (i + 1) xs k ∙ ap (λ m. option_map (λ y. f (m, y)) (slice_get xs k)) e)

places_below : {X : Type 0} (i : ℕ) (xs : List X) (e : ℕ × X) → Has (enumerate_from i xs) e → e.0 < i + length xs
places_below i [] e h = absurd h
places_below {X = X} i (x ∷ xs) e (inl is) = (let same : i ≡ e.0 = ap (λ (y : ℕ × X). y.0) is in omega (arith, same))
places_below i (x ∷ xs) e (inr h) = omega (arith, places_below (i + 1) xs e h)

place_there : {X : Type 0} (i : ℕ) (xs : List X) (k : ℕ) (d : X) → k < length xs → Has (enumerate_from i xs) (i + k, get_or xs k d)
place_there i [] k d h = absurd (omega (arith, h))
place_there {X} i (x ∷ xs) zero d h = inl (let e : i ≡ i + 0 = omega arith in ap (λ (m : ℕ). (m, x)) e)
place_there {X} i (x ∷ xs) (suc k) d h =
    inr (let e : i + 1 + k ≡ i + suc k = omega arith in subst (λ m. Has (enumerate_from (i + 1) xs) (m, get_or xs k d)) e (place_there (i + 1) xs k d (omega (arith, h))))

any_if : (a b c d : Bool) → (a ≡ true → b ≡ true) → (c ≡ true → d ≡ true) → a || c ≡ true → b || d ≡ true
any_if a true c d h k e = refl
any_if true false c d h k e = absurd (false≢true (h refl))
any_if false false c d h k e = k e

any_in : {X : Type 0} (f g : X → Bool) (xs : List X) → ((x : X) → Has xs x → f x ≡ true → g x ≡ true) → list_any f xs ≡ true → list_any g xs ≡ true
any_in f g [] h e = e
any_in f g (x ∷ xs) h e = any_if (f x) (g x) (list_any f xs) (list_any g xs) (h x (inl refl)) (any_in f g xs (λ y k. h y (inr k))) e

or_right : (a b : Bool) → b ≡ true → a || b ≡ true
or_right true b h = refl
or_right false b h = h

any_has : {X : Type 0} (f : X → Bool) (xs : List X) (x : X) → Has xs x → f x ≡ true → list_any f xs ≡ true
any_has f [] x h e = absurd h
any_has f (y ∷ xs) x (inl is) e = ap (λ b. b || list_any f xs) (ap f is ∙ e)
any_has f (y ∷ xs) x (inr h) e = or_right (f y) (list_any f xs) (any_has f xs x h e)

either : (a b : Bool) → a || b ≡ true → (a ≡ true) ⊎ (b ≡ true)
either true b h = inl refl
either false b h = inr h

left_true : (a b : Bool) → a ≡ true → a || b ≡ true
left_true true b h = refl
left_true false b h = absurd (false≢true h)

both_of : (a b : Bool) → a && b ≡ true → (a ≡ true) × (b ≡ true)
both_of true b h = (refl, h)
both_of false b h = absurd (false≢true h)

and_both : (a b : Bool) → a ≡ true → b ≡ true → a && b ≡ true
and_both true b h k = k
and_both false b h k = absurd (false≢true h)

same_ty : Ty → Ty → Bool
same_ty Integer Integer = true
same_ty Integer Real = false
same_ty Real Integer = false
same_ty Real Real = true

same_self : (a : Ty) → same_ty a a ≡ true
unfolding same_ty
same_self Integer = refl
same_self Real = refl

same_is : (a b : Ty) → not (same_ty a b) ≡ false → a ≡ b
unfolding same_ty
same_is Integer Integer h = refl
same_is Real Real h = refl
same_is Integer Real h = absurd (false≢true (sym h))
same_is Real Integer h = absurd (false≢true (sym h))

not_differing : (a b : Ty) → a ≡ b → not (same_ty a b) ≡ true → ⊥
not_differing a b e h = false≢true (sym (ap not (ap (same_ty a) (sym e) ∙ same_self a)) ∙ h)

module _ (t : Typing) (parameters : List ParameterEntry) where
  abbrev reads : List (List ℕ)
  reads = map (reads_for_type t.uses) parameters

  abbrev n : ℕ
  n = length reads

  abbrev types : ℕ → List Ty
  types = parameter_types reads parameters t

  abbrev at : ℕ → ℕ → Ty
  at d k = get_or (types d) k Real

  abbrev value : ℕ → ℕ → ParameterEntry → Ty
  value zero k p = unwrap_or p.ty Real
  value (suc d) k p = default_type_or (with_types t (types d)) (leads_back reads k) p p.ty

  as_many : length parameters ≡ n
  as_many = sym (length-map parameters (reads_for_type t.uses))

  slice_at : (d k : ℕ) → slice_get (types d) k ≡ option_map (value d k) (slice_get parameters k)
  slice_at zero k = slice_get-map (λ (p : ParameterEntry). unwrap_or p.ty Real) parameters k
  slice_at (suc d) k =
      let e : 0 + k ≡ k = omega arith in
      numbered (λ (e : ℕ × ParameterEntry). default_type_or (with_types t (types d)) (leads_back reads e.0) e.1 e.1.ty) 0 parameters k
      ∙ ap (λ m. option_map (λ (p : ParameterEntry). default_type_or (with_types t (types d)) (leads_back reads m) p p.ty) (slice_get parameters k)) e

  at_of : (d k : ℕ) (o : Option ParameterEntry) → slice_get parameters k ≡ o → at d k ≡ unwrap_or (option_map (value d k) o) Real
  at_of d k o e = sym (unwrap_or-slice_get (types d) k Real) ∙ ap (λ x. unwrap_or x Real) (slice_at d k ∙ ap (option_map (value d k)) e)

  value_written : (d k : ℕ) (p : ParameterEntry) (w : Ty) → p.ty ≡ Some w → value d k p ≡ w
  value_written zero k p w e = ap (λ o. unwrap_or o Real) e
  value_written (suc d) k p w e = ap (default_type_or (with_types t (types d)) (leads_back reads k) p) e

  value_back : (d k : ℕ) (p : ParameterEntry) → p.ty ≡ None → leads_back reads k ≡ true → value d k p ≡ Real
  value_back zero k p e b = ap (λ o. unwrap_or o Real) e
  value_back (suc d) k p e b = λ j. default_type_or (with_types t (types d)) (b j) p (e j)

  value_default : (d k : ℕ) (p : ParameterEntry) → p.ty ≡ None → leads_back reads k ≡ false → value (suc d) k p ≡ type_of (with_types t (types d)) p.default
  value_default d k p e b = λ j. default_type_or (with_types t (types d)) (b j) p (e j)

  -- whether a parameter has another type when one goes one deeper
  abbrev differs : ℕ → ℕ → Bool
  differs d k = not (same_ty (at (suc d) k) (at d k))

  record Differing (k : ℕ) : Type 0 where
    entry : ParameterEntry
    there : slice_get parameters k ≡ Some entry
    plain : entry.ty ≡ None
    open_end : leads_back reads k ≡ false

  by_back : (d k : ℕ) (p : ParameterEntry) → slice_get parameters k ≡ Some p → p.ty ≡ None → differs d k ≡ true → (b : Bool) → leads_back reads k ≡ b → Differing k
  by_back d k p there e h false b = record { entry = p; there = there; plain = e; open_end = b }
  by_back d k p there e h true b =
      absurd (not_differing (at (suc d) k) (at d k)
      (at_of (suc d) k (Some p) there ∙ value_back (suc d) k p e b ∙ sym (at_of d k (Some p) there ∙ value_back d k p e b)) h)

  by_type : (d k : ℕ) (p : ParameterEntry) → slice_get parameters k ≡ Some p → differs d k ≡ true → (ty : Option Ty) → p.ty ≡ ty → Differing k
  by_type d k p there h (Some w) e =
      absurd (not_differing (at (suc d) k) (at d k)
      (at_of (suc d) k (Some p) there ∙ value_written (suc d) k p w e ∙ sym (at_of d k (Some p) there ∙ value_written d k p w e)) h)
  by_type d k p there h None e = by_back d k p there e h (leads_back reads k) refl

  differing : (d k : ℕ) → differs d k ≡ true → (o : Option ParameterEntry) → slice_get parameters k ≡ o → Differing k
  differing d k h None e = absurd (not_differing (at (suc d) k) (at d k) (at_of (suc d) k None e ∙ sym (at_of d k None e)) h)
  differing d k h (Some p) e = by_type d k p e h p.ty refl

  -- a parameter that it reads and whose type differs one step before
  record Before (d : ℕ) (list : List ℕ) : Type 0 where
    number : ℕ
    has : Has list number
    other : differs d number ≡ true

  none_there : (d k : ℕ) (rest : List ℕ) → differs d k ≡ false → ((j : ℕ) → Has rest j → differs d j ≡ false) → (j : ℕ) → Has (k ∷ rest) j → differs d j ≡ false
  none_there d k rest e none j (inl is) = ap (differs d) (sym is) ∙ e
  none_there d k rest e none j (inr h) = none j h

  by_first : (d k : ℕ) (rest : List ℕ) (b : Bool) → differs d k ≡ b → Before d rest ⊎ ((j : ℕ) → Has rest j → differs d j ≡ false)
      → Before d (k ∷ rest) ⊎ ((j : ℕ) → Has (k ∷ rest) j → differs d j ≡ false)
  by_first d k rest true e more = inl (record { number = k; has = inl refl; other = e })
  by_first d k rest false e (inl r) = inl (record { number = r.number; has = inr r.has; other = r.other })
  by_first d k rest false e (inr none) = inr (none_there d k rest e none)

  search_in : (d : ℕ) (list : List ℕ) → Before d list ⊎ ((j : ℕ) → Has list j → differs d j ≡ false)
  search_in d [] = inr (λ j h. absurd h)
  search_in d (k ∷ rest) = by_first d k rest (differs d k) refl (search_in d rest)

  agrees : (d : ℕ) (e : Expression) → ((j : ℕ) → Has (filter_map (parameter_read t.uses) (looked_at e)) j → differs d j ≡ false)
      → type_of (with_types t (types (suc d))) e ≡ type_of (with_types t (types d)) e
  agrees d e h = type_same t (types (suc d)) (types d) e (λ j k. same_is (at (suc d) j) (at d j) (h j k))

  reads_are : (k : ℕ) (p : ParameterEntry) → slice_get parameters k ≡ Some p → p.ty ≡ None → get_or reads k [] ≡ filter_map (parameter_read t.uses) (looked_at p.default)
  reads_are k p there e =
      get_or_from_slice_get reads k (reads_for_type t.uses p) [] (slice_get-map (reads_for_type t.uses) parameters k ∙ ap (option_map (reads_for_type t.uses)) there)
      ∙ ap (λ (o : Option Ty). if is_some o then [] else filter_map (parameter_read t.uses) (looked_at p.default)) e

  before_or : (d k : ℕ) (r : Differing k) → differs (suc d) k ≡ true
      → Before d (filter_map (parameter_read t.uses) (looked_at r.entry.default)) ⊎ ((j : ℕ) → Has (filter_map (parameter_read t.uses) (looked_at r.entry.default)) j → differs d j ≡ false)
      → Before d (filter_map (parameter_read t.uses) (looked_at r.entry.default))
  before_or d k r h (inl b) = b
  before_or d k r h (inr none) =
      absurd (not_differing (at (suc (suc d)) k) (at (suc d) k)
      (at_of (suc (suc d)) k (Some r.entry) r.there ∙ value_default (suc d) k r.entry r.plain r.open_end
      ∙ agrees d r.entry.default none
      ∙ sym (at_of (suc d) k (Some r.entry) r.there ∙ value_default d k r.entry r.plain r.open_end)) h)

  -- the parameters to which a default leads
  abbrev follows : ℕ → (ℕ → Bool) → ℕ → Bool
  follows p set q = is_in (get_or reads p []) q || list_any (λ (e : ℕ × List ℕ). set e.0 && is_in e.1 q) (enumerate_from 0 reads)

  abbrev reach : ℕ → ℕ → Bool
  reach p = least n (follows p)

  monotone : (p : ℕ) → IsMonotone n (follows p)
  monotone p a b w q below h = by_side (either (is_in (get_or reads p []) q) (list_any (λ (e : ℕ × List ℕ). a e.0 && is_in e.1 q) (enumerate_from 0 reads)) h)
    where
      by_side : (is_in (get_or reads p []) q ≡ true) ⊎ (list_any (λ (e : ℕ × List ℕ). a e.0 && is_in e.1 q) (enumerate_from 0 reads) ≡ true) → follows p b q ≡ true
      by_side (inl x) = left_true (is_in (get_or reads p []) q) (list_any (λ (e : ℕ × List ℕ). b e.0 && is_in e.1 q) (enumerate_from 0 reads)) x
      by_side (inr y) =
          or_right (is_in (get_or reads p []) q) (list_any (λ (e : ℕ × List ℕ). b e.0 && is_in e.1 q) (enumerate_from 0 reads))
          (any_in (λ (e : ℕ × List ℕ). a e.0 && is_in e.1 q) (λ (e : ℕ × List ℕ). b e.0 && is_in e.1 q) (enumerate_from 0 reads)
          (λ e there both.
          let parts = both_of (a e.0) (is_in e.1 q) both in
          let low : e.0 < 0 + n = places_below 0 reads e there in
          and_both (b e.0) (is_in e.1 q) (w e.0 (omega (arith, low)) parts.0) parts.1) y)

  closed : (k : ℕ) → Within n (follows k (reach k)) (reach k)
  closed k = least_closed n (follows k) (monotone k)

  -- what is reached from one that is reached
  leads_on : (j k q : ℕ) → j < n → reach k j ≡ true → follows j (reach k) q ≡ true → follows k (reach k) q ≡ true
  leads_on j k q below there h = by_side (either (is_in (get_or reads j []) q) (list_any (λ (e : ℕ × List ℕ). reach k e.0 && is_in e.1 q) (enumerate_from 0 reads)) h)
    where
      by_side : (is_in (get_or reads j []) q ≡ true) ⊎ (list_any (λ (e : ℕ × List ℕ). reach k e.0 && is_in e.1 q) (enumerate_from 0 reads) ≡ true) → follows k (reach k) q ≡ true
      by_side (inl x) =
          let same : 0 + j ≡ j = omega arith in
          or_right (is_in (get_or reads k []) q) (list_any (λ (e : ℕ × List ℕ). reach k e.0 && is_in e.1 q) (enumerate_from 0 reads))
          (any_has (λ (e : ℕ × List ℕ). reach k e.0 && is_in e.1 q) (enumerate_from 0 reads) (j, get_or reads j [])
          (subst (λ m. Has (enumerate_from 0 reads) (m, get_or reads j [])) same (place_there 0 reads j [] below))
          (and_both (reach k j) (is_in (get_or reads j []) q) there x))
      by_side (inr y) = or_right (is_in (get_or reads k []) q) (list_any (λ (e : ℕ × List ℕ). reach k e.0 && is_in e.1 q) (enumerate_from 0 reads)) y

  reach_within : (j k : ℕ) → j < n → reach k j ≡ true → Within n (reach j) (reach k)
  reach_within j k below there = least_within n (follows j) (monotone j) (reach k) (λ q b h. closed k q b (leads_on j k q below there h))

  number_below : (k : ℕ) (p : ParameterEntry) → slice_get parameters k ≡ Some p → k < n
  number_below k p e = subst (λ m. k < m) as_many (slice_get_within parameters k p e)

  is_in_has : (list : List ℕ) (j : ℕ) → Has list j → is_in list j ≡ true
  is_in_has list j h = any_has (λ k. k == j) list j h (eq-eqb j j refl)

  deep : (d k : ℕ) → differs d k ≡ true → d ≤ count n (reach k)
  deep zero k h = omega arith
  deep (suc d) k h =
      let r = differing (suc d) k h (slice_get parameters k) refl in
      let list = filter_map (parameter_read t.uses) (looked_at r.entry.default) in
      let b = before_or d k r h (search_in d list) in
      let j = b.number in
      let s = differing d j b.other (slice_get parameters j) refl in
      let below : j < n = number_below j s.entry s.there in
      let read : is_in (get_or reads k []) j ≡ true = ap (λ l. is_in l j) (reads_are k r.entry r.there r.plain) ∙ is_in_has list j b.has in
      let there : reach k j ≡ true = closed k j below (left_true (is_in (get_or reads k []) j) (list_any (λ (e : ℕ × List ℕ). reach k e.0 && is_in e.1 j) (enumerate_from 0 reads)) read) in
      let grows : count n (reach j) + 1 ≤ count n (reach k) = count_grows n (reach j) (reach k) j below (reach_within j k below there) s.open_end there in
      omega (arith, grows, deep d j b.other)

  settled_at : (d k : ℕ) → n ≤ d → (b : Bool) → differs d k ≡ b → b ≡ false
  settled_at d k le false e = refl
  settled_at d k le true e =
      let r = differing d k e (slice_get parameters k) refl in
      let many : n ≤ count n (reach k) = omega (arith, le, deep d k e) in
      absurd (false≢true (sym r.open_end ∙ full n (reach k) many k (number_below k r.entry r.there)))

  pub own_equation : (k : ℕ) (p : ParameterEntry) → slice_get parameters k ≡ Some p
      → slice_get (types (length parameters)) k ≡ Some (default_type_or (with_types t (types (length parameters))) (leads_back reads k) p p.ty)
  own_equation k p e =
      let d = length parameters in
      let le : n ≤ d = (let same : d ≡ n = as_many in omega (arith, same)) in
      let same : at (suc d) k ≡ at d k = same_is (at (suc d) k) (at d k) (settled_at d k le (differs d k) refl) in
      slice_at d k ∙ ap (option_map (value d k)) e
      ∙ ap Some (sym (at_of d k (Some p) e) ∙ sym same ∙ at_of (suc d) k (Some p) e)

-- what types rest on besides the parameters
abbrev without : List NameUse → Module → Typing
without uses m = record {
  uses = uses;
  variables = map (λ (v : VariableEntry). v.ty) (variables_of m);
  parameters = [];
  functions = map signature_of (functions_of m);
}

pub parameters_have_types : ParametersHaveTypes
parameters_have_types = record { own = λ uses m k p e. own_equation (without uses m) (parameters_of m) k p e }
