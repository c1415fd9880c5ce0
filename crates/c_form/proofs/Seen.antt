-- What stands again, by what was seen before.
use Rattle.std.proofs.Common.{◌≡◌, ◌<◌, ◌≤◌, ◌+◌, ℕ, List, [], ◌∷◌, ◌++◌, length, get_or, drop, drop-cons, refl, ap, sym, ◌∙◌, add-one, arith}
use Rattle.std.specs.Prelude.{map, Option, Some, None, Bool, true, false, not, ◌==◌, ◌||◌, if◌then◌else◌, cond}
use Rattle.std.specs.Option.{is_some}
use Rattle.std.specs.List.{flat_map, list_any}
use Rattle.std.proofs.lemmas.Bool.Decides.{nat_tests}
use Rattle.std.proofs.Math.ListN.{drop_of_length-le}
use Rattle.c_tree.specs.Form.{least_of}
use Rattle.c_tree.specs.declared.body.CField.{CField}
use Rattle.c_tree.specs.Raw.{At, RawField}
use Rattle.c_tree.specs.Text.{field_word}
use Rattle.c_tree.specs.rules.Fields.{again, same_field, twice}
use Rattle.c_form.proofs.Naming.{bytes_eq-sym}
use Rattle.c_tree.specs.rules.Bodies.{tokens_of, repeated}
use Rattle.c_form.specs.Blames.{Blames, lesser}
use Rattle.c_form.proofs.Blaming.{◌▸◌, blames_none, least_append, least_first, lesser-assoc}

or_same : (b c d : Bool) → c ≡ d → (b || c) ≡ (b || d)
or_same b c d e = ap (λ t. b || t) e

-- lesser tokens in any order
lesser-swap : (a b c : Option ℕ) → lesser a (lesser b c) ≡ lesser b (lesser a c)
lesser-swap None b c = refl
lesser-swap (Some x) None c = refl
lesser-swap (Some x) (Some y) None = ap (λ n. Some n) (omega arith)
lesser-swap (Some x) (Some y) (Some z) = ap (λ n. Some n) (omega arith)

lesser-twice : (a b c : Option ℕ) → lesser a (lesser b (lesser a c)) ≡ lesser a (lesser b c)
lesser-twice None b c = refl
lesser-twice (Some x) None None = ap (λ n. Some n) (omega arith)
lesser-twice (Some x) None (Some z) = ap (λ n. Some n) (omega arith)
lesser-twice (Some x) (Some y) None = ap (λ n. Some n) (omega arith)
lesser-twice (Some x) (Some y) (Some z) = ap (λ n. Some n) (omega arith)

-- What stands again, of elements of any kind: each stands at a token and has a key, and a test tells which keys are the same.
module _ {X V : Type 0} (token : X → ℕ) (key : X → V) (test : V → V → Bool) where
  -- the tokens of the elements with a certain key
  abbrev pub tokens_at : V → List X → List ℕ
  tokens_at k [] = []
  tokens_at k (x ∷ rest) = if test (key x) k then token x ∷ tokens_at k rest else tokens_at k rest

  -- the tokens at which a key stands again
  abbrev pub repeated_at : List X → List ℕ
  repeated_at [] = []
  repeated_at (x ∷ rest) = tokens_at (key x) rest ++ repeated_at rest

  -- the same, by the keys that were seen before
  abbrev pub again_by : (V → Bool) → List X → List ℕ
  again_by seen [] = []
  again_by seen (x ∷ rest) = (if seen (key x) then token x ∷ [] else []) ++ again_by (λ k. test (key x) k || seen k) rest

  pub again-same : (f g : V → Bool) (xs : List X) → ((i : V) → f i ≡ g i) → again_by f xs ≡ again_by g xs
  again-same f g [] e = refl
  again-same f g (x ∷ rest) e =
      ap (λ b. (if b then token x ∷ [] else []) ++ again_by (λ i. test (key x) i || f i) rest) (e (key x))
      ∙ ap (λ l. (if g (key x) then token x ∷ [] else []) ++ l)
      (again-same (λ i. test (key x) i || f i) (λ i. test (key x) i || g i) rest (λ i. or_same (test (key x) i) (f i) (g i) (e i)))

  -- the least token of a number among those that were seen
  abbrev seen_tokens : List V → List X → List ℕ
  seen_tokens seen xs = flat_map (λ i. tokens_at i xs) seen

  abbrev among : List V → V → Bool
  among seen i = list_any (λ n. test i n) seen

  seen-first : (seen : List V) (x : X) (rest : List X)
      → least_of (seen_tokens seen (x ∷ rest)) ≡ lesser (least_of (if among seen (key x) then token x ∷ [] else [])) (least_of (seen_tokens seen rest))
  seen-first [] x rest = refl
  seen-first (k ∷ seen) x rest = by_tests (test (key x) k) (among seen (key x)) refl (seen-first seen x rest)
    where
      by_tests : (b c : Bool) → (test (key x) k) ≡ b
          → least_of (seen_tokens seen (x ∷ rest)) ≡ lesser (least_of (if c then token x ∷ [] else [])) (least_of (seen_tokens seen rest))
          → least_of ((if test (key x) k then token x ∷ tokens_at k rest else tokens_at k rest) ++ seen_tokens seen (x ∷ rest))
          ≡ lesser (least_of (if (b || c) then token x ∷ [] else [])) (least_of (tokens_at k rest ++ seen_tokens seen rest))
      by_tests true true e ih =
          rw e
          (least_first (token x) (tokens_at k rest ++ seen_tokens seen (x ∷ rest))
          ∙ ap (lesser (Some (token x))) (least_append (tokens_at k rest) (seen_tokens seen (x ∷ rest)) ∙ ap (lesser (least_of (tokens_at k rest))) ih)
          ∙ lesser-twice (Some (token x)) (least_of (tokens_at k rest)) (least_of (seen_tokens seen rest))
          ∙ ap (lesser (Some (token x))) (sym (least_append (tokens_at k rest) (seen_tokens seen rest))))
      by_tests true false e ih =
          rw e
          (least_first (token x) (tokens_at k rest ++ seen_tokens seen (x ∷ rest))
          ∙ ap (lesser (Some (token x))) (least_append (tokens_at k rest) (seen_tokens seen (x ∷ rest)) ∙ ap (lesser (least_of (tokens_at k rest))) ih)
          ∙ ap (lesser (Some (token x))) (sym (least_append (tokens_at k rest) (seen_tokens seen rest))))
      by_tests false true e ih =
          rw e
          (least_append (tokens_at k rest) (seen_tokens seen (x ∷ rest)) ∙ ap (lesser (least_of (tokens_at k rest))) ih
          ∙ lesser-swap (least_of (tokens_at k rest)) (Some (token x)) (least_of (seen_tokens seen rest))
          ∙ ap (lesser (Some (token x))) (sym (least_append (tokens_at k rest) (seen_tokens seen rest))))
      by_tests false false e ih =
          rw e
          (least_append (tokens_at k rest) (seen_tokens seen (x ∷ rest)) ∙ ap (lesser (least_of (tokens_at k rest))) ih
          ∙ sym (least_append (tokens_at k rest) (seen_tokens seen rest)))

  none_seen : (seen : List V) → seen_tokens seen [] ≡ []
  none_seen [] = refl
  none_seen (k ∷ seen) = none_seen seen

  seen-again : (test-sym : (a b : V) → test a b ≡ test b a) (seen : List V) (xs : List X) → least_of (seen_tokens seen xs ++ repeated_at xs) ≡ least_of (again_by (among seen) xs)
  seen-again test-sym seen [] = ap (λ l. least_of (l ++ [])) (none_seen seen)
  seen-again test-sym seen (x ∷ rest) =
      let head : List ℕ = if among seen (key x) then token x ∷ [] else [] in
      let own : List ℕ = tokens_at (key x) rest in
      let old : List ℕ = seen_tokens seen rest in
      least_append (seen_tokens seen (x ∷ rest)) (own ++ repeated_at rest)
      ∙ ap (λ t. lesser t (least_of (own ++ repeated_at rest))) (seen-first seen x rest)
      ∙ lesser-assoc (least_of head) (least_of old) (least_of (own ++ repeated_at rest))
      ∙ ap (λ t. lesser (least_of head) (lesser (least_of old) t)) (least_append own (repeated_at rest))
      ∙ ap (lesser (least_of head)) (lesser-swap (least_of old) (least_of own) (least_of (repeated_at rest))
      ∙ sym (lesser-assoc (least_of own) (least_of old) (least_of (repeated_at rest)))
      ∙ ap (λ t. lesser t (least_of (repeated_at rest))) (sym (least_append own old))
      ∙ sym (least_append (own ++ old) (repeated_at rest))
      ∙ seen-again test-sym (key x ∷ seen) rest
      ∙ ap least_of (again-same (among (key x ∷ seen)) (λ i. test (key x) i || among seen i) rest
      (λ i. ap (λ b. b || among seen i) (test-sym i (key x)))))
      ∙ sym (least_append head (again_by (λ i. test (key x) i || among seen i) rest))

  pub repeated-again : ((a b : V) → test a b ≡ test b a) → (xs : List X) → least_of (again_by (λ k. false) xs) ≡ least_of (repeated_at xs)
  repeated-again test-sym xs = sym (seen-again test-sym [] xs)

  pub again-step : {T : Type 0} (view : T → X) (old mid new : Option ℕ) (seen next : V → Bool) (xs : List T) (i : ℕ) (d : T) → i < length xs
      → ((k : V) → next k ≡ (test (key (view (get_or xs i d))) k || seen k))
      → Blames old mid (if seen (key (view (get_or xs i d))) then token (view (get_or xs i d)) ∷ [] else [])
      → Blames mid new (again_by next (map view (drop (i + 1) xs))) → Blames old new (again_by seen (map view (drop i xs)))
  again-step view old mid new seen next xs i d h e a b =
      let front : drop i xs ≡ get_or xs i d ∷ drop (i + 1) xs = rw add-one (drop-cons xs i d h) in
      let x : X = view (get_or xs i d) in
      rw (front, ← again-same next (λ k. test (key x) k || seen k) (map view (drop (i + 1) xs)) e) (a ▸ b)

  pub again-end : {T : Type 0} (view : T → X) (old : Option ℕ) (seen : V → Bool) (xs : List T) (i : ℕ) → length xs ≤ i
      → Blames old old (again_by seen (map view (drop i xs)))
  again-end view old seen xs i h = rw (drop_of_length-le xs h) (blames_none old)

-- other tokens with the same least one
pub blames_like : (old new : Option ℕ) (tokens other : List ℕ) → Blames old new tokens → least_of tokens ≡ least_of other → Blames old new other
blames_like old new tokens other a e = record { is = a.is ∙ ap (lesser old) e }

pub seen-more : {X : Type 0} (b : Bool) (v : X) (o : Option X) → is_some (cond b (Some v) o) ≡ (b || is_some o)
seen-more true v o = refl
seen-more false v o = refl

pub unless-not : (b c : Bool) (at : ℕ) → c ≡ not b → (if b then [] else at ∷ []) ≡ (if c then at ∷ [] else [])
unless-not true true at e = cc e
unless-not true false at e = refl
unless-not false true at e = refl
unless-not false false at e = cc e

-- numbers that stand again
pub eq-sym : (a b : ℕ) → (a == b) ≡ (b == a)
eq-sym a b = grind (arith, nat_tests)

number-tokens : (i : ℕ) (xs : List (At ℕ)) → tokens_at (λ x. At.at x) (λ x. At.value x) (λ a b. a == b) i xs ≡ tokens_of i xs
number-tokens i [] = refl
number-tokens i (x ∷ rest) = ap (λ l. if x.value == i then x.at ∷ l else l) (number-tokens i rest)

pub numbers-again : (xs : List (At ℕ)) → repeated_at (λ x. At.at x) (λ x. At.value x) (λ a b. a == b) xs ≡ repeated xs
numbers-again [] = refl
numbers-again (x ∷ rest) =
    ap (λ l. l ++ repeated_at (λ x. At.at x) (λ x. At.value x) (λ a b. a == b) rest) (number-tokens x.value rest)
    ∙ ap (λ l. tokens_of x.value rest ++ l) (numbers-again rest)

-- fields whose names stand again
abbrev pub field_token : RawField → ℕ
field_token f = f.field.at

abbrev pub field_key : RawField → CField
field_key f = f.field.value

pub same_field-sym : (a b : CField) → same_field a b ≡ same_field b a
same_field-sym a b = bytes_eq-sym (field_word a) (field_word b)

field-tokens : (field : CField) (xs : List RawField) → tokens_at field_token field_key same_field field xs ≡ again field xs
field-tokens field [] = refl
field-tokens field (f ∷ rest) = ap (λ l. if same_field f.field.value field then f.field.at ∷ l else l) (field-tokens field rest)

pub fields-again : (xs : List RawField) → repeated_at field_token field_key same_field xs ≡ twice xs
fields-again [] = refl
fields-again (f ∷ rest) =
    ap (λ l. l ++ repeated_at field_token field_key same_field rest) (field-tokens f.field.value rest)
    ∙ ap (λ l. again f.field.value rest ++ l) (fields-again rest)

-- numbers and fields, by what was seen before
abbrev pub numbers_by : (ℕ → Bool) → List (At ℕ) → List ℕ
numbers_by = again_by (λ x. At.at x) (λ x. At.value x) (λ a b. a == b)

abbrev pub fields_by : (CField → Bool) → List RawField → List ℕ
fields_by = again_by field_token field_key same_field

pub twice_not : (b c : Bool) → b ≡ c → c ≡ not (not b)
twice_not true c e = sym e
twice_not false c e = sym e
