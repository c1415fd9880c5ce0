-- Where the names of a text ascend in the order of the text, each stands at a token of its own.
use Rattle.std.specs.Prelude.{◌≡◌, ◌≤◌, ◌<◌, ◌+◌, ◌==◌, ◌≢◌, nat_le, ℕ, zero, suc, Bool, true, false, List, [], ◌∷◌, ◌++◌, Some, map, flat_map, slice_get, option_to_list, if◌then◌else◌}
use Rattle.std.proofs.Common.{refl, ap, sym, subst, arith, inl, inr, ◌⊎◌}
use Rattle.std.proofs.lemmas.Bool.Decides.{eqb_tells}
use Rattle.va_tree.specs.declared.module.Item.{Item}
use Rattle.va_tree.specs.declared.module.ItemBody.{ItemBody}
use Rattle.va_tree.specs.declared.module.ItemBody.TheVariants as item
use Rattle.va_tree.specs.declared.module.Module.{Module}
use Rattle.va_tree.specs.declared.source.Source.{Source}
use Rattle.va_tree.specs.OrderedNames.{Passage, put_in, in_order, tokens_in, ordered_in_statement, ordered_in_statements, item_passages, default_passages, ordered_in_body, ordered_in_item, nature_passage, discipline_passage, module_passage, ordered_in_source, Ascend, HasNamesInOrder}
use Rattle.va_tree.specs.OwnTokens.{tokens_of, names_in, names_in_declaration, names_in_attributes, names_in_function_item, names_in_statement, names_in_statements, names_in_items, names_in_defaults, names_in_body, names_in_item, names_in_module, names_in_nature, names_in_discipline, names_in_source, EachNameHasItsToken}
use Rattle.va_tree.specs.Statements.{Statement, Statements, Items, Defaults, null, block, only_if, if_else, cases, for_loop, while_loop, repeat_loop, event, assign, contribute, task, no_more as no_statement, statement_then, no_items, item_then, no_defaults, default_then, statement_of}

abbrev here : Bool → ℕ
here true = 1
here false = 0

-- how often a number stands in a list
abbrev pub times : ℕ → List ℕ → ℕ
times n [] = 0
times n (x ∷ xs) = here (x == n) + times n xs

pub times_append : (n : ℕ) (xs ys : List ℕ) → times n (xs ++ ys) ≡ times n xs + times n ys
times_append n [] ys = omega arith
times_append n (x ∷ xs) ys = omega (arith, times_append n xs ys)

-- both lists have it as often
two : (n : ℕ) (xs ys zs ws : List ℕ) → times n xs ≡ times n zs → times n ys ≡ times n ws → times n (xs ++ ys) ≡ times n (zs ++ ws)
two n xs ys zs ws p q = omega (arith, times_append n xs ys, times_append n zs ws, p, q)

behind : (n : ℕ) (xs ys zs : List ℕ) → times n ys ≡ times n zs → times n (xs ++ ys) ≡ times n (xs ++ zs)
behind n xs ys zs p = two n xs ys xs zs refl p

each_as_often : {X : Type 0} (n : ℕ) (f g : X → List ℕ) → ((x : X) → times n (f x) ≡ times n (g x)) → (xs : List X) → times n (flat_map f xs) ≡ times n (flat_map g xs)
each_as_often n f g h [] = refl
each_as_often n f g h (x ∷ xs) = two n (f x) (flat_map f xs) (g x) (flat_map g xs) (h x) (each_as_often n f g h xs)

-- the passages of some things
passages_as_often : {X : Type 0} (n : ℕ) (f : X → List ℕ) (g : X → Passage) → ((x : X) → times n (f x) ≡ times n (g x).tokens) → (xs : List X)
    → times n (flat_map f xs) ≡ times n (tokens_in (map g xs))
passages_as_often n f g h [] = refl
passages_as_often n f g h (x ∷ xs) = two n (f x) (flat_map f xs) (g x).tokens (tokens_in (map g xs)) (h x) (passages_as_often n f g h xs)

times_in : (n : ℕ) (ps qs : List Passage) → times n (tokens_in (ps ++ qs)) ≡ times n (tokens_in ps) + times n (tokens_in qs)
times_in n [] qs = omega arith
times_in n (p ∷ ps) qs = omega (arith, times_append n p.tokens (tokens_in (ps ++ qs)), times_append n p.tokens (tokens_in ps), times_in n ps qs)

put_either : (n : ℕ) (p q : Passage) (rest : List Passage) (first : Bool) → times n (tokens_in (put_in p rest)) ≡ times n p.tokens + times n (tokens_in rest)
    → times n (tokens_in (if first then p ∷ q ∷ rest else q ∷ put_in p rest)) ≡ times n p.tokens + times n (tokens_in (q ∷ rest))
put_either n p q rest true h = times_append n p.tokens (tokens_in (q ∷ rest))
put_either n p q rest false h = omega (arith, times_append n q.tokens (tokens_in (put_in p rest)), times_append n q.tokens (tokens_in rest), h)

times_put : (n : ℕ) (p : Passage) (ps : List Passage) → times n (tokens_in (put_in p ps)) ≡ times n p.tokens + times n (tokens_in ps)
times_put n p [] = times_append n p.tokens []
times_put n p (q ∷ rest) = put_either n p q rest (nat_le p.at q.at) (times_put n p rest)

times_order : (n : ℕ) (ps : List Passage) → times n (tokens_in (in_order ps)) ≡ times n (tokens_in ps)
times_order n [] = refl
times_order n (p ∷ ps) = omega (arith, times_put n p (in_order ps), times_order n ps, times_append n p.tokens (tokens_in ps))

mutual
  statement_as_often : (n : ℕ) (s : Statement) → times n (names_in_statement s) ≡ times n (ordered_in_statement s)
  statement_as_often n (null at) = refl
  statement_as_often n (block at label declarations body) =
      behind n (tokens_of (option_to_list label) ++ flat_map names_in_declaration declarations) (names_in_statements body) (ordered_in_statements body) (statements_as_often n body)
  statement_as_often n (only_if at test a) = behind n (names_in test) (names_in_statement a) (ordered_in_statement a) (statement_as_often n a)
  statement_as_often n (if_else at test a b) =
      two n (names_in test ++ names_in_statement a) (names_in_statement b) (names_in test ++ ordered_in_statement a) (ordered_in_statement b)
      (behind n (names_in test) (names_in_statement a) (ordered_in_statement a) (statement_as_often n a)) (statement_as_often n b)
  statement_as_often n (cases at selector items defaults) =
      let all : List Passage = item_passages items ++ default_passages defaults in
      omega (
        arith,
        times_append n (names_in selector ++ names_in_items items) (names_in_defaults defaults),
        times_append n (names_in selector) (names_in_items items),
        times_append n (names_in selector) (tokens_in (in_order all)),
        times_order n all,
        times_in n (item_passages items) (default_passages defaults),
        items_as_often n items,
        defaults_as_often n defaults,
      )
  statement_as_often n (for_loop at target first test target' step body) =
      behind n (target.at ∷ names_in first ++ names_in test ++ target'.at ∷ names_in step) (names_in_statement body) (ordered_in_statement body) (statement_as_often n body)
  statement_as_often n (while_loop at test body) = behind n (names_in test) (names_in_statement body) (ordered_in_statement body) (statement_as_often n body)
  statement_as_often n (repeat_loop at count body) = behind n (names_in count) (names_in_statement body) (ordered_in_statement body) (statement_as_often n body)
  statement_as_often n (event at kind analyses body) = statement_as_often n body
  statement_as_often n (assign at target value) = refl
  statement_as_often n (contribute at access first second value) = refl
  statement_as_often n (task at bytes args) = refl

  statements_as_often : (n : ℕ) (ss : Statements) → times n (names_in_statements ss) ≡ times n (ordered_in_statements ss)
  statements_as_often n no_statement = refl
  statements_as_often n (statement_then s rest) =
      two n (names_in_statement s) (names_in_statements rest) (ordered_in_statement s) (ordered_in_statements rest) (statement_as_often n s) (statements_as_often n rest)

  items_as_often : (n : ℕ) (items : Items) → times n (names_in_items items) ≡ times n (tokens_in (item_passages items))
  items_as_often n no_items = refl
  items_as_often n (item_then at values body rest) =
      two n (flat_map names_in values ++ names_in_statement body) (names_in_items rest) (flat_map names_in values ++ ordered_in_statement body) (tokens_in (item_passages rest))
      (behind n (flat_map names_in values) (names_in_statement body) (ordered_in_statement body) (statement_as_often n body)) (items_as_often n rest)

  defaults_as_often : (n : ℕ) (defaults : Defaults) → times n (names_in_defaults defaults) ≡ times n (tokens_in (default_passages defaults))
  defaults_as_often n no_defaults = refl
  defaults_as_often n (default_then at body rest) =
      two n (names_in_statement body) (names_in_defaults rest) (ordered_in_statement body) (tokens_in (default_passages rest)) (statement_as_often n body) (defaults_as_often n rest)

body_as_often : (n : ℕ) (b : ItemBody) → times n (names_in_body b) ≡ times n (ordered_in_body b)
body_as_often n (item.Function at ty called items body) =
    behind n (called.at ∷ flat_map names_in_function_item items) (names_in_statement (statement_of body)) (ordered_in_statement (statement_of body)) (statement_as_often n (statement_of body))
body_as_often n (item.Analog at body) = statement_as_often n (statement_of body)
body_as_often n other = refl

item_as_often : (n : ℕ) (i : Item) → times n (names_in_item i) ≡ times n (ordered_in_item i)
item_as_often n i = behind n (names_in_attributes i.attributes) (names_in_body i.body) (ordered_in_body i.body) (body_as_often n i.body)

module_as_often : (n : ℕ) (m : Module) → times n (names_in_module m) ≡ times n (module_passage m).tokens
module_as_often n m =
    behind n (names_in_attributes m.attributes ++ m.at ∷ tokens_of m.ports) (flat_map names_in_item m.items) (flat_map ordered_in_item m.items)
    (each_as_often n names_in_item ordered_in_item (item_as_often n) m.items)

pub source_as_often : (n : ℕ) (s : Source) → times n (names_in_source s) ≡ times n (ordered_in_source s)
source_as_often n s =
    let natures : List Passage = map nature_passage s.natures in
    let disciplines : List Passage = map discipline_passage s.disciplines in
    let modules : List Passage = map module_passage s.modules in
    omega (
      arith,
      times_append n (flat_map names_in_nature s.natures ++ flat_map names_in_discipline s.disciplines) (flat_map names_in_module s.modules),
      times_append n (flat_map names_in_nature s.natures) (flat_map names_in_discipline s.disciplines),
      times_order n (natures ++ disciplines ++ modules),
      times_in n (natures ++ disciplines) modules,
      times_in n natures disciplines,
      passages_as_often n names_in_nature nature_passage (λ x. refl) s.natures,
      passages_as_often n names_in_discipline discipline_passage (λ x. refl) s.disciplines,
      passages_as_often n names_in_module module_passage (module_as_often n) s.modules,
    )

not_here : (x n : ℕ) → n < x → here (x == n) ≡ 0
not_here x n less = by (eqb_tells x n)
  where
    by : ((x == n ≡ true) × (x ≡ n)) ⊎ ((x == n ≡ false) × (x ≢ n)) → here (x == n) ≡ 0
    by (inl h) = absurd (let e = h.1 in let n : ⊥ = omega (arith, less, e) in n)
    by (inr h) = ap here h.0

times_none : (n a : ℕ) (xs : List ℕ) (b : ℕ) → n < a → Ascend a xs b → times n xs ≡ 0
times_none n a [] b less h = refl
times_none n a (x ∷ xs) b less h =
    let above : n < x = omega (arith, less, h.0) in
    omega (arith, not_here x n above, times_none n (x + 1) xs b (omega (arith, above)) h.1)

once_by : (n x : ℕ) (xs : List ℕ) (b : ℕ) → Ascend (x + 1) xs b → times n xs ≤ 1 → ((x == n ≡ true) × (x ≡ n)) ⊎ ((x == n ≡ false) × (x ≢ n)) → times n (x ∷ xs) ≤ 1
once_by n x xs b up rest (inl h) =
    let e : here (x == n) ≡ 1 = ap here h.0 in
    let same = h.1 in
    let no_more : times n xs ≡ 0 = times_none n (x + 1) xs b (omega (arith, same)) up in
    omega (arith, e, no_more)
once_by n x xs b up rest (inr h) = (let e : here (x == n) ≡ 0 = ap here h.0 in omega (arith, e, rest))

times_once : (n a : ℕ) (xs : List ℕ) (b : ℕ) → Ascend a xs b → times n xs ≤ 1
times_once n a [] b h = omega arith
times_once n a (x ∷ xs) b h = once_by n x xs b h.1 (times_once n (x + 1) xs b h.1) (eqb_tells x n)

here_itself : (n : ℕ) → here (n == n) ≡ 1
here_itself n = by (eqb_tells n n)
  where
    by : ((n == n ≡ true) × (n ≡ n)) ⊎ ((n == n ≡ false) × (n ≢ n)) → here (n == n) ≡ 1
    by (inl h) = ap here h.0
    by (inr h) = absurd (h.1 refl)

-- what stands in a list stands there once at least
pub times_some : (n i : ℕ) (xs : List ℕ) → slice_get xs i ≡ Some n → 1 ≤ times n xs
times_some n i [] e = absurd (cc (e))
times_some n zero (x ∷ xs) e =
    let same : x ≡ n = cc (e) in
    let one : here (x == n) ≡ 1 = subst (λ (y : ℕ). here (y == n) ≡ 1) (sym same) (here_itself n) in
    omega (arith, one)
times_some n (suc i) (x ∷ xs) e = omega (arith, times_some n i xs e)

twice : (n i x : ℕ) (xs : List ℕ) → times n (x ∷ xs) ≤ 1 → Some x ≡ Some n → slice_get xs i ≡ Some n → ⊥
twice n i x xs once e f =
    let same : x ≡ n = cc (e) in
    let one : here (x == n) ≡ 1 = subst (λ (y : ℕ). here (y == n) ≡ 1) (sym same) (here_itself n) in
    let more : 1 ≤ times n xs = times_some n i xs f in
    omega (arith, one, more, once)

-- what stands in a list at most once has one place there
pub one_place : (xs : List ℕ) (n i j : ℕ) → times n xs ≤ 1 → slice_get xs i ≡ Some n → slice_get xs j ≡ Some n → i ≡ j
one_place [] n i j once e f = absurd (cc (e))
one_place (x ∷ xs) n zero zero once e f = refl
one_place (x ∷ xs) n zero (suc j) once e f = absurd (twice n j x xs once e f)
one_place (x ∷ xs) n (suc i) zero once e f = absurd (twice n i x xs once f e)
one_place (x ∷ xs) n (suc i) (suc j) once e f = ap suc (one_place xs n i j (omega (arith, once)) e f)

pub own_tokens : (s : Source) (count : ℕ) → HasNamesInOrder s count → EachNameHasItsToken s
own_tokens s count h i j at e f =
    let once : times at (ordered_in_source s) ≤ 1 = times_once at 0 (ordered_in_source s) count h in
    one_place (names_in_source s) at i j (omega (arith, source_as_often at s, once)) e f
