-- What is collected of influences, and that the unknowns reach exactly the biased variables.
use Rattle.std.specs.Prelude.{◌≡◌, ℕ, zero, suc, ◌+◌, ◌<◌, ◌≤◌, ◌⊎◌, ◌==◌, ◌||◌, ◌&&◌, nat_lt, Bool, true, false, List, [], ◌∷◌, ◌++◌, Option, Some, None, if◌then◌else◌, flat_map, map, take, drop, length, get_or}
use Rattle.std.specs.List.{list_any}
use Rattle.std.proofs.Common.{refl, sym, ◌∙◌, ap, subst, inl, inr, arith}
use Rattle.std.proofs.Math.ListN.{drop_of_length-le}
use Rattle.std.proofs.Math.Seq.{drop-cons}
use Rattle.std.proofs.lemmas.Bool.{cases_lt, or_cases, and_parts, and_from, or_left, or_right, eqb-true, eq-eqb, ltb-true, lt-ltb, false≢true}
use Rattle.std.proofs.lemmas.List.{length-append, length-take, get_or-take, get_or_past}
use Rattle.std.proofs.lemmas.List.Folds.{list_any-append}
use Rattle.alg_laws.specs.Least.{table, listed, least, Within, IsMonotone}
use Rattle.alg_laws.proofs.Least.{least_closed, least_within}
use Rattle.graphs.specs.declared.edge.Edge.{Edge}
use Rattle.graphs.specs.Edges.{is_edge, is_in, reached}
use Rattle.graphs.proofs.Reached.{least_same, after_below, table_at, seed_reached, edge_reached, reached_within}
use Rattle.va_tree.specs.Expressions.{Expression}
use Rattle.va_sem.specs.declared.names.Meaning.{Meaning}
use Rattle.va_sem.specs.declared.names.Meaning.TheVariants as means
use Rattle.va_sem.specs.LookedAt.{looked_at}
use Rattle.va_sem.specs.rules.Uses.{meaning_of, is_access, is_variable_in}
use Rattle.va_sem.specs.rules.Biased.{is_biased, is_assigned_to, biased_by}
use Rattle.va_tree.specs.Statements.{Statement}
use Rattle.va_sem.specs.rules.Values.{Purpose, assigned, Around, Value, value_for, values_in, values_of}
use Rattle.va_sem.specs.rules.Findings.{meanings_in, reads_biased, any_biased}
use Rattle.va_sem.specs.rules.Influence.{link, edges_by, edges_to, nodes, IsWithin, IsClosed, variables_of, added, Collected, Collects, CollectsAll, variable_meant}
use Rattle.va_sem.proofs.Visiting.{any_of_all}

-- edges of one list and of another
edge_left : (a b : List Edge) (x y : ℕ) → is_edge a x y ≡ true → is_edge (a ++ b) x y ≡ true
edge_left a b x y h = list_any-append (λ (e : Edge). (e.from == x) && (e.to == y)) a b ∙ or_left (is_edge a x y) (is_edge b x y) h

edge_right : (a b : List Edge) (x y : ℕ) → is_edge b x y ≡ true → is_edge (a ++ b) x y ≡ true
edge_right a b x y h = list_any-append (λ (e : Edge). (e.from == x) && (e.to == y)) a b ∙ or_right (is_edge a x y) (is_edge b x y) h

edge_cases : (a b : List Edge) (x y : ℕ) → is_edge (a ++ b) x y ≡ true → (is_edge a x y ≡ true) ⊎ (is_edge b x y ≡ true)
edge_cases a b x y h = or_cases (is_edge a x y) (is_edge b x y) (sym (list_any-append (λ (e : Edge). (e.from == x) && (e.to == y)) a b) ∙ h)

is_one : (from to : ℕ) → is_edge (link from to ∷ []) from to ≡ true
is_one from to = or_left ((from == from) && (to == to)) false (and_from (from == from) (to == to) (eq-eqb from from refl) (eq-eqb to to refl))

one_edge : (from to x y : ℕ) → is_edge (link from to ∷ []) x y ≡ true → (from ≡ x) × (to ≡ y)
one_edge from to x y h = elim (or_cases ((from == x) && (to == y)) false h) [
  | inl a ↦ (let p : ((from == x) ≡ true) × ((to == y) ≡ true) = and_parts (from == x) (to == y) a in (eqb-true from x p.0, eqb-true to y p.1))
  | inr b ↦ absurd (false≢true b)
]

no_edge : (x y : ℕ) → is_edge [] x y ≡ true → ⊥
no_edge x y h = false≢true h

closed_left : (set : ℕ → Bool) (a b : List Edge) → IsClosed set (a ++ b) → IsClosed set a
closed_left set a b c x y h = c x y (edge_left a b x y h)

closed_right : (set : ℕ → Bool) (a b : List Edge) → IsClosed set (a ++ b) → IsClosed set b
closed_right set a b c x y h = c x y (edge_right a b x y h)

closed_both : (set : ℕ → Bool) (a b : List Edge) → IsClosed set a → IsClosed set b → IsClosed set (a ++ b)
closed_both set a b p q x y h s = elim (edge_cases a b x y h) [ inl l ↦ p x y l s | inr r ↦ q x y r s ]

closed_none : (set : ℕ → Bool) → IsClosed set []
closed_none set x y h s = absurd (no_edge x y h)

any_map : {S T : Type 0} (f : T → Bool) (g : S → T) (xs : List S) → list_any f (map g xs) ≡ list_any (λ x. f (g x)) xs
any_map f g [] = refl
any_map f g (x ∷ xs) = ap (λ b. f (g x) || b) (any_map f g xs)

and_false : (a : Bool) → (a && false) ≡ false
and_false true = refl
and_false false = refl

module _ (n : ℕ) where
  -- sets with the same variables
  variable_same : (set other : ℕ → Bool) (x : ℕ) (b : Bool) → nat_lt x n ≡ b → (x < n → other x ≡ set x) → (other x && nat_lt x n) ≡ (set x && nat_lt x n)
  variable_same set other x true q h = ap (λ v. v && nat_lt x n) (h (ltb-true x n q))
  variable_same set other x false q h = ap (λ v. other x && v) q ∙ and_false (other x) ∙ sym (and_false (set x)) ∙ ap (λ v. set x && v) (sym q)

  same_variables : (set other : ℕ → Bool) → ((x : ℕ) → x < n → other x ≡ set x) → variables_of n other ≡ variables_of n set
  same_variables set other h = λ j. λ x. variable_same set other x (nat_lt x n) refl (h x) j

  -- the edges by which names influence a node
  by_variable : (v t : ℕ) (set : ℕ → Bool) (b : Bool) → nat_lt v n ≡ b → IsClosed set (if b then link v t ∷ [] else []) → (set v && nat_lt v n) ≡ true → set t ≡ true
  by_variable v t set true q c h = c v t (is_one v t) (and_parts (set v) (nat_lt v n) h).0
  by_variable v t set false q c h = absurd (false≢true (sym q ∙ (and_parts (set v) (nat_lt v n) h).1))

  by_name : (t : ℕ) (set : ℕ → Bool) → set n ≡ true → (m : Option Meaning) → IsClosed set (edges_by n t m) → reads_biased (variables_of n set) m ≡ true → set t ≡ true
  by_name t set s None c h = absurd (false≢true h)
  by_name t set s (Some (means.Access branch turned flow)) c h = c n t (is_one n t) s
  by_name t set s (Some (means.Var v)) c h = by_variable v t set (nat_lt v n) refl c h
  by_name t set s (Some (means.Node k)) c h = absurd (false≢true h)
  by_name t set s (Some (means.Branch k)) c h = absurd (false≢true h)
  by_name t set s (Some (means.Param k)) c h = absurd (false≢true h)
  by_name t set s (Some (means.Function k)) c h = absurd (false≢true h)
  by_name t set s (Some (means.Discipline k)) c h = absurd (false≢true h)
  by_name t set s (Some (means.Nature k)) c h = absurd (false≢true h)
  by_name t set s (Some (means.Module k)) c h = absurd (false≢true h)
  by_name t set s (Some (means.Builtin k)) c h = absurd (false≢true h)

  by_names : (t : ℕ) (set : ℕ → Bool) → set n ≡ true → (ms : List (Option Meaning)) → IsClosed set (edges_to n t ms) → list_any (reads_biased (variables_of n set)) ms ≡ true → set t ≡ true
  by_names t set s [] c h = absurd (false≢true h)
  by_names t set s (m ∷ ms) c h = elim (or_cases (reads_biased (variables_of n set) m) (list_any (reads_biased (variables_of n set)) ms) h) [
    | inl a ↦ by_name t set s m (closed_left set (edges_by n t m) (edges_to n t ms) c) a
    | inr b ↦ by_names t set s ms (closed_right set (edges_by n t m) (edges_to n t ms) c) b
  ]

  closed_variable : (v t : ℕ) (set : ℕ → Bool) (b : Bool) → nat_lt v n ≡ b → ((set v && nat_lt v n) ≡ true → set t ≡ true) → IsClosed set (if b then link v t ∷ [] else [])
  closed_variable v t set true q h x y e s =
      let p : (v ≡ x) × (t ≡ y) = one_edge v t x y e in ap set (sym p.1) ∙ h (and_from (set v) (nat_lt v n) (ap set p.0 ∙ s) q)
  closed_variable v t set false q h x y e s = absurd (no_edge x y e)

  closed_access : (t : ℕ) (set : ℕ → Bool) → set t ≡ true → IsClosed set (link n t ∷ [])
  closed_access t set h x y e s = ap set (sym (one_edge n t x y e).1) ∙ h

  closed_name : (t : ℕ) (set : ℕ → Bool) (m : Option Meaning) → (reads_biased (variables_of n set) m ≡ true → set t ≡ true) → IsClosed set (edges_by n t m)
  closed_name t set None h = closed_none set
  closed_name t set (Some (means.Access branch turned flow)) h = closed_access t set (h refl)
  closed_name t set (Some (means.Var v)) h = closed_variable v t set (nat_lt v n) refl h
  closed_name t set (Some (means.Node k)) h = closed_none set
  closed_name t set (Some (means.Branch k)) h = closed_none set
  closed_name t set (Some (means.Param k)) h = closed_none set
  closed_name t set (Some (means.Function k)) h = closed_none set
  closed_name t set (Some (means.Discipline k)) h = closed_none set
  closed_name t set (Some (means.Nature k)) h = closed_none set
  closed_name t set (Some (means.Module k)) h = closed_none set
  closed_name t set (Some (means.Builtin k)) h = closed_none set

  closed_names : (t : ℕ) (set : ℕ → Bool) (ms : List (Option Meaning)) → (list_any (reads_biased (variables_of n set)) ms ≡ true → set t ≡ true) → IsClosed set (edges_to n t ms)
  closed_names t set [] h = closed_none set
  closed_names t set (m ∷ ms) h =
      closed_both set (edges_by n t m) (edges_to n t ms)
      (closed_name t set m (λ a. h (or_left (reads_biased (variables_of n set) m) (list_any (reads_biased (variables_of n set)) ms) a)))
      (closed_names t set ms (λ b. h (or_right (reads_biased (variables_of n set) m) (list_any (reads_biased (variables_of n set)) ms) b)))

  -- their ends
  ends_variable : (v t : ℕ) (b : Bool) → nat_lt v n ≡ b → (x y : ℕ) → is_edge (if b then link v t ∷ [] else []) x y ≡ true → (x < n + 1) × (t ≡ y)
  ends_variable v t true q x y e =
      let p : (v ≡ x) × (t ≡ y) = one_edge v t x y e in (let l : v < n = ltb-true v n q in omega (arith, p.0), p.1)
  ends_variable v t false q x y e = absurd (no_edge x y e)

  ends_access : (t x y : ℕ) → is_edge (link n t ∷ []) x y ≡ true → (x < n + 1) × (t ≡ y)
  ends_access t x y e = (let p : (n ≡ x) × (t ≡ y) = one_edge n t x y e in (omega (arith, p.0), p.1))

  ends_name : (t : ℕ) (m : Option Meaning) (x y : ℕ) → is_edge (edges_by n t m) x y ≡ true → (x < n + 1) × (t ≡ y)
  ends_name t None x y e = absurd (no_edge x y e)
  ends_name t (Some (means.Access branch turned flow)) x y e = ends_access t x y e
  ends_name t (Some (means.Var v)) x y e = ends_variable v t (nat_lt v n) refl x y e
  ends_name t (Some (means.Node k)) x y e = absurd (no_edge x y e)
  ends_name t (Some (means.Branch k)) x y e = absurd (no_edge x y e)
  ends_name t (Some (means.Param k)) x y e = absurd (no_edge x y e)
  ends_name t (Some (means.Function k)) x y e = absurd (no_edge x y e)
  ends_name t (Some (means.Discipline k)) x y e = absurd (no_edge x y e)
  ends_name t (Some (means.Nature k)) x y e = absurd (no_edge x y e)
  ends_name t (Some (means.Module k)) x y e = absurd (no_edge x y e)
  ends_name t (Some (means.Builtin k)) x y e = absurd (no_edge x y e)

  ends_names : (t : ℕ) (ms : List (Option Meaning)) (x y : ℕ) → is_edge (edges_to n t ms) x y ≡ true → (x < n + 1) × (t ≡ y)
  ends_names t [] x y e = absurd (no_edge x y e)
  ends_names t (m ∷ ms) x y e = elim (edge_cases (edges_by n t m) (edges_to n t ms) x y e) [
    | inl a ↦ ends_name t m x y a
    | inr b ↦ ends_names t ms x y b
  ]

  added_length : (over t : ℕ) (ms : List (Option Meaning)) (old : List Edge) → length (added n over t ms old) ≡ length old + 1 + length (edges_to n t ms)
  added_length over t ms old =
      length-append (old ++ link over t ∷ []) (edges_to n t ms) ∙ ap (λ (k : ℕ). k + length (edges_to n t ms)) (length-append old (link over t ∷ []))

  added_kept : (over t : ℕ) (ms : List (Option Meaning)) (old : List Edge) (x y : ℕ) → is_edge old x y ≡ true → is_edge (added n over t ms old) x y ≡ true
  added_kept over t ms old x y h = edge_left (old ++ link over t ∷ []) (edges_to n t ms) x y (edge_left old (link over t ∷ []) x y h)

  added_within : (over t : ℕ) (ms : List (Option Meaning)) (old : List Edge) → IsWithin n old → over < nodes n old → t < n + 3 + length old → IsWithin n (added n over t ms old)
  added_within over t ms old w b bt =
      let len : length (added n over t ms old) ≡ length old + 1 + length (edges_to n t ms) = added_length over t ms old in record {
        ends = λ x y h. elim (edge_cases (old ++ link over t ∷ []) (edges_to n t ms) x y h) [
          | inl a ↦ elim (edge_cases old (link over t ∷ []) x y a) [
            | inl c ↦ (let p : (x < nodes n old) × (y < nodes n old) = w.ends x y c in (omega (arith, len, p.0), omega (arith, len, p.1)))
            | inr d ↦ (let p : (over ≡ x) × (t ≡ y) = one_edge over t x y d in (omega (arith, len, p.0, b), omega (arith, len, p.1, bt)))
          ]
          | inr f ↦ (let p : (x < n + 1) × (t ≡ y) = ends_names t ms x y f in (omega (arith, len, p.0), omega (arith, len, p.1, bt)))
        ];
      }

  -- sets that are closed under what was added
  added_gives : (over t : ℕ) (ms : List (Option Meaning)) (old : List Edge) (set : ℕ → Bool) → set n ≡ true → IsClosed set (added n over t ms old)
      → (list_any (reads_biased (variables_of n set)) ms ≡ true → set t ≡ true) × (set over ≡ true → set t ≡ true)
  added_gives over t ms old set s c = (
    λ h. by_names t set s ms (closed_right set (old ++ link over t ∷ []) (edges_to n t ms) c) h,
    λ h. c over t (edge_left (old ++ link over t ∷ []) (edges_to n t ms) over t (edge_right old (link over t ∷ []) over t (is_one over t))) h,
  )

  added_closed : (over t : ℕ) (ms : List (Option Meaning)) (old : List Edge) (set : ℕ → Bool) → IsClosed set old
      → (list_any (reads_biased (variables_of n set)) ms ≡ true → set t ≡ true) → (set over ≡ true → set t ≡ true) → IsClosed set (added n over t ms old)
  added_closed over t ms old set c p q =
      closed_both set (old ++ link over t ∷ []) (edges_to n t ms)
      (closed_both set old (link over t ∷ []) c (λ x y e s. (let k : (over ≡ x) × (t ≡ y) = one_edge over t x y e in ap set (sym k.1) ∙ q (ap set k.0 ∙ s))))
      (closed_names t set ms p)

cases_bool : (b : Bool) → (b ≡ true) ⊎ (b ≡ false)
cases_bool true = inl refl
cases_bool false = inr refl

-- the variable that a name means
abbrev number : Option ℕ → ℕ
number None = 0
number (Some k) = k

variable_if : (v k n : ℕ) (b : Bool) → nat_lt v n ≡ b → (if b then Some v else None) ≡ Some k → (v ≡ k) × (v < n)
variable_if v k n true q h = (ap number h, ltb-true v n q)
variable_if v k n false q h = absurd (cc)

module _ (n : ℕ) where
  meant_is : (m : Option Meaning) (v : ℕ) → variable_meant n m ≡ Some v → (m ≡ Some (means.Var v)) × (v < n)
  meant_is None v h = absurd (cc)
  meant_is (Some (means.Var k)) v h = (let p : (k ≡ v) × (k < n) = variable_if k v n (nat_lt k n) refl h in (ap (λ (j : ℕ). Some (means.Var j)) p.0, omega (arith, p.0, p.1)))
  meant_is (Some (means.Access branch turned flow)) v h = absurd (cc)
  meant_is (Some (means.Node k)) v h = absurd (cc)
  meant_is (Some (means.Branch k)) v h = absurd (cc)
  meant_is (Some (means.Param k)) v h = absurd (cc)
  meant_is (Some (means.Function k)) v h = absurd (cc)
  meant_is (Some (means.Discipline k)) v h = absurd (cc)
  meant_is (Some (means.Nature k)) v h = absurd (cc)
  meant_is (Some (means.Module k)) v h = absurd (cc)
  meant_is (Some (means.Builtin k)) v h = absurd (cc)

  variable_is : (m k : Option Meaning) (v : ℕ) → m ≡ k → variable_meant n m ≡ Some v → (k ≡ Some (means.Var v)) × (v < n)
  variable_is m k v q h = (let p : (m ≡ Some (means.Var v)) × (v < n) = meant_is m v h in (sym q ∙ p.0, p.1))

  none_if : (v x : ℕ) (b : Bool) → nat_lt v n ≡ b → (if b then Some v else None) ≡ None → (v == x) ≡ true → x < n → ⊥
  none_if v x true q h e b = absurd (cc)
  none_if v x false q h e b = false≢true (sym q ∙ lt-ltb v n (let k : v ≡ x = eqb-true v x e in omega (arith, k, b)))

  meant_none : (m : Option Meaning) (x : ℕ) → x < n → variable_meant n m ≡ None → is_variable_in (λ other. other == x) m ≡ true → ⊥
  meant_none None x b h e = false≢true e
  meant_none (Some (means.Var k)) x b h e = none_if k x (nat_lt k n) refl h e b
  meant_none (Some (means.Access branch turned flow)) x b h e = false≢true e
  meant_none (Some (means.Node k)) x b h e = false≢true e
  meant_none (Some (means.Branch k)) x b h e = false≢true e
  meant_none (Some (means.Param k)) x b h e = false≢true e
  meant_none (Some (means.Function k)) x b h e = false≢true e
  meant_none (Some (means.Discipline k)) x b h e = false≢true e
  meant_none (Some (means.Nature k)) x b h e = false≢true e
  meant_none (Some (means.Module k)) x b h e = false≢true e
  meant_none (Some (means.Builtin k)) x b h e = false≢true e

  not_meant : (m k : Option Meaning) (x : ℕ) → x < n → m ≡ k → variable_meant n m ≡ None → is_variable_in (λ other. other == x) k ≡ true → ⊥
  not_meant m k x b q h e = meant_none m x b h (ap (is_variable_in (λ other. other == x)) q ∙ e)

  -- sets of nodes that have their variables alone
  variable_kept : (set : ℕ → Bool) (x : ℕ) (b : Bool) → set x ≡ b → (set x ≡ true → x < n) → set x ≡ (set x && nat_lt x n)
  variable_kept set x true q h = q ∙ sym (and_from (set x) (nat_lt x n) q (lt-ltb x n (h q)))
  variable_kept set x false q h = q ∙ sym (ap (λ v. v && nat_lt x n) q)

  not_source : (z : ℕ) (b : Bool) → z < n → (b || (z == n)) ≡ b
  not_source z true l = refl
  not_source z false l = elim (cases_bool (z == n)) [
    | inl e ↦ (let k : z ≡ n = eqb-true z n e in absurd (omega (arith, k, l)))
    | inr e ↦ e
  ]

  start_gives : (b : Bool) (z : ℕ) → z < n → (b || (z == n)) ≡ true → b ≡ true
  start_gives b z l h = sym (not_source z b l) ∙ h

  above_start : (b : Bool) → (b || (n + 1 == n)) ≡ true → (b ≡ true → ⊥) → ⊥
  above_start b h none = elim (or_cases b (n + 1 == n) h) [
    | inl a ↦ none a
    | inr e ↦ (let k : n + 1 ≡ n = eqb-true (n + 1) n e in omega (arith, k))
  ]

  one_seed : (z : ℕ) → is_in (n ∷ []) z ≡ true → n ≡ z
  one_seed z s = elim (or_cases (n == z) false s) [ inl e ↦ eqb-true n z e | inr e ↦ absurd (false≢true e) ]

  -- from more variables follows more
  variable_more : (a b : ℕ → Bool) → Within n a b → (v : ℕ) → (a v && nat_lt v n) ≡ true → (b v && nat_lt v n) ≡ true
  variable_more a b w v h = (let p : (a v ≡ true) × (nat_lt v n ≡ true) = and_parts (a v) (nat_lt v n) h in and_from (b v) (nat_lt v n) (w v (ltb-true v n p.1) p.0) p.1)

  name_more : (a b : ℕ → Bool) → Within n a b → (m : Option Meaning) → reads_biased (variables_of n a) m ≡ true → reads_biased (variables_of n b) m ≡ true
  name_more a b w None h = h
  name_more a b w (Some (means.Var v)) h = variable_more a b w v h
  name_more a b w (Some (means.Access branch turned flow)) h = h
  name_more a b w (Some (means.Node k)) h = h
  name_more a b w (Some (means.Branch k)) h = h
  name_more a b w (Some (means.Param k)) h = h
  name_more a b w (Some (means.Function k)) h = h
  name_more a b w (Some (means.Discipline k)) h = h
  name_more a b w (Some (means.Nature k)) h = h
  name_more a b w (Some (means.Module k)) h = h
  name_more a b w (Some (means.Builtin k)) h = h

both_ways : (a b : Bool) → (a ≡ true → b ≡ true) → (b ≡ true → a ≡ true) → a ≡ b
both_ways true b h k = sym (h refl)
both_ways false true h k = k refl
both_ways false false h k = refl

outside : (b : Bool) → (b ≡ true → ⊥) → b ≡ false
outside true h = absurd (h refl)
outside false h = refl

no_rule : (b : Bool) → (b ≡ true → ⊥) → (b || false) ≡ false
no_rule true h = absurd (h refl)
no_rule false h = refl

any_more : {T : Type 0} (f g : T → Bool) → ((t : T) → f t ≡ true → g t ≡ true) → (list : List T) → list_any f list ≡ true → list_any g list ≡ true
any_more f g h [] e = e
any_more f g h (t ∷ list) e = elim (or_cases (f t) (list_any f list) e) [
  | inl a ↦ or_left (g t) (list_any g list) (h t a)
  | inr b ↦ or_right (g t) (list_any g list) (any_more f g h list b)
]

and_more : (a b c : Bool) → (b ≡ true → c ≡ true) → (a && b) ≡ true → (a && c) ≡ true
and_more a b c h e = (let p : (a ≡ true) × (b ≡ true) = and_parts a b e in and_from a c p.0 (h p.1))

-- the node of a condition is new
abbrev fresh : ℕ → Bool → (ℕ → Bool) → ℕ → Bool
fresh c b set x = if x == c then b else set x

fresh_here : (c : ℕ) (b : Bool) (set : ℕ → Bool) → fresh c b set c ≡ b
fresh_here c b set = ap (λ t. if t then b else set c) (eq-eqb c c refl)

fresh_if : (c : ℕ) (b : Bool) (set : ℕ → Bool) (x : ℕ) (t : Bool) → (x == c) ≡ t → x < c → (if t then b else set x) ≡ set x
fresh_if c b set x true q l = (let e : x ≡ c = eqb-true x c q in absurd (omega (arith, e, l)))
fresh_if c b set x false q l = refl

fresh_other : (c : ℕ) (b : Bool) (set : ℕ → Bool) (x : ℕ) → x < c → fresh c b set x ≡ set x
fresh_other c b set x l = fresh_if c b set x (x == c) refl l

module _ (meaning : ℕ → Option Meaning) (n : ℕ) where
  abbrev gives : (ℕ → Bool) → ℕ → Value → Bool
  gives set x v = is_assigned_to meaning x v.purpose && list_any (is_biased meaning set) (v.expression ∷ v.around.conditions)

  either_rule : (set : ℕ → Bool) (x : ℕ) (a b : List Value) → biased_by meaning (a ++ b) set x ≡ true → (biased_by meaning a set x ≡ true) ⊎ (biased_by meaning b set x ≡ true)
  either_rule set x a b h = or_cases (biased_by meaning a set x) (biased_by meaning b set x) (sym (list_any-append (gives set x) a b) ∙ h)

  left_rule : (set : ℕ → Bool) (x : ℕ) (a b : List Value) → biased_by meaning a set x ≡ true → biased_by meaning (a ++ b) set x ≡ true
  left_rule set x a b h = list_any-append (gives set x) a b ∙ or_left (biased_by meaning a set x) (biased_by meaning b set x) h

  right_rule : (set : ℕ → Bool) (x : ℕ) (a b : List Value) → biased_by meaning b set x ≡ true → biased_by meaning (a ++ b) set x ≡ true
  right_rule set x a b h = list_any-append (gives set x) a b ∙ or_right (biased_by meaning a set x) (biased_by meaning b set x) h

  -- values that bias nothing
  abbrev pub Silent : (Around → List Value) → Type 0
  Silent values = (around : Around) (set : ℕ → Bool) (x : ℕ) → x < n → biased_by meaning (values around) set x ≡ false

  silent : (values : Around → List Value) → Silent values → (around : Around) (set : ℕ → Bool) (x : ℕ) → x < n → biased_by meaning (values around) set x ≡ true → ⊥
  silent values none around set x b h = false≢true (sym (none around set x b) ∙ h)

  pub collects_nothing : (over : ℕ) (values : Around → List Value) → Silent values → (edges : List Edge) → CollectsAll meaning n over values edges edges
  collects_nothing over values none edges w b = record {
    within = w;
    inside_in = b;
    more = omega arith;
    kept = λ x y h. h;
    all = λ set s closed around o. (λ x bx h. absurd (silent values none around (variables_of n set) x bx h), o);
    only = λ set closed around o rule. (set, λ x bx. refl, closed, o);
  }

  pub collects_then : (over mid last : ℕ) (A B : Around → List Value) (f g : Around → Around) (E F G : List Edge) → Collects meaning n over A mid f E F → Collects meaning n mid B last g F G
      → Collects meaning n over (λ around. A around ++ B (f around)) last (λ around. g (f around)) E G
  collects_then over mid last A B f g E F G p q w b =
      let c : Collected meaning n over A mid f E F = p w b in
      let d : Collected meaning n mid B last g F G = q c.within c.inside_in in record {
        within = d.within;
        inside_in = d.inside_in;
        more = omega (arith, c.more, d.more);
        kept = λ x y h. d.kept x y (c.kept x y h);
        all = λ set s closed around o.
            let first = c.all set s (λ x y h. closed x y (d.kept x y h)) around o in
            let second = d.all set s closed (f around) first.1 in
            (λ x bx h. elim (either_rule (variables_of n set) x (A around) (B (f around)) h) [ inl a ↦ first.0 x bx a | inr k ↦ second.0 x bx k ], second.1);
        only = λ set closed around o rule.
            let first = c.only set closed around o (λ x bx h. rule x bx (left_rule (variables_of n set) x (A around) (B (f around)) h)) in
            let same : variables_of n first.0 ≡ variables_of n set = same_variables n set first.0 (λ x bx. first.1 x (omega (arith, bx))) in
            let second = d.only first.0 first.2 (f around)
            (λ h. ap (λ (V : ℕ → Bool). any_biased meaning V (f around).conditions) same ∙ first.3 h)
            (λ x bx h. first.1 x (omega (arith, bx)) ∙ rule x bx (right_rule (variables_of n set) x (A around) (B (f around)) (ap (λ (V : ℕ → Bool). biased_by meaning (B (f around)) V x) (sym same) ∙ h))) in (
              second.0,
              λ x bx. second.1 x (omega (arith, bx, c.more)) ∙ first.1 x bx,
              second.2,
              λ h. ap (λ (V : ℕ → Bool). any_biased meaning V (g (f around)).conditions) (sym same) ∙ second.3 h,
            );
      }

  -- what was collected inside a condition, seen from outside
  pub collects_leave : (over inside : ℕ) (values : Around → List Value) (inner : Around → Around) (E F : List Edge) → Collects meaning n over values inside inner E F → CollectsAll meaning n over values E F
  collects_leave over inside values inner E F p w b =
      let c : Collected meaning n over values inside inner E F = p w b in record {
        within = c.within;
        inside_in = omega (arith, b, c.more);
        more = c.more;
        kept = c.kept;
        all = λ set s closed around o. ((c.all set s closed around o).0, o);
        only = λ set closed around o rule.
            let made = c.only set closed around o rule in (made.0, made.1, made.2, λ h. o (sym (made.1 over b) ∙ h));
      }

  -- the same edges for values that are the same lists
  pub collects_as : (over inside : ℕ) (A B : Around → List Value) (f : Around → Around) (E F : List Edge) → ((around : Around) → A around ≡ B around) → Collects meaning n over A inside f E F → Collects meaning n over B inside f E F
  collects_as over inside A B f E F is p =
      let same : A ≡ B = λ j. λ around. is around j in subst (λ (V : Around → List Value). Collects meaning n over V inside f E F) same p

  pub collects_inside : (over inside : ℕ) (A : Around → List Value) (f g : Around → Around) (E F : List Edge) → ((around : Around) → f around ≡ g around) → Collects meaning n over A inside f E F → Collects meaning n over A inside g E F
  collects_inside over inside A f g E F is p =
      let same : f ≡ g = λ j. λ around. is around j in subst (λ (h : Around → Around). Collects meaning n over A inside h E F) same p

  names_biased : (set : ℕ → Bool) (e : Expression) → list_any (reads_biased set) (meanings_in meaning (looked_at e)) ≡ is_biased meaning set e
  names_biased set e = any_map (reads_biased set) (meaning_of meaning) (looked_at e)

  biased_more : (a b : ℕ → Bool) → Within n a b → (e : Expression) → is_biased meaning (variables_of n a) e ≡ true → is_biased meaning (variables_of n b) e ≡ true
  biased_more a b w e =
      any_more (λ part. reads_biased (variables_of n a) (meaning_of meaning part)) (λ part. reads_biased (variables_of n b) (meaning_of meaning part))
      (λ part. name_more n a b w (meaning_of meaning part)) (looked_at e)

  -- what one assignment to a variable gives
  one_rule : (V : ℕ → Bool) (x at : ℕ) (e : Expression) (around : Around) (v : ℕ) → meaning at ≡ Some (means.Var v) → biased_by meaning (value_for around (assigned at) e ∷ []) V x ≡ true
      → ((v == x) ≡ true) × ((is_biased meaning V e || any_biased meaning V around.conditions) ≡ true)
  one_rule V x at e around v q h = elim (or_cases (gives V x (value_for around (assigned at) e)) false h) [
    | inl a ↦ (let p = and_parts (is_assigned_to meaning x (assigned at)) (list_any (is_biased meaning V) (e ∷ around.conditions)) a in
        (ap (is_variable_in (λ other. other == x)) (sym q) ∙ p.0, p.1))
    | inr f ↦ absurd (false≢true f)
  ]

  rule_one : (V : ℕ → Bool) (at : ℕ) (e : Expression) (around : Around) (v : ℕ) → meaning at ≡ Some (means.Var v) → (is_biased meaning V e || any_biased meaning V around.conditions) ≡ true
      → biased_by meaning (value_for around (assigned at) e ∷ []) V v ≡ true
  rule_one V at e around v q h =
      or_left (gives V v (value_for around (assigned at) e)) false
      (and_from (is_assigned_to meaning v (assigned at)) (is_biased meaning V e || any_biased meaning V around.conditions)
      (ap (is_variable_in (λ other. other == v)) q ∙ eq-eqb v v refl) h)

  -- a condition: its node is new
  pub collects_condition : (over c : ℕ) (es : List Expression) (values : Around → List Value) (inner : Around → Around) (old new : List Edge) → Silent values
      → ((around : Around) → (inner around).conditions ≡ es ++ around.conditions) → c ≡ nodes n old → new ≡ added n over c (meanings_in meaning (flat_map looked_at es)) old
      → Collects meaning n over values c inner old new
  collects_condition over c es values inner old new none is at e w b =
      let ms : List (Option Meaning) = meanings_in meaning (flat_map looked_at es) in
      let len : length (added n over c ms old) ≡ length old + 1 + length (edges_to n c ms) = added_length n over c ms old in
      subst (λ (E : List Edge). Collected meaning n over values c inner old E) (sym e) (record {
        within = added_within n over c ms old w b (omega (arith, at));
        inside_in = omega (arith, at, len);
        more = omega (arith, len);
        kept = added_kept n over c ms old;
        all = λ set s closed around o.
            let both = added_gives n over c ms old set s closed in (
              λ x bx h. absurd (silent values none around (variables_of n set) x bx h),
              λ h. elim (or_cases (any_biased meaning (variables_of n set) es) (any_biased meaning (variables_of n set) around.conditions)
                  (sym (list_any-append (is_biased meaning (variables_of n set)) es around.conditions) ∙ ap (any_biased meaning (variables_of n set)) (sym (is around)) ∙ h)) [
                    | inl a ↦ both.0 (any_of_all meaning (variables_of n set) es ∙ a)
                    | inr k ↦ both.1 (o k)
                  ],
            );
        only = λ set closed around o rule.
            let V : ℕ → Bool = variables_of n set in
            let d : Bool = any_biased meaning V (inner around).conditions in
            let whole : d ≡ any_biased meaning V es || any_biased meaning V around.conditions = ap (any_biased meaning V) (is around) ∙ list_any-append (is_biased meaning V) es around.conditions in
            let here : fresh c d set c ≡ d = fresh_here c d set in
            let below : (x : ℕ) → x < nodes n old → fresh c d set x ≡ set x = λ x bx. fresh_other c d set x (omega (arith, at, bx)) in
            let same : variables_of n (fresh c d set) ≡ V = same_variables n set (fresh c d set) (λ x bx. below x (omega (arith, bx))) in (
              fresh c d set,
              below,
              added_closed n over c ms old (fresh c d set)
                  (λ x y h s. (let ends : (x < nodes n old) × (y < nodes n old) = w.ends x y h in below y ends.1 ∙ closed x y h (sym (below x ends.0) ∙ s)))
                  (λ h. here ∙ whole ∙ or_left (any_biased meaning V es) (any_biased meaning V around.conditions) (sym (any_of_all meaning V es) ∙ ap (λ (W : ℕ → Bool). list_any (reads_biased W) ms) (sym same) ∙ h))
                  (λ h. here ∙ whole ∙ or_right (any_biased meaning V es) (any_biased meaning V around.conditions) (o (sym (below over b) ∙ h))),
              λ h. sym here ∙ h,
            );
      })

  -- an assignment to a variable of the module
  pub collects_assigned : (over at v : ℕ) (e : Expression) (m : Option Meaning) (old new : List Edge) → m ≡ meaning at → variable_meant n m ≡ Some v → new ≡ added n over v (meanings_in meaning (looked_at e)) old
      → CollectsAll meaning n over (λ around. value_for around (assigned at) e ∷ []) old new
  collects_assigned over at v e m old new q k r w b =
      let ms : List (Option Meaning) = meanings_in meaning (looked_at e) in
      let known : (meaning at ≡ Some (means.Var v)) × (v < n) = variable_is n m (meaning at) v q k in
      let len : length (added n over v ms old) ≡ length old + 1 + length (edges_to n v ms) = added_length n over v ms old in
      subst (λ (E : List Edge). Collected meaning n over (λ around. value_for around (assigned at) e ∷ []) over (λ around. around) old E) (sym r) (record {
        within = added_within n over v ms old w b (omega (arith, known.1));
        inside_in = omega (arith, b, len);
        more = omega (arith, len);
        kept = added_kept n over v ms old;
        all = λ set s closed around o.
            let both = added_gives n over v ms old set s closed in
            let V : ℕ → Bool = variables_of n set in (
              λ x bx h. (let f : ((v == x) ≡ true) × (is_biased meaning V e || any_biased meaning V around.conditions ≡ true) = one_rule V x at e around v known.0 h in
                  ap set (sym (eqb-true v x f.0)) ∙ elim (or_cases (is_biased meaning V e) (any_biased meaning V around.conditions) f.1) [
                    | inl a ↦ both.0 (names_biased V e ∙ a)
                    | inr c ↦ both.1 (o c)
                  ]),
              o,
            );
        only = λ set closed around o rule.
            let V : ℕ → Bool = variables_of n set in
            let here : is_biased meaning V e || any_biased meaning V around.conditions ≡ true → set v ≡ true = λ h. rule v known.1 (rule_one V at e around v known.0 h) in (
              set,
              λ x bx. refl,
              added_closed n over v ms old set closed
                  (λ h. here (or_left (is_biased meaning V e) (any_biased meaning V around.conditions) (sym (names_biased V e) ∙ h)))
                  (λ h. here (or_right (is_biased meaning V e) (any_biased meaning V around.conditions) (o h))),
              o,
            );
      })

  -- an assignment to anything else
  pub collects_unassigned : (over at : ℕ) (e : Expression) (m : Option Meaning) (edges : List Edge) → m ≡ meaning at → variable_meant n m ≡ None
      → CollectsAll meaning n over (λ around. value_for around (assigned at) e ∷ []) edges edges
  collects_unassigned over at e m edges q k =
      collects_nothing over (λ around. value_for around (assigned at) e ∷ [])
      (λ around set x b. no_rule (gives set x (value_for around (assigned at) e)) (λ h. not_meant n m (meaning at) x b q k (and_parts (is_assigned_to meaning x (assigned at)) (list_any (is_biased meaning set) (e ∷ around.conditions)) h).0)) edges

  -- one statement after another: what is left of a list from a place on, collected after what stands before it
  abbrev pub CollectsOn : {X : Type 0} → ℕ → (Around → List X → List Value) → List X → List Edge → ℕ → List Edge → Type 0
  CollectsOn over values xs start i E = (F : List Edge) → CollectsAll meaning n over (λ around. values around (drop i xs)) E F → CollectsAll meaning n over (λ around. values around xs) start F

  pub collects_start : {X : Type 0} (over : ℕ) (values : Around → List X → List Value) (xs : List X) (start : List Edge) → CollectsOn over values xs start 0 start
  collects_start over values xs start F p = p

  pub collects_next : {X : Type 0} (over : ℕ) (values : Around → List X → List Value) (own : Around → X → List Value) → ((around : Around) (x : X) (rest : List X) → values around (x ∷ rest) ≡ own around x ++ values around rest)
      → (xs : List X) (start : List Edge) (i : ℕ) (E F : List Edge) (x : X) → i < length xs → x ≡ get_or xs i x → CollectsAll meaning n over (λ around. own around x) E F → CollectsOn over values xs start i E → CollectsOn over values xs start (i + 1) F
  collects_next {X} over values own split xs start i E F x lt is p on G q =
      let here : drop i xs ≡ x ∷ drop (suc i) xs = drop-cons xs i x lt ∙ ap (λ (y : X). y ∷ drop (suc i) xs) (sym is) in
      let one : i + 1 ≡ suc i = omega arith in
      on G (collects_as over over (λ around. own around x ++ values around (drop (i + 1) xs)) (λ around. values around (drop i xs)) (λ around. around) E G
      (λ around. ap (λ (k : ℕ). own around x ++ values around (drop k xs)) one ∙ sym (ap (values around) here ∙ split around x (drop (suc i) xs)))
      (collects_then over over over (λ around. own around x) (λ around. values around (drop (i + 1) xs)) (λ around. around) (λ around. around) E F G p q))

  pub collects_end : {X : Type 0} (over : ℕ) (values : Around → List X → List Value) → ((around : Around) → values around [] ≡ []) → (xs : List X) (start : List Edge) (i : ℕ) (E : List Edge) → length xs ≤ i → CollectsOn over values xs start i E
      → CollectsAll meaning n over (λ around. values around xs) start E
  collects_end {X} over values none xs start i E h on =
      on E (collects_nothing over (λ around. values around (drop i xs)) (λ around set x b. ap (λ list. biased_by meaning list set x) (ap (values around) (drop_of_length-le xs h) ∙ none around)) E)

  -- The rule asked of the variables of a set of nodes gives the same least set, and is monotone.
  module _ (values : List Value) where
    abbrev inside_rule : (ℕ → Bool) → ℕ → Bool
    inside_rule set x = biased_by meaning values (variables_of n set) x

    all_variables : (set : ℕ → Bool) → ((z : ℕ) → set z ≡ true → z < n) → set ≡ variables_of n set
    all_variables set below = λ j. λ x. variable_kept n set x (set x) refl (below x) j

    same_least : (x : ℕ) → least n (biased_by meaning values) x ≡ least n inside_rule x
    same_least x = least_same n (biased_by meaning values) inside_rule (λ set below y b. ap (λ (V : ℕ → Bool). biased_by meaning values V y) (all_variables set below)) x

    inside_monotone : IsMonotone n inside_rule
    inside_monotone a b w x bx h = any_more (gives (variables_of n a) x) (gives (variables_of n b) x)
        (λ v. and_more (is_assigned_to meaning x v.purpose) (list_any (is_biased meaning (variables_of n a)) (v.expression ∷ v.around.conditions)) (list_any (is_biased meaning (variables_of n b)) (v.expression ∷ v.around.conditions))
        (any_more (is_biased meaning (variables_of n a)) (is_biased meaning (variables_of n b)) (biased_more a b w) (v.expression ∷ v.around.conditions))) values h

  -- Where edges were collected for the statements of a module, the unknowns reach exactly the biased variables.
  pub biased_reached : (values : Around → List Value) (around : Around) (edges : List Edge) → around.conditions ≡ [] → CollectsAll meaning n (n + 1) values [] edges
      → (x : ℕ) → x < n → reached (nodes n edges) edges (n ∷ []) x ≡ least n (biased_by meaning (values around)) x
  biased_reached values around edges empty p x bx =
      let c : Collected meaning n (n + 1) values (n + 1) (λ around. around) [] edges = p (record { ends = λ y z h. absurd (no_edge y z h) }) (omega arith) in
      let vs : List Value = values around in
      let L : ℕ → Bool = least n (inside_rule vs) in
      let R : ℕ → Bool = reached (nodes n edges) edges (n ∷ []) in
      let below : (z : ℕ) → L z ≡ true → z < n = λ z h. after_below n (inside_rule vs) n z h in
      let start : ℕ → Bool = λ z. L z || (z == n) in
      let same : variables_of n start ≡ variables_of n L = same_variables n L start (λ z b. not_source n z (L z) b) in
      let nothing : (V : ℕ → Bool) → any_biased meaning V around.conditions ≡ false = λ V. ap (any_biased meaning V) empty in
      let made = c.only start (closed_none start) around
      (λ h. absurd (above_start n (L (n + 1)) h (λ l. (let b : n + 1 < n = below (n + 1) l in omega (arith, b)))))
      (λ z b h. or_left (L z) (z == n) (least_closed n (inside_rule vs) (inside_monotone vs) z b (ap (λ (V : ℕ → Bool). biased_by meaning vs V z) (sym same) ∙ h))) in
      let reaches_source : R n ≡ true = seed_reached (nodes n edges) edges (n ∷ []) n (omega arith) (or_left (n == n) false (eq-eqb n n refl)) in
      let closed : IsClosed R edges = λ y z h s. edge_reached (nodes n edges) edges (n ∷ []) y z s h (c.within.ends y z h).1 in
      let whole = c.all R reaches_source closed around (λ h. absurd (false≢true (sym (nothing (variables_of n R)) ∙ h))) in
      both_ways (R x) (L x)
      (λ h. start_gives n (L x) x bx (sym (made.1 x (omega (arith, bx))) ∙ reached_within (nodes n edges) edges (n ∷ []) made.0
      (λ z b s. ap made.0 (sym (one_seed n z s)) ∙ made.1 n (omega arith) ∙ or_right (L n) (n == n) (eq-eqb n n refl))
      (λ y z by bz s e. made.2 y z e s) x h))
      (λ h. least_within n (inside_rule vs) (inside_monotone vs) R whole.0 x bx h)
      ∙ sym (same_least vs x)

-- the first part of a table
pub first_listed : (n N : ℕ) (f g : ℕ → Bool) → n ≤ N → ((x : ℕ) → x < n → f x ≡ g x) → ((x : ℕ) → g x ≡ true → x < n) → (x : ℕ) → listed (take n (table N f)) x ≡ g x
first_listed n N f g le same below x = elim (cases_lt x n) [
  | inl l ↦ get_or-take n (table N f) x false l ∙ table_at N f x (omega (arith, l, le)) ∙ same x l
  | inr m ↦ get_or_past (take n (table N f)) x false (omega (arith, m, length-take n (table N f))) ∙ sym (outside (g x) (λ h. (let l : x < n = below x h in omega (arith, l, m))))
]

-- the biased variables as the code finds them
pub biased_listed : (meaning : ℕ → Option Meaning) (n : ℕ) (blocks : List Statement) (edges slice : List Edge) (m : ℕ) (all list : List Bool)
    → CollectsAll meaning n (n + 1) (λ around. flat_map (values_in around) blocks) [] edges → slice ≡ edges → m ≡ nodes n edges → all ≡ table m (reached m slice (n ∷ [])) → list ≡ take n all
    → (x : ℕ) → listed list x ≡ least n (biased_by meaning (values_of blocks)) x
biased_listed meaning n blocks edges slice m all list p s e a l x =
    let rule : (ℕ → Bool) → ℕ → Bool = biased_by meaning (values_of blocks) in
    let around : Around = record { conditions = []; in_loop = false } in
    ap (λ (b : List Bool). listed b x) (l ∙ ap (take n) (a ∙ (λ j. table (e j) (reached (e j) (s j) (n ∷ [])))))
    ∙ first_listed n (nodes n edges) (reached (nodes n edges) edges (n ∷ [])) (least n rule) (omega arith)
    (biased_reached meaning n (λ a. flat_map (values_in a) blocks) around edges refl p)
    (λ y h. after_below n rule n y h) x
