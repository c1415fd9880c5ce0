-- Components of all nodes, and the nodes that reach themselves.
use Rattle.std.proofs.Common.{◌≡◌, ℕ, zero, suc, ◌+◌, ◌-◌, ◌<◌, ◌≤◌, ◌==◌, ◌||◌, ◌&&◌, Bool, true, false, cond, List, [], ◌∷◌, ◌++◌, length, get_or, take, take_all, replicate, refl, sym, ◌∙◌, ap, subst, inl, inr, arith, length-set, ext_get_or}
use Rattle.std.proofs.Math.ListN.{set}
use Rattle.std.proofs.lemmas.List.{length-replicate, take_more, take-append-le}
use Rattle.std.proofs.lemmas.List.Folds.{list_any_at}
use Rattle.std.proofs.lemmas.Bool.{cases_eq, and_from, and_parts, eqb-true, eq-eqb}
use Rattle.alg_laws.specs.Least.{table}
use Rattle.graphs.specs.declared.edge.Edge.{Edge}
use Rattle.graphs.specs.Edges.{is_edge, is_in, reached, reaches}
use Rattle.graphs.specs.Work.{Spreads}
use Rattle.graphs.specs.Walk.{IsDepthOrder}
use Rattle.graphs.specs.Components.{Components, AreTurned, AreComponentsOf, Marks, targets_of, returns_to}
use Rattle.graphs.proofs.Steps.{edge_one_more}
use Rattle.graphs.proofs.Reached.{seed_reached, table_at, table-length}
use Rattle.graphs.proofs.RowLists.{in_gives}
use Rattle.graphs.proofs.Spreading.{mark_stays, mark_lands, mark_only, spread_start}
use Rattle.graphs.proofs.Walking.{self_reaches, reaches_on, trues_none, order_behind}
use Rattle.graphs.proofs.Turned.{reached_from, reached_induct, claim}

copies : (n x : ℕ) (v : ℕ) → x < n → get_or (replicate n v) x 0 ≡ v
copies zero x v b = absurd (omega (arith, b))
copies (suc n) zero v b = refl
copies (suc n) (suc x) v b = copies n x v (omega (arith, b))

pub parts_start : (n : ℕ) (edges back : List Edge) (roots : List ℕ) (marked : List Bool) (component : List ℕ) → roots ≡ [] → marked ≡ replicate n false
    → component ≡ replicate n n → Components n edges back roots marked component
parts_start n edges back roots marked component e q p =
    let none : (x : ℕ) → get_or marked x false ≡ true → ⊥ = λ x h. trues_none n x (sym (ap (λ m. get_or m x false) q) ∙ h) in
    let at : (x : ℕ) → x < n → get_or component x 0 ≡ n = λ x b. ap (λ l. get_or l x 0) p ∙ copies n x n b in
    let P : List ℕ → Type 0 = λ d. Spreads n back roots d marked [] in record {
      component_len = ap length p ∙ length-replicate n n;
      spreads = subst P (sym e) (spread_start n back roots marked [] q refl);
      named = λ x h. absurd (none x h);
      both = λ x b l. absurd (omega (arith, at x b));
      same = λ x y bx by lx ly h k. absurd (omega (arith, at x bx));
    }

pub parts_at : (m n : ℕ) (edges back : List Edge) (roots : List ℕ) (marked : List Bool) (component : List ℕ) → Components n edges back roots marked component → m ≡ n
    → Components m edges back roots marked component
parts_at m n edges back roots marked component was q = let P : ℕ → Type 0 = λ k. Components k edges back roots marked component in subst P (sym q) was

-- the claim at the next node of the order, from the last on
pub claim_at : (m n : ℕ) (edges back : List Edge) → AreTurned edges back → (order : List ℕ) → IsDepthOrder n edges order → (roots : List ℕ) (marked : List Bool)
    (component : List ℕ) (count i : ℕ) → Components n edges back roots marked component → count ≡ length order → i < count
    → ((k : ℕ) → count - i ≤ k → k < count → get_or marked (get_or order k 0) false ≡ true) → m ≡ n
    → (x : ℕ) → reached m back roots x ≡ false → reaches m edges x (get_or order (count - 1 - i) 0) ≡ true → reaches m edges (get_or order (count - 1 - i) 0) x ≡ true
claim_at m n edges back t order is roots marked component count i was c b later q x =
    let P : ℕ → Type 0 = λ k. reached k back roots x ≡ false → reaches k edges x (get_or order (count - 1 - i) 0) ≡ true → reaches k edges (get_or order (count - 1 - i) 0) x ≡ true in
    let bp : count - 1 - i < length order = omega arith in
    subst P (sym q) (claim n edges back t order is roots (count - 1 - i) (omega (arith, is.len))
    (λ k l g. was.spreads.only (get_or order k 0) (later k (omega arith) (omega (arith, is.len))))
    (is.below (count - 1 - i) bp) x)

pub later_more : (marked marked2 : List Bool) (order : List ℕ) (count i : ℕ) → i < count
    → ((k : ℕ) → count - i ≤ k → k < count → get_or marked (get_or order k 0) false ≡ true)
    → ((z : ℕ) → get_or marked z false ≡ true → get_or marked2 z false ≡ true) → get_or marked2 (get_or order (count - 1 - i) 0) false ≡ true
    → (k : ℕ) → count - (i + 1) ≤ k → k < count → get_or marked2 (get_or order k 0) false ≡ true
later_more marked marked2 order count i b later kept here k l g = elim (cases_eq k (count - 1 - i)) [
  | inl e ↦ ap (λ z. get_or marked2 (get_or order z 0) false) e ∙ here
  | inr ne ↦ kept (get_or order k 0) (later k (omega arith) g)
]

same_answer : (a b : Bool) → (a ≡ true → b ≡ true) → (b ≡ true → a ≡ true) → a ≡ b
same_answer true b h k = sym (h refl)
same_answer false true h k = k refl
same_answer false false h k = refl

pub parts_end : (n : ℕ) (edges back : List Edge) (order roots : List ℕ) (marked : List Bool) (component : List ℕ) (count i : ℕ) → IsDepthOrder n edges order
    → Components n edges back roots marked component → count ≡ length order → count ≤ i
    → ((k : ℕ) → count - i ≤ k → k < count → get_or marked (get_or order k 0) false ≡ true) → AreComponentsOf n edges component
parts_end n edges back order roots marked component count i is was c b later =
    let all : (x : ℕ) → x < n → get_or component x 0 < n = λ x bx.
    (let w : (k : ℕ) × (k < length order) × (get_or order k 0 ≡ x) = in_gives order x (is.each x bx) in
    was.named x (ap (λ z. get_or marked z false) (sym w.2) ∙ later w.0 (omega arith) (omega (arith, w.1)))) in
    let one : (x y : ℕ) → x < n → y < n → get_or component x 0 ≡ get_or component y 0 → reaches n edges x y ≡ true = λ x y bx by e.
    (let P : ℕ → Type 0 = λ z. reaches n edges z y ≡ true in
    reached_from n edges (x ∷ []) (get_or component x 0) y (was.both x bx (all x bx)).1 (subst P (sym e) (was.both y by (all y by)).2)) in
    record {
      len = was.component_len;
      below = all;
      same = λ x y bx by. same_answer (get_or component x 0 == get_or component y 0) (reaches n edges x y && reaches n edges y x)
          (λ h. (let e : get_or component x 0 ≡ get_or component y 0 = eqb-true (get_or component x 0) (get_or component y 0) h in
          and_from (reaches n edges x y) (reaches n edges y x) (one x y bx by e) (one y x by bx (sym e))))
          (λ h. (let p : (reaches n edges x y ≡ true) × (reaches n edges y x ≡ true) = and_parts (reaches n edges x y) (reaches n edges y x) h in
          eq-eqb (get_or component x 0) (get_or component y 0) (was.same x y bx by (all x bx) (all y by) p.0 p.1)));
    }

-- targets as a list
targets_case : (b : Bool) (to : ℕ) (rest : List ℕ) (y : ℕ) (t : Bool) → is_in rest y ≡ t → is_in (cond b (to ∷ rest) rest) y ≡ ((b && (to == y)) || t)
targets_case true to rest y t q = ap (λ v. (to == y) || v) q
targets_case false to rest y t q = q

pub in_targets : (edges : List Edge) (x y : ℕ) → is_in (targets_of edges x) y ≡ is_edge edges x y
in_targets [] x y = refl
in_targets (e ∷ edges) x y = targets_case (e.from == x) e.to (targets_of edges x) y (is_edge edges x y) (in_targets edges x y)

edge_returns : (n : ℕ) (edges : List Edge) (x y : ℕ) → y < n → is_edge edges x y ≡ true → reaches n edges y x ≡ true → returns_to n edges x ≡ true
edge_returns n edges x y b e h =
    reached_from n edges (targets_of edges x) y x (seed_reached n edges (targets_of edges x) y b (in_targets edges x y ∙ e)) h

returns_by : (n : ℕ) (edges : List Edge) (x : ℕ) → returns_to n edges x ≡ true → (y : ℕ) × (y < n) × (is_edge edges x y ≡ true) × (reaches n edges y x ≡ true)
returns_by n edges x h =
    reached_induct n edges (targets_of edges x) (λ z. (y : ℕ) × (y < n) × (is_edge edges x y ≡ true) × (reaches n edges y z ≡ true))
    (λ z b s. (z, b, sym (in_targets edges x z) ∙ s, self_reaches n edges z b))
    (λ z w bz bw f e. (f.0, f.1, f.2, reaches_on n edges f.0 z w f.3 e bw)) x h

pub marks_start : (n : ℕ) (edges : List Edge) (component : List ℕ) (returning : List Bool) → returning ≡ replicate n false → Marks n edges [] component returning
marks_start n edges component returning q = record {
  len = ap length q ∙ length-replicate n false;
  only = λ x h. absurd (trues_none n x (sym (ap (λ m. get_or m x false) q) ∙ h));
  all = λ x y bx by e p. (let f : false ≡ true = e in cc);
}

edge_at : (edges : List Edge) (i : ℕ) (d : Edge) → i < length edges → is_edge edges (get_or edges i d).from (get_or edges i d).to ≡ true
edge_at edges i d b =
    let e : Edge = get_or edges i d in
    list_any_at (λ (f : Edge). (f.from == e.from) && (f.to == e.to)) edges i d b
    (and_from (e.from == e.from) (e.to == e.to) (eq-eqb e.from e.from refl) (eq-eqb e.to e.to refl))

module _ (n : ℕ) (edges : List Edge) (component : List ℕ) (are : AreComponentsOf n edges component) (i : ℕ) (d : Edge) (b : i < length edges) where
  abbrev e : Edge
  e = get_or edges i d

  at_more : (returning : List Bool) → Marks n edges (take i edges ++ e ∷ []) component returning → Marks n edges (take (i + 1) edges) component returning
  at_more returning was = let P : List Edge → Type 0 = λ es. Marks n edges es component returning in subst P (sym (take_more edges i d b)) was

  pub marks_here : (returning returning2 : List Bool) → Marks n edges (take i edges) component returning → e.from < n → e.to < n
      → get_or component e.from 0 ≡ get_or component e.to 0 → returning2 ≡ set returning e.from true → Marks n edges (take (i + 1) edges) component returning2
  marks_here returning returning2 was bf bt p q =
      let r : reaches n edges e.to e.from ≡ true = (and_parts (reaches n edges e.from e.to) (reaches n edges e.to e.from)
      (sym (are.same e.from e.to bf bt) ∙ eq-eqb (get_or component e.from 0) (get_or component e.to 0) p)).1 in
      let P : List Bool → Type 0 = λ m. Marks n edges (take i edges ++ e ∷ []) component m in
      at_more returning2 (subst P (sym q) (record {
        len = length-set returning e.from true ∙ was.len;
        only = λ x h. elim (mark_only returning e.from x h) [
          | inl k ↦ ap (λ z. returns_to n edges z) k ∙ edge_returns n edges e.from e.to bt (edge_at edges i d b) r
          | inr m ↦ was.only x m
        ];
        all = λ x y bx by h s. elim (edge_one_more (take i edges) e x y h) [
          | inl o ↦ mark_stays returning e.from x (was.all x y bx by o s)
          | inr k ↦ ap (λ z. get_or (set returning e.from true) z false) (sym k.0) ∙ mark_lands returning e.from (omega (arith, was.len))
        ];
      }))

  pub marks_past : (returning returning2 : List Bool) → Marks n edges (take i edges) component returning
      → (e.from < n → e.to < n → get_or component e.from 0 ≡ get_or component e.to 0 → ⊥) → returning2 ≡ returning → Marks n edges (take (i + 1) edges) component returning2
  marks_past returning returning2 was out q =
      let P : List Bool → Type 0 = λ m. Marks n edges (take i edges ++ e ∷ []) component m in
      at_more returning2 (subst P (sym q) (record {
        len = was.len;
        only = was.only;
        all = λ x y bx by h s. elim (edge_one_more (take i edges) e x y h) [
          | inl o ↦ was.all x y bx by o s
          | inr k ↦ absurd (out (omega (arith, k.0)) (omega (arith, k.1))
              (ap (λ z. get_or component z 0) k.0 ∙ s ∙ sym (ap (λ z. get_or component z 0) k.1)))
        ];
      }))

pub marks_end : (n : ℕ) (edges : List Edge) (component : List ℕ) (returning : List Bool) (i : ℕ) → AreComponentsOf n edges component → length edges ≤ i
    → Marks n edges (take i edges) component returning → returning ≡ table n (returns_to n edges)
marks_end n edges component returning i are b was =
    let at : (x : ℕ) → x < n → get_or returning x false ≡ returns_to n edges x = λ x bx. same_answer (get_or returning x false) (returns_to n edges x)
    (was.only x)
    (λ h. (let f : (y : ℕ) × (y < n) × (is_edge edges x y ≡ true) × (reaches n edges y x ≡ true) = returns_by n edges x h in
    was.all x f.0 bx f.1 (ap (λ es. is_edge es x f.0) (take_all i edges b) ∙ f.2)
    (eqb-true (get_or component x 0) (get_or component f.0 0) (are.same x f.0 bx f.1
    ∙ and_from (reaches n edges x f.0) (reaches n edges f.0 x) (reaches_on n edges x x f.0 (self_reaches n edges x bx) f.2 f.1) f.3)))) in
    ext_get_or false returning (table n (returns_to n edges)) (was.len ∙ sym (table-length n (returns_to n edges)))
    (λ x l. (let bx : x < n = omega (arith, was.len) in at x bx ∙ sym (table_at n (returns_to n edges) x bx)))

pub parts_taken : (n k m : ℕ) (edges : List Edge) (new rest : List ℕ) → AreComponentsOf k edges new → k ≡ n → m ≡ n → AreComponentsOf n edges (take m (new ++ rest))
parts_taken n k m edges new rest are q e =
    let P : ℕ → Type 0 = λ z. AreComponentsOf z edges new in
    let Q : List ℕ → Type 0 = λ z. AreComponentsOf n edges z in
    let le : m ≤ length new = omega (arith, are.len) in
    let ge : length new ≤ m = omega (arith, are.len) in
    subst Q (sym (take-append-le m new rest le ∙ take_all m new ge)) (subst P q are)

-- where nothing returns to itself, all targets stand before
pub order_sorted : (n : ℕ) (edges : List Edge) (order : List ℕ) → IsDepthOrder n edges order → ((x : ℕ) → x < n → returns_to n edges x ≡ false)
    → (j y : ℕ) → j < n → y < n → is_edge edges (get_or order j 0) y ≡ true → is_in (take j order) y ≡ true
order_sorted n edges order is none j y bj by e = elim (order_behind n edges order is j y bj by e) [
  | inl a ↦ a
  | inr r ↦ (let bx : get_or order j 0 < n = is.below j (omega (arith, is.len)) in
      let f : false ≡ true = sym (none (get_or order j 0) bx) ∙ edge_returns n edges (get_or order j 0) y by e r in cc)
]
