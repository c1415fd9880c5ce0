-- Rows of two evaluations of a module that keeps to classes: a row is of a class where all that is added up in it is.
use Rattle.std.specs.Prelude.{◌≡◌, ℕ, zero, suc, ◌+◌, ◌==◌, ◌||◌, Bool, true, false, if◌then◌else◌, List, [], ◌∷◌, ◌++◌, Option, Some, None, map, fold}
use Rattle.std.specs.List.{slice_get}
use Rattle.std.proofs.Common.{refl, ap, subst, arith}
use Rattle.alg_laws.specs.Related.{ListsRelated, no_more as none_more, one_more}
use Rattle.alg_laws.proofs.Related.{chosen_related}
use Rattle.va_sem.specs.declared.branch.BranchKind.{BranchKind}
use Rattle.va_sem.specs.declared.branch.BranchKind.TheVariants as kind
use Rattle.va_sem.specs.declared.branch.Unknown.{Unknown}
use Rattle.va_sem.specs.declared.branch.Unknown.TheVariants.{Node, Branch}
use Rattle.va_sem.specs.declared.names.BranchName.{BranchName}
use Rattle.va_tree.specs.declared.source.Quantity.TheVariants.{Potential, Flow}
use Rattle.va_meaning.specs.Classes.{Classes, AreOrdered, Slots, IfSure, IsSure, ContextsInClasses, StatesInClasses}
use Rattle.va_meaning.specs.Elaborated.{Elaborated}
use Rattle.va_meaning.specs.Evaluation.{evaluated}
use Rattle.va_meaning.specs.Points.{Context, State, is_quantity}
use Rattle.va_meaning.specs.Related.{Endings, IsClosed, Alike, both_give, HeldRelated}
use Rattle.va_meaning.specs.RowClasses.{HeldIn, FlowIn, RowIn}
use Rattle.va_meaning.specs.Rows.{is_end, flow_of, given_to, all_given_to, row, residuals}
use Rattle.va_meaning.specs.Unknowns.{branch_of}
use Rattle.va_meaning.proofs.Classes.{zero_in, unknown_in, nodes_in}
use Rattle.va_meaning.proofs.Endings.{then_alike}

after_left : (a b : Bool) → a ≡ true → (a || b) ≡ true
after_left a b e = λ j. e j || b

after_right : (a b : Bool) → b ≡ true → (a || b) ≡ true
after_right true b e = refl
after_right false b e = e

joined_lists : {A B : Type 0} {P : A → B → Type 0} {xs xs' : List A} {ys ys' : List B} → ListsRelated P xs ys → ListsRelated P xs' ys' → ListsRelated P (xs ++ xs') (ys ++ ys')
joined_lists none_more l = l
joined_lists (one_more p ps) l = one_more p (joined_lists ps l)

if_lists : {A B : Type 0} (P : A → B → Type 0) (b : Bool) (xs : List A) (ys : List B) → (b ≡ true → ListsRelated P xs ys)
    → ListsRelated P (if b then xs else []) (if b then ys else [])
if_lists P true xs ys l = l refl
if_lists P false xs ys l = none_more

-- the entry of a mapped list
pub mapped_entry : {A B : Type 0} (f : A → B) (xs : List A) (i : ℕ) (x : A) (y : B) → slice_get xs i ≡ Some x → slice_get (map f xs) i ≡ Some y → f x ≡ y
mapped_entry f [] i x y e d = absurd (cc (e))
mapped_entry f (z ∷ zs) zero x y e d = let same : z ≡ x = cc (e) in let is : f z ≡ y = cc (d) in subst (λ t. f t ≡ y) same is
mapped_entry f (z ∷ zs) (suc i) x y e d = mapped_entry f zs i x y e d

module _ {E E' V W C : Type 0} (g : Endings E E') (closed : IsClosed g) (M : Elaborated) (K : Classes C) (ordered : AreOrdered K) (R : C → V → W → Type 0)
    (slots : Slots C) (c : Context E V) (d : Context E' W) (h : ContextsInClasses g K R slots c d) where
  module _ (k : C) (s : State V) (t : State W) (n : StatesInClasses M R slots s t) where
    fold_in : (a : V) (b : W) {xs : List V} {ys : List W} → R k a b → ListsRelated (R k) xs ys → R k (fold c.ops.sum a xs) (fold d.ops.sum b ys)
    fold_in a b p none_more = p
    fold_in a b p (one_more {a = x} {b = y} q qs) = fold_in (c.ops.sum a x) (d.ops.sum b y) (h.sum k a x b y p q) qs

    up_held : (b : ℕ) (known : Option C) → IfSure (λ j. HeldRelated (R j) (s.held b) (t.held b)) known → IsSure (λ l. K.below l k) known
        → HeldRelated (R k) (s.held b) (t.held b)
    up_held b None p up = absurd up
    up_held b (Some j) p up = record { quantity = p.quantity; sum = h.weaker j k up _ _ p.sum }

    held_in : (b : ℕ) → HeldIn M K slots k b → HeldRelated (R k) (s.held b) (t.held b)
    held_in b up = up_held b (slots.held b) (n.held b) up

    zero_of_class : R k c.ops.zero d.ops.zero
    zero_of_class = zero_in g closed M K ordered R slots c d h k

    flow_in : (b : ℕ) (kd : BranchKind) → FlowIn M K slots k b kd → ListsRelated (R k) (flow_of M c s b kd) (flow_of M d t b kd)
    flow_in b kind.Flow i =
        let r = held_in b i in
        one_more (chosen_related (R k) _ _ _ _ _ _ (ap (is_quantity Flow) r.quantity) r.sum zero_of_class) none_more
    flow_in b kind.Collapsing i =
        let r = held_in b i in
        chosen_related (ListsRelated (R k)) _ _ _ _ _ _ (ap (is_quantity Flow) r.quantity)
        (one_more (chosen_related (R k) _ _ _ _ _ _ (ap (is_quantity Flow) r.quantity) r.sum zero_of_class) none_more) none_more
    flow_in b kind.Potential i = one_more (unknown_in g closed M K ordered R slots c d h k _ i) none_more

    negatives_in : {xs : List V} {ys : List W} → ListsRelated (R k) xs ys → ListsRelated (R k) (map c.ops.negative xs) (map d.ops.negative ys)
    negatives_in none_more = none_more
    negatives_in (one_more p ps) = one_more (h.negative k _ _ p) (negatives_in ps)

    given_in : (a b : ℕ) (branch : BranchName) → ((branch.plus == a || is_end a branch.minus) ≡ true → FlowIn M K slots k b (M.kind b))
        → ListsRelated (R k) (given_to M c s a b branch) (given_to M d t a b branch)
    given_in a b branch i =
        joined_lists
        (if_lists (R k) (branch.plus == a) _ _ (λ e. flow_in b (M.kind b) (i (after_left (branch.plus == a) (is_end a branch.minus) e))))
        (if_lists (R k) (is_end a branch.minus) _ _ (λ e. negatives_in (flow_in b (M.kind b) (i (after_right (branch.plus == a) (is_end a branch.minus) e)))))

    all_given_in : (a b : ℕ) (branches : List BranchName)
        → ((i : ℕ) (branch : BranchName) → slice_get branches i ≡ Some branch → (branch.plus == a || is_end a branch.minus) ≡ true → FlowIn M K slots k (b + i) (M.kind (b + i)))
        → ListsRelated (R k) (all_given_to M c s a b branches) (all_given_to M d t a b branches)
    all_given_in a b [] i = none_more
    all_given_in a b (branch ∷ rest) i =
        joined_lists
        (given_in a b branch (λ e. subst (λ (x : ℕ). FlowIn M K slots k x (M.kind x)) (let same : b + 0 ≡ b = omega arith in same) (i 0 branch refl e)))
        (all_given_in a (b + 1) rest
        (λ j other at e. subst (λ (x : ℕ). FlowIn M K slots k x (M.kind x)) (let same : b + suc j ≡ b + 1 + j = omega arith in same) (i (suc j) other at e)))

    pub row_in : (u : Unknown) → RowIn M K slots k u → R k (row M c s u) (row M d t u)
    row_in (Node a) i =
        fold_in c.ops.zero d.ops.zero zero_of_class
        (all_given_in a 0 M.branches (λ b branch at e. subst (λ (x : ℕ). FlowIn M K slots k x (M.kind x)) (let same : b ≡ 0 + b = omega arith in same) (i b branch at e)))
    row_in (Branch b) i =
        let r = held_in b i.1 in
        h.sum k _ _ _ _ (nodes_in g closed M K ordered R slots c d h k (branch_of M b).plus (branch_of M b).minus i.0)
        (h.negative k _ _ (chosen_related (R k) _ _ _ _ _ _ (ap (is_quantity Potential) r.quantity) r.sum zero_of_class))

  -- Each row that is of a class is related so.
  abbrev pub RowsIn : List V → List W → Type 0
  RowsIn rows below =
      (k : C) (i : ℕ) (u : Unknown) → slice_get M.unknowns i ≡ Some u → RowIn M K slots k u → (x : V) → slice_get rows i ≡ Some x → (y : W) × R k x y

  pub residuals_in : (g' : Endings E E') → IsClosed g' → Alike g' (StatesInClasses M R slots) (evaluated M c) (evaluated M d) → Alike g' RowsIn (residuals M c) (residuals M d)
  residuals_in g' closed' e =
      then_alike g' closed' (StatesInClasses M R slots) RowsIn _ _ e
      (λ s t n. both_give
      (λ k i u at is x there. (row M d t u, subst (λ (y : V). R k y (row M d t u)) (mapped_entry (row M c s) M.unknowns i u x at there) (row_in k s t n u is))))
