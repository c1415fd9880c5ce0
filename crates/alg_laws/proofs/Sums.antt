-- Regrouping of sums of lists.
use Rattle.std.specs.Prelude.{◌≡◌, List, [], ◌∷◌, ◌++◌, map, fold, All}
use Rattle.std.proofs.Common.{refl, sym, ap, ◌∙◌}
use Rattle.std.proofs.lemmas.List.Elements.{All-head, All-tail, All-map}
use Rattle.alg_laws.specs.Operations.{Operations, IsAlgebra}
use Rattle.alg_laws.specs.Rings.{zero_sum, swap_middle, negative_zero, negative_sum, product_zero}
use Rattle.alg_laws.specs.Sums.{total, SumsRegroup}

module _ {V : Type 0} (o : Operations V) (valid unit : V → Type 0) (l : IsAlgebra o valid unit) where
  pub valid_fold : (a : V) (xs : List V) → valid a → All valid xs → valid (fold o.sum a xs)
  valid_fold a [] va h = va
  valid_fold a (x ∷ xs) va h =
      valid_fold (o.sum a x) xs (l.valid_sum a x va (All-head valid x xs h)) (All-tail valid x xs h)

  pub valid_total : (xs : List V) → All valid xs → valid (total o xs)
  valid_total xs h = valid_fold o.zero xs l.valid_zero h

  -- what a sum begins with can be added to the sum of the rest
  pub total_start : (a : V) (xs : List V) → valid a → All valid xs → fold o.sum a xs ≡ o.sum a (total o xs)
  total_start a [] va h = sym (l.sum_zero a va)
  total_start a (x ∷ xs) va h =
      let vx = All-head valid x xs h in
      let rest = All-tail valid x xs h in
      total_start (o.sum a x) xs (l.valid_sum a x va vx) rest
      ∙ l.sum_assoc a x (total o xs) va vx (valid_total xs rest)
      ∙ ap (λ t. o.sum a t)
      (sym (total_start x xs vx rest) ∙ ap (λ t. fold o.sum t xs) (sym (zero_sum o valid unit l x vx)))

  pub total_cons : (x : V) (xs : List V) → valid x → All valid xs → total o (x ∷ xs) ≡ o.sum x (total o xs)
  total_cons x xs vx h = ap (λ t. fold o.sum t xs) (zero_sum o valid unit l x vx) ∙ total_start x xs vx h

  fold_append : (a : V) (xs ys : List V) → fold o.sum a (xs ++ ys) ≡ fold o.sum (fold o.sum a xs) ys
  fold_append a [] ys = refl
  fold_append a (x ∷ xs) ys = fold_append (o.sum a x) xs ys

  pub total_append : (xs ys : List V) → All valid xs → All valid ys → total o (xs ++ ys) ≡ o.sum (total o xs) (total o ys)
  total_append xs ys h k = fold_append o.zero xs ys ∙ total_start (total o xs) ys (valid_total xs h) k

  -- a value can be added first
  pub total_middle : (xs ys : List V) (x : V) → All valid xs → All valid ys → valid x
      → total o (xs ++ x ∷ ys) ≡ total o (x ∷ (xs ++ ys))
  total_middle xs ys x h k vx =
      let vxs = valid_total xs h in
      fold_append o.zero xs (x ∷ ys)
      ∙ ap (λ t. fold o.sum t ys) (l.sum_comm (total o xs) x vxs vx)
      ∙ ap (λ t. fold o.sum t ys) (sym (total_start x xs vx h))
      ∙ sym (fold_append x xs ys)
      ∙ ap (λ t. fold o.sum t (xs ++ ys)) (sym (zero_sum o valid unit l x vx))

  valid_sums : {K : Type 0} (f g : K → V) (ks : List K) → All (λ k. valid (f k)) ks → All (λ k. valid (g k)) ks
      → All valid (map (λ k. o.sum (f k) (g k)) ks)
  valid_sums f g ks h j =
      All-map valid (λ k. o.sum (f k) (g k)) ks (λ k d b. l.valid_sum (f _) (g _) (h k d b) (j k d b))

  kept_map : (h : V → V) → ((x : V) → valid x → valid (h x)) → (xs : List V) → All valid xs → All valid (map h xs)
  kept_map h kept xs v = All-map valid h xs (λ k d b. kept _ (v k d b))

  -- a sum of sums is the sum of the two sums
  pub total_pairs : {K : Type 0} (f g : K → V) (ks : List K) → All (λ k. valid (f k)) ks → All (λ k. valid (g k)) ks
      → total o (map (λ k. o.sum (f k) (g k)) ks) ≡ o.sum (total o (map f ks)) (total o (map g ks))
  total_pairs f g [] h j = sym (l.sum_zero o.zero l.valid_zero)
  total_pairs f g (k ∷ ks) h j =
      let vf = All-head (λ k. valid (f k)) k ks h in
      let vg = All-head (λ k. valid (g k)) k ks j in
      let fs = All-tail (λ k. valid (f k)) k ks h in
      let gs = All-tail (λ k. valid (g k)) k ks j in
      total_cons (o.sum (f k) (g k)) (map (λ k. o.sum (f k) (g k)) ks) (l.valid_sum (f k) (g k) vf vg)
      (valid_sums f g ks fs gs)
      ∙ ap (λ t. o.sum (o.sum (f k) (g k)) t) (total_pairs f g ks fs gs)
      ∙ swap_middle o valid unit l (f k) (g k) (total o (map f ks)) (total o (map g ks)) vf vg
      (valid_total (map f ks) (All-map valid f ks fs)) (valid_total (map g ks) (All-map valid g ks gs))
      ∙ sym (λ i. o.sum (total_cons (f k) (map f ks) vf (All-map valid f ks fs) i)
      (total_cons (g k) (map g ks) vg (All-map valid g ks gs) i))

  -- what goes over sums of two, goes over sums of lists
  pub total_mapped : (h : V → V) → ((x : V) → valid x → valid (h x)) → h o.zero ≡ o.zero
      → ((x y : V) → valid x → valid y → h (o.sum x y) ≡ o.sum (h x) (h y))
      → (xs : List V) → All valid xs → total o (map h xs) ≡ h (total o xs)
  total_mapped h kept zero over [] v = sym zero
  total_mapped h kept zero over (x ∷ xs) v =
      let vx = All-head valid x xs v in
      let rest = All-tail valid x xs v in
      total_cons (h x) (map h xs) (kept x vx) (kept_map h kept xs rest)
      ∙ ap (λ t. o.sum (h x) t) (total_mapped h kept zero over xs rest)
      ∙ sym (over x (total o xs) vx (valid_total xs rest))
      ∙ ap h (sym (total_cons x xs vx rest))

  pub total_negatives : (xs : List V) → All valid xs → total o (map o.negative xs) ≡ o.negative (total o xs)
  total_negatives xs v =
      total_mapped o.negative l.valid_negative (negative_zero o valid unit l) (negative_sum o valid unit l) xs v

  pub total_multiples : (a : V) (xs : List V) → valid a → All valid xs
      → total o (map (o.product a) xs) ≡ o.product a (total o xs)
  total_multiples a xs va v =
      total_mapped (o.product a) (λ x vx. l.valid_product a x va vx) (product_zero o valid unit l a va)
      (λ x y vx vy. l.product_sum a x y va vx vy) xs v

  pub sums_regroup : SumsRegroup V o valid
  sums_regroup = record {
    four = swap_middle o valid unit l;
    validity = valid_total;
    start = total_start;
    append = total_append;
    middle = total_middle;
    pairs = λ ps v. total_pairs (λ p. p.0) (λ p. p.1) ps (λ k d b. (v k d b).0) (λ k d b. (v k d b).1);
    negatives = total_negatives;
    multiples = total_multiples;
  }
