-- Sums of lists of values, as contributions to a branch or to a row are added up (Contribution statements).
use Rattle.std.specs.Prelude.{◌≡◌, List, ◌∷◌, ◌++◌, map, fold, All}
use Rattle.alg_laws.specs.Operations.{Operations}

-- The values of a list, added up from the first to the last, beginning with 0.
abbrev pub total : {V : Type 0} → Operations V → List V → V
total o xs = fold o.sum o.zero xs

-- In what ways a sum of a list can be regrouped.
pub record SumsRegroup (V : Type 0) (o : Operations V) (valid : V → Type 0) : Type 0 where
  pub four : (a b c d : V) → valid a → valid b → valid c → valid d
      → o.sum (o.sum a b) (o.sum c d) ≡ o.sum (o.sum a c) (o.sum b d)
  pub validity : (xs : List V) → All valid xs → valid (total o xs)
  pub start : (a : V) (xs : List V) → valid a → All valid xs → fold o.sum a xs ≡ o.sum a (total o xs)
  pub append : (xs ys : List V) → All valid xs → All valid ys → total o (xs ++ ys) ≡ o.sum (total o xs) (total o ys)
  pub middle : (xs ys : List V) (x : V) → All valid xs → All valid ys → valid x
      → total o (xs ++ x ∷ ys) ≡ total o (x ∷ (xs ++ ys))
  pub pairs : (ps : List (V × V)) → All (λ p. valid p.0 × valid p.1) ps
      → total o (map (λ p. o.sum p.0 p.1) ps) ≡ o.sum (total o (map (λ p. p.0) ps)) (total o (map (λ p. p.1) ps))
  pub negatives : (xs : List V) → All valid xs → total o (map o.negative xs) ≡ o.negative (total o xs)
  pub multiples : (a : V) (xs : List V) → valid a → All valid xs → total o (map (o.product a) xs) ≡ o.product a (total o xs)
