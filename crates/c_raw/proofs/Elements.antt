-- The elements of a list from a place on.
use Rattle.std.proofs.Common.{◌≡◌, ◌<◌, ◌+◌, ℕ, suc, List, ◌∷◌, length, get_or, drop, drop-cons, ap, sym, add-one}

-- the element at a place, and those behind it
pub next-is : {T : Type 0} (elements : List T) (i : ℕ) (element : T) → i < length elements → element ≡ get_or elements i element
    → drop i elements ≡ element ∷ drop (i + 1) elements
next-is elements i element h e = rw (add-one, drop-cons elements i element h) (ap (λ t. t ∷ drop (suc i) elements) (sym e))
