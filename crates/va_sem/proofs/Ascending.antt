-- Things in the order of their tokens ascend.
use Rattle.std.specs.Prelude.{◌≡◌, ◌≤◌, ◌<◌, ◌⊎◌, nat_le, ℕ, zero, suc, Bool, true, false, List, [], ◌∷◌, ◌++◌, map, flat_map, length, get_or, Some, if◌then◌else◌}
use Rattle.std.specs.List.{enumerate_from}
use Rattle.std.specs.List.Sorted.{IsNonDecreasingBy}
use Rattle.std.proofs.Common.{refl, sym, ◌∙◌, arith, inl, inr}
use Rattle.std.proofs.lemmas.Bool.{leb-true, le-leb, cases_lt, false≢true}
use Rattle.va_tree.specs.declared.module.Module.{Module}
use Rattle.va_sem.specs.declared.names.ModuleNames.{ModuleNames}
use Rattle.va_sem.specs.declared.names.NameUse.{NameUse}
use Rattle.va_sem.specs.TextOrder.{put_in, in_text_order}
use Rattle.va_sem.specs.declared.names.Meaning.TheVariants as means
use Rattle.va_sem.specs.Sites.{Site}
use Rattle.va_sem.specs.Meanings.{names_of_module, known_of, use_at, meaning_of, nature_uses, discipline_uses}
use Rattle.va_sem.specs.MeaningsLaws.{IsInTextOrder, UsesAreInTextOrder}

module _ {X : Type 0} (n : X → ℕ) where
  -- no element is below a number
  abbrev pub From : ℕ → List X → Type 0
  From b [] = Unit {0}
  From b (x ∷ xs) = (b ≤ n x) × From b xs

  abbrev pub Ascends : List X → Type 0
  Ascends [] = Unit {0}
  Ascends (x ∷ xs) = From (n x) xs × Ascends xs

  from_lower : (b c : ℕ) (xs : List X) → c ≤ b → From b xs → From c xs
  from_lower b c [] less h = h
  from_lower b c (x ∷ xs) less h = (omega (arith, less, h.0), from_lower b c xs less h.1)

  from_either : (b : ℕ) (t : Bool) (xs ys : List X) → From b xs → From b ys → From b (if t then xs else ys)
  from_either b true xs ys h k = h
  from_either b false xs ys h k = k

  from_put : (b : ℕ) (x : X) (xs : List X) → b ≤ n x → From b xs → From b (put_in n x xs)
  from_put b x [] less h = (less, tt)
  from_put b x (y ∷ rest) less h =
      from_either b (nat_le (n x) (n y)) (x ∷ y ∷ rest) (y ∷ put_in n x rest) (less, (h.0, h.1)) (h.0, from_put b x rest less h.1)

  not_below : (x y : X) → nat_le (n x) (n y) ≡ false → (n y < n x) ⊎ (n x ≤ n y) → n y ≤ n x
  not_below x y q (inl h) = omega (arith, h)
  not_below x y q (inr h) = absurd (false≢true (sym q ∙ le-leb (n x) (n y) h))

  chosen : (x y : X) (rest : List X) (t : Bool) → nat_le (n x) (n y) ≡ t → From (n y) rest → Ascends rest → Ascends (put_in n x rest) → Ascends (if t then x ∷ y ∷ rest else y ∷ put_in n x rest)
  chosen x y rest true q above up put =
      let less : n x ≤ n y = leb-true (n x) (n y) q in
      ((less, from_lower (n y) (n x) rest less above), (above, up))
  chosen x y rest false q above up put = (from_put (n y) x rest (not_below x y q (cases_lt (n y) (n x))) above, put)

  ascends_put : (x : X) (xs : List X) → Ascends xs → Ascends (put_in n x xs)
  ascends_put x [] up = (tt, tt)
  ascends_put x (y ∷ rest) up = chosen x y rest (nat_le (n x) (n y)) refl up.0 up.1 (ascends_put x rest up.1)

  pub ascends : (xs : List X) → Ascends (in_text_order n xs)
  ascends [] = tt
  ascends (x ∷ xs) = ascends_put x (in_text_order n xs) (ascends xs)

  from_each : (b : ℕ) (xs : List X) → From b xs → (k : ℕ) (d : X) → k < length xs → b ≤ n (get_or xs k d)
  from_each b [] h k d within = absurd (omega (arith, within))
  from_each b (x ∷ xs) h zero d within = h.0
  from_each b (x ∷ xs) h (suc k) d within = from_each b xs h.1 k d (omega (arith, within))

  non_decreasing : (xs : List X) → Ascends xs → IsNonDecreasingBy n xs
  non_decreasing [] up i j d order within = absurd (omega (arith, within))
  non_decreasing (x ∷ xs) up zero zero d order within = omega arith
  non_decreasing (x ∷ xs) up zero (suc j) d order within = from_each (n x) xs up.0 j d (omega (arith, within))
  non_decreasing (x ∷ xs) up (suc i) zero d order within = absurd (omega (arith, order))
  non_decreasing (x ∷ xs) up (suc i) (suc j) d order within = non_decreasing xs up.1 i j d (omega (arith, order)) (omega (arith, within))

  pub ordered : (xs : List X) → IsNonDecreasingBy n (in_text_order n xs)
  ordered xs = non_decreasing (in_text_order n xs) (ascends xs)

-- each element of a list that is made of another by a function
made : {X Y : Type 0} (P : Y → Type 0) (f : X → Y) → ((x : X) → P (f x)) → (xs : List X) (k : ℕ) (d : Y) → k < length (map f xs) → P (get_or (map f xs) k d)
made P f h [] k d within = absurd (omega (arith, within))
made P f h (x ∷ xs) zero d within = h x
made P f h (x ∷ xs) (suc k) d within = made P f h xs k d (omega (arith, within))

pub uses_in_text_order : UsesAreInTextOrder
uses_in_text_order = record {
  outside_modules = λ s.
      ordered (λ (u : NameUse). u.at) (flat_map (nature_uses s) s.natures ++ flat_map (discipline_uses s) s.disciplines);
  in_modules = λ s.
      made (λ (m : ModuleNames). IsInTextOrder m.uses) (λ (e : ℕ × Module). names_of_module s e.0 e.1)
      (λ e.
      ordered (λ (u : NameUse). u.at)
      (use_at e.1.at (Some (means.Module e.0)) ++ flat_map (λ (site : Site). use_at site.at (meaning_of (known_of s e.1) site)) (known_of s e.1).sites))
      (enumerate_from 0 s.modules);
}
