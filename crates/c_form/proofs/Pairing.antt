-- Descriptors and modules, one by one.
use Rattle.std.proofs.Common.{◌≡◌, ◌<◌, ◌≤◌, ◌+◌, ℕ, zero, suc, List, [], ◌∷◌, ◌++◌, length, get_or, drop, drop-cons, refl, ap, sym, add-one}
use Rattle.std.specs.Prelude.{map, Option}
use Rattle.std.proofs.lemmas.List.{append-nil}
use Rattle.std.proofs.Math.ListN.{drop_of_length-le}
use Rattle.c_tree.specs.Raw as raw
use Rattle.c_tree.specs.rules.Tables.{descriptor_numbers, descriptors_agree}
use Rattle.c_raw.specs.Views.{descriptor_view, module_view}
use Rattle.c_raw.specs.declared.file.RawDescriptor.{RawDescriptor}
use Rattle.c_raw.specs.declared.file.RawModule.{RawModule}
use Rattle.c_form.specs.Blames.{Blames}
use Rattle.c_raw.proofs.Elements.{next-is}
use Rattle.c_form.proofs.Blaming.{◌▸◌, blames_none}

abbrev tail_of : {T : Type 0} → List T → List T
tail_of [] = []
tail_of (x ∷ xs) = xs

tail-first : {T : Type 0} (xs : List T) → tail_of xs ≡ drop 1 xs
tail-first [] = refl
tail-first (x ∷ xs) = refl

tail-suc : {T : Type 0} (xs : List T) (i : ℕ) → tail_of (drop i xs) ≡ drop (suc i) xs
tail-suc xs zero = tail-first xs
tail-suc [] (suc i) = refl
tail-suc (x ∷ xs) (suc i) = tail-suc xs i

tail-drop : {T : Type 0} (xs : List T) (i : ℕ) → tail_of (drop i xs) ≡ drop (i + 1) xs
tail-drop xs i = rw add-one (tail-suc xs i)

first-of : (m : raw.RawModule) (ms : List raw.RawModule) (ds : List RawDescriptor)
    → descriptors_agree (m ∷ ms) (map descriptor_view ds)
    ≡ descriptors_agree (m ∷ []) (map descriptor_view ds) ++ descriptors_agree ms (map descriptor_view (tail_of ds))
first-of m [] [] = refl
first-of m (n ∷ ms) [] = refl
first-of m ms (d ∷ ds) =
    ap (λ l. l ++ descriptors_agree ms (map descriptor_view ds)) (sym (append-nil (descriptor_numbers m (descriptor_view d))))

pub pair-step : (old mid new : Option ℕ) (ms : List RawModule) (ds : List RawDescriptor) (i : ℕ) (m : RawModule) → i < length ms → m ≡ get_or ms i m
    → Blames old mid (descriptors_agree (module_view m ∷ []) (map descriptor_view (drop i ds)))
    → Blames mid new (descriptors_agree (map module_view (drop (i + 1) ms)) (map descriptor_view (drop (i + 1) ds)))
    → Blames old new (descriptors_agree (map module_view (drop i ms)) (map descriptor_view (drop i ds)))
pair-step old mid new ms ds i m h e a b =
    rw (next-is ms i m h e, first-of (module_view m) (map module_view (drop (i + 1) ms)) (drop i ds), tail-drop ds i) (a ▸ b)

pub pair-last : (old : Option ℕ) (ms : List RawModule) (ds : List RawDescriptor) (i : ℕ) → length ms ≤ i
    → Blames old old (descriptors_agree (map module_view (drop i ms)) (map descriptor_view (drop i ds)))
pair-last old ms ds i h = rw (drop_of_length-le ms h) (by_descriptors (map descriptor_view (drop i ds)))
  where
    by_descriptors : (l : List raw.RawDescriptor) → Blames old old (descriptors_agree [] l)
    by_descriptors l = blames_none old

pub one-descriptor : (old new : Option ℕ) (m : raw.RawModule) (ds : List RawDescriptor) (i : ℕ) (d : RawDescriptor) → i < length ds
    → Blames old new (descriptor_numbers m (descriptor_view (get_or ds i d))) → Blames old new (descriptors_agree (m ∷ []) (map descriptor_view (drop i ds)))
one-descriptor old new m ds i d h a =
    let front : drop i ds ≡ get_or ds i d ∷ drop (i + 1) ds = rw add-one (drop-cons ds i d h) in
    rw front (a ▸ blames_none new)

pub no-descriptor : (old : Option ℕ) (m : raw.RawModule) (ds : List RawDescriptor) (i : ℕ) → length ds ≤ i
    → Blames old old (descriptors_agree (m ∷ []) (map descriptor_view (drop i ds)))
no-descriptor old m ds i h = rw (drop_of_length-le ds h) (blames_none old)
