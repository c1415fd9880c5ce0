-- The order of kinds, by the highest that stood before, and their counts.
use Rattle.std.proofs.Common.{◌≡◌, ◌<◌, ◌≤◌, ◌+◌, ℕ, List, [], ◌∷◌, ◌++◌, length, get_or, drop, refl, ap, ◌∙◌, arith}
use Rattle.std.specs.Prelude.{map, max, not, Bool, true, false, ◌||◌, if◌then◌else◌, nat_lt, nat_le, Option}
use Rattle.std.specs.List.{list_any}
use Rattle.std.proofs.lemmas.Bool.Decides.{nat_tests}
use Rattle.std.proofs.Math.ListN.{drop_of_length-le}
use Rattle.c_tree.specs.declared.table.ParamKind.{ParamKind}
use Rattle.c_tree.specs.Raw as raw
use Rattle.c_tree.specs.rules.Tables.{kinds_in_order, rank}
use Rattle.c_raw.specs.Views.{param_view}
use Rattle.c_raw.specs.declared.table.RawParam.{RawParam}
use Rattle.c_form.specs.Blames.{Blames}
use Rattle.c_raw.proofs.Elements.{next-is}
use Rattle.c_form.proofs.Blaming.{◌▸◌, blames_none}

-- the highest rank
abbrev pub highest_of : List ParamKind → ℕ
highest_of [] = 0
highest_of (kind ∷ kinds) = max (highest_of kinds) (rank kind)

one_more : (r x t : ℕ) (b : Bool) → b ≡ not (nat_le t r) → (nat_lt r x || b) ≡ not (nat_le (max t x) r)
one_more r x t b e = rw e (by_tests r x t)
  where
    by_tests : (r x t : ℕ) → (nat_lt r x || not (nat_le t r)) ≡ not (nat_le (max t x) r)
    by_tests r x t = grind (arith, nat_tests)

any_above : (r : ℕ) (kinds : List ParamKind) → list_any (λ kind. nat_lt r (rank kind)) kinds ≡ not (nat_le (highest_of kinds) r)
any_above r [] = grind (arith, nat_tests)
any_above r (kind ∷ kinds) = one_more r (rank kind) (highest_of kinds) _ (any_above r kinds)

-- the same order by the highest rank so far
abbrev pub kinds_above : ℕ → List raw.RawParam → List ℕ
kinds_above highest [] = []
kinds_above highest (p ∷ rest) =
    (if nat_le highest (rank p.kind.value) then [] else p.kind.at ∷ []) ++ kinds_above (max highest (rank p.kind.value)) rest

turned : (b c : Bool) (at : ℕ) → b ≡ not c → (if b then at ∷ [] else []) ≡ (if c then [] else at ∷ [])
turned true true at e = cc e
turned true false at e = refl
turned false true at e = refl
turned false false at e = cc e

pub kinds-above : (before : List ParamKind) (params : List raw.RawParam) → kinds_in_order before params ≡ kinds_above (highest_of before) params
kinds-above before [] = refl
kinds-above before (p ∷ rest) =
    ap (λ l. l ++ kinds_in_order (p.kind.value ∷ before) rest) (turned _ _ p.kind.at (any_above (rank p.kind.value) before))
    ∙ ap (λ l. (if nat_le (highest_of before) (rank p.kind.value) then [] else p.kind.at ∷ []) ++ l) (kinds-above (p.kind.value ∷ before) rest)

pub kind-step : (old mid new : Option ℕ) (params : List RawParam) (i highest place top : ℕ) (param : RawParam) → i < length params
    → param ≡ get_or params i param → place ≡ rank (raw.At.value (raw.RawParam.kind (param_view param))) → top ≡ max highest place
    → Blames old mid (if nat_le highest place then [] else (raw.At.at (raw.RawParam.kind (param_view param))) ∷ [])
    → Blames mid new (kinds_above top (map param_view (drop (i + 1) params))) → Blames old new (kinds_above highest (map param_view (drop i params)))
kind-step old mid new params i highest place top param h is e f a b = rw (next-is params i param h is, ← e, ← f) (a ▸ b)

pub kinds-end : (old : Option ℕ) (params : List RawParam) (i highest : ℕ) → length params ≤ i → Blames old old (kinds_above highest (map param_view (drop i params)))
kinds-end old params i highest h = rw (drop_of_length-le params h) (blames_none old)
