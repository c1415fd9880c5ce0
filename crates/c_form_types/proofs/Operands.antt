-- Operands and arguments, part by part.
use Rattle.std.proofs.Common.{◌≡◌, ◌<◌, ◌≤◌, ◌+◌, ℕ, zero, suc, List, [], ◌∷◌, ◌++◌, length, get_or, drop, drop-cons, refl, sym, ◌∙◌, add-one}
use Rattle.std.proofs.Math.ListN.{drop_of_length-le}
use Rattle.std.specs.Prelude.{map, slice_get, Option, Some, None}
use Rattle.alg_laws.specs.declared.number.Ty.{Ty}
use Rattle.c_tree.specs.Form.{least_of}
use Rattle.c_tree.specs.Raw as raw
use Rattle.c_tree.specs.declared.body.CAtom.{CAtom}
use Rattle.c_tree.specs.rules.Types.{or_else, arguments_differ, wanted_by}
use Rattle.c_raw.specs.Blocks.{at_view}
use Rattle.c_raw.specs.declared.token.At.{At}
use Rattle.c_form.specs.Blames.{Blames, lesser}
use Rattle.c_form.proofs.Blaming.{◌▸◌, blames_none, least_first}
use Rattle.c_form.proofs.Seen.{blames_like}
use Rattle.c_form_types.specs.Places.{Place}

-- the least of some tokens is there
lesser-there : (x : ℕ) (o : Option ℕ) → lesser (Some x) o ≡ None → ⊥
lesser-there x None e = cc e
lesser-there x (Some y) e = cc e

-- where some tests blame nothing, others count
pub or-none : (xs ys : List ℕ) → least_of xs ≡ None → or_else xs ys ≡ ys
or-none [] ys e = refl
or-none (x ∷ xs) ys e = absurd (lesser-there x (least_of xs) (sym (least_first x xs) ∙ e))

-- and where they blame a token, the others don't
pub or-some : (xs ys : List ℕ) (token : ℕ) → least_of xs ≡ Some token → least_of (token ∷ []) ≡ least_of (or_else xs ys)
or-some [] ys token e = cc e
or-some (x ∷ xs) ys token e = sym e

pub blames-operands : {old new : Option ℕ} (xs ys : List ℕ) (token : ℕ) → least_of xs ≡ Some token → Blames old new (token ∷ []) → Blames old new (or_else xs ys)
blames-operands xs ys token e a = blames_like _ _ _ _ a (or-some xs ys token e)

-- the argument at a place, and those behind it
one-argument : (p : Place) (types : List Ty) (i : ℕ) (a : raw.At CAtom) (rest : List (raw.At CAtom))
    → arguments_differ p.tree p.body p.known (drop i types) (a ∷ rest)
    ≡ wanted_by p.tree p.body p.known (slice_get types i) a ++ arguments_differ p.tree p.body p.known (drop (suc i) types) rest
one-argument p [] zero a rest = refl
one-argument p [] (suc i) a rest = refl
one-argument p (ty ∷ types) zero a rest = refl
one-argument p (ty ∷ types) (suc i) a rest = one-argument p types i a rest

one-argument-on : (p : Place) (types : List Ty) (i : ℕ) (a : raw.At CAtom) (rest : List (raw.At CAtom))
    → arguments_differ p.tree p.body p.known (drop i types) (a ∷ rest)
    ≡ wanted_by p.tree p.body p.known (slice_get types i) a ++ arguments_differ p.tree p.body p.known (drop (i + 1) types) rest
one-argument-on p types i a rest = rw add-one (one-argument p types i a rest)

pub arguments-step : (p : Place) (old mid new : Option ℕ) (types : List Ty) (args : List (At CAtom)) (i : ℕ) (d : At CAtom) (found : Option Ty) → i < length args
    → found ≡ slice_get types i → Blames old mid (wanted_by p.tree p.body p.known found (at_view (get_or args i d)))
    → Blames mid new (arguments_differ p.tree p.body p.known (drop (i + 1) types) (map at_view (drop (i + 1) args)))
    → Blames old new (arguments_differ p.tree p.body p.known (drop i types) (map at_view (drop i args)))
arguments-step p old mid new types args i d found h e first more =
    let front : drop i args ≡ get_or args i d ∷ drop (i + 1) args = rw add-one (drop-cons args i d h) in
    rw (front, one-argument-on p types i (at_view (get_or args i d)) (map at_view (drop (i + 1) args)), ← e) (first ▸ more)

pub arguments-last : (p : Place) (old : Option ℕ) (types : List Ty) (args : List (At CAtom)) (i : ℕ) → length args ≤ i
    → Blames old old (arguments_differ p.tree p.body p.known (drop i types) (map at_view (drop i args)))
arguments-last p old types args i h = rw (drop_of_length-le args h) (by_types (drop i types))
  where
    by_types : (l : List Ty) → Blames old old (arguments_differ p.tree p.body p.known l [])
    by_types [] = blames_none old
    by_types (ty ∷ l) = blames_none old
