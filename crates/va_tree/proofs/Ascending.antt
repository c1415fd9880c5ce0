-- Numbers that ascend, and passages in the order of the text.
use Rattle.std.specs.Prelude.{◌≡◌, ◌≤◌, ◌<◌, ◌+◌, nat_le, ℕ, Bool, true, false, List, [], ◌∷◌, ◌++◌, flat_map, if◌then◌else◌}
use Rattle.std.proofs.Common.{refl, ap, sym, ◌∙◌, subst, arith, append_assoc}
use Rattle.std.proofs.lemmas.Bool.{leb-true, le-leb}
use Rattle.std.proofs.lemmas.Grind.{flat_map-append}
use Rattle.va_tree.specs.OrderedNames.{Ascend, Passage, passage, put_in, in_order, tokens_in}

ascend_lower : (a b : ℕ) (xs : List ℕ) (c : ℕ) → a ≤ b → Ascend b xs c → Ascend a xs c
ascend_lower a b [] c less h = omega (arith, less, h)
ascend_lower a b (x ∷ xs) c less h = (omega (arith, less, h.0), h.1)

ascend_higher : (a : ℕ) (xs : List ℕ) (b c : ℕ) → b ≤ c → Ascend a xs b → Ascend a xs c
ascend_higher a [] b c less h = omega (arith, less, h)
ascend_higher a (x ∷ xs) b c less h = (h.0, ascend_higher (x + 1) xs b c less h.1)

ascend_join : (a : ℕ) (xs : List ℕ) (b : ℕ) (ys : List ℕ) (c : ℕ) → Ascend a xs b → Ascend b ys c → Ascend a (xs ++ ys) c
ascend_join a [] b ys c h k = ascend_lower a b ys c h k
ascend_join a (x ∷ xs) b ys c h k = (h.0, ascend_join (x + 1) xs b ys c h.1 k)

ascend_spanned : (a : ℕ) (xs : List ℕ) (b : ℕ) → Ascend a xs b → a ≤ b
ascend_spanned a [] b h = h
ascend_spanned a (x ∷ xs) b h = (let k : x + 1 ≤ b = ascend_spanned (x + 1) xs b h.1 in omega (arith, h.0, k))

-- numbers from one on that stay below another
pub record Span (a : ℕ) (xs : List ℕ) (b : ℕ) : Type 0 where
  pub run : Ascend a xs b

pub none : {a b : ℕ} → a ≤ b → Span a [] b
none less = record { run = less }

pub headed : {a n b : ℕ} {xs : List ℕ} → a ≤ n → Span (n + 1) xs b → Span a (n ∷ xs) b
headed less s = record { run = (less, s.run) }

pub reach : {a b c d : ℕ} {xs : List ℕ} → Span b xs c → a ≤ b → c ≤ d → Span a xs d
reach {a} {b} {c} {d} {xs} s low high = record { run = ascend_lower a b xs d low (ascend_higher b xs c d high s.run) }

pub since : {a b c : ℕ} {xs : List ℕ} → Span b xs c → a ≤ b → Span a xs c
since s low = reach s low (omega arith)

pub upto : {a b c : ℕ} {xs : List ℕ} → Span a xs b → b ≤ c → Span a xs c
upto s high = reach s (omega arith) high

pub join : {a b c d : ℕ} {xs ys : List ℕ} → Span a xs b → Span c ys d → b ≤ c → Span a (xs ++ ys) d
join {a} {b} {c} {d} {xs} {ys} s t less = record { run = ascend_join a xs b ys d s.run (ascend_lower b c ys d less t.run) }

pub spanned : {a b : ℕ} {xs : List ℕ} → Span a xs b → a ≤ b
spanned {a} {b} {xs} s = ascend_spanned a xs b s.run

pub same_span : {a b : ℕ} {xs ys : List ℕ} → xs ≡ ys → Span a ys b → Span a xs b
same_span {a} {b} e s = subst (λ (l : List ℕ). Span a l b) (sym e) s

-- what is in two lists, one after the other
pub each_join : {X : Type 0} {a b c d : ℕ} (f : X → List ℕ) (xs ys : List X) → Span a (flat_map f xs) b → Span c (flat_map f ys) d → b ≤ c → Span a (flat_map f (xs ++ ys)) d
each_join f xs ys s t less = same_span (flat_map-append f xs ys) (join s t less)

-- what is in a list of one
pub one : {a b : ℕ} {xs : List ℕ} → Span a xs b → Span a (xs ++ []) b
one {a} {b} s = join s (none {a = b} {b = b} (omega arith)) (omega arith)

-- no passage stands before a token
abbrev pub From : ℕ → List Passage → Type 0
From a [] = Unit {0}
From a (p ∷ ps) = (a ≤ p.at) × From a ps

from_lower : (a b : ℕ) (ps : List Passage) → a ≤ b → From b ps → From a ps
from_lower a b [] less h = tt
from_lower a b (p ∷ ps) less h = (omega (arith, less, h.0), from_lower a b ps less h.1)

from_join : (a : ℕ) (ps qs : List Passage) → From a ps → From a qs → From a (ps ++ qs)
from_join a [] qs h k = k
from_join a (p ∷ ps) qs h k = (h.0, from_join a ps qs h.1 k)

from_either : (a : ℕ) (t : Bool) (ps qs : List Passage) → From a ps → From a qs → From a (if t then ps else qs)
from_either a true ps qs h k = h
from_either a false ps qs h k = k

from_put : (a : ℕ) (p : Passage) (ps : List Passage) → a ≤ p.at → From a ps → From a (put_in p ps)
from_put a p [] less h = (less, tt)
from_put a p (q ∷ qs) less h = from_either a (nat_le p.at q.at) (p ∷ q ∷ qs) (q ∷ put_in p qs) (less, h) (h.0, from_put a p qs less h.1)

from_order : (a : ℕ) (ps : List Passage) → From a ps → From a (in_order ps)
from_order a [] h = tt
from_order a (p ∷ ps) h = from_put a p (in_order ps) h.0 (from_order a ps h.1)

-- a passage that stands before all others comes first
put_first : (p : Passage) (ps : List Passage) → From p.at ps → put_in p ps ≡ p ∷ ps
put_first p [] h = refl
put_first p (q ∷ qs) h = (let e : nat_le p.at q.at ≡ true = le-leb p.at q.at h.0 in λ j. if e j then p ∷ q ∷ qs else q ∷ put_in p qs)

not_before : (a b : ℕ) (t : Bool) → nat_le a b ≡ t → b < a → nat_le a b ≡ false
not_before a b true e less = absurd (let l : a ≤ b = leb-true a b e in let n : ⊥ = omega (arith, l, less) in n)
not_before a b false e less = e

put_later : (q p : Passage) (ps : List Passage) → p.at < q.at → put_in q (p ∷ ps) ≡ p ∷ put_in q ps
put_later q p ps less = (let e : nat_le q.at p.at ≡ false = not_before q.at p.at (nat_le q.at p.at) refl less in λ j. if e j then q ∷ p ∷ ps else p ∷ put_in q ps)

order_middle : (xs : List Passage) (p : Passage) (ys : List Passage) → From (p.at + 1) xs → From p.at ys → in_order (xs ++ p ∷ ys) ≡ p ∷ in_order (xs ++ ys)
order_middle [] p ys h k = put_first p (in_order ys) (from_order p.at ys k)
order_middle (x ∷ xs) p ys h k = ap (put_in x) (order_middle xs p ys h.1 k) ∙ put_later x p (in_order (xs ++ ys)) (omega (arith, h.0))

-- Passages of two sorts between two tokens, in the order of the text.
pub record Passages (a : ℕ) (xs ys : List Passage) (b : ℕ) : Type 0 where
  pub span : Span a (tokens_in (in_order (xs ++ ys))) b
  pub first_from : From a xs
  pub second_from : From a ys

pub no_passages : {a b : ℕ} → a ≤ b → Passages a [] [] b
no_passages less = record { span = none less; first_from = tt; second_from = tt }

pub passages_reach : {a b c d : ℕ} {xs ys : List Passage} → Passages b xs ys c → a ≤ b → c ≤ d → Passages a xs ys d
passages_reach {a} {b} {c} {d} {xs} {ys} p low high = record {
  span = reach p.span low high;
  first_from = from_lower a b xs low p.first_from;
  second_from = from_lower a b ys low p.second_from;
}

-- one more of the first sort, before all others
pub first_passage : {a b c d : ℕ} (at : ℕ) (tokens : List ℕ) {xs ys : List Passage} → Span a tokens b → Passages c xs ys d → a ≤ at → at < b → b ≤ c → Passages a (passage at tokens ∷ xs) ys d
first_passage {a} {b} {c} {d} at tokens {xs} {ys} s p low inside less =
    let before : at ≤ c = omega (arith, inside, less) in
    let here : From at xs = from_lower at c xs before p.first_from in
    let there : From at ys = from_lower at c ys before p.second_from in
    let all : in_order (passage at tokens ∷ xs ++ ys) ≡ passage at tokens ∷ in_order (xs ++ ys) = put_first (passage at tokens) (in_order (xs ++ ys)) (from_order at (xs ++ ys) (from_join at xs ys here there)) in
    record {
      span = same_span (ap tokens_in all) (join s p.span less);
      first_from = (low, from_lower a at xs low here);
      second_from = from_lower a at ys low there;
    }

-- one more of the second sort, before all others
pub second_passage : {a b c d : ℕ} (at : ℕ) (tokens : List ℕ) {xs ys : List Passage} → Span a tokens b → Passages c xs ys d → a ≤ at → at < b → b ≤ c → Passages a xs (passage at tokens ∷ ys) d
second_passage {a} {b} {c} {d} at tokens {xs} {ys} s p low inside less =
    let behind : at + 1 ≤ c = omega (arith, inside, less) in
    let before : at ≤ c = omega (arith, behind) in
    let all : in_order (xs ++ passage at tokens ∷ ys) ≡ passage at tokens ∷ in_order (xs ++ ys) = order_middle xs (passage at tokens) ys (from_lower (at + 1) c xs behind p.first_from) (from_lower at c ys before p.second_from) in
    record {
      span = same_span (ap tokens_in all) (join s p.span less);
      first_from = from_lower a c xs (omega (arith, low, before)) p.first_from;
      second_from = (low, from_lower a c ys (omega (arith, low, before)) p.second_from);
    }

from_left : (a : ℕ) (ps qs : List Passage) → From a (ps ++ qs) → From a ps
from_left a [] qs h = tt
from_left a (p ∷ ps) qs h = (h.0, from_left a ps qs h.1)

from_right : (a : ℕ) (ps qs : List Passage) → From a (ps ++ qs) → From a qs
from_right a [] qs h = h
from_right a (p ∷ ps) qs h = from_right a ps qs h.1

-- one more in the middle of the first sort, before all others
pub middle_passage : {a b c d : ℕ} (at : ℕ) (tokens : List ℕ) (xs zs ys : List Passage) → Span a tokens b → Passages c (xs ++ zs) ys d → a ≤ at → at < b → b ≤ c → Passages a (xs ++ passage at tokens ∷ zs) ys d
middle_passage {a} {b} {c} {d} at tokens xs zs ys s p low inside less =
    let p_here : Passage = passage at tokens in
    let behind : at + 1 ≤ c = omega (arith, inside, less) in
    let before : at ≤ c = omega (arith, behind) in
    let start : a ≤ c = omega (arith, low, before) in
    let xs_from : From c xs = from_left c xs zs p.first_from in
    let zs_from : From c zs = from_right c xs zs p.first_from in
    let whole : (xs ++ p_here ∷ zs) ++ ys ≡ xs ++ p_here ∷ (zs ++ ys) = append_assoc xs (p_here ∷ zs) ys in
    let all : in_order (xs ++ p_here ∷ (zs ++ ys)) ≡ p_here ∷ in_order (xs ++ (zs ++ ys)) = order_middle xs p_here (zs ++ ys) (from_lower (at + 1) c xs behind xs_from) (from_join at zs ys (from_lower at c zs before zs_from) (from_lower at c ys before p.second_from)) in
    let rest : in_order (xs ++ (zs ++ ys)) ≡ in_order ((xs ++ zs) ++ ys) = ap in_order (sym (append_assoc xs zs ys)) in
    let ordered : in_order ((xs ++ p_here ∷ zs) ++ ys) ≡ p_here ∷ in_order ((xs ++ zs) ++ ys) = ap in_order whole ∙ all ∙ ap (λ (l : List Passage). p_here ∷ l) rest in
    record {
      span = same_span (ap tokens_in ordered) (join s p.span less);
      first_from = from_join a xs (p_here ∷ zs) (from_lower a c xs start xs_from) (low, from_lower a c zs start zs_from);
      second_from = from_lower a c ys start p.second_from;
    }
