-- The first of the faults of size.
use Rattle.std.specs.Prelude.{◌≡◌, ◌<◌, ◌≤◌, ◌⊎◌, ℕ, min, Bool, true, false, nat_lt, nat_eq, if◌then◌else◌, List, [], ◌∷◌, Option, Some, None, refl, map, slice_get, Contains, Result, Ok}
use Rattle.std.specs.Option.{option_map}
use Rattle.std.proofs.Common.{ap, sym, ◌∙◌, subst, arith, inl, inr, ltb-true, ltb-false, eqb-true}
use Rattle.std.proofs.lemmas.Bool.Decides.{nat_tests}
use Rattle.std.proofs.lemmas.List.Elements.{Contains-append_left, Contains-append_right, Contains-append_cases, Contains-push, Contains-push_cases}
use Rattle.std.proofs.lemmas.Option.{slice_get-map}
use Rattle.va_base.specs.declared.expanded.Expanded.{Expanded}
use Rattle.va_base.specs.declared.fault.Fault.{Fault}
use Rattle.va_base.specs.declared.fault.FaultCode.{FaultCode}
use Rattle.va_base.specs.declared.fault.FaultCode.TheVariants.{TooDeep, TooLong, ModulesMany}
use Rattle.va_base.specs.declared.memory.NoMemory.{NoMemory}
use Rattle.va_base.specs.declared.token.Token.{Token}
use Rattle.va_base.specs.Expansion.{token_bytes}
use Rattle.va_base.specs.Faults.{rank_of_phase, number_of_code}
use Rattle.va_build.specs.SizeDeep.{earlier, if_deep, first_deep}
use Rattle.va_build.specs.SizeFaults.{is_long_token, IsLong, IsFirst, first_of, sooner, earliest, IsFaultAt}
use Rattle.va_build.specs.SizeRows.{name_index}
use Rattle.va_build.specs.declared.size.Standing.{Standing}
use Rattle.va_tree.specs.Nodes.{Node, node, nodes_of_source}
use Rattle.va_tree.specs.Size.{counted_len, SizeFault, too_deep, too_long, modules_many, LeastSizeFault, IsWithinSize}
use Rattle.va_tree.specs.declared.module.Module.{Module}
use Rattle.va_tree.specs.declared.source.Source.{Source}

-- which of two numbers is lower
lower : (m n : ℕ) → (m < n) ⊎ (n ≤ m)
lower m n = told (nat_lt m n) refl
  where
    told : (b : Bool) → nat_lt m n ≡ b → (m < n) ⊎ (n ≤ m)
    told true h = inl (ltb-true m n h)
    told false h = inr (ltb-false m n h)

pub first_as : (P Q : ℕ → Type 0) (r : Option ℕ) → ((i : ℕ) → P i → Q i) → ((i : ℕ) → Q i → P i) → IsFirst P r → IsFirst Q r
first_as P Q None f g h = λ i q. h i (g i q)
first_as P Q (Some i) f g h = (f i h.0, λ j q. h.1 j (g j q))

first_both : (P Q : ℕ → Type 0) (a b : Option ℕ) → IsFirst P a → IsFirst Q b → IsFirst (λ i. P i ⊎ Q i) (earlier a b)
first_both P Q None None h k = λ i s. elim s [ inl p ↦ h i p | inr q ↦ k i q ]
first_both P Q None (Some b) h k = (inr k.0, λ j s. elim s [ inl p ↦ absurd (h j p) | inr q ↦ k.1 j q ])
first_both P Q (Some a) None h k = (inl h.0, λ j s. elim s [ inl p ↦ h.1 j p | inr q ↦ absurd (k j q) ])
first_both P Q (Some a) (Some b) h k = (
  elim (lower a b) [
    | inl l ↦ let e : a ≡ min a b = omega (arith, l) in inl (subst P e h.0)
    | inr l ↦ let e : b ≡ min a b = omega (arith, l) in inr (subst Q e k.0)
  ],
  λ j s. elim s [ inl p ↦ omega (arith, h.1 j p) | inr q ↦ omega (arith, k.1 j q) ],
)

-- one node
one_first : (n : Node) → IsFirst (λ at. n ≡ node at 501) (if_deep n.at n.depth)
one_first n = told (nat_eq n.depth 501) refl
  where
    told : (b : Bool) → nat_eq n.depth 501 ≡ b → IsFirst (λ at. n ≡ node at 501) (if b then Some n.at else None)
    told true h = (ap (node n.at) (eqb-true n.depth 501 h), λ j e. let same : n.at ≡ j = ap (λ (m : Node). m.at) e in omega (arith, same))
    told false h = λ i e. let same : n.depth ≡ 501 = ap (λ (m : Node). m.depth) e in grind (arith, nat_tests, same, h)

-- the lowest index of a node of depth 501
pub deep_first : (ns : List Node) → IsFirst (λ at. Contains ns (node at 501)) (first_deep ns)
deep_first [] = λ i h. omega (arith, h.1)
deep_first (n ∷ ns) =
    first_as (λ at. (n ≡ node at 501) ⊎ Contains ns (node at 501)) (λ at. Contains (n ∷ ns) (node at 501)) _
    (λ i s. elim s [ inl e ↦ Contains-append_left (n ∷ []) ns (node i 501) (subst (λ m. Contains (m ∷ []) (node i 501)) (sym e) (Contains-push [] (node i 501))) | inr c ↦ Contains-append_right (n ∷ []) ns (node i 501) c ])
    (λ i c. elim (Contains-append_cases (n ∷ []) ns (node i 501) c) [ inl d ↦ elim (Contains-push_cases [] n (node i 501) d) [ inl f ↦ absurd (omega (arith, f.1)) | inr e ↦ inl e ] | inr d ↦ inr d ])
    (first_both (λ at. n ≡ node at 501) (λ at. Contains ns (node at 501)) (if_deep n.at n.depth) (first_deep ns) (one_first n) (deep_first ns))

-- the name of the 65th module
abbrev NamesExtra : Option Module → ℕ → Type 0
NamesExtra o at = (m : Module) × (o ≡ Some m) × (m.at ≡ at)

same_module : (m m' : Module) → Some m ≡ Some m' → m ≡ m'
same_module m m' e = cc

extra_first : (o : Option Module) → IsFirst (NamesExtra o) (option_map name_index o)
extra_first None = λ i h. cc (h.1)
extra_first (Some m) = ((m, refl, refl), λ j h. let same : m.at ≡ h.0.at = ap name_index (same_module m h.0 h.1) in omega (arith, same, h.2))

-- a fault that does not come after another
abbrev NotBefore : Standing → ℕ → FaultCode → Type 0
NotBefore f at code = (f.at < at) ⊎ ((f.at ≡ at) × (number_of_code f.code ≤ number_of_code code))

-- the first of some faults
abbrev IsLeastOf : (ℕ → FaultCode → Type 0) → Option Standing → Type 0
IsLeastOf Q None = (at : ℕ) (code : FaultCode) → Q at code → ⊥
IsLeastOf Q (Some f) = Q f.at f.code × ((at : ℕ) (code : FaultCode) → Q at code → NotBefore f at code)

equal_or_lower : (m n : ℕ) → m ≤ n → (m < n) ⊎ (m ≡ n)
equal_or_lower m n h = elim (lower m n) [ inl l ↦ inl l | inr l ↦ inr (omega (arith, h, l)) ]

of_code : (P : ℕ → Type 0) (code : FaultCode) (r : Option ℕ) → IsFirst P r → IsLeastOf (λ at c. (c ≡ code) × P at) (first_of code r)
of_code P code None h = λ at c q. h at q.1
of_code P code (Some i) h = ((refl, h.0), λ at c q. elim (equal_or_lower i at (h.1 at q.1)) [ inl l ↦ inl l | inr e ↦ let same : number_of_code c ≡ number_of_code code = ap number_of_code q.0 in inr (e, omega (arith, same)) ])

sooner_least : (Q R : ℕ → FaultCode → Type 0) (a b : Option Standing) → ((at at' : ℕ) (code code' : FaultCode) → Q at code → R at' code' → number_of_code code ≤ number_of_code code') → IsLeastOf Q a → IsLeastOf R b → IsLeastOf (λ at code. Q at code ⊎ R at code) (sooner a b)
sooner_least Q R None None o h k = λ at code s. elim s [ inl q ↦ h at code q | inr r ↦ k at code r ]
sooner_least Q R None (Some b) o h k = (inr k.0, λ at code s. elim s [ inl q ↦ absurd (h at code q) | inr r ↦ k.1 at code r ])
sooner_least Q R (Some a) None o h k = (inl h.0, λ at code s. elim s [ inl q ↦ h.1 at code q | inr r ↦ absurd (k at code r) ])
sooner_least Q R (Some a) (Some b) o h k = told (nat_lt b.at a.at) refl
  where
    second : b.at < a.at → IsLeastOf (λ at code. Q at code ⊎ R at code) (Some b)
    second l = (
      inr k.0,
      λ at code s. elim s [
        | inl q ↦ elim (h.1 at code q) [ inl m ↦ inl (omega (arith, l, m)) | inr m ↦ inl (omega (arith, l, m.0)) ]
        | inr r ↦ k.1 at code r
      ],
    )

    first : a.at ≤ b.at → IsLeastOf (λ at code. Q at code ⊎ R at code) (Some a)
    first l = (
      inl h.0,
      λ at code s. elim s [
        | inl q ↦ h.1 at code q
        | inr r ↦ elim (k.1 at code r) [ inl m ↦ inl (omega (arith, l, m)) | inr m ↦ elim (equal_or_lower a.at b.at l) [ inl n ↦ inl (omega (arith, n, m.0)) | inr e ↦ inr (omega (arith, e, m.0), o a.at at a.code code h.0 r) ] ]
      ],
    )

    told : (c : Bool) → nat_lt b.at a.at ≡ c → IsLeastOf (λ at code. Q at code ⊎ R at code) (if c then Some b else Some a)
    told true l = second (ltb-true b.at a.at l)
    told false l = first (ltb-false b.at a.at l)

-- the three kinds of faults
abbrev IsDeep : Source → ℕ → FaultCode → Type 0
IsDeep s at code = (code ≡ TooDeep) × Contains (nodes_of_source s) (node at 501)

abbrev IsTooLong : Expanded → ℕ → FaultCode → Type 0
IsTooLong e at code = (code ≡ TooLong) × IsLong e at

abbrev IsExtra : Source → ℕ → FaultCode → Type 0
IsExtra s at code = (code ≡ ModulesMany) × NamesExtra (slice_get s.modules 64) at

abbrev OfThree : Expanded → Source → ℕ → FaultCode → Type 0
OfThree e s at code = IsDeep s at code ⊎ (IsTooLong e at code ⊎ IsExtra s at code)

three_least : (e : Expanded) (s : Source) (deep long extra : Option ℕ) → deep ≡ first_deep (nodes_of_source s) → IsFirst (IsLong e) long → extra ≡ slice_get (map name_index s.modules) 64 → IsLeastOf (OfThree e s) (earliest deep long extra)
three_least e s deep long extra d l x =
    let deepest : IsFirst (λ at. Contains (nodes_of_source s) (node at 501)) deep = subst (IsFirst (λ at. Contains (nodes_of_source s) (node at 501))) (sym d) (deep_first (nodes_of_source s)) in
    let names : IsFirst (NamesExtra (slice_get s.modules 64)) extra = subst (IsFirst (NamesExtra (slice_get s.modules 64))) (sym (x ∙ slice_get-map name_index s.modules 64)) (extra_first (slice_get s.modules 64)) in
    sooner_least (IsDeep s) (λ at code. IsTooLong e at code ⊎ IsExtra s at code) (first_of TooDeep deep) (sooner (first_of TooLong long) (first_of ModulesMany extra))
    (λ at at' code code' q r.
    let a : number_of_code code ≡ 13 = ap number_of_code q.0 in
    elim r [ inl t ↦ (let b : number_of_code code' ≡ 14 = ap number_of_code t.0 in omega (arith, a, b)) | inr t ↦ (let b : number_of_code code' ≡ 15 = ap number_of_code t.0 in omega (arith, a, b)) ])
    (of_code (λ at. Contains (nodes_of_source s) (node at 501)) TooDeep deep deepest)
    (sooner_least (IsTooLong e) (IsExtra s) (first_of TooLong long) (first_of ModulesMany extra)
    (λ at at' code code' q r. let a : number_of_code code ≡ 14 = ap number_of_code q.0 in let b : number_of_code code' ≡ 15 = ap number_of_code r.0 in omega (arith, a, b))
    (of_code (IsLong e) TooLong long l)
    (of_code (NamesExtra (slice_get s.modules 64)) ModulesMany extra names))

-- a token that is too long
long_there : (e : Expanded) (o : Option Token) → is_long_token e o ≡ true → (token : Token) × (o ≡ Some token) × (1024 < counted_len token.kind (token_bytes e.files token))
long_there e None h = cc
long_there e (Some token) h = (token, refl, ltb-true 1024 _ h)

long_told : (e : Expanded) (o : Option Token) (token : Token) → o ≡ Some token → 1024 < counted_len token.kind (token_bytes e.files token) → is_long_token e o ≡ true
long_told e o token is h = subst (λ (p : Option Token). is_long_token e p ≡ true) (sym is) (grind (arith, nat_tests, h))

to_fault : (e : Expanded) (s : Source) (at : ℕ) (code : FaultCode) → OfThree e s at code → SizeFault e s at code
to_fault e s at code h =
    elim h [
      | inl d ↦ subst (SizeFault e s at) (sym d.0) (too_deep d.1)
      | inr r ↦ elim r [
        | inl l ↦ let there = long_there e (slice_get e.tokens at) l.1 in subst (SizeFault e s at) (sym l.0) (too_long there.1 there.2)
        | inr x ↦ subst (SizeFault e s at) (sym x.0) (subst (λ i. SizeFault e s i ModulesMany) x.1.2 (modules_many x.1.1))
      ]
    ]

from_fault : {e : Expanded} {s : Source} {at : ℕ} {code : FaultCode} → SizeFault e s at code → OfThree e s at code
from_fault (too_deep c) = inl (refl, c)
from_fault {e} {s} (too_long {at} {token} is h) = inr (inl (refl, long_told e (slice_get e.tokens at) token is h))
from_fault (modules_many {m} is) = inr (inr (refl, (m, is, refl)))

pub none_stands : (e : Expanded) (s : Source) (deep long extra : Option ℕ) → deep ≡ first_deep (nodes_of_source s) → IsFirst (IsLong e) long → extra ≡ slice_get (map name_index s.modules) 64 → earliest deep long extra ≡ None → IsWithinSize e s
none_stands e s deep long extra d l x is =
    let least : IsLeastOf (OfThree e s) None = subst (IsLeastOf (OfThree e s)) is (three_least e s deep long extra d l x) in
    λ at code f. least at code (from_fault f)

pub least_stands : (e : Expanded) (s : Source) (deep long extra : Option ℕ) (stands : Standing) (f : Fault) → deep ≡ first_deep (nodes_of_source s) → IsFirst (IsLong e) long → extra ≡ slice_get (map name_index s.modules) 64 → earliest deep long extra ≡ Some stands → IsFaultAt e stands f → LeastSizeFault e s f
least_stands e s deep long extra stands f d l x is placed =
    let least : IsLeastOf (OfThree e s) (Some stands) = subst (IsLeastOf (OfThree e s)) is (three_least e s deep long extra d l x) in
    let there : SizeFault e s f.at f.code = subst (λ i. SizeFault e s i f.code) (sym placed.at) (subst (SizeFault e s stands.at) (sym placed.code) (to_fault e s stands.at stands.code least.0)) in
    let code : number_of_code f.code ≡ number_of_code stands.code = ap number_of_code placed.code in
    record {
      stands = record { phase = placed.phase; stands = there; token = placed.token; token_is = placed.token_is; place = placed.place };
      least = λ g gs before.
          let ranks : rank_of_phase g.phase ≡ rank_of_phase f.phase = ap rank_of_phase (gs.phase ∙ sym placed.phase) in
          elim before [
            | inl r ↦ omega (arith, r, ranks)
            | inr r ↦ elim (least.1 g.at g.code (from_fault gs.stands)) [
              | inl m ↦ elim r.1 [ inl a ↦ omega (arith, m, a, placed.at) | inr a ↦ omega (arith, m, a.0, placed.at) ]
              | inr m ↦ elim r.1 [ inl a ↦ omega (arith, m.0, a, placed.at) | inr a ↦ omega (arith, m.1, a.1, code) ]
            ]
          ];
    }

pub same_fault : (f g : Fault) → (let r : Result (Option Fault) NoMemory = Ok (Some f) in r) ≡ Ok (Some g) → f ≡ g
same_fault f g e = cc
