-- A fault of size stands at a token of the text.
use Rattle.std.specs.Prelude.{◌≡◌, ◌<◌, ◌≤◌, ◌+◌, ◌==◌, ◌++◌, ◌≢◌, ℕ, zero, suc, min, Bool, true, false, if◌then◌else◌, List, [], ◌∷◌, Option, Some, None, IfSome, flat_map, length, map, slice_get, nat_lt}
use Rattle.std.specs.Option.{option_map}
use Rattle.std.proofs.Common.{refl, ap, sym, ◌∙◌, subst, arith, ◌⊎◌, inl, inr, ltb-true, ltb-false}
use Rattle.std.proofs.lemmas.Bool.Decides.{eqb_tells}
use Rattle.std.proofs.lemmas.Option.{slice_get-map, slice_get_within}
use Rattle.va_base.specs.declared.expanded.Expanded.{Expanded}
use Rattle.va_base.specs.declared.fault.FaultCode.{FaultCode}
use Rattle.va_base.specs.declared.fault.FaultCode.TheVariants.{TooDeep, TooLong, ModulesMany}
use Rattle.va_base.specs.declared.token.Token.{Token}
use Rattle.va_build.specs.SizeDeep.{earlier, if_deep, deep_row}
use Rattle.va_build.specs.SizeFaults.{is_long_token, IsLong, IsFirst, first_of, sooner, earliest}
use Rattle.va_build.specs.SizeRows.{deep_opened, name_index}
use Rattle.va_build.specs.declared.size.Standing.{Standing}
use Rattle.va_build.specs.declared.size_rules.Rule.{Rule}
use Rattle.va_build.specs.declared.size_rules.Rule.TheVariants.{Passes, Opens, Chains, Follows, Chooses}
use Rattle.va_tree.specs.declared.module.Module.{Module}
use Rattle.va_tree.specs.declared.source.Source.{Source}
use Rattle.va_tree.specs.OrderedNames.{ordered_in_source, Ascend, HasNamesInOrder}
use Rattle.va_tree.specs.OwnTokens.{tokens_of, names_in_attributes, names_in_item, names_in_module, names_in_nature, names_in_discipline, names_in_source}
use Rattle.va_tree.proofs.OwnNames.{times, times_append, times_some, source_as_often}

-- an index that is there is not above this one
abbrev pub IsWithin : ℕ → Option ℕ → Type 0
IsWithin last o = IfSome o (λ at. at ≤ last)

within_earlier : (last : ℕ) (a b : Option ℕ) → IsWithin last a → IsWithin last b → IsWithin last (earlier a b)
within_earlier last None b h k = k
within_earlier last (Some a) None h k = h
within_earlier last (Some a) (Some b) h k = omega (arith, h, k)

within_one : (last at : ℕ) (deep : Bool) → at ≤ last → IsWithin last (if deep then Some at else None)
within_one last at true less = less
within_one last at false less = tt

within_row : (last at depth count : ℕ) → at ≤ last → IsWithin last (deep_row at depth count)
within_row last at depth zero less = tt
within_row last at depth (suc count) less =
    within_earlier last (deep_row at depth count) (if_deep at (depth + count)) (within_row last at depth count less) (within_one last at (depth + count == 501) less)

within_opened : (last at : ℕ) (rule : Rule) (depth link : ℕ) → at ≤ last → IsWithin last (deep_opened rule at depth link)
within_opened last at Passes depth link less = tt
within_opened last at Opens depth link less = within_one last at (depth == 501) less
within_opened last at Chains depth link less = within_row last at depth link less
within_opened last at Follows depth link less = tt
within_opened last at Chooses depth link less = tt

-- what is found stays within the text
pub found_within : (last at : ℕ) (rule : Rule) (depth link : ℕ) (old : Option ℕ) → IsWithin last old → at ≤ last → IsWithin last (earlier old (deep_opened rule at depth link))
found_within last at rule depth link old h less = within_earlier last old (deep_opened rule at depth link) h (within_opened last at rule depth link less)

-- an index that is there is below this number
abbrev IsBelow : ℕ → Option ℕ → Type 0
IsBelow count o = IfSome o (λ at. at < count)

-- the same of a fault that stands
abbrev StandsBelow : ℕ → Option Standing → Type 0
StandsBelow count o = IfSome o (λ s. s.at < count)

deep_below : (last count : ℕ) (o : Option ℕ) → last + 1 ≡ count → IsWithin last o → IsBelow count o
deep_below last count None e h = tt
deep_below last count (Some at) e h = omega (arith, e, h)

long_token : (e : Expanded) (o : Option Token) → is_long_token e o ≡ true → (token : Token) × (o ≡ Some token)
long_token e None h = cc
long_token e (Some token) h = (token, refl)

long_below : (e : Expanded) (o : Option ℕ) → IsFirst (IsLong e) o → IsBelow (length e.tokens) o
long_below e None h = tt
long_below e (Some at) h = (let t = long_token e (slice_get e.tokens at) h.0 in slice_get_within e.tokens at t.0 t.1)

-- a number that is another's isn't counted
times_other : (n x : ℕ) (xs : List ℕ) → x == n ≡ false → times n (x ∷ xs) ≡ times n xs
times_other n x xs h = rw (h) (omega arith)

not_at : (x n : ℕ) → x < n → x == n ≡ false
not_at x n less = by (eqb_tells x n)
  where
    by : ((x == n ≡ true) × (x ≡ n)) ⊎ ((x == n ≡ false) × (x ≢ n)) → x == n ≡ false
    by (inl h) = absurd (let e = h.1 in let n : ⊥ = omega (arith, less, e) in n)
    by (inr h) = h.0

-- what is not below the end of ascending numbers is none of them
none_above : (n a : ℕ) (xs : List ℕ) (b : ℕ) → b ≤ n → Ascend a xs b → times n xs ≡ 0
none_above n a [] b less h = refl
none_above n a (x ∷ xs) b less h =
    let last : x + 1 ≤ b = reaches (x + 1) xs b h.1 in
    times_other n x xs (not_at x n (omega (arith, last, less))) ∙ none_above n (x + 1) xs b less h.1
  where
    reaches : (c : ℕ) (ys : List ℕ) (d : ℕ) → Ascend c ys d → c ≤ d
    reaches c [] d k = k
    reaches c (y ∷ ys) d k = (let l : y + 1 ≤ d = reaches (y + 1) ys d k.1 in omega (arith, k.0, l))

below_by : (n count : ℕ) (xs : List ℕ) (lower : Bool) → nat_lt n count ≡ lower → Ascend 0 xs count → 1 ≤ times n xs → n < count
below_by n count xs true e h some = ltb-true n count e
below_by n count xs false e h some = absurd (let none : times n xs ≡ 0 = none_above n 0 xs count (ltb-false n count e) h in let no : ⊥ = omega (arith, none, some) in no)

-- the name of a module is one of its names
own_name : (m : Module) → 1 ≤ times m.at (names_in_module m)
own_name m =
    let before : List ℕ = names_in_attributes m.attributes in
    let head : List ℕ = m.at ∷ tokens_of m.ports in
    let itself : 1 ≤ times m.at head = times_some m.at 0 head refl in
    omega (arith, times_append m.at (before ++ head) (flat_map names_in_item m.items), times_append m.at before head, itself)

module_named : (ms : List Module) (k : ℕ) (m : Module) → slice_get ms k ≡ Some m → 1 ≤ times m.at (flat_map names_in_module ms)
module_named [] k m e = absurd (cc (e))
module_named (x ∷ ms) zero m e =
    let same : x ≡ m = cc (e) in
    let own : 1 ≤ times m.at (names_in_module x) = subst (λ (y : Module). 1 ≤ times m.at (names_in_module y)) (sym same) (own_name m) in
    omega (arith, own, times_append m.at (names_in_module x) (flat_map names_in_module ms))
module_named (x ∷ ms) (suc k) m e = omega (arith, module_named ms k m e, times_append m.at (names_in_module x) (flat_map names_in_module ms))

-- where the names of a text ascend below a number, so does the name of each module
pub module_below : (s : Source) (count k : ℕ) (m : Module) → HasNamesInOrder s count → slice_get s.modules k ≡ Some m → m.at < count
module_below s count k m h e =
    let before : List ℕ = flat_map names_in_nature s.natures ++ flat_map names_in_discipline s.disciplines in
    let some : 1 ≤ times m.at (names_in_source s) = omega (arith, module_named s.modules k m e, times_append m.at before (flat_map names_in_module s.modules)) in
    below_by m.at count (ordered_in_source s) (nat_lt m.at count) refl h (omega (arith, some, source_as_often m.at s))

extra_below : (s : Source) (count : ℕ) (k : ℕ) (o : Option ℕ) → HasNamesInOrder s count → o ≡ slice_get (map name_index s.modules) k → IsBelow count o
extra_below s count k o h e = subst (IsBelow count) (sym (e ∙ slice_get-map name_index s.modules k)) (by (slice_get s.modules k) refl)
  where
    by : (found : Option Module) → slice_get s.modules k ≡ found → IsBelow count (option_map name_index found)
    by None f = tt
    by (Some m) f = module_below s count k m h f

coded_below : (count : ℕ) (code : FaultCode) (o : Option ℕ) → IsBelow count o → StandsBelow count (first_of code o)
coded_below count code None h = tt
coded_below count code (Some at) h = h

either_below : (count : ℕ) (a b : Standing) (second : Bool) → a.at < count → b.at < count → StandsBelow count (if second then Some b else Some a)
either_below count a b true h k = k
either_below count a b false h k = h

sooner_below : (count : ℕ) (a b : Option Standing) → StandsBelow count a → StandsBelow count b → StandsBelow count (sooner a b)
sooner_below count None b h k = k
sooner_below count (Some a) None h k = h
sooner_below count (Some a) (Some b) h k = either_below count a b (nat_lt b.at a.at) h k

-- the fault that comes first stands at a token of the text
pub stands_below : (e : Expanded) (s : Source) (last : ℕ) (deep long extra : Option ℕ) (stands : Standing) → last + 1 ≡ length e.tokens → IsWithin last deep → IsFirst (IsLong e) long
    → extra ≡ slice_get (map name_index s.modules) 64 → HasNamesInOrder s (length e.tokens) → earliest deep long extra ≡ Some stands → stands.at < length e.tokens
stands_below e s last deep long extra stands wide d l x order is =
    let count : ℕ = length e.tokens in
    let all : StandsBelow count (earliest deep long extra) =
    sooner_below count (first_of TooDeep deep) (sooner (first_of TooLong long) (first_of ModulesMany extra))
    (coded_below count TooDeep deep (deep_below last count deep wide d))
    (sooner_below count (first_of TooLong long) (first_of ModulesMany extra)
    (coded_below count TooLong long (long_below e long l))
    (coded_below count ModulesMany extra (extra_below s count 64 extra order x))) in
    subst (StandsBelow count) is all
