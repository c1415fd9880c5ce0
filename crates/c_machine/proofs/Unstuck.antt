-- Computations that aren't stuck, and the types of what operators give.
use Rattle.std.specs.Prelude.{◌≡◌, Bool, true, false, if◌then◌else◌, ℤ, Option, Some}
use Rattle.std.proofs.Common.{refl, sym, ap, ◌∙◌}
use Rattle.alg_laws.specs.declared.number.Number.{Number}
use Rattle.alg_laws.specs.declared.number.Number.TheVariants.{Real, Int}
use Rattle.alg_laws.specs.declared.number.Reason.{Reason}
use Rattle.alg_laws.specs.declared.number.Ty.{Ty}
use Rattle.alg_laws.specs.declared.number.Ty.TheVariants.{Integer, Real as RealTy}
use Rattle.alg_laws.specs.IntegerOps.{int_sum, int_difference, int_product, int_quotient, int_remainder, int_negative}
use Rattle.alg_laws.specs.NumberOps.{type_of, truth, as_int, converted, to_integer, sum_of, difference_of, product_of, quotient_of, remainder_of, negative_of}
use Rattle.alg_laws.specs.Operations.{Operations}
use Rattle.alg_laws.specs.Outcome.{Outcome, gives, ends, ◌>>=◌}
use Rattle.c_tree.specs.declared.body.COperator.{COperator}
use Rattle.c_tree.specs.declared.body.COperator.TheVariants.{Plus, Minus, Times, Over, Remainder, Less, AtMost, Greater, AtLeast, Same, Differs}
use Rattle.c_machine.specs.Execution.{operated}
use Rattle.c_tree.specs.SameType.{same_type}
use Rattle.c_machine.specs.Machine.{Stop, stuck, defined, found, only_if, typed}
use Rattle.c_tree.specs.rules.Types.{is_comparison, is_remainder}
use Rattle.c_machine.proofs.Endings.{then_gives, value_given}
use Rattle.c_machine.proofs.Keeping.{typed_gives}

-- a computation isn't stuck
abbrev pub Goes : {V : Type 0} → Outcome Stop V → Type 0
Goes a = a ≡ ends stuck → ⊥

pub goes_gives : {V : Type 0} (v : V) → Goes (gives v)
goes_gives v h = cc (h)

pub goes_given : {V : Type 0} (a : Outcome Stop V) (v : V) → a ≡ gives v → Goes a
goes_given a v e h = cc (sym e ∙ h)

pub goes_then : {U V : Type 0} (a : Outcome Stop U) (f : U → Outcome Stop V) → Goes a → ((u : U) → a ≡ gives u → Goes (f u))
    → Goes (a >>= f)
goes_then (gives u) f h k = k u refl
goes_then (ends e) f h k = λ q. h (cc (q))

pub goes_defined : {V : Type 0} (a : Outcome Reason V) → Goes (defined a)
goes_defined (gives v) h = cc (h)
goes_defined (ends e) h = cc (h)

pub defined_gives : {V : Type 0} (a : Outcome Reason V) (v : V) → defined a ≡ gives v → a ≡ gives v
defined_gives (gives u) v h = ap gives (value_given _ _ h)
defined_gives (ends e) v h = cc (h)

pub only_if_true : {V : Type 0} (test : Bool) (a : Outcome Stop V) → test ≡ true → only_if test a ≡ a
only_if_true test a e = ap (λ t. only_if t a) e

pub found_some : {V : Type 0} (x : Option V) (v : V) → x ≡ Some v → found x ≡ gives v
found_some x v e = ap found e

pub same_itself : (ty : Ty) → same_type ty ty ≡ true
same_itself Integer = refl
same_itself RealTy = refl

pub typed_as : {V : Type 0} (ty : Ty) (v : Number V) → type_of v ≡ ty → typed ty v ≡ gives v
typed_as ty v e = only_if_true (same_type (type_of v) ty) (gives v) (ap (λ t. same_type t ty) e ∙ same_itself ty)

pub type_of_truth : (V : Type 0) (test : Bool) → (let v : Number V = truth test in type_of v) ≡ Integer
type_of_truth V true = refl
type_of_truth V false = refl

as_int_type : {V : Type 0} (r : Outcome Reason ℤ) (w : Number V) → as_int r ≡ gives w → type_of w ≡ Integer
as_int_type (gives i) w h = ap (λ v. type_of v) (sym (value_given _ _ h))
as_int_type (ends e) w h = cc (h)

module _ {V : Type 0} (o : Operations V) where
  pub type_of_negative : (v w : Number V) → negative_of o v ≡ gives w → type_of w ≡ type_of v
  type_of_negative (Real x) w h = ap (λ v. type_of v) (sym (value_given _ _ h))
  type_of_negative (Int i) w h = as_int_type (int_negative i) w h

  pub type_of_converted : (ty : Ty) (v w : Number V) → converted o ty v ≡ gives w → type_of w ≡ ty
  type_of_converted Integer v w h = as_int_type (to_integer o v) w h
  type_of_converted RealTy v w h = ap (λ u. type_of u) (sym (value_given _ _ h))

  -- operators between values of one type
  pub operated_goes : (op : COperator) (v w : Number V) → type_of v ≡ type_of w → (is_remainder op ≡ true → type_of v ≡ Integer)
      → Goes (operated o op v w)
  operated_goes Plus v w e r = goes_defined (sum_of o v w)
  operated_goes Minus v w e r = goes_defined (difference_of o v w)
  operated_goes Times v w e r = goes_defined (product_of o v w)
  operated_goes Over v w e r = goes_defined (quotient_of o v w)
  operated_goes Remainder v w e r =
      goes_then (typed Integer v) _ (goes_given _ v (typed_as Integer v (r refl))) (λ i k. goes_defined (remainder_of o i w))
  operated_goes Less v w e r = goes_gives _
  operated_goes AtMost v w e r = goes_gives _
  operated_goes Greater v w e r = goes_gives _
  operated_goes AtLeast v w e r = goes_gives _
  operated_goes Same v w e r = goes_gives _
  operated_goes Differs v w e r = goes_gives _

  -- arithmetic gives the type of its operands
  sum_type : (v w x : Number V) → type_of v ≡ type_of w → sum_of o v w ≡ gives x → type_of x ≡ type_of w
  sum_type (Int i) (Int j) x e h = as_int_type (int_sum i j) x h
  sum_type (Real a) (Real b) x e h = ap (λ u. type_of u) (sym (value_given _ _ h))
  sum_type (Int i) (Real b) x e h = cc (e)
  sum_type (Real a) (Int j) x e h = cc (e)

  difference_type : (v w x : Number V) → type_of v ≡ type_of w → difference_of o v w ≡ gives x → type_of x ≡ type_of w
  difference_type (Int i) (Int j) x e h = as_int_type (int_difference i j) x h
  difference_type (Real a) (Real b) x e h = ap (λ u. type_of u) (sym (value_given _ _ h))
  difference_type (Int i) (Real b) x e h = cc (e)
  difference_type (Real a) (Int j) x e h = cc (e)

  product_type : (v w x : Number V) → type_of v ≡ type_of w → product_of o v w ≡ gives x → type_of x ≡ type_of w
  product_type (Int i) (Int j) x e h = as_int_type (int_product i j) x h
  product_type (Real a) (Real b) x e h = ap (λ u. type_of u) (sym (value_given _ _ h))
  product_type (Int i) (Real b) x e h = cc (e)
  product_type (Real a) (Int j) x e h = cc (e)

  quotient_type : (v w x : Number V) → type_of v ≡ type_of w → quotient_of o v w ≡ gives x → type_of x ≡ type_of w
  quotient_type (Int i) (Int j) x e h = as_int_type (int_quotient i j) x h
  quotient_type (Real a) (Real b) x e h = ap (λ u. type_of u) (sym (value_given _ _ h))
  quotient_type (Int i) (Real b) x e h = cc (e)
  quotient_type (Real a) (Int j) x e h = cc (e)

  remainder_type : (v w x : Number V) → type_of v ≡ Integer → type_of v ≡ type_of w → remainder_of o v w ≡ gives x → type_of x ≡ Integer
  remainder_type (Int i) (Int j) x t e h = as_int_type (int_remainder i j) x h
  remainder_type (Real a) (Real b) x t e h = cc (t)
  remainder_type (Int i) (Real b) x t e h = cc (e)
  remainder_type (Real a) (Int j) x t e h = cc (e)

  -- the type of the result: that of the operands, or an integer
  abbrev pub result_type : COperator → Ty → Ty
  result_type op ty = if is_comparison op then Integer else (if is_remainder op then Integer else ty)

  truth_given : (test : Bool) (x : Number V) → (let a : Outcome Stop (Number V) = gives (truth test) in a) ≡ gives x → type_of x ≡ Integer
  truth_given test x h = ap (λ u. type_of u) (sym (value_given _ _ h)) ∙ type_of_truth V test

  pub operated_type : (op : COperator) (v w x : Number V) → type_of v ≡ type_of w → (is_remainder op ≡ true → type_of v ≡ Integer)
      → operated o op v w ≡ gives x → type_of x ≡ result_type op (type_of w)
  operated_type Plus v w x e r h = sum_type v w x e (defined_gives _ x h)
  operated_type Minus v w x e r h = difference_type v w x e (defined_gives _ x h)
  operated_type Times v w x e r h = product_type v w x e (defined_gives _ x h)
  operated_type Over v w x e r h = quotient_type v w x e (defined_gives _ x h)
  operated_type Remainder v w x e r h =
      let a = then_gives (typed Integer v) _ x h in
      let b = typed_gives Integer v a.0 a.1 in
      let k : remainder_of o v w ≡ gives x = ap (λ z. remainder_of o z w) (sym b.0) ∙ defined_gives _ x a.2 in
      remainder_type v w x b.1 e k
  operated_type Less v w x e r h = truth_given _ x h
  operated_type AtMost v w x e r h = truth_given _ x h
  operated_type Greater v w x e r h = truth_given _ x h
  operated_type AtLeast v w x e r h = truth_given _ x h
  operated_type Same v w x e r h = truth_given _ x h
  operated_type Differs v w x e r h = truth_given _ x h
