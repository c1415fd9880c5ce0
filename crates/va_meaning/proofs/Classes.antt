-- Two evaluations of a module that keeps to classes of values: they end early as they may, or their variables, what branches hold and
-- marks are related as the classes say.
use Rattle.std.specs.Prelude.{◌≡◌, ℕ, zero, suc, ◌+◌, Bool, true, false, not, ℤ, negsuc, List, [], ◌∷◌, Option, Some, None}
use Rattle.std.specs.List.{slice_get}
use Rattle.std.proofs.Common.{refl, ap, subst}
use Rattle.alg_laws.specs.declared.function.Fun1.TheVariants.{Exp}
use Rattle.alg_laws.specs.declared.number.Number.{Number}
use Rattle.alg_laws.specs.declared.number.Reason.{Reason}
use Rattle.alg_laws.specs.declared.number.Ty.{Ty}
use Rattle.alg_laws.specs.declared.number.Ty.TheVariants.{Integer, Real as RealTy}
use Rattle.alg_laws.specs.IntegerOps.{int_sum, int_difference, int_product, int_negative, int_quotient, int_remainder}
use Rattle.alg_laws.specs.NumberOps.{as_int, joined, truth, is_true, by_type, to_real, converted, is_same, is_less, is_at_most, negative_of}
use Rattle.alg_laws.specs.Outcome.{Outcome, gives, ends, ◌>>=◌}
use Rattle.alg_laws.specs.Related.{Relates, NumbersRelated, reals, integers, OutcomesRelated, both_give as outcomes_give, both_end as outcomes_end, ListsRelated, no_more as none_more, one_more}
use Rattle.alg_laws.proofs.Outcomes.{numbers_weaker, outcomes_weaker}
use Rattle.alg_laws.proofs.Related.{chosen_related, literal_related, whole_related, to_integer_related, is_true_related, truth_related, power_of_related, is_less_related, is_at_most_related, is_same_related, absolute_of_related, minimum_of_related, maximum_of_related, fun1_of_related, fun2_of_related}
use Rattle.va_base.specs.declared.exact.Decimal.{Decimal}
use Rattle.va_sem.specs.declared.builtin.Builtin.{Builtin}
use Rattle.va_sem.specs.declared.builtin.Builtin.TheVariants.{One, Two, Abs, Min, Max, LimExp, Ddt, LeftOut}
use Rattle.va_sem.specs.declared.builtin.SystemFunction.TheVariants.{Temperature, ThermalVoltage, Limit, SimParam, ParamGiven}
use Rattle.va_sem.specs.declared.names.Meaning.{Meaning}
use Rattle.va_sem.specs.declared.names.Meaning.TheVariants.{Param, Var}
use Rattle.va_tree.specs.declared.expr.BinaryOp.{BinaryOp}
use Rattle.va_tree.specs.declared.expr.BinaryOp.TheVariants.{Or, And, Equal, NotEqual, Less, AtMost, Greater, AtLeast, Add, Subtract, Multiply, Divide, Remainder, Power}
use Rattle.va_tree.specs.declared.expr.UnaryOp.{UnaryOp}
use Rattle.va_tree.specs.declared.expr.UnaryOp.TheVariants.{Plus, Minus, Not}
use Rattle.va_tree.specs.Expressions.{Expression, Arguments, literal, infinity, name, group, unary, binary, choose, call, no_more, text_then, expression_then}
use Rattle.va_meaning.specs.Called.{Called, builtin, system, function, access, none, called}
use Rattle.va_meaning.specs.Classes.{Classes, AreOrdered, Slots, IfSure, IsSure, in_place, Within, OperatorIn, BuiltinIn, FunctionIn, argument_types, UnknownIn, NodesIn, AccessIn, VariableIn, NameIn, CallIn, IsIn, AllIn, FirstIn, ArgumentsIn, ContextsInClasses, ValuesIn}
use Rattle.va_meaning.specs.Elaborated.{Elaborated}
use Rattle.va_meaning.specs.Points.{Context, Result, Store, told}
use Rattle.va_meaning.specs.Related.{Endings, IsClosed, Alike, both_give, ResultsRelated}
use Rattle.va_meaning.specs.Types.{result_type}
use Rattle.va_meaning.specs.Unknowns.{value_at, signed, potential_between, access_value}
use Rattle.va_meaning.specs.Values.{Functions, size, argument, numeral, unary_value, binary_value, thermal_voltage, named, builtin_value, given_name, given_argument, thermal_value, call_value, value_of, outcomes_of}
use Rattle.va_meaning.proofs.Endings.{then_alike, told_alike, alike_weaker}

-- the same integers are related in every way
pub same_integers : {V W : Type 0} (R : V → W → Type 0) {v : Number V} {w : Number W} → NumbersRelated (λ x u. ⊥) v w → NumbersRelated R v w
same_integers R (reals p) = absurd p
same_integers R integers = integers

-- the argument types that are listed, and what each argument gives
module _ {E E' V W C : Type 0} (g : Endings E E') (K : Classes C) (R : C → V → W → Type 0) where
  abbrev pub OutsIn : List Ty → C → List (Result E V) → List (Result E' W) → Type 0
  OutsIn [] k outs outs' = Unit {0}
  OutsIn (ty ∷ types) k [] [] = Unit {0}
  OutsIn (ty ∷ types) k [] (out ∷ outs) = ⊥
  OutsIn (ty ∷ types) k (out ∷ outs) [] = ⊥
  OutsIn (ty ∷ types) k (out ∷ outs) (out' ∷ outs') = ResultsRelated g (R (in_place K ty k)) out out' × OutsIn types k outs outs'

  -- functions whose real arguments are of a class
  abbrev pub FunctionsIn : Elaborated → Functions E V → Functions E' W → Type 0
  FunctionsIn M F G =
      (f : ℕ) (k : C) → K.closed k → (outs : List (Result E V)) (outs' : List (Result E' W)) → OutsIn (argument_types M (slice_get M.functions f)) k outs outs'
      → Alike g (ValuesIn R (result_type (slice_get M.functions f)) k) (F f outs) (G f outs')

module _ {E E' V W C : Type 0} (g : Endings E E') (closed : IsClosed g) (M : Elaborated) (K : Classes C) (ordered : AreOrdered K) (R : C → V → W → Type 0)
    (slots : Slots C) (c : Context E V) (d : Context E' W) (h : ContextsInClasses g K R slots c d) where
  pub said : {A B : Type 0} {P : A → B → Type 0} {a : Outcome Reason A} {b : Outcome Reason B} → OutcomesRelated P a b → Alike g P (told c a) (told d b)
  said {P = P} p = told_alike g P c.stops d.stops h.stops p

  resting : Relates c.ops d.ops (R K.rest)
  resting = h.ops K.rest ordered.rest_closed

  pub topmost : Relates c.ops d.ops (R K.top)
  topmost = h.ops K.top ordered.top_closed

  from_rest : (k : C) (x : V) (u : W) → R K.rest x u → R k x u
  from_rest k x u p = h.weaker K.rest k (ordered.from_rest k) x u p

  pub zero_in : (k : C) → R k c.ops.zero d.ops.zero
  zero_in k = from_rest k _ _ resting.zero

  pub raised : (k l : C) → K.below k l → {v : Number V} {w : Number W} → NumbersRelated (R k) v w → NumbersRelated (R l) v w
  raised k l up p = numbers_weaker (R k) (R l) (h.weaker k l up) p

  result_raised : (k l : C) → K.below k l → {a : Result E V} {b : Result E' W} → ResultsRelated g (R k) a b → ResultsRelated g (R l) a b
  result_raised k l up p = alike_weaker g (NumbersRelated (R k)) (NumbersRelated (R l)) (λ v w q. raised k l up q) p

  topped : (k : C) {v : Number V} {w : Number W} → NumbersRelated (R k) v w → NumbersRelated (R K.top) v w
  topped k p = raised k K.top (ordered.to_top k) p

  pub real_in : (k : C) {v : Number V} {w : Number W} → NumbersRelated (R k) v w → R k (to_real c.ops v) (to_real d.ops w)
  real_in k (reals p) = p
  real_in k (integers {i = i}) = from_rest k _ _ (whole_related c.ops d.ops (R K.rest) resting i)

  -- what is asked of both sides of an operator
  by_type_in : (k l : C) {A B : Type 0} (Q : A → B → Type 0) (f : ℤ → ℤ → A) (f' : ℤ → ℤ → B) (p : V → V → A) (p' : W → W → B)
      → ((i j : ℤ) → Q (f i j) (f' i j)) → ((x y : V) (u v : W) → R k x u → R l y v → Q (p x y) (p' u v))
      → {v w : Number V} {v' w' : Number W} → NumbersRelated (R k) v v' → NumbersRelated (R l) w w'
      → Q (by_type c.ops f p v w) (by_type d.ops f' p' v' w')
  by_type_in k l Q f f' p p' on_integers on_reals (reals a) (reals b) = on_reals _ _ _ _ a b
  by_type_in k l Q f f' p p' on_integers on_reals (reals a) (integers {i = j}) = on_reals _ _ _ _ a (real_in l (integers {i = j}))
  by_type_in k l Q f f' p p' on_integers on_reals (integers {i = i}) (reals b) = on_reals _ _ _ _ (real_in k (integers {i = i})) b
  by_type_in k l Q f f' p p' on_integers on_reals (integers {i = i}) (integers {i = j}) = on_integers i j

  integer_in : (k : C) (out : Outcome Reason ℤ) → OutcomesRelated (NumbersRelated (R k)) (as_int out) (as_int out)
  integer_in k (gives i) = outcomes_give integers
  integer_in k (ends e) = outcomes_end

  truth_in : (k : C) (a b : Bool) → a ≡ b → NumbersRelated (R k) (truth a) (truth b)
  truth_in k a b e = raised K.rest k (ordered.from_rest k) (truth_related c.ops d.ops (R K.rest) resting a b e)

  whole_outcome : (a b : Outcome Reason ℤ) → a ≡ b → OutcomesRelated (NumbersRelated (λ (x : V) (u : W). ⊥)) (as_int a) (as_int b)
  whole_outcome a b e = subst (λ (t : Outcome Reason ℤ). OutcomesRelated (NumbersRelated (λ (x : V) (u : W). ⊥)) (as_int a) (as_int t)) e (itself a)
    where
      itself : (a : Outcome Reason ℤ) → OutcomesRelated (NumbersRelated (λ (x : V) (u : W). ⊥)) (as_int a) (as_int a)
      itself (gives i) = outcomes_give integers
      itself (ends e) = outcomes_end

  -- a value in a place of a type
  pub converted_in : (ty : Ty) (k : C) {v : Number V} {w : Number W} → NumbersRelated (R (in_place K ty k)) v w
      → OutcomesRelated (ValuesIn R ty k) (converted c.ops ty v) (converted d.ops ty w)
  converted_in Integer k p = whole_outcome _ _ (to_integer_related c.ops d.ops (R K.top) topmost p)
  converted_in RealTy k p = outcomes_give (reals (real_in k p))

  pub any_type : (ty : Ty) (k : C) (v : Number V) (w : Number W) → ValuesIn R ty k v w → NumbersRelated (R k) v w
  any_type Integer k v w p = same_integers (R k) p
  any_type RealTy k v w p = p

  pub same_type : (ty : Ty) (k : C) {v : Number V} {w : Number W} → NumbersRelated (R k) v w → NumbersRelated (R (in_place K ty k)) v w
  same_type Integer k p = topped k p
  same_type RealTy k p = p

  unary_in : (k : C) (op : UnaryOp) (operand : Expression) (a : Result E V) (b : Result E' W) → ((l : C) → IsIn M K slots l operand → ResultsRelated g (R l) a b)
      → (at : ℕ) → IsIn M K slots k (unary at op operand) → ResultsRelated g (R k) (a >>= unary_value c op) (b >>= unary_value d op)
  unary_in k Plus operand a b inner at i = then_alike g closed (NumbersRelated (R k)) _ _ _ (inner k i) (λ v w p. both_give p)
  unary_in k Minus operand a b inner at i = then_alike g closed (NumbersRelated (R k)) _ _ _ (inner k i) (λ v w p. said (negative_in p))
    where
      negative_in : {v : Number V} {w : Number W} → NumbersRelated (R k) v w → OutcomesRelated (NumbersRelated (R k)) (negative_of c.ops v) (negative_of d.ops w)
      negative_in (reals {x = x} {u = u} p) = outcomes_give (reals (h.negative k x u p))
      negative_in (integers {i = j}) = integer_in k (int_negative j)
  unary_in k Not operand a b inner at i =
      then_alike g closed (NumbersRelated (R K.top)) _ _ _ (inner K.top i)
      (λ v w p. both_give (truth_in k _ _ (ap not (is_true_related c.ops d.ops (R K.top) topmost p))))

  -- the right side of && and ||
  asked_in : (k : C) {a : Result E V} {b : Result E' W} → ResultsRelated g (R K.top) a b
      → ResultsRelated g (R k) (a >>= λ v. gives (truth (is_true c.ops v))) (b >>= λ w. gives (truth (is_true d.ops w)))
  asked_in k p = then_alike g closed (NumbersRelated (R K.top)) _ _ _ p (λ v w q. both_give (truth_in k _ _ (is_true_related c.ops d.ops (R K.top) topmost q)))

  module _ (k : C) (left right : C → Type 0) (a a' : Result E V) (b b' : Result E' W) (on_left : (l : C) → left l → ResultsRelated g (R l) a b)
      (on_right : (l : C) → right l → ResultsRelated g (R l) a' b') where
    -- a comparison
    compared_in : (f : Number V → Number V → Bool) (f' : Number W → Number W → Bool)
        → ((v w : Number V) (v' w' : Number W) → NumbersRelated (R K.top) v v' → NumbersRelated (R K.top) w w' → f v w ≡ f' v' w')
        → left K.top × right K.top → ResultsRelated g (R k) (a >>= λ v. a' >>= λ w. gives (truth (f v w))) (b >>= λ v. b' >>= λ w. gives (truth (f' v w)))
    compared_in f f' same i =
        then_alike g closed (NumbersRelated (R K.top)) _ _ _ (on_left K.top i.0)
        (λ v v' p. then_alike g closed (NumbersRelated (R K.top)) _ _ _ (on_right K.top i.1) (λ w w' q. both_give (truth_in k _ _ (same v w v' w' p q))))

    -- an operation on a value of each of two classes
    both_in : (l m : C) (f : Number V → Number V → Outcome Reason (Number V)) (f' : Number W → Number W → Outcome Reason (Number W))
        → ((v w : Number V) (v' w' : Number W) → NumbersRelated (R l) v v' → NumbersRelated (R m) w w' → OutcomesRelated (NumbersRelated (R k)) (f v w) (f' v' w'))
        → left l → right m → ResultsRelated g (R k) (a >>= λ v. a' >>= λ w. told c (f v w)) (b >>= λ v. b' >>= λ w. told d (f' v w))
    both_in l m f f' same i j =
        then_alike g closed (NumbersRelated (R l)) _ _ _ (on_left l i)
        (λ v v' p. then_alike g closed (NumbersRelated (R m)) _ _ _ (on_right m j) (λ w w' q. said (same v w v' w' p q)))

    operator_in : (op : BinaryOp) → OperatorIn K k op left right → ResultsRelated g (R k) (a >>= λ v. binary_value c op v a') (b >>= λ w. binary_value d op w b')
    operator_in Or i =
        then_alike g closed (NumbersRelated (R K.top)) _ _ _ (on_left K.top i.0)
        (λ v w p. chosen_related (ResultsRelated g (R k)) _ _ _ _ _ _ (is_true_related c.ops d.ops (R K.top) topmost p) (both_give integers) (asked_in k (on_right K.top i.1)))
    operator_in And i =
        then_alike g closed (NumbersRelated (R K.top)) _ _ _ (on_left K.top i.0)
        (λ v w p. chosen_related (ResultsRelated g (R k)) _ _ _ _ _ _ (is_true_related c.ops d.ops (R K.top) topmost p) (asked_in k (on_right K.top i.1)) (both_give integers))
    operator_in Equal i = compared_in _ _ (λ v w v' w' p q. is_same_related c.ops d.ops (R K.top) topmost p q) i
    operator_in NotEqual i = compared_in (λ v w. not (is_same c.ops v w)) (λ v w. not (is_same d.ops v w)) (λ v w v' w' p q. ap not (is_same_related c.ops d.ops (R K.top) topmost p q)) i
    operator_in Less i = compared_in _ _ (λ v w v' w' p q. is_less_related c.ops d.ops (R K.top) topmost p q) i
    operator_in AtMost i = compared_in _ _ (λ v w v' w' p q. is_at_most_related c.ops d.ops (R K.top) topmost p q) i
    operator_in Greater i = compared_in (λ v w. is_less c.ops w v) (λ v w. is_less d.ops w v) (λ v w v' w' p q. is_less_related c.ops d.ops (R K.top) topmost q p) i
    operator_in AtLeast i = compared_in (λ v w. is_at_most c.ops w v) (λ v w. is_at_most d.ops w v) (λ v w v' w' p q. is_at_most_related c.ops d.ops (R K.top) topmost q p) i
    operator_in Add i =
        both_in k k _ _ (λ v w v' w' p q. by_type_in k k (OutcomesRelated (NumbersRelated (R k))) _ _ _ _ (λ z y. integer_in k (int_sum z y))
        (λ x y u v p q. outcomes_give (reals (h.sum k x y u v p q))) p q) i.0 i.1
    operator_in Subtract i =
        both_in k k _ _ (λ v w v' w' p q. by_type_in k k (OutcomesRelated (NumbersRelated (R k))) _ _ _ _ (λ z y. integer_in k (int_difference z y))
        (λ x y u v p q. outcomes_give (reals (h.sum k x _ u _ p (h.negative k y v q)))) p q) i.0 i.1
    operator_in Multiply i =
        both_in i.0 i.1 _ _ (λ v w v' w' p q. by_type_in i.0 i.1 (OutcomesRelated (NumbersRelated (R k))) _ _ _ _ (λ z y. integer_in k (int_product z y))
        (λ x y u v p q. outcomes_give (reals (h.product i.0 i.1 k i.2 x y u v p q))) p q) i.3 i.4
    operator_in Divide i =
        both_in i.0 i.1 _ _ (λ v w v' w' p q. by_type_in i.0 i.1 (OutcomesRelated (NumbersRelated (R k))) _ _ _ _ (λ z y. integer_in k (int_quotient z y))
        (λ x y u v p q. outcomes_give (reals (h.product i.0 i.1 k i.2 x _ u _ p ((h.ops i.1 i.3).recip y v q)))) p q) i.4 i.5
    operator_in Remainder i =
        both_in K.top K.top _ _ (λ v w v' w' p q. by_type_in K.top K.top (OutcomesRelated (NumbersRelated (R k))) _ _ _ _ (λ z y. integer_in k (int_remainder z y))
        (λ x y u v p q. outcomes_give integers) p q) i.0 i.1
    operator_in Power i =
        both_in i.0 i.0 _ _ (λ v w v' w' p q. outcomes_weaker (NumbersRelated (R i.0)) (NumbersRelated (R k)) (λ v w r. raised i.0 k i.2 r) (power_of_related c.ops d.ops (R i.0) (h.ops i.0 i.1) p q)) i.3.0 i.3.1

  -- names and accesses
  variable_in : (k : C) (ty : Ty) (known : Option C) (v : Number V) (w : Number W) → VariableIn M K slots k ty known → IfSure (λ l. ValuesIn R ty l v w) known
      → NumbersRelated (R k) v w
  variable_in k Integer None v w i p = absurd i
  variable_in k Integer (Some l) v w i p = same_integers (R k) p
  variable_in k RealTy None v w i p = absurd i
  variable_in k RealTy (Some l) v w i p = raised l k i p

  abbrev StoresIn : Store V → Store W → Type 0
  StoresIn s t = (x : ℕ) → IfSure (λ k. ValuesIn R (M.variable_type x) k (s x) (t x)) (slots.variable x)

  named_in : (k : C) (s : Store V) (t : Store W) → StoresIn s t → (m : Option Meaning) → NameIn M K slots k m → NumbersRelated (R k) (named M c s m) (named M d t m)
  named_in k s t n (Some (Param p)) i = raised K.rest k (ordered.from_rest k) (h.parameters p)
  named_in k s t n (Some (Var x)) i = variable_in k (M.variable_type x) (slots.variable x) (s x) (t x) i (n x)
  named_in k s t n m i = reals (zero_in k)

  sure_in : (k : C) (x : V) (u : W) (known : Option C) → IsSure (λ l. K.below l k) known → IfSure (λ l. R l x u) known → R k x u
  sure_in k x u None i p = absurd i
  sure_in k x u (Some l) i p = h.weaker l k i x u p

  pub unknown_in : (k : C) (i : Option ℕ) → UnknownIn M K slots k i → R k (value_at c.ops c.point.unknowns i) (value_at d.ops d.point.unknowns i)
  unknown_in k None i = zero_in k
  unknown_in k (Some j) i = sure_in k _ _ (slots.unknown j) i (h.unknowns j)

  pub nodes_in : (k : C) (plus : ℕ) (minus : Option ℕ) → NodesIn M K slots k plus minus
      → R k (potential_between M c.ops c.point plus minus) (potential_between M d.ops d.point plus minus)
  nodes_in k plus None i = unknown_in k _ i
  nodes_in k plus (Some minus) i = h.sum k _ _ _ _ (unknown_in k _ i.0) (h.negative k _ _ (unknown_in k _ i.1))

  pub signed_in : (k : C) (turned : Bool) (x : V) (u : W) → R k x u → R k (signed c.ops turned x) (signed d.ops turned u)
  signed_in k true x u p = h.negative k x u p
  signed_in k false x u p = p

  access_in : (k : C) (b : ℕ) (turned flow : Bool) → AccessIn M K slots k b flow
      → R k (access_value M c.ops c.point b turned flow) (access_value M d.ops d.point b turned flow)
  access_in k b turned true i = signed_in k turned _ _ (unknown_in k _ i)
  access_in k b turned false i = signed_in k turned _ _ (nodes_in k _ _ i)

  -- calls
  argument_in : (k : C) (i : ℕ) {outs : List (Result E V)} {outs' : List (Result E' W)} → ListsRelated (ResultsRelated g (R k)) outs outs'
      → ResultsRelated g (R k) (argument c.ops i outs) (argument d.ops i outs')
  argument_in k zero none_more = both_give (reals (zero_in k))
  argument_in k zero (one_more p ps) = p
  argument_in k (suc i) none_more = both_give (reals (zero_in k))
  argument_in k (suc i) (one_more p ps) = argument_in k i ps

  module _ (k : C) (all : C → Type 0) {outs : List (Result E V)} {outs' : List (Result E' W)}
      (on_all : (l : C) → all l → ListsRelated (ResultsRelated g (R l)) outs outs') where
    -- a function of one argument, and of two, of a closed class
    one_in : (f : Number V → Result E V) (f' : Number W → Result E' W)
        → ((l : C) → Relates c.ops d.ops (R l) → (v : Number V) (w : Number W) → NumbersRelated (R l) v w → ResultsRelated g (R l) (f v) (f' w))
        → Within K k all → ResultsRelated g (R k) (argument c.ops 0 outs >>= f) (argument d.ops 0 outs' >>= f')
    one_in f f' same i =
        result_raised i.0 k i.2
        (then_alike g closed (NumbersRelated (R i.0)) _ _ _ (argument_in i.0 0 (on_all i.0 i.3)) (λ v w p. same i.0 (h.ops i.0 i.1) v w p))

    two_in : (f : Number V → Number V → Number V) (f' : Number W → Number W → Number W)
        → ((l : C) → Relates c.ops d.ops (R l) → (v x : Number V) (w y : Number W) → NumbersRelated (R l) v w → NumbersRelated (R l) x y → NumbersRelated (R l) (f v x) (f' w y))
        → Within K k all → ResultsRelated g (R k) (argument c.ops 0 outs >>= λ v. argument c.ops 1 outs >>= λ x. gives (f v x))
        (argument d.ops 0 outs' >>= λ w. argument d.ops 1 outs' >>= λ y. gives (f' w y))
    two_in f f' same i =
        result_raised i.0 k i.2
        (then_alike g closed (NumbersRelated (R i.0)) _ _ _ (argument_in i.0 0 (on_all i.0 i.3))
        (λ v w p. then_alike g closed (NumbersRelated (R i.0)) _ _ _ (argument_in i.0 1 (on_all i.0 i.3)) (λ x y q. both_give (same i.0 (h.ops i.0 i.1) v x w y p q))))

    builtin_in : (b : Builtin) (place : ℕ) → BuiltinIn K k b all → ResultsRelated g (R k) (builtin_value M c b place outs) (builtin_value M d b place outs')
    builtin_in (One f) place i = one_in _ _ (λ l r v w p. both_give (fun1_of_related c.ops d.ops (R l) r f p)) i
    builtin_in (Two f) place i = two_in _ _ (λ l r v x w y p q. fun2_of_related c.ops d.ops (R l) r f p q) i
    builtin_in Abs place i = one_in _ _ (λ l r v w p. said (absolute_of_related c.ops d.ops (R l) r p)) i
    builtin_in Min place i = two_in _ _ (λ l r v x w y p q. minimum_of_related c.ops d.ops (R l) r p q) i
    builtin_in Max place i = two_in _ _ (λ l r v x w y p q. maximum_of_related c.ops d.ops (R l) r p q) i
    builtin_in LimExp place i = one_in _ _ (λ l r v w p. both_give (fun1_of_related c.ops d.ops (R l) r Exp p)) i
    builtin_in Ddt place i =
        then_alike g closed (NumbersRelated (R i.0)) _ _ _ (argument_in i.0 0 (on_all i.0 i.2)) (λ v w p. both_give (reals (h.derivative i.0 k i.1 _ _ (real_in i.0 p))))
    builtin_in LeftOut place i =
        then_alike g closed (R K.answer) _ _ _ (h.answers place _ _ (on_all K.top i.1)) (λ x u p. both_give (reals (h.weaker K.answer k i.0 x u p)))

    thermal_in : (l : C) → Relates c.ops d.ops (R l) → (x : V) (u : W) → R l x u → R l (thermal_voltage c.ops x) (thermal_voltage d.ops u)
    thermal_in l r x u p =
        r.product _ _ _ _ (r.product x _ u _ p (literal_related c.ops d.ops (R l) r 1380649 (negsuc 28))) (r.recip _ _ (literal_related c.ops d.ops (R l) r 1602176634 (negsuc 27)))

    thermal_value_in : (l : C) → K.closed l → {outs : List (Result E V)} {outs' : List (Result E' W)} → ListsRelated (ResultsRelated g (R l)) outs outs'
        → ResultsRelated g (R l) (thermal_value M c outs) (thermal_value M d outs')
    thermal_value_in l cl none_more = both_give (reals (thermal_in l (h.ops l cl) _ _ (from_rest l _ _ h.temperature)))
    thermal_value_in l cl (one_more p ps) =
        then_alike g closed (NumbersRelated (R l)) _ _ _ p (λ v w q. both_give (reals (thermal_in l (h.ops l cl) _ _ (real_in l q))))

  given_in : (m : Option Meaning) → given_name M c m ≡ given_name M d m
  given_in (Some (Param p)) = h.given p
  given_in m = refl

  given_argument_in : (args : Arguments) → given_argument M c args ≡ given_argument M d args
  given_argument_in (expression_then (name at bytes) rest) = given_in (M.meaning at)
  given_argument_in args = refl

  module _ (F : Functions E V) (G : Functions E' W) (fs : FunctionsIn g K R M F G) where
    function_in : (k : C) (f : ℕ) (ty : Ty) (arguments : C → Type 0) {outs : List (Result E V)} {outs' : List (Result E' W)}
        → ((l : C) → K.closed l → arguments l → Alike g (ValuesIn R ty l) (F f outs) (G f outs')) → FunctionIn K k ty arguments
        → ResultsRelated g (R k) (F f outs) (G f outs')
    function_in k f Integer arguments go i = alike_weaker g _ _ (λ v w p. same_integers (R k) p) (go K.top ordered.top_closed i)
    function_in k f RealTy arguments go i = result_raised i.0 k i.2 (go i.0 i.1 i.3)

    call_in : (k : C) (what : Called) (place : ℕ) (args : Arguments) (first all : C → Type 0) (arguments : List Ty → C → Type 0)
        (outs : List (Result E V)) (outs' : List (Result E' W))
        → ((l : C) → first l → ResultsRelated g (R l) (argument c.ops 0 outs) (argument d.ops 0 outs'))
        → ((l : C) → all l → ListsRelated (ResultsRelated g (R l)) outs outs')
        → ((types : List Ty) (l : C) → arguments types l → OutsIn g K R types l outs outs')
        → CallIn M K slots k what first all arguments → ResultsRelated g (R k) (call_value M c F what place args outs) (call_value M d G what place args outs')
    call_in k (builtin b) place args first all arguments outs outs' on_first on_all on_arguments i = builtin_in k all on_all b place i
    call_in k (system Temperature) place args first all arguments outs outs' on_first on_all on_arguments i = both_give (reals (from_rest k _ _ h.temperature))
    call_in k (system ThermalVoltage) place args first all arguments outs outs' on_first on_all on_arguments i =
        result_raised i.0 k i.2 (thermal_value_in k all on_all i.0 i.1 (on_all i.0 i.3))
    call_in k (system Limit) place args first all arguments outs outs' on_first on_all on_arguments i = on_first k i
    call_in k (system SimParam) place args first all arguments outs outs' on_first on_all on_arguments i = argument_in k 1 (on_all k i)
    call_in k (system ParamGiven) place args first all arguments outs outs' on_first on_all on_arguments i = both_give (truth_in k _ _ (given_argument_in args))
    call_in k (function f) place args first all arguments outs outs' on_first on_all on_arguments i =
        function_in k f (result_type (slice_get M.functions f)) (arguments (argument_types M (slice_get M.functions f)))
        (λ l cl j. fs f l cl outs outs' (on_arguments (argument_types M (slice_get M.functions f)) l j)) i
    call_in k (access b turned flow) place args first all arguments outs outs' on_first on_all on_arguments i = both_give (reals (access_in k b turned flow i))
    call_in k none place args first all arguments outs outs' on_first on_all on_arguments i = both_give (reals (zero_in k))

    numeral_in : (k : C) (value : Decimal) (integer : Bool) → NumbersRelated (R k) (numeral c.ops value integer) (numeral d.ops value integer)
    numeral_in k value true = integers
    numeral_in k value false = reals (from_rest k _ _ (literal_related c.ops d.ops (R K.rest) resting value.mantissa value.power))

    mutual
      pub value_in : (k : C) (place : ℕ) (e : Expression) → IsIn M K slots k e → (s : Store V) (t : Store W) → StoresIn s t
          → ResultsRelated g (R k) (value_of M c F place e s) (value_of M d G place e t)
      value_in k place (literal at value integer) i s t n = both_give (numeral_in k value integer)
      value_in k place (infinity at) i s t n = both_give (reals (zero_in k))
      value_in k place (name at bytes) i s t n = both_give (named_in k s t n (M.meaning at) i)
      value_in k place (group at inner) i s t n = value_in k (place + 1) inner i s t n
      value_in k place (unary at op operand) i s t n = unary_in k op operand (value_of M c F (place + 1) operand s) (value_of M d G (place + 1) operand t) (λ l j. value_in l (place + 1) operand j s t n) at i
      value_in k place (binary at left op right) i s t n =
          operator_in k (λ l. IsIn M K slots l left) (λ l. IsIn M K slots l right) (value_of M c F (place + 1) left s) (value_of M c F (place + 1 + size left) right s)
          (value_of M d G (place + 1) left t) (value_of M d G (place + 1 + size left) right t) (λ l j. value_in l (place + 1) left j s t n)
          (λ l j. value_in l (place + 1 + size left) right j s t n) op i
      value_in k place (choose at test a b) i s t n =
          then_alike g closed (NumbersRelated (R K.top)) (NumbersRelated (R k)) _ _ (value_in K.top (place + 1) test i.0 s t n)
          (λ v w p. then_alike g closed (NumbersRelated (R k)) (NumbersRelated (R k)) _ _
          (chosen_related (ResultsRelated g (R k)) _ _ _ _ _ _ (is_true_related c.ops d.ops (R K.top) topmost p) (value_in k (place + 1 + size test) a i.1 s t n) (value_in k (place + 1 + size test + size a) b i.2 s t n))
          (λ x y q. said (outcomes_weaker (ValuesIn R (joined (M.type_of a) (M.type_of b)) k) (NumbersRelated (R k)) (λ x y r. any_type (joined (M.type_of a) (M.type_of b)) k x y r)
          (converted_in (joined (M.type_of a) (M.type_of b)) k (same_type (joined (M.type_of a) (M.type_of b)) k q)))))
      value_in k place (call at callee bytes args) i s t n =
          call_in k (called (M.meaning at) callee bytes) place args (λ l. FirstIn M K slots l args) (λ l. AllIn M K slots l args) (λ types l. ArgumentsIn M K slots types l args)
          (outcomes_of M c F (place + 1) args s) (outcomes_of M d G (place + 1) args t)
          (λ l j. first_in l (place + 1) args j s t n) (λ l j. all_in l (place + 1) args j s t n) (λ types l j. arguments_in types l (place + 1) args j s t n) i

      all_in : (k : C) (place : ℕ) (args : Arguments) → AllIn M K slots k args → (s : Store V) (t : Store W) → StoresIn s t
          → ListsRelated (ResultsRelated g (R k)) (outcomes_of M c F place args s) (outcomes_of M d G place args t)
      all_in k place no_more i s t n = none_more
      all_in k place (text_then text rest) i s t n = one_more (both_give (reals (zero_in k))) (all_in k place rest i s t n)
      all_in k place (expression_then e rest) i s t n = one_more (value_in k place e i.0 s t n) (all_in k (place + size e) rest i.1 s t n)

      first_in : (k : C) (place : ℕ) (args : Arguments) → FirstIn M K slots k args → (s : Store V) (t : Store W) → StoresIn s t
          → ResultsRelated g (R k) (argument c.ops 0 (outcomes_of M c F place args s)) (argument d.ops 0 (outcomes_of M d G place args t))
      first_in k place no_more i s t n = both_give (reals (zero_in k))
      first_in k place (text_then text rest) i s t n = both_give (reals (zero_in k))
      first_in k place (expression_then e rest) i s t n = value_in k place e i s t n

      arguments_in : (types : List Ty) (k : C) (place : ℕ) (args : Arguments) → ArgumentsIn M K slots types k args → (s : Store V) (t : Store W) → StoresIn s t
          → OutsIn g K R types k (outcomes_of M c F place args s) (outcomes_of M d G place args t)
      arguments_in [] k place args i s t n = tt
      arguments_in (ty ∷ types) k place no_more i s t n = tt
      arguments_in (ty ∷ types) k place (text_then text rest) i s t n = (both_give (reals (zero_in (in_place K ty k))), arguments_in types k place rest i s t n)
      arguments_in (ty ∷ types) k place (expression_then e rest) i s t n =
          (value_in (in_place K ty k) place e i.0 s t n, arguments_in types k (place + size e) rest i.1 s t n)
