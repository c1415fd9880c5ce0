-- A value has the type that its expression has.
use Rattle.std.specs.Prelude.{◌≡◌, ℕ, ◌+◌, ◌==◌, ◌<◌, ◌&&◌, ◌||◌, Bool, true, false, not, ℤ, if◌then◌else◌, List, [], ◌∷◌, ◌++◌, flat_map, Option, Some, None}
use Rattle.std.specs.List.{slice_get}
use Rattle.std.proofs.Common.{refl, ap, sym, ◌∙◌, subst, arith}
use Rattle.std.proofs.lemmas.Grind.{flat_map-append}
use Rattle.std.proofs.lemmas.Map.Views.{exact_unsigned_eq}
use Rattle.alg_laws.specs.declared.number.Number.{Number}
use Rattle.alg_laws.specs.declared.number.Number.TheVariants.{Real, Int}
use Rattle.alg_laws.specs.declared.number.Reason.{Reason}
use Rattle.alg_laws.specs.declared.number.Ty.{Ty}
use Rattle.alg_laws.specs.declared.number.Ty.TheVariants.{Integer, Real as RealTy}
use Rattle.alg_laws.specs.IntegerOps.{int_sum, int_difference, int_product, int_negative, int_quotient, int_remainder, int_absolute}
use Rattle.alg_laws.specs.NumberOps.{as_int, truth, joined, type_of as type_of_number, zero_of, to_integer, converted, is_true, sum_of, difference_of, product_of, quotient_of, remainder_of, negative_of, is_less, is_at_most, is_same, absolute_of, minimum_of, maximum_of}
use Rattle.alg_laws.specs.Operations.{Operations}
use Rattle.alg_laws.specs.Outcome.{Outcome, gives, ends, ◌>>=◌}
use Rattle.va_base.specs.declared.exact.Decimal.{Decimal}
use Rattle.va_base.specs.declared.fault.FaultCode.{FaultCode}
use Rattle.va_base.specs.declared.fault.FaultCode.TheVariants.{ArgumentCount, ArgumentKind, RealOperand}
use Rattle.va_sem.specs.declared.builtin.Builtin.{Builtin}
use Rattle.va_sem.specs.declared.builtin.Builtin.TheVariants.{One, Two, Abs, Min, Max, LimExp, Ddt, LeftOut}
use Rattle.va_sem.specs.declared.builtin.SystemFunction.{SystemFunction}
use Rattle.va_sem.specs.declared.builtin.SystemFunction.TheVariants.{Temperature, ThermalVoltage, Limit, SimParam, ParamGiven}
use Rattle.va_sem.specs.declared.builtin.SystemName.{SystemName}
use Rattle.va_sem.specs.declared.builtin.SystemName.TheVariants as system_name
use Rattle.va_sem.specs.declared.names.Meaning.{Meaning}
use Rattle.va_sem.specs.declared.names.Meaning.TheVariants as means
use Rattle.va_sem.specs.Builtins.{builtin_at, answer_type, system_answer_type, common, system_name_of, takes, system_takes, argument_looked_at, taken_by, taken_by_name, taken_at}
use Rattle.va_sem.proofs.ArgumentsFit.{arguments_of_sound_call}
use Rattle.va_sem.specs.Lookup.{Bytes}
use Rattle.va_sem.specs.LookedAt.{looked_at, looked_at_in_arguments, call_looks, looks}
use Rattle.va_sem.specs.NamesFaults.{fault_if}
use Rattle.va_sem.specs.Typing.{Typing, meaning_at, type_of_meaning, either_type, type_of_unary, type_of_binary, type_of_builtin, type_of_called, type_of_system, type_of_literal, type_of, types_of_arguments, argument_count, builtin_takes, meaning_takes, call_takes, means_access, system_name_takes, is_access_call, arguments_fit, type_of_call}
use Rattle.va_sem.specs.TypesFaults.{kind_faults, is_real, is_remainder, expression_faults}
use Rattle.va_tree.specs.declared.expr.BinaryOp.{BinaryOp}
use Rattle.va_tree.specs.declared.expr.BinaryOp.TheVariants.{Or, And, Equal, NotEqual, Less, AtMost, Greater, AtLeast, Add, Subtract, Multiply, Divide, Remainder, Power}
use Rattle.va_tree.specs.declared.expr.Callee.TheVariants as callee
use Rattle.va_tree.specs.declared.expr.UnaryOp.{UnaryOp}
use Rattle.va_tree.specs.declared.expr.UnaryOp.TheVariants.{Plus, Minus, Not}
use Rattle.va_tree.specs.Expressions.{Expression, Arguments, literal, infinity, name, group, unary, binary, choose, call, no_more, text_then, expression_then, at_of}
use Rattle.va_meaning.specs.Called.{builtin_called, system_called, called}
use Rattle.va_meaning.specs.Elaborated.{Elaborated}
use Rattle.va_meaning.specs.Points.{Context, Result, Store, told}
use Rattle.va_meaning.specs.Types.{result_type, HasTyping, IsTypedPoint, IsTypedStore}
use Rattle.va_meaning.specs.Values.{Functions, size, argument, numeral, unary_value, binary_value, named, builtin_value, given_argument, thermal_value, system_value, call_value, value_of, outcomes_of}
use Rattle.va_meaning.proofs.Partial.{IfGives, anything, among_if, then_if, chosen_if}

abbrev Typed : {E V : Type 0} → Ty → Result E V → Type 0
Typed ty out = IfGives (λ v. type_of_number v ≡ ty) out

-- two lists of which nothing is left
no_front : {A : Type 0} (xs ys : List A) → xs ++ ys ≡ [] → xs ≡ []
no_front [] ys h = refl
no_front (x ∷ xs) ys h = cc (h)

no_back : {A : Type 0} (xs ys : List A) → xs ++ ys ≡ [] → ys ≡ []
no_back [] ys h = h
no_back (x ∷ xs) ys h = cc (h)

no_fault : (b : Bool) (at : ℕ) (code : FaultCode) → fault_if b at code ≡ [] → b ≡ false
no_fault true at code h = cc (h)
no_fault false at code h = refl

from_not : (b : Bool) → not b ≡ false → b ≡ true
from_not true h = refl
from_not false h = cc (h)

-- operators
as_int_typed : (V : Type 0) (a : Outcome Reason ℤ) → Typed {V = V} Integer (as_int a)
as_int_typed V (gives i) = refl
as_int_typed V (ends e) = tt

truth_typed : (V : Type 0) (b : Bool) → type_of_number {V = V} (truth b) ≡ Integer
truth_typed V true = refl
truth_typed V false = refl

pub converted_typed : {V : Type 0} (o : Operations V) (ty : Ty) (v : Number V) → Typed ty (converted o ty v)
converted_typed {V} o Integer v = as_int_typed V (to_integer o v)
converted_typed o RealTy v = refl

-- an operation of the language
said : {E V : Type 0} (c : Context E V) (ty : Ty) (out : Outcome Reason (Number V)) → Typed ty out → Typed ty (told c out)
said c ty out h = among_if c.stops (λ v. type_of_number v ≡ ty) out h

pub told_typed : {E V : Type 0} (c : Context E V) (ty : Ty) (v : Number V) → Typed ty (told c (converted c.ops ty v))
told_typed c ty v = said c ty (converted c.ops ty v) (converted_typed c.ops ty v)

pub zero_typed : {V : Type 0} (o : Operations V) (ty : Ty) → type_of_number (zero_of o ty) ≡ ty
zero_typed o Integer = refl
zero_typed o RealTy = refl

joined_either : (a b : Ty) → joined a b ≡ either_type a b
joined_either Integer Integer = refl
joined_either Integer RealTy = refl
joined_either RealTy Integer = refl
joined_either RealTy RealTy = refl

module _ {V : Type 0} (o : Operations V) where
  sum_typed : (v w : Number V) → Typed (either_type (type_of_number v) (type_of_number w)) (sum_of o v w)
  sum_typed (Int i) (Int j) = as_int_typed V (int_sum i j)
  sum_typed (Int i) (Real y) = refl
  sum_typed (Real x) (Int j) = refl
  sum_typed (Real x) (Real y) = refl

  difference_typed : (v w : Number V) → Typed (either_type (type_of_number v) (type_of_number w)) (difference_of o v w)
  difference_typed (Int i) (Int j) = as_int_typed V (int_difference i j)
  difference_typed (Int i) (Real y) = refl
  difference_typed (Real x) (Int j) = refl
  difference_typed (Real x) (Real y) = refl

  product_typed : (v w : Number V) → Typed (either_type (type_of_number v) (type_of_number w)) (product_of o v w)
  product_typed (Int i) (Int j) = as_int_typed V (int_product i j)
  product_typed (Int i) (Real y) = refl
  product_typed (Real x) (Int j) = refl
  product_typed (Real x) (Real y) = refl

  quotient_typed : (v w : Number V) → Typed (either_type (type_of_number v) (type_of_number w)) (quotient_of o v w)
  quotient_typed (Int i) (Int j) = as_int_typed V (int_quotient i j)
  quotient_typed (Int i) (Real y) = refl
  quotient_typed (Real x) (Int j) = refl
  quotient_typed (Real x) (Real y) = refl

  remainder_typed : (v w : Number V) → (is_real (type_of_number v) || is_real (type_of_number w)) ≡ false
      → Typed (either_type (type_of_number v) (type_of_number w)) (remainder_of o v w)
  remainder_typed (Int i) (Int j) h = as_int_typed V (int_remainder i j)
  remainder_typed (Int i) (Real y) h = cc (h)
  remainder_typed (Real x) (Int j) h = cc (h)
  remainder_typed (Real x) (Real y) h = cc (h)

  negative_typed : (v : Number V) → Typed (type_of_number v) (negative_of o v)
  negative_typed (Real x) = refl
  negative_typed (Int i) = as_int_typed V (int_negative i)

  absolute_typed : (v : Number V) → Typed (type_of_number v) (absolute_of o v)
  absolute_typed (Real x) = refl
  absolute_typed (Int i) = as_int_typed V (int_absolute i)

  minimum_typed : (v w : Number V) → type_of_number (minimum_of o v w) ≡ either_type (type_of_number v) (type_of_number w)
  minimum_typed (Int i) (Int j) = refl
  minimum_typed (Int i) (Real y) = refl
  minimum_typed (Real x) (Int j) = refl
  minimum_typed (Real x) (Real y) = refl

  maximum_typed : (v w : Number V) → type_of_number (maximum_of o v w) ≡ either_type (type_of_number v) (type_of_number w)
  maximum_typed (Int i) (Int j) = refl
  maximum_typed (Int i) (Real y) = refl
  maximum_typed (Real x) (Int j) = refl
  maximum_typed (Real x) (Real y) = refl

module _ {E V : Type 0} (c : Context E V) where
  unary_typed : (op : UnaryOp) (v : Number V) → Typed (type_of_unary op (type_of_number v)) (unary_value c op v)
  unary_typed Plus v = refl
  unary_typed Minus v = said c (type_of_number v) (negative_of c.ops v) (negative_typed c.ops v)
  unary_typed Not v = truth_typed V (not (is_true c.ops v))

  -- after a right side of some type
  after_right : (a b : Ty) (right : Result E V) (f : Number V → Outcome Reason (Number V)) → Typed b right
      → ((w : Number V) → type_of_number w ≡ b → Typed (either_type a (type_of_number w)) (f w)) → Typed (either_type a b) (right >>= λ w. told c (f w))
  after_right a b right f h k =
      then_if (λ w. type_of_number w ≡ b) (λ v. type_of_number v ≡ either_type a b) right _ h
      (λ w e. said c (either_type a b) (f w) (subst (λ (ty : Ty). IfGives (λ v. type_of_number v ≡ either_type a ty) (f w)) e (k w e)))

  binary_typed : (op : BinaryOp) (v : Number V) (b : Ty) (right : Result E V) → Typed b right
      → (is_remainder op && (is_real (type_of_number v) || is_real b)) ≡ false → Typed (type_of_binary op (type_of_number v) b) (binary_value c op v right)
  binary_typed Or v b right h k =
      chosen_if _ (is_true c.ops v) _ _ refl (then_if _ _ right _ (anything right) (λ w e. truth_typed V (is_true c.ops w)))
  binary_typed And v b right h k =
      chosen_if _ (is_true c.ops v) _ _ (then_if _ _ right _ (anything right) (λ w e. truth_typed V (is_true c.ops w))) refl
  binary_typed Equal v b right h k = then_if _ _ right _ (anything right) (λ w e. truth_typed V (is_same c.ops v w))
  binary_typed NotEqual v b right h k = then_if _ _ right _ (anything right) (λ w e. truth_typed V (not (is_same c.ops v w)))
  binary_typed Less v b right h k = then_if _ _ right _ (anything right) (λ w e. truth_typed V (is_less c.ops v w))
  binary_typed AtMost v b right h k = then_if _ _ right _ (anything right) (λ w e. truth_typed V (is_at_most c.ops v w))
  binary_typed Greater v b right h k = then_if _ _ right _ (anything right) (λ w e. truth_typed V (is_less c.ops w v))
  binary_typed AtLeast v b right h k = then_if _ _ right _ (anything right) (λ w e. truth_typed V (is_at_most c.ops w v))
  binary_typed Add v b right h k = after_right (type_of_number v) b right (sum_of c.ops v) h (λ w e. sum_typed c.ops v w)
  binary_typed Subtract v b right h k = after_right (type_of_number v) b right (difference_of c.ops v) h (λ w e. difference_typed c.ops v w)
  binary_typed Multiply v b right h k = after_right (type_of_number v) b right (product_of c.ops v) h (λ w e. product_typed c.ops v w)
  binary_typed Divide v b right h k = after_right (type_of_number v) b right (quotient_of c.ops v) h (λ w e. quotient_typed c.ops v w)
  binary_typed Remainder v b right h k =
      after_right (type_of_number v) b right (remainder_of c.ops v) h
      (λ w e. remainder_typed c.ops v w (subst (λ (c : Ty). (is_real (type_of_number v) || is_real c) ≡ false) (sym e) k))
  binary_typed Power v b right h k = then_if _ _ right _ (anything right) (λ w e. refl)

-- what the arguments of a call give, and their types, for those places that pass a test
abbrev Fit : {E V : Type 0} → (ℕ → Bool) → ℕ → List (Result E V) → List (Option Ty) → Type 0
Fit test i [] tys = Unit {0}
Fit test i (out ∷ outs) [] = Unit {0}
Fit test i (out ∷ outs) (None ∷ tys) = Fit test (i + 1) outs tys
Fit test i (out ∷ outs) (Some ty ∷ tys) = (test i ≡ true → Typed ty out) × Fit test (i + 1) outs tys

common_one : (ty : Ty) → common (Some ty ∷ []) ≡ ty
common_one Integer = refl
common_one RealTy = refl

too_many : (n k : ℕ) → k < n → (n == k) ≡ true → ⊥
too_many n k le h = omega (arith, le, exact_unsigned_eq n k h)

module _ {E V : Type 0} (M : Elaborated) (t : Typing) (fits : HasTyping M t) (c : Context E V) (point : IsTypedPoint t c.point) (F : Functions E V)
    (functions_typed : (f : ℕ) (outs : List (Result E V)) → Typed (result_type (slice_get M.functions f)) (F f outs)) where
  -- two values of some types
  after_two : (a b : Ty) (x y : Result E V) (f : Number V → Number V → Number V) → Typed a x → Typed b y
      → ((v w : Number V) → type_of_number (f v w) ≡ either_type (type_of_number v) (type_of_number w))
      → Typed (either_type a b) (x >>= λ v. y >>= λ w. gives (f v w))
  after_two a b x y f h k l =
      then_if (λ v. type_of_number v ≡ a) (λ v. type_of_number v ≡ either_type a b) x _ h
      (λ v e. then_if (λ w. type_of_number w ≡ b) (λ w. type_of_number w ≡ either_type a b) y _ k
      (λ w d. l v w ∙ (λ j. either_type (e j) (d j))))

  absolute_call_typed : (bytes : Bytes) (place : ℕ) (args : Arguments) (vars : Store V) → (argument_count args == 1) ≡ true
      → kind_faults t.uses (taken_at callee.Function bytes) 0 args ≡ []
      → Fit (call_looks callee.Function bytes) 0 (outcomes_of M c F place args vars) (types_of_arguments t args)
      → Typed (common (types_of_arguments t args)) (argument c.ops 0 (outcomes_of M c F place args vars) >>= λ v. told c (absolute_of c.ops v))
  absolute_call_typed bytes place no_more vars h k l = cc (h)
  absolute_call_typed bytes place (text_then text rest) vars h k l = cc (k)
  absolute_call_typed bytes place (expression_then e no_more) vars h k l =
      then_if (λ v. type_of_number v ≡ type_of t e) (λ v. type_of_number v ≡ common (Some (type_of t e) ∷ [])) (value_of M c F place e vars) (λ v. told c (absolute_of c.ops v)) (l.0 refl)
      (λ v d. subst (λ (ty : Ty). IfGives (λ w. type_of_number w ≡ ty) (told c (absolute_of c.ops v))) (d ∙ sym (common_one (type_of t e))) (said c (type_of_number v) (absolute_of c.ops v) (absolute_typed c.ops v)))
  absolute_call_typed bytes place (expression_then e (text_then text rest)) vars h k l = cc (k)
  absolute_call_typed bytes place (expression_then e (expression_then f rest)) vars h k l =
      absurd (too_many (argument_count rest + 1 + 1) 1 (omega arith) h)

  two_call_typed : (bytes : Bytes) (place : ℕ) (args : Arguments) (vars : Store V) (f : Number V → Number V → Number V)
      → ((v w : Number V) → type_of_number (f v w) ≡ either_type (type_of_number v) (type_of_number w)) → (argument_count args == 2) ≡ true
      → kind_faults t.uses (taken_at callee.Function bytes) 0 args ≡ []
      → Fit (call_looks callee.Function bytes) 0 (outcomes_of M c F place args vars) (types_of_arguments t args)
      → Typed (common (types_of_arguments t args)) (argument c.ops 0 (outcomes_of M c F place args vars) >>= λ v. argument c.ops 1 (outcomes_of M c F place args vars) >>= λ w. gives (f v w))
  two_call_typed bytes place no_more vars f m h k l = cc (h)
  two_call_typed bytes place (text_then text rest) vars f m h k l = cc (k)
  two_call_typed bytes place (expression_then d no_more) vars f m h k l = cc (h)
  two_call_typed bytes place (expression_then d (text_then text rest)) vars f m h k l = cc (k)
  two_call_typed bytes place (expression_then d (expression_then e no_more)) vars f m h k l =
      after_two (type_of t d) (type_of t e) _ _ f (l.0 refl) (l.1.0 refl) m
  two_call_typed bytes place (expression_then d (expression_then e (text_then text rest))) vars f m h k l = cc (k)
  two_call_typed bytes place (expression_then d (expression_then e (expression_then g rest))) vars f m h k l =
      absurd (too_many (argument_count rest + 1 + 1 + 1) 2 (omega arith) h)

  builtin_call_typed : (b : Builtin) (bytes : Bytes) (at place : ℕ) (args : Arguments) (vars : Store V) → takes b (argument_count args) ≡ true
      → kind_faults t.uses (taken_at callee.Function bytes) 0 args ≡ []
      → Fit (call_looks callee.Function bytes) 0 (outcomes_of M c F place args vars) (types_of_arguments t args)
      → Typed (answer_type b (types_of_arguments t args)) (builtin_value M c b at (outcomes_of M c F place args vars))
  builtin_call_typed (One f) bytes at place args vars h k l = then_if _ _ (argument c.ops 0 (outcomes_of M c F place args vars)) _ (anything (argument c.ops 0 (outcomes_of M c F place args vars))) (λ v e. refl)
  builtin_call_typed (Two f) bytes at place args vars h k l =
      then_if _ _ (argument c.ops 0 (outcomes_of M c F place args vars)) _ (anything (argument c.ops 0 (outcomes_of M c F place args vars)))
      (λ v e. then_if _ _ (argument c.ops 1 (outcomes_of M c F place args vars)) _ (anything (argument c.ops 1 (outcomes_of M c F place args vars))) (λ w d. refl))
  builtin_call_typed Abs bytes at place args vars h k l = absolute_call_typed bytes place args vars h k l
  builtin_call_typed Min bytes at place args vars h k l = two_call_typed bytes place args vars (minimum_of c.ops) (minimum_typed c.ops) h k l
  builtin_call_typed Max bytes at place args vars h k l = two_call_typed bytes place args vars (maximum_of c.ops) (maximum_typed c.ops) h k l
  builtin_call_typed LimExp bytes at place args vars h k l = then_if _ _ (argument c.ops 0 (outcomes_of M c F place args vars)) _ (anything (argument c.ops 0 (outcomes_of M c F place args vars))) (λ v e. refl)
  builtin_call_typed Ddt bytes at place args vars h k l = then_if _ _ (argument c.ops 0 (outcomes_of M c F place args vars)) _ (anything (argument c.ops 0 (outcomes_of M c F place args vars))) (λ v e. refl)
  builtin_call_typed LeftOut bytes at place args vars h k l =
      then_if (λ (x : V). Unit {0}) _ (c.answers at (outcomes_of M c F place args vars)) _ (anything (c.answers at (outcomes_of M c F place args vars))) (λ x i. refl)

  -- an access is real
  access_real : (m : Option Meaning) (fit : Bool) (args : List (Option Ty)) → means_access m ≡ true → type_of_called t fit args m ≡ RealTy
  access_real (Some (means.Access b turned flow)) fit args h = refl
  access_real None fit args h = cc (h)
  access_real (Some (means.Node b)) fit args h = cc (h)
  access_real (Some (means.Branch b)) fit args h = cc (h)
  access_real (Some (means.Param b)) fit args h = cc (h)
  access_real (Some (means.Var b)) fit args h = cc (h)
  access_real (Some (means.Function b)) fit args h = cc (h)
  access_real (Some (means.Discipline b)) fit args h = cc (h)
  access_real (Some (means.Nature b)) fit args h = cc (h)
  access_real (Some (means.Module b)) fit args h = cc (h)
  access_real (Some (means.Builtin b)) fit args h = cc (h)

  access_call_real : (e : Expression) → is_access_call t.uses e ≡ true → type_of t e ≡ RealTy
  access_call_real (call at callee.Function bytes args) h = access_real (meaning_at t.uses at) (arguments_fit t at callee.Function bytes args) (types_of_arguments t args) h
  access_call_real (call at callee.System bytes args) h = cc (h)
  access_call_real (literal at value integer) h = cc (h)
  access_call_real (infinity at) h = cc (h)
  access_call_real (name at bytes) h = cc (h)
  access_call_real (group at inner) h = cc (h)
  access_call_real (unary at op operand) h = cc (h)
  access_call_real (binary at left op right) h = cc (h)
  access_call_real (choose at test a b) h = cc (h)

  limit_call_typed : (place : ℕ) (args : Arguments) (vars : Store V) → system_takes Limit (argument_count args) ≡ true
      → kind_faults t.uses (taken_by Limit) 0 args ≡ []
      → Fit (argument_looked_at Limit) 0 (outcomes_of M c F place args vars) (types_of_arguments t args)
      → Typed RealTy (argument c.ops 0 (outcomes_of M c F place args vars))
  limit_call_typed place no_more vars h k l = refl
  limit_call_typed place (text_then text rest) vars h k l = refl
  limit_call_typed place (expression_then e rest) vars h k l =
      let access = from_not (is_access_call t.uses e) (no_fault (not (is_access_call t.uses e)) (at_of e) ArgumentKind (no_front (fault_if (not (is_access_call t.uses e)) (at_of e) ArgumentKind) _ k)) in
      subst (λ (ty : Ty). IfGives (λ v. type_of_number v ≡ ty) (value_of M c F place e vars)) (access_call_real e access) (l.0 refl)

  simparam_call_typed : (place : ℕ) (args : Arguments) (vars : Store V) → system_takes SimParam (argument_count args) ≡ true
      → kind_faults t.uses (taken_by SimParam) 0 args ≡ []
      → Fit (argument_looked_at SimParam) 0 (outcomes_of M c F place args vars) (types_of_arguments t args)
      → Typed (system_answer_type SimParam (types_of_arguments t args)) (argument c.ops 1 (outcomes_of M c F place args vars))
  simparam_call_typed place no_more vars h k l = refl
  simparam_call_typed place (text_then text no_more) vars h k l = refl
  simparam_call_typed place (text_then text (text_then other rest)) vars h k l = refl
  simparam_call_typed place (text_then text (expression_then e rest)) vars h k l = l.0 refl
  simparam_call_typed place (expression_then d rest) vars h k l = cc (k)

  system_call_typed : (s : SystemFunction) (place : ℕ) (args : Arguments) (vars : Store V) → system_takes s (argument_count args) ≡ true
      → kind_faults t.uses (taken_by s) 0 args ≡ []
      → Fit (argument_looked_at s) 0 (outcomes_of M c F place args vars) (types_of_arguments t args)
      → Typed (system_answer_type s (types_of_arguments t args)) (system_value M c s args (outcomes_of M c F place args vars))
  system_call_typed Temperature place args vars h k l = refl
  system_call_typed ThermalVoltage place args vars h k l = thermal (outcomes_of M c F place args vars)
    where
      thermal : (outs : List (Result E V)) → Typed RealTy (thermal_value M c outs)
      thermal [] = refl
      thermal (out ∷ outs) = then_if _ _ out _ (anything out) (λ v e. refl)
  system_call_typed Limit place args vars h k l = limit_call_typed place args vars h k l
  system_call_typed SimParam place args vars h k l = simparam_call_typed place args vars h k l
  system_call_typed ParamGiven place args vars h k l = truth_typed V (given_argument M c args)

  name_typed : (m : Option Meaning) (vars : Store V) → IsTypedStore M vars → type_of_number (named M c vars m) ≡ type_of_meaning t m
  name_typed (Some (means.Var x)) vars h = h x ∙ fits.variables x
  name_typed (Some (means.Param p)) vars h = point p
  name_typed None vars h = refl
  name_typed (Some (means.Node b)) vars h = refl
  name_typed (Some (means.Branch b)) vars h = refl
  name_typed (Some (means.Function b)) vars h = refl
  name_typed (Some (means.Discipline b)) vars h = refl
  name_typed (Some (means.Nature b)) vars h = refl
  name_typed (Some (means.Module b)) vars h = refl
  name_typed (Some (means.Builtin b)) vars h = refl
  name_typed (Some (means.Access b turned flow)) vars h = refl

  numeral_typed : (value : Decimal) (integer : Bool) → type_of_number (numeral c.ops value integer) ≡ type_of_literal integer
  numeral_typed value true = refl
  numeral_typed value false = refl

  word_call_typed : (m : Option Meaning) (bytes : Bytes) (at place : ℕ) (args : Arguments) (vars : Store V) → meaning_takes t m (argument_count args) ≡ true
      → kind_faults t.uses (taken_at callee.Function bytes) 0 args ≡ []
      → Fit (call_looks callee.Function bytes) 0 (outcomes_of M c F place args vars) (types_of_arguments t args)
      → Typed (type_of_called t true (types_of_arguments t args) m) (call_value M c F (called m callee.Function bytes) at args (outcomes_of M c F place args vars))
  word_call_typed (Some (means.Builtin row)) bytes at place args vars h k l = by_row (builtin_at row) h
    where
      by_row : (b : Option Builtin) → builtin_takes b (argument_count args) ≡ true
          → Typed (type_of_builtin b (types_of_arguments t args)) (call_value M c F (builtin_called b) at args (outcomes_of M c F place args vars))
      by_row None h = refl
      by_row (Some b) h = builtin_call_typed b bytes at place args vars h k l
  word_call_typed (Some (means.Function f)) bytes at place args vars h k l =
      subst (λ (ty : Ty). IfGives (λ v. type_of_number v ≡ ty) (F f (outcomes_of M c F place args vars))) (fits.functions f) (functions_typed f _)
  word_call_typed (Some (means.Access b turned flow)) bytes at place args vars h k l = refl
  word_call_typed None bytes at place args vars h k l = refl
  word_call_typed (Some (means.Node b)) bytes at place args vars h k l = refl
  word_call_typed (Some (means.Branch b)) bytes at place args vars h k l = refl
  word_call_typed (Some (means.Param b)) bytes at place args vars h k l = refl
  word_call_typed (Some (means.Var b)) bytes at place args vars h k l = refl
  word_call_typed (Some (means.Discipline b)) bytes at place args vars h k l = refl
  word_call_typed (Some (means.Nature b)) bytes at place args vars h k l = refl
  word_call_typed (Some (means.Module b)) bytes at place args vars h k l = refl

  name_call_typed : (s : Option SystemName) (at place : ℕ) (args : Arguments) (vars : Store V) → system_name_takes s (argument_count args) ≡ true
      → kind_faults t.uses (taken_by_name s) 0 args ≡ []
      → Fit (looks s) 0 (outcomes_of M c F place args vars) (types_of_arguments t args)
      → Typed (type_of_system true (types_of_arguments t args) s) (call_value M c F (system_called s) at args (outcomes_of M c F place args vars))
  name_call_typed (Some (system_name.Function s)) at place args vars h k l = system_call_typed s place args vars h k l
  name_call_typed (Some system_name.Task) at place args vars h k l = refl
  name_call_typed None at place args vars h k l = refl

  mutual
    pub value_typed : (place : ℕ) (e : Expression) (vars : Store V) → IsTypedStore M vars → flat_map (expression_faults t) (looked_at e) ≡ []
        → Typed (type_of t e) (value_of M c F place e vars)
    value_typed place (literal at value integer) vars h k = numeral_typed value integer
    value_typed place (infinity at) vars h k = refl
    value_typed place (name at bytes) vars h k = ap (λ m. type_of_number (named M c vars m)) (fits.meaning at) ∙ name_typed (meaning_at t.uses at) vars h
    value_typed place (group at inner) vars h k = value_typed (place + 1) inner vars h k
    value_typed place (unary at op operand) vars h k =
        then_if (λ v. type_of_number v ≡ type_of t operand) _ (value_of M c F (place + 1) operand vars) (unary_value c op) (value_typed (place + 1) operand vars h k)
        (λ v e. subst (λ (ty : Ty). IfGives (λ w. type_of_number w ≡ type_of_unary op ty) (unary_value c op v)) e (unary_typed c op v))
    value_typed place (binary at left op right) vars h k =
        let inside = no_back (expression_faults t (binary at left op right)) _ k in
        let both = sym (flat_map-append (expression_faults t) (looked_at left) (looked_at right)) ∙ inside in
        then_if (λ v. type_of_number v ≡ type_of t left) _ (value_of M c F (place + 1) left vars) _
        (value_typed (place + 1) left vars h (no_front (flat_map (expression_faults t) (looked_at left)) _ both))
        (λ v e. subst (λ (ty : Ty). IfGives (λ w. type_of_number w ≡ type_of_binary op ty (type_of t right)) (binary_value c op v (value_of M c F (place + 1 + size left) right vars))) e
        (binary_typed c op v (type_of t right) _
        (value_typed (place + 1 + size left) right vars h (no_back (flat_map (expression_faults t) (looked_at left)) _ both))
        (subst (λ (ty : Ty). (is_remainder op && (is_real ty || is_real (type_of t right))) ≡ false) (sym e)
        (no_fault _ at RealOperand (no_front (expression_faults t (binary at left op right)) _ k)))))
    value_typed place (choose at test a b) vars h k =
        then_if (λ v. Unit {0}) _ (value_of M c F (place + 1) test vars) _ (anything (value_of M c F (place + 1) test vars))
        (λ x i. then_if (λ v. Unit {0}) _ (if is_true c.ops x then value_of M c F (place + 1 + size test) a vars else value_of M c F (place + 1 + size test + size a) b vars) _ (anything _)
        (λ v i. subst (λ (ty : Ty). IfGives (λ w. type_of_number w ≡ ty) (told c (converted c.ops (joined (M.type_of a) (M.type_of b)) v)))
        (joined_either (M.type_of a) (M.type_of b) ∙ (λ j. either_type (fits.types a j) (fits.types b j)))
        (told_typed c (joined (M.type_of a) (M.type_of b)) v)))
    value_typed place (call at callee.Function bytes args) vars h k =
        let own = no_front (expression_faults t (call at callee.Function bytes args)) _ k in
        let count = no_front (fault_if (not (call_takes t at callee.Function bytes (argument_count args))) at ArgumentCount) _ own in
        subst (λ fit. Typed (type_of_call t at callee.Function bytes fit (types_of_arguments t args)) (value_of M c F place (call at callee.Function bytes args) vars)) (sym (arguments_of_sound_call t at callee.Function bytes args own))
        (subst (λ m. IfGives (λ v. type_of_number v ≡ type_of_called t true (types_of_arguments t args) (meaning_at t.uses at)) (call_value M c F (called m callee.Function bytes) place args (outcomes_of M c F (place + 1) args vars))) (sym (fits.meaning at))
        (word_call_typed (meaning_at t.uses at) bytes place (place + 1) args vars
        (from_not _ (no_fault _ at ArgumentCount count))
        (no_back (fault_if (not (call_takes t at callee.Function bytes (argument_count args))) at ArgumentCount) _ own)
        (arguments_typed (call_looks callee.Function bytes) 0 (place + 1) args vars h (no_back (expression_faults t (call at callee.Function bytes args)) _ k))))
    value_typed place (call at callee.System bytes args) vars h k =
        let own = no_front (expression_faults t (call at callee.System bytes args)) _ k in
        let count = no_front (fault_if (not (call_takes t at callee.System bytes (argument_count args))) at ArgumentCount) _ own in
        subst (λ fit. Typed (type_of_call t at callee.System bytes fit (types_of_arguments t args)) (value_of M c F place (call at callee.System bytes args) vars)) (sym (arguments_of_sound_call t at callee.System bytes args own))
        (name_call_typed (system_name_of bytes) place (place + 1) args vars
        (from_not _ (no_fault _ at ArgumentCount count))
        (no_back (fault_if (not (call_takes t at callee.System bytes (argument_count args))) at ArgumentCount) _ own)
        (arguments_typed (call_looks callee.System bytes) 0 (place + 1) args vars h (no_back (expression_faults t (call at callee.System bytes args)) _ k)))

    arguments_typed : (test : ℕ → Bool) (i place : ℕ) (args : Arguments) (vars : Store V) → IsTypedStore M vars
        → flat_map (expression_faults t) (looked_at_in_arguments test i args) ≡ []
        → Fit test i (outcomes_of M c F place args vars) (types_of_arguments t args)
    arguments_typed test i place no_more vars h k = tt
    arguments_typed test i place (text_then text rest) vars h k = arguments_typed test (i + 1) place rest vars h k
    arguments_typed test i place (expression_then e rest) vars h k =
        let both = sym (flat_map-append (expression_faults t) (if test i then looked_at e else []) (looked_at_in_arguments test (i + 1) rest)) ∙ k in (
          λ l. value_typed place e vars h
              (subst (λ (b : Bool). flat_map (expression_faults t) (if b then looked_at e else []) ≡ []) l (no_front (flat_map (expression_faults t) (if test i then looked_at e else [])) _ both)),
          arguments_typed test (i + 1) (place + size e) rest vars h (no_back (flat_map (expression_faults t) (if test i then looked_at e else [])) _ both),
        )
