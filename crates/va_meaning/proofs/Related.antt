-- Evaluations over related algebras at related points go alike: both are undefined for the same reason, or both end in related
-- states.
use Rattle.std.specs.Prelude.{◌≡◌, ℕ, zero, suc, ◌+◌, ◌==◌, Bool, true, false, not, ℤ, negsuc, if◌then◌else◌, List, [], ◌∷◌, ◌++◌, Option, Some, None, map, length}
use Rattle.std.specs.List.{position, slice_get}
use Rattle.std.proofs.Common.{refl, ap, subst, arith, inl, inr}
use Rattle.alg_laws.specs.declared.function.Fun1.TheVariants.{Exp}
use Rattle.alg_laws.specs.declared.number.Number.{Number}
use Rattle.alg_laws.specs.declared.number.Reason.{Reason}
use Rattle.alg_laws.specs.declared.number.Reason.TheVariants.{Turns}
use Rattle.alg_laws.specs.Loop.{while_turns}
use Rattle.alg_laws.specs.NumberOps.{joined, truth, is_true, to_integer}
use Rattle.alg_laws.specs.Outcome.{Outcome, gives, ◌>>=◌}
use Rattle.alg_laws.specs.Related.{NumbersRelated, reals, integers, OutcomesRelated, ListsRelated, no_more as none_more, one_more}
use Rattle.alg_laws.proofs.Related.{chosen_related, literal_related, to_real_related, to_integer_related, converted_related, zero_of_related, is_true_related, truth_related, sum_of_related, difference_of_related, product_of_related, quotient_of_related, remainder_of_related, power_of_related, negative_of_related, total_related, is_less_related, is_at_most_related, is_same_related, contrary_of_related, absolute_of_related, minimum_of_related, maximum_of_related, fun1_of_related, fun2_of_related}
use Rattle.alg_laws.proofs.Outcomes.{outcomes_same}
use Rattle.va_base.specs.declared.exact.Decimal.{Decimal}
use Rattle.va_sem.specs.declared.builtin.Builtin.{Builtin}
use Rattle.va_sem.specs.declared.builtin.Builtin.TheVariants.{One, Two, Abs, Min, Max, LimExp, Ddt, LeftOut}
use Rattle.va_sem.specs.declared.builtin.SystemFunction.{SystemFunction}
use Rattle.va_sem.specs.declared.builtin.SystemFunction.TheVariants.{Temperature, ThermalVoltage, Limit, SimParam, ParamGiven}
use Rattle.va_sem.specs.declared.branch.BranchKind.{BranchKind}
use Rattle.va_sem.specs.declared.branch.BranchKind.TheVariants as kind
use Rattle.va_sem.specs.declared.names.BranchName.{BranchName}
use Rattle.va_sem.specs.declared.branch.Unknown.{Unknown}
use Rattle.va_sem.specs.declared.branch.Unknown.TheVariants.{Node, Branch}
use Rattle.va_sem.specs.declared.names.Meaning.{Meaning}
use Rattle.va_sem.specs.declared.names.Meaning.TheVariants.{Param, Var, Access}
use Rattle.va_tree.specs.declared.expr.BinaryOp.{BinaryOp}
use Rattle.va_tree.specs.declared.expr.BinaryOp.TheVariants.{Or, And, Equal, NotEqual, Less, AtMost, Greater, AtLeast, Add, Subtract, Multiply, Divide, Remainder, Power}
use Rattle.va_tree.specs.declared.expr.UnaryOp.{UnaryOp}
use Rattle.va_tree.specs.declared.expr.UnaryOp.TheVariants.{Plus, Minus, Not}
use Rattle.va_tree.specs.declared.source.Quantity.{Quantity}
use Rattle.va_tree.specs.declared.source.Quantity.TheVariants.{Potential, Flow}
use Rattle.va_tree.specs.declared.stmt.EventKind.TheVariants.{InitialStep, FinalStep}
use Rattle.va_tree.specs.Expressions.{Expression, Arguments, literal, infinity, name, group, unary, binary, choose, call, no_more, text_then, expression_then}
use Rattle.va_tree.specs.Statements.{Statement, Statements, Items, Defaults, null, block, only_if, if_else, cases, for_loop, while_loop, repeat_loop, event, assign, contribute, task, no_more as no_statement, statement_then, no_items, item_then, no_defaults, default_then}
use Rattle.va_meaning.specs.Called.{Called, builtin, system, function, access, none}
use Rattle.va_meaning.specs.Elaborated.{Elaborated, Initialiser, Function}
use Rattle.va_meaning.specs.Evaluation.{zeros, started, initialised, passed, function_value, function_or_none, run_blocks, functions_to, functions, evaluated}
use Rattle.va_meaning.specs.Points.{Context, Result, Store, Held, State, held_of, is_quantity, without_unknowns, told}
use Rattle.va_meaning.specs.Related.{Endings, IsClosed, Alike, both_give, both_end, ResultsRelated, BoundsRelated, ContextsRelated, StoresRelated, HeldRelated, StatesRelated}
use Rattle.va_meaning.proofs.Endings.{less_bound, ends_first, then_alike, while_alike, repeated_alike, told_alike}
use Rattle.va_meaning.specs.Rows.{flow_of, given_to, all_given_to, row, residuals}
use Rattle.va_meaning.specs.Runs.{statement_size, quantity_of, marked, test_of, assigned, assign_value, contributed_to, contributed, is_among, run, run_all, run_case, run_default}
use Rattle.va_meaning.specs.Unknowns.{is_unknown, value_at, branch_of, signed, unknown_value, potential_between, access_value}
use Rattle.va_meaning.specs.Values.{Functions, size, argument, numeral, unary_value, binary_value, thermal_voltage, named, builtin_value, given_name, given_argument, thermal_value, system_value, call_value, value_of, outcomes_of}

-- functions that give related values for related arguments
abbrev pub FunctionsRelated : {E E' V W : Type 0} → Endings E E' → (V → W → Type 0) → Functions E V → Functions E' W → Type 0
FunctionsRelated {E} {E'} {V} {W} g R F G =
    (f : ℕ) (outs : List (Result E V)) (outs' : List (Result E' W)) → ListsRelated (ResultsRelated g R) outs outs' → ResultsRelated g R (F f outs) (G f outs')

module _ {E E' V W : Type 0} (g : Endings E E') (closed : IsClosed g) (M : Elaborated) (c : Context E V) (d : Context E' W) (R : V → W → Type 0) (h : ContextsRelated g R c d) where
  -- an operation of the language
  said : {A B : Type 0} {P : A → B → Type 0} {a : Outcome Reason A} {b : Outcome Reason B} → OutcomesRelated P a b → Alike g P (told c a) (told d b)
  said {P = P} k = told_alike g P c.stops d.stops h.stops k

  argument_related : (i : ℕ) {outs : List (Result E V)} {outs' : List (Result E' W)} → ListsRelated (ResultsRelated g R) outs outs'
      → ResultsRelated g R (argument c.ops i outs) (argument d.ops i outs')
  argument_related zero none_more = both_give (reals h.ops.zero)
  argument_related zero (one_more p ps) = p
  argument_related (suc i) none_more = both_give (reals h.ops.zero)
  argument_related (suc i) (one_more p ps) = argument_related i ps

  numeral_related : (value : Decimal) (integer : Bool) → NumbersRelated R (numeral c.ops value integer) (numeral d.ops value integer)
  numeral_related value true = integers
  numeral_related value false = reals (literal_related c.ops d.ops R h.ops value.mantissa value.power)

  unary_related : (op : UnaryOp) {v : Number V} {w : Number W} → NumbersRelated R v w
      → ResultsRelated g R (unary_value c op v) (unary_value d op w)
  unary_related Plus k = both_give k
  unary_related Minus k = said (negative_of_related c.ops d.ops R h.ops k)
  unary_related Not k = both_give (contrary_of_related c.ops d.ops R h.ops k)

  -- what is asked of the right side of && and ||
  asked_related : {a : Result E V} {b : Result E' W} → ResultsRelated g R a b
      → ResultsRelated g R (a >>= λ v. gives (truth (is_true c.ops v))) (b >>= λ w. gives (truth (is_true d.ops w)))
  asked_related l = then_alike g closed _ _ _ _ l (λ v w m. both_give (truth_related c.ops d.ops R h.ops _ _ (is_true_related c.ops d.ops R h.ops m)))

  binary_related : (op : BinaryOp) {v : Number V} {w : Number W} {a : Result E V} {b : Result E' W} → NumbersRelated R v w
      → ResultsRelated g R a b → ResultsRelated g R (binary_value c op v a) (binary_value d op w b)
  binary_related Or k l = chosen_related (ResultsRelated g R) _ _ _ _ _ _ (is_true_related c.ops d.ops R h.ops k) (both_give integers) (asked_related l)
  binary_related And k l = chosen_related (ResultsRelated g R) _ _ _ _ _ _ (is_true_related c.ops d.ops R h.ops k) (asked_related l) (both_give integers)
  binary_related Equal k l = then_alike g closed _ _ _ _ l (λ x y m. both_give (truth_related c.ops d.ops R h.ops _ _ (is_same_related c.ops d.ops R h.ops k m)))
  binary_related NotEqual k l = then_alike g closed _ _ _ _ l (λ x y m. both_give (truth_related c.ops d.ops R h.ops _ _ (ap not (is_same_related c.ops d.ops R h.ops k m))))
  binary_related Less k l = then_alike g closed _ _ _ _ l (λ x y m. both_give (truth_related c.ops d.ops R h.ops _ _ (is_less_related c.ops d.ops R h.ops k m)))
  binary_related AtMost k l = then_alike g closed _ _ _ _ l (λ x y m. both_give (truth_related c.ops d.ops R h.ops _ _ (is_at_most_related c.ops d.ops R h.ops k m)))
  binary_related Greater k l = then_alike g closed _ _ _ _ l (λ x y m. both_give (truth_related c.ops d.ops R h.ops _ _ (is_less_related c.ops d.ops R h.ops m k)))
  binary_related AtLeast k l = then_alike g closed _ _ _ _ l (λ x y m. both_give (truth_related c.ops d.ops R h.ops _ _ (is_at_most_related c.ops d.ops R h.ops m k)))
  binary_related Add k l = then_alike g closed _ _ _ _ l (λ x y m. said (sum_of_related c.ops d.ops R h.ops k m))
  binary_related Subtract k l = then_alike g closed _ _ _ _ l (λ x y m. said (difference_of_related c.ops d.ops R h.ops k m))
  binary_related Multiply k l = then_alike g closed _ _ _ _ l (λ x y m. said (product_of_related c.ops d.ops R h.ops k m))
  binary_related Divide k l = then_alike g closed _ _ _ _ l (λ x y m. said (quotient_of_related c.ops d.ops R h.ops k m))
  binary_related Remainder k l = then_alike g closed _ _ _ _ l (λ x y m. said (remainder_of_related c.ops d.ops R h.ops k m))
  binary_related Power k l = then_alike g closed _ _ _ _ l (λ x y m. said (power_of_related c.ops d.ops R h.ops k m))

  signed_related : (turned : Bool) (x : V) (u : W) → R x u → R (signed c.ops turned x) (signed d.ops turned u)
  signed_related true x u k = h.ops.negative x u k
  signed_related false x u k = k

  place_related : (i : Option ℕ) → R (value_at c.ops c.point.unknowns i) (value_at d.ops d.point.unknowns i)
  place_related None = h.ops.zero
  place_related (Some i) = h.point.unknowns i

  pub unknown_related : (u : Unknown) → R (unknown_value M c.ops c.point u) (unknown_value M d.ops d.point u)
  unknown_related u = place_related (position (is_unknown u) M.unknowns)

  pub potential_related : (plus : ℕ) (minus : Option ℕ)
      → R (potential_between M c.ops c.point plus minus) (potential_between M d.ops d.point plus minus)
  potential_related plus None = unknown_related (Node plus)
  potential_related plus (Some minus) =
      h.ops.sum _ _ _ _ (unknown_related (Node plus)) (h.ops.negative _ _ (unknown_related (Node minus)))

  access_related : (b : ℕ) (turned flow : Bool)
      → R (access_value M c.ops c.point b turned flow) (access_value M d.ops d.point b turned flow)
  access_related b turned true = signed_related turned _ _ (unknown_related (Branch b))
  access_related b turned false = signed_related turned _ _ (potential_related (branch_of M b).plus (branch_of M b).minus)

  named_related : (s : Store V) (t : Store W) → StoresRelated R s t → (m : Option Meaning) → NumbersRelated R (named M c s m) (named M d t m)
  named_related s t k (Some (Param p)) = h.point.parameters p
  named_related s t k (Some (Var x)) = k x
  named_related s t k m = reals h.ops.zero

  thermal_related : (x : V) (u : W) → R x u → R (thermal_voltage c.ops x) (thermal_voltage d.ops u)
  thermal_related x u k =
      h.ops.product _ _ _ _ (h.ops.product x _ u _ k (literal_related c.ops d.ops R h.ops 1380649 (negsuc 28)))
      (h.ops.recip _ _ (literal_related c.ops d.ops R h.ops 1602176634 (negsuc 27)))

  builtin_related : (b : Builtin) (place : ℕ) {outs : List (Result E V)} {outs' : List (Result E' W)} → ListsRelated (ResultsRelated g R) outs outs'
      → ResultsRelated g R (builtin_value M c b place outs) (builtin_value M d b place outs')
  builtin_related (One f) place k = then_alike g closed _ _ _ _ (argument_related 0 k) (λ v w l. both_give (fun1_of_related c.ops d.ops R h.ops f l))
  builtin_related (Two f) place k = then_alike g closed _ _ _ _ (argument_related 0 k) (λ v w l. then_alike g closed _ _ _ _ (argument_related 1 k) (λ v' w' l'. both_give (fun2_of_related c.ops d.ops R h.ops f l l')))
  builtin_related Abs place k = then_alike g closed _ _ _ _ (argument_related 0 k) (λ v w l. said (absolute_of_related c.ops d.ops R h.ops l))
  builtin_related Min place k = then_alike g closed _ _ _ _ (argument_related 0 k) (λ v w l. then_alike g closed _ _ _ _ (argument_related 1 k) (λ v' w' l'. both_give (minimum_of_related c.ops d.ops R h.ops l l')))
  builtin_related Max place k = then_alike g closed _ _ _ _ (argument_related 0 k) (λ v w l. then_alike g closed _ _ _ _ (argument_related 1 k) (λ v' w' l'. both_give (maximum_of_related c.ops d.ops R h.ops l l')))
  builtin_related LimExp place k = then_alike g closed _ _ _ _ (argument_related 0 k) (λ v w l. both_give (fun1_of_related c.ops d.ops R h.ops Exp l))
  builtin_related Ddt place k = then_alike g closed _ _ _ _ (argument_related 0 k) (λ v w l. both_give (reals (h.ops.product _ _ _ _ h.derivative (to_real_related c.ops d.ops R h.ops l))))
  builtin_related LeftOut place k = then_alike g closed R _ _ _ (h.answers place _ _ k) (λ x u l. both_give (reals l))

  given_related : (m : Option Meaning) → given_name M c m ≡ given_name M d m
  given_related (Some (Param p)) = h.point.given p
  given_related m = refl

  given_argument_related : (args : Arguments) → given_argument M c args ≡ given_argument M d args
  given_argument_related (expression_then (name at bytes) rest) = given_related (M.meaning at)
  given_argument_related args = refl

  thermal_value_related : {outs : List (Result E V)} {outs' : List (Result E' W)} → ListsRelated (ResultsRelated g R) outs outs'
      → ResultsRelated g R (thermal_value M c outs) (thermal_value M d outs')
  thermal_value_related none_more = both_give (reals (thermal_related _ _ h.point.temperature))
  thermal_value_related (one_more p ps) = then_alike g closed _ _ _ _ p (λ v w l. both_give (reals (thermal_related _ _ (to_real_related c.ops d.ops R h.ops l))))

  system_related : (s : SystemFunction) (args : Arguments) {outs : List (Result E V)} {outs' : List (Result E' W)} → ListsRelated (ResultsRelated g R) outs outs'
      → ResultsRelated g R (system_value M c s args outs) (system_value M d s args outs')
  system_related Temperature args k = both_give (reals h.point.temperature)
  system_related ThermalVoltage args k = thermal_value_related k
  system_related Limit args k = argument_related 0 k
  system_related SimParam args k = argument_related 1 k
  system_related ParamGiven args k = both_give (truth_related c.ops d.ops R h.ops _ _ (given_argument_related args))

  module _ (F : Functions E V) (G : Functions E' W) (fs : FunctionsRelated g R F G) where
    call_related : (what : Called) (place : ℕ) (args : Arguments) {outs : List (Result E V)} {outs' : List (Result E' W)} → ListsRelated (ResultsRelated g R) outs outs'
        → ResultsRelated g R (call_value M c F what place args outs) (call_value M d G what place args outs')
    call_related (builtin b) place args k = builtin_related b place k
    call_related (system s) place args k = system_related s args k
    call_related (function f) place args k = fs f _ _ k
    call_related (access b turned flow) place args k = both_give (reals (access_related b turned flow))
    call_related none place args k = both_give (reals h.ops.zero)

    mutual
      pub value_related : (place : ℕ) (e : Expression) (s : Store V) (t : Store W) → StoresRelated R s t
          → ResultsRelated g R (value_of M c F place e s) (value_of M d G place e t)
      value_related place (literal at value integer) s t k = both_give (numeral_related value integer)
      value_related place (infinity at) s t k = both_give (reals h.ops.zero)
      value_related place (name at bytes) s t k = both_give (named_related s t k (M.meaning at))
      value_related place (group at inner) s t k = value_related _ inner s t k
      value_related place (unary at op operand) s t k = then_alike g closed _ _ _ _ (value_related _ operand s t k) (λ v w l. unary_related op l)
      value_related place (binary at left op right) s t k = then_alike g closed _ _ _ _ (value_related _ left s t k) (λ v w l. binary_related op l (value_related _ right s t k))
      value_related place (choose at test a b) s t k =
          then_alike g closed _ _ _ _ (value_related _ test s t k)
          (λ v w l. then_alike g closed _ _ _ _ (chosen_related (ResultsRelated g R) _ _ _ _ _ _ (is_true_related c.ops d.ops R h.ops l) (value_related _ a s t k) (value_related _ b s t k))
          (λ v' w' l'. said (converted_related c.ops d.ops R h.ops (joined (M.type_of a) (M.type_of b)) l')))
      value_related place (call at callee bytes args) s t k = call_related _ place args (outcomes_related _ args s t k)

      outcomes_related : (place : ℕ) (args : Arguments) (s : Store V) (t : Store W) → StoresRelated R s t
          → ListsRelated (ResultsRelated g R) (outcomes_of M c F place args s) (outcomes_of M d G place args t)
      outcomes_related place no_more s t k = none_more
      outcomes_related place (text_then text rest) s t k = one_more (both_give (reals h.ops.zero)) (outcomes_related place rest s t k)
      outcomes_related place (expression_then e rest) s t k = one_more (value_related place e s t k) (outcomes_related _ rest s t k)

    test_related : (place : ℕ) (e : Expression) (s : State V) (t : State W) → StatesRelated R s t
        → Alike g ◌≡◌ (test_of M c F place e s) (test_of M d G place e t)
    test_related place e s t k = then_alike g closed _ _ _ _ (value_related place e s.variables t.variables k.variables) (λ v w l. both_give (is_true_related c.ops d.ops R h.ops l))

    number_related : (b : Bool) {v v' : Number V} {w w' : Number W} → NumbersRelated R v w → NumbersRelated R v' w'
        → NumbersRelated R (if b then v else v') (if b then w else w')
    number_related true k l = k
    number_related false k l = l

    assigned_related : (m : Option Meaning) {v : Number V} {w : Number W} (s : State V) (t : State W) → NumbersRelated R v w → StatesRelated R s t
        → Alike g (StatesRelated R) (assigned M c F m v s) (assigned M d G m w t)
    assigned_related (Some (Var x)) s t k l =
        then_alike g closed _ _ _ _ (said (converted_related c.ops d.ops R h.ops (M.variable_type x) k))
        (λ v w n. both_give (record { variables = λ y. number_related (y == x) n (l.variables y); held = l.held; marks = l.marks }))
    assigned_related m s t k l = both_give l

    assign_related : (m : Option Meaning) (place : ℕ) (e : Expression) (s : State V) (t : State W) → StatesRelated R s t
        → Alike g (StatesRelated R) (assign_value M c F m place e s) (assign_value M d G m place e t)
    assign_related m place e s t k = then_alike g closed _ _ _ _ (value_related place e s.variables t.variables k.variables) (λ v w l. assigned_related m s t l k)

    held_related : (q p p' : Quantity) (x : V) (u : W) → p ≡ p' → R x u
        → R (held_of c.ops q (record { quantity = p; sum = x })) (held_of d.ops q (record { quantity = p'; sum = u }))
    held_related q p p' x u e k = chosen_related R _ _ _ _ _ _ (ap (is_quantity q) e) k h.ops.zero

    branch_related : (b : Bool) {g g' : Held V} {k k' : Held W} → HeldRelated R g k → HeldRelated R g' k'
        → HeldRelated R (if b then g else g') (if b then k else k')
    branch_related true p q = p
    branch_related false p q = q

    mark_related : (b : Bool) {x x' y y' : Bool} → x ≡ y → x' ≡ y' → (if b then x else x') ≡ (if b then y else y')
    mark_related true p q = p
    mark_related false p q = q

    contributed_to_related : (b : ℕ) (q : Quantity) (biased : Bool) (x : V) (u : W) (s : State V) (t : State W) → R x u → StatesRelated R s t
        → StatesRelated R (contributed_to M c F b q biased x s) (contributed_to M d G b q biased u t)
    contributed_to_related b q biased x u s t k l = record {
      variables = l.variables;
      held = λ a. branch_related (a == b) (record { quantity = refl; sum = h.ops.sum _ _ _ _ (held_related q _ _ _ _ (l.held a).quantity (l.held a).sum) k }) (l.held a);
      marks = λ a. mark_related (a == b) (ap (marked q biased) (l.marks a)) (l.marks a);
    }

    contributed_related : (m : Option Meaning) (biased : Bool) {v : Number V} {w : Number W} (s : State V) (t : State W) → NumbersRelated R v w → StatesRelated R s t
        → StatesRelated R (contributed M c F m biased v s) (contributed M d G m biased w t)
    contributed_related (Some (Access b turned flow)) biased s t k l =
        contributed_to_related b (quantity_of flow) biased _ _ s t (signed_related turned _ _ (to_real_related c.ops d.ops R h.ops k)) l
    contributed_related m biased s t k l = l

    among_related : (place : ℕ) (es : List Expression) {v : Number V} {w : Number W} (s : State V) (t : State W) → NumbersRelated R v w → StatesRelated R s t
        → Alike g ◌≡◌ (is_among M c F place es v s) (is_among M d G place es w t)
    among_related place [] s t k l = both_give refl
    among_related place (e ∷ es) s t k l =
        then_alike g closed _ _ _ _ (value_related place e s.variables t.variables l.variables)
        (λ v w n. chosen_related (Alike g ◌≡◌) _ _ _ _ _ _ (is_same_related c.ops d.ops R h.ops k n) (both_give refl) (among_related (place + size e) es s t k l))

    -- `while` with the two bounds
    bounded_related : (test : State V → Outcome E Bool) (test' : State W → Outcome E' Bool)
        (turn : State V → Outcome E (State V)) (turn' : State W → Outcome E' (State W))
        → ((s : State V) (t : State W) → StatesRelated R s t → Alike g ◌≡◌ (test s) (test' t))
        → ((s : State V) (t : State W) → StatesRelated R s t → Alike g (StatesRelated R) (turn s) (turn' t))
        → (s : State V) (t : State W) → StatesRelated R s t
        → Alike g (StatesRelated R) (while_turns (c.stops Turns) test turn c.bound s) (while_turns (d.stops Turns) test' turn' d.bound t)
    bounded_related test test' turn turn' k l s t n =
        while_alike g closed (StatesRelated R) (c.stops Turns) (d.stops Turns) (h.stops Turns) test test' turn turn' k l c.bound d.bound h.bound s t n

    count_related : (v : Number V) (w : Number W) → NumbersRelated R v w → Alike g ◌≡◌ (told c (to_integer c.ops v)) (told d (to_integer d.ops w))
    count_related v w k =
        said (subst (λ (i : Outcome Reason ℤ). OutcomesRelated ◌≡◌ (to_integer c.ops v) i) (to_integer_related c.ops d.ops R h.ops k)
        (outcomes_same ◌≡◌ (λ i. refl) (to_integer c.ops v)))

    mutual
      pub run_related : (biased : Bool) (place : ℕ) (p : Statement) (s : State V) (t : State W) → StatesRelated R s t
          → Alike g (StatesRelated R) (run M c F biased place p s) (run M d G biased place p t)
      run_related biased place (null at) s t k = both_give k
      run_related biased place (block at label declarations body) s t k = run_all_related biased _ body s t k
      run_related biased place (only_if at test a) s t k =
          then_alike g closed _ _ _ _ (test_related _ test s t k) (λ b b' e. chosen_related (Alike g (StatesRelated R)) b b' _ _ _ _ e (run_related _ _ a s t k) (both_give k))
      run_related biased place (if_else at test a b) s t k =
          then_alike g closed _ _ _ _ (test_related _ test s t k) (λ x x' e. chosen_related (Alike g (StatesRelated R)) x x' _ _ _ _ e (run_related _ _ a s t k) (run_related _ _ b s t k))
      run_related biased place (cases at selector items defaults) s t k =
          then_alike g closed _ _ _ _ (value_related _ selector s.variables t.variables k.variables)
          (λ v w l. run_case_related _ _ items _ _ (λ s t k. run_default_related _ _ defaults s t k) s t l k)
      run_related biased place (for_loop at target first test target' step body) s t k =
          then_alike g closed _ _ _ _ (assign_related _ _ first s t k)
          (λ s' t' k'. bounded_related _ _ _ _ (λ s t k. test_related _ test s t k)
          (λ s t k. then_alike g closed _ _ _ _ (run_related _ _ body s t k) (λ s t k. assign_related _ _ step s t k)) s' t' k')
      run_related biased place (while_loop at test body) s t k =
          bounded_related _ _ _ _ (λ s t k. test_related _ test s t k) (λ s t k. run_related _ _ body s t k) s t k
      run_related biased place (repeat_loop at count body) s t k =
          then_alike g closed _ _ _ _ (value_related _ count s.variables t.variables k.variables)
          (λ v w l. then_alike g closed ◌≡◌ _ _ _ (count_related v w l) (λ i j e. repeated_alike g closed (StatesRelated R) (c.stops Turns) (d.stops Turns) (h.stops Turns) c.bound d.bound h.bound i j e _ _ (λ s t k. run_related _ _ body s t k) s t k))
      run_related biased place (event at InitialStep analyses body) s t k = run_related biased place body s t k
      run_related biased place (event at FinalStep analyses body) s t k = both_give k
      run_related biased place (assign at target value) s t k = assign_related _ _ value s t k
      run_related biased place (contribute at bytes first second value) s t k =
          then_alike g closed _ _ _ _ (value_related _ value s.variables t.variables k.variables) (λ v w l. both_give (contributed_related (M.meaning at) biased s t l k))
      run_related biased place (task at bytes args) s t k = both_give k

      run_all_related : (biased : Bool) (place : ℕ) (ps : Statements) (s : State V) (t : State W) → StatesRelated R s t
          → Alike g (StatesRelated R) (run_all M c F biased place ps s) (run_all M d G biased place ps t)
      run_all_related biased place no_statement s t k = both_give k
      run_all_related biased place (statement_then p ps) s t k =
          then_alike g closed _ _ _ _ (run_related _ _ p s t k) (λ s t k. run_all_related _ _ ps s t k)

      run_case_related : (biased : Bool) (place : ℕ) (items : Items) (otherwise : State V → Outcome E (State V)) (otherwise' : State W → Outcome E' (State W))
          → ((s : State V) (t : State W) → StatesRelated R s t → Alike g (StatesRelated R) (otherwise s) (otherwise' t))
          → {v : Number V} {w : Number W} (s : State V) (t : State W) → NumbersRelated R v w → StatesRelated R s t
          → Alike g (StatesRelated R) (run_case M c F biased place v items otherwise s) (run_case M d G biased place w items otherwise' t)
      run_case_related biased place no_items otherwise otherwise' o s t l k = o s t k
      run_case_related biased place (item_then at values body rest) otherwise otherwise' o s t l k =
          then_alike g closed _ _ _ _ (among_related _ values s t l k)
          (λ b b' e. chosen_related (Alike g (StatesRelated R)) b b' _ _ _ _ e (run_related _ _ body s t k) (run_case_related _ _ rest otherwise otherwise' o s t l k))

      run_default_related : (biased : Bool) (place : ℕ) (defaults : Defaults) (s : State V) (t : State W) → StatesRelated R s t
          → Alike g (StatesRelated R) (run_default M c F biased place defaults s) (run_default M d G biased place defaults t)
      run_default_related biased place no_defaults s t k = both_give k
      run_default_related biased place (default_then at body rest) s t k = run_related biased place body s t k

    initialised_related : (is : List Initialiser) (s : Store V) (t : Store W) → StoresRelated R s t
        → Alike g (StoresRelated R) (initialised M c F is s) (initialised M d G is t)
    initialised_related [] s t k = both_give k
    initialised_related (i ∷ is) s t k =
        then_alike g closed _ _ _ _ (value_related 0 i.value s t k)
        (λ v w l. then_alike g closed _ _ _ _ (said (converted_related c.ops d.ops R h.ops (M.variable_type i.variable) l))
        (λ v' w' l'. initialised_related is _ _ (λ y. number_related (y == i.variable) l' (k y))))

    passed_related : (xs : List ℕ) {outs : List (Result E V)} {outs' : List (Result E' W)} (s : Store V) (t : Store W)
        → ListsRelated (ResultsRelated g R) outs outs' → StoresRelated R s t
        → Alike g (StoresRelated R) (passed M c F xs outs s) (passed M d G xs outs' t)
    passed_related [] s t k l = both_give l
    passed_related (x ∷ xs) s t none_more l = both_give l
    passed_related (x ∷ xs) s t (one_more p ps) l =
        then_alike g closed _ _ _ _ p (λ v w n. then_alike g closed _ _ _ _ (said (converted_related c.ops d.ops R h.ops (M.variable_type x) n))
        (λ v' w' n'. passed_related xs _ _ ps (λ y. number_related (y == x) n' (l y))))

    started_related : (s : Store V) (t : Store W) → StoresRelated R s t → StatesRelated R (started M c.ops s) (started M d.ops t)
    started_related s t k = record { variables = k; held = λ b. record { quantity = refl; sum = h.ops.zero }; marks = λ b. refl }

    zeros_related : StoresRelated R (zeros M c.ops) (zeros M d.ops)
    zeros_related x = zero_of_related c.ops d.ops R h.ops (M.variable_type x)

    function_value_related : (f : Function) {outs : List (Result E V)} {outs' : List (Result E' W)} → ListsRelated (ResultsRelated g R) outs outs'
        → ResultsRelated g R (function_value M c F f outs) (function_value M d G f outs')
    function_value_related f k =
        then_alike g closed _ _ _ _ (passed_related f.arguments _ _ k zeros_related)
        (λ s t l. then_alike g closed _ _ _ _ (initialised_related f.initialisers s t l)
        (λ s t l. then_alike g closed _ _ _ _ (run_related false 0 f.body _ _ (started_related s t l))
        (λ s t l. said (converted_related c.ops d.ops R h.ops f.ty (l.variables f.result)))))

    function_or_none_related : (f : Option Function) {outs : List (Result E V)} {outs' : List (Result E' W)} → ListsRelated (ResultsRelated g R) outs outs'
        → ResultsRelated g R (function_or_none M c F f outs) (function_or_none M d G f outs')
    function_or_none_related None k = both_give (reals h.ops.zero)
    function_or_none_related (Some f) k = function_value_related f k

    run_blocks_related : (place : ℕ) (blocks : List Statement) (s : State V) (t : State W) → StatesRelated R s t
        → Alike g (StatesRelated R) (run_blocks M c F place blocks s) (run_blocks M d G place blocks t)
    run_blocks_related place [] s t k = both_give k
    run_blocks_related place (p ∷ ps) s t k =
        then_alike g closed _ _ _ _ (run_related false place p s t k) (λ s t k. run_blocks_related (place + statement_size p) ps s t k)

  pub functions_related : (depth more : ℕ) → BoundsRelated g (c.stops Turns) depth more → FunctionsRelated g R (functions_to M c depth) (functions_to M d more)
  functions_related zero zero bound f outs outs' k = both_end (h.stops Turns)
  functions_related zero (suc more) (inl same) f outs outs' k = absurd (omega (arith, same))
  functions_related zero (suc more) (inr alone) f outs outs' k = ends_first g closed (NumbersRelated R) (c.stops Turns) alone.1 _
  functions_related (suc depth) zero (inl same) f outs outs' k = absurd (omega (arith, same))
  functions_related (suc depth) zero (inr alone) f outs outs' k = absurd (omega (arith, alone.0))
  functions_related (suc depth) (suc more) bound f outs outs' k =
      function_or_none_related (functions_to M c depth) (functions_to M d more) (functions_related depth more (less_bound g (c.stops Turns) depth more bound)) (slice_get M.functions f) k

  evaluated_by : FunctionsRelated g R (functions M c) (functions M d)
      → Alike g (StoresRelated R) (initialised M (without_unknowns c) (functions M c) M.initialisers (zeros M c.ops)) (initialised M (without_unknowns d) (functions M d) M.initialisers (zeros M d.ops))
      → Alike g (StatesRelated R) (evaluated M c) (evaluated M d)
  evaluated_by fs begun =
      then_alike g closed _ _ _ _ begun
      (λ s t k. run_blocks_related (functions M c) (functions M d) fs 0 M.blocks _ _ (started_related (functions M c) (functions M d) fs s t k))

  -- rows
  if_related : (b b' : Bool) {xs : List V} {ys : List W} → b ≡ b' → ListsRelated R xs ys
      → ListsRelated R (if b then xs else []) (if b' then ys else [])
  if_related b b' e k = chosen_related (ListsRelated R) b b' _ _ _ _ e k none_more

  flow_related : (s : State V) (t : State W) → StatesRelated R s t → (b : ℕ) (k : BranchKind) → ListsRelated R (flow_of M c s b k) (flow_of M d t b k)
  flow_related s t l b kind.Flow = one_more (chosen_related R _ _ _ _ _ _ (ap (is_quantity Flow) (l.held b).quantity) (l.held b).sum h.ops.zero) none_more
  flow_related s t l b kind.Collapsing =
      if_related _ _ (ap (is_quantity Flow) (l.held b).quantity)
      (one_more (chosen_related R _ _ _ _ _ _ (ap (is_quantity Flow) (l.held b).quantity) (l.held b).sum h.ops.zero) none_more)
  flow_related s t l b kind.Potential = one_more (unknown_related (Branch b)) none_more

  negatives_related : {xs : List V} {ys : List W} → ListsRelated R xs ys → ListsRelated R (map c.ops.negative xs) (map d.ops.negative ys)
  negatives_related none_more = none_more
  negatives_related (one_more p ps) = one_more (h.ops.negative _ _ p) (negatives_related ps)

  joined_related : {A B : Type 0} {P : A → B → Type 0} {xs xs' : List A} {ys ys' : List B} → ListsRelated P xs ys → ListsRelated P xs' ys' → ListsRelated P (xs ++ xs') (ys ++ ys')
  joined_related none_more k = k
  joined_related (one_more p ps) k = one_more p (joined_related ps k)

  given_to_related : (s : State V) (t : State W) → StatesRelated R s t → (node b : ℕ) (branch : BranchName)
      → ListsRelated R (given_to M c s node b branch) (given_to M d t node b branch)
  given_to_related s t l node b branch =
      joined_related (if_related _ _ refl (flow_related s t l b (M.kind b)))
      (if_related _ _ refl (negatives_related (flow_related s t l b (M.kind b))))

  all_given_to_related : (s : State V) (t : State W) → StatesRelated R s t → (node b : ℕ) (branches : List BranchName)
      → ListsRelated R (all_given_to M c s node b branches) (all_given_to M d t node b branches)
  all_given_to_related s t l node b [] = none_more
  all_given_to_related s t l node b (branch ∷ rest) =
      joined_related (given_to_related s t l node b branch) (all_given_to_related s t l node (b + 1) rest)

  row_related : (s : State V) (t : State W) → StatesRelated R s t → (u : Unknown) → R (row M c s u) (row M d t u)
  row_related s t l (Node a) = total_related c.ops d.ops R h.ops (all_given_to_related s t l a 0 M.branches)
  row_related s t l (Branch b) =
      h.ops.sum _ _ _ _ (potential_related (branch_of M b).plus (branch_of M b).minus)
      (h.ops.negative _ _ (chosen_related R _ _ _ _ _ _ (ap (is_quantity Potential) (l.held b).quantity) (l.held b).sum h.ops.zero))

  rows_related : (s : State V) (t : State W) → StatesRelated R s t → (us : List Unknown) → ListsRelated R (map (row M c s) us) (map (row M d t) us)
  rows_related s t l [] = none_more
  rows_related s t l (u ∷ us) = one_more (row_related s t l u) (rows_related s t l us)

  residuals_by : Alike g (StatesRelated R) (evaluated M c) (evaluated M d) → Alike g (ListsRelated R) (residuals M c) (residuals M d)
  residuals_by h = then_alike g closed _ _ _ _ h (λ s t k. both_give (rows_related s t k M.unknowns))

module _ {E E' V W : Type 0} (g : Endings E E') (closed : IsClosed g) (M : Elaborated) (c : Context E V) (d : Context E' W) (R : V → W → Type 0) (h : ContextsRelated g R c d) where
  pub related_without_unknowns : ContextsRelated g R (without_unknowns c) (without_unknowns d)
  related_without_unknowns = record {
    ops = h.ops;
    derivative = h.derivative;
    point = record { parameters = h.point.parameters; given = h.point.given; temperature = h.point.temperature; unknowns = λ i. h.ops.zero };
    bound = h.bound;
    stops = h.stops;
    answers = h.answers;
  }

  pub evaluated_related : Alike g (StatesRelated R) (evaluated M c) (evaluated M d)
  evaluated_related =
      let c' = without_unknowns c in
      let d' = without_unknowns d in
      let h' = related_without_unknowns in
      let fs = functions_related g closed M c' d' R h' (length M.functions) (length M.functions) (inl refl) in
      evaluated_by g closed M c d R h fs
      (initialised_related g closed M c' d' R h' (functions M c) (functions M d) fs M.initialisers _ _ (zeros_related g closed M c' d' R h' (functions M c) (functions M d) fs))

  pub residuals_related : Alike g (ListsRelated R) (residuals M c) (residuals M d)
  residuals_related = residuals_by g closed M c d R h evaluated_related
