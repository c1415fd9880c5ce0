-- Bodies over related algebras go alike. A body that obeys the invariant reads what is in scope and what its frame has, so no more
-- than that has to be related.
use Rattle.std.specs.Prelude.{◌≡◌, ℕ, zero, suc, ◌==◌, Bool, true, false, not, ℤ, pos, if◌then◌else◌, List, [], ◌∷◌, ◌++◌, Option, Some, map, length, get_or}
use Rattle.std.specs.List.{slice_get}
use Rattle.std.proofs.Common.{refl, ap, subst, sym, ◌∙◌, arith}
use Rattle.std.proofs.lemmas.Bool.Decides.{nat_tests}
use Rattle.alg_laws.specs.declared.number.Number.{Number}
use Rattle.alg_laws.specs.declared.number.Number.TheVariants.{Int}
use Rattle.alg_laws.specs.declared.number.Reason.{Reason}
use Rattle.alg_laws.specs.declared.number.Reason.TheVariants.{Turns}
use Rattle.alg_laws.specs.declared.number.Ty.{Ty}
use Rattle.alg_laws.specs.declared.number.Ty.TheVariants as type
use Rattle.alg_laws.specs.IntegerOps.{ranged, int_sum, int_difference, int_product, int_negative, int_quotient, int_remainder}
use Rattle.alg_laws.specs.NumberOps.{as_int, truth, is_true}
use Rattle.alg_laws.specs.Outcome.{Outcome, gives, ends}
use Rattle.alg_laws.specs.Related.{NumbersRelated, reals as reals_related, integers as integers_related, OutcomesRelated, both_give as outcomes_give, both_end as outcomes_end}
use Rattle.alg_laws.proofs.Related.{chosen_related, literal_related, whole_related, to_real_related, is_true_related, is_less_related, is_at_most_related, is_same_related}
use Rattle.ssa_ir.specs.declared.body.BinaryOperator.{BinaryOperator}
use Rattle.ssa_ir.specs.declared.body.Function.{Function}
use Rattle.ssa_ir.specs.declared.body.Operation.{Operation}
use Rattle.ssa_ir.specs.declared.body.UnaryOperator.{UnaryOperator}
use Rattle.ssa_ir.specs.Body.{Merge, first_of, second_of, Step, Steps, value, choice, loop, stop, step}
use Rattle.ssa_ir.specs.Context.{Context, Inputs, told}
use Rattle.ssa_ir.specs.Evaluation.{Values, Calls, with_value, merged, AtTest, unary_value, binary_value, computed, run_step, run, function_value, calls_from, calls}
use Rattle.ssa_ir.specs.Flat.{steps_of}
use Rattle.ssa_ir.specs.Invariant.{Signature, Frame, Scope, UnaryType, negative, contrary, to_real, to_integer, time_derivative, BinaryType, sum, difference, product, quotient, remainder, less, at_most, equal, not_equal, AreInScope, HasType, literal, integer, parameter, given, temperature, unknown, cell, unary, binary, one, two, call, with_merges, behind_step, behind, IsInScope, MergesIn, StepIsTyped, IsTyped, arguments_in, signature_of, function_frame, IsFunction, AreFunctions, signatures_from, signatures}
use Rattle.ssa_ir.specs.Invariant.{no_more as none_in_scope, one_more as one_in_scope}
use Rattle.ssa_ir.specs.Laws.{Knows}
use Rattle.ssa_ir.specs.Related.{Endings, IsClosed, Alike, both_give, RelatedAt, reals, integers, ValuesRelated, InputsRelated, ContextsRelated, ArgumentsRelated, no_more, one_more, CallsRelated}
use Rattle.ssa_ir.proofs.Endings.{told_alike, then_alike, turns_alike}

-- values of a type are values
number_at : {V W : Type 0} (R : V → W → Type 0) {t : Ty} {x : Number V} {y : Number W} → RelatedAt R t x y → NumbersRelated R x y
number_at R (reals h) = reals_related h
number_at R integers = integers_related

as_int_at : {V W : Type 0} (R : V → W → Type 0) (a : Outcome Reason ℤ) → OutcomesRelated (RelatedAt R type.Integer) (as_int a) (as_int a)
as_int_at R (gives i) = outcomes_give integers
as_int_at R (ends e) = outcomes_end

as_int_same : {V W : Type 0} (R : V → W → Type 0) (a b : Outcome Reason ℤ) → a ≡ b → OutcomesRelated (RelatedAt R type.Integer) (as_int a) (as_int b)
as_int_same R a b e = subst (λ (t : Outcome Reason ℤ). OutcomesRelated (RelatedAt R type.Integer) (as_int a) (as_int t)) e (as_int_at R a)

truth_at : {V W : Type 0} (R : V → W → Type 0) (b c : Bool) → b ≡ c → RelatedAt R type.Integer (truth b) (truth c)
truth_at R true true e = integers
truth_at R true false e = cc
truth_at R false true e = cc
truth_at R false false e = integers

-- what is in scope, where one number more is
chosen_at : {V W : Type 0} (R : V → W → Type 0) (b : Bool) {u : Ty} {rest : Option Ty} {x y : Number V} {x' y' : Number W} → RelatedAt R u x x'
    → ((t : Ty) → rest ≡ Some t → RelatedAt R t y y') → (t : Ty) → (if b then Some u else rest) ≡ Some t
    → RelatedAt R t (if b then x else y) (if b then x' else y')
chosen_at R true {u = u} {x = x} {x' = x'} h k t e =
    let same : u ≡ t = cc (e) in
    subst (λ (s : Ty). RelatedAt R s x x') same h
chosen_at R false h k t e = k t e

value_put : {V W : Type 0} (R : V → W → Type 0) (sc : Scope) (k : ℕ) (t : Ty) {v : Values V} {w : Values W} {x : Number V} {y : Number W}
    → ValuesRelated R sc v w → RelatedAt R t x y → ValuesRelated R (with_value sc k (Some t)) (with_value v k x) (with_value w k y)
value_put R sc k t q h j u e = chosen_at R (j == k) h (λ u e. q j u e) u e

pub merged_related : {V W : Type 0} (R : V → W → Type 0) (side : Merge → ℕ) (ms : List Merge) (sc inside : Scope) {v iv : Values V} {w iw : Values W}
    → MergesIn side inside ms → ValuesRelated R inside iv iw → ValuesRelated R sc v w
    → ValuesRelated R (with_merges ms sc) (merged side ms iv v) (merged side ms iw w)
merged_related R side [] sc inside i p q j t e = q j t e
merged_related R side (m ∷ ms) sc inside i p q j t e =
    chosen_at R (j == m.number) (p (side m) m.ty i.0) (λ u e. merged_related R side ms sc inside i.1 p q j u e) t e

module _ {E F V W : Type 0} (g : Endings E F) (closed : IsClosed g) (f : Frame) (c : Context E V) (d : Context F W) (R : V → W → Type 0) (h : ContextsRelated g R f c d) where
  said : {A B : Type 0} {P : A → B → Type 0} {a : Outcome Reason A} {b : Outcome Reason B} → OutcomesRelated P a b → Alike g P (told c a) (told d b)
  said {P = P} k = told_alike g P c.stops d.stops h.stops k

  unary_related : {op : UnaryOperator} {t u : Ty} {x : Number V} {y : Number W} → UnaryType f op t u → RelatedAt R t x y
      → Alike g (RelatedAt R u) (unary_value c op x) (unary_value d op y)
  unary_related negative (reals k) = said (outcomes_give (reals (h.ops.negative _ _ k)))
  unary_related negative (integers {i = i}) = said (as_int_at R (int_negative i))
  unary_related contrary k = both_give (truth_at R _ _ (ap not (is_true_related c.ops d.ops R h.ops (number_at R k))))
  unary_related to_real (integers {i = i}) = said (outcomes_give (reals (whole_related c.ops d.ops R h.ops i)))
  unary_related to_integer (reals k) = said (as_int_same R _ _ (ap ranged (h.ops.near _ _ k)))
  unary_related (time_derivative e) (reals k) = both_give (reals (h.ops.product _ _ _ _ (h.inputs.derivative e) k))

  binary_related : {op : BinaryOperator} {t u : Ty} {x y : Number V} {x' y' : Number W} → BinaryType op t u → RelatedAt R t x x' → RelatedAt R t y y'
      → Alike g (RelatedAt R u) (binary_value c op x y) (binary_value d op x' y')
  binary_related sum (reals k) (reals l) = said (outcomes_give (reals (h.ops.sum _ _ _ _ k l)))
  binary_related sum (integers {i = i}) (integers {i = j}) = said (as_int_at R (int_sum i j))
  binary_related difference (reals k) (reals l) = said (outcomes_give (reals (h.ops.sum _ _ _ _ k (h.ops.negative _ _ l))))
  binary_related difference (integers {i = i}) (integers {i = j}) = said (as_int_at R (int_difference i j))
  binary_related product (reals k) (reals l) = said (outcomes_give (reals (h.ops.product _ _ _ _ k l)))
  binary_related product (integers {i = i}) (integers {i = j}) = said (as_int_at R (int_product i j))
  binary_related quotient (reals k) (reals l) = said (outcomes_give (reals (h.ops.product _ _ _ _ k (h.ops.recip _ _ l))))
  binary_related quotient (integers {i = i}) (integers {i = j}) = said (as_int_at R (int_quotient i j))
  binary_related remainder (integers {i = i}) (integers {i = j}) = said (as_int_at R (int_remainder i j))
  binary_related less k l = both_give (truth_at R _ _ (is_less_related c.ops d.ops R h.ops (number_at R k) (number_at R l)))
  binary_related at_most k l = both_give (truth_at R _ _ (is_at_most_related c.ops d.ops R h.ops (number_at R k) (number_at R l)))
  binary_related equal k l = both_give (truth_at R _ _ (is_same_related c.ops d.ops R h.ops (number_at R k) (number_at R l)))
  binary_related not_equal k l = both_give (truth_at R _ _ (ap not (is_same_related c.ops d.ops R h.ops (number_at R k) (number_at R l))))

  arguments_related : (sc : Scope) {v : Values V} {w : Values W} → ValuesRelated R sc v w → {ks : List ℕ} {ts : List Ty} → AreInScope sc ks ts
      → ArgumentsRelated R ts (map v ks) (map w ks)
  arguments_related sc q none_in_scope = no_more
  arguments_related sc q (one_in_scope {k = k} {t = t} e rest) = one_more (q k t e) (arguments_related sc q rest)

  module _ (C : Calls E V) (D : Calls F W) (calls : CallsRelated g R f.functions C D) where
    computed_related : (sc : Scope) {op : Operation} {t : Ty} (v : Values V) (w : Values W) → HasType f sc op t → ValuesRelated R sc v w
        → Alike g (RelatedAt R t) (computed c C op v) (computed d D op w)
    computed_related sc v w (literal {d = n}) q = both_give (reals (literal_related c.ops d.ops R h.ops n.mantissa n.power))
    computed_related sc v w (integer i) q = both_give integers
    computed_related sc v w (parameter {p = p} {t = t} e) q = both_give (h.inputs.parameters p t e)
    computed_related sc v w (given {p = p} e l) q = both_give (truth_at R _ _ (h.inputs.given p e l))
    computed_related sc v w (temperature e) q = both_give (reals (h.inputs.temperature e))
    computed_related sc v w (unknown {j = j} l) q = both_give (reals (h.inputs.unknowns j l))
    computed_related sc v w (cell {i = i} {t = t} e) q = both_give (h.inputs.cells i t e)
    computed_related sc v w (unary {a = a} {t = t} e u) q = unary_related u (q a t e)
    computed_related sc v w (binary {a = a} {b = b} {t = t} e e' u) q = binary_related u (q a t e) (q b t e')
    computed_related sc v w (one {g = n} {a = a} e) q = both_give (reals (h.ops.fun1 n _ _ (to_real_related c.ops d.ops R h.ops (number_at R (q a type.Real e)))))
    computed_related sc v w (two {g = n} {a = a} {b = b} e e') q =
        both_give (reals (h.ops.fun2 n _ _ _ _ (to_real_related c.ops d.ops R h.ops (number_at R (q a type.Real e))) (to_real_related c.ops d.ops R h.ops (number_at R (q b type.Real e')))))
    computed_related sc v w (call {g = n} {args = args} {s = s} e l) q = calls n s e (map v args) (map w args) (arguments_related sc q l)

    tests_alike : (sc : Scope) (test : ℕ) (v : Values V) (w : Values W) → IsInScope sc test → ValuesRelated R sc v w → is_true c.ops (v test) ≡ is_true d.ops (w test)
    tests_alike sc test v w i q = is_true_related c.ops d.ops R h.ops (number_at R (q test i.0 i.1))

    abbrev TestsRelated : Scope → Scope → AtTest V → AtTest W → Type 0
    TestsRelated heads inner t b = ValuesRelated R heads t.head b.head × ValuesRelated R inner t.inner b.inner

    mutual
      run_step_related : (sc : Scope) (s : Step) (v : Values V) (w : Values W) → StepIsTyped f sc s → ValuesRelated R sc v w
          → Alike g (ValuesRelated R (behind_step s sc)) (run_step c C s v) (run_step d D s w)
      run_step_related sc (value k t op) v w p q =
          then_alike g closed (RelatedAt R t) _ _ _ (computed_related sc v w p q) (λ x y l. both_give (value_put R sc k t q l))
      run_step_related sc (choice test a b joins) v w p q =
          chosen_related (Alike g (ValuesRelated R (with_merges joins sc))) _ _ _ _ _ _ (tests_alike sc test v w p.0 q)
          (then_alike g closed (ValuesRelated R (behind a sc)) _ _ _ (run_related sc a v w p.1 q) (λ x y l. both_give (merged_related R first_of joins sc (behind a sc) p.3 l q)))
          (then_alike g closed (ValuesRelated R (behind b sc)) _ _ _ (run_related sc b v w p.2 q) (λ x y l. both_give (merged_related R second_of joins sc (behind b sc) p.4 l q)))
      run_step_related sc (loop heads before test turn) v w p q =
          let hs = with_merges heads sc in
          let at = behind before hs in
          then_alike g closed (TestsRelated hs at) _ _ _
          (turns_alike g closed (ValuesRelated R hs) (TestsRelated hs at) _ _ (h.stops Turns) _ _ _ _ _ _
          (λ s t l. then_alike g closed (ValuesRelated R at) _ _ _ (run_related hs before s t p.1 l) (λ x y m. both_give (l, m)))
          (λ s t l. tests_alike at test s.inner t.inner p.2 l.1)
          (λ s t l. then_alike g closed (ValuesRelated R (behind turn at)) _ _ _ (run_related at turn s.inner t.inner p.3 l.1)
          (λ x y m. both_give (merged_related R second_of heads sc (behind turn at) p.4 m q)))
          c.bound d.bound h.bound _ _ (merged_related R first_of heads sc sc p.0 q q))
          (λ s t l. both_give l.0)

      pub run_related : (sc : Scope) (s : Steps) (v : Values V) (w : Values W) → IsTyped f sc s → ValuesRelated R sc v w
          → Alike g (ValuesRelated R (behind s sc)) (run c C s v) (run d D s w)
      run_related sc stop v w p q = both_give q
      run_related sc (step s rest) v w p q =
          then_alike g closed (ValuesRelated R (behind_step s sc)) _ _ _ (run_step_related sc s v w p.0 q) (λ x y l. run_related (behind_step s sc) rest x y p.1 l)

-- a function reads nothing but its arguments
function_inputs : {V W : Type 0} (R : V → W → Type 0) (earlier : List Signature) (a : Inputs V) (b : Inputs W) → InputsRelated R (function_frame earlier) a b
function_inputs R earlier a b = record {
  derivative = λ e. cc (e);
  parameters = λ p t e. cc (e);
  given = λ p e l. cc (e);
  temperature = λ e. cc (e);
  unknowns = λ j l. absurd (omega (arith, l));
  cells = λ i t e. cc (e);
}

arguments_at : {V W : Type 0} (R : V → W → Type 0) {ts : List Ty} {xs : List (Number V)} {ys : List (Number W)} (x : Number V) (y : Number W) → ArgumentsRelated R ts xs ys
    → ValuesRelated R (arguments_in ts) (λ j. get_or xs j x) (λ j. get_or ys j y)
arguments_at R x y no_more k t e = cc (e)
arguments_at R x y (one_more {t = u} {x = a} {y = b} h hs) zero t e =
    let same : u ≡ t = cc (e) in
    subst (λ (s : Ty). RelatedAt R s a b) same h
arguments_at R x y (one_more h hs) (suc k) t e = arguments_at R x y hs k t e

last_of : (xs : List Signature) (y : Signature) → slice_get (xs ++ y ∷ []) (length xs) ≡ Some y
last_of [] y = refl
last_of (x ∷ xs) y = last_of xs y

not_last : (xs : List Signature) (y : Signature) (k : ℕ) (s : Signature) → (k ≡ length xs → ⊥) → slice_get (xs ++ y ∷ []) k ≡ Some s → slice_get xs k ≡ Some s
not_last [] y zero s ne e = absurd (ne refl)
not_last [] y (suc k) s ne e = cc (e)
not_last (x ∷ xs) y zero s ne e = e
not_last (x ∷ xs) y (suc k) s ne e = not_last xs y k s (λ p. ne (ap suc p)) e

longer : (xs : List Signature) (y : Signature) (n : ℕ) → length xs ≡ n → length (xs ++ y ∷ []) ≡ suc n
longer [] y n e = ap suc e
longer (x ∷ xs) y n e = ap suc (longer xs y (length xs) refl) ∙ ap suc e

module _ {E F V W : Type 0} (g : Endings E F) (closed : IsClosed g) (c : Context E V) (d : Context F W) (R : V → W → Type 0) where
  module _ (everywhere : (earlier : List Signature) → ContextsRelated g R (function_frame earlier) c d) where
    function_related : (earlier : List Signature) (f : Function) → IsFunction earlier f → (C : Calls E V) (D : Calls F W) → CallsRelated g R earlier C D
        → (xs : List (Number V)) (ys : List (Number W)) → ArgumentsRelated R f.arguments xs ys → Alike g (RelatedAt R f.ty) (function_value c C f xs) (function_value d D f ys)
    function_related earlier f i C D l xs ys k =
        then_alike g closed (ValuesRelated R (behind (steps_of f.body.instructions) (arguments_in f.arguments))) _ _ _
        (run_related g closed (function_frame earlier) c d R (everywhere earlier) C D l (arguments_in f.arguments) (steps_of f.body.instructions) _ _ i.body.typed
        (arguments_at R (Int (pos 0)) (Int (pos 0)) k))
        (λ v w q. both_give (q f.result f.ty i.result))

    one_call_more : (b : Bool) (earlier : List Signature) (f : Function) → IsFunction earlier f → (C : Calls E V) (D : Calls F W) → CallsRelated g R earlier C D
        → (k : ℕ) (s : Signature) → (k == length earlier) ≡ b → slice_get (earlier ++ signature_of f ∷ []) k ≡ Some s
        → (xs : List (Number V)) (ys : List (Number W)) → ArgumentsRelated R s.arguments xs ys
        → Alike g (RelatedAt R s.result) ((if b then function_value c C f else C k) xs) ((if b then function_value d D f else D k) ys)
    one_call_more true earlier f i C D l k s e at xs ys r =
        let here : k ≡ length earlier = grind (arith, nat_tests) in
        let last : slice_get (earlier ++ signature_of f ∷ []) k ≡ Some (signature_of f) = ap (slice_get (earlier ++ signature_of f ∷ [])) here ∙ last_of earlier (signature_of f) in
        let same : signature_of f ≡ s = cc (at, last) in
        subst (λ (t : Signature). ArgumentsRelated R t.arguments xs ys → Alike g (RelatedAt R t.result) (function_value c C f xs) (function_value d D f ys)) same
        (λ r. function_related earlier f i C D l xs ys r) r
    one_call_more false earlier f i C D l k s e at xs ys r =
        l k s (not_last earlier (signature_of f) k s (λ p. grind (arith, nat_tests)) at) xs ys r

    calls_from_related : (earlier : List Signature) (n : ℕ) (fs : List Function) → length earlier ≡ n → AreFunctions earlier fs → (C : Calls E V) (D : Calls F W) → CallsRelated g R earlier C D
        → CallsRelated g R (signatures_from earlier fs) (calls_from c n C fs) (calls_from d n D fs)
    calls_from_related earlier n [] e i C D l = l
    calls_from_related earlier n (f ∷ fs) e i C D l =
        calls_from_related (earlier ++ signature_of f ∷ []) (suc n) fs (longer earlier (signature_of f) n e) i.1 _ _
        (λ k s at xs ys r. subst (λ (m : ℕ). Alike g (RelatedAt R s.result) (with_value C m (function_value c C f) k xs) (with_value D m (function_value d D f) k ys)) e
        (one_call_more (k == length earlier) earlier f i.0 C D l k s refl at xs ys r))

  -- a body with the functions that its frame knows
  pub body_related : (f : Frame) → ContextsRelated g R f c d → (fs : List Function) → Knows f fs → (sc : Scope) (s : Steps) → IsTyped f sc s
      → (v : Values V) (w : Values W) → ValuesRelated R sc v w → Alike g (ValuesRelated R (behind s sc)) (run c (calls c fs) s v) (run d (calls d fs) s w)
  body_related f h fs knows sc s p v w q =
      let everywhere : (earlier : List Signature) → ContextsRelated g R (function_frame earlier) c d =
      λ earlier. record { ops = h.ops; inputs = function_inputs R earlier c.inputs d.inputs; bound = h.bound; stops = h.stops } in
      let known : CallsRelated g R (signatures fs) (calls c fs) (calls d fs) =
      calls_from_related everywhere [] 0 fs refl knows.functions _ _ (λ k s e xs ys r. cc (e)) in
      run_related g closed f c d R h (calls c fs) (calls d fs) (subst (λ (sigs : List Signature). CallsRelated g R sigs (calls c fs) (calls d fs)) (sym knows.known) known) sc s v w p q
