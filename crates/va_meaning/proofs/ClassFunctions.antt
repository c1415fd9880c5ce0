-- Functions and initialisers read no unknown: there everything is of one class. Evaluations of modules that keep to classes.
use Rattle.std.specs.Prelude.{◌≡◌, ℕ, zero, suc, ◌==◌, Bool, true, false, if◌then◌else◌, List, [], ◌∷◌, Option, Some, None, length}
use Rattle.std.specs.List.{slice_get}
use Rattle.std.proofs.Common.{refl, sym, subst, arith, inl, inr}
use Rattle.std.proofs.lemmas.Map.Views.{exact_unsigned_eq}
use Rattle.alg_laws.specs.declared.number.Number.{Number}
use Rattle.alg_laws.specs.declared.number.Reason.TheVariants.{Turns}
use Rattle.alg_laws.specs.declared.number.Ty.{Ty}
use Rattle.alg_laws.specs.declared.number.Ty.TheVariants.{Integer, Real as RealTy}
use Rattle.alg_laws.specs.NumberOps.{zero_of}
use Rattle.alg_laws.specs.Related.{NumbersRelated, reals, integers}
use Rattle.va_tree.specs.declared.source.Quantity.TheVariants.{Flow}
use Rattle.va_meaning.specs.Classes.{Classes, AreOrdered, Slots, IfSure, in_place, types_of, argument_types, uniform, InitialisersKeep, FunctionKeeps, KeepsToClasses, ContextsInClasses, ValuesIn, StatesInClasses}
use Rattle.va_meaning.specs.Elaborated.{Elaborated, Initialiser, Function}
use Rattle.va_meaning.specs.Evaluation.{zeros, started, initialised, passed, function_value, function_or_none, functions_to, functions, evaluated}
use Rattle.va_meaning.specs.Points.{Context, Result, Store, with_variable, without_unknowns}
use Rattle.va_meaning.specs.Related.{Endings, IsClosed, Alike, both_give, both_end, BoundsRelated, HeldRelated}
use Rattle.va_meaning.specs.Types.{result_type}
use Rattle.va_meaning.specs.Values.{Functions}
use Rattle.va_meaning.proofs.Classes.{OutsIn, FunctionsIn, said, zero_in, raised, any_type, same_type, converted_in, value_in}
use Rattle.va_meaning.proofs.ClassRuns.{run_in, blocks_in}
use Rattle.va_meaning.proofs.Endings.{IsWeaker, weaker_itself, alike_up, less_bound, ends_first, then_alike}

module _ {E E' V W C : Type 0} (g : Endings E E') (closed : IsClosed g) (M : Elaborated) (K : Classes C) (ordered : AreOrdered K) (R : C → V → W → Type 0) where
  -- where functions and initialisers are evaluated
  uniform_context : (slots : Slots C) (c : Context E V) (d : Context E' W) → ContextsInClasses g K R slots c d → (k : C)
      → ContextsInClasses g K R (uniform k) (without_unknowns c) (without_unknowns d)
  uniform_context slots c d h k = record {
    ops = h.ops;
    weaker = h.weaker;
    sum = h.sum;
    negative = h.negative;
    product = h.product;
    derivative = h.derivative;
    parameters = h.parameters;
    given = h.given;
    temperature = h.temperature;
    unknowns = λ i. zero_in g closed M K ordered R slots c d h k;
    bound = h.bound;
    stops = h.stops;
    answers = h.answers;
  }

  module _ (k : C) (c : Context E V) (d : Context E' W) (h : ContextsInClasses g K R (uniform k) c d) (k_closed : K.closed k) where
    abbrev StoresIn : Store V → Store W → Type 0
    StoresIn s t = (x : ℕ) → ValuesIn R (M.variable_type x) k (s x) (t x)

    set_in : (x : ℕ) (v : Number V) (w : Number W) → ValuesIn R (M.variable_type x) k v w → (s : Store V) (t : Store W) → StoresIn s t
        → StoresIn (with_variable s x v) (with_variable t x w)
    set_in x v w p s t n y = by_test (y == x) refl
      where
        by_test : (b : Bool) → (y == x) ≡ b → ValuesIn R (M.variable_type y) k (if b then v else s y) (if b then w else t y)
        by_test true e = subst (λ z. ValuesIn R (M.variable_type z) k v w) (sym (exact_unsigned_eq y x e)) p
        by_test false e = n y

    zeros_in : StoresIn (zeros M c.ops) (zeros M d.ops)
    zeros_in x = zero_of_type (M.variable_type x)
      where
        zero_of_type : (ty : Ty) → ValuesIn R ty k (zero_of c.ops ty) (zero_of d.ops ty)
        zero_of_type Integer = integers
        zero_of_type RealTy = reals (zero_in g closed M K ordered R (uniform k) c d h k)

    started_in : (s : Store V) (t : Store W) → StoresIn s t → StatesInClasses M R (uniform k) (started M c.ops s) (started M d.ops t)
    started_in s t n = record {
      variables = n;
      held = λ b. record { quantity = refl; sum = zero_in g closed M K ordered R (uniform k) c d h k };
      marks = λ b i. refl;
    }

    module _ (F : Functions E V) (G : Functions E' W) (fs : FunctionsIn g K R M F G) where
      initialised_in : (is : List Initialiser) → InitialisersKeep M K k is → (s : Store V) (t : Store W) → StoresIn s t
          → Alike g StoresIn (initialised M c F is s) (initialised M d G is t)
      initialised_in [] i s t n = both_give n
      initialised_in (x ∷ xs) i s t n =
          let ty = M.variable_type x.variable in
          then_alike g closed (NumbersRelated (R (in_place K ty k))) StoresIn _ _
          (value_in g closed M K ordered R (uniform k) c d h F G fs (in_place K ty k) 0 x.value i.0 s t n)
          (λ v w p. then_alike g closed (ValuesIn R ty k) StoresIn _ _ (said g closed M K ordered R (uniform k) c d h (converted_in g closed M K ordered R (uniform k) c d h ty k p))
          (λ v' w' q. initialised_in xs i.1 _ _ (set_in x.variable v' w' q s t n)))

      passed_in : (xs : List ℕ) (outs : List (Result E V)) (outs' : List (Result E' W)) → OutsIn g K R (types_of M xs) k outs outs' → (s : Store V) (t : Store W) → StoresIn s t
          → Alike g StoresIn (passed M c F xs outs s) (passed M d G xs outs' t)
      passed_in [] outs outs' i s t n = both_give n
      passed_in (x ∷ xs) [] [] i s t n = both_give n
      passed_in (x ∷ xs) [] (out' ∷ outs') i s t n = absurd i
      passed_in (x ∷ xs) (out ∷ outs) [] i s t n = absurd i
      passed_in (x ∷ xs) (out ∷ outs) (out' ∷ outs') i s t n =
          let ty = M.variable_type x in
          then_alike g closed (NumbersRelated (R (in_place K ty k))) StoresIn _ _ i.0
          (λ v w p. then_alike g closed (ValuesIn R ty k) StoresIn _ _ (said g closed M K ordered R (uniform k) c d h (converted_in g closed M K ordered R (uniform k) c d h ty k p))
          (λ v' w' q. passed_in xs outs outs' i.1 _ _ (set_in x v' w' q s t n)))

      function_value_in : (f : Function) → FunctionKeeps M K k (Some f) → (outs : List (Result E V)) (outs' : List (Result E' W))
          → OutsIn g K R (types_of M f.arguments) k outs outs' → Alike g (ValuesIn R f.ty k) (function_value M c F f outs) (function_value M d G f outs')
      function_value_in f i outs outs' o =
          then_alike g closed StoresIn (ValuesIn R f.ty k) _ _ (passed_in f.arguments outs outs' o _ _ zeros_in)
          (λ s t n. then_alike g closed StoresIn (ValuesIn R f.ty k) _ _ (initialised_in f.initialisers i.0 s t n)
          (λ s t n. then_alike g closed (StatesInClasses M R (uniform k)) (ValuesIn R f.ty k) _ _
          (run_in g g closed closed (weaker_itself g) M K ordered R (uniform k) c d h F G fs (λ e. absurd (cc (e))) false 0 f.body i.1 _ _ (started_in s t n))
          (λ s t n. said g closed M K ordered R (uniform k) c d h
          (converted_in g closed M K ordered R (uniform k) c d h f.ty k
          (same_type g closed M K ordered R (uniform k) c d h f.ty k (any_type g closed M K ordered R (uniform k) c d h (M.variable_type f.result) k (s.variables f.result) (t.variables f.result) (n.variables f.result)))))))

      function_or_none_in : (f : Option Function) → FunctionKeeps M K k f → (outs : List (Result E V)) (outs' : List (Result E' W))
          → OutsIn g K R (argument_types M f) k outs outs' → Alike g (ValuesIn R (result_type f) k) (function_or_none M c F f outs) (function_or_none M d G f outs')
      function_or_none_in None i outs outs' o = both_give (reals (zero_in g closed M K ordered R (uniform k) c d h k))
      function_or_none_in (Some f) i outs outs' o = function_value_in f i outs outs' o

  module _ (slots : Slots C) (c : Context E V) (d : Context E' W) (h : ContextsInClasses g K R slots c d) (keeps : KeepsToClasses M K slots) where
    pub functions_in : (depth more : ℕ) → BoundsRelated g (c.stops Turns) depth more
        → FunctionsIn g K R M (functions_to M (without_unknowns c) depth) (functions_to M (without_unknowns d) more)
    functions_in zero zero bound f k k_closed outs outs' o = both_end (h.stops Turns)
    functions_in zero (suc more) (inl same) f k k_closed outs outs' o = absurd (omega (arith, same))
    functions_in zero (suc more) (inr alone) f k k_closed outs outs' o = ends_first g closed (ValuesIn R (result_type (slice_get M.functions f)) k) (c.stops Turns) alone.1 _
    functions_in (suc depth) zero (inl same) f k k_closed outs outs' o = absurd (omega (arith, same))
    functions_in (suc depth) zero (inr alone) f k k_closed outs outs' o = absurd (omega (arith, alone.0))
    functions_in (suc depth) (suc more) bound f k k_closed outs outs' o =
        function_or_none_in k (without_unknowns c) (without_unknowns d) (uniform_context slots c d h k) k_closed _ _
        (functions_in depth more (less_bound g (c.stops Turns) depth more bound)) (slice_get M.functions f) (keeps.functions f k k_closed) outs outs' o

    begun_in : (s : Store V) (t : Store W) → ((x : ℕ) → ValuesIn R (M.variable_type x) K.rest (s x) (t x)) → StatesInClasses M R slots (started M c.ops s) (started M d.ops t)
    begun_in s t n = record {
      variables = λ x. by_class (M.variable_type x) (s x) (t x) (n x) (slots.variable x);
      held = λ b. nothing_held (slots.held b);
      marks = λ b i. refl;
    }
      where
        of_type : (ty : Ty) (k : C) (v : Number V) (w : Number W) → ValuesIn R ty K.rest v w → ValuesIn R ty k v w
        of_type Integer k v w p = p
        of_type RealTy k v w p = raised g closed M K ordered R slots c d h K.rest k (ordered.from_rest k) p

        by_class : (ty : Ty) (v : Number V) (w : Number W) → ValuesIn R ty K.rest v w → (known : Option C) → IfSure (λ k. ValuesIn R ty k v w) known
        by_class ty v w p None = tt
        by_class ty v w p (Some k) = of_type ty k v w p

        nothing_held : (known : Option C) → IfSure (λ k. HeldRelated (R k) (record { quantity = Flow; sum = c.ops.zero }) (record { quantity = Flow; sum = d.ops.zero })) known
        nothing_held None = tt
        nothing_held (Some k) = record { quantity = refl; sum = zero_in g closed M K ordered R slots c d h k }

    -- The statements may end in more ways than values do, if conditions may be unsure.
    pub evaluated_in : (g' : Endings E E') → IsClosed g' → IsWeaker g g' → (slots.unsure ≡ true → ((e : E) → g'.first_alone e) × ((f : E') → g'.second_alone f))
        → Alike g' (StatesInClasses M R slots) (evaluated M c) (evaluated M d)
    evaluated_in g' closed' weaker free =
        let fs = functions_in (length M.functions) (length M.functions) (inl refl) in
        then_alike g' closed' (λ (s : Store V) (t : Store W). (x : ℕ) → ValuesIn R (M.variable_type x) K.rest (s x) (t x)) (StatesInClasses M R slots) _ _
        (alike_up g g' weaker (initialised_in K.rest (without_unknowns c) (without_unknowns d) (uniform_context slots c d h K.rest) ordered.rest_closed (functions M c) (functions M d) fs M.initialisers keeps.initialisers _ _
        (zeros_in K.rest (without_unknowns c) (without_unknowns d) (uniform_context slots c d h K.rest) ordered.rest_closed)))
        (λ s t n. blocks_in g g' closed closed' weaker M K ordered R slots c d h (functions M c) (functions M d) fs free 0 M.blocks keeps.blocks _ _ (begun_in s t n))
