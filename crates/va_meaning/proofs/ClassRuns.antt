-- Statements that keep to classes of values. Under an unsure condition they leave what is known, so that the two evaluations may go
-- different ways; all others go alike.
use Rattle.std.specs.Prelude.{◌≡◌, ℕ, ◌+◌, ◌==◌, Bool, true, false, ℤ, if◌then◌else◌, List, [], ◌∷◌, ◌++◌, Option, Some, None}
use Rattle.std.proofs.Common.{refl, ap, sym, ◌∙◌, subst, inl, inr}
use Rattle.std.proofs.lemmas.Map.Views.{exact_unsigned_eq}
use Rattle.alg_laws.specs.declared.number.Number.{Number}
use Rattle.alg_laws.specs.declared.number.Reason.{Reason}
use Rattle.alg_laws.specs.declared.number.Reason.TheVariants.{Turns}
use Rattle.alg_laws.specs.Loop.{turns, while_turns}
use Rattle.alg_laws.specs.NumberOps.{converted, to_integer, to_real}
use Rattle.alg_laws.specs.Outcome.{Outcome, gives, ◌>>=◌}
use Rattle.alg_laws.specs.Related.{NumbersRelated, OutcomesRelated}
use Rattle.alg_laws.proofs.Outcomes.{outcomes_same}
use Rattle.alg_laws.proofs.Related.{chosen_related, to_integer_related, is_true_related, is_same_related}
use Rattle.va_sem.specs.declared.names.Meaning.{Meaning}
use Rattle.va_sem.specs.declared.names.Meaning.TheVariants.{Var, Access}
use Rattle.va_tree.specs.declared.source.Quantity.{Quantity}
use Rattle.va_tree.specs.declared.stmt.EventKind.TheVariants.{InitialStep, FinalStep}
use Rattle.va_tree.specs.Expressions.{Expression}
use Rattle.va_tree.specs.Statements.{Statement, Statements, Items, Defaults, null, block, only_if, if_else, cases, for_loop, while_loop, repeat_loop, event, assign, contribute, task, no_more as no_statement, statement_then, no_items, item_then, no_defaults, default_then}
use Rattle.va_meaning.specs.Classes.{Classes, AreOrdered, Slots, IfSure, in_place, IsIn, AreIn, EvaluatedIn, Fits, AssignmentIn, ContributionIn, Under, Keeps, AllKeep, ItemsKeep, DefaultsKeep, BlocksKeep, ContextsInClasses, ValuesIn, StatesInClasses}
use Rattle.va_meaning.specs.Elaborated.{Elaborated}
use Rattle.va_meaning.specs.Evaluation.{run_blocks}
use Rattle.va_meaning.specs.Points.{Context, State, Held, with_variable, held_of, is_quantity, told}
use Rattle.va_meaning.specs.Related.{Endings, IsClosed, Alike, both_give, BoundsRelated, HeldRelated}
use Rattle.va_meaning.specs.Runs.{quantity_of, marked, statement_size, under, under_all, item_values, Counted, turns_left, count_down, repeated, test_of, assigned, assign_value, contributed, is_among, run, run_all, run_case, run_default}
use Rattle.va_meaning.specs.Unknowns.{signed}
use Rattle.va_meaning.specs.Values.{Functions, size, value_of}
use Rattle.va_meaning.proofs.Classes.{FunctionsIn, said, topmost, zero_in, real_in, signed_in, converted_in, same_type, value_in}
use Rattle.va_meaning.proofs.Endings.{IsWeaker, alike_up, bounds_up, then_alike, while_alike, repeated_alike, both_keep}
use Rattle.va_meaning.proofs.Partial.{IfGives, anything, then_if, chosen_if, turns_if, while_if}

-- what is under an unsure condition isn't sure
never_sure : {C : Type 0} (M : Elaborated) (K : Classes C) (slots : Slots C) (e : Expression) (P Q : C → Type 0) (known : Option C)
    → Fits M K slots e (λ k. (true ≡ false) × P k) known → IfSure Q known
never_sure M K slots e P Q None h = tt
never_sure M K slots e P Q (Some k) h = absurd (cc (h.0))

under_true : {C : Type 0} (M : Elaborated) (K : Classes C) (slots : Slots C) (conditions : List Expression) (inside : Bool → Type 0)
    → Under M K slots true conditions inside → inside true
under_true M K slots conditions inside (inl h) = h.1
under_true M K slots conditions inside (inr h) = h.1

-- One evaluation, from a state r.
module _ {E V C : Type 0} (M : Elaborated) (K : Classes C) (slots : Slots C) (c : Context E V) (F : Functions E V) (r : State V) where
  -- what is known of a state is as it was
  pub record IsLeft (s : State V) : Type 0 where
    pub variables : (x : ℕ) → IfSure (λ k. r.variables x ≡ s.variables x) (slots.variable x)
    pub held : (b : ℕ) → IfSure (λ k. r.held b ≡ s.held b) (slots.held b)
    pub marks : (b : ℕ) → slots.mark b ≡ true → r.marks b ≡ s.marks b

  set_leaves : (x : ℕ) (e : Expression) → AssignmentIn M K slots true (Some (Var x)) e → (w : Number V) (s : State V) → IsLeft s
      → IsLeft (record s { variables = with_variable s.variables x w })
  set_leaves x e h w s k = record { variables = λ y. by_test y (y == x) refl; held = k.held; marks = k.marks }
    where
      by_test : (y : ℕ) (b : Bool) → (y == x) ≡ b → IfSure (λ k. r.variables y ≡ (if b then w else s.variables y)) (slots.variable y)
      by_test y true d =
          subst (λ z. IfSure (λ k. r.variables y ≡ w) (slots.variable z)) (sym (exact_unsigned_eq y x d))
          (never_sure M K slots e (λ k. IsIn M K slots (in_place K (M.variable_type x) k) e) (λ k. r.variables y ≡ w) (slots.variable x) h)
      by_test y false d = k.variables y

  assigned_leaves : (m : Option Meaning) (e : Expression) → AssignmentIn M K slots true m e → (v : Number V) (s : State V) → IsLeft s → IfGives IsLeft (assigned M c F m v s)
  assigned_leaves (Some (Var x)) e h v s k =
      then_if (λ (w : Number V). Unit {0}) IsLeft (told c (converted c.ops (M.variable_type x) v)) _ (anything (told c (converted c.ops (M.variable_type x) v)))
      (λ w i. set_leaves x e h w s k)
  assigned_leaves m e h v s k = k

  assign_leaves : (m : Option Meaning) (place : ℕ) (e : Expression) → AssignmentIn M K slots true m e → (s : State V) → IsLeft s → IfGives IsLeft (assign_value M c F m place e s)
  assign_leaves m place e h s k =
      then_if (λ (w : Number V). Unit {0}) IsLeft (value_of M c F place e s.variables) _ (anything (value_of M c F place e s.variables)) (λ v i. assigned_leaves m e h v s k)

  mark_left : (flow biased m : Bool) → (flow ≡ true) × (biased ≡ true) → m ≡ marked (quantity_of flow) biased m
  mark_left true true m h = refl
  mark_left true false m h = absurd (cc (h.1))
  mark_left false biased m h = absurd (cc (h.0))

  contributed_leaves : (m : Option Meaning) (biased : Bool) (e : Expression) → ContributionIn M K slots biased true m e → (v : Number V) (s : State V) → IsLeft s
      → IsLeft (contributed M c F m biased v s)
  contributed_leaves (Some (Access b turned flow)) biased e h v s k = record {
    variables = k.variables;
    held = λ a. held_by a (a == b) refl;
    marks = λ a i. marks_by a (a == b) refl i;
  }
    where
      new : ℕ → Held V
      new a = record { quantity = quantity_of flow; sum = c.ops.sum (held_of c.ops (quantity_of flow) (s.held a)) (signed c.ops turned (to_real c.ops v)) }

      held_by : (a : ℕ) (t : Bool) → (a == b) ≡ t → IfSure (λ k. r.held a ≡ (if t then new a else s.held a)) (slots.held a)
      held_by a true d =
          subst (λ z. IfSure (λ k. r.held a ≡ new a) (slots.held z)) (sym (exact_unsigned_eq a b d)) (never_sure M K slots e (λ k. IsIn M K slots k e) (λ k. r.held a ≡ new a) (slots.held b) h.0)
      held_by a false d = k.held a

      marks_by : (a : ℕ) (t : Bool) → (a == b) ≡ t → slots.mark a ≡ true → r.marks a ≡ (if t then marked (quantity_of flow) biased (s.marks a) else s.marks a)
      marks_by a true d i =
          let same : slots.mark b ≡ true = ap slots.mark (sym (exact_unsigned_eq a b d)) ∙ i in
          k.marks a i ∙ mark_left flow biased (s.marks a) (h.1 same refl)
      marks_by a false d i = k.marks a i
  contributed_leaves m biased e h v s k = k

  repeated_leaves : (n : ℕ) (i : ℤ) (turn : State V → Outcome E (State V)) → ((s : State V) → IsLeft s → IfGives IsLeft (turn s)) → (s : State V) → IsLeft s
      → IfGives IsLeft (repeated (c.stops Turns) n i turn s)
  repeated_leaves n i turn h s k =
      let Q = λ (at : Counted (State V)). IsLeft at.state in
      then_if Q IsLeft (turns (c.stops Turns) gives turns_left (count_down turn) n (record { left = i; state = s })) _
      (turns_if Q Q (c.stops Turns) gives turns_left (count_down turn) (λ at q. q) (λ at q. then_if IsLeft Q (turn at.state) _ (h at.state q) (λ t p. p)) n _ k)
      (λ at q. q)

  mutual
    pub run_leaves : (b : Bool) (place : ℕ) (p : Statement) → Keeps M K slots b true p → (s : State V) → IsLeft s → IfGives IsLeft (run M c F b place p s)
    run_leaves b place (null at) h s k = k
    run_leaves b place (block at label declarations body) h s k = run_all_leaves b _ body h s k
    run_leaves b place (only_if at test first) h s k =
        let i = under_true M K slots (test ∷ []) (λ inside. Keeps M K slots (under M b test) inside first) h in
        then_if (λ (x : Bool). Unit {0}) IsLeft (test_of M c F place test s) _ (anything (test_of M c F place test s))
        (λ x _. chosen_if IsLeft x _ _ (run_leaves (under M b test) _ first i s k) k)
    run_leaves b place (if_else at test first second) h s k =
        let i = under_true M K slots (test ∷ []) (λ inside. Keeps M K slots (under M b test) inside first × Keeps M K slots (under M b test) inside second) h in
        then_if (λ (x : Bool). Unit {0}) IsLeft (test_of M c F place test s) _ (anything (test_of M c F place test s))
        (λ x _. chosen_if IsLeft x _ _ (run_leaves (under M b test) _ first i.0 s k) (run_leaves (under M b test) _ second i.1 s k))
    run_leaves b place (cases at selector items defaults) h s k =
        let below = under_all M b (selector ∷ item_values items) in
        let i = under_true M K slots (selector ∷ item_values items) (λ inside. ItemsKeep M K slots below inside items × DefaultsKeep M K slots below inside defaults) h in
        then_if (λ (v : Number V). Unit {0}) IsLeft (value_of M c F place selector s.variables) _ (anything (value_of M c F place selector s.variables))
        (λ v _. run_case_leaves below _ v items i.0 _ (λ s k. run_default_leaves below _ defaults i.1 s k) s k)
    run_leaves b place (for_loop at target first test target' step body) h s k =
        let i = under_true M K slots (test ∷ []) (λ inside. AssignmentIn M K slots inside (M.meaning target'.at) step × Keeps M K slots (under M b test) inside body) h.1 in
        then_if IsLeft IsLeft (assign_value M c F (M.meaning target.at) place first s) _ (assign_leaves (M.meaning target.at) place first h.0 s k)
        (λ s k. while_if IsLeft (c.stops Turns) _ _
        (λ s k. then_if IsLeft IsLeft (run M c F (under M b test) (place + size first + size test + size step) body s) _
        (run_leaves (under M b test) _ body i.1 s k) (λ s k. assign_leaves (M.meaning target'.at) _ step i.0 s k)) c.bound s k)
    run_leaves b place (while_loop at test body) h s k =
        let i = under_true M K slots (test ∷ []) (λ inside. Keeps M K slots (under M b test) inside body) h in
        while_if IsLeft (c.stops Turns) _ _ (λ s k. run_leaves (under M b test) _ body i s k) c.bound s k
    run_leaves b place (repeat_loop at count body) h s k =
        let i = under_true M K slots (count ∷ []) (λ inside. Keeps M K slots (under M b count) inside body) h in
        then_if (λ (v : Number V). Unit {0}) IsLeft (value_of M c F place count s.variables) _ (anything (value_of M c F place count s.variables))
        (λ v _. then_if (λ (z : ℤ). Unit {0}) IsLeft (told c (to_integer c.ops v)) _ (anything (told c (to_integer c.ops v)))
        (λ z _. repeated_leaves c.bound z _ (λ s k. run_leaves (under M b count) _ body i s k) s k))
    run_leaves b place (event at InitialStep analyses body) h s k = run_leaves b place body h s k
    run_leaves b place (event at FinalStep analyses body) h s k = k
    run_leaves b place (assign at target value) h s k = assign_leaves (M.meaning at) place value h s k
    run_leaves b place (contribute at bytes first second value) h s k =
        then_if (λ (v : Number V). Unit {0}) IsLeft (value_of M c F place value s.variables) _ (anything (value_of M c F place value s.variables))
        (λ v _. contributed_leaves (M.meaning at) b value h v s k)
    run_leaves b place (task at bytes args) h s k = k

    run_all_leaves : (b : Bool) (place : ℕ) (ps : Statements) → AllKeep M K slots b true ps → (s : State V) → IsLeft s → IfGives IsLeft (run_all M c F b place ps s)
    run_all_leaves b place no_statement h s k = k
    run_all_leaves b place (statement_then p ps) h s k =
        then_if IsLeft IsLeft (run M c F b place p s) _ (run_leaves b place p h.0 s k) (λ s k. run_all_leaves b _ ps h.1 s k)

    run_case_leaves : (b : Bool) (place : ℕ) (v : Number V) (items : Items) → ItemsKeep M K slots b true items → (otherwise : State V → Outcome E (State V))
        → ((s : State V) → IsLeft s → IfGives IsLeft (otherwise s)) → (s : State V) → IsLeft s → IfGives IsLeft (run_case M c F b place v items otherwise s)
    run_case_leaves b place v no_items h otherwise o s k = o s k
    run_case_leaves b place v (item_then at values body rest) h otherwise o s k =
        then_if (λ (x : Bool). Unit {0}) IsLeft (is_among M c F place values v s) _ (anything (is_among M c F place values v s))
        (λ x _. chosen_if IsLeft x _ _ (run_leaves b _ body h.0 s k) (run_case_leaves b _ v rest h.1 otherwise o s k))

    run_default_leaves : (b : Bool) (place : ℕ) (defaults : Defaults) → DefaultsKeep M K slots b true defaults → (s : State V) → IsLeft s
        → IfGives IsLeft (run_default M c F b place defaults s)
    run_default_leaves b place no_defaults h s k = k
    run_default_leaves b place (default_then at body rest) h s k = run_leaves b place body h s k

  -- the turns of a `for`
  pub for_leaves : (b : Bool) (place first : ℕ) (test : Expression) (target : Option Meaning) (step : Expression) (body : Statement)
      → Under M K slots true (test ∷ []) (λ inside. AssignmentIn M K slots inside target step × Keeps M K slots (under M b test) inside body) → (s : State V) → IsLeft s
      → IfGives IsLeft (while_turns (c.stops Turns) (test_of M c F first test) (λ t. run M c F (under M b test) (first + size test + size step) body t >>= assign_value M c F target (first + size test) step) c.bound s)
  for_leaves b place first test target step body h s k =
      let i = under_true M K slots (test ∷ []) (λ inside. AssignmentIn M K slots inside target step × Keeps M K slots (under M b test) inside body) h in
      while_if IsLeft (c.stops Turns) _ _
      (λ s k. then_if IsLeft IsLeft (run M c F (under M b test) (first + size test + size step) body s) _ (run_leaves (under M b test) _ body i.1 s k) (λ s k. assign_leaves target _ step i.0 s k)) c.bound s k

-- Two evaluations.
module _ {E E' V W C : Type 0} (g g' : Endings E E') (closed : IsClosed g) (closed' : IsClosed g') (weaker : IsWeaker g g') (M : Elaborated) (K : Classes C) (ordered : AreOrdered K) (R : C → V → W → Type 0)
    (slots : Slots C) (c : Context E V) (d : Context E' W) (h : ContextsInClasses g K R slots c d)
    (F : Functions E V) (G : Functions E' W) (fs : FunctionsIn g K R M F G)
    (free : slots.unsure ≡ true → ((e : E) → g'.first_alone e) × ((f : E') → g'.second_alone f)) where
  abbrev In : State V → State W → Type 0
  In s t = StatesInClasses M R slots s t

  abbrev Left : State V → State V → Type 0
  Left r s = IsLeft M K slots c F r s

  abbrev Left' : State W → State W → Type 0
  Left' r s = IsLeft M K slots d G r s

  value_up : (k : C) (place : ℕ) (e : Expression) → IsIn M K slots k e → (s : State V) (t : State W) → In s t
      → Alike g' (NumbersRelated (R k)) (value_of M c F place e s.variables) (value_of M d G place e t.variables)
  value_up k place e i s t n = alike_up g g' weaker (value_in g closed M K ordered R slots c d h F G fs k place e i s.variables t.variables n.variables)

  said_up : {A B : Type 0} {P : A → B → Type 0} {a : Outcome Reason A} {b : Outcome Reason B} → OutcomesRelated P a b → Alike g' P (told c a) (told d b)
  said_up p = alike_up g g' weaker (said g closed M K ordered R slots c d h p)

  bound_up : BoundsRelated g' (c.stops Turns) c.bound d.bound
  bound_up = bounds_up g g' weaker (c.stops Turns) c.bound d.bound h.bound

  left_itself : (s : State V) → Left s s
  left_itself s = record { variables = λ x. always (s.variables x) (slots.variable x); held = λ b. always (s.held b) (slots.held b); marks = λ b i. refl }
    where
      always : {A : Type 0} (x : A) (known : Option C) → IfSure (λ k. x ≡ x) known
      always x None = tt
      always x (Some k) = refl

  left_itself' : (s : State W) → Left' s s
  left_itself' s = record { variables = λ x. always (s.variables x) (slots.variable x); held = λ b. always (s.held b) (slots.held b); marks = λ b i. refl }
    where
      always : {A : Type 0} (x : A) (known : Option C) → IfSure (λ k. x ≡ x) known
      always x None = tt
      always x (Some k) = refl

  -- two states that leave what is known of two that are related
  still_in : (s s' : State V) (t t' : State W) → In s t → Left s s' → Left' t t' → In s' t'
  still_in s s' t t' n p q = record {
    variables = λ x. moved (λ k. ValuesIn R (M.variable_type x) k) (s.variables x) (s'.variables x) (t.variables x) (t'.variables x) (slots.variable x) (n.variables x) (p.variables x) (q.variables x);
    held = λ b. moved (λ k. HeldRelated (R k)) (s.held b) (s'.held b) (t.held b) (t'.held b) (slots.held b) (n.held b) (p.held b) (q.held b);
    marks = λ b i. sym (p.marks b i) ∙ n.marks b i ∙ q.marks b i;
  }
    where
      moved : {A B : Type 0} (P : C → A → B → Type 0) (x x' : A) (y y' : B) (known : Option C) → IfSure (λ k. P k x y) known → IfSure (λ k. x ≡ x') known
          → IfSure (λ k. y ≡ y') known → IfSure (λ k. P k x' y') known
      moved P x x' y y' None i e f = tt
      moved {A} {B} P x x' y y' (Some k) i e f =
          subst (λ (z : B). P k x' z) f (subst (λ (z : A). P k z y) e i)

  -- what stands under conditions
  under_in : (conditions : List Expression) (inside : Bool → Type 0) (a : Outcome E (State V)) (b : Outcome E' (State W)) (s : State V) (t : State W) → In s t
      → (AreIn M K slots K.top conditions → inside false → Alike g' In a b)
      → (Under M K slots true conditions inside → IfGives (Left s) a) → (Under M K slots true conditions inside → IfGives (Left' t) b)
      → Under M K slots false conditions inside → Alike g' In a b
  under_in conditions inside a b s t n sure left right (inl i) = sure i.0 i.1
  under_in conditions inside a b s t n sure left right (inr u) =
      let ends = free u.0 in
      both_keep g' closed' (Left s) (Left' t) In ends.0 ends.1 a b (left (inr u)) (right (inr u)) (λ s' t' p q. still_in s s' t t' n p q)

  test_in : (place : ℕ) (e : Expression) → IsIn M K slots K.top e → (s : State V) (t : State W) → In s t
      → Alike g' ◌≡◌ (test_of M c F place e s) (test_of M d G place e t)
  test_in place e i s t n =
      then_alike g' closed' (NumbersRelated (R K.top)) ◌≡◌ _ _ (value_up K.top place e i s t n)
      (λ v w p. both_give (is_true_related c.ops d.ops (R K.top) (topmost g closed M K ordered R slots c d h) p))

  set_in : (x : ℕ) (v : Number V) (w : Number W) → IfSure (λ k. ValuesIn R (M.variable_type x) k v w) (slots.variable x) → (s : State V) (t : State W) → In s t
      → In (record s { variables = with_variable s.variables x v }) (record t { variables = with_variable t.variables x w })
  set_in x v w p s t n = record { variables = λ y. by_test y (y == x) refl; held = n.held; marks = n.marks }
    where
      by_test : (y : ℕ) (b : Bool) → (y == x) ≡ b
          → IfSure (λ k. ValuesIn R (M.variable_type y) k (if b then v else s.variables y) (if b then w else t.variables y)) (slots.variable y)
      by_test y true e = subst (λ z. IfSure (λ k. ValuesIn R (M.variable_type z) k v w) (slots.variable z)) (sym (exact_unsigned_eq y x e)) p
      by_test y false e = n.variables y

  -- what is known of a value that nothing is asked of
  nothing_asked : (P : C → Type 0) (known : Option C) → known ≡ None → IfSure P known
  nothing_asked P known e = subst (λ (o : Option C). IfSure P o) (sym e) tt

  -- a value is stored in a variable
  stored_in : (x : ℕ) (k : C) {v : Number V} {w : Number W} → NumbersRelated (R (in_place K (M.variable_type x) k)) v w
      → ((v : Number V) (w : Number W) → ValuesIn R (M.variable_type x) k v w → IfSure (λ k. ValuesIn R (M.variable_type x) k v w) (slots.variable x))
      → (s : State V) (t : State W) → In s t → Alike g' In (assigned M c F (Some (Var x)) v s) (assigned M d G (Some (Var x)) w t)
  stored_in x k p fits s t n =
      then_alike g' closed' (ValuesIn R (M.variable_type x) k) In _ _ (said_up (converted_in g closed M K ordered R slots c d h (M.variable_type x) k p))
      (λ v w q. both_give (set_in x v w (fits v w q) s t n))

  assign_to : (x place : ℕ) (e : Expression) (known : Option C) → slots.variable x ≡ known
      → Fits M K slots e (λ k. (false ≡ false) × IsIn M K slots (in_place K (M.variable_type x) k) e) known → (s : State V) (t : State W) → In s t
      → Alike g' In (assign_value M c F (Some (Var x)) place e s) (assign_value M d G (Some (Var x)) place e t)
  assign_to x place e None is (inl i) s t n =
      then_alike g' closed' (NumbersRelated (R K.top)) In _ _ (value_up K.top place e i s t n)
      (λ v w p. stored_in x K.top (same_type g closed M K ordered R slots c d h (M.variable_type x) K.top p) (λ v w q. nothing_asked (λ k. ValuesIn R (M.variable_type x) k v w) (slots.variable x) is) s t n)
  assign_to x place e None is (inr u) s t n =
      let ends = free u in
      let never : AssignmentIn M K slots true (Some (Var x)) e =
      subst (λ (o : Option C). Fits M K slots e (λ k. (true ≡ false) × IsIn M K slots (in_place K (M.variable_type x) k) e) o) (sym is) (inr u) in
      both_keep g' closed' (Left s) (Left' t) In ends.0 ends.1 _ _
      (assign_leaves M K slots c F s (Some (Var x)) place e never s (left_itself s)) (assign_leaves M K slots d G t (Some (Var x)) place e never t (left_itself' t))
      (λ s' t' p q. still_in s s' t t' n p q)
  assign_to x place e (Some k) is i s t n =
      then_alike g' closed' (NumbersRelated (R (in_place K (M.variable_type x) k))) In _ _
      (value_up (in_place K (M.variable_type x) k) place e i.1 s t n)
      (λ v w p. stored_in x k p (λ v w q. subst (λ (o : Option C). IfSure (λ k. ValuesIn R (M.variable_type x) k v w) o) (sym is) q) s t n)

  -- whatever values are used
  any_values : slots.unsure ≡ true → (place : ℕ) (e : Expression) (s : State V) (t : State W) (f : Number V → State V) (f' : Number W → State W)
      → ((v : Number V) (w : Number W) → In (f v) (f' w)) → Alike g' In (value_of M c F place e s.variables >>= λ v. gives (f v)) (value_of M d G place e t.variables >>= λ w. gives (f' w))
  any_values u place e s t f f' k =
      let ends = free u in
      both_keep g' closed' (λ (x : State V). (v : Number V) × (x ≡ f v)) (λ (y : State W). (w : Number W) × (y ≡ f' w)) In ends.0 ends.1 _ _
      (then_if (λ (v : Number V). Unit {0}) _ (value_of M c F place e s.variables) _ (anything (value_of M c F place e s.variables)) (λ v _. (v, refl)))
      (then_if (λ (w : Number W). Unit {0}) _ (value_of M d G place e t.variables) _ (anything (value_of M d G place e t.variables)) (λ w _. (w, refl)))
      (λ x y p q. subst (λ (x : State V). In x y) (sym p.1) (subst (λ (y : State W). In (f p.0) y) (sym q.1) (k p.0 q.0)))

  -- an expression is evaluated for nothing
  evaluated_for_nothing : (place : ℕ) (e : Expression) → EvaluatedIn M K slots e → (s : State V) (t : State W) → In s t
      → Alike g' In (value_of M c F place e s.variables >>= λ v. gives s) (value_of M d G place e t.variables >>= λ v. gives t)
  evaluated_for_nothing place e (inl i) s t n =
      then_alike g' closed' (NumbersRelated (R K.top)) In _ _ (value_up K.top place e i s t n) (λ v w p. both_give n)
  evaluated_for_nothing place e (inr u) s t n = any_values u place e s t (λ v. s) (λ w. t) (λ v w. n)

  assign_in : (m : Option Meaning) (place : ℕ) (e : Expression) → AssignmentIn M K slots false m e → (s : State V) (t : State W) → In s t
      → Alike g' In (assign_value M c F m place e s) (assign_value M d G m place e t)
  assign_in (Some (Var x)) place e i s t n = assign_to x place e (slots.variable x) refl i s t n
  assign_in m place e i s t n = evaluated_for_nothing place e i s t n

  -- contributions
  held_in : (k : C) (q : Quantity) (a : Held V) (b : Held W) → HeldRelated (R k) a b → R k (held_of c.ops q a) (held_of d.ops q b)
  held_in k q a b p = chosen_related (R k) _ _ _ _ _ _ (ap (is_quantity q) p.quantity) p.sum (zero_in g closed M K ordered R slots c d h k)

  contributed_in : (a : ℕ) (turned flow biased : Bool) (v : Number V) (w : Number W) → IfSure (λ k. NumbersRelated (R k) v w) (slots.held a) → (s : State V) (t : State W) → In s t
      → In (contributed M c F (Some (Access a turned flow)) biased v s) (contributed M d G (Some (Access a turned flow)) biased w t)
  contributed_in a turned flow biased v w p s t n = record {
    variables = n.variables;
    held = λ b. by_test b (b == a) refl;
    marks = λ b i. (λ j. if b == a then marked (quantity_of flow) biased (n.marks b i j) else n.marks b i j);
  }
    where
      new : ℕ → Held V
      new b = record { quantity = quantity_of flow; sum = c.ops.sum (held_of c.ops (quantity_of flow) (s.held b)) (signed c.ops turned (to_real c.ops v)) }

      new' : ℕ → Held W
      new' b = record { quantity = quantity_of flow; sum = d.ops.sum (held_of d.ops (quantity_of flow) (t.held b)) (signed d.ops turned (to_real d.ops w)) }

      added : (b : ℕ) (known : Option C) → IfSure (λ k. HeldRelated (R k) (s.held b) (t.held b)) known → IfSure (λ k. NumbersRelated (R k) v w) known
          → IfSure (λ k. HeldRelated (R k) (new b) (new' b)) known
      added b None i j = tt
      added b (Some k) i j = record {
        quantity = refl;
        sum = h.sum k _ _ _ _ (held_in k (quantity_of flow) (s.held b) (t.held b) i) (signed_in g closed M K ordered R slots c d h k turned _ _ (real_in g closed M K ordered R slots c d h k j));
      }

      by_test : (b : ℕ) (x : Bool) → (b == a) ≡ x → IfSure (λ k. HeldRelated (R k) (if x then new b else s.held b) (if x then new' b else t.held b)) (slots.held b)
      by_test b true e = added b (slots.held b) (n.held b) (subst (λ z. IfSure (λ k. NumbersRelated (R k) v w) (slots.held z)) (sym (exact_unsigned_eq b a e)) p)
      by_test b false e = n.held b

  contribute_to : (a : ℕ) (turned flow biased : Bool) (place : ℕ) (e : Expression) (known : Option C) → slots.held a ≡ known
      → Fits M K slots e (λ k. (false ≡ false) × IsIn M K slots k e) known → (s : State V) (t : State W) → In s t
      → Alike g' In (value_of M c F place e s.variables >>= λ v. gives (contributed M c F (Some (Access a turned flow)) biased v s))
      (value_of M d G place e t.variables >>= λ w. gives (contributed M d G (Some (Access a turned flow)) biased w t))
  contribute_to a turned flow biased place e None is (inl i) s t n =
      then_alike g' closed' (NumbersRelated (R K.top)) In _ _ (value_up K.top place e i s t n)
      (λ v w p. both_give (contributed_in a turned flow biased v w (nothing_asked (λ k. NumbersRelated (R k) v w) (slots.held a) is) s t n))
  contribute_to a turned flow biased place e None is (inr u) s t n =
      any_values u place e s t _ _ (λ v w. contributed_in a turned flow biased v w (nothing_asked (λ k. NumbersRelated (R k) v w) (slots.held a) is) s t n)
  contribute_to a turned flow biased place e (Some k) is i s t n =
      then_alike g' closed' (NumbersRelated (R k)) In _ _ (value_up k place e i.1 s t n)
      (λ v w p. both_give (contributed_in a turned flow biased v w (subst (λ (o : Option C). IfSure (λ k. NumbersRelated (R k) v w) o) (sym is) p) s t n))

  contribute_in : (m : Option Meaning) (biased : Bool) (place : ℕ) (e : Expression) → ContributionIn M K slots biased false m e → (s : State V) (t : State W) → In s t
      → Alike g' In (value_of M c F place e s.variables >>= λ v. gives (contributed M c F m biased v s)) (value_of M d G place e t.variables >>= λ w. gives (contributed M d G m biased w t))
  contribute_in (Some (Access a turned flow)) biased place e i s t n = contribute_to a turned flow biased place e (slots.held a) refl i.0 s t n
  contribute_in m biased place e i s t n = evaluated_for_nothing place e i s t n

  -- values of the items of a `case`
  are_parts : (es fs : List Expression) → AreIn M K slots K.top (es ++ fs) → AreIn M K slots K.top es × AreIn M K slots K.top fs
  are_parts [] fs i = (tt, i)
  are_parts (e ∷ es) fs i = let rest = are_parts es fs i.1 in ((i.0, rest.0), rest.1)

  among_in : (place : ℕ) (es : List Expression) {v : Number V} {w : Number W} → NumbersRelated (R K.top) v w → AreIn M K slots K.top es → (s : State V) (t : State W) → In s t
      → Alike g' ◌≡◌ (is_among M c F place es v s) (is_among M d G place es w t)
  among_in place [] p i s t n = both_give refl
  among_in place (e ∷ es) p i s t n =
      then_alike g' closed' (NumbersRelated (R K.top)) ◌≡◌ _ _ (value_up K.top place e i.0 s t n)
      (λ x y q. chosen_related (Alike g' ◌≡◌) _ _ _ _ _ _ (is_same_related c.ops d.ops (R K.top) (topmost g closed M K ordered R slots c d h) p q) (both_give refl) (among_in (place + size e) es p i.1 s t n))

  count_in : {v : Number V} {w : Number W} → NumbersRelated (R K.top) v w → Alike g' ◌≡◌ (told c (to_integer c.ops v)) (told d (to_integer d.ops w))
  count_in {v = v} p =
      said_up
      (subst (λ (i : Outcome Reason ℤ). OutcomesRelated ◌≡◌ (to_integer c.ops v) i) (to_integer_related c.ops d.ops (R K.top) (topmost g closed M K ordered R slots c d h) p)
      (outcomes_same ◌≡◌ (λ i. refl) (to_integer c.ops v)))

  mutual
    pub run_in : (b : Bool) (place : ℕ) (p : Statement) → Keeps M K slots b false p → (s : State V) (t : State W) → In s t → Alike g' In (run M c F b place p s) (run M d G b place p t)
    run_in b place (null at) i s t n = both_give n
    run_in b place (block at label declarations body) i s t n = run_all_in b _ body i s t n
    run_in b place (only_if at test first) i s t n =
        under_in (test ∷ []) (λ inside. Keeps M K slots (under M b test) inside first) _ _ s t n
        (λ sure j. then_alike g' closed' ◌≡◌ In _ _ (test_in place test sure.0 s t n)
        (λ x y e. chosen_related (Alike g' In) x y _ _ _ _ e (run_in (under M b test) _ first j s t n) (both_give n)))
        (λ u. run_leaves M K slots c F s b place (only_if at test first) u s (left_itself s)) (λ u. run_leaves M K slots d G t b place (only_if at test first) u t (left_itself' t)) i
    run_in b place (if_else at test first second) i s t n =
        under_in (test ∷ []) (λ inside. Keeps M K slots (under M b test) inside first × Keeps M K slots (under M b test) inside second) _ _ s t n
        (λ sure j. then_alike g' closed' ◌≡◌ In _ _ (test_in place test sure.0 s t n)
        (λ x y e. chosen_related (Alike g' In) x y _ _ _ _ e (run_in (under M b test) _ first j.0 s t n) (run_in (under M b test) _ second j.1 s t n)))
        (λ u. run_leaves M K slots c F s b place (if_else at test first second) u s (left_itself s)) (λ u. run_leaves M K slots d G t b place (if_else at test first second) u t (left_itself' t)) i
    run_in b place (cases at selector items defaults) i s t n =
        let below = under_all M b (selector ∷ item_values items) in
        under_in (selector ∷ item_values items) (λ inside. ItemsKeep M K slots below inside items × DefaultsKeep M K slots below inside defaults) _ _ s t n
        (λ sure j. then_alike g' closed' (NumbersRelated (R K.top)) In _ _ (value_up K.top place selector sure.0 s t n)
        (λ v w p. run_case_in below _ items sure.1 j.0 _ _ (λ s t n. run_default_in below _ defaults j.1 s t n) p s t n))
        (λ u. run_leaves M K slots c F s b place (cases at selector items defaults) u s (left_itself s)) (λ u. run_leaves M K slots d G t b place (cases at selector items defaults) u t (left_itself' t)) i
    run_in b place (for_loop at target first test target' step body) i s t n =
        let below = under M b test in
        let ahead = place + size first + size test in
        then_alike g' closed' In In _ _ (assign_in (M.meaning target.at) place first i.0 s t n)
        (λ s t n. under_in (test ∷ []) (λ inside. AssignmentIn M K slots inside (M.meaning target'.at) step × Keeps M K slots below inside body) _ _ s t n
        (λ sure j. while_alike g' closed' In (c.stops Turns) (d.stops Turns) (weaker.together _ _ (h.stops Turns)) _ _ _ _ (λ s t n. test_in (place + size first) test sure.0 s t n)
        (λ s t n. then_alike g' closed' In In _ _ (run_in below (ahead + size step) body j.1 s t n) (λ s t n. assign_in (M.meaning target'.at) ahead step j.0 s t n)) c.bound d.bound bound_up s t n)
        (λ u. for_leaves M K slots c F s b place (place + size first) test (M.meaning target'.at) step body u s (left_itself s))
        (λ u. for_leaves M K slots d G t b place (place + size first) test (M.meaning target'.at) step body u t (left_itself' t)) i.1)
    run_in b place (while_loop at test body) i s t n =
        under_in (test ∷ []) (λ inside. Keeps M K slots (under M b test) inside body) _ _ s t n
        (λ sure j. while_alike g' closed' In (c.stops Turns) (d.stops Turns) (weaker.together _ _ (h.stops Turns)) _ _ _ _ (λ s t n. test_in place test sure.0 s t n)
        (λ s t n. run_in (under M b test) (place + size test) body j s t n) c.bound d.bound bound_up s t n)
        (λ u. run_leaves M K slots c F s b place (while_loop at test body) u s (left_itself s)) (λ u. run_leaves M K slots d G t b place (while_loop at test body) u t (left_itself' t)) i
    run_in b place (repeat_loop at count body) i s t n =
        under_in (count ∷ []) (λ inside. Keeps M K slots (under M b count) inside body) _ _ s t n
        (λ sure j. then_alike g' closed' (NumbersRelated (R K.top)) In _ _ (value_up K.top place count sure.0 s t n)
        (λ v w p. then_alike g' closed' ◌≡◌ In _ _ (count_in p)
        (λ x y e. repeated_alike g' closed' In (c.stops Turns) (d.stops Turns) (weaker.together _ _ (h.stops Turns)) c.bound d.bound bound_up x y e _ _ (λ s t n. run_in (under M b count) (place + size count) body j s t n) s t n)))
        (λ u. run_leaves M K slots c F s b place (repeat_loop at count body) u s (left_itself s)) (λ u. run_leaves M K slots d G t b place (repeat_loop at count body) u t (left_itself' t)) i
    run_in b place (event at InitialStep analyses body) i s t n = run_in b place body i s t n
    run_in b place (event at FinalStep analyses body) i s t n = both_give n
    run_in b place (assign at target value) i s t n = assign_in (M.meaning at) place value i s t n
    run_in b place (contribute at bytes first second value) i s t n = contribute_in (M.meaning at) b place value i s t n
    run_in b place (task at bytes args) i s t n = both_give n

    run_all_in : (b : Bool) (place : ℕ) (ps : Statements) → AllKeep M K slots b false ps → (s : State V) (t : State W) → In s t
        → Alike g' In (run_all M c F b place ps s) (run_all M d G b place ps t)
    run_all_in b place no_statement i s t n = both_give n
    run_all_in b place (statement_then p ps) i s t n = then_alike g' closed' In In _ _ (run_in b place p i.0 s t n) (λ s t n. run_all_in b (place + statement_size p) ps i.1 s t n)

    run_case_in : (b : Bool) (place : ℕ) (items : Items) → AreIn M K slots K.top (item_values items) → ItemsKeep M K slots b false items
        → (otherwise : State V → Outcome E (State V)) (otherwise' : State W → Outcome E' (State W)) → ((s : State V) (t : State W) → In s t → Alike g' In (otherwise s) (otherwise' t))
        → {v : Number V} {w : Number W} → NumbersRelated (R K.top) v w → (s : State V) (t : State W) → In s t
        → Alike g' In (run_case M c F b place v items otherwise s) (run_case M d G b place w items otherwise' t)
    run_case_in b place no_items sure i otherwise otherwise' o p s t n = o s t n
    run_case_in b place (item_then at values body rest) sure i otherwise otherwise' o p s t n =
        let parts = are_parts values (item_values rest) sure in
        then_alike g' closed' ◌≡◌ In _ _ (among_in place values p parts.0 s t n)
        (λ x y e. chosen_related (Alike g' In) x y _ _ _ _ e (run_in b _ body i.0 s t n) (run_case_in b _ rest parts.1 i.1 otherwise otherwise' o p s t n))

    run_default_in : (b : Bool) (place : ℕ) (defaults : Defaults) → DefaultsKeep M K slots b false defaults → (s : State V) (t : State W) → In s t
        → Alike g' In (run_default M c F b place defaults s) (run_default M d G b place defaults t)
    run_default_in b place no_defaults i s t n = both_give n
    run_default_in b place (default_then at body rest) i s t n = run_in b place body i s t n

  pub blocks_in : (place : ℕ) (blocks : List Statement) → BlocksKeep M K slots blocks → (s : State V) (t : State W) → In s t
      → Alike g' In (run_blocks M c F place blocks s) (run_blocks M d G place blocks t)
  blocks_in place [] i s t n = both_give n
  blocks_in place (p ∷ ps) i s t n = then_alike g' closed' In In _ _ (run_in false place p i.0 s t n) (λ s t n. blocks_in (place + statement_size p) ps i.1 s t n)
