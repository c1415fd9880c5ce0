-- A module that keeps to timed variables keeps to what doesn't move where nothing but time derivatives moves.
use Rattle.std.specs.Prelude.{◌≡◌, ℕ, ◌&&◌, Bool, true, false, List, [], ◌∷◌, Option, Some, None, length}
use Rattle.std.specs.List.{position, slice_get}
use Rattle.std.proofs.Common.{refl, ap, sym, ◌∙◌, subst, inl}
use Rattle.std.proofs.lemmas.Bool.{eq-eqb}
use Rattle.alg_laws.specs.declared.dual.Dual.{Dual}
use Rattle.alg_laws.specs.declared.number.Reason.{Reason}
use Rattle.alg_laws.specs.declared.number.Ty.{Ty}
use Rattle.alg_laws.specs.declared.number.Ty.TheVariants.{Integer, Real as RealTy}
use Rattle.alg_laws.specs.Dual.{dual}
use Rattle.alg_laws.specs.Operations.{Operations, IsAlgebra}
use Rattle.alg_laws.specs.Related.{NumbersRelated, OutcomesRelated}
use Rattle.alg_laws.proofs.Outcomes.{gives_related, is_lifted, part_is_zero}
use Rattle.va_sem.specs.declared.branch.Unknown.{Unknown}
use Rattle.va_sem.specs.declared.branch.Unknown.TheVariants.{Node, Branch}
use Rattle.va_sem.specs.declared.branch.BranchKind.{BranchKind}
use Rattle.va_sem.specs.declared.branch.BranchKind.TheVariants as kind
use Rattle.va_sem.specs.declared.builtin.Builtin.TheVariants.{One, Two, Abs, Min, Max, LimExp, Ddt, LeftOut}
use Rattle.va_sem.specs.declared.builtin.SystemFunction.TheVariants.{Temperature, ThermalVoltage, Limit, SimParam, ParamGiven}
use Rattle.va_sem.specs.declared.names.Meaning.{Meaning}
use Rattle.va_sem.specs.declared.names.Meaning.TheVariants.{Var, Access}
use Rattle.va_sem.specs.declared.names.ModuleNames.{ModuleNames}
use Rattle.va_sem.specs.Declarations.{analog_bodies}
use Rattle.va_sem.specs.Meanings.{names_of_module}
use Rattle.va_sem.specs.Typing.{meaning_at}
use Rattle.va_sem.specs.rules.Biased.{Analysis, analysis_of, is_timed}
use Rattle.va_sem.specs.rules.Uses.{is_access_to}
use Rattle.va_sem.specs.rules.Values.{Purpose, contributed, Value}
use Rattle.va_sem.proofs.Contained.{Has, all_of_has}
use Rattle.va_tree.specs.declared.expr.UnaryOp.TheVariants.{Plus, Minus, Not}
use Rattle.va_tree.specs.declared.module.Module.{Module}
use Rattle.va_tree.specs.declared.source.Source.{Source}
use Rattle.va_tree.specs.Expressions.{Expression, Arguments, literal, infinity, name, group, unary, binary, choose, call, no_more, text_then, expression_then}
use Rattle.va_meaning.specs.Called.{Called, builtin, system, function, access, none, called}
use Rattle.va_meaning.specs.Classes.{Slots, IsSure, in_place, FunctionIn, argument_types, UnknownIn, NodesIn, AccessIn, VariableIn, NameIn, CallIn, IsIn, AllIn, FirstIn, ArgumentsIn, AssignmentIn, ContributionIn, uniform, InitialisersKeep, FunctionKeeps, KeepsToClasses, ContextsInClasses, ValuesIn, StatesInClasses}
use Rattle.va_meaning.specs.Elaborated.{Elaborated, Initialiser, Function}
use Rattle.va_meaning.specs.Elaboration.{elaborated, module_seen}
use Rattle.va_meaning.specs.Evaluation.{evaluated, functions}
use Rattle.va_meaning.specs.EvaluationLaws.{PointValid}
use Rattle.va_meaning.specs.Motions.{Motion, still, moving, is_below, motions, HasMotion, AnswersAreStill}
use Rattle.va_meaning.specs.Points.{Point, Context, Answers, Store, over}
use Rattle.va_meaning.specs.Related.{Alike, same_ends}
use Rattle.va_meaning.specs.Residuals.{lifted_point}
use Rattle.va_meaning.specs.Rows.{residuals}
use Rattle.va_meaning.specs.RowClasses.{FlowIn, RowIn}
use Rattle.va_meaning.specs.TimeParts.{moves_if, moves_with_time, ContributionKeepsTime, ContributedInTime, KeepsReactive, IsRowUntimed, PartsByTime, is_contributed_to, reactive_branches, TimesOfEvaluations}
use Rattle.va_meaning.specs.Timed.{IsCallUntimed, IsNameUntimed, IsUntimed, AreUntimed, IsFirstUntimed, InitialisersUntimed, AssignmentKeepsTime, ValueKeepsTime, HoldsNoDdt, FunctionHoldsNoDdt, KeepsToTime}
use Rattle.va_meaning.specs.Types.{result_type}
use Rattle.va_meaning.specs.Unknowns.{is_unknown, branch_of}
use Rattle.va_meaning.specs.Values.{value_of}
use Rattle.va_meaning.proofs.Classes.{value_in}
use Rattle.va_meaning.proofs.ClassFunctions.{functions_in, evaluated_in}
use Rattle.va_meaning.proofs.ClassRows.{RowsIn, residuals_in}
use Rattle.va_meaning.proofs.Endings.{same_closed, same_related, weaker_itself}
use Rattle.va_meaning.proofs.Everything.{IsUnder, operator_any, up_in_place, everything_in, function_any_keeps}
use Rattle.va_meaning.proofs.KeepsFrom.{each_keeps, blocks_keep}
use Rattle.va_meaning.proofs.Motions.{below_itself, below_moving, motions_ordered, motion_kept, motion_weaker, time_moves, still_part}
use Rattle.va_meaning.proofs.TimeLaws.{any_has, time_laws}
use Rattle.va_meaning.proofs.Timed.{untimed_of, Holds, is_under, blocks_from}

-- what is untimed doesn't move, where neither untimed variables nor unknowns do
module _ (M : Elaborated) (timed : ℕ → Bool) (slots : Slots Motion) (variables : (x : ℕ) → timed x ≡ false → slots.variable x ≡ Some still)
    (unknowns : (i : ℕ) → slots.unknown i ≡ Some still) where
  unknown_still : (l : Motion) (i : Option ℕ) → UnknownIn M motions slots l i
  unknown_still l None = tt
  unknown_still l (Some i) = subst (λ (known : Option Motion). IsSure (λ j. is_below j l) known) (sym (unknowns i)) tt

  nodes_still : (l : Motion) (plus : ℕ) (minus : Option ℕ) → NodesIn M motions slots l plus minus
  nodes_still l plus None = unknown_still l (position (is_unknown (Node plus)) M.unknowns)
  nodes_still l plus (Some minus) = (unknown_still l (position (is_unknown (Node plus)) M.unknowns), unknown_still l (position (is_unknown (Node minus)) M.unknowns))

  access_still : (l : Motion) (b : ℕ) (flow : Bool) → AccessIn M motions slots l b flow
  access_still l b true = unknown_still l (position (is_unknown (Branch b)) M.unknowns)
  access_still l b false = nodes_still l (branch_of M b).plus (branch_of M b).minus

  some_still : (l : Motion) (ty : Ty) → VariableIn M motions slots l ty (Some still)
  some_still l Integer = tt
  some_still l RealTy = tt

  name_untimed : (l : Motion) (m : Option Meaning) → IsNameUntimed M timed m → NameIn M motions slots l m
  name_untimed l (Some (Var x)) h =
      subst (λ (known : Option Motion). VariableIn M motions slots l (M.variable_type x) known) (sym (variables x h)) (some_still l (M.variable_type x))
  name_untimed l m h = tt

  function_untimed : (l : Motion) (ty : Ty) (arguments : Motion → Type 0) → ((j : Motion) → arguments j) → FunctionIn motions l ty arguments
  function_untimed l Integer arguments a = a moving
  function_untimed l RealTy arguments a = (l, tt, below_itself l, a l)

  call_untimed : (l : Motion) (what : Called) (A B : Type 0) → IsCallUntimed what A B → (first all : Motion → Type 0) (arguments : List Ty → Motion → Type 0)
      → (A → (j : Motion) → first j) → (B → (j : Motion) → all j) → ((types : List Ty) → B → (j : Motion) → arguments types j)
      → CallIn M motions slots l what first all arguments
  call_untimed l (builtin Ddt) A B h first all arguments f i a = absurd h
  call_untimed l (builtin LeftOut) A B h first all arguments f i a = (tt, i h moving)
  call_untimed l (builtin (One b)) A B h first all arguments f i a = (l, tt, below_itself l, i h l)
  call_untimed l (builtin (Two b)) A B h first all arguments f i a = (l, tt, below_itself l, i h l)
  call_untimed l (builtin Abs) A B h first all arguments f i a = (l, tt, below_itself l, i h l)
  call_untimed l (builtin Min) A B h first all arguments f i a = (l, tt, below_itself l, i h l)
  call_untimed l (builtin Max) A B h first all arguments f i a = (l, tt, below_itself l, i h l)
  call_untimed l (builtin LimExp) A B h first all arguments f i a = (l, tt, below_itself l, i h l)
  call_untimed l (system Limit) A B h first all arguments f i a = f h l
  call_untimed l (system SimParam) A B h first all arguments f i a = i h l
  call_untimed l (system ThermalVoltage) A B h first all arguments f i a = (l, tt, below_itself l, i h l)
  call_untimed l (system Temperature) A B h first all arguments f i a = tt
  call_untimed l (system ParamGiven) A B h first all arguments f i a = tt
  call_untimed l (function n) A B h first all arguments f i a =
      function_untimed l (result_type (slice_get M.functions n)) (arguments (argument_types M (slice_get M.functions n))) (a (argument_types M (slice_get M.functions n)) h)
  call_untimed l (access b turned flow) A B h first all arguments f i a = access_still l b flow
  call_untimed l none A B h first all arguments f i a = tt

  mutual
    untimed_in : (l : Motion) (e : Expression) → IsUntimed M timed e → IsIn M motions slots l e
    untimed_in l (literal at value integer) h = tt
    untimed_in l (infinity at) h = tt
    untimed_in l (name at bytes) h = name_untimed l (M.meaning at) h
    untimed_in l (group at inner) h = untimed_in l inner h
    untimed_in l (unary at Plus operand) h = untimed_in l operand h
    untimed_in l (unary at Minus operand) h = untimed_in l operand h
    untimed_in l (unary at Not operand) h = untimed_in moving operand h
    untimed_in l (binary at left op right) h =
        operator_any motions motions_ordered l tt l (below_itself l) op _ _ (λ j up. untimed_in j left h.0) (λ j up. untimed_in j right h.1)
    untimed_in l (choose at test a b) h = (untimed_in moving test h.0, untimed_in l a h.1, untimed_in l b h.2)
    untimed_in l (call at callee bytes args) h =
        call_untimed l (called (M.meaning at) callee bytes) (IsFirstUntimed M timed args) (AreUntimed M timed args) h _ _ _
        (λ i j. first_untimed j args i) (λ i j. all_untimed j args i) (λ types i j. arguments_untimed types j args i)

    all_untimed : (l : Motion) (args : Arguments) → AreUntimed M timed args → AllIn M motions slots l args
    all_untimed l no_more h = tt
    all_untimed l (text_then text rest) h = all_untimed l rest h
    all_untimed l (expression_then e rest) h = (untimed_in l e h.0, all_untimed l rest h.1)

    first_untimed : (l : Motion) (args : Arguments) → IsFirstUntimed M timed args → FirstIn M motions slots l args
    first_untimed l no_more h = tt
    first_untimed l (text_then text rest) h = tt
    first_untimed l (expression_then e rest) h = untimed_in l e h

    arguments_untimed : (types : List Ty) (l : Motion) (args : Arguments) → AreUntimed M timed args → ArgumentsIn M motions slots types l args
    arguments_untimed types l no_more h = tt
    arguments_untimed [] l (text_then text rest) h = tt
    arguments_untimed (ty ∷ types) l (text_then text rest) h = arguments_untimed types l rest h
    arguments_untimed [] l (expression_then e rest) h = tt
    arguments_untimed (ty ∷ types) l (expression_then e rest) h = (untimed_in (in_place motions ty l) e h.0, arguments_untimed types l rest h.1)

-- functions and initialisers
module _ (M : Elaborated) where
  abbrev resting : Slots Motion
  resting = uniform still

  resting_under : IsUnder motions resting moving
  resting_under = record { closed = tt; derives = tt; answer = tt; variables = λ x. tt; unknowns = λ i. tt }

  resting_top : (e : Expression) → IsIn M motions resting moving e
  resting_top e = everything_in M motions motions_ordered resting moving resting_under moving tt e

  nothing_timed : (l : Motion) (e : Expression) → IsUntimed M (λ x. false) e → IsIn M motions resting l e
  nothing_timed l e h = untimed_in M (λ x. false) resting (λ x d. refl) (λ i. refl) l e h

  assigned_resting : (m : Option Meaning) (e : Expression) → IsUntimed M (λ x. false) e → AssignmentIn M motions resting false m e
  assigned_resting (Some (Var x)) e h = (refl, nothing_timed (in_place motions (M.variable_type x) still) e h)
  assigned_resting m e h = inl (resting_top e)

  contributed_resting : (biased : Bool) (m : Option Meaning) (e : Expression) → IsUntimed M (λ x. false) e → ContributionIn M motions resting biased false m e
  contributed_resting biased (Some (Access b turned flow)) e h = ((refl, nothing_timed still e h), λ i d. absurd (cc (d)))
  contributed_resting biased m e h = inl (resting_top e)

  initialisers_resting : (is : List Initialiser) → InitialisersUntimed M (λ x. false) is → InitialisersKeep M motions still is
  initialisers_resting [] h = tt
  initialisers_resting (i ∷ is) h = (nothing_timed (in_place motions (M.variable_type i.variable) still) i.value h.0, initialisers_resting is h.1)

  function_resting : (f : Option Function) → FunctionHoldsNoDdt M f → FunctionKeeps M motions still f
  function_resting None h = tt
  function_resting (Some f) h = (
    initialisers_resting f.initialisers h.0,
    each_keeps M motions resting (HoldsNoDdt M) (HoldsNoDdt M) (λ here at e i. assigned_resting (M.meaning at) e i)
        (λ here biased at e i. contributed_resting biased (M.meaning at) e i) resting_top false false f.body h.1 h.1,
  )

  function_by_motion : (k : Motion) (f : Option Function) → FunctionHoldsNoDdt M f → FunctionKeeps M motions k f
  function_by_motion still f h = function_resting f h
  function_by_motion moving f h = function_any_keeps M motions motions_ordered moving tt tt tt f

module _ (M : Elaborated) (timed reactive : ℕ → Bool) where
  abbrev in_time : Slots Motion
  in_time = moves_with_time timed reactive

  in_time_under : IsUnder motions in_time moving
  in_time_under = record { closed = tt; derives = tt; answer = tt; variables = λ x. below_moving (moves_if (timed x)); unknowns = λ i. tt }

  in_time_any : (l : Motion) → is_below moving l → (e : Expression) → IsIn M motions in_time l e
  in_time_any l up e = everything_in M motions motions_ordered in_time moving in_time_under l up e

  in_time_top : (e : Expression) → IsIn M motions in_time moving e
  in_time_top e = in_time_any moving tt e

  in_time_still : (l : Motion) (e : Expression) → IsUntimed M timed e → IsIn M motions in_time l e
  in_time_still l e h = untimed_in M timed in_time (λ x d. ap (λ b. Some (moves_if b)) d) (λ i. refl) l e h

  assigned_in_time : (m : Option Meaning) (e : Expression) → AssignmentKeepsTime M timed m e → AssignmentIn M motions in_time false m e
  assigned_in_time (Some (Var x)) e h = by_timed (timed x) refl
    where
      by_timed : (b : Bool) → timed x ≡ b → (false ≡ false) × IsIn M motions in_time (in_place motions (M.variable_type x) (moves_if b)) e
      by_timed true d = (refl, in_time_any _ (up_in_place motions motions_ordered moving tt (M.variable_type x) moving tt) e)
      by_timed false d = (refl, in_time_still _ e (h d))
  assigned_in_time m e h = inl (in_time_top e)

  contributed_in_time : (biased : Bool) (m : Option Meaning) (e : Expression) → ContributionKeepsTime M timed reactive m e → ContributionIn M motions in_time biased false m e
  contributed_in_time biased (Some (Access a turned flow)) e h = (by_reactive (reactive a) refl, λ i d. absurd (cc (d)))
    where
      by_reactive : (b : Bool) → reactive a ≡ b → (false ≡ false) × IsIn M motions in_time (moves_if b) e
      by_reactive true d = (refl, in_time_top e)
      by_reactive false d = (refl, in_time_still still e (h d))
  contributed_in_time biased m e h = inl (in_time_top e)

  in_time_keeps : KeepsToTime M timed → KeepsReactive M timed reactive → KeepsToClasses M motions in_time
  in_time_keeps h r = record {
    functions = λ f k closed. function_by_motion M k (slice_get M.functions f) (h.functions f);
    initialisers = initialisers_resting M M.initialisers h.initialisers;
    blocks = blocks_keep M motions in_time (ValueKeepsTime M timed) (ContributedInTime M timed reactive)
        (λ here at e i. assigned_in_time (M.meaning at) e i) (λ here biased at e i. contributed_in_time biased (M.meaning at) e i) in_time_top M.blocks h.blocks r;
  }

  -- an untimed row
  flow_untimed : (b : ℕ) (kd : BranchKind) → reactive b ≡ false → FlowIn M motions in_time still b kd
  flow_untimed b kind.Flow e = subst (λ (x : Bool). is_below (moves_if x) still) (sym e) tt
  flow_untimed b kind.Collapsing e = subst (λ (x : Bool). is_below (moves_if x) still) (sym e) tt
  flow_untimed b kind.Potential e = unknown_still M timed in_time (λ x d. ap (λ b. Some (moves_if b)) d) (λ i. refl) still (position (is_unknown (Branch b)) M.unknowns)

  row_untimed : (u : Unknown) → IsRowUntimed M reactive u → RowIn M motions in_time still u
  row_untimed (Node a) h = λ b branch at e. flow_untimed b (M.kind b) (h b branch at e)
  row_untimed (Branch b) h = (
    nodes_still M timed in_time (λ x d. ap (λ b. Some (moves_if b)) d) (λ i. refl) still (branch_of M b).plus (branch_of M b).minus,
    subst (λ (x : Bool). is_below (moves_if x) still) (sym h) tt,
  )

module _ {V : Type 0} (o : Operations V) (valid unit : V → Type 0) (l : IsAlgebra o valid unit) (E : Type 0) (M : Elaborated) (timed reactive : ℕ → Bool)
    (keeps : KeepsToTime M timed) (contributes : KeepsReactive M timed reactive) where
  abbrev R : Motion → Dual V → V → Type 0
  R = HasMotion o valid

  abbrev slots : Slots Motion
  slots = moves_with_time timed reactive

  module _ (s : Dual V) (P : Point V) (p : PointValid valid P) (n : ℕ) (stops : Reason → E) (answers : Answers E (Dual V)) (mains : Answers E V)
      (a : AnswersAreStill o valid answers mains) where
    abbrev above : Context E (Dual V)
    above = over (dual o) s (lifted_point o P) n stops answers

    abbrev beneath : Context E V
    beneath = over o s.main P n stops mains

    in_classes : ContextsInClasses same_ends motions R slots above beneath
    in_classes = record {
      ops = λ k h. motion_kept o valid unit l k;
      weaker = motion_weaker o valid unit l;
      sum = λ k x y u v h i. (motion_kept o valid unit l k).sum x y u v h i;
      negative = λ k x u h. (motion_kept o valid unit l k).negative x u h;
      product = λ k j m t x y u v h i. (motion_kept o valid unit l m).product x y u v (motion_weaker o valid unit l k m t.0 x u h) (motion_weaker o valid unit l j m t.1 y v i);
      derivative = time_moves o valid unit l s;
      parameters = λ q. is_lifted o valid (P.parameters q) (p.parameters q);
      given = λ q. refl;
      temperature = (refl, p.temperature);
      unknowns = λ i. (refl, p.unknowns i);
      bound = inl refl;
      stops = λ reason. refl;
      answers = a;
    }

    kept : KeepsToClasses M motions slots
    kept = in_time_keeps M timed reactive keeps contributes

    evaluated_alike : Alike same_ends (StatesInClasses M R slots) (evaluated M above) (evaluated M beneath)
    evaluated_alike = evaluated_in same_ends same_closed M motions motions_ordered R slots above beneath in_classes kept same_ends same_closed (weaker_itself same_ends) (λ e. absurd (cc (e)))

    evaluated_moves : OutcomesRelated (StatesInClasses M R slots) (evaluated M above) (evaluated M beneath)
    evaluated_moves = same_related (StatesInClasses M R slots) evaluated_alike

    still_held : (x : Dual V) (y : V) (b : Bool) → b ≡ false → R (moves_if b) x y → x.part ≡ o.zero
    still_held x y true e h = absurd (cc (e))
    still_held x y false e h = λ j. (h.0 j).part

    value_alike : (k : Motion) (vars : Store (Dual V)) (below : Store V)
        → ((x : ℕ) → ValuesIn R (M.variable_type x) (moves_if (timed x)) (vars x) (below x)) → (place : ℕ) (e : Expression) → IsIn M motions slots k e
        → OutcomesRelated (NumbersRelated (R k)) (value_of M above (functions M above) place e vars) (value_of M beneath (functions M beneath) place e below)
    value_alike k vars below h place e i =
        same_related (NumbersRelated (R k))
        (value_in same_ends same_closed M motions motions_ordered R slots above beneath in_classes (functions M above) (functions M beneath)
        (functions_in same_ends same_closed M motions motions_ordered R slots above beneath in_classes kept (length M.functions) (length M.functions) (inl refl)) k place e i vars below h)

    row_alike : OutcomesRelated (RowsIn same_ends same_closed M motions motions_ordered R slots above beneath in_classes) (residuals M above) (residuals M beneath)
    row_alike =
        same_related (RowsIn same_ends same_closed M motions motions_ordered R slots above beneath in_classes)
        (residuals_in same_ends same_closed M motions motions_ordered R slots above beneath in_classes same_ends same_closed evaluated_alike)

  parts_by_time : PartsByTime E V o valid M timed reactive
  parts_by_time = record {
    evaluation = evaluated_moves;
    values = λ s P p n stops answers mains a vars below h place e. (
      value_alike s P p n stops answers mains a moving vars below h place e (in_time_top M timed reactive e),
      λ untimed v gave.
          let r = gives_related (NumbersRelated (R still)) v (value_alike s P p n stops answers mains a still vars below h place e (in_time_still M timed reactive still e untimed)) gave in
          part_is_zero o valid r.2,
    );
    variables = λ s P p n stops answers mains a last gave x is.
        let r = gives_related (StatesInClasses M R slots) last (evaluated_moves s P p n stops answers mains a) gave in
        still_part o valid unit l (M.variable_type x) (Some (moves_if (timed x))) (last.variables x) (r.0.variables x) (r.2.variables x) (ap (λ b. Some (moves_if b)) is);
    held = λ s P p n stops answers mains a last gave b is.
        let r = gives_related (StatesInClasses M R slots) last (evaluated_moves s P p n stops answers mains a) gave in
        still_held s P p n stops answers mains a (last.held b).sum (r.0.held b).sum (reactive b) is (r.2.held b).sum;
    rows = λ s P p n stops answers mains a rows gave i u at untimed row there.
        let r = gives_related (RowsIn same_ends same_closed M motions motions_ordered R slots _ _ (in_classes s P p n stops answers mains a)) rows (row_alike s P p n stops answers mains a) gave in
        let q = r.2 still i u at (row_untimed M timed reactive u untimed) row there in
        (λ j. (q.1.0 j).part);
  }

-- the module of a text without faults
module _ (t : Source) (number : ℕ) (m : Module) where
  abbrev its_names : ModuleNames
  its_names = names_of_module t number m

  abbrev its : Analysis
  its = analysis_of its_names (analog_bodies m)

  contribution_closed : (v : Value) → Has its.values v → (at b : ℕ) (turned flow : Bool) → v.purpose ≡ contributed at → meaning_at its_names.uses at ≡ Some (Access b turned flow)
      → reactive_branches its b ≡ false → (d : Bool) → is_timed its.meaning its.timed v.expression ≡ d → d ≡ false
  contribution_closed v h at b turned flow p e is false g = refl
  contribution_closed v h at b turned flow p e is true g =
      sym (any_has (λ (w : Value). is_contributed_to its.meaning b w.purpose && is_timed its.meaning its.timed w.expression) its.values v h
      (λ j. ((λ i. is_contributed_to its.meaning b (p i)) ∙ ap (is_access_to b) e ∙ eq-eqb b b refl) j && g j))
      ∙ is

  contribution_keeps : (v : Value) → Has its.values v → (at : ℕ) → v.purpose ≡ contributed at → (n : Option Meaning) → meaning_at its_names.uses at ≡ n
      → ContributionKeepsTime (elaborated its_names m) its.timed (reactive_branches its) n v.expression
  contribution_keeps v h at p (Some (Access b turned flow)) e =
      λ is. untimed_of (elaborated its_names m) its.timed v.expression (contribution_closed v h at b turned flow p e is (is_timed its.meaning its.timed v.expression) refl)
  contribution_keeps v h at p n e = tt

  value_contributes : (here : Bool) (v : Value) → Has its.values v → (p : Purpose) → v.purpose ≡ p
      → ContributedInTime (elaborated its_names m) its.timed (reactive_branches its) here p v.expression
  value_contributes here v h (contributed at) p = contribution_keeps v h at p (meaning_at its_names.uses at) refl
  value_contributes here v h other p = tt

  keeps_reactive : KeepsReactive (elaborated its_names m) its.timed (reactive_branches its)
  keeps_reactive =
      blocks_from (elaborated its_names m) (ContributedInTime (elaborated its_names m) its.timed (reactive_branches its)) (analog_bodies m)
      (all_of_has (Holds (elaborated its_names m) (ContributedInTime (elaborated its_names m) its.timed (reactive_branches its))) its.values
      (λ v h. value_contributes (is_under (elaborated its_names m) (ContributedInTime (elaborated its_names m) its.timed (reactive_branches its)) v.around) v h v.purpose refl))

pub times_of_evaluations : {E V : Type 0} (o : Operations V) (valid unit : V → Type 0) → IsAlgebra o valid unit → TimesOfEvaluations E V o valid
times_of_evaluations o valid unit l = record {
  keeping = λ M timed reactive keeps contributes. parts_by_time o valid unit l _ M timed reactive keeps contributes;
  modules = λ t number m sound.
      let a = analysis_of (names_of_module t number m) (analog_bodies m) in
      parts_by_time o valid unit l _ (module_seen t number m) a.timed (reactive_branches a) (time_laws.keeps t number m sound) (keeps_reactive t number m);
}
