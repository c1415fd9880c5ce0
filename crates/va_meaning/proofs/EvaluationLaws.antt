-- The relations under which evaluations go alike: the main of a dual number, validity, and not moving.
use Rattle.std.specs.Prelude.{◌≡◌, ℕ, ◌==◌, ◌≤◌, Bool, true, false, if◌then◌else◌, List, All, length}
use Rattle.std.proofs.Common.{refl, arith, inl, inr}
use Rattle.std.proofs.lemmas.List.Elements.{All-nil, All-cons}
use Rattle.alg_laws.specs.declared.dual.Dual.{Dual}
use Rattle.alg_laws.specs.declared.number.Number.{Number}
use Rattle.alg_laws.specs.declared.number.Number.TheVariants.{Real, Int}
use Rattle.alg_laws.specs.Dual.{dual, lift}
use Rattle.alg_laws.specs.NumberParts.{lifted, NumberValid}
use Rattle.alg_laws.specs.Operations.{Operations, IsAlgebra}
use Rattle.alg_laws.specs.Related.{NumbersRelated, reals, integers, ListsRelated, no_more, one_more, HasMain, IsValid, IsLifted, Parts}
use Rattle.alg_laws.specs.declared.number.Reason.{Reason}
use Rattle.alg_laws.specs.declared.number.Reason.TheVariants.{Turns}
use Rattle.alg_laws.proofs.Outcomes.{gives_related, numbers_equal, has_main, is_valid, valid_is, is_lifted}
use Rattle.alg_laws.proofs.Related.{duals_related}
use Rattle.alg_laws.proofs.Relations.{mains_relate, validity_relates, lifts_relate}
use Rattle.va_sem.specs.Declarations.{analog_bodies}
use Rattle.va_sem.specs.rules.Biased.{analysis_of}
use Rattle.va_sem.specs.Meanings.{names_of_module}
use Rattle.va_meaning.specs.Elaboration.{module_seen}
use Rattle.va_meaning.proofs.Elaborated.{elaboration_laws}
use Rattle.va_meaning.specs.Bias.{SameFixed}
use Rattle.va_meaning.specs.EvaluationLaws.{main_point, PointValid, ContextValid, StateValid, MainsOfEvaluations, ValidityOfEvaluations, LiftsOfEvaluations, MainsOfParts, EndsOfEvaluations, HaveMoreTurns, BoundsOfEvaluations, DepthsOfFunctions, FixedOfEvaluations}
use Rattle.va_meaning.specs.Elaborated.{Elaborated}
use Rattle.va_meaning.specs.Evaluation.{evaluated, functions_to}
use Rattle.va_meaning.specs.Points.{Point, Result, Answers, State, over, unanswered, without_unknowns}
use Rattle.va_meaning.specs.Related.{same_ends, more_turns, Alike, both_give, AnswersRelated, PointsRelated, ContextsRelated, StatesRelated}
use Rattle.va_meaning.specs.Residuals.{lifted_point, moved_point, in_parts}
use Rattle.va_meaning.specs.Rows.{residuals}
use Rattle.va_meaning.proofs.Endings.{same_closed, more_closed, both_gave, told_ends, told_closed, told_equal, same_related, gives_more, ends_more, alike_weaker, same_itself, itself, states_equal, lists_equal, outcomes_themselves}
use Rattle.va_meaning.proofs.Bias.{evaluated_fixed}
use Rattle.va_meaning.proofs.Nesting.{functions_same}
use Rattle.va_meaning.proofs.Related.{functions_related, evaluated_related, residuals_related}

module _ {V : Type 0} (o : Operations V) where
  main_context : {E : Type 0} (s : Dual V) (P : Point (Dual V)) (n : ℕ) (stops : Reason → E) (answers : Answers E (Dual V)) (mains : Answers E V)
      → AnswersRelated same_ends HasMain answers mains
      → ContextsRelated same_ends HasMain (over (dual o) s P n stops answers) (over o s.main (main_point P) n stops mains)
  main_context s P n stops answers mains h = record {
    ops = mains_relate o;
    derivative = refl;
    point = record { parameters = λ p. has_main (P.parameters p); given = λ p. refl; temperature = refl; unknowns = λ i. refl };
    bound = inl refl;
    stops = λ reason. refl;
    answers = h;
  }

  pub mains_of_evaluations : {E : Type 0} (valid : V → Type 0) → MainsOfEvaluations E V o valid
  mains_of_evaluations valid = record {
    evaluation = λ M s P n stops answers mains h.
        same_related (StatesRelated HasMain) (evaluated_related same_ends same_closed M _ _ HasMain (main_context s P n stops answers mains h));
    residuals = λ M s P n stops answers mains h.
        same_related (ListsRelated HasMain) (residuals_related same_ends same_closed M _ _ HasMain (main_context s P n stops answers mains h));
  }

-- More turns change nothing but the want of them.
module _ {E V : Type 0} (M : Elaborated) (o : Operations V) (s : V) (P : Point V) (stops : Reason → E) (answers : Answers E V) (h : HaveMoreTurns stops answers) where
  more_context : (n m : ℕ) → n ≤ m → ContextsRelated (more_turns (stops Turns)) ◌≡◌ (over o s P n stops answers) (over o s P m stops answers)
  more_context n m le = record {
    ops = same_itself o;
    derivative = refl;
    point = record { parameters = λ p. itself (P.parameters p); given = λ p. refl; temperature = refl; unknowns = λ i. refl };
    bound = inr (le, refl);
    stops = λ reason. inr refl;
    answers = h;
  }

  evaluated_more : (n m : ℕ) → n ≤ m → Alike (more_turns (stops Turns)) ◌≡◌ (evaluated M (over o s P n stops answers)) (evaluated M (over o s P m stops answers))
  evaluated_more n m le =
      alike_weaker (more_turns (stops Turns)) (StatesRelated ◌≡◌) ◌≡◌ (λ s t k. states_equal k)
      (evaluated_related (more_turns (stops Turns)) (more_closed (stops Turns)) M _ _ ◌≡◌ (more_context n m le))

  residuals_more : (n m : ℕ) → n ≤ m → Alike (more_turns (stops Turns)) ◌≡◌ (residuals M (over o s P n stops answers)) (residuals M (over o s P m stops answers))
  residuals_more n m le =
      alike_weaker (more_turns (stops Turns)) (ListsRelated ◌≡◌) ◌≡◌ (λ s t k. lists_equal k)
      (residuals_related (more_turns (stops Turns)) (more_closed (stops Turns)) M _ _ ◌≡◌ (more_context n m le))

  deeper_more : (n depth more : ℕ) → depth ≤ more → (f : ℕ) (outs : List (Result E V))
      → Alike (more_turns (stops Turns)) ◌≡◌ (functions_to M (over o s P n stops answers) depth f outs) (functions_to M (over o s P n stops answers) more f outs)
  deeper_more n depth more le f outs =
      alike_weaker (more_turns (stops Turns)) (NumbersRelated ◌≡◌) ◌≡◌ (λ s t k. numbers_equal k)
      (functions_related (more_turns (stops Turns)) (more_closed (stops Turns)) M _ _ ◌≡◌ (more_context n n (omega arith)) depth more (inr (le, refl)) f outs outs (outcomes_themselves (stops Turns) outs))

-- The type of early ends changes nothing else.
pub ends_of_evaluations : {E V : Type 0} (o : Operations V) (valid : V → Type 0) → EndsOfEvaluations E V o valid
ends_of_evaluations o valid = record {
  evaluation = λ M s P n stops.
      told_equal stops
      (alike_weaker (told_ends stops) (StatesRelated ◌≡◌) ◌≡◌ (λ x y k. states_equal k)
      (evaluated_related (told_ends stops) (told_closed stops) M (over o s P n (λ reason. reason) (unanswered o)) (over o s P n stops (unanswered o)) ◌≡◌ (record {
        ops = same_itself o;
        derivative = refl;
        point = record { parameters = λ p. itself (P.parameters p); given = λ p. refl; temperature = refl; unknowns = λ i. refl };
        bound = inl refl;
        stops = λ reason. refl;
        answers = λ number outs outs' h. both_give refl;
      })));
}

pub bounds_of_evaluations : {E V : Type 0} (o : Operations V) (valid : V → Type 0) → BoundsOfEvaluations E V o valid
bounds_of_evaluations o valid = record {
  evaluation = λ M s P n m stops answers h le last e. gives_more (stops Turns) last (evaluated_more M o s P stops answers h n m le) e;
  residuals = λ M s P n m stops answers h le rows e. gives_more (stops Turns) rows (residuals_more M o s P stops answers h n m le) e;
  undefined = λ M s P n m stops answers h le e other k. ends_more (stops Turns) e other (evaluated_more M o s P stops answers h n m le) k;
}

pub depths_of_functions : {E V : Type 0} (o : Operations V) (valid : V → Type 0) → DepthsOfFunctions E V o valid
depths_of_functions o valid = record {
  defined = λ M s P n stops answers h depth more le f outs v e. gives_more (stops Turns) v (deeper_more M o s P stops answers h n depth more le f outs) e;
  deeper = λ M s P n stops answers h depth le f less outs. functions_same M (without_unknowns (over o s P n stops answers)) (length M.functions) depth f outs le (h f less);
}

pub fixed_of_evaluations : {E V : Type 0} (o : Operations V) (valid : V → Type 0) → FixedOfEvaluations E V o valid
fixed_of_evaluations o valid = record {
  evaluation = λ M biased h s P n stops answers unknowns last other e f.
      both_gave (SameFixed M biased) last other (evaluated_fixed M biased h (over o s P n stops answers) unknowns) e f;
  modules = λ t number m s P n stops answers unknowns last other e f.
      let M = module_seen t number m in
      let biased = (analysis_of (names_of_module t number m) (analog_bodies m)).biased in
      both_gave (SameFixed M biased) last other (evaluated_fixed M biased (elaboration_laws.bias t number m) (over o s P n stops answers) unknowns) e f;
}

module _ {V : Type 0} (o : Operations V) (valid unit : V → Type 0) (l : IsAlgebra o valid unit) where
  valid_context : {E : Type 0} (s : V) (P : Point V) (n : ℕ) (stops : Reason → E) (answers : Answers E V) → ContextValid valid s P answers
      → ContextsRelated same_ends (IsValid valid) (over o s P n stops answers) (over o s P n stops answers)
  valid_context s P n stops answers h = record {
    ops = validity_relates o valid unit l;
    derivative = (refl, h.derivative);
    point = record {
      parameters = λ p. is_valid valid (P.parameters p) (h.point.parameters p);
      given = λ p. refl;
      temperature = (refl, h.point.temperature);
      unknowns = λ i. (refl, h.point.unknowns i);
    };
    bound = inl refl;
    stops = λ reason. refl;
    answers = h.answers;
  }

  valid_state : (s t : State V) → StatesRelated (IsValid valid) s t → StateValid valid s
  valid_state s t h = record { variables = λ x. valid_is valid (h.variables x); held = λ b. (h.held b).sum.1 }

  valid_rows : {xs ys : List V} → ListsRelated (IsValid valid) xs ys → All valid xs
  valid_rows no_more = All-nil valid
  valid_rows (one_more {xs = xs} h hs) = All-cons valid _ xs h.1 (valid_rows hs)

  pub validity_of_evaluations : {E : Type 0} → ValidityOfEvaluations E V o valid
  validity_of_evaluations = record {
    evaluation = λ M s P n stops answers h last e.
        let r = gives_related (StatesRelated (IsValid valid)) last (same_related (StatesRelated (IsValid valid)) (evaluated_related same_ends same_closed M _ _ (IsValid valid) (valid_context s P n stops answers h))) e in
        valid_state last r.0 r.2;
    residuals = λ M s P n stops answers h rows e.
        let r = gives_related (ListsRelated (IsValid valid)) rows (same_related (ListsRelated (IsValid valid)) (residuals_related same_ends same_closed M _ _ (IsValid valid) (valid_context s P n stops answers h))) e in
        valid_rows r.2;
  }

  lifted_pointwise : (P : Point V) → PointValid valid P → PointsRelated (IsLifted o valid) (lifted_point o P) P
  lifted_pointwise P h = record {
    parameters = λ p. is_lifted o valid (P.parameters p) (h.parameters p);
    given = λ p. refl;
    temperature = (refl, h.temperature);
    unknowns = λ i. (refl, h.unknowns i);
  }

  lifted_context : {E : Type 0} (s : V) (P : Point V) (n : ℕ) (stops : Reason → E) (answers : Answers E V) (lifts : Answers E (Dual V))
      → valid s → PointValid valid P → AnswersRelated same_ends (IsLifted o valid) lifts answers
      → ContextsRelated same_ends (IsLifted o valid) (over (dual o) (lift o s) (lifted_point o P) n stops lifts) (over o s P n stops answers)
  lifted_context s P n stops answers lifts d p h = record {
    ops = lifts_relate o valid unit l;
    derivative = (refl, d);
    point = lifted_pointwise P p;
    bound = inl refl;
    stops = λ reason. refl;
    answers = h;
  }

  pub lifts_of_evaluations : {E : Type 0} → LiftsOfEvaluations E V o valid
  lifts_of_evaluations = record {
    evaluation = λ M s P n stops answers lifts d p h.
        same_related (StatesRelated (IsLifted o valid)) (evaluated_related same_ends same_closed M _ _ (IsLifted o valid) (lifted_context s P n stops answers lifts d p h));
    residuals = λ M s P n stops answers lifts d p h.
        same_related (ListsRelated (IsLifted o valid)) (residuals_related same_ends same_closed M _ _ (IsLifted o valid) (lifted_context s P n stops answers lifts d p h));
  }

  -- residuals in two parts, where an unknown moves and where none does
  number_in_parts : (v : Number V) → NumbersRelated (Parts HasMain) (lifted (dual o) (lifted o v)) (lifted o v)
  number_in_parts (Real x) = reals (refl, refl)
  number_in_parts (Int i) = integers

  unknown_in_parts : (b : Bool) (x : V) → (if b then record { main = x; part = o.one } else lift o x).main ≡ x
  unknown_in_parts true x = refl
  unknown_in_parts false x = refl

  moved_context : (P : Point V) (n j : ℕ) → ContextsRelated same_ends (Parts HasMain) (in_parts (dual o) (moved_point o j P) n) (in_parts o P n)
  moved_context P n j = record {
    ops = duals_related (dual o) o HasMain (mains_relate o);
    derivative = (refl, refl);
    point = record {
      parameters = λ p. number_in_parts (P.parameters p);
      given = λ p. refl;
      temperature = (refl, refl);
      unknowns = λ i. (unknown_in_parts (i == j) (P.unknowns i), refl);
    };
    bound = inl refl;
    stops = λ reason. refl;
    answers = λ k outs outs' h. both_give (refl, refl);
  }

  lifted_number_in_parts : (v : Number V) → NumberValid valid v
      → NumbersRelated (Parts (IsLifted o valid)) (lifted (dual o) (lifted o v)) (lifted o v)
  lifted_number_in_parts (Real x) h = reals ((refl, h), (refl, l.valid_zero))
  lifted_number_in_parts (Int i) h = integers

  resting_context : (P : Point V) (n : ℕ) → PointValid valid P
      → ContextsRelated same_ends (Parts (IsLifted o valid)) (in_parts (dual o) (lifted_point o P) n) (in_parts o P n)
  resting_context P n h = record {
    ops = duals_related (dual o) o (IsLifted o valid) (lifts_relate o valid unit l);
    derivative = ((refl, l.valid_zero), (refl, l.valid_one));
    point = record {
      parameters = λ p. lifted_number_in_parts (P.parameters p) (h.parameters p);
      given = λ p. refl;
      temperature = ((refl, h.temperature), (refl, l.valid_zero));
      unknowns = λ i. ((refl, h.unknowns i), (refl, l.valid_zero));
    };
    bound = inl refl;
    stops = λ reason. refl;
    answers = λ k outs outs' h. both_give ((refl, l.valid_zero), (refl, l.valid_zero));
  }

  pub mains_of_parts : MainsOfParts V o valid
  mains_of_parts = record {
    residuals = λ M P n j. same_related (ListsRelated (Parts HasMain)) (residuals_related same_ends same_closed M _ _ (Parts HasMain) (moved_context P n j));
    lifted = λ M P n h. same_related (ListsRelated (Parts (IsLifted o valid))) (residuals_related same_ends same_closed M _ _ (Parts (IsLifted o valid)) (resting_context P n h));
  }
