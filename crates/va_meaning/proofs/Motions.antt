-- What doesn't move in an evaluation over dual numbers.
use Rattle.std.specs.Prelude.{◌≡◌, ℕ, false, Option, Some, None}
use Rattle.std.proofs.Common.{refl, inl}
use Rattle.alg_laws.specs.declared.dual.Dual.{Dual}
use Rattle.alg_laws.specs.declared.number.Number.{Number}
use Rattle.alg_laws.specs.declared.number.Reason.{Reason}
use Rattle.alg_laws.specs.declared.number.Ty.{Ty}
use Rattle.alg_laws.specs.declared.number.Ty.TheVariants.{Integer, Real as RealTy}
use Rattle.alg_laws.specs.Dual.{dual}
use Rattle.alg_laws.specs.NumberParts.{part_of}
use Rattle.alg_laws.specs.Operations.{Operations, IsAlgebra}
use Rattle.alg_laws.specs.Related.{Relates, OutcomesRelated, IsLifted}
use Rattle.alg_laws.proofs.Outcomes.{gives_related, part_is_zero}
use Rattle.alg_laws.proofs.Relations.{mains_relate, lifts_relate}
use Rattle.va_meaning.specs.Classes.{AreOrdered, Slots, IfSure, KeepsToClasses, ContextsInClasses, ValuesIn, StatesInClasses}
use Rattle.va_meaning.specs.Elaborated.{Elaborated}
use Rattle.va_meaning.specs.Evaluation.{evaluated}
use Rattle.va_meaning.specs.EvaluationLaws.{main_point}
use Rattle.va_meaning.specs.Motions.{Motion, still, moving, is_below, motions, HasMotion, PointMoves, AnswersAreStill, MotionsOfEvaluations}
use Rattle.va_meaning.specs.Points.{Point, Answers, over}
use Rattle.va_meaning.specs.Related.{same_ends}
use Rattle.va_meaning.proofs.Classes.{same_integers}
use Rattle.va_meaning.proofs.ClassFunctions.{evaluated_in}
use Rattle.va_meaning.proofs.Endings.{same_closed, same_related, weaker_itself}

pub below_then : (k l m : Motion) → is_below k l → is_below l m → is_below k m
below_then still l m h i = tt
below_then moving still m h i = absurd h
below_then moving moving m h i = i

pub below_itself : (k : Motion) → is_below k k
below_itself still = tt
below_itself moving = tt

pub below_moving : (k : Motion) → is_below k moving
below_moving still = tt
below_moving moving = tt

pub motions_ordered : AreOrdered motions
motions_ordered = record {
  itself = below_itself;
  further = below_then;
  from_rest = λ k. tt;
  to_top = below_moving;
  rest_closed = tt;
  top_closed = tt;
  products = λ k l h i. (i, i);
  derivatives = λ k l m h i. moves_on l m h i;
}
  where
    moves_on : (l m : Motion) → motions.derives still l → is_below l m → motions.derives still m
    moves_on still m h i = absurd h
    moves_on moving still h i = absurd i
    moves_on moving moving h i = tt

module _ {V : Type 0} (o : Operations V) (valid unit : V → Type 0) (l : IsAlgebra o valid unit) where
  pub motion_kept : (k : Motion) → Relates (dual o) o (HasMotion o valid k)
  motion_kept still = lifts_relate o valid unit l
  motion_kept moving = mains_relate o

  pub motion_weaker : (k m : Motion) → is_below k m → (x : Dual V) (u : V) → HasMotion o valid k x u → HasMotion o valid m x u
  motion_weaker still still up x u h = h
  motion_weaker still moving up x u h = λ j. (h.0 j).main
  motion_weaker moving still up x u h = absurd up
  motion_weaker moving moving up x u h = h

  pub time_moves : (s : Dual V) (k m : Motion) → motions.derives k m → (x : Dual V) (u : V) → HasMotion o valid k x u
      → HasMotion o valid m ((dual o).product s x) (o.product s.main u)
  time_moves s k still d x u h = absurd d
  time_moves s k moving d x u h = (mains_relate o).product s x s.main u refl (motion_weaker k moving (below_moving k) x u h)

  motion_context : {E : Type 0} (slots : Slots Motion) (s : Dual V) (P : Point (Dual V)) → PointMoves o valid slots P → (n : ℕ) (stops : Reason → E)
      (answers : Answers E (Dual V)) (mains : Answers E V) → AnswersAreStill o valid answers mains
      → ContextsInClasses same_ends motions (HasMotion o valid) slots (over (dual o) s P n stops answers) (over o s.main (main_point P) n stops mains)
  motion_context slots s P p n stops answers mains a = record {
    ops = λ k h. motion_kept k;
    weaker = motion_weaker;
    sum = λ k x y u v h i. (motion_kept k).sum x y u v h i;
    negative = λ k x u h. (motion_kept k).negative x u h;
    product = λ k l m t x y u v h i. (motion_kept m).product x y u v (motion_weaker k m t.0 x u h) (motion_weaker l m t.1 y v i);
    derivative = time_moves s;
    parameters = p.parameters;
    given = λ p. refl;
    temperature = p.temperature;
    unknowns = p.unknowns;
    bound = inl refl;
    stops = λ reason. refl;
    answers = a;
  }

  evaluated_moves : {E : Type 0} (M : Elaborated) (slots : Slots Motion) → KeepsToClasses M motions slots → slots.unsure ≡ false
      → (s : Dual V) (P : Point (Dual V)) → PointMoves o valid slots P → (n : ℕ) (stops : Reason → E) (answers : Answers E (Dual V)) (mains : Answers E V)
      → AnswersAreStill o valid answers mains
      → OutcomesRelated (StatesInClasses M (HasMotion o valid) slots) (evaluated M (over (dual o) s P n stops answers)) (evaluated M (over o s.main (main_point P) n stops mains))
  evaluated_moves M slots keeps sure s P p n stops answers mains a =
      same_related (StatesInClasses M (HasMotion o valid) slots)
      (evaluated_in same_ends same_closed M motions motions_ordered (HasMotion o valid) slots _ _ (motion_context slots s P p n stops answers mains a) keeps
      same_ends same_closed (weaker_itself same_ends) (λ e. absurd (cc (e, sure))))

  -- a variable that doesn't move
  pub still_part : (ty : Ty) (known : Option Motion) (v : Number (Dual V)) (w : Number V) → IfSure (λ k. ValuesIn (HasMotion o valid) ty k v w) known → known ≡ Some still
      → part_of o v ≡ o.zero
  still_part ty None v w h e = absurd (cc (e))
  still_part Integer (Some k) v w h e = part_is_zero o valid (same_integers (IsLifted o valid) h)
  still_part RealTy (Some still) v w h e = part_is_zero o valid h
  still_part RealTy (Some moving) v w h e = absurd (cc (e))

  pub motions_of_evaluations : {E : Type 0} → MotionsOfEvaluations E V o valid
  motions_of_evaluations = record {
    evaluation = λ M slots keeps sure s P p n stops answers mains a. evaluated_moves M slots keeps sure s P p n stops answers mains a;
    still_variables = λ M slots keeps sure s P p n stops answers mains a last e x known.
        let r = gives_related (StatesInClasses M (HasMotion o valid) slots) last (evaluated_moves M slots keeps sure s P p n stops answers mains a) e in
        still_part (M.variable_type x) (slots.variable x) (last.variables x) (r.0.variables x) (r.2.variables x) known;
  }
