-- The laws of bodies: each is one of evaluations that are related.
use Rattle.std.specs.Prelude.{◌≡◌, ℕ, List}
use Rattle.std.proofs.Common.{refl, inl, inr, arith}
use Rattle.alg_laws.specs.declared.number.Reason.{Reason}
use Rattle.alg_laws.specs.declared.number.Reason.TheVariants.{Turns}
use Rattle.alg_laws.specs.Dual.{dual}
use Rattle.alg_laws.specs.Operations.{Operations, IsAlgebra}
use Rattle.alg_laws.specs.Related.{Relates, OutcomesRelated, HasMain, IsValid, IsLifted}
use Rattle.alg_laws.proofs.Relations.{mains_relate, validity_relates, lifts_relate}
use Rattle.ssa_ir.specs.declared.body.Function.{Function}
use Rattle.ssa_ir.specs.Body.{Steps}
use Rattle.ssa_ir.specs.Context.{Inputs, over}
use Rattle.ssa_ir.specs.Evaluation.{Values, calls, run}
use Rattle.ssa_ir.specs.Invariant.{Frame, Scope, IsTyped, behind}
use Rattle.ssa_ir.specs.Laws.{StepsAreTheirLines, KeepsOutside, RunsInSequence, Knows, ReadsWhatIsDefined, FunctionsAreKept, BoundsOfBodies, MainsOfBodies, ValidityOfBodies, LiftsOfBodies}
use Rattle.ssa_ir.specs.Related.{same_ends, more_turns, ValuesRelated, InputsRelated}
use Rattle.ssa_ir.proofs.Endings.{same_closed, more_closed, same_related}
use Rattle.ssa_ir.proofs.Lines.{steps_of_lines}
use Rattle.ssa_ir.proofs.Outside.{gave, KeepsIt, steps_keep, run_both, scope_both, typed_both, longer_keeps}
use Rattle.ssa_ir.proofs.Related.{body_related}

pub steps_are_their_lines : StepsAreTheirLines
steps_are_their_lines = record { steps = steps_of_lines }

-- values beside themselves
same_itself : {V : Type 0} (o : Operations V) → Relates o o ◌≡◌
same_itself o = record {
  zero = refl;
  one = refl;
  sum = λ x y u v h k. (λ j. o.sum (h j) (k j));
  negative = λ x u h. (λ j. o.negative (h j));
  product = λ x y u v h k. (λ j. o.product (h j) (k j));
  recip = λ x u h. (λ j. o.recip (h j));
  fun1 = λ f x u h. (λ j. o.fun1 f (h j));
  fun2 = λ f x y u v h k. (λ j. o.fun2 f (h j) (k j));
  less = λ x y u v h k. (λ j. o.less (h j) (k j));
  at_most = λ x y u v h k. (λ j. o.at_most (h j) (k j));
  same = λ x y u v h k. (λ j. o.same (h j) (k j));
  near = λ x u h. (λ j. o.near (h j));
}

-- at the same bound, both end for the same reason
related_at_one_bound : {E V W : Type 0} (o : Operations V) (p : Operations W) (R : V → W → Type 0) → Relates o p R
    → (f : Frame) (fs : List Function) → Knows f fs → (sc : Scope) (s : Steps) → IsTyped f sc s
    → (a : Inputs V) (b : Inputs W) → InputsRelated R f a b → (n : ℕ) (stops : Reason → E) → (v : Values V) (w : Values W) → ValuesRelated R sc v w
    → OutcomesRelated (ValuesRelated R (behind s sc)) (run (over o a n stops) (calls (over o a n stops) fs) s v) (run (over p b n stops) (calls (over p b n stops) fs) s w)
related_at_one_bound o p R r f fs knows sc s typed a b inputs n stops v w q =
    same_related (ValuesRelated R (behind s sc))
    (body_related same_ends same_closed (over o a n stops) (over p b n stops) R f
    (record { ops = r; inputs = inputs; bound = inl refl; stops = λ reason. refl }) fs knows sc s typed v w q)

module _ {E V : Type 0} (o : Operations V) (valid : V → Type 0) where
  pub keeps_outside : KeepsOutside E V o valid
  keeps_outside = record {
    steps = λ inputs n stops F s v w e k outside.
        gave (KeepsIt (over o inputs n stops) F k v) w (steps_keep (over o inputs n stops) F k s v outside) e;
  }

  pub runs_in_sequence : RunsInSequence E V o valid
  runs_in_sequence = record {
    steps = λ inputs n stops F a b v. run_both (over o inputs n stops) F a b v;
    scope = scope_both;
    typed = typed_both;
  }

  pub functions_are_kept : FunctionsAreKept E V o valid
  functions_are_kept = record {
    functions = λ inputs n stops fs more k less. longer_keeps (over o inputs n stops) 0 _ fs more k (omega (arith, less));
  }

  pub reads_what_is_defined : ReadsWhatIsDefined E V o valid
  reads_what_is_defined = record {
    steps = λ f fs knows sc s typed inputs others same n stops v w q.
        related_at_one_bound o o ◌≡◌ (same_itself o) f fs knows sc s typed inputs others same n stops v w q;
  }

  pub bounds_of_bodies : BoundsOfBodies E V o valid
  bounds_of_bodies = record {
    steps = λ f fs knows sc s typed inputs same n m le stops v q.
        body_related (more_turns (stops Turns)) (more_closed (stops Turns)) (over o inputs n stops) (over o inputs m stops) ◌≡◌ f
        (record { ops = same_itself o; inputs = same; bound = inr (le, refl); stops = λ reason. inr refl }) fs knows sc s typed v v q;
  }

  pub mains_of_bodies : MainsOfBodies E V o valid
  mains_of_bodies = record {
    steps = λ f fs knows sc s typed inputs mains same n stops v w q.
        related_at_one_bound (dual o) o HasMain (mains_relate o) f fs knows sc s typed inputs mains same n stops v w q;
  }

module _ {E V : Type 0} (o : Operations V) (valid unit : V → Type 0) (l : IsAlgebra o valid unit) where
  pub validity_of_bodies : ValidityOfBodies E V o valid
  validity_of_bodies = record {
    steps = λ f fs knows sc s typed inputs same n stops v q.
        related_at_one_bound o o (IsValid valid) (validity_relates o valid unit l) f fs knows sc s typed inputs inputs same n stops v v q;
  }

  pub lifts_of_bodies : LiftsOfBodies E V o valid
  lifts_of_bodies = record {
    steps = λ f fs knows sc s typed lifts inputs same n stops v w q.
        related_at_one_bound (dual o) o (IsLifted o valid) (lifts_relate o valid unit l) f fs knows sc s typed lifts inputs same n stops v w q;
  }
