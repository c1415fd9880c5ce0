-- The laws on the types of values.
use Rattle.std.specs.Prelude.{◌≡◌, length}
use Rattle.std.proofs.Common.{subst}
use Rattle.alg_laws.specs.NumberOps.{type_of as type_of_number}
use Rattle.alg_laws.specs.Operations.{Operations}
use Rattle.alg_laws.specs.Outcome.{Outcome, gives}
use Rattle.va_sem.specs.Typing.{type_of}
use Rattle.va_meaning.specs.Points.{over, without_unknowns}
use Rattle.va_meaning.specs.Evaluation.{functions}
use Rattle.va_meaning.specs.TypeLaws.{TypesOfValues}
use Rattle.va_meaning.specs.Types.{IsTypedStore}
use Rattle.va_meaning.proofs.Partial.{IfGives}
use Rattle.va_meaning.proofs.TypedStores.{functions_typed, evaluated_typed}
use Rattle.va_meaning.proofs.Types.{value_typed}

-- what a computation gives
given_value : {E A : Type 0} (P : A → Type 0) (a : Outcome E A) (x : A) → IfGives P a → a ≡ gives x → P x
given_value {E} {A} P a x h e = subst (λ (a : Outcome E A). IfGives P a) e h

pub types_of_values : {E V : Type 0} (o : Operations V) (valid : V → Type 0) → TypesOfValues E V o valid
types_of_values o valid = record {
  expressions = λ M t fits s P n stops answers point place e faults vars h v d.
      let c = over o s P n stops answers in
      given_value (λ v. type_of_number v ≡ type_of t e) _ v
      (value_typed M t fits c point (functions M c) (functions_typed M (without_unknowns c) (length M.functions)) place e vars h faults) d;
  variables = λ M s P n stops answers last e.
      given_value (λ s. IsTypedStore M s.variables) _ last (evaluated_typed M (over o s P n stops answers)) e;
}
