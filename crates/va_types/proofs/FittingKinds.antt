-- Arguments of calls, one after another, of the kinds that are taken.
use Rattle.std.specs.Prelude.{◌≡◌, ℕ, suc, ◌+◌, ◌<◌, ◌≤◌, ◌&&◌, not, Bool, true, false, List, [], ◌∷◌, ◌++◌, drop, length, get_or}
use Rattle.std.proofs.Common.{refl, sym, ap, subst, ◌∙◌, arith}
use Rattle.std.proofs.Math.ListN.{drop_of_length-le}
use Rattle.std.proofs.Math.Seq.{drop-cons}
use Rattle.va_base.specs.declared.fault.FaultCode.TheVariants.{ArgumentKind}
use Rattle.va_tree.specs.declared.expr.Arg.{Arg}
use Rattle.va_tree.specs.declared.expr.Arg.TheVariants as arg
use Rattle.va_tree.specs.Expressions.{arguments_of}
use Rattle.va_sem.specs.declared.names.NameUse.{NameUse}
use Rattle.va_sem.specs.Builtins.{Taken}
use Rattle.va_sem.specs.NamesFaults.{FaultAt, fault_if}
use Rattle.va_sem.specs.Typing.{kinds_fit, argument_count}
use Rattle.va_sem.specs.TypesFaults.{kind_faults}
use Rattle.va_types.specs.declared.found.Found.{Found}
use Rattle.va_types.specs.Found.{Finds, kind_fits, token_of}
use Rattle.va_types.proofs.Finding.{Remains, remains_next, remains_end}

and_assoc : (a b c : Bool) → (a && b) && c ≡ a && (b && c)
and_assoc true b c = refl
and_assoc false b c = refl

and_true : (a : Bool) → a && true ≡ a
and_true true = refl
and_true false = refl

pub counted : (args : List Arg) → argument_count (arguments_of args) ≡ length args
counted [] = refl
counted (arg.Text text ∷ rest) = (let e : argument_count (arguments_of rest) ≡ length rest = counted rest in omega (arith, e))
counted (arg.Expr x ∷ rest) = (let e : argument_count (arguments_of rest) ≡ length rest = counted rest in omega (arith, e))

module _ (uses : List NameUse) (taken : ℕ → Taken) where
  pub record KindsOn (args : List Arg) (start : Found) (i : ℕ) (x : Found) (all : Bool) : Type 0 where
    pub answer_is : all && kinds_fit uses taken i (arguments_of (drop i args)) ≡ kinds_fit uses taken 0 (arguments_of args)
    pub finds : Remains [] [] (kind_faults uses taken i (arguments_of (drop i args))) (kind_faults uses taken 0 (arguments_of args)) start x

  pub kinds_start : (args : List Arg) (x : Found) → KindsOn args x 0 x true
  kinds_start args x = record { answer_is = refl; finds = record { types_are = refl; least_is = refl } }

  fit_split : (i : ℕ) (a : Arg) (rest : List Arg) → kinds_fit uses taken i (arguments_of (a ∷ rest)) ≡ kind_fits uses (taken i) a && kinds_fit uses taken (i + 1) (arguments_of rest)
  fit_split i (arg.Text text) rest = refl
  fit_split i (arg.Expr e) rest = refl

  fault_split : (i : ℕ) (a : Arg) (rest : List Arg)
      → kind_faults uses taken i (arguments_of (a ∷ rest)) ≡ fault_if (not (kind_fits uses (taken i) a)) (token_of a) ArgumentKind ++ kind_faults uses taken (i + 1) (arguments_of rest)
  fault_split i (arg.Text text) rest = refl
  fault_split i (arg.Expr e) rest = refl

  pub kinds_next : (args : List Arg) (start x y : Found) (i at : ℕ) (a : Arg) (all fits all' : Bool) → i < length args → a ≡ get_or args i a → fits ≡ kind_fits uses (taken i) a → at ≡ token_of a → all' ≡ all && fits
      → Finds [] (fault_if (not fits) at ArgumentKind) x y → KindsOn args start i x all → KindsOn args start (i + 1) y all'
  kinds_next args start x y i at a all fits all' lt is fit token new p on =
      let here : drop i args ≡ a ∷ drop (suc i) args = drop-cons args i a lt ∙ ap (λ (z : Arg). z ∷ drop (suc i) args) (sym is) in
      let one : drop (suc i) args ≡ drop (i + 1) args = (let e : suc i ≡ i + 1 = omega arith in ap (λ (n : ℕ). drop n args) e) in
      let there : drop i args ≡ a ∷ drop (i + 1) args = here ∙ ap (λ (l : List Arg). a ∷ l) one in
      let rest : List Arg = drop (i + 1) args in
      let own : List FaultAt = fault_if (not (kind_fits uses (taken i) a)) (token_of a) ArgumentKind in
      let whole : List FaultAt = kind_faults uses taken 0 (arguments_of args) in
      let split : kind_faults uses taken i (arguments_of (drop i args)) ≡ own ++ kind_faults uses taken (i + 1) (arguments_of rest) =
      ap (λ (l : List Arg). kind_faults uses taken i (arguments_of l)) there ∙ fault_split i a rest in
      let mine : Finds [] own x y = subst (λ (f : List FaultAt). Finds [] f x y) (λ j. fault_if (not (fit j)) (token j) ArgumentKind) p in
      record {
        answer_is =
            (λ j. new j && kinds_fit uses taken (i + 1) (arguments_of rest))
            ∙ and_assoc all fits (kinds_fit uses taken (i + 1) (arguments_of rest))
            ∙ (λ j. all && (fit j && kinds_fit uses taken (i + 1) (arguments_of rest)))
            ∙ ap (λ b. all && b) (sym (ap (λ (l : List Arg). kinds_fit uses taken i (arguments_of l)) there ∙ fit_split i a rest))
            ∙ on.answer_is;
        finds =
            remains_next [] [] [] own (kind_faults uses taken (i + 1) (arguments_of rest)) whole start x y
            (subst (λ (l : List FaultAt). Remains [] [] l whole start x) split on.finds) mine;
      }

  pub kinds_end_answer : (args : List Arg) (start x : Found) (i : ℕ) (all : Bool) → length args ≤ i → KindsOn args start i x all → all ≡ kinds_fit uses taken 0 (arguments_of args)
  kinds_end_answer args start x i all h on =
      sym (and_true all) ∙ ap (λ (l : List Arg). all && kinds_fit uses taken i (arguments_of l)) (sym (drop_of_length-le args h)) ∙ on.answer_is

  pub kinds_end : (args : List Arg) (start x : Found) (i : ℕ) (all : Bool) → length args ≤ i → KindsOn args start i x all → Finds [] (kind_faults uses taken 0 (arguments_of args)) start x
  kinds_end args start x i all h on =
      let whole : List FaultAt = kind_faults uses taken 0 (arguments_of args) in
      remains_end [] whole start x (subst (λ (l : List Arg). Remains [] [] (kind_faults uses taken i (arguments_of l)) whole start x) (drop_of_length-le args h) on.finds)
