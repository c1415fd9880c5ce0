-- Algebras whose values are related, so that computations over them go alike. The relation is any that the operations keep.
use Rattle.std.specs.Prelude.{◌≡◌, ℤ, List, [], ◌∷◌}
use Rattle.alg_laws.specs.declared.dual.Dual.{Dual}
use Rattle.alg_laws.specs.declared.function.Fun1.{Fun1}
use Rattle.alg_laws.specs.declared.function.Fun2.{Fun2}
use Rattle.alg_laws.specs.declared.number.Number.{Number}
use Rattle.alg_laws.specs.declared.number.Number.TheVariants.{Real, Int}
use Rattle.alg_laws.specs.Dual.{dual, lift}
use Rattle.alg_laws.specs.Operations.{Operations}
use Rattle.alg_laws.specs.Outcome.{Outcome, gives, ends}

-- Every operation on related values gives related values, and every comparison and `near` the same answer.
pub record Relates {V W : Type 0} (o : Operations V) (p : Operations W) (R : V → W → Type 0) : Type 0 where
  pub zero : R o.zero p.zero
  pub one : R o.one p.one
  pub sum : (x y : V) (u v : W) → R x u → R y v → R (o.sum x y) (p.sum u v)
  pub negative : (x : V) (u : W) → R x u → R (o.negative x) (p.negative u)
  pub product : (x y : V) (u v : W) → R x u → R y v → R (o.product x y) (p.product u v)
  pub recip : (x : V) (u : W) → R x u → R (o.recip x) (p.recip u)
  pub fun1 : (f : Fun1) (x : V) (u : W) → R x u → R (o.fun1 f x) (p.fun1 f u)
  pub fun2 : (f : Fun2) (x y : V) (u v : W) → R x u → R y v → R (o.fun2 f x y) (p.fun2 f u v)
  pub less : (x y : V) (u v : W) → R x u → R y v → o.less x y ≡ p.less u v
  pub at_most : (x y : V) (u v : W) → R x u → R y v → o.at_most x y ≡ p.at_most u v
  pub same : (x y : V) (u v : W) → R x u → R y v → o.same x y ≡ p.same u v
  pub near : (x : V) (u : W) → R x u → o.near x ≡ p.near u

-- values of one type, with related reals and equal integers
pub data NumbersRelated {V W : Type 0} (R : V → W → Type 0) : Number V → Number W → Type 0 where
  reals : {x : V} {u : W} → R x u → NumbersRelated R (Real x) (Real u)
  integers : {i : ℤ} → NumbersRelated R (Int i) (Int i)

-- the same early end, or related values
pub data OutcomesRelated {E A B : Type 0} (P : A → B → Type 0) : Outcome E A → Outcome E B → Type 0 where
  both_give : {a : A} {b : B} → P a b → OutcomesRelated P (gives a) (gives b)
  both_end : {e : E} → OutcomesRelated P (ends e) (ends e)

-- lists of one length, related in order
pub data ListsRelated {A B : Type 0} (P : A → B → Type 0) : List A → List B → Type 0 where
  no_more : ListsRelated P [] []
  one_more : {a : A} {b : B} {xs : List A} {ys : List B} → P a b → ListsRelated P xs ys → ListsRelated P (a ∷ xs) (b ∷ ys)

-- Dual numbers, part by part.
abbrev pub Parts : {V W : Type 0} → (V → W → Type 0) → Dual V → Dual W → Type 0
Parts R d e = R d.main e.main × R d.part e.part

-- A dual number, and its main.
abbrev pub HasMain : {V : Type 0} → Dual V → V → Type 0
HasMain d x = d.main ≡ x

-- A value, and the same where it is valid.
abbrev pub IsValid : {V : Type 0} → (V → Type 0) → V → V → Type 0
IsValid valid x y = (x ≡ y) × valid x

-- A dual number that doesn't move, and its valid main.
abbrev pub IsLifted : {V : Type 0} → Operations V → (V → Type 0) → Dual V → V → Type 0
IsLifted o valid d x = (d ≡ lift o x) × valid x

-- Over the dual numbers each operation has the main that it has below.
abbrev pub MainsRelate : (V : Type 0) → Operations V → (V → Type 0) → Type 0
MainsRelate V o valid = Relates (dual o) o HasMain

-- Each operation on valid values gives a valid value.
abbrev pub ValidityRelates : (V : Type 0) → Operations V → (V → Type 0) → Type 0
ValidityRelates V o valid = Relates o o (IsValid valid)

-- Over the dual numbers each operation on values that don't move gives what it gives below, and that doesn't move.
abbrev pub LiftsRelate : (V : Type 0) → Operations V → (V → Type 0) → Type 0
LiftsRelate V o valid = Relates (dual o) o (IsLifted o valid)
