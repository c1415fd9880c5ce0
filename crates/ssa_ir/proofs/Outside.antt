-- A run keeps what is outside, and steps that stand one after the other are run one after the other.
use Rattle.std.specs.Prelude.{◌≡◌, ℕ, zero, suc, ◌==◌, Bool, true, false, ◌||◌, if◌then◌else◌, List, [], ◌∷◌, ◌++◌, ◌<◌, ◌+◌, length}
use Rattle.std.proofs.Common.{refl, subst, ◌∙◌, arith}
use Rattle.std.proofs.lemmas.Bool.Decides.{nat_tests}
use Rattle.alg_laws.specs.NumberOps.{is_true}
use Rattle.alg_laws.specs.Outcome.{Outcome, gives, ends, ◌>>=◌}
use Rattle.alg_laws.specs.Loop.{turns}
use Rattle.ssa_ir.specs.Body.{Merge, first_of, second_of, Step, Steps, value, choice, loop, stop, step, ◌⧺◌, merge_numbers, seen_of_step, seen}
use Rattle.ssa_ir.specs.Context.{Context}
use Rattle.ssa_ir.specs.Evaluation.{with_value, Values, Calls, AtTest, merged, computed, run_step, run, function_value, calls_from}
use Rattle.ssa_ir.specs.declared.body.Function.{Function}
use Rattle.ssa_ir.specs.Invariant.{Frame, Scope, IsTyped, behind, behind_step}
use Rattle.ssa_ir.specs.Laws.{is_among}

neither : (a b : Bool) → (a || b) ≡ false → (a ≡ false) × (b ≡ false)
neither true b e = cc (e)
neither false b e = (refl, e)

either_false : (a b : Bool) → a ≡ false → b ≡ false → (a || b) ≡ false
either_false true b e k = cc (e)
either_false false b e k = k

among_both : (k : ℕ) (xs ys : List ℕ) → is_among k (xs ++ ys) ≡ false → (is_among k xs ≡ false) × (is_among k ys ≡ false)
among_both k [] ys e = (refl, e)
among_both k (x ∷ xs) ys e =
    let parts = neither (k == x) (is_among k (xs ++ ys)) e in
    let rest = among_both k xs ys parts.1 in
    (either_false (k == x) (is_among k xs) parts.0 rest.0, rest.1)

not_chosen : {A : Type 0} (b : Bool) (x y : A) → b ≡ false → (if b then x else y) ≡ y
not_chosen true x y e = cc (e)
not_chosen false x y e = refl

-- merges change nothing else
pub merged_outside : {A : Type 0} (side : Merge → ℕ) (ms : List Merge) (inner outer : ℕ → A) (k : ℕ) → is_among k (merge_numbers ms) ≡ false → merged side ms inner outer k ≡ outer k
merged_outside side [] inner outer k e = refl
merged_outside side (m ∷ ms) inner outer k e =
    let parts = neither (k == m.number) (is_among k (merge_numbers ms)) e in
    not_chosen (k == m.number) (inner (side m)) (merged side ms inner outer k) parts.0 ∙ merged_outside side ms inner outer k parts.1

-- what holds of the value that a computation gives, if it gives one
pub data IfItGives {E A : Type 0} (P : A → Type 0) : Outcome E A → Type 0 where
  it_gives : {x : A} → P x → IfItGives P (gives x)
  it_ends : {e : E} → IfItGives P (ends e)

then_gives : {E A B : Type 0} (Q : A → Type 0) (P : B → Type 0) {a : Outcome E A} (f : A → Outcome E B) → IfItGives Q a → ((x : A) → Q x → IfItGives P (f x)) → IfItGives P (a >>= f)
then_gives Q P f (it_gives {x = x} h) k = k x h
then_gives Q P f it_ends k = it_ends

anything : {A : Type 0} → A → Type 0
anything x = Unit {0}

of_any : {E A : Type 0} (a : Outcome E A) → IfItGives anything a
unfolding anything
of_any (gives x) = it_gives tt
of_any (ends e) = it_ends

chosen_gives : {E A : Type 0} (P : A → Type 0) (b : Bool) (x y : Outcome E A) → IfItGives P x → IfItGives P y → IfItGives P (if b then x else y)
chosen_gives P true x y h k = h
chosen_gives P false x y h k = k

turns_give : {E S T : Type 0} (P : S → Type 0) (Q : T → Type 0) (too_many : E) (before : S → Outcome E T) (goes : T → Bool) (turn : T → Outcome E S)
    → ((s : S) → P s → IfItGives Q (before s)) → ((t : T) → Q t → IfItGives P (turn t)) → (n : ℕ) (s : S) → P s → IfItGives Q (turns too_many before goes turn n s)
turns_give P Q too_many before goes turn h k zero s p =
    then_gives Q Q _ (h s p) (λ t q. chosen_gives Q (goes t) _ _ it_ends (it_gives q))
turns_give P Q too_many before goes turn h k (suc n) s p =
    then_gives Q Q _ (h s p)
    (λ t q. chosen_gives Q (goes t) _ _ (then_gives P Q _ (k t q) (turns_give P Q too_many before goes turn h k n)) (it_gives q))

pub gave : {E A : Type 0} (P : A → Type 0) {a : Outcome E A} (x : A) → IfItGives P a → a ≡ gives x → P x
gave P x (it_gives {x = y} h) e =
    let same : y ≡ x = cc (e) in
    subst P same h
gave P x it_ends e = cc (e)

module _ {E V : Type 0} (c : Context E V) (F : Calls E V) (k : ℕ) where
  abbrev pub KeepsIt : Values V → Values V → Type 0
  KeepsIt v w = w k ≡ v k

  later : (v w : Values V) → KeepsIt v w → {a : Outcome E (Values V)} → IfItGives (KeepsIt w) a → IfItGives (KeepsIt v) a
  later v w p (it_gives q) = it_gives (q ∙ p)
  later v w p it_ends = it_ends

  abbrev HeadKeepsIt : Values V → AtTest V → Type 0
  HeadKeepsIt v t = KeepsIt v t.head

  mutual
    step_keeps : (s : Step) (v : Values V) → is_among k (seen_of_step s) ≡ false → IfItGives (KeepsIt v) (run_step c F s v)
    step_keeps (value j t op) v e =
        then_gives anything (KeepsIt v) _ (of_any (computed c F op v)) (λ x q. it_gives (not_chosen (k == j) x (v k) (neither (k == j) false e).0))
    step_keeps (choice test a b joins) v e =
        chosen_gives (KeepsIt v) (is_true c.ops (v test)) _ _
        (then_gives anything (KeepsIt v) _ (of_any (run c F a v)) (λ w q. it_gives (merged_outside first_of joins w v k e)))
        (then_gives anything (KeepsIt v) _ (of_any (run c F b v)) (λ w q. it_gives (merged_outside second_of joins w v k e)))
    step_keeps (loop heads before test turn) v e =
        then_gives (HeadKeepsIt v) (KeepsIt v) _
        (turns_give (KeepsIt v) (HeadKeepsIt v) _ _ _ _
        (λ s p. then_gives anything (HeadKeepsIt v) _ (of_any (run c F before s)) (λ w q. it_gives p))
        (λ t p. then_gives anything (KeepsIt v) _ (of_any (run c F turn t.inner)) (λ w q. it_gives (merged_outside second_of heads w v k e)))
        c.bound _ (merged_outside first_of heads v v k e))
        (λ t p. it_gives p)

    pub steps_keep : (s : Steps) (v : Values V) → is_among k (seen s) ≡ false → IfItGives (KeepsIt v) (run c F s v)
    steps_keep stop v e = it_gives refl
    steps_keep (step s rest) v e =
        let parts = among_both k (seen_of_step s) (seen rest) e in
        then_gives (KeepsIt v) (KeepsIt v) _ (step_keeps s v parts.0) (λ w p. later v w p (steps_keep rest w parts.1))

-- steps behind others
grouped : {E A B C : Type 0} (x : Outcome E A) (f : A → Outcome E C) (g : A → Outcome E B) (h : B → Outcome E C) → ((a : A) → f a ≡ (g a >>= h)) → (x >>= f) ≡ ((x >>= g) >>= h)
grouped (gives a) f g h same = same a
grouped (ends e) f g h same = refl

pub run_both : {E V : Type 0} (c : Context E V) (F : Calls E V) (a b : Steps) (v : Values V) → run c F (a ⧺ b) v ≡ (run c F a v >>= run c F b)
run_both c F stop b v = refl
run_both c F (step s a) b v = grouped (run_step c F s v) (run c F (a ⧺ b)) (run c F a) (run c F b) (λ w. run_both c F a b w)

pub scope_both : (a b : Steps) (sc : Scope) → behind (a ⧺ b) sc ≡ behind b (behind a sc)
scope_both stop b sc = refl
scope_both (step s a) b sc = scope_both a b (behind_step s sc)

pub typed_both : (f : Frame) (a b : Steps) (sc : Scope) → IsTyped f sc a → IsTyped f (behind a sc) b → IsTyped f sc (a ⧺ b)
typed_both f stop b sc p q = q
typed_both f (step s a) b sc p q = (p.0, typed_both f a b (behind_step s sc) p.1 q)

-- functions at the end of a list
more_keeps : {E V : Type 0} (c : Context E V) (n : ℕ) (F : Calls E V) (more : List Function) (k : ℕ) → k < n → calls_from c n F more k ≡ F k
more_keeps c n F [] k less = refl
more_keeps c n F (g ∷ gs) k less =
    let other : (k == n) ≡ false = grind (arith, nat_tests) in
    more_keeps c (suc n) (with_value F n (function_value c F g)) gs k (omega (arith, less)) ∙ not_chosen (k == n) (function_value c F g) (F k) other

pub longer_keeps : {E V : Type 0} (c : Context E V) (n : ℕ) (F : Calls E V) (fs more : List Function) (k : ℕ) → k < n + length fs
    → calls_from c n F (fs ++ more) k ≡ calls_from c n F fs k
longer_keeps c n F [] more k less = more_keeps c n F more k (omega (arith, less))
longer_keeps c n F (f ∷ fs) more k less = longer_keeps c (suc n) (with_value F n (function_value c F f)) fs more k (omega (arith, less))
