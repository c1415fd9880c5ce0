-- What holds of the values of computations that give one.
use Rattle.std.specs.Prelude.{ℕ, zero, suc, Bool, true, false, if◌then◌else◌}
use Rattle.alg_laws.specs.Loop.{turns, tested, Tested, while_turns}
use Rattle.alg_laws.specs.Outcome.{Outcome, gives, ends, ◌>>=◌, among}

-- P holds of the value, if there is one
abbrev pub IfGives : {E A : Type 0} → (A → Type 0) → Outcome E A → Type 0
IfGives P (gives x) = P x
IfGives P (ends e) = Unit {0}

pub anything : {E A : Type 0} (a : Outcome E A) → IfGives (λ (x : A). Unit {0}) a
anything (gives x) = tt
anything (ends e) = tt

pub among_if : {E F A : Type 0} (f : E → F) (P : A → Type 0) (a : Outcome E A) → IfGives P a → IfGives P (among f a)
among_if f P (gives x) h = h
among_if f P (ends e) h = tt

pub then_if : {E A B : Type 0} (P : A → Type 0) (Q : B → Type 0) (a : Outcome E A) (f : A → Outcome E B) → IfGives P a
    → ((x : A) → P x → IfGives Q (f x)) → IfGives Q (a >>= f)
then_if P Q (gives x) f h k = k x h
then_if P Q (ends e) f h k = tt

pub chosen_if : {E A : Type 0} (P : A → Type 0) (b : Bool) (x y : Outcome E A) → IfGives P x → IfGives P y
    → IfGives P (if b then x else y)
chosen_if P true x y h k = h
chosen_if P false x y h k = k

-- loops
pub turns_if : {E S T : Type 0} (P : S → Type 0) (Q : T → Type 0) (too_many : E) (before : S → Outcome E T) (goes : T → Bool)
    (turn : T → Outcome E S) → ((s : S) → P s → IfGives Q (before s)) → ((t : T) → Q t → IfGives P (turn t))
    → (n : ℕ) (s : S) → P s → IfGives Q (turns too_many before goes turn n s)
turns_if P Q too_many before goes turn h k zero s p =
    then_if Q Q (before s) _ (h s p) (λ t q. chosen_if Q (goes t) _ _ tt q)
turns_if P Q too_many before goes turn h k (suc n) s p =
    then_if Q Q (before s) _ (h s p)
    (λ t q. chosen_if Q (goes t) _ _ (then_if P Q (turn t) _ (k t q) (turns_if P Q too_many before goes turn h k n)) q)

pub while_if : {E S : Type 0} (P : S → Type 0) (too_many : E) (test : S → Outcome E Bool) (turn : S → Outcome E S)
    → ((s : S) → P s → IfGives P (turn s)) → (n : ℕ) (s : S) → P s → IfGives P (while_turns too_many test turn n s)
while_if {E} {S} P too_many test turn k n s p =
    let Q = λ (at : Tested S). P at.state in
    then_if Q P (turns too_many (tested test) (λ at. at.goes) (λ at. turn at.state) n s) _
    (turns_if P Q too_many (tested test) (λ at. at.goes) (λ at. turn at.state)
    (λ s p. then_if (λ (b : Bool). Unit {0}) Q (test s) _ (anything (test s)) (λ b h. p)) (λ at q. k at.state q) n s p)
    (λ at q. q)
