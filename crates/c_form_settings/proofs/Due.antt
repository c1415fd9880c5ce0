-- What is due of a local in a block, by one recursion, and what each part of the rule asks of the block.
use Rattle.std.proofs.Common.{◌≡◌, ℕ, List, [], ◌∷◌, ◌++◌, refl, ap, sym, ◌∙◌}
use Rattle.std.specs.Prelude.{true, false}
use Rattle.c_tree.specs.Form.{least_of}
use Rattle.c_tree.specs.Raw.{RawBlock, closed, simple, leave, choice, loop}
use Rattle.c_tree.specs.rules.Bodies.{atoms_of_simple}
use Rattle.c_tree.specs.rules.Settings.{reads, reads_in, sets, sets_in, first_counts, still_wanted, set_once, set_in_turn, after_join, after_head}
use Rattle.c_form_settings.specs.declared.duty.Duty.{Duty}
use Rattle.c_form_settings.specs.declared.duty.Duty.TheVariants.{Unset, Untouched, Arm, Turn, Behind, Join, Head}
use Rattle.c_form_settings.specs.Duties.{reads_under, simple_under, behind_sets, behind_simple, behind_break, in_arm, behind_if, in_loop, behind_loop, end_under}
use Rattle.c_form_settings.proofs.Least.{least-both, least-more, least-loop, least-front, least-choice, least-joined, least-cross}
use Rattle.c_form_settings.proofs.Uses.{sets-simple, sets-choice, sets-loop, reads-simple, reads-leave, reads-choice, reads-loop}

-- what a local blames in a block, where this is due of it
abbrev pub due_in : ℕ → Duty → RawBlock → List ℕ
due_in i due (closed at) = end_under due at
due_in i due (simple s rest) = simple_under i due s ++ due_in i (behind_simple i due s) rest
due_in i due (leave at a rest) = reads_under i due (a ∷ []) ++ due_in i (behind_break due) rest
due_in i due (choice a x y rest) =
    reads_under i due (a ∷ []) ++ due_in i (in_arm due) x ++ due_in i (in_arm due) y ++ due_in i (behind_if due) rest
due_in i due (loop x rest) = due_in i (in_loop due) x ++ due_in i (behind_loop due) rest

-- where no setting is wanted, each counts
pub none-wanted : (l : List ℕ) → first_counts false l ≡ l
none-wanted [] = refl
none-wanted (at ∷ l) = refl

pub stays-unset : (l : List ℕ) → behind_sets Unset l ≡ Unset
stays-unset [] = refl
stays-unset (at ∷ l) = refl

stays-untouched : (l : List ℕ) → behind_sets Untouched l ≡ Untouched
stays-untouched [] = refl
stays-untouched (at ∷ l) = refl

stays-turn : (l : List ℕ) → behind_sets Turn l ≡ Turn
stays-turn [] = refl
stays-turn (at ∷ l) = refl

stays-join : (l : List ℕ) → behind_sets Join l ≡ Join
stays-join [] = refl
stays-join (at ∷ l) = refl

stays-head : (l : List ℕ) → behind_sets Head l ≡ Head
stays-head [] = refl
stays-head (at ∷ l) = refl

not_wanted : (l : List ℕ) → still_wanted false l ≡ false
not_wanted [] = refl
not_wanted (at ∷ l) = refl

-- lists of which each part is known
two : {x y u v : List ℕ} → x ≡ u → y ≡ v → x ++ y ≡ u ++ v
two {x} {y} {u} {v} e f = ap (λ l. l ++ y) e ∙ ap (λ l. u ++ l) f

three : {x y z u v w : List ℕ} → x ≡ u → y ≡ v → z ≡ w → (x ++ y) ++ z ≡ (u ++ v) ++ w
three e f g = two (two e f) g

pub unset-in : (i : ℕ) (b : RawBlock) → due_in i Unset b ≡ sets_in i b
unset-in i (closed at) = refl
unset-in i (simple s rest) =
    two (none-wanted (sets i s)) (ap (λ due. due_in i due rest) (stays-unset (sets i s)) ∙ unset-in i rest) ∙ sym (sets-simple i s rest)
unset-in i (leave at a rest) = unset-in i rest
unset-in i (choice a x y rest) = three (unset-in i x) (unset-in i y) (unset-in i rest) ∙ sym (sets-choice i a x y rest)
unset-in i (loop x rest) = two (unset-in i x) (unset-in i rest) ∙ sym (sets-loop i x rest)

-- a block in which no setting is wanted
pub set-never : (i : ℕ) (b : RawBlock) → set_once false i b ≡ sets_in i b
set-never i (closed at) = refl
set-never i (simple s rest) =
    two (none-wanted (sets i s)) (ap (λ wanted. set_once wanted i rest) (not_wanted (sets i s)) ∙ set-never i rest) ∙ sym (sets-simple i s rest)
set-never i (leave at a rest) = set-never i rest
set-never i (choice a x y rest) = ap (λ l. (sets_in i x ++ sets_in i y) ++ l) (set-never i rest) ∙ sym (sets-choice i a x y rest)
set-never i (loop x rest) = ap (λ l. sets_in i x ++ l) (set-never i rest) ∙ sym (sets-loop i x rest)

behind-sets : (i : ℕ) (rest : RawBlock) (l : List ℕ) → due_in i Behind rest ≡ set_once true i rest
    → first_counts true l ++ due_in i (behind_sets Behind l) rest ≡ first_counts true l ++ set_once (still_wanted true l) i rest
behind-sets i rest [] e = e
behind-sets i rest (at ∷ l) e = ap (λ t. l ++ t) (unset-in i rest ∙ sym (set-never i rest))

pub behind-in : (i : ℕ) (b : RawBlock) → due_in i Behind b ≡ set_once true i b
behind-in i (closed at) = refl
behind-in i (simple s rest) = behind-sets i rest (sets i s) (behind-in i rest)
behind-in i (leave at a rest) = behind-in i rest
behind-in i (choice a x y rest) = three (unset-in i x) (unset-in i y) (behind-in i rest)
behind-in i (loop x rest) = two (unset-in i x) (behind-in i rest)

pub turn-in : (i : ℕ) (b : RawBlock) → due_in i Turn b ≡ set_in_turn i b
turn-in i (closed at) = refl
turn-in i (simple s rest) = two (none-wanted (sets i s)) (ap (λ due. due_in i due rest) (stays-turn (sets i s)) ∙ turn-in i rest)
turn-in i (leave at a rest) = behind-in i rest
turn-in i (choice a x y rest) = three (unset-in i x) (unset-in i y) (turn-in i rest)
turn-in i (loop x rest) = two (unset-in i x) (turn-in i rest)

pub head-in : (i : ℕ) (b : RawBlock) → due_in i Head b ≡ after_head i b
head-in i (closed at) = refl
head-in i (simple s rest) = two (none-wanted (sets i s)) (ap (λ due. due_in i due rest) (stays-head (sets i s)) ∙ head-in i rest)
head-in i (leave at a rest) = head-in i rest
head-in i (choice a x y rest) = three (unset-in i x) (unset-in i y) (head-in i rest)
head-in i (loop x rest) = two (turn-in i x) (unset-in i rest)

-- a statement that reads and sets a local, before what follows it
simple-least : (r l more reading setting : List ℕ) → least_of more ≡ least_of (reading ++ setting)
    → least_of ((r ++ l) ++ more) ≡ least_of ((r ++ reading) ++ (l ++ setting))
simple-least r l more reading setting e =
    least-more (r ++ l) more (reading ++ setting) e ∙ least-cross r l reading setting

pub untouched-in : (i : ℕ) (b : RawBlock) → least_of (due_in i Untouched b) ≡ least_of (reads_in i b ++ sets_in i b)
untouched-in i (closed at) = refl
untouched-in i (simple s rest) =
    ap least_of (two (ap (λ l. reads i (atoms_of_simple s) ++ l) (none-wanted (sets i s))) (ap (λ due. due_in i due rest) (stays-untouched (sets i s))))
    ∙ simple-least (reads i (atoms_of_simple s)) (sets i s) (due_in i Untouched rest) (reads_in i rest) (sets_in i rest) (untouched-in i rest)
    ∙ ap least_of (two (sym (reads-simple i s rest)) (sym (sets-simple i s rest)))
untouched-in i (leave at a rest) =
    least-front (reads i (a ∷ [])) (due_in i Untouched rest) (reads_in i rest) (sets_in i rest) (untouched-in i rest)
    ∙ ap least_of (two (sym (reads-leave i at a rest)) refl)
untouched-in i (choice a x y rest) =
    least-choice (reads i (a ∷ [])) (due_in i Untouched x) (due_in i Untouched y) (due_in i Untouched rest)
    (reads_in i x) (reads_in i y) (reads_in i rest) (sets_in i x) (sets_in i y) (sets_in i rest)
    (untouched-in i x) (untouched-in i y) (untouched-in i rest)
    ∙ ap least_of (two (sym (reads-choice i a x y rest)) (sym (sets-choice i a x y rest)))
untouched-in i (loop x rest) =
    least-loop (due_in i Untouched x) (due_in i Untouched rest) (reads_in i x) (reads_in i rest) (sets_in i x) (sets_in i rest)
    (untouched-in i x) (untouched-in i rest)
    ∙ ap least_of (two (sym (reads-loop i x rest)) (sym (sets-loop i x rest)))

arm-sets : (i : ℕ) (rest : RawBlock) (r l : List ℕ) → least_of (due_in i Arm rest) ≡ least_of (reads_in i rest ++ set_once true i rest)
    → least_of ((r ++ first_counts true l) ++ due_in i (behind_sets Arm l) rest)
    ≡ least_of ((r ++ reads_in i rest) ++ (first_counts true l ++ set_once (still_wanted true l) i rest))
arm-sets i rest r [] e = simple-least r [] (due_in i Arm rest) (reads_in i rest) (set_once true i rest) e
arm-sets i rest r (at ∷ l) e =
    simple-least r l (due_in i Untouched rest) (reads_in i rest) (set_once false i rest)
    (untouched-in i rest ∙ ap (λ t. least_of (reads_in i rest ++ t)) (sym (set-never i rest)))

pub arm-in : (i : ℕ) (b : RawBlock) → least_of (due_in i Arm b) ≡ least_of (reads_in i b ++ set_once true i b)
arm-in i (closed at) = refl
arm-in i (simple s rest) =
    arm-sets i rest (reads i (atoms_of_simple s)) (sets i s) (arm-in i rest) ∙ ap least_of (two (sym (reads-simple i s rest)) refl)
arm-in i (leave at a rest) =
    least-front (reads i (a ∷ [])) (due_in i Arm rest) (reads_in i rest) (set_once true i rest) (arm-in i rest)
    ∙ ap least_of (two (sym (reads-leave i at a rest)) refl)
arm-in i (choice a x y rest) =
    least-choice (reads i (a ∷ [])) (due_in i Untouched x) (due_in i Untouched y) (due_in i Arm rest)
    (reads_in i x) (reads_in i y) (reads_in i rest) (sets_in i x) (sets_in i y) (set_once true i rest)
    (untouched-in i x) (untouched-in i y) (arm-in i rest)
    ∙ ap least_of (two (sym (reads-choice i a x y rest)) refl)
arm-in i (loop x rest) =
    least-loop (due_in i Untouched x) (due_in i Arm rest) (reads_in i x) (reads_in i rest) (sets_in i x) (set_once true i rest)
    (untouched-in i x) (arm-in i rest)
    ∙ ap least_of (two (sym (reads-loop i x rest)) refl)

pub join-in : (i : ℕ) (b : RawBlock) → least_of (due_in i Join b) ≡ least_of (after_join i b)
join-in i (closed at) = refl
join-in i (simple s rest) =
    ap least_of (two (ap (λ l. reads i (atoms_of_simple s) ++ l) (none-wanted (sets i s))) (ap (λ due. due_in i due rest) (stays-join (sets i s))))
    ∙ least-more (reads i (atoms_of_simple s) ++ sets i s) (due_in i Join rest) (after_join i rest) (join-in i rest)
join-in i (leave at a rest) = least-more (reads i (a ∷ [])) (due_in i Join rest) (after_join i rest) (join-in i rest)
join-in i (choice a x y rest) =
    least-joined (reads i (a ∷ [])) (due_in i Arm x) (due_in i Arm y) (due_in i Unset rest)
    (reads_in i x) (reads_in i y) (set_once true i x) (set_once true i y) (arm-in i x) (arm-in i y)
    ∙ ap (λ l. least_of ((reads i (a ∷ []) ++ reads_in i x ++ reads_in i y ++ set_once true i x ++ set_once true i y) ++ l)) (unset-in i rest)
join-in i (loop x rest) = least-both (due_in i Untouched x) (due_in i Join rest) (reads_in i x ++ sets_in i x) (after_join i rest) (untouched-in i x) (join-in i rest)
