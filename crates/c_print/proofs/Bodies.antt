-- What is printed of a body with open blocks, step by step.
use Rattle.std.proofs.Common.{◌≡◌, ◌+◌, ◌*◌, ℕ, List, [], ◌∷◌, ◌++◌, length, take, drop, refl, ap, sym, ◌∙◌, subst, arith, append_assoc, Bor}
use Rattle.std.specs.Prelude.{codes, fold}
use Rattle.c_tree.specs.declared.body.CAtom.{CAtom}
use Rattle.c_tree.specs.declared.body.CSimple.{CSimple}
use Rattle.c_tree.specs.declared.body.CStatement.{CStatement}
use Rattle.c_tree.specs.declared.body.CStatement.TheVariants.{Simple, If, For}
use Rattle.c_tree.specs.Words.{Word, word, template}
use Rattle.c_tree.specs.Text.{simple_words, choice_opens, leave_words, block_words, body_words}
use Rattle.c_tree.proofs.Nesting.{block-none, block-simple, block-choice, block-loop}
use Rattle.c_print.specs.declared.body.Closing.TheVariants.{Else, Leave, End}
use Rattle.c_print.specs.declared.body.OpenBlock.{OpenBlock}
use Rattle.c_print.specs.Pending.{closing_words, pending, closing_weight, weight}
use Rattle.c_print.specs.Prints.{Prints}
use Rattle.c_print.proofs.Printing.{◌▸◌, prints_none}

fold_last : {A B : Type 0} (f : A → B → A) (start : A) (xs : List B) (x : B) → fold f start (xs ++ x ∷ []) ≡ f (fold f start xs) x
fold_last f start [] x = refl
fold_last f start (y ∷ xs) x = fold_last f (f start y) xs x

pub pending-last : (k : ℕ) (open_blocks : List OpenBlock) (block : OpenBlock)
    → pending k (open_blocks ++ block ∷ []) ≡ closing_words k block.closing ++ body_words k block.rest.now ++ pending k open_blocks
pending-last k open_blocks block = fold_last (λ behind b. closing_words k b.closing ++ body_words k b.rest.now ++ behind) [] open_blocks block

pub weight-last : (open_blocks : List OpenBlock) (block : OpenBlock)
    → weight (open_blocks ++ block ∷ []) ≡ closing_weight block.closing + 3 * length block.rest.now + weight open_blocks
weight-last open_blocks block = fold_last (λ sum b. closing_weight b.closing + 3 * length b.rest.now + sum) 0 open_blocks block

-- a statement without blocks
pub prints-simple : (k : ℕ) (s : CSimple) (rest : List CStatement) (behind : List Word) (old mid new : List ℕ)
    → Prints old mid (simple_words k s) → Prints mid new (body_words k rest ++ behind) → Prints old new (body_words k (Simple s ∷ rest) ++ behind)
prints-simple k s rest behind old mid new a b =
    let P : List Word → Type 0 = Prints old new in
    let words : simple_words k s ++ (body_words k rest ++ behind) ≡ body_words k (Simple s ∷ rest) ++ behind =
    sym (append_assoc (simple_words k s) (body_words k rest) behind) ∙ ap (λ w. w ++ behind) (sym (ap (block_words k) (block-simple s rest))) in
    subst P words (a ▸ b)

six : (o a e b z c p : List Word) → o ++ (a ++ ((e ++ b ++ z) ++ c ++ p)) ≡ (o ++ a ++ e ++ b ++ z ++ c) ++ p
six o a e b z c p = simp append_assoc

-- the test of an `if`, with its blocks behind it
pub prints-choice : (k : ℕ) (test : CAtom) (first second : ℕ) (rest : List CStatement) (arm : List CStatement) (block : OpenBlock) (open_blocks now : List OpenBlock)
    (other : Bor (List CStatement)) (old mid new : List ℕ) → arm ≡ take first rest → block.closing ≡ Else other → other.now ≡ take second (drop first rest)
    → block.rest.now ≡ drop second (drop first rest) → now ≡ open_blocks ++ block ∷ []
    → Prints old mid (choice_opens test) → Prints mid new (body_words k arm ++ pending k now)
    → Prints old new (body_words k (If test first second ∷ rest) ++ pending k open_blocks)
prints-choice k test first second rest arm block open_blocks now other old mid new is closing second_is rest_is pushed a b =
    let P : List Word → Type 0 = Prints old new in
    let close : closing_words k block.closing ≡ template (codes "} else {") ++ body_words k (take second (drop first rest)) ++ word (codes "}") =
    ap (closing_words k) closing ∙ ap (λ l. template (codes "} else {") ++ body_words k l ++ word (codes "}")) second_is in
    let left : body_words k arm ++ pending k now
    ≡ body_words k (take first rest) ++ ((template (codes "} else {") ++ body_words k (take second (drop first rest)) ++ word (codes "}"))
    ++ body_words k (drop second (drop first rest)) ++ pending k open_blocks) =
    ap (λ l. body_words k l ++ pending k now) is
    ∙ ap (λ w. body_words k (take first rest) ++ w) (ap (pending k) pushed ∙ pending-last k open_blocks block
    ∙ ap (λ w. w ++ body_words k block.rest.now ++ pending k open_blocks) close
    ∙ ap (λ l. (template (codes "} else {") ++ body_words k (take second (drop first rest)) ++ word (codes "}")) ++ body_words k l ++ pending k open_blocks) rest_is) in
    let words : choice_opens test ++ (body_words k arm ++ pending k now) ≡ body_words k (If test first second ∷ rest) ++ pending k open_blocks =
    ap (λ w. choice_opens test ++ w) left
    ∙ six (choice_opens test) (body_words k (take first rest)) (template (codes "} else {")) (body_words k (take second (drop first rest)))
    (word (codes "}")) (body_words k (drop second (drop first rest))) (pending k open_blocks)
    ∙ ap (λ w. w ++ pending k open_blocks) (sym (ap (block_words k) (block-choice test first second rest))) in
    subst P words (a ▸ b)

-- what opens a `for`, with its blocks behind it
pub prints-loop : (k : ℕ) (test : CAtom) (before turn : ℕ) (rest : List CStatement) (front : List CStatement) (block : OpenBlock) (open_blocks now : List OpenBlock)
    (other : Bor (List CStatement)) (old mid new : List ℕ) → front ≡ take before rest → block.closing ≡ Leave test other → other.now ≡ take turn (drop before rest)
    → block.rest.now ≡ drop turn (drop before rest) → now ≡ open_blocks ++ block ∷ []
    → Prints old mid (template (codes "for ( ; ; ) {")) → Prints mid new (body_words k front ++ pending k now)
    → Prints old new (body_words k (For before test turn ∷ rest) ++ pending k open_blocks)
prints-loop k test before turn rest front block open_blocks now other old mid new is closing turn_is rest_is pushed a b =
    let P : List Word → Type 0 = Prints old new in
    let close : closing_words k block.closing ≡ leave_words test ++ body_words k (take turn (drop before rest)) ++ word (codes "}") =
    ap (closing_words k) closing ∙ ap (λ l. leave_words test ++ body_words k l ++ word (codes "}")) turn_is in
    let left : body_words k front ++ pending k now
    ≡ body_words k (take before rest) ++ ((leave_words test ++ body_words k (take turn (drop before rest)) ++ word (codes "}"))
    ++ body_words k (drop turn (drop before rest)) ++ pending k open_blocks) =
    ap (λ l. body_words k l ++ pending k now) is
    ∙ ap (λ w. body_words k (take before rest) ++ w) (ap (pending k) pushed ∙ pending-last k open_blocks block
    ∙ ap (λ w. w ++ body_words k block.rest.now ++ pending k open_blocks) close
    ∙ ap (λ l. (leave_words test ++ body_words k (take turn (drop before rest)) ++ word (codes "}")) ++ body_words k l ++ pending k open_blocks) rest_is) in
    let words : template (codes "for ( ; ; ) {") ++ (body_words k front ++ pending k now) ≡ body_words k (For before test turn ∷ rest) ++ pending k open_blocks =
    ap (λ w. template (codes "for ( ; ; ) {") ++ w) left
    ∙ six (template (codes "for ( ; ; ) {")) (body_words k (take before rest)) (leave_words test) (body_words k (take turn (drop before rest)))
    (word (codes "}")) (body_words k (drop turn (drop before rest))) (pending k open_blocks)
    ∙ ap (λ w. w ++ pending k open_blocks) (sym (ap (block_words k) (block-loop before test turn rest))) in
    subst P words (a ▸ b)

five : (o a z c p : List Word) → o ++ (a ++ (z ++ c ++ p)) ≡ (o ++ a ++ z) ++ c ++ p
five o a z c p = simp append_assoc

-- a block is closed, and another one follows
pub prints-next : (k : ℕ) (block again : OpenBlock) (open_blocks now : List OpenBlock) (opens : List Word) (next : List CStatement) (old mid new : List ℕ)
    → closing_words k block.closing ≡ opens ++ body_words k next ++ word (codes "}") → again.closing ≡ End → again.rest ≡ block.rest
    → now ≡ open_blocks ++ again ∷ [] → Prints old mid opens → Prints mid new (body_words k next ++ pending k now)
    → Prints old new (pending k (open_blocks ++ block ∷ []))
prints-next k block again open_blocks now opens next old mid new closing ends same pushed a b =
    let P : List Word → Type 0 = Prints old new in
    let left : pending k now ≡ word (codes "}") ++ body_words k block.rest.now ++ pending k open_blocks =
    ap (pending k) pushed ∙ pending-last k open_blocks again
    ∙ ap (λ c. closing_words k c ++ body_words k again.rest.now ++ pending k open_blocks) ends
    ∙ ap (λ (r : Bor (List CStatement)). word (codes "}") ++ body_words k r.now ++ pending k open_blocks) same in
    let words : opens ++ (body_words k next ++ pending k now) ≡ pending k (open_blocks ++ block ∷ []) =
    ap (λ w. opens ++ (body_words k next ++ w)) left
    ∙ five opens (body_words k next) (word (codes "}")) (body_words k block.rest.now) (pending k open_blocks)
    ∙ ap (λ w. w ++ body_words k block.rest.now ++ pending k open_blocks) (sym closing) ∙ sym (pending-last k open_blocks block) in
    subst P words (a ▸ b)

-- a block is closed, and none follows
pub prints-end : (k : ℕ) (block : OpenBlock) (open_blocks : List OpenBlock) (old mid new : List ℕ) → block.closing ≡ End
    → Prints old mid (word (codes "}")) → Prints mid new (body_words k block.rest.now ++ pending k open_blocks)
    → Prints old new (pending k (open_blocks ++ block ∷ []))
prints-end k block open_blocks old mid new ends a b =
    let P : List Word → Type 0 = Prints old new in
    let words : word (codes "}") ++ (body_words k block.rest.now ++ pending k open_blocks) ≡ pending k (open_blocks ++ block ∷ []) =
    sym (append_assoc (word (codes "}")) (body_words k block.rest.now) (pending k open_blocks))
    ∙ ap (λ c. closing_words k c ++ body_words k block.rest.now ++ pending k open_blocks) (sym ends) ∙ sym (pending-last k open_blocks block) in
    subst P words (a ▸ b)

pub body-none : (k : ℕ) → body_words k [] ≡ []
body-none k = ap (block_words k) block-none

-- nothing is left of the innermost block
pub prints-empty : (k : ℕ) (left : List CStatement) (open_blocks : List OpenBlock) (old new : List ℕ) → length left ≡ 0
    → Prints old new (pending k open_blocks) → Prints old new (body_words k left ++ pending k open_blocks)
prints-empty k [] open_blocks old new e a =
    let P : List Word → Type 0 = Prints old new in subst P (ap (λ w. w ++ pending k open_blocks) (sym (body-none k))) a
prints-empty k (s ∷ left) open_blocks old new e a = absurd (let no : ⊥ = omega (arith, e) in no)

-- nothing is left at all
pub prints-done : (k : ℕ) (left : List CStatement) (open_blocks : List OpenBlock) (old : List ℕ) → length left ≡ 0 → length open_blocks ≡ 0
    → Prints old old (body_words k left ++ pending k open_blocks)
prints-done k left [] old e f = prints-empty k left [] old old e (prints_none old)
prints-done k left (b ∷ open_blocks) old e f = absurd (let no : ⊥ = omega (arith, f) in no)
