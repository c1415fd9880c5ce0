-- A statement more, met from the end of a body.
use Rattle.std.proofs.Common.{◌≡◌, ℕ, ◌+◌, zero, suc, List, [], ◌∷◌, ◌++◌, length, refl, ap, sym, ◌∙◌, append_assoc, arith}
use Rattle.std.specs.Prelude.{map, reverse, true}
use Rattle.std.specs.List.{flat_map}
use Rattle.std.proofs.lemmas.List.{append-nil, length-append, reverse-append}
use Rattle.c_tree.specs.declared.body.CAtom.{CAtom}
use Rattle.c_tree.specs.declared.body.CStatement.{CStatement}
use Rattle.c_tree.specs.declared.body.CStatement.TheVariants as c
use Rattle.c_tree.specs.Blocks.{flat_of}
use Rattle.c_tree.specs.FileOf.{block_in, before_test, test_of, behind_test, body_of, simple_of}
use Rattle.c_tree.specs.Raw as raw
use Rattle.c_raw.specs.Blocks.{at_view, simple_view, first_block, later_blocks, blocks_of, block_view, ends, is_body}
use Rattle.c_raw.specs.declared.body.RawSimple.{RawSimple}
use Rattle.c_raw.specs.declared.body.RawStatement.{RawStatement}
use Rattle.c_raw.specs.declared.body.RawStatement.TheVariants.{Simple, Leave, If, For, End}
use Rattle.c_raw.specs.declared.token.At.{At}
use Rattle.c_raw_file.specs.declared.bodies.Counted.{Counted}
use Rattle.c_raw_file.specs.Walked.{counted, total, longer, left_here, closed_here, counted_first, counted_later, IsWalked}

-- the last element of a list, which is kept with the next one last, and those before it
pub last_first : {X : Type 0} (items rest later : List X) (x y : X) → items ≡ rest ++ x ∷ [] → x ≡ y → reverse rest ≡ later → reverse items ≡ y ∷ later
last_first items rest later x y e f g =
    ap reverse e ∙ reverse-append rest (x ∷ []) ∙ ap (λ z. z ∷ reverse rest) f ∙ ap (λ l. y ∷ l) g

-- a block is what stands before its first `break`, and what stands behind it
two_parts : (b : raw.RawBlock) → flat_of (block_in b) ≡ flat_of (before_test b) ++ flat_of (behind_test b)
two_parts (raw.closed at) = refl
two_parts (raw.simple s rest) = ap (λ l. c.Simple (simple_of s) ∷ l) (two_parts rest)
two_parts (raw.leave at a rest) = refl
two_parts (raw.choice a x y rest) =
    let both : List CStatement = flat_of (block_in x) ++ flat_of (block_in y) in
    let head : CStatement = c.If a.value (length (flat_of (block_in x))) (length (flat_of (block_in y))) in
    ap (λ l. head ∷ both ++ l) (two_parts rest)
    ∙ ap (λ l. head ∷ l) (sym (append_assoc both (flat_of (before_test rest)) (flat_of (behind_test rest))))
two_parts (raw.loop x rest) =
    let both : List CStatement = flat_of (before_test x) ++ flat_of (behind_test x) in
    let head : CStatement = c.For (length (flat_of (before_test x))) (test_of x) (length (flat_of (behind_test x))) in
    ap (λ l. head ∷ both ++ l) (two_parts rest)
    ∙ ap (λ l. head ∷ l) (sym (append_assoc both (flat_of (before_test rest)) (flat_of (behind_test rest))))

total_is : (b : raw.RawBlock) → total (counted b) ≡ length (body_of b)
total_is b = sym (ap length (two_parts b) ∙ length-append (flat_of (before_test b)) (flat_of (behind_test b)))

-- the first of some blocks, and the others
firsts : (bs : List raw.RawBlock) → counted_first (map counted bs) ≡ counted (first_block bs)
firsts [] = refl
firsts (b ∷ bs) = refl

laters : (bs : List raw.RawBlock) → counted_later (map counted bs) ≡ map counted (later_blocks bs)
laters [] = refl
laters (b ∷ bs) = refl

one_first : (bs : List raw.RawBlock) → flat_map body_of bs ≡ body_of (first_block bs) ++ flat_map body_of (later_blocks bs)
one_first [] = refl
one_first (b ∷ bs) = refl

-- so many more statements before the first `break`
with_before : raw.RawBlock → ℕ → Counted
with_before b n = record { before = n; test = test_of b; turn = length (flat_of (behind_test b)) }

first_of : (blocks : List Counted) (bs : List raw.RawBlock) → blocks ≡ map counted bs → counted_first blocks ≡ counted (first_block bs)
first_of blocks bs e = ap counted_first e ∙ firsts bs

later_of : (blocks : List Counted) (bs : List raw.RawBlock) → blocks ≡ map counted bs → counted_later blocks ≡ map counted (later_blocks bs)
later_of blocks bs e = ap counted_later e ∙ laters bs

-- a statement without blocks
simple_counts : (s : raw.RawSimple) (b : raw.RawBlock) → longer 1 (counted b) ≡ counted (raw.simple s b)
unfolding with_before
simple_counts s b =
    let more : length (flat_of (before_test b)) + 1 ≡ suc (length (flat_of (before_test b))) = omega arith in
    ap (with_before b) more

pub simple_met : (s : RawSimple) (blocks : List Counted) (body : List CStatement) (met : List RawStatement) → IsWalked blocks body met
    → IsWalked (longer 1 (counted_first blocks) ∷ counted_later blocks) (c.Simple (simple_of (simple_view s)) ∷ body) (Simple s ∷ met)
simple_met s blocks body met w =
    let bs : List raw.RawBlock = blocks_of met in
    let first = first_of blocks bs w.counts in
    let later = later_of blocks bs w.counts in
    record {
      counts = ap (λ b. longer 1 b ∷ counted_later blocks) first
          ∙ ap (λ l. longer 1 (counted (first_block bs)) ∷ l) later
          ∙ ap (λ b. b ∷ map counted (later_blocks bs)) (simple_counts (simple_view s) (first_block bs));
      statements = ap (λ l. c.Simple (simple_of (simple_view s)) ∷ l) (w.statements ∙ one_first bs);
    }

-- a `break`
pub break_met : (at : ℕ) (test : At CAtom) (blocks : List Counted) (body : List CStatement) (met : List RawStatement) → IsWalked blocks body met
    → IsWalked (left_here test.value (counted_first blocks) ∷ counted_later blocks) body (Leave at test ∷ met)
break_met at test blocks body met w =
    let bs : List raw.RawBlock = blocks_of met in
    let left : ℕ → Counted = λ n. record { before = 0; test = test.value; turn = n } in
    record {
      counts = ap (λ b. left_here test.value b ∷ counted_later blocks) (first_of blocks bs w.counts)
          ∙ ap (λ n. left n ∷ counted_later blocks) (total_is (first_block bs))
          ∙ ap (λ l. left (length (body_of (first_block bs))) ∷ l) (later_of blocks bs w.counts);
      statements = w.statements ∙ one_first bs;
    }

-- the end of a block
pub end_met : (at : ℕ) (blocks : List Counted) (body : List CStatement) (met : List RawStatement) → IsWalked blocks body met
    → IsWalked (closed_here ∷ blocks) body (End at ∷ met)
end_met at blocks body met w = record { counts = ap (λ l. closed_here ∷ l) w.counts; statements = w.statements }

-- an `if`
choice_counts : (a : raw.At CAtom) (x y b : raw.RawBlock) → longer (length (body_of x) + length (body_of y) + 1) (counted b) ≡ counted (raw.choice a x y b)
unfolding with_before
choice_counts a x y b =
    let inner = length-append (body_of x) (body_of y) in
    let outer = length-append (body_of x ++ body_of y) (flat_of (before_test b)) in
    let more : length (flat_of (before_test b)) + (length (body_of x) + length (body_of y) + 1) ≡ suc (length (body_of x ++ body_of y ++ flat_of (before_test b))) =
    omega (arith, inner, outer) in
    ap (with_before b) more

to_left : (x y z w : List CStatement) → x ++ (y ++ (z ++ w)) ≡ x ++ y ++ z ++ w
to_left x y z w = sym (append_assoc x y (z ++ w)) ∙ sym (append_assoc (x ++ y) z w)

three_first : (bs : List raw.RawBlock) → flat_map body_of bs
    ≡ body_of (first_block bs) ++ body_of (first_block (later_blocks bs)) ++ body_of (first_block (later_blocks (later_blocks bs)))
    ++ flat_map body_of (later_blocks (later_blocks (later_blocks bs)))
three_first bs =
    let x : List CStatement = body_of (first_block bs) in
    let y : List CStatement = body_of (first_block (later_blocks bs)) in
    one_first bs ∙ ap (λ l. x ++ l) (one_first (later_blocks bs)) ∙ ap (λ l. x ++ (y ++ l)) (one_first (later_blocks (later_blocks bs)))
    ∙ to_left x y _ _

pub choice_met : (test : At CAtom) (first second : ℕ) (blocks : List Counted) (body : List CStatement)
    → first ≡ total (counted_first blocks) → second ≡ total (counted_first (counted_later blocks))
    → (met : List RawStatement) → IsWalked blocks body met
    → IsWalked (longer (first + second + 1) (counted_first (counted_later (counted_later blocks))) ∷ counted_later (counted_later (counted_later blocks)))
    (c.If test.value first second ∷ body) (If test ∷ met)
choice_met test first second blocks body f s met w =
    let bs : List raw.RawBlock = blocks_of met in
    let x : raw.RawBlock = first_block bs in
    let y : raw.RawBlock = first_block (later_blocks bs) in
    let z : raw.RawBlock = first_block (later_blocks (later_blocks bs)) in
    let more : List raw.RawBlock = later_blocks (later_blocks (later_blocks bs)) in
    let one = later_of blocks bs w.counts in
    let two = later_of (counted_later blocks) (later_blocks bs) one in
    let three = later_of (counted_later (counted_later blocks)) (later_blocks (later_blocks bs)) two in
    let in_first : first ≡ length (body_of x) = f ∙ ap total (first_of blocks bs w.counts) ∙ total_is x in
    let in_second : second ≡ length (body_of y) = s ∙ ap total (first_of (counted_later blocks) (later_blocks bs) one) ∙ total_is y in
    let behind = first_of (counted_later (counted_later blocks)) (later_blocks (later_blocks bs)) two in
    record {
      counts = rw (in_first, in_second, behind, three) (ap (λ b. b ∷ map counted more) (choice_counts (at_view test) x y z));
      statements = rw (in_first, in_second, w.statements) (ap (λ l. c.If test.value (length (body_of x)) (length (body_of y)) ∷ l) (three_first bs));
    }

-- a `for`
loop_counts : (x b : raw.RawBlock)
    → longer (length (flat_of (before_test x)) + length (flat_of (behind_test x)) + 1) (counted b) ≡ counted (raw.loop x b)
unfolding with_before
loop_counts x b =
    let inner = length-append (flat_of (before_test x)) (flat_of (behind_test x)) in
    let outer = length-append (flat_of (before_test x) ++ flat_of (behind_test x)) (flat_of (before_test b)) in
    let more : length (flat_of (before_test b)) + (length (flat_of (before_test x)) + length (flat_of (behind_test x)) + 1)
    ≡ suc (length (flat_of (before_test x) ++ flat_of (behind_test x) ++ flat_of (before_test b))) =
    omega (arith, inner, outer) in
    ap (with_before b) more

two_first : (bs : List raw.RawBlock) → flat_map body_of bs
    ≡ flat_of (before_test (first_block bs)) ++ flat_of (behind_test (first_block bs)) ++ body_of (first_block (later_blocks bs))
    ++ flat_map body_of (later_blocks (later_blocks bs))
two_first bs =
    let x : List CStatement = body_of (first_block bs) in
    let y : List CStatement = body_of (first_block (later_blocks bs)) in
    let more : List CStatement = flat_map body_of (later_blocks (later_blocks bs)) in
    one_first bs ∙ ap (λ l. x ++ l) (one_first (later_blocks bs)) ∙ sym (append_assoc x y more)
    ∙ ap (λ l. l ++ y ++ more) (two_parts (first_block bs))

pub loop_met : (blocks : List Counted) (body : List CStatement) (met : List RawStatement) → IsWalked blocks body met
    → IsWalked (longer ((counted_first blocks).before + (counted_first blocks).turn + 1) (counted_first (counted_later blocks)) ∷ counted_later (counted_later blocks))
    (c.For (counted_first blocks).before (counted_first blocks).test (counted_first blocks).turn ∷ body) (For ∷ met)
loop_met blocks body met w =
    let bs : List raw.RawBlock = blocks_of met in
    let x : raw.RawBlock = first_block bs in
    let z : raw.RawBlock = first_block (later_blocks bs) in
    let more : List raw.RawBlock = later_blocks (later_blocks bs) in
    let one = later_of blocks bs w.counts in
    let two = later_of (counted_later blocks) (later_blocks bs) one in
    let inner = first_of blocks bs w.counts in
    let behind = first_of (counted_later blocks) (later_blocks bs) one in
    record {
      counts = rw (inner, behind, two) (ap (λ b. b ∷ map counted more) (loop_counts x z));
      statements = rw (inner, w.statements) (ap (λ l. c.For (length (flat_of (before_test x))) (test_of x) (length (flat_of (behind_test x))) ∷ l) (two_first bs));
    }

-- what is walked, seen as it is
pub moved : (blocks blocks' : List Counted) (body body' : List CStatement) (met : List RawStatement) → blocks' ≡ blocks → body' ≡ body
    → IsWalked blocks body met → IsWalked blocks' body' met
moved blocks blocks' body body' met e f w = record { counts = e ∙ w.counts; statements = f ∙ w.statements }

-- a body is the first of the blocks that its statements end, and the only one
later_count : (bs : List raw.RawBlock) (n : ℕ) → length bs ≡ suc n → length (later_blocks bs) ≡ n
later_count [] n e = let no : ⊥ = omega (arith, e) in absurd no
later_count (b ∷ bs) n e = omega (arith, e)

blocks_count : (n : ℕ) (body : List RawStatement) → ends n body ≡ true → length (blocks_of body) ≡ n
blocks_count zero [] e = refl
blocks_count zero (s ∷ rest) e = cc e
blocks_count (suc n) [] e = cc e
blocks_count (suc n) (Simple s ∷ rest) e = ap suc (later_count (blocks_of rest) n (blocks_count (suc n) rest e))
blocks_count (suc n) (Leave at a ∷ rest) e = ap suc (later_count (blocks_of rest) n (blocks_count (suc n) rest e))
blocks_count (suc n) (If a ∷ rest) e =
    let all = blocks_count (suc (suc (suc n))) rest e in
    ap suc (later_count (later_blocks (later_blocks (blocks_of rest))) n
    (later_count (later_blocks (blocks_of rest)) (suc n) (later_count (blocks_of rest) (suc (suc n)) all)))
blocks_count (suc n) (For ∷ rest) e =
    ap suc (later_count (later_blocks (blocks_of rest)) n (later_count (blocks_of rest) (suc n) (blocks_count (suc (suc n)) rest e)))
blocks_count (suc n) (End at ∷ rest) e = ap suc (blocks_count n rest e)

only_block : (bs : List raw.RawBlock) → length bs ≡ 1 → flat_map body_of bs ≡ body_of (first_block bs)
only_block [] e = let no : ⊥ = omega (arith, e) in absurd no
only_block (b ∷ []) e = append-nil (body_of b)
only_block (b ∷ d ∷ bs) e = let no : ⊥ = omega (arith, e) in absurd no

pub whole_body : (list : List RawStatement) (blocks : List Counted) (body : List CStatement) → is_body list ≡ true → IsWalked blocks (reverse body) list
    → reverse body ≡ body_of (block_view list)
whole_body list blocks body e w = w.statements ∙ only_block (blocks_of list) (blocks_count 1 list e)
