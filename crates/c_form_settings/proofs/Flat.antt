-- Walks over flat lists find what the rule finds in the blocks.
use Rattle.std.proofs.Common.{◌≡◌, ◌≤◌, ℕ, zero, suc, List, [], ◌∷◌, ◌++◌, length, refl, ap, sym, ◌∙◌, append_assoc, arith}
use Rattle.std.specs.Prelude.{Bool, true, false, if◌then◌else◌, map}
use Rattle.std.specs.List.{flat_map}
use Rattle.std.proofs.lemmas.List.{append-nil}
use Rattle.c_tree.specs.Form.{least_of}
use Rattle.c_tree.specs.Raw as raw
use Rattle.c_tree.specs.rules.Locals.{declared}
use Rattle.c_tree.specs.rules.Settings.{Declaration, declaration, blamed_behind, declarations, first_of_each, settings_in}
use Rattle.c_raw.specs.Blocks.{at_view, simple_view, first_block, later_blocks, blocks_of, block_view, ends, is_body}
use Rattle.c_raw.specs.declared.body.RawSimple.{RawSimple}
use Rattle.c_raw.specs.declared.body.RawSimple.TheVariants.{Constant, Join, Head, Assign, SetCell, SetCollapse, Report}
use Rattle.c_raw.specs.declared.body.RawStatement.{RawStatement}
use Rattle.c_raw.specs.declared.body.RawStatement.TheVariants.{Simple, Leave, If, For, End}
use Rattle.c_form.proofs.Flat.{blocks-count, one-block}
use Rattle.c_form.proofs.Open.{over, over-one, over-two, over-three}
use Rattle.c_form_settings.specs.declared.duty.Duty.{Duty}
use Rattle.c_form_settings.specs.declared.duty.Duty.TheVariants as duty
use Rattle.c_form_settings.specs.Duties.{reads_under, simple_under, behind_simple, behind_break, in_arm, behind_if, in_loop, behind_loop, end_under}
use Rattle.c_form_settings.specs.Walks.{due_flat, is_among, settings_flat}
use Rattle.c_form_settings.proofs.Least.{least-both}
use Rattle.c_form_settings.proofs.Due.{due_in, unset-in, join-in, head-in}

-- lists, put together from the left and from the right
left_two : {T : Type 0} (h x y : List T) → h ++ (x ++ y) ≡ (h ++ x) ++ y
left_two h x y = sym (append_assoc h x y)

left_three : (x y z w : List ℕ) → x ++ (y ++ (z ++ w)) ≡ ((x ++ y) ++ z) ++ w
left_three x y z w = ap (λ l. x ++ l) (left_two y z w) ∙ left_two x (y ++ z) w ∙ ap (λ l. l ++ w) (left_two x y z)

left_four : (h x y z w : List ℕ) → h ++ (x ++ (y ++ (z ++ w))) ≡ (((h ++ x) ++ y) ++ z) ++ w
left_four h x y z w = left_two h x (y ++ (z ++ w)) ∙ left_three (h ++ x) y z w

fewer : (m n : ℕ) → suc m ≤ suc n → m ≤ n
fewer m n e = omega (arith, e)

three_more : (m n : ℕ) → suc m ≤ suc n → suc (suc (suc m)) ≤ suc (suc (suc n))
three_more m n e = omega (arith, e)

two_more : (m n : ℕ) → suc m ≤ suc n → suc (suc m) ≤ suc (suc n)
two_more m n e = omega (arith, e)

pub due-over : (i : ℕ) (dues : List Duty) (n : ℕ) (body : List RawStatement) → length dues ≤ n → ends n body ≡ true
    → due_flat i dues body ≡ over (due_in i) dues (blocks_of body)
due-over i [] n body few e = refl
due-over i (due ∷ outer) zero body few e = let no : ⊥ = omega (arith, few) in absurd no
due-over i (due ∷ outer) (suc n) [] few e = cc e
due-over i (due ∷ outer) (suc n) (Simple s ∷ rest) few e =
    let here : List ℕ = simple_under i due (simple_view s) in
    let next : Duty = behind_simple i due (simple_view s) in
    let bs : List raw.RawBlock = blocks_of rest in
    ap (λ l. here ++ l)
    (due-over i (next ∷ outer) (suc n) rest few e ∙ over-one (due_in i) next outer bs n (blocks-count (suc n) rest e))
    ∙ left_two here (due_in i next (first_block bs)) (over (due_in i) outer (later_blocks bs))
due-over i (due ∷ outer) (suc n) (Leave at a ∷ rest) few e =
    let here : List ℕ = reads_under i due (at_view a ∷ []) in
    let next : Duty = behind_break due in
    let bs : List raw.RawBlock = blocks_of rest in
    ap (λ l. here ++ l)
    (due-over i (next ∷ outer) (suc n) rest few e ∙ over-one (due_in i) next outer bs n (blocks-count (suc n) rest e))
    ∙ left_two here (due_in i next (first_block bs)) (over (due_in i) outer (later_blocks bs))
due-over i (due ∷ outer) (suc n) (If a ∷ rest) few e =
    let here : List ℕ = reads_under i due (at_view a ∷ []) in
    let arm : Duty = in_arm due in
    let bs : List raw.RawBlock = blocks_of rest in
    let more : List raw.RawBlock = later_blocks (later_blocks bs) in
    ap (λ l. here ++ l)
    (due-over i (arm ∷ arm ∷ behind_if due ∷ outer) (suc (suc (suc n))) rest (three_more (length outer) n few) e
    ∙ over-three (due_in i) arm arm (behind_if due) outer bs n (blocks-count (suc (suc (suc n))) rest e))
    ∙ left_four here (due_in i arm (first_block bs)) (due_in i arm (first_block (later_blocks bs)))
    (due_in i (behind_if due) (first_block more)) (over (due_in i) outer (later_blocks more))
due-over i (due ∷ outer) (suc n) (For ∷ rest) few e =
    let bs : List raw.RawBlock = blocks_of rest in
    due-over i (in_loop due ∷ behind_loop due ∷ outer) (suc (suc n)) rest (two_more (length outer) n few) e
    ∙ over-two (due_in i) (in_loop due) (behind_loop due) outer bs n (blocks-count (suc (suc n)) rest e)
    ∙ left_two (due_in i (in_loop due) (first_block bs)) (due_in i (behind_loop due) (first_block (later_blocks bs)))
    (over (due_in i) outer (later_blocks (later_blocks bs)))
due-over i (due ∷ outer) (suc n) (End at ∷ rest) few e = ap (λ l. end_under due at ++ l) (due-over i outer n rest (fewer (length outer) n few) e)

-- what follows a declaration in its block
pub due-block : (i : ℕ) (due : Duty) (n : ℕ) (rest : List RawStatement) → ends (suc n) rest ≡ true
    → due_flat i (due ∷ []) rest ≡ due_in i due (first_block (blocks_of rest))
due-block i due n rest e =
    due-over i (due ∷ []) (suc n) rest (one n) e
    ∙ over-one (due_in i) due [] (blocks_of rest) n (blocks-count (suc n) rest e)
    ∙ append-nil (due_in i due (first_block (blocks_of rest)))
  where
    one : (n : ℕ) → length (due ∷ []) ≤ suc n
    one n = omega arith

-- the declarations of the first blocks of a list, and those of the others
one-first : (bs : List raw.RawBlock) → flat_map declarations bs ≡ declarations (first_block bs) ++ flat_map declarations (later_blocks bs)
one-first [] = refl
one-first (b ∷ bs) = refl

two-first : (bs : List raw.RawBlock) → flat_map declarations bs
    ≡ (declarations (first_block bs) ++ declarations (first_block (later_blocks bs))) ++ flat_map declarations (later_blocks (later_blocks bs))
two-first bs =
    one-first bs ∙ ap (λ l. declarations (first_block bs) ++ l) (one-first (later_blocks bs))
    ∙ left_two (declarations (first_block bs)) (declarations (first_block (later_blocks bs))) (flat_map declarations (later_blocks (later_blocks bs)))

three-first : (bs : List raw.RawBlock) → flat_map declarations bs
    ≡ ((declarations (first_block bs) ++ declarations (first_block (later_blocks bs))) ++ declarations (first_block (later_blocks (later_blocks bs))))
    ++ flat_map declarations (later_blocks (later_blocks (later_blocks bs)))
three-first bs =
    let head : List Declaration = declarations (first_block bs) ++ declarations (first_block (later_blocks bs)) in
    two-first bs ∙ ap (λ l. head ++ l) (one-first (later_blocks (later_blocks bs)))
    ∙ left_two head (declarations (first_block (later_blocks (later_blocks bs)))) (flat_map declarations (later_blocks (later_blocks (later_blocks bs))))

-- what the first of some declarations blame, where certain numbers are declared before
abbrev blamed_by : List ℕ → List Declaration → List ℕ
blamed_by before ds = flat_map blamed_behind (first_of_each before ds)

-- a declaration before others, by whether its number is declared before
first-then : (known : Bool) (before : List ℕ) (number : ℕ) (tokens : List ℕ) (rest : List RawStatement) (d : Declaration) (ds : List Declaration)
    → least_of tokens ≡ least_of (blamed_behind d)
    → ((numbers : List ℕ) → least_of (settings_flat numbers rest) ≡ least_of (blamed_by numbers ds))
    → least_of ((if known then [] else tokens) ++ settings_flat (if known then before else number ∷ before) rest)
    ≡ least_of (flat_map blamed_behind (if known then first_of_each before ds else d ∷ first_of_each (number ∷ before) ds))
first-then true before number tokens rest d ds here later = later before
first-then false before number tokens rest d ds here later =
    least-both tokens (settings_flat (number ∷ before) rest) (blamed_behind d) (blamed_by (number ∷ before) ds) here (later (number ∷ before))

-- a statement without blocks, and the declarations behind it
first-simple : (s : RawSimple) (n : ℕ) (before : List ℕ) (rest : List RawStatement) → ends (suc n) rest ≡ true
    → ((numbers : List ℕ) → least_of (settings_flat numbers rest) ≡ least_of (blamed_by numbers (flat_map declarations (blocks_of rest))))
    → least_of (settings_flat before (Simple s ∷ rest))
    ≡ least_of (blamed_by before (map (declaration (simple_view s) (first_block (blocks_of rest))) (declared (simple_view s))
    ++ flat_map declarations (blocks_of rest)))
first-simple (Constant ty i at side) n before rest e later =
    let here : raw.RawBlock = first_block (blocks_of rest) in
    first-then (is_among before i.value) before i.value (due_flat i.value (duty.Unset ∷ []) rest) rest
    (declaration (simple_view (Constant ty i at side)) here (at_view i)) (flat_map declarations (blocks_of rest))
    (ap least_of (due-block i.value duty.Unset n rest e ∙ unset-in i.value here)) later
first-simple (Join ty i) n before rest e later =
    let here : raw.RawBlock = first_block (blocks_of rest) in
    first-then (is_among before i.value) before i.value (due_flat i.value (duty.Join ∷ []) rest) rest
    (declaration (simple_view (Join ty i)) here (at_view i)) (flat_map declarations (blocks_of rest))
    (ap least_of (due-block i.value duty.Join n rest e) ∙ join-in i.value here) later
first-simple (Head ty i first) n before rest e later =
    let here : raw.RawBlock = first_block (blocks_of rest) in
    first-then (is_among before i.value) before i.value (due_flat i.value (duty.Head ∷ []) rest) rest
    (declaration (simple_view (Head ty i first)) here (at_view i)) (flat_map declarations (blocks_of rest))
    (ap least_of (due-block i.value duty.Head n rest e ∙ head-in i.value here)) later
first-simple (Assign i value) n before rest e later = later before
first-simple (SetCell cell value) n before rest e later = later before
first-simple (SetCollapse pair value) n before rest e later = later before
first-simple (Report id) n before rest e later = later before

pub settings-blocks : (n : ℕ) (before : List ℕ) (body : List RawStatement) → ends n body ≡ true
    → least_of (settings_flat before body) ≡ least_of (blamed_by before (flat_map declarations (blocks_of body)))
settings-blocks zero before [] e = refl
settings-blocks zero before (s ∷ rest) e = cc e
settings-blocks (suc n) before [] e = cc e
settings-blocks (suc n) before (Simple s ∷ rest) e =
    let bs : List raw.RawBlock = blocks_of rest in
    let own : List Declaration = map (declaration (simple_view s) (first_block bs)) (declared (simple_view s)) in
    first-simple s n before rest e (λ numbers. settings-blocks (suc n) numbers rest e)
    ∙ ap (λ ds. least_of (blamed_by before ds))
    (ap (λ l. own ++ l) (one-first bs) ∙ left_two own (declarations (first_block bs)) (flat_map declarations (later_blocks bs)))
settings-blocks (suc n) before (Leave at a ∷ rest) e =
    settings-blocks (suc n) before rest e ∙ ap (λ ds. least_of (blamed_by before ds)) (one-first (blocks_of rest))
settings-blocks (suc n) before (If a ∷ rest) e =
    settings-blocks (suc (suc (suc n))) before rest e ∙ ap (λ ds. least_of (blamed_by before ds)) (three-first (blocks_of rest))
settings-blocks (suc n) before (For ∷ rest) e =
    settings-blocks (suc (suc n)) before rest e ∙ ap (λ ds. least_of (blamed_by before ds)) (two-first (blocks_of rest))
settings-blocks (suc n) before (End at ∷ rest) e = settings-blocks n before rest e

pub settings-body : (body : List RawStatement) → is_body body ≡ true → least_of (settings_flat [] body) ≡ least_of (settings_in (block_view body))
settings-body body e =
    settings-blocks 1 [] body e
    ∙ ap (λ ds. least_of (blamed_by [] ds))
    (ap (flat_map declarations) (one-block body e) ∙ append-nil (declarations (block_view body)))
