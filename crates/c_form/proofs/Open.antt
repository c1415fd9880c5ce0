-- Walks with a list of open blocks find what the rules find in the blocks.
use Rattle.std.proofs.Common.{◌≡◌, ℕ, suc, List, [], ◌∷◌, ◌++◌, length, refl, ap, sym, ◌∙◌, append_assoc, arith}
use Rattle.std.specs.Prelude.{Bool, true, false, Option}
use Rattle.std.proofs.lemmas.List.{append-nil}
use Rattle.c_tree.specs.Raw as raw
use Rattle.c_tree.specs.rules.Breaks.{breaks_in}
use Rattle.c_raw.specs.Blocks.{first_block, later_blocks, blocks_of, block_view, ends, is_body}
use Rattle.c_raw.specs.declared.body.RawStatement.{RawStatement}
use Rattle.c_raw.specs.declared.body.RawStatement.TheVariants.{Simple, Leave, If, For, End}
use Rattle.c_form.specs.OpenBlocks.{breaks_flat, innermost_first}
use Rattle.c_form.specs.Blames.{Blames}
use Rattle.c_form.proofs.Blaming.{◌▸◌}
use Rattle.c_form.proofs.Flat.{blocks-count, one-block, later-count}

-- the innermost block is the last
pub innermost-push : {T : Type 0} (xs : List T) (x : T) → innermost_first (xs ++ x ∷ []) ≡ x ∷ innermost_first xs
innermost-push [] x = refl
innermost-push (y ∷ xs) x = ap (λ l. l ++ y ∷ []) (innermost-push xs x)

-- what a rule finds in blocks, each with what is known of it
abbrev pub over : {T : Type 0} → (T → raw.RawBlock → List ℕ) → List T → List raw.RawBlock → List ℕ
over rule [] bs = []
over rule (t ∷ ts) [] = []
over rule (t ∷ ts) (b ∷ bs) = rule t b ++ over rule ts bs

pub over-one : {T : Type 0} (rule : T → raw.RawBlock → List ℕ) (t : T) (ts : List T) (bs : List raw.RawBlock) (n : ℕ) → length bs ≡ suc n
    → over rule (t ∷ ts) bs ≡ rule t (first_block bs) ++ over rule ts (later_blocks bs)
over-one rule t ts [] n e = let no : ⊥ = omega (arith, e) in absurd no
over-one rule t ts (b ∷ bs) n e = refl

pub over-two : {T : Type 0} (rule : T → raw.RawBlock → List ℕ) (t u : T) (ts : List T) (bs : List raw.RawBlock) (n : ℕ) → length bs ≡ suc (suc n)
    → over rule (t ∷ u ∷ ts) bs
    ≡ rule t (first_block bs) ++ (rule u (first_block (later_blocks bs)) ++ over rule ts (later_blocks (later_blocks bs)))
over-two rule t u ts bs n e =
    over-one rule t (u ∷ ts) bs (suc n) e
    ∙ ap (λ l. rule t (first_block bs) ++ l) (over-one rule u ts (later_blocks bs) n (later-count bs (suc n) e))

pub over-three : {T : Type 0} (rule : T → raw.RawBlock → List ℕ) (t u v : T) (ts : List T) (bs : List raw.RawBlock) (n : ℕ) → length bs ≡ suc (suc (suc n))
    → over rule (t ∷ u ∷ v ∷ ts) bs
    ≡ rule t (first_block bs) ++ (rule u (first_block (later_blocks bs))
    ++ (rule v (first_block (later_blocks (later_blocks bs))) ++ over rule ts (later_blocks (later_blocks (later_blocks bs)))))
over-three rule t u v ts bs n e =
    over-one rule t (u ∷ v ∷ ts) bs (suc (suc n)) e
    ∙ ap (λ l. rule t (first_block bs) ++ l) (over-two rule u v ts (later_blocks bs) n (later-count bs (suc (suc n)) e))

-- two and three lists, put together from the left and from the right
to_left_two : (x y z : List ℕ) → x ++ (y ++ z) ≡ (x ++ y) ++ z
to_left_two x y z = sym (append_assoc x y z)

to_left_three : (x y z w : List ℕ) → x ++ (y ++ (z ++ w)) ≡ ((x ++ y) ++ z) ++ w
to_left_three x y z w = ap (λ l. x ++ l) (to_left_two y z w) ∙ to_left_two x (y ++ z) w ∙ ap (λ l. l ++ w) (to_left_two x y z)

pub breaks-over : (ws : List Bool) (body : List RawStatement) → ends (length ws) body ≡ true → breaks_flat ws body ≡ over breaks_in ws (blocks_of body)
breaks-over [] body e = refl
breaks-over (w ∷ ws) [] e = cc e
breaks-over (w ∷ ws) (Simple s ∷ rest) e =
    breaks-over (w ∷ ws) rest e ∙ over-one breaks_in w ws (blocks_of rest) (length ws) (blocks-count (suc (length ws)) rest e)
breaks-over (true ∷ ws) (Leave at a ∷ rest) e =
    breaks-over (false ∷ ws) rest e ∙ over-one breaks_in false ws (blocks_of rest) (length ws) (blocks-count (suc (length ws)) rest e)
breaks-over (false ∷ ws) (Leave at a ∷ rest) e =
    ap (λ l. at ∷ l) (breaks-over (false ∷ ws) rest e ∙ over-one breaks_in false ws (blocks_of rest) (length ws) (blocks-count (suc (length ws)) rest e))
breaks-over (w ∷ ws) (If a ∷ rest) e =
    let bs : List raw.RawBlock = blocks_of rest in
    breaks-over (false ∷ false ∷ w ∷ ws) rest e
    ∙ over-three breaks_in false false w ws bs (length ws) (blocks-count (suc (suc (suc (length ws)))) rest e)
    ∙ to_left_three (breaks_in false (first_block bs)) (breaks_in false (first_block (later_blocks bs)))
    (breaks_in w (first_block (later_blocks (later_blocks bs)))) (over breaks_in ws (later_blocks (later_blocks (later_blocks bs))))
breaks-over (w ∷ ws) (For ∷ rest) e =
    let bs : List raw.RawBlock = blocks_of rest in
    breaks-over (true ∷ w ∷ ws) rest e
    ∙ over-two breaks_in true w ws bs (length ws) (blocks-count (suc (suc (length ws))) rest e)
    ∙ to_left_two (breaks_in true (first_block bs)) (breaks_in w (first_block (later_blocks bs))) (over breaks_in ws (later_blocks (later_blocks bs)))
breaks-over (true ∷ ws) (End at ∷ rest) e = ap (λ l. at ∷ l) (breaks-over ws rest e)
breaks-over (false ∷ ws) (End at ∷ rest) e = breaks-over ws rest e

-- a body
pub breaks-body : (body : List RawStatement) → is_body body ≡ true → breaks_flat (false ∷ []) body ≡ breaks_in false (block_view body)
breaks-body body e =
    breaks-over (false ∷ []) body e ∙ ap (over breaks_in (false ∷ [])) (one-block body e) ∙ append-nil (breaks_in false (block_view body))

-- a statement in the innermost block
pub breaks-step : (old mid new : Option ℕ) (olds pops news : List Bool) (wanted : Bool) (s : RawStatement) (rest : List RawStatement) (tokens : List ℕ)
    → olds ≡ pops ++ wanted ∷ [] → breaks_flat (wanted ∷ innermost_first pops) (s ∷ rest) ≡ tokens ++ breaks_flat (innermost_first news) rest
    → Blames old mid tokens → Blames mid new (breaks_flat (innermost_first news) rest) → Blames old new (breaks_flat (innermost_first olds) (s ∷ rest))
breaks-step old mid new olds pops news wanted s rest tokens e f a b =
    rw (e, innermost-push pops wanted, f) (a ▸ b)

pub breaks-end : (ws : List Bool) → breaks_flat ws [] ≡ []
breaks-end [] = refl
breaks-end (w ∷ ws) = refl
