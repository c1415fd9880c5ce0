-- A walk that counts open blocks finds what stands in the top block of a body, and what stands in the blocks of it.
use Rattle.std.proofs.Common.{◌≡◌, ◌<◌, ◌≤◌, ◌+◌, ℕ, zero, suc, List, [], ◌∷◌, ◌++◌, length, get_or, drop, refl, ap, sym, ◌∙◌, append_assoc, arith, subst, ◌*◌}
use Rattle.std.specs.Prelude.{Option, true}
use Rattle.std.specs.List.{flat_map}
use Rattle.std.proofs.lemmas.List.{append-nil, map-append}
use Rattle.std.proofs.lemmas.Grind.{flat_map-append}
use Rattle.std.proofs.Math.ListN.{drop_of_length-le}
use Rattle.c_tree.specs.Form.{least_of}
use Rattle.c_tree.specs.declared.body.CCell.{CCell}
use Rattle.c_tree.specs.Raw as raw
use Rattle.c_tree.specs.rules.Bodies.{Item, of_simple, of_test, of_value, items_in, of_statement, set_cells, set_flags}
use Rattle.c_tree.specs.rules.Reach.{direct, set_deeper, words_of_cells, words_of_flags, words_set_in}
use Rattle.c_raw.specs.Blocks.{simple_view, first_block, later_blocks, blocks_of, block_view, ends, is_body}
use Rattle.c_raw.specs.declared.body.RawStatement.{RawStatement}
use Rattle.c_raw.specs.declared.body.RawStatement.TheVariants.{Simple, Leave, If, For, End}
use Rattle.c_form.specs.Blames.{Blames}
use Rattle.c_raw.proofs.Elements.{next-is}
use Rattle.c_form.proofs.Blaming.{◌▸◌, blames_none}
use Rattle.c_form_reach.specs.Placed.{around_behind, nothing, placed, walked}
use Rattle.c_form_reach.specs.Settings.{words_set}
use Rattle.c_form_reach.proofs.Least.{least_both, least_middle}

module _ {T : Type 0} (top deep : raw.RawSimple → List T) where
  -- what is found in a block that isn't the top one, with its blocks
  abbrev pub inner : raw.RawBlock → List T
  inner b = flat_map (of_statement deep) (items_in b)

  -- what is found in a top block, and in the blocks of it
  abbrev pub top_of : raw.RawBlock → List T
  top_of (raw.closed at) = []
  top_of (raw.simple s rest) = top s ++ top_of rest
  top_of (raw.leave at a rest) = top_of rest
  top_of (raw.choice a x y rest) = inner x ++ inner y ++ top_of rest
  top_of (raw.loop x rest) = inner x ++ top_of rest

  -- the same in open blocks, the innermost first, of which the last is the top block
  abbrev pub over : ℕ → List raw.RawBlock → List T
  over zero bs = top_of (first_block bs)
  over (suc n) bs = inner (first_block bs) ++ over n (later_blocks bs)

  two : (x y : List Item) → flat_map (of_statement deep) (x ++ y) ≡ flat_map (of_statement deep) x ++ flat_map (of_statement deep) y
  two x y = flat_map-append (of_statement deep) x y

  three : (x y z : List Item)
      → flat_map (of_statement deep) (x ++ y ++ z)
      ≡ (flat_map (of_statement deep) x ++ flat_map (of_statement deep) y) ++ flat_map (of_statement deep) z
  three x y z = two (x ++ y) z ∙ ap (λ l. l ++ flat_map (of_statement deep) z) (two x y)

  left_two : (x y z : List T) → x ++ (y ++ z) ≡ (x ++ y) ++ z
  left_two x y z = sym (append_assoc x y z)

  left_three : (x y z w : List T) → x ++ (y ++ (z ++ w)) ≡ ((x ++ y) ++ z) ++ w
  left_three x y z w = ap (λ l. x ++ l) (left_two y z w) ∙ left_two x (y ++ z) w ∙ ap (λ l. l ++ w) (left_two x y z)

  pub walk-over : (n : ℕ) (body : List RawStatement) → ends (suc n) body ≡ true → walked top deep n body ≡ over n (blocks_of body)
  walk-over n [] e = cc e
  walk-over zero (Simple s ∷ rest) e = ap (λ l. top (simple_view s) ++ l) (walk-over zero rest e)
  walk-over (suc n) (Simple s ∷ rest) e =
      let here : List T = deep (simple_view s) in
      let bs : List raw.RawBlock = blocks_of rest in
      ap (λ l. here ++ l) (walk-over (suc n) rest e) ∙ left_two here (inner (first_block bs)) (over n (later_blocks bs))
  walk-over zero (Leave at a ∷ rest) e = walk-over zero rest e
  walk-over (suc n) (Leave at a ∷ rest) e = walk-over (suc n) rest e
  walk-over zero (If a ∷ rest) e =
      let bs : List raw.RawBlock = blocks_of rest in
      walk-over (suc (suc zero)) rest e
      ∙ left_two (inner (first_block bs)) (inner (first_block (later_blocks bs))) (top_of (first_block (later_blocks (later_blocks bs))))
  walk-over (suc n) (If a ∷ rest) e =
      let bs : List raw.RawBlock = blocks_of rest in
      let x : raw.RawBlock = first_block bs in
      let y : raw.RawBlock = first_block (later_blocks bs) in
      let z : raw.RawBlock = first_block (later_blocks (later_blocks bs)) in
      let more : List T = over n (later_blocks (later_blocks (later_blocks bs))) in
      walk-over (suc (suc (suc n))) rest e ∙ left_three (inner x) (inner y) (inner z) more
      ∙ ap (λ l. l ++ more) (sym (three (items_in x) (items_in y) (items_in z)))
  walk-over zero (For ∷ rest) e = walk-over (suc zero) rest e
  walk-over (suc n) (For ∷ rest) e =
      let bs : List raw.RawBlock = blocks_of rest in
      let x : raw.RawBlock = first_block bs in
      let z : raw.RawBlock = first_block (later_blocks bs) in
      let more : List T = over n (later_blocks (later_blocks bs)) in
      walk-over (suc (suc n)) rest e ∙ left_two (inner x) (inner z) more ∙ ap (λ l. l ++ more) (sym (two (items_in x) (items_in z)))
  walk-over zero (End at ∷ []) e = refl
  walk-over zero (End at ∷ s ∷ rest) e = cc e
  walk-over (suc n) (End at ∷ rest) e = walk-over n rest e

  pub walk-body : (body : List RawStatement) → is_body body ≡ true → walked top deep zero body ≡ top_of (block_view body)
  walk-body body e = walk-over zero body e

-- what is looked for in the top block alone
none-inside : {T : Type 0} (items : List Item) → flat_map (of_statement (let f : raw.RawSimple → List T = nothing in f)) items ≡ []
none-inside [] = refl
none-inside (of_simple s ∷ items) = none-inside items
none-inside (of_test a ∷ items) = none-inside items
none-inside (of_value ty a ∷ items) = none-inside items

pub top-alone : {T : Type 0} (top : raw.RawSimple → List T) (b : raw.RawBlock) → top_of top nothing b ≡ flat_map top (direct b)
top-alone top (raw.closed at) = refl
top-alone top (raw.simple s rest) = ap (λ l. top s ++ l) (top-alone top rest)
top-alone top (raw.leave at a rest) = top-alone top rest
top-alone top (raw.choice a x y rest) = rw (none-inside (items_in x), none-inside (items_in y)) (top-alone top rest)
top-alone top (raw.loop x rest) = rw (none-inside (items_in x)) (top-alone top rest)

pub direct-body : {T : Type 0} (top : raw.RawSimple → List T) (body : List RawStatement) → is_body body ≡ true
    → walked top nothing zero body ≡ flat_map top (direct (block_view body))
direct-body top body e = walk-body top nothing body e ∙ top-alone top (block_view body)

-- the words of what items set: those of the cells, and those of the flags behind them
abbrev pub words_in : List Item → List ℕ
words_in items = words_of_cells (flat_map (of_statement set_cells) items) ++ words_of_flags (flat_map (of_statement set_flags) items)

pub cells-append : (xs ys : List (raw.At CCell)) → words_of_cells (xs ++ ys) ≡ words_of_cells xs ++ words_of_cells ys
cells-append xs ys = map-append (λ cell. raw.word_at cell) xs ys

flags-append : (xs ys : List (raw.At ℕ)) → words_of_flags (xs ++ ys) ≡ words_of_flags xs ++ words_of_flags ys
flags-append xs ys = map-append (λ pair. raw.word_at pair) xs ys

inner-words : (items : List Item) → least_of (flat_map (of_statement words_set) items) ≡ least_of (words_in items)
inner-words [] = refl
inner-words (of_simple s ∷ items) =
    let cells = flat_map (of_statement set_cells) items in
    let flags = flat_map (of_statement set_flags) items in
    least_both (words_set s) (flat_map (of_statement words_set) items) (words_set s) (words_in items) refl (inner-words items)
    ∙ least_middle (words_of_cells (set_cells s)) (words_of_flags (set_flags s)) (words_of_cells cells) (words_of_flags flags)
    ∙ ap least_of
    (ap (λ l. l ++ (words_of_flags (set_flags s) ++ words_of_flags flags)) (sym (cells-append (set_cells s) cells))
    ∙ ap (λ l. words_of_cells (set_cells s ++ cells) ++ l) (sym (flags-append (set_flags s) flags)))
inner-words (of_test a ∷ items) = inner-words items
inner-words (of_value ty a ∷ items) = inner-words items

pub deeper-least : (b : raw.RawBlock) → least_of (top_of nothing words_set b) ≡ least_of (set_deeper b)
deeper-least (raw.closed at) = refl
deeper-least (raw.simple s rest) = deeper-least rest
deeper-least (raw.leave at a rest) = deeper-least rest
deeper-least (raw.choice a x y rest) =
    least_both (inner nothing words_set x ++ inner nothing words_set y) (top_of nothing words_set rest) (words_set_in x ++ words_set_in y) (set_deeper rest)
    (least_both (inner nothing words_set x) (inner nothing words_set y) (words_set_in x) (words_set_in y) (inner-words (items_in x)) (inner-words (items_in y)))
    (deeper-least rest)
deeper-least (raw.loop x rest) =
    least_both (inner nothing words_set x) (top_of nothing words_set rest) (words_set_in x) (set_deeper rest) (inner-words (items_in x)) (deeper-least rest)

pub deeper-body : (body : List RawStatement) → is_body body ≡ true → least_of (walked nothing words_set zero body) ≡ least_of (set_deeper (block_view body))
deeper-body body e = ap least_of (walk-body nothing words_set body e) ∙ deeper-least (block_view body)

-- the statement of a list at a place, and those behind it
pub walked-next : {T : Type 0} (top deep : raw.RawSimple → List T) (n : ℕ) (list : List RawStatement) (i : ℕ) (s : RawStatement) → i < length list → s ≡ get_or list i s
    → walked top deep n (drop i list) ≡ placed top deep n s ++ walked top deep (around_behind n s) (drop (i + 1) list)
walked-next top deep n list i s h e = ap (walked top deep n) (next-is list i s h e)

pub walked-end : {T : Type 0} (top deep : raw.RawSimple → List T) (n : ℕ) (list : List RawStatement) (i : ℕ) → length list ≤ i → walked top deep n (drop i list) ≡ []
walked-end top deep n list i h = ap (walked top deep n) (drop_of_length-le list h)

pub behind-few : (n : ℕ) (s : RawStatement) → around_behind n s ≤ n + 2
behind-few n (Simple s) = omega arith
behind-few n (Leave at a) = omega arith
behind-few n (If a) = omega arith
behind-few n For = omega arith
behind-few zero (End at) = omega arith
behind-few (suc n) (End at) = omega arith

pub few-step : (n next i : ℕ) (s : RawStatement) → next ≡ around_behind n s → n ≤ 2 * i → next ≤ 2 * (i + 1)
few-step n next i s e h = let few = behind-few n s in omega (arith, e, h, few)

-- one statement more, of a rule that blames
pub walked-step : (top deep : raw.RawSimple → List ℕ) (old mid new : Option ℕ) (n next : ℕ) (list : List RawStatement) (i : ℕ) (s : RawStatement)
    → i < length list → s ≡ get_or list i s → next ≡ around_behind n s → Blames old mid (placed top deep n s)
    → Blames mid new (walked top deep next (drop (i + 1) list)) → Blames old new (walked top deep n (drop i list))
walked-step top deep old mid new n next list i s h e k a b =
    let more : Blames mid new (walked top deep (around_behind n s) (drop (i + 1) list)) =
    subst (λ m. Blames mid new (walked top deep m (drop (i + 1) list))) k b in
    rw (walked-next top deep n list i s h e) (a ▸ more)

pub walked-last : (top deep : raw.RawSimple → List ℕ) (old : Option ℕ) (n : ℕ) (list : List RawStatement) (i : ℕ) → length list ≤ i
    → Blames old old (walked top deep n (drop i list))
walked-last top deep old n list i h = rw (walked-end top deep n list i h) (blames_none old)

-- one statement more, of a list that is made
pub listed-step : {T : Type 0} (top deep : raw.RawSimple → List T) (all old new here : List T) (n next : ℕ) (list : List RawStatement) (i : ℕ) (s : RawStatement)
    → i < length list → s ≡ get_or list i s → next ≡ around_behind n s → new ≡ old ++ here → here ≡ placed top deep n s
    → old ++ walked top deep n (drop i list) ≡ all → new ++ walked top deep next (drop (i + 1) list) ≡ all
listed-step {T} top deep all old new here n next list i s h e k f g so =
    let rest : List T = walked top deep next (drop (i + 1) list) in
    ap (λ l. l ++ rest) (f ∙ ap (λ l. old ++ l) g) ∙ append_assoc old (placed top deep n s) rest
    ∙ ap (λ m. old ++ (placed top deep n s ++ walked top deep m (drop (i + 1) list))) k
    ∙ ap (λ l. old ++ l) (sym (walked-next top deep n list i s h e)) ∙ so

pub listed-last : {T : Type 0} (top deep : raw.RawSimple → List T) (all old : List T) (n : ℕ) (list : List RawStatement) (i : ℕ) → length list ≤ i
    → old ++ walked top deep n (drop i list) ≡ all → old ≡ all
listed-last top deep all old n list i h so = sym (ap (λ l. old ++ l) (walked-end top deep n list i h) ∙ append-nil old) ∙ so
