-- Flat lists of statements and their blocks have the same items.
use Rattle.std.proofs.Common.{◌≡◌, ℕ, suc, zero, List, [], ◌∷◌, ◌++◌, length, refl, ap, sym, ◌∙◌, append_assoc, arith}
use Rattle.std.specs.Prelude.{map, true}
use Rattle.std.specs.List.{flat_map}
use Rattle.std.proofs.lemmas.List.{append-nil}
use Rattle.std.proofs.lemmas.Grind.{flat_map-append}
use Rattle.c_tree.specs.Raw as raw
use Rattle.c_tree.specs.rules.Bodies.{Declared, Item, of_simple, of_test, Scoped, scoped, RawBody, items_of, items_in, declares, locals_of}
use Rattle.c_raw.specs.Blocks.{at_view, simple_view, first_block, later_blocks, blocks_of, block_view, ends, is_body}
use Rattle.c_raw.specs.declared.body.RawStatement.{RawStatement}
use Rattle.c_raw.specs.declared.body.RawStatement.TheVariants.{Simple, Leave, If, For, End}
use Rattle.c_form.specs.Bodies.{in_statement, body_view, statements_of, is_one_block}
use Rattle.c_form.specs.declared.body.Body.{Body}
use Rattle.c_form.specs.declared.body.Body.TheVariants.{Function, SetupModel, SetupInstance, Evaluation}

-- what is found in the lists that some elements give
pub flat-flat : {A B C : Type 0} (f : B → List C) (g : A → List B) (xs : List A) → flat_map f (flat_map g xs) ≡ flat_map (λ x. flat_map f (g x)) xs
flat-flat f g [] = refl
flat-flat f g (x ∷ xs) = flat_map-append f (g x) (flat_map g xs) ∙ ap (λ t. flat_map f (g x) ++ t) (flat-flat f g xs)

-- the items of a block, whatever is known
pub items-scoped : {T : Type 0} (part : Item → List T) (known : List Declared) (b : raw.RawBlock)
    → flat_map (λ s. part (Scoped.item s)) (scoped known b) ≡ flat_map part (items_in b)
items-scoped part known (raw.closed at) = refl
items-scoped part known (raw.simple s rest) = ap (λ t. part (of_simple s) ++ t) (items-scoped part (declares s ++ known) rest)
items-scoped part known (raw.leave at a rest) = ap (λ t. part (of_test a) ++ t) (items-scoped part known rest)
items-scoped part known (raw.choice a x y rest) =
    let f : Scoped → List _ = λ s. part (Scoped.item s) in
    ap (λ t. part (of_test a) ++ t)
    (flat_map-append f (scoped known x ++ scoped known y) (scoped known rest)
    ∙ ap (λ t. t ++ flat_map f (scoped known rest)) (flat_map-append f (scoped known x) (scoped known y))
    ∙ rw (items-scoped part known x, items-scoped part known y, items-scoped part known rest)
    (sym (flat_map-append part (items_in x ++ items_in y) (items_in rest)
    ∙ ap (λ t. t ++ flat_map part (items_in rest)) (flat_map-append part (items_in x) (items_in y)))))
items-scoped part known (raw.loop x rest) =
    let f : Scoped → List _ = λ s. part (Scoped.item s) in
    flat_map-append f (scoped known x) (scoped known rest)
    ∙ rw (items-scoped part known x, items-scoped part known rest) (sym (flat_map-append part (items_in x) (items_in rest)))

-- what is found in a block
abbrev pub found_in : {T : Type 0} → (Item → List T) → raw.RawBlock → List T
found_in part b = flat_map part (items_in b)

-- the first blocks of a list, and the others
one-first : {T : Type 0} (part : Item → List T) (bs : List raw.RawBlock)
    → flat_map (found_in part) bs ≡ found_in part (first_block bs) ++ flat_map (found_in part) (later_blocks bs)
one-first part [] = refl
one-first part (b ∷ bs) = refl

two-first : {T : Type 0} (part : Item → List T) (bs : List raw.RawBlock)
    → flat_map (found_in part) bs
    ≡ found_in part (first_block bs) ++ found_in part (first_block (later_blocks bs)) ++ flat_map (found_in part) (later_blocks (later_blocks bs))
two-first part bs =
    one-first part bs ∙ ap (λ t. found_in part (first_block bs) ++ t) (one-first part (later_blocks bs))
    ∙ sym (append_assoc (found_in part (first_block bs)) (found_in part (first_block (later_blocks bs))) (flat_map (found_in part) (later_blocks (later_blocks bs))))

three-first : {T : Type 0} (part : Item → List T) (bs : List raw.RawBlock)
    → flat_map (found_in part) bs
    ≡ found_in part (first_block bs) ++ found_in part (first_block (later_blocks bs)) ++ found_in part (first_block (later_blocks (later_blocks bs)))
    ++ flat_map (found_in part) (later_blocks (later_blocks (later_blocks bs)))
three-first part bs =
    let front : List _ = found_in part (first_block bs) ++ found_in part (first_block (later_blocks bs)) in
    two-first part bs ∙ ap (λ t. front ++ t) (one-first part (later_blocks (later_blocks bs)))
    ∙ sym (append_assoc front (found_in part (first_block (later_blocks (later_blocks bs)))) (flat_map (found_in part) (later_blocks (later_blocks (later_blocks bs)))))

-- the items of the blocks that a list ends are those of its statements
pub items-flat : {T : Type 0} (part : Item → List T) (body : List RawStatement)
    → flat_map (in_statement part) body ≡ flat_map (found_in part) (blocks_of body)
items-flat part [] = refl
items-flat part (Simple s ∷ rest) =
    ap (λ t. part (of_simple (simple_view s)) ++ t) (items-flat part rest ∙ one-first part (blocks_of rest))
    ∙ sym (append_assoc (part (of_simple (simple_view s))) (found_in part (first_block (blocks_of rest))) (flat_map (found_in part) (later_blocks (blocks_of rest))))
items-flat part (Leave at a ∷ rest) =
    ap (λ t. part (of_test (at_view a)) ++ t) (items-flat part rest ∙ one-first part (blocks_of rest))
    ∙ sym (append_assoc (part (of_test (at_view a))) (found_in part (first_block (blocks_of rest))) (flat_map (found_in part) (later_blocks (blocks_of rest))))
items-flat part (If a ∷ rest) =
    let bs : List raw.RawBlock = blocks_of rest in
    let x : raw.RawBlock = first_block bs in
    let y : raw.RawBlock = first_block (later_blocks bs) in
    let z : raw.RawBlock = first_block (later_blocks (later_blocks bs)) in
    let more : List _ = flat_map (found_in part) (later_blocks (later_blocks (later_blocks bs))) in
    let inner : flat_map part (items_in x ++ items_in y ++ items_in z) ≡ found_in part x ++ found_in part y ++ found_in part z =
    flat_map-append part (items_in x ++ items_in y) (items_in z)
    ∙ ap (λ t. t ++ found_in part z) (flat_map-append part (items_in x) (items_in y)) in
    ap (λ t. part (of_test (at_view a)) ++ t) (items-flat part rest ∙ three-first part bs)
    ∙ sym (append_assoc (part (of_test (at_view a))) (found_in part x ++ found_in part y ++ found_in part z) more)
    ∙ ap (λ t. (part (of_test (at_view a)) ++ t) ++ more) (sym inner)
items-flat part (For ∷ rest) =
    let bs : List raw.RawBlock = blocks_of rest in
    items-flat part rest ∙ two-first part bs
    ∙ ap (λ t. t ++ flat_map (found_in part) (later_blocks (later_blocks bs)))
    (sym (flat_map-append part (items_in (first_block bs)) (items_in (first_block (later_blocks bs)))))
items-flat part (End at ∷ rest) = items-flat part rest

pub later-count : (bs : List raw.RawBlock) (n : ℕ) → length bs ≡ suc n → length (later_blocks bs) ≡ n
later-count [] n e = omega (arith, e)
later-count (b ∷ bs) n e = omega (arith, e)

-- a list that ends so many blocks has so many
pub blocks-count : (n : ℕ) (body : List RawStatement) → ends n body ≡ true → length (blocks_of body) ≡ n
blocks-count zero [] e = refl
blocks-count zero (s ∷ rest) e = cc e
blocks-count (suc n) [] e = cc e
blocks-count (suc n) (Simple s ∷ rest) e = ap suc (later-count (blocks_of rest) n (blocks-count (suc n) rest e))
blocks-count (suc n) (Leave at a ∷ rest) e = ap suc (later-count (blocks_of rest) n (blocks-count (suc n) rest e))
blocks-count (suc n) (If a ∷ rest) e =
    ap suc (later-count (later_blocks (later_blocks (blocks_of rest))) n
    (later-count (later_blocks (blocks_of rest)) (suc n) (later-count (blocks_of rest) (suc (suc n)) (blocks-count (suc (suc (suc n))) rest e))))
blocks-count (suc n) (For ∷ rest) e =
    ap suc (later-count (later_blocks (blocks_of rest)) n (later-count (blocks_of rest) (suc n) (blocks-count (suc (suc n)) rest e)))
blocks-count (suc n) (End at ∷ rest) e = ap suc (blocks-count n rest e)

only : (bs : List raw.RawBlock) → length bs ≡ 1 → bs ≡ first_block bs ∷ []
only [] e = cc (e)
only (b ∷ []) e = refl
only (b ∷ c ∷ bs) e = let no : ⊥ = omega (arith, e) in absurd no

-- a body is one block
pub one-block : (body : List RawStatement) → is_body body ≡ true → blocks_of body ≡ block_view body ∷ []
one-block body e = only (blocks_of body) (blocks-count 1 body e)

-- the items of a body's block are those of its statements
pub items-body : {T : Type 0} (part : Item → List T) (body : List RawStatement) → is_body body ≡ true
    → flat_map (in_statement part) body ≡ flat_map part (items_in (block_view body))
items-body part body e =
    items-flat part body ∙ ap (flat_map (found_in part)) (one-block body e) ∙ append-nil (found_in part (block_view body))

last-items : {T : Type 0} (part : Item → List T) (known : List Declared) (items : List Item)
    → flat_map (λ s. part (Scoped.item s)) (map (λ item. (let s : Scoped = record { known = known; item = item } in s)) items) ≡ flat_map part items
last-items part known [] = refl
last-items part known (item ∷ items) = ap (λ t. part item ++ t) (last-items part known items)

-- the block of a body, by its statements
pub block-of-body : (b : Body) → RawBody.block (body_view b) ≡ block_view (statements_of b)
block-of-body (Function j f) = refl
block-of-body (SetupModel statements) = refl
block-of-body (SetupInstance statements) = refl
block-of-body (Evaluation statements) = refl

-- what a rule that looks at items alone finds in a body
pub items-of-body : {T : Type 0} (part : Item → List T) (b : Body) → is_one_block b ≡ true
    → flat_map (λ s. part (Scoped.item s)) (items_of (body_view b))
    ≡ flat_map (in_statement part) (statements_of b) ++ flat_map part (RawBody.last (body_view b))
items-of-body part b e =
    let f : Scoped → List _ = λ s. part (Scoped.item s) in
    let block : raw.RawBlock = RawBody.block (body_view b) in
    flat_map-append f (scoped [] block) _
    ∙ ap (λ t. t ++ flat_map f (map (λ item. (let s : Scoped = record { known = locals_of block; item = item } in s)) (RawBody.last (body_view b))))
    (items-scoped part [] block ∙ ap (λ x. flat_map part (items_in x)) (block-of-body b) ∙ sym (items-body part (statements_of b) e))
    ∙ ap (λ t. flat_map (in_statement part) (statements_of b) ++ t) (last-items part (locals_of block) (RawBody.last (body_view b)))
