-- A walk over a body with what is known finds what the rules find in its block.
use Rattle.std.proofs.Common.{◌≡◌, ℕ, suc, List, [], ◌∷◌, ◌++◌, length, refl, ap, sym, ◌∙◌, append_assoc, subst}
use Rattle.std.specs.Prelude.{true, map, nat_eq, Option}
use Rattle.indexmap.specs.IndexMap.{get}
use Rattle.std.specs.List.{flat_map}
use Rattle.std.proofs.lemmas.List.{append-nil}
use Rattle.std.proofs.lemmas.Grind.{flat_map-append}
use Rattle.c_tree.specs.Raw as raw
use Rattle.c_tree.specs.rules.Bodies.{Declared, Scoped, scoped, declares, locals_of, of_simple, of_test, RawBody, items_of}
use Rattle.c_raw.specs.Blocks.{at_view, simple_view, first_block, later_blocks, blocks_of, block_view, ends, is_body}
use Rattle.c_raw.specs.declared.body.RawStatement.{RawStatement}
use Rattle.c_raw.specs.declared.body.RawStatement.TheVariants.{Simple, Leave, If, For, End}
use Rattle.c_form.specs.Blames.{Blames}
use Rattle.c_form.specs.Bodies.{body_view, statements_of, is_one_block}
use Rattle.c_form.specs.declared.body.Body.{Body}
use Rattle.c_form.specs.declared.scope.Scope.{Scope}
use Rattle.c_form.proofs.Blaming.{◌▸◌, blames_none}
use Rattle.c_form.specs.Scopes.{IsKnown, IsScope, in_scope, walked, known_at_end, known_after, outer_after}
use Rattle.c_form.proofs.Flat.{blocks-count, one-block, block-of-body}
use Rattle.c_form.proofs.Open.{over, over-one, over-two, over-three}

-- what a rule finds in a block where some locals are known
abbrev pub in_block : (Scoped → List ℕ) → List Declared → raw.RawBlock → List ℕ
in_block part known b = flat_map part (scoped known b)

two : (part : Scoped → List ℕ) (x y : List Scoped) → flat_map part (x ++ y) ≡ flat_map part x ++ flat_map part y
two part x y = flat_map-append part x y

three : (part : Scoped → List ℕ) (x y z : List Scoped) → flat_map part (x ++ y ++ z) ≡ (flat_map part x ++ flat_map part y) ++ flat_map part z
three part x y z = flat_map-append part (x ++ y) z ∙ ap (λ l. l ++ flat_map part z) (flat_map-append part x y)

left_two : (h x y : List ℕ) → h ++ (x ++ y) ≡ (h ++ x) ++ y
left_two h x y = sym (append_assoc h x y)

left_four : (h x y z w : List ℕ) → h ++ (x ++ (y ++ (z ++ w))) ≡ (h ++ ((x ++ y) ++ z)) ++ w
left_four h x y z w =
    ap (λ l. h ++ l) (ap (λ l. x ++ l) (left_two y z w) ∙ left_two x (y ++ z) w ∙ ap (λ l. l ++ w) (left_two x y z))
    ∙ left_two h ((x ++ y) ++ z) w

pub walk-over : (part : Scoped → List ℕ) (known : List Declared) (outer : List (List Declared)) (body : List RawStatement)
    → ends (suc (length outer)) body ≡ true → walked part known outer body ≡ over (in_block part) (known ∷ outer) (blocks_of body)
walk-over part known outer [] e = cc e
walk-over part known outer (Simple s ∷ rest) e =
    let here : List ℕ = part (record { known = known; item = of_simple (simple_view s) }) in
    let next : List Declared = declares (simple_view s) ++ known in
    let bs : List raw.RawBlock = blocks_of rest in
    ap (λ l. here ++ l)
    (walk-over part next outer rest e ∙ over-one (in_block part) next outer bs (length outer) (blocks-count (suc (length outer)) rest e))
    ∙ left_two here (in_block part next (first_block bs)) (over (in_block part) outer (later_blocks bs))
walk-over part known outer (Leave at a ∷ rest) e =
    let here : List ℕ = part (record { known = known; item = of_test (at_view a) }) in
    let bs : List raw.RawBlock = blocks_of rest in
    ap (λ l. here ++ l)
    (walk-over part known outer rest e ∙ over-one (in_block part) known outer bs (length outer) (blocks-count (suc (length outer)) rest e))
    ∙ left_two here (in_block part known (first_block bs)) (over (in_block part) outer (later_blocks bs))
walk-over part known outer (If a ∷ rest) e =
    let here : List ℕ = part (record { known = known; item = of_test (at_view a) }) in
    let bs : List raw.RawBlock = blocks_of rest in
    let x : raw.RawBlock = first_block bs in
    let y : raw.RawBlock = first_block (later_blocks bs) in
    let z : raw.RawBlock = first_block (later_blocks (later_blocks bs)) in
    let more : List ℕ = over (in_block part) outer (later_blocks (later_blocks (later_blocks bs))) in
    ap (λ l. here ++ l)
    (walk-over part known (known ∷ known ∷ outer) rest e
    ∙ over-three (in_block part) known known known outer bs (length outer) (blocks-count (suc (suc (suc (length outer)))) rest e))
    ∙ left_four here (in_block part known x) (in_block part known y) (in_block part known z) more
    ∙ ap (λ l. (here ++ l) ++ more) (sym (three part (scoped known x) (scoped known y) (scoped known z)))
walk-over part known outer (For ∷ rest) e =
    let bs : List raw.RawBlock = blocks_of rest in
    let x : raw.RawBlock = first_block bs in
    let z : raw.RawBlock = first_block (later_blocks bs) in
    let more : List ℕ = over (in_block part) outer (later_blocks (later_blocks bs)) in
    walk-over part known (known ∷ outer) rest e
    ∙ over-two (in_block part) known known outer bs (length outer) (blocks-count (suc (suc (length outer))) rest e)
    ∙ left_two (in_block part known x) (in_block part known z) more
    ∙ ap (λ l. l ++ more) (sym (two part (scoped known x) (scoped known z)))
walk-over part known [] (End at ∷ []) e = refl
walk-over part known [] (End at ∷ s ∷ rest) e = cc e
walk-over part known (around ∷ outer) (End at ∷ rest) e = walk-over part around outer rest e

pub walk-body : (part : Scoped → List ℕ) (body : List RawStatement) → is_body body ≡ true → walked part [] [] body ≡ flat_map part (scoped [] (block_view body))
walk-body part body e =
    walk-over part [] [] body e ∙ ap (over (in_block part) ([] ∷ [])) (one-block body e) ∙ append-nil (in_block part [] (block_view body))

-- what is known at the end of the last of some blocks
abbrev known_last : List Declared → List (List Declared) → List raw.RawBlock → List Declared
known_last known [] bs = locals_of (first_block bs) ++ known
known_last known (around ∷ outer) bs = known_last around outer (later_blocks bs)

more_known : (known : List Declared) (ds locals : List Declared) → locals ++ (ds ++ known) ≡ (locals ++ ds) ++ known
more_known known ds locals = sym (append_assoc locals ds known)

known-simple : (s : raw.RawSimple) (known : List Declared) (outer : List (List Declared)) (bs : List raw.RawBlock)
    → known_last (declares s ++ known) outer bs ≡ known_last known outer (raw.simple s (first_block bs) ∷ later_blocks bs)
known-simple s known [] bs = more_known known (declares s) (locals_of (first_block bs))
known-simple s known (around ∷ outer) bs = refl

known-leave : (at : ℕ) (a : raw.At _) (known : List Declared) (outer : List (List Declared)) (bs : List raw.RawBlock)
    → known_last known outer bs ≡ known_last known outer (raw.leave at a (first_block bs) ∷ later_blocks bs)
known-leave at a known [] bs = refl
known-leave at a known (around ∷ outer) bs = refl

known-choice : (a : raw.At _) (x y : raw.RawBlock) (known : List Declared) (outer : List (List Declared)) (bs : List raw.RawBlock)
    → known_last known outer bs ≡ known_last known outer (raw.choice a x y (first_block bs) ∷ later_blocks bs)
known-choice a x y known [] bs = refl
known-choice a x y known (around ∷ outer) bs = refl

known-loop : (x : raw.RawBlock) (known : List Declared) (outer : List (List Declared)) (bs : List raw.RawBlock)
    → known_last known outer bs ≡ known_last known outer (raw.loop x (first_block bs) ∷ later_blocks bs)
known-loop x known [] bs = refl
known-loop x known (around ∷ outer) bs = refl

end-known : (known : List Declared) (outer : List (List Declared)) (body : List RawStatement)
    → ends (suc (length outer)) body ≡ true → known_at_end known outer body ≡ known_last known outer (blocks_of body)
end-known known outer [] e = cc e
end-known known outer (Simple s ∷ rest) e =
    end-known (declares (simple_view s) ++ known) outer rest e ∙ known-simple (simple_view s) known outer (blocks_of rest)
end-known known outer (Leave at a ∷ rest) e = end-known known outer rest e ∙ known-leave at (at_view a) known outer (blocks_of rest)
end-known known outer (If a ∷ rest) e =
    end-known known (known ∷ known ∷ outer) rest e
    ∙ known-choice (at_view a) (first_block (blocks_of rest)) (first_block (later_blocks (blocks_of rest))) known outer (later_blocks (later_blocks (blocks_of rest)))
end-known known outer (For ∷ rest) e =
    end-known known (known ∷ outer) rest e ∙ known-loop (first_block (blocks_of rest)) known outer (later_blocks (blocks_of rest))
end-known known [] (End at ∷ []) e = refl
end-known known [] (End at ∷ s ∷ rest) e = cc e
end-known known (around ∷ outer) (End at ∷ rest) e = end-known around outer rest e

pub end-body : (body : List RawStatement) → is_body body ≡ true → known_at_end [] [] body ≡ locals_of (block_view body)
end-body body e = end-known [] [] body e ∙ append-nil (locals_of (block_view body))

-- a walk that has come to a place: what it blamed, and what is known there
pub record Reached (part : Scoped → List ℕ) (scope : Scope) (start least : Option ℕ) (all rest : List RawStatement) : Type 0 where
  pub known : List Declared
  pub outer : List (List Declared)
  pub is_scope : IsScope scope known outer
  pub blames : (new : Option ℕ) → Blames least new (walked part known outer rest) → Blames start new (walked part [] [] all)
  pub at_end : known_at_end known outer rest ≡ known_at_end [] [] all

pub reached-first : (part : Scoped → List ℕ) (scope : Scope) (least : Option ℕ) (all : List RawStatement) → IsScope scope [] [] → Reached part scope least least all all
reached-first part scope least all s = record { known = []; outer = []; is_scope = s; blames = λ new b. b; at_end = refl }

pub reached-next : (part : Scoped → List ℕ) (scope after : Scope) (start least mid : Option ℕ) (all rest more : List RawStatement) (s : RawStatement)
    → rest ≡ s ∷ more
    → ((known : List Declared) (outer : List (List Declared)) → IsScope scope known outer → IsScope after (known_after s known outer) (outer_after s known outer))
    → ((known : List Declared) → IsKnown (get nat_eq scope.types) known → Blames least mid (in_scope part known s))
    → Reached part scope start least all rest → Reached part after start mid all more
reached-next part scope after start least mid all rest more s front step visit r = record {
  known = known_after s r.known r.outer;
  outer = outer_after s r.known r.outer;
  is_scope = step r.known r.outer r.is_scope;
  blames = λ new b. r.blames new (rw front (visit r.known r.is_scope.knows ▸ b));
  at_end = sym (ap (known_at_end r.known r.outer) front) ∙ r.at_end;
}

pub reached-blames : (part : Scoped → List ℕ) (scope : Scope) (start least : Option ℕ) (all rest : List RawStatement) → rest ≡ []
    → Reached part scope start least all rest → Blames start least (walked part [] [] all)
reached-blames part scope start least all rest e r = r.blames least (rw e (blames_none least))

pub reached-knows : (part : Scoped → List ℕ) (scope : Scope) (start least : Option ℕ) (all rest : List RawStatement) → rest ≡ []
    → Reached part scope start least all rest → IsKnown (get nat_eq scope.types) (known_at_end [] [] all)
reached-knows part scope start least all rest e r =
    let same : r.known ≡ known_at_end [] [] all = sym (ap (known_at_end r.known r.outer) e) ∙ r.at_end in
    subst (IsKnown (get nat_eq scope.types)) same r.is_scope.knows

-- a rule that looks at the items of a body, where its value is seen with what is known at the end
pub items-walked : (part : Scoped → List ℕ) (b : Body) (list : List RawStatement) → list ≡ statements_of b → is_one_block b ≡ true
    → walked part [] [] list ++ flat_map part (map (λ item. (let s : Scoped = record { known = known_at_end [] [] list; item = item } in s)) (RawBody.last (body_view b)))
    ≡ flat_map part (items_of (body_view b))
items-walked part b list e one =
    let body : is_body list ≡ true = ap is_body e ∙ one in
    let block : block_view list ≡ RawBody.block (body_view b) = ap block_view e ∙ sym (block-of-body b) in
    let locals : known_at_end [] [] list ≡ locals_of (RawBody.block (body_view b)) = end-body list body ∙ ap locals_of block in
    ap (λ l. l ++ flat_map part (map (λ item. (let s : Scoped = record { known = known_at_end [] [] list; item = item } in s)) (RawBody.last (body_view b))))
    (walk-body part list body ∙ ap (λ x. flat_map part (scoped [] x)) block)
    ∙ ap (λ k. flat_map part (scoped [] (RawBody.block (body_view b)))
    ++ flat_map part (map (λ item. (let s : Scoped = record { known = k; item = item } in s)) (RawBody.last (body_view b)))) locals
    ∙ sym (flat_map-append part (scoped [] (RawBody.block (body_view b)))
    (map (λ item. (let s : Scoped = record { known = locals_of (RawBody.block (body_view b)); item = item } in s)) (RawBody.last (body_view b))))
