-- From the parts of an item that were read to the item.
use Rattle.std.specs.Prelude.{◌≡◌, ◌+◌, ℕ, List, [], ◌∷◌, ◌++◌, length, map, Option, refl}
use Rattle.std.proofs.Common.{ap, sym, ◌∙◌, subst, arith}
use Rattle.predict.specs.declared.symbol.Symbol.TheVariants.{Kind, Left}
use Rattle.predict.specs.Tree.{Tree, node, no_parts, token, subtree}
use Rattle.va_base.specs.declared.expanded.Expanded.{Expanded}
use Rattle.va_tree.specs.declared.name.NameAt.{NameAt}
use Rattle.va_tree.specs.declared.module.Direction.{Direction}
use Rattle.va_tree.specs.declared.module.Item.{Item}
use Rattle.va_tree.specs.declared.module.ItemBody.{ItemBody}
use Rattle.va_tree.specs.declared.source.Attribute.{Attribute}
use Rattle.va_tree.specs.declared.source.AttributeGroup.{AttributeGroup}
use Rattle.va_build.specs.AttributeLists.{ReadsGroup}
use Rattle.va_build.specs.Directions.{direction_of, ReadsDirected}
use Rattle.va_build.specs.Reading.{row_symbols, Ahead, TakesRow, TakesToken, Reads, ReadsOn, first_tree, later_trees, trees, trees_of}
use Rattle.va_build.specs.SourceItems.{attribute, more_attributes, attribute_group, attribute_groups, direction, directed, item_body}
use Rattle.va_build.specs.SourceOf.{item, items, with_attributes}
use Rattle.va_build.specs.TokensAt.{named}
use Rattle.va_build.specs.Width.{width}
use Rattle.va_build.proofs.AttributeGroups.{group_is}
use Rattle.va_build.proofs.TakenRows.{read_row, reads_on, pushed_list}

-- an attribute and those behind it, between two tokens
pub group_read : (e : Expanded) (before r1 r2 r3 after : Ahead) (i j : ℕ) (first : Attribute) (list : List Attribute) (g : AttributeGroup) → TakesToken before r1 i → Reads (attribute e) r1 r2 (first ∷ []) → Reads (λ at t. first ∷ more_attributes e at t) r2 r3 list → TakesToken r3 after j → g ≡ attribute_group list → ReadsGroup e before after g
group_read e before r1 r2 r3 after i j first list g opened one more closed is =
    let trees1 : trees r1 ≡ trees before = ap trees_of opened.nodes_are in
    let at_more : r2.at ≡ before.at + 1 + width (first_tree (trees before)) = one.at_is ∙ (λ k. opened.at_is k + width (first_tree (trees1 k))) in
    let trees_more : trees r2 ≡ later_trees (trees before) = one.trees_are ∙ ap later_trees trees1 in
    record {
      value_is = is ∙ group_is list _ _ _ first more.value_is (one.value_is ∙ (λ k. attribute e (opened.at_is k) (first_tree (trees1 k)))) (λ k. more_attributes e (at_more k) (first_tree (trees_more k)));
      trees_are = ap trees_of closed.nodes_are ∙ more.trees_are ∙ ap later_trees trees_more;
      at_is = closed.at_is ∙ ap (λ (n : ℕ). n + 1) (more.at_is ∙ (λ k. at_more k + width (first_tree (trees_more k))));
      fewer = omega (arith, ap length opened.nodes_are, one.fewer, more.fewer, ap length closed.nodes_are);
    }

-- What follows a direction and a name stands where they end. Here and below, what trees mean is any function of them, so that no
-- meaning is computed.
tail_is : {X : Type 0} (tail : ℕ → Direction → NameAt → ℕ → Tree → X) (name_of : ℕ → NameAt) (to_of : Tree → Direction) (begin at1 at2 at3 start : ℕ) (ts left : List Tree) (to : Direction) (name : NameAt) (body : X)
    → start ≡ at1 → at1 ≡ begin → to ≡ to_of (first_tree ts) → name ≡ name_of at2 → at2 ≡ at1 + width (first_tree ts) → at3 ≡ at2 + 1 → left ≡ later_trees ts
    → body ≡ tail start to name at3 (first_tree left)
    → body ≡ tail begin (to_of (first_tree ts)) (name_of (begin + width (first_tree ts))) (begin + width (first_tree ts) + 1) (first_tree (later_trees ts))
tail_is {X} tail name_of to_of begin at1 at2 at3 start ts left to name body s t d n p q l b =
    let behind : at2 ≡ begin + width (first_tree ts) = p ∙ ap (λ (k : ℕ). k + width (first_tree ts)) t in
    let named_is : name ≡ name_of (begin + width (first_tree ts)) = n ∙ ap name_of behind in
    let at_tail : at3 ≡ begin + width (first_tree ts) + 1 = q ∙ ap (λ (k : ℕ). k + 1) behind in
    let start_is : start ≡ begin = s ∙ t in
    b ∙ (λ k. tail (start_is k) (d k) (named_is k) (at_tail k) (first_tree (l k)))

-- a direction, a name, what follows them, and a token
between_read : {X : Type 0} (meaning : ℕ → Tree → List X) (tail : ℕ → Direction → NameAt → ℕ → Tree → X) (name_of : ℕ → NameAt) (to_of : Tree → Direction) (before r1 r2 r3 r4 after : Ahead) (row start i a k b j : ℕ) (to : Direction) (name : NameAt) (body : X)
    → ((first second : Tree) → meaning before.at (node row (subtree first (token k (subtree second (token j no_parts))))) ≡ tail before.at (to_of first) (name_of (before.at + width first)) (before.at + width first + 1) second ∷ [])
    → TakesRow before r1 row → row_symbols row ≡ Left a ∷ Kind k ∷ Left b ∷ Kind j ∷ [] → start ≡ r1.at → Reads (λ at t. to_of t) r1 r2 to → name ≡ name_of r2.at → r3.at ≡ r2.at + 1 → r3.nodes ≡ r2.nodes → Reads (tail start to name) r3 r4 body → TakesToken r4 after i → Reads meaning before after (body ∷ [])
between_read {X} meaning tail name_of to_of before r1 r2 r3 r4 after row start i a k b j to name body means t symbols s d n p q l closed =
    let first : Tree = first_tree (trees r1) in
    let second : Tree = first_tree (later_trees (trees r1)) in
    let left : trees r3 ≡ later_trees (trees r1) = ap trees_of q ∙ d.trees_are in
    let wide : width (first_tree (trees r3)) ≡ width second = ap (λ (ts : List Tree). width (first_tree ts)) left in
    let inner : body ≡ tail before.at (to_of first) (name_of (before.at + width first)) (before.at + width first + 1) second = tail_is tail name_of to_of before.at r1.at r2.at r3.at start (trees r1) (trees r3) to name body s t.at_is d.value_is n d.at_is p left l.value_is in
    let value : body ∷ [] ≡ meaning before.at (node row (subtree first (token k (subtree second (token j no_parts))))) = ap (λ (x : X). x ∷ []) inner ∙ sym (means first second) in
    let total : after.at ≡ r1.at + (width first + ((width second + 1) + 1)) = omega (arith, closed.at_is, l.at_is, p, d.at_is, wide) in
    read_row meaning before r1 after row (Left a ∷ Kind k ∷ Left b ∷ Kind j ∷ []) (body ∷ []) t symbols value (ap trees_of closed.nodes_are ∙ l.trees_are ∙ ap later_trees left) total (omega (arith, ap length closed.nodes_are, l.fewer, ap length q, d.fewer))

-- ports of one direction
pub direction_read : (e : Expanded) (before r1 r2 r3 r4 after : Ahead) (row start i a k b j : ℕ) (to : Direction) (name : NameAt) (discipline : Option NameAt) (list names : List NameAt)
    → TakesRow before r1 row → row_symbols row ≡ Left a ∷ Kind k ∷ Left b ∷ Kind j ∷ [] → start ≡ r1.at → Reads (λ at t. direction t) r1 r2 to → name ≡ named e r2.at → r3.at ≡ r2.at + 1 → r3.nodes ≡ r2.nodes → ReadsDirected e name r3 r4 discipline list → TakesToken r4 after i → names ≡ list
    → Reads (item_body e) before after (direction_of start to discipline names ∷ [])
direction_read e before r1 r2 r3 r4 after row start i a k b j to name discipline list names t symbols s d n p q heard closed same =
    let l : Reads (directed e start to name) r3 r4 (direction_of start to discipline list) = heard.each start to in
    let behind : Reads (directed e start to name) r3 r4 (direction_of start to discipline names) = record { value_is = ap (λ (ns : List NameAt). direction_of start to discipline ns) same ∙ l.value_is; trees_are = l.trees_are; at_is = l.at_is; fewer = l.fewer } in
    between_read (item_body e) (directed e) (named e) (λ t. direction t) before r1 r2 r3 r4 after row start i a k b j to name (direction_of start to discipline names) (λ first second. refl) t symbols s d n p q behind closed

-- attributes and what they belong to
both_read : {X Y Z : Type 0} (meaning : ℕ → Tree → List Z) (groups_of : ℕ → Tree → X) (inner_of : ℕ → Tree → List Y) (make : X → Y → Z) (before r1 r2 after : Ahead) (row a b : ℕ) (groups list : X) (body : Y)
    → ((first second : Tree) → meaning before.at (node row (subtree first (subtree second no_parts))) ≡ map (make (groups_of before.at first)) (inner_of (before.at + width first) second))
    → TakesRow before r1 row → row_symbols row ≡ Left a ∷ Left b ∷ [] → Reads groups_of r1 r2 groups → Reads inner_of r2 after (body ∷ []) → list ≡ groups → Reads meaning before after (make list body ∷ [])
both_read {X} {Y} {Z} meaning groups_of inner_of make before r1 r2 after row a b groups list body means t symbols g l same =
    let first : Tree = first_tree (trees r1) in
    let second : Tree = first_tree (later_trees (trees r1)) in
    let behind : r2.at ≡ before.at + width first = g.at_is ∙ ap (λ (k : ℕ). k + width first) t.at_is in
    let attributes : list ≡ groups_of before.at first = same ∙ g.value_is ∙ ap (λ (k : ℕ). groups_of k first) t.at_is in
    let inner : body ∷ [] ≡ inner_of (before.at + width first) second = l.value_is ∙ (λ k. inner_of (behind k) (first_tree (g.trees_are k))) in
    let made : make list body ∷ [] ≡ map (make (groups_of before.at first)) (inner_of (before.at + width first) second) = λ k. map (make (attributes k)) (inner k) in
    let wide : width (first_tree (trees r2)) ≡ width second = ap (λ (ts : List Tree). width (first_tree ts)) g.trees_are in
    let total : after.at ≡ r1.at + (width first + (width second + 0)) = omega (arith, l.at_is, g.at_is, wide) in
    read_row meaning before r1 after row (Left a ∷ Left b ∷ []) (make list body ∷ []) t symbols (made ∙ sym (means first second)) (l.trees_are ∙ ap later_trees g.trees_are) total (omega (arith, l.fewer, g.fewer))

-- an item of a module
pub item_read : (e : Expanded) (before r1 r2 after : Ahead) (row a b : ℕ) (groups list : List AttributeGroup) (body : ItemBody) → TakesRow before r1 row → row_symbols row ≡ Left a ∷ Left b ∷ [] → Reads (attribute_groups e) r1 r2 groups → Reads (item_body e) r2 after (body ∷ []) → list ≡ groups → Reads (item e) before after (with_attributes list body ∷ [])
item_read e before r1 r2 after row a b groups list body = both_read (item e) (attribute_groups e) (item_body e) with_attributes before r1 r2 after row a b groups list body (λ first second. refl)

-- one more of a list was read
one_more : {X : Type 0} (one all : ℕ → Tree → List X) (start now r1 r2 : Ahead) (row k a b : ℕ) (old new : List X) (x : X)
    → ((first second : Tree) → all now.at (node k (subtree first (subtree second no_parts))) ≡ one now.at first ++ all (now.at + width first) second)
    → ReadsOn (λ at t. old ++ all at t) all start now → TakesRow now r1 row → row ≡ k → row_symbols k ≡ Left a ∷ Left b ∷ [] → Reads one r1 r2 (x ∷ []) → new ≡ old ++ x ∷ [] → ReadsOn (λ at t. new ++ all at t) all start r2
one_more {X} one all start now r1 r2 row k a b old new x means on t is symbols l added =
    let first : Tree = first_tree (trees r1) in
    let second : Tree = first_tree (later_trees (trees r1)) in
    let behind : r2.at ≡ now.at + width first = l.at_is ∙ ap (λ (i : ℕ). i + width first) t.at_is in
    let one_is : x ∷ [] ≡ one now.at first = l.value_is ∙ ap (λ (i : ℕ). one i first) t.at_is in
    let rest_is : all r2.at (first_tree (trees r2)) ≡ all (now.at + width first) second = λ j. all (behind j) (first_tree (l.trees_are j)) in
    let joined : new ++ all r2.at (first_tree (trees r2)) ≡ old ++ (one now.at first ++ all (now.at + width first) second) = pushed_list old new (all r2.at (first_tree (trees r2))) (all (now.at + width first) second) (one now.at first) x added one_is rest_is in
    let value : new ++ all r2.at (first_tree (trees r2)) ≡ old ++ all now.at (node k (subtree first (subtree second no_parts))) = joined ∙ sym (ap (λ (more : List X). old ++ more) (means first second)) in
    let wide : width (first_tree (trees r2)) ≡ width second = ap (λ (ts : List Tree). width (first_tree ts)) l.trees_are in
    let total : r2.at + width (first_tree (trees r2)) ≡ r1.at + (width first + (width second + 0)) = omega (arith, l.at_is, wide) in
    reads_on (λ at t. old ++ all at t) (λ at t. new ++ all at t) all start now r1 r2 k (Left a ∷ Left b ∷ []) on (subst (TakesRow now r1) is t) symbols value (ap later_trees l.trees_are) total (omega (arith, l.fewer))

-- one more item of a module
pub items_on : (e : Expanded) (start now r1 r2 : Ahead) (row k a b : ℕ) (old new : List Item) (x : Item) → ReadsOn (λ at t. old ++ items e at t) (items e) start now → TakesRow now r1 row → row ≡ k → row_symbols k ≡ Left a ∷ Left b ∷ [] → Reads (item e) r1 r2 (x ∷ []) → new ≡ old ++ x ∷ [] → ReadsOn (λ at t. new ++ items e at t) (items e) start r2
items_on e start now r1 r2 row k a b old new x = one_more (item e) (items e) start now r1 r2 row k a b old new x (λ first second. refl)
