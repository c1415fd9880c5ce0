-- The rows of texts and of the items of modules hold.
use Rattle.std.specs.Prelude.{◌≡◌, ℕ, ◌+◌, List, [], ◌∷◌, ◌++◌, Option, None, refl, map, flat_map}
use Rattle.std.proofs.Common.{ap, sym, ◌∙◌, arith}
use Rattle.predict.specs.Sentence.{IsTreeOf}
use Rattle.predict.specs.Tree.{Tree, node, no_parts, token, subtree}
use Rattle.va_base.specs.declared.expanded.Expanded.{Expanded}
use Rattle.va_build.specs.Reading.{row_symbols, first_tree, later_trees}
use Rattle.va_grammar.specs.Sets.{va_rules}
use Rattle.va_build.specs.SizeDeep.{earlier, deep_expression, deep_argument, deep_statement, deep_parts}
use Rattle.va_build.specs.SizeRows.{deep_in, deep_upper, deep_top, bare_declaration}
use Rattle.va_build.proofs.SizeLaws.{RowHolds}
use Rattle.va_build.specs.SourceExpressions.{argument, expression}
use Rattle.va_build.specs.SourceStatements.{variables, statement}
use Rattle.va_build.specs.SourceItems.{attribute_value, attribute, more_attributes, attribute_groups, interval, exclusion_rest, exclusion, ranges, parameter, more_parameters, parameters, direction, directed, analog, item_body}
use Rattle.va_build.specs.SourceOf.{nature_items, nature, binding, discipline_item, discipline_items, discipline_of, with_attributes, item, items, module_of, of_sort, all_of_sort}
use Rattle.va_build.specs.TokensAt.{named}
use Rattle.va_build.specs.Width.{width}
use Rattle.va_build.proofs.SizeAlgebra.{earlier_none, earlier_assoc, earlier_swap, ends_one, ends_two, ends_three, parts_append, part_then, parts_of_each, parts_of_one, parts_of_values, parts_of_argument}
use Rattle.va_build.proofs.SizeDerived.{by_rows}
use Rattle.va_tree.specs.Declarations.{initialisers}
use Rattle.va_tree.specs.Expressions.{expression_of}
use Rattle.va_tree.specs.Parts.{Part, expression as expression_part, statement as statement_part, argument_parts, attribute_parts, attributes_parts, nature_parts, discipline_item_parts, discipline_parts, range_parts, parameter_parts, body_parts, item_parts, module_parts}
use Rattle.va_tree.specs.Statements.{statement_of}
use Rattle.va_tree.specs.declared.expr.Expr.{Expr}
use Rattle.va_tree.specs.declared.module.Direction.{Direction}
use Rattle.va_tree.specs.declared.module.ItemBody.{ItemBody}
use Rattle.va_tree.specs.declared.module.Module.{Module}
use Rattle.va_tree.specs.declared.name.NameAt.{NameAt}
use Rattle.va_tree.specs.declared.source.Attribute.{Attribute}
use Rattle.va_tree.specs.declared.source.AttributeGroup.{AttributeGroup}
use Rattle.va_tree.specs.declared.source.Discipline.{Discipline}
use Rattle.va_tree.specs.declared.source.Nature.{Nature}
use Rattle.va_tree.specs.declared.source.NatureItem.{NatureItem}
use Rattle.va_tree.specs.declared.source.Quantity.{Quantity}
use Rattle.va_tree.specs.declared.source.Quantity.TheVariants.{Potential, Flow}

abbrev attribute_value_parts : Attribute → List Part
attribute_value_parts a = attribute_parts a.value

abbrev item_value_parts : NatureItem → List Part
item_value_parts i = argument_parts i.value

-- the nature or the flow that a binding is of, and where it begins, make no difference
binding_parts : (e : Expanded) (first first' : ℕ) (of of' : Quantity) (at : ℕ) (t : Tree) → discipline_item_parts (binding e first of at t) ≡ discipline_item_parts (binding e first' of' at t)
binding_parts e first first' of of' at (node row (token dot (token name (token equals (subtree value (token semicolon no_parts)))))) = refl
binding_parts e first first' of of' at others = refl

directed_parts : (e : Expanded) (first : ℕ) (to : Direction) (name : NameAt) (at : ℕ) (t : Tree) → body_parts (directed e first to name at t) ≡ []
directed_parts e first to name at (node row (token next (subtree more no_parts))) = refl
directed_parts e first to name at (node row (subtree more no_parts)) = refl
directed_parts e first to name at others = refl

analog_parts : (e : Expanded) (first first' at : ℕ) (t : Tree) → body_parts (analog e first at t) ≡ body_parts (analog e first' at t)
analog_parts e first first' at (node row (token function (subtree ty (token name (token semicolon (subtree list (subtree body (token endfunction no_parts)))))))) = refl
analog_parts e first first' at (node row (subtree body no_parts)) = refl
analog_parts e first first' at others = refl

-- two bounds
bounds_deep : (depth : ℕ) (low high : Expr) → deep_parts depth (expression_part (expression_of low) ∷ expression_part (expression_of high) ∷ []) ≡ earlier (deep_expression depth low) (earlier (deep_expression depth high) None)
bounds_deep depth low high = part_then depth (expression_part (expression_of low)) (expression_part (expression_of high) ∷ []) ∙ ap (earlier (deep_expression depth low)) (part_then depth (expression_part (expression_of high)) [])

exclusion_deep : (e : Expanded) (depth : ℕ) (low : Expr) (at : ℕ) (t : Tree) → deep_parts depth (flat_map range_parts (exclusion_rest e low at t)) ≡ earlier (deep_expression depth low) (deep_upper e depth at t)
exclusion_deep e depth low at (node row (token colon (subtree high (subtree upper no_parts)))) =
    bounds_deep depth low (expression e (at + 1) high) ∙ ap (earlier (deep_expression depth low)) (earlier_none (deep_expression depth (expression e (at + 1) high)))
exclusion_deep e depth low at others = part_then depth (expression_part (expression_of low)) []

-- an item with its attributes
item_deep : (depth : ℕ) (attributes : List AttributeGroup) (bodies : List ItemBody) (body : ItemBody) → bodies ≡ body ∷ [] →
    deep_parts depth (flat_map item_parts (map (with_attributes attributes) bodies)) ≡ earlier (deep_parts depth (attributes_parts attributes)) (deep_parts depth (flat_map body_parts bodies))
item_deep depth attributes bodies body one =
    ap (λ (bs : List ItemBody). deep_parts depth (flat_map item_parts (map (with_attributes attributes) bs))) one
    ∙ parts_of_one depth item_parts (with_attributes attributes body)
    ∙ parts_append depth (attributes_parts attributes) (body_parts body)
    ∙ ap (earlier (deep_parts depth (attributes_parts attributes))) (sym (parts_of_one depth body_parts body) ∙ sym (ap (λ (bs : List ItemBody). deep_parts depth (flat_map body_parts bs)) one))

-- the tree of an item stands for one item
body_there : (e : Expanded) (at : ℕ) (t : Tree) (next : ℕ) → IsTreeOf va_rules 22 t next → (body : ItemBody) × (item_body e at t ≡ body ∷ [])
unfolding row_symbols
body_there e at t next h =
    by_rows (λ u. (body : ItemBody) × (item_body e at u ≡ body ∷ [])) 22 (40 ∷ 41 ∷ 42 ∷ 43 ∷ 44 ∷ 45 ∷ 46 ∷ 47 ∷ 48 ∷ []) t next refl h
    (λ ts d. (_, refl), (λ ts d. (_, refl), (λ ts d. (_, refl), (λ ts d. (_, refl), (λ ts d. (_, refl), (λ ts d. (_, refl), (λ ts d. (_, refl), (λ ts d. (_, refl), (λ ts d. (_, refl), tt)))))))))

-- a declaration with its attributes is the attributes and the declaration without them
abbrev Sorted : Expanded → ℕ → List AttributeGroup → ℕ → Tree → Type 0
Sorted e depth attributes at t =
    deep_top depth (nature e attributes at t) (discipline_of e attributes at t) (module_of e attributes at t)
    ≡ earlier (deep_parts depth (attributes_parts attributes)) (deep_top depth (nature e [] at t) (discipline_of e [] at t) (module_of e [] at t))

-- attributes, and the rest of what they stand before
behind_attributes : (depth : ℕ) (attributes : List AttributeGroup) (rest : List Part) → earlier (deep_parts depth ((attributes_parts attributes ++ rest) ++ [])) None ≡ earlier (deep_parts depth (attributes_parts attributes)) (earlier (deep_parts depth (rest ++ [])) None)
behind_attributes depth attributes rest =
    let a : Option ℕ = deep_parts depth (attributes_parts attributes) in
    earlier_none (deep_parts depth ((attributes_parts attributes ++ rest) ++ []))
    ∙ parts_append depth (attributes_parts attributes ++ rest) []
    ∙ earlier_none (deep_parts depth (attributes_parts attributes ++ rest))
    ∙ parts_append depth (attributes_parts attributes) rest
    ∙ ap (earlier a) (sym (earlier_none (deep_parts depth (rest ++ [])) ∙ parts_append depth rest [] ∙ earlier_none (deep_parts depth rest)))

nature_sorted : (e : Expanded) (depth : ℕ) (attributes : List AttributeGroup) (at : ℕ) (t : Tree) (next : ℕ) → IsTreeOf va_rules 8 t next → Sorted e depth attributes at t
unfolding row_symbols
nature_sorted e depth attributes at t next h =
    by_rows (Sorted e depth attributes at) 8 (15 ∷ []) t next refl h
    (λ ts d. behind_attributes depth attributes (flat_map item_value_parts (nature_items e (at + 2 + width (first_tree ts) + width (first_tree (later_trees ts))) (first_tree (later_trees (later_trees ts))))), tt)

discipline_sorted : (e : Expanded) (depth : ℕ) (attributes : List AttributeGroup) (at : ℕ) (t : Tree) (next : ℕ) → IsTreeOf va_rules 12 t next → Sorted e depth attributes at t
unfolding row_symbols
discipline_sorted e depth attributes at t next h =
    by_rows (Sorted e depth attributes at) 12 (22 ∷ []) t next refl h
    (λ ts d. behind_attributes depth attributes (flat_map discipline_item_parts (discipline_items e (at + 2 + width (first_tree ts)) (first_tree (later_trees ts)))), tt)

module_sorted : (e : Expanded) (depth : ℕ) (attributes : List AttributeGroup) (at : ℕ) (t : Tree) (next : ℕ) → IsTreeOf va_rules 16 t next → Sorted e depth attributes at t
unfolding row_symbols
module_sorted e depth attributes at t next h =
    by_rows (Sorted e depth attributes at) 16 (30 ∷ []) t next refl h (
      λ ts d.
          let rest : List Part = flat_map item_parts (items e (at + 2 + width (first_tree ts) + 1) (first_tree (later_trees ts))) in
          sym (earlier_none (deep_parts depth ((attributes_parts attributes ++ rest) ++ []))) ∙ behind_attributes depth attributes rest ∙ ap (earlier (deep_parts depth (attributes_parts attributes))) (earlier_none (deep_parts depth (rest ++ []))),
      tt,
    )

-- a declaration behind attributes
body_sorted : (e : Expanded) (depth at : ℕ) (attributes body : Tree) (next : ℕ) → IsTreeOf va_rules 2 body next →
    let t : Tree = node 2 (subtree attributes (subtree body no_parts)) in
    deep_top depth (of_sort nature e at t) (of_sort discipline_of e at t) (of_sort module_of e at t)
    ≡ earlier (deep_parts depth (attributes_parts (attribute_groups e at attributes))) (deep_top depth (bare_declaration nature e (at + width attributes) body) (bare_declaration discipline_of e (at + width attributes) body) (bare_declaration module_of e (at + width attributes) body))
unfolding row_symbols
body_sorted e depth at attributes body next h =
    by_rows (λ u. let t : Tree = node 2 (subtree attributes (subtree u no_parts)) in
    deep_top depth (of_sort nature e at t) (of_sort discipline_of e at t) (of_sort module_of e at t)
    ≡ earlier (deep_parts depth (attributes_parts (attribute_groups e at attributes))) (deep_top depth (bare_declaration nature e (at + width attributes) u) (bare_declaration discipline_of e (at + width attributes) u) (bare_declaration module_of e (at + width attributes) u)))
    2 (3 ∷ 4 ∷ 5 ∷ []) body next refl h (
      λ ts d. nature_sorted e depth (attribute_groups e at attributes) (at + width attributes) (first_tree ts) d.0.0 d.0.1,
      (
        λ ts d. discipline_sorted e depth (attribute_groups e at attributes) (at + width attributes) (first_tree ts) d.0.0 d.0.1,
        (
          λ ts d. module_sorted e depth (attribute_groups e at attributes) (at + width attributes) (first_tree ts) d.0.0 d.0.1,
          tt,
        ),
      ),
    )

-- the declarations of two lists
top_append : (depth : ℕ) (ns ns' : List Nature) (ds ds' : List Discipline) (ms ms' : List Module) → deep_top depth (ns ++ ns') (ds ++ ds') (ms ++ ms') ≡ earlier (deep_top depth ns ds ms) (deep_top depth ns' ds' ms')
top_append depth ns ns' ds ds' ms ms' =
    let n : Option ℕ = deep_parts depth (flat_map nature_parts ns) in
    let n' : Option ℕ = deep_parts depth (flat_map nature_parts ns') in
    let d : Option ℕ = deep_parts depth (flat_map discipline_parts ds) in
    let d' : Option ℕ = deep_parts depth (flat_map discipline_parts ds') in
    let m : Option ℕ = deep_parts depth (flat_map module_parts ms) in
    let m' : Option ℕ = deep_parts depth (flat_map module_parts ms') in
    (λ j. earlier (parts_of_each depth nature_parts ns ns' j) (earlier (parts_of_each depth discipline_parts ds ds' j) (parts_of_each depth module_parts ms ms' j)))
    ∙ ap (earlier (earlier n n')) (earlier_swap d d' m m')
    ∙ earlier_swap n n' (earlier d m) (earlier d' m')

pub row_0 : RowHolds 0 0
unfolding row_symbols deep_in
row_0 e depth at ts h =
    let first : Tree = first_tree ts in
    let second : Tree = first_tree (later_trees ts) in
    ends_two _ (deep_top depth (of_sort nature e at first) (of_sort discipline_of e at first) (of_sort module_of e at first)) (deep_top depth (all_of_sort nature e (at + width first) second) (all_of_sort discipline_of e (at + width first) second) (all_of_sort module_of e (at + width first) second)) (top_append depth (of_sort nature e at first) (all_of_sort nature e (at + width first) second) (of_sort discipline_of e at first) (all_of_sort discipline_of e (at + width first) second) (of_sort module_of e at first) (all_of_sort module_of e (at + width first) second))

pub row_2 : RowHolds 1 2
unfolding row_symbols deep_in
row_2 e depth at ts h =
    let first : Tree = first_tree ts in
    let second : Tree = first_tree (later_trees ts) in
    ends_two _ (deep_parts depth (attributes_parts (attribute_groups e at first))) (deep_top depth (bare_declaration nature e (at + width first) second) (bare_declaration discipline_of e (at + width first) second) (bare_declaration module_of e (at + width first) second)) (body_sorted e depth at first second h.1.0.0 h.1.0.1)

pub row_3 : RowHolds 2 3
unfolding row_symbols deep_in
row_3 e depth at ts h =
    let first : Tree = first_tree ts in
    by_rows (λ u. deep_top depth (nature e [] at u) (discipline_of e [] at u) (module_of e [] at u) ≡ earlier (deep_parts depth (flat_map nature_parts (nature e [] at u))) None) 8 (15 ∷ []) first h.0.0 refl h.0.1 (λ us d. refl, tt)

pub row_4 : RowHolds 2 4
unfolding row_symbols deep_in
row_4 e depth at ts h =
    let first : Tree = first_tree ts in
    by_rows (λ u. deep_top depth (nature e [] at u) (discipline_of e [] at u) (module_of e [] at u) ≡ earlier (deep_parts depth (flat_map discipline_parts (discipline_of e [] at u))) None) 12 (22 ∷ []) first h.0.0 refl h.0.1 (λ us d. refl, tt)

pub row_5 : RowHolds 2 5
unfolding row_symbols deep_in
row_5 e depth at ts h =
    let first : Tree = first_tree ts in
    by_rows (λ u. deep_top depth (nature e [] at u) (discipline_of e [] at u) (module_of e [] at u) ≡ earlier (deep_parts depth (flat_map module_parts (module_of e [] at u))) None) 16 (30 ∷ []) first h.0.0 refl h.0.1 (λ us d. sym (earlier_none (deep_parts depth (flat_map item_parts (items e (at + 2 + width (first_tree us) + 1) (first_tree (later_trees us))) ++ []))), tt)

pub row_6 : RowHolds 3 6
unfolding row_symbols deep_in
row_6 e depth at ts h =
    let first : Tree = first_tree ts in
    let second : Tree = first_tree (later_trees ts) in
    let third : Tree = first_tree (later_trees (later_trees ts)) in
    ends_three _ (deep_parts depth (flat_map attribute_value_parts (attribute e (at + 1) first))) (deep_parts depth (flat_map attribute_value_parts (more_attributes e (at + 1 + width first) second))) (deep_parts depth (attributes_parts (attribute_groups e (at + 1 + width first + width second + 1) third)))
    (parts_append depth (flat_map attribute_value_parts ((attribute e (at + 1) first) ++ (more_attributes e (at + 1 + width first) second))) (attributes_parts (attribute_groups e (at + 1 + width first + width second + 1) third)) ∙ ap (λ (o : Option ℕ). earlier o (deep_parts depth (attributes_parts (attribute_groups e (at + 1 + width first + width second + 1) third)))) (parts_of_each depth attribute_value_parts (attribute e (at + 1) first) (more_attributes e (at + 1 + width first) second)) ∙ earlier_assoc (deep_parts depth (flat_map attribute_value_parts (attribute e (at + 1) first))) (deep_parts depth (flat_map attribute_value_parts (more_attributes e (at + 1 + width first) second))) (deep_parts depth (attributes_parts (attribute_groups e (at + 1 + width first + width second + 1) third))))

pub row_8 : RowHolds 4 8
unfolding row_symbols deep_in
row_8 e depth at ts h =
    let first : Tree = first_tree ts in
    let second : Tree = first_tree (later_trees ts) in
    ends_two _ (deep_parts depth (flat_map attribute_value_parts (attribute e (at + 1) first))) (deep_parts depth (flat_map attribute_value_parts (more_attributes e (at + 1 + width first) second))) (parts_of_each depth attribute_value_parts (attribute e (at + 1) first) (more_attributes e (at + 1 + width first) second))

pub row_10 : RowHolds 5 10
unfolding row_symbols deep_in
row_10 e depth at ts h =
    let first : Tree = first_tree ts in
    parts_append depth (attribute_parts (attribute_value e (at + 1) first)) []

pub row_11 : RowHolds 6 11
unfolding row_symbols deep_in
row_11 e depth at ts h =
    let first : Tree = first_tree ts in
    ends_one _ (deep_argument depth (argument e (at + 1) first)) (parts_of_argument depth (argument e (at + 1) first))

pub row_14 : RowHolds 7 14
unfolding row_symbols deep_in
row_14 e depth at ts h =
    let first : Tree = first_tree ts in
    ends_one _ (deep_expression depth (expression e at first)) refl

pub row_15 : RowHolds 8 15
unfolding row_symbols deep_in
row_15 e depth at ts h =
    let first : Tree = first_tree ts in
    let second : Tree = first_tree (later_trees ts) in
    let third : Tree = first_tree (later_trees (later_trees ts)) in
    let two : at + 2 ≡ at + 1 + 1 = omega arith in
    parts_append depth (flat_map item_value_parts (nature_items e (at + 2 + width first + width second) third)) [] ∙ (λ j. earlier (deep_parts depth (flat_map item_value_parts (nature_items e (two j + width first + width second) third))) None)

pub row_20 : RowHolds 11 20
unfolding row_symbols deep_in
row_20 e depth at ts h =
    let first : Tree = first_tree ts in
    let second : Tree = first_tree (later_trees ts) in
    let two : at + 2 ≡ at + 1 + 1 = omega arith in
    ends_two _ (deep_argument depth (argument e (at + 1 + 1) first)) (deep_parts depth (flat_map item_value_parts (nature_items e (at + 1 + 1 + width first + 1) second)))
    (parts_append depth (argument_parts (argument e (at + 2) first)) (flat_map item_value_parts (nature_items e (at + 2 + width first + 1) second)) ∙ (λ j. earlier (parts_of_argument depth (argument e (two j) first) j) (deep_parts depth (flat_map item_value_parts (nature_items e (two j + width first + 1) second)))))

pub row_22 : RowHolds 12 22
unfolding row_symbols deep_in
row_22 e depth at ts h =
    let first : Tree = first_tree ts in
    let second : Tree = first_tree (later_trees ts) in
    let two : at + 2 ≡ at + 1 + 1 = omega arith in
    parts_append depth (flat_map discipline_item_parts (discipline_items e (at + 2 + width first) second)) [] ∙ (λ j. earlier (deep_parts depth (flat_map discipline_item_parts (discipline_items e (two j + width first) second))) None)

pub row_23 : RowHolds 13 23
unfolding row_symbols deep_in
row_23 e depth at ts h =
    let first : Tree = first_tree ts in
    let second : Tree = first_tree (later_trees ts) in
    ends_two _ (deep_parts depth (discipline_item_parts (discipline_item e at first))) (deep_parts depth (flat_map discipline_item_parts (discipline_items e (at + width first) second))) (parts_append depth (discipline_item_parts (discipline_item e at first)) (flat_map discipline_item_parts (discipline_items e (at + width first) second)))

pub row_25 : RowHolds 14 25
unfolding row_symbols deep_in
row_25 e depth at ts h =
    let first : Tree = first_tree ts in
    ends_one _ (deep_parts depth (discipline_item_parts (binding e (at + 1) Potential (at + 1) first))) (ap (deep_parts depth) (binding_parts e at (at + 1) Potential Potential (at + 1) first))

pub row_26 : RowHolds 14 26
unfolding row_symbols deep_in
row_26 e depth at ts h =
    let first : Tree = first_tree ts in
    ends_one _ (deep_parts depth (discipline_item_parts (binding e (at + 1) Potential (at + 1) first))) (ap (deep_parts depth) (binding_parts e at (at + 1) Flow Potential (at + 1) first))

pub row_29 : RowHolds 15 29
unfolding row_symbols deep_in
row_29 e depth at ts h =
    let first : Tree = first_tree ts in
    let three : at + 3 ≡ at + 1 + 1 + 1 = omega arith in
    ends_one _ (deep_argument depth (argument e (at + 1 + 1 + 1) first)) (parts_of_argument depth (argument e (at + 3) first) ∙ (λ j. deep_argument depth (argument e (three j) first)))

pub row_30 : RowHolds 16 30
unfolding row_symbols deep_in
row_30 e depth at ts h =
    let first : Tree = first_tree ts in
    let second : Tree = first_tree (later_trees ts) in
    let two : at + 2 ≡ at + 1 + 1 = omega arith in
    parts_append depth (flat_map item_parts (items e (at + 2 + width first + 1) second)) [] ∙ (λ j. earlier (deep_parts depth (flat_map item_parts (items e (two j + width first + 1) second))) None)

pub row_37 : RowHolds 20 37
unfolding row_symbols deep_in
row_37 e depth at ts h =
    let first : Tree = first_tree ts in
    let second : Tree = first_tree (later_trees ts) in
    ends_two _ (deep_parts depth (flat_map item_parts (item e at first))) (deep_parts depth (flat_map item_parts (items e (at + width first) second))) (parts_of_each depth item_parts (item e at first) (items e (at + width first) second))

pub row_39 : RowHolds 21 39
unfolding row_symbols deep_in
row_39 e depth at ts h =
    let first : Tree = first_tree ts in
    let second : Tree = first_tree (later_trees ts) in
    let body : (b : ItemBody) × (item_body e (at + width first) second ≡ b ∷ []) = body_there e (at + width first) second h.1.0.0 h.1.0.1 in
    ends_two _ (deep_parts depth (attributes_parts (attribute_groups e at first))) (deep_parts depth (flat_map body_parts (item_body e (at + width first) second))) (item_deep depth (attribute_groups e at first) (item_body e (at + width first) second) body.0 body.1)

pub row_40 : RowHolds 22 40
unfolding row_symbols deep_in
row_40 e depth at ts h =
    let first : Tree = first_tree ts in
    let second : Tree = first_tree (later_trees ts) in
    λ j. deep_parts depth (directed_parts e at (direction first) (named e (at + width first)) (at + width first + 1) second j ++ [])

pub row_43 : RowHolds 22 43
unfolding row_symbols deep_in
row_43 e depth at ts h =
    let first : Tree = first_tree ts in
    let second : Tree = first_tree (later_trees ts) in
    parts_append depth (flat_map parameter_parts (parameters e (at + 1 + width first) second)) []

pub row_44 : RowHolds 22 44
unfolding row_symbols deep_in
row_44 e depth at ts h =
    let first : Tree = first_tree ts in
    let second : Tree = first_tree (later_trees ts) in
    parts_append depth (flat_map parameter_parts (parameters e (at + 1 + width first) second)) []

pub row_46 : RowHolds 22 46
unfolding row_symbols deep_in
row_46 e depth at ts h =
    let first : Tree = first_tree ts in
    parts_append depth (map expression_part (initialisers (variables e (at + 1) first))) [] ∙ ap (λ (o : Option ℕ). earlier o None) (parts_of_values depth (initialisers (variables e (at + 1) first)))

pub row_47 : RowHolds 22 47
unfolding row_symbols deep_in
row_47 e depth at ts h =
    let first : Tree = first_tree ts in
    parts_append depth (map expression_part (initialisers (variables e (at + 1) first))) [] ∙ ap (λ (o : Option ℕ). earlier o None) (parts_of_values depth (initialisers (variables e (at + 1) first)))

pub row_48 : RowHolds 22 48
unfolding row_symbols deep_in
row_48 e depth at ts h =
    let first : Tree = first_tree ts in
    parts_append depth (body_parts (analog e at (at + 1) first)) [] ∙ (λ j. earlier (deep_parts depth (analog_parts e at (at + 1) (at + 1) first j)) None)

pub row_59 : RowHolds 27 59
unfolding row_symbols deep_in
row_59 e depth at ts h =
    let first : Tree = first_tree ts in
    let second : Tree = first_tree (later_trees ts) in
    ends_two _ (deep_parts depth (flat_map parameter_parts (parameter e at first))) (deep_parts depth (flat_map parameter_parts (more_parameters e (at + width first) second))) (parts_of_each depth parameter_parts (parameter e at first) (more_parameters e (at + width first) second))

pub row_60 : RowHolds 28 60
unfolding row_symbols deep_in
row_60 e depth at ts h =
    let first : Tree = first_tree ts in
    let second : Tree = first_tree (later_trees ts) in
    ends_two _ (deep_parts depth (flat_map parameter_parts (parameter e (at + 1) first))) (deep_parts depth (flat_map parameter_parts (more_parameters e (at + 1 + width first) second))) (parts_of_each depth parameter_parts (parameter e (at + 1) first) (more_parameters e (at + 1 + width first) second))

pub row_62 : RowHolds 29 62
unfolding row_symbols deep_in
row_62 e depth at ts h =
    let first : Tree = first_tree ts in
    let second : Tree = first_tree (later_trees ts) in
    let two : at + 2 ≡ at + 1 + 1 = omega arith in
    parts_append depth (expression_part (expression_of (expression e (at + 2) first)) ∷ (flat_map range_parts (ranges e (at + 2 + width first) second))) []
    ∙ ap (λ (o : Option ℕ). earlier o None) (part_then depth (expression_part (expression_of (expression e (at + 2) first))) (flat_map range_parts (ranges e (at + 2 + width first) second)))
    ∙ earlier_assoc (deep_expression depth (expression e (at + 2) first)) (deep_parts depth (flat_map range_parts (ranges e (at + 2 + width first) second))) None
    ∙ (λ j. earlier (deep_expression depth (expression e (two j) first)) (earlier (deep_parts depth (flat_map range_parts (ranges e (two j + width first) second))) None))

pub row_63 : RowHolds 30 63
unfolding row_symbols deep_in
row_63 e depth at ts h =
    let first : Tree = first_tree ts in
    let second : Tree = first_tree (later_trees ts) in
    ends_two _ (deep_parts depth (flat_map range_parts (interval e (at + 1) first))) (deep_parts depth (flat_map range_parts (ranges e (at + 1 + width first) second))) (parts_of_each depth range_parts (interval e (at + 1) first) (ranges e (at + 1 + width first) second))

pub row_64 : RowHolds 30 64
unfolding row_symbols deep_in
row_64 e depth at ts h =
    let first : Tree = first_tree ts in
    let second : Tree = first_tree (later_trees ts) in
    ends_two _ (deep_parts depth (flat_map range_parts (exclusion e (at + 1) first))) (deep_parts depth (flat_map range_parts (ranges e (at + 1 + width first) second))) (parts_of_each depth range_parts (exclusion e (at + 1) first) (ranges e (at + 1 + width first) second))

pub row_66 : RowHolds 31 66
unfolding row_symbols deep_in
row_66 e depth at ts h =
    let first : Tree = first_tree ts in
    let second : Tree = first_tree (later_trees ts) in
    let third : Tree = first_tree (later_trees (later_trees ts)) in
    bounds_deep depth (expression e (at + width first) second) (expression e (at + width first + width second + 1) third)

pub row_71 : RowHolds 34 71
unfolding row_symbols deep_in
row_71 e depth at ts h =
    let first : Tree = first_tree ts in
    let second : Tree = first_tree (later_trees ts) in
    bounds_deep depth (expression e (at + 1) first) (expression e (at + 1 + width first + 1) second)

pub row_72 : RowHolds 34 72
unfolding row_symbols deep_in
row_72 e depth at ts h =
    let first : Tree = first_tree ts in
    let second : Tree = first_tree (later_trees ts) in
    ends_two _ (deep_expression depth (expression e (at + 1) first)) (deep_upper e depth (at + 1 + width first) second) (exclusion_deep e depth (expression e (at + 1) first) (at + 1 + width first) second)

pub row_73 : RowHolds 34 73
unfolding row_symbols deep_in
row_73 e depth at ts h =
    let first : Tree = first_tree ts in
    part_then depth (expression_part (expression_of (expression e at first))) []

pub row_74 : RowHolds 35 74
unfolding row_symbols deep_in
row_74 e depth at ts h =
    let first : Tree = first_tree ts in
    ends_one _ (deep_expression depth (expression e (at + 1) first)) refl

pub row_82 : RowHolds 40 82
unfolding row_symbols deep_in
row_82 e depth at ts h =
    let first : Tree = first_tree ts in
    let second : Tree = first_tree (later_trees ts) in
    let third : Tree = first_tree (later_trees (later_trees ts)) in
    let place : at + 1 + width first + 2 ≡ at + 1 + width first + 1 + 1 = omega arith in
    part_then depth (statement_part (statement_of (statement e (at + 1 + width first + 2 + width second) third))) [] ∙ (λ j. earlier (deep_statement depth (statement e (place j + width second) third)) None)

pub row_83 : RowHolds 40 83
unfolding row_symbols deep_in
row_83 e depth at ts h =
    let first : Tree = first_tree ts in
    part_then depth (statement_part (statement_of (statement e at first))) []
