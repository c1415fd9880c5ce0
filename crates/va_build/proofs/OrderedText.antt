-- The tokens of the names of a text ascend: of its natures, its disciplines and its modules, in the order of the text.
use Rattle.std.specs.Prelude.{◌≡◌, ◌≤◌, ◌+◌, ◌++◌, ℕ, List, [], ◌∷◌, map, flat_map, length, option_to_list}
use Rattle.std.proofs.Common.{refl, ap, sym, ◌∙◌, subst, arith, length-append}
use Rattle.std.proofs.lemmas.List.{length-map}
use Rattle.predict.specs.Tree.{Tree, Parts, node, no_parts, token, subtree, spelling, spelling_of}
use Rattle.va_base.specs.declared.expanded.Expanded.{Expanded}
use Rattle.va_grammar.specs.Kinds.{kinds_of, kind_in}
use Rattle.va_grammar.specs.Sets.{va_rules}
use Rattle.va_tree.specs.declared.module.Module.{Module}
use Rattle.va_tree.specs.declared.source.AttributeGroup.{AttributeGroup}
use Rattle.va_tree.specs.declared.source.Discipline.{Discipline}
use Rattle.va_tree.specs.declared.source.Nature.{Nature}
use Rattle.va_tree.specs.declared.source.Quantity.{Quantity}
use Rattle.va_tree.specs.declared.source.Source.{Source}
use Rattle.va_tree.specs.declared.source.NatureItem.{NatureItem}
use Rattle.va_tree.specs.OrderedNames.{HasNamesInOrder, ordered_in_item, nature_passage, discipline_passage, module_passage, ordered_in_source}
use Rattle.va_tree.specs.OwnTokens.{tokens_of, names_in_value, names_in_attributes, names_in_discipline_item}
use Rattle.va_tree.proofs.Ascending.{Span, none, headed, reach, since, upto, join, spanned, each_join, Passages, no_passages, passages_reach, first_passage, second_passage, middle_passage}
use Rattle.va_build.specs.Reading.{row_symbols, first_tree, later_trees}
use Rattle.va_build.specs.SourceItems.{attribute_groups}
use Rattle.va_build.specs.SourceOf.{parent, nature_items, nature, binding, discipline_item, discipline_items, discipline_of, port_list, ports, item, items, module_of, body_of_sort, of_sort, all_of_sort, source_of, IsSourceOf}
use Rattle.va_build.specs.Width.{width, width_of}
use Rattle.va_build.proofs.SizeDerived.{by_rows}
use Rattle.va_build.proofs.TreesBelow.{IsOf, is_of, below, by_row, exactly}
use Rattle.va_build.proofs.OrderedExpressions.{alone, argument_span}
use Rattle.va_build.proofs.OrderedItems.{groups_span, more_names_span, item_body_span}

parent_span : (e : Expanded) (at : ℕ) (t : Tree) → Span at (tokens_of (option_to_list (parent e at t))) (at + width t)
parent_span e at (node row (token colon (token name no_parts))) = headed (omega arith) (none (omega arith))
parent_span e at others = none (omega arith)

nature_items_span : (e : Expanded) (at : ℕ) (t : Tree) → IsOf 11 t → Span at (flat_map (λ (i : NatureItem). i.at ∷ names_in_value i.value) (nature_items e at t)) (at + width t)
nature_items_span e at (node row (token name (token equals (subtree value (token semicolon (subtree rest no_parts)))))) h =
    let k = below 11 (7 ∷ 11 ∷ []) h refl in
    headed (omega arith)
    (join (since (argument_span e (at + 2) value k.0) (omega arith)) (upto (nature_items_span e (at + 2 + width value + 1) rest k.1.0) (omega arith)) (omega arith))
nature_items_span e at others h = none (omega arith)

binding_span : (e : Expanded) (start : ℕ) (which : Quantity) (at : ℕ) (t : Tree) → IsOf 15 t → Span at (names_in_discipline_item (binding e start which at t)) (at + width t)
unfolding row_symbols
binding_span e start which at t h =
    let d = exactly 15 h refl in
    by_rows (λ (u : Tree). Span at (names_in_discipline_item (binding e start which at u)) (at + width u)) 15 (28 ∷ 29 ∷ []) t d.0 refl d.1
    (λ ts f. alone (omega arith), (λ ts f. headed (omega arith) (reach (argument_span e (at + 3) (first_tree ts) (is_of 7 f.0)) (omega arith) (omega arith)), tt))

discipline_item_span : (e : Expanded) (at : ℕ) (t : Tree) → IsOf 14 t → Span at (names_in_discipline_item (discipline_item e at t)) (at + width t)
unfolding row_symbols
discipline_item_span e at t h =
    let d = exactly 14 h refl in
    by_rows (λ (u : Tree). Span at (names_in_discipline_item (discipline_item e at u)) (at + width u)) 14 (25 ∷ 26 ∷ 27 ∷ []) t d.0 refl d.1 (
      λ ts f. reach (binding_span e at _ (at + 1) (first_tree ts) (is_of 15 f.0)) (omega arith) (omega arith),
      (λ ts f. reach (binding_span e at _ (at + 1) (first_tree ts) (is_of 15 f.0)) (omega arith) (omega arith), (λ ts f. headed (omega arith) (none (omega arith)), tt)),
    )

discipline_items_span : (e : Expanded) (at : ℕ) (t : Tree) → IsOf 13 t → Span at (flat_map names_in_discipline_item (discipline_items e at t)) (at + width t)
discipline_items_span e at (node row (subtree first (subtree rest no_parts))) h =
    let k = below 13 (14 ∷ 13 ∷ []) h refl in
    join (discipline_item_span e at first k.0) (upto (discipline_items_span e (at + width first) rest k.1.0) (omega arith)) (omega arith)
discipline_items_span e at others h = none (omega arith)

port_list_span : (e : Expanded) (at : ℕ) (t : Tree) → Span at (tokens_of (port_list e at t)) (at + width t)
port_list_span e at (node row (token name (subtree more no_parts))) = headed (omega arith) (reach (more_names_span e (at + 1) more) (omega arith) (omega arith))
port_list_span e at others = none (omega arith)

ports_span : (e : Expanded) (at : ℕ) (t : Tree) → Span at (tokens_of (ports e at t)) (at + width t)
ports_span e at (node row (token left (subtree list (token close no_parts)))) = reach (port_list_span e (at + 1) list) (omega arith) (omega arith)
ports_span e at others = none (omega arith)

item_span : (e : Expanded) (at : ℕ) (t : Tree) → IsOf 21 t → Span at (flat_map ordered_in_item (item e at t)) (at + width t)
item_span e at (node row (subtree attributes (subtree body no_parts))) h =
    let k = below 21 (3 ∷ 22 ∷ []) h refl in
    upto (item_body_span e (attribute_groups e at attributes) (at + width attributes) body (groups_span e at attributes k.0) k.1.0) (omega arith)
item_span e at others h = none (omega arith)

items_span : (e : Expanded) (at : ℕ) (t : Tree) → IsOf 20 t → Span at (flat_map ordered_in_item (items e at t)) (at + width t)
items_span e at (node row (subtree first (subtree rest no_parts))) h =
    let k = below 20 (21 ∷ 20 ∷ []) h refl in
    upto (each_join ordered_in_item (item e at first) (items e (at + width first) rest) (item_span e at first k.0) (items_span e (at + width first) rest k.1.0) (omega arith)) (omega arith)
items_span e at others h = none (omega arith)

-- natures, disciplines and modules from a token to before another, in the order of the text
abbrev AllPassages : ℕ → List Nature → List Discipline → List Module → ℕ → Type 0
AllPassages a natures disciplines modules b = Passages a (map nature_passage natures ++ map discipline_passage disciplines) (map module_passage modules) b

-- a declaration behind its attributes, before the others
abbrev ComesBefore : Expanded → List AttributeGroup → ℕ → ℕ → ℕ → List Nature → List Discipline → List Module → Tree → Type 0
ComesBefore e groups low at d natures disciplines modules t =
    AllPassages (at + width t) natures disciplines modules d
    → AllPassages low (nature e groups at t ++ natures) (discipline_of e groups at t ++ disciplines) (module_of e groups at t ++ modules) d

module _ (e : Expanded) (groups : List AttributeGroup) (low at d : ℕ) (natures : List Nature) (disciplines : List Discipline) (modules : List Module)
    (s : Span low (names_in_attributes groups) at) where
  before : low ≤ at
  before = spanned s

  nature_before : (t : Tree) → IsOf 8 t → ComesBefore e groups low at d natures disciplines modules t
  unfolding row_symbols
  nature_before t h =
      let k = exactly 8 h refl in
      by_rows (ComesBefore e groups low at d natures disciplines modules) 8 (15 ∷ []) t k.0 refl k.1 (
        λ ts f p.
            (let base : Tree = first_tree ts in
            let semicolon : Tree = first_tree (later_trees ts) in
            let inner : Tree = first_tree (later_trees (later_trees ts)) in
            first_passage (at + 1) _
            (join (join s (headed {a = at} {n = at + 1} (omega arith) (since (parent_span e (at + 2) base) (omega arith))) (omega arith))
            (nature_items_span e (at + 2 + width base + width semicolon) inner (is_of 11 f.1.1.0)) (omega arith))
            p (omega (arith, before)) (omega arith) (omega arith)),
        tt,
      )

  discipline_before : (t : Tree) → IsOf 12 t → ComesBefore e groups low at d natures disciplines modules t
  unfolding row_symbols
  discipline_before t h =
      let k = exactly 12 h refl in
      by_rows (ComesBefore e groups low at d natures disciplines modules) 12 (22 ∷ []) t k.0 refl k.1 (
        λ ts f p.
            (let semicolon : Tree = first_tree ts in
            let inner : Tree = first_tree (later_trees ts) in
            middle_passage (at + 1) _ (map nature_passage natures) (map discipline_passage disciplines) (map module_passage modules)
            (join s (headed {a = at} {n = at + 1} (omega arith) (since (discipline_items_span e (at + 2 + width semicolon) inner (is_of 13 f.1.0)) (omega arith))) (omega arith))
            p (omega (arith, before)) (omega arith) (omega arith)),
        tt,
      )

  module_before : (t : Tree) → IsOf 16 t → ComesBefore e groups low at d natures disciplines modules t
  unfolding row_symbols
  module_before t h =
      let k = exactly 16 h refl in
      by_rows (ComesBefore e groups low at d natures disciplines modules) 16 (30 ∷ []) t k.0 refl k.1 (
        λ ts f p.
            (let list : Tree = first_tree ts in
            let inner : Tree = first_tree (later_trees ts) in
            second_passage (at + 1) _
            (join (join s (headed {a = at} {n = at + 1} (omega arith) (since (ports_span e (at + 2) list) (omega arith))) (omega arith))
            (items_span e (at + 2 + width list + 1) inner (is_of 20 f.1.0)) (omega arith))
            p (omega (arith, before)) (omega arith) (omega arith)),
        tt,
      )

  -- what stands behind attributes at the top of a text
  body_before : (t : Tree) → IsOf 2 t → AllPassages (at + width t) natures disciplines modules d
      → AllPassages low (body_of_sort nature e groups at t ++ natures) (body_of_sort discipline_of e groups at t ++ disciplines) (body_of_sort module_of e groups at t ++ modules) d
  unfolding row_symbols
  body_before (node row (subtree declaration no_parts)) h p =
      let q : AllPassages (at + width declaration) natures disciplines modules d = passages_reach p (omega arith) (omega arith) in
      by_row 2 (3 ∷ 4 ∷ 5 ∷ [])
      (AllPassages low (nature e groups at declaration ++ natures) (discipline_of e groups at declaration ++ disciplines) (module_of e groups at declaration ++ modules) d) h refl refl
      (λ n f b. nature_before declaration b.0 q, (λ n f b. discipline_before declaration b.0 q, (λ n f b. module_before declaration b.0 q, tt)))
  body_before others h p = passages_reach p (omega (arith, before)) (omega arith)

top_before : {d : ℕ} (e : Expanded) (at : ℕ) (t : Tree) (natures : List Nature) (disciplines : List Discipline) (modules : List Module) → IsOf 1 t
    → AllPassages (at + width t) natures disciplines modules d
    → AllPassages at (of_sort nature e at t ++ natures) (of_sort discipline_of e at t ++ disciplines) (of_sort module_of e at t ++ modules) d
top_before {d} e at (node row (subtree attributes (subtree body no_parts))) natures disciplines modules h p =
    let k = below 1 (3 ∷ 2 ∷ []) h refl in
    body_before e (attribute_groups e at attributes) at (at + width attributes) d natures disciplines modules (groups_span e at attributes k.0) body k.1.0
    (passages_reach p (omega arith) (omega arith))
top_before {d} e at others natures disciplines modules h p = passages_reach p (omega arith) (omega arith)

text_passages : (e : Expanded) (at : ℕ) (t : Tree) → IsOf 0 t → AllPassages at (all_of_sort nature e at t) (all_of_sort discipline_of e at t) (all_of_sort module_of e at t) (at + width t)
text_passages e at (node row (subtree first (subtree rest no_parts))) h =
    let k = below 0 (1 ∷ 0 ∷ []) h refl in
    let p = text_passages e (at + width first) rest k.1.0 in
    passages_reach
    (top_before e at first (all_of_sort nature e (at + width first) rest) (all_of_sort discipline_of e (at + width first) rest) (all_of_sort module_of e (at + width first) rest) k.0 p)
    (omega arith) (omega arith)
text_passages e at others h = no_passages (omega arith)

-- how many tokens a tree spells
mutual
  width_spelled : (t : Tree) → width t ≡ length (spelling t)
  width_spelled (node row parts) = width_of_spelled parts

  width_of_spelled : (parts : Parts) → width_of parts ≡ length (spelling_of parts)
  width_of_spelled no_parts = refl
  width_of_spelled (token k parts) = omega (arith, width_of_spelled parts)
  width_of_spelled (subtree t parts) = omega (arith, width_spelled t, width_of_spelled parts, length-append (spelling t) (spelling_of parts))

-- the names of the source of a text stand at ascending tokens of the text
pub source_in_order : (e : Expanded) (s : Source) → IsSourceOf e s → HasNamesInOrder s (length e.tokens)
unfolding va_rules
source_in_order e s is =
    let t : Tree = is.tree in
    let p = text_passages e 0 t (is_of 0 (va_rules.end_kind, is.sentence.2.derived)) in
    let wide : width t ≡ length is.sentence.0 = width_spelled t ∙ ap length is.sentence.2.spelled in
    let kinds : length (kinds_of e) ≡ length is.sentence.0 + 1 = ap length is.sentence.1 ∙ length-append is.sentence.0 (va_rules.end_kind ∷ []) in
    let tokens : length (kinds_of e) ≡ length e.tokens = length-map e.tokens (kind_in e.files) in
    let all : Span 0 (ordered_in_source (source_of e t)) (length e.tokens) = reach p.span (omega arith) (omega (arith, wide, kinds, tokens)) in
    subst (λ (u : Source). HasNamesInOrder u (length e.tokens)) (sym is.source) all.run
