-- The tokens of the names of an item of a module ascend, within the tokens that its parse tree spells.
use Rattle.std.specs.Prelude.{◌<◌, ◌+◌, ℕ, Bool, true, false, if◌then◌else◌, List, [], ◌∷◌, map, flat_map, option_to_list}
use Rattle.std.proofs.Common.{refl, sym, subst, arith}
use Rattle.predict.specs.Tree.{Tree, node, no_parts, token, subtree}
use Rattle.va_base.specs.declared.expanded.Expanded.{Expanded}
use Rattle.va_grammar.specs.declared.terminal.Terminal.TheVariants as kind
use Rattle.va_tree.specs.declared.expr.Expr.{Expr}
use Rattle.va_tree.specs.declared.module.Direction.{Direction}
use Rattle.va_tree.specs.declared.module.FunctionItem.TheVariants as function
use Rattle.va_tree.specs.declared.name.NameAt.{NameAt}
use Rattle.va_tree.specs.declared.source.AttributeGroup.{AttributeGroup}
use Rattle.va_tree.specs.OrderedNames.{ordered_in_body, ordered_in_item}
use Rattle.va_tree.specs.OwnTokens.{tokens_of, names_in_value, names_in_attribute, names_in_attributes, names_in_range, names_in_parameter, names_in_function_item}
use Rattle.va_tree.proofs.Ascending.{Span, none, headed, reach, since, upto, join, spanned, each_join, one}
use Rattle.va_build.specs.Reading.{row_symbols, first_tree, later_trees}
use Rattle.va_build.specs.SourceExpressions.{expression}
use Rattle.va_build.specs.SourceStatements.{type_of}
use Rattle.va_build.specs.SourceItems.{attribute_value, attribute, more_attributes, attribute_groups, more_names, interval, exclusion_rest, exclusion, range_of, ranges, parameter, more_parameters, parameters, directed, direction, function_item, function_items, analog, item_body}
use Rattle.va_build.specs.SourceOf.{with_attributes}
use Rattle.va_build.specs.TokensAt.{is_kind, named}
use Rattle.va_build.specs.Width.{width}
use Rattle.va_build.proofs.SizeDerived.{by_rows}
use Rattle.va_build.proofs.TreesBelow.{IsOf, is_of, below, by_row, exactly}
use Rattle.va_build.proofs.OrderedExpressions.{value_names, argument_span, expression_span}
use Rattle.va_build.proofs.OrderedStatements.{second_node_span, variables_span, statement_span}

attribute_value_span : (e : Expanded) (at : ℕ) (t : Tree) → IsOf 6 t → Span at (flat_map names_in_value (option_to_list (attribute_value e at t))) (at + width t)
attribute_value_span e at (node row (token equals (subtree value no_parts))) h =
    let k = below 6 (7 ∷ []) h refl in
    one (reach (argument_span e (at + 1) value k.0) (omega arith) (omega arith))
attribute_value_span e at others h = none (omega arith)

attribute_span : (e : Expanded) (at : ℕ) (t : Tree) → IsOf 5 t → Span at (flat_map names_in_attribute (attribute e at t)) (at + width t)
attribute_span e at (node row (token name (subtree value no_parts))) h =
    let k = below 5 (6 ∷ []) h refl in
    headed (omega arith) (one (reach (attribute_value_span e (at + 1) value k.0) (omega arith) (omega arith)))
attribute_span e at others h = none (omega arith)

more_attributes_span : (e : Expanded) (at : ℕ) (t : Tree) → IsOf 4 t → Span at (flat_map names_in_attribute (more_attributes e at t)) (at + width t)
more_attributes_span e at (node row (token comma (subtree next (subtree more no_parts)))) h =
    let k = below 4 (5 ∷ 4 ∷ []) h refl in
    reach
    (each_join names_in_attribute (attribute e (at + 1) next) (more_attributes e (at + 1 + width next) more) (attribute_span e (at + 1) next k.0)
    (more_attributes_span e (at + 1 + width next) more k.1.0) (omega arith))
    (omega arith) (omega arith)
more_attributes_span e at others h = none (omega arith)

pub groups_span : (e : Expanded) (at : ℕ) (t : Tree) → IsOf 3 t → Span at (names_in_attributes (attribute_groups e at t)) (at + width t)
groups_span e at (node row (token left (subtree first (subtree more (token close (subtree rest no_parts)))))) h =
    let k = below 3 (5 ∷ 4 ∷ 3 ∷ []) h refl in
    reach
    (join
    (each_join names_in_attribute (attribute e (at + 1) first) (more_attributes e (at + 1 + width first) more) (attribute_span e (at + 1) first k.0)
    (more_attributes_span e (at + 1 + width first) more k.1.0) (omega arith))
    (groups_span e (at + 1 + width first + width more + 1) rest k.1.1.0) (omega arith))
    (omega arith) (omega arith)
groups_span e at others h = none (omega arith)

pub more_names_span : (e : Expanded) (at : ℕ) (t : Tree) → Span at (tokens_of (more_names e at t)) (at + width t)
more_names_span e at (node row (token comma (token name (subtree more no_parts)))) = headed (omega arith) (reach (more_names_span e (at + 2) more) (omega arith) (omega arith))
more_names_span e at others = none (omega arith)

interval_span : (e : Expanded) (at : ℕ) (t : Tree) → IsOf 31 t → Span at (flat_map names_in_range (interval e at t)) (at + width t)
interval_span e at (node row (subtree lower (subtree low (token colon (subtree high (subtree upper no_parts)))))) h =
    let k = below 31 (32 ∷ 60 ∷ 60 ∷ 33 ∷ []) h refl in
    one
    (reach (join (expression_span e (at + width lower) low k.1.0) (expression_span e (at + width lower + width low + 1) high k.1.1.0) (omega arith)) (omega arith) (omega arith))
interval_span e at others h = none (omega arith)

-- the lower bound's tokens begin at `first`
exclusion_rest_span : (e : Expanded) (first : ℕ) (low : Expr) (at : ℕ) (t : Tree) → Span first (value_names low) at → IsOf 35 t
    → Span first (flat_map names_in_range (exclusion_rest e low at t)) (at + width t)
exclusion_rest_span e first low at (node row (token colon (subtree high (subtree upper no_parts)))) s h =
    let k = below 35 (60 ∷ 33 ∷ []) h refl in
    one (reach (join s (expression_span e (at + 1) high k.0) (omega arith)) (omega arith) (omega arith))
exclusion_rest_span e first low at others s h = one (reach s (omega arith) (omega arith))

exclusion_span : (e : Expanded) (at : ℕ) (t : Tree) → IsOf 34 t → Span at (flat_map names_in_range (exclusion e at t)) (at + width t)
exclusion_span e at (node row (token left (subtree low (token colon (subtree high (subtree upper no_parts)))))) h =
    let k = below 34 (60 ∷ 60 ∷ 33 ∷ []) h refl in
    one (reach (join (expression_span e (at + 1) low k.0) (expression_span e (at + 1 + width low + 1) high k.1.0) (omega arith)) (omega arith) (omega arith))
exclusion_span e at (node row (token left (subtree low (subtree rest no_parts)))) h =
    let k = below 34 (60 ∷ 35 ∷ []) h refl in
    reach (exclusion_rest_span e (at + 1) (expression e (at + 1) low) (at + 1 + width low) rest (expression_span e (at + 1) low k.0) k.1.0) (omega arith) (omega arith)
exclusion_span e at (node row (subtree value no_parts)) h =
    let k = below 34 (60 ∷ []) h refl in
    one (reach (expression_span e at value k.0) (omega arith) (omega arith))
exclusion_span e at others h = none (omega arith)

-- a range, where its row tells what stands behind its first token
range_span : {row k : ℕ} {rest : Tree} (e : Expanded) (at : ℕ) (inner : Tree) → IsOf 30 (node row (token k (subtree inner (subtree rest no_parts))))
    → Span at (flat_map names_in_range (range_of e k at inner)) (at + width inner)
unfolding row_symbols
range_span {row} {k} {rest} e at inner h =
    let G : ℕ → Type 0 = λ i. Span at (flat_map names_in_range (range_of e i at inner)) (at + width inner) in
    by_row 30 (63 ∷ 64 ∷ 65 ∷ []) (G k) h refl refl
    (λ n d b. subst G (sym d.0) (interval_span e at inner b.0), (λ n d b. subst G (sym d.0) (exclusion_span e at inner b.0), (λ n d b. absurd d, tt)))

rest_of : {row k : ℕ} {inner rest : Tree} → IsOf 30 (node row (token k (subtree inner (subtree rest no_parts)))) → IsOf 30 rest
unfolding row_symbols
rest_of {row} {k} {inner} {rest} h =
    by_row 30 (63 ∷ 64 ∷ 65 ∷ []) (IsOf 30 rest) h refl refl (λ n d b. b.1.0, (λ n d b. b.1.0, (λ n d b. absurd d, tt)))

ranges_span : (e : Expanded) (at : ℕ) (t : Tree) → IsOf 30 t → Span at (flat_map names_in_range (ranges e at t)) (at + width t)
ranges_span e at (node row (token k (subtree inner (subtree rest no_parts)))) h =
    reach
    (each_join names_in_range (range_of e k (at + 1) inner) (ranges e (at + 1 + width inner) rest) (range_span e (at + 1) inner h) (ranges_span e (at + 1 + width inner) rest (rest_of h)) (omega arith))
    (omega arith) (omega arith)
ranges_span e at others h = none (omega arith)

parameter_span : (e : Expanded) (at : ℕ) (t : Tree) → IsOf 29 t → Span at (flat_map names_in_parameter (parameter e at t)) (at + width t)
parameter_span e at (node row (token name (token equals (subtree default (subtree rest no_parts))))) h =
    let k = below 29 (60 ∷ 30 ∷ []) h refl in
    headed (omega arith)
    (one (join (since (expression_span e (at + 2) default k.0) (omega arith)) (upto (ranges_span e (at + 2 + width default) rest k.1.0) (omega arith)) (omega arith)))
parameter_span e at others h = none (omega arith)

more_parameters_span : (e : Expanded) (at : ℕ) (t : Tree) → IsOf 28 t → Span at (flat_map names_in_parameter (more_parameters e at t)) (at + width t)
more_parameters_span e at (node row (token comma (subtree next (subtree more no_parts)))) h =
    let k = below 28 (29 ∷ 28 ∷ []) h refl in
    reach
    (each_join names_in_parameter (parameter e (at + 1) next) (more_parameters e (at + 1 + width next) more) (parameter_span e (at + 1) next k.0)
    (more_parameters_span e (at + 1 + width next) more k.1.0) (omega arith))
    (omega arith) (omega arith)
more_parameters_span e at others h = none (omega arith)

parameters_span : (e : Expanded) (at : ℕ) (t : Tree) → IsOf 27 t → Span at (flat_map names_in_parameter (parameters e at t)) (at + width t)
parameters_span e at (node row (subtree first (subtree more no_parts))) h =
    let k = below 27 (29 ∷ 28 ∷ []) h refl in
    reach
    (each_join names_in_parameter (parameter e at first) (more_parameters e (at + width first) more) (parameter_span e at first k.0)
    (more_parameters_span e (at + width first) more k.1.0) (omega arith))
    (omega arith) (omega arith)
parameters_span e at others h = none (omega arith)

-- a name before a direction's tail, at a token before it
directed_span : (e : Expanded) (start : ℕ) (to : Direction) (name : NameAt) (at : ℕ) (t : Tree) → name.at < at → Span name.at (ordered_in_body (directed e start to name at t)) (at + width t)
directed_span e start to name at (node row (token next (subtree more no_parts))) less =
    headed (omega arith) (headed (omega (arith, less)) (reach (more_names_span e (at + 1) more) (omega arith) (omega arith)))
directed_span e start to name at (node row (subtree more no_parts)) less = headed (omega arith) (reach (more_names_span e at more) (omega (arith, less)) (omega arith))
directed_span e start to name at others less = none (omega (arith, less))

names_either : {a b : ℕ} (input : Bool) (at k : ℕ) (names : List NameAt) → Span a (tokens_of names) b
    → Span a (names_in_function_item (if input then function.Input at names else function.Variables at (type_of k) names)) b
names_either true at k names s = s
names_either false at k names s = s

function_item_span : (e : Expanded) (at : ℕ) (t : Tree) → Span at (flat_map names_in_function_item (function_item e at t)) (at + width t)
function_item_span e at (node row (token k (token name (subtree more (token semicolon no_parts))))) =
    one (names_either (is_kind k kind.Input) at k (named e (at + 1) ∷ more_names e (at + 2) more) (headed (omega arith) (reach (more_names_span e (at + 2) more) (omega arith) (omega arith))))
function_item_span e at others = none (omega arith)

function_items_span : (e : Expanded) (at : ℕ) (t : Tree) → Span at (flat_map names_in_function_item (function_items e at t)) (at + width t)
function_items_span e at (node row (subtree first (subtree rest no_parts))) =
    reach
    (each_join names_in_function_item (function_item e at first) (function_items e (at + width first) rest) (function_item_span e at first) (function_items_span e (at + width first) rest) (omega arith))
    (omega arith) (omega arith)
function_items_span e at others = none (omega arith)

analog_span : (e : Expanded) (start at : ℕ) (t : Tree) → IsOf 40 t → Span at (ordered_in_body (analog e start at t)) (at + width t)
unfolding row_symbols
analog_span e start at t h =
    let d = exactly 40 h refl in
    by_rows (λ (u : Tree). Span at (ordered_in_body (analog e start at u)) (at + width u)) 40 (82 ∷ 83 ∷ []) t d.0 refl d.1 (
      λ ts f.
          (let ty : Tree = first_tree ts in
          let items : Tree = first_tree (later_trees ts) in
          let body : Tree = first_tree (later_trees (later_trees ts)) in
          headed (omega arith)
          (join (since (function_items_span e (at + 1 + width ty + 2) items) (omega arith))
          (upto (statement_span e (at + 1 + width ty + 2 + width items) body (is_of 43 f.1.1.0)) (omega arith)) (omega arith))),
      (λ ts f. reach (statement_span e at (first_tree ts) (is_of 43 f.0)) (omega arith) (omega arith), tt),
    )

pub item_body_span : {low : ℕ} (e : Expanded) (groups : List AttributeGroup) (at : ℕ) (t : Tree) → Span low (names_in_attributes groups) at → IsOf 22 t
    → Span low (flat_map ordered_in_item (map (with_attributes groups) (item_body e at t))) (at + width t)
item_body_span e groups at (node row (subtree to (token name (subtree tail (token semicolon no_parts))))) s h =
    one (join s (upto (directed_span e at (direction to) (named e (at + width to)) (at + width to + 1) tail (omega arith)) (omega arith)) (omega arith))
item_body_span e groups at (node row (token discipline (token name (subtree more (token semicolon no_parts))))) s h =
    one (join s (headed {a = at} {n = at} (omega arith) (headed {n = at + 1} (omega arith) (reach (more_names_span e (at + 2) more) (omega arith) (omega arith)))) (omega arith))
item_body_span e groups at (node row (token branch (token left (token first (subtree second (token close (token name (subtree more (token semicolon no_parts))))))))) s h =
    let behind : ℕ = at + 3 + width second + 1 in
    one
    (join s
    (headed {a = at} {n = at + 2} (omega arith)
    (join (since (second_node_span e (at + 3) second) (omega arith))
    (headed {a = behind} {n = behind} (omega arith) (reach (more_names_span e (at + 3 + width second + 2) more) (omega arith) (omega arith))) (omega arith)))
    (omega arith))
item_body_span e groups at (node row (token k (subtree ty (subtree params (token semicolon no_parts))))) s h =
    let b = below 22 (26 ∷ 27 ∷ []) h refl in
    one (join s (upto (parameters_span e (at + 1 + width ty) params b.1.0) (omega arith)) (omega arith))
item_body_span e groups at (node row (token aliasparam (token name (token equals (token target (token semicolon no_parts)))))) s h =
    one (join s (headed {a = at} {n = at + 1} (omega arith) (headed {n = at + 3} (omega arith) (none (omega arith)))) (omega arith))
item_body_span e groups at (node row (token k (subtree vars (token semicolon no_parts)))) s h =
    let b = below 22 (36 ∷ []) h refl in
    one (join s (upto (variables_span e (at + 1) vars b.0) (omega arith)) (omega arith))
item_body_span e groups at (node row (token analog_ (subtree inner no_parts))) s h =
    let b = below 22 (40 ∷ []) h refl in
    one (join s (upto (analog_span e at (at + 1) inner b.0) (omega arith)) (omega arith))
item_body_span e groups at others s h = none (let l = spanned s in omega (arith, l))
