-- The rows of statements hold.
use Rattle.std.specs.Prelude.{◌≡◌, ℕ, ◌+◌, List, [], ◌∷◌, Option, Some, None, refl, map, flat_map}
use Rattle.std.proofs.Common.{ap, sym, ◌∙◌, arith}
use Rattle.predict.specs.Tree.{Tree, node, no_parts, token, subtree}
use Rattle.va_base.specs.declared.expanded.Expanded.{Expanded}
use Rattle.va_build.specs.Reading.{row_symbols, first_tree, later_trees}
use Rattle.va_build.specs.SizeDeep.{earlier, first_deep, if_deep, deep_expression, deep_arguments, deep_values, deep_variables, deep_declarations, deep_statement, deep_statements, deep_else, deep_items, deep_defaults}
use Rattle.va_build.specs.SizeRows.{deep_in, deep_named}
use Rattle.va_build.proofs.SizeLaws.{RowHolds}
use Rattle.va_build.specs.SourceExpressions.{arguments, expression}
use Rattle.va_build.specs.SourceStatements.{initialiser, variable, more_variables, variables, label, declaration, declarations, more_values, event_kind, event_analyses, named_statement, task_arguments, assignment, statement, statements, else_branch, case_items, case_item, case_defaults, case_default, valued, defaulted}
use Rattle.va_build.specs.Width.{width}
use Rattle.va_build.proofs.SizeAlgebra.{earlier_none, earlier_assoc, earlier_swap, ends_one, ends_two, ends_three, ends_four, ends_five, deep_two, deep_three, deep_four, value_then, values_append, variables_append, declarations_append, item_then_deep, items_append, default_then_deep, defaults_append}
use Rattle.va_tree.specs.Declarations.{declared, if_there, initialisers}
use Rattle.va_tree.specs.Expressions.{expression_of}
use Rattle.va_tree.specs.Nodes.{nodes_of, nodes_of_statement, nodes_of_statements, nodes_of_items, nodes_of_defaults}
use Rattle.va_tree.specs.Statements.{Statement, statement_of, statements_of, items_of, defaults_of, if_of}
use Rattle.va_tree.specs.StatementLaws.{statement-Block, statement-If, statement-Case, statement-For, statement-While, statement-Repeat, statement-Event}
use Rattle.va_tree.specs.declared.expr.Expr.{Expr}
use Rattle.va_tree.specs.declared.module.Declaration.{Declaration}
use Rattle.va_tree.specs.declared.name.NameAt.{NameAt}
use Rattle.va_tree.specs.declared.stmt.Assignment.{Assignment}
use Rattle.va_tree.specs.declared.stmt.CaseDefault.{CaseDefault}
use Rattle.va_tree.specs.declared.stmt.CaseItem.{CaseItem}
use Rattle.va_tree.specs.declared.stmt.EventKind.{EventKind}
use Rattle.va_tree.specs.declared.stmt.Stmt.{Stmt}
use Rattle.va_tree.specs.declared.stmt.Stmt.TheVariants.{Block, If, Case, For, While, Repeat, Event}

deep_block : (depth at : ℕ) (label : Option NameAt) (declarations : List Declaration) (body : List Stmt) → deep_statement depth (Block at label declarations body) ≡ earlier (if_deep at depth) (earlier (deep_declarations (depth + 1) declarations) (deep_statements (depth + 1) body))
deep_block depth at label declarations body =
    ap (λ (s : Statement). first_deep (nodes_of_statement depth s)) (statement-Block at label declarations body)
    ∙ ap (earlier (if_deep at depth)) (deep_two (flat_map (nodes_of (depth + 1)) (declared declarations)) (nodes_of_statements (depth + 1) (statements_of body)))

deep_if_of : (depth at : ℕ) (test : Expr) (a : Stmt) (b : Option Stmt) → first_deep (nodes_of_statement depth (if_of at (expression_of test) (statement_of a) b)) ≡ earlier (if_deep at depth) (earlier (deep_expression (depth + 1) test) (earlier (deep_statement (depth + 1) a) (deep_else (depth + 1) b)))
deep_if_of depth at test a None =
    ap (earlier (if_deep at depth)) (deep_two (nodes_of (depth + 1) (expression_of test)) (nodes_of_statement (depth + 1) (statement_of a)) ∙ ap (earlier (deep_expression (depth + 1) test)) (sym (earlier_none (deep_statement (depth + 1) a))))
deep_if_of depth at test a (Some b) =
    ap (earlier (if_deep at depth)) (deep_three (nodes_of (depth + 1) (expression_of test)) (nodes_of_statement (depth + 1) (statement_of a)) (nodes_of_statement (depth + 1) (statement_of b)))

deep_if : (depth at : ℕ) (test : Expr) (a : Stmt) (b : Option Stmt) → deep_statement depth (If at test a b) ≡ earlier (if_deep at depth) (earlier (deep_expression (depth + 1) test) (earlier (deep_statement (depth + 1) a) (deep_else (depth + 1) b)))
deep_if depth at test a b = ap (λ (s : Statement). first_deep (nodes_of_statement depth s)) (statement-If at test a b) ∙ deep_if_of depth at test a b

deep_case : (depth at : ℕ) (selector : Expr) (items : List CaseItem) (defaults : List CaseDefault) → deep_statement depth (Case at selector items defaults) ≡ earlier (if_deep at depth) (earlier (deep_expression (depth + 1) selector) (earlier (deep_items (depth + 1) items) (deep_defaults (depth + 1) defaults)))
deep_case depth at selector items defaults =
    ap (λ (s : Statement). first_deep (nodes_of_statement depth s)) (statement-Case at selector items defaults)
    ∙ ap (earlier (if_deep at depth)) (deep_three (nodes_of (depth + 1) (expression_of selector)) (nodes_of_items (depth + 1) (items_of items)) (nodes_of_defaults (depth + 1) (defaults_of defaults)))

deep_for : (depth at : ℕ) (first : Assignment) (test : Expr) (step : Assignment) (body : Stmt) → deep_statement depth (For at first test step body) ≡ earlier (if_deep at depth) (earlier (deep_expression (depth + 1) first.value) (earlier (deep_expression (depth + 1) test) (earlier (deep_expression (depth + 1) step.value) (deep_statement (depth + 1) body))))
deep_for depth at first test step body =
    ap (λ (s : Statement). first_deep (nodes_of_statement depth s)) (statement-For at first test step body)
    ∙ ap (earlier (if_deep at depth)) (deep_four (nodes_of (depth + 1) (expression_of first.value)) (nodes_of (depth + 1) (expression_of test)) (nodes_of (depth + 1) (expression_of step.value)) (nodes_of_statement (depth + 1) (statement_of body)))

deep_while : (depth at : ℕ) (test : Expr) (body : Stmt) → deep_statement depth (While at test body) ≡ earlier (if_deep at depth) (earlier (deep_expression (depth + 1) test) (deep_statement (depth + 1) body))
deep_while depth at test body =
    ap (λ (s : Statement). first_deep (nodes_of_statement depth s)) (statement-While at test body)
    ∙ ap (earlier (if_deep at depth)) (deep_two (nodes_of (depth + 1) (expression_of test)) (nodes_of_statement (depth + 1) (statement_of body)))

deep_repeat : (depth at : ℕ) (count : Expr) (body : Stmt) → deep_statement depth (Repeat at count body) ≡ earlier (if_deep at depth) (earlier (deep_expression (depth + 1) count) (deep_statement (depth + 1) body))
deep_repeat depth at count body =
    ap (λ (s : Statement). first_deep (nodes_of_statement depth s)) (statement-Repeat at count body)
    ∙ ap (earlier (if_deep at depth)) (deep_two (nodes_of (depth + 1) (expression_of count)) (nodes_of_statement (depth + 1) (statement_of body)))

deep_event : (depth at : ℕ) (event : EventKind) (analyses : List NameAt) (body : Stmt) → deep_statement depth (Event at event analyses body) ≡ earlier (if_deep at depth) (deep_statement (depth + 1) body)
deep_event depth at event analyses body = ap (λ (s : Statement). first_deep (nodes_of_statement depth s)) (statement-Event at event analyses body)

named_deep : (e : Expanded) (depth name at : ℕ) (t : Tree) → deep_statement depth (named_statement e name at t) ≡ earlier (if_deep name depth) (deep_named e (depth + 1) at t)
named_deep e depth name at (node row (token equals (subtree value (token semicolon no_parts)))) = refl
named_deep e depth name at (node row (token left (token first (subtree second (token close (token contributes (subtree value (token semicolon no_parts)))))))) = refl
named_deep e depth name at others = refl

pub row_76 : RowHolds 36 76
unfolding row_symbols deep_in
row_76 e depth at ts h =
    let first : Tree = first_tree ts in
    let second : Tree = first_tree (later_trees ts) in
    ends_two _ (deep_variables depth (variable e at first)) (deep_variables depth (more_variables e (at + width first) second)) (variables_append depth (variable e at first) (more_variables e (at + width first) second))

pub row_77 : RowHolds 37 77
unfolding row_symbols deep_in
row_77 e depth at ts h =
    let first : Tree = first_tree ts in
    let second : Tree = first_tree (later_trees ts) in
    ends_two _ (deep_variables depth (variable e (at + 1) first)) (deep_variables depth (more_variables e (at + 1 + width first) second)) (variables_append depth (variable e (at + 1) first) (more_variables e (at + 1 + width first) second))

pub row_79 : RowHolds 38 79
unfolding row_symbols deep_in
row_79 e depth at ts h =
    let first : Tree = first_tree ts in
    values_append depth (if_there (initialiser e (at + 1) first)) []

pub row_80 : RowHolds 39 80
unfolding row_symbols deep_in
row_80 e depth at ts h =
    let first : Tree = first_tree ts in
    value_then depth (expression_of (expression e (at + 1) first)) []

pub row_89 : RowHolds 43 89
unfolding row_symbols deep_in
row_89 e depth at ts h =
    let first : Tree = first_tree ts in
    let second : Tree = first_tree (later_trees ts) in
    let third : Tree = first_tree (later_trees (later_trees ts)) in
    ends_three _ (if_deep at depth) (deep_declarations (depth + 1) (declarations e (at + 1 + width first) second)) (deep_statements (depth + 1) (statements e (at + 1 + width first + width second) third)) (deep_block depth at (label e (at + 1) first) (declarations e (at + 1 + width first) second) (statements e (at + 1 + width first + width second) third))

pub row_90 : RowHolds 43 90
unfolding row_symbols deep_in
row_90 e depth at ts h =
    let first : Tree = first_tree ts in
    let second : Tree = first_tree (later_trees ts) in
    let third : Tree = first_tree (later_trees (later_trees ts)) in
    let two : at + 2 ≡ at + 1 + 1 = omega arith in
    ends_four _ (if_deep at depth) (deep_expression (depth + 1) (expression e (at + 1 + 1) first)) (deep_statement (depth + 1) (statement e (at + 1 + 1 + width first + 1) second)) (deep_else (depth + 1) (else_branch e (at + 1 + 1 + width first + 1 + width second) third))
    (deep_if depth at (expression e (at + 2) first) (statement e (at + 2 + width first + 1) second) (else_branch e (at + 2 + width first + 1 + width second) third) ∙ (λ j. earlier (if_deep at depth) (earlier (deep_expression (depth + 1) (expression e (two j) first)) (earlier (deep_statement (depth + 1) (statement e (two j + width first + 1) second)) (deep_else (depth + 1) (else_branch e (two j + width first + 1 + width second) third))))))

pub row_91 : RowHolds 43 91
unfolding row_symbols deep_in
row_91 e depth at ts h =
    let first : Tree = first_tree ts in
    let second : Tree = first_tree (later_trees ts) in
    let two : at + 2 ≡ at + 1 + 1 = omega arith in
    ends_three _ (if_deep at depth) (deep_expression (depth + 1) (expression e (at + 1 + 1) first)) (earlier (deep_items (depth + 1) (case_items e (at + 1 + 1 + width first + 1) second)) (deep_defaults (depth + 1) (case_defaults e (at + 1 + 1 + width first + 1) second)))
    (deep_case depth at (expression e (at + 2) first) (case_items e (at + 2 + width first + 1) second) (case_defaults e (at + 2 + width first + 1) second) ∙ (λ j. earlier (if_deep at depth) (earlier (deep_expression (depth + 1) (expression e (two j) first)) (earlier (deep_items (depth + 1) (case_items e (two j + width first + 1) second)) (deep_defaults (depth + 1) (case_defaults e (two j + width first + 1) second))))))

pub row_92 : RowHolds 43 92
unfolding row_symbols deep_in
row_92 e depth at ts h =
    let first : Tree = first_tree ts in
    let second : Tree = first_tree (later_trees ts) in
    let third : Tree = first_tree (later_trees (later_trees ts)) in
    let fourth : Tree = first_tree (later_trees (later_trees (later_trees ts))) in
    let four : at + 4 ≡ at + 1 + 1 + 1 + 1 = omega arith in
    let step : at + 4 + width first + 1 + width second + 1 + 2 ≡ at + 1 + 1 + 1 + 1 + width first + 1 + width second + 1 + 1 + 1 = omega arith in
    let last : at + 4 + width first + 1 + width second + 3 ≡ at + 1 + 1 + 1 + 1 + width first + 1 + width second + 1 + 1 + 1 = omega arith in
    ends_five _ (if_deep at depth) (deep_expression (depth + 1) (expression e (at + 1 + 1 + 1 + 1) first)) (deep_expression (depth + 1) (expression e (at + 1 + 1 + 1 + 1 + width first + 1) second)) (deep_expression (depth + 1) (expression e (at + 1 + 1 + 1 + 1 + width first + 1 + width second + 1 + 1 + 1) third)) (deep_statement (depth + 1) (statement e (at + 1 + 1 + 1 + 1 + width first + 1 + width second + 1 + 1 + 1 + width third + 1) fourth))
    (deep_for depth at (assignment e (at + 2) (at + 4) first) (expression e (at + 4 + width first + 1) second) (assignment e (at + 4 + width first + 1 + width second + 1) (at + 4 + width first + 1 + width second + 1 + 2) third) (statement e (at + 4 + width first + 1 + width second + 3 + width third + 1) fourth) ∙ (λ j. earlier (if_deep at depth) (earlier (deep_expression (depth + 1) (expression e (four j) first)) (earlier (deep_expression (depth + 1) (expression e (four j + width first + 1) second)) (earlier (deep_expression (depth + 1) (expression e (step j) third)) (deep_statement (depth + 1) (statement e (last j + width third + 1) fourth)))))))

pub row_93 : RowHolds 43 93
unfolding row_symbols deep_in
row_93 e depth at ts h =
    let first : Tree = first_tree ts in
    let second : Tree = first_tree (later_trees ts) in
    let two : at + 2 ≡ at + 1 + 1 = omega arith in
    ends_three _ (if_deep at depth) (deep_expression (depth + 1) (expression e (at + 1 + 1) first)) (deep_statement (depth + 1) (statement e (at + 1 + 1 + width first + 1) second))
    (deep_while depth at (expression e (at + 2) first) (statement e (at + 2 + width first + 1) second) ∙ (λ j. earlier (if_deep at depth) (earlier (deep_expression (depth + 1) (expression e (two j) first)) (deep_statement (depth + 1) (statement e (two j + width first + 1) second)))))

pub row_94 : RowHolds 43 94
unfolding row_symbols deep_in
row_94 e depth at ts h =
    let first : Tree = first_tree ts in
    let second : Tree = first_tree (later_trees ts) in
    let two : at + 2 ≡ at + 1 + 1 = omega arith in
    ends_three _ (if_deep at depth) (deep_expression (depth + 1) (expression e (at + 1 + 1) first)) (deep_statement (depth + 1) (statement e (at + 1 + 1 + width first + 1) second))
    (deep_repeat depth at (expression e (at + 2) first) (statement e (at + 2 + width first + 1) second) ∙ (λ j. earlier (if_deep at depth) (earlier (deep_expression (depth + 1) (expression e (two j) first)) (deep_statement (depth + 1) (statement e (two j + width first + 1) second)))))

pub row_95 : RowHolds 43 95
unfolding row_symbols deep_in
row_95 e depth at ts h =
    let first : Tree = first_tree ts in
    let second : Tree = first_tree (later_trees ts) in
    let two : at + 2 ≡ at + 1 + 1 = omega arith in
    ends_two _ (if_deep at depth) (deep_statement (depth + 1) (statement e (at + 1 + 1 + width first + 1) second))
    (deep_event depth at (event_kind first) (event_analyses e (at + 2) first) (statement e (at + 2 + width first + 1) second) ∙ (λ j. earlier (if_deep at depth) (deep_statement (depth + 1) (statement e (two j + width first + 1) second))))

pub row_96 : RowHolds 43 96
unfolding row_symbols deep_in
row_96 e depth at ts h =
    let first : Tree = first_tree ts in
    ends_two _ (if_deep at depth) (deep_named e (depth + 1) (at + 1) first) (named_deep e depth at (at + 1) first)

pub row_97 : RowHolds 43 97
unfolding row_symbols deep_in
row_97 e depth at ts h =
    let first : Tree = first_tree ts in
    ends_two _ (if_deep at depth) (deep_arguments (depth + 1) (task_arguments e (at + 1) first)) refl

pub row_101 : RowHolds 45 101
unfolding row_symbols deep_in
row_101 e depth at ts h =
    let first : Tree = first_tree ts in
    let second : Tree = first_tree (later_trees ts) in
    ends_two _ (deep_declarations depth (declaration e at first)) (deep_declarations depth (declarations e (at + width first) second)) (declarations_append depth (declaration e at first) (declarations e (at + width first) second))

pub row_103 : RowHolds 46 103
unfolding row_symbols deep_in
row_103 e depth at ts h =
    let first : Tree = first_tree ts in
    values_append depth (initialisers (variables e (at + 1) first)) []

pub row_104 : RowHolds 46 104
unfolding row_symbols deep_in
row_104 e depth at ts h =
    let first : Tree = first_tree ts in
    values_append depth (initialisers (variables e (at + 1) first)) []

pub row_105 : RowHolds 47 105
unfolding row_symbols deep_in
row_105 e depth at ts h =
    let first : Tree = first_tree ts in
    let second : Tree = first_tree (later_trees ts) in
    ends_two _ (deep_statement depth (statement e at first)) (deep_statements depth (statements e (at + width first) second)) (deep_two (nodes_of_statement depth (statement_of (statement e at first))) (nodes_of_statements depth (statements_of (statements e (at + width first) second))))

pub row_107 : RowHolds 48 107
unfolding row_symbols deep_in
row_107 e depth at ts h =
    let first : Tree = first_tree ts in
    ends_one _ (deep_statement depth (statement e (at + 1) first)) refl

pub row_109 : RowHolds 49 109
unfolding row_symbols deep_in
row_109 e depth at ts h =
    let first : Tree = first_tree ts in
    let second : Tree = first_tree (later_trees ts) in
    ends_two _ (earlier (deep_items depth (case_item e at first)) (deep_defaults depth (case_default e at first))) (earlier (deep_items depth (case_items e (at + width first) second)) (deep_defaults depth (case_defaults e (at + width first) second))) ((λ j. earlier (items_append depth (case_item e at first) (case_items e (at + width first) second) j) (defaults_append depth (case_default e at first) (case_defaults e (at + width first) second) j)) ∙ earlier_swap (deep_items depth (case_item e at first)) (deep_items depth (case_items e (at + width first) second)) (deep_defaults depth (case_default e at first)) (deep_defaults depth (case_defaults e (at + width first) second)))

pub row_111 : RowHolds 50 111
unfolding row_symbols deep_in
row_111 e depth at ts h =
    let first : Tree = first_tree ts in
    let second : Tree = first_tree (later_trees ts) in
    default_then_deep depth (defaulted at (statement e (at + 1 + width first) second)) []

pub row_112 : RowHolds 50 112
unfolding row_symbols deep_in
row_112 e depth at ts h =
    let first : Tree = first_tree ts in
    let second : Tree = first_tree (later_trees ts) in
    let third : Tree = first_tree (later_trees (later_trees ts)) in
    earlier_none (deep_items depth ((valued e at first second (statement e (at + width first + width second + 1) third)) ∷ [])) ∙ item_then_deep depth (valued e at first second (statement e (at + width first + width second + 1) third)) [] ∙ ap (λ (o : Option ℕ). earlier o (earlier (deep_statement depth (statement e (at + width first + width second + 1) third)) None)) (value_then depth (expression_of (expression e at first)) (map expression_of (more_values e (at + width first) second))) ∙ earlier_assoc (deep_expression depth (expression e at first)) (deep_values depth (map expression_of (more_values e (at + width first) second))) (earlier (deep_statement depth (statement e (at + width first + width second + 1) third)) None)

pub row_115 : RowHolds 52 115
unfolding row_symbols deep_in
row_115 e depth at ts h =
    let first : Tree = first_tree ts in
    let second : Tree = first_tree (later_trees ts) in
    ends_two _ (deep_expression depth (expression e (at + 1) first)) (deep_values depth (map expression_of (more_values e (at + 1 + width first) second))) (value_then depth (expression_of (expression e (at + 1) first)) (map expression_of (more_values e (at + 1 + width first) second)))

pub row_123 : RowHolds 56 123
unfolding row_symbols deep_in
row_123 e depth at ts h =
    let first : Tree = first_tree ts in
    ends_one _ (deep_expression depth (expression e (at + 1) first)) refl

pub row_124 : RowHolds 56 124
unfolding row_symbols deep_in
row_124 e depth at ts h =
    let first : Tree = first_tree ts in
    let second : Tree = first_tree (later_trees ts) in
    let place : at + 2 + width first + 2 ≡ at + 1 + 1 + width first + 1 + 1 = omega arith in
    ends_one _ (deep_expression depth (expression e (at + 1 + 1 + width first + 1 + 1) second)) (λ j. deep_expression depth (expression e (place j) second))

pub row_125 : RowHolds 57 125
unfolding row_symbols deep_in
row_125 e depth at ts h =
    let first : Tree = first_tree ts in
    ends_one _ (deep_arguments depth (arguments e (at + 1) first)) refl
