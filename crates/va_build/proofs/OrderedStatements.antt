-- The tokens of the names of a statement ascend, within the tokens that its parse tree spells.
use Rattle.std.specs.Prelude.{◌≡◌, ◌≤◌, ◌<◌, ◌+◌, ◌++◌, ℕ, List, [], ◌∷◌, Option, Some, None, map, flat_map, option_to_list}
use Rattle.std.proofs.Common.{refl, sym, subst, arith}
use Rattle.predict.specs.Tree.{Tree, node, no_parts, token, subtree}
use Rattle.va_base.specs.declared.expanded.Expanded.{Expanded}
use Rattle.va_tree.specs.declared.stmt.CaseDefault.{CaseDefault}
use Rattle.va_tree.specs.declared.stmt.CaseItem.{CaseItem}
use Rattle.va_tree.specs.declared.stmt.Stmt.{Stmt}
use Rattle.va_tree.specs.Expressions.{Expression, expression_of, arguments_of}
use Rattle.va_tree.specs.Statements.{Statement, statement_of, statements_of, items_of, defaults_of, if_of}
use Rattle.va_tree.specs.StatementLaws.{statement-Block, statement-If, statement-Case, statement-For, statement-While, statement-Repeat, statement-Event}
use Rattle.va_tree.specs.Declarations.{if_there}
use Rattle.va_tree.specs.OrderedNames.{ordered_in_statement, ordered_in_statements, item_passages, default_passages}
use Rattle.va_tree.specs.OwnTokens.{tokens_of, names_in, names_in_arguments, names_in_variable, names_in_declaration}
use Rattle.va_tree.proofs.Ascending.{Span, none, headed, reach, since, upto, join, same_span, spanned, each_join, one, Passages, no_passages, passages_reach, first_passage, second_passage}
use Rattle.va_build.specs.Reading.{row_symbols}
use Rattle.va_build.specs.SourceExpressions.{expression}
use Rattle.va_build.specs.SourceStatements.{second_node, initialiser, variable, more_variables, variables, label, declaration, declarations, more_values, event_kind, event_analyses, repeated, named_statement, task_arguments, assignment, statement, statements, else_branch, case_items, case_item, case_defaults, case_default}
use Rattle.va_build.specs.Width.{width}
use Rattle.va_build.proofs.TreesBelow.{IsOf, below, by_row, wide}
use Rattle.va_build.proofs.OrderedExpressions.{expression_span, arguments_span}

pub second_node_span : (e : Expanded) (at : ℕ) (t : Tree) → Span at (tokens_of (option_to_list (second_node e at t))) (at + width t)
second_node_span e at (node row (token comma (token name no_parts))) = headed (omega arith) (none (omega arith))
second_node_span e at others = none (omega arith)

label_span : (e : Expanded) (at : ℕ) (t : Tree) → Span at (tokens_of (option_to_list (label e at t))) (at + width t)
label_span e at (node row (token colon (token name no_parts))) = headed (omega arith) (none (omega arith))
label_span e at others = none (omega arith)

initialiser_span : (e : Expanded) (at : ℕ) (t : Tree) → IsOf 39 t → Span at (flat_map names_in (if_there (initialiser e at t))) (at + width t)
initialiser_span e at (node row (token equals (subtree value no_parts))) h =
    let k = below 39 (60 ∷ []) h refl in
    one (reach (expression_span e (at + 1) value k.0) (omega arith) (omega arith))
initialiser_span e at others h = none (omega arith)

variable_span : (e : Expanded) (at : ℕ) (t : Tree) → IsOf 38 t → Span at (flat_map names_in_variable (variable e at t)) (at + width t)
variable_span e at (node row (token name (subtree value no_parts))) h =
    let k = below 38 (39 ∷ []) h refl in
    headed (omega arith) (one (reach (initialiser_span e (at + 1) value k.0) (omega arith) (omega arith)))
variable_span e at others h = none (omega arith)

more_variables_span : (e : Expanded) (at : ℕ) (t : Tree) → IsOf 37 t → Span at (flat_map names_in_variable (more_variables e at t)) (at + width t)
more_variables_span e at (node row (token comma (subtree next (subtree more no_parts)))) h =
    let k = below 37 (38 ∷ 37 ∷ []) h refl in
    reach
    (each_join names_in_variable (variable e (at + 1) next) (more_variables e (at + 1 + width next) more) (variable_span e (at + 1) next k.0)
    (more_variables_span e (at + 1 + width next) more k.1.0) (omega arith))
    (omega arith) (omega arith)
more_variables_span e at others h = none (omega arith)

pub variables_span : (e : Expanded) (at : ℕ) (t : Tree) → IsOf 36 t → Span at (flat_map names_in_variable (variables e at t)) (at + width t)
variables_span e at (node row (subtree first (subtree more no_parts))) h =
    let k = below 36 (38 ∷ 37 ∷ []) h refl in
    reach
    (each_join names_in_variable (variable e at first) (more_variables e (at + width first) more) (variable_span e at first k.0)
    (more_variables_span e (at + width first) more k.1.0) (omega arith))
    (omega arith) (omega arith)
variables_span e at others h = none (omega arith)

declaration_span : (e : Expanded) (at : ℕ) (t : Tree) → IsOf 46 t → Span at (flat_map names_in_declaration (declaration e at t)) (at + width t)
declaration_span e at (node row (token k (subtree vars (token semicolon no_parts)))) h =
    let b = below 46 (36 ∷ []) h refl in
    one (reach (variables_span e (at + 1) vars b.0) (omega arith) (omega arith))
declaration_span e at others h = none (omega arith)

declarations_span : (e : Expanded) (at : ℕ) (t : Tree) → IsOf 45 t → Span at (flat_map names_in_declaration (declarations e at t)) (at + width t)
declarations_span e at (node row (subtree first (subtree rest no_parts))) h =
    let k = below 45 (46 ∷ 45 ∷ []) h refl in
    reach
    (each_join names_in_declaration (declaration e at first) (declarations e (at + width first) rest) (declaration_span e at first k.0)
    (declarations_span e (at + width first) rest k.1.0) (omega arith))
    (omega arith) (omega arith)
declarations_span e at others h = none (omega arith)

more_values_span : (e : Expanded) (at : ℕ) (t : Tree) → IsOf 52 t → Span at (flat_map names_in (map expression_of (more_values e at t))) (at + width t)
more_values_span e at (node row (token comma (subtree next (subtree more no_parts)))) h =
    let k = below 52 (60 ∷ 52 ∷ []) h refl in
    reach (join (expression_span e (at + 1) next k.0) (more_values_span e (at + 1 + width next) more k.1.0) (omega arith)) (omega arith) (omega arith)
more_values_span e at others h = none (omega arith)

task_arguments_span : (e : Expanded) (at : ℕ) (t : Tree) → IsOf 57 t → Span at (names_in_arguments (arguments_of (task_arguments e at t))) (at + width t)
task_arguments_span e at (node row (token left (subtree inner (token close no_parts)))) h =
    let k = below 57 (58 ∷ []) h refl in
    reach (arguments_span e (at + 1) inner k.0) (omega arith) (omega arith)
task_arguments_span e at others h = none (omega arith)

named_statement_span : (e : Expanded) (name at : ℕ) (t : Tree) → name < at → IsOf 56 t → Span name (ordered_in_statement (statement_of (named_statement e name at t))) (at + width t)
named_statement_span e name at (node row (token equals (subtree value (token semicolon no_parts)))) less h =
    let k = below 56 (60 ∷ []) h refl in
    headed (omega arith) (reach (expression_span e (at + 1) value k.0) (omega (arith, less)) (omega arith))
named_statement_span e name at (node row (token left (token first (subtree second (token close (token contributes (subtree value (token semicolon no_parts)))))))) less h =
    let k = below 56 (25 ∷ 60 ∷ []) h refl in
    headed (omega arith)
    (headed (omega (arith, less))
    (join (since (second_node_span e (at + 2) second) (omega arith)) (upto (expression_span e (at + 2 + width second + 2) value k.1.0) (omega arith)) (omega arith)))
named_statement_span e name at others less h = none (omega (arith, less))

by_law : {a b : ℕ} {x y : Statement} → x ≡ y → Span a (ordered_in_statement y) b → Span a (ordered_in_statement x) b
by_law e s = same_span (λ j. ordered_in_statement (e j)) s

-- the statement of an `else`
abbrev else_tokens : Option Stmt → List ℕ
else_tokens None = []
else_tokens (Some s) = ordered_in_statement (statement_of s)

if_span : {a b c d f g : ℕ} (at : ℕ) (test : Expression) (chosen : Statement) (otherwise : Option Stmt) → Span a (names_in test) b → Span c (ordered_in_statement chosen) d
    → Span f (else_tokens otherwise) g → b ≤ c → d ≤ f → Span a (ordered_in_statement (if_of at test chosen otherwise)) g
if_span at test chosen None s t u less more = join s (upto t (let v = spanned u in omega (arith, more, v))) less
if_span at test chosen (Some b) s t u less more = join (join s t less) u more

-- a loop or an event, where its body is known: its row tells what its parentheses hold
repeated_span : {row k left close c : ℕ} (e : Expanded) (at : ℕ) (inner body : Tree) (turn : Stmt) → IsOf 43 (node row (token k (token left (subtree inner (token close (subtree body no_parts))))))
    → Span (at + 2 + width inner + 1) (ordered_in_statement (statement_of turn)) c → Span at (ordered_in_statement (statement_of (repeated e at k inner turn))) c
unfolding row_symbols
repeated_span {row} {k} {left} {close} {c} e at inner body turn h s =
    let G : ℕ → Type 0 = λ i. Span at (ordered_in_statement (statement_of (repeated e at i inner turn))) c in
    by_row 43 (89 ∷ 90 ∷ 91 ∷ 92 ∷ 93 ∷ 94 ∷ 95 ∷ 96 ∷ 97 ∷ 98 ∷ []) (G k) h refl refl (
      λ n d b. absurd d.1,
      (
        λ n d b. absurd d.1.1.1.1.1,
        (
          λ n d b. absurd d.1.1.1.1.1,
          (
            λ n d b. absurd d.1.1,
            (
              λ n d b. subst G (sym d.0) (by_law (statement-While at (expression e (at + 2) inner) turn) (join (since (expression_span e (at + 2) inner b.0) (omega arith)) s (omega arith))),
              (
                λ n d b. subst G (sym d.0) (by_law (statement-Repeat at (expression e (at + 2) inner) turn) (join (since (expression_span e (at + 2) inner b.0) (omega arith)) s (omega arith))),
                (
                  λ n d b. subst G (sym d.0) (by_law (statement-Event at (event_kind inner) (event_analyses e (at + 2) inner) turn) (since s (omega arith))),
                  (λ n d b. absurd d.1, (λ n d b. absurd d.1, (λ n d b. absurd d.1, tt))),
                ),
              ),
            ),
          ),
        ),
      ),
    )

body_of : {row k left close : ℕ} {inner body : Tree} → IsOf 43 (node row (token k (token left (subtree inner (token close (subtree body no_parts)))))) → IsOf 43 body
unfolding row_symbols
body_of {row} {k} {left} {close} {inner} {body} h =
    by_row 43 (89 ∷ 90 ∷ 91 ∷ 92 ∷ 93 ∷ 94 ∷ 95 ∷ 96 ∷ 97 ∷ 98 ∷ []) (IsOf 43 body) h refl refl (
      λ n d b. absurd d.1,
      (
        λ n d b. absurd d.1.1.1.1.1,
        (
          λ n d b. absurd d.1.1.1.1.1,
          (
            λ n d b. absurd d.1.1,
            (
              λ n d b. b.1.0,
              (λ n d b. b.1.0, (λ n d b. b.1.0, (λ n d b. absurd d.1, (λ n d b. absurd d.1, (λ n d b. absurd d.1, tt))))),
            ),
          ),
        ),
      ),
    )

-- an item of a `case`
item_span : {a b c d : ℕ} (values : List Expression) (body : Statement) → Span a (flat_map names_in values) b → Span c (ordered_in_statement body) d → b ≤ c
    → Span a (flat_map names_in values ++ ordered_in_statement body) d
item_span values body s t less = join s t less

mutual
  pub statement_span : (e : Expanded) (at : ℕ) (t : Tree) → IsOf 43 t → Span at (ordered_in_statement (statement_of (statement e at t))) (at + width t)
  statement_span e at (node row (token begin (subtree name (subtree vars (subtree body (token end no_parts)))))) h =
      let k = below 43 (44 ∷ 45 ∷ 47 ∷ []) h refl in
      by_law (statement-Block at (label e (at + 1) name) (declarations e (at + 1 + width name) vars) (statements e (at + 1 + width name + width vars) body))
      (reach
      (join
      (join (label_span e (at + 1) name) (declarations_span e (at + 1 + width name) vars k.1.0) (omega arith))
      (statements_span e (at + 1 + width name + width vars) body k.1.1.0) (omega arith))
      (omega arith) (omega arith))
  statement_span e at (node row (token if_ (token left (subtree test (token close (subtree a (subtree b no_parts))))))) h =
      let k = below 43 (60 ∷ 43 ∷ 48 ∷ []) h refl in
      by_law (statement-If at (expression e (at + 2) test) (statement e (at + 2 + width test + 1) a) (else_branch e (at + 2 + width test + 1 + width a) b))
      (reach
      (if_span at (expression_of (expression e (at + 2) test)) (statement_of (statement e (at + 2 + width test + 1) a)) (else_branch e (at + 2 + width test + 1 + width a) b)
      (expression_span e (at + 2) test k.0) (statement_span e (at + 2 + width test + 1) a k.1.0) (else_span e (at + 2 + width test + 1 + width a) b k.1.1.0) (omega arith) (omega arith))
      (omega arith) (omega arith))
  statement_span e at (node row (token case (token left (subtree selector (token close (subtree items (token endcase no_parts))))))) h =
      let k = below 43 (60 ∷ 49 ∷ []) h refl in
      by_law (statement-Case at (expression e (at + 2) selector) (case_items e (at + 2 + width selector + 1) items) (case_defaults e (at + 2 + width selector + 1) items))
      (let p = case_items_span e (at + 2 + width selector + 1) items k.1.0 in
      reach (join (expression_span e (at + 2) selector k.0) p.span (omega arith)) (omega arith) (omega arith))
  statement_span e at (node row (token for (token left (token target (token equals (subtree first (token semicolon (subtree test (token semicolon' (token target' (token equals' (subtree step (token close (subtree body no_parts)))))))))))))) h =
      let k = below 43 (60 ∷ 60 ∷ 60 ∷ 43 ∷ []) h refl in
      let middle : ℕ = at + 4 + width first + 1 in
      let last : ℕ = middle + width test + 1 in
      by_law (statement-For at (assignment e (at + 2) (at + 4) first) (expression e middle test) (assignment e last (last + 2) step) (statement e (at + 4 + width first + 1 + width test + 3 + width step + 1) body))
      (headed (omega arith)
      (upto
      (join
      (join
      (join (since (expression_span e (at + 4) first k.0) (omega arith)) (expression_span e middle test k.1.0) (omega arith))
      (headed {a = last} {n = last} (omega arith) (since (expression_span e (last + 2) step k.1.1.0) (omega arith))) (omega arith))
      (statement_span e (at + 4 + width first + 1 + width test + 3 + width step + 1) body k.1.1.1.0) (omega arith))
      (omega arith)))
  statement_span e at (node row (token k (token left (subtree inner (token close (subtree body no_parts)))))) h =
      reach (repeated_span e at inner body (statement e (at + 2 + width inner + 1) body) h (statement_span e (at + 2 + width inner + 1) body (body_of h))) (omega arith) (omega arith)
  statement_span e at (node row (token name (subtree rest no_parts))) h =
      let k = below 43 (56 ∷ []) h refl in
      reach (named_statement_span e at (at + 1) rest (omega arith) k.0) (omega arith) (omega arith)
  statement_span e at (node row (token system (subtree args (token semicolon no_parts)))) h =
      let k = below 43 (57 ∷ []) h refl in
      headed (omega arith) (reach (task_arguments_span e (at + 1) args k.0) (omega arith) (omega arith))
  statement_span e at others h = none (omega arith)

  statements_span : (e : Expanded) (at : ℕ) (t : Tree) → IsOf 47 t → Span at (ordered_in_statements (statements_of (statements e at t))) (at + width t)
  statements_span e at (node row (subtree first (subtree rest no_parts))) h =
      let k = below 47 (43 ∷ 47 ∷ []) h refl in
      reach (join (statement_span e at first k.0) (statements_span e (at + width first) rest k.1.0) (omega arith)) (omega arith) (omega arith)
  statements_span e at others h = none (omega arith)

  else_span : (e : Expanded) (at : ℕ) (t : Tree) → IsOf 48 t → Span at (else_tokens (else_branch e at t)) (at + width t)
  else_span e at (node row (token else_ (subtree body no_parts))) h =
      let k = below 48 (43 ∷ []) h refl in
      reach (statement_span e (at + 1) body k.0) (omega arith) (omega arith)
  else_span e at others h = none (omega arith)

  case_items_span : (e : Expanded) (at : ℕ) (t : Tree) → IsOf 49 t
      → Passages at (item_passages (items_of (case_items e at t))) (default_passages (defaults_of (case_defaults e at t))) (at + width t)
  case_items_span e at (node row (subtree first (subtree rest no_parts))) h =
      let k = below 49 (50 ∷ 49 ∷ []) h refl in
      passages_reach (case_item_span e at first (case_items e (at + width first) rest) (case_defaults e (at + width first) rest) k.0 (case_items_span e (at + width first) rest k.1.0))
      (omega arith) (omega arith)
  case_items_span e at others h = no_passages (omega arith)

  -- an item or a default, before the others
  case_item_span : {d : ℕ} (e : Expanded) (at : ℕ) (t : Tree) (items : List CaseItem) (defaults : List CaseDefault) → IsOf 50 t
      → Passages (at + width t) (item_passages (items_of items)) (default_passages (defaults_of defaults)) d
      → Passages at (item_passages (items_of (case_item e at t ++ items))) (default_passages (defaults_of (case_default e at t ++ defaults))) d
  case_item_span e at (node row (subtree first (subtree more (token colon (subtree body no_parts))))) items defaults h p =
      let k = below 50 (60 ∷ 52 ∷ 43 ∷ []) h refl in
      let w : 1 ≤ width first = wide 60 1 k.0 refl in
      first_passage at _
      (item_span (map expression_of (expression e at first ∷ more_values e (at + width first) more)) (statement_of (statement e (at + width first + width more + 1) body))
      (join (expression_span e at first k.0) (more_values_span e (at + width first) more k.1.0) (omega arith))
      (statement_span e (at + width first + width more + 1) body k.1.1.0) (omega arith))
      p (omega arith) (omega (arith, w)) (omega arith)
  case_item_span e at (node row (token default (subtree colon (subtree body no_parts)))) items defaults h p =
      let k = below 50 (51 ∷ 43 ∷ []) h refl in
      second_passage at _ (since (statement_span e (at + 1 + width colon) body k.1.0) (omega arith)) p (omega arith) (omega arith) (omega arith)
  case_item_span e at others items defaults h p = passages_reach p (omega arith) (omega arith)
