-- The tokens of the names of an expression ascend, within the tokens that its parse tree spells.
use Rattle.std.specs.Prelude.{◌≡◌, ◌≤◌, ◌<◌, ◌+◌, ℕ, Bool, true, false, if◌then◌else◌, List, [], ◌∷◌}
use Rattle.std.proofs.Common.{refl, arith}
use Rattle.predict.specs.Tree.{Tree, node, no_parts, token, subtree}
use Rattle.va_base.specs.declared.expanded.Expanded.{Expanded}
use Rattle.va_grammar.specs.declared.terminal.Terminal.TheVariants as kind
use Rattle.va_tree.specs.declared.expr.Arg.{Arg}
use Rattle.va_tree.specs.declared.expr.Arg.TheVariants as arg
use Rattle.va_tree.specs.declared.expr.Callee.{Callee}
use Rattle.va_tree.specs.declared.expr.Callee.TheVariants as callee
use Rattle.va_tree.specs.declared.expr.Expr.{Expr}
use Rattle.va_tree.specs.declared.expr.Expr.TheVariants.{Inf, Binary}
use Rattle.va_tree.specs.Expressions.{Expression, arguments_of, expression_of}
use Rattle.va_tree.specs.ExpressionLaws.{expression-Group, expression-Unary, expression-Binary, expression-Choose, expression-Call}
use Rattle.va_tree.specs.OwnTokens.{names_in, names_in_arguments, names_in_value}
use Rattle.va_tree.proofs.Ascending.{Span, none, headed, reach, since, join, same_span, spanned}
use Rattle.va_build.specs.SourceExpressions.{bare, callee_of, argument, arguments, more_arguments, expression, choice, operand, chain, primary, called}
use Rattle.va_build.specs.TokensAt.{is_kind, unary_op, binary_op, name_at, literal_at}
use Rattle.va_build.specs.Width.{width}
use Rattle.va_build.proofs.TreesBelow.{IsOf, below, wide}

-- the names of an expression of the program
abbrev pub value_names : Expr → List ℕ
value_names x = names_in (expression_of x)

-- one token
pub alone : {at b : ℕ} → at < b → Span at (at ∷ []) b
alone {at} {b} less = headed (omega arith) (none (omega (arith, less)))

by_law : {a b : ℕ} {x y : Expression} → x ≡ y → Span a (names_in y) b → Span a (names_in x) b
by_law e s = same_span (λ j. names_in (e j)) s

-- one more argument
pub argument_then : {a b c d : ℕ} (x : Arg) (xs : List Arg) → Span a (names_in_value x) b → Span c (names_in_arguments (arguments_of xs)) d → b ≤ c
    → Span a (names_in_arguments (arguments_of (x ∷ xs))) d
argument_then (arg.Text text) xs s t less = since t (let l = spanned s in omega (arith, l, less))
argument_then (arg.Expr e) xs s t less = join s t less

constant_span : (e : Expanded) (at : ℕ) (numeral : Bool) → Span at (value_names (if numeral then literal_at e at else Inf at)) (at + 1)
constant_span e at true = none (omega arith)
constant_span e at false = alone (omega arith)

bare_span : (e : Expanded) (at : ℕ) (who : Callee) → Span at (value_names (bare e at who)) (at + 1)
bare_span e at callee.Function = alone (omega arith)
bare_span e at callee.System = by_law (expression-Call at callee.System (name_at e at) []) (alone (omega arith))

mutual
  pub argument_span : (e : Expanded) (at : ℕ) (t : Tree) → IsOf 7 t → Span at (names_in_value (argument e at t)) (at + width t)
  argument_span e at (node row (subtree value no_parts)) h =
      let k = below 7 (60 ∷ []) h refl in
      reach (expression_span e at value k.0) (omega arith) (omega arith)
  argument_span e at others h = none (omega arith)

  pub arguments_span : (e : Expanded) (at : ℕ) (t : Tree) → IsOf 58 t → Span at (names_in_arguments (arguments_of (arguments e at t))) (at + width t)
  arguments_span e at (node row (subtree first (subtree more no_parts))) h =
      let k = below 58 (7 ∷ 59 ∷ []) h refl in
      reach
      (argument_then (argument e at first) (more_arguments e (at + width first) more) (argument_span e at first k.0) (more_arguments_span e (at + width first) more k.1.0) (omega arith))
      (omega arith) (omega arith)
  arguments_span e at others h = none (omega arith)

  more_arguments_span : (e : Expanded) (at : ℕ) (t : Tree) → IsOf 59 t → Span at (names_in_arguments (arguments_of (more_arguments e at t))) (at + width t)
  more_arguments_span e at (node row (token comma (subtree next (subtree more no_parts)))) h =
      let k = below 59 (7 ∷ 59 ∷ []) h refl in
      reach
      (argument_then (argument e (at + 1) next) (more_arguments e (at + 1 + width next) more) (argument_span e (at + 1) next k.0)
      (more_arguments_span e (at + 1 + width next) more k.1.0) (omega arith))
      (omega arith) (omega arith)
  more_arguments_span e at others h = none (omega arith)

  pub expression_span : (e : Expanded) (at : ℕ) (t : Tree) → IsOf 60 t → Span at (value_names (expression e at t)) (at + width t)
  expression_span e at (node row (subtree operands (subtree choices no_parts))) h =
      let k = below 60 (62 ∷ 61 ∷ []) h refl in
      reach (choice_span e at at (operand e at operands) (at + width operands) choices (operand_span e at operands k.0) k.1.0) (omega arith) (omega arith)
  expression_span e at others h = (let w : 1 ≤ width others = wide 60 1 h refl in alone (omega (arith, w)))

  -- the test's tokens begin at `low`
  choice_span : (e : Expanded) (low first : ℕ) (test : Expr) (at : ℕ) (t : Tree) → Span low (value_names test) at → IsOf 61 t
      → Span low (value_names (choice e first test at t)) (at + width t)
  choice_span e low first test at (node row (token question (subtree a (token colon (subtree b no_parts))))) s h =
      let k = below 61 (60 ∷ 60 ∷ []) h refl in
      by_law (expression-Choose first test (expression e (at + 1) a) (expression e (at + 1 + width a + 1) b))
      (reach (join (join s (expression_span e (at + 1) a k.0) (omega arith)) (expression_span e (at + 1 + width a + 1) b k.1.0) (omega arith)) (omega arith) (omega arith))
  choice_span e low first test at others s h = reach s (omega arith) (omega arith)

  operand_span : (e : Expanded) (at : ℕ) (t : Tree) → IsOf 62 t → Span at (value_names (operand e at t)) (at + width t)
  operand_span e at (node row (subtree first (subtree tail no_parts))) h =
      let k = below 62 (62 ∷ 63 ∷ []) h refl in
      reach (chain_span e at at (operand e at first) (at + width first) tail (operand_span e at first k.0) k.1.0) (omega arith) (omega arith)
  operand_span e at (node row (token sign (subtree signed no_parts))) h =
      let k = below 62 (62 ∷ []) h refl in
      by_law (expression-Unary at (unary_op sign) (operand e (at + 1) signed)) (reach (operand_span e (at + 1) signed k.0) (omega arith) (omega arith))
  operand_span e at (node row (subtree inner no_parts)) h =
      let k = below 62 (77 ∷ []) h refl in
      reach (primary_span e at inner k.0) (omega arith) (omega arith)
  operand_span e at others h = (let w : 1 ≤ width others = wide 62 1 h refl in alone (omega (arith, w)))

  -- the left operand's tokens begin at `low`
  chain_span : (e : Expanded) (low first : ℕ) (left : Expr) (at : ℕ) (t : Tree) → Span low (value_names left) at → IsOf 63 t
      → Span low (value_names (chain e first left at t)) (at + width t)
  chain_span e low first left at (node row (token operator (subtree right (subtree rest no_parts)))) s h =
      let k = below 63 (62 ∷ 63 ∷ []) h refl in
      reach
      (chain_span e low first (Binary first left (binary_op operator) (operand e (at + 1) right)) (at + 1 + width right) rest
      (by_law (expression-Binary first left (binary_op operator) (operand e (at + 1) right)) (join s (operand_span e (at + 1) right k.0) (omega arith))) k.1.0)
      (omega arith) (omega arith)
  chain_span e low first left at others s h = reach s (omega arith) (omega arith)

  primary_span : (e : Expanded) (at : ℕ) (t : Tree) → IsOf 77 t → Span at (value_names (primary e at t)) (at + width t)
  primary_span e at (node row (token k no_parts)) h = reach (constant_span e at (is_kind k kind.Number)) (omega arith) (omega arith)
  primary_span e at (node row (token left (subtree inner (token close no_parts)))) h =
      let k = below 77 (60 ∷ []) h refl in
      by_law (expression-Group at (expression e (at + 1) inner)) (reach (expression_span e (at + 1) inner k.0) (omega arith) (omega arith))
  primary_span e at (node row (token kind_ (subtree call no_parts))) h =
      let k = below 77 (78 ∷ []) h refl in
      reach (called_span e at (callee_of kind_) (at + 1) call (omega arith) k.0) (omega arith) (omega arith)
  primary_span e at others h = (let w : 1 ≤ width others = wide 77 1 h refl in alone (omega (arith, w)))

  called_span : (e : Expanded) (name : ℕ) (who : Callee) (at : ℕ) (t : Tree) → name < at → IsOf 78 t → Span name (value_names (called e name who at t)) (at + width t)
  called_span e name who at (node row (token left (subtree inner (token close no_parts)))) less h =
      let k = below 78 (58 ∷ []) h refl in
      by_law (expression-Call name who (name_at e name) (arguments e (at + 1) inner))
      (headed (omega arith) (reach (arguments_span e (at + 1) inner k.0) (omega (arith, less)) (omega arith)))
  called_span e name who at others less h = reach (bare_span e name who) (omega arith) (omega (arith, less))
