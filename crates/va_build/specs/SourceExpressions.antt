-- The expression that a parse tree stands for (Expressions). Each definition takes the text, the index of the tree's first token,
-- and the tree; its cases are the rows of a nonterminal, in their order, the last of them for all other trees. Where a
-- nonterminal has a part that lies before the tree, that comes first.
use Rattle.std.specs.Prelude.{ℕ, ◌+◌, if◌then◌else◌, List, [], ◌∷◌}
use Rattle.predict.specs.Tree.{Tree, node, no_parts, token, subtree}
use Rattle.va_base.specs.declared.expanded.Expanded.{Expanded}
use Rattle.va_tree.specs.declared.expr.Callee.{Callee}
use Rattle.va_tree.specs.declared.expr.Callee.TheVariants as callee
use Rattle.va_tree.specs.declared.expr.Arg.{Arg}
use Rattle.va_tree.specs.declared.expr.Arg.TheVariants as arg
use Rattle.va_tree.specs.declared.expr.Expr.{Expr}
use Rattle.va_tree.specs.declared.expr.Expr.TheVariants.{Inf, Name, Group, Unary, Binary, Choose, Call}
use Rattle.va_grammar.specs.declared.terminal.Terminal.TheVariants as kind
use Rattle.va_build.specs.TokensAt.{name_at, named, literal_at, is_kind, unary_op, binary_op}
use Rattle.va_build.specs.Width.{width}

-- a numeral, or `inf`, by its kind
abbrev pub constant : Expanded → ℕ → ℕ → Expr
constant e at k = if is_kind k kind.Number then literal_at e at else Inf at

-- a name without parentheses behind it
abbrev pub bare : Expanded → ℕ → Callee → Expr
bare e at callee.Function = Name at (name_at e at)
bare e at callee.System = Call at callee.System (name_at e at) []

-- a word or a system name, by its kind
abbrev pub callee_of : ℕ → Callee
callee_of k = if is_kind k kind.Name then callee.Function else callee.System

abbrev mutual
  -- Argument: an expression, or a string
  pub argument : Expanded → ℕ → Tree → Arg
  argument e at (node row (subtree value no_parts)) = arg.Expr (expression e at value)
  argument e at others = arg.Text (named e at)

  -- Arguments: the first, and more
  pub arguments : Expanded → ℕ → Tree → List Arg
  arguments e at (node row (subtree first (subtree more no_parts))) = argument e at first ∷ more_arguments e (at + width first) more
  arguments e at others = []

  -- MoreArguments: a comma, one, and more
  pub more_arguments : Expanded → ℕ → Tree → List Arg
  more_arguments e at (node row (token comma (subtree next (subtree more no_parts)))) = argument e (at + 1) next ∷ more_arguments e (at + 1 + width next) more
  more_arguments e at others = []

  -- Expression: operands, and the choices behind them
  pub expression : Expanded → ℕ → Tree → Expr
  expression e at (node row (subtree operands (subtree choices no_parts))) = choice e at (operand e at operands) (at + width operands) choices
  expression e at others = Inf at

  -- ConditionalTail: `?`, an expression, `:` and another one. The test begins at the first index, the tail at the second.
  pub choice : Expanded → ℕ → Expr → ℕ → Tree → Expr
  choice e first test at (node row (token question (subtree a (token colon (subtree b no_parts))))) = Choose first test (expression e (at + 1) a) (expression e (at + 1 + width a + 1) b)
  choice e first test at others = test

  -- Or, And, Equality, Relation, Sum, Product and Power: an operand, and the operators and operands behind it; Unary: a sign and
  -- its operand, or a primary
  pub operand : Expanded → ℕ → Tree → Expr
  operand e at (node row (subtree first (subtree tail no_parts))) = chain e at (operand e at first) (at + width first) tail
  operand e at (node row (token sign (subtree signed no_parts))) = Unary at (unary_op sign) (operand e (at + 1) signed)
  operand e at (node row (subtree inner no_parts)) = primary e at inner
  operand e at others = Inf at

  -- OrTail, AndTail, EqualityTail, RelationTail, SumTail, ProductTail and PowerTail: an operator, its right operand, and the rest.
  -- The left operand comes first and takes the right one in, so operators associate to the left.
  pub chain : Expanded → ℕ → Expr → ℕ → Tree → Expr
  chain e first left at (node row (token operator (subtree right (subtree rest no_parts)))) = chain e first (Binary first left (binary_op operator) (operand e (at + 1) right)) (at + 1 + width right) rest
  chain e first left at others = left

  -- Primary: a numeral or `inf`, an expression in parentheses, or a name and the arguments behind it
  pub primary : Expanded → ℕ → Tree → Expr
  primary e at (node row (token k no_parts)) = constant e at k
  primary e at (node row (token left (subtree inner (token close no_parts)))) = Group at (expression e (at + 1) inner)
  primary e at (node row (token k (subtree call no_parts))) = called e at (callee_of k) (at + 1) call
  primary e at others = Inf at

  -- CallArguments: arguments in parentheses, or nothing. The name stands at the first index.
  pub called : Expanded → ℕ → Callee → ℕ → Tree → Expr
  called e name who at (node row (token left (subtree inner (token close no_parts)))) = Call name who (name_at e name) (arguments e (at + 1) inner)
  called e name who at others = bare e name who
