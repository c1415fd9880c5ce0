-- Expressions as contracts see them: without boxes and the shapes of lists. Each has the index of its first token.
use Rattle.std.specs.Prelude.{ℕ, Bool, List, [], ◌∷◌}
use Rattle.va_base.specs.declared.exact.Decimal.{Decimal}
use Rattle.va_tree.specs.declared.name.NameAt.{NameAt}
use Rattle.va_tree.specs.declared.expr.UnaryOp.{UnaryOp}
use Rattle.va_tree.specs.declared.expr.BinaryOp.{BinaryOp}
use Rattle.va_tree.specs.declared.expr.Callee.{Callee}
use Rattle.va_tree.specs.declared.expr.Expr.{Expr, Literal, Inf, Name, Group', Unary', Binary', Choose', Call', end_of-Expr, more_of-Expr, Row_of-Arg, end_of-Arg, more_of-Arg}
use Rattle.va_tree.specs.declared.expr.Arg.{Arg}
use Rattle.va_tree.specs.declared.expr.Arg.TheVariants as arg

mutual
  -- an expression (Expressions)
  pub data Expression : Type 0 where
    -- a numeral: its exact value, and whether its type is integer
    literal : ℕ → Decimal → Bool → Expression
    infinity : ℕ → Expression
    name : ℕ → List ℕ → Expression
    -- an expression in parentheses
    group : ℕ → Expression → Expression
    unary : ℕ → UnaryOp → Expression → Expression
    binary : ℕ → Expression → BinaryOp → Expression → Expression
    -- the test, what it chooses where it holds, and what else
    choose : ℕ → Expression → Expression → Expression → Expression
    call : ℕ → Callee → List ℕ → Arguments → Expression

  -- the arguments of a call or a task, in order: strings and expressions
  pub data Arguments : Type 0 where
    no_more : Arguments
    text_then : NameAt → Arguments → Arguments
    expression_then : Expression → Arguments → Arguments

-- what an expression of the program is
abbrev mutual
  pub expression_of : Expr → Expression
  expression_of (Literal at value integer) = literal at value integer
  expression_of (Inf at) = infinity at
  expression_of (Name at bytes) = name at bytes
  expression_of (Group' at s (more_of-Expr inner end_of-Expr)) = group at (expression_of inner)
  expression_of (Unary' at op s (more_of-Expr operand end_of-Expr)) = unary at op (expression_of operand)
  expression_of (Binary' at s (more_of-Expr left end_of-Expr) op t (more_of-Expr right end_of-Expr)) = binary at (expression_of left) op (expression_of right)
  expression_of (Choose' at s (more_of-Expr test end_of-Expr) t (more_of-Expr a end_of-Expr) u (more_of-Expr b end_of-Expr)) = choose at (expression_of test) (expression_of a) (expression_of b)
  expression_of (Call' at callee bytes s args) = call at callee bytes (arguments_in args)

  pub arguments_in : {n : _} → Row_of-Arg n → Arguments
  arguments_in end_of-Arg = no_more
  arguments_in (more_of-Arg (arg.Text text) rest) = text_then text (arguments_in rest)
  arguments_in (more_of-Arg (arg.Expr e) rest) = expression_then (expression_of e) (arguments_in rest)

-- what a list of arguments of the program is
abbrev pub arguments_of : List Arg → Arguments
arguments_of [] = no_more
arguments_of (arg.Text text ∷ rest) = text_then text (arguments_of rest)
arguments_of (arg.Expr e ∷ rest) = expression_then (expression_of e) (arguments_of rest)

-- the index of an expression's first token
abbrev pub at_of : Expression → ℕ
at_of (literal at value integer) = at
at_of (infinity at) = at
at_of (name at bytes) = at
at_of (group at inner) = at
at_of (unary at op operand) = at
at_of (binary at left op right) = at
at_of (choose at test a b) = at
at_of (call at callee bytes args) = at
