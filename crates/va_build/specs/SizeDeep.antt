-- Where the first node of depth 501 begins: among nodes, and in expressions, statements and what holds them.
use Rattle.std.specs.Prelude.{ℕ, ◌+◌, ◌==◌, min, suc, zero, if◌then◌else◌, List, [], ◌∷◌, Option, Some, None, flat_map}
use Rattle.va_tree.specs.declared.expr.Arg.{Arg}
use Rattle.va_tree.specs.declared.expr.Arg.TheVariants as arg
use Rattle.va_tree.specs.declared.expr.Expr.{Expr}
use Rattle.va_tree.specs.declared.module.Declaration.{Declaration}
use Rattle.va_tree.specs.declared.module.Variable.{Variable}
use Rattle.va_tree.specs.declared.stmt.CaseDefault.{CaseDefault}
use Rattle.va_tree.specs.declared.stmt.CaseItem.{CaseItem}
use Rattle.va_tree.specs.declared.stmt.Stmt.{Stmt}
use Rattle.va_tree.specs.Declarations.{initialisers, declared}
use Rattle.va_tree.specs.Expressions.{Expression, expression_of, arguments_of}
use Rattle.va_tree.specs.Nodes.{Node, nodes_of, nodes_of_arguments, nodes_of_statement, nodes_of_statements, nodes_of_items, nodes_of_defaults}
use Rattle.va_tree.specs.Parts.{Part, expression, statement}
use Rattle.va_tree.specs.Statements.{statement_of, statements_of, items_of, defaults_of}

-- the lower of two indices that may be missing
abbrev pub earlier : Option ℕ → Option ℕ → Option ℕ
earlier None b = b
earlier (Some a) None = Some a
earlier (Some a) (Some b) = Some (min a b)

-- an index, where the depth there is 501
abbrev pub if_deep : ℕ → ℕ → Option ℕ
if_deep at depth = if depth == 501 then Some at else None

-- the lowest index at which a node of depth 501 begins
abbrev pub first_deep : List Node → Option ℕ
first_deep [] = None
first_deep (n ∷ rest) = earlier (if_deep n.at n.depth) (first_deep rest)

-- the same of an expression, a statement and so on, of this depth
abbrev pub deep_expression : ℕ → Expr → Option ℕ
deep_expression depth e = first_deep (nodes_of depth (expression_of e))

abbrev pub deep_arguments : ℕ → List Arg → Option ℕ
deep_arguments depth args = first_deep (nodes_of_arguments depth (arguments_of args))

abbrev pub deep_argument : ℕ → Arg → Option ℕ
deep_argument depth (arg.Text text) = None
deep_argument depth (arg.Expr e) = deep_expression depth e

abbrev pub deep_values : ℕ → List Expression → Option ℕ
deep_values depth values = first_deep (flat_map (nodes_of depth) values)

abbrev pub deep_variables : ℕ → List Variable → Option ℕ
deep_variables depth variables = deep_values depth (initialisers variables)

abbrev pub deep_declarations : ℕ → List Declaration → Option ℕ
deep_declarations depth declarations = deep_values depth (declared declarations)

abbrev pub deep_statement : ℕ → Stmt → Option ℕ
deep_statement depth s = first_deep (nodes_of_statement depth (statement_of s))

abbrev pub deep_statements : ℕ → List Stmt → Option ℕ
deep_statements depth body = first_deep (nodes_of_statements depth (statements_of body))

abbrev pub deep_else : ℕ → Option Stmt → Option ℕ
deep_else depth None = None
deep_else depth (Some s) = deep_statement depth s

abbrev pub deep_items : ℕ → List CaseItem → Option ℕ
deep_items depth items = first_deep (nodes_of_items depth (items_of items))

abbrev pub deep_defaults : ℕ → List CaseDefault → Option ℕ
deep_defaults depth defaults = first_deep (nodes_of_defaults depth (defaults_of defaults))

-- the nodes of an outermost statement or expression, where its depth is this one
abbrev pub nodes_from : ℕ → Part → List Node
nodes_from depth (expression e) = nodes_of depth e
nodes_from depth (statement s) = nodes_of_statement depth s

abbrev pub deep_parts : ℕ → List Part → Option ℕ
deep_parts depth parts = first_deep (flat_map (nodes_from depth) parts)

-- Of nodes that begin at one token, each in the one before: the first has this depth, and there are so many.
abbrev pub deep_row : ℕ → ℕ → ℕ → Option ℕ
deep_row at depth zero = None
deep_row at depth (suc count) = earlier (deep_row at depth count) (if_deep at (depth + count))
