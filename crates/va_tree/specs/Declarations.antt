-- The expressions of declarations.
use Rattle.std.specs.Prelude.{List, [], ◌∷◌, ◌++◌, Option, Some, None}
use Rattle.va_tree.specs.declared.expr.Expr.{Expr}
use Rattle.va_tree.specs.declared.module.Declaration.{Declaration}
use Rattle.va_tree.specs.declared.module.Variable.{Variable}
use Rattle.va_tree.specs.Expressions.{Expression, expression_of}

-- an expression that may be missing, as a list of one or none
abbrev pub if_there : Option Expr → List Expression
if_there None = []
if_there (Some e) = expression_of e ∷ []

-- the initialisers of variables, in order
abbrev pub initialisers : List Variable → List Expression
initialisers [] = []
initialisers (variable ∷ rest) = if_there variable.initialiser ++ initialisers rest

-- the initialisers of declarations, in order
abbrev pub declared : List Declaration → List Expression
declared [] = []
declared (declaration ∷ rest) = initialisers declaration.variables ++ declared rest
