-- The expressions of parts of statements, and their types.
use Rattle.std.specs.Prelude.{List, [], ◌++◌, Option, Some, None, map, flat_map}
use Rattle.alg_laws.specs.declared.number.Ty.{Ty}
use Rattle.va_tree.specs.declared.stmt.CaseItem.{CaseItem}
use Rattle.va_tree.specs.declared.stmt.Stmt.{Stmt}
use Rattle.va_tree.specs.Expressions.{Expression, expression_of}
use Rattle.va_tree.specs.Statements.{Statement, statement_of}
use Rattle.va_sem.specs.LookedAt.{looked_at, looked_at_in_statement}
use Rattle.va_sem.specs.Typing.{Typing, types_in, types_in_statement}
use Rattle.va_sem.specs.TypesFaults.{expression_faults}
use Rattle.va_types.specs.declared.found.Found.{Found}
use Rattle.va_types.specs.Found.{Finds}

-- Types are found, and the least fault of these expressions.
abbrev pub Walks : Typing → List Ty → List Expression → Found → Found → Type 0
Walks t types es old new = Finds types (flat_map (expression_faults t) es) old new

-- a walk over whole expressions, and over a statement
abbrev pub WalksOver : Typing → List Expression → Found → Found → Type 0
WalksOver t es old new = Walks t (flat_map (types_in t) es) (flat_map looked_at es) old new

abbrev pub WalksIn : Typing → Statement → Found → Found → Type 0
WalksIn t s old new = Walks t (types_in_statement t s) (looked_at_in_statement s) old new

-- the expressions of an item of a `case`, and what stands behind an `else`
abbrev pub types_in_item_of : Typing → CaseItem → List Ty
types_in_item_of t i = flat_map (types_in t) (map expression_of i.values) ++ types_in_statement t (statement_of i.body)

abbrev pub looked_at_in_item_of : CaseItem → List Expression
looked_at_in_item_of i = flat_map looked_at (map expression_of i.values) ++ looked_at_in_statement (statement_of i.body)

abbrev pub types_in_else : Typing → Option Stmt → List Ty
types_in_else t None = []
types_in_else t (Some s) = types_in_statement t (statement_of s)

abbrev pub looked_at_in_else : Option Stmt → List Expression
looked_at_in_else None = []
looked_at_in_else (Some s) = looked_at_in_statement (statement_of s)
