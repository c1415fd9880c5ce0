-- The statement that a parse tree stands for (Analog procedural block). The definitions read as those of expressions do.
use Rattle.std.specs.Prelude.{ℕ, ◌+◌, if◌then◌else◌, List, [], ◌∷◌, ◌++◌, Option, Some, None}
use Rattle.predict.specs.Tree.{Tree, node, no_parts, token, subtree}
use Rattle.va_base.specs.declared.expanded.Expanded.{Expanded}
use Rattle.va_tree.specs.declared.name.NameAt.{NameAt}
use Rattle.va_tree.specs.declared.expr.Arg.{Arg}
use Rattle.va_tree.specs.declared.expr.Expr.{Expr}
use Rattle.va_tree.specs.declared.module.Ty.{Ty}
use Rattle.va_tree.specs.declared.module.Ty.TheVariants.{Integer, Real}
use Rattle.va_tree.specs.declared.module.Declaration.{Declaration}
use Rattle.va_tree.specs.declared.module.Variable.{Variable}
use Rattle.va_tree.specs.declared.stmt.Assignment.{Assignment}
use Rattle.va_tree.specs.declared.stmt.EventKind.{EventKind}
use Rattle.va_tree.specs.declared.stmt.EventKind.TheVariants.{InitialStep, FinalStep}
use Rattle.va_tree.specs.declared.stmt.CaseItem.{CaseItem}
use Rattle.va_tree.specs.declared.stmt.CaseDefault.{CaseDefault}
use Rattle.va_tree.specs.declared.stmt.Stmt.{Stmt}
use Rattle.va_tree.specs.declared.stmt.Stmt.TheVariants.{Null, Block, If, Case, For, While, Repeat, Event, Assign, Contribute, Task}
use Rattle.va_grammar.specs.declared.terminal.Terminal.TheVariants as kind
use Rattle.va_build.specs.TokensAt.{name_at, named, is_kind}
use Rattle.va_build.specs.SourceExpressions.{arguments, expression}
use Rattle.va_build.specs.Width.{width}

-- SecondNode: a comma and a name, or nothing
abbrev pub second_node : Expanded → ℕ → Tree → Option NameAt
second_node e at (node row (token comma (token name no_parts))) = Some (named e (at + 1))
second_node e at others = None

-- a type, by the kind of its keyword
abbrev pub type_of : ℕ → Ty
type_of k = if is_kind k kind.Real then Real else Integer

-- Initialiser: `=` and an expression, or nothing
abbrev pub initialiser : Expanded → ℕ → Tree → Option Expr
initialiser e at (node row (token equals (subtree value no_parts))) = Some (expression e (at + 1) value)
initialiser e at others = None

-- Variable: a name, and maybe an initialiser
abbrev pub variable : Expanded → ℕ → Tree → List Variable
variable e at (node row (token name (subtree value no_parts))) = (let v : Variable = record { name = named e at; initialiser = initialiser e (at + 1) value } in v ∷ [])
variable e at others = []

-- MoreVariables: a comma, one, and more
abbrev pub more_variables : Expanded → ℕ → Tree → List Variable
more_variables e at (node row (token comma (subtree next (subtree more no_parts)))) = variable e (at + 1) next ++ more_variables e (at + 1 + width next) more
more_variables e at others = []

-- Variables: the first, and more
abbrev pub variables : Expanded → ℕ → Tree → List Variable
variables e at (node row (subtree first (subtree more no_parts))) = variable e at first ++ more_variables e (at + width first) more
variables e at others = []

-- Label: `:` and a name, or nothing
abbrev pub label : Expanded → ℕ → Tree → Option NameAt
label e at (node row (token colon (token name no_parts))) = Some (named e (at + 1))
label e at others = None

-- Declaration: `real` or `integer`, variables, and `;`
abbrev pub declaration : Expanded → ℕ → Tree → List Declaration
declaration e at (node row (token k (subtree vars (token semicolon no_parts)))) = (let d : Declaration = record { at = at; ty = type_of k; variables = variables e (at + 1) vars } in d ∷ [])
declaration e at others = []

-- Declarations: one, and the rest
abbrev pub declarations : Expanded → ℕ → Tree → List Declaration
declarations e at (node row (subtree first (subtree rest no_parts))) = declaration e at first ++ declarations e (at + width first) rest
declarations e at others = []

-- MoreCaseValues: a comma, an expression, and more
abbrev pub more_values : Expanded → ℕ → Tree → List Expr
more_values e at (node row (token comma (subtree next (subtree more no_parts)))) = expression e (at + 1) next ∷ more_values e (at + 1 + width next) more
more_values e at others = []

-- MoreEventArguments: a comma, a string, and more
abbrev pub more_analyses : Expanded → ℕ → Tree → List NameAt
more_analyses e at (node row (token comma (token text (subtree more no_parts)))) = named e (at + 1) ∷ more_analyses e (at + 2) more
more_analyses e at others = []

-- EventArguments: strings in parentheses, or nothing
abbrev pub analyses : Expanded → ℕ → Tree → List NameAt
analyses e at (node row (token left (token text (subtree more (token close no_parts))))) = named e (at + 1) ∷ more_analyses e (at + 2) more
analyses e at others = []

abbrev pub event_of : ℕ → EventKind
event_of k = if is_kind k kind.InitialStep then InitialStep else FinalStep

-- Event: `initial_step` or `final_step`, which tells the event, and the analyses behind it
abbrev pub event_kind : Tree → EventKind
event_kind (node row (token k (subtree inner no_parts))) = event_of k
event_kind others = FinalStep

abbrev pub event_analyses : Expanded → ℕ → Tree → List NameAt
event_analyses e at (node row (token k (subtree inner no_parts))) = analyses e (at + 1) inner
event_analyses e at others = []

-- what a loop or a wait is, by the kind of its first token, what its parentheses hold, and its body
abbrev pub repeated : Expanded → ℕ → ℕ → Tree → Stmt → Stmt
repeated e at k inner body =
    if is_kind k kind.While then While at (expression e (at + 2) inner) body
    else (if is_kind k kind.Repeat then Repeat at (expression e (at + 2) inner) body
    else Event at (event_kind inner) (event_analyses e (at + 2) inner) body)

-- StatementRest: `=`, an expression and `;`, or the access of a contribution, `<+`, an expression and `;`. The name before it
-- stands at the first index.
abbrev pub named_statement : Expanded → ℕ → ℕ → Tree → Stmt
named_statement e name at (node row (token equals (subtree value (token semicolon no_parts)))) = Assign name (name_at e name) (expression e (at + 1) value)
named_statement e name at (node row (token left (token first (subtree second (token close (token contributes (subtree value (token semicolon no_parts)))))))) = Contribute name (name_at e name) (named e (at + 1)) (second_node e (at + 2) second) (expression e (at + 2 + width second + 2) value)
named_statement e name at others = Null name

-- TaskArguments: arguments in parentheses, or nothing
abbrev pub task_arguments : Expanded → ℕ → Tree → List Arg
task_arguments e at (node row (token left (subtree inner (token close no_parts)))) = arguments e (at + 1) inner
task_arguments e at others = []

abbrev pub assignment : Expanded → ℕ → ℕ → Tree → Assignment
assignment e name at value = record { target = named e name; value = expression e at value }

-- For: the index of its first token, and the parts of its head. The test begins two tokens behind the first value, and the
-- second assignment two behind the test, with its name.
abbrev pub for_statement : Expanded → ℕ → Tree → Tree → Tree → Stmt → Stmt
for_statement e at first test step body =
    let middle : ℕ = at + 4 + width first + 1 in
    let last : ℕ = middle + width test + 1 in
    For at (assignment e (at + 2) (at + 4) first) (expression e middle test) (assignment e last (last + 2) step) body

-- an item of a `case` with its values
abbrev pub valued : Expanded → ℕ → Tree → Tree → Stmt → CaseItem
valued e at first more body = record { at = at; values = expression e at first ∷ more_values e (at + width first) more; body = body }

-- a default of a `case`
abbrev pub defaulted : ℕ → Stmt → CaseDefault
defaulted at body = record { at = at; body = body }

abbrev mutual
  -- Statement: a block; `if`; `case`; `for`; `while`, `repeat` or an event; a name and what follows it; a task; or `;`
  pub statement : Expanded → ℕ → Tree → Stmt
  statement e at (node row (token begin (subtree name (subtree vars (subtree body (token end no_parts)))))) = Block at (label e (at + 1) name) (declarations e (at + 1 + width name) vars) (statements e (at + 1 + width name + width vars) body)
  statement e at (node row (token if_ (token left (subtree test (token close (subtree a (subtree b no_parts))))))) = If at (expression e (at + 2) test) (statement e (at + 2 + width test + 1) a) (else_branch e (at + 2 + width test + 1 + width a) b)
  statement e at (node row (token case (token left (subtree selector (token close (subtree items (token endcase no_parts))))))) = Case at (expression e (at + 2) selector) (case_items e (at + 2 + width selector + 1) items) (case_defaults e (at + 2 + width selector + 1) items)
  statement e at (node row (token for (token left (token target (token equals (subtree first (token semicolon (subtree test (token semicolon' (token target' (token equals' (subtree step (token close (subtree body no_parts)))))))))))))) = for_statement e at first test step (statement e (at + 4 + width first + 1 + width test + 3 + width step + 1) body)
  statement e at (node row (token k (token left (subtree inner (token close (subtree body no_parts)))))) = repeated e at k inner (statement e (at + 2 + width inner + 1) body)
  statement e at (node row (token name (subtree rest no_parts))) = named_statement e at (at + 1) rest
  statement e at (node row (token system (subtree args (token semicolon no_parts)))) = Task at (name_at e at) (task_arguments e (at + 1) args)
  statement e at others = Null at

  -- Statements: one, and the rest
  pub statements : Expanded → ℕ → Tree → List Stmt
  statements e at (node row (subtree first (subtree rest no_parts))) = statement e at first ∷ statements e (at + width first) rest
  statements e at others = []

  -- ElseBranch: `else` and a statement, or nothing
  pub else_branch : Expanded → ℕ → Tree → Option Stmt
  else_branch e at (node row (token else_ (subtree body no_parts))) = Some (statement e (at + 1) body)
  else_branch e at others = None

  -- CaseItems: of an item with values, that item; and the rest
  pub case_items : Expanded → ℕ → Tree → List CaseItem
  case_items e at (node row (subtree first (subtree rest no_parts))) = case_item e at first ++ case_items e (at + width first) rest
  case_items e at others = []

  -- CaseItem: values, `:` and a statement
  pub case_item : Expanded → ℕ → Tree → List CaseItem
  case_item e at (node row (subtree first (subtree more (token colon (subtree body no_parts))))) = valued e at first more (statement e (at + width first + width more + 1) body) ∷ []
  case_item e at others = []

  -- CaseItems: of a default, that default; and the rest
  pub case_defaults : Expanded → ℕ → Tree → List CaseDefault
  case_defaults e at (node row (subtree first (subtree rest no_parts))) = case_default e at first ++ case_defaults e (at + width first) rest
  case_defaults e at others = []

  -- CaseItem: `default`, `:` or nothing, and a statement
  pub case_default : Expanded → ℕ → Tree → List CaseDefault
  case_default e at (node row (token default (subtree colon (subtree body no_parts)))) = defaulted at (statement e (at + 1 + width colon) body) ∷ []
  case_default e at others = []
