-- What walks over expressions and statements find, as lists. No public contract names it: it serves proofs inside this crate.
use Rattle.std.specs.Prelude.{◌≡◌, ℕ, zero, suc, ◌==◌, ◌&&◌, ◌||◌, Bool, true, false, not, List, [], ◌∷◌, ◌++◌, Option, Some, None, if◌then◌else◌, map, flat_map}
use Rattle.std.specs.List.{list_any}
use Rattle.va_tree.specs.declared.expr.Arg.{Arg}
use Rattle.va_tree.specs.declared.expr.Arg.TheVariants as arg
use Rattle.va_tree.specs.Expressions.{Expression, expression_of}
use Rattle.va_sem.specs.declared.branch.BranchKind.{BranchKind}
use Rattle.va_sem.specs.declared.branch.BranchKind.TheVariants.{Flow, Collapsing, Potential}
use Rattle.va_sem.specs.declared.findings.Finding.{Finding}
use Rattle.va_sem.specs.declared.findings.Given.{Given as GivenRecord}
use Rattle.va_sem.specs.declared.findings.Finding.TheVariants.{Biased, FlowRead, Given}
use Rattle.std.specs.BTreeMap as tree
use Rattle.std.specs.Ordering.{nat_cmp}
use Rattle.va_tree.specs.declared.module.Module.{Module}
use Rattle.va_sem.specs.declared.surveys.Survey.{Survey}
use Rattle.va_sem.specs.declared.names.ModuleNames.{ModuleNames}
use Rattle.va_sem.specs.Typing.{meaning_at}
use Rattle.va_sem.specs.declared.names.Meaning.{Meaning}
use Rattle.va_sem.specs.declared.names.Meaning.TheVariants as means
use Rattle.va_tree.specs.declared.expr.Expr.{Expr}
use Rattle.va_tree.specs.declared.module.Declaration.{Declaration}
use Rattle.va_tree.specs.declared.module.Variable.{Variable}
use Rattle.va_tree.specs.declared.stmt.CaseDefault.{CaseDefault}
use Rattle.va_tree.specs.declared.stmt.CaseItem.{CaseItem}
use Rattle.va_tree.specs.declared.stmt.Stmt.{Stmt}
use Rattle.va_tree.specs.declared.module.Item.{Item}
use Rattle.va_tree.specs.Declarations.{declared}
use Rattle.va_tree.specs.Statements.{Statement, null, block, only_if, if_else, cases, for_loop, while_loop, repeat_loop, event, assign, contribute, task, statement_of}
use Rattle.va_sem.specs.Declarations.{analog_body, analog_bodies}
use Rattle.va_sem.specs.LookedAt.{looked_at}
use Rattle.va_sem.specs.rules.Biased.{is_biased, analysis_of}
use Rattle.va_sem.specs.rules.BranchKinds.{is_zero, always_contributes, kind_of}
use Rattle.va_sem.specs.rules.Values.{Purpose, assigned, contributed, tested, initial, Around, under, looped, Value, value_for, tests_of, is_evaluated, values_in, values_in_statements, values_in_items, values_in_defaults}
use Rattle.va_sem.specs.rules.Uses.{meaning_of, is_access, is_variable_in}

abbrev pub looked_at_arg : Arg → List Expression
looked_at_arg (arg.Text text) = []
looked_at_arg (arg.Expr e) = looked_at (expression_of e)

-- an argument, if some number of those to be looked at is left
abbrev pub looked_at_if : ℕ → Arg → List Expression
looked_at_if zero a = []
looked_at_if (suc left) a = looked_at_arg a

-- so many arguments from the first on
abbrev pub looked_at_first : ℕ → List Arg → List Expression
looked_at_first zero args = []
looked_at_first (suc n) [] = []
looked_at_first (suc n) (a ∷ rest) = looked_at_arg a ++ looked_at_first n rest

-- what the names of some expressions mean
abbrev pub meanings_in : (ℕ → Option Meaning) → List Expression → List (Option Meaning)
meanings_in meaning = map (meaning_of meaning)

abbrev pub flows_read : Option Meaning → List Finding
flows_read (Some (means.Access branch turned true)) = FlowRead branch ∷ []
flows_read _ = []

-- the values that a statement asks for itself, before the statements in it
abbrev pub own_values : Around → Statement → List Value
own_values around (null at) = []
own_values around (block at label declarations body) = map (value_for around initial) (declared declarations)
own_values around (only_if at test a) = value_for around tested test ∷ []
own_values around (if_else at test a b) = value_for around tested test ∷ []
own_values around (cases at selector items otherwise) = map (value_for around tested) (selector ∷ tests_of items)
own_values around (for_loop at target first test target' step body) =
    value_for around tested test
    ∷ value_for (looped test around) (assigned target.at) first
    ∷ value_for (looped test around) (assigned target'.at) step
    ∷ []
own_values around (while_loop at test body) = value_for around tested test ∷ []
own_values around (repeat_loop at count body) = value_for around tested count ∷ []
own_values around (event at kind analyses body) = []
own_values around (assign at target value) = value_for around (assigned at) value ∷ []
own_values around (contribute at access first second value) = value_for around (contributed at) value ∷ []
own_values around (task at bytes args) = []

-- what is around the statements in a statement
abbrev pub around_inner : Statement → Around → Around
around_inner (null at) around = around
around_inner (block at label declarations body) around = around
around_inner (only_if at test a) around = under (test ∷ []) around
around_inner (if_else at test a b) around = under (test ∷ []) around
around_inner (cases at selector items otherwise) around = under (selector ∷ tests_of items) around
around_inner (for_loop at target first test target' step body) around = looped test around
around_inner (while_loop at test body) around = looped test around
around_inner (repeat_loop at count body) around = looped count around
around_inner (event at kind analyses body) around = around
around_inner (assign at target value) around = around
around_inner (contribute at access first second value) around = around
around_inner (task at bytes args) around = around

-- the values that the statements in a statement ask for, with this around them
abbrev pub inner_values : Statement → Around → List Value
inner_values (null at) around = []
inner_values (block at label declarations body) around = values_in_statements around body
inner_values (only_if at test a) around = values_in around a
inner_values (if_else at test a b) around = values_in around a ++ values_in around b
inner_values (cases at selector items otherwise) around = values_in_items around items ++ values_in_defaults around otherwise
inner_values (for_loop at target first test target' step body) around = values_in around body
inner_values (while_loop at test body) around = values_in around body
inner_values (repeat_loop at count body) around = values_in around body
inner_values (event at kind analyses body) around = if is_evaluated kind then values_in around body else []
inner_values (assign at target value) around = []
inner_values (contribute at access first second value) around = []
inner_values (task at bytes args) around = []

-- whether a name makes an expression biased
abbrev pub reads_biased : (ℕ → Bool) → Option Meaning → Bool
reads_biased biased m = is_access m || is_variable_in biased m

-- A walk over names with these meanings adds the flows that they read, and answers whether one of them is biased.
pub record IsRead (biased : ℕ → Bool) (meanings : List (Option Meaning)) (old new : List Finding) (answer : Bool) : Type 0 where
  pub answer_is : answer ≡ list_any (reads_biased biased) meanings
  pub found : new ≡ old ++ flat_map flows_read meanings

-- The same walk over a condition, under others of which some is biased or none, answers whether one of all is biased.
pub record IsTested (biased : ℕ → Bool) (under : Bool) (meanings : List (Option Meaning)) (old new : List Finding) (answer : Bool) : Type 0 where
  pub answer_is : answer ≡ list_any (reads_biased biased) meanings || under
  pub found : new ≡ old ++ flat_map flows_read meanings

-- the expressions in an expression, in the values of an item of a `case`, in an initialiser, and in a declaration
abbrev pub in_expr : Expr → List Expression
in_expr e = looked_at (expression_of e)

abbrev pub in_item : CaseItem → List Expression
in_item i = flat_map in_expr i.values

abbrev pub in_initialiser : Option Expr → List Expression
in_initialiser None = []
in_initialiser (Some e) = in_expr e

abbrev pub in_variable : Variable → List Expression
in_variable v = in_initialiser v.initialiser

abbrev pub in_declaration : Declaration → List Expression
in_declaration d = flat_map in_variable d.variables

abbrev pub variable_found : Bool → Option Meaning → List Finding
variable_found true (Some (means.Var variable)) = Biased variable ∷ []
variable_found _ _ = []

abbrev pub contribution_found : ℕ → Bool → Option Meaning → List Finding
contribution_found at collapses (Some (means.Access branch turned flow)) =
    Given (record { at = at; branch = branch; is_flow = flow; may_collapse = collapses }) ∷ []
contribution_found at collapses _ = []

module _ (meaning : ℕ → Option Meaning) (biased : ℕ → Bool) where
  abbrev pub flows_in : Expression → List Finding
  flows_in e = flat_map flows_read (meanings_in meaning (looked_at e))

  abbrev pub any_biased : List Expression → Bool
  any_biased = list_any (is_biased meaning biased)

  abbrev pub purpose_found : Purpose → Expression → List Expression → List Finding
  purpose_found (assigned at) e conditions = variable_found (is_biased meaning biased e || any_biased conditions) (meaning at)
  purpose_found (contributed at) e conditions = contribution_found at (is_zero e && not (any_biased conditions)) (meaning at)
  purpose_found tested e conditions = []
  purpose_found initial e conditions = []

  -- what a value tells: the flows that it reads, and what it is for
  abbrev pub found_by : Value → List Finding
  found_by v = flows_in v.expression ++ purpose_found v.purpose v.expression v.around.conditions

  -- Reading what a statement evaluates itself adds what these values tell, and answers whether a condition over the statements in it
  -- is biased.
  abbrev pub Enters : Bool → Statement → List Finding → List Finding → Bool → Type 0
  Enters under s old new inside =
      (around : Around) → under ≡ any_biased around.conditions
      → (new ≡ old ++ flat_map found_by (own_values around s)) × (inside ≡ any_biased (around_inner s around).conditions)

  -- A walk under conditions of which some is biased or none, adds what values tell.
  abbrev pub Visits : Bool → (Around → List Value) → List Finding → List Finding → Type 0
  Visits under values old new = (around : Around) → under ≡ any_biased around.conditions → new ≡ old ++ flat_map found_by (values around)

abbrev pub values_in_else : Around → Option Stmt → List Value
values_in_else around None = []
values_in_else around (Some s) = values_in around (statement_of s)

-- the statements of the analogue block that an item is, and those of several items
abbrev pub item_blocks : Item → List Statement
item_blocks i = analog_body i.body

abbrev pub blocks_of : List Item → List Statement
blocks_of = flat_map item_blocks

-- whether a finding is that a variable is biased
abbrev pub marks : ℕ → Finding → Bool
marks variable (Biased other) = other == variable
marks variable (FlowRead branch) = false
marks variable (Given given) = false

-- whether every path through an `else` contributes, and whether a `case` has a default
abbrev pub else_contributes : (ℕ → Option Meaning) → ℕ → Option Stmt → Bool
else_contributes meaning branch None = false
else_contributes meaning branch (Some s) = always_contributes meaning branch (statement_of s)

abbrev pub some_default : List CaseDefault → Bool
some_default [] = false
some_default (d ∷ rest) = true

-- the contribution that a finding is, and what those of a branch are
abbrev pub given_in : Finding → List GivenRecord
given_in (Given given) = given ∷ []
given_in (Biased variable) = []
given_in (FlowRead branch) = []

abbrev pub flow_to : ℕ → GivenRecord → Bool
flow_to branch g = g.branch == branch && g.is_flow

abbrev pub potential_to : ℕ → GivenRecord → Bool
potential_to branch g = g.branch == branch && not g.is_flow

-- a potential of the branch may collapse it
abbrev pub collapses_if_to : ℕ → GivenRecord → Bool
collapses_if_to branch g = not (potential_to branch g) || g.may_collapse

abbrev pub reads_flow_of : ℕ → Finding → Bool
reads_flow_of branch (FlowRead other) = other == branch
reads_flow_of branch (Biased variable) = false
reads_flow_of branch (Given given) = false

-- The kind of a branch, by whether a potential is contributed, whether each may collapse it, whether its flow is read, whether a
-- flow is contributed, and whether every path contributes.
abbrev pub kind_by : Bool → Bool → Bool → Bool → Bool → Option BranchKind
kind_by potential collapse read flow covered =
    if not potential then Some Flow else (if collapse && not read then Some Collapsing else (if not flow && covered then Some Potential else None))

-- What walks over a module found, with the meanings of its names and the biased variables.
pub record IsSurvey (names : ModuleNames) (m : Module) (s : Survey) : Type 0 where
  pub meanings : (at : ℕ) → tree.get nat_cmp s.meanings at ≡ meaning_at names.uses at
  pub findings : (let a = analysis_of names (analog_bodies m) in s.findings.items ≡ flat_map (found_by a.meaning a.biased) a.values)
  pub givens : s.givens.items ≡ flat_map given_in s.findings.items

-- whether a number is one of a list
abbrev pub is_among : List ℕ → ℕ → Bool
is_among list n = list_any (λ m. m == n) list

abbrev pub has_potential_kind : Option BranchKind → Bool
has_potential_kind (Some Potential) = true
has_potential_kind _ = false

-- a list of branches, with one more if it is a potential branch that isn't there yet
abbrev pub grown_by : ModuleNames → Module → List ℕ → ℕ → List ℕ
grown_by names m list branch =
    if has_potential_kind (kind_of (analysis_of names (analog_bodies m)) branch) && not (is_among list branch) then list ++ branch ∷ [] else list
