-- What a statement of the program is, variant by variant. The lemmas `at_..` take what a `match` and the calls of `get` say.
use Rattle.std.specs.Prelude.{◌≡◌, ℕ, List, Option, Some, None, map}
use Rattle.std.proofs.Common.{refl, ap, ◌∙◌}
use denote.Hole.Carrier as C
use Rattle.va_tree.specs.declared.expr.Arg.{Arg}
use Rattle.va_tree.specs.declared.expr.Expr.{Expr}
use Rattle.va_tree.specs.declared.name.NameAt.{NameAt}
use Rattle.va_tree.specs.declared.module.Declaration.{Declaration}
use Rattle.va_tree.specs.declared.stmt.EventKind.{EventKind}
use Rattle.va_tree.specs.declared.stmt.Assignment.{Assignment}
use Rattle.va_tree.specs.declared.stmt.CaseItem.{CaseItem}
use Rattle.va_tree.specs.declared.stmt.CaseDefault.{CaseDefault}
use Rattle.va_tree.specs.declared.stmt.Stmt.{Stmt, Row_of-Stmt, end_of-Stmt, more_of-Stmt, Row_of-CaseItem, end_of-CaseItem, more_of-CaseItem, Row_of-CaseDefault, end_of-CaseDefault, more_of-CaseDefault, items-the_row-Stmt, items_hidden-the_row-Stmt-0, items-the_row-CaseItem, items_hidden-the_row-CaseItem-2, items-the_row-CaseDefault, items_hidden-the_row-CaseDefault-3}
use Rattle.va_tree.specs.declared.stmt.Stmt.TheVariants.{Block, If, Case, For, While, Repeat, Event, Assign, Contribute, Task}
use Rattle.va_tree.specs.declared.stmt.Stmt.TheBlock.{hidden-the_row-Stmt-0, hidden-the_row-Stmt-1, shape-the_row-Stmt-1, hidden-the_row-CaseItem-2, hidden-the_row-CaseDefault-3}
use Rattle.va_tree.specs.Expressions.{expression_of, arguments_of}
use Rattle.va_tree.specs.Statements.{block, cases, for_loop, while_loop, repeat_loop, event, assign, contribute, task, statement_then, item_then, default_then, statement_of, statements_in, items_in, defaults_in, statements_of, items_of, defaults_of, if_of}

statements_listed : {n : _} (k : Row_of-Stmt n) → statements_in k ≡ statements_of (items-the_row-Stmt _ k)
statements_listed end_of-Stmt = refl
statements_listed (more_of-Stmt s k) = ap (statement_then (statement_of s)) (statements_listed k)

items_listed : {n : _} (k : Row_of-CaseItem n) → items_in k ≡ items_of (items-the_row-CaseItem _ k)
items_listed end_of-CaseItem = refl
items_listed (more_of-CaseItem at values body k) = ap (item_then at (map expression_of values) (statement_of body)) (items_listed k)

defaults_listed : {n : _} (k : Row_of-CaseDefault n) → defaults_in k ≡ defaults_of (items-the_row-CaseDefault _ k)
defaults_listed end_of-CaseDefault = refl
defaults_listed (more_of-CaseDefault at body k) = ap (default_then at (statement_of body)) (defaults_listed k)

pub statement-Block : (at : ℕ) (label : Option NameAt) (declarations : List Declaration) (body : List Stmt) → statement_of (Block at label declarations body) ≡ block at label declarations (statements_of body)
statement-Block at label declarations body = ap (block at label declarations) (statements_listed (hidden-the_row-Stmt-0 body) ∙ ap statements_of (items_hidden-the_row-Stmt-0 body))

pub statement-If : (at : ℕ) (test : Expr) (a : Stmt) (b : Option Stmt) → statement_of (If at test a b) ≡ if_of at (expression_of test) (statement_of a) b
unfolding hidden-the_row-Stmt-1 shape-the_row-Stmt-1 C.hidden
statement-If at test a None = refl
statement-If at test a (Some b) = refl

pub statement-Case : (at : ℕ) (selector : Expr) (items : List CaseItem) (defaults : List CaseDefault) → statement_of (Case at selector items defaults) ≡ cases at (expression_of selector) (items_of items) (defaults_of defaults)
statement-Case at selector items defaults =
    ap (λ k. cases at (expression_of selector) k (defaults_in (hidden-the_row-CaseDefault-3 defaults))) (items_listed (hidden-the_row-CaseItem-2 items) ∙ ap items_of (items_hidden-the_row-CaseItem-2 items))
    ∙ ap (cases at (expression_of selector) (items_of items)) (defaults_listed (hidden-the_row-CaseDefault-3 defaults) ∙ ap defaults_of (items_hidden-the_row-CaseDefault-3 defaults))

pub statement-For : (at : ℕ) (first : Assignment) (test : Expr) (step : Assignment) (body : Stmt) → statement_of (For at first test step body) ≡ for_loop at first.target (expression_of first.value) (expression_of test) step.target (expression_of step.value) (statement_of body)
unfolding hidden-the_row-Stmt-1 shape-the_row-Stmt-1 C.hidden
statement-For at first test step body = refl

pub statement-While : (at : ℕ) (test : Expr) (body : Stmt) → statement_of (While at test body) ≡ while_loop at (expression_of test) (statement_of body)
unfolding hidden-the_row-Stmt-1 shape-the_row-Stmt-1 C.hidden
statement-While at test body = refl

pub statement-Repeat : (at : ℕ) (count : Expr) (body : Stmt) → statement_of (Repeat at count body) ≡ repeat_loop at (expression_of count) (statement_of body)
unfolding hidden-the_row-Stmt-1 shape-the_row-Stmt-1 C.hidden
statement-Repeat at count body = refl

pub statement-Event : (at : ℕ) (kind : EventKind) (analyses : List NameAt) (body : Stmt) → statement_of (Event at kind analyses body) ≡ event at kind analyses (statement_of body)
unfolding hidden-the_row-Stmt-1 shape-the_row-Stmt-1 C.hidden
statement-Event at kind analyses body = refl

pub at_block : (s : Stmt) (at : ℕ) (label : Option NameAt) (declarations : List Declaration) (body : List Stmt) (declarations' : List Declaration) (body' : List Stmt) → s ≡ Block at label declarations body → declarations ≡ declarations' → body ≡ body' → statement_of s ≡ block at label declarations' (statements_of body')
at_block s at label declarations body declarations' body' h p q = ap statement_of h ∙ statement-Block at label declarations body ∙ (λ j. block at label (p j) (statements_of (q j)))

pub at_if : (s : Stmt) (at : ℕ) (test : Expr) (a : Stmt) (b : Option Stmt) (a' : Stmt) → s ≡ If at test a b → a ≡ a' → statement_of s ≡ if_of at (expression_of test) (statement_of a') b
at_if s at test a b a' h p = ap statement_of h ∙ statement-If at test a b ∙ (λ j. if_of at (expression_of test) (statement_of (p j)) b)

pub at_case : (s : Stmt) (at : ℕ) (selector : Expr) (items : List CaseItem) (defaults : List CaseDefault) (items' : List CaseItem) (defaults' : List CaseDefault) → s ≡ Case at selector items defaults → items ≡ items' → defaults ≡ defaults' → statement_of s ≡ cases at (expression_of selector) (items_of items') (defaults_of defaults')
at_case s at selector items defaults items' defaults' h p q = ap statement_of h ∙ statement-Case at selector items defaults ∙ (λ j. cases at (expression_of selector) (items_of (p j)) (defaults_of (q j)))

pub at_for : (s : Stmt) (at : ℕ) (first : Assignment) (test : Expr) (step : Assignment) (body body' : Stmt) → s ≡ For at first test step body → body ≡ body' → statement_of s ≡ for_loop at first.target (expression_of first.value) (expression_of test) step.target (expression_of step.value) (statement_of body')
at_for s at first test step body body' h p = ap statement_of h ∙ statement-For at first test step body ∙ (λ j. for_loop at first.target (expression_of first.value) (expression_of test) step.target (expression_of step.value) (statement_of (p j)))

pub at_while : (s : Stmt) (at : ℕ) (test : Expr) (body body' : Stmt) → s ≡ While at test body → body ≡ body' → statement_of s ≡ while_loop at (expression_of test) (statement_of body')
at_while s at test body body' h p = ap statement_of h ∙ statement-While at test body ∙ (λ j. while_loop at (expression_of test) (statement_of (p j)))

pub at_repeat : (s : Stmt) (at : ℕ) (count : Expr) (body body' : Stmt) → s ≡ Repeat at count body → body ≡ body' → statement_of s ≡ repeat_loop at (expression_of count) (statement_of body')
at_repeat s at count body body' h p = ap statement_of h ∙ statement-Repeat at count body ∙ (λ j. repeat_loop at (expression_of count) (statement_of (p j)))

pub at_event : (s : Stmt) (at : ℕ) (kind : EventKind) (analyses : List NameAt) (body body' : Stmt) → s ≡ Event at kind analyses body → body ≡ body' → statement_of s ≡ event at kind analyses (statement_of body')
at_event s at kind analyses body body' h p = ap statement_of h ∙ statement-Event at kind analyses body ∙ (λ j. event at kind analyses (statement_of (p j)))

pub at_assign : (s : Stmt) (at : ℕ) (target : List ℕ) (value : Expr) → s ≡ Assign at target value → statement_of s ≡ assign at target (expression_of value)
at_assign s at target value h = ap statement_of h

pub at_contribute : (s : Stmt) (at : ℕ) (access : List ℕ) (first : NameAt) (second : Option NameAt) (value : Expr) → s ≡ Contribute at access first second value → statement_of s ≡ contribute at access first second (expression_of value)
at_contribute s at access first second value h = ap statement_of h

pub at_task : (s : Stmt) (at : ℕ) (bytes : List ℕ) (args args' : List Arg) → s ≡ Task at bytes args → args ≡ args' → statement_of s ≡ task at bytes (arguments_of args')
at_task s at bytes args args' h p = ap statement_of h ∙ (λ j. task at bytes (arguments_of (p j)))
