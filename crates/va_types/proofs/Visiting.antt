-- Statements variant by variant, and lists of what holds expressions.
use Rattle.std.specs.Prelude.{◌≡◌, ℕ, suc, ◌+◌, ◌<◌, ◌≤◌, List, [], ◌∷◌, ◌++◌, map, flat_map, drop, length, get_or, Option, Some, None}
use Rattle.std.proofs.Common.{refl, sym, ap, subst, ◌∙◌, arith}
use Rattle.std.proofs.Math.ListN.{drop_of_length-le}
use Rattle.std.proofs.Math.Seq.{drop-cons}
use Rattle.std.proofs.lemmas.Grind.{flat_map-append}
use Rattle.std.proofs.lemmas.List.{append-nil}
use Rattle.alg_laws.specs.declared.number.Ty.{Ty}
use Rattle.va_tree.specs.declared.expr.Arg.{Arg}
use Rattle.va_tree.specs.declared.expr.Expr.{Expr}
use Rattle.va_tree.specs.declared.module.Declaration.{Declaration}
use Rattle.va_tree.specs.declared.module.Variable.{Variable}
use Rattle.va_tree.specs.declared.name.NameAt.{NameAt}
use Rattle.va_tree.specs.declared.stmt.Assignment.{Assignment}
use Rattle.va_tree.specs.declared.stmt.CaseDefault.{CaseDefault}
use Rattle.va_tree.specs.declared.stmt.CaseItem.{CaseItem}
use Rattle.va_tree.specs.declared.stmt.EventKind.{EventKind}
use Rattle.va_tree.specs.declared.stmt.Stmt.{Stmt}
use Rattle.va_tree.specs.declared.stmt.Stmt.TheVariants.{Block, If, Case, For, While, Repeat, Event, Task}
use Rattle.va_tree.specs.Declarations.{declared, initialisers}
use Rattle.va_tree.specs.Expressions.{Expression, expression_of, arguments_of}
use Rattle.va_tree.specs.Preorder.{expressions_in_arguments}
use Rattle.va_tree.specs.Statements.{Statement, statement_of, statements_of, items_of, defaults_of, if_of}
use Rattle.va_tree.specs.StatementLaws.{at_block, at_if, at_case, at_for, at_while, at_repeat, at_event, at_task}
use Rattle.va_sem.specs.LookedAt.{looked_at, looked_at_in_statement, looked_at_in_statements, looked_at_in_items, looked_at_in_defaults}
use Rattle.va_sem.specs.NamesFaults.{FaultAt}
use Rattle.va_sem.specs.Typing.{Typing, types_in, types_in_statement, types_in_statements, types_in_items, types_in_defaults, all_real}
use Rattle.va_sem.specs.TypesFaults.{expression_faults}
use Rattle.va_types.specs.declared.found.Found.{Found}
use Rattle.va_types.specs.Found.{Finds}
use Rattle.va_types.specs.Statements.{Walks, WalksOver, WalksIn, types_in_item_of, looked_at_in_item_of, types_in_else, looked_at_in_else}
use Rattle.va_types.proofs.Finding.{finds_then, Remains, remains_next, remains_end}

module _ (t : Typing) where
  abbrev faults_in : List Expression → List FaultAt
  faults_in = flat_map (expression_faults t)

  pub walks_then : (a b : List Ty) (es fs : List Expression) (x y z : Found) → Walks t a es x y → Walks t b fs y z → Walks t (a ++ b) (es ++ fs) x z
  walks_then a b es fs x y z p q =
      subst (λ (f : List FaultAt). Finds (a ++ b) f x z) (sym (flat_map-append (expression_faults t) es fs)) (finds_then a b (faults_in es) (faults_in fs) x y z p q)

  -- what is left of a list, from a place on
  abbrev pub WalksOn : {X : Type 0} → (List X → List Ty) → (List X → List Expression) → List X → Found → ℕ → Found → Type 0
  WalksOn types es xs start i x = Remains (types (drop i xs)) (types xs) (faults_in (es (drop i xs))) (faults_in (es xs)) start x

  pub walks_next : {X : Type 0} (types : List X → List Ty) (es : List X → List Expression) (own : X → List Ty) (mine : X → List Expression)
      → ((a : X) (rest : List X) → types (a ∷ rest) ≡ own a ++ types rest) → ((a : X) (rest : List X) → es (a ∷ rest) ≡ mine a ++ es rest)
      → (xs : List X) (start x y : Found) (i : ℕ) (a : X) → i < length xs → a ≡ get_or xs i a → Walks t (own a) (mine a) x y → WalksOn types es xs start i x → WalksOn types es xs start (i + 1) y
  walks_next {X} types es own mine split part xs start x y i a lt is p on =
      let rest : List X = drop (i + 1) xs in
      let here : drop i xs ≡ a ∷ drop (suc i) xs = drop-cons xs i a lt ∙ ap (λ (z : X). z ∷ drop (suc i) xs) (sym is) in
      let one : drop (suc i) xs ≡ rest = (let e : suc i ≡ i + 1 = omega arith in ap (λ (n : ℕ). drop n xs) e) in
      let there : drop i xs ≡ a ∷ rest = here ∙ ap (λ (l : List X). a ∷ l) one in
      let own_types : types (drop i xs) ≡ own a ++ types rest = ap types there ∙ split a rest in
      let own_faults : faults_in (es (drop i xs)) ≡ faults_in (mine a) ++ faults_in (es rest) =
      ap (λ (l : List X). faults_in (es l)) there ∙ ap faults_in (part a rest) ∙ flat_map-append (expression_faults t) (mine a) (es rest) in
      remains_next (own a) (types rest) (types xs) (faults_in (mine a)) (faults_in (es rest)) (faults_in (es xs)) start x y
      (subst (λ (l : List Ty). Remains l (types xs) (faults_in (mine a) ++ faults_in (es rest)) (faults_in (es xs)) start x) own_types
      (subst (λ (f : List FaultAt). Remains (types (drop i xs)) (types xs) f (faults_in (es xs)) start x) own_faults on)) p

  pub walks_end : {X : Type 0} (types : List X → List Ty) (es : List X → List Expression) → types [] ≡ [] → es [] ≡ [] → (xs : List X) (start x : Found) (i : ℕ) → length xs ≤ i → WalksOn types es xs start i x
      → Walks t (types xs) (es xs) start x
  walks_end {X} types es no_types no_es xs start x i h on =
      let none : drop i xs ≡ [] = drop_of_length-le xs h in
      remains_end (types xs) (faults_in (es xs)) start x
      (subst (λ (l : List Ty). Remains l (types xs) [] (faults_in (es xs)) start x) (ap types none ∙ no_types)
      (subst (λ (f : List FaultAt). Remains (types (drop i xs)) (types xs) f (faults_in (es xs)) start x) (ap (λ (l : List X). faults_in (es l)) none ∙ ap faults_in no_es) on))

  -- the lists of expressions
  abbrev pub types_over : List Expression → List Ty
  types_over = flat_map (types_in t)

  abbrev pub looked_over : List Expression → List Expression
  looked_over = flat_map looked_at

  pub over_types : (xs ys : List Expression) → types_over (xs ++ ys) ≡ types_over xs ++ types_over ys
  over_types xs ys = flat_map-append (types_in t) xs ys

  pub over_looked : (xs ys : List Expression) → looked_over (xs ++ ys) ≡ looked_over xs ++ looked_over ys
  over_looked xs ys = flat_map-append looked_at xs ys

  pub one_over : (e : Expression) (x y : Found) → Walks t (types_in t e) (looked_at e) x y → WalksOver t (e ∷ []) x y
  one_over e x y p =
      subst (λ (l : List Ty). Walks t l (looked_over (e ∷ [])) x y) (sym (append-nil (types_in t e)))
      (subst (λ (l : List Expression). Walks t (types_in t e) l x y) (sym (append-nil (looked_at e))) p)

  -- statements
  pub visit_block : (s : Stmt) (at : ℕ) (label : Option NameAt) (ds ds' : List Declaration) (body body' : List Stmt) (x y z : Found) → s ≡ Block at label ds body → ds ≡ ds' → body ≡ body'
      → WalksOver t (declared ds') x y → Walks t (types_in_statements t (statements_of body')) (looked_at_in_statements (statements_of body')) y z → WalksIn t (statement_of s) x z
  visit_block s at label ds ds' body body' x y z h p q a b =
      rw (at_block s at label ds body ds' body' h p q)
      (walks_then (types_over (declared ds')) (types_in_statements t (statements_of body')) (looked_over (declared ds')) (looked_at_in_statements (statements_of body')) x y z a b)

  if_types : (at : ℕ) (e : Expression) (s : Statement) (other : Option Stmt) → types_in_statement t (if_of at e s other) ≡ (types_in t e ++ types_in_statement t s) ++ types_in_else t other
  if_types at e s None = sym (append-nil (types_in t e ++ types_in_statement t s))
  if_types at e s (Some b) = refl

  if_looked : (at : ℕ) (e : Expression) (s : Statement) (other : Option Stmt) → looked_at_in_statement (if_of at e s other) ≡ (looked_at e ++ looked_at_in_statement s) ++ looked_at_in_else other
  if_looked at e s None = sym (append-nil (looked_at e ++ looked_at_in_statement s))
  if_looked at e s (Some b) = refl

  pub visit_if : (s : Stmt) (at : ℕ) (test : Expr) (a a' : Stmt) (other : Option Stmt) (x y z w : Found) → s ≡ If at test a other → a ≡ a'
      → Walks t (types_in t (expression_of test)) (looked_at (expression_of test)) x y → WalksIn t (statement_of a') y z → Walks t (types_in_else t other) (looked_at_in_else other) z w → WalksIn t (statement_of s) x w
  visit_if s at test a a' other x y z w h p first then last =
      let e : Expression = expression_of test in
      let k : Statement = statement_of a' in
      rw (at_if s at test a other a' h p)
      (subst (λ (l : List Ty). Walks t l (looked_at_in_statement (if_of at e k other)) x w) (sym (if_types at e k other))
      (subst (λ (l : List Expression). Walks t ((types_in t e ++ types_in_statement t k) ++ types_in_else t other) l x w) (sym (if_looked at e k other))
      (walks_then (types_in t e ++ types_in_statement t k) (types_in_else t other) (looked_at e ++ looked_at_in_statement k) (looked_at_in_else other) x z w
      (walks_then (types_in t e) (types_in_statement t k) (looked_at e) (looked_at_in_statement k) x y z first then) last)))

  pub visit_case : (s : Stmt) (at : ℕ) (selector : Expr) (items items' : List CaseItem) (defaults defaults' : List CaseDefault) (x y z w : Found) → s ≡ Case at selector items defaults → items ≡ items' → defaults ≡ defaults'
      → Walks t (types_in t (expression_of selector)) (looked_at (expression_of selector)) x y → Walks t (types_in_items t (items_of items')) (looked_at_in_items (items_of items')) y z
      → Walks t (types_in_defaults t (defaults_of defaults')) (looked_at_in_defaults (defaults_of defaults')) z w → WalksIn t (statement_of s) x w
  visit_case s at selector items items' defaults defaults' x y z w h p q a b c =
      let e : Expression = expression_of selector in
      rw (at_case s at selector items defaults items' defaults' h p q)
      (walks_then (types_in t e ++ types_in_items t (items_of items')) (types_in_defaults t (defaults_of defaults')) (looked_at e ++ looked_at_in_items (items_of items')) (looked_at_in_defaults (defaults_of defaults')) x z w
      (walks_then (types_in t e) (types_in_items t (items_of items')) (looked_at e) (looked_at_in_items (items_of items')) x y z a b) c)

  pub visit_for : (s : Stmt) (at : ℕ) (first : Assignment) (test : Expr) (step : Assignment) (body body' : Stmt) (x y z v w : Found) → s ≡ For at first test step body → body ≡ body'
      → Walks t (types_in t (expression_of first.value)) (looked_at (expression_of first.value)) x y → Walks t (types_in t (expression_of test)) (looked_at (expression_of test)) y z
      → Walks t (types_in t (expression_of step.value)) (looked_at (expression_of step.value)) z v → WalksIn t (statement_of body') v w → WalksIn t (statement_of s) x w
  visit_for s at first test step body body' x y z v w h p a b c d =
      let e : Expression = expression_of first.value in
      let f : Expression = expression_of test in
      let g : Expression = expression_of step.value in
      rw (at_for s at first test step body body' h p)
      (walks_then ((types_in t e ++ types_in t f) ++ types_in t g) (types_in_statement t (statement_of body')) ((looked_at e ++ looked_at f) ++ looked_at g) (looked_at_in_statement (statement_of body')) x v w
      (walks_then (types_in t e ++ types_in t f) (types_in t g) (looked_at e ++ looked_at f) (looked_at g) x z v
      (walks_then (types_in t e) (types_in t f) (looked_at e) (looked_at f) x y z a b) c) d)

  pub visit_while : (s : Stmt) (at : ℕ) (test : Expr) (body body' : Stmt) (x y z : Found) → s ≡ While at test body → body ≡ body'
      → Walks t (types_in t (expression_of test)) (looked_at (expression_of test)) x y → WalksIn t (statement_of body') y z → WalksIn t (statement_of s) x z
  visit_while s at test body body' x y z h p a b =
      rw (at_while s at test body body' h p)
      (walks_then (types_in t (expression_of test)) (types_in_statement t (statement_of body')) (looked_at (expression_of test)) (looked_at_in_statement (statement_of body')) x y z a b)

  pub visit_repeat : (s : Stmt) (at : ℕ) (count : Expr) (body body' : Stmt) (x y z : Found) → s ≡ Repeat at count body → body ≡ body'
      → Walks t (types_in t (expression_of count)) (looked_at (expression_of count)) x y → WalksIn t (statement_of body') y z → WalksIn t (statement_of s) x z
  visit_repeat s at count body body' x y z h p a b =
      rw (at_repeat s at count body body' h p)
      (walks_then (types_in t (expression_of count)) (types_in_statement t (statement_of body')) (looked_at (expression_of count)) (looked_at_in_statement (statement_of body')) x y z a b)

  pub visit_event : (s : Stmt) (at : ℕ) (kind : EventKind) (analyses : List NameAt) (body body' : Stmt) (x y : Found) → s ≡ Event at kind analyses body → body ≡ body' → WalksIn t (statement_of body') x y → WalksIn t (statement_of s) x y
  visit_event s at kind analyses body body' x y h p a = rw (at_event s at kind analyses body body' h p) a

  pub visit_task : (s : Stmt) (at : ℕ) (bytes : List ℕ) (args args' : List Arg) (x y : Found) → s ≡ Task at bytes args → args ≡ args' → Finds (all_real (expressions_in_arguments (arguments_of args'))) [] x y → WalksIn t (statement_of s) x y
  visit_task s at bytes args args' x y h p a = rw (at_task s at bytes args args' h p) a

  pub visit_item : (i : CaseItem) (values : List Expr) (x y z : Found) → values ≡ i.values → WalksOver t (map expression_of values) x y → WalksIn t (statement_of i.body) y z
      → Walks t (types_in_item_of t i) (looked_at_in_item_of i) x z
  visit_item i values x y z e a b =
      walks_then (types_over (map expression_of i.values)) (types_in_statement t (statement_of i.body)) (looked_over (map expression_of i.values)) (looked_at_in_statement (statement_of i.body)) x y z
      (subst (λ (l : List Expr). WalksOver t (map expression_of l) x y) e a) b

  pub same_over : (d : Declaration) (vs : List Variable) (x y : Found) → vs ≡ d.variables → WalksOver t (initialisers vs) x y → WalksOver t (initialisers d.variables) x y
  same_over d vs x y e a = subst (λ (l : List Variable). WalksOver t (initialisers l) x y) e a
