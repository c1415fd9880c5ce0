-- The walk that collects influences, expression by expression and statement by statement.
use Rattle.std.specs.Prelude.{◌≡◌, ℕ, zero, suc, ◌+◌, ◌-◌, ◌<◌, ◌≤◌, Bool, true, false, List, [], ◌∷◌, ◌++◌, Option, Some, None, if◌then◌else◌, map, flat_map, drop, length, get_or}
use Rattle.std.proofs.Common.{refl, sym, ◌∙◌, ap, subst, arith}
use Rattle.std.proofs.Math.ListN.{drop_of_length-le}
use Rattle.std.proofs.Math.Seq.{drop-cons}
use Rattle.std.proofs.lemmas.List.{append_assoc, append-nil}
use Rattle.std.proofs.lemmas.Grind.{flat_map-append}
use Rattle.graphs.specs.declared.edge.Edge.{Edge}
use Rattle.va_tree.specs.declared.expr.Arg.{Arg}
use Rattle.va_tree.specs.declared.expr.BinaryOp.{BinaryOp}
use Rattle.va_tree.specs.declared.expr.Callee.{Callee}
use Rattle.va_tree.specs.declared.expr.Expr.{Expr}
use Rattle.va_tree.specs.declared.expr.Expr.TheVariants.{Name, Group, Unary, Binary, Choose, Call}
use Rattle.va_tree.specs.declared.expr.UnaryOp.{UnaryOp}
use Rattle.va_tree.specs.declared.module.Declaration.{Declaration}
use Rattle.va_tree.specs.declared.module.Item.{Item}
use Rattle.va_tree.specs.declared.module.ItemBody.{ItemBody}
use Rattle.va_tree.specs.declared.module.ItemBody.TheVariants as item
use Rattle.va_tree.specs.declared.name.NameAt.{NameAt}
use Rattle.va_tree.specs.declared.stmt.Assignment.{Assignment}
use Rattle.va_tree.specs.declared.stmt.CaseDefault.{CaseDefault}
use Rattle.va_tree.specs.declared.stmt.CaseItem.{CaseItem}
use Rattle.va_tree.specs.declared.stmt.EventKind.{EventKind}
use Rattle.va_tree.specs.declared.stmt.Stmt.{Stmt}
use Rattle.va_tree.specs.declared.stmt.Stmt.TheVariants as stmt
use Rattle.va_tree.specs.Declarations.{declared}
use Rattle.va_tree.specs.Expressions.{Expression, expression_of, arguments_of}
use Rattle.va_tree.specs.ExpressionLaws.{at_group, at_unary, at_binary, at_choose, at_call}
use Rattle.va_tree.specs.StatementLaws.{at_block, at_if, at_case, at_for, at_while, at_repeat, at_event, at_assign, at_contribute, at_task}
use Rattle.va_tree.specs.Statements.{Statement, null, block, only_if, if_else, cases, for_loop, while_loop, repeat_loop, event, assign, contribute, task, statement_of, statements_of, items_of, defaults_of, if_of}
use Rattle.va_sem.specs.declared.names.Meaning.{Meaning}
use Rattle.va_sem.specs.Declarations.{analog_body}
use Rattle.va_sem.specs.LookedAt.{looked_at, looked_at_in_arguments, call_looks}
use Rattle.va_sem.specs.rules.Biased.{biased_by, is_assigned_to}
use Rattle.va_sem.specs.rules.Uses.{meaning_of}
use Rattle.va_sem.specs.rules.Findings.{meanings_in, looked_at_first, looked_at_if, own_values, around_inner, inner_values, values_in_else, in_item, item_blocks, blocks_of}
use Rattle.va_sem.specs.rules.Values.{Purpose, assigned, contributed, tested, initial, Around, under as under_conditions, looped, Value, value_for, tests_of, is_evaluated, values_in, values_in_statements, values_in_items, values_in_defaults}
use Rattle.va_sem.specs.rules.Influence.{link, edges_by, edges_to, Reads, nodes, added, Collects, CollectsAll, CollectsOwn}
use Rattle.va_sem.proofs.Entering.{split, if_inner}
use Rattle.va_sem.proofs.Influenced.{Silent, collects_nothing, collects_then, collects_leave, collects_as, collects_condition}
use Rattle.va_sem.proofs.Visiting.{tests_parts}
use Rattle.va_sem.proofs.Walks.{found_then, map_append}

module _ (meaning : ℕ → Option Meaning) (n t : ℕ) where
  abbrev Read : List Expression → List Edge → List Edge → Type 0
  Read parts E F = Reads meaning n t parts E F

  pub reads_then : (xs ys : List Expression) (E F G : List Edge) → Read xs E F → Read ys F G → Read (xs ++ ys) E G
  reads_then xs ys E F G p q =
      found_then (edges_by n t) (meanings_in meaning xs) (meanings_in meaning ys) E F G p q
      ∙ ap (λ names. E ++ edges_to n t names) (sym (map_append (meaning_of meaning) xs ys))

  pub read_group : (e : Expr) (at : ℕ) (inner inner' : Expr) (E F : List Edge) → e ≡ Group at inner → inner ≡ inner' → Read (looked_at (expression_of inner')) E F → Read (looked_at (expression_of e)) E F
  read_group e at inner inner' E F h p r = rw (at_group e at inner inner' h p) r

  pub read_unary : (e : Expr) (at : ℕ) (op : UnaryOp) (operand operand' : Expr) (E F : List Edge) → e ≡ Unary at op operand → operand ≡ operand' → Read (looked_at (expression_of operand')) E F → Read (looked_at (expression_of e)) E F
  read_unary e at op operand operand' E F h p r = rw (at_unary e at op operand operand' h p) r

  pub read_binary : (e : Expr) (at : ℕ) (left : Expr) (op : BinaryOp) (right left' right' : Expr) (E F G : List Edge) → e ≡ Binary at left op right → left ≡ left' → right ≡ right'
      → Read (looked_at (expression_of left')) E F → Read (looked_at (expression_of right')) F G → Read (looked_at (expression_of e)) E G
  read_binary e at left op right left' right' E F G i p q r s =
      rw (at_binary e at left op right left' right' i p q) (reads_then (looked_at (expression_of left')) (looked_at (expression_of right')) E F G r s)

  pub read_choose : (e : Expr) (at : ℕ) (test x y test' x' y' : Expr) (E F G H : List Edge) → e ≡ Choose at test x y → test ≡ test' → x ≡ x' → y ≡ y'
      → Read (looked_at (expression_of test')) E F → Read (looked_at (expression_of x')) F G → Read (looked_at (expression_of y')) G H → Read (looked_at (expression_of e)) E H
  read_choose e at test x y test' x' y' E F G H e1 e2 e3 e4 r s u =
      rw (at_choose e at test x y test' x' y' e1 e2 e3 e4)
      (reads_then (looked_at (expression_of test') ++ looked_at (expression_of x')) (looked_at (expression_of y')) E G H
      (reads_then (looked_at (expression_of test')) (looked_at (expression_of x')) E F G r s) u)

  pub read_call : (e : Expr) (at : ℕ) (callee : Callee) (bytes : List ℕ) (args args' : List Arg) (first : ℕ) (m : Option Meaning) (E F G : List Edge) → e ≡ Call at callee bytes args → args ≡ args' → m ≡ meaning at
      → looked_at_in_arguments (call_looks callee bytes) 0 (arguments_of args') ≡ looked_at_first first args'
      → F ≡ E ++ edges_to n t (m ∷ []) → Read (looked_at_first first args') F G → Read (looked_at (expression_of e)) E G
  read_call e at callee bytes args args' first m E F G i p q k r s =
      rw (at_call e at callee bytes args args' i p, k, ← q)
      (found_then (edges_by n t) (m ∷ []) (meanings_in meaning (looked_at_first first args')) E F G r s)

  -- What is left of the arguments from a place on, read after those before it, completes them.
  abbrev pub Completes : List Arg → ℕ → List Edge → ℕ → ℕ → List Edge → Type 0
  Completes args first start i left E = (F : List Edge) → Read (looked_at_first left (drop i args)) E F → Read (looked_at_first first args) start F

  first_split : (left : ℕ) (a : Arg) (rest : List Arg) → looked_at_first left (a ∷ rest) ≡ looked_at_if left a ++ looked_at_first (left - 1) rest
  first_split zero a rest = refl
  first_split (suc left) a rest = (let e : suc left - 1 ≡ left = omega arith in rw e refl)

  pub completes_next : (args : List Arg) (first : ℕ) (start : List Edge) (i left left' : ℕ) (E F : List Edge) (a : Arg) → i < length args → a ≡ get_or args i a → left' ≡ left - 1
      → Read (looked_at_if left a) E F → Completes args first start i left E → Completes args first start (i + 1) left' F
  completes_next args first start i left left' E F a lt is less r completes G s =
      let here : drop i args ≡ a ∷ drop (suc i) args = drop-cons args i a lt ∙ ap (λ (x : Arg). x ∷ drop (suc i) args) (sym is) in
      let one : i + 1 ≡ suc i = omega arith in
      let rest : Read (looked_at_first (left - 1) (drop (suc i) args)) F G =
      subst (λ (k : ℕ). Read (looked_at_first k (drop (suc i) args)) F G) less (subst (λ (k : ℕ). Read (looked_at_first left' (drop k args)) F G) one s) in
      let parts : looked_at_first left (drop i args) ≡ looked_at_if left a ++ looked_at_first (left - 1) (drop (suc i) args) = ap (looked_at_first left) here ∙ first_split left a (drop (suc i) args) in
      completes G (subst (λ (xs : List Expression). Read xs E G) (sym parts) (reads_then (looked_at_if left a) (looked_at_first (left - 1) (drop (suc i) args)) E F G r rest))

  first_of_none : (left : ℕ) → looked_at_first left [] ≡ []
  first_of_none zero = refl
  first_of_none (suc left) = refl

  pub completes_end : (args : List Arg) (first : ℕ) (start : List Edge) (i left : ℕ) (E : List Edge) → length args ≤ i → Completes args first start i left E → Read (looked_at_first first args) start E
  completes_end args first start i left E h completes =
      let none : looked_at_first left (drop i args) ≡ [] = ap (looked_at_first left) (drop_of_length-le args h) ∙ first_of_none left in
      completes E (subst (λ (xs : List Expression). Read xs E E) (sym none) (sym (append-nil E)))

  pub completes_start : (args : List Arg) (first : ℕ) (start : List Edge) → Completes args first start 0 first start
  completes_start args first start F r = r

  -- The same over any list whose elements have parts.
  abbrev pub ReadsOn : {X : Type 0} → (X → List Expression) → List X → List Edge → ℕ → List Edge → Type 0
  ReadsOn parts xs start i E = (F : List Edge) → Read (flat_map parts (drop i xs)) E F → Read (flat_map parts xs) start F

  pub reads_start : {X : Type 0} (parts : X → List Expression) (xs : List X) (start : List Edge) → ReadsOn parts xs start 0 start
  reads_start parts xs start F r = r

  pub reads_next : {X : Type 0} (parts : X → List Expression) (xs : List X) (start : List Edge) (i : ℕ) (E F : List Edge) (x : X) (own : List Expression) → i < length xs → x ≡ get_or xs i x → own ≡ parts x
      → Read own E F → ReadsOn parts xs start i E → ReadsOn parts xs start (i + 1) F
  reads_next {X} parts xs start i E F x own lt is p r on G s =
      let here : drop i xs ≡ x ∷ drop (suc i) xs = drop-cons xs i x lt ∙ ap (λ (y : X). y ∷ drop (suc i) xs) (sym is) in
      let one : i + 1 ≡ suc i = omega arith in
      let rest : Read (flat_map parts (drop (suc i) xs)) F G = subst (λ (k : ℕ). Read (flat_map parts (drop k xs)) F G) one s in
      let mine : Read (parts x) E F = subst (λ (es : List Expression). Read es E F) p r in
      let both : flat_map parts (drop i xs) ≡ parts x ++ flat_map parts (drop (suc i) xs) = ap (flat_map parts) here in
      on G (subst (λ (es : List Expression). Read es E G) (sym both) (reads_then (parts x) (flat_map parts (drop (suc i) xs)) E F G mine rest))

  pub reads_end : {X : Type 0} (parts : X → List Expression) (xs : List X) (start : List Edge) (i : ℕ) (E : List Edge) → length xs ≤ i → ReadsOn parts xs start i E → Read (flat_map parts xs) start E
  reads_end {X} parts xs start i E h on =
      let none : flat_map parts (drop i xs) ≡ [] = ap (flat_map parts) (drop_of_length-le xs h) in
      on E (subst (λ (es : List Expression). Read es E E) (sym none) (sym (append-nil E)))

module _ (meaning : ℕ → Option Meaning) (n : ℕ) where
  -- values that are assigned to nothing
  unassigned : (around : Around) (p : Purpose) → ((x : ℕ) → is_assigned_to meaning x p ≡ false) → (es : List Expression) (set : ℕ → Bool) (x : ℕ) → biased_by meaning (map (value_for around p) es) set x ≡ false
  unassigned around p none [] set x = refl
  unassigned around p none (e ∷ es) set x = rw (none x) (unassigned around p none es set x)

  -- the walk over the statements in a statement comes after what it evaluates itself
  visit_by : (s : Statement) (A : Around → List Value) → ((around : Around) → inner_values s around ≡ A around) → (over inside : ℕ) (E F G : List Edge)
      → CollectsOwn meaning n over s inside E F → CollectsAll meaning n inside A F G → CollectsAll meaning n over (λ around. values_in around s) E G
  visit_by s A is over inside E F G own all =
      collects_as meaning n over over (λ around. own_values around s ++ A (around_inner s around)) (λ around. values_in around s) (λ around. around) E G
      (λ around. ap (λ list. own_values around s ++ list) (sym (is (around_inner s around))) ∙ sym (split around s))
      (collects_leave meaning n over inside (λ around. own_values around s ++ A (around_inner s around)) (around_inner s) E G
      (collects_then meaning n over inside inside (λ around. own_values around s) A (around_inner s) (λ around. around) E F G own all))

  abbrev In : Stmt → ℕ → ℕ → List Edge → List Edge → Type 0
  In s over inside E F = CollectsOwn meaning n over (statement_of s) inside E F

  abbrev All : Stmt → ℕ → List Edge → List Edge → Type 0
  All s over E F = CollectsAll meaning n over (λ around. values_in around (statement_of s)) E F

  then_all : (over : ℕ) (A B : Around → List Value) (E F G : List Edge) → CollectsAll meaning n over A E F → CollectsAll meaning n over B F G → CollectsAll meaning n over (λ around. A around ++ B around) E G
  then_all over A B E F G p q = collects_then meaning n over over over A B (λ around. around) (λ around. around) E F G p q

  pub visit_block : (s : Stmt) (at : ℕ) (label : Option NameAt) (ds : List Declaration) (body body' : List Stmt) (over inside : ℕ) (E F G : List Edge) → s ≡ stmt.Block at label ds body → body ≡ body'
      → In s over inside E F → CollectsAll meaning n inside (λ around. values_in_statements around (statements_of body')) F G → All s over E G
  visit_block s at label ds body body' over inside E F G e q =
      visit_by (statement_of s) (λ around. values_in_statements around (statements_of body'))
      (λ around. ap (λ (t : Statement). inner_values t around) (at_block s at label ds body ds body' e refl q)) over inside E F G

  pub visit_if : (s : Stmt) (at : ℕ) (test : Expr) (x : Stmt) (other : Option Stmt) (x' : Stmt) (over inside : ℕ) (E F G H : List Edge) → s ≡ stmt.If at test x other → x ≡ x'
      → In s over inside E F → CollectsAll meaning n inside (λ around. values_in around (statement_of x')) F G → CollectsAll meaning n inside (λ around. values_in_else around other) G H → All s over E H
  visit_if s at test x other x' over inside E F G H e p own v w =
      visit_by (statement_of s) (λ around. values_in around (statement_of x') ++ values_in_else around other)
      (λ around. ap (λ (t : Statement). inner_values t around) (at_if s at test x other x' e p) ∙ if_inner around at (expression_of test) (statement_of x') other) over inside E F H own
      (then_all inside (λ around. values_in around (statement_of x')) (λ around. values_in_else around other) F G H v w)

  pub visit_case : (s : Stmt) (at : ℕ) (selector : Expr) (items : List CaseItem) (defaults : List CaseDefault) (items' : List CaseItem) (defaults' : List CaseDefault) (over inside : ℕ) (E F G H : List Edge)
      → s ≡ stmt.Case at selector items defaults → items ≡ items' → defaults ≡ defaults' → In s over inside E F
      → CollectsAll meaning n inside (λ around. values_in_items around (items_of items')) F G → CollectsAll meaning n inside (λ around. values_in_defaults around (defaults_of defaults')) G H → All s over E H
  visit_case s at selector items defaults items' defaults' over inside E F G H e p q own v w =
      visit_by (statement_of s) (λ around. values_in_items around (items_of items') ++ values_in_defaults around (defaults_of defaults'))
      (λ around. ap (λ (t : Statement). inner_values t around) (at_case s at selector items defaults items' defaults' e p q)) over inside E F H own
      (then_all inside (λ around. values_in_items around (items_of items')) (λ around. values_in_defaults around (defaults_of defaults')) F G H v w)

  pub visit_for : (s : Stmt) (at : ℕ) (first : Assignment) (test : Expr) (step : Assignment) (body body' : Stmt) (over inside : ℕ) (E F G : List Edge) → s ≡ stmt.For at first test step body → body ≡ body'
      → In s over inside E F → CollectsAll meaning n inside (λ around. values_in around (statement_of body')) F G → All s over E G
  visit_for s at first test step body body' over inside E F G e p =
      visit_by (statement_of s) (λ around. values_in around (statement_of body'))
      (λ around. ap (λ (t : Statement). inner_values t around) (at_for s at first test step body body' e p)) over inside E F G

  pub visit_while : (s : Stmt) (at : ℕ) (test : Expr) (body body' : Stmt) (over inside : ℕ) (E F G : List Edge) → s ≡ stmt.While at test body → body ≡ body'
      → In s over inside E F → CollectsAll meaning n inside (λ around. values_in around (statement_of body')) F G → All s over E G
  visit_while s at test body body' over inside E F G e p =
      visit_by (statement_of s) (λ around. values_in around (statement_of body'))
      (λ around. ap (λ (t : Statement). inner_values t around) (at_while s at test body body' e p)) over inside E F G

  pub visit_repeat : (s : Stmt) (at : ℕ) (turns : Expr) (body body' : Stmt) (over inside : ℕ) (E F G : List Edge) → s ≡ stmt.Repeat at turns body → body ≡ body'
      → In s over inside E F → CollectsAll meaning n inside (λ around. values_in around (statement_of body')) F G → All s over E G
  visit_repeat s at turns body body' over inside E F G e p =
      visit_by (statement_of s) (λ around. values_in around (statement_of body'))
      (λ around. ap (λ (t : Statement). inner_values t around) (at_repeat s at turns body body' e p)) over inside E F G

  pub visit_event : (s : Stmt) (at : ℕ) (kind : EventKind) (analyses : List NameAt) (body body' : Stmt) (b : Bool) (over inside : ℕ) (E F G : List Edge) → s ≡ stmt.Event at kind analyses body → body ≡ body'
      → b ≡ is_evaluated kind → b ≡ true → In s over inside E F → CollectsAll meaning n inside (λ around. values_in around (statement_of body')) F G → All s over E G
  visit_event s at kind analyses body body' b over inside E F G e p q r =
      visit_by (statement_of s) (λ around. values_in around (statement_of body'))
      (λ around. ap (λ (t : Statement). inner_values t around) (at_event s at kind analyses body body' e p)
      ∙ ap (λ (c : Bool). if c then values_in around (statement_of body') else []) (sym q ∙ r)) over inside E F G

  -- where no statement in it counts
  visit_alone : (s : Stmt) (t : Statement) → statement_of s ≡ t → ((around : Around) → inner_values t around ≡ []) → (over inside : ℕ) (E F : List Edge) → In s over inside E F → All s over E F
  visit_alone s t e none over inside E F own =
      visit_by (statement_of s) (λ around. []) (λ around. ap (λ (x : Statement). inner_values x around) e ∙ none around) over inside E F F own
      (collects_nothing meaning n inside (λ around. []) (λ around set x b. refl) F)

  pub visit_no_event : (s : Stmt) (at : ℕ) (kind : EventKind) (analyses : List NameAt) (body : Stmt) (b : Bool) (over inside : ℕ) (E F : List Edge) → s ≡ stmt.Event at kind analyses body
      → b ≡ is_evaluated kind → b ≡ false → In s over inside E F → All s over E F
  visit_no_event s at kind analyses body b over inside E F e q r =
      visit_alone s (event at kind analyses (statement_of body)) (at_event s at kind analyses body body e refl)
      (λ around. ap (λ (c : Bool). if c then values_in around (statement_of body) else []) (sym q ∙ r)) over inside E F

  pub visit_null : (s : Stmt) (at over inside : ℕ) (E F : List Edge) → s ≡ stmt.Null at → In s over inside E F → All s over E F
  visit_null s at over inside E F e = visit_alone s (null at) (ap statement_of e) (λ around. refl) over inside E F

  pub visit_assign : (s : Stmt) (at : ℕ) (target : List ℕ) (value : Expr) (over inside : ℕ) (E F : List Edge) → s ≡ stmt.Assign at target value → In s over inside E F → All s over E F
  visit_assign s at target value over inside E F e =
      visit_alone s (assign at target (expression_of value)) (at_assign s at target value e) (λ around. refl) over inside E F

  pub visit_contribute : (s : Stmt) (at : ℕ) (access : List ℕ) (first : NameAt) (second : Option NameAt) (value : Expr) (over inside : ℕ) (E F : List Edge) → s ≡ stmt.Contribute at access first second value
      → In s over inside E F → All s over E F
  visit_contribute s at access first second value over inside E F e =
      visit_alone s (contribute at access first second (expression_of value)) (at_contribute s at access first second value e) (λ around. refl) over inside E F

  pub visit_task : (s : Stmt) (at : ℕ) (bytes : List ℕ) (args : List Arg) (over inside : ℕ) (E F : List Edge) → s ≡ stmt.Task at bytes args → In s over inside E F → All s over E F
  visit_task s at bytes args over inside E F e =
      visit_alone s (task at bytes (arguments_of args)) (at_task s at bytes args args e refl) (λ around. refl) over inside E F

  -- what statements evaluate themselves
  enters_as : (s : Stmt) (t : Statement) → statement_of s ≡ t → (over inside : ℕ) (E F : List Edge) → CollectsOwn meaning n over t inside E F → In s over inside E F
  enters_as s t e over inside E F h = subst (λ (x : Statement). CollectsOwn meaning n over x inside E F) (sym e) h

  nothing_own : (over : ℕ) (t : Statement) → ((around : Around) (set : ℕ → Bool) (x : ℕ) → biased_by meaning (own_values around t) set x ≡ false) → (E : List Edge)
      → CollectsAll meaning n over (λ around. own_values around t) E E
  nothing_own over t none E = collects_nothing meaning n over (λ around. own_values around t) (λ around set x b. none around set x) E

  pub enter_null : (s : Stmt) (at over : ℕ) (E : List Edge) → s ≡ stmt.Null at → In s over over E E
  enter_null s at over E e = enters_as s (null at) (ap statement_of e) over over E E (nothing_own over (null at) (λ around set x. refl) E)

  pub enter_block : (s : Stmt) (at : ℕ) (label : Option NameAt) (ds : List Declaration) (body : List Stmt) (over : ℕ) (E : List Edge) → s ≡ stmt.Block at label ds body → In s over over E E
  enter_block s at label ds body over E e =
      enters_as s (block at label ds (statements_of body)) (at_block s at label ds body ds body e refl refl) over over E E
      (nothing_own over (block at label ds (statements_of body)) (λ around set x. unassigned around initial (λ y. refl) (declared ds) set x) E)

  pub enter_event : (s : Stmt) (at : ℕ) (kind : EventKind) (analyses : List NameAt) (body : Stmt) (over : ℕ) (E : List Edge) → s ≡ stmt.Event at kind analyses body → In s over over E E
  enter_event s at kind analyses body over E e =
      enters_as s (event at kind analyses (statement_of body)) (at_event s at kind analyses body body e refl) over over E E
      (nothing_own over (event at kind analyses (statement_of body)) (λ around set x. refl) E)

  pub enter_contribute : (s : Stmt) (at : ℕ) (access : List ℕ) (first : NameAt) (second : Option NameAt) (value : Expr) (over : ℕ) (E : List Edge) → s ≡ stmt.Contribute at access first second value → In s over over E E
  enter_contribute s at access first second value over E e =
      enters_as s (contribute at access first second (expression_of value)) (at_contribute s at access first second value e) over over E E
      (nothing_own over (contribute at access first second (expression_of value)) (λ around set x. refl) E)

  pub enter_task : (s : Stmt) (at : ℕ) (bytes : List ℕ) (args : List Arg) (over : ℕ) (E : List Edge) → s ≡ stmt.Task at bytes args → In s over over E E
  enter_task s at bytes args over E e =
      enters_as s (task at bytes (arguments_of args)) (at_task s at bytes args args e refl) over over E E
      (nothing_own over (task at bytes (arguments_of args)) (λ around set x. refl) E)

  pub enter_assign : (s : Stmt) (at : ℕ) (target : List ℕ) (value : Expr) (over : ℕ) (E F : List Edge) → s ≡ stmt.Assign at target value
      → CollectsAll meaning n over (λ around. value_for around (assigned at) (expression_of value) ∷ []) E F → In s over over E F
  enter_assign s at target value over E F e p = enters_as s (assign at target (expression_of value)) (at_assign s at target value e) over over E F p

  -- one expression as the condition
  one_condition : (over c : ℕ) (e : Expression) (own : Around → List Value) (inner : Around → Around) (E F : List Edge) → Silent meaning n own → ((around : Around) → (inner around).conditions ≡ e ∷ around.conditions)
      → c ≡ nodes n E → F ≡ added n over c (meanings_in meaning (looked_at e)) E → Collects meaning n over own c inner E F
  one_condition over c e own inner E F none is at f =
      collects_condition meaning n over c (e ∷ []) own inner E F none is at
      (f ∙ ap (λ list. added n over c (meanings_in meaning list) E) (sym (append-nil (looked_at e))))

  if_enters : (at : ℕ) (t : Expression) (x : Statement) (other : Option Stmt) (over c : ℕ) (E F : List Edge) → c ≡ nodes n E → F ≡ added n over c (meanings_in meaning (looked_at t)) E
      → CollectsOwn meaning n over (if_of at t x other) c E F
  if_enters at t x None over c E F p f = one_condition over c t (λ around. own_values around (if_of at t x None)) (around_inner (if_of at t x None)) E F (λ around set y b. refl) (λ around. refl) p f
  if_enters at t x (Some b) over c E F p f = one_condition over c t (λ around. own_values around (if_of at t x (Some b))) (around_inner (if_of at t x (Some b))) E F (λ around set y b. refl) (λ around. refl) p f

  pub enter_if : (s : Stmt) (at : ℕ) (test : Expr) (x : Stmt) (other : Option Stmt) (over c : ℕ) (E F : List Edge) → s ≡ stmt.If at test x other
      → c ≡ nodes n E → F ≡ added n over c (meanings_in meaning (looked_at (expression_of test))) E → In s over c E F
  enter_if s at test x other over c E F e p f =
      enters_as s (if_of at (expression_of test) (statement_of x) other) (at_if s at test x other x e refl) over c E F
      (if_enters at (expression_of test) (statement_of x) other over c E F p f)

  pub enter_case : (s : Stmt) (at : ℕ) (selector : Expr) (items : List CaseItem) (defaults : List CaseDefault) (items' : List CaseItem) (over c : ℕ) (E F G : List Edge)
      → s ≡ stmt.Case at selector items defaults → items ≡ items' → c ≡ nodes n E → F ≡ added n over c (meanings_in meaning (looked_at (expression_of selector))) E
      → Reads meaning n c (flat_map in_item items') F G → In s over c E G
  enter_case s at selector items defaults items' over c E F G e p q f r =
      let t : Expression = expression_of selector in
      let rest : List Expression = tests_of (items_of items') in
      let whole : Statement = cases at t (items_of items') (defaults_of defaults) in
      enters_as s whole (at_case s at selector items defaults items' defaults e p refl) over c E G
      (collects_condition meaning n over c (t ∷ rest) (λ around. own_values around whole) (around_inner whole) E G
      (λ around set x b. unassigned around tested (λ y. refl) (t ∷ rest) set x) (λ around. refl) q
      (found_then (edges_by n c) (meanings_in meaning (looked_at t)) (meanings_in meaning (flat_map in_item items')) (E ++ link over c ∷ []) F G f r
      ∙ ap (λ names. (E ++ link over c ∷ []) ++ edges_to n c names)
      (ap (λ list. meanings_in meaning (looked_at t) ++ meanings_in meaning list) (sym (tests_parts meaning (λ x. false) items'))
      ∙ sym (map_append (meaning_of meaning) (looked_at t) (flat_map looked_at rest)))))

  pub enter_for : (s : Stmt) (at : ℕ) (first : Assignment) (test : Expr) (step : Assignment) (body : Stmt) (over c : ℕ) (E F G H : List Edge) → s ≡ stmt.For at first test step body
      → c ≡ nodes n E → F ≡ added n over c (meanings_in meaning (looked_at (expression_of test))) E
      → CollectsAll meaning n c (λ around. value_for around (assigned first.target.at) (expression_of first.value) ∷ []) F G
      → CollectsAll meaning n c (λ around. value_for around (assigned step.target.at) (expression_of step.value) ∷ []) G H → In s over c E H
  enter_for s at first test step body over c E F G H e p f v w =
      let t : Expression = expression_of test in
      enters_as s (for_loop at first.target (expression_of first.value) t step.target (expression_of step.value) (statement_of body)) (at_for s at first test step body body e refl) over c E H
      (collects_then meaning n over c c (λ around. value_for around tested t ∷ [])
      (λ around. value_for around (assigned first.target.at) (expression_of first.value) ∷ value_for around (assigned step.target.at) (expression_of step.value) ∷ []) (looped t) (λ around. around) E F H
      (one_condition over c t (λ around. value_for around tested t ∷ []) (looped t) E F (λ around set x b. refl) (λ around. refl) p f)
      (then_all c (λ around. value_for around (assigned first.target.at) (expression_of first.value) ∷ []) (λ around. value_for around (assigned step.target.at) (expression_of step.value) ∷ []) F G H v w))

  pub enter_while : (s : Stmt) (at : ℕ) (test : Expr) (body : Stmt) (over c : ℕ) (E F : List Edge) → s ≡ stmt.While at test body
      → c ≡ nodes n E → F ≡ added n over c (meanings_in meaning (looked_at (expression_of test))) E → In s over c E F
  enter_while s at test body over c E F e p f =
      let t : Expression = expression_of test in
      enters_as s (while_loop at t (statement_of body)) (at_while s at test body body e refl) over c E F
      (one_condition over c t (λ around. value_for around tested t ∷ []) (looped t) E F (λ around set x b. refl) (λ around. refl) p f)

  pub enter_repeat : (s : Stmt) (at : ℕ) (turns : Expr) (body : Stmt) (over c : ℕ) (E F : List Edge) → s ≡ stmt.Repeat at turns body
      → c ≡ nodes n E → F ≡ added n over c (meanings_in meaning (looked_at (expression_of turns))) E → In s over c E F
  enter_repeat s at turns body over c E F e p f =
      let t : Expression = expression_of turns in
      enters_as s (repeat_loop at t (statement_of body)) (at_repeat s at turns body body e refl) over c E F
      (one_condition over c t (λ around. value_for around tested t ∷ []) (looped t) E F (λ around set x b. refl) (λ around. refl) p f)

  pub else_none : (over : ℕ) (other : Option Stmt) (E : List Edge) → other ≡ None → CollectsAll meaning n over (λ around. values_in_else around other) E E
  else_none over other E e =
      collects_nothing meaning n over (λ around. values_in_else around other) (λ around set x b. ap (λ (o : Option Stmt). biased_by meaning (values_in_else around o) set x) e) E

  -- the block that an item is, if it is one
  pub visit_analog : (i : Item) (at : ℕ) (body : Stmt) (over : ℕ) (E F : List Edge) → i.body ≡ item.Analog at body → CollectsAll meaning n over (λ around. values_in around (statement_of body)) E F
      → CollectsAll meaning n over (λ around. flat_map (values_in around) (item_blocks i)) E F
  visit_analog i at body over E F e p =
      collects_as meaning n over over (λ around. values_in around (statement_of body)) (λ around. flat_map (values_in around) (item_blocks i)) (λ around. around) E F
      (λ around. sym (append-nil (values_in around (statement_of body))) ∙ ap (λ (b : ItemBody). flat_map (values_in around) (analog_body b)) (sym e)) p

  no_block : (b : ItemBody) → ((at : ℕ) (body : Stmt) → b ≡ item.Analog at body → ⊥) → analog_body b ≡ []
  no_block (item.Analog at body) h = absurd (h at body refl)
  no_block (item.Direction at direction discipline names) h = refl
  no_block (item.Nodes at discipline names) h = refl
  no_block (item.Branch at first second names) h = refl
  no_block (item.Parameters at local ty parameters) h = refl
  no_block (item.Alias at name target) h = refl
  no_block (item.Variables declaration) h = refl
  no_block (item.Function at ty name items body) h = refl

  pub visit_other : (i : Item) (over : ℕ) (E : List Edge) → ((at : ℕ) (body : Stmt) → i.body ≡ item.Analog at body → ⊥) → CollectsAll meaning n over (λ around. flat_map (values_in around) (item_blocks i)) E E
  visit_other i over E h =
      collects_nothing meaning n over (λ around. flat_map (values_in around) (item_blocks i))
      (λ around set x b. ap (λ (blocks : List Statement). biased_by meaning (flat_map (values_in around) blocks) set x) (no_block i.body h)) E

-- the values of the analogue blocks among items
pub block_values : (around : Around) (x : Item) (rest : List Item) → flat_map (values_in around) (blocks_of (x ∷ rest)) ≡ flat_map (values_in around) (item_blocks x) ++ flat_map (values_in around) (blocks_of rest)
block_values around x rest = flat_map-append (values_in around) (item_blocks x) (blocks_of rest)
