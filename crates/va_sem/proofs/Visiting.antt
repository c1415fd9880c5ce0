-- What walks over statements find, statement by statement.
use Rattle.std.specs.Prelude.{◌≡◌, ℕ, suc, ◌+◌, ◌==◌, ◌<◌, ◌≤◌, ◌||◌, ◌&&◌, not, Bool, true, false, List, [], ◌∷◌, ◌++◌, Option, Some, None, map, flat_map, drop, length, get_or}
use Rattle.std.specs.List.{list_any}
use Rattle.std.proofs.Common.{refl, sym, ◌∙◌, ap, arith}
use Rattle.std.proofs.Math.ListN.{drop_of_length-le}
use Rattle.std.proofs.Math.Seq.{drop-cons}
use Rattle.std.proofs.lemmas.List.{append_assoc, append-nil}
use Rattle.std.proofs.lemmas.Grind.{flat_map-append}
use Rattle.std.proofs.lemmas.List.Folds.{list_any-append}
use Rattle.va_tree.specs.declared.expr.Expr.{Expr}
use Rattle.va_tree.specs.declared.module.Declaration.{Declaration}
use Rattle.va_tree.specs.declared.module.Item.{Item}
use Rattle.va_tree.specs.declared.module.Variable.{Variable}
use Rattle.va_tree.specs.declared.stmt.CaseItem.{CaseItem}
use Rattle.va_tree.specs.Declarations.{declared, initialisers, if_there}
use Rattle.va_tree.specs.Expressions.{Expression, expression_of}
use Rattle.va_tree.specs.Statements.{Statement, items_of}
use Rattle.va_sem.specs.declared.findings.Finding.{Finding}
use Rattle.va_sem.specs.declared.names.Meaning.{Meaning}
use Rattle.va_sem.specs.declared.names.Meaning.TheVariants as means
use Rattle.va_sem.specs.LookedAt.{looked_at}
use Rattle.va_sem.specs.rules.Uses.{meaning_of, is_variable_in}
use Rattle.va_sem.specs.rules.Biased.{is_biased, is_assigned_to, biased_by}
use Rattle.va_sem.specs.rules.BranchKinds.{is_zero}
use Rattle.va_sem.specs.rules.Values.{Purpose, assigned, contributed, tested, initial, Around, Value, value_for, tests_of, values_in, values_of}
use Rattle.va_sem.specs.rules.Findings.{IsRead, Visits, meanings_in, flows_read, reads_biased, flows_in, any_biased, variable_found, contribution_found, purpose_found, found_by, in_expr, in_item, in_initialiser, in_variable, in_declaration, item_blocks, blocks_of, marks}
use Rattle.va_sem.proofs.Walks.{found_then, map_append}

or_false : (a : Bool) → a || false ≡ a
or_false true = refl
or_false false = refl

and_true : (a : Bool) → a && true ≡ a
and_true true = refl
and_true false = refl

and_false : (a : Bool) → a && false ≡ false
and_false true = refl
and_false false = refl

any_map : {S T : Type 0} (f : T → Bool) (g : S → T) (xs : List S) → list_any f (map g xs) ≡ list_any (λ x. f (g x)) xs
any_map f g [] = refl
any_map f g (x ∷ xs) = ap (λ b. f (g x) || b) (any_map f g xs)

module _ (meaning : ℕ → Option Meaning) (biased : ℕ → Bool) where
  pub biased_answer : (e : Expression) (f g : List Finding) (a : Bool) → IsRead biased (meanings_in meaning (looked_at e)) f g a → a ≡ is_biased meaning biased e
  biased_answer e f g a r = r.answer_is ∙ any_map (reads_biased biased) (meaning_of meaning) (looked_at e)

  -- one value: its flows, and what it is for
  one_found : (f g h flows rest : List Finding) → g ≡ f ++ flows → h ≡ g ++ rest → h ≡ f ++ (flows ++ rest ++ [])
  one_found f g h flows rest p q =
      q ∙ ap (λ list. list ++ rest) p ∙ append_assoc f flows rest ∙ ap (λ list. f ++ list) (sym (append-nil (flows ++ rest)))

  pub assign_visits : (at : ℕ) (e : Expression) (f g h : List Finding) (a d under : Bool) (m : Option Meaning) → IsRead biased (meanings_in meaning (looked_at e)) f g a → d ≡ a || under → m ≡ meaning at
      → h ≡ g ++ variable_found d m → Visits meaning biased under (λ around. value_for around (assigned at) e ∷ []) f h
  assign_visits at e f g h a d under m r p q s around u =
      one_found f g h (flows_in meaning biased e) (variable_found (is_biased meaning biased e || any_biased meaning biased around.conditions) (meaning at)) r.found
      (s ∙ ap (λ list. g ++ list) ((λ j. variable_found (p j) (q j)) ∙ (λ j. variable_found (biased_answer e f g a r j || u j) (meaning at))))

  pub contribute_visits : (at : ℕ) (e : Expression) (f g h : List Finding) (a z d under : Bool) (m : Option Meaning) → IsRead biased (meanings_in meaning (looked_at e)) f g a → z ≡ is_zero e → d ≡ z && not under → m ≡ meaning at
      → h ≡ g ++ contribution_found at d m → Visits meaning biased under (λ around. value_for around (contributed at) e ∷ []) f h
  contribute_visits at e f g h a z d under m r k p q s around u =
      one_found f g h (flows_in meaning biased e) (contribution_found at (is_zero e && not (any_biased meaning biased around.conditions)) (meaning at)) r.found
      (s ∙ ap (λ list. g ++ list) ((λ j. contribution_found at (p j) (q j)) ∙ (λ j. contribution_found at (k j && not (u j)) (meaning at))))

  -- values of which nothing is known but their flows
  pub test_found : (around : Around) (e : Expression) (f g : List Finding) (a : Bool) → IsRead biased (meanings_in meaning (looked_at e)) f g a → g ≡ f ++ flat_map (found_by meaning biased) (value_for around tested e ∷ [])
  test_found around e f g a r =
      r.found ∙ ap (λ list. f ++ list) (sym (append-nil (flows_in meaning biased e ++ []) ∙ append-nil (flows_in meaning biased e)))

  pub plain_found : (around : Around) (p : Purpose) → ((e : Expression) (cs : List Expression) → purpose_found meaning biased p e cs ≡ []) → (es : List Expression)
      → flat_map (found_by meaning biased) (map (value_for around p) es) ≡ flat_map flows_read (meanings_in meaning (flat_map looked_at es))
  plain_found around p none [] = refl
  plain_found around p none (e ∷ es) =
      (λ j. (flows_in meaning biased e ++ none e around.conditions j) ++ plain_found around p none es j)
      ∙ ap (λ list. list ++ flat_map flows_read (meanings_in meaning (flat_map looked_at es))) (append-nil (flows_in meaning biased e))
      ∙ sym (flat_map-append flows_read (meanings_in meaning (looked_at e)) (meanings_in meaning (flat_map looked_at es)))
      ∙ ap (flat_map flows_read) (sym (map_append (meaning_of meaning) (looked_at e) (flat_map looked_at es)))

  pub any_of_all : (es : List Expression) → list_any (reads_biased biased) (meanings_in meaning (flat_map looked_at es)) ≡ any_biased meaning biased es
  any_of_all [] = refl
  any_of_all (e ∷ es) =
      ap (list_any (reads_biased biased)) (map_append (meaning_of meaning) (looked_at e) (flat_map looked_at es))
      ∙ list_any-append (reads_biased biased) (meanings_in meaning (looked_at e)) (meanings_in meaning (flat_map looked_at es))
      ∙ (λ j. any_map (reads_biased biased) (meaning_of meaning) (looked_at e) j || any_of_all es j)

  pub visits_nothing : (under : Bool) (f : List Finding) → Visits meaning biased under (λ around. []) f f
  visits_nothing under f around u = sym (append-nil f)

  pub visits_then : (under : Bool) (A B : Around → List Value) (f g h : List Finding) → Visits meaning biased under A f g → Visits meaning biased under B g h → Visits meaning biased under (λ around. A around ++ B around) f h
  visits_then under A B f g h p q around u = found_then (found_by meaning biased) (A around) (B around) f g h (p around u) (q around u)

  variable_part : (o : Option Expr) → flat_map looked_at (if_there o) ≡ in_initialiser o
  variable_part None = refl
  variable_part (Some e) = append-nil (looked_at (expression_of e))

  variables_parts : (vs : List Variable) → flat_map looked_at (initialisers vs) ≡ flat_map in_variable vs
  variables_parts [] = refl
  variables_parts (v ∷ vs) = flat_map-append looked_at (if_there v.initialiser) (initialisers vs) ∙ (λ j. variable_part v.initialiser j ++ variables_parts vs j)

  pub declared_parts : (ds : List Declaration) → flat_map looked_at (declared ds) ≡ flat_map in_declaration ds
  declared_parts [] = refl
  declared_parts (d ∷ ds) = flat_map-append looked_at (initialisers d.variables) (declared ds) ∙ (λ j. variables_parts d.variables j ++ declared_parts ds j)

  exprs_parts : (es : List Expr) → flat_map looked_at (map expression_of es) ≡ flat_map in_expr es
  exprs_parts [] = refl
  exprs_parts (e ∷ es) = ap (λ list. looked_at (expression_of e) ++ list) (exprs_parts es)

  pub tests_parts : (items : List CaseItem) → flat_map looked_at (tests_of (items_of items)) ≡ flat_map in_item items
  tests_parts [] = refl
  tests_parts (i ∷ items) = flat_map-append looked_at (map expression_of i.values) (tests_of (items_of items)) ∙ (λ j. exprs_parts i.values j ++ tests_parts items j)

  -- What is left of a list from a place on, visited after what stands before it, is the whole list visited.
  abbrev pub VisitsOn : {X : Type 0} → Bool → (Around → List X → List Value) → List X → List Finding → ℕ → List Finding → Type 0
  VisitsOn under values xs start i f =
      (around : Around) → under ≡ any_biased meaning biased around.conditions → f ++ flat_map (found_by meaning biased) (values around (drop i xs)) ≡ start ++ flat_map (found_by meaning biased) (values around xs)

  pub visits_next : {X : Type 0} (under : Bool) (values : Around → List X → List Value) (own : Around → X → List Value) → ((around : Around) (x : X) (rest : List X) → values around (x ∷ rest) ≡ own around x ++ values around rest)
      → (xs : List X) (start : List Finding) (i : ℕ) (f g : List Finding) (x : X) → i < length xs → x ≡ get_or xs i x → Visits meaning biased under (λ around. own around x) f g → VisitsOn under values xs start i f → VisitsOn under values xs start (i + 1) g
  visits_next {X} under values own split xs start i f g x lt is v on around u =
      let F : List Value → List Finding = flat_map (found_by meaning biased) in
      let here : drop i xs ≡ x ∷ drop (suc i) xs = drop-cons xs i x lt ∙ ap (λ (y : X). y ∷ drop (suc i) xs) (sym is) in
      let one : i + 1 ≡ suc i = omega arith in
      let rest : List Finding = F (values around (drop (suc i) xs)) in
      let parts : F (values around (drop i xs)) ≡ F (own around x) ++ rest = ap (λ list. F (values around list)) here ∙ ap F (split around x (drop (suc i) xs)) ∙ flat_map-append (found_by meaning biased) (own around x) (values around (drop (suc i) xs)) in
      ap (λ (n : ℕ). g ++ F (values around (drop n xs))) one
      ∙ ap (λ list. list ++ rest) (v around u)
      ∙ append_assoc f (F (own around x)) rest
      ∙ ap (λ list. f ++ list) (sym parts)
      ∙ on around u

  pub visits_end : {X : Type 0} (under : Bool) (values : Around → List X → List Value) → ((around : Around) → values around [] ≡ []) → (xs : List X) (start : List Finding) (i : ℕ) (f : List Finding) → length xs ≤ i → VisitsOn under values xs start i f → Visits meaning biased under (λ around. values around xs) start f
  visits_end {X} under values none xs start i f h on around u =
      sym (append-nil f) ∙ ap (λ list. f ++ flat_map (found_by meaning biased) list) (sym (ap (values around) (drop_of_length-le xs h) ∙ none around)) ∙ on around u

  -- What is left of the items from a place on, found after what is found in those before it, is all that is found.
  abbrev pub FindsOn : List Item → ℕ → List Finding → Type 0
  FindsOn items i f = f ++ flat_map (found_by meaning biased) (values_of (blocks_of (drop i items))) ≡ flat_map (found_by meaning biased) (values_of (blocks_of items))

  values_split : (a b : List Statement) → values_of (a ++ b) ≡ values_of a ++ values_of b
  values_split a b = flat_map-append (values_in (record { conditions = []; in_loop = false })) a b

  pub finds_next : (items : List Item) (i : ℕ) (f g : List Finding) (x : Item) → i < length items → x ≡ get_or items i x → g ≡ f ++ flat_map (found_by meaning biased) (values_of (item_blocks x)) → FindsOn items i f → FindsOn items (i + 1) g
  finds_next items i f g x lt is p on =
      let F : List Statement → List Finding = λ blocks. flat_map (found_by meaning biased) (values_of blocks) in
      let here : drop i items ≡ x ∷ drop (suc i) items = drop-cons items i x lt ∙ ap (λ (y : Item). y ∷ drop (suc i) items) (sym is) in
      let one : i + 1 ≡ suc i = omega arith in
      let rest : List Finding = F (blocks_of (drop (suc i) items)) in
      let parts : F (blocks_of (drop i items)) ≡ F (item_blocks x) ++ rest = ap (λ list. F (blocks_of list)) here ∙ ap (flat_map (found_by meaning biased)) (values_split (item_blocks x) (blocks_of (drop (suc i) items))) ∙ flat_map-append (found_by meaning biased) (values_of (item_blocks x)) (values_of (blocks_of (drop (suc i) items))) in
      ap (λ (n : ℕ). g ++ F (blocks_of (drop n items))) one
      ∙ ap (λ list. list ++ rest) p
      ∙ append_assoc f (F (item_blocks x)) rest
      ∙ ap (λ list. f ++ list) (sym parts)
      ∙ on

  pub finds_end : (items : List Item) (i : ℕ) (f : List Finding) → length items ≤ i → FindsOn items i f → f ≡ flat_map (found_by meaning biased) (values_of (blocks_of items))
  finds_end items i f h on =
      sym (append-nil f) ∙ ap (λ (list : List Item). f ++ flat_map (found_by meaning biased) (values_of (blocks_of list))) (sym (drop_of_length-le items h)) ∙ on

  -- the variables that walks find biased are those that follow by the rule
  no_marks : (x : ℕ) (m : Option Meaning) → list_any (marks x) (flows_read m) ≡ false
  no_marks x None = refl
  no_marks x (Some (means.Access branch turned true)) = refl
  no_marks x (Some (means.Access branch turned false)) = refl
  no_marks x (Some (means.Node n)) = refl
  no_marks x (Some (means.Branch n)) = refl
  no_marks x (Some (means.Param n)) = refl
  no_marks x (Some (means.Var n)) = refl
  no_marks x (Some (means.Function n)) = refl
  no_marks x (Some (means.Discipline n)) = refl
  no_marks x (Some (means.Nature n)) = refl
  no_marks x (Some (means.Module n)) = refl
  no_marks x (Some (means.Builtin n)) = refl

  no_marks_in : (x : ℕ) (ms : List (Option Meaning)) → list_any (marks x) (flat_map flows_read ms) ≡ false
  no_marks_in x [] = refl
  no_marks_in x (m ∷ ms) = list_any-append (marks x) (flows_read m) (flat_map flows_read ms) ∙ (λ j. no_marks x m j || no_marks_in x ms j)

  variable_marks : (x : ℕ) (d : Bool) (m : Option Meaning) → list_any (marks x) (variable_found d m) ≡ is_variable_in (λ other. other == x) m && d
  variable_marks x false m = sym (and_false (is_variable_in (λ other. other == x) m))
  variable_marks x true None = refl
  variable_marks x true (Some (means.Var n)) = or_false (n == x) ∙ sym (and_true (n == x))
  variable_marks x true (Some (means.Node n)) = refl
  variable_marks x true (Some (means.Branch n)) = refl
  variable_marks x true (Some (means.Param n)) = refl
  variable_marks x true (Some (means.Function n)) = refl
  variable_marks x true (Some (means.Discipline n)) = refl
  variable_marks x true (Some (means.Nature n)) = refl
  variable_marks x true (Some (means.Module n)) = refl
  variable_marks x true (Some (means.Builtin n)) = refl
  variable_marks x true (Some (means.Access branch turned flow)) = refl

  contribution_marks : (x at : ℕ) (d : Bool) (m : Option Meaning) → list_any (marks x) (contribution_found at d m) ≡ false
  contribution_marks x at d None = refl
  contribution_marks x at d (Some (means.Var n)) = refl
  contribution_marks x at d (Some (means.Node n)) = refl
  contribution_marks x at d (Some (means.Branch n)) = refl
  contribution_marks x at d (Some (means.Param n)) = refl
  contribution_marks x at d (Some (means.Function n)) = refl
  contribution_marks x at d (Some (means.Discipline n)) = refl
  contribution_marks x at d (Some (means.Nature n)) = refl
  contribution_marks x at d (Some (means.Module n)) = refl
  contribution_marks x at d (Some (means.Builtin n)) = refl
  contribution_marks x at d (Some (means.Access branch turned flow)) = refl

  purpose_marks : (x : ℕ) (p : Purpose) (e : Expression) (cs : List Expression) → list_any (marks x) (purpose_found meaning biased p e cs) ≡ is_assigned_to meaning x p && any_biased meaning biased (e ∷ cs)
  purpose_marks x (assigned at) e cs = variable_marks x (is_biased meaning biased e || any_biased meaning biased cs) (meaning at)
  purpose_marks x (contributed at) e cs = contribution_marks x at (is_zero e && not (any_biased meaning biased cs)) (meaning at)
  purpose_marks x tested e cs = refl
  purpose_marks x initial e cs = refl

  pub marks_found : (x : ℕ) (values : List Value) → list_any (marks x) (flat_map (found_by meaning biased) values) ≡ biased_by meaning values biased x
  marks_found x [] = refl
  marks_found x (v ∷ values) =
      list_any-append (marks x) (found_by meaning biased v) (flat_map (found_by meaning biased) values)
      ∙ (λ j. (list_any-append (marks x) (flows_in meaning biased v.expression) (purpose_found meaning biased v.purpose v.expression v.around.conditions) ∙ (λ k. no_marks_in x (meanings_in meaning (looked_at v.expression)) k || purpose_marks x v.purpose v.expression v.around.conditions k)) j || marks_found x values j)
