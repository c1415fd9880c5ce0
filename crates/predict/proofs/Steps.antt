-- How what is left to read changes: a nonterminal gives way to its row, a kind is taken.
use Rattle.std.proofs.Common.{◌≡◌, ℕ, List, [], ◌∷◌, ◌++◌, Option, Some, None, refl, ap, sym, ◌∙◌, subst, append_assoc}
use Rattle.predict.specs.declared.symbol.Symbol.{Symbol}
use Rattle.predict.specs.declared.symbol.Symbol.TheVariants.{Kind, Left}
use Rattle.predict.specs.declared.tree.ParseNode.{ParseNode}
use Rattle.predict.specs.Rules.{Rules}
use Rattle.predict.specs.Tree.{Parts, node, no_parts, token, subtree, spelling_of, nodes_of, tree_count}
use Rattle.predict.specs.Sentence.{ArePartsOf, first}
use Rattle.predict.specs.Stack.{Completes, AreAlike, Takes, Refuses, node_of}
use Rattle.predict.proofs.Parts.{followed, spelling-followed, nodes-followed, first-append, joined, split, counted}

same_row : (r s : ℕ) → Some r ≡ Some s → r ≡ s
same_row r s e = cc

-- the kind at which the row of a tree was chosen
chosen_at : (rules : Rules) (next : ℕ) (p q : Parts) (kinds : List ℕ) → spelling_of p ++ spelling_of q ≡ kinds → first kinds rules.end_kind ≡ next →
    first (spelling_of p) (first (spelling_of q) rules.end_kind) ≡ next
chosen_at rules next p q kinds e f =
    sym (first-append (spelling_of p) (spelling_of q) rules.end_kind) ∙ ap (λ xs. first xs rules.end_kind) e ∙ f

-- the nodes before a tree and its parts
regrouped : (so_far a b : List ParseNode) (n : ParseNode) → (so_far ++ n ∷ []) ++ (a ++ b) ≡ so_far ++ ((n ∷ a) ++ b)
regrouped so_far a b n = append_assoc so_far (n ∷ []) (a ++ b)

-- a tree with this row in front of parts
node_is : (rules : Rules) (row : ℕ) (p : Parts) (next : ℕ) → ArePartsOf rules (rules.symbols row) p next → node_of rules row ≡ record { row = row; children = tree_count p }
node_is rules row p next h = λ j. record { row = row; children = sym (counted rules (rules.symbols row) p next h) j }

row_opened : (rules : Rules) (left next row : ℕ) (symbols : List Symbol) (so_far : List ParseNode) → rules.row_at left next ≡ Some row →
    (kinds : List ℕ) (all : List ParseNode) → first kinds rules.end_kind ≡ next → (parts : Parts) → ArePartsOf rules (Left left ∷ symbols) parts rules.end_kind → spelling_of parts ≡ kinds → so_far ++ nodes_of parts ≡ all →
    Completes rules (rules.symbols row ++ symbols) (so_far ++ node_of rules row ∷ []) kinds all
row_opened rules left next row symbols so_far r kinds all f (subtree (node s p) q) h e g =
    let at = chosen_at rules next p q kinds e f in
    let same : s ≡ row = same_row s row (sym h.0.0 ∙ ap (λ n. rules.row_at left n) at ∙ r) in
    let inner = subst (λ (n : ℕ). ArePartsOf rules (rules.symbols n) p (first (spelling_of q) rules.end_kind)) same h.0.1 in
    record {
      parts = followed p q;
      derived = joined rules (rules.symbols row) symbols p q rules.end_kind inner h.1;
      spelled = spelling-followed p q ∙ e;
      gathered =
          ap (λ xs. (so_far ++ node_of rules row ∷ []) ++ xs) (nodes-followed p q) ∙ regrouped so_far (nodes_of p) (nodes_of q) (node_of rules row)
          ∙ (λ j. so_far ++ ((node_is rules row p _ inner j ∷ nodes_of p) ++ nodes_of q)) ∙ (λ j. so_far ++ ((record { row = sym same j; children = tree_count p } ∷ nodes_of p) ++ nodes_of q)) ∙ g;
    }
row_opened rules left next row symbols so_far r kinds all f no_parts h e g = absurd h
row_opened rules left next row symbols so_far r kinds all f (token k q) h e g = absurd h

row_closed : (rules : Rules) (left next row : ℕ) (symbols : List Symbol) (so_far : List ParseNode) → rules.row_at left next ≡ Some row →
    (kinds : List ℕ) (all : List ParseNode) → first kinds rules.end_kind ≡ next → Completes rules (rules.symbols row ++ symbols) (so_far ++ node_of rules row ∷ []) kinds all → Completes rules (Left left ∷ symbols) so_far kinds all
row_closed rules left next row symbols so_far r kinds all f c =
    let s = split rules (rules.symbols row) symbols c.parts rules.end_kind c.derived in
    let spelled = sym (spelling-followed s.front s.back) ∙ ap spelling_of (sym s.whole) ∙ c.spelled in
    let at = chosen_at rules next s.front s.back kinds spelled f in
    record {
      parts = subtree (node row s.front) s.back;
      derived = ((ap (λ n. rules.row_at left n) at ∙ r, s.at_front), s.at_back);
      spelled = spelled;
      gathered =
          (λ j. so_far ++ ((sym (node_is rules row s.front _ s.at_front) j ∷ nodes_of s.front) ++ nodes_of s.back)) ∙ sym (regrouped so_far (nodes_of s.front) (nodes_of s.back) (node_of rules row))
          ∙ ap (λ xs. (so_far ++ node_of rules row ∷ []) ++ xs) (sym (nodes-followed s.front s.back) ∙ ap nodes_of (sym s.whole)) ∙ c.gathered;
    }

-- A nonterminal gives way to its row.
pub gives_way : (rules : Rules) (left next row : ℕ) (symbols : List Symbol) (so_far : List ParseNode) → rules.row_at left next ≡ Some row → AreAlike rules next (Left left ∷ symbols) so_far (rules.symbols row ++ symbols) (so_far ++ node_of rules row ∷ [])
gives_way rules left next row symbols so_far r kinds all f =
    ((λ c. row_opened rules left next row symbols so_far r kinds all f c.parts c.derived c.spelled c.gathered), row_closed rules left next row symbols so_far r kinds all f)

no_row : (o : Option ℕ) (s : ℕ) → o ≡ None → o ≡ Some s → ⊥
no_row o s e f = cc

-- A nonterminal that has no row refuses the kind.
row_missing : (rules : Rules) (left k : ℕ) (symbols : List Symbol) (kinds : List ℕ) → rules.row_at left k ≡ None → (parts : Parts) → ArePartsOf rules (Left left ∷ symbols) parts rules.end_kind → spelling_of parts ≡ k ∷ kinds → ⊥
row_missing rules left k symbols kinds r (subtree (node s p) q) h e = no_row _ s r (ap (λ n. rules.row_at left n) (sym (chosen_at rules k p q (k ∷ kinds) e refl)) ∙ h.0.0)
row_missing rules left k symbols kinds r no_parts h e = absurd h
row_missing rules left k symbols kinds r (token j q) h e = absurd h

pub refuses_missing : (rules : Rules) (left k : ℕ) (symbols : List Symbol) (so_far : List ParseNode) → rules.row_at left k ≡ None → Refuses rules k (Left left ∷ symbols) so_far
refuses_missing rules left k symbols so_far r kinds all c = row_missing rules left k symbols kinds r c.parts c.derived c.spelled

-- A kind refuses another.
other_kind : (rules : Rules) (wanted k : ℕ) (symbols : List Symbol) (kinds : List ℕ) → (wanted ≡ k → ⊥) → (parts : Parts) → ArePartsOf rules (Kind wanted ∷ symbols) parts rules.end_kind → spelling_of parts ≡ k ∷ kinds → ⊥
other_kind rules wanted k symbols kinds ne (token j q) h e = ne (let f : j ≡ k = cc in sym h.0 ∙ f)
other_kind rules wanted k symbols kinds ne no_parts h e = absurd h
other_kind rules wanted k symbols kinds ne (subtree t q) h e = absurd h

pub refuses_other : (rules : Rules) (wanted k : ℕ) (symbols : List Symbol) (so_far : List ParseNode) → (wanted ≡ k → ⊥) → Refuses rules k (Kind wanted ∷ symbols) so_far
refuses_other rules wanted k symbols so_far ne kinds all c = other_kind rules wanted k symbols kinds ne c.parts c.derived c.spelled

-- Where nothing is left every kind is refused.
nothing_left : (rules : Rules) (k : ℕ) (kinds : List ℕ) (parts : Parts) → ArePartsOf rules [] parts rules.end_kind → spelling_of parts ≡ k ∷ kinds → ⊥
nothing_left rules k kinds no_parts h e = cc
nothing_left rules k kinds (token j q) h e = absurd h
nothing_left rules k kinds (subtree t q) h e = absurd h

pub refuses_at_end : (rules : Rules) (k : ℕ) (so_far : List ParseNode) → Refuses rules k [] so_far
refuses_at_end rules k so_far kinds all c = nothing_left rules k kinds c.parts c.derived c.spelled

-- A kind is taken.
kind_taken : (rules : Rules) (k : ℕ) (symbols : List Symbol) (so_far : List ParseNode) (kinds : List ℕ) (all : List ParseNode) (parts : Parts) → ArePartsOf rules (Kind k ∷ symbols) parts rules.end_kind → spelling_of parts ≡ k ∷ kinds → so_far ++ nodes_of parts ≡ all →
    Completes rules symbols so_far kinds all
kind_taken rules k symbols so_far kinds all (token j q) h e g = record { parts = q; derived = h.1; spelled = cc; gathered = g }
kind_taken rules k symbols so_far kinds all no_parts h e g = absurd h
kind_taken rules k symbols so_far kinds all (subtree t q) h e g = absurd h

pub takes_kind : (rules : Rules) (k : ℕ) (symbols : List Symbol) (so_far : List ParseNode) → Takes rules k (Kind k ∷ symbols) so_far symbols so_far
takes_kind rules k symbols so_far kinds all = (
  (λ c. kind_taken rules k symbols so_far kinds all c.parts c.derived c.spelled c.gathered),
  (λ c. record { parts = token k c.parts; derived = (refl, c.derived); spelled = ap (λ xs. k ∷ xs) c.spelled; gathered = c.gathered }),
)

-- Steps in a row.
pub alike_then : (rules : Rules) (next : ℕ) (s t u : List Symbol) (a b c : List ParseNode) → AreAlike rules next s a t b → AreAlike rules next t b u c → AreAlike rules next s a u c
alike_then rules next s t u a b c h k kinds all f = ((λ x. (k kinds all f).0 ((h kinds all f).0 x)), (λ x. (h kinds all f).1 ((k kinds all f).1 x)))

pub alike_takes : (rules : Rules) (k : ℕ) (s t u : List Symbol) (a b c : List ParseNode) → AreAlike rules k s a t b → Takes rules k t b u c → Takes rules k s a u c
alike_takes rules k s t u a b c h g kinds all = ((λ x. (g kinds all).0 ((h (k ∷ kinds) all refl).0 x)), (λ x. (h (k ∷ kinds) all refl).1 ((g kinds all).1 x)))

pub alike_refuses : (rules : Rules) (k : ℕ) (s t : List Symbol) (a b : List ParseNode) → AreAlike rules k s a t b → Refuses rules k t b → Refuses rules k s a
alike_refuses rules k s t a b h g kinds all x = g kinds all ((h (k ∷ kinds) all refl).0 x)
