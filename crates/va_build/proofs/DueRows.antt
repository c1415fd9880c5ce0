-- What is due after a row, a token or a tree.
use Rattle.std.specs.Prelude.{◌≡◌, ◌+◌, ◌<◌, ◌≤◌, ℕ, suc, zero, Bool, true, List, [], ◌∷◌, ◌++◌, length, refl}
use Rattle.std.proofs.Common.{◌⊎◌, inl, inr, ap, sym, ◌∙◌, subst, arith, length-append}
use Rattle.std.proofs.lemmas.List.{length-map}
use Rattle.predict.specs.declared.symbol.Symbol.{Symbol}
use Rattle.predict.specs.declared.symbol.Symbol.TheVariants.{Kind, Left}
use Rattle.predict.specs.declared.tree.ParseNode.{ParseNode}
use Rattle.predict.specs.FirstFit.{IsRowOf}
use Rattle.predict.specs.Sentence.{IsTreeOf, ArePartsOf, IsParsed, first}
use Rattle.predict.specs.Table.{is_among}
use Rattle.predict.specs.Tree.{Tree, Parts, node, no_parts, token, subtree, spelling, spelling_of}
use Rattle.va_base.specs.declared.expanded.Expanded.{Expanded}
use Rattle.va_base.specs.Expansion.{IsExpanded}
use Rattle.va_grammar.specs.Kinds.{kinds_of, kind_in}
use Rattle.va_grammar.specs.Rows.{rule, token as word}
use Rattle.va_grammar.specs.Terminals.{terminal_number}
use Rattle.va_grammar.specs.declared.nonterminal.Nonterminal.TheVariants as nonterminal
use Rattle.va_grammar.specs.declared.terminal.Terminal.TheVariants as terminal
use Rattle.va_grammar.specs.Sets.{va_grammar, va_rules}
use Rattle.va_build.specs.Due.{AreDerived, AreDue, root, next_row}
use Rattle.va_build.specs.Reading.{row_symbols, Ahead, TakesRow, TakesToken, Reads, first_tree, later_trees, parts_from, trees, trees_of, trees_behind}
use Rattle.va_build.specs.StatementHeads.{ReadsCondition, ReadsAssignment}
use Rattle.va_build.specs.Width.{width, width_of}
use Rattle.va_build.specs.declared.statement_heads.Condition.{Condition}
use Rattle.va_tree.specs.declared.stmt.Assignment.{Assignment}
use Rattle.va_build.proofs.SizeDerived.{symbols_same, has_rows, row_among, Each, each_at}
use Rattle.va_build.proofs.TreesBack.{parsed_back}
use Rattle.va_grammar.proofs.VaSymbols.{row_written}

-- no tree is derived where no node is left
no_tree : (l next : ℕ) → IsTreeOf va_rules l (node 0 no_parts) next → ⊥
unfolding va_rules
no_tree l next h = h.1

some_node : (l : ℕ) (symbols : List Symbol) (nodes : List ParseNode) → AreDerived (Left l ∷ symbols) (trees_of nodes) → 0 < length nodes
some_node l symbols [] d = absurd (no_tree l d.0.0 d.0.1)
some_node l symbols (n ∷ nodes) d = omega arith

-- where a tree is due, a node is left
pub node_left : {l : ℕ} {symbols : List Symbol} {a : Ahead} → AreDue (Left l ∷ symbols) a → 0 < length a.nodes
node_left {l} {symbols} {a} d = some_node l symbols a.nodes d.derived

-- where a token is due, the text has it
pub token_left : {k : ℕ} {symbols : List Symbol} {a : Ahead} → AreDue (Kind k ∷ symbols) a → a.at < 2000000
token_left {k} {symbols} {a} d = omega (arith, d.fits)

-- the first of several trees is due
pub one_due : {l : ℕ} {symbols : List Symbol} {a : Ahead} → AreDue (Left l ∷ symbols) a → AreDue (Left l ∷ []) a
one_due {l} {symbols} {a} d = record { derived = (d.derived.0, tt); fits = omega (arith, d.fits) }

parts_derived : (symbols : List Symbol) (ts : List Tree) (next : ℕ) → ArePartsOf va_rules symbols (parts_from symbols ts) next → AreDerived symbols ts
parts_derived [] ts next h = tt
parts_derived (Kind k ∷ symbols) ts next h = parts_derived symbols ts next h.1
parts_derived (Left l ∷ symbols) ts next h = ((first (spelling_of (parts_from symbols (later_trees ts))) next, h.0), parts_derived symbols (later_trees ts) next h.1)

-- the tree whose node was taken
taken_tree : (l row : ℕ) (a b : Ahead) → AreDue (Left l ∷ []) a → TakesRow a b row → (next : ℕ) × IsTreeOf va_rules l (node row (parts_from (row_symbols row) (trees b))) next
taken_tree l row a b d t = (d.derived.0.0, subst (λ (ts : List Tree). IsTreeOf va_rules l (first_tree ts) d.derived.0.0) t.trees_are d.derived.0.1)

row_due : (l row : ℕ) (a b : Ahead) → AreDue (Left l ∷ []) a → TakesRow a b row → AreDue (row_symbols row) b
row_due l row a b d t =
    let tree = taken_tree l row a b d t in
    let wide : width (first_tree (trees a)) ≡ width_of (parts_from (row_symbols row) (trees b)) = ap (λ (ts : List Tree). width (first_tree ts)) t.trees_are in
    record {
      derived = parts_derived (row_symbols row) (trees b) tree.0 (subst (λ (symbols : List Symbol). ArePartsOf va_rules symbols (parts_from (row_symbols row) (trees b)) tree.0) (sym (symbols_same row)) tree.1.1);
      fits = omega (arith, d.fits, wide, t.at_is);
    }

pub as_row : {row : ℕ} {a b : Ahead} (k : ℕ) → TakesRow a b row → row ≡ k → TakesRow a b k
as_row {row} {a} {b} k t is = subst (TakesRow a b) is t

-- the symbols of the row with this number are due, which was taken
pub taken : {l row : ℕ} {a b : Ahead} (k : ℕ) → AreDue (Left l ∷ []) a → TakesRow a b row → row ≡ k → AreDue (row_symbols k) b
taken {l} {row} {a} {b} k d t is = subst (λ (i : ℕ). AreDue (row_symbols i) b) is (row_due l row a b d t)

-- the row that was taken is that of the next tree
pub entered : {row : ℕ} {a b : Ahead} → TakesRow a b row → row ≡ next_row a
entered {row} {a} {b} t = sym (ap (λ (ts : List Tree). root (first_tree ts)) t.trees_are)

-- what was taken is a row of the nonterminal
pub row_of : {l row : ℕ} {a b : Ahead} → AreDue (Left l ∷ []) a → TakesRow a b row → IsRowOf va_grammar row l (va_rules.symbols row)
row_of {l} {row} {a} {b} d t =
    let tree = taken_tree l row a b d t in
    row_written l (first (spelling_of (parts_from (row_symbols row) (trees b))) tree.0) row tree.1.0

-- the nonterminal has these rows alone, of which the one that was taken is none: this can't be
pub no_other : {l row : ℕ} {a b : Ahead} (among : List ℕ) → AreDue (Left l ∷ []) a → TakesRow a b row → has_rows l among ≡ true → Each (λ (k : ℕ). row ≡ k → ⊥) among → ⊥
no_other {l} {row} {a} {b} among d t has none = each_at (λ (k : ℕ). row ≡ k → ⊥) among row none (row_among l among row (va_rules.symbols row) has (row_of d t)) refl

-- the nonterminal has this row alone, so it was taken
only_row : (row k : ℕ) → is_among (k ∷ []) row ≡ true → row ≡ k
only_row row k is = each_at (λ (i : ℕ). i ≡ k) (k ∷ []) row (refl, tt) is

pub only : {l row : ℕ} {a b : Ahead} (k : ℕ) → AreDue (Left l ∷ []) a → TakesRow a b row → has_rows l (k ∷ []) ≡ true → row ≡ k
only {l} {row} {a} {b} k d t has = only_row row k (row_among l (k ∷ []) row (va_rules.symbols row) has (row_of d t))

-- what holds of each row of the nonterminal holds of the one that was taken
pub each_row : {l row : ℕ} {a b : Ahead} (P : ℕ → Type 0) (among : List ℕ) → AreDue (Left l ∷ []) a → TakesRow a b row → has_rows l among ≡ true → Each P among → P row
each_row {l} {row} {a} {b} P among d t has each = each_at P among row each (row_among l among row (va_rules.symbols row) has (row_of d t))

-- the next tree has one of these rows
pub next_among : (l next : ℕ) (t : Tree) (among : List ℕ) → has_rows l among ≡ true → IsTreeOf va_rules l t next → is_among among (root t) ≡ true
next_among l next (node row parts) among has h = row_among l among row (va_rules.symbols row) has (row_written l _ row h.0)

pub not_next : {l row : ℕ} {a : Ahead} (among : List ℕ) → AreDue (Left l ∷ []) a → row ≡ next_row a → has_rows l among ≡ true → Each (λ (k : ℕ). row ≡ k → ⊥) among → ⊥
not_next {l} {row} {a} among d is has none = each_at (λ (k : ℕ). row ≡ k → ⊥) among row none (subst (λ (i : ℕ). is_among among i ≡ true) (sym is) (next_among l d.derived.0.0 (first_tree (trees a)) among has d.derived.0.1)) refl

-- what holds of each row of the nonterminal holds of the next tree's
pub next_each : {l : ℕ} {a : Ahead} (P : ℕ → Type 0) (among : List ℕ) → AreDue (Left l ∷ []) a → has_rows l among ≡ true → Each P among → P (next_row a)
next_each {l} {a} P among d has each = each_at P among (next_row a) each (next_among l d.derived.0.0 (first_tree (trees a)) among has d.derived.0.1)

-- the next tree has one of these rows, of which the one that was taken is none: this can't be
pub not_among : {row : ℕ} {a b : Ahead} (among : List ℕ) → TakesRow a b row → is_among among (next_row a) ≡ true → Each (λ (k : ℕ). row ≡ k → ⊥) among → ⊥
not_among {row} {a} {b} among t is none = each_at (λ (k : ℕ). row ≡ k → ⊥) among (next_row a) none is (entered t)

-- each row of the nonterminal begins with a token
abbrev pub begins : List Symbol → Type 0
begins [] = ⊥
begins (Kind k ∷ symbols) = Unit {0}
begins (Left l ∷ symbols) = ⊥

token_begins : (symbols : List Symbol) (a : Ahead) → begins symbols → AreDue symbols a → a.at < 2000000
token_begins [] a is d = absurd is
token_begins (Kind k ∷ symbols) a is d = token_left d
token_begins (Left l ∷ symbols) a is d = absurd is

pub first_token : {l row : ℕ} {a b : Ahead} (among : List ℕ) → AreDue (Left l ∷ []) a → TakesRow a b row → has_rows l among ≡ true → Each (λ (k : ℕ). begins (row_symbols k)) among → b.at < 2000000
first_token {l} {row} {a} {b} among d t has each = token_begins (row_symbols row) b (each_row (λ (k : ℕ). begins (row_symbols k)) among d t has each) (row_due l row a b d t)

-- the symbols of the only row of the nonterminal are due, which was taken
pub taken_only : {l row : ℕ} {a b : Ahead} (k : ℕ) → AreDue (Left l ∷ []) a → TakesRow a b row → has_rows l (k ∷ []) ≡ true → AreDue (row_symbols k) b
taken_only k d t has = taken k d t (only k d t has)

due_by : (k : ℕ) (symbols : List Symbol) (a b : Ahead) → AreDue (Kind k ∷ symbols) a → b.at ≡ a.at + 1 → b.nodes ≡ a.nodes → AreDue symbols b
due_by k symbols a b d at nodes =
    let same : trees b ≡ trees a = ap trees_of nodes in
    let wide : width_of (parts_from symbols (trees b)) ≡ width_of (parts_from symbols (trees a)) = ap (λ (ts : List Tree). width_of (parts_from symbols ts)) same in
    record { derived = subst (AreDerived symbols) (sym same) d.derived; fits = omega (arith, d.fits, at, wide) }

-- a token was passed
pub passed : {k i : ℕ} {symbols : List Symbol} {a b : Ahead} → AreDue (Kind k ∷ symbols) a → TakesToken a b i → AreDue symbols b
passed {k} {i} {symbols} {a} {b} d t = due_by k symbols a b d t.at_is t.nodes_are

-- a token was read
pub passed_by : {k : ℕ} {symbols : List Symbol} {a b : Ahead} → AreDue (Kind k ∷ symbols) a → b.at ≡ a.at + 1 → b.nodes ≡ a.nodes → AreDue symbols b
passed_by {k} {symbols} {a} {b} d at nodes = due_by k symbols a b d at nodes

-- a tree was read
pub behind_by : {l : ℕ} {symbols : List Symbol} {a b : Ahead} → AreDue (Left l ∷ symbols) a → trees b ≡ later_trees (trees a) → b.at ≡ a.at + width (first_tree (trees a)) → AreDue symbols b
behind_by {l} {symbols} {a} {b} d trees_are at =
    let wide : width_of (parts_from symbols (trees b)) ≡ width_of (parts_from symbols (later_trees (trees a))) = ap (λ (ts : List Tree). width_of (parts_from symbols ts)) trees_are in
    record { derived = subst (AreDerived symbols) (sym trees_are) d.derived.1; fits = omega (arith, d.fits, at, wide) }

pub behind : {X : Type 0} {l : ℕ} {symbols : List Symbol} {meaning : ℕ → Tree → X} {a b : Ahead} {value : X} → AreDue (Left l ∷ symbols) a → Reads meaning a b value → AreDue symbols b
behind d r = behind_by d r.trees_are r.at_is

-- a token, two trees and a token were read
pub group_passed : {k a b j : ℕ} {symbols : List Symbol} {x y : Ahead} → AreDue (Kind k ∷ Left a ∷ Left b ∷ Kind j ∷ symbols) x → trees y ≡ later_trees (later_trees (trees x)) → y.at ≡ x.at + 1 + width (first_tree (trees x)) + width (first_tree (later_trees (trees x))) + 1 → AreDue symbols y
group_passed {k} {a} {b} {j} {symbols} {x} {y} d trees_are at =
    let wide : width_of (parts_from symbols (trees y)) ≡ width_of (parts_from symbols (later_trees (later_trees (trees x)))) = ap (λ (ts : List Tree). width_of (parts_from symbols ts)) trees_are in
    record { derived = subst (AreDerived symbols) (sym trees_are) d.derived.1.1; fits = omega (arith, d.fits, at, wide) }

-- a keyword and an expression in parentheses were read
pub condition_passed : {k m : ℕ} {l j : ℕ} {symbols : List Symbol} {e : Expanded} {a b : Ahead} {c : Condition} → AreDue (Kind k ∷ Kind m ∷ Left l ∷ Kind j ∷ symbols) a → ReadsCondition e a b c → AreDue symbols b
condition_passed {k} {m} {l} {j} {symbols} {e} {a} {b} d r =
    let wide : width_of (parts_from symbols (trees b)) ≡ width_of (parts_from symbols (later_trees (trees a))) = ap (λ (ts : List Tree). width_of (parts_from symbols ts)) r.trees_are in
    record { derived = subst (AreDerived symbols) (sym r.trees_are) d.derived.1; fits = omega (arith, d.fits, r.at_is, wide) }

-- a name, a token and an expression were read
pub assignment_passed : {k m : ℕ} {l : ℕ} {symbols : List Symbol} {e : Expanded} {a b : Ahead} {c : Assignment} → AreDue (Kind k ∷ Kind m ∷ Left l ∷ symbols) a → ReadsAssignment e a b c → AreDue symbols b
assignment_passed {k} {m} {l} {symbols} {e} {a} {b} d r =
    let wide : width_of (parts_from symbols (trees b)) ≡ width_of (parts_from symbols (later_trees (trees a))) = ap (λ (ts : List Tree). width_of (parts_from symbols ts)) r.trees_are in
    record { derived = subst (AreDerived symbols) (sym r.trees_are) d.derived.1; fits = omega (arith, d.fits, r.at_is, wide) }

-- how many tokens a tree spells
mutual
  width_spelled : (t : Tree) → width t ≡ length (spelling t)
  width_spelled (node row parts) = width_of_spelled parts

  width_of_spelled : (parts : Parts) → width_of parts ≡ length (spelling_of parts)
  width_of_spelled no_parts = refl
  width_of_spelled (token k parts) = omega (arith, width_of_spelled parts)
  width_of_spelled (subtree t parts) = omega (arith, width_spelled t, width_of_spelled parts, length-append (spelling t) (spelling_of parts))

-- a text has the tokens that its tree spells, and its end
pub text_wide : (e : Expanded) (all nodes : List ParseNode) → IsParsed va_rules (kinds_of e) all → nodes ≡ all → width (first_tree (trees_of nodes)) + 1 ≡ length e.tokens
text_wide e all nodes p same =
    let is : trees_of nodes ≡ p.tree ∷ [] = ap trees_of same ∙ parsed_back (kinds_of e) all p in
    let wide : width (first_tree (trees_of nodes)) ≡ length (spelling p.tree) = ap (λ (ts : List Tree). width (first_tree ts)) is ∙ width_spelled p.tree in
    let spelled : length (spelling p.tree) ≡ length p.sentence.0 = ap length p.sentence.2.spelled in
    let kinds : length (kinds_of e) ≡ length p.sentence.0 + 1 = ap length p.sentence.1 ∙ length-append p.sentence.0 (va_rules.end_kind ∷ []) in
    let tokens : length (kinds_of e) ≡ length e.tokens = length-map e.tokens (kind_in e.files) in
    omega (arith, wide, spelled, kinds, tokens)

-- the tree of a whole text is due
pub text_due : (e : Expanded) (all : List ParseNode) → IsExpanded e → IsParsed va_rules (kinds_of e) all → (a : Ahead) → a.nodes ≡ all → a.at ≡ 0 → AreDue (Left 0 ∷ []) a
unfolding va_rules
text_due e all x p a nodes at =
    let is : trees a ≡ p.tree ∷ [] = ap trees_of nodes ∙ parsed_back (kinds_of e) all p in
    let wide : width (first_tree (trees a)) ≡ length (spelling p.tree) = ap (λ (ts : List Tree). width (first_tree ts)) is ∙ width_spelled p.tree in
    let spelled : length (spelling p.tree) ≡ length p.sentence.0 = ap length p.sentence.2.spelled in
    let kinds : length (kinds_of e) ≡ length p.sentence.0 + 1 = ap length p.sentence.1 ∙ length-append p.sentence.0 (va_rules.end_kind ∷ []) in
    let tokens : length (kinds_of e) ≡ length e.tokens = length-map e.tokens (kind_in e.files) in
    let before : length e.tokens ≡ length x.before + 1 = ap length x.ends ∙ length-append x.before (x.end ∷ []) in
    record {
      derived = ((va_rules.end_kind, subst (λ (ts : List Tree). IsTreeOf va_rules 0 (first_tree ts) va_rules.end_kind) (sym is) p.sentence.2.derived), tt);
      fits = omega (arith, wide, spelled, kinds, tokens, before, x.few, at);
    }

-- Rows of declarations that differ in their first token alone.
pub parameters_due : {l row : ℕ} {a b : Ahead} → AreDue (Left l ∷ []) a → TakesRow a b row → (next_row a ≡ 43) ⊎ (next_row a ≡ 44) → (k : ℕ) × AreDue (Kind k ∷ rule nonterminal.OptionalType ∷ rule nonterminal.ParameterAssignments ∷ word terminal.Semicolon ∷ []) b
unfolding row_symbols
parameters_due d t (inl is) = (terminal_number terminal.Parameter, taken 43 d t (entered t ∙ is))
parameters_due d t (inr is) = (terminal_number terminal.Localparam, taken 44 d t (entered t ∙ is))

pub variables_due : {l row : ℕ} {a b : Ahead} → AreDue (Left l ∷ []) a → TakesRow a b row → (next_row a ≡ 46) ⊎ (next_row a ≡ 47) → (k : ℕ) × AreDue (Kind k ∷ rule nonterminal.Variables ∷ word terminal.Semicolon ∷ []) b
unfolding row_symbols
variables_due d t (inl is) = (terminal_number terminal.Real, taken 46 d t (entered t ∙ is))
variables_due d t (inr is) = (terminal_number terminal.Integer, taken 47 d t (entered t ∙ is))

pub neither : {row k j : ℕ} {a b : Ahead} → TakesRow a b row → (next_row a ≡ k) ⊎ (next_row a ≡ j) → (row ≡ k → ⊥) → (row ≡ j → ⊥) → ⊥
neither t (inl is) p q = p (entered t ∙ is)
neither t (inr is) p q = q (entered t ∙ is)

pub names_due : {row : ℕ} {a b : Ahead} → AreDue (rule nonterminal.FunctionItem ∷ []) a → TakesRow a b row → (k : ℕ) × AreDue (Kind k ∷ word terminal.Name ∷ rule nonterminal.MoreNames ∷ word terminal.Semicolon ∷ []) b
unfolding row_symbols
names_due {row} {a} {b} d t =
    each_row (λ (i : ℕ). AreDue (row_symbols i) b → (k : ℕ) × AreDue (Kind k ∷ word terminal.Name ∷ rule nonterminal.MoreNames ∷ word terminal.Semicolon ∷ []) b) (86 ∷ 87 ∷ 88 ∷ []) d t refl
    ((λ r. (terminal_number terminal.Input, r)), ((λ r. (terminal_number terminal.Real, r)), ((λ r. (terminal_number terminal.Integer, r)), tt)))
    (taken row d t refl)

pub declaration_due : {row : ℕ} {a b : Ahead} → AreDue (rule nonterminal.Declaration ∷ []) a → TakesRow a b row → (k : ℕ) × AreDue (Kind k ∷ rule nonterminal.Variables ∷ word terminal.Semicolon ∷ []) b
unfolding row_symbols
declaration_due {row} {a} {b} d t =
    each_row (λ (i : ℕ). AreDue (row_symbols i) b → (k : ℕ) × AreDue (Kind k ∷ rule nonterminal.Variables ∷ word terminal.Semicolon ∷ []) b) (103 ∷ 104 ∷ []) d t refl
    ((λ r. (terminal_number terminal.Real, r)), ((λ r. (terminal_number terminal.Integer, r)), tt))
    (taken row d t refl)
