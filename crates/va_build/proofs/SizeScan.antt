-- Steps through a parse tree.
use Rattle.std.specs.Prelude.{◌≡◌, ◌<◌, ℕ, ◌+◌, List, [], ◌∷◌, ◌++◌, Option, None, Some, refl, map, reverse, length}
use Rattle.std.proofs.Common.{ap, sym, ◌∙◌, subst, arith, append_assoc}
use Rattle.predict.specs.declared.symbol.Symbol.{Symbol}
use Rattle.predict.specs.declared.symbol.Symbol.TheVariants.{Kind, Left}
use Rattle.predict.specs.declared.tree.ParseNode.{ParseNode}
use Rattle.predict.specs.Sentence.{IsTreeOf, ArePartsOf}
use Rattle.predict.specs.Tree.{Tree, node, no_parts}
use Rattle.va_base.specs.declared.expanded.Expanded.{Expanded}
use Rattle.predict.specs.FirstFit.{IsRowOf}
use Rattle.va_grammar.specs.Parts.{symbol_of}
use Rattle.va_build.specs.Reading.{row_symbols, parts_from, first_tree, later_trees, trees_behind, trees_of}
use Rattle.va_grammar.specs.Sets.{va_grammar, va_rules}
use Rattle.va_build.specs.SizeDeep.{earlier}
use Rattle.va_build.specs.SizeRows.{links, rule_of, deep_opened, depth_below, depth_last, due, dues, name_opened, deep_in, modules_in, deep_due, modules_due, links_of}
use Rattle.va_build.specs.Due.{AreDerived}
use Rattle.va_build.specs.SizeScan.{many, symbols_due, symbols_width, AreFew, due_parts, SameDue, NothingDue}
use Rattle.va_build.specs.Width.{width, width_of}
use Rattle.va_grammar.specs.declared.rows.Part.{Part}
use Rattle.va_build.specs.declared.size_rules.Due.{Due}
use Rattle.va_build.proofs.SizeAlgebra.{earlier_assoc, earlier_none}
use Rattle.va_build.proofs.SizeAllRows.{row_holds, names_hold}
use Rattle.va_build.proofs.SizeDerived.{symbols_same}
use Rattle.va_grammar.proofs.VaSymbols.{row_written}

pub same_due : (before : List Due) (at : ℕ) → SameDue before at before at
same_due before at = record { deep = λ e ts. refl; modules = λ e ts. refl; derived = λ ts h. h; behind = λ ts. refl; wide = λ ts. refl }

-- a token is passed
pub token_passed : (before now : List Due) (at at_now k depth : ℕ) → SameDue before at (due (Kind k) depth ∷ now) at_now → SameDue before at now (at_now + 1)
token_passed before now at at_now k depth h = record { deep = h.deep; modules = h.modules; derived = h.derived; behind = h.behind; wide = λ ts. omega (arith, h.wide ts) }

-- the symbols of a row
dues_symbols : (symbols : List Symbol) (below last : ℕ) → symbols_due (dues symbols below last) ≡ symbols
dues_symbols [] below last = refl
dues_symbols (s ∷ []) below last = refl
dues_symbols (s ∷ t ∷ more) below last = ap (λ (l : List Symbol). s ∷ l) (dues_symbols (t ∷ more) below last)

symbols_append : (a b : List Due) → symbols_due (a ++ b) ≡ symbols_due a ++ symbols_due b
symbols_append [] b = refl
symbols_append (x ∷ a) b = ap (λ (l : List Symbol). x.symbol ∷ l) (symbols_append a b)

derived_append : (symbols others : List Symbol) (ts : List Tree) → AreDerived symbols ts → AreDerived others (trees_behind symbols ts) → AreDerived (symbols ++ others) ts
derived_append [] others ts h k = k
derived_append (Kind j ∷ symbols) others ts h k = derived_append symbols others ts h k
derived_append (Left l ∷ symbols) others ts h k = (h.0, derived_append symbols others (later_trees ts) h.1 k)

-- how many tokens some parts spell
abbrev width_at : List Symbol → List Tree → ℕ
width_at symbols ts = width_of (parts_from symbols ts)

-- what one thing that is due adds in front
deep_one : (e : Expanded) (s : Symbol) (depth : ℕ) (ds more : List Due) (at : ℕ) (ts : List Tree) →
    ((at' : ℕ) (us : List Tree) → deep_due e (ds ++ more) at' us ≡ earlier (deep_due e ds at' us) (deep_due e more (at' + symbols_width ds us) (trees_behind (symbols_due ds) us))) →
    deep_due e (due s depth ∷ (ds ++ more)) at ts ≡ earlier (deep_due e (due s depth ∷ ds) at ts) (deep_due e more (at + width_at (s ∷ symbols_due ds) ts) (trees_behind (s ∷ symbols_due ds) ts))
deep_one e (Kind k) depth ds more at ts rest =
    let place : at + 1 + symbols_width ds ts ≡ at + (symbols_width ds ts + 1) = omega arith in
    rest (at + 1) ts ∙ ap (λ (n : ℕ). earlier (deep_due e ds (at + 1) ts) (deep_due e more n (trees_behind (symbols_due ds) ts))) place
deep_one e (Left l) depth ds more at ts rest =
    let w : ℕ = width (first_tree ts) in
    let us : List Tree = later_trees ts in
    let here : Option ℕ = deep_in e l depth at (first_tree ts) in
    let place : at + w + symbols_width ds us ≡ at + (w + symbols_width ds us) = omega arith in
    ap (earlier here) (rest (at + w) us ∙ ap (λ (n : ℕ). earlier (deep_due e ds (at + w) us) (deep_due e more n (trees_behind (symbols_due ds) us))) place)
    ∙ sym (earlier_assoc here (deep_due e ds (at + w) us) (deep_due e more (at + (w + symbols_width ds us)) (trees_behind (symbols_due ds) us)))

deep_append : (e : Expanded) (ds more : List Due) (at : ℕ) (ts : List Tree) →
    deep_due e (ds ++ more) at ts ≡ earlier (deep_due e ds at ts) (deep_due e more (at + symbols_width ds ts) (trees_behind (symbols_due ds) ts))
deep_append e [] more at ts = ap (λ (n : ℕ). deep_due e more n ts) (omega arith)
deep_append e (d ∷ ds) more at ts = deep_one e d.symbol d.depth ds more at ts (λ at' us. deep_append e ds more at' us)

modules_one : (e : Expanded) (s : Symbol) (depth : ℕ) (ds more : List Due) (at : ℕ) (ts : List Tree) →
    ((at' : ℕ) (us : List Tree) → modules_due e (ds ++ more) at' us ≡ modules_due e ds at' us ++ modules_due e more (at' + symbols_width ds us) (trees_behind (symbols_due ds) us)) →
    modules_due e (due s depth ∷ (ds ++ more)) at ts ≡ modules_due e (due s depth ∷ ds) at ts ++ modules_due e more (at + width_at (s ∷ symbols_due ds) ts) (trees_behind (s ∷ symbols_due ds) ts)
modules_one e (Kind k) depth ds more at ts rest =
    let place : at + 1 + symbols_width ds ts ≡ at + (symbols_width ds ts + 1) = omega arith in
    rest (at + 1) ts ∙ ap (λ (n : ℕ). modules_due e ds (at + 1) ts ++ modules_due e more n (trees_behind (symbols_due ds) ts)) place
modules_one e (Left l) depth ds more at ts rest =
    let w : ℕ = width (first_tree ts) in
    let us : List Tree = later_trees ts in
    let here : List ℕ = modules_in e l at (first_tree ts) in
    let place : at + w + symbols_width ds us ≡ at + (w + symbols_width ds us) = omega arith in
    ap (λ (names : List ℕ). here ++ names) (rest (at + w) us ∙ ap (λ (n : ℕ). modules_due e ds (at + w) us ++ modules_due e more n (trees_behind (symbols_due ds) us)) place)
    ∙ sym (append_assoc here (modules_due e ds (at + w) us) (modules_due e more (at + (w + symbols_width ds us)) (trees_behind (symbols_due ds) us)))

modules_append : (e : Expanded) (ds more : List Due) (at : ℕ) (ts : List Tree) →
    modules_due e (ds ++ more) at ts ≡ modules_due e ds at ts ++ modules_due e more (at + symbols_width ds ts) (trees_behind (symbols_due ds) ts)
modules_append e [] more at ts = ap (λ (n : ℕ). modules_due e more n ts) (omega arith)
modules_append e (d ∷ ds) more at ts = modules_one e d.symbol d.depth ds more at ts (λ at' us. modules_append e ds more at' us)

-- the tree of a node is derived: its row is one of the nonterminal, and what is below it is derived
pub record Opened (l : ℕ) (n : ParseNode) (nodes : List ParseNode) : Type 0 where
  pub written : IsRowOf va_grammar n.row l (va_rules.symbols n.row)
  pub below : AreDerived (row_symbols n.row) (trees_of nodes)

below_derived : (symbols : List Symbol) (ts : List Tree) (next : ℕ) → ArePartsOf va_rules symbols (parts_from symbols ts) next → AreDerived symbols ts
below_derived [] ts next h = tt
below_derived (Kind k ∷ symbols) ts next h = below_derived symbols ts next h.1
below_derived (Left l ∷ symbols) ts next h = ((_, h.0), below_derived symbols (later_trees ts) next h.1)

pub opened : (l : ℕ) (n : ParseNode) (nodes : List ParseNode) (next : ℕ) → IsTreeOf va_rules l (first_tree (trees_of (n ∷ nodes))) next → Opened l n nodes
opened l n nodes next h = record {
  written = row_written l _ n.row h.0;
  below = below_derived (row_symbols n.row) (trees_of nodes) next (subst (λ (symbols : List Symbol). ArePartsOf va_rules symbols (parts_from (row_symbols n.row) (trees_of nodes)) next) (sym (symbols_same n.row)) h.1);
}

-- a node is taken: what was found, what begins with it, and what is due then
pub deep_step : (e : Expanded) (l depth at link : ℕ) (n : ParseNode) (nodes : List ParseNode) (ds : List Due) (old : Option ℕ) → Opened l n nodes → link ≡ links (first_tree (trees_of (n ∷ nodes))) →
    earlier (earlier old (deep_opened (rule_of l n.row) at depth link)) (deep_due e (dues (row_symbols n.row) (depth_below (rule_of l n.row) depth link) (depth_last (rule_of l n.row) depth) ++ ds) at (trees_of nodes))
    ≡ earlier old (deep_due e (due (Left l) depth ∷ ds) at (trees_of (n ∷ nodes)))
deep_step e l depth at link n nodes ds old o is =
    let ts : List Tree = trees_of nodes in
    let symbols : List Symbol = row_symbols n.row in
    let t : Tree = node n.row (parts_from symbols ts) in
    let row : List Due = dues symbols (depth_below (rule_of l n.row) depth link) (depth_last (rule_of l n.row) depth) in
    let here : Option ℕ = deep_opened (rule_of l n.row) at depth link in
    let rest : Option ℕ = deep_due e ds (at + width t) (trees_behind symbols ts) in
    let behind : earlier (deep_due e row at ts) (deep_due e ds (at + symbols_width row ts) (trees_behind (symbols_due row) ts)) ≡ earlier (deep_due e row at ts) rest =
    ap (λ (s : List Symbol). earlier (deep_due e row at ts) (deep_due e ds (at + width_at s ts) (trees_behind s ts))) (dues_symbols symbols (depth_below (rule_of l n.row) depth link) (depth_last (rule_of l n.row) depth)) in
    let whole : deep_in e l depth at t ≡ earlier here (deep_due e row at ts) =
    row_holds l n.row o.written e depth at ts o.below ∙ ap (λ (k : ℕ). earlier (deep_opened (rule_of l n.row) at depth k) (deep_due e (dues symbols (depth_below (rule_of l n.row) depth k) (depth_last (rule_of l n.row) depth)) at ts)) (sym is) in
    earlier_assoc old here (deep_due e (row ++ ds) at ts)
    ∙ ap (λ (x : Option ℕ). earlier old (earlier here x)) (deep_append e row ds at ts ∙ behind)
    ∙ ap (earlier old) (sym (earlier_assoc here (deep_due e row at ts) rest) ∙ ap (λ (x : Option ℕ). earlier x rest) (sym whole))

pub modules_step : (e : Expanded) (l depth at below last : ℕ) (n : ParseNode) (nodes : List ParseNode) (ds : List Due) → Opened l n nodes →
    name_opened l at ++ modules_due e (dues (row_symbols n.row) below last ++ ds) at (trees_of nodes) ≡ modules_due e (due (Left l) depth ∷ ds) at (trees_of (n ∷ nodes))
modules_step e l depth at below last n nodes ds o =
    let ts : List Tree = trees_of nodes in
    let symbols : List Symbol = row_symbols n.row in
    let t : Tree = node n.row (parts_from symbols ts) in
    let row : List Due = dues symbols below last in
    let rest : List ℕ = modules_due e ds (at + width t) (trees_behind symbols ts) in
    ap (λ (names : List ℕ). name_opened l at ++ names) (modules_append e row ds at ts ∙ ap (λ (s : List Symbol). modules_due e row at ts ++ modules_due e ds (at + width_at s ts) (trees_behind s ts)) (dues_symbols symbols below last))
    ∙ sym (append_assoc (name_opened l at) (modules_due e row at ts) rest)
    ∙ ap (λ (names : List ℕ). names ++ rest) (sym (names_hold l n.row o.written e below last at ts o.below))

pub derived_step : (l below last : ℕ) (n : ParseNode) (nodes : List ParseNode) (ds : List Due) → AreDerived (Left l ∷ symbols_due ds) (trees_of (n ∷ nodes)) → AreDerived (symbols_due (dues (row_symbols n.row) below last ++ ds)) (trees_of nodes)
derived_step l below last n nodes ds h =
    let symbols : List Symbol = row_symbols n.row in
    subst (λ (s : List Symbol). AreDerived s (trees_of nodes)) (sym (symbols_append (dues symbols below last) ds ∙ ap (λ (s : List Symbol). s ++ symbols_due ds) (dues_symbols symbols below last)))
    (derived_append symbols (symbols_due ds) (trees_of nodes) (opened l n nodes h.0.0 h.0.1).below h.1)

-- the parts of a row, of which the last is pushed first
pub dues_pushed : (parts : List Part) (part : Part) (below last : ℕ) (ds : List Due) → due_parts below parts ++ due (symbol_of part) last ∷ ds ≡ dues (map symbol_of (parts ++ part ∷ [])) below last ++ ds
dues_pushed [] part below last ds = refl
dues_pushed (p ∷ []) part below last ds = refl
dues_pushed (p ∷ q ∷ parts) part below last ds = ap (λ (l : List Due). due (symbol_of p) below ∷ l) (dues_pushed (q ∷ parts) part below last ds)

-- the heads and the tails of equal lists
pub same_parts : (x y : ℕ) (xs ys : List ℕ) → x ∷ xs ≡ y ∷ ys → (x ≡ y) × (xs ≡ ys)
same_parts x y xs ys e = (cc, cc)

behind_append : (a b : List Symbol) (ts : List Tree) → trees_behind (a ++ b) ts ≡ trees_behind b (trees_behind a ts)
behind_append [] b ts = refl
behind_append (Kind k ∷ a) b ts = behind_append a b ts
behind_append (Left l ∷ a) b ts = behind_append a b (later_trees ts)

-- a node is taken: the trees behind what is due then
pub behind_step : (l below last : ℕ) (n : ParseNode) (nodes : List ParseNode) (ds : List Due) → trees_behind (Left l ∷ symbols_due ds) (trees_of (n ∷ nodes)) ≡ [] → trees_behind (symbols_due (dues (row_symbols n.row) below last ++ ds)) (trees_of nodes) ≡ []
behind_step l below last n nodes ds h =
    let symbols : List Symbol = row_symbols n.row in
    ap (λ (s : List Symbol). trees_behind s (trees_of nodes)) (symbols_append (dues symbols below last) ds ∙ ap (λ (s : List Symbol). s ++ symbols_due ds) (dues_symbols symbols below last))
    ∙ behind_append symbols (symbols_due ds) (trees_of nodes) ∙ h

-- where a node is left, a tree is due, and links of it
pub tree_due : (before : List Due) (at : ℕ) (n : ParseNode) (nodes : List ParseNode) → NothingDue before at → trees_behind (symbols_due before) (trees_of (n ∷ nodes)) ≡ [] → ⊥
tree_due before at n nodes none h = no_trees _ _ (sym (none.1.behind (trees_of (n ∷ nodes))) ∙ h)
  where
    no_trees : (t : Tree) (ts : List Tree) → t ∷ ts ≡ [] → ⊥
    no_trees t ts h = cc

no_links : (i : ℕ) (is : List ℕ) → i ∷ is ≡ [] → ⊥
no_links i is h = cc

pub link_due : (items : List ℕ) (n : ParseNode) (nodes : List ParseNode) → reverse items ≡ links_of (n ∷ nodes) → 0 < length items
link_due [] n nodes h = absurd (no_links _ _ (sym h))
link_due (i ∷ items) n nodes h = omega arith

-- where no node is left, no tree is due
no_tree : (l next : ℕ) → IsTreeOf va_rules l (node 0 no_parts) next → ⊥
unfolding va_rules
no_tree l next h = h.1

no_deep : (e : Expanded) (ds : List Due) (at : ℕ) → AreDerived (symbols_due ds) [] → deep_due e ds at [] ≡ None
no_deep e [] at h = refl
no_deep e (d ∷ ds) at h = one d.symbol d.depth (λ i k. no_deep e ds i k) h
  where
    one : (s : Symbol) (depth : ℕ) → ((i : ℕ) → AreDerived (symbols_due ds) [] → deep_due e ds i [] ≡ None) → AreDerived (s ∷ symbols_due ds) [] → deep_due e (due s depth ∷ ds) at [] ≡ None
    one (Kind k) depth rest h = rest (at + 1) h
    one (Left l) depth rest h = absurd (no_tree l h.0.0 h.0.1)

no_modules : (e : Expanded) (ds : List Due) (at : ℕ) → AreDerived (symbols_due ds) [] → modules_due e ds at [] ≡ []
no_modules e [] at h = refl
no_modules e (d ∷ ds) at h = one d.symbol d.depth (λ i k. no_modules e ds i k) h
  where
    one : (s : Symbol) (depth : ℕ) → ((i : ℕ) → AreDerived (symbols_due ds) [] → modules_due e ds i [] ≡ []) → AreDerived (s ∷ symbols_due ds) [] → modules_due e (due s depth ∷ ds) at [] ≡ []
    one (Kind k) depth rest h = rest (at + 1) h
    one (Left l) depth rest h = absurd (no_tree l h.0.0 h.0.1)

pub deep_ended : (e : Expanded) (deep whole : Option ℕ) (ds : List Due) (at : ℕ) (ts : List Tree) → ts ≡ [] → AreDerived (symbols_due ds) ts → earlier deep (deep_due e ds at ts) ≡ whole → deep ≡ whole
deep_ended e deep whole ds at ts is derived h =
    sym (earlier_none deep) ∙ ap (earlier deep) (sym (ap (deep_due e ds at) is ∙ no_deep e ds at (subst (AreDerived (symbols_due ds)) is derived))) ∙ h

none_ahead : (extra : Option ℕ) (room : ℕ) → many extra room [] ≡ extra
none_ahead None room = refl
none_ahead (Some name) room = refl

pub extra_ended : (e : Expanded) (extra whole : Option ℕ) (room : ℕ) (ds : List Due) (at : ℕ) (ts : List Tree) → ts ≡ [] → AreDerived (symbols_due ds) ts → many extra room (modules_due e ds at ts) ≡ whole → extra ≡ whole
extra_ended e extra whole room ds at ts is derived h =
    sym (none_ahead extra room) ∙ ap (many extra room) (sym (ap (modules_due e ds at) is ∙ no_modules e ds at (subst (AreDerived (symbols_due ds)) is derived))) ∙ h

width_append : (a b : List Symbol) (ts : List Tree) → width_at (a ++ b) ts ≡ width_at a ts + width_at b (trees_behind a ts)
width_append [] b ts = omega arith
width_append (Kind k ∷ a) b ts = omega (arith, width_append a b ts)
width_append (Left l ∷ a) b ts = omega (arith, width_append a b (later_trees ts))

-- a node is taken: the tokens that what is due then spells
pub wide_step : (l below last : ℕ) (n : ParseNode) (nodes : List ParseNode) (ds : List Due) → symbols_width (dues (row_symbols n.row) below last ++ ds) (trees_of nodes) ≡ width_at (Left l ∷ symbols_due ds) (trees_of (n ∷ nodes))
wide_step l below last n nodes ds =
    let symbols : List Symbol = row_symbols n.row in
    ap (λ (s : List Symbol). width_at s (trees_of nodes)) (symbols_append (dues symbols below last) ds ∙ ap (λ (s : List Symbol). s ++ symbols_due ds) (dues_symbols symbols below last))
    ∙ width_append symbols (symbols_due ds) (trees_of nodes)

-- a token that is due is one of a text
pub token_fits : (before now : List Due) (at at_now k depth : ℕ) → AreFew before at → SameDue before at (due (Kind k) depth ∷ now) at_now → at_now < 2000000
token_fits before now at at_now k depth few same = omega (arith, few.1, same.wide few.0)
