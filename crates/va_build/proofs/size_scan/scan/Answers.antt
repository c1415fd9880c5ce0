use Rattle.std.specs.Prelude.{◌≡◌, ◌<◌, ◌≤◌, ℕ, length, ◌+◌, ◌∷◌, ◌++◌, List, Option, MatchOption, drop, get_or, reverse, refl}
use Rattle.std.proofs.Common.{ap, sym, ◌∙◌, subst, arith, rules}
use Rattle.std.proofs.lemmas.Grind.{common_steps}
use Rattle.std.proofs.lemmas.List.{drop_all}
use Rattle.std.proofs.lemmas.Option.{slice_get-get_or}
use Rattle.predict.specs.declared.symbol.Symbol.TheVariants.{Left}
use Rattle.predict.specs.declared.tree.ParseNode.{ParseNode}
use Rattle.va_build.specs.Reading.{row_symbols, first_tree, trees_behind, trees_of}
use Rattle.va_build.specs.SizeDeep.{earlier}
use Rattle.va_build.specs.SizeRows.{links, links_of, rule_of, deep_opened, depth_below, depth_last, due, dues, deep_due, modules_due}
use Rattle.va_build.specs.Due.{AreDerived}
use Rattle.va_build.specs.SizeScan.{many, symbols_due, symbols_width, SameDue, NothingDue, ComesNext}
use Rattle.va_build.specs.declared.size_rules.Due.{Due}
use Rattle.va_build.specs.declared.size_rules.Rule.{Rule}
use Rattle.va_build.specs.Width.{width}
use Rattle.va_build.proofs.SizeLinks.{from_one, last_first}
use Rattle.va_build.proofs.SizePlaces.{IsWithin, found_within}
use Rattle.va_build.proofs.SizeScan.{opened, deep_step, modules_step, derived_step, behind_step, wide_step, deep_ended, extra_ended, link_due, tree_due, same_parts}
use Rattle.va_build.proofs.size_scan.scan.Goals as goal

pub loop-node-preserved : goal.loop-node-preserved
loop-node-preserved c =
    let nodes : List ParseNode = c.args.nodes.now in
    let i : ℕ = c.loop-node.node-index in
    let none : ParseNode = record { row = 0; children = 0 } in
    let n : ParseNode = get_or nodes i none in
    let rest : List ParseNode = drop (i + 1) nodes in
    let more : drop i nodes ≡ n ∷ rest = from_one nodes (i + 1) i n (slice_get-get_or nodes i none c.loop-node-test.true) refl in
    let known = c.loop-node.invariant in
    let left : ℕ = c.in-Some-next.left in
    let depth : ℕ = c.in-Some-next.depth in
    let link : ℕ = c.in-Some.link in
    let ds : List Due = reverse c.next.new.self.due.items in
    let at : ℕ = c.next.new.self.at in
    let same : SameDue (reverse c.loop-node.ahead.due.items) c.loop-node.ahead.at (due (Left left) depth ∷ ds) at = subst (λ (r : Option (ℕ × ℕ)). MatchOption r (NothingDue (reverse c.loop-node.ahead.due.items) c.loop-node.ahead.at) (λ p. ComesNext (reverse c.loop-node.ahead.due.items) c.loop-node.ahead.at p.0 p.1 ds at)) c.in-Some-next.is c.next.ensures in
    let derived : AreDerived (Left left ∷ symbols_due ds) (trees_of (n ∷ rest)) = subst (λ (ns : List ParseNode). AreDerived (Left left ∷ symbols_due ds) (trees_of ns)) more (same.derived (trees_of (drop i nodes)) known.derived) in
    let o = opened left n rest derived.0.0 derived.0.1 in
    let popped = same_parts link (links (first_tree (trees_of (n ∷ rest)))) (reverse c.pop.new.self.items) (links_of rest)
    (sym (last_first c.loop-node.links.items c.pop.new.self.items link c.in-Some.ensures.items) ∙ known.links ∙ ap links_of more) in
    let below : ℕ = depth_below (rule_of left n.row) depth link in
    let last : ℕ = depth_last (rule_of left n.row) depth in
    let due_is = c.in_ok-open.ensures.due ∙ ap (λ (r : Rule). dues (row_symbols n.row) (depth_below r depth link) (depth_last r depth) ++ ds) c.row_rule-rule.ensures in
    let at_is = c.in_ok-open.ensures.at in
    let old : Option ℕ = c.loop-node.deep in
    let least_is : c.least-deep.result ≡ earlier old (deep_opened (rule_of left n.row) at depth link) =
    c.least-deep.ensures ∙ ap (earlier old) (c.opened.ensures ∙ ap (λ r. deep_opened r at depth link) c.row_rule-rule.ensures) in
    let few : at + symbols_width (due (Left left) depth ∷ ds) (trees_of (n ∷ rest)) ≤ 2000000 = subst (λ (ns : List ParseNode). at + symbols_width (due (Left left) depth ∷ ds) (trees_of ns) ≤ 2000000) more (omega (arith, known.fits, same.wide (trees_of (drop i nodes)))) in
    let whole : ℕ = width (first_tree (trees_of nodes)) in
    let place : at + symbols_width (due (Left left) depth ∷ ds) (trees_of (n ∷ rest)) ≡ whole = subst (λ (ns : List ParseNode). at + symbols_width (due (Left left) depth ∷ ds) (trees_of ns) ≡ whole) more (omega (arith, known.place, same.wide (trees_of (drop i nodes)))) in
    let wide_is = ap (λ (l : List Due). symbols_width l (trees_of rest)) due_is ∙ wide_step left below last n rest ds in
    record {
      deep = λ e.
          (λ j. earlier (least_is j) (deep_due e (due_is j) (at_is j) (trees_of rest)))
          ∙ deep_step e left depth at link n rest ds old o popped.0
          ∙ ap (earlier old) (sym (same.deep e (trees_of (n ∷ rest))) ∙ sym (ap (λ (ns : List ParseNode). deep_due e (reverse c.loop-node.ahead.due.items) c.loop-node.ahead.at (trees_of ns)) more))
          ∙ known.deep e;
      extra = λ e.
          (λ j. many c.count.new.self.extra c.count.new.self.room (modules_due e (due_is j) (at_is j) (trees_of rest)))
          ∙ c.count.ensures (modules_due e (dues (row_symbols n.row) below last ++ ds) at (trees_of rest))
          ∙ ap (many c.loop-node.names.extra c.loop-node.names.room) (modules_step e left depth at below last n rest ds o ∙ sym (same.modules e (trees_of (n ∷ rest))) ∙ sym (ap (λ (ns : List ParseNode). modules_due e (reverse c.loop-node.ahead.due.items) c.loop-node.ahead.at (trees_of ns)) more))
          ∙ known.extra e;
      derived = subst (λ (l : List Due). AreDerived (symbols_due l) (trees_of rest)) (sym due_is) (derived_step left below last n rest ds derived);
      behind = ap (λ (l : List Due). trees_behind (symbols_due l) (trees_of rest)) due_is ∙ behind_step left below last n rest ds (sym (same.behind (trees_of (n ∷ rest))) ∙ ap (λ (ns : List ParseNode). trees_behind (symbols_due (reverse c.loop-node.ahead.due.items)) (trees_of ns)) (sym more) ∙ known.behind);
      within = subst (IsWithin whole) (sym least_is) (found_within whole at (rule_of left n.row) depth link old known.within (omega (arith, place)));
      place = omega (arith, place, wide_is, at_is);
      fits = omega (arith, few, wide_is, at_is);
      links = popped.1;
    }

pub next-requires : goal.next-requires
next-requires c = (trees_of (drop c.loop-node.node-index c.args.nodes.now), c.loop-node.invariant.fits)

pub returns-clause-deep : goal.returns-clause-deep
returns-clause-deep c = λ e. deep_ended e _ _ (reverse c.loop-node.ahead.due.items) c.loop-node.ahead.at (trees_of (drop c.loop-node.node-index c.args.nodes.now)) (ap trees_of (drop_all _ c.args.nodes.now c.loop-node-test.false)) c.loop-node.invariant.derived (c.loop-node.invariant.deep e)

pub returns-clause-extra : goal.returns-clause-extra
returns-clause-extra c = λ e. extra_ended e _ _ c.loop-node.names.room (reverse c.loop-node.ahead.due.items) c.loop-node.ahead.at (trees_of (drop c.loop-node.node-index c.args.nodes.now)) (ap trees_of (drop_all _ c.args.nodes.now c.loop-node-test.false)) c.loop-node.invariant.derived (c.loop-node.invariant.extra e)

pub unreachable-requires : goal.unreachable-requires
unreachable-requires c =
    let nodes : List ParseNode = c.args.nodes.now in
    let i : ℕ = c.loop-node.node-index in
    let none : ParseNode = record { row = 0; children = 0 } in
    let more : drop i nodes ≡ get_or nodes i none ∷ drop (i + 1) nodes = from_one nodes (i + 1) i (get_or nodes i none) (slice_get-get_or nodes i none c.loop-node-test.true) refl in
    let some : 0 < length c.loop-node.links.items = link_due c.loop-node.links.items (get_or nodes i none) (drop (i + 1) nodes) (c.loop-node.invariant.links ∙ ap links_of more) in
    first_of (search rules, grind (arith, common_steps))

pub unreachable-requires-in_default-next : goal.unreachable-requires-in_default-next
unreachable-requires-in_default-next c =
    let nodes : List ParseNode = c.args.nodes.now in
    let i : ℕ = c.loop-node.node-index in
    let none : ParseNode = record { row = 0; children = 0 } in
    let more : drop i nodes ≡ get_or nodes i none ∷ drop (i + 1) nodes = from_one nodes (i + 1) i (get_or nodes i none) (slice_get-get_or nodes i none c.loop-node-test.true) refl in
    tree_due (reverse c.loop-node.ahead.due.items) c.loop-node.ahead.at (get_or nodes i none) (drop (i + 1) nodes) c.in_default-next.ensures
    (sym (ap (λ (ns : List ParseNode). trees_behind (symbols_due (reverse c.loop-node.ahead.due.items)) (trees_of ns)) more) ∙ c.loop-node.invariant.behind)
