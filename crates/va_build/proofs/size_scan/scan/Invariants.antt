use Rattle.std.specs.Prelude.{◌≡◌, ◌+◌, ◌≤◌, [], reverse, drop, slice_get, IfSome}
use Rattle.va_base.specs.declared.expanded.Expanded.{Expanded}
use Rattle.va_build.specs.Reading.{trees_of, trees_behind, first_tree}
use Rattle.va_build.specs.SizeDeep.{earlier}
use Rattle.va_build.specs.SizeRows.{deep_in, modules_in, deep_due, modules_due, links_of}
use Rattle.va_build.specs.Due.{AreDerived}
use Rattle.va_build.specs.SizeScan.{many, symbols_due, symbols_width}
use Rattle.va_build.specs.Width.{width}
use Rattle.va_build.proofs.size_scan.scan.Given as goal

-- what was found and what is due make the whole
abbrev pub invariant-loop-node : goal.invariant-loop-node
invariant-loop-node l = record {
  deep : (e : Expanded) → earlier l.deep (deep_due e (reverse l.ahead.due.items) l.ahead.at (trees_of (drop l.node-index l.nodes))) ≡ deep_in e 0 1 0 (first_tree (trees_of l.nodes));
  extra : (e : Expanded) → many l.names.extra l.names.room (modules_due e (reverse l.ahead.due.items) l.ahead.at (trees_of (drop l.node-index l.nodes))) ≡ slice_get (modules_in e 0 0 (first_tree (trees_of l.nodes))) 64;
  derived : AreDerived (symbols_due (reverse l.ahead.due.items)) (trees_of (drop l.node-index l.nodes));
  behind : trees_behind (symbols_due (reverse l.ahead.due.items)) (trees_of (drop l.node-index l.nodes)) ≡ [];
  within : IfSome l.deep (λ at. at ≤ width (first_tree (trees_of l.nodes)));
  place : l.ahead.at + symbols_width (reverse l.ahead.due.items) (trees_of (drop l.node-index l.nodes)) ≡ width (first_tree (trees_of l.nodes));
  fits : l.ahead.at + symbols_width (reverse l.ahead.due.items) (trees_of (drop l.node-index l.nodes)) ≤ 2000000;
  links : reverse l.links.items ≡ links_of (drop l.node-index l.nodes);
}
