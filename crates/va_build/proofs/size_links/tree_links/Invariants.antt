use Rattle.std.specs.Prelude.{◌≡◌, reverse, drop, map}
use Rattle.va_build.specs.Reading.{trees_of}
use Rattle.va_build.specs.SizeLinks.{tail_of}
use Rattle.va_build.specs.SizeRows.{links_of}
use Rattle.va_build.proofs.size_links.tree_links.Given as goal

-- the trees behind are known, and their links
abbrev pub invariant-loop-i : goal.invariant-loop-i
invariant-loop-i l = record {
  tails : reverse l.tails.items ≡ map tail_of (trees_of (drop l.i l.nodes));
  links : reverse l.links.items ≡ links_of (drop l.i l.nodes);
}
