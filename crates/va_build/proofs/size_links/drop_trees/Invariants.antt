use Rattle.std.specs.Prelude.{◌≡◌, reverse, drop, map}
use Rattle.va_grammar.specs.Parts.{symbol_of}
use Rattle.va_build.specs.SizeLinks.{tails_behind}
use Rattle.va_build.proofs.size_links.drop_trees.Given as goal

abbrev pub invariant-loop-part : goal.invariant-loop-part
invariant-loop-part l = tails_behind (map symbol_of (drop l.part-index l.parts)) (reverse l.tails.items) ≡ tails_behind (map symbol_of l.parts) (reverse l.fn.tails.items)
