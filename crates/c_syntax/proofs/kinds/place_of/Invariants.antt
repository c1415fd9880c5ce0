use Rattle.std.proofs.Common.{◌≡◌, drop}
use Rattle.c_syntax.specs.grammar.Names.{place_of}
use Rattle.c_syntax.proofs.Places.{placed, names_in}
use Rattle.c_syntax.proofs.kinds.place_of.Given as goal

abbrev pub invariant-loop-place : goal.invariant-loop-place
invariant-loop-place l = place_of (names_in l.names) l.word ≡ placed l.place (place_of (drop l.place (names_in l.names)) l.word)
