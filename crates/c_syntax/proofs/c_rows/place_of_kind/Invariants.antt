use Rattle.std.proofs.Common.{◌≡◌, drop}
use Rattle.c_syntax.specs.grammar.Choices.{kind_place}
use Rattle.c_syntax.proofs.Places.{placed}
use Rattle.c_syntax.proofs.c_rows.place_of_kind.Given as goal

abbrev pub invariant-loop-place : goal.invariant-loop-place
invariant-loop-place l = kind_place l.kinds l.next ≡ placed l.place (kind_place (drop l.place l.kinds) l.next)
