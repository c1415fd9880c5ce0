use Rattle.std.proofs.Common.{length}
use Rattle.c_raw_build.specs.BodyDue.{left_of_body}
use Rattle.c_raw_build.specs.Due.{AreDueIn}
use Rattle.c_raw_build.specs.Steps.{BodyOn, innermost_first}
use Rattle.c_raw_build.proofs.bodies.statements.Given as goal

abbrev pub invariant-loop-reader : goal.invariant-loop-reader
invariant-loop-reader l = record {
  read : BodyOn l.text l.initial.reader l.reader l.list.items (innermost_first l.between.items);
  due : AreDueIn l.text (left_of_body (innermost_first l.between.items)) l.reader;
}

abbrev pub decreases-loop-reader : goal.decreases-loop-reader
decreases-loop-reader l = length l.reader.nodes
