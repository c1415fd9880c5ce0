use Rattle.std.proofs.Common.{length, ◌-◌, ◌≤◌, ◌+◌, take}
use Rattle.va_io.specs.Outside.{Appends}
use Rattle.va_io.proofs.sink.write_all.Given as goal

-- the first `done` bytes are written
abbrev pub invariant-pieces : goal.invariant-pieces
invariant-pieces g l = record {
  within : l.done ≤ length l.text;
  part : Appends (g.S.Sink.written l.initial.sink) (g.S.Sink.written l.sink) (take l.done l.text);
  later : g.S.Sink.faults l.initial.sink ≤ g.S.Sink.faults l.sink;
  room : g.S.Sink.room l.initial.sink ≤ g.S.Sink.room l.sink + l.done;
}

abbrev pub decreases-pieces : goal.decreases-pieces
decreases-pieces g l = length l.text - l.done
