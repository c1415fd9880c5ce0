use Rattle.std.proofs.Common.{◌≤◌, ◌-◌, vec_len}
use Rattle.std.specs.Io.KnownBytes.{Consumes}
use Rattle.va_io.proofs.dir_files.read_pieces.Given as goal

abbrev pub invariant-pieces : goal.invariant-pieces
invariant-pieces g l = record {
  within : vec_len l.bytes ≤ l.max;
  taken : Consumes (g.F.Read.remaining l.initial.file) (g.F.Read.remaining l.file) l.bytes.items;
}

abbrev pub decreases-pieces : goal.decreases-pieces
decreases-pieces g l = l.max - vec_len l.bytes
