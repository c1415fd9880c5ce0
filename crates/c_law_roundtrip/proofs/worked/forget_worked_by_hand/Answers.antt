use Rattle.std.proofs.Common.{refl}
use Rattle.c_tree.specs.Blocks.{nested}
use Rattle.c_law_roundtrip.proofs.worked.forget_worked_by_hand.Goals as goal

-- each row by computation
pub returns : goal.returns
unfolding nested
returns c = record {
  sample = refl;
  block = refl;
  repeated = refl;
  other = refl;
  none = refl;
}
