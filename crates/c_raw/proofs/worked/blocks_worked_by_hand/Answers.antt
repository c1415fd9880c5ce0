use Rattle.std.proofs.Common.{refl}
use Rattle.c_raw.proofs.worked.blocks_worked_by_hand.Goals as goal

-- each row by computation
pub returns : goal.returns
returns c = record {
  nested = refl;
  one_block = refl;
  empty_block = refl;
  nothing = refl;
  short = refl;
  behind = refl;
}
