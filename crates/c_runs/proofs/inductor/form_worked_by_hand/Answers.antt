use Rattle.std.proofs.Common.{refl}
use Rattle.std.specs.Fmt.{digits}
use Rattle.va_base.specs.Numerals.{number_of}
use Rattle.c_tree.specs.Blocks.{nested}
use Rattle.c_runs.proofs.inductor.form_worked_by_hand.Goals as goal

-- by computation
pub returns : goal.returns
unfolding digits number_of nested
returns c = record {
  spelled = record {
    modules = refl;
    tables = refl;
    bodies = refl;
    blocks = (record { functions = tt; setup_model = refl; setup_instance = refl; eval = refl }, tt);
  };
  kept = refl;
  formed = refl;
  reported = refl;
}
