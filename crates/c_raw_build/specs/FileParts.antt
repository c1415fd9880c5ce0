-- What the end of a file is that this crate's own functions hand on. No public contract names it.
use Rattle.std.specs.Prelude.{ℕ, List, map}
use Rattle.c_tree.specs.Raw as raw
use Rattle.c_raw.specs.Blocks.{at_view}
use Rattle.c_raw.specs.Views.{descriptor_view}
use Rattle.c_raw_build.specs.declared.modules.Exports.{Exports}
use Rattle.c_raw_build.specs.Placed.{Placed, part}
use Rattle.c_raw_build.specs.RawFiles.{descriptor_count}
use Rattle.c_raw_build.specs.RawTables.{descriptors}
use Rattle.c_raw_build.specs.Words.{CText}

-- the number of descriptors, and the descriptors
pub record Exported : Type 0 where
  pub num_descriptors : raw.At ℕ
  pub descriptors : List raw.RawDescriptor

abbrev pub exports_view : Exports → Exported
exports_view e = record { num_descriptors = at_view e.num_descriptors; descriptors = map descriptor_view e.descriptors.items }

-- Exports
unfoldable pub exports_of : CText → Placed → Exported
exports_of text p = record { num_descriptors = descriptor_count text p; descriptors = descriptors text (part 1 p) }
