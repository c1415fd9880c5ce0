-- What the parts of access rows are that this crate's own functions hand on. No public contract names them.
use Rattle.std.specs.Prelude.{Bool, List, map}
use Rattle.c_tree.specs.Raw as raw
use Rattle.c_raw.specs.Views.{field_view, sizes_view}
use Rattle.c_raw_build.specs.declared.structs.Structs.{Structs}
use Rattle.c_raw_build.specs.Placed.{Placed, is_of, part}
use Rattle.c_raw_build.specs.RowNumbers.{instance_test_row}
use Rattle.c_raw_build.specs.RawFiles.{fields, sizes}
use Rattle.c_raw_build.specs.Words.{CText}

-- InstanceTest
abbrev pub has_instance_test : Placed → Bool
has_instance_test p = is_of instance_test_row p

-- the fields of the model, the sizes of the instance's arrays, and the fields of the instance
pub record TwoStructs : Type 0 where
  pub model_fields : List raw.RawField
  pub sizes : raw.RawSizes
  pub inst_fields : List raw.RawField

abbrev pub structs_view : Structs → TwoStructs
structs_view s = record { model_fields = map field_view s.model_fields.items; sizes = sizes_view s.sizes; inst_fields = map field_view s.inst_fields.items }

-- Structs
unfoldable pub structs_of : CText → Placed → TwoStructs
structs_of text p = record { model_fields = fields text (part 0 p); sizes = sizes text p; inst_fields = fields text (part 5 p) }
