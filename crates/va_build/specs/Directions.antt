-- How ports of one direction are read: definitions that the contracts of this crate's own functions cite. No public contract names
-- them.
use Rattle.std.specs.Prelude.{ℕ, List, Option}
use Rattle.va_base.specs.declared.expanded.Expanded.{Expanded}
use Rattle.va_tree.specs.declared.name.NameAt.{NameAt}
use Rattle.va_tree.specs.declared.module.Direction.{Direction}
use Rattle.va_tree.specs.declared.module.ItemBody.{ItemBody}
use Rattle.va_tree.specs.declared.module.ItemBody.TheVariants as item
use Rattle.va_build.specs.Reading.{Ahead, Reads}
use Rattle.va_build.specs.SourceItems.{directed}

abbrev pub direction_of : ℕ → Direction → Option NameAt → List NameAt → ItemBody
direction_of start to discipline names = item.Direction start to discipline names

-- What follows the first name of a direction was read: of whatever direction, and wherever it begins, the ports have this discipline,
-- if any, and these names.
pub record ReadsDirected (e : Expanded) (name : NameAt) (before after : Ahead) (discipline : Option NameAt) (names : List NameAt) : Type 0 where
  pub each : (start : ℕ) (to : Direction) → Reads (directed e start to name) before after (direction_of start to discipline names)
