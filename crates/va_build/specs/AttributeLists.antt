-- How attributes are read: a definition that the contracts of this crate's own functions cite. No public contract names it.
use Rattle.std.specs.Prelude.{◌≡◌, ◌+◌, ◌<◌, ◌++◌, length}
use Rattle.va_base.specs.declared.expanded.Expanded.{Expanded}
use Rattle.va_tree.specs.declared.source.AttributeGroup.{AttributeGroup}
use Rattle.va_build.specs.Reading.{Ahead, trees, first_tree, later_trees}
use Rattle.va_build.specs.SourceItems.{attribute, more_attributes, attribute_group}
use Rattle.va_build.specs.Width.{width}

-- a token, an attribute, those behind it, and a token were read
pub record ReadsGroup (e : Expanded) (before after : Ahead) (group : AttributeGroup) : Type 0 where
  pub value_is : group ≡ attribute_group (attribute e (before.at + 1) (first_tree (trees before)) ++ more_attributes e (before.at + 1 + width (first_tree (trees before))) (first_tree (later_trees (trees before))))
  pub trees_are : trees after ≡ later_trees (later_trees (trees before))
  pub at_is : after.at ≡ before.at + 1 + width (first_tree (trees before)) + width (first_tree (later_trees (trees before))) + 1
  pub fewer : length after.nodes < length before.nodes
