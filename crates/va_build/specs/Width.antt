-- How many tokens a parse tree spells.
use Rattle.std.specs.Prelude.{ℕ, ◌+◌}
use Rattle.predict.specs.Tree.{Tree, Parts, node, no_parts, token, subtree}

abbrev mutual
  pub width : Tree → ℕ
  width (node row parts) = width_of parts

  pub width_of : Parts → ℕ
  width_of no_parts = 0
  width_of (token k parts) = width_of parts + 1
  width_of (subtree t parts) = width t + width_of parts
