-- What is known of a body whose statements were met from its end: how many statements its blocks have, and which.
use Rattle.std.specs.Prelude.{◌≡◌, ℕ, ◌+◌, List, [], ◌∷◌, length, map, reverse}
use Rattle.std.specs.List.{flat_map}
use Rattle.c_tree.specs.declared.body.CAtom.{CAtom}
use Rattle.c_tree.specs.declared.body.CAtom.TheVariants as atom
use Rattle.c_tree.specs.declared.body.CStatement.{CStatement}
use Rattle.c_tree.specs.Blocks.{flat_of}
use Rattle.c_tree.specs.FileOf.{before_test, test_of, behind_test, body_of}
use Rattle.c_tree.specs.Raw.{RawBlock}
use Rattle.c_raw.specs.Blocks.{blocks_of}
use Rattle.c_raw.specs.declared.body.RawStatement.{RawStatement}
use Rattle.c_raw_file.specs.declared.bodies.Counted.{Counted}

-- the statements before the first `break` of a block, its test, and those behind it
abbrev pub counted : RawBlock → Counted
counted b =
    record { before = length (flat_of (before_test b)); test = test_of b; turn = length (flat_of (behind_test b)) }

-- a block without statements
abbrev pub closed_here : Counted
closed_here = record { before = 0; test = atom.Integer 0; turn = 0 }

-- all statements of a block
abbrev pub total : Counted → ℕ
total block = block.before + block.turn

-- with so many more at its front
abbrev pub longer : ℕ → Counted → Counted
longer count block = record { before = block.before + count; test = block.test; turn = block.turn }

-- with a `break` at its front
abbrev pub left_here : CAtom → Counted → Counted
left_here test block = record { before = 0; test = test; turn = total block }

-- the first of some blocks, and the others
abbrev pub counted_first : List Counted → Counted
counted_first [] = closed_here
counted_first (b ∷ blocks) = b

abbrev pub counted_later : List Counted → List Counted
counted_later [] = []
counted_later (b ∷ blocks) = blocks

-- these statements of a body were met: the blocks that they end, and the statements of these
pub record IsWalked (blocks : List Counted) (body : List CStatement) (met : List RawStatement) : Type 0 where
  pub counts : blocks ≡ map counted (blocks_of met)
  pub statements : body ≡ flat_map body_of (blocks_of met)

-- from these blocks and statements to those, where a statement is met; both are kept with the next one last
abbrev pub Meets : RawStatement → List Counted → List CStatement → List Counted → List CStatement → Type 0
Meets s blocks body new_blocks new_body =
    (met : List RawStatement) → IsWalked (reverse blocks) (reverse body) met → IsWalked (reverse new_blocks) (reverse new_body) (s ∷ met)
