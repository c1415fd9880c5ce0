-- The blocks of a body. A tree of the program keeps a body as a flat list of statements, in the order of the text, in which a
-- statement with blocks tells how many of the following ones are in them. Here the same body stands with its blocks.
use Rattle.std.specs.Prelude.{◌≡◌, ◌↔◌, ℕ, zero, suc, List, [], ◌∷◌, ◌++◌, length, take, drop}
use Rattle.c_tree.specs.declared.body.CAtom.{CAtom}
use Rattle.c_tree.specs.declared.body.CSimple.{CSimple}
use Rattle.c_tree.specs.declared.body.CStatement.{CStatement}
use Rattle.c_tree.specs.declared.body.CStatement.TheVariants.{Simple, If, For}

-- statements in order; each constructor has the statements that follow it as its last part
pub data Block : Type 0 where
  done : Block
  simple : CSimple → Block → Block
  -- `if`: the test, the first block, the second block
  choice : CAtom → Block → Block → Block → Block
  -- `for`: what stands before the test, the test without which the loop ends, what stands behind it
  loop : Block → CAtom → Block → Block → Block

-- the flat list of a block
abbrev pub flat_of : Block → List CStatement
flat_of done = []
flat_of (simple s rest) = Simple s ∷ flat_of rest
flat_of (choice test first second rest) =
    If test (length (flat_of first)) (length (flat_of second)) ∷ flat_of first ++ flat_of second ++ flat_of rest
flat_of (loop before test turn rest) =
    For (length (flat_of before)) test (length (flat_of turn)) ∷ flat_of before ++ flat_of turn ++ flat_of rest

-- The block of at most n statements of a flat list. A list that is too short for a number has what there is.
unfoldable pub nested : ℕ → List CStatement → Block
nested zero body = done
nested (suc n) [] = done
nested (suc n) (Simple s ∷ rest) = simple s (nested n rest)
nested (suc n) (If test first second ∷ rest) =
    choice test (nested n (take first rest)) (nested n (take second (drop first rest))) (nested n (drop second (drop first rest)))
nested (suc n) (For before test turn ∷ rest) =
    loop (nested n (take before rest)) test (nested n (take turn (drop before rest))) (nested n (drop turn (drop before rest)))

-- the block of a body
abbrev pub block_of : List CStatement → Block
block_of body = nested (length body) body

-- the numbers of a body fit: it is the flat list of its block
abbrev pub HasBlocks : List CStatement → Type 0
HasBlocks body = flat_of (block_of body) ≡ body

-- Blocks and their flat lists determine each other, and the blocks of a flat list are told by its first statement.
pub record BlocksOfLists : Type 0 where
  -- the flat list of a block has that block, so no other block has the list
  pub from_blocks : (b : Block) → block_of (flat_of b) ≡ b
  pub one_block : (b c : Block) → flat_of b ≡ flat_of c → b ≡ c
  -- a list whose numbers fit is the flat list of a block, and each such list is one
  pub fits : (body : List CStatement) → HasBlocks body ↔ ((b : Block) × (flat_of b ≡ body))
  pub none : block_of [] ≡ done
  pub simple_first : (s : CSimple) (rest : List CStatement) → block_of (Simple s ∷ rest) ≡ simple s (block_of rest)
  pub choice_first : (test : CAtom) (first second : ℕ) (rest : List CStatement)
      → block_of (If test first second ∷ rest)
      ≡ choice test (block_of (take first rest)) (block_of (take second (drop first rest))) (block_of (drop second (drop first rest)))
  pub loop_first : (before : ℕ) (test : CAtom) (turn : ℕ) (rest : List CStatement)
      → block_of (For before test turn ∷ rest)
      ≡ loop (block_of (take before rest)) test (block_of (take turn (drop before rest))) (block_of (drop turn (drop before rest)))
