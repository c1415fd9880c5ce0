-- Bodies as the flat lists that the code of this crate builds: definitions that the contracts of its own functions cite. No public
-- contract names them.
use Rattle.std.specs.Prelude.{ℕ, ◌≡◌, ◌+◌, ◌<◌, ◌≤◌, ◌++◌, List, [], ◌∷◌, length, map}
use Rattle.predict.specs.Tree.{Tree, node, no_parts, token, subtree}
use Rattle.c_tree.specs.declared.body.CAtom.{CAtom}
use Rattle.c_tree.specs.Raw as raw
use Rattle.c_raw.specs.declared.body.RawSimple.{RawSimple}
use Rattle.c_raw.specs.declared.body.RawStatement.{RawStatement}
use Rattle.c_raw.specs.declared.body.RawStatement.TheVariants.{Simple, Leave, If, For, End}
use Rattle.c_raw.specs.Blocks.{at_view, simple_view}
use Rattle.c_raw_build.specs.Placed.{Placed, width, part}
use Rattle.c_raw_build.specs.RawAtoms.{placed_atom}
use Rattle.c_raw_build.specs.RawBodies.{simple_of}
use Rattle.c_raw_build.specs.Reading.{Ahead, Reads, trees, first_tree, later_trees}
use Rattle.c_raw_build.specs.Words.{CText}

-- an element of a flat list of statements
pub data Step : Type 0 where
  of_simple : raw.RawSimple → Step
  of_leave : ℕ → raw.At CAtom → Step
  of_if : raw.At CAtom → Step
  of_for : Step
  of_end : ℕ → Step

abbrev pub step_view : RawStatement → Step
step_view (Simple s) = of_simple (simple_view s)
step_view (Leave at test) = of_leave at (at_view test)
step_view (If test) = of_if (at_view test)
step_view For = of_for
step_view (End at) = of_end at

abbrev mutual
  -- Statements, and what follows them
  pub steps : CText → ℕ → Tree → List Step → List Step
  steps text at (node row (subtree first (subtree rest no_parts))) more =
      statement_steps text at first (steps text (at + width first) rest more)
  steps text at others more = more

  -- Statement, and what follows it
  pub statement_steps : CText → ℕ → Tree → List Step → List Step
  statement_steps text at (node row (token word (token bracket (subtree chosen no_parts)))) more = if_steps text at chosen more
  statement_steps text at (node row (token word (token left (token one (token other (token right (token brace (subtree body (token close no_parts))))))))) more =
      of_for ∷ steps text (at + 6) body (of_end (at + 6 + width body) ∷ more)
  statement_steps text at others more = of_simple (simple_of text (record { at = at; tree = others })) ∷ more

  -- IfRest, behind the `if (` with this index, and what follows it
  pub if_steps : CText → ℕ → Tree → List Step → List Step
  if_steps text at (node row (subtree test (token right (token brace (subtree first (token close (token word (token next (subtree second (token end_of no_parts)))))))))) more =
      of_if (placed_atom text (record { at = at + 2; tree = test }))
      ∷ steps text (at + 4 + width test) first (of_end (at + 4 + width test + width first)
      ∷ steps text (at + 4 + width test + width first + 3) second (of_end (at + 4 + width test + width first + 3 + width second) ∷ more))
  if_steps text at others more = of_leave at (placed_atom text (part 0 (record { at = at + 2; tree = others }))) ∷ more

-- Statements, whatever follows them
unfoldable pub statements : CText → Placed → List Step → List Step
statements text p more = steps text p.at p.tree more

-- some statements, whatever follows them
abbrev pub before_more : List RawStatement → List Step → List Step
before_more list more = map step_view list ++ more

-- What is left of a body to read. The next tree is the rest of the innermost open block, and behind each open block but the
-- outermost so many tokens stand before the statements that follow it.
abbrev pub left : CText → List Step → List ℕ → List Tree → ℕ → List Step
left text more [] ts at = steps text at (first_tree ts) more
left text more (count ∷ open_blocks) ts at =
    steps text at (first_tree ts) (of_end (at + width (first_tree ts)) ∷ left text more open_blocks (later_trees ts) (at + width (first_tree ts) + count))

-- the trees behind it
abbrev pub trees_left : List ℕ → List Tree → List Tree
trees_left [] ts = later_trees ts
trees_left (count ∷ open_blocks) ts = trees_left open_blocks (later_trees ts)

-- the index of the token behind it
abbrev pub end_left : List ℕ → List Tree → ℕ → ℕ
end_left [] ts at = at + width (first_tree ts)
end_left (count ∷ open_blocks) ts at = end_left open_blocks (later_trees ts) (at + width (first_tree ts) + count)

-- the open blocks once a statement was read up to its first block
abbrev pub opened : RawStatement → List ℕ → List ℕ
opened (Simple s) open_blocks = open_blocks
opened (Leave at test) open_blocks = open_blocks
opened (If test) open_blocks = 3 ∷ 1 ∷ open_blocks
opened For open_blocks = 1 ∷ open_blocks
opened (End at) open_blocks = open_blocks

-- a list from its end on
abbrev pub turned : List ℕ → List ℕ → List ℕ
turned behind [] = behind
turned behind (x ∷ rest) = turned (x ∷ behind) rest

-- the innermost first
abbrev pub innermost_first : List ℕ → List ℕ
innermost_first l = turned [] l

-- a statement without blocks
abbrev pub IsAlone : Tree → Type 0
IsAlone t = (text : CText) (at : ℕ) (more : List Step) → statement_steps text at t more ≡ of_simple (simple_of text (record { at = at; tree = t })) ∷ more

-- The next tree was read, and is this statement without blocks.
pub record ReadsSimple (text : CText) (before after : Ahead) (s : RawSimple) : Type 0 where
  pub reads : Reads (simple_of text) before after (simple_view s)
  pub alone : IsAlone (first_tree (trees before))

-- A statement was read up to its first block, whatever blocks are open.
pub record ReadsHead (text : CText) (before after : Ahead) (s : RawStatement) : Type 0 where
  pub value_is : (more : List Step) (open_blocks : List ℕ)
      → statement_steps text before.at (first_tree (trees before)) (left text more open_blocks (later_trees (trees before)) (before.at + width (first_tree (trees before))))
      ≡ step_view s ∷ left text more (opened s open_blocks) (trees after) after.at
  pub trees_are : (open_blocks : List ℕ) → trees_left (opened s open_blocks) (trees after) ≡ trees_left open_blocks (later_trees (trees before))
  pub at_is : (open_blocks : List ℕ) → end_left (opened s open_blocks) (trees after) after.at
      ≡ end_left open_blocks (later_trees (trees before)) (before.at + width (first_tree (trees before)))
  pub fewer : length after.nodes < length before.nodes

-- A body is being read: what was read, with what is left, is the whole.
pub record BodyOn (text : CText) (before now : Ahead) (list : List RawStatement) (open_blocks : List ℕ) : Type 0 where
  pub value_is : (more : List Step) → map step_view list ++ left text more open_blocks (trees now) now.at ≡ steps text before.at (first_tree (trees before)) more
  pub trees_are : trees_left open_blocks (trees now) ≡ later_trees (trees before)
  pub at_is : end_left open_blocks (trees now) now.at ≡ before.at + width (first_tree (trees before))
  pub fewer : length now.nodes ≤ length before.nodes
