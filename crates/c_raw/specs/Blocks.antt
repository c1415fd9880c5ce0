-- The blocks of a body that is kept as a flat list.
use Rattle.std.specs.Prelude.{ℕ, zero, suc, Bool, true, false, List, [], ◌∷◌, map}
use Rattle.c_tree.specs.Raw as raw
use Rattle.c_raw.specs.declared.body.RawRight.{RawRight}
use Rattle.c_raw.specs.declared.body.RawRight.TheVariants as right
use Rattle.c_raw.specs.declared.body.RawSimple.{RawSimple}
use Rattle.c_raw.specs.declared.body.RawSimple.TheVariants.{Constant, Join, Head, Assign, SetCell, SetCollapse, Report}
use Rattle.c_raw.specs.declared.body.RawStatement.{RawStatement}
use Rattle.c_raw.specs.declared.body.RawStatement.TheVariants.{Simple, Leave, If, For, End}
use Rattle.c_raw.specs.declared.token.At.{At}

-- a value at a token
abbrev pub at_view : {T : Type 0} → At T → raw.At T
at_view x = record { at = x.at; value = x.value }

-- the right side of a constant local
abbrev pub right_view : RawRight → raw.RawRight
right_view (right.Same a) = raw.same (at_view a)
right_view (right.Negated a) = raw.negated (at_view a)
right_view (right.Contrary a) = raw.contrary (at_view a)
right_view (right.ToReal a) = raw.to_real (at_view a)
right_view (right.ToInteger a) = raw.to_integer (at_view a)
right_view (right.Call f args) = raw.call f (map at_view args)
right_view (right.Binary a op b) = raw.binary (at_view a) op (at_view b)

-- a statement without blocks
abbrev pub simple_view : RawSimple → raw.RawSimple
simple_view (Constant ty i at side) = raw.constant ty (at_view i) (record { at = at; value = right_view side })
simple_view (Join ty i) = raw.join ty (at_view i)
simple_view (Head ty i first) = raw.head ty (at_view i) (at_view first)
simple_view (Assign i value) = raw.assign (at_view i) (at_view value)
simple_view (SetCell cell value) = raw.set_cell (at_view cell) (at_view value)
simple_view (SetCollapse pair value) = raw.set_flag (at_view pair) (at_view value)
simple_view (Report id) = raw.report (at_view id)

-- the first of some blocks
abbrev pub first_block : List raw.RawBlock → raw.RawBlock
first_block [] = raw.closed 0
first_block (b ∷ blocks) = b

-- the blocks behind the first
abbrev pub later_blocks : List raw.RawBlock → List raw.RawBlock
later_blocks [] = []
later_blocks (b ∷ blocks) = blocks

-- The blocks that a list ends, each up to its `End`, one behind the other. Those behind an open block's end are the rest of the
-- blocks around it. A block whose end is missing is closed at 0.
abbrev pub blocks_of : List RawStatement → List raw.RawBlock
blocks_of [] = []
blocks_of (Simple s ∷ rest) = raw.simple (simple_view s) (first_block (blocks_of rest)) ∷ later_blocks (blocks_of rest)
blocks_of (Leave at test ∷ rest) = raw.leave at (at_view test) (first_block (blocks_of rest)) ∷ later_blocks (blocks_of rest)
blocks_of (If test ∷ rest) =
    raw.choice (at_view test) (first_block (blocks_of rest)) (first_block (later_blocks (blocks_of rest)))
    (first_block (later_blocks (later_blocks (blocks_of rest))))
    ∷ later_blocks (later_blocks (later_blocks (blocks_of rest)))
blocks_of (For ∷ rest) =
    raw.loop (first_block (blocks_of rest)) (first_block (later_blocks (blocks_of rest))) ∷ later_blocks (later_blocks (blocks_of rest))
blocks_of (End at ∷ rest) = raw.closed at ∷ blocks_of rest

-- the block of a body
abbrev pub block_view : List RawStatement → raw.RawBlock
block_view body = first_block (blocks_of body)

-- The list ends so many open blocks, the last of them with its last element. An `if` opens two more, and a `for` one.
abbrev pub ends : ℕ → List RawStatement → Bool
ends zero [] = true
ends zero (s ∷ rest) = false
ends (suc n) [] = false
ends (suc n) (Simple s ∷ rest) = ends (suc n) rest
ends (suc n) (Leave at test ∷ rest) = ends (suc n) rest
ends (suc n) (If test ∷ rest) = ends (suc (suc (suc n))) rest
ends (suc n) (For ∷ rest) = ends (suc (suc n)) rest
ends (suc n) (End at ∷ rest) = ends n rest

-- a body: one block, and nothing behind it
abbrev pub is_body : List RawStatement → Bool
is_body body = ends 1 body
