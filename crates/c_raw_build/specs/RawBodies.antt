-- What statements and blocks stand for.
use Rattle.std.specs.Prelude.{ℕ, ◌+◌, if◌then◌else◌}
use Rattle.alg_laws.specs.declared.number.Ty.{Ty}
use Rattle.predict.specs.Tree.{Tree, node, no_parts, token, subtree}
use Rattle.c_tree.specs.declared.body.CAtom.{CAtom}
use Rattle.c_tree.specs.declared.body.CField.{CField}
use Rattle.c_tree.specs.declared.body.Level.TheVariants.{Instance, Model}
use Rattle.c_tree.specs.Raw.{At, RawSimple, constant, join, head, assign, set_cell, set_flag, report, RawBlock, closed, simple, leave, choice, loop}
use Rattle.c_raw_build.specs.Placed.{Placed, width, end, is_of, part}
use Rattle.c_raw_build.specs.RowNumbers.{constant_row, declared_row, assigned_row, set_model_row, set_instance_row, first_value_row, field_target_row}
use Rattle.c_raw_build.specs.RawAtoms.{ty_of, field, number_of_tree, placed_atom, right_of}
use Rattle.c_raw_build.specs.Words.{CText, numbered_at}

-- FirstValue: with or without a value
unfoldable pub declared : CText → Ty → At ℕ → Placed → RawSimple
declared text ty local p = if is_of first_value_row p then head ty local (placed_atom text (part 0 p)) else join ty local

-- what a statement sets in the instance: a field, or the collapse flag of a pair
pub data Target : Type 0 where
  of_field : CField → Target
  of_pair : ℕ → Target

-- InstanceTarget
unfoldable pub instance_target : CText → Placed → Target
instance_target text p = if is_of field_target_row p then of_field (field text (part 0 p)) else of_pair (number_of_tree text (part 0 p))

-- a target behind the `inst` with this index is set
abbrev pub set_target : ℕ → Target → At CAtom → RawSimple
set_target at (of_field field) value = set_cell (record { at = at; value = record { level = Instance; field = field } }) value
set_target at (of_pair pair) value = set_flag (record { at = at; value = pair }) value

-- Statement: one without blocks
unfoldable pub simple_of : CText → Placed → RawSimple
simple_of text p =
    if is_of constant_row p
    then constant (ty_of (part 0 p)) (numbered_at text (end (part 0 p))) (record { at = (part 1 p).at; value = right_of text (part 1 p) })
    else (if is_of declared_row p then declared text (ty_of (part 0 p)) (numbered_at text (end (part 0 p))) (part 1 p)
    else (if is_of assigned_row p then assign (numbered_at text p.at) (placed_atom text (part 0 p))
    else (if is_of set_model_row p
    then set_cell (record { at = p.at; value = record { level = Model; field = field text (part 0 p) } }) (placed_atom text (part 1 p))
    else (if is_of set_instance_row p then set_target p.at (instance_target text (part 0 p)) (placed_atom text (part 1 p))
    else report (record { at = p.at; value = number_of_tree text (part 0 p) })))))

abbrev mutual
  -- Statements, up to the closing brace with this index
  pub block_of : CText → ℕ → ℕ → Tree → RawBlock
  block_of text last at (node row (subtree first (subtree rest no_parts))) =
      statement text at first (block_of text last (at + width first) rest)
  block_of text last at others = closed last

  -- Statement, and the rest of its block: `if (` and what follows it; `for ( ; ; ) { .. }`; or a statement without blocks
  pub statement : CText → ℕ → Tree → RawBlock → RawBlock
  statement text at (node row (token word (token bracket (subtree chosen no_parts)))) rest = if_rest text at chosen rest
  statement text at (node row (token word (token left (token one (token other (token right (token brace (subtree body (token close no_parts))))))))) rest =
      loop (block_of text (at + 6 + width body) (at + 6) body) rest
  statement text at others rest = simple (simple_of text (record { at = at; tree = others })) rest

  -- IfRest, behind the `if (` with this index: a test and two blocks, or `! .. ) { break ; }`
  pub if_rest : CText → ℕ → Tree → RawBlock → RawBlock
  if_rest text at (node row (subtree test (token right (token brace (subtree first (token close (token word (token next (subtree second (token end_of no_parts)))))))))) rest =
      choice (placed_atom text (record { at = at + 2; tree = test }))
      (block_of text (at + 4 + width test + width first) (at + 4 + width test) first)
      (block_of text (at + 4 + width test + width first + 3 + width second) (at + 4 + width test + width first + 3) second) rest
  if_rest text at others rest = leave at (placed_atom text (part 0 (record { at = at + 2; tree = others }))) rest

-- Statements, up to the closing brace with this index
unfoldable pub body_block : CText → ℕ → Placed → RawBlock
body_block text last p = block_of text last p.at p.tree
