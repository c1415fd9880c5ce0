-- Blocks of flat lists, worked out by hand.
use Rattle.std.specs.Prelude.{◌≡◌, ℕ, Bool, true, false, List, [], ◌∷◌}
use Rattle.c_tree.specs.declared.body.CAtom.{CAtom}
use Rattle.c_tree.specs.declared.body.CAtom.TheVariants.{Local}
use Rattle.c_tree.specs.Raw as raw
use Rattle.c_raw.specs.declared.body.RawSimple.TheVariants.{Assign, Report}
use Rattle.c_raw.specs.declared.body.RawStatement.{RawStatement}
use Rattle.c_raw.specs.declared.body.RawStatement.TheVariants.{Simple, Leave, If, For, End}
use Rattle.c_raw.specs.declared.token.At.{At}
use Rattle.c_raw.specs.Blocks.{block_view, is_body}

-- the local of this number, at this token
abbrev local : ℕ → ℕ → At CAtom
local at i = record { at = at; value = Local i }

abbrev raw_local : ℕ → ℕ → raw.At CAtom
raw_local at i = record { at = at; value = Local i }

-- a report of an id, at this token
abbrev report : ℕ → ℕ → RawStatement
report at id = Simple (Report (record { at = at; value = id }))

abbrev raw_report : ℕ → ℕ → raw.RawSimple
raw_report at id = raw.report (record { at = at; value = id })

-- if ( v1 ) { for ( ; ; ) { if ( ! v2 ) { break ; } init_error ( res , 5u ) ; } } else { } init_error ( res , 6u ) ; }
abbrev sample : List RawStatement
sample =
    If (local 2 1) ∷ For ∷ Leave 12 (local 15 2) ∷ report 21 5 ∷ End 28 ∷ End 29 ∷ End 32 ∷ report 33 6 ∷ End 40 ∷ []

abbrev sample_loop : raw.RawBlock
sample_loop = raw.leave 12 (raw_local 15 2) (raw.simple (raw_report 21 5) (raw.closed 28))

abbrev sample_block : raw.RawBlock
sample_block =
    raw.choice (raw_local 2 1) (raw.loop sample_loop (raw.closed 29)) (raw.closed 32) (raw.simple (raw_report 33 6) (raw.closed 40))

pub record WorkedBlocks : Type 0 where
  pub nested : block_view sample ≡ sample_block
  pub one_block : is_body sample ≡ true
  pub empty_block : is_body (End 3 ∷ []) ≡ true
  pub nothing : is_body [] ≡ false
  -- the second block's end is missing
  pub short : is_body (If (local 2 1) ∷ End 5 ∷ End 8 ∷ []) ≡ false
  -- something stands behind the block's end
  pub behind : is_body (End 5 ∷ End 8 ∷ []) ≡ false
