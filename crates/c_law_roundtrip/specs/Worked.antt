-- Raw trees without places and repeated numbers, worked out by hand.
use Rattle.std.specs.Prelude.{◌≡◌, [], ◌∷◌}
use Rattle.alg_laws.specs.declared.number.Ty.TheVariants.{Real}
use Rattle.c_tree.specs.Raw.{join, RawBlock, closed, simple, leave, loop}
use Rattle.c_tree.specs.RawOf.{raw_of}
use Rattle.c_tree.specs.SampleFile.{sample}
use Rattle.c_tree.specs.WorkedForm.{on, local}
use Rattle.c_law_form_ignores_places.specs.Forget.{forget_block, forget, once, numbered_once}

-- `for ( ; ; ) { double v3 ; if ( ! v2 ) { break ; } }`, whose `for` has the index 40 and which closes a block
abbrev placed_loop : RawBlock
placed_loop = loop (simple (join Real (on 47 3)) (leave 49 (local 52 2) (closed 57))) (closed 58)

abbrev loop_without_places : RawBlock
loop_without_places = loop (simple (join Real (on 0 3)) (leave 0 (local 0 2) (closed 0))) (closed 0)

pub record WorkedForget : Type 0 where
  -- the raw tree of a file has no places, and each number once
  pub sample : numbered_once (forget (raw_of sample)) ≡ raw_of sample
  pub block : forget_block placed_loop ≡ loop_without_places
  -- `model_7`, `inst_7` and `fn_7_0`
  pub repeated : once (on 6 7 ∷ on 30 7 ∷ on 34 7 ∷ []) ≡ on 34 7 ∷ []
  -- a number that another name doesn't have is kept beside it
  pub other : once (on 6 7 ∷ on 30 8 ∷ on 34 8 ∷ on 50 7 ∷ []) ≡ on 6 7 ∷ on 34 8 ∷ on 50 7 ∷ []
  pub none : once [] ≡ []
