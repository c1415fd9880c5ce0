-- `if ( ! .. ) { break ; }` stands exactly once in the direct block of each `for`, and nowhere else.
use Rattle.std.specs.Prelude.{ℕ, Bool, true, false, if◌then◌else◌, List, [], ◌∷◌, ◌++◌}
use Rattle.c_tree.specs.Raw.{RawBlock, closed, simple, leave, choice, loop, RawFile}
use Rattle.c_tree.specs.rules.Bodies.{in_bodies}

-- a block in whose direct statements one is wanted, or none; where it lacks one its closing brace is blamed
abbrev pub breaks_in : Bool → RawBlock → List ℕ
breaks_in wanted (closed at) = if wanted then at ∷ [] else []
breaks_in wanted (simple s rest) = breaks_in wanted rest
breaks_in true (leave at a rest) = breaks_in false rest
breaks_in false (leave at a rest) = at ∷ breaks_in false rest
breaks_in wanted (choice a x y rest) = breaks_in false x ++ breaks_in false y ++ breaks_in wanted rest
breaks_in wanted (loop x rest) = breaks_in true x ++ breaks_in wanted rest

abbrev pub one_break_a_loop : RawFile → List ℕ
one_break_a_loop = in_bodies (λ m b. breaks_in false b.block)
