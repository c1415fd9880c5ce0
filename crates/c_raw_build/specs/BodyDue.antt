-- What is due while a body is read: definitions that the contracts of this crate's own functions cite. No public contract names
-- them.
use Rattle.std.specs.Prelude.{ℕ, zero, suc, List, [], ◌∷◌, ◌++◌}
use Rattle.predict.specs.declared.symbol.Symbol.{Symbol}
use Rattle.predict.specs.declared.symbol.Symbol.TheVariants.{Kind, Left}
use Rattle.c_raw.specs.declared.body.RawStatement.{RawStatement}
use Rattle.c_raw_build.specs.Due.{AreDueIn}
use Rattle.c_raw_build.specs.Nonterminals as nonterminals
use Rattle.c_raw_build.specs.Reading.{Ahead}
use Rattle.c_raw_build.specs.Steps.{opened}
use Rattle.c_raw_build.specs.Words.{CText}

-- so many tokens, of which the first are of these kinds
abbrev pub tokens_of : ℕ → List ℕ → List Symbol
tokens_of zero kinds = []
tokens_of (suc n) [] = Kind 0 ∷ tokens_of n []
tokens_of (suc n) (k ∷ kinds) = Kind k ∷ tokens_of n kinds

-- The symbols behind the innermost of the open blocks: behind each block stand so many tokens, which are `}` or `} else {`, and then
-- statements.
abbrev pub behind_blocks : List ℕ → List Symbol
behind_blocks [] = []
behind_blocks (count ∷ open_blocks) = tokens_of count (49 ∷ 113 ∷ 48 ∷ []) ++ (Left nonterminals.statements ∷ behind_blocks open_blocks)

-- what is left of a body: the statements of the innermost open block, and what stands behind it
abbrev pub left_of_body : List ℕ → List Symbol
left_of_body open_blocks = Left nonterminals.statements ∷ behind_blocks open_blocks

-- A statement was read up to its first block. Whatever blocks are open, what is left of the body is due.
abbrev pub IsDueBehindHead : CText → Ahead → Ahead → RawStatement → Type 0
IsDueBehindHead text before after s =
    (open_blocks : List ℕ) → AreDueIn text (Left nonterminals.statement ∷ left_of_body open_blocks) before → AreDueIn text (left_of_body (opened s open_blocks)) after
