-- What is left to print where blocks are open.
use Rattle.std.specs.Prelude.{ℕ, ◌+◌, ◌*◌, List, [], ◌++◌, length, fold, codes}
use Rattle.c_tree.specs.Words.{Word, word, template}
use Rattle.c_tree.specs.Text.{leave_words, body_words}
use Rattle.c_print.specs.declared.body.Closing.{Closing}
use Rattle.c_print.specs.declared.body.Closing.TheVariants.{Else, Leave, End}
use Rattle.c_print.specs.declared.body.OpenBlock.{OpenBlock}

-- what closes a block in module number k
abbrev pub closing_words : ℕ → Closing → List Word
closing_words k (Else second) = template (codes "} else {") ++ body_words k second.now ++ word (codes "}")
closing_words k (Leave test turn) = leave_words test ++ body_words k turn.now ++ word (codes "}")
closing_words k End = word (codes "}")

-- what stands behind open blocks, the innermost of which is the last
abbrev pub pending : ℕ → List OpenBlock → List Word
pending k = fold (λ behind block. closing_words k block.closing ++ body_words k block.rest.now ++ behind) []

-- how many steps it takes at most to print it
abbrev pub closing_weight : Closing → ℕ
closing_weight (Else second) = 3 * length second.now + 2
closing_weight (Leave test turn) = 3 * length turn.now + 2
closing_weight End = 1

abbrev pub weight : List OpenBlock → ℕ
weight = fold (λ sum block. closing_weight block.closing + 3 * length block.rest.now + sum) 0
