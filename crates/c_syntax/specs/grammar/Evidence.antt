-- What shows that the rows keep the laws of a grammar that can be parsed by the next token.
use Rattle.std.specs.Prelude.{ℕ, zero, suc, List, [], ◌∷◌, get_or}
use Rattle.predict.specs.declared.symbol.Symbol.{Symbol}
use Rattle.predict.specs.declared.symbol.Symbol.TheVariants.{Kind, Left}
use Rattle.predict.specs.Tree.{Tree, Parts, node, no_parts, token, subtree}
use Rattle.predict.specs.Table.{Evidence, symbols_of}
use Rattle.predict.specs.Sets.{is_empty}
use Rattle.c_syntax.specs.grammar.Sets.{c_sets, c_table}
use Rattle.c_syntax.specs.grammar.Witnesses.{c_ranks, smallest_rows, smallest_depth, c_next}

-- parts of symbols, with this tree for each nonterminal
abbrev pub parts_by : (ℕ → Tree) → List Symbol → Parts
parts_by tree [] = no_parts
parts_by tree (Kind kind ∷ symbols) = token kind (parts_by tree symbols)
parts_by tree (Left left ∷ symbols) = subtree (tree left) (parts_by tree symbols)

-- the least deep tree of a nonterminal, cut off at a depth
abbrev pub smallest_tree : ℕ → ℕ → Tree
smallest_tree zero left = node (get_or smallest_rows left 0) no_parts
smallest_tree (suc depth) left =
    node (get_or smallest_rows left 0) (parts_by (smallest_tree depth) (symbols_of c_table.rows (get_or smallest_rows left 0)))

-- the evidence
abbrev pub c_evidence : Evidence
c_evidence =
    record { rank = λ left. get_or c_ranks left 0; empty = is_empty c_sets; following = c_next; witness = λ left next. smallest_tree smallest_depth left }
