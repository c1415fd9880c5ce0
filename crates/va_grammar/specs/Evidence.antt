-- What shows that the rows keep the laws of a grammar that can be parsed by the next token.
use Rattle.std.specs.Prelude.{ℕ, zero, suc, ◌&&◌, if◌then◌else◌, nat_eq, List, [], ◌∷◌, get_or}
use Rattle.predict.specs.declared.symbol.Symbol.{Symbol}
use Rattle.predict.specs.declared.symbol.Symbol.TheVariants.{Kind, Left}
use Rattle.predict.specs.Tree.{Tree, Parts, node, no_parts, token, subtree}
use Rattle.predict.specs.Table.{Evidence, symbols_of}
use Rattle.predict.specs.Sets.{is_empty}
use Rattle.va_grammar.specs.declared.nonterminal.Nonterminal.TheVariants.{ElseBranch, Statement}
use Rattle.va_grammar.specs.declared.terminal.Terminal.TheVariants.{Else}
use Rattle.va_grammar.specs.Nonterminals.{nonterminal_number}
use Rattle.va_grammar.specs.Sets.{va_sets, va_table}
use Rattle.va_grammar.specs.Terminals.{terminal_number}
use Rattle.va_grammar.specs.Witnesses.{va_ranks, smallest_rows, smallest_depth, va_next, else_row}

-- parts of symbols, with this tree for each nonterminal
abbrev pub parts_by : (ℕ → Tree) → List Symbol → Parts
parts_by tree [] = no_parts
parts_by tree (Kind kind ∷ symbols) = token kind (parts_by tree symbols)
parts_by tree (Left left ∷ symbols) = subtree (tree left) (parts_by tree symbols)

-- the least deep tree of a nonterminal, cut off at a depth
abbrev pub smallest_tree : ℕ → ℕ → Tree
smallest_tree zero left = node (get_or smallest_rows left 0) no_parts
smallest_tree (suc depth) left =
    node (get_or smallest_rows left 0) (parts_by (smallest_tree depth) (symbols_of va_table.rows (get_or smallest_rows left 0)))

-- an `else` with its statement
abbrev pub else_tree : Tree
else_tree = node else_row (token (terminal_number Else) (subtree (smallest_tree 1 (nonterminal_number Statement)) no_parts))

-- A tree of a nonterminal before a kind: before an `else`, an ElseBranch needs one of its own.
abbrev pub va_witness : ℕ → ℕ → Tree
va_witness left next =
    if nat_eq left (nonterminal_number ElseBranch) && nat_eq next (terminal_number Else) then else_tree
    else smallest_tree smallest_depth left

-- the evidence
abbrev pub va_evidence : Evidence
va_evidence = record { rank = λ left. get_or va_ranks left 0; empty = is_empty va_sets; following = va_next; witness = va_witness }
