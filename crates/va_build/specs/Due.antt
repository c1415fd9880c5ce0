-- What is due while a parse tree is read: definitions that the contracts of this crate's own functions cite. No public contract
-- names them.
use Rattle.std.specs.Prelude.{ℕ, ◌+◌, ◌≤◌, ◌≡◌, true, List, [], ◌∷◌, map}
use Rattle.predict.specs.declared.symbol.Symbol.{Symbol}
use Rattle.predict.specs.declared.symbol.Symbol.TheVariants.{Kind, Left}
use Rattle.predict.specs.Sentence.{IsTreeOf}
use Rattle.predict.specs.Table.{is_among}
use Rattle.predict.specs.Tree.{Tree, node}
use Rattle.va_grammar.specs.Sets.{va_rules}
use Rattle.va_grammar.specs.Nonterminals.{nonterminal_number}
use Rattle.va_grammar.specs.Rows.{rule, token as word}
use Rattle.va_grammar.specs.declared.nonterminal.Nonterminal.{Nonterminal}
use Rattle.va_grammar.specs.declared.nonterminal.Nonterminal.TheVariants as nonterminal
use Rattle.va_grammar.specs.declared.terminal.Terminal.TheVariants as terminal
use Rattle.va_build.specs.Reading.{Ahead, trees, first_tree, later_trees, parts_from}
use Rattle.va_build.specs.Width.{width_of}

-- the first of the trees are derived from the nonterminals among the symbols
abbrev pub AreDerived : List Symbol → List Tree → Type 0
AreDerived [] ts = Unit {0}
AreDerived (Kind k ∷ symbols) ts = AreDerived symbols ts
AreDerived (Left l ∷ symbols) ts = ((next : ℕ) × IsTreeOf va_rules l (first_tree ts) next) × AreDerived symbols (later_trees ts)

-- These symbols are due: the first of the trees that are left to read are derived from them, and the tokens that they spell are
-- among those of a text, which has at most 2000000 before its end.
pub record AreDue (symbols : List Symbol) (a : Ahead) : Type 0 where
  pub derived : AreDerived symbols (trees a)
  pub fits : a.at + width_of (parts_from symbols (trees a)) ≤ 2000000

-- the row of a tree
abbrev pub root : Tree → ℕ
root (node row parts) = row

-- the row of the next tree
abbrev pub next_row : Ahead → ℕ
next_row a = root (first_tree (trees a))

-- a tree of this nonterminal is due
abbrev pub IsDue : Nonterminal → Ahead → Type 0
IsDue l = AreDue (rule l ∷ [])

-- The rows of statements that hold no other: `name ..;`, a task, and `;`. Then those of loops, and those of loops and waits.
abbrev pub simple_rows : List ℕ
simple_rows = 96 ∷ 97 ∷ 98 ∷ []

abbrev pub loop_rows : List ℕ
loop_rows = 93 ∷ 94 ∷ []

abbrev pub turn_rows : List ℕ
turn_rows = 92 ∷ 93 ∷ 94 ∷ 95 ∷ []

-- a keyword and an expression in parentheses are due, and something behind them
abbrev pub IsConditionDue : Ahead → Type 0
IsConditionDue a = (k : ℕ) × (more : List Symbol) × AreDue (Kind k ∷ word terminal.LeftParenthesis ∷ rule nonterminal.Expression ∷ word terminal.RightParenthesis ∷ more) a

-- a name, `=` and an expression are due, and something behind them
abbrev pub IsAssignmentDue : Ahead → Type 0
IsAssignmentDue a = (more : List Symbol) × AreDue (word terminal.Name ∷ word terminal.Assign ∷ rule nonterminal.Expression ∷ more) a

-- the nonterminals of operands, one for each precedence and one for signs, and their rows
abbrev pub operands : List ℕ
operands = map nonterminal_number (nonterminal.Or ∷ nonterminal.And ∷ nonterminal.Equality ∷ nonterminal.Relation ∷ nonterminal.Sum ∷ nonterminal.Product ∷ nonterminal.Power ∷ nonterminal.Unary ∷ [])

abbrev pub operand_rows : List ℕ
operand_rows = 134 ∷ 137 ∷ 140 ∷ 144 ∷ 150 ∷ 154 ∷ 159 ∷ 162 ∷ 163 ∷ 164 ∷ 165 ∷ []

-- the nonterminals of what follows a first operand, and their rows
abbrev pub tails : List ℕ
tails = map nonterminal_number (nonterminal.OrTail ∷ nonterminal.AndTail ∷ nonterminal.EqualityTail ∷ nonterminal.RelationTail ∷ nonterminal.SumTail ∷ nonterminal.ProductTail ∷ nonterminal.PowerTail ∷ [])

abbrev pub tail_rows : List ℕ
tail_rows = 135 ∷ 136 ∷ 138 ∷ 139 ∷ 141 ∷ 142 ∷ 143 ∷ 145 ∷ 146 ∷ 147 ∷ 148 ∷ 149 ∷ 151 ∷ 152 ∷ 153 ∷ 155 ∷ 156 ∷ 157 ∷ 158 ∷ 160 ∷ 161 ∷ []

-- a tree of one of these nonterminals is due
abbrev pub IsOneDue : List ℕ → Ahead → Type 0
IsOneDue among a = (l : ℕ) × (is_among among l ≡ true) × AreDue (Left l ∷ []) a

abbrev pub IsOperandDue : Ahead → Type 0
IsOperandDue = IsOneDue operands

abbrev pub IsTailDue : Ahead → Type 0
IsTailDue = IsOneDue tails
