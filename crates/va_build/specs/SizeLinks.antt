-- What a row of the grammar is to the operand before it, by its symbols: definitions that the contracts of this crate's own functions
-- cite. No public contract names them.
use Rattle.std.specs.Prelude.{ℕ, ◌+◌, ◌==◌, if◌then◌else◌, List, [], ◌∷◌}
use Rattle.predict.specs.declared.symbol.Symbol.{Symbol}
use Rattle.predict.specs.declared.symbol.Symbol.TheVariants.{Kind, Left}
use Rattle.predict.specs.Tree.{Tree}
use Rattle.va_build.specs.SizeRows.{operators, choices}
use Rattle.va_build.specs.declared.size_links.Shape.{Shape}
use Rattle.va_build.specs.declared.size_links.Shape.TheVariants.{Pair, Operator, Choice, Other}
use Rattle.va_build.specs.declared.size_links.Tail.{Tail}

abbrev pub tail : ℕ → ℕ → Tail
tail n m = record { operators = n; choices = m }

abbrev pub no_tail : Tail
no_tail = tail 0 0

-- what a tree is to the operand before it
abbrev pub tail_of : Tree → Tail
tail_of t = tail (operators t) (choices t)

-- how the symbols of a row follow each other, as far as operators go
abbrev pub shape_of : List Symbol → Shape
shape_of (Left a ∷ Left b ∷ []) = Pair
shape_of (Kind k ∷ Left a ∷ Left b ∷ []) = Operator
shape_of (Kind k ∷ Left a ∷ Kind j ∷ Left b ∷ []) = Choice
shape_of others = Other

-- what a row of this shape is, where its second tree is this
abbrev pub tail_by : Shape → Tail → Tail
tail_by Operator second = tail (second.operators + 1) 0
tail_by Choice second = tail 0 1
tail_by Pair second = no_tail
tail_by Other second = no_tail

abbrev pub tail_here : List Symbol → Tail → Tail
tail_here symbols second = tail_by (shape_of symbols) second

-- the links of a row of this shape, where its second tree is this
abbrev pub link_by : ℕ → Shape → Tail → ℕ
link_by row Pair second = if row == 131 then second.choices else second.operators
link_by row Operator second = second.operators + 1
link_by row Choice second = 0
link_by row Other second = 0

abbrev pub link_here : ℕ → List Symbol → Tail → ℕ
link_here row symbols second = link_by row (shape_of symbols) second

abbrev pub later_tails : List Tail → List Tail
later_tails [] = []
later_tails (t ∷ ts) = ts

-- the trees behind those of a row with these symbols
abbrev pub tails_behind : List Symbol → List Tail → List Tail
tails_behind [] ts = ts
tails_behind (Kind k ∷ symbols) ts = tails_behind symbols ts
tails_behind (Left l ∷ symbols) ts = tails_behind symbols (later_tails ts)
