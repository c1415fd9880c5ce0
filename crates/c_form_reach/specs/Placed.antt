-- A walk over a flat list of statements that counts the blocks which are open around that of each statement: none where it stands
-- in the top block of its body.
use Rattle.std.specs.Prelude.{ℕ, zero, suc, List, [], ◌∷◌, ◌++◌}
use Rattle.c_tree.specs.Raw.{RawSimple}
use Rattle.c_raw.specs.Blocks.{simple_view}
use Rattle.c_raw.specs.declared.body.RawStatement.{RawStatement}
use Rattle.c_raw.specs.declared.body.RawStatement.TheVariants.{Simple, Leave, If, For, End}

-- where so many blocks were open around one that ends
abbrev pub one_less : ℕ → ℕ
one_less zero = zero
one_less (suc n) = n

-- how many blocks are open around the block behind a statement, where so many are open around its own
abbrev pub around_behind : ℕ → RawStatement → ℕ
around_behind n (Simple s) = n
around_behind n (Leave at test) = n
around_behind n (If test) = suc (suc n)
around_behind n For = suc n
around_behind n (End at) = one_less n

-- what is found in a statement of the top block, or in one that stands deeper
abbrev pub by_depth : {T : Type 0} → (RawSimple → List T) → (RawSimple → List T) → ℕ → RawSimple → List T
by_depth top deep zero s = top s
by_depth top deep (suc n) s = deep s

abbrev pub placed : {T : Type 0} → (RawSimple → List T) → (RawSimple → List T) → ℕ → RawStatement → List T
placed top deep n (Simple s) = by_depth top deep n (simple_view s)
placed top deep n (Leave at test) = []
placed top deep n (If test) = []
placed top deep n For = []
placed top deep n (End at) = []

-- what is found in statements
abbrev pub walked : {T : Type 0} → (RawSimple → List T) → (RawSimple → List T) → ℕ → List RawStatement → List T
walked top deep n [] = []
walked top deep n (s ∷ rest) = placed top deep n s ++ walked top deep (around_behind n s) rest

-- nothing is looked for
abbrev pub nothing : {T : Type 0} → RawSimple → List T
nothing s = []
