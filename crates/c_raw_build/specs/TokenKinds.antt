-- The kinds of the tokens that are read for what they spell: their numbers, which are their places among `kind_names` of `c_syntax`,
-- counted from 0.
use Rattle.std.specs.Prelude.{ℕ, List, [], ◌∷◌}

-- <integer> <unsigned> <local> <argument> 0 1 0u 1u 3u
abbrev pub numbers : List ℕ
numbers = 8 ∷ 9 ∷ 12 ∷ 13 ∷ 33 ∷ 34 ∷ 35 ∷ 36 ∷ 37 ∷ []

-- <local>
abbrev pub locals : List ℕ
locals = 12 ∷ []

-- <fn>
abbrev pub module_functions : List ℕ
module_functions = 15 ∷ []

-- <function>
abbrev pub library_functions : List ℕ
library_functions = 11 ∷ []

-- <real>
abbrev pub reals : List ℕ
reals = 10 ∷ []

-- <field> temp
abbrev pub fields : List ℕ
fields = 14 ∷ 93 ∷ []

-- <string>
abbrev pub strings : List ℕ
strings = 7 ∷ []
