-- The rules of form of a C text, by the tokens that each blames, and the files that obey them.
use Rattle.std.specs.Prelude.{◌≡◌, ℕ, min, List, [], ◌∷◌, ◌++◌, Option, Some, None}
use Rattle.c_tree.specs.declared.file.CFile.{CFile}
use Rattle.c_tree.specs.FileOf.{file_of}
use Rattle.c_tree.specs.Raw.{RawFile}
use Rattle.c_tree.specs.rules.Breaks.{one_break_a_loop}
use Rattle.c_tree.specs.rules.Fields.{fields_exist}
use Rattle.c_tree.specs.rules.Locals.{locals_declared}
use Rattle.c_tree.specs.rules.Numbering.{numbered_in_order}
use Rattle.c_tree.specs.rules.Reach.{cells_in_reach}
use Rattle.c_tree.specs.rules.Settings.{set_as_declared}
use Rattle.c_tree.specs.rules.Tables.{tables_agree}
use Rattle.c_tree.specs.rules.Types.{types_agree, calls_fit}

-- the tokens at which a rule is broken, rule by rule
abbrev pub blamed : RawFile → List ℕ
blamed raw =
    numbered_in_order raw ++ fields_exist raw ++ locals_declared raw ++ set_as_declared raw ++ one_break_a_loop raw
    ++ types_agree raw ++ calls_fit raw ++ cells_in_reach raw ++ tables_agree raw

-- the least of some numbers
abbrev pub least_of : List ℕ → Option ℕ
least_of [] = None
least_of (x ∷ rest) = lesser (least_of rest)
  where
    lesser : Option ℕ → Option ℕ
    lesser None = Some x
    lesser (Some y) = Some (min x y)

-- the least token at which a rule is broken
abbrev pub least_blamed : RawFile → Option ℕ
least_blamed raw = least_of (blamed raw)

-- a raw tree that breaks no rule
abbrev pub HasForm : RawFile → Type 0
HasForm raw = blamed raw ≡ []

-- a file that obeys the rules
abbrev pub ObeysForm : CFile → Type 0
ObeysForm f = (raw : RawFile) × (file_of raw ≡ f) × HasForm raw
