-- How often locals are set. A constant is never set again. A local that is declared without a value is set once in the direct block
-- of each arm of the next `if` with two arms of its block, and nowhere else, and it is read only behind that `if`. One that is
-- declared with a value and isn't constant is set once in the direct block of the next `for` of its block, behind the `break`,
-- and nowhere else. A missing setting is blamed at the closing brace of the block that lacks it. Of a number that is declared more
-- than once the first declaration in the text counts; the rule on locals blames the others.
use Rattle.std.specs.Prelude.{ℕ, ◌==◌, Bool, true, false, if◌then◌else◌, List, [], ◌∷◌, ◌++◌, map}
use Rattle.std.specs.List.{flat_map, list_any}
use Rattle.c_tree.specs.declared.body.CAtom.{CAtom}
use Rattle.c_tree.specs.Raw.{At, RawSimple, constant, join, head, RawBlock, closed, simple, leave, choice, loop, RawFile}
use Rattle.c_tree.specs.rules.Bodies.{items_in, atoms_of, atoms_of_simple, local_of, assigned, of_statement, tokens_of, in_bodies}
use Rattle.c_tree.specs.rules.Locals.{declared}

-- where a statement, and where a block with its blocks, sets a local again
abbrev pub sets : ℕ → RawSimple → List ℕ
sets i s = tokens_of i (assigned s)

abbrev pub sets_in : ℕ → RawBlock → List ℕ
sets_in i block = tokens_of i (flat_map (of_statement assigned) (items_in block))

-- where atoms, and where a block with its blocks, read a local
abbrev pub reads : ℕ → List (At CAtom) → List ℕ
reads i atoms = tokens_of i (flat_map local_of atoms)

abbrev pub reads_in : ℕ → RawBlock → List ℕ
reads_in i block = reads i (flat_map atoms_of (items_in block))

-- a setting where one is wanted
abbrev pub first_counts : Bool → List ℕ → List ℕ
first_counts wanted [] = []
first_counts true (at ∷ rest) = rest
first_counts false (at ∷ rest) = at ∷ rest

abbrev pub still_wanted : Bool → List ℕ → Bool
still_wanted wanted [] = wanted
still_wanted wanted (at ∷ rest) = false

-- a block whose direct statements set a local once, or, where none is wanted, not at all
abbrev pub set_once : Bool → ℕ → RawBlock → List ℕ
set_once wanted i (closed at) = if wanted then at ∷ [] else []
set_once wanted i (simple s rest) = first_counts wanted (sets i s) ++ set_once (still_wanted wanted (sets i s)) i rest
set_once wanted i (leave at a rest) = set_once wanted i rest
set_once wanted i (choice a x y rest) = sets_in i x ++ sets_in i y ++ set_once wanted i rest
set_once wanted i (loop x rest) = sets_in i x ++ set_once wanted i rest

-- the block of a loop, in which a local is set once behind the `break`
abbrev pub set_in_turn : ℕ → RawBlock → List ℕ
set_in_turn i (closed at) = at ∷ []
set_in_turn i (simple s rest) = sets i s ++ set_in_turn i rest
set_in_turn i (leave at a rest) = set_once true i rest
set_in_turn i (choice a x y rest) = sets_in i x ++ sets_in i y ++ set_in_turn i rest
set_in_turn i (loop x rest) = sets_in i x ++ set_in_turn i rest

-- what follows the declaration of a local without a value in its block
abbrev pub after_join : ℕ → RawBlock → List ℕ
after_join i (closed at) = at ∷ []
after_join i (simple s rest) = reads i (atoms_of_simple s) ++ sets i s ++ after_join i rest
after_join i (leave at a rest) = reads i (a ∷ []) ++ after_join i rest
after_join i (choice a x y rest) =
    reads i (a ∷ []) ++ reads_in i x ++ reads_in i y ++ set_once true i x ++ set_once true i y ++ sets_in i rest
after_join i (loop x rest) = reads_in i x ++ sets_in i x ++ after_join i rest

-- what follows the declaration of a local with a value that isn't constant
abbrev pub after_head : ℕ → RawBlock → List ℕ
after_head i (closed at) = at ∷ []
after_head i (simple s rest) = sets i s ++ after_head i rest
after_head i (leave at a rest) = after_head i rest
after_head i (choice a x y rest) = sets_in i x ++ sets_in i y ++ after_head i rest
after_head i (loop x rest) = set_in_turn i x ++ sets_in i rest

-- what a declaration blames in what follows it in its block
abbrev pub after_declaration : RawSimple → RawBlock → List ℕ
after_declaration (constant ty i side) rest = sets_in i.value rest
after_declaration (join ty i) rest = after_join i.value rest
after_declaration (head ty i first) rest = after_head i.value rest
after_declaration _ rest = []

-- a declaration, with its local and what follows it in its block
pub record Declaration : Type 0 where
  pub local : At ℕ
  pub statement : RawSimple
  pub rest : RawBlock

abbrev pub declaration : RawSimple → RawBlock → At ℕ → Declaration
declaration s rest i = record { local = i; statement = s; rest = rest }

abbrev pub blamed_behind : Declaration → List ℕ
blamed_behind d = after_declaration d.statement d.rest

-- the declarations of a block and its blocks, in the order of the text
abbrev pub declarations : RawBlock → List Declaration
declarations (closed at) = []
declarations (simple s rest) = map (declaration s rest) (declared s) ++ declarations rest
declarations (leave at a rest) = declarations rest
declarations (choice a x y rest) = declarations x ++ declarations y ++ declarations rest
declarations (loop x rest) = declarations x ++ declarations rest

-- of some declarations the first of each number, where certain numbers are declared before
abbrev pub first_of_each : List ℕ → List Declaration → List Declaration
first_of_each before [] = []
first_of_each before (d ∷ ds) =
    if list_any (λ number. number == d.local.value) before then first_of_each before ds
    else d ∷ first_of_each (d.local.value ∷ before) ds

-- what the declarations that count in a body blame
abbrev pub settings_in : RawBlock → List ℕ
settings_in block = flat_map blamed_behind (first_of_each [] (declarations block))

abbrev pub set_as_declared : RawFile → List ℕ
set_as_declared = in_bodies (λ m b. settings_in b.block)
