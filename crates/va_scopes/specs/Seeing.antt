-- What is seen at a place of a text, as the program keeps it: a table of what is seen there, and for each open scope what its
-- declarations hid.
use Rattle.std.specs.Prelude.{◌≡◌, ℕ, if◌then◌else◌, List, [], ◌∷◌, ◌++◌, Option}
use Rattle.std.specs.Str.{bytes_eq}
use Rattle.va_sem.specs.Scopes.{Declared}
use Rattle.va_scopes.specs.Bindings.{seen_under}
use Rattle.va_scopes.specs.Tables.{by_name}
use Rattle.va_scopes.specs.declared.bindings.Seen.{Seen}
use Rattle.va_scopes.specs.declared.scopes.Hidden.{Hidden}
use Rattle.va_scopes.specs.declared.scopes.Frame.{Frame}
use Rattle.va_scopes.specs.declared.scopes.Scopes.{Scopes}

-- open scopes with the innermost first, which the program keeps last
abbrev pub innermost_first : {T : Type 0} → List T → List T
innermost_first [] = []
innermost_first (x ∷ xs) = innermost_first xs ++ x ∷ []

-- what is seen under names
abbrev pub Seeing : Type 0
Seeing = List ℕ → Option Seen

-- what was seen before some declarations, of which the last stands first
abbrev pub undone : Seeing → List Hidden → Seeing
undone seeing [] = seeing
undone seeing (h ∷ hidden) = undone (λ name. if bytes_eq h.name.now name then h.seen else seeing name) hidden

-- these declarations are seen
abbrev pub Sees : Seeing → List Declared → Type 0
Sees seeing known = (name : List ℕ) → seeing name ≡ seen_under known name

-- around the innermost scope these are seen, from the innermost on
abbrev pub Around : Seeing → List Frame → List (List Declared) → Type 0
Around seeing [] [] = Unit {0}
Around seeing [] (known ∷ outer) = ⊥
Around seeing (frame ∷ frames) [] = ⊥
Around seeing (frame ∷ frames) (known ∷ outer) =
    Sees seeing known × Around (undone seeing (innermost_first frame.hidden.items)) frames outer

-- in the innermost scope these are seen, and around it those
pub record IsScope (scopes : Scopes) (known : List Declared) (outer : List (List Declared)) : Type 0 where
  pub sees : Sees (by_name scopes.table) known
  pub around : Around (undone (by_name scopes.table) (innermost_first scopes.frame.hidden.items)) (innermost_first scopes.outer.items) outer
