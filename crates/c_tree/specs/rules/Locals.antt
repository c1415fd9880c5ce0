-- A local or an argument that is used is declared before, in its block or an enclosing one, and each is declared once in its
-- function.
use Rattle.std.specs.Prelude.{ℕ, ◌==◌, if◌then◌else◌, List, [], ◌∷◌, ◌++◌, map}
use Rattle.std.specs.List.{flat_map, list_any}
use Rattle.c_tree.specs.Raw.{At, RawSimple, constant, join, head, RawArgument, RawModule, RawFile}
use Rattle.c_tree.specs.rules.Bodies.{Declared, Item, Scoped, RawBody, items_of, items_in, atoms_of, local_of, argument_of, assigned, of_statement, repeated, in_bodies}

-- the locals that an item reads or sets again
abbrev pub locals_used : Item → List (At ℕ)
locals_used item = flat_map local_of (atoms_of item) ++ of_statement assigned item

-- what isn't among some numbers
abbrev pub unless_among : List ℕ → At ℕ → List ℕ
unless_among numbers x = if list_any (λ number. number == x.value) numbers then [] else x.at ∷ []

abbrev pub used_locals : Scoped → List ℕ
used_locals s = flat_map (unless_among (map (λ d. Declared.number d) s.known)) (locals_used s.item)

abbrev pub used_arguments : RawBody → Scoped → List ℕ
used_arguments b s =
    flat_map (unless_among (map (λ argument. At.value (RawArgument.number argument)) b.arguments))
    (flat_map argument_of (atoms_of s.item))

-- the local that a statement declares
abbrev pub declared : RawSimple → List (At ℕ)
declared (constant ty i side) = i ∷ []
declared (join ty i) = i ∷ []
declared (head ty i first) = i ∷ []
declared _ = []

abbrev pub locals_in_body : RawModule → RawBody → List ℕ
locals_in_body m b =
    flat_map used_locals (items_of b) ++ flat_map (used_arguments b) (items_of b)
    ++ repeated (flat_map (of_statement declared) (items_in b.block))
    ++ repeated (map (λ argument. RawArgument.number argument) b.arguments)

abbrev pub locals_declared : RawFile → List ℕ
locals_declared = in_bodies locals_in_body
