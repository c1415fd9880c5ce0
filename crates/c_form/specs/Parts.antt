-- What the rules blame in parts of a body: its atoms, its statements without blocks, and its items.
use Rattle.std.specs.Prelude.{ℕ, ◌+◌, Bool, true, false, List, [], ◌++◌, length, Option, Some, None}
use Rattle.std.specs.List.{flat_map}
use Rattle.c_tree.specs.declared.body.CAtom.{CAtom}
use Rattle.c_tree.specs.Raw.{At, node_at, RawRight, RawSimple, RawAccess, RawModule}
use Rattle.c_tree.specs.rules.Bodies.{Item, of_simple, Scoped, RawBody, unknown_of, set_flags}
use Rattle.c_tree.specs.rules.Types.{Signature, item_calls, right_calls}
use Rattle.c_tree.specs.rules.Tables.{below, reported_id, item_numbers}

-- an item, with no local known
abbrev pub alone : Item → Scoped
alone item = record { known = []; item = item }

-- an unknown's number, where an atom is one
abbrev pub unknown_number : RawModule → At CAtom → List ℕ
unknown_number m a = flat_map (λ x. below (length m.nodes) (At.value x) (node_at x)) (unknown_of a)

-- the number of a collapse flag, and the id of a report
abbrev pub simple_numbers : RawModule → RawSimple → List ℕ
simple_numbers m s =
    flat_map (λ pair. below (length m.collapse) (At.value pair) (At.at pair + 4)) (set_flags s) ++ reported_id (length m.params) s

abbrev pub numbers_of_item : RawModule → Item → List ℕ
numbers_of_item m item = item_numbers m (alone item)

-- the id of an access row
abbrev pub access_number : RawModule → RawAccess → List ℕ
access_number m row = below (length m.params) (At.value (RawAccess.id row)) (At.at (RawAccess.id row))

-- whether what is called is there and fits
abbrev pub is_there : Option Signature → Bool
is_there None = false
is_there (Some s) = true

-- a call of what isn't there or doesn't fit: in a right side at a token, in a statement, and in an item
abbrev pub calls_in_right : RawModule → RawBody → ℕ → RawRight → List ℕ
calls_in_right m b at side = right_calls m b (record { at = at; value = side })

abbrev pub calls_of_simple : RawModule → RawBody → RawSimple → List ℕ
calls_of_simple m b s = item_calls m b (alone (of_simple s))

abbrev pub calls_of_item : RawModule → RawBody → Item → List ℕ
calls_of_item m b item = item_calls m b (alone item)
