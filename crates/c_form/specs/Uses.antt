-- What uses of locals and arguments are blamed, part by part.
use Rattle.std.specs.Prelude.{◌≡◌, ℕ, List, [], ◌∷◌, map, Option, Some, None}
use Rattle.std.specs.List.{flat_map}
use Rattle.c_tree.specs.declared.body.CAtom.{CAtom}
use Rattle.c_tree.specs.Raw.{At, RawArgument}
use Rattle.c_tree.specs.rules.Bodies.{Declared, Item, Scoped, RawBody, local_of, argument_of}
use Rattle.c_tree.specs.rules.Types.{type_of_argument}
use Rattle.alg_laws.specs.declared.number.Ty.{Ty}
use Rattle.c_tree.specs.rules.Locals.{unless_among, used_locals, used_arguments}
use Rattle.c_raw.specs.Blocks.{at_view}
use Rattle.c_raw.specs.declared.token.At.{At as TokenAt}
use Rattle.c_form.specs.Parts.{alone}

-- the numbers of locals, and of arguments
abbrev pub numbers_of : List Declared → List ℕ
numbers_of known = map (λ d. Declared.number d) known

abbrev pub argument_values : List RawArgument → List ℕ
argument_values arguments = map (λ argument. At.value (RawArgument.number argument)) arguments

-- an atom that is a local, and one that is an argument
abbrev pub local_used : List Declared → At CAtom → List ℕ
local_used known a = flat_map (unless_among (numbers_of known)) (local_of a)

abbrev pub argument_used : List RawArgument → At CAtom → List ℕ
argument_used arguments a = flat_map (unless_among (argument_values arguments)) (argument_of a)

-- items where the same locals are known
abbrev pub value_used : List Declared → List Item → List ℕ
value_used known items = flat_map used_locals (map (λ item. (let s : Scoped = record { known = known; item = item } in s)) items)

abbrev pub arguments_of_item : RawBody → Item → List ℕ
arguments_of_item b item = used_arguments b (alone item)

-- a number that may be there, as a list
abbrev pub listed : Option (TokenAt ℕ) → List (At ℕ)
listed None = []
listed (Some x) = at_view x ∷ []

-- a map has the types of a body's arguments
abbrev pub HasArguments : (ℕ → Option Ty) → RawBody → Type 0
HasArguments types b = (i : ℕ) → types i ≡ type_of_argument i b.arguments
