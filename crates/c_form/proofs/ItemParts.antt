-- What rules that look at the items of a body find, told by their definitions.
use Rattle.std.proofs.Common.{◌≡◌, ℕ, List, [], ◌∷◌, ◌++◌, length, refl, ap, sym, ◌∙◌}
use Rattle.std.specs.List.{flat_map}
use Rattle.std.proofs.lemmas.List.{append-nil}
use Rattle.c_tree.specs.declared.body.CAtom.{CAtom}
use Rattle.c_tree.specs.Raw.{At, node_at, RawSimple, RawModule}
use Rattle.c_tree.specs.rules.Bodies.{Item, of_simple, of_test, of_value, Scoped, RawBody, items_of, atoms_of_simple, set_cells, unknown_of}
use Rattle.c_tree.specs.rules.Fields.{body_cells, cell_missing}
use Rattle.c_tree.specs.rules.Locals.{used_arguments}
use Rattle.c_tree.specs.rules.Tables.{below, body_numbers, item_numbers}
use Rattle.c_tree.specs.rules.Types.{item_calls}
use Rattle.c_form.specs.CellUses.{atom_missing, item_missing}
use Rattle.c_form.specs.Items.{in_item, in_items}
use Rattle.c_form.specs.Parts.{calls_of_item, calls_of_simple, numbers_of_item, simple_numbers, unknown_number}
use Rattle.c_form.specs.Uses.{argument_used, arguments_of_item}
use Rattle.c_form.proofs.Celling.{body-cells, simple-cells, test-cells}
use Rattle.c_form.proofs.Numbers.{simple-parts}
use Rattle.c_form.proofs.Uses.{simple-arguments, test-arguments}

-- the same found in each element
each-same : {A : Type 0} (f g : A → List ℕ) → ((x : A) → f x ≡ g x) → (xs : List A) → flat_map f xs ≡ flat_map g xs
each-same f g same [] = refl
each-same f g same (x ∷ xs) = ap (λ l. l ++ flat_map f xs) (same x) ∙ ap (λ l. g x ++ l) (each-same f g same xs)

nothing-in : (xs : List (At CAtom)) → flat_map (λ a. (let l : List ℕ = [] in l)) xs ≡ []
nothing-in [] = refl
nothing-in (a ∷ xs) = nothing-in xs

arguments-in : (b : RawBody) (item : Item) → in_item (argument_used b.arguments) (λ s. []) item ≡ arguments_of_item b item
arguments-in b (of_simple s) = append-nil (flat_map (argument_used b.arguments) (atoms_of_simple s)) ∙ simple-arguments b s (atoms_of_simple s) refl
arguments-in b (of_test a) = test-arguments b a
arguments-in b (of_value ty a) = test-arguments b a

pub arguments-body : (b : RawBody) → in_items (argument_used b.arguments) (λ s. []) b ≡ flat_map (used_arguments b) (items_of b)
arguments-body b =
    each-same (λ s. in_item (argument_used b.arguments) (λ t. []) (Scoped.item s)) (used_arguments b) (λ s. arguments-in b (Scoped.item s)) (items_of b)

-- the cells that an item reads, and the one that it sets
abbrev pub set_missing : RawModule → RawSimple → List ℕ
set_missing m s = flat_map (cell_missing m) (set_cells s)

cells-in : (m : RawModule) (item : Item) → in_item (atom_missing m) (set_missing m) item ≡ item_missing m item
cells-in m (of_simple s) = simple-cells m s (atoms_of_simple s) refl
cells-in m (of_test a) = test-cells m a
cells-in m (of_value ty a) = test-cells m a

pub cells-body : (m : RawModule) (b : RawBody) → in_items (atom_missing m) (set_missing m) b ≡ flat_map (cell_missing m) (body_cells b)
cells-body m b =
    each-same (λ s. in_item (atom_missing m) (set_missing m) (Scoped.item s)) (λ s. item_missing m (Scoped.item s)) (λ s. cells-in m (Scoped.item s)) (items_of b)
    ∙ sym (body-cells m b)

-- an atom that stands alone
numbers-alone : (m : RawModule) (a : At CAtom) → unknown_number m a ≡ numbers_of_item m (of_test a)
numbers-alone m a =
    let range : At ℕ → List ℕ = λ x. below (length m.nodes) (At.value x) (node_at x) in
    let all : List ℕ = flat_map range (unknown_of a ++ []) in
    sym (append-nil (all ++ []) ∙ append-nil all ∙ ap (flat_map range) (append-nil (unknown_of a)))

numbers-in : (m : RawModule) (item : Item) → in_item (unknown_number m) (simple_numbers m) item ≡ numbers_of_item m item
numbers-in m (of_simple s) = simple-parts m s (atoms_of_simple s) refl
numbers-in m (of_test a) = numbers-alone m a
numbers-in m (of_value ty a) = numbers-alone m a

pub numbers-body : (m : RawModule) (b : RawBody) → in_items (unknown_number m) (simple_numbers m) b ≡ body_numbers m b
numbers-body m b =
    each-same (λ s. in_item (unknown_number m) (simple_numbers m) (Scoped.item s)) (item_numbers m) (λ s. numbers-in m (Scoped.item s)) (items_of b)

calls-in : (m : RawModule) (b : RawBody) (item : Item) → in_item (λ a. []) (calls_of_simple m b) item ≡ calls_of_item m b item
calls-in m b (of_simple s) = ap (λ l. l ++ calls_of_simple m b s) (nothing-in (atoms_of_simple s))
calls-in m b (of_test a) = refl
calls-in m b (of_value ty a) = refl

pub calls-body : (m : RawModule) (b : RawBody) → in_items (λ a. []) (calls_of_simple m b) b ≡ flat_map (item_calls m b) (items_of b)
calls-body m b =
    each-same (λ s. in_item (λ a. []) (calls_of_simple m b) (Scoped.item s)) (item_calls m b) (λ s. calls-in m b (Scoped.item s)) (items_of b)
