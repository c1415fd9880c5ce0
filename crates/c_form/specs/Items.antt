-- What rules blame that look at the atoms and the statements of a body alone.
use Rattle.std.specs.Prelude.{ℕ, List, ◌++◌}
use Rattle.std.specs.List.{flat_map}
use Rattle.c_tree.specs.declared.body.CAtom.{CAtom}
use Rattle.c_tree.specs.Raw.{At, RawSimple}
use Rattle.c_tree.specs.rules.Bodies.{Item, of_simple, of_test, of_value, Scoped, RawBody, items_of, atoms_of_simple}

-- in an item: in each atom that it reads, and, beside its atoms, in a statement
abbrev pub in_item : (At CAtom → List ℕ) → (RawSimple → List ℕ) → Item → List ℕ
in_item in_atom in_simple (of_simple s) = flat_map in_atom (atoms_of_simple s) ++ in_simple s
in_item in_atom in_simple (of_test a) = in_atom a
in_item in_atom in_simple (of_value ty a) = in_atom a

-- in the items of a body
abbrev pub in_items : (At CAtom → List ℕ) → (RawSimple → List ℕ) → RawBody → List ℕ
in_items in_atom in_simple b = flat_map (λ s. in_item in_atom in_simple (Scoped.item s)) (items_of b)
