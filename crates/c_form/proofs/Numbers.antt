-- The numbers of an item, part by part.
use Rattle.std.proofs.Common.{◌≡◌, ℕ, ◌+◌, List, ◌++◌, length, ap, sym, ◌∙◌, append_assoc}
use Rattle.std.specs.List.{flat_map}
use Rattle.c_tree.specs.declared.body.CAtom.{CAtom}
use Rattle.c_tree.specs.Raw.{At, node_at, RawSimple, RawModule}
use Rattle.c_tree.specs.rules.Bodies.{of_simple, atoms_of_simple, unknown_of, set_flags}
use Rattle.c_tree.specs.rules.Tables.{below, reported_id}
use Rattle.c_form.specs.Parts.{unknown_number, simple_numbers, numbers_of_item}
use Rattle.c_form.proofs.Flat.{flat-flat}

pub simple-parts : (m : RawModule) (s : RawSimple) (atoms : List (At CAtom)) → atoms ≡ atoms_of_simple s
    → flat_map (unknown_number m) atoms ++ simple_numbers m s ≡ numbers_of_item m (of_simple s)
simple-parts m s atoms e =
    let range : At ℕ → List ℕ = λ x. below (length m.nodes) (At.value x) (node_at x) in
    let pair : At ℕ → List ℕ = λ p. below (length m.collapse) (At.value p) (At.at p + 4) in
    ap (λ l. flat_map (unknown_number m) l ++ simple_numbers m s) e
    ∙ ap (λ t. t ++ simple_numbers m s) (sym (flat-flat range unknown_of (atoms_of_simple s)))
    ∙ sym (append_assoc (flat_map range (flat_map unknown_of (atoms_of_simple s))) (flat_map pair (set_flags s)) (reported_id (length m.params) s))
