-- Uses of cells, part by part.
use Rattle.std.proofs.Common.{◌≡◌, ℕ, List, [], ◌∷◌, ◌++◌, refl, ap, sym, ◌∙◌}
use Rattle.std.specs.Prelude.{Bool, Option, Some, None, if◌then◌else◌}
use Rattle.std.specs.Option.{is_some}
use Rattle.std.specs.List.{flat_map}
use Rattle.std.proofs.lemmas.List.{append-nil}
use Rattle.std.proofs.lemmas.Grind.{flat_map-append}
use Rattle.alg_laws.specs.declared.number.Ty.{Ty}
use Rattle.c_tree.specs.declared.body.CAtom.{CAtom}
use Rattle.c_tree.specs.declared.body.CCell.{CCell}
use Rattle.c_tree.specs.Raw.{At, word_at, RawLoad, RawSimple, RawModule}
use Rattle.c_tree.specs.rules.Bodies.{of_simple, of_test, RawBody, Scoped, items_of, atoms_of_simple, cell_of, set_cells}
use Rattle.c_tree.specs.rules.Fields.{body_cells, cell_missing, cells_in, instance_type, load_cells, loaded_field, missing, unlike}
use Rattle.c_form.specs.CellUses.{atom_missing, factor_missing, item_missing}
use Rattle.c_form.specs.FieldTypes.{has_type}
use Rattle.c_form.proofs.Flat.{flat-flat}

pub missing-is : (b : Bool) (found : Option Ty) (at : ℕ) → b ≡ is_some found → (if b then [] else at ∷ []) ≡ missing found at
missing-is b found at e = ap (λ t. if t then [] else at ∷ []) e ∙ by_found found
  where
    by_found : (found : Option Ty) → (if is_some found then [] else at ∷ []) ≡ missing found at
    by_found None = refl
    by_found (Some ty) = refl

pub simple-cells : (m : RawModule) (s : RawSimple) (atoms : List (At CAtom)) → atoms ≡ atoms_of_simple s
    → flat_map (atom_missing m) atoms ++ flat_map (cell_missing m) (set_cells s) ≡ item_missing m (of_simple s)
simple-cells m s atoms e =
    let blame : At CCell → List ℕ = cell_missing m in
    ap (λ l. flat_map (atom_missing m) l ++ flat_map blame (set_cells s)) e
    ∙ ap (λ l. l ++ flat_map blame (set_cells s)) (sym (flat-flat blame cell_of (atoms_of_simple s)))
    ∙ sym (flat_map-append blame (flat_map cell_of (atoms_of_simple s)) (set_cells s))

pub test-cells : (m : RawModule) (a : At CAtom) → atom_missing m a ≡ item_missing m (of_test a)
test-cells m a = sym (ap (flat_map (cell_missing m)) (append-nil (cell_of a ++ []) ∙ append-nil (cell_of a)))

pub body-cells : (m : RawModule) (b : RawBody) → flat_map (cell_missing m) (body_cells b) ≡ flat_map (λ s. item_missing m (Scoped.item s)) (items_of b)
body-cells m b = flat-flat (cell_missing m) cells_in (items_of b)

pub unlike-is : (b : Bool) (wanted : Ty) (found : Option Ty) (at : ℕ) → b ≡ has_type wanted found → (if b then [] else at ∷ []) ≡ unlike wanted found at
unlike-is b wanted None at e = ap (λ t. if t then [] else at ∷ []) e
unlike-is b wanted (Some ty) at e = ap (λ t. if t then [] else at ∷ []) e

pub load-cells : (m : RawModule) (load : RawLoad) → factor_missing m load.first ++ flat_map (factor_missing m) load.more ≡ load_cells m load
load-cells m load = sym (flat-flat (λ field. missing (instance_type m (At.value field)) (word_at field)) loaded_field (load.first ∷ load.more))
