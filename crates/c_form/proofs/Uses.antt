-- Uses of locals and arguments, part by part.
use Rattle.std.proofs.Common.{◌≡◌, ℕ, List, [], ◌∷◌, ◌++◌, refl, ap, sym, ◌∙◌, ◌<◌, ◌≤◌, ◌-◌, zero, suc, length, get_or, drop, drop-cons, arith}
use Rattle.std.specs.Prelude.{map, ◌==◌, ◌||◌, if◌then◌else◌, Option, Some}
use Rattle.std.specs.Option.{is_some}
use Rattle.std.specs.List.{flat_map, list_any}
use Rattle.std.proofs.lemmas.List.{append-nil}
use Rattle.std.proofs.lemmas.Grind.{flat_map-append}
use Rattle.alg_laws.specs.declared.number.Ty.{Ty}
use Rattle.c_tree.specs.declared.body.CAtom.{CAtom}
use Rattle.c_tree.specs.Raw.{At, RawSimple, RawArgument}
use Rattle.c_tree.specs.rules.Bodies.{Declared, of_simple, of_test, of_value, RawBody, atoms_of_simple, assigned, local_of, argument_of}
use Rattle.c_tree.specs.rules.Locals.{unless_among, used_locals}
use Rattle.c_tree.specs.rules.Types.{type_of_local, type_of_argument}
use Rattle.c_raw.specs.Views.{argument_view}
use Rattle.c_raw.specs.declared.file.RawArgument.{RawArgument as TokenArgument}
use Rattle.c_form.specs.Uses.{numbers_of, local_used, value_used, argument_values, argument_used, arguments_of_item}
use Rattle.c_form.proofs.Flat.{flat-flat}
use Rattle.c_form.proofs.Seen.{seen-more}

-- a local is among those that are known where it has a type
pub known-among : (i : ℕ) (known : List Declared) → list_any (λ number. number == i) (numbers_of known) ≡ is_some (type_of_local i known)
known-among i [] = refl
known-among i (d ∷ known) =
    ap (λ b. (d.number == i) || b) (known-among i known) ∙ sym (seen-more (d.number == i) d.ty (type_of_local i known))

pub simple-uses : (known : List Declared) (s : RawSimple) (atoms : List (At CAtom)) → atoms ≡ atoms_of_simple s
    → flat_map (local_used known) atoms ++ flat_map (unless_among (numbers_of known)) (assigned s)
    ≡ used_locals (record { known = known; item = of_simple s })
simple-uses known s atoms e =
    let blame : At ℕ → List ℕ = unless_among (numbers_of known) in
    ap (λ l. flat_map (local_used known) l ++ flat_map blame (assigned s)) e
    ∙ ap (λ l. l ++ flat_map blame (assigned s)) (sym (flat-flat blame local_of (atoms_of_simple s)))
    ∙ sym (flat_map-append blame (flat_map local_of (atoms_of_simple s)) (assigned s))

pub test-uses : (known : List Declared) (a : At CAtom) → local_used known a ≡ used_locals (record { known = known; item = of_test a })
test-uses known a =
    let blame : At ℕ → List ℕ = unless_among (numbers_of known) in
    sym (ap (flat_map blame) (append-nil (local_of a ++ []) ∙ append-nil (local_of a)))

pub value-uses : (known : List Declared) (ty : Ty) (a : At CAtom) → local_used known a ++ [] ≡ value_used known (of_value ty a ∷ [])
value-uses known ty a = ap (λ l. l ++ []) (test-uses known a)

pub arguments-among : (i : ℕ) (list : List RawArgument) → list_any (λ number. number == i) (argument_values list) ≡ is_some (type_of_argument i list)
arguments-among i [] = refl
arguments-among i (a ∷ list) =
    ap (λ b. (a.number.value == i) || b) (arguments-among i list) ∙ sym (seen-more (a.number.value == i) a.ty (type_of_argument i list))

pub simple-arguments : (b : RawBody) (s : RawSimple) (atoms : List (At CAtom)) → atoms ≡ atoms_of_simple s
    → flat_map (argument_used b.arguments) atoms ≡ arguments_of_item b (of_simple s)
simple-arguments b s atoms e =
    let blame : At ℕ → List ℕ = unless_among (argument_values b.arguments) in
    ap (flat_map (argument_used b.arguments)) e ∙ sym (flat-flat blame argument_of (atoms_of_simple s))

pub test-arguments : (b : RawBody) (a : At CAtom) → argument_used b.arguments a ≡ arguments_of_item b (of_test a)
test-arguments b a =
    let blame : At ℕ → List ℕ = unless_among (argument_values b.arguments) in
    sym (ap (flat_map blame) (append-nil (argument_of a)))

-- an argument that is entered before those behind it
pub entered : (list : List TokenArgument) (place : ℕ) (d : TokenArgument) (i : ℕ) (before : Option Ty) → 0 < place → place ≤ length list
    → before ≡ type_of_argument i (map argument_view (drop place list))
    → (if (RawArgument.number (argument_view (get_or list (place - 1) d))).value == i then Some (RawArgument.ty (argument_view (get_or list (place - 1) d))) else before)
    ≡ type_of_argument i (map argument_view (drop (place - 1) list))
entered list zero d i before h k e = let no : ⊥ = omega (arith, h) in absurd no
entered list (suc place) d i before h k e =
    let lower : suc place - 1 ≡ place = omega arith in
    let front : drop place list ≡ get_or list place d ∷ drop (suc place) list = drop-cons list place d (omega (arith, k)) in
    rw (lower, front, e) refl
