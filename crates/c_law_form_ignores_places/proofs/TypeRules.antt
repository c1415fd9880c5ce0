-- The rules on types and calls blame as much in a raw tree without places.
use Rattle.std.specs.Prelude.{◌≡◌, ℕ, zero, suc, ◌==◌, Bool, true, false, if◌then◌else◌, nat_lt, List, [], ◌∷◌, ◌++◌, length, map, slice_get, Option, Some, None}
use Rattle.std.specs.List.{flat_map}
use Rattle.std.proofs.Common.{refl, ap, sym, ◌∙◌}
use Rattle.std.proofs.lemmas.List.{length-map}
use Rattle.alg_laws.specs.declared.number.Ty.{Ty}
use Rattle.alg_laws.specs.declared.number.Ty.TheVariants.{Integer, Real}
use Rattle.c_tree.specs.declared.body.CAtom.{CAtom}
use Rattle.c_tree.specs.declared.body.CAtom.TheVariants as atom
use Rattle.c_tree.specs.declared.body.CCallee.{CCallee}
use Rattle.c_tree.specs.declared.body.CCallee.TheVariants as callee
use Rattle.c_tree.specs.SameType.{same_type}
use Rattle.c_tree.specs.Raw.{At, RawRight, same, negated, contrary, to_real, to_integer, call, binary, RawSimple, constant, join, head, assign, set_cell, set_flag, report, RawArgument, RawFunction, RawModule, RawFile}
use Rattle.c_tree.specs.RawOf.{at_0}
use Rattle.c_tree.specs.rules.Bodies.{Declared, Item, of_simple, of_test, of_value, Scoped, RawBody, items_of}
use Rattle.c_tree.specs.rules.Types.{type_of_local, type_of_argument, function_before, function_called, Signature, signature_of, signature, fitting, differs, or_else, is_remainder, type_of_atom, wanted, wanted_by, arguments_differ, call_differs, operands_differ, operand_differs, result_of, joint, type_of_right, right_differs, simple_differs, item_differs, not_fitting, right_calls, item_calls, types_agree, calls_fit}
use Rattle.c_tree.specs.rules.Fields.{cell_type}
use Rattle.c_law_form_ignores_places.specs.Forget.{forget_at, forget_right, forget_simple, forget_argument, forget_function, forget_module, forget}
use Rattle.c_law_form_ignores_places.proofs.Alike.{Alike, both, flat_alike, one_alike, map_map}
use Rattle.c_law_form_ignores_places.proofs.FieldRules.{cell_same}
use Rattle.c_law_form_ignores_places.proofs.Trees.{forget_item, forget_scoped, forget_body, items_same, bodies_alike}

argument_same : (i : ℕ) (args : List RawArgument) → type_of_argument i (map forget_argument args) ≡ type_of_argument i args
argument_same i [] = refl
argument_same i (a ∷ rest) = ap (λ t. if a.number.value == i then Some a.ty else t) (argument_same i rest)

-- a function that is found has the same signature
function_same : (f : RawFunction) → signature_of (Some (forget_function f)) ≡ signature_of (Some f)
function_same f =
    ap (λ tys. (let s : Signature = record { arguments = tys; result = f.result } in Some s))
    (map_map (λ a. RawArgument.ty a) forget_argument f.arguments)

found_same : (functions : List RawFunction) (j : ℕ) → signature_of (slice_get (map forget_function functions) j) ≡ signature_of (slice_get functions j)
found_same [] j = refl
found_same (f ∷ rest) zero = function_same f
found_same (f ∷ rest) (suc j) = found_same rest j

where_same : (test : Bool) (functions : List RawFunction) (j : ℕ)
    → signature_of (if test then slice_get (map forget_function functions) j else None)
    ≡ signature_of (if test then slice_get functions j else None)
where_same true functions j = found_same functions j
where_same false functions j = refl

called_same : (m : RawModule) (b : RawBody) (j : ℕ)
    → signature_of (function_called (forget_module m) (forget_body b) j) ≡ signature_of (function_called m b j)
called_same m b j =
    ap (λ n. signature_of (if nat_lt j (function_before b.kind n) then slice_get (map forget_function m.functions) j else None))
    (length-map m.functions forget_function)
    ∙ where_same (nat_lt j (function_before b.kind (length m.functions))) m.functions j

signature_same : (m : RawModule) (b : RawBody) (f : CCallee) → signature (forget_module m) (forget_body b) f ≡ signature m b f
signature_same m b (callee.Fun1 f) = refl
signature_same m b (callee.Fun2 f) = refl
signature_same m b (callee.Function j) = called_same m b j

fitting_same : (m : RawModule) (b : RawBody) (f : CCallee) (args : List (At CAtom))
    → fitting (signature (forget_module m) (forget_body b) f) (length (map forget_at args)) ≡ fitting (signature m b f) (length args)
fitting_same m b f args = λ i. fitting (signature_same m b f i) (length-map args forget_at i)

differs_at : (found : Option Ty) (ty : Ty) (a b : ℕ) → Alike (differs found ty a) (differs found ty b)
differs_at None ty a b = refl
differs_at (Some found) ty a b = one_alike (same_type found ty) a b

-- what is found is the same
differs_alike : (found later : Option Ty) (ty : Ty) (a b : ℕ) → later ≡ found → Alike (differs found ty a) (differs later ty b)
differs_alike found later ty a b e = differs_at found ty a b ∙ ap (λ t. length (differs t ty b)) (sym e)

or_else_alike : (xs ys us vs : List ℕ) → Alike xs ys → Alike us vs → Alike (or_else xs us) (or_else ys vs)
or_else_alike [] [] us vs h k = k
or_else_alike [] (y ∷ ys) us vs h k = cc (h)
or_else_alike (x ∷ xs) [] us vs h k = cc (h)
or_else_alike (x ∷ xs) (y ∷ ys) us vs h k = h

module _ (m : RawModule) (b : RawBody) (known : List Declared) where
  atom_same : (a : CAtom) → type_of_atom (forget_module m) (forget_body b) known a ≡ type_of_atom m b known a
  atom_same (atom.Local i) = refl
  atom_same (atom.Argument i) = argument_same i b.arguments
  atom_same (atom.Integer i) = refl
  atom_same (atom.Real d) = refl
  atom_same (atom.Cell cell) = cell_same m cell
  atom_same (atom.Unknown i) = refl

  wanted_alike : (ty : Ty) (a : At CAtom) → Alike (wanted m b known ty a) (wanted (forget_module m) (forget_body b) known ty (forget_at a))
  wanted_alike ty a =
      differs_alike (type_of_atom m b known a.value) (type_of_atom (forget_module m) (forget_body b) known a.value) ty a.at 0 (atom_same a.value)

  wanted_by_at : (found : Option Ty) (a : At CAtom)
      → Alike (wanted_by m b known found a) (wanted_by (forget_module m) (forget_body b) known found (forget_at a))
  wanted_by_at None a = refl
  wanted_by_at (Some ty) a = wanted_alike ty a

  wanted_by_alike : (found later : Option Ty) (a : At CAtom) → later ≡ found
      → Alike (wanted_by m b known found a) (wanted_by (forget_module m) (forget_body b) known later (forget_at a))
  wanted_by_alike found later a e =
      wanted_by_at found a ∙ ap (λ t. length (wanted_by (forget_module m) (forget_body b) known t (forget_at a))) (sym e)

  arguments_alike : (types : List Ty) (args : List (At CAtom))
      → Alike (arguments_differ m b known types args) (arguments_differ (forget_module m) (forget_body b) known types (map forget_at args))
  arguments_alike [] args = refl
  arguments_alike (ty ∷ types) [] = refl
  arguments_alike (ty ∷ types) (a ∷ args) =
      both (wanted m b known ty a) (wanted (forget_module m) (forget_body b) known ty (forget_at a)) (arguments_differ m b known types args)
      (arguments_differ (forget_module m) (forget_body b) known types (map forget_at args)) (wanted_alike ty a) (arguments_alike types args)

  call_at : (s : Option Signature) (args : List (At CAtom))
      → Alike (call_differs m b known s args) (call_differs (forget_module m) (forget_body b) known s (map forget_at args))
  call_at None args = refl
  call_at (Some s) args = arguments_alike s.arguments args

  chosen_alike : (test : Bool) (a c : At CAtom)
      → Alike (if test then wanted m b known Integer a ++ wanted m b known Integer c else wanted_by m b known (type_of_atom m b known a.value) c)
      (if test then wanted (forget_module m) (forget_body b) known Integer (forget_at a)
      ++ wanted (forget_module m) (forget_body b) known Integer (forget_at c)
      else wanted_by (forget_module m) (forget_body b) known (type_of_atom (forget_module m) (forget_body b) known a.value) (forget_at c))
  chosen_alike true a c =
      both (wanted m b known Integer a) (wanted (forget_module m) (forget_body b) known Integer (forget_at a)) (wanted m b known Integer c)
      (wanted (forget_module m) (forget_body b) known Integer (forget_at c)) (wanted_alike Integer a) (wanted_alike Integer c)
  chosen_alike false a c =
      wanted_by_alike (type_of_atom m b known a.value) (type_of_atom (forget_module m) (forget_body b) known a.value) c (atom_same a.value)

  operands_alike : (r : RawRight)
      → Alike (operands_differ m b known r) (operands_differ (forget_module m) (forget_body b) known (forget_right r))
  operands_alike (same a) = refl
  operands_alike (negated a) = refl
  operands_alike (contrary a) = refl
  operands_alike (to_real a) = refl
  operands_alike (to_integer a) = refl
  operands_alike (call f args) = refl
  operands_alike (binary a op c) = chosen_alike (is_remainder op) a c

  operand_alike : (r : RawRight) → Alike (operand_differs m b known r) (operand_differs (forget_module m) (forget_body b) known (forget_right r))
  operand_alike (same a) = refl
  operand_alike (negated a) = refl
  operand_alike (contrary a) = wanted_alike Integer a
  operand_alike (to_real a) = wanted_alike Integer a
  operand_alike (to_integer a) = wanted_alike Real a
  operand_alike (call f args) =
      call_at (fitting (signature m b f) (length args)) args
      ∙ ap (λ s. length (call_differs (forget_module m) (forget_body b) known s (map forget_at args))) (sym (fitting_same m b f args))
  operand_alike (binary a op c) = refl

  right_same : (r : RawRight) → type_of_right (forget_module m) (forget_body b) known (forget_right r) ≡ type_of_right m b known r
  right_same (same a) = atom_same a.value
  right_same (negated a) = atom_same a.value
  right_same (contrary a) = refl
  right_same (to_real a) = refl
  right_same (to_integer a) = refl
  right_same (call f args) = λ i. result_of m b known (fitting_same m b f args i)
  right_same (binary a op c) = λ i. joint m b known op (atom_same a.value i) (atom_same c.value i)

  right_alike : (ty : Ty) (side : At RawRight)
      → Alike (right_differs m b known ty side) (right_differs (forget_module m) (forget_body b) known ty (at_0 (forget_right side.value)))
  right_alike ty side =
      let gone = forget_right side.value in
      both (operand_differs m b known side.value) (operand_differs (forget_module m) (forget_body b) known gone)
      (or_else (operands_differ m b known side.value) (differs (type_of_right m b known side.value) ty side.at))
      (or_else (operands_differ (forget_module m) (forget_body b) known gone)
      (differs (type_of_right (forget_module m) (forget_body b) known gone) ty 0)) (operand_alike side.value)
      (or_else_alike (operands_differ m b known side.value) (operands_differ (forget_module m) (forget_body b) known gone)
      (differs (type_of_right m b known side.value) ty side.at) (differs (type_of_right (forget_module m) (forget_body b) known gone) ty 0)
      (operands_alike side.value)
      (differs_alike (type_of_right m b known side.value) (type_of_right (forget_module m) (forget_body b) known gone) ty side.at 0
      (right_same side.value)))

  simple_alike : (s : RawSimple) → Alike (simple_differs m b known s) (simple_differs (forget_module m) (forget_body b) known (forget_simple s))
  simple_alike (constant ty i side) = right_alike ty side
  simple_alike (join ty i) = refl
  simple_alike (head ty i first) = wanted_alike ty first
  simple_alike (assign i value) = wanted_by_at (type_of_local i.value known) value
  simple_alike (set_cell cell value) =
      wanted_by_alike (cell_type m cell.value) (cell_type (forget_module m) cell.value) value (cell_same m cell.value)
  simple_alike (set_flag pair value) = wanted_alike Integer value
  simple_alike (report id) = refl

  item_alike : (item : Item) → Alike (item_differs m b known item) (item_differs (forget_module m) (forget_body b) known (forget_item item))
  item_alike (of_simple s) = simple_alike s
  item_alike (of_test a) = wanted_alike Integer a
  item_alike (of_value ty a) = wanted_alike ty a

pub type_rule_alike : (raw : RawFile) → Alike (types_agree raw) (types_agree (forget raw))
type_rule_alike raw =
    bodies_alike (λ m b. flat_map (λ s. item_differs m b (Scoped.known s) (Scoped.item s)) (items_of b)) (λ m b.
    flat_alike (λ s. item_differs (forget_module m) (forget_body b) (Scoped.known s) (Scoped.item s))
    (λ s. item_differs m b (Scoped.known s) (Scoped.item s)) forget_scoped
    (λ s. item_alike m b (Scoped.known s) (Scoped.item s)) (items_of b)
    ∙ ap (λ l. length (flat_map (λ s. item_differs (forget_module m) (forget_body b) (Scoped.known s) (Scoped.item s)) l)) (sym (items_same b))) raw

not_fitting_at : (s : Option Signature) (a b : ℕ) → Alike (not_fitting s a) (not_fitting s b)
not_fitting_at None a b = refl
not_fitting_at (Some s) a b = refl

right_calls_at : (m : RawModule) (b : RawBody) (at : ℕ) (r : RawRight)
    → Alike (right_calls m b (record { at = at; value = r })) (right_calls (forget_module m) (forget_body b) (at_0 (forget_right r)))
right_calls_at m b at (same a) = refl
right_calls_at m b at (negated a) = refl
right_calls_at m b at (contrary a) = refl
right_calls_at m b at (to_real a) = refl
right_calls_at m b at (to_integer a) = refl
right_calls_at m b at (call f args) =
    not_fitting_at (fitting (signature m b f) (length args)) at 0 ∙ ap (λ s. length (not_fitting s 0)) (sym (fitting_same m b f args))
right_calls_at m b at (binary a op c) = refl

calls_of_simple : (m : RawModule) (b : RawBody) (known : List Declared) (s : RawSimple)
    → Alike (item_calls m b (record { known = known; item = of_simple s }))
    (item_calls (forget_module m) (forget_body b) (record { known = known; item = of_simple (forget_simple s) }))
calls_of_simple m b known (constant ty i side) = right_calls_at m b side.at side.value
calls_of_simple m b known (join ty i) = refl
calls_of_simple m b known (head ty i first) = refl
calls_of_simple m b known (assign i value) = refl
calls_of_simple m b known (set_cell cell value) = refl
calls_of_simple m b known (set_flag pair value) = refl
calls_of_simple m b known (report id) = refl

calls_of_item : (m : RawModule) (b : RawBody) (known : List Declared) (item : Item)
    → Alike (item_calls m b (record { known = known; item = item }))
    (item_calls (forget_module m) (forget_body b) (record { known = known; item = forget_item item }))
calls_of_item m b known (of_simple s) = calls_of_simple m b known s
calls_of_item m b known (of_test a) = refl
calls_of_item m b known (of_value ty a) = refl

pub call_rule_alike : (raw : RawFile) → Alike (calls_fit raw) (calls_fit (forget raw))
call_rule_alike raw =
    bodies_alike (λ m b. flat_map (item_calls m b) (items_of b)) (λ m b.
    flat_alike (item_calls (forget_module m) (forget_body b)) (item_calls m b) forget_scoped
    (λ s. calls_of_item m b (Scoped.known s) (Scoped.item s)) (items_of b)
    ∙ ap (λ l. length (flat_map (item_calls (forget_module m) (forget_body b)) l)) (sym (items_same b))) raw
