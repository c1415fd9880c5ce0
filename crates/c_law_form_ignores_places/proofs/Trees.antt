-- The bodies of a raw tree without places, as the rules of form see them.
use Rattle.std.specs.Prelude.{◌≡◌, ℕ, suc, ◌==◌, Bool, true, false, if◌then◌else◌, List, [], ◌∷◌, ◌++◌, length, map}
use Rattle.std.specs.List.{flat_map, enumerate_from}
use Rattle.std.proofs.Common.{refl, ap, sym, ◌∙◌}
use Rattle.std.proofs.lemmas.List.{map-append}
use Rattle.c_tree.specs.declared.body.CAtom.{CAtom}
use Rattle.c_tree.specs.declared.body.CAtom.TheVariants as atom
use Rattle.c_tree.specs.Raw.{At, RawRight, same, negated, contrary, to_real, to_integer, call, binary, RawSimple, constant, join, head, assign, set_cell, set_flag, report, RawBlock, closed, simple, leave, choice, loop, RawModule, RawFile}
use Rattle.c_tree.specs.RawOf.{at_0}
use Rattle.c_tree.specs.rules.Bodies.{Declared, Item, of_simple, of_test, of_value, Scoped, declares, scoped, locals_of, setup_of_model, setup_of_instance, evaluation, RawBody, function_body, plain_body, bodies_of, items_of, items_in, atoms_of_right, atoms_of_simple, atoms_of, local_of, argument_of, cell_of, unknown_of, assigned, set_cells, set_flags, of_statement, tokens_of, repeated, in_modules, in_bodies}
use Rattle.c_law_form_ignores_places.specs.Forget.{forget_at, forget_right, forget_simple, forget_block, forget_argument, forget_function, forget_module, forget}
use Rattle.c_law_form_ignores_places.proofs.Alike.{Alike, both, flat_alike, enumerate_mapped, map_map}

abbrev pub forget_item : Item → Item
forget_item (of_simple s) = of_simple (forget_simple s)
forget_item (of_test a) = of_test (forget_at a)
forget_item (of_value ty a) = of_value ty (forget_at a)

abbrev pub forget_scoped : Scoped → Scoped
forget_scoped s = record { known = s.known; item = forget_item s.item }

abbrev pub forget_body : RawBody → RawBody
forget_body b = record {
  kind = b.kind;
  arguments = map forget_argument b.arguments;
  block = forget_block b.block;
  last = map forget_item b.last;
}

pub three_mapped : {S T : Type 0} (f : S → T) (a b c : List S) → map f (a ++ b ++ c) ≡ map f a ++ map f b ++ map f c
three_mapped f a b c = map-append f (a ++ b) c ∙ ap (λ l. l ++ map f c) (map-append f a b)

pub declares_same : (s : RawSimple) → declares (forget_simple s) ≡ declares s
declares_same (constant ty i side) = refl
declares_same (join ty i) = refl
declares_same (head ty i first) = refl
declares_same (assign i value) = refl
declares_same (set_cell cell value) = refl
declares_same (set_flag pair value) = refl
declares_same (report id) = refl

pub scoped_same : (known : List Declared) (b : RawBlock) → scoped known (forget_block b) ≡ map forget_scoped (scoped known b)
scoped_same known (closed at) = refl
scoped_same known (simple s rest) =
    ap (λ l. forget_scoped (record { known = known; item = of_simple s }) ∷ l)
    (ap (λ d. scoped (d ++ known) (forget_block rest)) (declares_same s) ∙ scoped_same (declares s ++ known) rest)
scoped_same known (leave at a rest) =
    ap (λ l. forget_scoped (record { known = known; item = of_test a }) ∷ l) (scoped_same known rest)
scoped_same known (choice a x y rest) =
    let p = scoped_same known x in
    let q = scoped_same known y in
    let r = scoped_same known rest in
    ap (λ l. forget_scoped (record { known = known; item = of_test a }) ∷ l)
    ((λ i. p i ++ q i ++ r i) ∙ sym (three_mapped forget_scoped (scoped known x) (scoped known y) (scoped known rest)))
scoped_same known (loop x rest) =
    let p = scoped_same known x in
    let r = scoped_same known rest in
    (λ i. p i ++ r i) ∙ sym (map-append forget_scoped (scoped known x) (scoped known rest))

pub locals_same : (b : RawBlock) → locals_of (forget_block b) ≡ locals_of b
locals_same (closed at) = refl
locals_same (simple s rest) = λ i. locals_same rest i ++ declares_same s i
locals_same (leave at a rest) = locals_same rest
locals_same (choice a x y rest) = locals_same rest
locals_same (loop x rest) = locals_same rest

pub items_in_same : (b : RawBlock) → items_in (forget_block b) ≡ map forget_item (items_in b)
items_in_same (closed at) = refl
items_in_same (simple s rest) = ap (λ l. of_simple (forget_simple s) ∷ l) (items_in_same rest)
items_in_same (leave at a rest) = ap (λ l. of_test (forget_at a) ∷ l) (items_in_same rest)
items_in_same (choice a x y rest) =
    let p = items_in_same x in
    let q = items_in_same y in
    let r = items_in_same rest in
    ap (λ l. of_test (forget_at a) ∷ l)
    ((λ i. p i ++ q i ++ r i) ∙ sym (three_mapped forget_item (items_in x) (items_in y) (items_in rest)))
items_in_same (loop x rest) =
    let p = items_in_same x in
    let r = items_in_same rest in
    (λ i. p i ++ r i) ∙ sym (map-append forget_item (items_in x) (items_in rest))

pub bodies_same : (m : RawModule) → bodies_of (forget_module m) ≡ map forget_body (bodies_of m)
bodies_same m =
    let functions = enumerate_from 0 m.functions in
    let others = plain_body setup_of_model m.setup_model ∷ plain_body setup_of_instance m.setup_instance ∷ plain_body evaluation m.eval ∷ [] in
    ap (λ l. map function_body l ++ map forget_body others) (enumerate_mapped forget_function 0 m.functions)
    ∙ ap (λ l. l ++ map forget_body others)
    (map_map function_body (λ p. (p.0, forget_function p.1)) functions ∙ sym (map_map forget_body function_body functions))
    ∙ sym (map-append forget_body (map function_body functions) others)

pub items_same : (b : RawBody) → items_of (forget_body b) ≡ map forget_scoped (items_of b)
items_same b =
    let behind : Item → Scoped = λ item. record { known = locals_of b.block; item = item } in
    let last =
    ap (λ known. map (λ item. (let s : Scoped = record { known = known; item = item } in s)) (map forget_item b.last)) (locals_same b.block)
    ∙ map_map behind forget_item b.last ∙ sym (map_map forget_scoped behind b.last) in
    let first = scoped_same [] b.block in
    (λ i. first i ++ last i) ∙ sym (map-append forget_scoped (scoped [] b.block) (map behind b.last))

pub atoms_of_right_same : (r : RawRight) → atoms_of_right (forget_right r) ≡ map forget_at (atoms_of_right r)
atoms_of_right_same (same a) = refl
atoms_of_right_same (negated a) = refl
atoms_of_right_same (contrary a) = refl
atoms_of_right_same (to_real a) = refl
atoms_of_right_same (to_integer a) = refl
atoms_of_right_same (call f args) = refl
atoms_of_right_same (binary a op b) = refl

pub atoms_of_simple_same : (s : RawSimple) → atoms_of_simple (forget_simple s) ≡ map forget_at (atoms_of_simple s)
atoms_of_simple_same (constant ty i side) = atoms_of_right_same side.value
atoms_of_simple_same (join ty i) = refl
atoms_of_simple_same (head ty i first) = refl
atoms_of_simple_same (assign i value) = refl
atoms_of_simple_same (set_cell cell value) = refl
atoms_of_simple_same (set_flag pair value) = refl
atoms_of_simple_same (report id) = refl

pub atoms_of_same : (item : Item) → atoms_of (forget_item item) ≡ map forget_at (atoms_of item)
atoms_of_same (of_simple s) = atoms_of_simple_same s
atoms_of_same (of_test a) = refl
atoms_of_same (of_value ty a) = refl

local_at : (at : ℕ) (v : CAtom) → local_of (at_0 v) ≡ map forget_at (local_of (record { at = at; value = v }))
local_at at (atom.Local i) = refl
local_at at (atom.Argument i) = refl
local_at at (atom.Integer i) = refl
local_at at (atom.Real d) = refl
local_at at (atom.Cell cell) = refl
local_at at (atom.Unknown i) = refl

pub local_of_same : (a : At CAtom) → local_of (forget_at a) ≡ map forget_at (local_of a)
local_of_same a = local_at a.at a.value

argument_at : (at : ℕ) (v : CAtom) → argument_of (at_0 v) ≡ map forget_at (argument_of (record { at = at; value = v }))
argument_at at (atom.Local i) = refl
argument_at at (atom.Argument i) = refl
argument_at at (atom.Integer i) = refl
argument_at at (atom.Real d) = refl
argument_at at (atom.Cell cell) = refl
argument_at at (atom.Unknown i) = refl

pub argument_of_same : (a : At CAtom) → argument_of (forget_at a) ≡ map forget_at (argument_of a)
argument_of_same a = argument_at a.at a.value

cell_at : (at : ℕ) (v : CAtom) → cell_of (at_0 v) ≡ map forget_at (cell_of (record { at = at; value = v }))
cell_at at (atom.Local i) = refl
cell_at at (atom.Argument i) = refl
cell_at at (atom.Integer i) = refl
cell_at at (atom.Real d) = refl
cell_at at (atom.Cell cell) = refl
cell_at at (atom.Unknown i) = refl

pub cell_of_same : (a : At CAtom) → cell_of (forget_at a) ≡ map forget_at (cell_of a)
cell_of_same a = cell_at a.at a.value

unknown_at : (at : ℕ) (v : CAtom) → unknown_of (at_0 v) ≡ map forget_at (unknown_of (record { at = at; value = v }))
unknown_at at (atom.Local i) = refl
unknown_at at (atom.Argument i) = refl
unknown_at at (atom.Integer i) = refl
unknown_at at (atom.Real d) = refl
unknown_at at (atom.Cell cell) = refl
unknown_at at (atom.Unknown i) = refl

pub unknown_of_same : (a : At CAtom) → unknown_of (forget_at a) ≡ map forget_at (unknown_of a)
unknown_of_same a = unknown_at a.at a.value

pub assigned_same : (s : RawSimple) → assigned (forget_simple s) ≡ map forget_at (assigned s)
assigned_same (constant ty i side) = refl
assigned_same (join ty i) = refl
assigned_same (head ty i first) = refl
assigned_same (assign i value) = refl
assigned_same (set_cell cell value) = refl
assigned_same (set_flag pair value) = refl
assigned_same (report id) = refl

pub set_cells_same : (s : RawSimple) → set_cells (forget_simple s) ≡ map forget_at (set_cells s)
set_cells_same (constant ty i side) = refl
set_cells_same (join ty i) = refl
set_cells_same (head ty i first) = refl
set_cells_same (assign i value) = refl
set_cells_same (set_cell cell value) = refl
set_cells_same (set_flag pair value) = refl
set_cells_same (report id) = refl

pub set_flags_same : (s : RawSimple) → set_flags (forget_simple s) ≡ map forget_at (set_flags s)
set_flags_same (constant ty i side) = refl
set_flags_same (join ty i) = refl
set_flags_same (head ty i first) = refl
set_flags_same (assign i value) = refl
set_flags_same (set_cell cell value) = refl
set_flags_same (set_flag pair value) = refl
set_flags_same (report id) = refl

pub of_statement_same : {T : Type 0} (part : RawSimple → List (At T)) → ((s : RawSimple) → part (forget_simple s) ≡ map forget_at (part s))
    → (item : Item) → of_statement part (forget_item item) ≡ map forget_at (of_statement part item)
of_statement_same part h (of_simple s) = h s
of_statement_same part h (of_test a) = refl
of_statement_same part h (of_value ty a) = refl

pub of_statement_alike : (part : RawSimple → List ℕ) → ((s : RawSimple) → Alike (part s) (part (forget_simple s)))
    → (item : Item) → Alike (of_statement part item) (of_statement part (forget_item item))
of_statement_alike part h (of_simple s) = h s
of_statement_alike part h (of_test a) = refl
of_statement_alike part h (of_value ty a) = refl

-- numbers at other tokens
abbrev pub moved : (ℕ → ℕ) → At ℕ → At ℕ
moved f x = record { at = f x.at; value = x.value }

pub by_test : (test : Bool) (a b : ℕ) (xs ys : List ℕ) → Alike xs ys → Alike (if test then a ∷ xs else xs) (if test then b ∷ ys else ys)
by_test true a b xs ys h = ap (λ n. suc n) h
by_test false a b xs ys h = h

pub tokens_moved : (f : ℕ → ℕ) (i : ℕ) (xs : List (At ℕ)) → Alike (tokens_of i xs) (tokens_of i (map (moved f) xs))
tokens_moved f i [] = refl
tokens_moved f i (x ∷ xs) =
    by_test (x.value == i) x.at (f x.at) (tokens_of i xs) (tokens_of i (map (moved f) xs)) (tokens_moved f i xs)

pub tokens_alike : (i : ℕ) (xs : List (At ℕ)) → Alike (tokens_of i xs) (tokens_of i (map forget_at xs))
tokens_alike i xs = tokens_moved (λ at. 0) i xs

pub repeated_moved : (f : ℕ → ℕ) (xs : List (At ℕ)) → Alike (repeated xs) (repeated (map (moved f) xs))
repeated_moved f [] = refl
repeated_moved f (x ∷ xs) =
    both (tokens_of x.value xs) (tokens_of x.value (map (moved f) xs)) (repeated xs) (repeated (map (moved f) xs))
    (tokens_moved f x.value xs) (repeated_moved f xs)

pub repeated_alike : (xs : List (At ℕ)) → Alike (repeated xs) (repeated (map forget_at xs))
repeated_alike xs = repeated_moved (λ at. 0) xs

pub modules_alike : (rule : ℕ → RawModule → List ℕ) → ((k : ℕ) (m : RawModule) → Alike (rule k m) (rule k (forget_module m)))
    → (raw : RawFile) → Alike (in_modules rule raw) (in_modules rule (forget raw))
modules_alike rule h raw =
    flat_alike (λ p. rule p.0 p.1) (λ p. rule p.0 p.1) (λ p. (p.0, forget_module p.1)) (λ p. h p.0 p.1) (enumerate_from 0 raw.modules)
    ∙ ap (λ l. length (flat_map (λ p. rule p.0 p.1) l)) (sym (enumerate_mapped forget_module 0 raw.modules))

pub bodies_alike : (rule : RawModule → RawBody → List ℕ)
    → ((m : RawModule) (b : RawBody) → Alike (rule m b) (rule (forget_module m) (forget_body b)))
    → (raw : RawFile) → Alike (in_bodies rule raw) (in_bodies rule (forget raw))
bodies_alike rule h raw =
    modules_alike (λ k m. flat_map (rule m) (bodies_of m)) (λ k m.
    flat_alike (rule (forget_module m)) (rule m) forget_body (h m) (bodies_of m)
    ∙ ap (λ l. length (flat_map (rule (forget_module m)) l)) (sym (bodies_same m))) raw
