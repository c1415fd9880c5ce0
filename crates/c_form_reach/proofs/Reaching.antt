-- What a body may not speak of, part by part.
use Rattle.std.proofs.Common.{◌≡◌, ℕ, List, [], ◌∷◌, ◌++◌, refl, ap, sym, ◌∙◌, append_assoc}
use Rattle.std.specs.Prelude.{map, Bool, true, false, if◌then◌else◌}
use Rattle.std.specs.List.{flat_map}
use Rattle.std.proofs.lemmas.List.{append-nil, map-append}
use Rattle.std.proofs.lemmas.Grind.{flat_map-append}
use Rattle.alg_laws.specs.declared.number.Ty.{Ty}
use Rattle.c_tree.specs.declared.body.CAtom.{CAtom}
use Rattle.c_tree.specs.declared.body.CAtom.TheVariants as atom
use Rattle.c_tree.specs.declared.body.CCell.{CCell}
use Rattle.c_tree.specs.declared.body.CField.{CField}
use Rattle.c_tree.specs.Form.{least_of}
use Rattle.c_tree.specs.Raw.{At, word_at, RawSimple}
use Rattle.c_tree.specs.rules.Bodies.{Item, of_simple, of_test, of_value, Scoped, BodyKind, a_function, setup_of_model, setup_of_instance, evaluation, of_statement, atoms_of_simple, cell_of, unknown_of, set_cells, set_flags}
use Rattle.c_tree.specs.rules.Reach.{of_fields, of_instance, is_temperature, out_of_reach, report_tokens, words_of_cells, words_of_flags}
use Rattle.c_form.specs.Parts.{alone}
use Rattle.c_form.proofs.Flat.{flat-flat}
use Rattle.c_form_reach.specs.Reach.{atom_out, function_atom, function_statement, item_out, model_atom, model_statement, simple_out, solution_at, temperature_of}
use Rattle.c_form_reach.proofs.Least.{least_both, least_each, least_middle, least_split}
use Rattle.c_form_reach.proofs.Placing.{cells-append}

-- the fields of cells, one list behind the other
fields-two : (test : CField → Bool) (xs ys : List (At CCell)) → of_fields test (xs ++ ys) ≡ of_fields test xs ++ of_fields test ys
fields-two test [] ys = refl
fields-two test (c ∷ xs) ys = by_test (test c.value.field) (fields-two test xs ys)
  where
    by_test : (b : Bool) → of_fields test (xs ++ ys) ≡ of_fields test xs ++ of_fields test ys
        → (if b then word_at c ∷ of_fields test (xs ++ ys) else of_fields test (xs ++ ys))
        ≡ (if b then word_at c ∷ of_fields test xs else of_fields test xs) ++ of_fields test ys
    by_test true more = ap (λ l. word_at c ∷ l) more
    by_test false more = more

pub temperatures-in : (items : List Item)
    → flat_map (of_statement temperature_of) items ≡ of_fields is_temperature (flat_map (of_statement set_cells) items)
temperatures-in [] = refl
temperatures-in (of_simple s ∷ items) =
    ap (λ l. temperature_of s ++ l) (temperatures-in items)
    ∙ sym (fields-two is_temperature (set_cells s) (flat_map (of_statement set_cells) items))
temperatures-in (of_test a ∷ items) = temperatures-in items
temperatures-in (of_value ty a ∷ items) = temperatures-in items

-- words and tokens in the lists that some elements give
words-flat : (xs : List (At CAtom)) → flat_map (λ a. words_of_cells (cell_of a)) xs ≡ words_of_cells (flat_map cell_of xs)
words-flat [] = refl
words-flat (a ∷ xs) = ap (λ l. words_of_cells (cell_of a) ++ l) (words-flat xs) ∙ sym (cells-append (cell_of a) (flat_map cell_of xs))

map-flat : {A : Type 0} (f : At ℕ → ℕ) (g : A → List (At ℕ)) (xs : List A) → flat_map (λ a. map f (g a)) xs ≡ map f (flat_map g xs)
map-flat f g [] = refl
map-flat f g (a ∷ xs) = ap (λ l. map f (g a) ++ l) (map-flat f g xs) ∙ sym (map-append f (g a) (flat_map g xs))

-- four lists in the order of the rule
function-order : (a b c d e : List ℕ) → least_of ((a ++ b) ++ (c ++ d ++ e)) ≡ least_of ((a ++ c) ++ d ++ b ++ e)
function-order a b c d e =
    least_middle a b (c ++ d) e
    ∙ ap least_of
    (ap (λ l. l ++ (b ++ e)) (sym (append_assoc a c d)) ∙ sym (append_assoc ((a ++ c) ++ d) b e))

function-simple : (xs : List (At CAtom)) (s : RawSimple)
    → least_of (flat_map function_atom xs ++ function_statement s)
    ≡ least_of (words_of_cells (flat_map cell_of xs ++ set_cells s) ++ words_of_flags (set_flags s) ++ map (λ x. At.at x) (flat_map unknown_of xs) ++ report_tokens s)
function-simple xs s =
    let cells : List ℕ = words_of_cells (flat_map cell_of xs) in
    let solutions : List ℕ = map (λ x. At.at x) (flat_map unknown_of xs) in
    least_both (flat_map function_atom xs) (function_statement s) (cells ++ solutions) (function_statement s)
    (least_split (λ a. words_of_cells (cell_of a)) solution_at xs
    ∙ ap least_of (ap (λ l. l ++ flat_map solution_at xs) (words-flat xs) ∙ ap (λ l. cells ++ l) (map-flat (λ x. At.at x) unknown_of xs)))
    refl
    ∙ function-order cells solutions (words_of_cells (set_cells s)) (words_of_flags (set_flags s)) (report_tokens s)
    ∙ ap (λ l. least_of (l ++ words_of_flags (set_flags s) ++ solutions ++ report_tokens s)) (sym (cells-append (flat_map cell_of xs) (set_cells s)))

model-order : (a b c d e : List ℕ) → least_of ((a ++ (b ++ c)) ++ (d ++ e)) ≡ least_of ((a ++ d) ++ e ++ b ++ c)
model-order a b c d e =
    least_middle a (b ++ c) d e
    ∙ least_both (a ++ d) ((b ++ c) ++ e) (a ++ d) (e ++ (b ++ c)) refl (swapped (b ++ c) e)
    ∙ ap least_of (sym (append_assoc (a ++ d) e (b ++ c)) ∙ sym (append_assoc ((a ++ d) ++ e) b c))
  where
    swapped : (x y : List ℕ) → least_of (x ++ y) ≡ least_of (y ++ x)
    swapped x y =
        sym (ap (λ l. least_of (x ++ l)) (append-nil y)) ∙ least_middle [] x y [] ∙ ap (λ l. least_of (y ++ l)) (append-nil x)

model-simple : (xs : List (At CAtom)) (s : RawSimple)
    → least_of (flat_map model_atom xs ++ model_statement s)
    ≡ least_of (flat_map of_instance (flat_map cell_of xs ++ set_cells s) ++ map (λ pair. At.at pair) (set_flags s) ++ map (λ x. At.at x) (flat_map unknown_of xs)
    ++ map (λ x. word_at x) (flat_map unknown_of xs))
model-simple xs s =
    let cells : List ℕ = flat_map of_instance (flat_map cell_of xs) in
    let solutions : List ℕ = map (λ x. At.at x) (flat_map unknown_of xs) in
    let instances : List ℕ = map (λ x. word_at x) (flat_map unknown_of xs) in
    let behind : At CAtom → List ℕ = λ a. solution_at a ++ map (λ x. word_at x) (unknown_of a) in
    let both : least_of (flat_map behind xs) ≡ least_of (solutions ++ instances) =
    least_split solution_at (λ a. map (λ x. word_at x) (unknown_of a)) xs
    ∙ ap least_of
    (ap (λ l. l ++ flat_map (λ a. map (λ x. word_at x) (unknown_of a)) xs) (map-flat (λ x. At.at x) unknown_of xs)
    ∙ ap (λ l. solutions ++ l) (map-flat (λ x. word_at x) unknown_of xs)) in
    least_both (flat_map model_atom xs) (model_statement s) (cells ++ (solutions ++ instances)) (model_statement s)
    (least_split (λ a. flat_map of_instance (cell_of a)) behind xs
    ∙ least_both (flat_map (λ a. flat_map of_instance (cell_of a)) xs) (flat_map behind xs) cells (solutions ++ instances)
    (ap least_of (sym (flat-flat of_instance cell_of xs))) both)
    refl
    ∙ model-order cells solutions instances (flat_map of_instance (set_cells s)) (map (λ pair. At.at pair) (set_flags s))
    ∙ ap (λ l. least_of (l ++ map (λ pair. At.at pair) (set_flags s) ++ solutions ++ instances)) (sym (flat_map-append of_instance (flat_map cell_of xs) (set_cells s)))

-- an evaluation may read any atom
none-read : (xs : List (At CAtom)) → flat_map (λ a. (let l : List ℕ = [] in l)) xs ≡ []
none-read [] = refl
none-read (a ∷ xs) = none-read xs

simple-least : (kind : BodyKind) (s : RawSimple) → least_of (item_out kind (of_simple s)) ≡ least_of (out_of_reach kind (alone (of_simple s)))
simple-least (a_function j) s = function-simple (atoms_of_simple s) s
simple-least setup_of_model s = model-simple (atoms_of_simple s) s
simple-least setup_of_instance s =
    ap least_of (append-nil (flat_map solution_at (atoms_of_simple s)) ∙ map-flat (λ x. At.at x) unknown_of (atoms_of_simple s))
simple-least evaluation s = ap (λ l. least_of (l ++ simple_out evaluation s)) (none-read (atoms_of_simple s))

-- an atom that stands alone
module _ (at : ℕ) where
  abbrev one : CAtom → At CAtom
  one v = record { at = at; value = v }

  function-alone : (v : CAtom)
      → function_atom (one v)
      ≡ words_of_cells (flat_map cell_of (one v ∷ []) ++ []) ++ [] ++ map (λ x. At.at x) (flat_map unknown_of (one v ∷ [])) ++ []
  function-alone (atom.Local i) = refl
  function-alone (atom.Argument i) = refl
  function-alone (atom.Integer i) = refl
  function-alone (atom.Real d) = refl
  function-alone (atom.Cell cell) = refl
  function-alone (atom.Unknown i) = refl

  model-alone : (v : CAtom)
      → model_atom (one v)
      ≡ flat_map of_instance (flat_map cell_of (one v ∷ []) ++ []) ++ [] ++ map (λ x. At.at x) (flat_map unknown_of (one v ∷ []))
      ++ map (λ x. word_at x) (flat_map unknown_of (one v ∷ []))
  model-alone (atom.Local i) = refl
  model-alone (atom.Argument i) = refl
  model-alone (atom.Integer i) = refl
  model-alone (atom.Real d) = refl
  model-alone (atom.Cell cell) =
      let here : List ℕ = flat_map of_instance (cell_of (one (atom.Cell cell))) in
      sym (append-nil ((here ++ []) ++ []) ∙ append-nil (here ++ []))
  model-alone (atom.Unknown i) = refl

  instance-alone : (v : CAtom) → solution_at (one v) ≡ map (λ x. At.at x) (flat_map unknown_of (one v ∷ []))
  instance-alone (atom.Local i) = refl
  instance-alone (atom.Argument i) = refl
  instance-alone (atom.Integer i) = refl
  instance-alone (atom.Real d) = refl
  instance-alone (atom.Cell cell) = refl
  instance-alone (atom.Unknown i) = refl

test-least : (kind : BodyKind) (a : At CAtom) → atom_out kind a ≡ out_of_reach kind (alone (of_test a))
test-least (a_function j) a = function-alone a.at a.value
test-least setup_of_model a = model-alone a.at a.value
test-least setup_of_instance a = instance-alone a.at a.value
test-least evaluation a = refl

value-least : (kind : BodyKind) (ty : Ty) (a : At CAtom) → atom_out kind a ≡ out_of_reach kind (alone (of_value ty a))
value-least (a_function j) ty a = function-alone a.at a.value
value-least setup_of_model ty a = model-alone a.at a.value
value-least setup_of_instance ty a = instance-alone a.at a.value
value-least evaluation ty a = refl

item-least : (kind : BodyKind) (item : Item) → least_of (item_out kind item) ≡ least_of (out_of_reach kind (alone item))
item-least kind (of_simple s) = simple-least kind s
item-least kind (of_test a) = ap least_of (test-least kind a)
item-least kind (of_value ty a) = ap least_of (value-least kind ty a)

-- what is known plays no part
known-apart : (kind : BodyKind) (s : Scoped) → out_of_reach kind (alone s.item) ≡ out_of_reach kind s
known-apart (a_function j) s = refl
known-apart setup_of_model s = refl
known-apart setup_of_instance s = refl
known-apart evaluation s = refl

pub body-least : (kind : BodyKind) (items : List Scoped)
    → least_of (flat_map (λ s. item_out kind (Scoped.item s)) items) ≡ least_of (flat_map (out_of_reach kind) items)
body-least kind items =
    least_each (λ s. item_out kind (Scoped.item s)) (out_of_reach kind)
    (λ s. item-least kind (Scoped.item s) ∙ ap least_of (known-apart kind s)) items
