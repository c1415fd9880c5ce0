-- What the parts of a body may not speak of, by the kind of the body.
use Rattle.std.specs.Prelude.{ℕ, List, [], ◌++◌, map}
use Rattle.std.specs.List.{flat_map}
use Rattle.c_tree.specs.declared.body.CAtom.{CAtom}
use Rattle.c_tree.specs.Raw.{At, word_at, RawSimple}
use Rattle.c_tree.specs.rules.Bodies.{Item, BodyKind, a_function, setup_of_model, setup_of_instance, evaluation, cell_of, unknown_of, set_cells, set_flags}
use Rattle.c_form.specs.Items.{in_item}
use Rattle.c_tree.specs.rules.Reach.{of_fields, of_instance, is_set_up, is_temperature, report_tokens, words_of_cells, words_of_flags}

-- where `x` stands in an atom
abbrev pub solution_at : At CAtom → List ℕ
solution_at a = map (λ x. At.at x) (unknown_of a)

-- an atom of a function: a cell at its word, and `x`
abbrev pub function_atom : At CAtom → List ℕ
function_atom a = words_of_cells (cell_of a) ++ solution_at a

-- an atom of the model's set-up: each `inst`, and `x`
abbrev pub model_atom : At CAtom → List ℕ
model_atom a = flat_map of_instance (cell_of a) ++ (solution_at a ++ map (λ x. word_at x) (unknown_of a))

abbrev pub atom_out : BodyKind → At CAtom → List ℕ
atom_out (a_function j) a = function_atom a
atom_out setup_of_model a = model_atom a
atom_out setup_of_instance a = solution_at a
atom_out evaluation a = []

-- a statement of a function: what it sets, and what it reports
abbrev pub function_statement : RawSimple → List ℕ
function_statement s = words_of_cells (set_cells s) ++ words_of_flags (set_flags s) ++ report_tokens s

-- a statement of the model's set-up: each `inst`
abbrev pub model_statement : RawSimple → List ℕ
model_statement s = flat_map of_instance (set_cells s) ++ map (λ pair. At.at pair) (set_flags s)

-- a statement of an evaluation: what the set-ups set, and what it reports
abbrev pub evaluation_statement : RawSimple → List ℕ
evaluation_statement s = of_fields is_set_up (set_cells s) ++ words_of_flags (set_flags s) ++ report_tokens s

abbrev pub simple_out : BodyKind → RawSimple → List ℕ
simple_out (a_function j) s = function_statement s
simple_out setup_of_model s = model_statement s
simple_out setup_of_instance s = []
simple_out evaluation s = evaluation_statement s

-- an item of a body: the atoms that it reads, and the statement that it is
abbrev pub item_out : BodyKind → Item → List ℕ
item_out kind = in_item (atom_out kind) (simple_out kind)

-- the temperature where a statement sets it
abbrev pub temperature_of : RawSimple → List ℕ
temperature_of s = of_fields is_temperature (set_cells s)
