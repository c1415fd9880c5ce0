-- What the trees of types, cells, atoms and right sides stand for in a text where their words stand.
use Rattle.std.proofs.Common.{◌≡◌, ◌+◌, ℕ, List, [], ◌∷◌, ◌++◌, refl, ap, subst, ◌∙◌, append_assoc}
use Rattle.std.specs.Prelude.{true, ◌||◌, map, filter, codes}
use Rattle.std.specs.List.{list_all}
use Rattle.std.specs.Option.{unwrap_or}
use Rattle.std.proofs.lemmas.Bool.{and_parts}
use Rattle.alg_laws.specs.declared.number.Ty.{Ty}
use Rattle.alg_laws.specs.declared.number.Ty.TheVariants.{Integer, Real}
use Rattle.predict.specs.Tree.{Tree}
use Rattle.va_base.specs.Numerals.{number_of, decimal_of}
use Rattle.c_tree.specs.declared.body.CAtom.{CAtom}
use Rattle.c_tree.specs.declared.body.CAtom.TheVariants as atom
use Rattle.c_tree.specs.declared.body.CCallee.{CCallee}
use Rattle.c_tree.specs.declared.body.CCallee.TheVariants as callee
use Rattle.c_tree.specs.declared.body.CCell.{CCell}
use Rattle.c_tree.specs.declared.body.CField.{CField}
use Rattle.c_tree.specs.declared.body.COperator.{COperator}
use Rattle.c_tree.specs.declared.body.COperator.TheVariants.{Plus, Minus, Times, Over, Remainder, Less, AtMost, Greater, AtLeast, Same, Differs}
use Rattle.c_tree.specs.declared.body.CRight.{CRight}
use Rattle.c_tree.specs.declared.body.CRight.TheVariants as right
use Rattle.c_tree.specs.declared.body.Level.{Level}
use Rattle.c_tree.specs.declared.body.Level.TheVariants.{Instance, Model}
use Rattle.c_tree.specs.FileOf as given
use Rattle.c_tree.specs.Raw.{At}
use Rattle.c_tree.specs.Spelling.{is_unsigned, spells_field, spells_cell, spells_atom, spells_callee, spells_right}
use Rattle.c_tree.specs.Text.{field_word, level_word, cell_words, atom_words, operator_word, callee_word, right_words}
use Rattle.c_tree.specs.Words.{template, word, marked, with_commas}
use Rattle.c_raw_build.specs.Placed.{Placed, part, spine, is_of, width}
use Rattle.c_raw_build.specs.RawAtoms.{ty_of, cell, node_number, atom_of, placed_atom, callee_of, values, operator_of, operation, conversion, right_of}
use Rattle.c_raw_build.specs.RowNumbers.{values_row, more_values_row}
use Rattle.c_raw_build.specs.Words.{CText, number_zero, real_at, field_at, function_at, library_function_at, second_number}
use Rattle.c_law_words.proofs.Listed.{row_list}
use Rattle.c_law_print_parses.proofs.Placing.{StandsAt, stands_split, row_stands}
use Rattle.c_law_words.specs.Values.{field_in, library_function}
use Rattle.c_law_words.proofs.Reals.{real_value}
use Rattle.c_law_words.proofs.Values.{integer_back, unsigned_back, numbered_back, field_back, function_back, fun1_back, fun2_back}
use Rattle.c_law_print_parses.proofs.Atoms.{type_tree, cell_by, cell_tree, node_tree, node_words, atom_tree, atom_written, atom_part, operator_tree, operator_written, operation_pieces, operation_written, more_values_tree, more_values_written, values_tree, values_written, callee_tree, callee_written, call_pieces, binary_pieces, right_tree}
use Rattle.c_law_print_parses.proofs.Lefts.{more_values_left}
use Rattle.c_law_words.proofs.Pieces.{◌▹◌, Pieces, part as piece, ◌⋄◌, line}

abbrev more_values_pieces : CAtom → List CAtom → Pieces
more_values_pieces a args = line (codes ",") ⋄ atom_part a ⋄ piece more_values_left (more_values_tree args) (marked (codes ",") atom_words args)

abbrev values_pieces : CAtom → List CAtom → Pieces
values_pieces a args = atom_part a ⋄ piece more_values_left (more_values_tree args) (marked (codes ",") atom_words args)

-- a tree with its place
abbrev pub placed : ℕ → Tree → Placed
placed at t = record { at = at; tree = t }

pub type_value : (at : ℕ) (ty : Ty) → ty_of (placed at (type_tree ty)) ≡ ty
unfolding ty_of
type_value at Real = refl
type_value at Integer = refl

module _ (text : CText) where
  pub field_value : (at : ℕ) (f : CField) → spells_field f ≡ true → StandsAt text at (word (field_word f)) → field_at text at ≡ f
  unfolding field_at
  field_value at f h s = ap field_in s.0 ∙ field_back f h

  cell_cases : (at : ℕ) (level : Level) (f : CField) → spells_field f ≡ true → StandsAt text at (word (level_word level) ++ word (codes "->") ++ word (field_word f))
      → cell text (placed at (cell_by level f)) ≡ record { level = level; field = f }
  unfolding cell row_list template
  cell_cases at Instance f h s = ap (λ g. let c : CCell = record { level = Instance; field = g } in c) (field_value (at + 1 + 1) f h s.1.1)
  cell_cases at Model f h s = ap (λ g. let c : CCell = record { level = Model; field = g } in c) (field_value (at + 1 + 1) f h s.1.1)

  pub cell_value : (at : ℕ) (c : CCell) → spells_cell c ≡ true → StandsAt text at (cell_words c) → cell text (placed at (cell_tree c)) ≡ c
  cell_value at c h s = cell_cases at c.level c.field h s

  pub node_value : (at i : ℕ) → is_unsigned i ≡ true → StandsAt text at (node_words i) → node_number text (placed at (node_tree i)) ≡ i
  unfolding node_number row_list template
  node_value at i h s = ap number_of s.1.1.1.1.0 ∙ unsigned_back i h

  pub atom_value : (at : ℕ) (a : CAtom) → spells_atom a ≡ true → StandsAt text at (atom_words a) → atom_of text (placed at (atom_tree a)) ≡ a
  unfolding atom_of real_at row_list template
  atom_value at (atom.Local i) h s = ap (λ w. atom.Local (number_of w)) s.0 ∙ ap atom.Local (numbered_back (codes "v") i refl h)
  atom_value at (atom.Argument i) h s = ap (λ w. atom.Argument (number_of w)) s.0 ∙ ap atom.Argument (numbered_back (codes "a") i refl h)
  atom_value at (atom.Integer i) h s = ap (λ w. atom.Integer (number_of w)) s.0 ∙ ap atom.Integer (integer_back i h)
  atom_value at (atom.Real d) h s = ap (λ w. atom.Real (unwrap_or (decimal_of w) number_zero)) s.0 ∙ ap (λ o. atom.Real (unwrap_or o number_zero)) (real_value d h)
  atom_value at (atom.Cell c) h s = ap atom.Cell (cell_value at c h s)
  atom_value at (atom.Unknown i) h s = ap atom.Unknown (node_value (at + 1 + 1) i h (stands_split text (at + 1 + 1) (node_words i) (word (codes "]")) s.1.1).0)

  operator_value : (at : ℕ) (op : COperator) → operator_of (placed at (operator_tree op)) ≡ op
  unfolding operator_of
  operator_value at Plus = refl
  operator_value at Minus = refl
  operator_value at Times = refl
  operator_value at Over = refl
  operator_value at Remainder = refl
  operator_value at Less = refl
  operator_value at AtMost = refl
  operator_value at Greater = refl
  operator_value at AtLeast = refl
  operator_value at Same = refl
  operator_value at Differs = refl

  -- values of a call
  abbrev values_in : List Placed → List CAtom
  values_in places = map (λ (a : At CAtom). a.value) (map (λ q. placed_atom text (part 0 q)) (filter (λ q. is_of values_row q || is_of more_values_row q) places))

  more_values_value : (at : ℕ) (args : List CAtom) → list_all spells_atom args ≡ true → StandsAt text at (marked (codes ",") atom_words args)
      → values_in (spine at (more_values_tree args)) ≡ args
  unfolding row_list template
  more_values_value at [] h s = refl
  more_values_value at (a ∷ args) h s =
      let p = and_parts (spells_atom a) (list_all spells_atom args) h in
      let t = row_stands text at (more_values_pieces a args) (atom_written a p.0 ▹ more_values_written args p.1 ▹ tt) s in
      let first = atom_value (at + 1) a p.0 t.0 in
      let rest = more_values_value (at + 1 + width (atom_tree a)) args p.1 t.1.0 in
      λ i. first i ∷ rest i

  values_value : (at : ℕ) (args : List CAtom) → list_all spells_atom args ≡ true → StandsAt text at (with_commas atom_words args)
      → map (λ (a : At CAtom). a.value) (values text (placed at (values_tree args))) ≡ args
  unfolding values row_list template
  values_value at [] h s = refl
  values_value at (a ∷ args) h s =
      let p = and_parts (spells_atom a) (list_all spells_atom args) h in
      let t = row_stands text at (values_pieces a args) (atom_written a p.0 ▹ more_values_written args p.1 ▹ tt) s in
      let first = atom_value at a p.0 t.0 in
      let rest = more_values_value (at + width (atom_tree a)) args p.1 t.1.0 in
      λ i. first i ∷ rest i

  callee_value : (at k : ℕ) (f : CCallee) → is_unsigned k ≡ true → spells_callee f ≡ true → StandsAt text at (word (callee_word k f)) → callee_of text (placed at (callee_tree k f)) ≡ f
  unfolding callee_of library_function_at function_at
  callee_value at k (callee.Fun1 f) u h s = ap library_function s.0 ∙ fun1_back f
  callee_value at k (callee.Fun2 f) u h s = ap library_function s.0 ∙ fun2_back f
  callee_value at k (callee.Function j) u h s = ap (λ w. callee.Function (second_number w)) s.0 ∙ ap callee.Function (function_back k j u h)

  call_value : (at k : ℕ) (f : CCallee) (args : List CAtom) → is_unsigned k ≡ true → spells_callee f ≡ true → list_all spells_atom args ≡ true
      → StandsAt text at (right_words k (right.Call f args)) → given.right_of (right_of text (placed at (right_tree k (right.Call f args)))) ≡ right.Call f args
  unfolding right_of row_list template
  call_value at k f args u h g s =
      let t = row_stands text at (call_pieces k f args) (callee_written k f u h ▹ values_written args g ▹ tt) s in
      let function = callee_value at k f u h t.0 in
      let list = values_value (at + width (callee_tree k f) + 1) args g t.1.0 in
      λ i. right.Call (function i) (list i)

  binary_value : (at k : ℕ) (a : CAtom) (op : COperator) (b : CAtom) → spells_atom a ≡ true → spells_atom b ≡ true
      → StandsAt text at (right_words k (right.Binary a op b)) → given.right_of (right_of text (placed at (right_tree k (right.Binary a op b)))) ≡ right.Binary a op b
  unfolding right_of operation row_list
  binary_value at k a op b h g s =
      let joined = subst (λ ws. StandsAt text at ws) (append_assoc (atom_words a) (word (operator_word op)) (atom_words b)) s in
      let t = row_stands text at (binary_pieces a op b) (atom_written a h ▹ operation_written op b g ▹ tt) joined in
      let r = row_stands text (at + width (atom_tree a)) (operation_pieces op b) (operator_written op
      ▹ atom_written b g ▹ tt) t.1.0 in
      let first = atom_value at a h t.0 in
      let sign = operator_value (at + width (atom_tree a)) op in
      let second = atom_value (at + width (atom_tree a) + width (operator_tree op)) b g r.1.0 in
      λ i. right.Binary (first i) (sign i) (second i)

  pub right_value : (at k : ℕ) (side : CRight) → is_unsigned k ≡ true → spells_right side ≡ true → StandsAt text at (right_words k side)
      → given.right_of (right_of text (placed at (right_tree k side))) ≡ side
  unfolding right_of operation conversion row_list template
  right_value at k (right.Same a) u h s = ap right.Same (atom_value at a h s)
  right_value at k (right.Negated a) u h s = ap right.Negated (atom_value (at + 1) a h s.1)
  right_value at k (right.Contrary a) u h s = ap right.Contrary (atom_value (at + 1) a h s.1)
  right_value at k (right.ToReal a) u h s = ap right.ToReal (atom_value (at + 1 + 1 + 1) a h s.1.1.1)
  right_value at k (right.ToInteger a) u h s =
      ap right.ToInteger (atom_value (at + 1 + 1 + 1 + 1 + 1) a h (stands_split text (at + 1 + 1 + 1 + 1 + 1) (atom_words a) (word (codes ")")) s.1.1.1.1.1).0)
  right_value at k (right.Call f args) u h s =
      let p = and_parts (spells_callee f) (list_all spells_atom args) h in
      call_value at k f args u p.0 p.1 s
  right_value at k (right.Binary a op b) u h s =
      let p = and_parts (spells_atom a) (spells_atom b) h in
      binary_value at k a op b p.0 p.1 s
