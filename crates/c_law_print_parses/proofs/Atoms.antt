-- The trees of types, numbers, fields, cells, atoms and right sides, each with the words that it spells.
use Rattle.std.proofs.Common.{◌≡◌, ℕ, List, [], ◌∷◌, ◌++◌, refl, ap, sym, subst, append_assoc}
use Rattle.std.specs.Prelude.{Bool, true, false, if◌then◌else◌, decimal, codes}
use Rattle.std.specs.List.{list_all}
use Rattle.std.specs.Str.{bytes_eq}
use Rattle.std.proofs.lemmas.Bool.{and_parts}
use Rattle.std.proofs.lemmas.List.{append-nil}
use Rattle.alg_laws.specs.declared.number.Ty.{Ty}
use Rattle.alg_laws.specs.declared.number.Ty.TheVariants.{Integer, Real}
use Rattle.predict.specs.Tree.{Tree}
use Rattle.c_tree.specs.declared.body.CAtom.{CAtom}
use Rattle.c_tree.specs.declared.body.CAtom.TheVariants as atom
use Rattle.c_tree.specs.declared.body.CCallee.{CCallee}
use Rattle.c_tree.specs.declared.body.CCallee.TheVariants as callee
use Rattle.c_tree.specs.declared.body.CCell.{CCell}
use Rattle.c_tree.specs.declared.body.CField.{CField}
use Rattle.c_tree.specs.declared.body.CField.TheVariants.{Param, Given, Resist, React, EntryResist, EntryReact, OpVar, Stored, Temperature}
use Rattle.c_tree.specs.declared.body.COperator.{COperator}
use Rattle.c_tree.specs.declared.body.COperator.TheVariants.{Plus, Minus, Times, Over, Remainder, Less, AtMost, Greater, AtLeast, Same, Differs}
use Rattle.c_tree.specs.declared.body.CRight.{CRight}
use Rattle.c_tree.specs.declared.body.CRight.TheVariants as right
use Rattle.c_tree.specs.declared.body.Level.{Level}
use Rattle.c_tree.specs.declared.body.Level.TheVariants.{Instance, Model}
use Rattle.c_tree.specs.Spelling.{is_unsigned, is_integer, spells_field, spells_cell, spells_atom, spells_callee, spells_right}
use Rattle.c_tree.specs.Text.{type_word, field_word, level_word, cell_words, atom_words, operator_word, fun1_word, fun2_word, function_word, callee_word, right_words}
use Rattle.c_tree.specs.Words.{Word, template, numbered, unsigned, word, real_word, marked, with_commas}
use Rattle.c_syntax.specs.grammar.Kinds.{kind_of}
use Rattle.c_law_print_parses.proofs.Lefts.{type_left, field_name_left, cell_left, integer_left, number_left, node_left, atom_left, operator_left, operation_left, conversion_left, callee_left, values_left, more_values_left, right_left}
use Rattle.c_raw_build.specs.RowNumbers.{real_type_row, integer_type_row, numbered_field_row, temperature_field_row, instance_cell_row, model_cell_row, integer_zero_row, integer_one_row, integer_row, number_zero_row, number_one_row, number_three_row, number_row, node_row, local_atom_row, argument_atom_row, integer_atom_row, real_atom_row, cell_atom_row, unknown_atom_row, plus_row, minus_row, times_row, over_row, remainder_row, less_row, at_most_row, greater_row, at_least_row, same_row, differs_row, operation_row, no_operation_row, to_real_row, to_integer_row, named_function_row, module_function_row, values_row, no_values_row, more_values_row, no_more_values_row, negated_row, contrary_row, converted_row, called_row, operands_row}
use Rattle.c_law_words.proofs.Listed.{row_list, name_list}
use Rattle.c_law_words.proofs.Pieces.{◌▹◌, IsWord, Writes, Pieces, fixed, named, part, ◌⋄◌, line, row_tree, row_written}
use Rattle.c_law_words.proofs.Numbers.{integer_word, unsigned_word}
use Rattle.c_law_words.proofs.Reals.{real_named}
use Rattle.c_law_words.proofs.Names.{local_word, argument_word, param_word, given_word, resist_word, react_word, entry_resist_word, entry_react_word, opvar_word, stored_word, module_function_word, fun1_named, fun2_named}

-- words that are the same
pub written_as : {left : ℕ} {t : Tree} {us vs : List Word} → Writes left t us → us ≡ vs → Writes left t vs
written_as {left} {t} w e = subst (λ ws. Writes left t ws) e w

-- Type
abbrev pub type_tree : Ty → Tree
type_tree Real = row_tree real_type_row (line (codes "double"))
type_tree Integer = row_tree integer_type_row (line (codes "int32_t"))

pub type_written : (ty : Ty) → Writes type_left (type_tree ty) (word (type_word ty))
unfolding row_list name_list template
type_written Real = row_written type_left real_type_row (line (codes "double")) refl tt
type_written Integer = row_written type_left integer_type_row (line (codes "int32_t")) refl tt

-- Number: `0u`, `1u` and `3u` are kinds of their own
abbrev pub number_by : (is_zero is_one is_three : Bool) → Word → Tree
number_by true y z w = row_tree number_zero_row (named 35 w)
number_by false true z w = row_tree number_one_row (named 36 w)
number_by false false true w = row_tree number_three_row (named 37 w)
number_by false false false w = row_tree number_row (named 9 w)

abbrev pub number_tree : ℕ → Tree
number_tree n = number_by (bytes_eq (unsigned n) (codes "0u")) (bytes_eq (unsigned n) (codes "1u")) (bytes_eq (unsigned n) (codes "3u")) (unsigned n)

number_cases : (x y z : Bool) (w : Word) → IsWord (if x then 35 else (if y then 36 else (if z then 37 else 9))) w → Writes number_left (number_by x y z w) (word w)
unfolding row_list
number_cases true y z w h = row_written number_left number_zero_row (named 35 w) refl (h, tt)
number_cases false true z w h = row_written number_left number_one_row (named 36 w) refl (h, tt)
number_cases false false true w h = row_written number_left number_three_row (named 37 w) refl (h, tt)
number_cases false false false w h = row_written number_left number_row (named 9 w) refl (h, tt)

pub number_written : (n : ℕ) → is_unsigned n ≡ true → Writes number_left (number_tree n) (word (unsigned n))
number_written n h =
    let u = unsigned_word n h in
    number_cases (bytes_eq (unsigned n) (codes "0u")) (bytes_eq (unsigned n) (codes "1u")) (bytes_eq (unsigned n) (codes "3u")) (unsigned n)
    (record { alone = u.alone; kind_is = ap (λ k. kind_of k (unsigned n)) u.kind })

-- Integer: `0` and `1` are kinds of their own
abbrev pub integer_by : (is_zero is_one : Bool) → Word → Tree
integer_by true y w = row_tree integer_zero_row (named 33 w)
integer_by false true w = row_tree integer_one_row (named 34 w)
integer_by false false w = row_tree integer_row (named 8 w)

abbrev pub integer_tree : ℕ → Tree
integer_tree n = integer_by (bytes_eq (decimal n) (codes "0")) (bytes_eq (decimal n) (codes "1")) (decimal n)

integer_cases : (x y : Bool) (w : Word) → IsWord (if x then 33 else (if y then 34 else 8)) w → Writes integer_left (integer_by x y w) (word w)
unfolding row_list
integer_cases true y w h = row_written integer_left integer_zero_row (named 33 w) refl (h, tt)
integer_cases false true w h = row_written integer_left integer_one_row (named 34 w) refl (h, tt)
integer_cases false false w h = row_written integer_left integer_row (named 8 w) refl (h, tt)

pub integer_written : (n : ℕ) → is_integer n ≡ true → Writes integer_left (integer_tree n) (word (decimal n))
integer_written n h =
    let u = integer_word n h in
    integer_cases (bytes_eq (decimal n) (codes "0")) (bytes_eq (decimal n) (codes "1")) (decimal n)
    (record { alone = u.alone; kind_is = ap (λ k. kind_of k (decimal n)) u.kind })

-- FieldName
abbrev pub field_pieces : Word → Pieces
field_pieces w = named 14 w

abbrev pub field_name_tree : CField → Tree
field_name_tree (Param i) = row_tree numbered_field_row (field_pieces (numbered (codes "p") i))
field_name_tree (Given i) = row_tree numbered_field_row (field_pieces (numbered (codes "g") i))
field_name_tree (Resist i) = row_tree numbered_field_row (field_pieces (numbered (codes "r") i))
field_name_tree (React i) = row_tree numbered_field_row (field_pieces (numbered (codes "q") i))
field_name_tree (EntryResist i) = row_tree numbered_field_row (field_pieces (numbered (codes "er") i))
field_name_tree (EntryReact i) = row_tree numbered_field_row (field_pieces (numbered (codes "eq") i))
field_name_tree (OpVar i) = row_tree numbered_field_row (field_pieces (numbered (codes "o") i))
field_name_tree (Stored i) = row_tree numbered_field_row (field_pieces (numbered (codes "h") i))
field_name_tree Temperature = row_tree temperature_field_row (line (codes "temp"))

numbered_field : (w : Word) → IsWord 14 w → Writes field_name_left (row_tree numbered_field_row (field_pieces w)) (word w)
unfolding row_list
numbered_field w h = row_written field_name_left numbered_field_row (field_pieces w) refl (h, tt)

temperature_field : Writes field_name_left (row_tree temperature_field_row (line (codes "temp"))) (word (codes "temp"))
unfolding row_list name_list template
temperature_field = row_written field_name_left temperature_field_row (line (codes "temp")) refl tt

pub field_written : (f : CField) → spells_field f ≡ true → Writes field_name_left (field_name_tree f) (word (field_word f))
field_written (Param i) h = numbered_field (numbered (codes "p") i) (param_word i h)
field_written (Given i) h = numbered_field (numbered (codes "g") i) (given_word i h)
field_written (Resist i) h = numbered_field (numbered (codes "r") i) (resist_word i h)
field_written (React i) h = numbered_field (numbered (codes "q") i) (react_word i h)
field_written (EntryResist i) h = numbered_field (numbered (codes "er") i) (entry_resist_word i h)
field_written (EntryReact i) h = numbered_field (numbered (codes "eq") i) (entry_react_word i h)
field_written (OpVar i) h = numbered_field (numbered (codes "o") i) (opvar_word i h)
field_written (Stored i) h = numbered_field (numbered (codes "h") i) (stored_word i h)
field_written Temperature h = temperature_field

-- Cell
abbrev pub field_part : CField → Pieces
field_part f = part field_name_left (field_name_tree f) (word (field_word f))

abbrev pub cell_by : Level → CField → Tree
cell_by Instance f = row_tree instance_cell_row (line (codes "inst ->") ⋄ field_part f)
cell_by Model f = row_tree model_cell_row (line (codes "model ->") ⋄ field_part f)

abbrev pub cell_tree : CCell → Tree
cell_tree cell = cell_by cell.level cell.field

cell_cases : (level : Level) (f : CField) → spells_field f ≡ true → Writes cell_left (cell_by level f) (word (level_word level) ++ word (codes "->") ++ word (field_word f))
unfolding row_list name_list template
cell_cases Instance f h = row_written cell_left instance_cell_row (line (codes "inst ->") ⋄ field_part f) refl (field_written f h, tt)
cell_cases Model f h = row_written cell_left model_cell_row (line (codes "model ->") ⋄ field_part f) refl (field_written f h, tt)

pub cell_written : (cell : CCell) → spells_cell cell ≡ true → Writes cell_left (cell_tree cell) (cell_words cell)
cell_written cell h = cell_cases cell.level cell.field h

abbrev pub cell_part : CCell → Pieces
cell_part cell = part cell_left (cell_tree cell) (cell_words cell)

-- Node
abbrev pub number_part : ℕ → Pieces
number_part n = part number_left (number_tree n) (word (unsigned n))

abbrev pub node_words : ℕ → List Word
node_words i = template (codes "inst -> node [") ++ word (unsigned i) ++ word (codes "]")

abbrev pub node_pieces : ℕ → Pieces
node_pieces i = line (codes "inst -> node [") ⋄ number_part i ⋄ line (codes "]")

abbrev pub node_tree : ℕ → Tree
node_tree i = row_tree node_row (node_pieces i)

pub node_written : (i : ℕ) → is_unsigned i ≡ true → Writes node_left (node_tree i) (node_words i)
unfolding row_list name_list template
node_written i h = row_written node_left node_row (node_pieces i) refl (number_written i h, tt)

abbrev pub unknown_pieces : ℕ → Pieces
unknown_pieces i = line (codes "x [") ⋄ part node_left (node_tree i) (node_words i) ⋄ line (codes "]")

-- Atom
abbrev pub integer_part : ℕ → Pieces
integer_part i = part integer_left (integer_tree i) (word (decimal i))

abbrev pub atom_tree : CAtom → Tree
atom_tree (atom.Local i) = row_tree local_atom_row (named 12 (numbered (codes "v") i))
atom_tree (atom.Argument i) = row_tree argument_atom_row (named 13 (numbered (codes "a") i))
atom_tree (atom.Integer i) = row_tree integer_atom_row (integer_part i)
atom_tree (atom.Real d) = row_tree real_atom_row (named 10 (real_word d.mantissa d.power))
atom_tree (atom.Cell cell) = row_tree cell_atom_row (cell_part cell)
atom_tree (atom.Unknown i) = row_tree unknown_atom_row (unknown_pieces i)

pub atom_written : (a : CAtom) → spells_atom a ≡ true → Writes atom_left (atom_tree a) (atom_words a)
unfolding row_list name_list template
atom_written (atom.Local i) h = row_written atom_left local_atom_row (named 12 (numbered (codes "v") i)) refl (local_word i h, tt)
atom_written (atom.Argument i) h = row_written atom_left argument_atom_row (named 13 (numbered (codes "a") i)) refl (argument_word i h, tt)
atom_written (atom.Integer i) h = row_written atom_left integer_atom_row (integer_part i) refl (integer_written i h, tt)
atom_written (atom.Real d) h = row_written atom_left real_atom_row (named 10 (real_word d.mantissa d.power)) refl (real_named d h, tt)
atom_written (atom.Cell cell) h = row_written atom_left cell_atom_row (cell_part cell) refl (cell_written cell h, tt)
atom_written (atom.Unknown i) h = row_written atom_left unknown_atom_row (unknown_pieces i) refl (node_written i h, tt)

abbrev pub atom_part : CAtom → Pieces
atom_part a = part atom_left (atom_tree a) (atom_words a)

-- Operator
abbrev pub operator_row : COperator → ℕ
operator_row Plus = plus_row
operator_row Minus = minus_row
operator_row Times = times_row
operator_row Over = over_row
operator_row Remainder = remainder_row
operator_row Less = less_row
operator_row AtMost = at_most_row
operator_row Greater = greater_row
operator_row AtLeast = at_least_row
operator_row Same = same_row
operator_row Differs = differs_row

abbrev pub operator_tree : COperator → Tree
operator_tree op = row_tree (operator_row op) (fixed (word (operator_word op)))

pub operator_written : (op : COperator) → Writes operator_left (operator_tree op) (word (operator_word op))
unfolding row_list name_list
operator_written Plus = row_written operator_left plus_row (fixed (word (codes "+"))) refl tt
operator_written Minus = row_written operator_left minus_row (fixed (word (codes "-"))) refl tt
operator_written Times = row_written operator_left times_row (fixed (word (codes "*"))) refl tt
operator_written Over = row_written operator_left over_row (fixed (word (codes "/"))) refl tt
operator_written Remainder = row_written operator_left remainder_row (fixed (word (codes "%"))) refl tt
operator_written Less = row_written operator_left less_row (fixed (word (codes "<"))) refl tt
operator_written AtMost = row_written operator_left at_most_row (fixed (word (codes "<="))) refl tt
operator_written Greater = row_written operator_left greater_row (fixed (word (codes ">"))) refl tt
operator_written AtLeast = row_written operator_left at_least_row (fixed (word (codes ">="))) refl tt
operator_written Same = row_written operator_left same_row (fixed (word (codes "=="))) refl tt
operator_written Differs = row_written operator_left differs_row (fixed (word (codes "!="))) refl tt

-- Operation
abbrev pub no_operation : Tree
no_operation = row_tree no_operation_row (fixed [])

pub no_operation_written : Writes operation_left no_operation []
unfolding row_list
no_operation_written = row_written operation_left no_operation_row (fixed []) refl tt

abbrev pub operation_pieces : COperator → CAtom → Pieces
operation_pieces op b = part operator_left (operator_tree op) (word (operator_word op)) ⋄ atom_part b

pub operation_written : (op : COperator) (b : CAtom) → spells_atom b ≡ true → Writes operation_left (row_tree operation_row (operation_pieces op b)) (word (operator_word op) ++ atom_words b)
unfolding row_list
operation_written op b h = row_written operation_left operation_row (operation_pieces op b) refl (operator_written op
    ▹ atom_written b h ▹ tt)

-- Values
abbrev pub more_values_tree : List CAtom → Tree
more_values_tree [] = row_tree no_more_values_row (fixed [])
more_values_tree (a ∷ args) = row_tree more_values_row (line (codes ",") ⋄ atom_part a ⋄ part more_values_left (more_values_tree args) (marked (codes ",") atom_words args))

pub more_values_written : (args : List CAtom) → list_all spells_atom args ≡ true → Writes more_values_left (more_values_tree args) (marked (codes ",") atom_words args)
unfolding row_list name_list template
more_values_written [] h = row_written more_values_left no_more_values_row (fixed []) refl tt
more_values_written (a ∷ args) h =
    let p = and_parts (spells_atom a) (list_all spells_atom args) h in
    row_written more_values_left more_values_row (line (codes ",") ⋄ atom_part a ⋄ part more_values_left (more_values_tree args) (marked (codes ",") atom_words args)) refl
    (atom_written a p.0 ▹ more_values_written args p.1 ▹ tt)

abbrev pub values_tree : List CAtom → Tree
values_tree [] = row_tree no_values_row (fixed [])
values_tree (a ∷ args) = row_tree values_row (atom_part a ⋄ part more_values_left (more_values_tree args) (marked (codes ",") atom_words args))

pub values_written : (args : List CAtom) → list_all spells_atom args ≡ true → Writes values_left (values_tree args) (with_commas atom_words args)
unfolding row_list
values_written [] h = row_written values_left no_values_row (fixed []) refl tt
values_written (a ∷ args) h =
    let p = and_parts (spells_atom a) (list_all spells_atom args) h in
    row_written values_left values_row (atom_part a ⋄ part more_values_left (more_values_tree args) (marked (codes ",") atom_words args)) refl
    (atom_written a p.0 ▹ more_values_written args p.1 ▹ tt)

-- Callee
abbrev pub callee_tree : ℕ → CCallee → Tree
callee_tree k (callee.Fun1 f) = row_tree named_function_row (named 11 (fun1_word f))
callee_tree k (callee.Fun2 f) = row_tree named_function_row (named 11 (fun2_word f))
callee_tree k (callee.Function j) = row_tree module_function_row (named 15 (function_word k j))

pub callee_written : (k : ℕ) (f : CCallee) → is_unsigned k ≡ true → spells_callee f ≡ true → Writes callee_left (callee_tree k f) (word (callee_word k f))
unfolding row_list
callee_written k (callee.Fun1 f) u h = row_written callee_left named_function_row (named 11 (fun1_word f)) refl (fun1_named f, tt)
callee_written k (callee.Fun2 f) u h = row_written callee_left named_function_row (named 11 (fun2_word f)) refl (fun2_named f, tt)
callee_written k (callee.Function j) u h = row_written callee_left module_function_row (named 15 (function_word k j)) refl (module_function_word k j u h, tt)

-- Conversion
abbrev pub to_real_pieces : CAtom → Pieces
to_real_pieces a = line (codes "double )") ⋄ atom_part a

pub to_real_written : (a : CAtom) → spells_atom a ≡ true → Writes conversion_left (row_tree to_real_row (to_real_pieces a)) (template (codes "double )") ++ atom_words a)
unfolding row_list name_list template
to_real_written a h = row_written conversion_left to_real_row (to_real_pieces a) refl (atom_written a h, tt)

abbrev pub to_integer_pieces : CAtom → Pieces
to_integer_pieces a = line (codes "int32_t ) lround (") ⋄ atom_part a ⋄ line (codes ")")

pub to_integer_written : (a : CAtom) → spells_atom a ≡ true
    → Writes conversion_left (row_tree to_integer_row (to_integer_pieces a)) (template (codes "int32_t ) lround (") ++ atom_words a ++ word (codes ")"))
unfolding row_list name_list template
to_integer_written a h = row_written conversion_left to_integer_row (to_integer_pieces a) refl (atom_written a h, tt)

-- Right
abbrev pub same_pieces : CAtom → Pieces
same_pieces a = atom_part a ⋄ part operation_left no_operation []

abbrev pub real_pieces : CAtom → Pieces
real_pieces a = line (codes "(") ⋄ part conversion_left (row_tree to_real_row (to_real_pieces a)) (template (codes "double )") ++ atom_words a)

abbrev pub near_pieces : CAtom → Pieces
near_pieces a =
    line (codes "(")
    ⋄ part conversion_left (row_tree to_integer_row (to_integer_pieces a)) (template (codes "int32_t ) lround (") ++ atom_words a ++ word (codes ")"))

abbrev pub call_pieces : ℕ → CCallee → List CAtom → Pieces
call_pieces k f args =
    part callee_left (callee_tree k f) (word (callee_word k f)) ⋄ line (codes "(") ⋄ part values_left (values_tree args) (with_commas atom_words args) ⋄ line (codes ")")

abbrev pub binary_pieces : CAtom → COperator → CAtom → Pieces
binary_pieces a op b = atom_part a ⋄ part operation_left (row_tree operation_row (operation_pieces op b)) (word (operator_word op) ++ atom_words b)

abbrev pub right_tree : ℕ → CRight → Tree
right_tree k (right.Same a) = row_tree operands_row (same_pieces a)
right_tree k (right.Negated a) = row_tree negated_row (line (codes "-") ⋄ atom_part a)
right_tree k (right.Contrary a) = row_tree contrary_row (line (codes "!") ⋄ atom_part a)
right_tree k (right.ToReal a) = row_tree converted_row (real_pieces a)
right_tree k (right.ToInteger a) = row_tree converted_row (near_pieces a)
right_tree k (right.Call f args) = row_tree called_row (call_pieces k f args)
right_tree k (right.Binary a op b) = row_tree operands_row (binary_pieces a op b)

same_written : (k : ℕ) (a : CAtom) → spells_atom a ≡ true → Writes right_left (right_tree k (right.Same a)) (atom_words a)
unfolding row_list
same_written k a h = written_as (row_written right_left operands_row (same_pieces a) refl (atom_written a h
    ▹ no_operation_written ▹ tt)) (append-nil (atom_words a))

binary_written : (k : ℕ) (a : CAtom) (op : COperator) (b : CAtom) → spells_atom a ≡ true → spells_atom b ≡ true
    → Writes right_left (right_tree k (right.Binary a op b)) (atom_words a ++ word (operator_word op) ++ atom_words b)
unfolding row_list
binary_written k a op b h g =
    written_as (row_written right_left operands_row (binary_pieces a op b) refl (atom_written a h
    ▹ operation_written op b g ▹ tt))
    (sym (append_assoc (atom_words a) (word (operator_word op)) (atom_words b)))

pub right_written : (k : ℕ) (side : CRight) → is_unsigned k ≡ true → spells_right side ≡ true → Writes right_left (right_tree k side) (right_words k side)
unfolding row_list name_list template
right_written k (right.Same a) u h = same_written k a h
right_written k (right.Negated a) u h = row_written right_left negated_row (line (codes "-") ⋄ atom_part a) refl (atom_written a h, tt)
right_written k (right.Contrary a) u h = row_written right_left contrary_row (line (codes "!") ⋄ atom_part a) refl (atom_written a h, tt)
right_written k (right.ToReal a) u h = row_written right_left converted_row (real_pieces a) refl (to_real_written a h, tt)
right_written k (right.ToInteger a) u h = row_written right_left converted_row (near_pieces a) refl (to_integer_written a h, tt)
right_written k (right.Call f args) u h =
    let p = and_parts (spells_callee f) (list_all spells_atom args) h in
    row_written right_left called_row (call_pieces k f args) refl (callee_written k f u p.0 ▹ values_written args p.1
    ▹ tt)
right_written k (right.Binary a op b) u h =
    let p = and_parts (spells_atom a) (spells_atom b) h in
    binary_written k a op b p.0 p.1

abbrev pub right_part : ℕ → CRight → Pieces
right_part k side = part right_left (right_tree k side) (right_words k side)
