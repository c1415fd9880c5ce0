-- What types, numbers, fields, cells, atoms and right sides stand for. Each definition takes the text and a tree of one
-- nonterminal with its place, whose rows are written in `c_syntax`; of several rows the last stands for all other trees.
use Rattle.std.specs.Prelude.{ℕ, if◌then◌else◌, List, map}
use Rattle.alg_laws.specs.declared.number.Ty.{Ty}
use Rattle.alg_laws.specs.declared.number.Ty.TheVariants.{Integer, Real}
use Rattle.c_tree.specs.declared.body.CAtom.{CAtom}
use Rattle.c_tree.specs.declared.body.CAtom.TheVariants as atom
use Rattle.c_tree.specs.declared.body.CCallee.{CCallee}
use Rattle.c_tree.specs.declared.body.CCallee.TheVariants.{Function}
use Rattle.c_tree.specs.declared.body.CCell.{CCell}
use Rattle.c_tree.specs.declared.body.CField.{CField}
use Rattle.c_tree.specs.declared.body.COperator.{COperator}
use Rattle.c_tree.specs.declared.body.COperator.TheVariants.{Plus, Minus, Times, Over, Remainder, Less, AtMost, Greater, AtLeast, Same, Differs}
use Rattle.c_tree.specs.declared.body.Level.{Level}
use Rattle.c_tree.specs.declared.body.Level.TheVariants.{Instance, Model}
use Rattle.c_tree.specs.Raw.{At, RawRight, same, negated, contrary, to_real, to_integer, call, binary}
use Rattle.c_raw_build.specs.Placed.{Placed, is_of, part, elements_of_two}
use Rattle.c_raw_build.specs.RowNumbers.{integer_type_row, model_cell_row, negated_row, contrary_row, converted_row, called_row, to_real_row, named_function_row, values_row, more_values_row, operation_row, plus_row, minus_row, times_row, over_row, remainder_row, less_row, at_most_row, greater_row, at_least_row, same_row, local_atom_row, argument_atom_row, integer_atom_row, real_atom_row, cell_atom_row}
use Rattle.c_raw_build.specs.Words.{CText, number_at, numbered_at, function_at, real_at, field_at, library_function_at}

-- Type
unfoldable pub ty_of : Placed → Ty
ty_of p = if is_of integer_type_row p then Integer else Real

-- Number, Integer
abbrev pub number_of_tree : CText → Placed → ℕ
number_of_tree text p = number_at text p.at

-- Number, with the index of its token
abbrev pub number : CText → Placed → At ℕ
number text p = numbered_at text p.at

-- FieldName
abbrev pub field : CText → Placed → CField
field text p = field_at text p.at

-- FieldName, with the index of its token
abbrev pub named_field : CText → Placed → At CField
named_field text p = record { at = p.at; value = field text p }

-- Cell: `inst` or `model`
abbrev pub level_of : Placed → Level
level_of p = if is_of model_cell_row p then Model else Instance

-- Cell
unfoldable pub cell : CText → Placed → CCell
cell text p = record { level = level_of p; field = field text (part 0 p) }

-- Cell, with the index of `inst` or `model`
abbrev pub placed_cell : CText → Placed → At CCell
placed_cell text p = record { at = p.at; value = cell text p }

-- Node: the number of an unknown
unfoldable pub node_number : CText → Placed → ℕ
node_number text p = number_of_tree text (part 0 p)

-- Atom: a local, an argument, an integer, a real, a cell, or an unknown
unfoldable pub atom_of : CText → Placed → CAtom
atom_of text p =
    if is_of local_atom_row p then atom.Local (number_at text p.at)
    else (if is_of argument_atom_row p then atom.Argument (number_at text p.at)
    else (if is_of integer_atom_row p then atom.Integer (number_of_tree text (part 0 p))
    else (if is_of real_atom_row p then atom.Real (real_at text p.at)
    else (if is_of cell_atom_row p then atom.Cell (cell text (part 0 p)) else atom.Unknown (node_number text (part 0 p))))))

-- Atom, with the index of its first token
abbrev pub placed_atom : CText → Placed → At CAtom
placed_atom text p = record { at = p.at; value = atom_of text p }

-- Callee: a function of C's library, or one of the module
unfoldable pub callee_of : CText → Placed → CCallee
callee_of text p = if is_of named_function_row p then library_function_at text p.at else Function (function_at text p.at)

-- Values: the first, and then MoreValues, each with its atom first
unfoldable pub values : CText → Placed → List (At CAtom)
values text p = map (λ q. placed_atom text (part 0 q)) (elements_of_two values_row more_values_row p)

-- Operator
unfoldable pub operator_of : Placed → COperator
operator_of p =
    if is_of plus_row p then Plus
    else (if is_of minus_row p then Minus
    else (if is_of times_row p then Times
    else (if is_of over_row p then Over
    else (if is_of remainder_row p then Remainder
    else (if is_of less_row p then Less
    else (if is_of at_most_row p then AtMost
    else (if is_of greater_row p then Greater
    else (if is_of at_least_row p then AtLeast
    else (if is_of same_row p then Same else Differs)))))))))

-- Operation: an operator and its right operand, or nothing, behind an atom
unfoldable pub operation : CText → At CAtom → Placed → RawRight
operation text first p =
    if is_of operation_row p then binary first (operator_of (part 0 p)) (placed_atom text (part 1 p)) else same first

-- Conversion: to a real, or to an integer
unfoldable pub conversion : CText → Placed → RawRight
conversion text p =
    if is_of to_real_row p then to_real (placed_atom text (part 0 p)) else to_integer (placed_atom text (part 0 p))

-- Right: a sign, `!`, a conversion, a call, or an atom and what follows it
unfoldable pub right_of : CText → Placed → RawRight
right_of text p =
    if is_of negated_row p then negated (placed_atom text (part 0 p))
    else (if is_of contrary_row p then contrary (placed_atom text (part 0 p))
    else (if is_of converted_row p then conversion text (part 0 p)
    else (if is_of called_row p then call (callee_of text (part 0 p)) (values text (part 1 p))
    else operation text (placed_atom text (part 0 p)) (part 1 p))))
