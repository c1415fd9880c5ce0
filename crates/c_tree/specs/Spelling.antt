-- Which files can be spelled: each number, name and list of them is within the tokens and rows of the grammar.
use Rattle.std.specs.Prelude.{ℕ, ◌^◌, ◌==◌, ◌&&◌, ◌||◌, not, Bool, true, false, nat_lt, List, [], ◌∷◌, length, Option, Some, None, IsTrue, codes, take, drop}
use Rattle.std.specs.List.{list_all, list_any}
use Rattle.std.specs.Str.{bytes_eq}
use Rattle.va_base.specs.Numerals.{number_of, is_within_limits}
use Rattle.va_base.specs.Spelling.{is_digit}
use Rattle.c_tree.specs.declared.body.CAtom.{CAtom}
use Rattle.c_tree.specs.declared.body.CAtom.TheVariants as atom
use Rattle.c_tree.specs.declared.body.CCallee.{CCallee}
use Rattle.c_tree.specs.declared.body.CCallee.TheVariants as callee
use Rattle.c_tree.specs.declared.body.CCell.{CCell}
use Rattle.c_tree.specs.declared.body.CField.{CField}
use Rattle.c_tree.specs.declared.body.CField.TheVariants.{Param, Given, Resist, React, EntryResist, EntryReact, OpVar, Stored, Temperature}
use Rattle.c_tree.specs.declared.body.CRight.{CRight}
use Rattle.c_tree.specs.declared.body.CRight.TheVariants as right
use Rattle.c_tree.specs.declared.body.CSimple.{CSimple}
use Rattle.c_tree.specs.declared.body.CSimple.TheVariants.{Constant, Join, Head, Assign, SetCell, SetCollapse, Report}
use Rattle.c_tree.specs.declared.body.CStatement.{CStatement}
use Rattle.c_tree.specs.declared.body.CStatement.TheVariants.{Simple, If, For}
use Rattle.c_tree.specs.declared.file.AccessRow.{AccessRow}
use Rattle.c_tree.specs.declared.file.CArgument.{CArgument}
use Rattle.c_tree.specs.declared.file.CFile.{CFile}
use Rattle.c_tree.specs.declared.file.CFunction.{CFunction}
use Rattle.c_tree.specs.declared.file.CModule.{CModule}
use Rattle.c_tree.specs.declared.load.CLoad.{CLoad}
use Rattle.c_tree.specs.declared.load.LoadFactor.{LoadFactor}
use Rattle.c_tree.specs.declared.load.LoadFactor.TheVariants as factor
use Rattle.c_tree.specs.declared.load.LoadTarget.{LoadTarget}
use Rattle.c_tree.specs.declared.load.LoadTarget.TheVariants as target
use Rattle.c_tree.specs.declared.table.EntryRow.{EntryRow}
use Rattle.c_tree.specs.declared.table.FieldRow.{FieldRow}
use Rattle.c_tree.specs.declared.table.NodeRow.{NodeRow}
use Rattle.c_tree.specs.declared.table.PairRow.{PairRow}
use Rattle.c_tree.specs.declared.table.ParamRow.{ParamRow}
use Rattle.c_tree.specs.Blocks.{HasBlocks}
use Rattle.c_tree.specs.Text.{load_functions, loads_of}

-- the numbers in names and of the form `3u`, and those of the form `3`
abbrev pub is_unsigned : ℕ → Bool
is_unsigned n = nat_lt n (2 ^ 32)

abbrev pub is_integer : ℕ → Bool
is_integer n = nat_lt n (2 ^ 31)

-- a name or a text: any bytes
abbrev pub are_bytes : List ℕ → Bool
are_bytes = list_all (λ byte. nat_lt byte 256)

-- a list of so many elements can be numbered, and its length written
abbrev pub is_counted : {T : Type 0} → List T → Bool
is_counted elements = is_unsigned (length elements)

abbrev pub spells_field : CField → Bool
spells_field (Param i) = is_unsigned i
spells_field (Given i) = is_unsigned i
spells_field (Resist i) = is_unsigned i
spells_field (React i) = is_unsigned i
spells_field (EntryResist i) = is_unsigned i
spells_field (EntryReact i) = is_unsigned i
spells_field (OpVar i) = is_unsigned i
spells_field (Stored i) = is_unsigned i
spells_field Temperature = true

abbrev pub spells_cell : CCell → Bool
spells_cell cell = spells_field cell.field

abbrev pub spells_atom : CAtom → Bool
spells_atom (atom.Local i) = is_unsigned i
spells_atom (atom.Argument i) = is_unsigned i
spells_atom (atom.Integer i) = is_integer i
spells_atom (atom.Real d) = is_within_limits d
spells_atom (atom.Cell cell) = spells_cell cell
spells_atom (atom.Unknown i) = is_unsigned i

abbrev pub spells_callee : CCallee → Bool
spells_callee (callee.Fun1 f) = true
spells_callee (callee.Fun2 f) = true
spells_callee (callee.Function j) = is_unsigned j

abbrev pub spells_right : CRight → Bool
spells_right (right.Same a) = spells_atom a
spells_right (right.Negated a) = spells_atom a
spells_right (right.Contrary a) = spells_atom a
spells_right (right.ToReal a) = spells_atom a
spells_right (right.ToInteger a) = spells_atom a
spells_right (right.Call f args) = spells_callee f && list_all spells_atom args
spells_right (right.Binary a op b) = spells_atom a && spells_atom b

abbrev pub spells_simple : CSimple → Bool
spells_simple (Constant ty i side) = is_unsigned i && spells_right side
spells_simple (Join ty i) = is_unsigned i
spells_simple (Head ty i first) = is_unsigned i && spells_atom first
spells_simple (Assign i value) = is_unsigned i && spells_atom value
spells_simple (SetCell cell value) = spells_cell cell && spells_atom value
spells_simple (SetCollapse pair value) = is_unsigned pair && spells_atom value
spells_simple (Report id) = is_unsigned id

abbrev pub spells_statement : CStatement → Bool
spells_statement (Simple s) = spells_simple s
spells_statement (If test first second) = spells_atom test
spells_statement (For before test turn) = spells_atom test

abbrev pub spells_function : CFunction → Bool
spells_function f =
    list_all (λ argument. is_unsigned (CArgument.number argument)) f.arguments && list_all spells_statement f.body
    && spells_atom f.value

abbrev pub spells_flag : Option CCell → Bool
spells_flag None = true
spells_flag (Some cell) = spells_cell cell

abbrev pub spells_access : AccessRow → Bool
spells_access row = is_unsigned row.id && spells_flag row.flag && spells_cell row.cell

abbrev pub spells_target : LoadTarget → Bool
spells_target (target.Node i) = is_unsigned i
spells_target (target.EntryResist e) = is_unsigned e
spells_target (target.EntryReact e) = is_unsigned e

abbrev pub spells_factor : LoadFactor → Bool
spells_factor factor.Alpha = true
spells_factor (factor.Cell field) = spells_field field
spells_factor (factor.Solution i) = is_unsigned i

abbrev pub spells_load : CLoad → Bool
spells_load load = spells_target load.target && spells_factor load.first && list_all spells_factor load.more

-- a number without leading zeros
abbrev pub is_number_text : List ℕ → Bool
is_number_text [] = false
is_number_text (c ∷ []) = is_digit c
is_number_text (c ∷ d ∷ rest) =
    not (c == 48) && list_all is_digit (c ∷ d ∷ rest) && is_unsigned (number_of (c ∷ d ∷ rest))

-- certain letters, and a number
abbrev pub is_lettered : List ℕ → List ℕ → Bool
is_lettered name letters = bytes_eq (take (length letters) name) letters && is_number_text (drop (length letters) name)

-- the names that fields of structs may have
abbrev pub is_field_name : List ℕ → Bool
is_field_name name =
    list_any (is_lettered name)
    (codes "p" ∷ codes "g" ∷ codes "r" ∷ codes "q" ∷ codes "er" ∷ codes "eq" ∷ codes "o" ∷ codes "h" ∷ [])

abbrev pub spells_row : FieldRow → Bool
spells_row field = is_field_name field.name

abbrev pub spells_node : NodeRow → Bool
spells_node node =
    are_bytes node.name && are_bytes node.units && are_bytes node.residual_units && is_integer node.is_flow

-- an entry has a part
abbrev pub spells_entry : EntryRow → Bool
spells_entry entry = is_unsigned entry.row && is_unsigned entry.col && (entry.resist || entry.react)

abbrev pub spells_second : Option ℕ → Bool
spells_second None = true
spells_second (Some node) = is_unsigned node

abbrev pub spells_pair : PairRow → Bool
spells_pair pair = is_unsigned pair.first && spells_second pair.second

-- a parameter has a name
abbrev pub spells_param : ParamRow → Bool
spells_param p =
    nat_lt 0 (length p.names) && is_counted p.names && list_all are_bytes p.names && are_bytes p.description && are_bytes p.units

abbrev pub spells_tables : CModule → Bool
spells_tables m =
    are_bytes m.name && is_unsigned m.ports && is_counted m.nodes && list_all spells_node m.nodes && is_counted m.entries
    && list_all spells_entry m.entries && is_counted m.collapse && list_all spells_pair m.collapse && is_counted m.params
    && list_all spells_param m.params && list_all spells_row m.model_fields && list_all spells_row m.inst_fields

abbrev pub spells_bodies : CModule → Bool
spells_bodies m =
    is_counted m.functions && list_all spells_function m.functions && list_all spells_access m.access
    && list_all spells_statement m.setup_model && list_all spells_statement m.setup_instance && list_all spells_statement m.eval
    && list_all (λ f. list_all spells_load (loads_of m.loads f)) load_functions

-- each element of a list
abbrev pub EachHas : {T : Type 0} → (T → Type 0) → List T → Type 0
EachHas P [] = Unit {0}
EachHas P (x ∷ rest) = P x × EachHas P rest

-- the numbers of statements in blocks fit
pub record HaveBlocks (m : CModule) : Type 0 where
  pub functions : EachHas (λ f. HasBlocks (CFunction.body f)) m.functions
  pub setup_model : HasBlocks m.setup_model
  pub setup_instance : HasBlocks m.setup_instance
  pub eval : HasBlocks m.eval

-- the file can be spelled
pub record CanBeSpelled (f : CFile) : Type 0 where
  pub modules : IsTrue (is_counted f.modules)
  pub tables : IsTrue (list_all spells_tables f.modules)
  pub bodies : IsTrue (list_all spells_bodies f.modules)
  pub blocks : EachHas HaveBlocks f.modules
