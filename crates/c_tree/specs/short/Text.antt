-- The text of a short C file: its words, each followed by a space or a line end. A name that ends with K belongs to module
-- number K of the file; a host reaches each part through the field of the OSDI struct that is named beside it.
use Rattle.std.specs.Prelude.{ℕ, zero, suc, List, [], ◌++◌, codes}
use Rattle.std.specs.List.{flat_map, enumerate_from}
pub use Rattle.c_tree.specs.Words.{Word, ends_line, spelled, numbered, unsigned, word, array_length}
unfoldable pub use Rattle.c_tree.specs.Words.{spaced, template, include_words, cast_words}
use Rattle.c_tree.specs.declared.short.Field.{Field}
use Rattle.c_tree.specs.declared.short.Field.TheVariants.{Param, Row}
use Rattle.c_tree.specs.declared.short.Atom.{Atom}
use Rattle.c_tree.specs.declared.short.Atom.TheVariants as atom
use Rattle.c_tree.specs.declared.short.Operator.{Operator}
use Rattle.c_tree.specs.declared.short.Operator.TheVariants.{Plus, Minus, Times, Over}
use Rattle.c_tree.specs.declared.short.Right.{Right}
use Rattle.c_tree.specs.declared.short.Right.TheVariants.{Same, Negated, Binary}
use Rattle.c_tree.specs.declared.short.Statement.{Statement}
use Rattle.c_tree.specs.declared.short.Statement.TheVariants.{Declare, Set}
use Rattle.c_tree.specs.declared.short.Load.{Load}
use Rattle.c_tree.specs.declared.short.ShortModule.{ShortModule}

-- a field of the instance: `p3` for parameter 3, `r3` for row 3
abbrev pub field_word : Field → Word
field_word (Param i) = numbered (codes "p") i
field_word (Row i) = numbered (codes "r") i

-- where one value is wanted
abbrev pub atom_words : Atom → List Word
atom_words (atom.Local i) = word (numbered (codes "v") i)
atom_words (atom.Field field) = template (codes "inst ->") ++ word (field_word field)
atom_words (atom.Unknown i) = template (codes "x [ inst -> node [") ++ word (unsigned i) ++ template (codes "] ]")

-- an operator between two doubles
abbrev pub operator_word : Operator → Word
operator_word Plus = codes "+"
operator_word Minus = codes "-"
operator_word Times = codes "*"
operator_word Over = codes "/"

-- the right side of a declaration
abbrev pub right_words : Right → List Word
right_words (Same a) = atom_words a
right_words (Negated a) = word (codes "-") ++ atom_words a
right_words (Binary a op b) = atom_words a ++ word (operator_word op) ++ atom_words b

-- a statement of an evaluation
abbrev pub statement_words : Statement → List Word
statement_words (Declare i right) =
    template (codes "const double") ++ word (numbered (codes "v") i) ++ word (codes "=") ++ right_words right
    ++ word (codes ";")
statement_words (Set field value) =
    template (codes "inst ->") ++ word (field_word field) ++ word (codes "=") ++ atom_words value ++ word (codes ";")

-- a statement of a load: it adds a row to the target to which an unknown is mapped
unfoldable pub load_words : Load → List Word
load_words load =
    template (codes "dst [ inst -> node [") ++ word (unsigned load.unknown) ++ template (codes "] ] += inst ->")
    ++ word (field_word (Row load.row)) ++ word (codes ";")

-- the declarations of so many fields, numbered from 0 on
abbrev pub fields_words : List ℕ → ℕ → List Word
fields_words name zero = []
fields_words name (suc n) = fields_words name n ++ word (codes "double") ++ word (numbered name n) ++ word (codes ";")

-- The model's struct (OsdiDescriptor.model_size) and the instance's (instance_size). Of the instance, `node` is at
-- node_mapping_offset, `jr` at jacobian_ptr_resist_offset, an element of `jq` at OsdiJacobianEntry.react_ptr_off, `col` at
-- collapsed_offset, and a row at OsdiNode.resist_residual_off. A short file lists no entries of the Jacobian and no
-- collapsible pairs.
unfoldable pub structs_words : ℕ → ShortModule → List Word
structs_words k m =
    template (codes "typedef struct { uint32_t tag ; }") ++ word (numbered (codes "model_") k) ++ word (codes ";")
    ++ template (codes "typedef struct { uint32_t node [") ++ word (unsigned (array_length m.unknowns))
    ++ template (codes "] ; double * jr [ 1u ] ; double * jq [ 1u ] ; _Bool col [ 1u ] ; double temp ;")
    ++ fields_words (codes "p") m.params ++ fields_words (codes "r") m.unknowns
    ++ word (codes "}") ++ word (numbered (codes "inst_") k) ++ word (codes ";")

-- the evaluation (OsdiDescriptor.eval), at the solution that OsdiSimInfo.prev_solve holds
unfoldable pub eval_words : ℕ → ShortModule → List Word
eval_words k m =
    template (codes "static uint32_t") ++ word (numbered (codes "eval_") k)
    ++ template (codes "( void * handle , void * ip , void * mp , OsdiSimInfo * info ) {")
    ++ cast_words (codes "inst_") (codes "inst") (codes "ip") k
    ++ cast_words (codes "model_") (codes "model") (codes "mp") k
    ++ template (codes "const double * x = info -> prev_solve ;")
    ++ flat_map statement_words m.eval ++ template (codes "return 0u ; }")

-- the load of the resistive residuals (OsdiDescriptor.load_residual_resist)
unfoldable pub loads_words : ℕ → ShortModule → List Word
loads_words k m =
    template (codes "static void") ++ word (numbered (codes "load_residual_resist_") k)
    ++ template (codes "( void * ip , void * mp , double * dst ) {")
    ++ cast_words (codes "inst_") (codes "inst") (codes "ip") k
    ++ flat_map load_words m.loads ++ word (codes "}")

-- a module under its number
unfoldable pub module_words : ℕ → ShortModule → List Word
module_words k m = structs_words k m ++ eval_words k m ++ loads_words k m

-- the text of a file of these modules, which are numbered from 0 on
unfoldable pub text_of : List ShortModule → List ℕ
text_of modules = spelled (include_words ++ flat_map (λ p. module_words p.0 p.1) (enumerate_from 0 modules))
