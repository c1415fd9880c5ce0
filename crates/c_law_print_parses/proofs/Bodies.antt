-- The trees of statements and bodies, each with the words that it spells.
use Rattle.std.proofs.Common.{◌≡◌, ℕ, List, [], ◌++◌, refl, ap, sym, ◌∙◌, append_assoc}
use Rattle.std.specs.Prelude.{Bool, true, ◌&&◌, codes}
use Rattle.std.specs.List.{list_all}
use Rattle.std.proofs.lemmas.Bool.{and_parts, and_from}
use Rattle.std.proofs.lemmas.List.{append-nil}
use Rattle.std.proofs.lemmas.List.Folds.{list_all-append}
use Rattle.alg_laws.specs.declared.number.Ty.{Ty}
use Rattle.predict.specs.Tree.{Tree}
use Rattle.c_tree.specs.declared.body.CAtom.{CAtom}
use Rattle.c_tree.specs.declared.body.CField.{CField}
use Rattle.c_tree.specs.declared.body.CSimple.{CSimple}
use Rattle.c_tree.specs.declared.body.CSimple.TheVariants.{Constant, Join, Head, Assign, SetCell, SetCollapse, Report}
use Rattle.c_tree.specs.declared.body.CStatement.{CStatement}
use Rattle.c_tree.specs.declared.body.Level.{Level}
use Rattle.c_tree.specs.declared.body.Level.TheVariants.{Instance, Model}
use Rattle.c_tree.specs.Blocks.{Block, done, simple, choice, loop, flat_of, block_of, HasBlocks}
use Rattle.c_tree.specs.Spelling.{is_unsigned, spells_field, spells_cell, spells_atom, spells_right, spells_simple, spells_statement}
use Rattle.c_tree.specs.Text.{type_word, field_word, level_word, atom_words, local_word, simple_words, choice_opens, leave_words, block_words, body_words}
use Rattle.c_tree.specs.Words.{Word, template, word, unsigned}
use Rattle.c_law_print_parses.proofs.Lefts.{type_left, statement_left, statements_left, first_value_left, if_rest_left, instance_target_left}
use Rattle.c_raw_build.specs.RowNumbers.{statements_row, no_statements_row, constant_row, declared_row, assigned_row, if_row, for_row, set_model_row, set_instance_row, report_row, first_value_row, no_first_value_row, break_row, two_arms_row, field_target_row, collapse_target_row}
use Rattle.c_law_words.proofs.Listed.{row_list, name_list}
use Rattle.c_law_words.proofs.Pieces.{◌▹◌, Writes, Pieces, fixed, named, part, ◌⋄◌, line, row_tree, row_written}
use Rattle.c_law_words.proofs.Names as names
use Rattle.c_law_print_parses.proofs.Atoms.{written_as, type_tree, type_written, field_written, field_part, number_part, number_written, atom_part, atom_written, right_part, right_written}

abbrev pub type_part : Ty → Pieces
type_part ty = part type_left (type_tree ty) (word (type_word ty))

-- FirstValue
abbrev pub no_first_value : Tree
no_first_value = row_tree no_first_value_row (fixed [])

pub no_first_value_written : Writes first_value_left no_first_value []
unfolding row_list
no_first_value_written = row_written first_value_left no_first_value_row (fixed []) refl tt

abbrev pub first_value_tree : CAtom → Tree
first_value_tree a = row_tree first_value_row (line (codes "=") ⋄ atom_part a)

pub first_value_written : (a : CAtom) → spells_atom a ≡ true → Writes first_value_left (first_value_tree a) (word (codes "=") ++ atom_words a)
unfolding row_list name_list template
first_value_written a h = row_written first_value_left first_value_row (line (codes "=") ⋄ atom_part a) refl (atom_written a h, tt)

-- InstanceTarget
pub field_target_written : (f : CField) → spells_field f ≡ true → Writes instance_target_left (row_tree field_target_row (field_part f)) (word (field_word f))
unfolding row_list
field_target_written f h = row_written instance_target_left field_target_row (field_part f) refl (field_written f h, tt)

abbrev pub flag_pieces : ℕ → Pieces
flag_pieces pair = line (codes "col [") ⋄ number_part pair ⋄ line (codes "]")

abbrev pub flag_words : ℕ → List Word
flag_words pair = template (codes "col [") ++ word (unsigned pair) ++ word (codes "]")

pub flag_target_written : (pair : ℕ) → is_unsigned pair ≡ true → Writes instance_target_left (row_tree collapse_target_row (flag_pieces pair)) (flag_words pair)
unfolding row_list name_list template
flag_target_written pair h = row_written instance_target_left collapse_target_row (flag_pieces pair) refl (number_written pair h, tt)

-- Statement, one without blocks
abbrev pub local_part : ℕ → Pieces
local_part i = named 12 (local_word i)

abbrev pub constant_pieces : ℕ → CSimple → Pieces
constant_pieces k (Constant ty i side) = line (codes "const") ⋄ type_part ty ⋄ local_part i ⋄ line (codes "=") ⋄ right_part k side ⋄ line (codes ";")
constant_pieces k (Join ty i) = type_part ty ⋄ local_part i ⋄ part first_value_left no_first_value [] ⋄ line (codes ";")
constant_pieces k (Head ty i first) =
    type_part ty ⋄ local_part i ⋄ part first_value_left (first_value_tree first) (word (codes "=") ++ atom_words first) ⋄ line (codes ";")
constant_pieces k (Assign i value) = local_part i ⋄ line (codes "=") ⋄ atom_part value ⋄ line (codes ";")
constant_pieces k (SetCell cell value) = fixed []
constant_pieces k (SetCollapse pair value) =
    line (codes "inst ->") ⋄ part instance_target_left (row_tree collapse_target_row (flag_pieces pair)) (flag_words pair) ⋄ line (codes "=") ⋄ atom_part value
    ⋄ line (codes ";")
constant_pieces k (Report id) = line (codes "init_error ( res ,") ⋄ number_part id ⋄ line (codes ") ;")

abbrev pub set_instance_pieces : CField → CAtom → Pieces
set_instance_pieces f value =
    line (codes "inst ->") ⋄ part instance_target_left (row_tree field_target_row (field_part f)) (word (field_word f)) ⋄ line (codes "=") ⋄ atom_part value ⋄ line (codes ";")

abbrev pub set_model_pieces : CField → CAtom → Pieces
set_model_pieces f value = line (codes "model ->") ⋄ field_part f ⋄ line (codes "=") ⋄ atom_part value ⋄ line (codes ";")

abbrev pub set_tree : Level → CField → CAtom → Tree
set_tree Instance f value = row_tree set_instance_row (set_instance_pieces f value)
set_tree Model f value = row_tree set_model_row (set_model_pieces f value)

abbrev pub simple_tree : ℕ → CSimple → Tree
simple_tree k (Constant ty i side) = row_tree constant_row (constant_pieces k (Constant ty i side))
simple_tree k (Join ty i) = row_tree declared_row (constant_pieces k (Join ty i))
simple_tree k (Head ty i first) = row_tree declared_row (constant_pieces k (Head ty i first))
simple_tree k (Assign i value) = row_tree assigned_row (constant_pieces k (Assign i value))
simple_tree k (SetCell cell value) = set_tree cell.level cell.field value
simple_tree k (SetCollapse pair value) = row_tree set_instance_row (constant_pieces k (SetCollapse pair value))
simple_tree k (Report id) = row_tree report_row (constant_pieces k (Report id))

set_written : (level : Level) (f : CField) (value : CAtom) → spells_field f ≡ true → spells_atom value ≡ true
    → Writes statement_left (set_tree level f value) (word (level_word level) ++ word (codes "->") ++ word (field_word f) ++ word (codes "=") ++ atom_words value ++ word (codes ";"))
unfolding row_list name_list template
set_written Instance f value h g = row_written statement_left set_instance_row (set_instance_pieces f value) refl (field_target_written f h
    ▹ atom_written value g ▹ tt)
set_written Model f value h g = row_written statement_left set_model_row (set_model_pieces f value) refl (field_written f h
    ▹ atom_written value g ▹ tt)

pub simple_written : (k : ℕ) (s : CSimple) → is_unsigned k ≡ true → spells_simple s ≡ true → Writes statement_left (simple_tree k s) (simple_words k s)
unfolding row_list name_list template
simple_written k (Constant ty i side) u h =
    let p = and_parts (is_unsigned i) (spells_right side) h in
    row_written statement_left constant_row (constant_pieces k (Constant ty i side)) refl (type_written ty
    ▹ names.local_word i p.0 ▹ right_written k side u p.1 ▹ tt)
simple_written k (Join ty i) u h =
    row_written statement_left declared_row (constant_pieces k (Join ty i)) refl (type_written ty
    ▹ names.local_word i h ▹ no_first_value_written ▹ tt)
simple_written k (Head ty i first) u h =
    let p = and_parts (is_unsigned i) (spells_atom first) h in
    row_written statement_left declared_row (constant_pieces k (Head ty i first)) refl (type_written ty
    ▹ names.local_word i p.0 ▹ first_value_written first p.1 ▹ tt)
simple_written k (Assign i value) u h =
    let p = and_parts (is_unsigned i) (spells_atom value) h in
    row_written statement_left assigned_row (constant_pieces k (Assign i value)) refl (names.local_word i p.0
    ▹ atom_written value p.1 ▹ tt)
simple_written k (SetCell cell value) u h =
    let p = and_parts (spells_cell cell) (spells_atom value) h in
    set_written cell.level cell.field value p.0 p.1
simple_written k (SetCollapse pair value) u h =
    let p = and_parts (is_unsigned pair) (spells_atom value) h in
    row_written statement_left set_instance_row (constant_pieces k (SetCollapse pair value)) refl (flag_target_written pair p.0
    ▹ atom_written value p.1 ▹ tt)
simple_written k (Report id) u h = row_written statement_left report_row (constant_pieces k (Report id)) refl (number_written id h, tt)

-- Statements: those of a block, and others behind it
abbrev pub no_statements : Tree
no_statements = row_tree no_statements_row (fixed [])

pub no_statements_written : Writes statements_left no_statements []
unfolding row_list
no_statements_written = row_written statements_left no_statements_row (fixed []) refl tt

-- a statement before others
abbrev pub before : Tree → List Word → Tree → List Word → Pieces
before first us rest ws = part statement_left first us ⋄ part statements_left rest ws

pub before_written : (first rest : Tree) (us ws : List Word) → Writes statement_left first us → Writes statements_left rest ws
    → Writes statements_left (row_tree statements_row (before first us rest ws)) (us ++ ws)
unfolding row_list
before_written first rest us ws a b = row_written statements_left statements_row (before first us rest ws) refl (a ▹ b
    ▹ tt)

-- `if` with two arms, of which these are the trees and words
abbrev pub arms_words : CAtom → List Word → List Word → List Word
arms_words test us ws = atom_words test ++ template (codes ") {") ++ us ++ template (codes "} else {") ++ ws ++ word (codes "}")

abbrev pub arms_pieces : CAtom → Tree → List Word → Tree → List Word → Pieces
arms_pieces test first us second ws =
    atom_part test ⋄ line (codes ") {") ⋄ part statements_left first us ⋄ line (codes "} else {") ⋄ part statements_left second ws ⋄ line (codes "}")

abbrev pub choice_pieces : CAtom → Tree → List Word → Tree → List Word → Pieces
choice_pieces test first us second ws = line (codes "if (") ⋄ part if_rest_left (row_tree two_arms_row (arms_pieces test first us second ws)) (arms_words test us ws)

pub choice_written : (test : CAtom) (first second : Tree) (us ws : List Word) → spells_atom test ≡ true → Writes statements_left first us → Writes statements_left second ws
    → Writes statement_left (row_tree if_row (choice_pieces test first us second ws)) (choice_opens test ++ us ++ template (codes "} else {") ++ ws ++ word (codes "}"))
unfolding row_list name_list template
choice_written test first second us ws h a b =
    row_written statement_left if_row (choice_pieces test first us second ws) refl (
      row_written if_rest_left two_arms_row (arms_pieces test first us second ws) refl (atom_written test h ▹ a ▹ b
          ▹ tt),
      tt,
    )

-- `if ( ! test ) { break ; }`
abbrev pub leave_rest : CAtom → List Word
leave_rest test = word (codes "!") ++ atom_words test ++ template (codes ") { break ; }")

abbrev pub break_pieces : CAtom → Pieces
break_pieces test = line (codes "!") ⋄ atom_part test ⋄ line (codes ") { break ; }")

abbrev pub leave_pieces : CAtom → Pieces
leave_pieces test = line (codes "if (") ⋄ part if_rest_left (row_tree break_row (break_pieces test)) (leave_rest test)

pub leave_written : (test : CAtom) → spells_atom test ≡ true → Writes statement_left (row_tree if_row (leave_pieces test)) (leave_words test)
unfolding row_list name_list template
leave_written test h =
    row_written statement_left if_row (leave_pieces test) refl (row_written if_rest_left break_row (break_pieces test) refl (atom_written test h, tt), tt)

-- `for` with these statements
abbrev pub loop_pieces : Tree → List Word → Pieces
loop_pieces body ws = line (codes "for ( ; ; ) {") ⋄ part statements_left body ws ⋄ line (codes "}")

pub loop_written : (body : Tree) (ws : List Word) → Writes statements_left body ws
    → Writes statement_left (row_tree for_row (loop_pieces body ws)) (template (codes "for ( ; ; ) {") ++ ws ++ word (codes "}"))
unfolding row_list name_list template
loop_written body ws a = row_written statement_left for_row (loop_pieces body ws) refl (a, tt)

-- the statements of a block before those of a tree, which spells these words
abbrev pub statements_tree : ℕ → Block → Tree → List Word → Tree
statements_tree k done t ws = t
statements_tree k (simple s rest) t ws =
    row_tree statements_row (before (simple_tree k s) (simple_words k s) (statements_tree k rest t ws) (block_words k rest ++ ws))
statements_tree k (choice test first second rest) t ws =
    row_tree statements_row (before
    (row_tree if_row (choice_pieces test (statements_tree k first no_statements []) (block_words k first) (statements_tree k second no_statements []) (block_words k second)))
    (choice_opens test ++ block_words k first ++ template (codes "} else {") ++ block_words k second ++ word (codes "}"))
    (statements_tree k rest t ws) (block_words k rest ++ ws))
statements_tree k (loop start test turn rest) t ws =
    let turn_tree = statements_tree k turn no_statements [] in
    let leave_tree = row_tree statements_row (before (row_tree if_row (leave_pieces test)) (leave_words test) turn_tree (block_words k turn)) in
    let body = statements_tree k start leave_tree (leave_words test ++ block_words k turn) in
    row_tree statements_row (before
    (row_tree for_row (loop_pieces body (block_words k start ++ (leave_words test ++ block_words k turn))))
    (template (codes "for ( ; ; ) {") ++ (block_words k start ++ (leave_words test ++ block_words k turn)) ++ word (codes "}"))
    (statements_tree k rest t ws) (block_words k rest ++ ws))

-- whether a block's statements can be spelled
abbrev pub spells_block : Block → Bool
spells_block done = true
spells_block (simple s rest) = spells_simple s && spells_block rest
spells_block (choice test first second rest) = spells_atom test && spells_block first && spells_block second && spells_block rest
spells_block (loop start test turn rest) = spells_atom test && spells_block start && spells_block turn && spells_block rest

three_parts : (xs ys zs : List CStatement) → list_all spells_statement (xs ++ ys ++ zs) ≡ true
    → (list_all spells_statement xs ≡ true) × (list_all spells_statement ys ≡ true) × (list_all spells_statement zs ≡ true)
three_parts xs ys zs h =
    let p = and_parts (list_all spells_statement (xs ++ ys)) (list_all spells_statement zs) (sym (list_all-append spells_statement (xs ++ ys) zs) ∙ h) in
    let q = and_parts (list_all spells_statement xs) (list_all spells_statement ys) (sym (list_all-append spells_statement xs ys) ∙ p.0) in
    (q.0, q.1, p.1)

four_tests : (a b c d : Bool) → a ≡ true → b ≡ true → c ≡ true → d ≡ true → (a && b && c && d) ≡ true
four_tests a b c d x y z w = and_from (a && b && c) d (and_from (a && b) c (and_from a b x y) z) w

pub flat_spells : (b : Block) → list_all spells_statement (flat_of b) ≡ true → spells_block b ≡ true
flat_spells done h = refl
flat_spells (simple s rest) h =
    let p = and_parts (spells_simple s) (list_all spells_statement (flat_of rest)) h in
    and_from (spells_simple s) (spells_block rest) p.0 (flat_spells rest p.1)
flat_spells (choice test first second rest) h =
    let p = and_parts (spells_atom test) (list_all spells_statement (flat_of first ++ flat_of second ++ flat_of rest)) h in
    let q = three_parts (flat_of first) (flat_of second) (flat_of rest) p.1 in
    four_tests (spells_atom test) (spells_block first) (spells_block second) (spells_block rest) p.0 (flat_spells first q.0) (flat_spells second q.1) (flat_spells rest q.2)
flat_spells (loop start test turn rest) h =
    let p = and_parts (spells_atom test) (list_all spells_statement (flat_of start ++ flat_of turn ++ flat_of rest)) h in
    let q = three_parts (flat_of start) (flat_of turn) (flat_of rest) p.1 in
    four_tests (spells_atom test) (spells_block start) (spells_block turn) (spells_block rest) p.0 (flat_spells start q.0) (flat_spells turn q.1) (flat_spells rest q.2)

pub record FourTests (a b c d : Bool) : Type 0 where
  pub first : a ≡ true
  pub second : b ≡ true
  pub third : c ≡ true
  pub fourth : d ≡ true

pub four_parts : (a b c d : Bool) → (a && b && c && d) ≡ true → FourTests a b c d
four_parts a b c d h =
    let p = and_parts (a && b && c) d h in
    let q = and_parts (a && b) c p.0 in
    let r = and_parts a b q.0 in
    record { first = r.0; second = r.1; third = q.1; fourth = p.1 }

-- the words of a loop, however they are grouped
pub loop_words : (k : ℕ) (start : Block) (test : CAtom) (turn : Block)
    → template (codes "for ( ; ; ) {") ++ (block_words k start ++ (leave_words test ++ block_words k turn)) ++ word (codes "}")
    ≡ template (codes "for ( ; ; ) {") ++ block_words k start ++ leave_words test ++ block_words k turn ++ word (codes "}")
loop_words k start test turn =
    let opens = template (codes "for ( ; ; ) {") in
    ap (λ l. l ++ word (codes "}")) (sym (append_assoc opens (block_words k start) (leave_words test ++ block_words k turn))
    ∙ sym (append_assoc (opens ++ block_words k start) (leave_words test) (block_words k turn)))

pub statements_written : (k : ℕ) (b : Block) (t : Tree) (ws : List Word) → is_unsigned k ≡ true → spells_block b ≡ true → Writes statements_left t ws
    → Writes statements_left (statements_tree k b t ws) (block_words k b ++ ws)
statements_written k done t ws u h w = w
statements_written k (simple s rest) t ws u h w =
    let p = and_parts (spells_simple s) (spells_block rest) h in
    written_as (before_written (simple_tree k s) (statements_tree k rest t ws) (simple_words k s) (block_words k rest ++ ws) (simple_written k s u p.0) (statements_written k rest t ws u p.1 w))
    (sym (append_assoc (simple_words k s) (block_words k rest) ws))
statements_written k (choice test first second rest) t ws u h w =
    let p = four_parts (spells_atom test) (spells_block first) (spells_block second) (spells_block rest) h in
    let a = written_as (statements_written k first no_statements [] u p.second no_statements_written) (append-nil (block_words k first)) in
    let b = written_as (statements_written k second no_statements [] u p.third no_statements_written) (append-nil (block_words k second)) in
    let s = choice_written test (statements_tree k first no_statements []) (statements_tree k second no_statements []) (block_words k first) (block_words k second) p.first a b in
    let front = choice_opens test ++ block_words k first ++ template (codes "} else {") ++ block_words k second ++ word (codes "}") in
    written_as (before_written _ (statements_tree k rest t ws) front (block_words k rest ++ ws) s (statements_written k rest t ws u p.fourth w))
    (sym (append_assoc front (block_words k rest) ws))
statements_written k (loop start test turn rest) t ws u h w =
    let p = four_parts (spells_atom test) (spells_block start) (spells_block turn) (spells_block rest) h in
    let turn_tree = statements_tree k turn no_statements [] in
    let leave_tree = row_tree statements_row (before (row_tree if_row (leave_pieces test)) (leave_words test) turn_tree (block_words k turn)) in
    let a = written_as (statements_written k turn no_statements [] u p.third no_statements_written) (append-nil (block_words k turn)) in
    let l = before_written (row_tree if_row (leave_pieces test)) turn_tree (leave_words test) (block_words k turn) (leave_written test p.first) a in
    let b = statements_written k start leave_tree (leave_words test ++ block_words k turn) u p.second l in
    let inside = block_words k start ++ (leave_words test ++ block_words k turn) in
    let s = loop_written (statements_tree k start leave_tree (leave_words test ++ block_words k turn)) inside b in
    let opens = template (codes "for ( ; ; ) {") in
    let front = opens ++ inside ++ word (codes "}") in
    let same = loop_words k start test turn in
    written_as (before_written _ (statements_tree k rest t ws) front (block_words k rest ++ ws) s (statements_written k rest t ws u p.fourth w))
    (sym (append_assoc front (block_words k rest) ws) ∙ ap (λ l. l ++ block_words k rest ++ ws) same)

-- the statements of a body
abbrev pub body_tree : ℕ → List CStatement → Tree
body_tree k body = statements_tree k (block_of body) no_statements []

pub body_written : (k : ℕ) (body : List CStatement) → is_unsigned k ≡ true → list_all spells_statement body ≡ true → HasBlocks body
    → Writes statements_left (body_tree k body) (body_words k body)
body_written k body u h has =
    let spelled = flat_spells (block_of body) (ap (list_all spells_statement) has ∙ h) in
    written_as (statements_written k (block_of body) no_statements [] u spelled no_statements_written) (append-nil (block_words k (block_of body)))

abbrev pub body_part : ℕ → List CStatement → Pieces
body_part k body = part statements_left (body_tree k body) (body_words k body)
