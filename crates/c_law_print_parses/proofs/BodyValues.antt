-- What the trees of statements and bodies stand for in a text where their words stand.
use Rattle.std.proofs.Common.{◌≡◌, ◌+◌, ℕ, List, [], ◌++◌, length, refl, ap, sym, subst, ◌∙◌, arith, append_assoc}
use Rattle.std.specs.Prelude.{true, codes}
use Rattle.std.specs.List.{list_all}
use Rattle.std.proofs.lemmas.Bool.{and_parts}
use Rattle.std.proofs.lemmas.List.{append-nil, length-append}
use Rattle.predict.specs.Tree.{Tree}
use Rattle.va_base.specs.Numerals.{number_of}
use Rattle.c_tree.specs.declared.body.CAtom.{CAtom}
use Rattle.c_tree.specs.declared.body.CCell.{CCell}
use Rattle.c_tree.specs.declared.body.CField.{CField}
use Rattle.c_tree.specs.declared.body.CSimple.{CSimple}
use Rattle.c_tree.specs.declared.body.CSimple.TheVariants.{Constant, Join, Head, Assign, SetCell, SetCollapse, Report}
use Rattle.c_tree.specs.declared.body.CStatement.{CStatement}
use Rattle.c_tree.specs.declared.body.Level.{Level}
use Rattle.c_tree.specs.declared.body.Level.TheVariants.{Instance, Model}
use Rattle.c_tree.specs.Blocks as blocks
use Rattle.c_tree.specs.Blocks.{Block, done, flat_of, HasBlocks}
use Rattle.c_tree.specs.FileOf as given
use Rattle.c_tree.specs.FileOf.{block_in, before_test, behind_test, test_of, body_of}
use Rattle.c_tree.specs.Raw.{At, RawBlock, RawSimple, simple, choice, loop}
use Rattle.c_tree.specs.Spelling.{is_unsigned, spells_field, spells_cell, spells_atom, spells_right, spells_simple, spells_statement}
use Rattle.c_tree.specs.Text.{field_word, level_word, atom_words, local_word, simple_words, choice_opens, leave_words, block_words, body_words}
use Rattle.c_tree.specs.Words.{Word, template, word}
use Rattle.c_raw_build.specs.Placed.{width}
use Rattle.c_raw_build.specs.RawBodies.{declared, instance_target, simple_of, block_of, statement, body_block}
use Rattle.c_raw_build.specs.Words.{CText, word_at}
use Rattle.c_law_words.proofs.Listed.{row_list}
use Rattle.c_law_print_parses.proofs.Placing.{StandsAt, stands_moved, stands_split, row_stands, written_width}
use Rattle.c_law_print_parses.proofs.AtomValues.{placed, type_value, field_value, atom_value, right_value}
use Rattle.c_law_words.proofs.Values.{unsigned_back, numbered_back}
use Rattle.c_law_print_parses.proofs.Atoms.{written_as, field_part, type_tree, type_written, field_name_tree, field_written, atom_tree, atom_written, right_written}
use Rattle.c_law_print_parses.proofs.Bodies.{no_first_value_written, first_value_written, field_target_written, flag_pieces, flag_target_written, constant_pieces, set_instance_pieces, set_model_pieces, set_tree, simple_tree, simple_written, no_statements, no_statements_written, before, before_written, arms_pieces, choice_pieces, choice_written, leave_pieces, leave_written, loop_pieces, loop_written, statements_tree, statements_written, spells_block, four_parts, flat_spells, loop_words, body_tree}
use Rattle.c_law_words.proofs.Names as names
use Rattle.c_law_words.proofs.Pieces.{◌▹◌, Writes, row_tree}
use Rattle.c_law_print_parses.proofs.Lefts.{statements_left}
use Rattle.c_raw_build.specs.RowNumbers.{statements_row, if_row, for_row, field_target_row, collapse_target_row}

-- a block and what follows it
abbrev joined : Block → Block → Block
joined done c = c
joined (blocks.simple s rest) c = blocks.simple s (joined rest c)
joined (blocks.choice test first second rest) c = blocks.choice test first second (joined rest c)
joined (blocks.loop start test turn rest) c = blocks.loop start test turn (joined rest c)

joined_done : (b : Block) → joined b done ≡ b
joined_done done = refl
joined_done (blocks.simple s rest) = ap (blocks.simple s) (joined_done rest)
joined_done (blocks.choice test first second rest) = ap (blocks.choice test first second) (joined_done rest)
joined_done (blocks.loop start test turn rest) = ap (blocks.loop start test turn) (joined_done rest)

-- a raw block has the statements of a block, and goes on with the rest
record Given (b : Block) (raw rest : RawBlock) : Type 0 where
  inside : block_in raw ≡ joined b (block_in rest)
  front : before_test raw ≡ joined b (before_test rest)
  test : test_of raw ≡ test_of rest
  behind : behind_test raw ≡ behind_test rest

module _ (text : CText) where
  local_value : (at i : ℕ) → is_unsigned i ≡ true → word_at text at ≡ local_word i → number_of (word_at text at) ≡ i
  local_value at i h s = ap number_of s ∙ numbered_back (codes "v") i refl h

  set_value : (at : ℕ) (level : Level) (f : CField) (value : CAtom) → spells_field f ≡ true → spells_atom value ≡ true
      → StandsAt text at (word (level_word level) ++ word (codes "->") ++ word (field_word f) ++ word (codes "=") ++ atom_words value ++ word (codes ";"))
      → given.simple_of (simple_of text (placed at (set_tree level f value))) ≡ SetCell (record { level = level; field = f }) value
  unfolding simple_of instance_target row_list template
  set_value at Instance f value h g s =
      let t = row_stands text at (set_instance_pieces f value) (field_target_written f h ▹ atom_written value g ▹ tt) s in
      let to = field_value text (at + 1 + 1) f h t.0 in
      let from = atom_value text (at + 1 + 1 + width (row_tree field_target_row (field_part f)) + 1) value g t.1.0 in
      λ i. SetCell (let c : CCell = record { level = Instance; field = to i } in c) (from i)
  set_value at Model f value h g s =
      let t = row_stands text at (set_model_pieces f value) (field_written f h ▹ atom_written value g ▹ tt) s in
      let to = field_value text (at + 1 + 1) f h t.0 in
      let from = atom_value text (at + 1 + 1 + width (field_name_tree f) + 1) value g t.1.0 in
      λ i. SetCell (let c : CCell = record { level = Model; field = to i } in c) (from i)

  pub simple_value : (at k : ℕ) (s : CSimple) → is_unsigned k ≡ true → spells_simple s ≡ true → StandsAt text at (simple_words k s)
      → given.simple_of (simple_of text (placed at (simple_tree k s))) ≡ s
  unfolding simple_of declared instance_target row_list template
  simple_value at k (Constant ty i side) u h s =
      let p = and_parts (is_unsigned i) (spells_right side) h in
      let t = row_stands text at (constant_pieces k (Constant ty i side)) (type_written ty ▹ names.local_word i p.0
      ▹ right_written k side u p.1 ▹ tt) s in
      let number = local_value (at + 1 + width (type_tree ty)) i p.0 t.1.0 in
      let from = right_value text (at + 1 + width (type_tree ty) + 1 + 1) k side u p.1 t.1.1.0 in
      λ j. Constant (type_value (at + 1) ty j) (number j) (from j)
  simple_value at k (Join ty i) u h s =
      let t = row_stands text at (constant_pieces k (Join ty i)) (type_written ty ▹ names.local_word i h
      ▹ no_first_value_written ▹ tt) s in
      let number = local_value (at + width (type_tree ty)) i h t.1.0 in
      λ j. Join (type_value at ty j) (number j)
  simple_value at k (Head ty i first) u h s =
      let p = and_parts (is_unsigned i) (spells_atom first) h in
      let t = row_stands text at (constant_pieces k (Head ty i first)) (type_written ty ▹ names.local_word i p.0
      ▹ first_value_written first p.1 ▹ tt) s in
      let number = local_value (at + width (type_tree ty)) i p.0 t.1.0 in
      let from = atom_value text (at + width (type_tree ty) + 1 + 1) first p.1 t.1.1.0.1 in
      λ j. Head (type_value at ty j) (number j) (from j)
  simple_value at k (Assign i value) u h s =
      let p = and_parts (is_unsigned i) (spells_atom value) h in
      let number = local_value at i p.0 s.0 in
      let from = atom_value text (at + 1 + 1) value p.1 (stands_split text (at + 1 + 1) (atom_words value) (word (codes ";")) s.1.1).0 in
      λ j. Assign (number j) (from j)
  simple_value at k (SetCell cell value) u h s =
      let p = and_parts (spells_cell cell) (spells_atom value) h in
      set_value at cell.level cell.field value p.0 p.1 s
  simple_value at k (SetCollapse pair value) u h s =
      let p = and_parts (is_unsigned pair) (spells_atom value) h in
      let t = row_stands text at (constant_pieces k (SetCollapse pair value)) (flag_target_written pair p.0
      ▹ atom_written value p.1 ▹ tt) s in
      let number = ap number_of t.0.1.1.0 ∙ unsigned_back pair p.0 in
      let from = atom_value text (at + 1 + 1 + width (row_tree collapse_target_row (flag_pieces pair)) + 1) value p.1 t.1.0 in
      λ j. SetCollapse (number j) (from j)
  simple_value at k (Report id) u h s = ap Report (ap number_of s.1.1.1.1.0 ∙ unsigned_back id h)

  -- such a statement has no blocks
  set_alone : (at : ℕ) (level : Level) (f : CField) (value : CAtom) (rest : RawBlock)
      → statement text at (set_tree level f value) rest ≡ simple (simple_of text (placed at (set_tree level f value))) rest
  unfolding row_list template
  set_alone at Instance f value rest = refl
  set_alone at Model f value rest = refl

  pub simple_alone : (at k : ℕ) (s : CSimple) (rest : RawBlock) → statement text at (simple_tree k s) rest ≡ simple (simple_of text (placed at (simple_tree k s))) rest
  unfolding row_list template
  simple_alone at k (Constant ty i side) rest = refl
  simple_alone at k (Join ty i) rest = refl
  simple_alone at k (Head ty i first) rest = refl
  simple_alone at k (Assign i value) rest = refl
  simple_alone at k (SetCell cell value) rest = set_alone at cell.level cell.field value rest
  simple_alone at k (SetCollapse pair value) rest = refl
  simple_alone at k (Report id) rest = refl

  simple_given : (b : Block) (s : CSimple) (x : RawSimple) (raw rest : RawBlock) → given.simple_of x ≡ s → Given b raw rest → Given (blocks.simple s b) (simple x raw) rest
  simple_given b s x raw rest v g =
      record { inside = λ i. blocks.simple (v i) (g.inside i); front = λ i. blocks.simple (v i) (g.front i); test = g.test; behind = g.behind }

  choice_given : (b first second : Block) (test : CAtom) (a : At CAtom) (x y raw rest : RawBlock) → a.value ≡ test → block_in x ≡ first → block_in y ≡ second
      → Given b raw rest → Given (blocks.choice test first second b) (choice a x y raw) rest
  choice_given b first second test a x y raw rest v f s g =
      record {
        inside = λ i. blocks.choice (v i) (f i) (s i) (g.inside i);
        front = λ i. blocks.choice (v i) (f i) (s i) (g.front i);
        test = g.test;
        behind = g.behind;
      }

  loop_given : (b start turn : Block) (test : CAtom) (x raw rest : RawBlock) → before_test x ≡ start → test_of x ≡ test → behind_test x ≡ turn
      → Given b raw rest → Given (blocks.loop start test turn b) (loop x raw) rest
  loop_given b start turn test x raw rest s v t g =
      record {
        inside = λ i. blocks.loop (s i) (v i) (t i) (g.inside i);
        front = λ i. blocks.loop (s i) (v i) (t i) (g.front i);
        test = g.test;
        behind = g.behind;
      }

  -- the words of a statement, and those of the rest
  pub next_words : (at : ℕ) (us vs ws : List Word) → StandsAt text at ((us ++ vs) ++ ws) → StandsAt text at us × StandsAt text (at + length us) (vs ++ ws)
  next_words at us vs ws s = stands_split text at us (vs ++ ws) (subst (λ l. StandsAt text at l) (append_assoc us vs ws) s)

  -- the rest of the rest stands behind both
  pub next_place : (at n : ℕ) (us vs : List Word) → n ≡ length us → at + n + length vs ≡ at + length (us ++ vs)
  next_place at n us vs e = omega (arith, e, length-append us vs)

  statements_given : (last at k : ℕ) (b : Block) (t : Tree) (ws : List Word) → is_unsigned k ≡ true → spells_block b ≡ true → Writes statements_left t ws
      → StandsAt text at (block_words k b ++ ws) → Given b (block_of text last at (statements_tree k b t ws)) (block_of text last (at + length (block_words k b)) t)
  unfolding row_list template
  statements_given last at k done t ws u h w s =
      subst (λ i. Given done (block_of text last at t) (block_of text last i t)) (let same : at ≡ at + 0 = omega arith in same)
      (record { inside = refl; front = refl; test = refl; behind = refl })
  statements_given last at k (blocks.simple x rest) t ws u h w s =
      let p = and_parts (spells_simple x) (spells_block rest) h in
      let n = next_words at (simple_words k x) (block_words k rest) ws s in
      let wide = written_width (simple_written k x u p.0) in
      let to = at + width (simple_tree k x) in
      let g = statements_given last to k rest t ws u p.1 w
      (stands_moved text (at + length (simple_words k x)) to (block_words k rest ++ ws) (omega (arith, wide)) n.1) in
      let raw = block_of text last to (statements_tree k rest t ws) in
      let one = simple_given rest x (simple_of text (placed at (simple_tree k x))) raw (block_of text last (to + length (block_words k rest)) t) (simple_value at k x u p.0 n.0) g in
      let whole = subst (λ r. Given (blocks.simple x rest) r (block_of text last (to + length (block_words k rest)) t)) (sym (simple_alone at k x raw)) one in
      subst (λ i. Given (blocks.simple x rest) (statement text at (simple_tree k x) raw) (block_of text last i t)) (next_place at (width (simple_tree k x)) (simple_words k x) (block_words k rest) wide) whole
  statements_given last at k (blocks.choice test first second rest) t ws u h w s =
      let p = four_parts (spells_atom test) (spells_block first) (spells_block second) (spells_block rest) h in
      let one = statements_tree k first no_statements [] in
      let two = statements_tree k second no_statements [] in
      let us = block_words k first in
      let vs = block_words k second in
      let front = choice_opens test ++ us ++ template (codes "} else {") ++ vs ++ word (codes "}") in
      let a = written_as (statements_written k first no_statements [] u p.second no_statements_written) (append-nil us) in
      let b = written_as (statements_written k second no_statements [] u p.third no_statements_written) (append-nil vs) in
      let wide = written_width (choice_written test one two us vs p.first a b) in
      let n = next_words at front (block_words k rest) ws s in
      let arms = row_stands text (at + 1 + 1) (arms_pieces test one us two vs) (atom_written test p.first, (a, (b, tt))) n.0.1.1 in
      let wt = width (atom_tree test) in
      let value = atom_value text (at + 2) test p.first (stands_moved text (at + 1 + 1) (at + 2) (atom_words test) (omega arith) arms.0) in
      let p1 = at + 4 + wt in
      let p2 = at + 4 + wt + width one + 3 in
      let g1 = statements_given (at + 4 + wt + width one) p1 k first no_statements [] u p.second no_statements_written
      (subst (λ l. StandsAt text p1 l) (sym (append-nil us)) (stands_moved text (at + 1 + 1 + wt + 1 + 1) p1 us (omega arith) arms.1.0)) in
      let g2 = statements_given (at + 4 + wt + width one + 3 + width two) p2 k second no_statements [] u p.third no_statements_written
      (subst (λ l. StandsAt text p2 l) (sym (append-nil vs)) (stands_moved text (at + 1 + 1 + wt + 1 + 1 + width one + 1 + 1 + 1) p2 vs (omega arith) arms.1.1.0)) in
      let tree = row_tree if_row (choice_pieces test one us two vs) in
      let to = at + width tree in
      let g = statements_given last to k rest t ws u p.fourth w (stands_moved text (at + length front) to (block_words k rest ++ ws) (omega (arith, wide)) n.1) in
      let whole = choice_given rest first second test _ _ _ (block_of text last to (statements_tree k rest t ws)) (block_of text last (to + length (block_words k rest)) t) value
      (g1.inside ∙ joined_done first) (g2.inside ∙ joined_done second) g in
      subst (λ i. Given (blocks.choice test first second rest) (statement text at tree (block_of text last to (statements_tree k rest t ws))) (block_of text last i t))
      (next_place at (width tree) front (block_words k rest) wide) whole
  statements_given last at k (blocks.loop start test turn rest) t ws u h w s =
      let p = four_parts (spells_atom test) (spells_block start) (spells_block turn) (spells_block rest) h in
      let turn_tree = statements_tree k turn no_statements [] in
      let us = block_words k start in
      let vs = block_words k turn in
      let leave_tree = row_tree statements_row (before (row_tree if_row (leave_pieces test)) (leave_words test) turn_tree vs) in
      let body = statements_tree k start leave_tree (leave_words test ++ vs) in
      let inside = us ++ (leave_words test ++ vs) in
      let opens = template (codes "for ( ; ; ) {") in
      let front = opens ++ inside ++ word (codes "}") in
      let a = written_as (statements_written k turn no_statements [] u p.third no_statements_written) (append-nil vs) in
      let l = before_written (row_tree if_row (leave_pieces test)) turn_tree (leave_words test) vs (leave_written test p.first) a in
      let b = statements_written k start leave_tree (leave_words test ++ vs) u p.second l in
      let wide = written_width (loop_written body inside b) in
      let same = loop_words k start test turn in
      let n = next_words at front (block_words k rest) ws (subst (λ f. StandsAt text at ((f ++ block_words k rest) ++ ws)) (sym same) s) in
      let inner = (stands_split text (at + 1 + 1 + 1 + 1 + 1 + 1) inside (word (codes "}")) n.0.1.1.1.1.1.1).0 in
      let from = at + 6 in
      let end_at = at + 6 + width body in
      let moved = stands_moved text (at + 1 + 1 + 1 + 1 + 1 + 1) from inside (omega arith) inner in
      let g1 = statements_given end_at from k start leave_tree (leave_words test ++ vs) u p.second l moved in
      let place = from + length us in
      let behind_start = (stands_split text from us (leave_words test ++ vs) moved).1 in
      let leaving = stands_split text place (leave_words test) vs behind_start in
      let value = atom_value text (place + 2 + 1) test p.first
      (stands_moved text (place + 1 + 1 + 1) (place + 2 + 1) (atom_words test) (omega arith)
      (stands_split text (place + 1 + 1 + 1) (atom_words test) (template (codes ") { break ; }")) leaving.0.1.1.1).0) in
      let wl = written_width (leave_written test p.first) in
      let turn_at = place + width (row_tree if_row (leave_pieces test)) in
      let g2 = statements_given end_at turn_at k turn no_statements [] u p.third no_statements_written
      (subst (λ r. StandsAt text turn_at r) (sym (append-nil vs)) (stands_moved text (place + length (leave_words test)) turn_at vs (omega (arith, wl)) leaving.1)) in
      let tree = row_tree for_row (loop_pieces body inside) in
      let to = at + width tree in
      let g = statements_given last to k rest t ws u p.fourth w (stands_moved text (at + length front) to (block_words k rest ++ ws) (omega (arith, wide)) n.1) in
      let whole = loop_given rest start turn test (block_of text end_at from body) (block_of text last to (statements_tree k rest t ws)) (block_of text last (to + length (block_words k rest)) t)
      (g1.front ∙ joined_done start) (g1.test ∙ value) (g1.behind ∙ g2.inside ∙ joined_done turn) g in
      subst (λ i. Given (blocks.loop start test turn rest) (statement text at tree (block_of text last to (statements_tree k rest t ws))) (block_of text last i t))
      (next_place at (width tree) front (block_words k rest) wide ∙ ap (λ f. at + length (f ++ block_words k rest)) same) whole

  -- a body is read back
  pub body_value : (last at k : ℕ) (body : List CStatement) → is_unsigned k ≡ true → list_all spells_statement body ≡ true → HasBlocks body → StandsAt text at (body_words k body)
      → body_of (body_block text last (placed at (body_tree k body))) ≡ body
  unfolding body_block row_list
  body_value last at k body u h has s =
      let b = blocks.block_of body in
      let spelled = flat_spells b (ap (list_all spells_statement) has ∙ h) in
      let g = statements_given last at k b no_statements [] u spelled no_statements_written (subst (λ l. StandsAt text at l) (sym (append-nil (block_words k b))) s) in
      ap flat_of (g.inside ∙ joined_done b) ∙ has
