-- The raw trees of statements and bodies in a text where their words stand.
use Rattle.std.proofs.Common.{◌≡◌, ◌+◌, ℕ, List, [], ◌++◌, length, ap, sym, subst, ◌∙◌, arith}
use Rattle.std.specs.Prelude.{true, codes}
use Rattle.std.specs.List.{list_all}
use Rattle.std.proofs.lemmas.Bool.{and_parts}
use Rattle.std.proofs.lemmas.List.{append-nil}
use Rattle.predict.specs.Tree.{Tree}
use Rattle.c_tree.specs.declared.body.CSimple.{CSimple}
use Rattle.c_tree.specs.declared.body.CStatement.{CStatement}
use Rattle.c_tree.specs.Blocks as blocks
use Rattle.c_tree.specs.Blocks.{Block, done, HasBlocks}
use Rattle.c_tree.specs.Raw.{simple, leave, choice, loop}
use Rattle.c_tree.specs.RawOf.{at_0, raw_simple, raw_then, raw_body}
use Rattle.c_tree.specs.Spelling.{is_unsigned, spells_atom, spells_simple, spells_statement}
use Rattle.c_tree.specs.Text.{atom_words, simple_words, choice_opens, leave_words, block_words, body_words}
use Rattle.c_tree.specs.Words.{Word, template, word}
use Rattle.c_raw_build.specs.Placed.{width}
use Rattle.c_raw_build.specs.RawBodies.{simple_of, block_of, body_block}
use Rattle.c_raw_build.specs.Words.{CText}
use Rattle.c_raw_build.specs.RowNumbers.{statements_row, if_row, for_row}
use Rattle.c_law_print_parses.proofs.AtomValues.{placed, atom_value}
use Rattle.c_law_print_parses.proofs.Atoms.{written_as, atom_tree, atom_written}
use Rattle.c_law_print_parses.proofs.Bodies.{simple_tree, simple_written, no_statements, no_statements_written, before, before_written, arms_pieces, choice_pieces, choice_written, leave_pieces, leave_written, loop_pieces, loop_written, statements_tree, statements_written, spells_block, four_parts, flat_spells, loop_words, body_tree}
use Rattle.c_law_print_parses.proofs.BodyValues.{simple_value, simple_alone, next_words, next_place}
use Rattle.c_law_print_parses.proofs.Lefts.{statements_left}
use Rattle.c_law_words.proofs.Listed.{row_list}
use Rattle.c_law_words.proofs.Pieces.{Writes, row_tree}
use Rattle.c_law_print_parses.proofs.Placing.{StandsAt, stands_moved, stands_split, row_stands, written_width}
use Rattle.c_law_form_ignores_places.specs.Forget.{forget_simple, forget_block}
use Rattle.c_law_roundtrip.proofs.Kept.{simple_kept}

module _ (text : CText) where
  simple_raw : (at k : ℕ) (x : CSimple) → is_unsigned k ≡ true → spells_simple x ≡ true → StandsAt text at (simple_words k x)
      → forget_simple (simple_of text (placed at (simple_tree k x))) ≡ raw_simple x
  simple_raw at k x u h s = simple_kept (simple_of text (placed at (simple_tree k x))) ∙ ap raw_simple (simple_value text at k x u h s)

  -- the statements of a block before those of a tree
  statements_raw : (last at k : ℕ) (b : Block) (t : Tree) (ws : List Word) → is_unsigned k ≡ true → spells_block b ≡ true → Writes statements_left t ws
      → StandsAt text at (block_words k b ++ ws)
      → forget_block (block_of text last at (statements_tree k b t ws)) ≡ raw_then b (forget_block (block_of text last (at + length (block_words k b)) t))
  unfolding row_list template
  statements_raw last at k done t ws u h w s = ap (λ i. forget_block (block_of text last i t)) (let same : at ≡ at + 0 = omega arith in same)
  statements_raw last at k (blocks.simple x rest) t ws u h w s =
      let p = and_parts (spells_simple x) (spells_block rest) h in
      let n = next_words text at (simple_words k x) (block_words k rest) ws s in
      let wide = written_width (simple_written k x u p.0) in
      let to = at + width (simple_tree k x) in
      let g = statements_raw last to k rest t ws u p.1 w
      (stands_moved text (at + length (simple_words k x)) to (block_words k rest ++ ws) (omega (arith, wide)) n.1) in
      let raw = block_of text last to (statements_tree k rest t ws) in
      let value = simple_raw at k x u p.0 n.0 in
      ap forget_block (simple_alone text at k x raw) ∙ (λ i. simple (value i) (g i))
      ∙ ap (λ i. raw_then (blocks.simple x rest) (forget_block (block_of text last i t))) (next_place text at (width (simple_tree k x)) (simple_words k x) (block_words k rest) wide)
  statements_raw last at k (blocks.choice test first second rest) t ws u h w s =
      let p = four_parts (spells_atom test) (spells_block first) (spells_block second) (spells_block rest) h in
      let one = statements_tree k first no_statements [] in
      let two = statements_tree k second no_statements [] in
      let us = block_words k first in
      let vs = block_words k second in
      let front = choice_opens test ++ us ++ template (codes "} else {") ++ vs ++ word (codes "}") in
      let a = written_as (statements_written k first no_statements [] u p.second no_statements_written) (append-nil us) in
      let b = written_as (statements_written k second no_statements [] u p.third no_statements_written) (append-nil vs) in
      let wide = written_width (choice_written test one two us vs p.first a b) in
      let n = next_words text at front (block_words k rest) ws s in
      let arms = row_stands text (at + 1 + 1) (arms_pieces test one us two vs) (atom_written test p.first, (a, (b, tt))) n.0.1.1 in
      let wt = width (atom_tree test) in
      let value = atom_value text (at + 2) test p.first (stands_moved text (at + 1 + 1) (at + 2) (atom_words test) (omega arith) arms.0) in
      let p1 = at + 4 + wt in
      let p2 = at + 4 + wt + width one + 3 in
      let g1 = statements_raw (at + 4 + wt + width one) p1 k first no_statements [] u p.second no_statements_written
      (subst (λ l. StandsAt text p1 l) (sym (append-nil us)) (stands_moved text (at + 1 + 1 + wt + 1 + 1) p1 us (omega arith) arms.1.0)) in
      let g2 = statements_raw (at + 4 + wt + width one + 3 + width two) p2 k second no_statements [] u p.third no_statements_written
      (subst (λ l. StandsAt text p2 l) (sym (append-nil vs)) (stands_moved text (at + 1 + 1 + wt + 1 + 1 + width one + 1 + 1 + 1) p2 vs (omega arith) arms.1.1.0)) in
      let tree = row_tree if_row (choice_pieces test one us two vs) in
      let to = at + width tree in
      let g = statements_raw last to k rest t ws u p.fourth w (stands_moved text (at + length front) to (block_words k rest ++ ws) (omega (arith, wide)) n.1) in
      (λ i. choice (at_0 (value i)) (g1 i) (g2 i) (g i))
      ∙ ap (λ i. raw_then (blocks.choice test first second rest) (forget_block (block_of text last i t))) (next_place text at (width tree) front (block_words k rest) wide)
  statements_raw last at k (blocks.loop start test turn rest) t ws u h w s =
      let p = four_parts (spells_atom test) (spells_block start) (spells_block turn) (spells_block rest) h in
      let turn_tree = statements_tree k turn no_statements [] in
      let us = block_words k start in
      let vs = block_words k turn in
      let leave_tree = row_tree statements_row (before (row_tree if_row (leave_pieces test)) (leave_words test) turn_tree vs) in
      let body = statements_tree k start leave_tree (leave_words test ++ vs) in
      let inside = us ++ (leave_words test ++ vs) in
      let opens = template (codes "for ( ; ; ) {") in
      let front = opens ++ inside ++ word (codes "}") in
      let a = written_as (statements_written k turn no_statements [] u p.third no_statements_written) (append-nil vs) in
      let l = before_written (row_tree if_row (leave_pieces test)) turn_tree (leave_words test) vs (leave_written test p.first) a in
      let b = statements_written k start leave_tree (leave_words test ++ vs) u p.second l in
      let wide = written_width (loop_written body inside b) in
      let same = loop_words k start test turn in
      let n = next_words text at front (block_words k rest) ws (subst (λ f. StandsAt text at ((f ++ block_words k rest) ++ ws)) (sym same) s) in
      let inner = (stands_split text (at + 1 + 1 + 1 + 1 + 1 + 1) inside (word (codes "}")) n.0.1.1.1.1.1.1).0 in
      let from = at + 6 in
      let end_at = at + 6 + width body in
      let moved = stands_moved text (at + 1 + 1 + 1 + 1 + 1 + 1) from inside (omega arith) inner in
      let g1 = statements_raw end_at from k start leave_tree (leave_words test ++ vs) u p.second l moved in
      let place = from + length us in
      let behind_start = (stands_split text from us (leave_words test ++ vs) moved).1 in
      let leaving = stands_split text place (leave_words test) vs behind_start in
      let value = atom_value text (place + 2 + 1) test p.first
      (stands_moved text (place + 1 + 1 + 1) (place + 2 + 1) (atom_words test) (omega arith)
      (stands_split text (place + 1 + 1 + 1) (atom_words test) (template (codes ") { break ; }")) leaving.0.1.1.1).0) in
      let wl = written_width (leave_written test p.first) in
      let turn_at = place + width (row_tree if_row (leave_pieces test)) in
      let g2 = statements_raw end_at turn_at k turn no_statements [] u p.third no_statements_written
      (subst (λ r. StandsAt text turn_at r) (sym (append-nil vs)) (stands_moved text (place + length (leave_words test)) turn_at vs (omega (arith, wl)) leaving.1)) in
      let tree = row_tree for_row (loop_pieces body inside) in
      let to = at + width tree in
      let g = statements_raw last to k rest t ws u p.fourth w (stands_moved text (at + length front) to (block_words k rest ++ ws) (omega (arith, wide)) n.1) in
      let left = g1 ∙ ap (raw_then start) (λ i. leave 0 (at_0 (value i)) (g2 i)) in
      (λ i. loop (left i) (g i))
      ∙ ap (λ i. raw_then (blocks.loop start test turn rest) (forget_block (block_of text last i t)))
      (next_place text at (width tree) front (block_words k rest) wide ∙ ap (λ f. at + length (f ++ block_words k rest)) same)

  -- the raw tree of a body, up to its closing brace
  pub body_raw : (last at k : ℕ) (body : List CStatement) → is_unsigned k ≡ true → list_all spells_statement body ≡ true → HasBlocks body → StandsAt text at (body_words k body)
      → forget_block (body_block text last (placed at (body_tree k body))) ≡ raw_body body
  unfolding body_block row_list
  body_raw last at k body u h has s =
      let b = blocks.block_of body in
      let spelled = flat_spells b (ap (list_all spells_statement) has ∙ h) in
      statements_raw last at k b no_statements [] u spelled no_statements_written (subst (λ l. StandsAt text at l) (sym (append-nil (block_words k b))) s)
