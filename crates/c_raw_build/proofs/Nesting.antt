-- The blocks of the flat list of a body are the body's block, and the list ends exactly its block.
use Rattle.std.specs.Prelude.{ℕ, zero, suc, ◌≡◌, ◌+◌, Bool, true, false, List, [], ◌∷◌, ◌++◌, map, refl}
use Rattle.std.proofs.Common.{ap, ◌∙◌}
use Rattle.predict.specs.Tree.{Tree, node, no_parts, token, subtree}
use Rattle.c_tree.specs.declared.body.CAtom.{CAtom}
use Rattle.c_tree.specs.Raw as raw
use Rattle.c_raw.specs.declared.body.RawStatement.{RawStatement}
use Rattle.c_raw.specs.declared.body.RawStatement.TheVariants.{Simple, Leave, If, For, End}
use Rattle.c_raw.specs.Blocks.{at_view, simple_view, first_block, later_blocks, blocks_of, block_view, ends, is_body}
use Rattle.c_raw_build.specs.Placed.{Placed, width}
use Rattle.c_raw_build.specs.RawAtoms.{placed_atom}
use Rattle.c_raw_build.specs.RawBodies.{block_of, statement, if_rest, body_block}
use Rattle.c_raw_build.specs.Steps.{Step, of_simple, of_leave, of_if, of_for, of_end, step_view, steps, statement_steps, if_steps, statements, before_more}
use Rattle.c_raw_build.specs.Words.{CText}

-- the blocks that a flat list ends
abbrev blocks_from : List Step → List raw.RawBlock
blocks_from [] = []
blocks_from (of_simple s ∷ rest) = raw.simple s (first_block (blocks_from rest)) ∷ later_blocks (blocks_from rest)
blocks_from (of_leave at test ∷ rest) = raw.leave at test (first_block (blocks_from rest)) ∷ later_blocks (blocks_from rest)
blocks_from (of_if test ∷ rest) =
    raw.choice test (first_block (blocks_from rest)) (first_block (later_blocks (blocks_from rest)))
    (first_block (later_blocks (later_blocks (blocks_from rest))))
    ∷ later_blocks (later_blocks (later_blocks (blocks_from rest)))
blocks_from (of_for ∷ rest) =
    raw.loop (first_block (blocks_from rest)) (first_block (later_blocks (blocks_from rest))) ∷ later_blocks (later_blocks (blocks_from rest))
blocks_from (of_end at ∷ rest) = raw.closed at ∷ blocks_from rest

-- the list ends so many open blocks
abbrev ends_from : ℕ → List Step → Bool
ends_from zero [] = true
ends_from zero (s ∷ rest) = false
ends_from (suc n) [] = false
ends_from (suc n) (of_simple s ∷ rest) = ends_from (suc n) rest
ends_from (suc n) (of_leave at test ∷ rest) = ends_from (suc n) rest
ends_from (suc n) (of_if test ∷ rest) = ends_from (suc (suc (suc n))) rest
ends_from (suc n) (of_for ∷ rest) = ends_from (suc (suc n)) rest
ends_from (suc n) (of_end at ∷ rest) = ends_from n rest

same_blocks : (l : List RawStatement) → blocks_of l ≡ blocks_from (map step_view l)
same_blocks [] = refl
same_blocks (Simple s ∷ rest) = ap (λ (bs : List raw.RawBlock). raw.simple (simple_view s) (first_block bs) ∷ later_blocks bs) (same_blocks rest)
same_blocks (Leave at test ∷ rest) = ap (λ (bs : List raw.RawBlock). raw.leave at (at_view test) (first_block bs) ∷ later_blocks bs) (same_blocks rest)
same_blocks (If test ∷ rest) = ap (λ (bs : List raw.RawBlock). raw.choice (at_view test) (first_block bs) (first_block (later_blocks bs)) (first_block (later_blocks (later_blocks bs))) ∷ later_blocks (later_blocks (later_blocks bs))) (same_blocks rest)
same_blocks (For ∷ rest) = ap (λ (bs : List raw.RawBlock). raw.loop (first_block bs) (first_block (later_blocks bs)) ∷ later_blocks (later_blocks bs)) (same_blocks rest)
same_blocks (End at ∷ rest) = ap (λ (bs : List raw.RawBlock). raw.closed at ∷ bs) (same_blocks rest)

same_ends : (n : ℕ) (l : List RawStatement) → ends n l ≡ ends_from n (map step_view l)
same_ends zero [] = refl
same_ends zero (Simple s ∷ rest) = refl
same_ends zero (Leave at test ∷ rest) = refl
same_ends zero (If test ∷ rest) = refl
same_ends zero (For ∷ rest) = refl
same_ends zero (End at ∷ rest) = refl
same_ends (suc n) [] = refl
same_ends (suc n) (Simple s ∷ rest) = same_ends (suc n) rest
same_ends (suc n) (Leave at test ∷ rest) = same_ends (suc n) rest
same_ends (suc n) (If test ∷ rest) = same_ends (suc (suc (suc n))) rest
same_ends (suc n) (For ∷ rest) = same_ends (suc (suc n)) rest
same_ends (suc n) (End at ∷ rest) = same_ends n rest

mutual
  block_steps : (text : CText) (last at : ℕ) (t : Tree) (more : List Step) → blocks_from (steps text at t (of_end last ∷ more)) ≡ block_of text last at t ∷ blocks_from more
  block_steps text last at (node row (subtree first (subtree rest no_parts))) more =
      statement_blocks text at first (steps text (at + width first) rest (of_end last ∷ more))
      ∙ ap (λ (bs : List raw.RawBlock). statement text at first (first_block bs) ∷ later_blocks bs) (block_steps text last (at + width first) rest more)
  block_steps text last at (node row no_parts) more = refl
  block_steps text last at (node row (token k p)) more = refl
  block_steps text last at (node row (subtree x0 no_parts)) more = refl
  block_steps text last at (node row (subtree x0 (token k p))) more = refl
  block_steps text last at (node row (subtree x0 (subtree x1 (token k p)))) more = refl
  block_steps text last at (node row (subtree x0 (subtree x1 (subtree u p)))) more = refl

  statement_blocks : (text : CText) (at : ℕ) (t : Tree) (more : List Step) → blocks_from (statement_steps text at t more) ≡ statement text at t (first_block (blocks_from more)) ∷ later_blocks (blocks_from more)
  statement_blocks text at (node row (token word (token bracket (subtree chosen no_parts)))) more = if_blocks text at chosen more
  statement_blocks text at (node row (token word (token left (token one (token other (token right (token brace (subtree body (token close no_parts))))))))) more =
      ap (λ (bs : List raw.RawBlock). raw.loop (first_block bs) (first_block (later_blocks bs)) ∷ later_blocks (later_blocks bs)) (block_steps text (at + 6 + width body) (at + 6) body more)
  statement_blocks text at (node row no_parts) more = refl
  statement_blocks text at (node row (subtree u p)) more = refl
  statement_blocks text at (node row (token k0 no_parts)) more = refl
  statement_blocks text at (node row (token k0 (subtree u p))) more = refl
  statement_blocks text at (node row (token k0 (token k1 no_parts))) more = refl
  statement_blocks text at (node row (token k0 (token k1 (token k2 no_parts)))) more = refl
  statement_blocks text at (node row (token k0 (token k1 (token k2 (subtree u p))))) more = refl
  statement_blocks text at (node row (token k0 (token k1 (token k2 (token k3 no_parts))))) more = refl
  statement_blocks text at (node row (token k0 (token k1 (token k2 (token k3 (subtree u p)))))) more = refl
  statement_blocks text at (node row (token k0 (token k1 (token k2 (token k3 (token k4 no_parts)))))) more = refl
  statement_blocks text at (node row (token k0 (token k1 (token k2 (token k3 (token k4 (subtree u p))))))) more = refl
  statement_blocks text at (node row (token k0 (token k1 (token k2 (token k3 (token k4 (token k5 no_parts))))))) more = refl
  statement_blocks text at (node row (token k0 (token k1 (token k2 (token k3 (token k4 (token k5 (token k p)))))))) more = refl
  statement_blocks text at (node row (token k0 (token k1 (token k2 (token k3 (token k4 (token k5 (subtree x6 no_parts)))))))) more = refl
  statement_blocks text at (node row (token k0 (token k1 (token k2 (token k3 (token k4 (token k5 (subtree x6 (subtree u p))))))))) more = refl
  statement_blocks text at (node row (token k0 (token k1 (token k2 (token k3 (token k4 (token k5 (subtree x6 (token k7 (token k p)))))))))) more = refl
  statement_blocks text at (node row (token k0 (token k1 (token k2 (token k3 (token k4 (token k5 (subtree x6 (token k7 (subtree u p)))))))))) more = refl
  statement_blocks text at (node row (token k0 (token k1 (subtree x2 (token k p))))) more = refl
  statement_blocks text at (node row (token k0 (token k1 (subtree x2 (subtree u p))))) more = refl

  if_blocks : (text : CText) (at : ℕ) (t : Tree) (more : List Step) → blocks_from (if_steps text at t more) ≡ if_rest text at t (first_block (blocks_from more)) ∷ later_blocks (blocks_from more)
  if_blocks text at (node row (subtree test (token right (token brace (subtree first (token close (token word (token next (subtree second (token end_of no_parts)))))))))) more =
      let a : raw.At CAtom = placed_atom text (record { at = at + 2; tree = test }) in
      let f : raw.RawBlock = block_of text (at + 4 + width test + width first) (at + 4 + width test) first in
      ap (λ (bs : List raw.RawBlock). raw.choice a (first_block bs) (first_block (later_blocks bs)) (first_block (later_blocks (later_blocks bs))) ∷ later_blocks (later_blocks (later_blocks bs)))
      (block_steps text (at + 4 + width test + width first) (at + 4 + width test) first (steps text (at + 4 + width test + width first + 3) second (of_end (at + 4 + width test + width first + 3 + width second) ∷ more))
      ∙ ap (λ (bs : List raw.RawBlock). f ∷ bs) (block_steps text (at + 4 + width test + width first + 3 + width second) (at + 4 + width test + width first + 3) second more))
  if_blocks text at (node row no_parts) more = refl
  if_blocks text at (node row (token k p)) more = refl
  if_blocks text at (node row (subtree x0 no_parts)) more = refl
  if_blocks text at (node row (subtree x0 (subtree u p))) more = refl
  if_blocks text at (node row (subtree x0 (token k1 no_parts))) more = refl
  if_blocks text at (node row (subtree x0 (token k1 (subtree u p)))) more = refl
  if_blocks text at (node row (subtree x0 (token k1 (token k2 no_parts)))) more = refl
  if_blocks text at (node row (subtree x0 (token k1 (token k2 (token k p))))) more = refl
  if_blocks text at (node row (subtree x0 (token k1 (token k2 (subtree x3 no_parts))))) more = refl
  if_blocks text at (node row (subtree x0 (token k1 (token k2 (subtree x3 (subtree u p)))))) more = refl
  if_blocks text at (node row (subtree x0 (token k1 (token k2 (subtree x3 (token k4 no_parts)))))) more = refl
  if_blocks text at (node row (subtree x0 (token k1 (token k2 (subtree x3 (token k4 (subtree u p))))))) more = refl
  if_blocks text at (node row (subtree x0 (token k1 (token k2 (subtree x3 (token k4 (token k5 no_parts))))))) more = refl
  if_blocks text at (node row (subtree x0 (token k1 (token k2 (subtree x3 (token k4 (token k5 (subtree u p)))))))) more = refl
  if_blocks text at (node row (subtree x0 (token k1 (token k2 (subtree x3 (token k4 (token k5 (token k6 no_parts)))))))) more = refl
  if_blocks text at (node row (subtree x0 (token k1 (token k2 (subtree x3 (token k4 (token k5 (token k6 (token k p))))))))) more = refl
  if_blocks text at (node row (subtree x0 (token k1 (token k2 (subtree x3 (token k4 (token k5 (token k6 (subtree x7 no_parts))))))))) more = refl
  if_blocks text at (node row (subtree x0 (token k1 (token k2 (subtree x3 (token k4 (token k5 (token k6 (subtree x7 (subtree u p)))))))))) more = refl
  if_blocks text at (node row (subtree x0 (token k1 (token k2 (subtree x3 (token k4 (token k5 (token k6 (subtree x7 (token k8 (token k p))))))))))) more = refl
  if_blocks text at (node row (subtree x0 (token k1 (token k2 (subtree x3 (token k4 (token k5 (token k6 (subtree x7 (token k8 (subtree u p))))))))))) more = refl

mutual
  ends_steps : (text : CText) (n at : ℕ) (t : Tree) (more : List Step) → ends_from (suc n) (steps text at t more) ≡ ends_from (suc n) more
  ends_steps text n at (node row (subtree first (subtree rest no_parts))) more =
      ends_statement text n at first (steps text (at + width first) rest more) ∙ ends_steps text n (at + width first) rest more
  ends_steps text n at (node row no_parts) more = refl
  ends_steps text n at (node row (token k p)) more = refl
  ends_steps text n at (node row (subtree x0 no_parts)) more = refl
  ends_steps text n at (node row (subtree x0 (token k p))) more = refl
  ends_steps text n at (node row (subtree x0 (subtree x1 (token k p)))) more = refl
  ends_steps text n at (node row (subtree x0 (subtree x1 (subtree u p)))) more = refl

  ends_statement : (text : CText) (n at : ℕ) (t : Tree) (more : List Step) → ends_from (suc n) (statement_steps text at t more) ≡ ends_from (suc n) more
  ends_statement text n at (node row (token word (token bracket (subtree chosen no_parts)))) more = ends_if text n at chosen more
  ends_statement text n at (node row (token word (token left (token one (token other (token right (token brace (subtree body (token close no_parts))))))))) more =
      ends_steps text (suc n) (at + 6) body (of_end (at + 6 + width body) ∷ more)
  ends_statement text n at (node row no_parts) more = refl
  ends_statement text n at (node row (subtree u p)) more = refl
  ends_statement text n at (node row (token k0 no_parts)) more = refl
  ends_statement text n at (node row (token k0 (subtree u p))) more = refl
  ends_statement text n at (node row (token k0 (token k1 no_parts))) more = refl
  ends_statement text n at (node row (token k0 (token k1 (token k2 no_parts)))) more = refl
  ends_statement text n at (node row (token k0 (token k1 (token k2 (subtree u p))))) more = refl
  ends_statement text n at (node row (token k0 (token k1 (token k2 (token k3 no_parts))))) more = refl
  ends_statement text n at (node row (token k0 (token k1 (token k2 (token k3 (subtree u p)))))) more = refl
  ends_statement text n at (node row (token k0 (token k1 (token k2 (token k3 (token k4 no_parts)))))) more = refl
  ends_statement text n at (node row (token k0 (token k1 (token k2 (token k3 (token k4 (subtree u p))))))) more = refl
  ends_statement text n at (node row (token k0 (token k1 (token k2 (token k3 (token k4 (token k5 no_parts))))))) more = refl
  ends_statement text n at (node row (token k0 (token k1 (token k2 (token k3 (token k4 (token k5 (token k p)))))))) more = refl
  ends_statement text n at (node row (token k0 (token k1 (token k2 (token k3 (token k4 (token k5 (subtree x6 no_parts)))))))) more = refl
  ends_statement text n at (node row (token k0 (token k1 (token k2 (token k3 (token k4 (token k5 (subtree x6 (subtree u p))))))))) more = refl
  ends_statement text n at (node row (token k0 (token k1 (token k2 (token k3 (token k4 (token k5 (subtree x6 (token k7 (token k p)))))))))) more = refl
  ends_statement text n at (node row (token k0 (token k1 (token k2 (token k3 (token k4 (token k5 (subtree x6 (token k7 (subtree u p)))))))))) more = refl
  ends_statement text n at (node row (token k0 (token k1 (subtree x2 (token k p))))) more = refl
  ends_statement text n at (node row (token k0 (token k1 (subtree x2 (subtree u p))))) more = refl

  ends_if : (text : CText) (n at : ℕ) (t : Tree) (more : List Step) → ends_from (suc n) (if_steps text at t more) ≡ ends_from (suc n) more
  ends_if text n at (node row (subtree test (token right (token brace (subtree first (token close (token word (token next (subtree second (token end_of no_parts)))))))))) more =
      let last : List Step = of_end (at + 4 + width test + width first + 3 + width second) ∷ more in
      ends_steps text (suc (suc n)) (at + 4 + width test) first (of_end (at + 4 + width test + width first) ∷ steps text (at + 4 + width test + width first + 3) second last)
      ∙ ends_steps text (suc n) (at + 4 + width test + width first + 3) second last
  ends_if text n at (node row no_parts) more = refl
  ends_if text n at (node row (token k p)) more = refl
  ends_if text n at (node row (subtree x0 no_parts)) more = refl
  ends_if text n at (node row (subtree x0 (subtree u p))) more = refl
  ends_if text n at (node row (subtree x0 (token k1 no_parts))) more = refl
  ends_if text n at (node row (subtree x0 (token k1 (subtree u p)))) more = refl
  ends_if text n at (node row (subtree x0 (token k1 (token k2 no_parts)))) more = refl
  ends_if text n at (node row (subtree x0 (token k1 (token k2 (token k p))))) more = refl
  ends_if text n at (node row (subtree x0 (token k1 (token k2 (subtree x3 no_parts))))) more = refl
  ends_if text n at (node row (subtree x0 (token k1 (token k2 (subtree x3 (subtree u p)))))) more = refl
  ends_if text n at (node row (subtree x0 (token k1 (token k2 (subtree x3 (token k4 no_parts)))))) more = refl
  ends_if text n at (node row (subtree x0 (token k1 (token k2 (subtree x3 (token k4 (subtree u p))))))) more = refl
  ends_if text n at (node row (subtree x0 (token k1 (token k2 (subtree x3 (token k4 (token k5 no_parts))))))) more = refl
  ends_if text n at (node row (subtree x0 (token k1 (token k2 (subtree x3 (token k4 (token k5 (subtree u p)))))))) more = refl
  ends_if text n at (node row (subtree x0 (token k1 (token k2 (subtree x3 (token k4 (token k5 (token k6 no_parts)))))))) more = refl
  ends_if text n at (node row (subtree x0 (token k1 (token k2 (subtree x3 (token k4 (token k5 (token k6 (token k p))))))))) more = refl
  ends_if text n at (node row (subtree x0 (token k1 (token k2 (subtree x3 (token k4 (token k5 (token k6 (subtree x7 no_parts))))))))) more = refl
  ends_if text n at (node row (subtree x0 (token k1 (token k2 (subtree x3 (token k4 (token k5 (token k6 (subtree x7 (subtree u p)))))))))) more = refl
  ends_if text n at (node row (subtree x0 (token k1 (token k2 (subtree x3 (token k4 (token k5 (token k6 (subtree x7 (token k8 (token k p))))))))))) more = refl
  ends_if text n at (node row (subtree x0 (token k1 (token k2 (subtree x3 (token k4 (token k5 (token k6 (subtree x7 (token k8 (subtree u p))))))))))) more = refl

with_end : (list : List RawStatement) (last : ℕ) → map step_view (list ++ End last ∷ []) ≡ before_more list (of_end last ∷ [])
with_end [] last = refl
with_end (s ∷ list) last = ap (λ (l : List Step). step_view s ∷ l) (with_end list last)

pub closed_block : (list body : List RawStatement) (last : ℕ) → body ≡ list ++ End last ∷ [] → (text : CText) (p : Placed) → before_more list ≡ statements text p → block_view body ≡ body_block text last p
unfolding statements body_block
closed_block list body last e text p q =
    ap block_view e ∙ ap first_block (same_blocks (list ++ End last ∷ []) ∙ ap blocks_from (with_end list last ∙ (λ j. q j (of_end last ∷ []))) ∙ block_steps text last p.at p.tree [])

pub closed_body : (list body : List RawStatement) (last : ℕ) → body ≡ list ++ End last ∷ [] → (text : CText) (p : Placed) → before_more list ≡ statements text p → is_body body ≡ true
unfolding statements
closed_body list body last e text p q =
    ap is_body e ∙ same_ends 1 (list ++ End last ∷ []) ∙ ap (ends_from 1) (with_end list last ∙ (λ j. q j (of_end last ∷ []))) ∙ ends_steps text 0 p.at p.tree (of_end last ∷ [])
