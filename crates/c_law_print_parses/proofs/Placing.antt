-- Words that stand in a text from a token on, and those of a row's pieces.
use Rattle.std.proofs.Common.{◌≡◌, ◌+◌, ℕ, suc, List, [], ◌∷◌, ◌++◌, length, map, refl, ap, sym, subst, ◌∙◌, arith}
use Rattle.std.specs.Prelude.{slice_get}
use Rattle.std.proofs.lemmas.List.{length-append, length-map}
use Rattle.predict.specs.Tree.{Tree, Parts, node, no_parts, token, subtree, spelling, spelling_of}
use Rattle.c_tree.specs.Words.{Word}
use Rattle.c_tree.specs.declared.token.CToken.{CToken}
use Rattle.c_tree.specs.tokens.Tokens.{bytes_of}
use Rattle.c_raw_build.specs.Placed.{width, width_of}
use Rattle.c_raw_build.specs.Words.{CText, word_of, word_at}
use Rattle.c_law_words.specs.Kinds.{kind_of_word}
use Rattle.c_law_words.proofs.Pieces.{Writes, Pieces, Piece, a_name, a_word, a_tree, words, words_of, flat, flat_same, Shown}

-- the words stand in the text from this token on
abbrev pub StandsAt : CText → ℕ → List Word → Type 0
StandsAt text at [] = Unit {0}
StandsAt text at (w ∷ ws) = (word_at text at ≡ w) × StandsAt text (at + 1) ws

pub stands_moved : (text : CText) (at to : ℕ) (ws : List Word) → at ≡ to → StandsAt text at ws → StandsAt text to ws
stands_moved text at to ws e s = subst (λ i. StandsAt text i ws) e s

-- the same words
pub stands_as : (text : CText) (at : ℕ) (us vs : List Word) → us ≡ vs → StandsAt text at us → StandsAt text at vs
stands_as text at us vs e s = subst (λ l. StandsAt text at l) e s

pub stands_split : (text : CText) (at : ℕ) (us vs : List Word) → StandsAt text at (us ++ vs) → StandsAt text at us × StandsAt text (at + length us) vs
stands_split text at [] vs s = (tt, stands_moved text at (at + 0) vs (omega arith) s)
stands_split text at (u ∷ us) vs s =
    let rest = stands_split text (at + 1) us vs s.1 in
    ((s.0, rest.0), stands_moved text (at + 1 + length us) (at + suc (length us)) vs (omega arith) rest.1)

-- the tokens of a text from one on
pub stands_from : (text : CText) (tokens : List CToken) (at : ℕ) (ws : List Word) → ((i : ℕ) → slice_get text.tokens (at + i) ≡ slice_get tokens i)
    → map (bytes_of text.bytes) tokens ≡ ws → StandsAt text at ws
stands_from text tokens at ws there e = subst (λ l. StandsAt text at l) e (from tokens at there)
  where
    from : (ts : List CToken) (i : ℕ) → ((j : ℕ) → slice_get text.tokens (i + j) ≡ slice_get ts j) → StandsAt text i (map (bytes_of text.bytes) ts)
    from [] i h = tt
    from (t ∷ ts) i h = (
      ap (λ n. word_of text (slice_get text.tokens n)) (let same : i ≡ i + 0 = omega arith in same) ∙ ap (word_of text) (h 0),
      from ts (i + 1) (λ j. ap (slice_get text.tokens) (let same : i + 1 + j ≡ i + suc j = omega arith in same) ∙ h (suc j)),
    )

mutual
  tree_width : (t : Tree) → width t ≡ length (spelling t)
  tree_width (node row parts) = parts_width parts

  parts_width : (parts : Parts) → width_of parts ≡ length (spelling_of parts)
  parts_width no_parts = refl
  parts_width (token k parts) = ap (λ n. n + 1) (parts_width parts) ∙ (let same : length (spelling_of parts) + 1 ≡ suc (length (spelling_of parts)) = omega arith in same)
  parts_width (subtree t parts) =
      (λ i. tree_width t i + parts_width parts i) ∙ sym (length-append (spelling t) (spelling_of parts))

-- a tree is as wide as it has words
pub written_width : {left : ℕ} {t : Tree} {ws : List Word} → Writes left t ws → width t ≡ length ws
written_width {left} {t} {ws} w = tree_width t ∙ ap length w.kinds ∙ length-map ws kind_of_word

-- the pieces of a row stand in the text from this token on
abbrev pub PiecesStand : CText → ℕ → List Piece → Type 0
PiecesStand text at [] = Unit {0}
PiecesStand text at (a_name w ∷ pieces) = PiecesStand text (at + 1) pieces
PiecesStand text at (a_word kind w ∷ pieces) = (word_at text at ≡ w) × PiecesStand text (at + 1) pieces
PiecesStand text at (a_tree left t ws ∷ pieces) = StandsAt text at ws × PiecesStand text (at + width t) pieces

pieces_stand : (text : CText) (at : ℕ) (pieces : List Piece) → Shown pieces → StandsAt text at (words_of pieces) → PiecesStand text at pieces
pieces_stand text at [] shown s = tt
pieces_stand text at (a_name w ∷ pieces) shown s = pieces_stand text (at + 1) pieces shown s.1
pieces_stand text at (a_word kind w ∷ pieces) shown s = (s.0, pieces_stand text (at + 1) pieces shown.1 s.1)
pieces_stand text at (a_tree left t ws ∷ pieces) shown s =
    let p = stands_split text at ws (words_of pieces) s in (
      p.0,
      pieces_stand text (at + width t) pieces shown.1
          (stands_moved text (at + length ws) (at + width t) (words_of pieces) (ap (λ n. at + n) (sym (written_width shown.0))) p.1),
    )

pub row_stands : (text : CText) (at : ℕ) (p : Pieces) → Shown (flat p) → StandsAt text at (words p) → PiecesStand text at (flat p)
row_stands text at p shown s = pieces_stand text at (flat p) shown (subst (λ ws. StandsAt text at ws) (sym (flat_same p)) s)
