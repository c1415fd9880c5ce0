-- The tokens of a text, piece after piece.
use Rattle.std.proofs.Common.{◌≡◌, ◌<◌, ◌≤◌, ◌+◌, ◌-◌, ℕ, zero, suc, List, [], ◌∷◌, ◌++◌, length, take, drop, get_or, refl, ap, sym, ◌∙◌, arith, Option, Some, None, subst, inl, inr, ◌⊎◌, fold, append_assoc}
use Rattle.std.specs.Prelude.{Bool, true, false, not, ◌==◌, ◌&&◌, cond}
use Rattle.std.specs.Option.{is_some}
use Rattle.std.specs.List.{prefix_len}
use Rattle.std.proofs.lemmas.Bool.{eqb-true}
use Rattle.std.proofs.Math.Seq.{drop-nil}
use Rattle.std.proofs.lemmas.List.{append-nil, length-drop, drop_all}
use Rattle.std.proofs.lemmas.List.Sums.{prefix_len-le-length, fold_more}
use Rattle.va_base.specs.declared.place.Place.{Place}
use Rattle.va_base.specs.declared.token.Token.{Token}
use Rattle.va_base.specs.Longest.{longest, IsLongest}
use Rattle.va_base.specs.Spelling.{is_text, begins, is_in_line}
use Rattle.va_base.proofs.Longest.{IsLongest-from}
use Rattle.va_base.proofs.Tests.{true_not_false, not_true, and_left}
use Rattle.va_lexer.specs.declared.Line.{Line}
use Rattle.va_lexer.specs.declared.piece.Piece.{Piece}
use Rattle.va_lexer.specs.Pieces.{bad, is_piece, is_open_comment, is_open_text, longest_piece, front}
use Rattle.va_lexer.specs.Tokens.{after, places_after, place_in, token_of, tokens_from}
use Rattle.va_lexer.proofs.Fronts.{piece-nil}

-- the bytes of the piece before are passed
tokens-skip : (n at : ℕ) (place : Place) (text : List ℕ) → n ≤ length text
    → tokens_from at place n text ≡ tokens_from (at + n) (places_after place (take n text)) 0 (drop n text)
unfolding tokens_from
tokens-skip zero at place text le = ap (λ i. tokens_from i place 0 text) (let same : at ≡ at + 0 = omega arith in same)
tokens-skip (suc n) at place [] le = absurd (omega arith)
tokens-skip (suc n) at place (c ∷ text) le =
    tokens-skip n (at + 1) (after place c) text (omega arith)
    ∙ ap (λ i. tokens_from i (places_after (after place c) (take n text)) 0 (drop n text)) (let same : at + 1 + n ≡ at + suc n = omega arith in same)

tokens_first : (at : ℕ) (place : Place) (c : ℕ) (text : List ℕ) (n : ℕ) → (front (c ∷ text)).len ≡ suc n
    → tokens_from at place 0 (c ∷ text)
    ≡ token_of (front (c ∷ text)).kind at (front (c ∷ text)).len place ++ tokens_from (at + 1) (after place c) n text
unfolding tokens_from
tokens_first at place c text n e = ap (λ k. token_of (front (c ∷ text)).kind at (front (c ∷ text)).len place ++ tokens_from (at + 1) (after place c) k text) (let less : (front (c ∷ text)).len - 1 ≡ n = omega arith in less)

-- the token of the first piece, and those of the rest
pub tokens-piece : (at : ℕ) (place : Place) (text : List ℕ) (n : ℕ) → (front text).len ≡ n → 0 < n → n ≤ length text
    → tokens_from at place 0 text
    ≡ token_of (front text).kind at n place ++ tokens_from (at + n) (places_after place (take n text)) 0 (drop n text)
tokens-piece at place [] n e lt le = absurd (omega arith)
tokens-piece at place (c ∷ text) zero e lt le = absurd (omega arith)
tokens-piece at place (c ∷ text) (suc n) e lt le =
    tokens_first at place c text n e
    ∙ ap (λ k. token_of (front (c ∷ text)).kind at k place ++ tokens_from (at + 1) (after place c) n text) e
    ∙ ap (λ l. token_of (front (c ∷ text)).kind at (suc n) place ++ l) (tokens-skip n (at + 1) (after place c) text (omega arith)
    ∙ ap (λ i. tokens_from i (places_after (after place c) (take n text)) 0 (drop n text)) (let same : at + 1 + n ≡ at + suc n = omega arith in same))

-- a text of no bytes has no tokens
pub tokens-nil : (at : ℕ) (place : Place) → tokens_from at place 0 [] ≡ []
unfolding tokens_from
tokens-nil at place = refl

-- a piece has at least one byte, and no more than there are
pub record Fits (p : Piece) (text : List ℕ) : Type 0 where
  pub some : 0 < p.len
  pub within : p.len ≤ length text

longest_fits : (c : ℕ) (rest : List ℕ) (r : Option ℕ) → longest is_piece (c ∷ rest) ≡ r → Fits (longest_piece (c ∷ rest) r) (c ∷ rest)
longest_fits c rest None e = record { some = omega arith; within = omega arith }
longest_fits c rest (Some zero) e = absurd (true_not_false (IsLongest-from is_piece (c ∷ rest) 0 e).passes piece-nil)
longest_fits c rest (Some (suc n)) e =
    let l : IsLongest is_piece (c ∷ rest) (suc n) = IsLongest-from is_piece (c ∷ rest) (suc n) e in
    record { some = omega arith; within = l.within }

text_fits : (c : ℕ) (rest : List ℕ) → is_open_text (c ∷ rest) ≡ true → Fits (bad (prefix_len is_in_line (c ∷ rest))) (c ∷ rest)
text_fits c rest e =
    let quote : c ≡ 34 = eqb-true c 34 (and_left (c == 34) (not (is_some (longest is_text (c ∷ rest)))) e) in
    record {
      some = let count : prefix_len is_in_line (c ∷ rest) ≡ 1 + prefix_len is_in_line rest = rw quote refl in omega arith;
      within = prefix_len-le-length is_in_line (c ∷ rest);
    }

pick_fits : (text : List ℕ) (a b : Bool) (x y z : Piece) → Fits x text → (b ≡ true → Fits y text) → Fits z text → Fits (cond a x (cond b y z)) text
pick_fits text true b x y z f g h = f
pick_fits text false true x y z f g h = g refl
pick_fits text false false x y z f g h = h

front_cons_fits : (c : ℕ) (rest : List ℕ) → Fits (front (c ∷ rest)) (c ∷ rest)
unfolding front
front_cons_fits c rest =
    pick_fits (c ∷ rest) (is_open_comment (c ∷ rest)) (is_open_text (c ∷ rest)) (bad (length (c ∷ rest)))
    (bad (prefix_len is_in_line (c ∷ rest))) (longest_piece (c ∷ rest) (longest is_piece (c ∷ rest)))
    (record { some = omega arith; within = omega arith }) (text_fits c rest) (longest_fits c rest (longest is_piece (c ∷ rest)) refl)

pub front-fits : (text : List ℕ) → 0 < length text → Fits (front text) text
front-fits [] lt = absurd (omega arith)
front-fits (c ∷ rest) lt = front_cons_fits c rest

place_same : {file : ℕ} {l m c d : ℕ} → l ≡ m → c ≡ d
    → (let p : Place = record { file = file; line = l; col = c } in p) ≡ record { file = file; line = m; col = d }
place_same e f = cc

-- the place after a byte, by its line
pub place-newline : (file : ℕ) (line : Line) (at : ℕ)
    → place_in file (record { number = line.number + 1; start = at + 1 }) (at + 1) ≡ after (place_in file line at) 10
place-newline file line at = place_same refl (omega arith)

pub place-column : (file : ℕ) (line : Line) (at c : ℕ) → line.start ≤ at → (c ≡ 10 → ⊥)
    → place_in file line (at + 1) ≡ after (place_in file line at) c
place-column file line at c le n =
    let other : (c == 10) ≡ false = not_true _ (λ q. n (eqb-true c 10 q)) in
    rw other (place_same refl (omega arith))

-- one more byte of some
pub places-more : (place : Place) (bytes : List ℕ) (i : ℕ) → i < length bytes
    → places_after place (take (i + 1) bytes) ≡ after (places_after place (take i bytes)) (get_or bytes i 0)
places-more place bytes i lt = fold_more after place bytes i 0 lt

drop-drop : (m n : ℕ) (xs : List ℕ) → drop n (drop m xs) ≡ drop (m + n) xs
drop-drop zero n xs = ap (λ k. drop k xs) (let same : n ≡ 0 + n = omega arith in same)
drop-drop (suc m) n [] = drop-nil n ∙ sym (drop-nil (suc m + n))
drop-drop (suc m) n (x ∷ xs) = drop-drop m n xs ∙ ap (λ k. drop k (x ∷ xs)) (let same : suc (m + n) ≡ suc m + n = omega arith in same)

-- The tokens so far, and those of what is left: one piece further. `next` is the place after the piece.
pub lex-step : (bytes : List ℕ) (at n : ℕ) (place next : Place) (p : Piece) (before now whole : List Token)
    → p ≡ front (drop at bytes) → p.len ≡ n → 0 < n → at + n ≤ length bytes → next ≡ places_after place (take n (drop at bytes))
    → now ≡ before ++ token_of p.kind at n place → before ++ tokens_from at place 0 (drop at bytes) ≡ whole
    → now ++ tokens_from (at + n) next 0 (drop (at + n) bytes) ≡ whole
lex-step bytes at n place next p before now whole f len some within e item sofar =
    let step : tokens_from at place 0 (drop at bytes)
    ≡ token_of (front (drop at bytes)).kind at n place
    ++ tokens_from (at + n) (places_after place (take n (drop at bytes))) 0 (drop n (drop at bytes)) =
    tokens-piece at place (drop at bytes) n (ap (λ q. q.len) (sym f) ∙ len) some (omega (arith, length-drop at bytes)) in
    let rest : tokens_from (at + n) (places_after place (take n (drop at bytes))) 0 (drop n (drop at bytes))
    ≡ tokens_from (at + n) next 0 (drop (at + n) bytes) =
    ap (λ q. tokens_from (at + n) q 0 (drop n (drop at bytes))) (sym e) ∙ ap (tokens_from (at + n) next 0) (drop-drop at n bytes) in
    ap (λ l. l ++ tokens_from (at + n) next 0 (drop (at + n) bytes)) item
    ∙ append_assoc before (token_of p.kind at n place) (tokens_from (at + n) next 0 (drop (at + n) bytes))
    ∙ ap (λ l. before ++ (token_of p.kind at n place ++ l)) (sym rest)
    ∙ ap (λ k. before ++ (token_of k at n place ++ tokens_from (at + n) (places_after place (take n (drop at bytes))) 0 (drop n (drop at bytes)))) (ap (λ q. q.kind) f)
    ∙ ap (λ l. before ++ l) (sym step) ∙ sofar

-- nothing is left
pub lex-end : (bytes : List ℕ) (at : ℕ) (place : Place) (before whole : List Token) → length bytes ≤ at
    → before ++ tokens_from at place 0 (drop at bytes) ≡ whole → before ≡ whole
lex-end bytes at place before whole le e =
    sym (append-nil before)
    ∙ ap (λ l. before ++ l) (sym (ap (tokens_from at place 0) (drop_all at bytes le) ∙ tokens-nil at place)) ∙ e
