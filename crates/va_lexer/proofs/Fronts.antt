-- The piece at the front of a text, by the longest front that passes.
use Rattle.std.proofs.Common.{◌≡◌, ◌<◌, ◌≤◌, ◌+◌, ◌-◌, ℕ, zero, suc, List, [], ◌∷◌, length, take, drop, get_or, refl, ap, sym, ◌∙◌, arith, Option, Some, None, subst, inl, inr, ◌⊎◌}
use Rattle.std.specs.Prelude.{Bool, true, false, not, ◌==◌, ◌&&◌, ◌||◌, cond}
use Rattle.std.specs.List.{list_all, prefix_len}
use Rattle.va_base.specs.declared.token.TokenKind.{TokenKind}
use Rattle.va_base.specs.declared.token.TokenKind.TheVariants.{Bad}
use Rattle.va_base.specs.Longest.{one_more, longest, IsLongest, HasNone}
use Rattle.va_base.specs.Spelling.{is_empty, are_some, is_numeral}
use Rattle.va_base.proofs.Longest.{longest_is, longest-none, longest-cons, longest-same, IsLongest-from, HasNone-from}
use Rattle.va_base.proofs.Tests.{not_true, true_not_false, and_left, and_right, and_true, and_false, or_left, or_right, or_cases, or_false}
use Rattle.va_lexer.specs.declared.piece.Piece.{Piece}
use Rattle.va_lexer.specs.Pieces.{is_piece, piece_kind, piece, bad, is_open_comment, is_open_text, longest_piece, front, shifted}

-- tests that agree on what begins with this byte
pub longest-first : (p q : List ℕ → Bool) (c : ℕ) (rest : List ℕ) → ((xs : List ℕ) → p (c ∷ xs) ≡ q (c ∷ xs)) → p [] ≡ q []
    → longest p (c ∷ rest) ≡ longest q (c ∷ rest)
unfolding longest
longest-first p q c rest e n =
    ap (λ b. one_more b (longest (λ xs. p (c ∷ xs)) rest)) n
    ∙ ap (one_more (q [])) (longest-same (λ xs. p (c ∷ xs)) (λ xs. q (c ∷ xs)) rest e)

-- tests that agree on the fronts of a text
pub longest-fronts : (p q : List ℕ → Bool) (text : List ℕ) → ((m : ℕ) → m ≤ length text → p (take m text) ≡ q (take m text))
    → longest p text ≡ longest q text
unfolding longest
longest-fronts p q [] e = rw (e 0 (omega arith)) refl
longest-fronts p q (c ∷ rest) e =
    ap (λ b. one_more b (longest (λ xs. p (c ∷ xs)) rest)) (e 0 (omega arith))
    ∙ ap (one_more (q [])) (longest-fronts (λ xs. p (c ∷ xs)) (λ xs. q (c ∷ xs)) rest (λ m le. e (suc m) (omega arith)))

-- no front passes where the first byte does not
all_first : (b : Bool) (q : List ℕ → Bool) (rest : List ℕ) (n : ℕ) → longest q rest ≡ Some n
    → one_more true (longest (λ front. b && q front) rest) ≡ Some (cond b (1 + n) 0)
all_first true q rest n e = ap (one_more true) e ∙ ap (λ k. Some k) (omega arith)
all_first false q rest n e = ap (one_more true) (longest-none (λ front. false) rest (λ m le. refl))

-- all bytes pass
pub longest-all : (p : ℕ → Bool) (text : List ℕ) → longest (list_all p) text ≡ Some (prefix_len p text)
longest-all p [] = longest_is (list_all p) [] 0 (record { within = omega arith; passes = refl; longer = λ m lt le. absurd (omega arith) })
longest-all p (c ∷ rest) =
    longest-cons (list_all p) (λ front. p c && list_all p front) c rest (λ front. refl)
    ∙ all_first (p c) (list_all p) rest (prefix_len p rest) (longest-all p rest)

front_pick : (a b : Bool) (x y z : Piece) → a ≡ false → b ≡ false → cond a x (cond b y z) ≡ z
front_pick true b x y z e f = absurd (true_not_false refl e)
front_pick false true x y z e f = absurd (true_not_false refl f)
front_pick false false x y z e f = refl

-- the longest piece
pub front-longest : (text : List ℕ) (r : Option ℕ) → is_open_comment text ≡ false → is_open_text text ≡ false
    → longest is_piece text ≡ r → front text ≡ longest_piece text r
unfolding front
front-longest text r c t e =
    front_pick (is_open_comment text) (is_open_text text) (bad (length text)) _ (longest_piece text (longest is_piece text)) c t
    ∙ ap (longest_piece text) e

pub front-kind : (text : List ℕ) (n : ℕ) (k : Option TokenKind) → is_open_comment text ≡ false → is_open_text text ≡ false
    → longest is_piece text ≡ Some n → piece_kind (take n text) ≡ k → front text ≡ piece k n
front-kind text n k c t e kind = front-longest text (Some n) c t e ∙ ap (λ x. piece x n) kind

pub front-bad : (text : List ℕ) → is_open_comment text ≡ false → is_open_text text ≡ false → longest is_piece text ≡ None → front text ≡ bad 1
front-bad text c t e = front-longest text None c t e

pub piece-nil : is_piece [] ≡ false
unfolding is_numeral
piece-nil = refl

piece-fronts : (q : List ℕ → Bool) (c : ℕ) (rest : List ℕ) → q [] ≡ false
    → ((m : ℕ) → m ≤ length rest → is_piece (c ∷ take m rest) ≡ q (c ∷ take m rest)) → longest is_piece (c ∷ rest) ≡ longest q (c ∷ rest)
piece-fronts q c rest empty same =
    longest-fronts is_piece q (c ∷ rest) (λ m. elim m as (λ k. k ≤ length (c ∷ rest) → is_piece (take k (c ∷ rest)) ≡ q (take k (c ∷ rest))) [
      | zero ↦ λ le. piece-nil ∙ sym empty
      | suc k ↦ λ le. same k (omega arith)
    ])

pub numeral-nil : is_numeral [] ≡ false
unfolding is_numeral
numeral-nil = refl

-- The piece by a test with which `is_piece` agrees on all fronts: it has the kind of each front that passes the test.
pub front-by : (q : List ℕ → Bool) (c : ℕ) (rest : List ℕ) (n : ℕ) (k : Option TokenKind)
    → is_open_comment (c ∷ rest) ≡ false → is_open_text (c ∷ rest) ≡ false → q [] ≡ false
    → ((m : ℕ) → m ≤ length rest → is_piece (c ∷ take m rest) ≡ q (c ∷ take m rest))
    → ((m : ℕ) → m ≤ length rest → q (c ∷ take m rest) ≡ true → piece_kind (c ∷ take m rest) ≡ k)
    → longest q (c ∷ rest) ≡ Some n → front (c ∷ rest) ≡ piece k n
front-by q c rest zero k o t empty same kind e = absurd (true_not_false (IsLongest-from q (c ∷ rest) 0 e).passes empty)
front-by q c rest (suc n) k o t empty same kind e =
    let l : IsLongest q (c ∷ rest) (suc n) = IsLongest-from q (c ∷ rest) (suc n) e in
    front-kind (c ∷ rest) (suc n) k o t (piece-fronts q c rest empty same ∙ e) (kind n (omega (arith, l.within)) l.passes)

-- and where no front passes the test, the first byte is bad
pub front-bad-by : (q : List ℕ → Bool) (c : ℕ) (rest : List ℕ)
    → is_open_comment (c ∷ rest) ≡ false → is_open_text (c ∷ rest) ≡ false → q [] ≡ false
    → ((m : ℕ) → m ≤ length rest → is_piece (c ∷ take m rest) ≡ q (c ∷ take m rest))
    → longest q (c ∷ rest) ≡ None → front (c ∷ rest) ≡ bad 1
front-bad-by q c rest o t empty same e = front-bad (c ∷ rest) o t (piece-fronts q c rest empty same ∙ e)
