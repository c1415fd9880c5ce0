-- The module's number in each name of C among tokens: where the words of some tokens bear a number, that is the one that they hold.
use Rattle.std.proofs.Common.{◌≡◌, ◌<◌, ◌+◌, ℕ, suc, List, [], ◌∷◌, ◌++◌, length, refl, ap, sym, subst, ◌∙◌, arith, Some, eq-eqb, eqb-true}
use Rattle.std.specs.Prelude.{Bool, true, false, ◌==◌, ◌||◌, nat_eq, map, slice_get}
use Rattle.std.specs.List.{list_any}
use Rattle.std.proofs.lemmas.Bool.{and_parts, both_ways}
use Rattle.predict.proofs.Lists.{implied}
use Rattle.c_tree.specs.Raw.{At}
use Rattle.c_tree.specs.RawOf.{at_0}
use Rattle.c_tree.specs.Words.{Word}
use Rattle.c_tree.specs.declared.token.CToken.{CToken}
use Rattle.c_tree.specs.declared.token.CTokenKind.{CTokenKind}
use Rattle.c_tree.specs.tokens.Spelling.{token_kind}
use Rattle.c_tree.specs.tokens.Tokens.{bytes_of}
use Rattle.c_syntax.specs.grammar.Kinds.{kind_of, kind_in}
use Rattle.c_syntax.proofs.Longest.{cond_true, cond_false}
use Rattle.c_raw_build.specs.Placed.{width}
use Rattle.c_raw_build.specs.Words.{CText, word_of, has_module_number, module_number, module_numbers_of, module_numbers}
use Rattle.c_law_words.specs.Kinds.{kind_of_word}
use Rattle.c_law_words.proofs.Pieces.{Pieces, Piece, a_name, a_word, a_tree, words, words_of, flat, flat_same, Shown}
use Rattle.c_law_print_parses.proofs.Placing.{StandsAt, written_width}
use Rattle.c_law_form_ignores_places.specs.Forget.{forget_at, once}
use Rattle.c_law_roundtrip.proofs.Bearing.{bears, all_bear}

-- a token of this kind and with these bytes stands at this index
pub record TokenAt (text : CText) (at : ℕ) (kind : CTokenKind) (w : Word) : Type 0 where
  pub token : CToken
  pub there : slice_get text.tokens at ≡ Some token
  pub kind_is : token.kind ≡ kind
  pub bytes_are : bytes_of text.bytes token ≡ w

-- tokens by their kinds and bytes, from an index on
abbrev pub PairsAt : CText → ℕ → List (CTokenKind × Word) → Type 0
PairsAt text at [] = Unit {0}
PairsAt text at (p ∷ pairs) = TokenAt text at p.0 p.1 × PairsAt text (at + 1) pairs

abbrev pub paired : Word → CTokenKind × Word
paired w = (token_kind w, w)

-- the tokens of these words stand in the text from this index on
abbrev pub TokensAt : CText → ℕ → List Word → Type 0
TokensAt text at ws = PairsAt text at (map paired ws)

pub tokens_moved : (text : CText) (at to : ℕ) (ws : List Word) → at ≡ to → TokensAt text at ws → TokensAt text to ws
tokens_moved text at to ws e s = subst (λ i. TokensAt text i ws) e s

-- the tokens of a text from one on
pub tokens_from : (text : CText) (tokens : List CToken) (at : ℕ) → ((i : ℕ) → slice_get text.tokens (at + i) ≡ slice_get tokens i)
    → PairsAt text at (map (λ (t : CToken). (t.kind, bytes_of text.bytes t)) tokens)
tokens_from text [] at there = tt
tokens_from text (t ∷ tokens) at there = (
  record {
    token = t;
    there = ap (slice_get text.tokens) (let same : at ≡ at + 0 = omega arith in same) ∙ there 0;
    kind_is = refl;
    bytes_are = refl;
  },
  tokens_from text tokens (at + 1) (λ j. ap (slice_get text.tokens) (let same : at + 1 + j ≡ at + suc j = omega arith in same) ∙ there (suc j)),
)

pub words_at : (text : CText) (at : ℕ) (ws : List Word) → TokensAt text at ws → StandsAt text at ws
words_at text at [] s = tt
words_at text at (w ∷ ws) s = (ap (word_of text) s.0.there ∙ s.0.bytes_are, words_at text (at + 1) ws s.1)

pub tokens_split : (text : CText) (at : ℕ) (us vs : List Word) → TokensAt text at (us ++ vs) → TokensAt text at us × TokensAt text (at + length us) vs
tokens_split text at [] vs s = (tt, tokens_moved text at (at + 0) vs (omega arith) s)
tokens_split text at (u ∷ us) vs s =
    let rest = tokens_split text (at + 1) us vs s.1 in
    ((s.0, rest.0), tokens_moved text (at + 1 + length us) (at + suc (length us)) vs (omega arith) rest.1)

-- the trees of a row's pieces
abbrev pub TreesAt : CText → ℕ → List Piece → Type 0
TreesAt text at [] = Unit {0}
TreesAt text at (a_name w ∷ pieces) = TreesAt text (at + 1) pieces
TreesAt text at (a_word kind w ∷ pieces) = TreesAt text (at + 1) pieces
TreesAt text at (a_tree left t ws ∷ pieces) = TokensAt text at ws × TreesAt text (at + width t) pieces

trees_at : (text : CText) (at : ℕ) (pieces : List Piece) → Shown pieces → TokensAt text at (words_of pieces) → TreesAt text at pieces
trees_at text at [] shown s = tt
trees_at text at (a_name w ∷ pieces) shown s = trees_at text (at + 1) pieces shown s.1
trees_at text at (a_word kind w ∷ pieces) shown s = trees_at text (at + 1) pieces shown.1 s.1
trees_at text at (a_tree left t ws ∷ pieces) shown s =
    let p = tokens_split text at ws (words_of pieces) s in (
      p.0,
      trees_at text (at + width t) pieces shown.1
          (tokens_moved text (at + length ws) (at + width t) (words_of pieces) (ap (λ n. at + n) (sym (written_width shown.0))) p.1),
    )

pub row_at : (text : CText) (at : ℕ) (p : Pieces) → Shown (flat p) → TokensAt text at (words p) → TreesAt text at (flat p)
row_at text at p shown s = trees_at text at (flat p) shown (subst (λ ws. TokensAt text at ws) (sym (flat_same p)) s)

-- numbers that are all this one
abbrev AllAre : ℕ → List (At ℕ) → Type 0
AllAre k [] = Unit {0}
AllAre k (n ∷ rest) = (n.value ≡ k) × AllAre k rest

-- whether a word holds a module's number
abbrev pub holds : Word → Bool
holds w = has_module_number (kind_of_word w)

abbrev pub some_holds : List Word → Bool
some_holds = list_any holds

-- the numbers in the names among some words
record NumbersAre (k : ℕ) (some : Bool) (list : List (At ℕ)) : Type 0 where
  all : AllAre k list
  any : some ≡ true → 0 < length list

kind_there : (text : CText) (at : ℕ) (w : Word) (t : TokenAt text at (token_kind w) w) → kind_in text.bytes t.token ≡ kind_of_word w
kind_there text at w t = λ i. kind_of (t.kind_is i) (t.bytes_are i)

-- what one token adds
one_added : (text : CText) (at k : ℕ) (w : Word) (token : CToken) (some b : Bool) (rest : List (At ℕ)) → has_module_number (kind_in text.bytes token) ≡ b
    → (b ≡ true → module_number (kind_in text.bytes token) (bytes_of text.bytes token) ≡ k) → NumbersAre k some rest
    → NumbersAre k (b || some) (module_numbers_of text at (Some token) ++ rest)
one_added text at k w token some true rest h value r =
    subst (λ l. NumbersAre k true (l ++ rest))
    (sym (cond_true (has_module_number (kind_in text.bytes token)) (record { at = at; value = module_number (kind_in text.bytes token) (bytes_of text.bytes token) } ∷ []) [] h))
    (record { all = (value refl, r.all); any = λ e. omega arith })
one_added text at k w token some false rest h value r =
    subst (λ l. NumbersAre k some (l ++ rest))
    (sym (cond_false (has_module_number (kind_in text.bytes token)) (record { at = at; value = module_number (kind_in text.bytes token) (bytes_of text.bytes token) } ∷ []) [] h)) r

numbers_are : (text : CText) (at k : ℕ) (ws : List Word) → TokensAt text at ws → all_bear k ws ≡ true → NumbersAre k (some_holds ws) (module_numbers text at (length ws))
numbers_are text at k [] s h = record { all = tt; any = λ e. absurd (both_ways false refl e) }
numbers_are text at k (w ∷ ws) s h =
    let p = and_parts (bears k w) (all_bear k ws) h in
    let t = s.0 in
    let kind = kind_there text at w t in
    let rest = numbers_are text (at + 1) k ws s.1 p.1 in
    let value : holds w ≡ true → module_number (kind_in text.bytes t.token) (bytes_of text.bytes t.token) ≡ k =
    λ e. (λ i. module_number (kind i) (t.bytes_are i)) ∙ eqb-true (module_number (kind_of_word w) w) k (implied (holds w) (nat_eq (module_number (kind_of_word w) w) k) p.0 e) in
    let one = one_added text at k w t.token (some_holds ws) (holds w) (module_numbers text (at + 1) (length ws)) (ap has_module_number kind) value rest in
    subst (λ o. NumbersAre k (some_holds (w ∷ ws)) (module_numbers_of text at o ++ module_numbers text (at + 1) (length ws))) (sym t.there) one

once_are : (k : ℕ) (list : List (At ℕ)) → AllAre k list → 0 < length list → once (map forget_at list) ≡ at_0 k ∷ []
once_are k [] all some = absurd (nothing some)
  where
    nothing : 0 < 0 → ⊥
    nothing lt = omega (arith, lt)
once_are k (n ∷ []) all some = ap (λ x. at_0 x ∷ []) all.0
once_are k (n ∷ m ∷ rest) all some =
    cond_true (n.value == m.value) (once (map forget_at (m ∷ rest))) (at_0 n.value ∷ once (map forget_at (m ∷ rest))) (eq-eqb n.value m.value (all.0 ∙ sym all.1.0))
    ∙ once_are k (m ∷ rest) all.1 (omega arith)

-- the number of the module, where it stands at all
pub numbers_once : (text : CText) (at k n : ℕ) (ws : List Word) → TokensAt text at ws → all_bear k ws ≡ true → some_holds ws ≡ true → n ≡ length ws
    → once (map forget_at (module_numbers text at n)) ≡ at_0 k ∷ []
numbers_once text at k n ws s h some e =
    let r = numbers_are text at k ws s h in
    ap (λ i. once (map forget_at (module_numbers text at i))) e ∙ once_are k (module_numbers text at (length ws)) r.all (r.any some)
