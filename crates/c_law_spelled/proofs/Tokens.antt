-- The tokens of a text: each is spelled as its kind asks. So a tree of its tokens is a tree of rows over their words.
use Rattle.std.proofs.Common.{◌≡◌, ◌≤◌, ◌+◌, ℕ, zero, suc, List, [], ◌∷◌, length, refl, ap, sym, subst, ◌∙◌, arith, Some, None, Option}
use Rattle.std.specs.Prelude.{Bool, true, false, if◌then◌else◌, slice_get, map}
use Rattle.std.proofs.lemmas.List.{append_cancel_right}
use Rattle.predict.specs.declared.symbol.Symbol.{Symbol}
use Rattle.predict.specs.declared.symbol.Symbol.TheVariants.{Kind, Left}
use Rattle.predict.specs.Tree.{Tree, Parts, node, no_parts, token, subtree, spelling, spelling_of}
use Rattle.predict.specs.Sentence.{first, IsTreeOf, ArePartsOf, IsSentenceOf}
use Rattle.c_tree.specs.Spelling.{EachHas}
use Rattle.c_tree.specs.declared.token.CToken.{CToken}
use Rattle.c_tree.specs.tokens.Spelling.{is_separator}
use Rattle.c_tree.specs.tokens.Tokens.{front_len, CTokens, tokens_at, less_one, tokens_from, c_tokens_of, bytes_of}
use Rattle.c_syntax.specs.Syntax.{text_kinds}
use Rattle.c_syntax.specs.grammar.Kinds.{kind_of, kind_in}
use Rattle.c_syntax.specs.grammar.Sets.{c_grammar, c_rules}
use Rattle.c_syntax.proofs.Tables.{row_written}
use Rattle.c_raw_build.specs.Words.{CText, word_of, word_at}
use Rattle.c_raw_build.proofs.Tokens.{IsGood, tokens_good}
use Rattle.c_law_words.proofs.Derived.{Derives, Fit}
use Rattle.c_law_words.proofs.Listed.{rows_same}
use Rattle.c_raw_build.specs.Due.{IsOfKind}
use Rattle.c_law_spelled.proofs.Rows.{KindsAt, IsOf}

-- there are no more tokens than bytes
few_separator : (b : Bool) (x y : CTokens) (n : ℕ) → length x.tokens ≤ n → length y.tokens ≤ n → length (if b then x else y).tokens ≤ n
few_separator true x y n h g = h
few_separator false x y n h g = g

few_front : (at : ℕ) (text : List ℕ) (r : Option ℕ) (more : CTokens) (n : ℕ) → length more.tokens ≤ n → length (tokens_at at text r more).tokens ≤ suc n
few_front at text None more n h = omega arith
few_front at text (Some len) more n h = omega (arith, h)

pub tokens_few : (at rest : ℕ) (text : List ℕ) → length (tokens_from at rest text).tokens ≤ length text
unfolding tokens_from
tokens_few at zero [] = omega arith
tokens_few at (suc rest) [] = omega arith
tokens_few at (suc rest) (c ∷ text) = omega (arith, tokens_few (at + 1) rest text)
tokens_few at zero (c ∷ text) =
    let skipped = less_one (front_len (c ∷ text)) in
    few_separator (is_separator c) (tokens_from (at + 1) 0 text) (tokens_at at (c ∷ text) (front_len (c ∷ text)) (tokens_from (at + 1) skipped text)) (suc (length text))
    (omega (arith, tokens_few (at + 1) 0 text))
    (few_front at (c ∷ text) (front_len (c ∷ text)) (tokens_from (at + 1) skipped text) (length text) (tokens_few (at + 1) skipped text))

-- the kinds of the tokens from one on
kinds_from : (text : CText) (ts : List CToken) (i : ℕ) → ((j : ℕ) → slice_get text.tokens (i + j) ≡ slice_get ts j) → EachHas (IsGood text.bytes) ts
    → KindsAt text i (map (kind_in text.bytes) ts)
kinds_from text [] i there good = tt
kinds_from text (t ∷ ts) i there good =
    let w = bytes_of text.bytes t in
    let word : word_at text i ≡ w = ap (λ n. word_of text (slice_get text.tokens n)) (let same : i ≡ i + 0 = omega arith in same) ∙ ap (word_of text) (there 0) in
    let k = kind_in text.bytes t in
    let known : IsOfKind k w = record { kind_is = ap (λ c. kind_of c w) (sym good.0.kind_is); token = good.0.token; within = good.0.limits } in (
      subst (λ l. IsOfKind k l) (sym word) known,
      kinds_from text ts (i + 1) (λ j. ap (slice_get text.tokens) (let same : i + 1 + j ≡ i + suc j = omega arith in same) ∙ there (suc j)) good.1,
    )

mutual
  tree_derived : (left : ℕ) (t : Tree) (next : ℕ) → IsTreeOf c_rules left t next → Derives c_grammar.rows left t
  tree_derived left (node row parts) next is =
      (c_rules.symbols row, row_written left (first (spelling_of parts) next) row is.0, parts_fit (c_rules.symbols row) parts next is.1)

  parts_fit : (symbols : List Symbol) (parts : Parts) (next : ℕ) → ArePartsOf c_rules symbols parts next → Fit c_grammar.rows symbols parts
  parts_fit [] no_parts next are = tt
  parts_fit (Kind k ∷ symbols) (token j parts) next are = (are.0, parts_fit symbols parts next are.1)
  parts_fit (Left left ∷ symbols) (subtree t parts) next are =
      (tree_derived left t (first (spelling_of parts) next) are.0, parts_fit symbols parts next are.1)
  parts_fit [] (token j parts) next are = absurd are
  parts_fit [] (subtree t parts) next are = absurd are
  parts_fit (Kind k ∷ symbols) no_parts next are = absurd are
  parts_fit (Kind k ∷ symbols) (subtree t parts) next are = absurd are
  parts_fit (Left left ∷ symbols) no_parts next are = absurd are
  parts_fit (Left left ∷ symbols) (token j parts) next are = absurd are

-- a text with its tokens
abbrev pub text_of : List ℕ → CText
text_of bytes = record { bytes = bytes; tokens = (c_tokens_of bytes).tokens }

-- a tree that makes the tokens a sentence
pub sentence_tree : (bytes : List ℕ) (t : Tree) → IsSentenceOf c_rules t (text_kinds bytes) → IsOf (text_of bytes) 0 (record { at = 0; tree = t })
unfolding c_rules
sentence_tree bytes t s =
    let text = text_of bytes in
    let kinds : map (kind_in bytes) text.tokens ≡ spelling t = append_cancel_right (map (kind_in bytes) text.tokens) s.0 (0 ∷ []) s.1 ∙ sym s.2.spelled in
    let good = tokens_good bytes 0 0 bytes refl (omega arith) in
    record {
      derived = subst (λ rows. Derives rows 0 t) rows_same (tree_derived 0 t 0 s.2.derived);
      stands = subst (λ l. KindsAt text 0 l) kinds
          (kinds_from text text.tokens 0 (λ j. ap (slice_get text.tokens) (let same : 0 + j ≡ j = omega arith in same)) good);
    }
