-- The tokens of a text: each lies in the text, and is spelled as its kind asks.
use Rattle.std.proofs.Common.{◌≡◌, ◌≤◌, ◌<◌, ◌+◌, ◌^◌, ℕ, zero, suc, List, [], ◌∷◌, ◌++◌, length, take, drop, refl, ap, sym, subst, ◌∙◌, arith, Some, None, Option}
use Rattle.std.specs.Prelude.{Bool, true, false, if◌then◌else◌, slice_get, map}
use Rattle.std.proofs.lemmas.List.{append_cancel_right, append-nil, length-map}
use Rattle.va_base.proofs.Longest.{some_none, some_same, IsLongest-from}
use Rattle.va_base.proofs.Tests.{true_not_false}
use Rattle.va_base.specs.Longest.{longest}
use Rattle.va_base.specs.Spelling.{is_digit, begins}
use Rattle.predict.specs.declared.tree.ParseNode.{ParseNode}
use Rattle.predict.specs.Sentence.{IsTreeOf}
use Rattle.predict.specs.Tree.{Tree, spelling}
use Rattle.c_tree.specs.Spelling.{EachHas}
use Rattle.c_tree.specs.declared.token.CToken.{CToken}
use Rattle.c_tree.specs.tokens.Spelling.{is_separator, is_token, token_kind}
use Rattle.c_tree.specs.tokens.Limits.{is_within}
use Rattle.c_tree.specs.tokens.Tokens.{limited, front_len, CTokens, tokens_at, less_one, tokens_from, c_tokens_of, bytes_of}
use Rattle.c_syntax.specs.Syntax.{IsSpelled}
use Rattle.c_syntax.specs.grammar.Kinds.{kind_of, kind_in}
use Rattle.c_syntax.specs.grammar.Sets.{c_rules}
use Rattle.c_syntax.proofs.Longest.{drop-drop}
use Rattle.c_raw_build.specs.Due.{IsOfKind, HasTokens, IsDueIn, is_one_of}
use Rattle.c_raw_build.specs.Placed.{width}
use Rattle.c_raw_build.specs.Reading.{Ahead, trees_of, first_tree}
use Rattle.c_raw_build.specs.Words.{CText}
use Rattle.c_raw_build.proofs.DueTokens.{width_spelled}
use Rattle.c_raw_build.proofs.Trees.{first_read}

-- a token of a text
pub record IsGood (text : List ℕ) (t : CToken) : Type 0 where
  pub kind_is : t.kind ≡ token_kind (bytes_of text t)
  pub token : is_token (bytes_of text t) ≡ true
  pub limits : begins is_digit (bytes_of text t) ≡ true → is_within (bytes_of text t) ≡ true
  pub within : t.first + t.len ≤ length text

begins_taken : (test : ℕ → Bool) (n : ℕ) (text : List ℕ) → begins test (take n text) ≡ true → begins test text ≡ true
begins_taken test zero [] h = h
begins_taken test zero (c ∷ text) h = absurd (true_not_false h refl)
begins_taken test (suc n) [] h = h
begins_taken test (suc n) (c ∷ text) h = h

record IsFront (text : List ℕ) (n : ℕ) : Type 0 where
  token : is_token (take n text) ≡ true
  limits : begins is_digit (take n text) ≡ true → is_within (take n text) ≡ true
  within : n ≤ length text

front_good : (text : List ℕ) (n : ℕ) → front_len text ≡ Some n → IsFront text n
unfolding front_len
front_good text n h = by_longest (longest is_token text) refl h
  where
    by_tests : (m : ℕ) (b d : Bool) → longest is_token text ≡ Some m → begins is_digit text ≡ b → is_within (take m text) ≡ d
        → (if b then (if d then Some m else None) else Some m) ≡ Some n → IsFront text n
    by_tests m true true l e f h =
        let good = IsLongest-from is_token text m l in
        subst (IsFront text) (some_same h) (record { token = good.passes; limits = λ g. f; within = good.within })
    by_tests m true false l e f h = absurd (some_none (sym h))
    by_tests m false d l e f h =
        let good = IsLongest-from is_token text m l in
        subst (IsFront text) (some_same h)
        (record { token = good.passes; limits = λ g. absurd (true_not_false (begins_taken is_digit m text g) e); within = good.within })

    by_longest : (r : Option ℕ) → longest is_token text ≡ r → limited text r ≡ Some n → IsFront text n
    by_longest None l h = absurd (some_none (sym h))
    by_longest (Some m) l h = by_tests m (begins is_digit text) (is_within (take m text)) l refl refl h

rest_dropped : (c at : ℕ) (text whole : List ℕ) → c ∷ text ≡ drop at whole → text ≡ drop (at + 1) whole
rest_dropped c at text whole h = ap (drop 1) h ∙ drop-drop at 1 whole

by_separator : (P : CToken → Type 0) (b : Bool) (x y : CTokens) → EachHas P x.tokens → EachHas P y.tokens → EachHas P (if b then x else y).tokens
by_separator P true x y h g = h
by_separator P false x y h g = g

by_front : (whole : List ℕ) (at : ℕ) (text : List ℕ) (r : Option ℕ) (more : CTokens) → text ≡ drop at whole → at + length text ≡ length whole → front_len text ≡ r
    → EachHas (IsGood whole) more.tokens → EachHas (IsGood whole) (tokens_at at text r more).tokens
by_front whole at text None more e s f h = tt
by_front whole at text (Some n) more e s f h =
    let good = front_good text n f in (
      record {
        kind_is = ap (λ l. token_kind (take n l)) e;
        token = subst (λ l. is_token (take n l) ≡ true) e good.token;
        limits = subst (λ l. begins is_digit (take n l) ≡ true → is_within (take n l) ≡ true) e good.limits;
        within = omega (arith, good.within, s);
      },
      h,
    )

pub tokens_good : (whole : List ℕ) (at rest : ℕ) (text : List ℕ) → text ≡ drop at whole → at + length text ≡ length whole → EachHas (IsGood whole) (tokens_from at rest text).tokens
unfolding tokens_from
tokens_good whole at zero [] h s = tt
tokens_good whole at (suc rest) [] h s = tt
tokens_good whole at (suc rest) (c ∷ text) h s = tokens_good whole (at + 1) rest text (rest_dropped c at text whole h) (omega (arith, s))
tokens_good whole at zero (c ∷ text) h s =
    let more = rest_dropped c at text whole h in
    let skipped = less_one (front_len (c ∷ text)) in
    let size : at + 1 + length text ≡ length whole = omega (arith, s) in
    by_separator (IsGood whole) (is_separator c) (tokens_from (at + 1) 0 text)
    (tokens_at at (c ∷ text) (front_len (c ∷ text)) (tokens_from (at + 1) skipped text)) (tokens_good whole (at + 1) 0 text more size)
    (by_front whole at (c ∷ text) (front_len (c ∷ text)) (tokens_from (at + 1) skipped text) h s refl (tokens_good whole (at + 1) skipped text more size))

-- the tokens from one on
tokens_there : (text : CText) (ts : List CToken) (i : ℕ) → ((j : ℕ) → slice_get text.tokens (i + j) ≡ slice_get ts j) → EachHas (IsGood text.bytes) ts
    → HasTokens text i (map (kind_in text.bytes) ts)
unfolding HasTokens
tokens_there text [] i there good = tt
tokens_there text (t ∷ ts) i there good =
    let w = bytes_of text.bytes t in
    let found : slice_get text.tokens i ≡ Some t = ap (slice_get text.tokens) (let same : i ≡ i + 0 = omega arith in same) ∙ there 0 in
    let known : IsOfKind (kind_in text.bytes t) w =
    record { kind_is = ap (λ c. kind_of c w) (sym good.0.kind_is); token = good.0.token; within = good.0.limits } in (
      record { token = t; there = found; told = good.0.kind_is; within = good.0.within; of_kind = known },
      tokens_there text ts (i + 1) (λ j. ap (slice_get text.tokens) (let same : i + 1 + j ≡ i + suc j = omega arith in same) ∙ there (suc j)) good.1,
    )

-- what is read of a text that the grammar spells
spelled_due : (bytes : List ℕ) (tokens : List CToken) (parsed : List ParseNode) → IsSpelled bytes tokens parsed
    → IsDueIn (record { bytes = bytes; tokens = tokens }) (0 ∷ []) (record { nodes = parsed; at = 0 })
unfolding c_rules is_one_of
spelled_due bytes tokens parsed s =
    let t : Tree = s.parsed.tree in
    let sentence = s.parsed.sentence in
    let text : CText = record { bytes = bytes; tokens = tokens } in
    let all : (c_tokens_of bytes).tokens ≡ tokens = ap (λ (c : CTokens). c.tokens) s.all in
    let tree_is : first_tree (trees_of parsed) ≡ t = ap (λ l. first_tree (trees_of l)) s.parsed.listed ∙ first_read 0 t 0 sentence.2.derived in
    let kinds : map (kind_in bytes) tokens ≡ spelling t =
    ap (map (kind_in bytes)) (sym all) ∙ append_cancel_right (map (kind_in bytes) (c_tokens_of bytes).tokens) sentence.0 (0 ∷ []) sentence.1 ∙ sym sentence.2.spelled in
    let wide : width t ≡ length tokens = width_spelled t ∙ ap length (sym kinds) ∙ length-map tokens (kind_in bytes) in
    let good : EachHas (IsGood bytes) tokens = subst (EachHas (IsGood bytes)) all (tokens_good bytes 0 0 bytes refl (omega arith)) in
    let there : HasTokens text 0 (map (kind_in bytes) tokens) = tokens_there text tokens 0 (λ j. ap (slice_get tokens) (let same : 0 + j ≡ j = omega arith in same)) good in
    let few : length tokens < 2 ^ 32 = s.few in
    record {
      left = 0;
      is_one = refl;
      due = record {
        due = record {
          derived = ((0, subst (λ (x : Tree). IsTreeOf c_rules 0 x 0) (sym tree_is) sentence.2.derived), tt);
          fits = subst (λ (x : Tree). 0 + (width x + 0) < 2 ^ 32) (sym tree_is) (omega (arith, wide, few));
        };
        tokens = subst (λ (x : Tree). HasTokens text 0 (spelling x ++ [])) (sym tree_is)
            (subst (HasTokens text 0) (sym (append-nil (spelling t))) (subst (HasTokens text 0) kinds there));
      };
    }

-- the tree of a text that the grammar spells is due
pub text_due : (bytes : List ℕ) (tokens : List CToken) (parsed : List ParseNode) (text : CText) (a : Ahead) → IsSpelled bytes tokens parsed
    → text.bytes ≡ bytes → text.tokens ≡ tokens → a.nodes ≡ parsed → a.at ≡ 0 → IsDueIn text (0 ∷ []) a
text_due bytes tokens parsed text a s bytes_are tokens_are nodes_are at_is =
    let same_text : record { bytes = bytes; tokens = tokens } ≡ text = λ j. record { bytes = sym bytes_are j; tokens = sym tokens_are j } in
    let same : record { nodes = parsed; at = 0 } ≡ a = λ j. record { nodes = sym nodes_are j; at = sym at_is j } in
    subst (λ (x : CText). IsDueIn x (0 ∷ []) a) same_text (subst (IsDueIn (record { bytes = bytes; tokens = tokens }) (0 ∷ [])) same (spelled_due bytes tokens parsed s))
