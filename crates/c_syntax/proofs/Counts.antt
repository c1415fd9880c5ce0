-- There are no more tokens than bytes.
use Rattle.std.proofs.Common.{◌≡◌, ◌<◌, ◌≤◌, ◌+◌, ◌-◌, ◌^◌, ℕ, zero, suc, List, [], ◌∷◌, length, ap, sym, subst, arith, Some, None, Option}
use Rattle.std.specs.Prelude.{Bool, true, false, if◌then◌else◌}
use Rattle.c_tree.specs.declared.token.CToken.{CToken}
use Rattle.c_tree.specs.tokens.Spelling.{is_separator}
use Rattle.c_tree.specs.tokens.Tokens.{front_len, CTokens, tokens_at, less_one, tokens_from, c_tokens_of}

few_separator : (b : Bool) (x y : CTokens) (n : ℕ) → length x.tokens ≤ n → length y.tokens ≤ n → length (if b then x else y).tokens ≤ n
few_separator true x y n h g = h
few_separator false x y n h g = g

few_front : (at : ℕ) (text : List ℕ) (r : Option ℕ) (more : CTokens) (n : ℕ) → length more.tokens ≤ n → length (tokens_at at text r more).tokens ≤ suc n
few_front at text None more n h = omega arith
few_front at text (Some len) more n h = omega (arith, h)

tokens_few : (at rest : ℕ) (text : List ℕ) → length (tokens_from at rest text).tokens ≤ length text
unfolding tokens_from
tokens_few at zero [] = omega arith
tokens_few at (suc rest) [] = omega arith
tokens_few at (suc rest) (c ∷ text) = omega (arith, tokens_few (at + 1) rest text)
tokens_few at zero (c ∷ text) =
    let skipped = less_one (front_len (c ∷ text)) in
    few_separator (is_separator c) (tokens_from (at + 1) 0 text) (tokens_at at (c ∷ text) (front_len (c ∷ text)) (tokens_from (at + 1) skipped text)) (suc (length text))
    (omega (arith, tokens_few (at + 1) 0 text))
    (few_front at (c ∷ text) (front_len (c ∷ text)) (tokens_from (at + 1) skipped text) (length text) (tokens_few (at + 1) skipped text))

-- the tokens of a text that is not too long
pub few_tokens : (text : List ℕ) (tokens : List CToken) → c_tokens_of text ≡ record { tokens = tokens; bad = None } → length text < 2 ^ 32 - 1
    → length tokens < 2 ^ 32
few_tokens text tokens e h =
    let few : length tokens ≤ length text = subst (λ (c : CTokens). length c.tokens ≤ length text) e (tokens_few 0 0 text) in
    omega (arith, few, h)
