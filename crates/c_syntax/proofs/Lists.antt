-- The tokens of a text, one after the other.
use Rattle.std.proofs.Common.{◌≡◌, ◌<◌, ◌≤◌, ◌+◌, ◌-◌, ℕ, zero, suc, List, [], ◌∷◌, ◌++◌, length, take, drop, get_or, refl, ap, sym, ◌∙◌, arith, Option, Some, None, append_assoc}
use Rattle.std.specs.Prelude.{true, false}
use Rattle.std.proofs.lemmas.List.{drop_all, length-drop, append-nil}
use Rattle.std.proofs.Math.Seq.{drop-cons}
use Rattle.va_base.specs.Spelling.{begins}
use Rattle.c_tree.specs.tokens.Spelling.{is_separator, token_kind}
use Rattle.c_tree.specs.tokens.Tokens.{front_len, CTokens, token_at, token_before, tokens_at, less_one, tokens_from}
use Rattle.c_syntax.specs.declared.front.FrontToken.{FrontToken}
use Rattle.std.specs.Prelude.{slice_get}
use Rattle.c_syntax.specs.Places.{first_of}
use Rattle.c_syntax.specs.Fronts.{front, front_with, front_of}
use Rattle.c_syntax.proofs.Longest.{cond_true, cond_false, drop-drop}
use Rattle.c_tree.specs.declared.token.CToken.{CToken}

-- tokens that are found, and what the rest gives
abbrev pub tokens_before : List CToken → CTokens → CTokens
tokens_before tokens more = record { tokens = tokens ++ more.tokens; bad = more.bad }

-- the bytes of the token before are passed
tokens_skip : (n at : ℕ) (text : List ℕ) → n ≤ length text → tokens_from at n text ≡ tokens_from (at + n) 0 (drop n text)
unfolding tokens_from
tokens_skip zero at text le = ap (λ i. tokens_from i 0 text) (let same : at ≡ at + 0 = omega arith in same)
tokens_skip (suc n) at [] le = absurd (omega arith)
tokens_skip (suc n) at (c ∷ text) le =
    tokens_skip n (at + 1) text (omega arith)
    ∙ ap (λ i. tokens_from i 0 (drop n text)) (let same : at + 1 + n ≡ at + suc n = omega arith in same)

separator_at : (at c : ℕ) (text : List ℕ) → is_separator c ≡ true → tokens_from at 0 (c ∷ text) ≡ tokens_from (at + 1) 0 text
unfolding tokens_from
separator_at at c text e = cond_true (is_separator c) _ _ e

-- a separator is passed
pub tokens-separator : (bytes : List ℕ) (at : ℕ) (before : List CToken) (whole : CTokens) → at < length bytes → is_separator (get_or bytes at 0) ≡ true
    → whole ≡ tokens_before before (tokens_from at 0 (drop at bytes)) → whole ≡ tokens_before before (tokens_from (at + 1) 0 (drop (at + 1) bytes))
tokens-separator bytes at before whole lt s e =
    e ∙ ap (λ t. tokens_before before (tokens_from at 0 t)) (drop-cons bytes at 0 lt)
    ∙ ap (tokens_before before) (separator_at at (get_or bytes at 0) (drop (suc at) bytes) s)
    ∙ ap (λ k. tokens_before before (tokens_from (at + 1) 0 (drop k bytes))) (let one : suc at ≡ at + 1 = omega arith in one)

-- the front of a text, by its length
len_of : (text : List ℕ) (r : Option ℕ) (f : FrontToken) → front_with text r ≡ Some f → (r ≡ Some f.len) × (f.kind ≡ token_kind (take f.len text))
len_of text None f e = absurd (let no : None ≡ Some f = e in cc)
len_of text (Some n) f e =
    let same : front (token_kind (take n text)) n ≡ f = cc in
    (ap (λ g. Some g.len) same, let kind : token_kind (take n text) ≡ f.kind = ap (λ g. g.kind) same in sym kind ∙ ap (λ k. token_kind (take k text)) (ap (λ g. g.len) same))

none_of : (text : List ℕ) (r : Option ℕ) → front_with text r ≡ None → r ≡ None
none_of text None e = refl
none_of text (Some n) e = absurd (let no : Some (front (token_kind (take n text)) n) ≡ None = e in cc)

token_at_front : (at c : ℕ) (text : List ℕ) (n : ℕ) → is_separator c ≡ false → front_len (c ∷ text) ≡ Some (suc n) → suc n ≤ length (c ∷ text)
    → tokens_from at 0 (c ∷ text) ≡ token_before (token_at at (suc n) (c ∷ text)) (tokens_from (at + suc n) 0 (drop n text))
unfolding tokens_from
token_at_front at c text n s e le =
    cond_false (is_separator c) _ _ s
    ∙ ap (λ r. tokens_at at (c ∷ text) r (tokens_from (at + 1) (less_one r) text)) e
    ∙ ap (token_before (token_at at (suc n) (c ∷ text)))
    (ap (λ k. tokens_from (at + 1) k text) (let less : suc n - 1 ≡ n = omega arith in less)
    ∙ tokens_skip n (at + 1) text (omega (arith, le)) ∙ ap (λ i. tokens_from i 0 (drop n text)) (let same : at + 1 + n ≡ at + suc n = omega arith in same))

bad_at_front : (at c : ℕ) (text : List ℕ) → is_separator c ≡ false → front_len (c ∷ text) ≡ None → tokens_from at 0 (c ∷ text) ≡ record { tokens = []; bad = Some at }
unfolding tokens_from
bad_at_front at c text s e =
    cond_false (is_separator c) _ _ s
    ∙ ap (λ r. tokens_at at (c ∷ text) r (tokens_from (at + 1) (less_one r) text)) e

token_front : (at : ℕ) (text : List ℕ) (f : FrontToken) → begins is_separator text ≡ false → front_of text ≡ Some f → 0 < f.len → f.len ≤ length text
    → tokens_from at 0 text ≡ token_before (record { kind = f.kind; first = at; len = f.len }) (tokens_from (at + f.len) 0 (drop f.len text))
token_front at [] f s e some within = absurd (omega (arith, some, within))
token_front at (c ∷ text) f s e some within =
    let l = len_of (c ∷ text) (front_len (c ∷ text)) f e in
    by_len f.len refl
  where
    by_len : (n : ℕ) → f.len ≡ n → tokens_from at 0 (c ∷ text) ≡ token_before (record { kind = f.kind; first = at; len = f.len }) (tokens_from (at + f.len) 0 (drop f.len (c ∷ text)))
    by_len zero h = absurd (omega (arith, some, h))
    by_len (suc n) h =
        let l = len_of (c ∷ text) (front_len (c ∷ text)) f e in
        token_at_front at c text n s (l.0 ∙ ap (λ k. Some k) h) (omega (arith, within, h))
        ∙ ap (λ k. token_before (let t : CToken = record { kind = token_kind (take k (c ∷ text)); first = at; len = k } in t) (tokens_from (at + k) 0 (drop k (c ∷ text)))) (sym h)
        ∙ ap (λ k. token_before (let t : CToken = record { kind = k; first = at; len = f.len } in t) (tokens_from (at + f.len) 0 (drop f.len (c ∷ text)))) (sym l.1)

before_more : (before now : List CToken) (token : CToken) (more : CTokens) → now ≡ before ++ token ∷ [] → tokens_before before (token_before token more) ≡ tokens_before now more
before_more before now token more e =
    ap (λ l. let t : CTokens = record { tokens = l; bad = more.bad } in t) (sym (append_assoc before (token ∷ []) more.tokens) ∙ ap (λ l. l ++ more.tokens) (sym e))

no_separator : (bytes : List ℕ) (at : ℕ) → at < length bytes → is_separator (get_or bytes at 0) ≡ false → begins is_separator (drop at bytes) ≡ false
no_separator bytes at lt s = ap (begins is_separator) (drop-cons bytes at 0 lt) ∙ s

-- a token is found
pub tokens-token : (bytes : List ℕ) (at : ℕ) (f : FrontToken) (token : CToken) (before now : List CToken) (whole : CTokens) → at < length bytes
    → is_separator (get_or bytes at 0) ≡ false → front_of (drop at bytes) ≡ Some f → 0 < f.len → f.len ≤ length (drop at bytes)
    → token ≡ record { kind = f.kind; first = at; len = f.len } → now ≡ before ++ token ∷ []
    → whole ≡ tokens_before before (tokens_from at 0 (drop at bytes)) → whole ≡ tokens_before now (tokens_from (at + f.len) 0 (drop (at + f.len) bytes))
tokens-token bytes at f token before now whole lt s e some within t item is =
    is ∙ ap (tokens_before before) (token_front at (drop at bytes) f (no_separator bytes at lt s) e some within)
    ∙ ap (λ x. tokens_before before (token_before x (tokens_from (at + f.len) 0 (drop f.len (drop at bytes))))) (sym t)
    ∙ before_more before now token (tokens_from (at + f.len) 0 (drop f.len (drop at bytes))) item
    ∙ ap (λ l. tokens_before now (tokens_from (at + f.len) 0 l)) (drop-drop at f.len bytes)

bad_front : (at : ℕ) (text : List ℕ) → 0 < length text → begins is_separator text ≡ false → front_of text ≡ None → tokens_from at 0 text ≡ record { tokens = []; bad = Some at }
bad_front at [] lt s e = absurd (omega arith)
bad_front at (c ∷ text) lt s e = bad_at_front at c text s (none_of (c ∷ text) (front_len (c ∷ text)) e)

-- no token is found
pub tokens-bad : (bytes : List ℕ) (at : ℕ) (before : List CToken) (whole : CTokens) → at < length bytes
    → is_separator (get_or bytes at 0) ≡ false → front_of (drop at bytes) ≡ None
    → whole ≡ tokens_before before (tokens_from at 0 (drop at bytes)) → whole.bad ≡ Some at
tokens-bad bytes at before whole lt s e is =
    ap (λ w. w.bad) (is ∙ ap (tokens_before before) (bad_front at (drop at bytes) (omega (arith, length-drop at bytes, lt)) (no_separator bytes at lt s) e))

tokens_nil : (at : ℕ) → tokens_from at 0 [] ≡ record { tokens = []; bad = None }
unfolding tokens_from
tokens_nil at = refl

-- nothing is left
pub tokens-end : (bytes : List ℕ) (at : ℕ) (before : List CToken) (whole : CTokens) → length bytes ≤ at
    → whole ≡ tokens_before before (tokens_from at 0 (drop at bytes)) → whole ≡ record { tokens = before; bad = None }
tokens-end bytes at before whole le is =
    is ∙ ap (tokens_before before) (ap (tokens_from at 0) (drop_all at bytes le) ∙ tokens_nil at)
    ∙ ap (λ l. let t : CTokens = record { tokens = l; bad = None } in t) (append-nil before)

-- no token begins here
pub tokens-stop : (bytes : List ℕ) (at : ℕ) → at < length bytes → is_separator (get_or bytes at 0) ≡ false → front_of (drop at bytes) ≡ None
    → tokens_from at 0 (drop at bytes) ≡ record { tokens = []; bad = Some at }
tokens-stop bytes at lt s e = bad_front at (drop at bytes) (omega (arith, length-drop at bytes, lt)) (no_separator bytes at lt s) e

-- a token begins here, and others follow
pub tokens-first : (bytes : List ℕ) (at : ℕ) (f : FrontToken) → at < length bytes → is_separator (get_or bytes at 0) ≡ false
    → front_of (drop at bytes) ≡ Some f → 0 < f.len → f.len ≤ length (drop at bytes)
    → (tokens_from at 0 (drop at bytes)).tokens ≡ record { kind = f.kind; first = at; len = f.len } ∷ (tokens_from (at + f.len) 0 (drop (at + f.len) bytes)).tokens
tokens-first bytes at f lt s e some within =
    ap (λ t. t.tokens) (token_front at (drop at bytes) f (no_separator bytes at lt s) e some within
    ∙ ap (λ l. token_before (let t : CToken = record { kind = f.kind; first = at; len = f.len } in t) (tokens_from (at + f.len) 0 l)) (drop-drop at f.len bytes))

pub tokens-past : (bytes : List ℕ) (at : ℕ) → at < length bytes → is_separator (get_or bytes at 0) ≡ true
    → tokens_from at 0 (drop at bytes) ≡ tokens_from (at + 1) 0 (drop (at + 1) bytes)
tokens-past bytes at lt s =
    ap (tokens_from at 0) (drop-cons bytes at 0 lt) ∙ separator_at at (get_or bytes at 0) (drop (suc at) bytes) s
    ∙ ap (λ k. tokens_from (at + 1) 0 (drop k bytes)) (let one : suc at ≡ at + 1 = omega arith in one)

pub tokens-none : (bytes : List ℕ) (at : ℕ) → length bytes ≤ at → tokens_from at 0 (drop at bytes) ≡ record { tokens = []; bad = None }
tokens-none bytes at le = ap (tokens_from at 0) (drop_all at bytes le) ∙ tokens_nil at

-- the first byte of the token with this number among those that are left, or of the end
abbrev pub start_among : ℕ → List CToken → ℕ → ℕ
start_among end tokens number = first_of end (slice_get tokens number)

pub start-first : (end : ℕ) (token : CToken) (tokens all : List CToken) (number : ℕ) → all ≡ token ∷ tokens → number ≡ 0 → start_among end all number ≡ token.first
start-first end token tokens all zero e z = ap (λ l. start_among end l 0) e
start-first end token tokens all (suc n) e z = absurd (let no : ⊥ = omega (arith, z) in no)

pub start-later : (end : ℕ) (token : CToken) (tokens all : List CToken) (number : ℕ) → all ≡ token ∷ tokens → 0 < number
    → start_among end all number ≡ start_among end tokens (number - 1)
start-later end token tokens all zero e z = absurd (let no : ⊥ = omega (arith, z) in no)
start-later end token tokens all (suc n) e z =
    ap (λ l. start_among end l (suc n)) e ∙ ap (start_among end tokens) (let less : n ≡ suc n - 1 = omega arith in less)

pub start-none : (end : ℕ) (number : ℕ) → start_among end [] number ≡ end
start-none end zero = refl
start-none end (suc n) = refl
