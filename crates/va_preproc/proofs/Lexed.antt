-- The tokens of a file are tokens of its text (Lexical conventions).
use Rattle.std.proofs.Common.{◌≡◌, ◌<◌, ◌≤◌, ◌+◌, ◌-◌, ℕ, zero, suc, [], ◌∷◌, length, take, drop, refl, sym, ap, subst, ◌∙◌, arith}
use Rattle.std.specs.Prelude.{Option, Some, None, Bool, true, false, cond, ◌==◌, IsTrue, IsSome}
use Rattle.std.specs.Option.{is_some}
use Rattle.std.proofs.lemmas.Bool.{false≢true}
use Rattle.std.proofs.lemmas.List.{length-drop}
use Rattle.va_base.specs.declared.place.Place.{Place}
use Rattle.va_base.specs.declared.token.Token.{Token}
use Rattle.va_base.specs.declared.token.TokenKind.{TokenKind}
use Rattle.va_base.specs.declared.token.TokenKind.TheVariants.{Word, System, Tick, Number, Text, Mark, Newline, Bad, End}
use Rattle.va_base.specs.Expansion.{is_kept}
use Rattle.va_base.specs.Spelling.{spells, is_word, is_system, is_tick, is_numeral, is_text, is_mark, is_in_line}
use Rattle.va_base.specs.Numerals.{decimal_of}
use Rattle.va_base.specs.Longest.{longest}
use Rattle.va_lexer.specs.declared.piece.Piece.{Piece}
use Rattle.va_lexer.specs.Separators.{is_separator}
use Rattle.va_lexer.specs.Pieces.{is_piece, numeral_kind, token_kind, piece_kind, bad, is_open_comment, is_open_text, longest_piece, front}
use Rattle.va_lexer.specs.Tokens.{after, token_of, tokens_from, tokens_of}
use Rattle.va_lexer.proofs.TokenLists.{front-fits}
use Rattle.std.specs.List.{prefix_len}
use Rattle.va_preproc.specs.Lexemes.{Bytes}
use Rattle.va_preproc.specs.Laws.{AreTokens, IsTokenOf}
use Rattle.va_preproc.proofs.Each.{Each, each_append, each_map, all_each}

is_end : TokenKind → Bool
is_end Word = false
is_end System = false
is_end Tick = false
is_end Number = false
is_end Text = false
is_end Mark = false
is_end Newline = false
is_end Bad = false
is_end End = true

is_number : TokenKind → Bool
is_number Word = false
is_number System = false
is_number Tick = false
is_number Number = true
is_number Text = false
is_number Mark = false
is_number Newline = false
is_number Bad = false
is_number End = false

-- bytes of a token of this kind
record IsSpelled (kind : TokenKind) (bytes : Bytes) : Type 0 where
  no_end : kind ≡ End → ⊥
  spelled : IsTrue (is_kept kind) → IsTrue (spells kind bytes)
  limited : kind ≡ Number → IsSome (decimal_of bytes)

not_end : (kind : TokenKind) → is_end kind ≡ false → kind ≡ End → ⊥
unfolding is_end
not_end kind e q = false≢true (sym e ∙ ap is_end q)

not_number : (kind : TokenKind) (bytes : Bytes) → is_number kind ≡ false → kind ≡ Number → IsSome (decimal_of bytes)
unfolding is_number
not_number kind bytes e q = absurd (false≢true (sym e ∙ ap is_number q))

spelled_word : (bytes : Bytes) → is_word bytes ≡ true → IsSpelled Word bytes
unfolding is_end is_number
spelled_word bytes e = record { no_end = not_end Word refl; spelled = λ kept. e; limited = not_number Word bytes refl }

spelled_system : (bytes : Bytes) → is_system bytes ≡ true → IsSpelled System bytes
unfolding is_end is_number
spelled_system bytes e = record { no_end = not_end System refl; spelled = λ kept. e; limited = not_number System bytes refl }

spelled_tick : (bytes : Bytes) → is_tick bytes ≡ true → IsSpelled Tick bytes
unfolding is_end is_number
spelled_tick bytes e = record { no_end = not_end Tick refl; spelled = λ kept. e; limited = not_number Tick bytes refl }

spelled_text : (bytes : Bytes) → is_text bytes ≡ true → IsSpelled Text bytes
unfolding is_end is_number
spelled_text bytes e = record { no_end = not_end Text refl; spelled = λ kept. e; limited = not_number Text bytes refl }

spelled_mark : (bytes : Bytes) → is_mark bytes ≡ true → IsSpelled Mark bytes
unfolding is_end is_number
spelled_mark bytes e = record { no_end = not_end Mark refl; spelled = λ kept. e; limited = not_number Mark bytes refl }

spelled_newline : (bytes : Bytes) → IsSpelled Newline bytes
unfolding is_end is_number
spelled_newline bytes =
    record { no_end = not_end Newline refl; spelled = λ kept. absurd (false≢true kept); limited = not_number Newline bytes refl }

spelled_bad : (bytes : Bytes) → IsSpelled Bad bytes
unfolding is_end is_number
spelled_bad bytes =
    record { no_end = not_end Bad refl; spelled = λ kept. absurd (false≢true kept); limited = not_number Bad bytes refl }

spelled_number : (bytes : Bytes) → is_numeral bytes ≡ true → is_some (decimal_of bytes) ≡ true → IsSpelled Number bytes
unfolding is_end
spelled_number bytes e d = record { no_end = not_end Number refl; spelled = λ kept. e; limited = λ number. d }

-- a choice of two kinds
by_test : (bytes : Bytes) (test : Bool) (kind other : TokenKind) → (test ≡ true → IsSpelled kind bytes) → IsSpelled other bytes
    → IsSpelled (cond test kind other) bytes
by_test bytes true kind other f g = f refl
by_test bytes false kind other f g = g

spelled_numeral : (bytes : Bytes) → is_numeral bytes ≡ true → IsSpelled (numeral_kind bytes) bytes
spelled_numeral bytes e =
    by_test bytes (is_some (decimal_of bytes)) Number Bad (spelled_number bytes e) (spelled_bad bytes)

spelled_token : (bytes : Bytes) → IsSpelled (token_kind bytes) bytes
spelled_token bytes =
    by_test bytes (is_word bytes) Word _ (spelled_word bytes)
    (by_test bytes (is_system bytes) System _ (spelled_system bytes)
    (by_test bytes (is_tick bytes) Tick _ (spelled_tick bytes)
    (by_test bytes (is_numeral bytes) (numeral_kind bytes) _ (spelled_numeral bytes)
    (by_test bytes (is_text bytes) Text _ (spelled_text bytes)
    (by_test bytes (is_mark bytes) Mark Newline (spelled_mark bytes) (spelled_newline bytes))))))

-- a piece that gives a token gives one that is spelled
abbrev Spells : Option TokenKind → Bytes → Type 0
Spells None bytes = Unit {0}
Spells (Some kind) bytes = IsSpelled kind bytes

spells_by : (bytes : Bytes) (test : Bool) (kind : TokenKind) → IsSpelled kind bytes → Spells (cond test None (Some kind)) bytes
spells_by bytes true kind h = tt
spells_by bytes false kind h = h

spells_piece : (bytes : Bytes) → Spells (piece_kind bytes) bytes
spells_piece bytes = spells_by bytes (is_separator bytes) (token_kind bytes) (spelled_token bytes)

abbrev FrontSpells : Piece → Bytes → Type 0
FrontSpells p text = Spells p.kind (take p.len text)

longest_spells : (text : Bytes) (o : Option ℕ) → FrontSpells (longest_piece text o) text
longest_spells text None = spelled_bad (take 1 text)
longest_spells text (Some n) = spells_piece (take n text)

front_by : (text : Bytes) (a b : Bool) (x y z : Piece) → FrontSpells x text → FrontSpells y text → FrontSpells z text
    → FrontSpells (cond a x (cond b y z)) text
front_by text true b x y z f g h = f
front_by text false true x y z f g h = g
front_by text false false x y z f g h = h

front_spells : (text : Bytes) → FrontSpells (front text) text
unfolding front
front_spells text =
    front_by text (is_open_comment text) (is_open_text text) (bad (length text)) (bad (prefix_len is_in_line text))
    (longest_piece text (longest is_piece text))
    (spelled_bad (take (length text) text)) (spelled_bad (take (prefix_len is_in_line text) text))
    (longest_spells text (longest is_piece text))

-- what is known of each token
record IsLexed (file : ℕ) (whole : Bytes) (t : Token) : Type 0 where
  numbered : t.file ≡ file
  placed_in : t.place.file ≡ file
  no_end : t.kind ≡ End → ⊥
  token : IsTokenOf whole t

after_by : (test : Bool) (a b : Place) (file : ℕ) → a.file ≡ file → b.file ≡ file → (cond test a b).file ≡ file
after_by true a b file e f = e
after_by false a b file e f = f

after_file : (place : Place) (byte file : ℕ) → place.file ≡ file → (after place byte).file ≡ file
after_file place byte file e =
    after_by (byte == 10) (record { file = place.file; line = place.line + 1; col = 1 })
    (record { file = place.file; line = place.line; col = place.col + 1 }) file e e

ends_within : (len left at all : ℕ) → len ≤ left → left ≡ all - at → 0 < left → at + len ≤ all
ends_within len left at all h e some = omega arith

token_each : (file : ℕ) (whole : Bytes) (kind : Option TokenKind) (at len : ℕ) (place : Place) (text : Bytes) → place.file ≡ file
    → text ≡ drop at whole → 0 < length text → len ≤ length text → Spells kind (take len text)
    → Each (IsLexed file whole) (token_of kind at len place)
token_each file whole None at len place text e d some h is = tt
token_each file whole (Some kind) at len place text e d some h is = (
  record {
    numbered = e;
    placed_in = e;
    no_end = is.no_end;
    token = record {
      lies = ends_within len (length text) at (length whole) h (ap length d ∙ length-drop at whole) some;
      spelled = λ kept. subst (λ bytes. IsTrue (spells kind (take len bytes))) d (is.spelled kept);
      limited = λ number. subst (λ bytes. IsSome (decimal_of (take len bytes))) d (is.limited number);
    };
  },
  tt,
)

drop_none : (n : ℕ) → drop n (let none : Bytes = [] in none) ≡ []
drop_none zero = refl
drop_none (suc n) = refl

one_later : (n : ℕ) → suc (n + 1) ≡ suc n + 1
one_later n = omega arith

drop_more : (whole : Bytes) (at : ℕ) → drop 1 (drop at whole) ≡ drop (at + 1) whole
drop_more [] zero = refl
drop_more [] (suc n) = sym (drop_none (suc n + 1))
drop_more (c ∷ rest) zero = refl
drop_more (c ∷ rest) (suc n) = drop_more rest n ∙ ap (λ k. drop k (c ∷ rest)) (one_later n)

drop_next : (c : ℕ) (text whole : Bytes) (at : ℕ) → c ∷ text ≡ drop at whole → text ≡ drop (at + 1) whole
drop_next c text whole at e = ap (drop 1) e ∙ drop_more whole at

some_left : (c : ℕ) (text : Bytes) → 0 < length (c ∷ text)
some_left c text = omega arith

tokens_each : (file : ℕ) (whole : Bytes) (at : ℕ) (place : Place) (inside : ℕ) (text : Bytes) → place.file ≡ file → text ≡ drop at whole
    → Each (IsLexed file whole) (tokens_from at place inside text)
unfolding tokens_from
tokens_each file whole at place inside [] e d = tt
tokens_each file whole at place (suc inside) (c ∷ text) e d =
    tokens_each file whole (at + 1) (after place c) inside text (after_file place c file e) (drop_next c text whole at d)
tokens_each file whole at place zero (c ∷ text) e d =
    each_append (IsLexed file whole) (token_of (front (c ∷ text)).kind at (front (c ∷ text)).len place)
    (tokens_from (at + 1) (after place c) ((front (c ∷ text)).len - 1) text)
    (token_each file whole (front (c ∷ text)).kind at (front (c ∷ text)).len place (c ∷ text) e d (some_left c text)
    (front-fits (c ∷ text) (some_left c text)).within (front_spells (c ∷ text)))
    (tokens_each file whole (at + 1) (after place c) ((front (c ∷ text)).len - 1) text (after_file place c file e)
    (drop_next c text whole at d))

lexed : (file : ℕ) (bytes : Bytes) → Each (IsLexed file bytes) (tokens_of file bytes)
lexed file bytes = tokens_each file bytes 0 (record { file = file; line = 1; col = 1 }) 0 bytes refl refl

pub lexed_tokens : AreTokens tokens_of
lexed_tokens = record {
  of_files = record {
    numbered = λ file bytes. all_each (λ t. t.file ≡ file) (tokens_of file bytes)
        (each_map (IsLexed file bytes) (λ t. t.file ≡ file) (λ t l. l.numbered) (tokens_of file bytes) (lexed file bytes));
    placed_in = λ file bytes. all_each (λ t. t.place.file ≡ file) (tokens_of file bytes)
        (each_map (IsLexed file bytes) (λ t. t.place.file ≡ file) (λ t l. l.placed_in) (tokens_of file bytes) (lexed file bytes));
    no_end = λ file bytes. all_each (λ t. t.kind ≡ End → ⊥) (tokens_of file bytes)
        (each_map (IsLexed file bytes) (λ t. t.kind ≡ End → ⊥) (λ t l. l.no_end) (tokens_of file bytes) (lexed file bytes));
  };
  of_texts = λ file bytes. all_each (IsTokenOf bytes) (tokens_of file bytes)
      (each_map (IsLexed file bytes) (IsTokenOf bytes) (λ t l. l.token) (tokens_of file bytes) (lexed file bytes));
}
