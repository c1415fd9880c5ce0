-- The result of an expansion with the files that it read is a text after expansion.
use Rattle.std.proofs.Common.{◌≡◌, ◌≤◌, ◌+◌, ℕ, zero, suc, List, [], ◌∷◌, length, refl, sym, ap, subst, ◌∙◌, arith}
use Rattle.std.specs.Prelude.{Option, Some, None, IsTrue, IsSome, All, Contains, slice_get, unwrap_or}
use Rattle.va_base.specs.declared.expanded.Expanded.{Expanded}
use Rattle.va_base.specs.declared.file.FileText.{FileText}
use Rattle.va_base.specs.declared.token.Token.{Token}
use Rattle.va_base.specs.Expansion.{is_kept, LiesWithin, bytes_from, IsExpandedToken, IsExpanded}
use Rattle.va_base.specs.Spelling.{spells}
use Rattle.va_base.specs.Numerals.{decimal_of}
use Rattle.va_io.specs.Outside.{Holdings, held}
use Rattle.va_preproc.specs.Lexemes.{Bytes}
use Rattle.va_preproc.specs.Expansion.{Limits, limits, Readings, in_holdings, texts, end_token, expansion_by, expanded}
use Rattle.va_preproc.specs.Laws.{AreTokens, IsTokenOf, ComesFrom, GivesExpanded}
use Rattle.va_lexer.specs.Tokens.{tokens_of}
use Rattle.va_preproc.proofs.Lexed.{lexed_tokens}
use Rattle.va_preproc.proofs.Results.{gives_results}

-- the file of a name that is held
abbrev text : Bytes → Bytes → FileText
text name bytes = record { name = name; bytes = bytes }

text_at : (holds : Holdings) (asked : List Bytes) (k : ℕ) (name bytes : Bytes) → slice_get asked k ≡ Some name
    → held holds name ≡ Some bytes → slice_get (texts holds asked) k ≡ Some (text name bytes)
text_at holds [] k name bytes at holding = absurd (none_some at)
  where
    none_some : None ≡ Some name → ⊥
    none_some e = cc
text_at holds (first ∷ asked) zero name bytes at holding =
    ap (λ o. option_text o (held holds (unwrap_or o []))) at ∙ ap (λ o. Some (text name (unwrap_or o []))) holding
  where
    option_text : Option Bytes → Option Bytes → Option FileText
    option_text o found = Some (text (unwrap_or o []) (unwrap_or found []))
text_at holds (first ∷ asked) (suc k) name bytes at holding = text_at holds asked k name bytes at holding

token_of_text : (xs : List Token) (P : Token → Type 0) (t : Token) → All P xs → Contains xs t → P t
token_of_text xs P t all c = subst P c.2 (all c.0 t c.1)

-- what a token says of its text, in the file at its number
in_file : (files : List FileText) (t : Token) (name bytes : Bytes) → slice_get files t.file ≡ Some (text name bytes) → IsTokenOf bytes t
    → IsTrue (is_kept t.kind) → IsExpandedToken files t
in_file files t name bytes at is kept = record {
  kept = kept;
  lies = subst (λ o. LiesWithin o t.first t.len) (sym at) is.lies;
  spelled = subst (λ o. IsTrue (spells t.kind (bytes_from o t.first t.len))) (sym at) (is.spelled kept);
  limited = λ number. subst (λ o. IsSome (decimal_of (bytes_from o t.first t.len))) (sym at) (is.limited number);
}

-- files in which what was read stands at its number
abbrev pub AreRead : Readings → List Bytes → List FileText → Type 0
AreRead readings asked files =
    (k : ℕ) (name bytes : Bytes) → slice_get asked k ≡ Some name → readings k name ≡ Some bytes → slice_get files k ≡ Some (text name bytes)

comes_in_file : (tokens : ℕ → Bytes → List Token) (readings : Readings) (asked : List Bytes) (files : List FileText) → AreTokens tokens
    → AreRead readings asked files → (t : Token) → ComesFrom tokens readings asked t → IsExpandedToken files t
comes_in_file tokens readings asked files are read t c =
    let o = c.original in
    let is = c.is in
    let original = in_file files o is.name is.bytes (read o.file is.name is.bytes is.read is.holding)
    (token_of_text (tokens o.file is.bytes) (IsTokenOf is.bytes) o (are.of_texts o.file is.bytes) is.among) c.kept in
    subst (IsExpandedToken files) (sym c.same)
    (record { kept = original.kept; lies = original.lies; spelled = original.spelled; limited = original.limited })

end_lies : (n : ℕ) → n + 0 ≤ n
end_lies n = omega arith

no_more : (n m : ℕ) → n ≤ m → m ≤ 2000000 → n ≤ 2000000
no_more n m h k = omega arith

all_few : limits.result ≤ 2000000
all_few = omega arith

-- the same over what reads find
pub gives_text : (most : Limits) → most.result ≤ 2000000 → (readings : Readings) (main : Bytes) (result : List Token) (asked : List Bytes) (files : List FileText)
    → AreRead readings asked files → expansion_by most tokens_of readings main ≡ expanded result asked
    → IsExpanded (let e : Expanded = record { tokens = result; files = files } in e)
gives_text most few readings main result asked files read e =
    let r = gives_results most tokens_of readings main result asked lexed_tokens.of_files e in
    record {
      before = r.before;
      end = end_token r.bytes;
      ends = r.ends;
      end_kind = refl;
      end_lies = subst (λ o. LiesWithin o (length r.bytes) 0) (sym (read 0 main r.bytes r.first r.main_file))
          (end_lies (length r.bytes));
      each = λ k d h. comes_in_file tokens_of readings asked files lexed_tokens read _ (r.each k d h);
      few = no_more (length r.before) most.result r.few few;
    }

pub gives_expanded : GivesExpanded
gives_expanded holds main result asked e = gives_text limits all_few (in_holdings holds) main result asked (texts holds asked) (text_at holds asked) e
