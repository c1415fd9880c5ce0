-- Each text has a reading.
use Rattle.std.proofs.Common.{◌≡◌, ◌<◌, ℕ, List, [], ◌∷◌, ◌++◌, length, lit<, nat_lt, refl, ap, sym, ◌∙◌, ◌⊎◌, inl, inr}
use Rattle.std.specs.Prelude.{true, Option, Some, None, map}
use Rattle.std.specs.List.{list_all}
use Rattle.predict.specs.Sentence.{IsSentence, IsSentenceOf, IsFirstBad}
use Rattle.predict.specs.Table.{Row, table_open}
use Rattle.predict.specs.Tree.{Tree}
use Rattle.predict.proofs.Unique.{only_tree}
use Rattle.c_tree.specs.Form.{blamed, least_of, least_blamed}
use Rattle.c_tree.specs.FileOf.{file_of}
use Rattle.c_tree.specs.Raw.{RawFile}
use Rattle.c_tree.specs.Words.{template}
use Rattle.c_tree.specs.tokens.Tokens.{c_tokens_of}
use Rattle.c_syntax.specs.Syntax.{text_kinds}
use Rattle.c_syntax.specs.grammar.Evidence.{c_evidence}
use Rattle.c_syntax.specs.grammar.Kinds.{kind_in}
use Rattle.c_syntax.specs.grammar.Laws.{c_no_left_recursion, c_no_dead_end}
use Rattle.c_syntax.specs.grammar.Names.{class_names, number_names, mark_names, word_names, field_names, kind_names, nonterminal_names}
use Rattle.c_syntax.specs.grammar.Rows.{row_texts, written_rows}
use Rattle.c_syntax.specs.grammar.Sets.{c_table, c_rules}
use Rattle.c_form.specs.Blames.{lesser}
use Rattle.c_form.proofs.Blaming.{least_first}
use Rattle.c_raw_build.specs.RawOf.{raw_of, IsRawOf}
use Rattle.c_reader.specs.Answers.{Reading, file, bad_byte, syntax, form, IsReading}
use Rattle.c_reader.proofs.Decided.{decided, rows_short}

all_short : list_all (λ r. nat_lt (length (Row.symbols r)) 1000) c_table.rows ≡ true
unfolding template class_names number_names mark_names word_names field_names kind_names nonterminal_names row_texts written_rows
all_short = refl

few : (row : ℕ) → length (c_rules.symbols row) < 1000
unfolding c_rules
few row = rows_short 1000 (lit< tt) c_table.rows all_short row

none_lesser : (x : ℕ) (least : Option ℕ) → lesser (Some x) least ≡ None → ⊥
none_lesser x None e = cc e
none_lesser x (Some y) e = cc e

pub none_blamed : (xs : List ℕ) → least_of xs ≡ None → xs ≡ []
none_blamed [] e = refl
none_blamed (x ∷ rest) e = absurd (none_lesser x (least_of rest) (sym (least_first x rest) ∙ e))

module _ (text : List ℕ) where
  has_kinds : (front : List ℕ) × (text_kinds text ≡ front ++ c_rules.end_kind ∷ [])
  unfolding c_rules
  has_kinds = (map (kind_in text) (c_tokens_of text).tokens, refl)

  -- the raw tree of a sentence
  is_raw : (t : Tree) (s : IsSentenceOf c_rules t (text_kinds text)) → IsRawOf text (raw_of text (c_tokens_of text).tokens t)
  is_raw t s = λ u r. ap (raw_of text (c_tokens_of text).tokens) (only_tree c_rules u t (text_kinds text) r s)

  of_raw : (all : (c_tokens_of text).bad ≡ None) (s : IsSentence c_rules (text_kinds text)) (least : Option ℕ)
      → least_blamed (raw_of text (c_tokens_of text).tokens s.0) ≡ least → (r : Reading) × IsReading text r
  of_raw all s None e =
      let raw : RawFile = raw_of text (c_tokens_of text).tokens s.0 in
      (file (file_of raw), record { syntax = record { all = all; sentence = s }; raw = raw; read = is_raw s.0 s.1; form = none_blamed (blamed raw) e; file = refl })
  of_raw all s (Some at) e =
      let raw : RawFile = raw_of text (c_tokens_of text).tokens s.0 in
      (form at, record { syntax = record { all = all; sentence = s }; raw = raw; read = is_raw s.0 s.1; least = e })

  of_kinds : (all : (c_tokens_of text).bad ≡ None) → IsSentence c_rules (text_kinds text) ⊎ ((at : ℕ) × IsFirstBad c_rules (text_kinds text) at) → (r : Reading) × IsReading text r
  of_kinds all (inl s) = of_raw all s (least_blamed (raw_of text (c_tokens_of text).tokens s.0)) refl
  of_kinds all (inr (at, bad)) = (syntax at, record { all = all; first = bad })

  by_bytes : (bad : Option ℕ) → (c_tokens_of text).bad ≡ bad → (r : Reading) × IsReading text r
  by_bytes (Some at) e = (bad_byte at, e)
  by_bytes None e =
      of_kinds e (decided c_rules c_evidence.rank c_evidence.empty (table_open c_table c_evidence) c_no_left_recursion c_no_dead_end 1000 few (text_kinds text) has_kinds)

  pub some_reading : (r : Reading) × IsReading text r
  some_reading = by_bytes (c_tokens_of text).bad refl
