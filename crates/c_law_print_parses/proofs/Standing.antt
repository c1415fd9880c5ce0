-- The text of a file stands for the file.
use Rattle.std.proofs.Common.{◌≡◌, ◌+◌, ap, sym, subst, ◌∙◌, arith}
use Rattle.std.specs.Prelude.{slice_get}
use Rattle.c_tree.specs.declared.file.CFile.{CFile}
use Rattle.c_tree.specs.FileOf.{file_of}
use Rattle.c_tree.specs.Spelling.{CanBeSpelled}
use Rattle.c_tree.specs.Text.{words_of, text_of}
use Rattle.c_tree.specs.Words.{spelled}
use Rattle.c_tree.specs.tokens.Tokens.{c_tokens_of}
use Rattle.c_syntax.specs.Syntax.{text_kinds}
use Rattle.c_syntax.specs.grammar.Sets.{c_rules}
use Rattle.predict.proofs.Unique.{only_tree}
use Rattle.c_raw_build.specs.RawOf.{raw_of}
use Rattle.c_raw_build.specs.Words.{CText}
use Rattle.c_law_words.specs.Standing.{tokens_of_words}
use Rattle.c_law_print_parses.specs.Stands.{PrintStandsFor}
use Rattle.c_law_print_parses.proofs.Placing.{StandsAt, stands_from}
use Rattle.c_law_print_parses.proofs.Printed.{text_is, print_is_read, text_sentence}
use Rattle.c_law_print_parses.proofs.Files.{file_tree}
use Rattle.c_law_print_parses.proofs.FileValues.{file_value}

-- the text with its tokens
abbrev pub text_with : CFile → CText
text_with f = record { bytes = text_of f; tokens = (c_tokens_of (text_of f)).tokens }

pub words_stand : (f : CFile) → CanBeSpelled f → StandsAt (text_with f) 0 (words_of f)
words_stand f s =
    let read = print_is_read f s in
    let tokens = tokens_of_words 0 (words_of f) in
    let text : CText = record { bytes = spelled (words_of f); tokens = tokens } in
    let there = stands_from text tokens 0 (words_of f) (λ i. ap (slice_get tokens) (let same : 0 + i ≡ i = omega arith in same)) read.bytes in
    let tokens_are = ap (λ t. (c_tokens_of t).tokens) (text_is f) ∙ ap (λ t. t.tokens) read.all in
    let same : text_with f ≡ text = λ i. record { bytes = text_is f i; tokens = tokens_are i } in
    subst (λ t. StandsAt t 0 (words_of f)) (sym same) there

pub print_stands_for : PrintStandsFor
print_stands_for f s =
    record {
      raw = raw_of (text_of f) (c_tokens_of (text_of f)).tokens (file_tree f);
      is_raw = λ t sentence. ap (raw_of (text_of f) (c_tokens_of (text_of f)).tokens) (only_tree c_rules t (file_tree f) (text_kinds (text_of f)) sentence (text_sentence f s));
      file_is = λ other is. ap file_of (sym (is (file_tree f) (text_sentence f s))) ∙ file_value (text_with f) f s (words_stand f s);
    }
