-- The raw tree of a file's text is that of the file.
use Rattle.std.proofs.Common.{◌≡◌, ◌+◌, ap, sym, subst, ◌∙◌, arith}
use Rattle.std.specs.Prelude.{slice_get}
use Rattle.c_tree.specs.declared.file.CFile.{CFile}
use Rattle.c_tree.specs.Spelling.{CanBeSpelled}
use Rattle.c_tree.specs.Text.{words_of}
use Rattle.c_tree.specs.Words.{spelled}
use Rattle.c_tree.specs.tokens.Tokens.{c_tokens_of}
use Rattle.c_raw_build.specs.Words.{CText}
use Rattle.c_law_words.specs.Standing.{tokens_of_words}
use Rattle.c_law_print_parses.proofs.Files.{file_tree}
use Rattle.c_law_print_parses.proofs.Printed.{text_is, print_is_read, text_sentence}
use Rattle.c_law_words.proofs.Reading.{read_words}
use Rattle.c_law_print_parses.proofs.Standing.{text_with}
use Rattle.c_law_form_ignores_places.specs.Forget.{forget, numbered_once}
use Rattle.c_law_form_ignores_places.proofs.Files.{form_of_trees}
use Rattle.c_law_roundtrip.specs.Reprint.{PrintKeepsForm, PrintWritesRaw}
use Rattle.c_law_roundtrip.proofs.FileRaw.{file_raw}
use Rattle.c_law_roundtrip.proofs.Numbers.{PairsAt, TokensAt, tokens_from}

tokens_stand : (f : CFile) → CanBeSpelled f → TokensAt (text_with f) 0 (words_of f)
tokens_stand f s =
    let read = print_is_read f s in
    let tokens = tokens_of_words 0 (words_of f) in
    let text : CText = record { bytes = spelled (words_of f); tokens = tokens } in
    let there = tokens_from text tokens 0 (λ i. ap (slice_get tokens) (let same : 0 + i ≡ i = omega arith in same)) in
    let paired_there : TokensAt text 0 (words_of f) = subst (λ l. PairsAt text 0 l) (read_words (λ kind w. (kind, w)) (words_of f)) there in
    let tokens_are = ap (λ t. (c_tokens_of t).tokens) (text_is f) ∙ ap (λ t. t.tokens) read.all in
    let same : text_with f ≡ text = λ i. record { bytes = text_is f i; tokens = tokens_are i } in
    subst (λ t. TokensAt t 0 (words_of f)) (sym same) paired_there

pub print_writes_raw : PrintWritesRaw
print_writes_raw f s raw is =
    ap (λ r. numbered_once (forget r)) (sym (is (file_tree f) (text_sentence f s))) ∙ file_raw (text_with f) f s (tokens_stand f s)

pub print_keeps_form : PrintKeepsForm
print_keeps_form f s raw is = form_of_trees f s raw (print_writes_raw f s raw is)
