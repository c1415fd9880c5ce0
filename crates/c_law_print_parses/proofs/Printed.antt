-- The text of a file is a sentence of the grammar, and its tokens are the file's words.
use Rattle.std.proofs.Common.{◌≡◌, [], ◌∷◌, ◌++◌, refl, ap, sym, subst, ◌∙◌}
use Rattle.std.specs.Prelude.{map}
use Rattle.predict.specs.Sentence.{IsSentenceOf}
use Rattle.c_tree.specs.declared.file.CFile.{CFile}
use Rattle.c_tree.specs.Spelling.{CanBeSpelled}
use Rattle.c_tree.specs.Text.{words_of, text_of}
use Rattle.c_tree.specs.Words.{spelled}
use Rattle.c_tree.specs.tokens.Tokens.{c_tokens_of}
use Rattle.c_syntax.specs.Syntax.{text_kinds}
use Rattle.c_syntax.specs.grammar.Kinds.{kind_of, kind_in}
use Rattle.c_syntax.specs.grammar.Sets.{c_rules}
use Rattle.c_law_words.specs.Kinds.{kind_of_word}
use Rattle.c_law_print_parses.specs.Printed.{PrintIsRead, PrintIsSyntax}
use Rattle.c_law_words.proofs.Reading.{read_words, words_are_read}
use Rattle.c_law_print_parses.proofs.Sentence.{sentence}
use Rattle.c_law_print_parses.proofs.Files.{file_tree, file_written}

pub print_is_read : PrintIsRead
print_is_read f s = words_are_read (words_of f) (file_written f s).alone

pub text_is : (f : CFile) → text_of f ≡ spelled (words_of f)
unfolding text_of
text_is f = refl

-- the kinds of the tokens are those of the words
kinds_are : (f : CFile) → CanBeSpelled f → text_kinds (spelled (words_of f)) ≡ map kind_of_word (words_of f) ++ 0 ∷ []
kinds_are f s =
    ap (λ t. map (kind_in (spelled (words_of f))) t.tokens ++ 0 ∷ []) (print_is_read f s).all
    ∙ ap (λ l. l ++ 0 ∷ []) (read_words kind_of (words_of f))

-- the tree of a file makes its text a sentence
pub text_sentence : (f : CFile) → CanBeSpelled f → IsSentenceOf c_rules (file_tree f) (text_kinds (text_of f))
text_sentence f s =
    subst (λ kinds. IsSentenceOf c_rules (file_tree f) kinds) (sym (ap text_kinds (text_is f) ∙ kinds_are f s))
    (sentence (file_tree f) (words_of f) (file_written f s))

pub print_is_syntax : PrintIsSyntax
print_is_syntax f s =
    record {
      all = ap (λ text. (c_tokens_of text).bad) (text_is f) ∙ ap (λ t. t.bad) (print_is_read f s).all;
      sentence = (file_tree f, text_sentence f s);
    }
