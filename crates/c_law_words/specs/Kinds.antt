-- The kinds of words.
use Rattle.std.specs.Prelude.{ℕ}
use Rattle.c_tree.specs.Words.{Word}
use Rattle.c_tree.specs.tokens.Spelling.{token_kind}
use Rattle.c_syntax.specs.grammar.Kinds.{kind_of}

-- the kind of a word that stands for itself
abbrev pub kind_of_word : Word → ℕ
kind_of_word w = kind_of (token_kind w) w
