-- The raw tree of a text that the grammar spells.
use Rattle.std.specs.Prelude.{◌≡◌, ℕ, List}
use Rattle.predict.specs.Sentence.{IsSentenceOf}
use Rattle.predict.specs.Tree.{Tree}
use Rattle.c_tree.specs.Raw.{RawFile}
use Rattle.c_tree.specs.declared.token.CToken.{CToken}
use Rattle.c_tree.specs.tokens.Tokens.{c_tokens_of}
use Rattle.c_syntax.specs.Syntax.{text_kinds}
use Rattle.c_syntax.specs.grammar.Sets.{c_rules}
use Rattle.c_raw_build.specs.RawFiles.{file}

-- the raw tree that a parse tree of these tokens stands for
abbrev pub raw_of : List ℕ → List CToken → Tree → RawFile
raw_of bytes tokens t = file (record { bytes = bytes; tokens = tokens }) (record { at = 0; tree = t })

-- This is the raw tree of the text: that of each tree which makes its tokens a sentence of the grammar. There is one such tree at
-- most.
abbrev pub IsRawOf : List ℕ → RawFile → Type 0
IsRawOf bytes raw =
    (t : Tree) → IsSentenceOf c_rules t (text_kinds bytes) → raw_of bytes (c_tokens_of bytes).tokens t ≡ raw
