-- Whether the grammar spells a C file.
use Rattle.std.specs.Prelude.{◌≡◌, ◌<◌, ◌^◌, ℕ, List, None, length}
use Rattle.predict.specs.declared.tree.ParseNode.{ParseNode}
use Rattle.predict.specs.Sentence.{IsSentence, IsParsed, IsFirstBad}
use Rattle.c_tree.specs.declared.token.CToken.{CToken}
use Rattle.c_tree.specs.tokens.Tokens.{c_tokens_of}
use Rattle.c_syntax.specs.grammar.Kinds.{kinds_of}
use Rattle.c_syntax.specs.grammar.Sets.{c_rules}

-- the kinds of the tokens of a text, and that of its end
abbrev pub text_kinds : List ℕ → List ℕ
text_kinds text = kinds_of text (c_tokens_of text).tokens

-- a text all of whose bytes make tokens, which can be numbered in 32 bits, and its parse tree
pub record IsSpelled (text : List ℕ) (tokens : List CToken) (nodes : List ParseNode) : Type 0 where
  pub few : length tokens < 2 ^ 32
  pub all : c_tokens_of text ≡ record { tokens = tokens; bad = None }
  pub parsed : IsParsed c_rules (text_kinds text) nodes

-- all bytes of the text make tokens, and its tokens are a sentence of the grammar
pub record IsSyntax (text : List ℕ) : Type 0 where
  pub all : (c_tokens_of text).bad ≡ None
  pub sentence : IsSentence c_rules (text_kinds text)

-- all bytes of the text make tokens, and this is the first bad token: some file begins with those before it, and none with those
-- up to it
pub record IsSyntaxFault (text : List ℕ) (at : ℕ) : Type 0 where
  pub all : (c_tokens_of text).bad ≡ None
  pub first : IsFirstBad c_rules (text_kinds text) at
