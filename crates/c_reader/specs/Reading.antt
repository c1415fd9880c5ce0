-- The C file that a text spells, and the faults of a text that spells none.
use Rattle.std.specs.Prelude.{◌≡◌, ℕ, List, Some}
use Rattle.c_tree.specs.declared.file.CFile.{CFile}
use Rattle.c_tree.specs.FileOf.{file_of}
use Rattle.c_tree.specs.Form.{HasForm, least_blamed}
use Rattle.c_tree.specs.Raw.{RawFile}
use Rattle.c_tree.specs.tokens.Tokens.{c_tokens_of}
use Rattle.c_syntax.specs.Syntax.{IsSyntax}
use Rattle.c_raw_build.specs.RawOf.{IsRawOf}

-- The text spells this file: the grammar spells the text, and its raw tree, which breaks no rule of form, is of this file.
pub record IsFileOf (text : List ℕ) (f : CFile) : Type 0 where
  pub syntax : IsSyntax text
  pub raw : RawFile
  pub read : IsRawOf text raw
  pub form : HasForm raw
  pub file : file_of raw ≡ f

-- the byte with this index is the first that begins no token
abbrev pub IsBadByte : List ℕ → ℕ → Type 0
IsBadByte text at = (c_tokens_of text).bad ≡ Some at

-- the grammar spells the text, and the token with this number is the least at which its raw tree breaks a rule of form
pub record IsFormFault (text : List ℕ) (at : ℕ) : Type 0 where
  pub syntax : IsSyntax text
  pub raw : RawFile
  pub read : IsRawOf text raw
  pub least : least_blamed raw ≡ Some at
