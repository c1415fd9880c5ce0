-- What the text of a C file stands for.
use Rattle.std.specs.Prelude.{◌≡◌}
use Rattle.c_tree.specs.declared.file.CFile.{CFile}
use Rattle.c_tree.specs.FileOf.{file_of}
use Rattle.c_tree.specs.Raw.{RawFile}
use Rattle.c_tree.specs.Spelling.{CanBeSpelled}
use Rattle.c_tree.specs.Text.{text_of}
use Rattle.c_raw_build.specs.RawOf.{IsRawOf}

-- The text has a raw tree, and each raw tree of it is one of the file.
pub record StandsFor (f : CFile) : Type 0 where
  pub raw : RawFile
  pub is_raw : IsRawOf (text_of f) raw
  pub file_is : (other : RawFile) → IsRawOf (text_of f) other → file_of other ≡ f

-- the text of a file that can be spelled stands for that file
abbrev pub PrintStandsFor : Type 0
PrintStandsFor = (f : CFile) → CanBeSpelled f → StandsFor f
