-- Which files the texts of C files stand for.
use Rattle.std.specs.Prelude.{◌≡◌, ◌↔◌, ℕ, ◌<◌, ◌&&◌, Bool, List, length, IsTrue}
use Rattle.std.specs.List.{list_all}
use Rattle.c_tree.specs.FileOf.{file_of}
use Rattle.c_tree.specs.Raw.{RawFile}
use Rattle.c_tree.specs.Spelling.{is_counted, CanBeSpelled}
use Rattle.c_tree.specs.declared.file.CFile.{CFile}
use Rattle.c_tree.specs.declared.file.CModule.{CModule}
use Rattle.c_tree.specs.declared.table.ParamRow.{ParamRow}
use Rattle.c_syntax.specs.Syntax.{IsSyntax}
use Rattle.c_raw_build.specs.RawOf.{IsRawOf}

-- The text spells the file: the grammar spells the text, and its raw tree is one of the file.
pub record SpellsFile (text : List ℕ) (f : CFile) : Type 0 where
  pub syntax : IsSyntax text
  pub raw : RawFile
  pub is_raw : IsRawOf text raw
  pub file_is : file_of raw ≡ f

-- a text that the grammar spells, spells one file and no other
abbrev pub OneFile : Type 0
OneFile = (text : List ℕ) → IsSyntax text → (f : CFile) × SpellsFile text f × ((g : CFile) → SpellsFile text g → g ≡ f)

-- A text of fewer bytes than this spells only a file that can be spelled: the bytes bound the lists, and the tokens and rows all
-- else.
abbrev pub OnlySpelled : ℕ → Type 0
OnlySpelled limit = (text : List ℕ) (f : CFile) → length text < limit → SpellsFile text f → CanBeSpelled f

-- the lists of a module whose lengths are written, or whose elements are numbered
abbrev pub has_counted_lists : CModule → Bool
has_counted_lists m =
    is_counted m.nodes && is_counted m.entries && is_counted m.collapse && is_counted m.params
    && list_all (λ p. is_counted (ParamRow.names p)) m.params && is_counted m.functions

abbrev pub AreCounted : CFile → Type 0
AreCounted f = IsTrue (is_counted f.modules && list_all has_counted_lists f.modules)

-- The files that can be spelled are those that some text spells, where the lists can be counted.
abbrev pub SpelledExactly : Type 0
SpelledExactly = (f : CFile) → CanBeSpelled f ↔ (AreCounted f × ((text : List ℕ) × SpellsFile text f))
