-- What holds of a whole C file besides its text.
use Rattle.std.specs.Prelude.{◌≡◌, ℕ, List}
use Rattle.va_base.specs.Tables.{tables_text}
use Rattle.c_tree.specs.declared.file.CFile.{CFile}
use Rattle.c_tree.specs.FileOf.{file_of}
use Rattle.c_tree.specs.Form.{HasForm}
use Rattle.c_tree.specs.RawOf.{raw_of}
use Rattle.c_tree.specs.Spelling.{CanBeSpelled}
use Rattle.c_tree.specs.TablesOf.{tables_of}

-- A file can be spelled, its raw tree says all that it keeps and breaks no rule of form, and its tables are reported by these lines.
pub record WorkedForm (f : CFile) (tables : List ℕ) : Type 0 where
  pub spelled : CanBeSpelled f
  pub kept : file_of (raw_of f) ≡ f
  pub formed : HasForm (raw_of f)
  pub reported : tables_text (tables_of f) ≡ tables
