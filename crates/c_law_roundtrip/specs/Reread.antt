-- What reading a printed file gives.
use Rattle.std.specs.Prelude.{◌≡◌, ◌↔◌}
use Rattle.c_tree.specs.declared.file.CFile.{CFile}
use Rattle.c_tree.specs.Form.{ObeysForm}
use Rattle.c_tree.specs.Spelling.{CanBeSpelled}
use Rattle.c_tree.specs.Text.{text_of}
use Rattle.c_reader.specs.Answers.{Reading, file, IsReading}
use Rattle.c_reader.specs.Reading.{IsFileOf}

-- The text of a file that can be spelled spells this file exactly where it obeys the rules of form.
abbrev pub PrintSpellsItself : Type 0
PrintSpellsItself = (f : CFile) → CanBeSpelled f → IsFileOf (text_of f) f ↔ ObeysForm f

-- So what is read of that text is the file, and no other file and no fault.
abbrev pub PrintIsReadBack : Type 0
PrintIsReadBack = (f : CFile) → CanBeSpelled f → ObeysForm f → (r : Reading) → IsReading (text_of f) r → r ≡ file f
