-- What the text of a C file writes.
use Rattle.std.specs.Prelude.{◌≡◌, ◌↔◌}
use Rattle.c_tree.specs.declared.file.CFile.{CFile}
use Rattle.c_tree.specs.Form.{HasForm, ObeysForm}
use Rattle.c_tree.specs.Raw.{RawFile}
use Rattle.c_tree.specs.RawOf.{raw_of}
use Rattle.c_tree.specs.Spelling.{CanBeSpelled}
use Rattle.c_tree.specs.Text.{text_of}
use Rattle.c_raw_build.specs.RawOf.{IsRawOf}
use Rattle.c_law_form_ignores_places.specs.Forget.{forget, numbered_once}

-- The raw tree of the text of a file that can be spelled is the raw tree of the file, but for places and repeated numbers.
abbrev pub PrintWritesRaw : Type 0
PrintWritesRaw =
    (f : CFile) → CanBeSpelled f → (raw : RawFile) → IsRawOf (text_of f) raw → numbered_once (forget raw) ≡ raw_of f

-- So that raw tree obeys the rules of form exactly where the file does.
abbrev pub PrintKeepsForm : Type 0
PrintKeepsForm = (f : CFile) → CanBeSpelled f → (raw : RawFile) → IsRawOf (text_of f) raw → HasForm raw ↔ ObeysForm f
