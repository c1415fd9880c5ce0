-- What the rules of form of a C text do not depend on, and what they force.
use Rattle.std.specs.Prelude.{◌≡◌, ◌<◌, ◌↔◌, length}
use Rattle.c_tree.specs.declared.file.CFile.{CFile}
use Rattle.c_tree.specs.FileOf.{file_of}
use Rattle.c_tree.specs.Form.{HasForm, ObeysForm}
use Rattle.c_tree.specs.Raw.{RawModule, RawDescriptor, RawFile}
use Rattle.c_tree.specs.RawOf.{raw_of}
use Rattle.c_tree.specs.Spelling.{EachHas, CanBeSpelled}
use Rattle.c_law_form_ignores_places.specs.Forget.{forget, numbered_once}

-- The rules compare no places: where a text breaks a rule, and only there, its raw tree without places does.
abbrev pub PlacesDoNotMatter : Type 0
PlacesDoNotMatter = (raw : RawFile) → HasForm raw ↔ HasForm (forget raw)

-- Nor does it matter how often the names of C repeat a number.
abbrev pub RepeatsDoNotMatter : Type 0
RepeatsDoNotMatter = (raw : RawFile) → HasForm raw ↔ HasForm (numbered_once raw)

-- Each module and each descriptor writes its number, as every text does: no rule asks for that.
pub record HasNumbers (raw : RawFile) : Type 0 where
  pub modules : EachHas (λ m. 0 < length (RawModule.numbers m)) raw.modules
  pub descriptors : EachHas (λ d. 0 < length (RawDescriptor.numbers d)) raw.descriptors

-- What a text writes and its file does not keep is what the rules ask for: where none is broken, the raw tree is that of the
-- file, but for places and repeated numbers.
abbrev pub FormForcesNumbers : Type 0
FormForcesNumbers =
    (raw : RawFile) → CanBeSpelled (file_of raw) → HasNumbers raw → HasForm raw
    → numbered_once (forget raw) ≡ raw_of (file_of raw)

-- A file obeys the rules exactly where the raw tree that it has of itself does.
abbrev pub FormOfFiles : Type 0
FormOfFiles = (f : CFile) → CanBeSpelled f → ObeysForm f ↔ HasForm (raw_of f)

-- So does each raw tree that writes what that one writes, as that of the file's text.
abbrev pub FormOfTrees : Type 0
FormOfTrees =
    (f : CFile) → CanBeSpelled f → (raw : RawFile) → numbered_once (forget raw) ≡ raw_of f → HasForm raw ↔ ObeysForm f
