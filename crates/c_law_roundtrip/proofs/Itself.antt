-- The text of a file spells the file.
use Rattle.c_tree.specs.Text.{text_of}
use Rattle.c_reader.specs.Answers.{file}
use Rattle.c_reader.proofs.Readings.{one_reading}
use Rattle.c_law_print_parses.proofs.Printed.{print_is_syntax}
use Rattle.c_law_print_parses.proofs.Standing.{print_stands_for}
use Rattle.c_law_roundtrip.proofs.Standing.{print_keeps_form}
use Rattle.c_law_roundtrip.specs.Reread.{PrintIsReadBack, PrintSpellsItself}

pub print_spells_itself : PrintSpellsItself
print_spells_itself f s = (
  λ spells. (spells.raw, spells.file, spells.form),
  λ obeys.
      let stands = print_stands_for f s in
      record {
        syntax = print_is_syntax f s;
        raw = stands.raw;
        read = stands.is_raw;
        form = (print_keeps_form f s stands.raw stands.is_raw).1 obeys;
        file = stands.file_is stands.raw stands.is_raw;
      },
)

pub print_is_read_back : PrintIsReadBack
print_is_read_back f s obeys r h = one_reading (text_of f) r (file f) h ((print_spells_itself f s).1 obeys)
