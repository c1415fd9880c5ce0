-- What reading answers: the file that a text spells, or the fault for which it spells none.
use Rattle.std.specs.Prelude.{◌≡◌, ℕ, List, Result, Ok, Err}
use Rattle.c_tree.specs.declared.file.CFile.{CFile}
use Rattle.c_syntax.specs.Syntax.{IsSyntaxFault}
use Rattle.c_syntax.specs.declared.error.CErr.{CErr}
use Rattle.c_syntax.specs.declared.error.CErr.TheVariants.{BadByte, Syntax, Form, NoMemory}
use Rattle.c_reader.specs.Reading.{IsFileOf, IsBadByte, IsFormFault}

-- What is so of a text: it spells a file, or has a fault.
pub data Reading : Type 0 where
  file : CFile → Reading
  bad_byte : ℕ → Reading
  syntax : ℕ → Reading
  form : ℕ → Reading

abbrev pub IsReading : List ℕ → Reading → Type 0
IsReading text (file f) = IsFileOf text f
IsReading text (bad_byte at) = IsBadByte text at
IsReading text (syntax at) = IsSyntaxFault text at
IsReading text (form at) = IsFormFault text at

-- Exactly one of these is so of each text: it spells one file and no other, or has one fault and no other.
pub record OneReading (text : List ℕ) : Type 0 where
  pub some : (r : Reading) × IsReading text r
  pub one : (r s : Reading) → IsReading text r → IsReading text s → r ≡ s

-- What is so of a text is answered, unless memory is refused.
abbrev pub Answers : Reading → Result CFile CErr → Type 0
Answers r (Ok f) = r ≡ file f
Answers r (Err (BadByte at)) = r ≡ bad_byte at
Answers r (Err (Syntax at)) = r ≡ syntax at
Answers r (Err (Form at)) = r ≡ form at
Answers r (Err NoMemory) = Unit {0}
