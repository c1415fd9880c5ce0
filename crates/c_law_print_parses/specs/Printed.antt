-- What the text of a C file gives to a reader.
use Rattle.c_tree.specs.declared.file.CFile.{CFile}
use Rattle.c_tree.specs.Spelling.{CanBeSpelled}
use Rattle.c_tree.specs.Text.{words_of, text_of}
use Rattle.c_syntax.specs.Syntax.{IsSyntax}
use Rattle.c_law_words.specs.Standing.{AreRead}

-- the tokens of a file's text are its words, in order
abbrev pub PrintIsRead : Type 0
PrintIsRead = (f : CFile) → CanBeSpelled f → AreRead (words_of f)

-- and they are a sentence of the grammar
abbrev pub PrintIsSyntax : Type 0
PrintIsSyntax = (f : CFile) → CanBeSpelled f → IsSyntax (text_of f)
