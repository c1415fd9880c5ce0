use Rattle.std.proofs.Common.{◌≡◌, ◌++◌, take, drop, List}
use Rattle.va_base.specs.declared.file.FileText.{FileText}
use Rattle.va_preproc.specs.Definitions.{line}
use Rattle.va_preproc.specs.Values.{lexemes_in}
use Rattle.va_preproc.proofs.definition.line_len.Given as goal

-- no line ends before
abbrev pub invariant-loop-at : goal.invariant-loop-at
invariant-loop-at l =
    (files : List FileText) → line (lexemes_in files l.fn.tokens) ≡ lexemes_in files (take l.at l.fn.tokens) ++ line (lexemes_in files (drop l.at l.fn.tokens))
