use Rattle.std.proofs.Common.{◌≡◌, ◌<◌, ◌≤◌, ◌+◌, ℕ, suc, List, ◌∷◌, length, take, drop, refl, ap, sym, ◌∙◌, arith, Option, Some, None, true, false}
use Rattle.va_lexer.specs.Pieces.{piece, bad, front}
use Rattle.va_lexer.proofs.Beginnings.{first-literal, rest_of, front-newline}
use Rattle.va_lexer.proofs.piece.line_end.Goals as goal

pub returns : goal.returns
returns c = c.token.ensures ∙ sym (ap front (first-literal 10 c.args.text.now c.requires) ∙ front-newline (rest_of c.args.text.now))
