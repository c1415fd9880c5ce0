use Rattle.std.proofs.Common.{◌≡◌, ◌<◌, ◌≤◌, ◌+◌, ℕ, suc, List, ◌∷◌, length, take, drop, refl, ap, sym, ◌∙◌, arith, Option, Some, None, true, false}
use Rattle.std.specs.List.{prefix_len}
use Rattle.va_lexer.specs.Separators.{is_blank}
use Rattle.va_lexer.specs.Pieces.{piece, bad, front}
use Rattle.va_lexer.proofs.Beginnings.{first-byte, rest_of, front-blank}
use Rattle.va_lexer.proofs.TextFronts.{prefix-first}
use Rattle.va_lexer.proofs.piece.white_space.Goals as goal

pub returns : goal.returns
returns c =
    let f = first-byte is_blank c.args.text.now c.requires in
    let rest = rest_of c.args.text.now in
    c.separator.ensures
    ∙ ap (piece None) (c.front_len.ensures.count ∙ ap (prefix_len is_blank) f.1 ∙ prefix-first is_blank f.0 rest f.2)
    ∙ sym (ap front f.1 ∙ front-blank f.0 rest f.2)
