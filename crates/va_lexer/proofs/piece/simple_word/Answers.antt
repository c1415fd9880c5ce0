use Rattle.std.proofs.Common.{◌≡◌, ◌<◌, ◌≤◌, ◌+◌, ℕ, suc, List, ◌∷◌, length, take, drop, refl, ap, sym, ◌∙◌, arith, Option, Some, None, true, false}
use Rattle.std.specs.List.{prefix_len}
use Rattle.va_base.specs.declared.token.TokenKind.TheVariants.{Word}
use Rattle.va_base.specs.Spelling.{is_letter, is_word_byte}
use Rattle.va_lexer.specs.Pieces.{piece, bad, front}
use Rattle.va_lexer.proofs.Beginnings.{first-byte, rest_of, front-letter}
use Rattle.va_lexer.proofs.TextFronts.{word-first}
use Rattle.va_lexer.proofs.piece.simple_word.Goals as goal

pub returns : goal.returns
returns c =
    let f = first-byte is_letter c.args.text.now c.requires in
    let rest = rest_of c.args.text.now in
    c.token.ensures
    ∙ ap (piece (Some Word)) (c.front_len.ensures.count ∙ ap (prefix_len is_word_byte) f.1 ∙ word-first f.0 rest f.2)
    ∙ sym (ap front f.1 ∙ front-letter f.0 rest f.2)
