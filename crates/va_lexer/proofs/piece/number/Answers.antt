use Rattle.std.proofs.Common.{◌≡◌, ◌<◌, ◌≤◌, ◌+◌, ℕ, suc, List, ◌∷◌, length, take, drop, refl, ap, sym, ◌∙◌, arith, Option, Some, None, true, false}
use Rattle.va_base.specs.Longest.{longest}
use Rattle.va_base.specs.Spelling.{is_digit, is_numeral}
use Rattle.va_lexer.specs.Pieces.{piece, front, numeral_kind}
use Rattle.va_lexer.proofs.Beginnings.{first-byte, rest_of, front-digit, digit-some}
use Rattle.va_lexer.proofs.piece.number.Goals as goal

pub unreachable-requires : goal.unreachable-requires
unreachable-requires c =
    let f = first-byte is_digit c.args.text.now c.requires in
    digit-some f.0 (rest_of c.args.text.now) f.2 (ap (longest is_numeral) (sym f.1) ∙ sym c.in_default.ensures.longest)

pub returns : goal.returns
returns c =
    let text = c.args.text.now in
    let f = first-byte is_digit text c.requires in
    let rest = rest_of text in
    let n = c.in-Some.len in
    c.token.ensures ∙ ap (λ k. piece (Some k) n) (c.numeral_kind.ensures ∙ ap (λ t. numeral_kind (take n t)) f.1)
    ∙ sym (ap front f.1 ∙ front-digit f.0 rest n f.2 (ap (longest is_numeral) (sym f.1) ∙ sym c.in-Some.ensures.longest))
