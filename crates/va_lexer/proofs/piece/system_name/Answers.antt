use Rattle.std.proofs.Common.{◌≡◌, ◌<◌, ◌≤◌, ◌+◌, ℕ, suc, List, ◌∷◌, length, take, drop, refl, ap, sym, ◌∙◌, arith, Option, Some, None, true, false}
use Rattle.std.specs.List.{prefix_len}
use Rattle.va_base.specs.declared.token.TokenKind.TheVariants.{System}
use Rattle.va_base.specs.Spelling.{is_word_byte}
use Rattle.va_lexer.specs.Pieces.{piece, bad, front}
use Rattle.va_lexer.proofs.Beginnings.{first-literal, rest_of, front-dollar-none, front-dollar-some}
use Rattle.va_lexer.proofs.piece.system_name.Goals as goal

pub returns-then-len-eq0 : goal.returns-then-len-eq0
returns-then-len-eq0 c =
    c.token.ensures
    ∙ sym (ap front (first-literal 36 c.args.text.now c.requires)
    ∙ front-dollar-none (rest_of c.args.text.now) (sym c.front_len-len.ensures.count ∙ c.if-len-eq0.true))

pub returns : goal.returns
returns c =
    let rest = rest_of c.args.text.now in
    let count = c.front_len-len.ensures.count in
    let not_zero = c.if-len-eq0.false in
    c.token-2.ensures ∙ ap (piece (Some System)) (let one : 1 + c.front_len-len.result ≡ suc (prefix_len is_word_byte rest) = omega arith in one)
    ∙ sym (ap front (first-literal 36 c.args.text.now c.requires) ∙ front-dollar-some rest (omega arith))
