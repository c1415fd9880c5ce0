use Rattle.std.proofs.Common.{◌≡◌, ◌<◌, ◌≤◌, ◌+◌, ℕ, suc, List, ◌∷◌, length, take, drop, refl, ap, sym, ◌∙◌, arith, Option, Some, None, true, false}
use Rattle.std.specs.List.{prefix_len}
use Rattle.va_base.specs.Spelling.{is_in_line}
use Rattle.va_base.specs.declared.token.TokenKind.TheVariants.{Text}
use Rattle.va_lexer.specs.Pieces.{piece, bad, front}
use Rattle.va_lexer.proofs.Beginnings.{first-literal, rest_of, front-quote-some, front-quote-none}
use Rattle.va_lexer.proofs.piece.string.Goals as goal

pub returns-in-Some : goal.returns-in-Some
returns-in-Some c =
    c.token.ensures ∙ ap (piece (Some Text)) (let one : 1 + c.in-Some.len ≡ suc c.in-Some.len = omega arith in one)
    ∙ sym (ap front (first-literal 34 c.args.text.now c.requires)
    ∙ front-quote-some (rest_of c.args.text.now) c.in-Some.len (sym c.in-Some.ensures.longest))

pub returns-in-None : goal.returns-in-None
returns-in-None c =
    let text = c.args.text.now in
    let first = first-literal 34 text c.requires in
    c.token-in-None.ensures ∙ ap bad (c.front_len.ensures.count ∙ ap (prefix_len is_in_line) first)
    ∙ sym (ap front first ∙ front-quote-none (rest_of text) (sym c.in-None.ensures.longest))
