use Rattle.std.proofs.Common.{◌≡◌, ◌<◌, ◌≤◌, ◌+◌, ℕ, suc, List, ◌∷◌, length, take, drop, refl, ap, sym, ◌∙◌, arith, Option, Some, None, true, false}
use Rattle.std.specs.List.{prefix_len}
use Rattle.va_base.specs.declared.token.TokenKind.TheVariants.{Word}
use Rattle.va_base.specs.Spelling.{is_visible}
use Rattle.va_lexer.specs.Pieces.{piece, bad, front}
use Rattle.va_lexer.proofs.Beginnings.{first-literal, rest_of, front-backslash-word, front-backslash-line, front-backslash-bad}
use Rattle.va_lexer.proofs.piece.backslash.Goals as goal

pub returns-then-word-gt0 : goal.returns-then-word-gt0
returns-then-word-gt0 c =
    let rest = rest_of c.args.text.now in
    let count = c.front_len-word.ensures.count in
    let some = c.if-word-gt0.true in
    c.token.ensures ∙ ap (piece (Some Word)) (let one : 1 + c.front_len-word.result ≡ suc (prefix_len is_visible rest) = omega arith in one)
    ∙ sym (ap front (first-literal 92 c.args.text.now c.requires) ∙ front-backslash-word rest (omega arith))

pub returns-in-Some : goal.returns-in-Some
returns-in-Some c =
    let rest = rest_of c.args.text.now in
    let count = c.front_len-word.ensures.count in
    let none = c.if-word-gt0.false in
    c.separator.ensures ∙ ap (piece None) (let one : 1 + c.in-Some.len ≡ suc c.in-Some.len = omega arith in one)
    ∙ sym (ap front (first-literal 92 c.args.text.now c.requires)
    ∙ front-backslash-line rest c.in-Some.len (omega arith) (sym c.in-Some.ensures.longest))

pub returns-in-None : goal.returns-in-None
returns-in-None c =
    let rest = rest_of c.args.text.now in
    let count = c.front_len-word.ensures.count in
    let none = c.if-word-gt0.false in
    c.token-in-None.ensures
    ∙ sym (ap front (first-literal 92 c.args.text.now c.requires)
    ∙ front-backslash-bad rest (omega arith) (sym c.in-None.ensures.longest))
