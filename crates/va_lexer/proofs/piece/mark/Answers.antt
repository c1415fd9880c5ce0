use Rattle.std.proofs.Common.{◌≡◌, ◌<◌, ◌≤◌, ◌+◌, ℕ, suc, List, ◌∷◌, length, take, drop, refl, ap, sym, ◌∙◌, arith, Option, Some, None, true, false}
use Rattle.va_base.specs.Longest.{longest}
use Rattle.va_base.specs.Spelling.{is_mark}
use Rattle.va_lexer.specs.Pieces.{front, is_other_byte}
use Rattle.va_lexer.proofs.Beginnings.{first-byte, rest_of, front-mark-some, front-mark-none}
use Rattle.va_lexer.proofs.TextFronts.{other_plain}
use Rattle.va_lexer.proofs.piece.mark.Goals as goal

pub returns-in-Some : goal.returns-in-Some
returns-in-Some c =
    let f = first-byte is_other_byte c.args.text.now c.requires in
    c.token.ensures
    ∙ sym (ap front f.1 ∙ front-mark-some f.0 (rest_of c.args.text.now) c.in-Some.len (other_plain f.0 f.2)
    (ap (longest is_mark) (sym f.1) ∙ sym c.in-Some.ensures.longest))

pub returns-in-None : goal.returns-in-None
returns-in-None c =
    let f = first-byte is_other_byte c.args.text.now c.requires in
    c.token-in-None.ensures
    ∙ sym (ap front f.1 ∙ front-mark-none f.0 (rest_of c.args.text.now) (other_plain f.0 f.2)
    (ap (longest is_mark) (sym f.1) ∙ sym c.in-None.ensures.longest))
