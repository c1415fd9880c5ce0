use Rattle.std.proofs.Common.{◌≡◌, ◌<◌, ◌≤◌, ◌+◌, ℕ, suc, List, ◌∷◌, length, take, drop, refl, ap, sym, ◌∙◌, arith, Option, Some, None, true, false}
use Rattle.std.specs.List.{prefix_len}
use Rattle.va_base.specs.declared.token.TokenKind.TheVariants.{Tick}
use Rattle.va_base.specs.Spelling.{is_letter, is_word_byte}
use Rattle.va_lexer.specs.Pieces.{piece, bad, front}
use Rattle.va_lexer.proofs.Beginnings.{first-byte, first-literal, rest_of, front-tick-none, front-tick-some}
use Rattle.va_lexer.proofs.TextFronts.{word-first}
use Rattle.va_lexer.proofs.piece.tick.Goals as goal

pub returns-then-not-begins : goal.returns-then-not-begins
returns-then-not-begins c =
    c.token.ensures
    ∙ sym (ap front (first-literal 96 c.args.text.now c.requires)
    ∙ front-tick-none (rest_of c.args.text.now) (sym c.begins.ensures ∙ c.if-not-begins.true))

pub returns : goal.returns
returns c =
    let word = rest_of c.args.text.now in
    let f = first-byte is_letter word (sym c.begins.ensures ∙ c.if-not-begins.false) in
    let count : c.front_len.result ≡ suc (prefix_len is_word_byte (rest_of word)) =
    c.front_len.ensures.count ∙ ap (prefix_len is_word_byte) f.1 ∙ word-first f.0 (rest_of word) f.2 in
    c.token-2.ensures
    ∙ ap (piece (Some Tick)) (let one : 1 + c.front_len.result ≡ suc (suc (prefix_len is_word_byte (rest_of word))) = omega arith in one)
    ∙ sym (ap front (first-literal 96 c.args.text.now c.requires ∙ ap (λ t. 96 ∷ t) f.1) ∙ front-tick-some f.0 (rest_of word) f.2)
