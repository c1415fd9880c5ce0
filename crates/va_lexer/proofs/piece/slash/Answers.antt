use Rattle.std.proofs.Common.{◌≡◌, ◌<◌, ◌≤◌, ◌+◌, ℕ, suc, List, ◌∷◌, length, take, drop, refl, ap, sym, ◌∙◌, arith, Option, Some, None, true, false}
use Rattle.std.specs.List.{prefix_len}
use Rattle.va_base.specs.Spelling.{is_in_line}
use Rattle.va_lexer.specs.Pieces.{piece, bad, front}
use Rattle.va_lexer.proofs.Beginnings.{first-literal, rest_of, front-slash-line, front-slash-comment, front-slash-open}
use Rattle.va_lexer.proofs.TextFronts.{prefix-first, slash-alone}
use Rattle.va_lexer.proofs.piece.slash.Goals as goal

pub returns-then-begins_with : goal.returns-then-begins_with
returns-then-begins_with c =
    let text = c.args.text.now in
    let rest = rest_of text in
    let second = first-literal 47 rest (sym c.begins_with.ensures ∙ c.if-begins_with.true) in
    let count : c.front_len.result ≡ suc (prefix_len is_in_line (rest_of rest)) =
    c.front_len.ensures.count ∙ ap (prefix_len is_in_line) second ∙ prefix-first is_in_line 47 (rest_of rest) refl in
    c.separator.ensures
    ∙ ap (piece None) (let two : 1 + c.front_len.result ≡ suc (suc (prefix_len is_in_line (rest_of rest))) = omega arith in two)
    ∙ sym (ap front (first-literal 47 text c.requires ∙ ap (λ t. 47 ∷ t) second) ∙ front-slash-line (rest_of rest))

pub returns-then-not-begins_with : goal.returns-then-not-begins_with
returns-then-not-begins_with c =
    let text = c.args.text.now in
    c.token.ensures
    ∙ sym (ap front (first-literal 47 text c.requires)
    ∙ slash-alone (rest_of text) (sym c.begins_with.ensures ∙ c.if-begins_with.false) (sym c.begins_with-2.ensures ∙ c.if-not-begins_with.true))

pub returns-in-Some : goal.returns-in-Some
returns-in-Some c =
    let text = c.args.text.now in
    let rest = rest_of text in
    let second = first-literal 42 rest (sym c.begins_with-2.ensures ∙ c.if-not-begins_with.false) in
    c.separator-in-Some.ensures ∙ ap (piece None) (let two : 2 + c.in-Some.len ≡ suc (suc c.in-Some.len) = omega arith in two)
    ∙ sym (ap front (first-literal 47 text c.requires ∙ ap (λ t. 47 ∷ t) second)
    ∙ front-slash-comment (rest_of rest) c.in-Some.len (sym c.in-Some.ensures.longest))

pub returns-in-None : goal.returns-in-None
returns-in-None c =
    let text = c.args.text.now in
    let rest = rest_of text in
    let second = first-literal 42 rest (sym c.begins_with-2.ensures ∙ c.if-not-begins_with.false) in
    let whole = first-literal 47 text c.requires ∙ ap (λ t. 47 ∷ t) second in
    c.token-in-None.ensures ∙ ap (λ t. bad (length t)) whole
    ∙ sym (ap front whole ∙ front-slash-open (rest_of rest) (sym c.in-None.ensures.longest))
