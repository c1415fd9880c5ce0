use Rattle.std.proofs.Common.{◌≡◌, ◌≤◌, ◌+◌, ◌-◌, ◌++◌, List, length, take, drop, refl, ap, sym, ◌∙◌, arith}
use Rattle.std.proofs.lemmas.List.{take_rest, length-take-le, length-drop, append-nil}
use Rattle.va_base.specs.declared.token.Token.{Token}
use Rattle.va_lexer.specs.Pieces.{front}
use Rattle.va_lexer.specs.Tokens.{token_of, tokens_of, place_in, places_after}
use Rattle.va_lexer.proofs.TokenLists.{lex-step, lex-end}
use Rattle.va_lexer.proofs.lex.Goals as goal
use Rattle.va_lexer.proofs.lex.Goals.{in-Some+in_ok-push, in_default}

pub pieces-preserved : goal.pieces-preserved
pieces-preserved c =
    let bytes = c.args.bytes.now in
    let at = c.pieces.at in
    let piece = c.front-piece.result in
    let place = place_in c.args.file c.pieces.line at in
    let some = c.front-piece.ensures.some in
    let within : at + piece.len ≤ length bytes = omega (arith, c.front-piece.ensures.within, c.pieces-test.true, length-drop at bytes) in
    let item : c.match-piece.tokens.items ≡ c.pieces.tokens.items ++ token_of piece.kind at piece.len place =
    elim c.match-piece.branch as (λ b. c.match-piece.tokens.items ≡ c.pieces.tokens.items ++ token_of piece.kind at piece.len place) [
      | in-Some+in_ok-push w ↦ (
          ap (λ v. v.items) w.tokens-is ∙ w.in_ok-push.ensures.items
          ∙ ap (λ k. c.pieces.tokens.items ++ token_of k at piece.len place) (sym w.in-Some.is)
          )
      | in_default w ↦ (
          ap (λ v. v.items) w.tokens-is ∙ sym (append-nil c.pieces.tokens.items)
          ∙ ap (λ k. c.pieces.tokens.items ++ token_of k at piece.len place) (sym w.in_default.is)
          )
    ] in
    let span : at + piece.len - at ≡ piece.len = omega arith in
    let size : length (take piece.len (drop at bytes)) ≡ piece.len =
    length-take-le piece.len (drop at bytes) (omega (arith, length-drop at bytes)) in
    let next : place_in c.args.file c.line_after-line.result (at + piece.len) ≡ places_after place (take piece.len (drop at bytes)) =
    ap (λ k. place_in c.args.file c.line_after-line.result (at + k)) (sym size)
    ∙ ap (λ k. place_in c.args.file c.line_after-line.result (at + length (take k (drop at bytes)))) (sym span)
    ∙ c.line_after-line.ensures.place c.args.file ∙ ap (λ k. places_after place (take k (drop at bytes))) span in
    let whole : length (take (at + piece.len - at) (drop at bytes)) ≡ piece.len = ap (λ k. length (take k (drop at bytes))) span ∙ size in
    record {
      within = within;
      begun = omega (arith, c.line_after-line.ensures.begun, whole);
      numbered = c.line_after-line.ensures.numbered;
      tokens = lex-step bytes at piece.len place _ piece c.pieces.tokens.items c.match-piece.tokens.items (tokens_of c.args.file bytes)
          (c.front-piece.ensures.front ∙ ap front (take_rest bytes at)) refl some within next item c.pieces.invariant.tokens;
    }

pub returns : goal.returns
returns c =
    lex-end c.args.bytes.now c.pieces.at (place_in c.args.file c.pieces.line c.pieces.at) c.pieces.tokens.items
    (tokens_of c.args.file c.args.bytes.now) c.pieces-test.false c.pieces.invariant.tokens
