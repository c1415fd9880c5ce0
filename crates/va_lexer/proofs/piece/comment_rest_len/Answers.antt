use Rattle.std.proofs.Common.{◌≡◌, ◌<◌, ◌≤◌, ◌+◌, ℕ, suc, List, [], ◌∷◌, length, take, drop, refl, ap, sym, ◌∙◌, arith, Option, Some, None, true, false}
use Rattle.std.proofs.lemmas.List.{take_rest, drop_all}
use Rattle.va_base.specs.Longest.{longest}
use Rattle.va_base.proofs.Longest.{longest-nil}
use Rattle.va_lexer.specs.Separators.{closes_comment, is_comment_rest}
use Rattle.va_lexer.specs.Pieces.{shifted}
use Rattle.va_lexer.proofs.TextFronts.{close-here, close-later}
use Rattle.va_lexer.proofs.piece.comment_rest_len.Goals as goal

pub returns-then-closes_comment-clause-longest : goal.returns-then-closes_comment-clause-longest
returns-then-closes_comment-clause-longest c =
    let rest = c.args.rest.now in
    let closes : closes_comment (drop c.bytes.at rest) ≡ true =
    ap closes_comment (sym (take_rest rest c.bytes.at)) ∙ sym c.closes_comment.ensures ∙ c.if-closes_comment.true in
    sym (c.bytes.invariant.whole ∙ close-here rest c.bytes.at closes)

pub bytes-preserved : goal.bytes-preserved
bytes-preserved c =
    let rest = c.args.rest.now in
    let open_here : closes_comment (drop c.bytes.at rest) ≡ false =
    ap closes_comment (sym (take_rest rest c.bytes.at)) ∙ sym c.closes_comment.ensures ∙ c.if-closes_comment.false in
    record {
      within = omega arith;
      whole = c.bytes.invariant.whole ∙ close-later rest c.bytes.at c.bytes-test.true open_here;
    }

pub returns-clause-longest : goal.returns-clause-longest
returns-clause-longest c =
    let rest = c.args.rest.now in
    let nothing : drop c.bytes.at rest ≡ [] = drop_all c.bytes.at rest c.bytes-test.false in
    sym (c.bytes.invariant.whole ∙ ap (λ t. shifted c.bytes.at (longest is_comment_rest t)) nothing
    ∙ ap (shifted c.bytes.at) (longest-nil is_comment_rest [] refl))
