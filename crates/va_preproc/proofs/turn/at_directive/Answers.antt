use Rattle.std.proofs.Common.{sym, ap, ◌∙◌}
use Rattle.std.specs.Prelude.{reverse}
use Rattle.std.proofs.lemmas.Result.{IfOk-weaker}
use Rattle.va_preproc.specs.Expansion.{at_directive, at_define, at_undef, at_ignored}
use Rattle.va_preproc.specs.Conditionals.{is_skipped}
use Rattle.va_preproc.specs.Values.{state_of, lexeme_in, lexemes_in}
use Rattle.va_preproc.proofs.Turns.{not_skipped}
use Rattle.va_preproc.proofs.turn.at_directive.Goals as goal

pub returns-else-is_skipped-clause-follows : goal.returns-else-is_skipped-clause-follows
returns-else-is_skipped-clause-follows c = λ u i n.
    let files = c.args.known.now.files.items in
    let b = reverse c.args.branches.now.items in
    let s = state_of c.args.known.now c.args.progress.now in
    IfOk-weaker c.at_define.result _ _ (λ answer e.
    ap (λ d. at_directive u i n d (lexeme_in files c.args.token.now) (lexemes_in files c.args.rest.now) b s) c.in-Define.is
    ∙ not_skipped (is_skipped b) b s (at_define u i n (lexeme_in files c.args.token.now) (lexemes_in files c.args.rest.now)) (sym c.is_skipped.ensures ∙ c.if-is_skipped.false)
    ∙ e)
    (c.at_define.ensures.follows u i n b)

pub returns-else-is_skipped-2-clause-follows : goal.returns-else-is_skipped-2-clause-follows
returns-else-is_skipped-2-clause-follows c = λ u i n.
    let files = c.args.known.now.files.items in
    let b = reverse c.args.branches.now.items in
    let s = state_of c.args.known.now c.args.progress.now in
    IfOk-weaker c.at_undef.result _ _ (λ answer e.
    ap (λ d. at_directive u i n d (lexeme_in files c.args.token.now) (lexemes_in files c.args.rest.now) b s) c.in-Undef.is
    ∙ not_skipped (is_skipped b) b s (at_undef u i n (lexeme_in files c.args.token.now) (lexemes_in files c.args.rest.now)) (sym c.is_skipped-in-Undef.ensures ∙ c.if-is_skipped-2.false)
    ∙ e)
    (c.at_undef.ensures.follows u i n b)

pub returns-else-is_skipped-3-clause-follows : goal.returns-else-is_skipped-3-clause-follows
returns-else-is_skipped-3-clause-follows c = λ u i n.
    let files = c.args.known.now.files.items in
    let b = reverse c.args.branches.now.items in
    let s = state_of c.args.known.now c.args.progress.now in
    IfOk-weaker c.at_ignored.result _ _ (λ answer e.
    ap (λ d. at_directive u i n d (lexeme_in files c.args.token.now) (lexemes_in files c.args.rest.now) b s) c.in-Ignored.is
    ∙ not_skipped (is_skipped b) b s (at_ignored u i n (lexemes_in files c.args.rest.now)) (sym c.is_skipped-in-Ignored.ensures ∙ c.if-is_skipped-3.false)
    ∙ e)
    (c.at_ignored.ensures c.args.known.now u i n b)
