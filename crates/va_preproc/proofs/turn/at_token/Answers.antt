use Rattle.std.proofs.Common.{sym, ap, ◌∙◌}
use Rattle.std.specs.Prelude.{reverse}
use Rattle.std.proofs.lemmas.Result.{IfOk-weaker}
use Rattle.va_preproc.specs.Lexemes.{role_of}
use Rattle.va_preproc.specs.Uses.{use_within}
use Rattle.va_preproc.specs.Expansion.{at_token, at_outermost}
use Rattle.va_preproc.specs.Conditionals.{is_skipped}
use Rattle.va_preproc.specs.Values.{state_of, lexeme_in, lexemes_in}
use Rattle.va_preproc.proofs.Turns.{not_skipped}
use Rattle.va_preproc.proofs.turn.at_token.Goals as goal

pub returns-else-is_skipped-clause-follows : goal.returns-else-is_skipped-clause-follows
returns-else-is_skipped-clause-follows c = λ i n.
    let files = c.args.known.now.files.items in
    let b = reverse c.args.branches.now.items in
    let s = state_of c.args.known.now c.args.progress.now in
    let t = lexeme_in files c.args.token.now in
    let rest = lexemes_in files c.args.rest.now in
    IfOk-weaker c.at_outermost.result _ _ (λ answer e.
    ap (λ r. at_token (use_within c.args.uses) i n r t rest b s) (sym (c.in-Use.ensures ∙ ap (λ f. role_of (lexeme_in f c.args.token.now)) c.as_slice.ensures.value))
    ∙ not_skipped (is_skipped b) b s (at_outermost (use_within c.args.uses) i n c.in-Use.name.now t rest) (sym c.is_skipped.ensures ∙ c.if-is_skipped.false)
    ∙ e)
    (c.at_outermost.ensures i n b)

pub returns-in-Directive-clause-follows : goal.returns-in-Directive-clause-follows
returns-in-Directive-clause-follows c = λ i n.
    let files = c.args.known.now.files.items in
    let b = reverse c.args.branches.now.items in
    let s = state_of c.args.known.now c.args.progress.now in
    let t = lexeme_in files c.args.token.now in
    let rest = lexemes_in files c.args.rest.now in
    IfOk-weaker c.at_directive.result _ _ (λ answer e.
    ap (λ r. at_token (use_within c.args.uses) i n r t rest b s) (sym (c.in-Directive.ensures ∙ ap (λ f. role_of (lexeme_in f c.args.token.now)) c.as_slice.ensures.value))
    ∙ e)
    (c.at_directive.ensures.follows (use_within c.args.uses) i n)
