use Rattle.std.proofs.Common.{sym, ap, ◌∙◌, drop, []}
use Rattle.std.proofs.lemmas.Result.{IfOk-weaker}
use Rattle.va_preproc.specs.Definitions.{formals_form, after_formals, list_or_body}
use Rattle.va_preproc.specs.Values.{lexeme_in, lexemes_in}
use Rattle.va_preproc.proofs.DefinitionForms.{after_name_turn, no_empty}
use Rattle.va_preproc.proofs.UseTurns.{rest_all}
use Rattle.va_preproc.proofs.Loops.{no_token}
use Rattle.va_preproc.proofs.definition.after_name.Goals as goal

pub returns-then-opens_formals : goal.returns-then-opens_formals
returns-then-opens_formals c =
    let files = c.args.files.now in
    let rest = c.args.rest.now in
    IfOk-weaker c.with_formals.result _ _ (λ definition form.
    form
    ∙ ap (λ l. after_formals c.args.name.now l (formals_form [] l).taken (formals_form [] l).meaning) (ap (lexemes_in files) (rest_all 1 rest))
    ∙ ap (λ b. list_or_body b c.args.name.now (lexemes_in files rest) (lexemes_in files (drop 1 rest))) (sym c.if-opens_formals.true)
    ∙ sym (after_name_turn files (lexeme_in files c.args.token.now) rest no_token c.args.name.now c.opens_formals.result (no_empty rest (sym c.is_empty.ensures ∙ c.if-is_empty.false)) c.opens_formals.ensures))
    c.with_formals.ensures

pub returns : goal.returns
returns c =
    let files = c.args.files.now in
    let rest = c.args.rest.now in
    c.with_body-2.ensures files
    ∙ ap (λ b. list_or_body b c.args.name.now (lexemes_in files rest) (lexemes_in files (drop 1 rest))) (sym c.if-opens_formals.false)
    ∙ sym (after_name_turn files (lexeme_in files c.args.token.now) rest no_token c.args.name.now c.opens_formals.result (no_empty rest (sym c.is_empty.ensures ∙ c.if-is_empty.false)) c.opens_formals.ensures)
