use Rattle.std.proofs.Common.{◌+◌, ℕ, sym, ap, ◌∙◌}
use Rattle.std.specs.Global.{Vec}
use Rattle.std.specs.Prelude.{map, Some, option_map}
use Rattle.va_preproc.specs.Definitions.{after_formals, body_form}
use Rattle.va_preproc.specs.Values.{lexeme_in, lexemes_in}
use Rattle.va_preproc.proofs.DefinitionForms.{drop_map}
use Rattle.va_preproc.proofs.UseTurns.{rest_all}
use Rattle.va_preproc.proofs.definition.with_formals.Goals as goal

pub returns : goal.returns
returns c =
    let files = c.args.files.now in
    let after = c.args.after.now in
    let lex = lexemes_in files in
    let f = c.in_ok-taken.field-0 in
    let names = map (λ (formal : Vec ℕ). formal.items) c.in-Some.names.keys in
    c.with_body.ensures files
    ∙ ap (λ l. body_form c.args.name.now (Some names) (2 + f.taken) l) (ap lex (rest_all f.taken after) ∙ sym (drop_map (lexeme_in files) f.taken after))
    ∙ sym (ap (λ form. after_formals c.args.name.now (lex after) form.taken form.meaning) (sym c.in_ok-taken.ensures.formals)
    ∙ ap (λ o. after_formals c.args.name.now (lex after) f.taken (option_map (λ formals. map (λ (formal : Vec ℕ). formal.items) formals.keys) o)) c.in-Some.is)
