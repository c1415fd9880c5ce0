use Rattle.std.proofs.Common.{sym, ap, ◌∙◌}
use Rattle.std.specs.Prelude.{Some, option_map}
use Rattle.std.specs.Global.{Vec}
use Rattle.std.proofs.lemmas.Option.{slice_get-get_or, slice_get_past}
use Rattle.va_base.specs.declared.token.Token.{Token}
use Rattle.va_preproc.proofs.Formals.{given_at, given_none}
use Rattle.va_preproc.proofs.uses.argument_at.Goals as goal

pub returns-in_err-index : goal.returns-in_err-index
returns-in_err-index c =
    ap (option_map (λ argument. argument.now)) c.from_residual.ensures
    ∙ sym (given_none c.args.name.now c.args.formals.now.keys c.args.arguments.now (sym c.in_err-index.ensures.found))

pub returns-in_err-argument : goal.returns-in_err-argument
returns-in_err-argument c =
    ap (option_map (λ argument. argument.now)) c.from_residual-in_err-argument.ensures
    ∙ sym (given_at c.args.name.now c.args.formals.now.keys c.args.arguments.now c.in_ok-index.index (sym c.in_ok-index.ensures.index)
    ∙ ap (option_map (λ argument. argument.items)) (slice_get_past c.args.arguments.now c.in_ok-index.index c.in_err-argument.ensures.lookup.3))

pub returns : goal.returns
returns c =
    ap Some c.as_slice.ensures.value
    ∙ sym (given_at c.args.name.now c.args.formals.now.keys c.args.arguments.now c.in_ok-index.index (sym c.in_ok-index.ensures.index)
    ∙ ap (option_map (λ argument. argument.items)) (slice_get-get_or c.args.arguments.now c.in_ok-index.index c.in_ok-argument.argument.now c.in_ok-argument.ensures.lookup.3.0)
    ∙ ap (λ (argument : Vec Token). Some argument.items) (sym c.in_ok-argument.ensures.lookup.1))
