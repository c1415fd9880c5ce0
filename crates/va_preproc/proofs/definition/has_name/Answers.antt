use Rattle.std.proofs.Common.{◌∙◌}
use Rattle.va_preproc.proofs.Formals.{among_formals}
use Rattle.va_preproc.proofs.definition.has_name.Goals as goal

pub returns : goal.returns
returns c = c.contains.ensures ∙ among_formals c.args.name.now c.args.names.now.keys
