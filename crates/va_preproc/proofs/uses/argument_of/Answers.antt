use Rattle.va_preproc.specs.Values.{lexemes_in}
use Rattle.va_preproc.proofs.Formals.{given_seen}
use Rattle.va_preproc.proofs.uses.argument_of.Goals as goal

pub returns : goal.returns
returns c = λ files. given_seen (lexemes_in files) c.args.inside.now.formals.now.keys c.args.inside.now.arguments.now c.args.name.now c.argument_at.result c.argument_at.ensures
