use Rattle.std.proofs.Common.{subst}
use Rattle.c_raw_build.specs.Due.{IsOfKind}
use Rattle.c_raw_build.proofs.TokenValues.{function_word_fits, module_name_fits}
use Rattle.c_raw_build.proofs.text.module_number.Goals as goal

pub first_number-requires-clause-name : goal.first_number-requires-clause-name
first_number-requires-clause-name c =
    let fits = function_word_fits c.args.word.now (subst (λ k. IsOfKind k c.args.word.now) c.if-kind-eq-MODULE_FUNCTION.true c.requires.of_kind) in fits.long

pub first_number-requires-clause-fits : goal.first_number-requires-clause-fits
first_number-requires-clause-fits c =
    let fits = function_word_fits c.args.word.now (subst (λ k. IsOfKind k c.args.word.now) c.if-kind-eq-MODULE_FUNCTION.true c.requires.of_kind) in fits.first

pub number-requires : goal.number-requires
number-requires c = module_name_fits c.args.kind c.args.word.now c.requires.numbered c.if-kind-eq-MODULE_FUNCTION.false c.requires.of_kind
