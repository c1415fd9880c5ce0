use Rattle.std.proofs.Common.{refl}
use Rattle.c_tree.specs.Words.{include_words}
use Rattle.c_syntax.proofs.kind_names.includes.Goals as goal

pub returns-clause-names : goal.returns-clause-names
unfolding include_words
returns-clause-names c = refl
