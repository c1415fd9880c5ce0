use Rattle.std.proofs.Common.{refl}
use Rattle.c_tree.specs.Words.{template}
use Rattle.c_syntax.specs.grammar.Kinds.{numbered_names}
use Rattle.c_syntax.proofs.kind_names.numbered.Goals as goal

pub returns-clause-names : goal.returns-clause-names
unfolding template numbered_names
returns-clause-names c = refl
