use Rattle.std.proofs.Common.{refl}
use Rattle.c_tree.specs.Words.{template}
use Rattle.c_syntax.specs.grammar.Names.{mark_names}
use Rattle.c_syntax.proofs.kind_names.marks.Goals as goal

pub returns-clause-names : goal.returns-clause-names
unfolding template mark_names
returns-clause-names c = refl
