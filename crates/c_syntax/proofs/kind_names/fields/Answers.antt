use Rattle.std.proofs.Common.{refl}
use Rattle.c_tree.specs.Words.{template}
use Rattle.c_syntax.specs.grammar.Names.{field_names}
use Rattle.c_syntax.proofs.kind_names.fields.Goals as goal

pub returns-clause-names : goal.returns-clause-names
unfolding template field_names
returns-clause-names c = refl
