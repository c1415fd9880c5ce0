use Rattle.std.proofs.Common.{refl}
use Rattle.c_tree.specs.Words.{template}
use Rattle.c_syntax.specs.grammar.Kinds.{function_names}
use Rattle.c_syntax.proofs.kind_names.functions.Goals as goal

pub returns-clause-names : goal.returns-clause-names
unfolding template function_names
returns-clause-names c = refl
