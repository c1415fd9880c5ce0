use Rattle.std.proofs.Common.{map, ◌∙◌}
use Rattle.c_syntax.specs.grammar.Kinds.{kind_in}
use Rattle.c_syntax.specs.grammar.Sets.{c_rules}
use Rattle.c_syntax.proofs.syntax.token_tree.Goals as goal

pub parse-requires : goal.parse-requires
unfolding c_rules
parse-requires c = (map (kind_in c.args.bytes.now) c.args.tokens.now, c.deref.ensures.value ∙ c.in-Ok.ensures)
