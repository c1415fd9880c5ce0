use Rattle.std.proofs.Common.{sym}
use Rattle.std.proofs.lemmas.List.{get_or_default}
use Rattle.std.proofs.Math.ListN.{get_or-eq_default}
use Rattle.c_syntax.specs.grammar.Kinds.{numbered_kinds}
use Rattle.c_syntax.proofs.kinds.numbered_kind_at.Goals as goal

pub returns-then-place-lt27 : goal.returns-then-place-lt27
returns-then-place-lt27 c = get_or_default numbered_kinds c.args.place 0 1 c.if-place-lt27.true

pub returns-else-place-lt27 : goal.returns-else-place-lt27
returns-else-place-lt27 c = sym (get_or-eq_default numbered_kinds 1 c.if-place-lt27.false)
