use Rattle.std.proofs.Common.{ap}
use Rattle.va_build.specs.SourceItems.{attribute_group}
use Rattle.va_build.proofs.ItemRows.{group_read}
use Rattle.va_build.proofs.DueRows.{behind, one_due, passed, token_left}
use Rattle.va_build.proofs.attributes.group.Goals as goal

pub pass-requires : goal.pass-requires
pass-requires c = token_left c.requires.due

pub attribute-requires-clause-due : goal.attribute-requires-clause-due
attribute-requires-clause-due c = one_due (passed c.requires.due c.pass.ensures)

pub attributes_behind-requires-clause-due : goal.attributes_behind-requires-clause-due
attributes_behind-requires-clause-due c = one_due (behind (passed c.requires.due c.pass.ensures) c.in_ok-first.ensures)

pub pass-requires-2 : goal.pass-requires-2
pass-requires-2 c = token_left (behind (behind (passed c.requires.due c.pass.ensures) c.in_ok-first.ensures) c.in_ok-list.ensures)

pub returns : goal.returns
returns c = group_read c.args.e.now _ _ _ _ _ _ _ _ _ _ c.pass.ensures c.in_ok-first.ensures c.in_ok-list.ensures c.pass-2.ensures (ap attribute_group c.new.ensures)
