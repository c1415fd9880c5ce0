use Rattle.std.proofs.Common.{sym, ◌∙◌}
use Rattle.c_raw_build.proofs.DueRows.{node_left}
use Rattle.c_raw_build.proofs.DueTokens.{ahead}
use Rattle.c_raw_build.proofs.bodies.head.Goals as goal

pub next_row-requires : goal.next_row-requires
next_row-requires c = node_left (ahead c.requires)

pub if_head-requires-clause-due : goal.if_head-requires-clause-due
if_head-requires-clause-due c = c.requires

pub if_head-requires-clause-row : goal.if_head-requires-clause-row
if_head-requires-clause-row c = sym c.next_row.ensures ∙ c.in-38.is

pub for_head-requires-clause-due : goal.for_head-requires-clause-due
for_head-requires-clause-due c = ahead c.requires

pub for_head-requires-clause-row : goal.for_head-requires-clause-row
for_head-requires-clause-row c = sym c.next_row.ensures ∙ c.in-39.is

pub simple_head-requires-clause-due : goal.simple_head-requires-clause-due
simple_head-requires-clause-due c = c.requires

pub simple_head-requires-clause-no_if : goal.simple_head-requires-clause-no_if
simple_head-requires-clause-no_if c = λ e. c.in_default.in_default-own.rest.0.1 (c.next_row.ensures ∙ e)

pub simple_head-requires-clause-no_for : goal.simple_head-requires-clause-no_for
simple_head-requires-clause-no_for c = λ e. c.in_default.in_default-own.rest.1 (c.next_row.ensures ∙ e)

pub returns-in-39-clause-read : goal.returns-in-39-clause-read
returns-in-39-clause-read c = c.for_head.ensures.read c.args.text.now

pub returns-in-39-clause-due : goal.returns-in-39-clause-due
returns-in-39-clause-due c = c.for_head.ensures.due c.args.text.now
