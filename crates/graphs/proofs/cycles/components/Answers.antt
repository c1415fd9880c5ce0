use Rattle.std.proofs.Common.{◌∙◌}
use Rattle.graphs.proofs.Turned.{are_turned}
use Rattle.graphs.proofs.Returning.{parts_taken}
use Rattle.graphs.proofs.cycles.components.Goals as goal

pub gather_all-requires-clause-turned : goal.gather_all-requires-clause-turned
gather_all-requires-clause-turned c = are_turned _ _ (c.deref-2.ensures.value ∙ c.in_ok-back.ensures)

pub returns-clause-same : goal.returns-clause-same
returns-clause-same c = (parts_taken c.args.n _ _ _ _ _ c.in_ok-gather_all.ensures (c.deref_mut.ensures.len ∙ c.in_ok-marked.ensures.len) c.in_ok-component.ensures.len).same
