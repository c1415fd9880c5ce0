use Rattle.std.proofs.Common.{arith, sym, refl}
use Rattle.graphs.proofs.Returning.{parts_start, parts_at, claim_at, later_more, parts_end}
use Rattle.graphs.proofs.cycles.gather_all.Goals as goal

pub loop-i-init : goal.loop-i-init
loop-i-init c = record {
  components = parts_start _ _ _ _ _ _ c.requires.roots c.requires.marked c.requires.component;
  empty = c.requires.work;
  later = λ k l g. absurd (omega arith);
}

pub gather-requires-clause-components : goal.gather-requires-clause-components
gather-requires-clause-components c = parts_at _ _ _ _ _ _ _ c.loop-i.invariant.components c.loop-i.invariant.components.spreads.len

pub gather-requires-clause-work : goal.gather-requires-clause-work
gather-requires-clause-work c = c.loop-i.invariant.empty

pub gather-requires-clause-claim : goal.gather-requires-clause-claim
gather-requires-clause-claim c = λ x o h.
    claim_at _ _ _ _ c.requires.turned _ c.requires.order _ _ _ _ _ c.loop-i.invariant.components refl c.loop-i-test.true c.loop-i.invariant.later c.loop-i.invariant.components.spreads.len x o h

pub loop-i-preserved : goal.loop-i-preserved
loop-i-preserved c = record {
  components = parts_at _ _ _ _ _ _ _ c.in_ok-gather.ensures.components (sym c.loop-i.invariant.components.spreads.len);
  empty = c.in_ok-gather.ensures.work;
  later = later_more c.loop-i.marked _ _ _ _ c.loop-i-test.true c.loop-i.invariant.later c.in_ok-gather.ensures.kept c.in_ok-gather.ensures.here;
}

pub returns : goal.returns
returns c = parts_end _ _ _ _ _ _ _ _ c.loop-i.i c.requires.order c.loop-i.invariant.components refl c.loop-i-test.false c.loop-i.invariant.later
