use Rattle.std.proofs.Common.{arith, ap, sym, ◌∙◌}
use Rattle.std.specs.Prelude.{map, nat_eq, ◌==◌}
use Rattle.std.specs.Option.{is_some}
use Rattle.c_tree.specs.Form.{least_of}
use Rattle.c_tree.specs.Raw.{At}
use Rattle.indexmap.specs.IndexMap.{get}
use Rattle.c_raw.specs.Blocks.{at_view}
use Rattle.c_form.proofs.Seen.{again-step, again-end, blames_like, eq-sym, numbers-again, repeated-again, seen-more, unless-not}
use Rattle.c_form.proofs.Blaming.{blames_as}
use Rattle.c_form.proofs.again.repeated.Goals as goal

pub loop-number-preserved : goal.loop-number-preserved
loop-number-preserved c = λ new more.
    c.loop-number.invariant new
    (again-step (λ x. At.at x) (λ x. At.value x) (λ a b. a == b) at_view _ _ new (λ i. is_some (get nat_eq c.loop-number.seen i)) (λ i. is_some (get nat_eq c.insert.new.self i))
    c.args.list.now c.loop-number.number-index _ (omega arith)
    (λ i. ap is_some (c.in_ok-before.ensures.updates.0 i) ∙ seen-more _ _ (get nat_eq c.loop-number.seen i))
    (blames_as c.blame_unless.ensures (unless-not _ _ _ (sym (ap is_some c.in_ok-before.ensures.old) ∙ c.is_none.ensures))) more)

pub returns : goal.returns
returns c =
    blames_like _ _ _ _ (c.loop-number.invariant _ (again-end (λ x. At.at x) (λ x. At.value x) (λ a b. a == b) at_view _ (λ i. is_some (get nat_eq c.loop-number.seen i)) c.args.list.now c.loop-number.number-index (omega arith)))
    (repeated-again (λ x. At.at x) (λ x. At.value x) (λ a b. a == b) eq-sym (map at_view c.args.list.now)
    ∙ ap least_of (numbers-again (map at_view c.args.list.now)))
