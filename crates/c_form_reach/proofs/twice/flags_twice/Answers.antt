use Rattle.std.proofs.Common.{arith, ap, get_or, ◌∙◌}
use Rattle.std.specs.Prelude.{map, nat_eq, ◌==◌}
use Rattle.indexmap.specs.IndexSet.{contains}
use Rattle.c_tree.specs.Form.{least_of}
use Rattle.c_raw.specs.Blocks.{at_view}
use Rattle.c_form.proofs.Blaming.{blames_as}
use Rattle.c_form.proofs.Seen.{again-end, again-step, blames_like, eq-sym, repeated-again}
use Rattle.c_form_reach.proofs.Setting.{flag_key, flag_token, flags-again, number-entered, unless-seen}
use Rattle.c_form_reach.proofs.twice.flags_twice.Goals as goal

pub loop-flag-preserved : goal.loop-flag-preserved
loop-flag-preserved c = λ new more.
    c.loop-flag.invariant new
    (again-step flag_token flag_key (λ a b. a == b) at_view _ _ new (contains nat_eq c.loop-flag.seen) (contains nat_eq c.insert.new.self) c.args.flags.now c.loop-flag.flag-index _ (omega arith)
    (λ i. c.in_ok-fresh.ensures.updates.0 i ∙ number-entered ((get_or c.args.flags.now c.loop-flag.flag-index _).value == i) (contains nat_eq c.loop-flag.seen i)) (blames_as c.blame_unless.ensures (unless-seen _ _ _ c.in_ok-fresh.ensures.added)) more)

pub returns : goal.returns
returns c =
    blames_like _ _ _ _
    (c.loop-flag.invariant _ (again-end flag_token flag_key (λ a b. a == b) at_view _ (contains nat_eq c.loop-flag.seen) c.args.flags.now c.loop-flag.flag-index (omega arith)))
    (repeated-again flag_token flag_key (λ a b. a == b) eq-sym (map at_view c.args.flags.now) ∙ ap least_of (flags-again (map at_view c.args.flags.now)))
