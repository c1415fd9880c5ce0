use Rattle.std.proofs.Common.{◌≡◌, ap, sym, refl, ◌++◌, ◌∷◌, [], rules}
use Rattle.std.specs.Prelude.{if◌then◌else◌, not}
use Rattle.c_form.specs.OpenBlocks.{breaks_flat}
use Rattle.c_form.proofs.Blaming.{blames_none}
use Rattle.c_form.proofs.Open.{breaks-step}
use Rattle.c_form.proofs.breaks.step.Goals as goal

pub returns-in_ok-go_on-in-Simple : goal.returns-in_ok-go_on-in-Simple
returns-in_ok-go_on-in-Simple c = λ new rest more.
    let popped : c.args.blocks.now.items ≡ c.pop.new.self.items ++ c.in-Some.wanted ∷ [] = search rules in
    breaks-step _ _ new c.args.blocks.now.items c.pop.new.self.items c.go_on.new.blocks.items c.in-Some.wanted c.args.statement.now rest [] popped
    (rw (c.in-Simple.is) (ap (λ l. breaks_flat l rest) (sym c.in_ok-go_on-in-Simple.ensures))) (blames_none _) more

pub returns-in_ok-go_on-in-Leave : goal.returns-in_ok-go_on-in-Leave
returns-in_ok-go_on-in-Leave c = λ new rest more.
    let popped : c.args.blocks.now.items ≡ c.pop.new.self.items ++ c.in-Some.wanted ∷ [] = search rules in
    breaks-step _ _ new c.args.blocks.now.items c.pop.new.self.items c.go_on-in-Leave.new.blocks.items c.in-Some.wanted c.args.statement.now rest (if c.in-Some.wanted then [] else c.in-Leave.at ∷ []) popped
    (rw (c.in-Leave.is) (ap (λ l. (if c.in-Some.wanted then [] else c.in-Leave.at ∷ []) ++ breaks_flat l rest) (sym c.in_ok-go_on-in-Leave.ensures))) c.blame_unless.ensures more

pub returns-in_ok-open_choice-in-If : goal.returns-in_ok-open_choice-in-If
returns-in_ok-open_choice-in-If c = λ new rest more.
    let popped : c.args.blocks.now.items ≡ c.pop.new.self.items ++ c.in-Some.wanted ∷ [] = search rules in
    breaks-step _ _ new c.args.blocks.now.items c.pop.new.self.items c.open_choice.new.blocks.items c.in-Some.wanted c.args.statement.now rest [] popped
    (rw (c.in-If.is) (ap (λ l. breaks_flat l rest) (sym c.in_ok-open_choice-in-If.ensures))) (blames_none _) more

pub returns-in_ok-open_loop-in-For : goal.returns-in_ok-open_loop-in-For
returns-in_ok-open_loop-in-For c = λ new rest more.
    let popped : c.args.blocks.now.items ≡ c.pop.new.self.items ++ c.in-Some.wanted ∷ [] = search rules in
    breaks-step _ _ new c.args.blocks.now.items c.pop.new.self.items c.open_loop.new.blocks.items c.in-Some.wanted c.args.statement.now rest [] popped
    (rw (c.in-For.is) (ap (λ l. breaks_flat l rest) (sym c.in_ok-open_loop-in-For.ensures))) (blames_none _) more

pub returns-in-End : goal.returns-in-End
returns-in-End c = λ new rest more.
    let popped : c.args.blocks.now.items ≡ c.pop.new.self.items ++ c.in-Some.wanted ∷ [] = search rules in
    breaks-step _ _ new c.args.blocks.now.items c.pop.new.self.items c.pop.new.self.items c.in-Some.wanted c.args.statement.now rest (if not c.in-Some.wanted then [] else c.in-End.at ∷ []) popped
    (rw (c.in-End.is) refl) c.blame_unless-in-End.ensures more
