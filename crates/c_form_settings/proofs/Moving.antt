-- What a pass knows behind an event.
use Rattle.std.proofs.Common.{◌≡◌, ◌+◌, ◌-◌, ℕ, suc, List, [], ◌∷◌, ◌++◌, length, length-append, refl, ap, sym, ◌∙◌, inl, inr, arith, subst}
use Rattle.std.specs.Prelude.{◌⊎◌, nat_eq, Option, Some, None}
use Rattle.std.specs.Option.{is_some}
use Rattle.indexmap.specs.IndexMap.{get}
use Rattle.c_form.specs.OpenBlocks.{innermost_first}
use Rattle.c_form.proofs.Open.{innermost-push}
use Rattle.c_form_settings.specs.declared.pass.Frame.{Frame}
use Rattle.c_form_settings.specs.declared.pass.Pass.{Pass}
use Rattle.c_form_settings.specs.declared.state.Event.{Event}
use Rattle.c_form_settings.specs.declared.state.Event.TheVariants.{Choice, Loop, Break, Close, Set}
use Rattle.c_form_settings.specs.declared.state.Local.{Local}
use Rattle.c_form_settings.specs.Passes.{Fits, Holds, IsPass, Moves, blocks, depth_of, next_at, outer_blocks, stack_at, told, waiting}
use Rattle.c_form_settings.specs.States.{duties, open_after}
use Rattle.c_form_settings.proofs.Changes.{choice-over, loop-over, break-over, nowhere}
use Rattle.c_form_settings.proofs.Covering.{arm-covers, emptied, fits-next, kept-all, loop-covers}
use Rattle.c_form_settings.proofs.Telling.{break-told, choice-told, end-told, loop-told}

pub length-innermost : {T : Type 0} (xs : List T) → length (innermost_first xs) ≡ length xs
length-innermost [] = refl
length-innermost (x ∷ xs) =
    length-append (innermost_first xs) (x ∷ []) ∙ ap (λ n. n + 1) (length-innermost xs) ∙ (let one : length xs + 1 ≡ suc (length xs) = omega arith in one)

pub depth-blocks : (pass : Pass) → depth_of pass ≡ length (blocks pass)
depth-blocks pass =
    (let one : length pass.outer.items + 1 ≡ suc (length pass.outer.items) = omega arith in one) ∙ ap suc (sym (length-innermost pass.outer.items))

-- what the open blocks list of one number
choice-holds : (i : ℕ) (outer : List Frame) (old cleared first second : Frame) (entry : Option Local)
    → first.ending.items ≡ old.joins.items → second.ending.items ≡ old.joins.items
    → cleared.ending.items ≡ old.ending.items → cleared.heads.items ≡ old.heads.items → cleared.turns.items ≡ old.turns.items
    → Holds i (old ∷ outer) entry → Holds i (first ∷ second ∷ cleared ∷ outer) (next_at Choice (suc (length outer)) entry)
choice-holds i outer old cleared first second entry one two ending heads turns h = record {
  fits = fits-next Choice (suc (length outer)) entry h.fits;
  covers = (
    arm-covers i (suc (length outer)) (suc (suc (suc (length outer)))) old first entry h.fits h.covers.0 (omega arith) one,
    (
      arm-covers i (suc (length outer)) (suc (suc (length outer))) old second entry h.fits h.covers.0 (omega arith) two,
      (
        emptied Choice i (suc (length outer)) old cleared entry choice-over ending lists h.covers.0,
        kept-all Choice i (suc (length outer)) outer entry (omega arith) h.covers.1,
      ),
    ),
  );
}
  where
    lists : (other : Event) → (other ≡ Choice) ⊎ (waiting other cleared ≡ waiting other old)
    lists Choice = inl refl
    lists Loop = inr heads
    lists Break = inr turns
    lists Close = inr refl
    lists Set = inr refl

loop-holds : (i : ℕ) (outer : List Frame) (old cleared fresh : Frame) (entry : Option Local)
    → fresh.ending.items ≡ old.heads.items → fresh.turns.items ≡ old.heads.items
    → cleared.ending.items ≡ old.ending.items → cleared.joins.items ≡ old.joins.items → cleared.turns.items ≡ old.turns.items
    → Holds i (old ∷ outer) entry → Holds i (fresh ∷ cleared ∷ outer) (next_at Loop (suc (length outer)) entry)
loop-holds i outer old cleared fresh entry one two ending joins turns h = record {
  fits = fits-next Loop (suc (length outer)) entry h.fits;
  covers = (
    loop-covers i (suc (length outer)) (suc (suc (length outer))) old fresh entry h.fits h.covers.0 (omega arith) one two,
    (
      emptied Loop i (suc (length outer)) old cleared entry loop-over ending lists h.covers.0,
      kept-all Loop i (suc (length outer)) outer entry (omega arith) h.covers.1,
    ),
  );
}
  where
    lists : (other : Event) → (other ≡ Loop) ⊎ (waiting other cleared ≡ waiting other old)
    lists Choice = inr joins
    lists Loop = inl refl
    lists Break = inr turns
    lists Close = inr refl
    lists Set = inr refl

break-holds : (i : ℕ) (outer : List Frame) (old cleared : Frame) (entry : Option Local)
    → cleared.ending.items ≡ old.ending.items → cleared.joins.items ≡ old.joins.items → cleared.heads.items ≡ old.heads.items
    → Holds i (old ∷ outer) entry → Holds i (cleared ∷ outer) (next_at Break (suc (length outer)) entry)
break-holds i outer old cleared entry ending joins heads h = record {
  fits = fits-next Break (suc (length outer)) entry h.fits;
  covers = (
    emptied Break i (suc (length outer)) old cleared entry break-over ending lists h.covers.0,
    kept-all Break i (suc (length outer)) outer entry (omega arith) h.covers.1,
  );
}
  where
    lists : (other : Event) → (other ≡ Break) ⊎ (waiting other cleared ≡ waiting other old)
    lists Choice = inr joins
    lists Loop = inr heads
    lists Break = inl refl
    lists Close = inr refl
    lists Set = inr refl

-- where no block is open nothing is due
pub unfit : (depth : ℕ) (entry : Option Local) → Fits 0 entry → stack_at depth entry ≡ []
unfit depth None fits = refl
unfit depth (Some l) fits = ap (duties (depth - l.base)) (nowhere l.state (omega (arith, fits)))

close-holds : (i : ℕ) (outer : List Frame) (old : Frame) (entry : Option Local) → Holds i (old ∷ outer) entry
    → Holds i (outer_blocks (old ∷ outer)) (next_at Close (suc (length outer)) entry)
close-holds i [] old entry h = record {
  fits = wider (next_at Close 1 entry) (fits-next Close 1 entry h.fits);
  covers = kept-all Close i 1 (old ∷ []) entry (omega arith) h.covers;
}
  where
    wider : (o : Option Local) → Fits 0 o → Fits 1 o
    wider None fits = tt
    wider (Some l) fits = omega (arith, fits)
close-holds i (around ∷ outer) old entry h = record {
  fits = fits-next Close (suc (suc (length outer))) entry h.fits;
  covers = kept-all Close i (suc (suc (length outer))) (around ∷ outer) entry (omega arith) h.covers.1;
}

close-stacks : (i : ℕ) (outer : List Frame) (old : Frame) (entry : Option Local) → Holds i (old ∷ outer) entry
    → stack_at (length (outer_blocks (old ∷ outer))) (next_at Close (suc (length outer)) entry)
    ≡ stack_at (open_after Close (suc (length outer))) (next_at Close (suc (length outer)) entry)
close-stacks i [] old entry h =
    let fits : Fits 0 (next_at Close 1 entry) = fits-next Close 1 entry h.fits in
    unfit 1 (next_at Close 1 entry) fits ∙ sym (unfit 0 (next_at Close 1 entry) fits)
close-stacks i (around ∷ outer) old entry h = refl

pub next-known : (event : Event) (depth : ℕ) (entry : Option Local) → is_some (next_at event depth entry) ≡ is_some entry
next-known event depth None = refl
next-known event depth (Some l) = refl

-- a pass whose numbers are told of an event
moved : (event : Event) (old new : Pass) (frames : List Frame) → blocks new ≡ frames
    → ((i : ℕ) → get nat_eq new.locals i ≡ next_at event (length (blocks old)) (get nat_eq old.locals i))
    → ((i : ℕ) → Holds i frames (next_at event (length (blocks old)) (get nat_eq old.locals i)))
    → ((i : ℕ) → stack_at (length frames) (next_at event (length (blocks old)) (get nat_eq old.locals i))
    ≡ stack_at (open_after event (length (blocks old))) (next_at event (length (blocks old)) (get nat_eq old.locals i)))
    → Moves event old new
moved event old new frames now entries holds stacks = record {
  holds = λ i. subst (λ fs. Holds i fs (get nat_eq new.locals i)) (sym now) (subst (Holds i frames) (sym (entries i)) (holds i));
  stacks = λ i.
      ap (λ n. stack_at n (get nat_eq new.locals i)) (depth-blocks new ∙ ap length now) ∙ ap (stack_at (length frames)) (entries i) ∙ stacks i
      ∙ ap (λ d. stack_at (open_after event d) (next_at event d (get nat_eq old.locals i))) (sym (depth-blocks old));
  known = λ i. ap is_some (entries i) ∙ next-known event (length (blocks old)) (get nat_eq old.locals i);
}

pub choice-moves : (old mid new : Pass) (cleared first second : Frame) → blocks new ≡ first ∷ blocks mid
    → blocks mid ≡ second ∷ cleared ∷ innermost_first old.outer.items
    → first.ending.items ≡ old.frame.joins.items → second.ending.items ≡ old.frame.joins.items
    → cleared.ending.items ≡ old.frame.ending.items → cleared.heads.items ≡ old.frame.heads.items → cleared.turns.items ≡ old.frame.turns.items
    → ((i : ℕ) → get nat_eq new.locals i ≡ told Choice (depth_of old) i old.frame.joins.items (get nat_eq old.locals i))
    → IsPass old → Moves Choice old new
choice-moves old mid new cleared first second now then one two ending heads turns tells h =
    let outer : List Frame = innermost_first old.outer.items in
    moved Choice old new (first ∷ second ∷ cleared ∷ outer) (now ∙ ap (λ fs. first ∷ fs) then)
    (λ i. tells i ∙ ap (λ d. told Choice d i old.frame.joins.items (get nat_eq old.locals i)) (depth-blocks old)
    ∙ choice-told i (suc (length outer)) old.frame (get nat_eq old.locals i) (h i).covers.0)
    (λ i. choice-holds i outer old.frame cleared first second (get nat_eq old.locals i) one two ending heads turns (h i))
    (λ i. refl)

pub loop-moves : (old new : Pass) (cleared fresh : Frame) → blocks new ≡ fresh ∷ cleared ∷ innermost_first old.outer.items
    → fresh.ending.items ≡ old.frame.heads.items → fresh.turns.items ≡ old.frame.heads.items
    → cleared.ending.items ≡ old.frame.ending.items → cleared.joins.items ≡ old.frame.joins.items → cleared.turns.items ≡ old.frame.turns.items
    → ((i : ℕ) → get nat_eq new.locals i ≡ told Loop (depth_of old) i old.frame.heads.items (get nat_eq old.locals i))
    → IsPass old → Moves Loop old new
loop-moves old new cleared fresh now one two ending joins turns tells h =
    let outer : List Frame = innermost_first old.outer.items in
    moved Loop old new (fresh ∷ cleared ∷ outer) now
    (λ i. tells i ∙ ap (λ d. told Loop d i old.frame.heads.items (get nat_eq old.locals i)) (depth-blocks old)
    ∙ loop-told i (suc (length outer)) old.frame (get nat_eq old.locals i) (h i).covers.0)
    (λ i. loop-holds i outer old.frame cleared fresh (get nat_eq old.locals i) one two ending joins turns (h i))
    (λ i. refl)

pub break-moves : (old new : Pass) (cleared : Frame) → blocks new ≡ cleared ∷ innermost_first old.outer.items
    → cleared.ending.items ≡ old.frame.ending.items → cleared.joins.items ≡ old.frame.joins.items → cleared.heads.items ≡ old.frame.heads.items
    → ((i : ℕ) → get nat_eq new.locals i ≡ told Break (depth_of old) i old.frame.turns.items (get nat_eq old.locals i))
    → IsPass old → Moves Break old new
break-moves old new cleared now ending joins heads tells h =
    let outer : List Frame = innermost_first old.outer.items in
    moved Break old new (cleared ∷ outer) now
    (λ i. tells i ∙ ap (λ d. told Break d i old.frame.turns.items (get nat_eq old.locals i)) (depth-blocks old)
    ∙ break-told i (suc (length outer)) old.frame (get nat_eq old.locals i) (h i).covers.0)
    (λ i. break-holds i outer old.frame cleared (get nat_eq old.locals i) ending joins heads (h i))
    (λ i. refl)

pub close-moves : (old new : Pass) → blocks new ≡ outer_blocks (blocks old)
    → ((i : ℕ) → get nat_eq new.locals i ≡ told Close (depth_of old) i old.frame.ending.items (get nat_eq old.locals i))
    → IsPass old → Moves Close old new
close-moves old new now tells h =
    let outer : List Frame = innermost_first old.outer.items in
    moved Close old new (outer_blocks (blocks old)) now
    (λ i. tells i ∙ ap (λ d. told Close d i old.frame.ending.items (get nat_eq old.locals i)) (depth-blocks old)
    ∙ end-told i (suc (length outer)) old.frame (get nat_eq old.locals i) (h i).covers.0)
    (λ i. close-holds i outer old.frame (get nat_eq old.locals i) (h i))
    (λ i. close-stacks i outer old.frame (get nat_eq old.locals i) (h i))

-- the innermost block is taken away
pub closed-blocks : (frame around : Frame) (pops items : List Frame) → items ≡ pops ++ around ∷ []
    → around ∷ innermost_first pops ≡ outer_blocks (frame ∷ innermost_first items)
closed-blocks frame around pops items e =
    sym (ap (λ fs. outer_blocks (frame ∷ innermost_first fs)) e ∙ ap (λ fs. outer_blocks (frame ∷ fs)) (innermost-push pops around))
