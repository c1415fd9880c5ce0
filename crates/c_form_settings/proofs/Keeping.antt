-- Behind a statement the same is still to be blamed, but what the statement blamed.
use Rattle.std.proofs.Common.{◌≡◌, ◌<◌, ◌≤◌, ◌-◌, ℕ, zero, suc, List, [], ◌∷◌, ◌++◌, refl, ap, sym, ◌∙◌, inl, inr, arith, subst}
use Rattle.std.specs.Prelude.{◌⊎◌, Bool, true, false, if◌then◌else◌, nat_eq, Option, Some, None}
use Rattle.std.specs.List.{flat_map}
use Rattle.std.proofs.lemmas.Bool.{eqb-true}
use Rattle.indexmap.specs.IndexMap.{get}
use Rattle.c_tree.specs.declared.body.CAtom.{CAtom}
use Rattle.c_tree.specs.Raw as raw
use Rattle.c_tree.specs.rules.Bodies.{local_of}
use Rattle.c_raw.specs.Blocks.{at_view}
use Rattle.c_raw.specs.declared.body.RawStatement.{RawStatement}
use Rattle.c_raw.specs.declared.body.RawStatement.TheVariants.{Leave, If, For, End}
use Rattle.c_raw.specs.declared.token.At.{At}
use Rattle.c_form.specs.Blames.{Blames}
use Rattle.c_form.proofs.Blaming.{blames_none}
use Rattle.c_form_settings.specs.declared.duty.Duty.TheVariants.{Unset, Untouched}
use Rattle.c_form_settings.specs.declared.pass.Frame.{Frame}
use Rattle.c_form_settings.specs.declared.pass.Pass.{Pass}
use Rattle.c_form_settings.specs.declared.state.Event.{Event}
use Rattle.c_form_settings.specs.declared.state.Event.TheVariants.{Choice, Loop, Break, Close, Set}
use Rattle.c_form_settings.specs.declared.state.Local.{Local}
use Rattle.c_form_settings.specs.declared.state.State.{State}
use Rattle.c_form_settings.specs.declared.state.State.TheVariants.{Settled, AwaitsChoice, FirstArm, FirstArmSet, SecondArm, SecondArmSet, AwaitsLoop, BeforeBreak, BehindBreak, Gone}
use Rattle.c_form_settings.specs.Duties.{end_under, is_unread, lacks_setting, reads_under}
use Rattle.c_form_settings.specs.Passes.{AllAbove, Among, Covers, Fits, IsPass, Keeps, Knows, Moves, Steps, depth_of, due_at, early_in, lacking_in, next_at, stack_at}
use Rattle.c_form_settings.specs.States.{size, inmost, further, is_early, here, duties, due_here, becomes, open_after}
use Rattle.c_form_settings.specs.Walks.{due_flat, settings_flat}
use Rattle.c_form_settings.proofs.Bounding.{among-above, blamed-above, both-above, each-above, first-above, old-above, second-above, tokens-above, where-atoms, where-back, where-forth}
use Rattle.c_form_settings.proofs.Changes.{nowhere}
use Rattle.c_form_settings.proofs.Moving.{depth-blocks}
use Rattle.c_form_settings.proofs.Stacks.{break-step, choice-step, end-step, loop-step}

pub keeps-then : {old mid new : Option ℕ} {before between after : Pass} {list more rest : List RawStatement} {x y z : List ℕ}
    → Keeps old mid before between list more x y → Keeps mid new between after more rest y z → Keeps old new before after list rest x z
keeps-then a b = record {
  forth = λ bound k. b.forth bound (a.forth bound k);
  back = λ bound k. a.back bound (b.back bound k);
}

-- a local whose block has ended stays so
gone-stays : (event : Event) → becomes event Gone ≡ Gone
gone-stays Choice = refl
gone-stays Loop = refl
gone-stays Break = refl
gone-stays Close = refl
gone-stays Set = refl

pub gone-next : (event : Event) (b : Bool) → (if b then becomes event Gone else Gone) ≡ Gone
gone-next event true = gone-stays event
gone-next event false = refl

-- the blocks that are open behind an event
opened-after : (event : Event) (depth base : ℕ) → base < depth → open_after event depth - base ≡ open_after event (depth - base)
opened-after Choice depth base h = omega (arith, h)
opened-after Loop depth base h = omega (arith, h)
opened-after Break depth base h = refl
opened-after Close zero base h = omega (arith, h)
opened-after Close (suc depth) base h =
    let e : suc depth - base ≡ suc (depth - base) = omega (arith, h) in sym (ap (open_after Close) e)
opened-after Set depth base h = refl

reopened : (event : Event) (depth base : ℕ) (state : State) → size state ≤ depth - base
    → duties (open_after event (depth - base)) (if here (depth - base) state then becomes event state else state)
    ≡ duties (open_after event depth - base) (if here (depth - base) state then becomes event state else state)
reopened event depth base state fits = by_depth (depth - base) refl
  where
    both_gone : (n m : ℕ) (s : State) → s ≡ Gone → duties n s ≡ duties m s
    both_gone n m s e = rw e refl

    by_depth : (d : ℕ) → depth - base ≡ d
        → duties (open_after event (depth - base)) (if here (depth - base) state then becomes event state else state)
        ≡ duties (open_after event depth - base) (if here (depth - base) state then becomes event state else state)
    by_depth zero e =
        let gone : state ≡ Gone = nowhere state (omega (arith, fits, e)) in
        both_gone (open_after event (depth - base)) (open_after event depth - base) (if here (depth - base) state then becomes event state else state)
        (ap (λ s. if here (depth - base) s then becomes event s else s) gone ∙ gone-next event (here (depth - base) Gone))
    by_depth (suc d) e =
        ap (λ n. duties n (if here (depth - base) state then becomes event state else state)) (sym (opened-after event depth base (omega (arith, e))))

-- what a number blames at a statement with an event
pub choice-entry : (i depth : ℕ) (rest : List RawStatement) (test : At CAtom) (entry : Option Local) → Fits depth entry
    → due_flat i (stack_at depth entry) (If test ∷ rest)
    ≡ reads_under i (due_at depth entry) (at_view test ∷ []) ++ due_flat i (stack_at (open_after Choice depth) (next_at Choice depth entry)) rest
choice-entry i depth rest test None fits = refl
choice-entry i depth rest test (Some l) fits =
    choice-step i rest test (depth - l.base) l.state fits
    ∙ ap (λ dues. reads_under i (due_here (depth - l.base) l.state) (at_view test ∷ []) ++ due_flat i dues rest) (reopened Choice depth l.base l.state fits)

pub break-entry : (i depth : ℕ) (rest : List RawStatement) (at : ℕ) (test : At CAtom) (entry : Option Local) → Fits depth entry
    → due_flat i (stack_at depth entry) (Leave at test ∷ rest)
    ≡ reads_under i (due_at depth entry) (at_view test ∷ []) ++ due_flat i (stack_at (open_after Break depth) (next_at Break depth entry)) rest
break-entry i depth rest at test None fits = refl
break-entry i depth rest at test (Some l) fits =
    break-step i rest at test (depth - l.base) l.state fits
    ∙ ap (λ dues. reads_under i (due_here (depth - l.base) l.state) (at_view test ∷ []) ++ due_flat i dues rest) (reopened Break depth l.base l.state fits)

pub loop-entry : (i depth : ℕ) (rest : List RawStatement) (entry : Option Local) → Fits depth entry
    → due_flat i (stack_at depth entry) (For ∷ rest) ≡ [] ++ due_flat i (stack_at (open_after Loop depth) (next_at Loop depth entry)) rest
loop-entry i depth rest None fits = refl
loop-entry i depth rest (Some l) fits =
    loop-step i rest (depth - l.base) l.state fits ∙ ap (λ dues. due_flat i dues rest) (reopened Loop depth l.base l.state fits)

pub end-entry : (i depth : ℕ) (rest : List RawStatement) (at : ℕ) (entry : Option Local) → Fits depth entry
    → due_flat i (stack_at depth entry) (End at ∷ rest)
    ≡ end_under (due_at depth entry) at ++ due_flat i (stack_at (open_after Close depth) (next_at Close depth entry)) rest
end-entry i depth rest at None fits = refl
end-entry i depth rest at (Some l) fits =
    end-step i rest at (depth - l.base) l.state fits
    ∙ ap (λ dues. end_under (due_here (depth - l.base) l.state) at ++ due_flat i dues rest) (reopened Close depth l.base l.state fits)

-- a statement at which each number blames something
pub step-keeps : (old new : Option ℕ) (before after : Pass) (s : RawStatement) (rest : List RawStatement) (others tokens : List ℕ) (parts : ℕ → List ℕ)
    → ((i : ℕ) → due_flat i (stack_at (depth_of before) (get nat_eq before.locals i)) (s ∷ rest)
    ≡ parts i ++ due_flat i (stack_at (depth_of after) (get nat_eq after.locals i)) rest)
    → Blames old new tokens → ((bound : ℕ) → AllAbove bound tokens → (i : ℕ) → AllAbove bound (parts i))
    → ((bound : ℕ) → ((i : ℕ) → AllAbove bound (parts i)) → AllAbove bound tokens)
    → Keeps old new before after (s ∷ rest) rest others others
step-keeps old new before after s rest others tokens parts same b forth back = record {
  forth = λ bound k. record {
    least = blamed-above bound old new tokens b k.least
        (back bound (λ i. first-above bound (parts i) (later i) (subst (AllAbove bound) (same i) (k.due i))));
    due = λ i. second-above bound (parts i) (later i) (subst (AllAbove bound) (same i) (k.due i));
    others = k.others;
  };
  back = λ bound k. record {
    least = old-above bound old new tokens b k.least;
    due = λ i. subst (AllAbove bound) (sym (same i))
        (both-above bound (parts i) (later i) (forth bound (tokens-above bound old new tokens b k.least) i) (k.due i));
    others = k.others;
  };
}
  where
    later : ℕ → List ℕ
    later i = due_flat i (stack_at (depth_of after) (get nat_eq after.locals i)) rest

-- the same of a statement with an event
event-keeps : (event : Event) (old new : Option ℕ) (before after : Pass) (s : RawStatement) (rest : List RawStatement) (others tokens : List ℕ)
    (parts : ℕ → List ℕ)
    → ((i : ℕ) → due_flat i (stack_at (depth_of before) (get nat_eq before.locals i)) (s ∷ rest)
    ≡ parts i ++ due_flat i (stack_at (open_after event (depth_of before)) (next_at event (depth_of before) (get nat_eq before.locals i))) rest)
    → Blames old new tokens → ((bound : ℕ) → AllAbove bound tokens → (i : ℕ) → AllAbove bound (parts i))
    → ((bound : ℕ) → ((i : ℕ) → AllAbove bound (parts i)) → AllAbove bound tokens)
    → Moves event before after → Keeps old new before after (s ∷ rest) rest others others
event-keeps event old new before after s rest others tokens parts step b forth back m =
    step-keeps old new before after s rest others tokens parts
    (λ i. step i ∙ ap (λ dues. parts i ++ due_flat i dues rest) (sym (m.stacks i))) b forth back

-- the reads of locals that aren't to be read yet
pub early-forth : (bound : ℕ) (pass : Pass) (atoms : List (raw.At CAtom)) → AllAbove bound (flat_map (early_in pass) atoms)
    → (i : ℕ) → AllAbove bound (reads_under i (due_at (depth_of pass) (get nat_eq pass.locals i)) atoms)
early-forth bound pass atoms a i =
    let test : ℕ → Bool = λ n. is_unread (due_at (depth_of pass) (get nat_eq pass.locals n)) in
    where-forth bound test i (flat_map local_of atoms) (subst (AllAbove bound) (sym (where-atoms test atoms)) a)

pub early-back : (bound : ℕ) (pass : Pass) (atoms : List (raw.At CAtom))
    → ((i : ℕ) → AllAbove bound (reads_under i (due_at (depth_of pass) (get nat_eq pass.locals i)) atoms))
    → AllAbove bound (flat_map (early_in pass) atoms)
early-back bound pass atoms a =
    let test : ℕ → Bool = λ n. is_unread (due_at (depth_of pass) (get nat_eq pass.locals n)) in
    subst (AllAbove bound) (where-atoms test atoms) (where-back bound test (flat_map local_of atoms) a)

pub fits-of : (pass : Pass) → IsPass pass → (i : ℕ) → Fits (depth_of pass) (get nat_eq pass.locals i)
fits-of pass h i = subst (λ d. Fits d (get nat_eq pass.locals i)) (sym (depth-blocks pass)) (h i).fits

choice-keeps : (old new : Option ℕ) (before after : Pass) (test : At CAtom) (rest : List RawStatement) (others : List ℕ)
    → Blames old new (flat_map (early_in before) (at_view test ∷ [])) → IsPass before → Moves Choice before after
    → Keeps old new before after (If test ∷ rest) rest others others
choice-keeps old new before after test rest others b h m =
    event-keeps Choice old new before after (If test) rest others (flat_map (early_in before) (at_view test ∷ []))
    (λ i. reads_under i (due_at (depth_of before) (get nat_eq before.locals i)) (at_view test ∷ []))
    (λ i. choice-entry i (depth_of before) rest test (get nat_eq before.locals i) (fits-of before h i))
    b (λ bound. early-forth bound before (at_view test ∷ [])) (λ bound. early-back bound before (at_view test ∷ [])) m

break-keeps : (old new : Option ℕ) (before after : Pass) (at : ℕ) (test : At CAtom) (rest : List RawStatement) (others : List ℕ)
    → Blames old new (flat_map (early_in before) (at_view test ∷ [])) → IsPass before → Moves Break before after
    → Keeps old new before after (Leave at test ∷ rest) rest others others
break-keeps old new before after at test rest others b h m =
    event-keeps Break old new before after (Leave at test) rest others (flat_map (early_in before) (at_view test ∷ []))
    (λ i. reads_under i (due_at (depth_of before) (get nat_eq before.locals i)) (at_view test ∷ []))
    (λ i. break-entry i (depth_of before) rest at test (get nat_eq before.locals i) (fits-of before h i))
    b (λ bound. early-forth bound before (at_view test ∷ [])) (λ bound. early-back bound before (at_view test ∷ [])) m

loop-keeps : (least : Option ℕ) (before after : Pass) (rest : List RawStatement) (others : List ℕ)
    → IsPass before → Moves Loop before after → Keeps least least before after (For ∷ rest) rest others others
loop-keeps least before after rest others h m =
    event-keeps Loop least least before after For rest others [] (λ i. [])
    (λ i. loop-entry i (depth_of before) rest (get nat_eq before.locals i) (fits-of before h i))
    (blames_none least) (λ bound a i. tt) (λ bound a. tt) m

-- a local that lacks a setting is one of those that the block lists
gone-or : (s : State) → (s ≡ Gone) ⊎ (1 ≤ size s)
gone-or Settled = inr (omega arith)
gone-or AwaitsChoice = inr (omega arith)
gone-or FirstArm = inr (omega arith)
gone-or FirstArmSet = inr (omega arith)
gone-or SecondArm = inr (omega arith)
gone-or SecondArmSet = inr (omega arith)
gone-or AwaitsLoop = inr (omega arith)
gone-or BeforeBreak = inr (omega arith)
gone-or BehindBreak = inr (omega arith)
gone-or Gone = inl refl

further-lacks : (early : Bool) → lacks_setting (if early then Untouched else Unset) ≡ true → ⊥
further-lacks true e = cc e
further-lacks false e = cc e

lacking-listed : (i depth : ℕ) (frame : Frame) (entry : Option Local) → Covers i depth frame entry
    → lacks_setting (due_at depth entry) ≡ true → Among i frame.ending.items
lacking-listed i depth frame None c e = cc e
lacking-listed i depth frame (Some l) c e = by_test (here (depth - l.base) l.state) refl e
  where
    by_size : (s : State) → s ≡ l.state → depth - l.base ≡ size s → lacks_setting (inmost s) ≡ true → (s ≡ Gone) ⊎ (1 ≤ size s) → Among i frame.ending.items
    by_size s f at lack (inl gone) = let no : false ≡ true = subst (λ t. lacks_setting (inmost t) ≡ true) gone lack in cc no
    by_size s f at lack (inr some) =
        let same : size s ≡ size l.state = ap size f in
        c.ending (omega (arith, at, some)) (omega (arith, at, some, same))

    by_test : (b : Bool) → here (depth - l.base) l.state ≡ b → lacks_setting (if b then inmost l.state else further l.state) ≡ true → Among i frame.ending.items
    by_test true f lack = by_size l.state refl (eqb-true (depth - l.base) (size l.state) f) lack (gone-or l.state)
    by_test false f lack = absurd (further-lacks (is_early l.state) lack)

lacking-forth : (bound : ℕ) (pass : Pass) (at : ℕ) → IsPass pass → AllAbove bound (flat_map (lacking_in pass at) pass.frame.ending.items)
    → (i : ℕ) → AllAbove bound (lacking_in pass at i)
lacking-forth bound pass at h a i = by_test (lacks_setting (due_at (depth_of pass) (get nat_eq pass.locals i))) refl
  where
    covered : Covers i (depth_of pass) pass.frame (get nat_eq pass.locals i)
    covered = subst (λ d. Covers i d pass.frame (get nat_eq pass.locals i)) (sym (depth-blocks pass)) (h i).covers.0

    by_test : (b : Bool) → lacks_setting (due_at (depth_of pass) (get nat_eq pass.locals i)) ≡ b → AllAbove bound (if b then at ∷ [] else [])
    by_test false e = tt
    by_test true e =
        let listed : Among i pass.frame.ending.items = lacking-listed i (depth_of pass) pass.frame (get nat_eq pass.locals i) covered e in
        subst (λ b. AllAbove bound (if b then at ∷ [] else [])) e (among-above bound i (lacking_in pass at) pass.frame.ending.items listed a)

end-keeps : (old new : Option ℕ) (before after : Pass) (at : ℕ) (rest : List RawStatement) (others : List ℕ)
    → Blames old new (flat_map (lacking_in before at) before.frame.ending.items) → IsPass before → Moves Close before after
    → Keeps old new before after (End at ∷ rest) rest others others
end-keeps old new before after at rest others b h m =
    event-keeps Close old new before after (End at) rest others (flat_map (lacking_in before at) before.frame.ending.items)
    (lacking_in before at)
    (λ i. end-entry i (depth_of before) rest at (get nat_eq before.locals i) (fits-of before h i))
    b (λ bound. lacking-forth bound before at h) (λ bound. each-above bound (lacking_in before at) before.frame.ending.items) m

-- behind an event the same numbers were declared
still-known : (event : Event) (old new : Pass) (before : List ℕ) → Moves event old new → Knows before old → Knows before new
still-known event old new before m k = λ i. m.known i ∙ k i

-- a pass behind a statement that declares nothing
pub choice-steps : (found left : Option ℕ) (old new : Pass) (test : At CAtom) → Blames found left (flat_map (early_in old) (at_view test ∷ []))
    → IsPass old → Moves Choice old new → Steps found left old new (If test)
choice-steps found left old new test b h m = record {
  holds = m.holds;
  known = λ before k. still-known Choice old new before m k;
  keeps = λ before rest k. choice-keeps found left old new test rest (settings_flat before rest) b h m;
}

pub break-steps : (found left : Option ℕ) (old new : Pass) (at : ℕ) (test : At CAtom)
    → Blames found left (flat_map (early_in old) (at_view test ∷ [])) → IsPass old → Moves Break old new → Steps found left old new (Leave at test)
break-steps found left old new at test b h m = record {
  holds = m.holds;
  known = λ before k. still-known Break old new before m k;
  keeps = λ before rest k. break-keeps found left old new at test rest (settings_flat before rest) b h m;
}

pub loop-steps : (found : Option ℕ) (old new : Pass) → IsPass old → Moves Loop old new → Steps found found old new For
loop-steps found old new h m = record {
  holds = m.holds;
  known = λ before k. still-known Loop old new before m k;
  keeps = λ before rest k. loop-keeps found old new rest (settings_flat before rest) h m;
}

pub end-steps : (found left : Option ℕ) (old new : Pass) (at : ℕ) → Blames found left (flat_map (lacking_in old at) old.frame.ending.items)
    → IsPass old → Moves Close old new → Steps found left old new (End at)
end-steps found left old new at b h m = record {
  holds = m.holds;
  known = λ before k. still-known Close old new before m k;
  keeps = λ before rest k. end-keeps found left old new at rest (settings_flat before rest) b h m;
}
