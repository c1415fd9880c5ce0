-- An event that is told to the numbers that a block lists reaches each local that it changes.
use Rattle.std.proofs.Common.{◌≡◌, ◌≤◌, ◌-◌, ℕ, List, [], ◌∷◌, refl, ap, sym, ◌∙◌, inl, inr, arith}
use Rattle.std.specs.Prelude.{◌⊎◌, Bool, true, false, if◌then◌else◌, ◌==◌, Option, Some, None}
use Rattle.std.proofs.lemmas.Bool.{eqb-true, eq-eqb}
use Rattle.c_form_settings.specs.declared.pass.Frame.{Frame}
use Rattle.c_form_settings.specs.declared.state.Event.{Event}
use Rattle.c_form_settings.specs.declared.state.Event.TheVariants.{Choice, Loop, Break, Close}
use Rattle.c_form_settings.specs.declared.state.Local.{Local}
use Rattle.c_form_settings.specs.declared.state.State.{State}
use Rattle.c_form_settings.specs.declared.state.State.TheVariants.{AwaitsChoice, AwaitsLoop, BeforeBreak}
use Rattle.c_form_settings.specs.Passes.{Among, CoversLocal, Covers, next_at, told, waiting, waits}
use Rattle.c_form_settings.specs.States.{size, here, becomes, next, at_end}
use Rattle.c_form_settings.proofs.Changes.{choice-changes, loop-changes, break-changes, end-changes, end-once, waits-somewhere}

either-way : {T : Type 0} (b : Bool) (x y : T) → x ≡ y → (if b then x else y) ≡ y
either-way true x y e = e
either-way false x y e = refl

-- a local that an event doesn't change
pub stays-same : (event : Event) (depth : ℕ) (l : Local) → becomes event l.state ≡ l.state → next event depth l ≡ l
stays-same event depth l e =
    ap (λ s. let k : Local = record { base = l.base; state = s } in k)
    (either-way (here (depth - l.base) l.state) (becomes event l.state) l.state e)

pub stays-there : (event : Event) (depth : ℕ) (l : Local) → here (depth - l.base) l.state ≡ false → next event depth l ≡ l
stays-there event depth l e =
    ap (λ b. let k : Local = record { base = l.base; state = if b then becomes event l.state else l.state } in k) e

pub told-none : (event : Event) (depth i : ℕ) (numbers : List ℕ) → told event depth i numbers None ≡ None
told-none event depth i [] = refl
told-none event depth i (n ∷ numbers) =
    ap (told event depth i numbers) (either-way (n == i) None None refl) ∙ told-none event depth i numbers

told-same : (event : Event) (depth i : ℕ) (numbers : List ℕ) (l : Local) → next event depth l ≡ l → told event depth i numbers (Some l) ≡ Some l
told-same event depth i [] l e = refl
told-same event depth i (n ∷ numbers) l e =
    ap (told event depth i numbers) (either-way (n == i) (Some (next event depth l)) (Some l) (ap (λ k. Some k) e)) ∙ told-same event depth i numbers l e

told-among : (event : Event) (depth i : ℕ) (numbers : List ℕ) (l : Local) → next event depth (next event depth l) ≡ next event depth l
    → Among i numbers → told event depth i numbers (Some l) ≡ Some (next event depth l)
told-among event depth i [] l once a = absurd a
told-among event depth i (n ∷ numbers) l once (inl e) =
    let same : (n == i) ≡ true = eq-eqb n i e in
    ap (λ b. told event depth i numbers (if b then Some (next event depth l) else Some l)) same
    ∙ told-same event depth i numbers (next event depth l) once
told-among event depth i (n ∷ numbers) l once (inr a) = by_test (n == i) (told-among event depth i numbers l once a)
  where
    by_test : (b : Bool) → told event depth i numbers (Some l) ≡ Some (next event depth l)
        → told event depth i numbers (if b then Some (next event depth l) else Some l) ≡ Some (next event depth l)
    by_test true later = told-same event depth i numbers (next event depth l) once
    by_test false later = later

-- a change happens once
once-more : (event : Event) (depth : ℕ) (l : Local)
    → (becomes event (becomes event l.state) ≡ becomes event l.state) ⊎ (here (size l.state) (becomes event l.state) ≡ false)
    → next event depth (next event depth l) ≡ next event depth l
once-more event depth l once = by_test (here (depth - l.base) l.state) refl
  where
    at_once : (opened : ℕ) → opened ≡ size l.state
        → (becomes event (becomes event l.state) ≡ becomes event l.state) ⊎ (here (size l.state) (becomes event l.state) ≡ false)
        → (if here opened (becomes event l.state) then becomes event (becomes event l.state) else becomes event l.state) ≡ becomes event l.state
    at_once opened e (inl same) = either-way (here opened (becomes event l.state)) (becomes event (becomes event l.state)) (becomes event l.state) same
    at_once opened e (inr away) =
        ap (λ b. if b then becomes event (becomes event l.state) else becomes event l.state) (ap (λ n. here n (becomes event l.state)) e ∙ away)

    by_test : (b : Bool) → here (depth - l.base) l.state ≡ b → next event depth (next event depth l) ≡ next event depth l
    by_test false e = ap (next event depth) (stays-there event depth l e)
    by_test true e =
        let now : next event depth l ≡ (let k : Local = record { base = l.base; state = becomes event l.state } in k) =
        ap (λ b. let k : Local = record { base = l.base; state = if b then becomes event l.state else l.state } in k) e in
        ap (next event depth) now
        ∙ ap (λ s. let k : Local = record { base = l.base; state = s } in k) (at_once (depth - l.base) (eqb-true (depth - l.base) (size l.state) e) once)
        ∙ sym now

-- told to all that it changes
told-all : (event : Event) (depth i : ℕ) (numbers : List ℕ) (l : Local)
    → (becomes event (becomes event l.state) ≡ becomes event l.state) ⊎ (here (size l.state) (becomes event l.state) ≡ false)
    → (depth - l.base ≡ size l.state → (becomes event l.state ≡ l.state) ⊎ Among i numbers)
    → told event depth i numbers (Some l) ≡ Some (next event depth l)
told-all event depth i numbers l once reached = by_test (here (depth - l.base) l.state) refl
  where
    same : next event depth l ≡ l → told event depth i numbers (Some l) ≡ Some (next event depth l)
    same e = told-same event depth i numbers l e ∙ ap (λ k. Some k) (sym e)

    by_reach : (becomes event l.state ≡ l.state) ⊎ Among i numbers → told event depth i numbers (Some l) ≡ Some (next event depth l)
    by_reach (inl e) = same (stays-same event depth l e)
    by_reach (inr a) = told-among event depth i numbers l (once-more event depth l once) a

    by_test : (b : Bool) → here (depth - l.base) l.state ≡ b → told event depth i numbers (Some l) ≡ Some (next event depth l)
    by_test false e = same (stays-there event depth l e)
    by_test true e = by_reach (reached (eqb-true (depth - l.base) (size l.state) e))

-- the locals that wait for an event in the innermost block
told-awaited : (event : Event) (i : ℕ) (depth : ℕ) (frame : Frame) (l : Local) → CoversLocal i depth frame l
    → (becomes event l.state ≡ l.state) ⊎ ((waits l.state ≡ Some event) × (becomes event (becomes event l.state) ≡ becomes event l.state))
    → told event depth i (waiting event frame) (Some l) ≡ Some (next event depth l)
told-awaited event i depth frame l covers (inl e) =
    told-all event depth i (waiting event frame) l (inl (ap (becomes event) e)) (λ _. inl e)
told-awaited event i depth frame l covers (inr (w, once)) =
    told-all event depth i (waiting event frame) l (inl once)
    (λ e. inr (covers.waiters event w (let some : 1 ≤ size l.state = waits-somewhere l.state event w in omega (arith, e, some))))

pub choice-told : (i depth : ℕ) (frame : Frame) (entry : Option Local) → Covers i depth frame entry
    → told Choice depth i frame.joins.items entry ≡ next_at Choice depth entry
choice-told i depth frame None covers = told-none Choice depth i frame.joins.items
choice-told i depth frame (Some l) covers = told-awaited Choice i depth frame l covers (by_change l.state (choice-changes l.state))
  where
    by_change : (s : State) → (becomes Choice s ≡ s) ⊎ (s ≡ AwaitsChoice)
        → (becomes Choice s ≡ s) ⊎ ((waits s ≡ Some Choice) × (becomes Choice (becomes Choice s) ≡ becomes Choice s))
    by_change s (inl e) = inl e
    by_change s (inr e) = rw e (inr (refl, refl))

pub loop-told : (i depth : ℕ) (frame : Frame) (entry : Option Local) → Covers i depth frame entry
    → told Loop depth i frame.heads.items entry ≡ next_at Loop depth entry
loop-told i depth frame None covers = told-none Loop depth i frame.heads.items
loop-told i depth frame (Some l) covers = told-awaited Loop i depth frame l covers (by_change l.state (loop-changes l.state))
  where
    by_change : (s : State) → (becomes Loop s ≡ s) ⊎ (s ≡ AwaitsLoop)
        → (becomes Loop s ≡ s) ⊎ ((waits s ≡ Some Loop) × (becomes Loop (becomes Loop s) ≡ becomes Loop s))
    by_change s (inl e) = inl e
    by_change s (inr e) = rw e (inr (refl, refl))

pub break-told : (i depth : ℕ) (frame : Frame) (entry : Option Local) → Covers i depth frame entry
    → told Break depth i frame.turns.items entry ≡ next_at Break depth entry
break-told i depth frame None covers = told-none Break depth i frame.turns.items
break-told i depth frame (Some l) covers = told-awaited Break i depth frame l covers (by_change l.state (break-changes l.state))
  where
    by_change : (s : State) → (becomes Break s ≡ s) ⊎ (s ≡ BeforeBreak)
        → (becomes Break s ≡ s) ⊎ ((waits s ≡ Some Break) × (becomes Break (becomes Break s) ≡ becomes Break s))
    by_change s (inl e) = inl e
    by_change s (inr e) = rw e (inr (refl, refl))

-- the locals that the end of a block changes
pub end-told : (i depth : ℕ) (frame : Frame) (entry : Option Local) → Covers i depth frame entry
    → told Close depth i frame.ending.items entry ≡ next_at Close depth entry
end-told i depth frame None covers = told-none Close depth i frame.ending.items
end-told i depth frame (Some l) covers =
    told-all Close depth i frame.ending.items l (end-once l.state) (λ e. by_change e (end-changes l.state))
  where
    by_change : depth - l.base ≡ size l.state → (at_end l.state ≡ l.state) ⊎ (1 ≤ size l.state)
        → (at_end l.state ≡ l.state) ⊎ Among i frame.ending.items
    by_change e (inl same) = inl same
    by_change e (inr some) = inr (covers.ending (omega (arith, e, some)) (omega (arith, e, some)))
