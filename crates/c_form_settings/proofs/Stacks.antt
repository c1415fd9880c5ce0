-- What an event in the innermost of the open blocks does to what is due of a local in them.
use Rattle.std.proofs.Common.{◌≡◌, ◌≤◌, ◌+◌, ◌-◌, ℕ, suc, List, [], ◌∷◌, ◌++◌, refl, ap, sym, ◌∙◌, arith}
use Rattle.std.specs.Prelude.{Bool, true, false, if◌then◌else◌, ◌≢◌}
use Rattle.std.proofs.lemmas.Bool.{eqb-true, eqb-false}
use Rattle.std.proofs.lemmas.List.{append-nil}
use Rattle.c_tree.specs.declared.body.CAtom.{CAtom}
use Rattle.c_raw.specs.Blocks.{at_view}
use Rattle.c_raw.specs.declared.token.At.{At}
use Rattle.c_raw.specs.declared.body.RawStatement.{RawStatement}
use Rattle.c_raw.specs.declared.body.RawStatement.TheVariants.{Leave, If, For, End}
use Rattle.c_form_settings.specs.declared.duty.Duty.{Duty}
use Rattle.c_form_settings.specs.declared.duty.Duty.TheVariants.{Unset, Untouched}
use Rattle.c_form_settings.specs.declared.state.Event.{Event}
use Rattle.c_form_settings.specs.declared.state.Event.TheVariants.{Choice, Loop, Break, Close, Set}
use Rattle.c_form_settings.specs.declared.state.State.{State}
use Rattle.c_form_settings.specs.declared.state.State.TheVariants.{Settled, AwaitsChoice, FirstArm, FirstArmSet, SecondArm, SecondArmSet, AwaitsLoop, BeforeBreak, BehindBreak, Gone}
use Rattle.c_form_settings.specs.Duties.{reads_under, end_under}
use Rattle.c_form_settings.specs.States.{core, size, inmost, further, inside, duties, here, due_here, becomes, open_after}
use Rattle.c_form_settings.specs.Walks.{due_flat}

-- what is due in the blocks further inside
abbrev calm : Bool → Duty
calm early = if early then Untouched else Unset

-- where only the blocks with duties of their own are open
whole : (state : State) → duties (size state) state ≡ core state
whole Settled = refl
whole AwaitsChoice = refl
whole FirstArm = refl
whole FirstArmSet = refl
whole SecondArm = refl
whole SecondArmSet = refl
whole AwaitsLoop = refl
whole BeforeBreak = refl
whole BehindBreak = refl
whole Gone = refl

after-more : (event : Event) (m k : ℕ) → open_after event (suc (m + k)) - k ≡ open_after event (suc m)
after-more Choice m k = omega arith
after-more Loop m k = omega arith
after-more Break m k = omega arith
after-more Close m k = omega arith
after-more Set m k = omega arith

-- A statement with an event, where it blames this by what is due in the innermost block.
module _ (event : Event) (s : RawStatement) (i : ℕ) (rest : List RawStatement) (tokens : Duty → List ℕ)
    (far : (early : Bool) (n : ℕ) (outer : List Duty)
    → due_flat i (inside (suc n) (calm early) outer) (s ∷ rest) ≡ tokens (calm early) ++ due_flat i (inside (open_after event (suc n)) (calm early) outer) rest)
    (near : (state : State)
    → due_flat i (core state) (s ∷ rest) ≡ tokens (inmost state) ++ due_flat i (duties (open_after event (size state)) (becomes event state)) rest)
    (none : tokens Unset ≡ []) where
  at-core : (opened : ℕ) (state : State) → opened ≡ size state
      → due_flat i (duties opened state) (s ∷ rest) ≡ tokens (inmost state) ++ due_flat i (duties (open_after event opened) (becomes event state)) rest
  at-core opened state e =
      ap (λ n. due_flat i (duties n state) (s ∷ rest)) e ∙ ap (λ dues. due_flat i dues (s ∷ rest)) (whole state) ∙ near state
      ∙ ap (λ n. tokens (inmost state) ++ due_flat i (duties (open_after event n) (becomes event state)) rest) (sym e)

  inside-step : (early : Bool) (k m opened : ℕ) (outer : List Duty) → opened ≡ suc (m + k)
      → due_flat i (inside (opened - k) (calm early) outer) (s ∷ rest) ≡ tokens (calm early) ++ due_flat i (inside (open_after event opened - k) (calm early) outer) rest
  inside-step early k m opened outer e =
      let left : opened - k ≡ suc m = omega (arith, e) in
      let right : open_after event opened - k ≡ open_after event (suc m) = ap (λ n. open_after event n - k) e ∙ after-more event m k in
      ap (λ n. due_flat i (inside n (calm early) outer) (s ∷ rest)) left ∙ far early m outer
      ∙ ap (λ n. tokens (calm early) ++ due_flat i (inside n (calm early) outer) rest) (sym right)

  further-in : (m opened : ℕ) (state : State) → opened ≡ suc (m + size state)
      → due_flat i (duties opened state) (s ∷ rest) ≡ tokens (further state) ++ due_flat i (duties (open_after event opened) state) rest
  further-in m opened Settled e = inside-step false 1 m opened (core Settled) e
  further-in m opened AwaitsChoice e = inside-step true 1 m opened (core AwaitsChoice) e
  further-in m opened FirstArm e = inside-step true 3 m opened (core FirstArm) e
  further-in m opened FirstArmSet e = inside-step true 3 m opened (core FirstArmSet) e
  further-in m opened SecondArm e = inside-step true 2 m opened (core SecondArm) e
  further-in m opened SecondArmSet e = inside-step true 2 m opened (core SecondArmSet) e
  further-in m opened AwaitsLoop e = inside-step false 1 m opened (core AwaitsLoop) e
  further-in m opened BeforeBreak e = inside-step false 2 m opened (core BeforeBreak) e
  further-in m opened BehindBreak e = inside-step false 2 m opened (core BehindBreak) e
  further-in m opened Gone e = sym (append-nil (tokens Unset) ∙ none)

  event-step : (opened : ℕ) (state : State) → size state ≤ opened
      → due_flat i (duties opened state) (s ∷ rest)
      ≡ tokens (due_here opened state) ++ due_flat i (duties (open_after event opened) (if here opened state then becomes event state else state)) rest
  event-step opened state fits = by_test (here opened state) refl
    where
      by_test : (b : Bool) → here opened state ≡ b → due_flat i (duties opened state) (s ∷ rest)
          ≡ tokens (if b then inmost state else further state) ++ due_flat i (duties (open_after event opened) (if b then becomes event state else state)) rest
      by_test true e = at-core opened state (eqb-true opened (size state) e)
      by_test false e =
          let other : opened ≢ size state = eqb-false opened (size state) e in
          let more : opened ≡ suc ((opened - size state - 1) + size state) = omega (arith, fits, other) in
          further-in (opened - size state - 1) opened state more

-- The statements with events.
choice-far : (i : ℕ) (rest : List RawStatement) (test : At CAtom) (early : Bool) (n : ℕ) (outer : List Duty)
    → due_flat i (inside (suc n) (calm early) outer) (If test ∷ rest) ≡ reads_under i (calm early) (at_view test ∷ []) ++ due_flat i (inside (open_after Choice (suc n)) (calm early) outer) rest
choice-far i rest test true n outer = refl
choice-far i rest test false n outer = refl

choice-near : (i : ℕ) (rest : List RawStatement) (test : At CAtom) (state : State)
    → due_flat i (core state) (If test ∷ rest) ≡ reads_under i (inmost state) (at_view test ∷ []) ++ due_flat i (duties (open_after Choice (size state)) (becomes Choice state)) rest
choice-near i rest test Settled = refl
choice-near i rest test AwaitsChoice = refl
choice-near i rest test FirstArm = refl
choice-near i rest test FirstArmSet = refl
choice-near i rest test SecondArm = refl
choice-near i rest test SecondArmSet = refl
choice-near i rest test AwaitsLoop = refl
choice-near i rest test BeforeBreak = refl
choice-near i rest test BehindBreak = refl
choice-near i rest test Gone = refl

pub choice-step : (i : ℕ) (rest : List RawStatement) (test : At CAtom) (opened : ℕ) (state : State) → size state ≤ opened
    → due_flat i (duties opened state) (If test ∷ rest) ≡ reads_under i (due_here opened state) (at_view test ∷ []) ++ due_flat i (duties (open_after Choice opened) (if here opened state then becomes Choice state else state)) rest
choice-step i rest test opened state fits = event-step Choice (If test) i rest (λ due. reads_under i due (at_view test ∷ [])) (choice-far i rest test) (choice-near i rest test) refl opened state fits

break-far : (i : ℕ) (rest : List RawStatement) (at : ℕ) (test : At CAtom) (early : Bool) (n : ℕ) (outer : List Duty)
    → due_flat i (inside (suc n) (calm early) outer) (Leave at test ∷ rest) ≡ reads_under i (calm early) (at_view test ∷ []) ++ due_flat i (inside (open_after Break (suc n)) (calm early) outer) rest
break-far i rest at test true n outer = refl
break-far i rest at test false n outer = refl

break-near : (i : ℕ) (rest : List RawStatement) (at : ℕ) (test : At CAtom) (state : State)
    → due_flat i (core state) (Leave at test ∷ rest) ≡ reads_under i (inmost state) (at_view test ∷ []) ++ due_flat i (duties (open_after Break (size state)) (becomes Break state)) rest
break-near i rest at test Settled = refl
break-near i rest at test AwaitsChoice = refl
break-near i rest at test FirstArm = refl
break-near i rest at test FirstArmSet = refl
break-near i rest at test SecondArm = refl
break-near i rest at test SecondArmSet = refl
break-near i rest at test AwaitsLoop = refl
break-near i rest at test BeforeBreak = refl
break-near i rest at test BehindBreak = refl
break-near i rest at test Gone = refl

pub break-step : (i : ℕ) (rest : List RawStatement) (at : ℕ) (test : At CAtom) (opened : ℕ) (state : State) → size state ≤ opened
    → due_flat i (duties opened state) (Leave at test ∷ rest) ≡ reads_under i (due_here opened state) (at_view test ∷ []) ++ due_flat i (duties (open_after Break opened) (if here opened state then becomes Break state else state)) rest
break-step i rest at test opened state fits = event-step Break (Leave at test) i rest (λ due. reads_under i due (at_view test ∷ [])) (break-far i rest at test) (break-near i rest at test) refl opened state fits

loop-far : (i : ℕ) (rest : List RawStatement) (early : Bool) (n : ℕ) (outer : List Duty)
    → due_flat i (inside (suc n) (calm early) outer) (For ∷ rest) ≡ [] ++ due_flat i (inside (open_after Loop (suc n)) (calm early) outer) rest
loop-far i rest true n outer = refl
loop-far i rest false n outer = refl

loop-near : (i : ℕ) (rest : List RawStatement) (state : State)
    → due_flat i (core state) (For ∷ rest) ≡ [] ++ due_flat i (duties (open_after Loop (size state)) (becomes Loop state)) rest
loop-near i rest Settled = refl
loop-near i rest AwaitsChoice = refl
loop-near i rest FirstArm = refl
loop-near i rest FirstArmSet = refl
loop-near i rest SecondArm = refl
loop-near i rest SecondArmSet = refl
loop-near i rest AwaitsLoop = refl
loop-near i rest BeforeBreak = refl
loop-near i rest BehindBreak = refl
loop-near i rest Gone = refl

pub loop-step : (i : ℕ) (rest : List RawStatement) (opened : ℕ) (state : State) → size state ≤ opened
    → due_flat i (duties opened state) (For ∷ rest) ≡ [] ++ due_flat i (duties (open_after Loop opened) (if here opened state then becomes Loop state else state)) rest
loop-step i rest opened state fits = event-step Loop (For) i rest (λ due. []) (loop-far i rest) (loop-near i rest) refl opened state fits

end-far : (i : ℕ) (rest : List RawStatement) (at : ℕ) (early : Bool) (n : ℕ) (outer : List Duty)
    → due_flat i (inside (suc n) (calm early) outer) (End at ∷ rest) ≡ end_under (calm early) at ++ due_flat i (inside (open_after Close (suc n)) (calm early) outer) rest
end-far i rest at true n outer = refl
end-far i rest at false n outer = refl

end-near : (i : ℕ) (rest : List RawStatement) (at : ℕ) (state : State)
    → due_flat i (core state) (End at ∷ rest) ≡ end_under (inmost state) at ++ due_flat i (duties (open_after Close (size state)) (becomes Close state)) rest
end-near i rest at Settled = refl
end-near i rest at AwaitsChoice = refl
end-near i rest at FirstArm = refl
end-near i rest at FirstArmSet = refl
end-near i rest at SecondArm = refl
end-near i rest at SecondArmSet = refl
end-near i rest at AwaitsLoop = refl
end-near i rest at BeforeBreak = refl
end-near i rest at BehindBreak = refl
end-near i rest at Gone = refl

pub end-step : (i : ℕ) (rest : List RawStatement) (at : ℕ) (opened : ℕ) (state : State) → size state ≤ opened
    → due_flat i (duties opened state) (End at ∷ rest) ≡ end_under (due_here opened state) at ++ due_flat i (duties (open_after Close opened) (if here opened state then becomes Close state else state)) rest
end-step i rest at opened state fits = event-step Close (End at) i rest (λ due. end_under due at) (end-far i rest at) (end-near i rest at) refl opened state fits
