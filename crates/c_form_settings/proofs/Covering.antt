-- The open blocks list the locals that depend on them, behind each event too.
use Rattle.std.proofs.Common.{◌≡◌, ◌<◌, ◌≤◌, ◌+◌, ◌-◌, ℕ, zero, suc, List, [], ◌∷◌, length, refl, ap, sym, ◌∙◌, inl, inr, arith, subst}
use Rattle.std.specs.Prelude.{◌⊎◌, Bool, true, false, if◌then◌else◌, ◌≢◌, Option, Some, None}
use Rattle.std.proofs.lemmas.Bool.{eqb-true, eqb-false}
use Rattle.c_form_settings.specs.declared.pass.Frame.{Frame}
use Rattle.c_form_settings.specs.declared.state.Event.{Event}
use Rattle.c_form_settings.specs.declared.state.Event.TheVariants.{Choice, Loop, Break, Close, Set}
use Rattle.c_form_settings.specs.declared.state.Local.{Local}
use Rattle.c_form_settings.specs.declared.state.State.{State}
use Rattle.c_form_settings.specs.declared.state.State.TheVariants.{AwaitsChoice, AwaitsLoop}
use Rattle.c_form_settings.specs.Passes.{Among, CoversLocal, Covers, CoversAll, Fits, next_at, waiting, waits}
use Rattle.c_form_settings.specs.States.{size, here, becomes, next, at_end, at_choice, at_loop, open_after}
use Rattle.c_form_settings.proofs.Changes.{Kind, stays, waits_no_more, deeper, kind, choice-changes, loop-changes, end-size, waits-somewhere}

abbrev at_state : Local → State → Local
at_state l s = record { base = l.base; state = s }

-- a block that was open before lists a local as it did before
kept-changed : (event : Event) (i depth m : ℕ) (frame : Frame) (l : Local) → depth - l.base ≡ size l.state → m ≤ depth
    → Kind event l.state → CoversLocal i m frame l → CoversLocal i m frame (at_state l (becomes event l.state))
kept-changed event i depth m frame l at within (stays e) c =
    subst (λ s. CoversLocal i m frame (at_state l s)) (sym e) c
kept-changed event i depth m frame l at within (waits_no_more some less none) c = record {
  ending = λ inner reach. c.ending inner (omega (arith, at, within, inner, some));
  waiters = λ other w e. let no : None ≡ Some other = sym none ∙ w in cc no;
}
kept-changed event i depth m frame l at within (deeper some less more) c = record {
  ending = λ inner reach. c.ending inner (omega (arith, at, within, inner, some));
  waiters = λ other w e. let no : ⊥ = omega (arith, at, within, some, more, e) in absurd no;
}

pub kept-local : (event : Event) (i depth m : ℕ) (frame : Frame) (l : Local) → m ≤ depth → CoversLocal i m frame l
    → CoversLocal i m frame (next event depth l)
kept-local event i depth m frame l within c = by_test (here (depth - l.base) l.state) refl
  where
    by_test : (b : Bool) → here (depth - l.base) l.state ≡ b → CoversLocal i m frame (at_state l (if b then becomes event l.state else l.state))
    by_test false e = c
    by_test true e = kept-changed event i depth m frame l (eqb-true (depth - l.base) (size l.state) e) within (kind event l.state) c

pub kept : (event : Event) (i depth m : ℕ) (frame : Frame) (entry : Option Local) → m ≤ depth → Covers i m frame entry
    → Covers i m frame (next_at event depth entry)
kept event i depth m frame None within c = tt
kept event i depth m frame (Some l) within c = kept-local event i depth m frame l within c

pub kept-all : (event : Event) (i depth : ℕ) (frames : List Frame) (entry : Option Local) → length frames ≤ depth → CoversAll i frames entry
    → CoversAll i frames (next_at event depth entry)
kept-all event i depth [] entry within c = tt
kept-all event i depth (frame ∷ outer) entry within c = (
  kept event i depth (suc (length outer)) frame entry within c.0,
  kept-all event i depth outer entry (omega (arith, within)) c.1,
)

-- a block that lists more
pub widened : (i m : ℕ) (old new : Frame) (entry : Option Local) → (Among i old.ending.items → Among i new.ending.items)
    → ((event : Event) → Among i (waiting event old) → Among i (waiting event new)) → Covers i m old entry → Covers i m new entry
widened i m old new None ending waiters c = tt
widened i m old new (Some l) ending waiters c = record {
  ending = λ inner reach. ending (c.ending inner reach);
  waiters = λ event w e. waiters event (c.waiters event w e);
}

-- behind an event no local waits for it in the innermost block
pub quiet-local : (event : Event) (depth : ℕ) (l : Local) → ((s : State) → waits (becomes event s) ≡ Some event → ⊥)
    → waits (next event depth l).state ≡ Some event → (next event depth l).base + size (next event depth l).state ≡ depth → ⊥
quiet-local event depth l over w e = by_test (here (depth - l.base) l.state) refl w e
  where
    by_test : (b : Bool) → here (depth - l.base) l.state ≡ b → waits (if b then becomes event l.state else l.state) ≡ Some event
        → l.base + size (if b then becomes event l.state else l.state) ≡ depth → ⊥
    by_test true at v f = over l.state v
    by_test false at v f =
        let apart : depth - l.base ≢ size l.state = eqb-false (depth - l.base) (size l.state) at in
        omega (arith, f, apart)

-- the innermost block, where its list of those that wait for the event is emptied
pub emptied : (event : Event) (i depth : ℕ) (old new : Frame) (entry : Option Local) → ((s : State) → waits (becomes event s) ≡ Some event → ⊥)
    → new.ending.items ≡ old.ending.items → ((other : Event) → (other ≡ event) ⊎ (waiting other new ≡ waiting other old))
    → Covers i depth old entry → Covers i depth new (next_at event depth entry)
emptied event i depth old new None over same lists c = tt
emptied event i depth old new (Some l) over same lists c =
    let k : CoversLocal i depth old (next event depth l) = kept-local event i depth depth old l (omega arith) c in
    record {
      ending = λ inner reach. subst (Among i) (sym same) (k.ending inner reach);
      waiters = λ other w e. by_list k other w e (lists other);
    }
  where
    by_list : CoversLocal i depth old (next event depth l) → (other : Event) → waits (next event depth l).state ≡ Some other
        → (next event depth l).base + size (next event depth l).state ≡ depth
        → (other ≡ event) ⊎ (waiting other new ≡ waiting other old) → Among i (waiting other new)
    by_list k other w e (inl f) = absurd (quiet-local event depth l over (w ∙ ap (λ t. Some t) f) e)
    by_list k other w e (inr f) = subst (Among i) (sym f) (k.waiters other w e)

-- a local that is in none of the new blocks
beyond : (i depth m : ℕ) (frame : Frame) (l : Local) → size l.state ≤ depth - l.base → depth < m → CoversLocal i m frame l
beyond i depth m frame l fits more = record {
  ending = λ inner reach. let no : ⊥ = omega (arith, fits, more, inner, reach) in absurd no;
  waiters = λ event w e. let some : 1 ≤ size l.state = waits-somewhere l.state event w in let no : ⊥ = omega (arith, fits, more, some, e) in absurd no;
}

-- an arm of an `if`
pub arm-covers : (i depth m : ℕ) (old fresh : Frame) (entry : Option Local) → Fits depth entry → Covers i depth old entry
    → depth < m → fresh.ending.items ≡ old.joins.items → Covers i m fresh (next_at Choice depth entry)
arm-covers i depth m old fresh None fits c more same = tt
arm-covers i depth m old fresh (Some l) fits c more same = by_test (here (depth - l.base) l.state) refl
  where
    by_change : (s : State) → s ≡ l.state → depth - l.base ≡ size l.state → (at_choice s ≡ s) ⊎ (s ≡ AwaitsChoice) → CoversLocal i m fresh (at_state l (at_choice s))
    by_change s f at (inl e) = beyond i depth m fresh (at_state l (at_choice s)) (rw (e, f) fits) more
    by_change s f at (inr e) =
        let w : waits l.state ≡ Some Choice = ap waits (sym f ∙ e) in
        let some : 1 ≤ size l.state = waits-somewhere l.state Choice w in
        let listed : Among i old.joins.items = c.waiters Choice w (omega (arith, at, some)) in
        rw e (record {
          ending = λ inner reach. subst (Among i) (sym same) listed;
          waiters = λ other v g. cc v;
        })

    by_test : (b : Bool) → here (depth - l.base) l.state ≡ b → CoversLocal i m fresh (at_state l (if b then at_choice l.state else l.state))
    by_test false e = beyond i depth m fresh l fits more
    by_test true e = by_change l.state refl (eqb-true (depth - l.base) (size l.state) e) (choice-changes l.state)

-- the block of a `for`
pub loop-covers : (i depth m : ℕ) (old fresh : Frame) (entry : Option Local) → Fits depth entry → Covers i depth old entry
    → depth < m → fresh.ending.items ≡ old.heads.items → fresh.turns.items ≡ old.heads.items → Covers i m fresh (next_at Loop depth entry)
loop-covers i depth m old fresh None fits c more same turns = tt
loop-covers i depth m old fresh (Some l) fits c more same turns = by_test (here (depth - l.base) l.state) refl
  where
    by_event : Among i old.heads.items → (event : Event) → Some Break ≡ Some event → Among i (waiting event fresh)
    by_event listed Choice v = cc v
    by_event listed Loop v = cc v
    by_event listed Break v = subst (Among i) (sym turns) listed
    by_event listed Close v = cc v
    by_event listed Set v = cc v

    by_change : (s : State) → s ≡ l.state → depth - l.base ≡ size l.state → (at_loop s ≡ s) ⊎ (s ≡ AwaitsLoop) → CoversLocal i m fresh (at_state l (at_loop s))
    by_change s f at (inl e) = beyond i depth m fresh (at_state l (at_loop s)) (rw (e, f) fits) more
    by_change s f at (inr e) =
        let w : waits l.state ≡ Some Loop = ap waits (sym f ∙ e) in
        let some : 1 ≤ size l.state = waits-somewhere l.state Loop w in
        let listed : Among i old.heads.items = c.waiters Loop w (omega (arith, at, some)) in
        rw e (record {
          ending = λ inner reach. subst (Among i) (sym same) listed;
          waiters = λ other v g. by_event listed other v;
        })

    by_test : (b : Bool) → here (depth - l.base) l.state ≡ b → CoversLocal i m fresh (at_state l (if b then at_loop l.state else l.state))
    by_test false e = beyond i depth m fresh l fits more
    by_test true e = by_change l.state refl (eqb-true (depth - l.base) (size l.state) e) (loop-changes l.state)

-- a local fits behind an event
fits-changed : (event : Event) (depth : ℕ) (l : Local) → depth - l.base ≡ size l.state → 1 ≤ size l.state
    → size (becomes event l.state) ≤ open_after event (size l.state) → size (becomes event l.state) ≤ open_after event depth - l.base
fits-changed Choice depth l at some less = omega (arith, at, some, less)
fits-changed Loop depth l at some less = omega (arith, at, some, less)
fits-changed Break depth l at some less = omega (arith, at, some, less)
fits-changed Close depth l at some less =
    let e : suc (depth - 1) ≡ depth = omega (arith, at, some) in
    let f : suc (size l.state - 1) ≡ size l.state = omega (arith, some) in
    let less_one : size (at_end l.state) ≤ size l.state - 1 = end-size l.state in
    subst (λ n. size (at_end l.state) ≤ open_after Close n - l.base) e (omega (arith, at, some, less_one))
fits-changed Set depth l at some less = omega (arith, at, some, less)

fits-same : (event : Event) (depth : ℕ) (l : Local) → size l.state ≤ depth - l.base → (event ≡ Close → size l.state < depth - l.base)
    → size l.state ≤ open_after event depth - l.base
fits-same Choice depth l fits strictly = omega (arith, fits)
fits-same Loop depth l fits strictly = omega (arith, fits)
fits-same Break depth l fits strictly = fits
fits-same Close zero l fits strictly = let no : size l.state < zero - l.base = strictly refl in omega (arith, no)
fits-same Close (suc depth) l fits strictly = let more : size l.state < suc depth - l.base = strictly refl in omega (arith, more)
fits-same Set depth l fits strictly = fits

pub fits-next : (event : Event) (depth : ℕ) (entry : Option Local) → Fits depth entry → Fits (open_after event depth) (next_at event depth entry)
fits-next event depth None fits = tt
fits-next event depth (Some l) fits = by_test (here (depth - l.base) l.state) refl
  where
    by_close : depth - l.base ≡ size l.state → at_end l.state ≡ l.state → (at_end l.state ≡ l.state) ⊎ (1 ≤ size l.state) → size l.state ≤ 0
    by_close at e none = let less : size (at_end l.state) ≤ size l.state - 1 = end-size l.state in
        let same : size (at_end l.state) ≡ size l.state = ap size e in omega (arith, less, same)

    by_kind : (other : Event) → depth - l.base ≡ size l.state → Kind other l.state → size (becomes other l.state) ≤ open_after other depth - l.base
    by_kind Close at (stays e) =
        let none : size l.state ≤ 0 = by_close at e (inl e) in
        let same : size (at_end l.state) ≡ size l.state = ap size e in omega (arith, none, same)
    by_kind Choice at (stays e) = let same : size (becomes Choice l.state) ≡ size l.state = ap size e in omega (arith, same, fits)
    by_kind Loop at (stays e) = let same : size (becomes Loop l.state) ≡ size l.state = ap size e in omega (arith, same, fits)
    by_kind Break at (stays e) = let same : size (becomes Break l.state) ≡ size l.state = ap size e in omega (arith, same, fits)
    by_kind Set at (stays e) = let same : size (becomes Set l.state) ≡ size l.state = ap size e in omega (arith, same, fits)
    by_kind other at (waits_no_more some less none) = fits-changed other depth l at some less
    by_kind other at (deeper some less more) = fits-changed other depth l at some less

    by_test : (b : Bool) → here (depth - l.base) l.state ≡ b → size (if b then becomes event l.state else l.state) ≤ open_after event depth - l.base
    by_test false e =
        let apart : depth - l.base ≢ size l.state = eqb-false (depth - l.base) (size l.state) e in
        fits-same event depth l fits (λ _. omega (arith, fits, apart))
    by_test true e = by_kind event (eqb-true (depth - l.base) (size l.state) e) (kind event l.state)

-- a number that is declared in the innermost block
pub declared-outer : (i : ℕ) (frames : List Frame) (l : Local) → size l.state ≡ 1 → length frames ≤ l.base → CoversAll i frames (Some l)
declared-outer i [] l one below = tt
declared-outer i (frame ∷ outer) l one below = (
  record {
    ending = λ inner reach. let no : ⊥ = omega (arith, inner, below) in absurd no;
    waiters = λ event w e. let no : ⊥ = omega (arith, e, one, below) in absurd no;
  },
  declared-outer i outer l one (omega (arith, below)),
)
