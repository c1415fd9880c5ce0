-- What a declaration adds to what is still to be blamed.
use Rattle.std.proofs.Common.{◌≡◌, ◌<◌, ◌+◌, ◌-◌, ℕ, suc, List, [], ◌∷◌, ◌++◌, length, get_or, drop, refl, ap, sym, ◌∙◌, inl, inr, arith, subst}
use Rattle.std.specs.Prelude.{Bool, true, false, if◌then◌else◌, ◌==◌, ◌||◌, nat_eq, Option, Some, None}
use Rattle.std.specs.Option.{is_some}
use Rattle.std.proofs.lemmas.Bool.{eqb-true, eq-eqb}
use Rattle.indexmap.specs.IndexMap.{get}
use Rattle.c_tree.specs.Form.{least_of}
use Rattle.c_raw.specs.declared.body.RawSimple.{RawSimple}
use Rattle.c_raw.specs.declared.body.RawStatement.{RawStatement}
use Rattle.c_raw.specs.declared.body.RawStatement.TheVariants.{Simple}
use Rattle.c_form.specs.Blames.{Blames, lesser}
use Rattle.c_form.specs.OpenBlocks.{innermost_first}
use Rattle.c_raw.proofs.Elements.{next-is}
use Rattle.c_form_settings.specs.declared.duty.Duty.{Duty}
use Rattle.c_form_settings.specs.declared.pass.Frame.{Frame}
use Rattle.c_form_settings.specs.declared.pass.Pass.{Pass}
use Rattle.c_form_settings.specs.declared.start.Start.{Start}
use Rattle.c_form_settings.specs.declared.state.Event.{Event}
use Rattle.c_form_settings.specs.declared.state.Event.TheVariants.{Choice, Loop, Break, Close, Set}
use Rattle.c_form_settings.specs.declared.state.Local.{Local}
use Rattle.c_form_settings.specs.declared.state.State.{State}
use Rattle.c_form_settings.specs.declared.state.State.TheVariants.{Settled, AwaitsChoice, FirstArm, FirstArmSet, SecondArm, SecondArmSet, AwaitsLoop, BeforeBreak, BehindBreak, Gone}
use Rattle.c_form_settings.specs.Passes.{Above, Adds, AllAbove, Among, Bounds, Declares, Holds, IsPass, Keeps, Knows, Steps, Uses, depth_of, headed, joined, new_local, stack_at, waiting, waits}
use Rattle.c_form_settings.specs.States.{size, duties, inmost}
use Rattle.c_form_settings.specs.Walks.{due_flat, start_of, is_among, first_flat, with_start, declared_behind, settings_flat}
use Rattle.c_form_settings.proofs.Bounding.{blamed-above, both-above, first-above, old-above, same-bounds, second-above, tokens-above}
use Rattle.c_form_settings.proofs.Covering.{declared-outer, widened}
use Rattle.c_form_settings.proofs.Keeping.{keeps-then}
use Rattle.c_form_settings.proofs.Moving.{length-innermost}

-- a list with one more number
among-first : (i : ℕ) (xs ys : List ℕ) → Among i xs → Among i (xs ++ ys)
among-first i [] ys a = absurd a
among-first i (x ∷ xs) ys (inl e) = inl e
among-first i (x ∷ xs) ys (inr a) = inr (among-first i xs ys a)

among-last : (i : ℕ) (xs : List ℕ) → Among i (xs ++ i ∷ [])
among-last i [] = inl refl
among-last i (x ∷ xs) = inr (among-last i xs)

joined-more : (i number : ℕ) (state : State) (xs : List ℕ) → Among i xs → Among i (joined state number xs)
joined-more i number Settled xs a = a
joined-more i number AwaitsChoice xs a = among-first i xs (number ∷ []) a
joined-more i number FirstArm xs a = a
joined-more i number FirstArmSet xs a = a
joined-more i number SecondArm xs a = a
joined-more i number SecondArmSet xs a = a
joined-more i number AwaitsLoop xs a = a
joined-more i number BeforeBreak xs a = a
joined-more i number BehindBreak xs a = a
joined-more i number Gone xs a = a

headed-more : (i number : ℕ) (state : State) (xs : List ℕ) → Among i xs → Among i (headed state number xs)
headed-more i number Settled xs a = a
headed-more i number AwaitsChoice xs a = a
headed-more i number FirstArm xs a = a
headed-more i number FirstArmSet xs a = a
headed-more i number SecondArm xs a = a
headed-more i number SecondArmSet xs a = a
headed-more i number AwaitsLoop xs a = among-first i xs (number ∷ []) a
headed-more i number BeforeBreak xs a = a
headed-more i number BehindBreak xs a = a
headed-more i number Gone xs a = a

-- what a block lists behind a declaration
record Lists (number : ℕ) (state : State) (old new : Frame) : Type 0 where
  ending : new.ending.items ≡ old.ending.items ++ number ∷ []
  joins : new.joins.items ≡ joined state number old.joins.items
  heads : new.heads.items ≡ headed state number old.heads.items
  turns : new.turns.items ≡ old.turns.items

more-waiting : (i number : ℕ) (state : State) (old new : Frame) → Lists number state old new → (event : Event)
    → Among i (waiting event old) → Among i (waiting event new)
more-waiting i number state old new k Choice a = subst (Among i) (sym k.joins) (joined-more i number state old.joins.items a)
more-waiting i number state old new k Loop a = subst (Among i) (sym k.heads) (headed-more i number state old.heads.items a)
more-waiting i number state old new k Break a = subst (Among i) (sym k.turns) a
more-waiting i number state old new k Close a = a
more-waiting i number state old new k Set a = a

waits-there : (number : ℕ) (state : State) (old new : Frame) → Lists number state old new → size state ≡ 1 → (event : Event)
    → waits state ≡ Some event → Among number (waiting event new)
waits-there number AwaitsChoice old new k one Choice w = subst (Among number) (sym k.joins) (among-last number old.joins.items)
waits-there number AwaitsChoice old new k one Loop w = cc w
waits-there number AwaitsChoice old new k one Break w = cc w
waits-there number AwaitsChoice old new k one Close w = cc w
waits-there number AwaitsChoice old new k one Set w = cc w
waits-there number AwaitsLoop old new k one Choice w = cc w
waits-there number AwaitsLoop old new k one Loop w = subst (Among number) (sym k.heads) (among-last number old.heads.items)
waits-there number AwaitsLoop old new k one Break w = cc w
waits-there number AwaitsLoop old new k one Close w = cc w
waits-there number AwaitsLoop old new k one Set w = cc w
waits-there number BeforeBreak old new k one event w = let no : ⊥ = omega (arith, one) in absurd no
waits-there number Settled old new k one event w = cc w
waits-there number FirstArm old new k one event w = cc w
waits-there number FirstArmSet old new k one event w = cc w
waits-there number SecondArm old new k one event w = cc w
waits-there number SecondArmSet old new k one event w = cc w
waits-there number BehindBreak old new k one event w = cc w
waits-there number Gone old new k one event w = cc w

-- the open blocks list the new local and the others
new-holds : (number : ℕ) (l : Local) (old new : Frame) (outer : List Frame) → Lists number l.state old new → size l.state ≡ 1
    → l.base ≡ length outer → Holds number (new ∷ outer) (Some l)
new-holds number l old new outer k one base = record {
  fits = omega (arith, one, base);
  covers = (
    record {
      ending = λ inner reach. subst (Among number) (sym k.ending) (among-last number old.ending.items);
      waiters = λ event w e. waits-there number l.state old new k one event w;
    },
    declared-outer number outer l one (omega (arith, base)),
  );
}

other-holds : (i number : ℕ) (state : State) (old new : Frame) (outer : List Frame) (entry : Option Local) → Lists number state old new
    → Holds i (old ∷ outer) entry → Holds i (new ∷ outer) entry
other-holds i number state old new outer entry k h = record {
  fits = h.fits;
  covers = (
    widened i (suc (length outer)) old new entry
        (λ a. subst (Among i) (sym k.ending) (among-first i old.ending.items (number ∷ []) a)) (more-waiting i number state old new k) h.covers.0,
    h.covers.1,
  );
}

pub declares-is : (number : ℕ) (state : State) (old new : Pass) (outer : new.outer.items ≡ old.outer.items)
    → new.frame.ending.items ≡ old.frame.ending.items ++ number ∷ [] → new.frame.joins.items ≡ joined state number old.frame.joins.items
    → new.frame.heads.items ≡ headed state number old.frame.heads.items → new.frame.turns.items ≡ old.frame.turns.items
    → ((i : ℕ) → get nat_eq new.locals i ≡ (if number == i then Some (new_local old state) else get nat_eq old.locals i))
    → size state ≡ 1 → IsPass old → Declares number state old new
declares-is number state old new outer ending joins heads turns locals one h = record {
  holds = λ i. subst (λ fs. Holds i (new.frame ∷ innermost_first fs) (get nat_eq new.locals i)) (sym outer)
      (subst (Holds i (new.frame ∷ innermost_first old.outer.items)) (sym (locals i)) (by_test i (number == i) refl));
  depth = ap (λ fs. length fs + 1) outer;
  locals = locals;
}
  where
    lists : Lists number state old.frame new.frame
    lists = record { ending = ending; joins = joins; heads = heads; turns = turns }

    by_test : (i : ℕ) (b : Bool) → (number == i) ≡ b
        → Holds i (new.frame ∷ innermost_first old.outer.items) (if b then Some (new_local old state) else get nat_eq old.locals i)
    by_test i true e =
        subst (λ n. Holds n (new.frame ∷ innermost_first old.outer.items) (Some (new_local old state))) (eqb-true number i e)
        (new-holds number (new_local old state) old.frame new.frame (innermost_first old.outer.items) lists one (sym (length-innermost old.outer.items)))
    by_test i false e = other-holds i number state old.frame new.frame (innermost_first old.outer.items) (get nat_eq old.locals i) lists (h i)

-- what is due of a local in the block of its declaration
fresh-duties : (state : State) → size state ≡ 1 → duties 1 state ≡ inmost state ∷ []
fresh-duties Settled e = refl
fresh-duties AwaitsChoice e = refl
fresh-duties FirstArm e = let no : ⊥ = omega (arith, e) in absurd no
fresh-duties FirstArmSet e = let no : ⊥ = omega (arith, e) in absurd no
fresh-duties SecondArm e = let no : ⊥ = omega (arith, e) in absurd no
fresh-duties SecondArmSet e = let no : ⊥ = omega (arith, e) in absurd no
fresh-duties AwaitsLoop e = refl
fresh-duties BeforeBreak e = let no : ⊥ = omega (arith, e) in absurd no
fresh-duties BehindBreak e = let no : ⊥ = omega (arith, e) in absurd no
fresh-duties Gone e = let no : ⊥ = omega (arith, e) in absurd no

unknown-stack : (depth : ℕ) (entry : Option Local) → is_some entry ≡ false → stack_at depth entry ≡ []
unknown-stack depth None e = refl
unknown-stack depth (Some l) e = cc e

declare-keeps : (least : Option ℕ) (number : ℕ) (state : State) (before after : Pass) (rest : List RawStatement) (others : List ℕ)
    → is_some (get nat_eq before.locals number) ≡ false → size state ≡ 1 → Declares number state before after
    → Keeps least least before after rest rest (due_flat number (inmost state ∷ []) rest ++ others) others
declare-keeps least number state before after rest others unknown one d = record {
  forth = λ bound k. record {
    least = k.least;
    due = λ i. subst (λ o. AllAbove bound (due_flat i (stack_at (depth_of after) o) rest)) (sym (d.locals i))
        (forth_at bound i (number == i) refl (first-above bound (due_flat number (inmost state ∷ []) rest) others k.others)
        (subst (λ n. AllAbove bound (due_flat i (stack_at n (get nat_eq before.locals i)) rest)) (sym d.depth) (k.due i)));
    others = second-above bound (due_flat number (inmost state ∷ []) rest) others k.others;
  };
  back = λ bound k. record {
    least = k.least;
    due = λ i. back_at bound i (number == i) refl
        (subst (λ o. AllAbove bound (due_flat i (stack_at (depth_of after) o) rest)) (d.locals i) (k.due i));
    others = both-above bound (due_flat number (inmost state ∷ []) rest) others
        (subst (AllAbove bound) (fresh-due number)
        (subst (λ b. AllAbove bound (due_flat number (stack_at (depth_of after) (if b then Some (new_local before state) else get nat_eq before.locals number)) rest))
        (eq-eqb number number refl)
        (subst (λ o. AllAbove bound (due_flat number (stack_at (depth_of after) o) rest)) (d.locals number) (k.due number))))
        k.others;
  };
}
  where
    one_open : depth_of after - length before.outer.items ≡ 1
    one_open = let e : depth_of after ≡ length before.outer.items + 1 = d.depth in omega (arith, e)

    fresh-due : (i : ℕ) → due_flat i (stack_at (depth_of after) (Some (new_local before state))) rest ≡ due_flat i (inmost state ∷ []) rest
    fresh-due i = ap (λ n. due_flat i (duties n state) rest) one_open ∙ ap (λ dues. due_flat i dues rest) (fresh-duties state one)

    forth_at : (bound i : ℕ) (b : Bool) → (number == i) ≡ b → AllAbove bound (due_flat number (inmost state ∷ []) rest)
        → AllAbove bound (due_flat i (stack_at (depth_of after) (get nat_eq before.locals i)) rest)
        → AllAbove bound (due_flat i (stack_at (depth_of after) (if b then Some (new_local before state) else get nat_eq before.locals i)) rest)
    forth_at bound i true e new old =
        subst (AllAbove bound) (sym (fresh-due i))
        (subst (λ n. AllAbove bound (due_flat n (inmost state ∷ []) rest)) (eqb-true number i e) new)
    forth_at bound i false e new old = old

    back_at : (bound i : ℕ) (b : Bool) → (number == i) ≡ b
        → AllAbove bound (due_flat i (stack_at (depth_of after) (if b then Some (new_local before state) else get nat_eq before.locals i)) rest)
        → AllAbove bound (due_flat i (stack_at (depth_of before) (get nat_eq before.locals i)) rest)
    back_at bound i true e a =
        let none : stack_at (depth_of before) (get nat_eq before.locals i) ≡ [] =
        unknown-stack (depth_of before) (get nat_eq before.locals i)
        (subst (λ n. is_some (get nat_eq before.locals n) ≡ false) (eqb-true number i e) unknown) in
        subst (λ dues. AllAbove bound (due_flat i dues rest)) (sym none) tt
    back_at bound i false e a = subst (λ n. AllAbove bound (due_flat i (stack_at n (get nat_eq before.locals i)) rest)) d.depth a

-- nothing happens
same-keeps : (least : Option ℕ) (pass : Pass) (rest : List RawStatement) (others : List ℕ) → Keeps least least pass pass rest rest others others
same-keeps least pass rest others = record { forth = λ bound k. k; back = λ bound k. k }

-- a declaration of a number that was declared before
pub adds-known : (pass : Pass) (s : RawSimple) (start : Start) → start_of s ≡ Some start → is_some (get nat_eq pass.locals start.number) ≡ true
    → IsPass pass → Adds pass pass s
adds-known pass s start e there h = record {
  holds = h;
  known = λ before k.
      subst (λ o. Knows (with_start before o) pass) (sym e)
      (subst (λ b. Knows (if b then before else start.number ∷ before) pass) (among before k) k);
  keeps = λ before found rest others k.
      subst (λ o. Keeps found found pass pass rest rest (first_flat before o rest ++ others) others) (sym e)
      (subst
      (λ b. Keeps found found pass pass rest rest ((if b then [] else due_flat start.number (inmost start.state ∷ []) rest) ++ others) others)
      (among before k) (same-keeps found pass rest others));
}
  where
    among : (before : List ℕ) → Knows before pass → true ≡ is_among before start.number
    among before k = sym there ∙ k start.number

-- what is known behind the first declaration of a number
now-known : (number : ℕ) (state : State) (old new : Pass) (before : List ℕ) → Declares number state old new → Knows before old
    → Knows (number ∷ before) new
now-known number state old new before d k = λ i. ap is_some (d.locals i) ∙ by_test i (number == i)
  where
    by_test : (i : ℕ) (b : Bool) → is_some (if b then Some (new_local old state) else get nat_eq old.locals i) ≡ (b || is_among before i)
    by_test i true = refl
    by_test i false = k i

pub adds-new : (old new : Pass) (s : RawSimple) (start : Start) → start_of s ≡ Some start
    → is_some (get nat_eq old.locals start.number) ≡ false → size start.state ≡ 1 → Declares start.number start.state old new → Adds old new s
adds-new old new s start e unknown one d = record {
  holds = d.holds;
  known = λ before k.
      subst (λ o. Knows (with_start before o) new) (sym e)
      (subst (λ b. Knows (if b then before else start.number ∷ before) new) (among before k)
      (now-known start.number start.state old new before d k));
  keeps = λ before found rest others k.
      subst (λ o. Keeps found found old new rest rest (first_flat before o rest ++ others) others) (sym e)
      (subst
      (λ b. Keeps found found old new rest rest ((if b then [] else due_flat start.number (inmost start.state ∷ []) rest) ++ others) others)
      (among before k) (declare-keeps found start.number start.state old new rest others unknown one d));
}
  where
    among : (before : List ℕ) → Knows before old → false ≡ is_among before start.number
    among before k = sym unknown ∙ k start.number

-- a whole pass
none-due : (dues : List Duty) (i : ℕ) → due_flat i dues [] ≡ []
none-due [] i = refl
none-due (due ∷ dues) i = refl

pass-blames : (old new : Option ℕ) (before after : Pass) (list : List RawStatement) (tokens : List ℕ)
    → ((i : ℕ) → get nat_eq before.locals i ≡ None) → Keeps old new before after list [] tokens [] → Blames old new tokens
pass-blames old new before after list tokens none k = record { is = same-bounds new (lesser old (least_of tokens)) up down }
  where
    whole : Blames old (lesser old (least_of tokens)) tokens
    whole = record { is = refl }

    up : (bound : ℕ) → Above bound new → Above bound (lesser old (least_of tokens))
    up bound a =
        let all : Bounds bound old before list tokens = k.back bound (record {
          least = a;
          due = λ i. subst (AllAbove bound) (sym (none-due (stack_at (depth_of after) (get nat_eq after.locals i)) i)) tt;
          others = tt;
        }) in
        blamed-above bound old (lesser old (least_of tokens)) tokens whole all.least all.others

    down : (bound : ℕ) → Above bound (lesser old (least_of tokens)) → Above bound new
    down bound a = (k.forth bound (record {
      least = old-above bound old (lesser old (least_of tokens)) tokens whole a;
      due = λ i. subst (λ o. AllAbove bound (due_flat i (stack_at (depth_of before) o) list)) (sym (none i)) tt;
      others = tokens-above bound old (lesser old (least_of tokens)) tokens whole a;
    })).least

-- a statement without blocks: what it reads and sets, and then what it declares
pub steps-simple : (found left : Option ℕ) (old mid new : Pass) (s : RawSimple) → Uses found left old mid s → Adds mid new s
    → Steps found left old new (Simple s)
steps-simple found left old mid new s u a = record {
  holds = a.holds;
  known = λ before k. a.known before (u.known before k);
  keeps = λ before rest k.
      keeps-then (u.keeps rest (first_flat before (start_of s) rest ++ settings_flat (with_start before (start_of s)) rest))
      (a.keeps before left rest (settings_flat (with_start before (start_of s)) rest) (u.known before k));
}

-- a pass that has come so far: which numbers were declared, and that the same is still to be blamed, but what was blamed
pub record Reached (first now : Option ℕ) (begin pass : Pass) (list rest : List RawStatement) : Type 0 where
  pub holds : IsPass pass
  pub before : List ℕ
  pub known : Knows before pass
  pub keeps : Keeps first now begin pass list rest (settings_flat [] list) (settings_flat before rest)

-- its begin
pub reached-none : (least : Option ℕ) (pass : Pass) (list : List RawStatement) → IsPass pass → ((i : ℕ) → get nat_eq pass.locals i ≡ None)
    → Reached least least pass pass list list
reached-none least pass list h none = record {
  holds = h;
  before = [];
  known = λ i. ap is_some (none i);
  keeps = same-keeps least pass list (settings_flat [] list);
}

-- a statement further
pub reached-next : (old mid new : Option ℕ) (begin between after : Pass) (list : List RawStatement) (k : ℕ) (s : RawStatement)
    → k < length list → s ≡ get_or list k s → Reached old mid begin between list (drop k list) → Steps mid new between after s
    → Reached old new begin after list (drop (k + 1) list)
reached-next old mid new begin between after list k s h at r step = record {
  holds = step.holds;
  before = declared_behind r.before s;
  known = step.known r.before r.known;
  keeps = keeps-then
      (subst (λ l. Keeps old mid begin between list l (settings_flat [] list) (settings_flat r.before l)) (next-is list k s h at) r.keeps)
      (step.keeps r.before (drop (k + 1) list) r.known);
}

-- the end of the list
pub reached-end : (old new : Option ℕ) (begin after : Pass) (list rest : List RawStatement) → rest ≡ []
    → ((i : ℕ) → get nat_eq begin.locals i ≡ None) → Reached old new begin after list rest → Blames old new (settings_flat [] list)
reached-end old new begin after list rest e none r =
    pass-blames old new begin after list (settings_flat [] list) none
    (subst (λ l. Keeps old new begin after list l (settings_flat [] list) (settings_flat r.before l)) e r.keeps)
