-- What a statement without blocks blames, and what it changes.
use Rattle.std.proofs.Common.{◌≡◌, ◌≤◌, ◌-◌, ℕ, suc, List, [], ◌∷◌, ◌++◌, length, refl, ap, sym, ◌∙◌, arith, subst}
use Rattle.std.specs.Prelude.{Bool, true, false, not, if◌then◌else◌, ◌==◌, ◌≢◌, nat_eq, Option, Some, None}
use Rattle.std.specs.List.{flat_map}
use Rattle.std.specs.Option.{is_some}
use Rattle.std.proofs.lemmas.Bool.{eqb-true, eqb-false}
use Rattle.indexmap.specs.IndexMap.{get}
use Rattle.c_tree.specs.Raw as raw
use Rattle.c_tree.specs.rules.Bodies.{assigned, atoms_of_simple}
use Rattle.c_tree.specs.rules.Settings.{first_counts, sets}
use Rattle.c_raw.specs.Blocks.{simple_view}
use Rattle.c_raw.specs.declared.body.RawSimple.{RawSimple}
use Rattle.c_raw.specs.declared.body.RawStatement.{RawStatement}
use Rattle.c_raw.specs.declared.body.RawStatement.TheVariants.{Simple}
use Rattle.c_form.specs.Blames.{Blames}
use Rattle.c_form.proofs.Blaming.{◌▸◌}
use Rattle.c_form_settings.specs.declared.duty.Duty.{Duty}
use Rattle.c_form_settings.specs.declared.duty.Duty.TheVariants.{Unset, Untouched, Arm}
use Rattle.c_form_settings.specs.declared.pass.Frame.{Frame}
use Rattle.c_form_settings.specs.declared.pass.Pass.{Pass}
use Rattle.c_form_settings.specs.declared.state.Event.TheVariants.{Set}
use Rattle.c_form_settings.specs.declared.state.Local.{Local}
use Rattle.c_form_settings.specs.declared.state.State.{State}
use Rattle.c_form_settings.specs.declared.state.State.TheVariants.{Settled, AwaitsChoice, FirstArm, FirstArmSet, SecondArm, SecondArmSet, AwaitsLoop, BeforeBreak, BehindBreak, Gone}
use Rattle.c_form_settings.specs.Duties.{behind_setting, behind_sets, reads_under, wants_setting}
use Rattle.c_form_settings.specs.Passes.{AllAbove, Fits, Holds, IsPass, Keeps, Uses, blocks, depth_of, due_at, early_in, is_live, next_at, numbers_in, stack_at, told, wrong_in}
use Rattle.c_form_settings.specs.States.{core, size, inmost, further, is_early, is_gone, inside, here, duties, due_here, becomes}
use Rattle.c_form_settings.specs.Walks.{due_flat}
use Rattle.c_form_settings.proofs.Bounding.{both-above, first-above, second-above, where-back, where-forth}
use Rattle.c_form_settings.proofs.Covering.{fits-next, kept-all}
use Rattle.c_form_settings.proofs.Due.{none-wanted}
use Rattle.c_form_settings.proofs.Keeping.{early-back, early-forth, fits-of, gone-next, step-keeps}
use Rattle.c_form_settings.proofs.Moving.{depth-blocks, next-known}

-- what is due in the innermost block and around it, and the same behind a setting
record HeadedBy (dues : List Duty) (due : Duty) (behind : List Duty) : Type 0 where
  outer : List Duty
  now : dues ≡ due ∷ outer
  set : behind_setting due ∷ outer ≡ behind

near : (state : State) → is_gone state ≡ false → HeadedBy (duties (size state) state) (inmost state) (duties (size state) (becomes Set state))
near Settled e = record { outer = []; now = refl; set = refl }
near AwaitsChoice e = record { outer = []; now = refl; set = refl }
near FirstArm e = record { outer = Arm ∷ Unset ∷ []; now = refl; set = refl }
near FirstArmSet e = record { outer = Arm ∷ Unset ∷ []; now = refl; set = refl }
near SecondArm e = record { outer = Unset ∷ []; now = refl; set = refl }
near SecondArmSet e = record { outer = Unset ∷ []; now = refl; set = refl }
near AwaitsLoop e = record { outer = []; now = refl; set = refl }
near BeforeBreak e = record { outer = Unset ∷ []; now = refl; set = refl }
near BehindBreak e = record { outer = Unset ∷ []; now = refl; set = refl }
near Gone e = cc e

calm-setting : (early : Bool) → behind_setting (if early then Untouched else Unset) ≡ (if early then Untouched else Unset)
calm-setting true = refl
calm-setting false = refl

far : (opened m : ℕ) (state : State) → is_gone state ≡ false → opened - size state ≡ suc m
    → HeadedBy (duties opened state) (further state) (duties opened state)
far opened m state live e =
    let open_now : duties opened state ≡ further state ∷ inside m (further state) (core state) =
    ap (λ b. if b then [] else inside (opened - size state) (further state) (core state)) live
    ∙ ap (λ n. inside n (further state) (core state)) e in
    record {
      outer = inside m (further state) (core state);
      now = open_now;
      set = ap (λ d. d ∷ inside m (further state) (core state)) (calm-setting (is_early state)) ∙ sym open_now;
    }

headed : (opened : ℕ) (state : State) → is_gone state ≡ false → size state ≤ opened
    → HeadedBy (duties opened state) (due_here opened state) (duties opened (if here opened state then becomes Set state else state))
headed opened state live fits = by_test (here opened state) refl
  where
    by_test : (b : Bool) → here opened state ≡ b
        → HeadedBy (duties opened state) (if b then inmost state else further state) (duties opened (if b then becomes Set state else state))
    by_test true e =
        subst (λ n. HeadedBy (duties n state) (inmost state) (duties n (becomes Set state))) (sym (eqb-true opened (size state) e)) (near state live)
    by_test false e =
        let apart : opened ≢ size state = eqb-false opened (size state) e in
        far opened (opened - size state - 1) state live (omega (arith, fits, apart))

-- the local of a number behind a statement that sets it at these tokens
abbrev set_at : List ℕ → ℕ → Option Local → Option Local
set_at [] depth entry = entry
set_at (token ∷ tokens) depth entry = next_at Set depth entry

-- a number is set where it isn't to be set
abbrev wrong : ℕ → Option Local → Bool
wrong depth entry = if is_live entry then not (wants_setting (due_at depth entry)) else false

wanted-once : (b : Bool) (l : List ℕ) → first_counts true l ≡ [] → first_counts b l ≡ (if not b then l else [])
wanted-once true l e = e
wanted-once false l e = none-wanted l

set-stack : (depth : ℕ) (l : Local) (tokens : List ℕ)
    → (h : HeadedBy (stack_at depth (Some l)) (due_at depth (Some l)) (stack_at depth (next_at Set depth (Some l))))
    → behind_sets (due_at depth (Some l)) tokens ∷ h.outer ≡ stack_at depth (set_at tokens depth (Some l))
set-stack depth l [] h = sym h.now
set-stack depth l (token ∷ tokens) h = h.set

use-live : (i depth : ℕ) (s : RawSimple) (rest : List RawStatement) (l : Local) → first_counts true (sets i (simple_view s)) ≡ []
    → is_gone l.state ≡ false
    → HeadedBy (stack_at depth (Some l)) (due_at depth (Some l)) (stack_at depth (next_at Set depth (Some l)))
    → due_flat i (stack_at depth (Some l)) (Simple s ∷ rest)
    ≡ (reads_under i (due_at depth (Some l)) (atoms_of_simple (simple_view s)) ++ (if wrong depth (Some l) then sets i (simple_view s) else []))
    ++ due_flat i (stack_at depth (set_at (sets i (simple_view s)) depth (Some l))) rest
use-live i depth s rest l once live h =
    let due : Duty = due_at depth (Some l) in
    let tokens : List ℕ = sets i (simple_view s) in
    let early : List ℕ = reads_under i due (atoms_of_simple (simple_view s)) in
    let amiss : first_counts (wants_setting due) tokens ≡ (if wrong depth (Some l) then tokens else []) =
    wanted-once (wants_setting due) tokens once
    ∙ sym (ap (λ g. if (if not g then not (wants_setting due) else false) then tokens else []) live) in
    ap (λ dues. due_flat i dues (Simple s ∷ rest)) h.now
    ∙ ap (λ t. (early ++ t) ++ due_flat i (behind_sets due tokens ∷ h.outer) rest) amiss
    ∙ ap (λ dues. (early ++ (if wrong depth (Some l) then tokens else [])) ++ due_flat i dues rest) (set-stack depth l tokens h)

-- of a local whose block has ended nothing is due
gone-due : (opened : ℕ) → due_here opened Gone ≡ Unset
gone-due opened = by_test (here opened Gone)
  where
    by_test : (b : Bool) → (if b then inmost Gone else further Gone) ≡ Unset
    by_test true = refl
    by_test false = refl

gone-stack : (depth : ℕ) (l : Local) (tokens : List ℕ) → l.state ≡ Gone → stack_at depth (set_at tokens depth (Some l)) ≡ []
gone-stack depth l [] e = ap (duties (depth - l.base)) e
gone-stack depth l (token ∷ tokens) e =
    ap (duties (depth - l.base))
    (ap (λ s. if here (depth - l.base) s then becomes Set s else s) e ∙ gone-next Set (here (depth - l.base) Gone))

use-gone : (i depth : ℕ) (s : RawSimple) (rest : List RawStatement) (l : Local) → l.state ≡ Gone
    → due_flat i (stack_at depth (Some l)) (Simple s ∷ rest)
    ≡ (reads_under i (due_at depth (Some l)) (atoms_of_simple (simple_view s)) ++ (if wrong depth (Some l) then sets i (simple_view s) else []))
    ++ due_flat i (stack_at depth (set_at (sets i (simple_view s)) depth (Some l))) rest
use-gone i depth s rest l e =
    let due : due_at depth (Some l) ≡ Unset = ap (due_here (depth - l.base)) e ∙ gone-due (depth - l.base) in
    ap (λ dues. due_flat i dues (Simple s ∷ rest)) (gone-stack depth l [] e)
    ∙ sym
    (ap (λ d. (reads_under i d (atoms_of_simple (simple_view s)) ++ (if wrong depth (Some l) then sets i (simple_view s) else []))
    ++ due_flat i (stack_at depth (set_at (sets i (simple_view s)) depth (Some l))) rest) due
    ∙ ap (λ st. (if (if not (is_gone st) then not (wants_setting (due_at depth (Some l))) else false) then sets i (simple_view s) else [])
    ++ due_flat i (stack_at depth (set_at (sets i (simple_view s)) depth (Some l))) rest) e
    ∙ ap (λ dues. due_flat i dues rest) (gone-stack depth l (sets i (simple_view s)) e))

is-gone : (s : State) → is_gone s ≡ true → s ≡ Gone
is-gone Settled e = cc e
is-gone AwaitsChoice e = cc e
is-gone FirstArm e = cc e
is-gone FirstArmSet e = cc e
is-gone SecondArm e = cc e
is-gone SecondArmSet e = cc e
is-gone AwaitsLoop e = cc e
is-gone BeforeBreak e = cc e
is-gone BehindBreak e = cc e
is-gone Gone e = refl

pub use-entry : (i depth : ℕ) (s : RawSimple) (rest : List RawStatement) (entry : Option Local) → first_counts true (sets i (simple_view s)) ≡ []
    → Fits depth entry
    → due_flat i (stack_at depth entry) (Simple s ∷ rest)
    ≡ (reads_under i (due_at depth entry) (atoms_of_simple (simple_view s)) ++ (if wrong depth entry then sets i (simple_view s) else []))
    ++ due_flat i (stack_at depth (set_at (sets i (simple_view s)) depth entry)) rest
use-entry i depth s rest None once fits = by_tokens (sets i (simple_view s))
  where
    by_tokens : (tokens : List ℕ) → [] ≡ due_flat i (stack_at depth (set_at tokens depth None)) rest
    by_tokens [] = refl
    by_tokens (token ∷ tokens) = refl
use-entry i depth s rest (Some l) once fits = by_test (is_gone l.state) refl
  where
    by_test : (b : Bool) → is_gone l.state ≡ b
        → due_flat i (stack_at depth (Some l)) (Simple s ∷ rest)
        ≡ (reads_under i (due_at depth (Some l)) (atoms_of_simple (simple_view s)) ++ (if wrong depth (Some l) then sets i (simple_view s) else []))
        ++ due_flat i (stack_at depth (set_at (sets i (simple_view s)) depth (Some l))) rest
    by_test true e = use-gone i depth s rest l (is-gone l.state e)
    by_test false e = use-live i depth s rest l once e (headed (depth - l.base) l.state e fits)

-- a statement sets one local at most
one-token : (b : Bool) (token : ℕ) → first_counts true (if b then token ∷ [] else []) ≡ []
one-token true token = refl
one-token false token = refl

set-once : (i : ℕ) (s : raw.RawSimple) → first_counts true (sets i s) ≡ []
set-once i (raw.constant ty local side) = refl
set-once i (raw.join ty local) = refl
set-once i (raw.head ty local first) = refl
set-once i (raw.assign local value) = one-token (local.value == i) local.at
set-once i (raw.set_cell cell value) = refl
set-once i (raw.set_flag pair value) = refl
set-once i (raw.report id) = refl

told-set : (i depth : ℕ) (s : raw.RawSimple) (entry : Option Local)
    → told Set depth i (numbers_in (assigned s)) entry ≡ set_at (sets i s) depth entry
told-set i depth (raw.constant ty local side) entry = refl
told-set i depth (raw.join ty local) entry = refl
told-set i depth (raw.head ty local first) entry = refl
told-set i depth (raw.assign local value) entry = by_test (local.value == i)
  where
    by_test : (b : Bool) → (if b then next_at Set depth entry else entry) ≡ set_at (if b then local.at ∷ [] else []) depth entry
    by_test true = refl
    by_test false = refl
told-set i depth (raw.set_cell cell value) entry = refl
told-set i depth (raw.set_flag pair value) entry = refl
told-set i depth (raw.report id) entry = refl

set-holds : (i : ℕ) (tokens : List ℕ) (frames : List Frame) (entry : Option Local) → Holds i frames entry
    → Holds i frames (set_at tokens (length frames) entry)
set-holds i [] frames entry h = h
set-holds i (token ∷ tokens) frames entry h = record {
  fits = fits-next Set (length frames) entry h.fits;
  covers = kept-all Set i (length frames) frames entry (omega arith) h.covers;
}

-- what the pass knows behind what a statement reads and sets
entries-set : (before after : Pass) (s : RawSimple)
    → ((i : ℕ) → get nat_eq after.locals i ≡ told Set (depth_of before) i (numbers_in (assigned (simple_view s))) (get nat_eq before.locals i))
    → (i : ℕ) → get nat_eq after.locals i ≡ set_at (sets i (simple_view s)) (depth_of before) (get nat_eq before.locals i)
entries-set before after s tells i = tells i ∙ told-set i (depth_of before) (simple_view s) (get nat_eq before.locals i)

uses-holds : (before after : Pass) (s : RawSimple) → blocks after ≡ blocks before
    → ((i : ℕ) → get nat_eq after.locals i ≡ told Set (depth_of before) i (numbers_in (assigned (simple_view s))) (get nat_eq before.locals i))
    → IsPass before → IsPass after
uses-holds before after s same tells h = λ i.
    let entry : get nat_eq after.locals i ≡ set_at (sets i (simple_view s)) (length (blocks before)) (get nat_eq before.locals i) =
    entries-set before after s tells i ∙ ap (λ d. set_at (sets i (simple_view s)) d (get nat_eq before.locals i)) (depth-blocks before) in
    subst (λ fs. Holds i fs (get nat_eq after.locals i)) (sym same)
    (subst (Holds i (blocks before)) (sym entry) (set-holds i (sets i (simple_view s)) (blocks before) (get nat_eq before.locals i) (h i)))

set-known : (tokens : List ℕ) (depth : ℕ) (entry : Option Local) → is_some (set_at tokens depth entry) ≡ is_some entry
set-known [] depth entry = refl
set-known (token ∷ tokens) depth entry = next-known Set depth entry

uses-keeps : (old mid new : Option ℕ) (before after : Pass) (s : RawSimple) (rest : List RawStatement) (others : List ℕ)
    → Blames old mid (flat_map (early_in before) (atoms_of_simple (simple_view s))) → Blames mid new (wrong_in before (assigned (simple_view s)))
    → blocks after ≡ blocks before
    → ((i : ℕ) → get nat_eq after.locals i ≡ told Set (depth_of before) i (numbers_in (assigned (simple_view s))) (get nat_eq before.locals i))
    → IsPass before → Keeps old new before after (Simple s ∷ rest) rest others others
uses-keeps old mid new before after s rest others reading setting same tells h =
    step-keeps old new before after (Simple s) rest others (early ++ amiss) parts step (reading ▸ setting) forth back
  where
    early : List ℕ
    early = flat_map (early_in before) (atoms_of_simple (simple_view s))

    amiss : List ℕ
    amiss = wrong_in before (assigned (simple_view s))

    test : ℕ → Bool
    test i = wrong (depth_of before) (get nat_eq before.locals i)

    reading_part : ℕ → List ℕ
    reading_part i = reads_under i (due_at (depth_of before) (get nat_eq before.locals i)) (atoms_of_simple (simple_view s))

    setting_part : ℕ → List ℕ
    setting_part i = if test i then sets i (simple_view s) else []

    parts : ℕ → List ℕ
    parts i = reading_part i ++ setting_part i

    depths : depth_of after ≡ depth_of before
    depths = depth-blocks after ∙ ap length same ∙ sym (depth-blocks before)

    step : (i : ℕ) → due_flat i (stack_at (depth_of before) (get nat_eq before.locals i)) (Simple s ∷ rest)
        ≡ parts i ++ due_flat i (stack_at (depth_of after) (get nat_eq after.locals i)) rest
    step i =
        use-entry i (depth_of before) s rest (get nat_eq before.locals i) (set-once i (simple_view s)) (fits-of before h i)
        ∙ ap (λ o. parts i ++ due_flat i (stack_at (depth_of before) o) rest) (sym (entries-set before after s tells i))
        ∙ ap (λ d. parts i ++ due_flat i (stack_at d (get nat_eq after.locals i)) rest) (sym depths)

    forth : (bound : ℕ) → AllAbove bound (early ++ amiss) → (i : ℕ) → AllAbove bound (parts i)
    forth bound a i =
        both-above bound (reading_part i) (setting_part i)
        (early-forth bound before (atoms_of_simple (simple_view s)) (first-above bound early amiss a) i)
        (where-forth bound test i (assigned (simple_view s)) (second-above bound early amiss a))

    back : (bound : ℕ) → ((i : ℕ) → AllAbove bound (parts i)) → AllAbove bound (early ++ amiss)
    back bound a =
        both-above bound early amiss
        (early-back bound before (atoms_of_simple (simple_view s)) (λ i. first-above bound (reading_part i) (setting_part i) (a i)))
        (where-back bound test (assigned (simple_view s)) (λ i. second-above bound (reading_part i) (setting_part i) (a i)))

pub uses-is : (old mid new : Option ℕ) (before after : Pass) (s : RawSimple)
    → Blames old mid (flat_map (early_in before) (atoms_of_simple (simple_view s))) → Blames mid new (wrong_in before (assigned (simple_view s)))
    → blocks after ≡ blocks before
    → ((i : ℕ) → get nat_eq after.locals i ≡ told Set (depth_of before) i (numbers_in (assigned (simple_view s))) (get nat_eq before.locals i))
    → IsPass before → Uses old new before after s
uses-is old mid new before after s reading setting same tells h = record {
  holds = uses-holds before after s same tells h;
  known = λ numbers k i.
      ap is_some (entries-set before after s tells i)
      ∙ set-known (sets i (simple_view s)) (depth_of before) (get nat_eq before.locals i) ∙ k i;
  keeps = λ rest others. uses-keeps old mid new before after s rest others reading setting same tells h;
}
