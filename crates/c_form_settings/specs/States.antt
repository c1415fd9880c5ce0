-- How far the settings of a local have come, and what is due of it in the blocks that are open from that of its declaration on.
use Rattle.std.specs.Prelude.{ℕ, zero, suc, ◌-◌, ◌==◌, Bool, true, false, if◌then◌else◌, List, [], ◌∷◌}
use Rattle.c_form_settings.specs.declared.duty.Duty.{Duty}
use Rattle.c_form_settings.specs.declared.duty.Duty.TheVariants.{Unset, Untouched, Arm, Turn, Behind, Join, Head}
use Rattle.c_form_settings.specs.declared.state.Event.{Event}
use Rattle.c_form_settings.specs.declared.state.Event.TheVariants.{Choice, Loop, Break, Close, Set}
use Rattle.c_form_settings.specs.declared.state.Local.{Local}
use Rattle.c_form_settings.specs.declared.state.State.{State}
use Rattle.c_form_settings.specs.declared.state.State.TheVariants.{Settled, AwaitsChoice, FirstArm, FirstArmSet, SecondArm, SecondArmSet, AwaitsLoop, BeforeBreak, BehindBreak, Gone}

-- the blocks, the innermost first, in which something is due that is due in no block inside them
abbrev pub core : State → List Duty
core Settled = Unset ∷ []
core AwaitsChoice = Join ∷ []
core FirstArm = Arm ∷ Arm ∷ Unset ∷ []
core FirstArmSet = Untouched ∷ Arm ∷ Unset ∷ []
core SecondArm = Arm ∷ Unset ∷ []
core SecondArmSet = Untouched ∷ Unset ∷ []
core AwaitsLoop = Head ∷ []
core BeforeBreak = Turn ∷ Unset ∷ []
core BehindBreak = Behind ∷ Unset ∷ []
core Gone = []

-- how many these are, and what is due in the innermost of them
abbrev pub size : State → ℕ
size Settled = 1
size AwaitsChoice = 1
size FirstArm = 3
size FirstArmSet = 3
size SecondArm = 2
size SecondArmSet = 2
size AwaitsLoop = 1
size BeforeBreak = 2
size BehindBreak = 2
size Gone = 0

abbrev pub inmost : State → Duty
inmost Settled = Unset
inmost AwaitsChoice = Join
inmost FirstArm = Arm
inmost FirstArmSet = Untouched
inmost SecondArm = Arm
inmost SecondArmSet = Untouched
inmost AwaitsLoop = Head
inmost BeforeBreak = Turn
inmost BehindBreak = Behind
inmost Gone = Unset

-- it isn't to be read yet
abbrev pub is_early : State → Bool
is_early Settled = false
is_early AwaitsChoice = true
is_early FirstArm = true
is_early FirstArmSet = true
is_early SecondArm = true
is_early SecondArmSet = true
is_early AwaitsLoop = false
is_early BeforeBreak = false
is_early BehindBreak = false
is_early Gone = false

abbrev pub is_gone : State → Bool
is_gone Settled = false
is_gone AwaitsChoice = false
is_gone FirstArm = false
is_gone FirstArmSet = false
is_gone SecondArm = false
is_gone SecondArmSet = false
is_gone AwaitsLoop = false
is_gone BeforeBreak = false
is_gone BehindBreak = false
is_gone Gone = true

-- what is due in the blocks inside these
abbrev pub further : State → Duty
further state = if is_early state then Untouched else Unset

-- so many blocks inside others, in each of which the same is due
abbrev pub inside : ℕ → Duty → List Duty → List Duty
inside zero due outer = outer
inside (suc n) due outer = due ∷ inside n due outer

-- what is due in the blocks that are open from that of the declaration on, the innermost first
abbrev pub duties : ℕ → State → List Duty
duties opened state = if is_gone state then [] else inside (opened - size state) (further state) (core state)

-- the innermost block is one with a duty of its own
abbrev pub here : ℕ → State → Bool
here opened state = opened == size state

abbrev pub due_here : ℕ → State → Duty
due_here opened state = if here opened state then inmost state else further state

-- the state behind an event in that block
abbrev pub at_choice : State → State
at_choice AwaitsChoice = FirstArm
at_choice state = state

abbrev pub at_loop : State → State
at_loop AwaitsLoop = BeforeBreak
at_loop state = state

abbrev pub at_break : State → State
at_break BeforeBreak = BehindBreak
at_break state = state

abbrev pub at_end : State → State
at_end Settled = Gone
at_end AwaitsChoice = Gone
at_end FirstArm = SecondArm
at_end FirstArmSet = SecondArm
at_end SecondArm = Settled
at_end SecondArmSet = Settled
at_end AwaitsLoop = Gone
at_end BeforeBreak = Settled
at_end BehindBreak = Settled
at_end Gone = Gone

abbrev pub at_setting : State → State
at_setting FirstArm = FirstArmSet
at_setting SecondArm = SecondArmSet
at_setting BehindBreak = Settled
at_setting state = state

abbrev pub becomes : Event → State → State
becomes Choice state = at_choice state
becomes Loop state = at_loop state
becomes Break state = at_break state
becomes Close state = at_end state
becomes Set state = at_setting state

-- a local behind an event in the innermost of so many open blocks
abbrev pub next : Event → ℕ → Local → Local
next event depth l =
    record { base = l.base; state = if here (depth - l.base) l.state then becomes event l.state else l.state }

-- how many blocks are open behind an event
abbrev pub open_after : Event → ℕ → ℕ
open_after Choice n = suc (suc n)
open_after Loop n = suc n
open_after Break n = n
open_after Close zero = zero
open_after Close (suc n) = n
open_after Set n = n
