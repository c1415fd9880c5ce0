-- What one pass over the statements of a body knows of the locals that are declared before, and what is still to be blamed of them.
use Rattle.std.specs.Prelude.{◌≡◌, ◌≤◌, ◌<◌, ◌+◌, ◌-◌, ◌⊎◌, ◌==◌, ℕ, suc, nat_eq, if◌then◌else◌, Bool, not, false, List, [], ◌∷◌, ◌++◌, length, Option, Some, None}
use Rattle.std.specs.Option.{is_some}
use Rattle.indexmap.specs.IndexMap.{get}
use Rattle.c_tree.specs.declared.body.CAtom.{CAtom}
use Rattle.c_tree.specs.Raw.{At}
use Rattle.c_tree.specs.rules.Bodies.{local_of}
use Rattle.c_raw.specs.declared.body.RawSimple.{RawSimple}
use Rattle.c_raw.specs.declared.body.RawStatement.{RawStatement}
use Rattle.c_raw.specs.declared.body.RawStatement.TheVariants.{Simple}
use Rattle.c_form.specs.OpenBlocks.{innermost_first}
use Rattle.c_form_settings.specs.declared.duty.Duty.{Duty}
use Rattle.c_form_settings.specs.declared.duty.Duty.TheVariants.{Unset}
use Rattle.c_form_settings.specs.declared.pass.Frame.{Frame}
use Rattle.c_form_settings.specs.declared.pass.Pass.{Pass}
use Rattle.c_form_settings.specs.declared.state.Event.{Event}
use Rattle.c_form_settings.specs.declared.state.Event.TheVariants.{Choice, Loop, Break, Close, Set}
use Rattle.c_form_settings.specs.declared.state.Local.{Local}
use Rattle.c_form_settings.specs.declared.state.State.{State}
use Rattle.c_form_settings.specs.declared.state.State.TheVariants.{Settled, AwaitsChoice, FirstArm, FirstArmSet, SecondArm, SecondArmSet, AwaitsLoop, BeforeBreak, BehindBreak, Gone}
use Rattle.c_form_settings.specs.Duties.{end_under, is_unread, wants_setting}
use Rattle.c_form_settings.specs.States.{size, is_gone, duties, due_here, next, open_after}
use Rattle.c_form_settings.specs.Walks.{due_flat, start_of, is_among, first_flat, with_start, declared_behind, settings_flat}

-- what is due of a number, with its declared local, where so many blocks are open: in each of them, and in the innermost one
abbrev pub stack_at : ℕ → Option Local → List Duty
stack_at depth None = []
stack_at depth (Some l) = duties (depth - l.base) l.state

abbrev pub due_at : ℕ → Option Local → Duty
due_at depth None = Unset
due_at depth (Some l) = due_here (depth - l.base) l.state

-- the block of its declaration is open
abbrev pub is_live : Option Local → Bool
is_live None = false
is_live (Some l) = not (is_gone l.state)

-- the numbers that were declared are these
abbrev pub Knows : List ℕ → Pass → Type 0
Knows before pass = (i : ℕ) → is_some (get nat_eq pass.locals i) ≡ is_among before i

-- the same number behind an event in the innermost block
abbrev pub next_at : Event → ℕ → Option Local → Option Local
next_at event depth None = None
next_at event depth (Some l) = Some (next event depth l)

-- the same where an event is told to some numbers alone
abbrev pub told : Event → ℕ → ℕ → List ℕ → Option Local → Option Local
told event depth i [] entry = entry
told event depth i (n ∷ numbers) entry = told event depth i numbers (if n == i then next_at event depth entry else entry)

-- the open blocks, the innermost first
abbrev pub blocks : Pass → List Frame
blocks pass = pass.frame ∷ innermost_first pass.outer.items

-- those that are open behind the end of a block; the block of the body stays
abbrev pub outer_blocks : List Frame → List Frame
outer_blocks [] = []
outer_blocks (frame ∷ []) = frame ∷ []
outer_blocks (frame ∷ around ∷ outer) = around ∷ outer

abbrev pub depth_of : Pass → ℕ
depth_of pass = length pass.outer.items + 1

-- a number stands in a list
abbrev pub Among : ℕ → List ℕ → Type 0
Among i [] = ⊥
Among i (n ∷ numbers) = (n ≡ i) ⊎ Among i numbers

-- what a local waits for, and the numbers of a block that wait for it
abbrev pub waits : State → Option Event
waits Settled = None
waits AwaitsChoice = Some Choice
waits FirstArm = None
waits FirstArmSet = None
waits SecondArm = None
waits SecondArmSet = None
waits AwaitsLoop = Some Loop
waits BeforeBreak = Some Break
waits BehindBreak = None
waits Gone = None

abbrev pub waiting : Event → Frame → List ℕ
waiting Choice frame = frame.joins.items
waiting Loop frame = frame.heads.items
waiting Break frame = frame.turns.items
waiting Close frame = []
waiting Set frame = []

-- the block in which so many are open lists a local with a duty of its own in it, and one that waits in it
pub record CoversLocal (i depth : ℕ) (frame : Frame) (l : Local) : Type 0 where
  pub ending : l.base < depth → depth ≤ l.base + size l.state → Among i frame.ending.items
  pub waiters : (event : Event) → waits l.state ≡ Some event → l.base + size l.state ≡ depth → Among i (waiting event frame)

abbrev pub Covers : ℕ → ℕ → Frame → Option Local → Type 0
Covers i depth frame None = Unit {0}
Covers i depth frame (Some l) = CoversLocal i depth frame l

abbrev pub CoversAll : ℕ → List Frame → Option Local → Type 0
CoversAll i [] entry = Unit {0}
CoversAll i (frame ∷ outer) entry = Covers i (suc (length outer)) frame entry × CoversAll i outer entry

-- the blocks with duties of their own are open
abbrev pub Fits : ℕ → Option Local → Type 0
Fits depth None = Unit {0}
Fits depth (Some l) = size l.state ≤ depth - l.base

-- the open blocks list a number
pub record Holds (i : ℕ) (frames : List Frame) (entry : Option Local) : Type 0 where
  pub fits : Fits (length frames) entry
  pub covers : CoversAll i frames entry

abbrev pub IsPass : Pass → Type 0
IsPass pass = (i : ℕ) → Holds i (blocks pass) (get nat_eq pass.locals i)

-- a pass behind an event
pub record Moves (event : Event) (old new : Pass) : Type 0 where
  pub holds : IsPass new
  pub stacks : (i : ℕ) → stack_at (depth_of new) (get nat_eq new.locals i)
      ≡ stack_at (open_after event (depth_of old)) (next_at event (depth_of old) (get nat_eq old.locals i))
  pub known : (i : ℕ) → is_some (get nat_eq new.locals i) ≡ is_some (get nat_eq old.locals i)

-- tokens that are not below a bound
abbrev pub Above : ℕ → Option ℕ → Type 0
Above bound None = Unit {0}
Above bound (Some token) = bound ≤ token

abbrev pub AllAbove : ℕ → List ℕ → Type 0
AllAbove bound [] = Unit {0}
AllAbove bound (token ∷ tokens) = (bound ≤ token) × AllAbove bound tokens

-- a bound of the least token so far, of what the locals of a pass blame in statements, and of other tokens
pub record Bounds (bound : ℕ) (found : Option ℕ) (pass : Pass) (rest : List RawStatement) (tokens : List ℕ) : Type 0 where
  pub least : Above bound found
  pub due : (i : ℕ) → AllAbove bound (due_flat i (stack_at (depth_of pass) (get nat_eq pass.locals i)) rest)
  pub others : AllAbove bound tokens

-- what is still to be blamed is the same, with what was blamed
pub record Keeps (old new : Option ℕ) (before after : Pass) (list rest : List RawStatement) (first more : List ℕ) : Type 0 where
  pub forth : (bound : ℕ) → Bounds bound old before list first → Bounds bound new after rest more
  pub back : (bound : ℕ) → Bounds bound new after rest more → Bounds bound old before list first

-- a pass behind what a statement without blocks reads and sets
pub record Uses (found left : Option ℕ) (old new : Pass) (s : RawSimple) : Type 0 where
  pub holds : IsPass new
  pub known : (before : List ℕ) → Knows before old → Knows before new
  pub keeps : (rest : List RawStatement) (others : List ℕ) → Keeps found left old new (Simple s ∷ rest) rest others others

-- a pass behind what it declares
pub record Adds (old new : Pass) (s : RawSimple) : Type 0 where
  pub holds : IsPass new
  pub known : (before : List ℕ) → Knows before old → Knows (with_start before (start_of s)) new
  pub keeps : (before : List ℕ) (found : Option ℕ) (rest : List RawStatement) (others : List ℕ) → Knows before old
      → Keeps found found old new rest rest (first_flat before (start_of s) rest ++ others) others

-- a pass behind a statement
pub record Steps (found left : Option ℕ) (old new : Pass) (s : RawStatement) : Type 0 where
  pub holds : IsPass new
  pub known : (before : List ℕ) → Knows before old → Knows (declared_behind before s) new
  pub keeps : (before : List ℕ) (rest : List RawStatement) → Knows before old
      → Keeps found left old new (s ∷ rest) rest (settings_flat before (s ∷ rest)) (settings_flat (declared_behind before s) rest)

-- the tokens at which an atom reads a local too early
abbrev pub tokens_where : (ℕ → Bool) → List (At ℕ) → List ℕ
tokens_where test [] = []
tokens_where test (x ∷ xs) = if test x.value then x.at ∷ tokens_where test xs else tokens_where test xs

abbrev pub early_in : Pass → At CAtom → List ℕ
early_in pass a = tokens_where (λ i. is_unread (due_at (depth_of pass) (get nat_eq pass.locals i))) (local_of a)

-- the tokens at which locals are set that are not to be set there
abbrev pub wrong_in : Pass → List (At ℕ) → List ℕ
wrong_in pass = tokens_where
    (λ i. if is_live (get nat_eq pass.locals i) then not (wants_setting (due_at (depth_of pass) (get nat_eq pass.locals i))) else false)

-- the numbers of these
abbrev pub numbers_in : List (At ℕ) → List ℕ
numbers_in [] = []
numbers_in (x ∷ xs) = x.value ∷ numbers_in xs

-- where a block ends, what its locals lack
abbrev pub lacking_in : Pass → ℕ → ℕ → List ℕ
lacking_in pass at i = end_under (due_at (depth_of pass) (get nat_eq pass.locals i)) at

-- the numbers of a block that wait for an `if` and for a `for`, behind a declaration
abbrev pub joined : State → ℕ → List ℕ → List ℕ
joined AwaitsChoice number numbers = numbers ++ number ∷ []
joined state number numbers = numbers

abbrev pub headed : State → ℕ → List ℕ → List ℕ
headed AwaitsLoop number numbers = numbers ++ number ∷ []
headed state number numbers = numbers

-- a local that is declared in the innermost block
abbrev pub new_local : Pass → State → Local
new_local pass state = record { base = length pass.outer.items; state = state }

-- a pass behind the declaration of a number
pub record Declares (number : ℕ) (state : State) (old new : Pass) : Type 0 where
  pub holds : IsPass new
  pub depth : depth_of new ≡ depth_of old
  pub locals : (i : ℕ) → get nat_eq new.locals i ≡ (if number == i then Some (new_local old state) else get nat_eq old.locals i)
