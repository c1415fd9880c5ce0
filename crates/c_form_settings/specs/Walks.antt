-- Walks over a flat list of statements: what one local blames in them, and what the first declaration of each number among them
-- blames in those that follow it.
use Rattle.std.specs.Prelude.{ℕ, ◌==◌, Bool, if◌then◌else◌, List, [], ◌∷◌, ◌++◌, Option, Some, None}
use Rattle.std.specs.List.{list_any}
use Rattle.c_raw.specs.Blocks.{at_view, simple_view}
use Rattle.c_raw.specs.declared.body.RawSimple.{RawSimple}
use Rattle.c_raw.specs.declared.body.RawSimple.TheVariants.{Constant, Join, Head, Assign, SetCell, SetCollapse, Report}
use Rattle.c_raw.specs.declared.body.RawStatement.{RawStatement}
use Rattle.c_raw.specs.declared.body.RawStatement.TheVariants.{Simple, Leave, If, For, End}
use Rattle.c_form_settings.specs.declared.duty.Duty.{Duty}
use Rattle.c_form_settings.specs.declared.start.Start.{Start}
use Rattle.c_form_settings.specs.declared.state.State.{State}
use Rattle.c_form_settings.specs.declared.state.State.TheVariants.{Settled, AwaitsChoice, AwaitsLoop}
use Rattle.c_form_settings.specs.Duties.{reads_under, simple_under, behind_simple, behind_break, in_arm, behind_if, in_loop, behind_loop, end_under}
use Rattle.c_form_settings.specs.States.{inmost}

-- what a local blames in statements, where each open block, the innermost first, has what is due of it there
abbrev pub due_flat : ℕ → List Duty → List RawStatement → List ℕ
due_flat i [] body = []
due_flat i (due ∷ outer) [] = []
due_flat i (due ∷ outer) (Simple s ∷ rest) =
    simple_under i due (simple_view s) ++ due_flat i (behind_simple i due (simple_view s) ∷ outer) rest
due_flat i (due ∷ outer) (Leave at test ∷ rest) =
    reads_under i due (at_view test ∷ []) ++ due_flat i (behind_break due ∷ outer) rest
due_flat i (due ∷ outer) (If test ∷ rest) =
    reads_under i due (at_view test ∷ []) ++ due_flat i (in_arm due ∷ in_arm due ∷ behind_if due ∷ outer) rest
due_flat i (due ∷ outer) (For ∷ rest) = due_flat i (in_loop due ∷ behind_loop due ∷ outer) rest
due_flat i (due ∷ outer) (End at ∷ rest) = end_under due at ++ due_flat i outer rest

-- the local that a statement declares, and what its settings wait for
abbrev pub start : ℕ → State → Start
start number state = record { number = number; state = state }

abbrev pub start_of : RawSimple → Option Start
start_of (Constant ty i at side) = Some (start i.value Settled)
start_of (Join ty i) = Some (start i.value AwaitsChoice)
start_of (Head ty i first) = Some (start i.value AwaitsLoop)
start_of (Assign i value) = None
start_of (SetCell cell value) = None
start_of (SetCollapse pair value) = None
start_of (Report id) = None

-- a number is among those that are declared before
abbrev pub is_among : List ℕ → ℕ → Bool
is_among before i = list_any (λ number. number == i) before

-- what a declaration blames in what follows it, where it is the first of its number
abbrev pub first_flat : List ℕ → Option Start → List RawStatement → List ℕ
first_flat before None rest = []
first_flat before (Some s) rest = if is_among before s.number then [] else due_flat s.number (inmost s.state ∷ []) rest

-- the numbers that are declared behind it
abbrev pub with_start : List ℕ → Option Start → List ℕ
with_start before None = before
with_start before (Some s) = if is_among before s.number then before else s.number ∷ before

-- the same of a statement
abbrev pub statement_flat : List ℕ → RawStatement → List RawStatement → List ℕ
statement_flat before (Simple s) rest = first_flat before (start_of s) rest
statement_flat before (Leave at test) rest = []
statement_flat before (If test) rest = []
statement_flat before For rest = []
statement_flat before (End at) rest = []

abbrev pub declared_behind : List ℕ → RawStatement → List ℕ
declared_behind before (Simple s) = with_start before (start_of s)
declared_behind before (Leave at test) = before
declared_behind before (If test) = before
declared_behind before For = before
declared_behind before (End at) = before

-- what the first declarations among statements blame
abbrev pub settings_flat : List ℕ → List RawStatement → List ℕ
settings_flat before [] = []
settings_flat before (s ∷ rest) = statement_flat before s rest ++ settings_flat (declared_behind before s) rest
