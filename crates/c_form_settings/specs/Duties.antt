-- What is due of a local in an open block, and what is due of it in the blocks inside and behind a statement.
use Rattle.std.specs.Prelude.{ℕ, Bool, true, false, if◌then◌else◌, List, [], ◌∷◌, ◌++◌}
use Rattle.c_tree.specs.declared.body.CAtom.{CAtom}
use Rattle.c_tree.specs.Raw.{At, RawSimple}
use Rattle.c_tree.specs.rules.Bodies.{atoms_of_simple}
use Rattle.c_tree.specs.rules.Settings.{first_counts, reads, sets}
use Rattle.c_form_settings.specs.declared.duty.Duty.{Duty}
use Rattle.c_form_settings.specs.declared.duty.Duty.TheVariants.{Unset, Untouched, Arm, Turn, Behind, Join, Head}

-- a local that isn't read
abbrev pub is_unread : Duty → Bool
is_unread Unset = false
is_unread Untouched = true
is_unread Arm = true
is_unread Turn = false
is_unread Behind = false
is_unread Join = true
is_unread Head = false

-- a setting is wanted here
abbrev pub wants_setting : Duty → Bool
wants_setting Unset = false
wants_setting Untouched = false
wants_setting Arm = true
wants_setting Turn = false
wants_setting Behind = true
wants_setting Join = false
wants_setting Head = false

-- a setting is missing where the block ends
abbrev pub lacks_setting : Duty → Bool
lacks_setting Unset = false
lacks_setting Untouched = false
lacks_setting Arm = true
lacks_setting Turn = true
lacks_setting Behind = true
lacks_setting Join = true
lacks_setting Head = true

abbrev pub behind_setting : Duty → Duty
behind_setting Unset = Unset
behind_setting Untouched = Untouched
behind_setting Arm = Untouched
behind_setting Turn = Turn
behind_setting Behind = Unset
behind_setting Join = Join
behind_setting Head = Head

abbrev pub behind_break : Duty → Duty
behind_break Unset = Unset
behind_break Untouched = Untouched
behind_break Arm = Arm
behind_break Turn = Behind
behind_break Behind = Behind
behind_break Join = Join
behind_break Head = Head

-- in either arm of an `if`
abbrev pub in_arm : Duty → Duty
in_arm Unset = Unset
in_arm Untouched = Untouched
in_arm Arm = Untouched
in_arm Turn = Unset
in_arm Behind = Unset
in_arm Join = Arm
in_arm Head = Unset

abbrev pub behind_if : Duty → Duty
behind_if Unset = Unset
behind_if Untouched = Untouched
behind_if Arm = Arm
behind_if Turn = Turn
behind_if Behind = Behind
behind_if Join = Unset
behind_if Head = Head

-- in the block of a `for`
abbrev pub in_loop : Duty → Duty
in_loop Unset = Unset
in_loop Untouched = Untouched
in_loop Arm = Untouched
in_loop Turn = Unset
in_loop Behind = Unset
in_loop Join = Untouched
in_loop Head = Turn

abbrev pub behind_loop : Duty → Duty
behind_loop Unset = Unset
behind_loop Untouched = Untouched
behind_loop Arm = Arm
behind_loop Turn = Turn
behind_loop Behind = Behind
behind_loop Join = Join
behind_loop Head = Unset

-- the reads of a local among atoms, where it isn't to be read
abbrev pub reads_under : ℕ → Duty → List (At CAtom) → List ℕ
reads_under i duty atoms = if is_unread duty then reads i atoms else []

-- what is blamed in a statement without blocks, and what is due behind it
abbrev pub simple_under : ℕ → Duty → RawSimple → List ℕ
simple_under i duty s = reads_under i duty (atoms_of_simple s) ++ first_counts (wants_setting duty) (sets i s)

abbrev pub behind_sets : Duty → List ℕ → Duty
behind_sets duty [] = duty
behind_sets duty (at ∷ rest) = behind_setting duty

abbrev pub behind_simple : ℕ → Duty → RawSimple → Duty
behind_simple i duty s = behind_sets duty (sets i s)

-- what is blamed where a block ends
abbrev pub end_under : Duty → ℕ → List ℕ
end_under duty at = if lacks_setting duty then at ∷ [] else []
