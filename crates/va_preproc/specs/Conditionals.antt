-- Conditional text (Conditional compilation): its arms, and what its directives do.
use Rattle.std.specs.Prelude.{ℕ, Bool, true, false, List, [], ◌∷◌, Option, Some, None, Ok}
use Rattle.std.specs.Option.{is_some}
use Rattle.va_base.specs.declared.fault.FaultCode.{FaultCode}
use Rattle.va_base.specs.declared.fault.FaultCode.TheVariants.{Conditional}
use Rattle.va_preproc.specs.declared.condition.Arm.{Arm}
use Rattle.va_preproc.specs.declared.condition.Arm.TheVariants.{Chosen, Waiting, Passed}
use Rattle.va_preproc.specs.declared.condition.Branch.{Branch}
use Rattle.va_preproc.specs.Lexemes.{Bytes, Lexeme, name_of}
use Rattle.va_preproc.specs.Reading.{State, Step, ◌>>=◌, stopped, read_some, own_place}
use Rattle.va_preproc.specs.Definitions.{Form, next_token}

-- the arm is not read
abbrev pub is_skipped_arm : Arm → Bool
is_skipped_arm Chosen = false
is_skipped_arm Waiting = true
is_skipped_arm Passed = true

-- text is skipped where the innermost open conditional's arm is; a conditional in skipped text has no arm that is read
abbrev pub is_skipped : List Branch → Bool
is_skipped [] = false
is_skipped (b ∷ outer) = is_skipped_arm b.arm

-- the first arm, in skipped text or not, by its condition
abbrev pub first_arm : Bool → Bool → Arm
first_arm true condition = Passed
first_arm false true = Chosen
first_arm false false = Waiting

-- the arm after this one, by its condition
abbrev pub next_arm : Arm → Bool → Arm
next_arm Chosen condition = Passed
next_arm Waiting true = Chosen
next_arm Waiting false = Waiting
next_arm Passed condition = Passed

-- where a file goes on: how many of the tokens after this one were read, the open conditionals from the innermost on, the state
pub record Onward : Type 0 where
  pub taken : ℕ
  pub branches : List Branch
  pub state : State

-- a form's meaning, or a fault at the directive
abbrev pub meant : {T U : Type 0} → Option T → FaultCode → Lexeme → (T → State → Step U) → State → Step U
meant None code t next s = stopped code (own_place t) s
meant (Some meaning) code t next s = next meaning s

-- the tokens of a directive's form are read; if it isn't of the form, that is a fault at the directive
abbrev pub with_form : {T U : Type 0} → Form T → FaultCode → Lexeme → List Lexeme → (T → State → Step U) → State → Step U
with_form form code t rest next s = read_some own_place form.taken rest s >>= meant form.meaning code t next

abbrev pub is_defined : State → Bytes → Bool
is_defined s name = is_some (s.macros name)

-- `ifdef` and `ifndef` take the next token of their line as a name
abbrev pub at_if : (Bool → Bool) → Lexeme → List Lexeme → List Branch → State → Step Onward
at_if condition t rest branches =
    with_form (next_token name_of rest) Conditional t rest (λ name s. Ok (record {
      taken = 1;
      branches = record { begins = own_place t; arm = first_arm (is_skipped branches) (condition (is_defined s name)); is_last = false } ∷ branches;
      state = s;
    }))

-- what needs a conditional of the file that is open and had no `else`
abbrev pub unless_last : Bool → Lexeme → State → (State → Step Onward) → Step Onward
unless_last true t s next = stopped Conditional (own_place t) s
unless_last false t s next = next s

abbrev pub open_branch : Lexeme → List Branch → State → (Branch → List Branch → State → Step Onward) → Step Onward
open_branch t [] s next = stopped Conditional (own_place t) s
open_branch t (b ∷ outer) s next = unless_last b.is_last t s (next b outer)

-- `elsif` takes the next token of its line as a name
abbrev pub at_elsif : Lexeme → List Lexeme → List Branch → State → Step Onward
at_elsif t rest branches s = open_branch t branches s (λ b outer.
    with_form (next_token name_of rest) Conditional t rest (λ name s. Ok (record {
      taken = 1;
      branches = record b { arm = next_arm b.arm (is_defined s name) } ∷ outer;
      state = s;
    })))

abbrev pub at_else : Lexeme → List Branch → State → Step Onward
at_else t branches s = open_branch t branches s (λ b outer s. Ok (record {
  taken = 0;
  branches = record b { arm = next_arm b.arm true; is_last = true } ∷ outer;
  state = s;
}))

-- `endif` needs an open conditional of the file
abbrev pub at_endif : Lexeme → List Branch → State → Step Onward
at_endif t [] s = stopped Conditional (own_place t) s
at_endif t (b ∷ outer) s = Ok (record { taken = 0; branches = outer; state = s })

-- at the end of a file the innermost open conditional is a fault
abbrev pub all_closed : List Branch → State → Step State
all_closed [] s = Ok s
all_closed (b ∷ outer) s = stopped Conditional b.begins s
