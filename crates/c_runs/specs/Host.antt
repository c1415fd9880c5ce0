-- A host over the numbers modulo 1000003: machines before a run, and where calls end.
use Rattle.std.specs.Prelude.{ℕ, List}
use Rattle.alg_laws.specs.declared.number.Number.{Number}
use Rattle.alg_laws.specs.Outcome.{Outcome, gives, ◌>>=◌}
use Rattle.alg_laws.specs.Residue.{residue_ops}
use Rattle.c_tree.specs.declared.file.CModule.{CModule}
use Rattle.c_machine.specs.Machine.{Stop, Machine, new_machine}
use Rattle.c_machine.specs.Runs.{HostCall, run_to_end}

-- the machine of a new instance, with what the vector and the matrix hold
abbrev pub fresh : CModule → List ℕ → List ℕ → Machine ℕ
fresh = new_machine residue_ops

-- the machine after some calls, where each entry to a loop may make so many turns
abbrev pub after : CModule → ℕ → List (HostCall ℕ) → Machine ℕ → Outcome Stop (Machine ℕ)
after m n calls s = run_to_end residue_ops n m calls s

-- the errors that some calls report
abbrev pub errors_after : CModule → List (HostCall ℕ) → Machine ℕ → Outcome Stop (List ℕ)
errors_after m calls s = after m 0 calls s >>= λ end. gives end.errors

-- the model's cells after some calls
abbrev pub model_after : CModule → List (HostCall ℕ) → Machine ℕ → Outcome Stop (List (Number ℕ))
model_after m calls s = after m 0 calls s >>= λ end. gives end.model
