-- Variables that depend on the unknowns, and variables that hold time derivatives (Time derivative operator, Conditional
-- statements). The manual asks that conditions over a time derivative don't change during an analysis; this profile tells it by what
-- is assigned, whatever the order and the values.
use Rattle.std.specs.Prelude.{ℕ, ◌==◌, ◌&&◌, ◌||◌, Bool, false, List, ◌∷◌, length, Option}
use Rattle.std.specs.List.{list_any}
use Rattle.alg_laws.specs.Least.{least}
use Rattle.va_tree.specs.Expressions.{Expression}
use Rattle.va_tree.specs.Statements.{Statement}
use Rattle.va_sem.specs.declared.names.ModuleNames.{ModuleNames}
use Rattle.va_sem.specs.LookedAt.{looked_at}
use Rattle.va_sem.specs.Typing.{meaning_at}
use Rattle.va_sem.specs.rules.Uses.{meaning_of, is_access, is_variable_in, is_ddt}
use Rattle.va_sem.specs.declared.names.Meaning.{Meaning}
use Rattle.va_sem.specs.rules.Values.{Purpose, assigned, Value, values_of}

-- by what the name at a token means
module _ (meaning : ℕ → Option Meaning) where
  -- An expression is biased where it reads an unknown, by an access, or a variable that is.
  abbrev pub is_biased : (ℕ → Bool) → Expression → Bool
  is_biased biased e =
      list_any (λ part. is_access (meaning_of meaning part) || is_variable_in biased (meaning_of meaning part)) (looked_at e)

  -- An expression is timed where it holds the time derivative operator, or a variable that is.
  abbrev pub is_timed : (ℕ → Bool) → Expression → Bool
  is_timed timed e =
      list_any (λ part. is_ddt (meaning_of meaning part) || is_variable_in timed (meaning_of meaning part)) (looked_at e)

  -- whether a value for this purpose is assigned to a variable
  abbrev pub is_assigned_to : ℕ → Purpose → Bool
  is_assigned_to variable (assigned at) = is_variable_in (λ other. other == variable) (meaning at)
  is_assigned_to variable _ = false

  -- A variable is biased where a biased value is assigned to it, or any value under a biased condition.
  abbrev pub biased_by : List Value → (ℕ → Bool) → ℕ → Bool
  biased_by values biased variable =
      list_any (λ v. is_assigned_to variable v.purpose && list_any (is_biased biased) (v.expression ∷ v.around.conditions)) values

  -- A variable is timed where a timed value is assigned to it.
  abbrev pub timed_by : List Value → (ℕ → Bool) → ℕ → Bool
  timed_by values timed variable = list_any (λ v. is_assigned_to variable v.purpose && is_timed timed v.expression) values

-- What the analogue blocks of a module evaluate, and which of its variables are biased and timed: the least sets that the two
-- rules give. The order of statements plays no part.
pub record Analysis : Type 0 where
  pub meaning : ℕ → Option Meaning
  pub blocks : List Statement
  pub values : List Value
  pub biased : ℕ → Bool
  pub timed : ℕ → Bool

-- of these analogue blocks
abbrev pub analysis_of : ModuleNames → List Statement → Analysis
analysis_of names blocks =
    let values = values_of blocks in
    let meaning = meaning_at names.uses in
    record {
      meaning = meaning;
      blocks = blocks;
      values = values;
      biased = least (length names.vars) (biased_by meaning values);
      timed = least (length names.vars) (timed_by meaning values);
    }
