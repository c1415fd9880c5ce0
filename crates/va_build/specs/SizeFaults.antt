-- The first fault of size: definitions that the contracts of this crate's own functions cite. No public contract names them.
use Rattle.std.specs.Prelude.{◌≡◌, ◌≤◌, ℕ, Bool, true, false, nat_lt, if◌then◌else◌, Option, Some, None, slice_get}
use Rattle.va_base.specs.declared.expanded.Expanded.{Expanded}
use Rattle.va_base.specs.declared.fault.Fault.{Fault}
use Rattle.va_base.specs.declared.fault.FaultCode.{FaultCode}
use Rattle.va_base.specs.declared.fault.FaultCode.TheVariants.{TooDeep, TooLong, ModulesMany}
use Rattle.va_base.specs.declared.fault.Phase.TheVariants as phase
use Rattle.va_base.specs.declared.token.Token.{Token}
use Rattle.va_base.specs.Expansion.{token_bytes}
use Rattle.va_build.specs.declared.size.Standing.{Standing}
use Rattle.va_tree.specs.Size.{counted_len}

abbrev pub is_long_token : Expanded → Option Token → Bool
is_long_token e None = false
is_long_token e (Some token) = nat_lt 1024 (counted_len token.kind (token_bytes e.files token))

-- whether the token with this index is a word or a string that is too long
abbrev pub is_long : Expanded → ℕ → Bool
is_long e at = is_long_token e (slice_get e.tokens at)

abbrev pub IsLong : Expanded → ℕ → Type 0
IsLong e at = is_long e at ≡ true

-- the lowest number of which something holds, or None where it holds of none
abbrev pub IsFirst : (ℕ → Type 0) → Option ℕ → Type 0
IsFirst P None = (i : ℕ) → P i → ⊥
IsFirst P (Some i) = P i × ((j : ℕ) → P j → i ≤ j)

abbrev pub stands_at : FaultCode → ℕ → Standing
stands_at code at = record { code = code; at = at }

-- the fault of a code, where there is one
abbrev pub first_of : FaultCode → Option ℕ → Option Standing
first_of code None = None
first_of code (Some at) = Some (stands_at code at)

-- the one at the lower token, and the first where both are at one
abbrev pub sooner : Option Standing → Option Standing → Option Standing
sooner None b = b
sooner (Some a) None = Some a
sooner (Some a) (Some b) = if nat_lt b.at a.at then Some b else Some a

-- of three that may be missing: of depth, of length, and of the number of modules
abbrev pub earliest : Option ℕ → Option ℕ → Option ℕ → Option Standing
earliest deep long extra = sooner (first_of TooDeep deep) (sooner (first_of TooLong long) (first_of ModulesMany extra))

-- the fault with the place of its token
pub record IsFaultAt (e : Expanded) (stands : Standing) (f : Fault) : Type 0 where
  pub phase : f.phase ≡ phase.Size
  pub code : f.code ≡ stands.code
  pub at : f.at ≡ stands.at
  pub token : Token
  pub token_is : slice_get e.tokens f.at ≡ Some token
  pub place : f.place ≡ token.place
