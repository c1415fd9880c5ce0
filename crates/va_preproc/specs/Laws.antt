-- What is known of every expansion.
use Rattle.std.specs.Prelude.{◌≡◌, ◌⊎◌, ◌≤◌, ◌<◌, ◌+◌, ℕ, List, [], ◌∷◌, ◌++◌, length, take, drop, Some, IsTrue, IsSome, All, Contains, slice_get}
use Rattle.va_base.specs.declared.token.Token.{Token}
use Rattle.va_base.specs.declared.token.TokenKind.TheVariants.{Number, End}
use Rattle.va_base.specs.declared.fault.FaultCode.{FaultCode}
use Rattle.va_base.specs.declared.fault.FaultCode.TheVariants.{MacroDeep, IncludeDeep}
use Rattle.va_base.specs.declared.fault.Phase.TheVariants.{Expand}
use Rattle.va_base.specs.Faults.{number_of_code}
use Rattle.va_base.specs.declared.expanded.Expanded.{Expanded}
use Rattle.va_base.specs.Expansion.{is_kept, IsExpanded}
use Rattle.va_base.specs.Spelling.{spells}
use Rattle.va_base.specs.Numerals.{decimal_of}
use Rattle.va_io.specs.Outside.{Holdings}
use Rattle.va_preproc.specs.Lexemes.{Bytes}
use Rattle.va_preproc.specs.Reading.{placed, Stop}
use Rattle.va_preproc.specs.Expansion.{Limits, Readings, Expansion, lacking, faulty, expanded, expansion_by, expansion, texts, end_token}

-- the tokens of a file have its number, as have their places, and none is End
pub record AreOfFiles (tokens : ℕ → Bytes → List Token) : Type 0 where
  pub numbered : (file : ℕ) (bytes : Bytes) → All (λ t. t.file ≡ file) (tokens file bytes)
  pub placed_in : (file : ℕ) (bytes : Bytes) → All (λ t. t.place.file ≡ file) (tokens file bytes)
  pub no_end : (file : ℕ) (bytes : Bytes) → All (λ t. t.kind ≡ End → ⊥) (tokens file bytes)

-- a token of a file that was read, which had the token's file number
pub record IsOriginal (tokens : ℕ → Bytes → List Token) (readings : Readings) (asked : List Bytes) (t : Token) : Type 0 where
  pub name : Bytes
  pub bytes : Bytes
  pub read : slice_get asked t.file ≡ Some name
  pub holding : readings t.file name ≡ Some bytes
  pub among : Contains (tokens t.file bytes) t

-- A token of a result: it is a token of a file that was read, but for its place, and is of a kind that is left.
pub record ComesFrom (tokens : ℕ → Bytes → List Token) (readings : Readings) (asked : List Bytes) (t : Token) : Type 0 where
  pub original : Token
  pub is : IsOriginal tokens readings asked original
  pub same : t ≡ placed t.place original
  pub kept : IsTrue (is_kept original.kind)

-- The files that were read were found, the main one is the first; the result ends at the end of the main file, its other
-- tokens come from the files, and there are no more of them than the limit allows.
pub record IsResult (most : Limits) (tokens : ℕ → Bytes → List Token) (readings : Readings) (main : Bytes) (result : List Token) (asked : List Bytes) : Type 0 where
  pub bytes : Bytes
  pub main_file : readings 0 main ≡ Some bytes
  pub first : slice_get asked 0 ≡ Some main
  pub before : List Token
  pub ends : result ≡ before ++ end_token bytes ∷ []
  pub each : All (ComesFrom tokens readings asked) before
  pub few : length before ≤ most.result

-- each expansion that is not refused gives such a result
abbrev pub GivesResults : Type 0
GivesResults =
    (most : Limits) (tokens : ℕ → Bytes → List Token) (readings : Readings) (main : Bytes) (result : List Token) (asked : List Bytes)
    → AreOfFiles tokens → expansion_by most tokens readings main ≡ expanded result asked → IsResult most tokens readings main result asked

-- a token of a text: its bytes lie there and spell it, and a numeral lies within the limits
pub record IsTokenOf (bytes : Bytes) (t : Token) : Type 0 where
  pub lies : t.first + t.len ≤ length bytes
  pub spelled : IsTrue (is_kept t.kind) → IsTrue (spells t.kind (take t.len (drop t.first bytes)))
  pub limited : t.kind ≡ Number → IsSome (decimal_of (take t.len (drop t.first bytes)))

-- the tokens of a file are tokens of its text
pub record AreTokens (tokens : ℕ → Bytes → List Token) : Type 0 where
  pub of_files : AreOfFiles tokens
  pub of_texts : (file : ℕ) (bytes : Bytes) → All (IsTokenOf bytes) (tokens file bytes)

-- each expansion that is not refused gives, with the files that it read, a text after expansion
abbrev pub GivesExpanded : Type 0
GivesExpanded =
    (holds : Holdings) (main : Bytes) (result : List Token) (asked : List Bytes)
    → expansion holds main ≡ expanded result asked
    → IsExpanded (let e : Expanded = record { tokens = result; files = texts holds asked } in e)

-- A fault of an expansion: it has the expansion's phase and one of its codes, stands in a file that was read, of which the
-- main file is the first, and comes after no more tokens than a result may have.
pub record IsFault (most : Limits) (main : Bytes) (stop : Stop) : Type 0 where
  pub phase : stop.fault.phase ≡ Expand
  pub code : number_of_code stop.fault.code ≤ 11
  pub first : slice_get stop.asked 0 ≡ Some main
  pub inside : stop.fault.place.file < length stop.asked
  pub few : stop.fault.at ≤ most.result

-- each expansion that is refused has such a fault
abbrev pub GivesFaults : Type 0
GivesFaults =
    (most : Limits) (tokens : ℕ → Bytes → List Token) (readings : Readings) (main : Bytes) (stop : Stop)
    → AreOfFiles tokens → expansion_by most tokens readings main ≡ faulty stop → IsFault most main stop

-- the fault of a limit on what is open at once
abbrev pub IsDeepCode : FaultCode → Type 0
IsDeepCode code = (code ≡ MacroDeep) ⊎ (code ≡ IncludeDeep)

abbrev pub IsTooDeep : Expansion → Type 0
IsTooDeep (lacking main) = ⊥
IsTooDeep (faulty stop) = IsDeepCode stop.fault.code
IsTooDeep (expanded result asked) = ⊥

-- The numbers of uses and includes that may be open are limits and nothing else: an expansion that none of them refuses is
-- the same where more may be open.
abbrev pub DepthsOnlyRefuse : Type 0
DepthsOnlyRefuse =
    (most : Limits) (uses includes : ℕ) (tokens : ℕ → Bytes → List Token) (readings : Readings) (main : Bytes)
    → most.uses ≤ uses → most.includes ≤ includes
    → IsTooDeep (expansion_by most tokens readings main)
    ⊎ (expansion_by (record most { uses = uses; includes = includes }) tokens readings main ≡ expansion_by most tokens readings main)
