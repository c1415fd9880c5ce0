-- The faults of size: of depth, of length, and of the number of modules.
use Rattle.std.specs.Prelude.{◌≡◌, ◌<◌, ◌+◌, ◌-◌, ◌==◌, if◌then◌else◌, ℕ, List, [], ◌∷◌, length, Some, Contains, slice_get}
use Rattle.va_base.specs.declared.expanded.Expanded.{Expanded}
use Rattle.va_base.specs.declared.fault.Fault.{Fault}
use Rattle.va_base.specs.declared.fault.FaultCode.{FaultCode}
use Rattle.va_base.specs.declared.fault.FaultCode.TheVariants.{TooDeep, TooLong, ModulesMany}
use Rattle.va_base.specs.declared.fault.Phase.TheVariants as phase
use Rattle.va_base.specs.declared.token.Token.{Token}
use Rattle.va_base.specs.declared.token.TokenKind.{TokenKind}
use Rattle.va_base.specs.declared.token.TokenKind.TheVariants.{Word, System, Tick, Number, Text, Mark, Newline, Bad, End}
use Rattle.va_base.specs.Expansion.{token_bytes}
use Rattle.va_base.specs.Faults.{ComesBefore}
use Rattle.va_tree.specs.declared.module.Module.{Module}
use Rattle.va_tree.specs.declared.source.Source.{Source}
use Rattle.va_tree.specs.Nodes.{node, nodes_of_source}

-- the number of a word's bytes without the `\` of its escaped form
abbrev pub word_len : List ℕ → ℕ
word_len [] = 0
word_len (byte ∷ rest) = if byte == 92 then length rest else length rest + 1

-- the length of a token that the limit counts: of a word, and of a string between its quotes; others have none
abbrev pub counted_len : TokenKind → List ℕ → ℕ
counted_len Word bytes = word_len bytes
counted_len System bytes = 0
counted_len Tick bytes = 0
counted_len Number bytes = 0
counted_len Text bytes = length bytes - 2
counted_len Mark bytes = 0
counted_len Newline bytes = 0
counted_len Bad bytes = 0
counted_len End bytes = 0

-- Which faults of size stand at which token of a text, given its tokens and its tree.
pub data SizeFault (e : Expanded) (s : Source) : ℕ → FaultCode → Type 0 where
  -- a node of depth 501 begins there
  too_deep : {at : ℕ} → Contains (nodes_of_source s) (node at 501) → SizeFault e s at TooDeep
  -- a word or a string of more than 1024 bytes stands there
  too_long : {at : ℕ} {token : Token} → slice_get e.tokens at ≡ Some token → 1024 < counted_len token.kind (token_bytes e.files token) → SizeFault e s at TooLong
  -- the name of the 65th module stands there
  modules_many : {m : Module} → slice_get s.modules 64 ≡ Some m → SizeFault e s m.at ModulesMany

-- a fault of size that stands, with the place of its token
pub record SizeFaultStands (e : Expanded) (s : Source) (f : Fault) : Type 0 where
  pub phase : f.phase ≡ phase.Size
  pub stands : SizeFault e s f.at f.code
  pub token : Token
  pub token_is : slice_get e.tokens f.at ≡ Some token
  pub place : f.place ≡ token.place

-- The answered one: it stands, and none that stands comes before it.
pub record LeastSizeFault (e : Expanded) (s : Source) (f : Fault) : Type 0 where
  pub stands : SizeFaultStands e s f
  pub least : (g : Fault) → SizeFaultStands e s g → ComesBefore g f → ⊥

-- no fault of size stands
abbrev pub IsWithinSize : Expanded → Source → Type 0
IsWithinSize e s = (at : ℕ) (code : FaultCode) → SizeFault e s at code → ⊥
