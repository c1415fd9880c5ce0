-- How the expansion reads and gives tokens: its state, where it stops, and both counts.
use Rattle.std.specs.Prelude.{ℕ, zero, suc, List, [], ◌∷◌, ◌++◌, length, Option, Some, None, Result, Ok, Err}
use Rattle.va_base.specs.declared.place.Place.{Place}
use Rattle.va_base.specs.declared.token.Token.{Token}
use Rattle.va_base.specs.declared.token.TokenKind.{TokenKind}
use Rattle.va_base.specs.declared.token.TokenKind.TheVariants.{Bad}
use Rattle.va_base.specs.declared.fault.Fault.{Fault}
use Rattle.va_base.specs.declared.fault.FaultCode.{FaultCode}
use Rattle.va_base.specs.declared.fault.FaultCode.TheVariants.{BadToken, TokensMany}
use Rattle.va_base.specs.declared.fault.Phase.TheVariants.{Expand}
use Rattle.va_preproc.specs.Lexemes.{Bytes, Lexeme}

-- a macro: its formals, where it was defined with a list of them, and its body
pub record Macro : Type 0 where
  pub formals : Option (List Bytes)
  pub body : List Lexeme

-- the macros by their names
abbrev pub Macros : Type 0
Macros = Bytes → Option Macro

-- The state of an expansion.
pub record State : Type 0 where
  -- the macros that are defined now
  pub macros : Macros
  -- the names of the files that were read, in order; a file's number is its place in this list
  pub asked : List Bytes
  -- how many tokens may still be read, line ends, skipped tokens and those that formals give among them
  pub unread : ℕ
  -- the tokens of the result so far
  pub result : List Token
  -- how many tokens the result may still take
  pub free : ℕ
  -- while an argument is expanded, what it gave so far; tokens then go there, and not to the result
  pub argument : Option (List Lexeme)

-- where an expansion stops: its fault, and the names that it read until then
pub record Stop : Type 0 where
  pub fault : Fault
  pub asked : List Bytes

-- what a step gives, or where the expansion stops
abbrev pub Step : Type 0 → Type 0
Step T = Result T Stop

-- one step after another
infixl 1 ◌>>=◌
abbrev pub ◌>>=◌ : {T U : Type 0} → Step T → (T → Step U) → Step U
◌>>=◌ (Ok value) next = next value
◌>>=◌ (Err stop) next = Err stop

-- the expansion stops at a fault; `at` is the number of tokens of the result
abbrev pub stopped : {T : Type 0} → FaultCode → Place → State → Step T
stopped code place s = Err (record {
  fault = record { phase = Expand; at = length s.result; place = place; code = code };
  asked = s.asked;
})

abbrev pub read_one_of : ℕ → Place → State → Step State
read_one_of zero place s = stopped TokensMany place s
read_one_of (suc more) place s = Ok (record s { unread = more })

-- one token is read: too many are TokensMany, before anything else is looked at
abbrev pub read_one : Place → State → Step State
read_one place s = read_one_of s.unread place s

-- so many tokens are read from the front of a list, each with its place for a fault
abbrev pub read_some : (Lexeme → Place) → ℕ → List Lexeme → State → Step State
read_some blamed n [] s = Ok s
read_some blamed zero (t ∷ rest) s = Ok s
read_some blamed (suc n) (t ∷ rest) s = read_one (blamed t) s >>= read_some blamed n rest

abbrev pub own_place : Lexeme → Place
own_place t = t.token.place

-- a token with its place in the result
abbrev pub placed : Place → Token → Token
placed place token = record token { place = place }

-- a token reaches the result: a Bad one is BadToken
abbrev pub give_to_result : TokenKind → ℕ → Lexeme → Place → State → Step State
give_to_result Bad more t place s = stopped BadToken place s
give_to_result _ more t place s = Ok (record s { result = s.result ++ placed place t.token ∷ []; free = more })

abbrev pub give_where : Option (List Lexeme) → ℕ → Lexeme → Place → State → Step State
give_where (Some given) free t place s = Ok (record s { argument = Some (given ++ t ∷ []) })
give_where None zero t place s = stopped TokensMany place s
give_where None (suc more) t place s = give_to_result t.token.kind more t place s

-- A token is given to the argument that is expanded, or else to the result. In the result it has the place of the outermost
-- use, or its own where it comes from no macro; there too many are TokensMany, and then a Bad one is BadToken.
abbrev pub give : Place → Lexeme → State → Step State
give place t s = give_where s.argument s.free t place s

-- tokens that a formal gives: each is read and given
abbrev pub give_all : Place → List Lexeme → State → Step State
give_all place [] s = Ok s
give_all place (t ∷ rest) s = read_one place s >>= give place t >>= give_all place rest
