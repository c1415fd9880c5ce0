-- Tokens with their bytes, and what they are to the expansion: directives, uses of macros, names (Compiler directives).
use Rattle.std.specs.Prelude.{ℕ, ◌-◌, Bool, true, false, ◌==◌, List, [], ◌∷◌, map, length, take, drop, Option, Some, None, if◌then◌else◌, codes}
use Rattle.std.specs.List.{list_any}
use Rattle.std.specs.Str.{bytes_eq}
use Rattle.va_base.specs.declared.token.Token.{Token}
use Rattle.va_base.specs.declared.token.TokenKind.{TokenKind}
use Rattle.va_base.specs.declared.token.TokenKind.TheVariants.{Word, System, Tick, Number, Text, Mark, Newline, Bad, End}
use Rattle.va_preproc.specs.declared.directive.Directive.{Directive}
use Rattle.va_preproc.specs.declared.directive.Directive.TheVariants.{Define, Undef, Ifdef, Ifndef, Elsif, Else, Endif, Include, Ignored}

-- a name's bytes
abbrev pub Bytes : Type 0
Bytes = List ℕ

-- a token and the bytes that spell it
pub record Lexeme : Type 0 where
  pub token : Token
  pub bytes : Bytes

-- the tokens of a file with their bytes
abbrev pub lexemes_of : Bytes → List Token → List Lexeme
lexemes_of bytes = map (λ token. record { token = token; bytes = take token.len (drop token.first bytes) })

-- these bytes spell the token
abbrev pub is_spelled : Bytes → Lexeme → Bool
is_spelled bytes t = bytes_eq t.bytes bytes

-- a name is among some names
abbrev pub is_among : List Bytes → Bytes → Bool
is_among names name = list_any (bytes_eq name) names

-- what stands under a name; of two with one name the first counts
abbrev pub found : {T : Type 0} → List (Bytes × T) → Bytes → Option T
found [] name = None
found (entry ∷ entries) name = if bytes_eq entry.0 name then Some entry.1 else found entries name

-- the directives by their names; those from `timescale` on have no effect here
abbrev pub directives : List (Bytes × Directive)
directives =
    (codes "define", Define) ∷ (codes "undef", Undef) ∷ (codes "ifdef", Ifdef) ∷ (codes "ifndef", Ifndef) ∷ (codes "elsif", Elsif)
    ∷ (codes "else", Else) ∷ (codes "endif", Endif) ∷ (codes "include", Include) ∷ (codes "timescale", Ignored)
    ∷ (codes "default_discipline", Ignored) ∷ (codes "default_transition", Ignored) ∷ (codes "default_nettype", Ignored)
    ∷ (codes "resetall", Ignored) ∷ (codes "begin_keywords", Ignored) ∷ (codes "end_keywords", Ignored)
    ∷ (codes "celldefine", Ignored) ∷ (codes "endcelldefine", Ignored) ∷ []

abbrev pub directive_of : Bytes → Option Directive
directive_of = found directives

-- a word without the `\` of its second form
abbrev pub unescaped : Bytes → Bytes
unescaped [] = []
unescaped (c ∷ rest) = if c == 92 then rest else c ∷ rest

-- What a token is to the expansion: a line's end, a directive, a use of a macro by its name, a name, or another token.
pub data Role : Type 0 where
  line_end : Role
  a_directive : Directive → Role
  a_use : Bytes → Role
  a_name : Bytes → Role
  another : Role

-- a backquote with a name: a directive's, or else a macro's
abbrev pub tick_role : Option Directive → Bytes → Role
tick_role None bytes = a_use bytes
tick_role (Some d) bytes = a_directive d

abbrev pub role_by : TokenKind → Bytes → Role
role_by Word bytes = a_name (unescaped bytes)
role_by System bytes = another
role_by Tick bytes = tick_role (directive_of (drop 1 bytes)) (drop 1 bytes)
role_by Number bytes = another
role_by Text bytes = another
role_by Mark bytes = another
role_by Newline bytes = line_end
role_by Bad bytes = another
role_by End bytes = another

abbrev pub role_of : Lexeme → Role
role_of t = role_by t.token.kind t.bytes

-- the name that a token is, if it is one
abbrev pub name_by : Role → Option Bytes
name_by (a_name bytes) = Some bytes
name_by _ = None

abbrev pub name_of : Lexeme → Option Bytes
name_of t = name_by (role_of t)

abbrev pub is_line_end_by : Role → Bool
is_line_end_by line_end = true
is_line_end_by _ = false

abbrev pub is_line_end : Lexeme → Bool
is_line_end t = is_line_end_by (role_of t)

-- what stands between the quotes of a string
abbrev pub content_by : TokenKind → Bytes → Option Bytes
content_by Text bytes = Some (take (length bytes - 2) (drop 1 bytes))
content_by _ bytes = None

abbrev pub content_of : Lexeme → Option Bytes
content_of t = content_by t.token.kind t.bytes
