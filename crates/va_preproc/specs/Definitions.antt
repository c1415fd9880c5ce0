-- The forms of directives (`define and `undef, Conditional compilation, `include): how many of the tokens after a directive
-- are read until its form is known, and what they say, if they are of the form.
use Rattle.std.specs.Prelude.{ℕ, ◌+◌, Bool, true, false, not, ◌==◌, ◌&&◌, List, [], ◌∷◌, ◌++◌, length, drop, Option, Some, None, if◌then◌else◌, codes}
use Rattle.std.specs.List.{take_while}
use Rattle.std.specs.Str.{is_utf8}
use Rattle.std.specs.Option.{is_some}
use Rattle.va_preproc.specs.Lexemes.{Bytes, Lexeme, is_spelled, is_among, directive_of, name_of, is_line_end, content_of}
use Rattle.va_preproc.specs.Reading.{Macro}

-- how many tokens are read, and what they say
pub record Form (T : Type 0) : Type 0 where
  pub taken : ℕ
  pub meaning : Option T

-- the tokens up to the line's end
abbrev pub line : List Lexeme → List Lexeme
line = take_while (λ t. not (is_line_end t))

-- the next token, read in some way; at the end of a list there is none to read
abbrev pub next_token : {T : Type 0} → (Lexeme → Option T) → List Lexeme → Form T
next_token meaning [] = record { taken = 0; meaning = None }
next_token meaning (t ∷ rest) = record { taken = 1; meaning = meaning t }

-- a name that is no directive's
abbrev pub macro_name_as : Option Bytes → Option Bytes
macro_name_as None = None
macro_name_as (Some name) = if is_some (directive_of name) then None else Some name

abbrev pub macro_name : Lexeme → Option Bytes
macro_name t = macro_name_as (name_of t)

-- a string's content, where it is UTF-8
abbrev pub file_name_as : Option Bytes → Option Bytes
file_name_as None = None
file_name_as (Some content) = if is_utf8 content then Some content else None

abbrev pub file_name : Lexeme → Option Bytes
file_name t = file_name_as (content_of t)

-- a name that is none of these
abbrev pub new_name_as : List Bytes → Option Bytes → Option Bytes
new_name_as seen None = None
new_name_as seen (Some name) = if is_among seen name then None else Some name

-- a list of formals after its `(`: distinct names with commas between them, closed on the line
pub data Separator : Type 0 where
  comma : Separator
  closing : Separator
  neither : Separator

abbrev pub separator : Lexeme → Separator
separator t = if is_spelled (codes ",") t then comma else (if is_spelled (codes ")") t then closing else neither)

abbrev pub after_two : Form (List Bytes) → Form (List Bytes)
after_two form = record form { taken = 2 + form.taken }

-- a name or none, what follows it, the names before it, and what is read from a next name on
abbrev pub formals_from : Option Bytes → Separator → List Bytes → (List Bytes → Form (List Bytes)) → Form (List Bytes)
formals_from None next seen more = record { taken = 1; meaning = None }
formals_from (Some name) comma seen more = after_two (more (seen ++ name ∷ []))
formals_from (Some name) closing seen more = record { taken = 2; meaning = Some (seen ++ name ∷ []) }
formals_from (Some name) neither seen more = record { taken = 2; meaning = None }

abbrev pub formals_form : List Bytes → List Lexeme → Form (List Bytes)
formals_form seen [] = record { taken = 0; meaning = None }
formals_form seen (t ∷ []) = record { taken = 1; meaning = None }
formals_form seen (t ∷ u ∷ rest) =
    formals_from (new_name_as seen (name_of t)) (separator u) seen (λ names. formals_form names rest)

-- a token follows another one with nothing between them
abbrev pub follows_directly : Lexeme → Lexeme → Bool
follows_directly t u = u.token.first == t.token.first + t.token.len

-- a definition's name and its macro
abbrev pub Definition : Type 0
Definition = Bytes × Macro

-- a body is what stands up to the line's end
abbrev pub body_form : Bytes → Option (List Bytes) → ℕ → List Lexeme → Form Definition
body_form name formals taken rest = record {
  taken = taken + length (line rest);
  meaning = Some (name, record { formals = formals; body = line rest });
}

-- after `(`: the formals, and the body if they are a list
abbrev pub after_formals : Bytes → List Lexeme → ℕ → Option (List Bytes) → Form Definition
after_formals name rest taken None = record { taken = 2 + taken; meaning = None }
after_formals name rest taken (Some names) = body_form name (Some names) (2 + taken) (drop taken rest)

-- after a name: whether a list of formals begins, the tokens from there on, and those after the next one
abbrev pub list_or_body : Bool → Bytes → List Lexeme → List Lexeme → Form Definition
list_or_body true name tokens rest =
    let formals = formals_form [] rest in
    after_formals name rest formals.taken formals.meaning
list_or_body false name tokens rest = body_form name None 1 tokens

-- after a name: formals where a `(` follows it directly, and the body
abbrev pub after_name : Lexeme → List Lexeme → Option Bytes → Form Definition
after_name t rest None = record { taken = 1; meaning = None }
after_name t [] (Some name) = body_form name None 1 []
after_name t (u ∷ rest) (Some name) = list_or_body (is_spelled (codes "(") u && follows_directly t u) name (u ∷ rest) rest

-- A definition is a name that is no directive's, directly followed by a parenthesised list of distinct names where the macro
-- has arguments, then the tokens up to the line's end.
abbrev pub definition_form : List Lexeme → Form Definition
definition_form [] = record { taken = 0; meaning = None }
definition_form (t ∷ rest) = after_name t rest (macro_name t)
