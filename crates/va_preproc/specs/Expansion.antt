-- The expansion of a file under a map of files (Compiler directives): a list of tokens or the first fault in reading order,
-- and the names that are read.
use Rattle.std.specs.Prelude.{ℕ, zero, suc, ◌-◌, ◌+◌, Bool, true, false, not, ◌==◌, nat_lt, List, [], ◌∷◌, ◌++◌, map, reverse, length, unwrap_or, Option, Some, None, Ok, Err, if◌then◌else◌, count_by, codes}
use Rattle.std.specs.List.{list_any, prefix_len}
use Rattle.std.specs.Str.{bytes_eq}
use Rattle.va_base.specs.declared.file.FileText.{FileText}
use Rattle.va_base.specs.declared.place.Place.{Place}
use Rattle.va_base.specs.declared.token.Token.{Token}
use Rattle.va_base.specs.declared.token.TokenKind.TheVariants.{End}
use Rattle.va_base.specs.declared.fault.FaultCode.TheVariants as code
use Rattle.va_io.specs.Outside.{Holdings, held}
use Rattle.va_lexer.specs.Tokens.{tokens_of}
use Rattle.va_preproc.specs.declared.directive.Directive.{Directive}
use Rattle.va_preproc.specs.declared.directive.Directive.TheVariants.{Define, Undef, Ifdef, Ifndef, Elsif, Else, Endif, Include, Ignored}
use Rattle.va_preproc.specs.Lexemes.{Bytes, Lexeme, lexemes_of, Role, line_end, a_directive, a_use, a_name, another, role_of}
use Rattle.va_preproc.specs.Reading.{Macro, Macros, State, Stop, Step, ◌>>=◌, stopped, read_one, read_some, own_place, give}
use Rattle.va_preproc.specs.Definitions.{definition_form, next_token, macro_name, file_name, line}
use Rattle.va_preproc.specs.declared.condition.Branch.{Branch}
use Rattle.va_preproc.specs.Conditionals.{is_skipped, Onward, with_form, at_if, at_elsif, at_else, at_endif, all_closed}
use Rattle.va_preproc.specs.Uses.{Use, use_within}

-- the limits of an expansion
pub record Limits : Type 0 where
  -- how many tokens are read
  pub read : ℕ
  -- how many tokens the result has, its end aside
  pub result : ℕ
  -- how many uses of macros are open inside each other
  pub uses : ℕ
  -- how many includes are open inside each other
  pub includes : ℕ
  -- how many bytes a file has
  pub bytes : ℕ

abbrev pub limits : Limits
limits = record { read = 4000000; result = 2000000; uses = 64; includes = 32; bytes = 16777216 }

-- a name means this macro, or none, and other names what they meant
abbrev pub with_macro : Bytes → Option Macro → Macros → Macros
with_macro name macro macros other = if bytes_eq other name then macro else macros other

-- a file's name up to and including its last `/`
abbrev pub folder : Bytes → Bytes
folder [] = []
folder (c ∷ rest) = if list_any (λ byte. byte == 47) (c ∷ rest) then c ∷ folder rest else []

-- the name of an included file, by that of the including one and the string
abbrev pub included_name : Bytes → Bytes → Bytes
included_name including [] = folder including
included_name including (c ∷ rest) = if c == 47 then c ∷ rest else folder including ++ c ∷ rest

-- the file goes on after these tokens
abbrev pub onward : ℕ → List Branch → State → Step Onward
onward taken branches s = Ok (record { taken = taken; branches = branches; state = s })

-- skipped, a token does nothing
abbrev pub skip_or : Bool → List Branch → State → (List Branch → State → Step Onward) → Step Onward
skip_or true branches s next = onward 0 branches s
skip_or false branches s next = next branches s

-- What an include does, by the file's name and the place of the directive.
abbrev pub Included : Type 0
Included = Bytes → Place → State → Step State

-- The tokens of a file of this name, in which uses and includes do so.
module _ (at_use : Use) (at_include : Included) (name : Bytes) where
  -- a later definition of a name replaces an earlier one
  abbrev pub at_define : Lexeme → List Lexeme → List Branch → State → Step Onward
  at_define t rest branches =
      let form = definition_form rest in
      with_form form code.Directive t rest (λ definition s.
      onward form.taken branches (record s { macros = with_macro definition.0 (Some definition.1) s.macros }))

  -- `undef` of a name that isn't defined has no effect
  abbrev pub at_undef : Lexeme → List Lexeme → List Branch → State → Step Onward
  at_undef t rest branches =
      with_form (next_token macro_name rest) code.Directive t rest (λ macro s.
      onward 1 branches (record s { macros = with_macro macro None s.macros }))

  -- `include` takes a string, the next token of its line; what follows on the line is read after the file
  abbrev pub at_file_name : Lexeme → List Lexeme → List Branch → State → Step Onward
  at_file_name t rest branches =
      with_form (next_token file_name rest) code.Directive t rest (λ file s.
      at_include (included_name name file) (own_place t) s >>= onward 1 branches)

  -- directives without effect are read to the end of their line
  abbrev pub at_ignored : List Lexeme → List Branch → State → Step Onward
  at_ignored rest branches s =
      let taken = length (line rest) in
      read_some own_place taken rest s >>= onward taken branches

  -- in skipped text only the directives of conditional text are looked at
  abbrev pub unless_skipped : List Branch → State → (List Branch → State → Step Onward) → Step Onward
  unless_skipped branches s next = skip_or (is_skipped branches) branches s next

  abbrev pub at_directive : Directive → Lexeme → List Lexeme → List Branch → State → Step Onward
  at_directive Define t rest branches s = unless_skipped branches s (at_define t rest)
  at_directive Undef t rest branches s = unless_skipped branches s (at_undef t rest)
  at_directive Ifdef t rest branches s = at_if (λ defined. defined) t rest branches s
  at_directive Ifndef t rest branches s = at_if not t rest branches s
  at_directive Elsif t rest branches s = at_elsif t rest branches s
  at_directive Else t rest branches s = at_else t branches s
  at_directive Endif t rest branches s = at_endif t branches s
  at_directive Include t rest branches s = unless_skipped branches s (at_file_name t rest)
  at_directive Ignored t rest branches s = unless_skipped branches s (at_ignored rest)

  -- a use that stands in a file is the outermost one
  abbrev pub at_outermost : Bytes → Lexeme → List Lexeme → List Branch → State → Step Onward
  at_outermost macro t rest branches s =
      at_use (record { outermost = own_place t; opened = []; formals = [] }) macro rest s
      >>= λ next. onward next.0 branches next.1

  -- a token that is read: what it is to the expansion
  abbrev pub at_token : Role → Lexeme → List Lexeme → List Branch → State → Step Onward
  at_token line_end t rest branches s = onward 0 branches s
  at_token (a_directive d) t rest branches s = at_directive d t rest branches s
  at_token (a_use macro) t rest branches s = unless_skipped branches s (at_outermost macro t rest)
  at_token (a_name word) t rest branches s = unless_skipped branches s (λ branches s. give (own_place t) t s >>= onward 0 branches)
  at_token another t rest branches s = unless_skipped branches s (λ branches s. give (own_place t) t s >>= onward 0 branches)

  -- from a token of the file on, where so many were read by the directive or the use before it; conditionals are closed in
  -- the file that opens them
  abbrev pub expand_file : ℕ → List Lexeme → List Branch → State → Step State
  expand_file taken [] branches s = all_closed branches s
  expand_file (suc taken) (t ∷ rest) branches s = expand_file taken rest branches s
  expand_file zero (t ∷ rest) branches s =
      read_one (own_place t) s
      >>= at_token (role_of t) t rest branches
      >>= λ next. expand_file next.taken rest next.branches next.state

-- the place at which a file begins
abbrev pub first_place : ℕ → Place
first_place file = record { file = file; line = 1; col = 1 }

-- the place after a file's last byte
abbrev pub last_place : ℕ → Bytes → Place
last_place file bytes = record {
  file = file;
  line = 1 + count_by (λ byte. byte == 10) bytes;
  col = 1 + prefix_len (λ byte. not (byte == 10)) (reverse bytes);
}

abbrev pub end_token : Bytes → Token
end_token bytes = record { kind = End; file = 0; first = length bytes; len = 0; place = last_place 0 bytes }

-- the name is read
abbrev pub asking : Bytes → State → State
asking name s = record s { asked = s.asked ++ name ∷ [] }

-- what is defined at the start, with empty bodies
abbrev pub start_macros : Macros
start_macros =
    with_macro (codes "__VAMS_ENABLE__") (Some (record { formals = None; body = [] }))
    (with_macro (codes "__VAMS_COMPACT_MODELING__") (Some (record { formals = None; body = [] })) (λ name. None))

abbrev pub start : Limits → State
start most = record { macros = start_macros; asked = []; unread = most.read; result = []; free = most.result; argument = None }

-- what the read of a number, from 0, finds under a name
abbrev pub Readings : Type 0
Readings = ℕ → Bytes → Option Bytes

-- Expansions over what reads find, where `tokens` are those of a file of a number by its bytes.
module _ (most : Limits) (tokens : ℕ → Bytes → List Token) (readings : Readings) where
  -- a file that was read, past its limit or not
  abbrev pub unless_large : Bool → Included → Bytes → Bytes → ℕ → State → Step State
  unless_large true at_include name bytes file s = stopped code.FileLarge (first_place file) s
  unless_large false at_include name bytes file s =
      expand_file (use_within most.uses) at_include name 0 (lexemes_of bytes (tokens file bytes)) [] s

  -- a file that was read: past its limit it is FileLarge at its first place; else its tokens are expanded
  abbrev pub expand_bytes : Included → Bytes → Bytes → State → Step State
  expand_bytes at_include name bytes s =
      unless_large (nat_lt most.bytes (length bytes)) at_include name bytes (length s.asked - 1) s

  -- an include that is read
  abbrev pub include_of : Option Bytes → Included → Included
  include_of None at_include name place s = stopped code.MissingInclude place s
  include_of (Some bytes) at_include name place s = expand_bytes at_include name bytes s

  -- an include where so many may be open inside each other from here on, itself among them
  abbrev pub include_within : ℕ → Included
  include_within zero name place s = stopped code.IncludeDeep place s
  include_within (suc more) name place s = include_of (readings (length s.asked) name) (include_within more) name place (asking name s)

-- What an expansion gives: there is no main file; or the first fault in reading order; or the tokens, of which the last is
-- End. With a fault and with the tokens go the names that were read.
pub data Expansion : Type 0 where
  lacking : Bytes → Expansion
  faulty : Stop → Expansion
  expanded : List Token → List Bytes → Expansion

abbrev pub ended : Bytes → Step State → Expansion
ended bytes (Err stop) = faulty stop
ended bytes (Ok s) = expanded (s.result ++ end_token bytes ∷ []) s.asked

-- of a main file by its bytes
abbrev pub expansion_of : Option Bytes → Limits → (ℕ → Bytes → List Token) → Readings → Bytes → Expansion
expansion_of None most tokens readings main = lacking main
expansion_of (Some bytes) most tokens readings main =
    ended bytes (expand_bytes most tokens readings (include_within most tokens readings most.includes) main bytes (asking main (start most)))

-- the expansion of a main file over what reads find, the first of which is that of the main file
abbrev pub expansion_by : Limits → (ℕ → Bytes → List Token) → Readings → Bytes → Expansion
expansion_by most tokens readings main = expansion_of (readings 0 main) most tokens readings main

-- each read finds what is held
abbrev pub in_holdings : Holdings → Readings
in_holdings holds number name = held holds name

-- the expansion of a main file within limits
abbrev pub expansion_within : Limits → (ℕ → Bytes → List Token) → Holdings → Bytes → Expansion
expansion_within most tokens holds main = expansion_by most tokens (in_holdings holds) main

-- the expansion of a main file
abbrev pub expansion : Holdings → Bytes → Expansion
expansion = expansion_within limits tokens_of

-- the files of these names with what is held of them, by their numbers
abbrev pub texts : Holdings → List Bytes → List FileText
texts holds = map (λ name. record { name = name; bytes = unwrap_or (held holds name) [] })

-- the names that an expansion reads: the main file, then each include when it is reached, up to the end or the first fault
abbrev pub reads : Expansion → List Bytes
reads (lacking main) = main ∷ []
reads (faulty stop) = stop.asked
reads (expanded tokens asked) = asked
