-- The tokens of bodies and arguments are tokens of the list from which they are read.
use Rattle.std.proofs.Common.{◌+◌, ℕ, List, [], ◌∷◌, drop}
use Rattle.std.specs.Prelude.{Option, Some, None, Bool, true, false, option_map, if◌then◌else◌}
use Rattle.std.specs.List.{onto_first, zip}
use Rattle.va_preproc.specs.Lexemes.{Bytes, Lexeme, found, is_line_end, is_spelled}
use Rattle.va_preproc.specs.Definitions.{Form, Definition, body_form, after_formals, list_or_body, after_name, definition_form, macro_name}
use Rattle.va_preproc.specs.Uses.{Part, list_end, argument_end, part_of_argument, part, arguments_from, arguments_form, list_from, list_form, matching}
use Rattle.va_preproc.proofs.Each.{Each, InOption, each_take, each_drop}

-- a choice of two
pub if_option : {X : Type 0} (P : X → Type 0) (test : Bool) (yes_case no_case : Option X)
    → InOption P yes_case → InOption P no_case → InOption P (if test then yes_case else no_case)
if_option P true a b p q = p
if_option P false a b p q = q

module _ (P : Lexeme → Type 0) where
  abbrev pub Lists : Form (List (List Lexeme)) → Type 0
  Lists form = InOption (Each (Each P)) form.meaning

  map_lists : (change : List (List Lexeme) → List (List Lexeme)) (o : Option (List (List Lexeme)))
      → ((lists : List (List Lexeme)) → Each (Each P) lists → Each (Each P) (change lists))
      → InOption (Each (Each P)) o → InOption (Each (Each P)) (option_map change o)
  map_lists change None f h = tt
  map_lists change (Some lists) f h = f lists h

  onto_keeps : (t : Lexeme) (lists : List (List Lexeme)) → P t → Each (Each P) lists → Each (Each P) (onto_first t lists)
  onto_keeps t [] p h = ((p, tt), tt)
  onto_keeps t (first ∷ lists) p h = ((p, h.0), h.1)

  arguments_from_keeps : (p : Part) (t : Lexeme) (after : ℕ → Form (List (List Lexeme))) → P t
      → ((n : ℕ) → Lists (after n)) → Lists (arguments_from p t after)
  arguments_from_keeps list_end t after p h = (tt, tt)
  arguments_from_keeps argument_end t after p h = map_lists (λ lists. [] ∷ lists) (after 0).meaning (λ lists e. (tt, e)) (h 0)
  arguments_from_keeps (part_of_argument n) t after p h =
      map_lists (onto_first t) (after n).meaning (λ lists e. onto_keeps t lists p e) (h n)

  arguments_keep : (pairs : ℕ) (ts : List Lexeme) → Each P ts → Lists (arguments_form pairs ts)
  arguments_keep pairs [] e = tt
  arguments_keep pairs (t ∷ rest) e =
      arguments_from_keeps (part pairs t) t (λ more. arguments_form more rest) e.0 (λ more. arguments_keep more rest e.1)

  list_from_keeps : (ends is_open : Bool) (same : ℕ → Form (List (List Lexeme))) (rest : List Lexeme) → Each P rest
      → Lists (same 0) → Lists (list_from ends is_open same rest)
  list_from_keeps true is_open same rest e h = map_lists (λ lists. lists) (same 0).meaning (λ lists e. e) h
  list_from_keeps false true same rest e h =
      map_lists (λ lists. lists) (arguments_form 0 rest).meaning (λ lists e. e) (arguments_keep 0 rest e)
  list_from_keeps false false same rest e h = tt

  pub list_keeps : (ts : List Lexeme) → Each P ts → Lists (list_form ts)
  list_keeps [] e = tt
  list_keeps (t ∷ rest) e =
      list_from_keeps (is_line_end t) (is_spelled _ t) (λ none. list_form rest) rest e.1 (list_keeps rest e.1)

  matching_keeps_by : (test : Bool) (lists : List (List Lexeme)) → Each (Each P) lists
      → InOption (Each (Each P)) (if test then Some lists else None)
  matching_keeps_by true lists h = h
  matching_keeps_by false lists h = tt

  pub matching_keeps : (formals : List Bytes) (o : Option (List (List Lexeme))) → InOption (Each (Each P)) o
      → InOption (Each (Each P)) (matching formals o)
  matching_keeps formals None h = tt
  matching_keeps formals (Some lists) h = matching_keeps_by _ lists h

  abbrev pub Formals : List (Bytes × List Lexeme) → Type 0
  Formals = Each (λ formal. Each P formal.1)

  pub zip_keeps : (formals : List Bytes) (lists : List (List Lexeme)) → Each (Each P) lists → Formals (zip formals lists)
  zip_keeps [] lists h = tt
  zip_keeps (f ∷ formals) [] h = tt
  zip_keeps (f ∷ formals) (l ∷ lists) h = (h.0, zip_keeps formals lists h.1)

  pub found_keeps : (formals : List (Bytes × List Lexeme)) (name : Bytes) → Formals formals → InOption (Each P) (found formals name)
  found_keeps [] name h = tt
  found_keeps (f ∷ formals) name h = if_option (Each P) _ (Some f.1) (found formals name) h.0 (found_keeps formals name h.1)

  abbrev pub Body : Form Definition → Type 0
  Body form = InOption (λ definition. Each P definition.1.body) form.meaning

  body_keeps : (name : Bytes) (formals : Option (List Bytes)) (taken : ℕ) (rest : List Lexeme) → Each P rest
      → Body (body_form name formals taken rest)
  body_keeps name formals taken rest e = each_take P _ rest e

  after_formals_keeps : (name : Bytes) (rest : List Lexeme) (taken : ℕ) (o : Option (List Bytes)) → Each P rest
      → Body (after_formals name rest taken o)
  after_formals_keeps name rest taken None e = tt
  after_formals_keeps name rest taken (Some names) e = body_keeps name (Some names) (2 + taken) (drop taken rest) (each_drop P taken rest e)

  list_or_body_keeps : (test : Bool) (name : Bytes) (ts rest : List Lexeme) → Each P ts → Each P rest → Body (list_or_body test name ts rest)
  list_or_body_keeps true name ts rest e f = after_formals_keeps name rest _ _ f
  list_or_body_keeps false name ts rest e f = body_keeps name None 1 ts e

  after_name_keeps : (t : Lexeme) (rest : List Lexeme) (o : Option Bytes) → Each P rest → Body (after_name t rest o)
  after_name_keeps t rest None e = tt
  after_name_keeps t [] (Some name) e = tt
  after_name_keeps t (u ∷ rest) (Some name) e = list_or_body_keeps _ name (u ∷ rest) rest e e.1

  pub definition_keeps : (ts : List Lexeme) → Each P ts → Body (definition_form ts)
  definition_keeps [] e = tt
  definition_keeps (t ∷ rest) e = after_name_keeps t rest (macro_name t) e.1
