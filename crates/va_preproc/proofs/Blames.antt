-- Where every read finds a file, no step of an expansion blames a missing include.
use Rattle.std.proofs.Common.{◌≡◌, ◌-◌, ℕ, zero, suc, List, [], ◌∷◌, ◌++◌, length, refl, sym, subst}
use Rattle.std.specs.Prelude.{Option, Some, None, Ok, Err, Bool, true, false, unwrap_or, nat_lt}
use Rattle.std.specs.List.{zip}
use Rattle.va_base.specs.declared.place.Place.{Place}
use Rattle.va_base.specs.declared.token.Token.{Token}
use Rattle.va_base.specs.declared.token.TokenKind.{TokenKind}
use Rattle.va_base.specs.declared.token.TokenKind.TheVariants.{Word, System, Tick, Number, Text, Mark, Newline, Bad, End}
use Rattle.va_base.specs.declared.fault.FaultCode.{FaultCode}
use Rattle.va_base.specs.declared.fault.FaultCode.TheVariants.{MissingInclude}
use Rattle.va_preproc.specs.declared.condition.Branch.{Branch}
use Rattle.va_preproc.specs.declared.directive.Directive.{Directive}
use Rattle.va_preproc.specs.declared.directive.Directive.TheVariants.{Define, Undef, Ifdef, Ifndef, Elsif, Else, Endif, Include, Ignored}
use Rattle.va_preproc.specs.Lexemes.{Bytes, Lexeme, lexemes_of, Role, line_end, a_directive, a_use, a_name, another, role_of, found, name_of, is_among}
use Rattle.va_preproc.specs.Reading.{Macro, State, Stop, Step, ◌>>=◌, stopped, read_one_of, read_one, read_some, own_place, give_to_result, give_where, give, give_all}
use Rattle.va_preproc.specs.Definitions.{Form, line, next_token, macro_name, file_name, definition_form}
use Rattle.va_preproc.specs.Conditionals.{is_skipped, Onward, meant, with_form, all_closed, open_branch, unless_last}
use Rattle.va_preproc.specs.Uses.{list_form, Inside, Use, Opened, at_name, no_more, at_role, expand_list, expand_argument, expand_arguments, expand_body, matching, with_arguments, by_formals, open_use, unless_open, of_macro, use_within}
use Rattle.va_preproc.specs.Expansion.{Limits, Readings, included_name, onward, Included, skip_or, at_define, at_undef, at_file_name, at_ignored, at_directive, at_outermost, at_token, expand_file, asking, unless_large, expand_bytes, include_of, include_within}

-- a fault that blames something else than a missing include
abbrev pub IsOther : FaultCode → Type 0
IsOther code = code ≡ MissingInclude → ⊥

abbrev pub BlamesOther : {T : Type 0} → Step T → Type 0
BlamesOther (Ok v) = Unit {0}
BlamesOther (Err stop) = IsOther stop.fault.code

-- one step after another
and_then : {T U : Type 0} (m : Step T) (next : T → Step U) → BlamesOther m → ((v : T) → BlamesOther (next v)) → BlamesOther (m >>= next)
and_then (Ok v) next e h = h v
and_then (Err stop) next e h = e

read_one_blames : (place : Place) (s : State) → BlamesOther (read_one place s)
read_one_blames place s = by_left s.unread
  where
    by_left : (n : ℕ) → BlamesOther (read_one_of n place s)
    by_left zero = λ e. cc
    by_left (suc n) = tt

read_some_blames : (blamed : Lexeme → Place) (n : ℕ) (ts : List Lexeme) (s : State) → BlamesOther (read_some blamed n ts s)
read_some_blames blamed n [] s = tt
read_some_blames blamed zero (t ∷ rest) s = tt
read_some_blames blamed (suc n) (t ∷ rest) s =
    and_then (read_one (blamed t) s) (read_some blamed n rest) (read_one_blames (blamed t) s) (λ v. read_some_blames blamed n rest v)

to_result_blames : (kind : TokenKind) (more : ℕ) (t : Lexeme) (place : Place) (s : State) → BlamesOther (give_to_result kind more t place s)
to_result_blames Word more t place s = tt
to_result_blames System more t place s = tt
to_result_blames Tick more t place s = tt
to_result_blames Number more t place s = tt
to_result_blames Text more t place s = tt
to_result_blames Mark more t place s = tt
to_result_blames Newline more t place s = tt
to_result_blames Bad more t place s = λ e. cc
to_result_blames End more t place s = tt

give_blames : (place : Place) (t : Lexeme) (s : State) → BlamesOther (give place t s)
give_blames place t s = by_target s.argument s.free
  where
    by_target : (o : Option (List Lexeme)) (n : ℕ) → BlamesOther (give_where o n t place s)
    by_target (Some given) n = tt
    by_target None zero = λ e. cc
    by_target None (suc n) = to_result_blames t.token.kind n t place s

give_all_blames : (place : Place) (ts : List Lexeme) (s : State) → BlamesOther (give_all place ts s)
give_all_blames place [] s = tt
give_all_blames place (t ∷ rest) s =
    and_then (read_one place s >>= give place t) (give_all place rest)
    (and_then (read_one place s) (give place t) (read_one_blames place s) (λ v. give_blames place t v))
    (λ v. give_all_blames place rest v)

abbrev UseBlames : Use → Type 0
UseBlames at_use = (i : Inside) (name : Bytes) (rest : List Lexeme) (s : State) → BlamesOther (at_use i name rest s)

module _ (at_use : Use) (uses : UseBlames at_use) where
  at_name_blames : (i : Inside) (o : Option (List Lexeme)) (t : Lexeme) (s : State) → BlamesOther (at_name at_use i o t s)
  at_name_blames i None t s = give_blames i.outermost t s
  at_name_blames i (Some given) t s = give_all_blames i.outermost given s

  at_role_blames : (i : Inside) (role : Role) (t : Lexeme) (rest : List Lexeme) (s : State) → BlamesOther (at_role at_use i role t rest s)
  at_role_blames i line_end t rest s = tt
  at_role_blames i (a_directive d) t rest s = λ e. cc
  at_role_blames i (a_use macro) t rest s = uses i macro rest s
  at_role_blames i (a_name word) t rest s =
      and_then (at_name at_use i (found i.formals word) t s) (no_more at_use i) (at_name_blames i (found i.formals word) t s) (λ v. tt)
  at_role_blames i another t rest s = and_then (give i.outermost t s) (no_more at_use i) (give_blames i.outermost t s) (λ v. tt)

  expand_list_blames : (i : Inside) (taken : ℕ) (ts : List Lexeme) (s : State) → BlamesOther (expand_list at_use i taken ts s)
  expand_list_blames i taken [] s = tt
  expand_list_blames i (suc taken) (t ∷ rest) s = expand_list_blames i taken rest s
  expand_list_blames i zero (t ∷ rest) s =
      and_then (read_one i.outermost s >>= at_role at_use i (role_of t) t rest)
      (λ next. expand_list at_use i next.0 rest next.1)
      (and_then (read_one i.outermost s) (at_role at_use i (role_of t) t rest) (read_one_blames i.outermost s)
      (λ v. at_role_blames i (role_of t) t rest v))
      (λ next. expand_list_blames i next.0 rest next.1)

  expand_argument_blames : (i : Inside) (ts : List Lexeme) (s : State) → BlamesOther (expand_argument at_use i ts s)
  expand_argument_blames i ts s = restored (expand_list at_use i 0 ts inner) (expand_list_blames i 0 ts inner)
    where
      inner : State
      inner = record s { argument = Some [] }

      restored : (m : Step State) → BlamesOther m
          → BlamesOther {T = List Lexeme × State} (m >>= λ after. Ok (unwrap_or after.argument [], record after { argument = s.argument }))
      restored (Ok after) g = tt
      restored (Err stop) g = g

  expand_arguments_blame : (i : Inside) (arguments : List (List Lexeme)) (s : State) → BlamesOther (expand_arguments at_use i arguments s)
  expand_arguments_blame i [] s = tt
  expand_arguments_blame i (first ∷ more) s =
      and_then (expand_argument at_use i first s)
      (λ one. expand_arguments at_use i more one.1 >>= λ others. Ok (one.0 ∷ others.0, others.1))
      (expand_argument_blames i first s)
      (λ one. and_then (expand_arguments at_use i more one.1) (λ others. Ok (one.0 ∷ others.0, others.1))
      (expand_arguments_blame i more one.1) (λ others. tt))

  expand_body_blames : (i : Inside) (macro : Bytes) (body : List Lexeme) (taken : ℕ) (formals : List (Bytes × List Lexeme)) (s : State)
      → BlamesOther (expand_body at_use i macro body taken formals s)
  expand_body_blames i macro body taken formals s =
      let inner : Inside = record { outermost = i.outermost; opened = macro ∷ i.opened; formals = formals } in
      and_then (expand_list at_use inner 0 body s) (λ after. Ok (taken, after)) (expand_list_blames inner 0 body s) (λ after. tt)

  with_arguments_blame : (i : Inside) (o : Option (List (List Lexeme))) (s : State) → BlamesOther (with_arguments at_use i o s)
  with_arguments_blame i None s = λ e. cc
  with_arguments_blame i (Some arguments) s = expand_arguments_blame i arguments s

  by_formals_blame : (i : Inside) (name : Bytes) (body : List Lexeme) (o : Option (List Bytes)) (rest : List Lexeme) (s : State)
      → BlamesOther (by_formals at_use i name body o rest s)
  by_formals_blame i name body None rest s = expand_body_blames i name body 0 [] s
  by_formals_blame i name body (Some formals) rest s =
      let list = list_form rest in
      and_then (read_some (λ t. i.outermost) list.taken rest s >>= with_arguments at_use i (matching formals list.meaning))
      (λ given. expand_body at_use i name body list.taken (zip formals given.0) given.1)
      (and_then (read_some (λ t. i.outermost) list.taken rest s) (with_arguments at_use i (matching formals list.meaning))
      (read_some_blames (λ t. i.outermost) list.taken rest s) (λ v. with_arguments_blame i (matching formals list.meaning) v))
      (λ given. expand_body_blames i name body list.taken (zip formals given.0) given.1)

abbrev OpenedBlames : Opened → Type 0
OpenedBlames opened = (i : Inside) (name : Bytes) (macro : Macro) (rest : List Lexeme) (s : State) → BlamesOther (opened i name macro rest s)

unless_open_blames : (opened : Opened) → OpenedBlames opened → (test : Bool) (i : Inside) (name : Bytes) (macro : Macro) (rest : List Lexeme)
    (s : State) → BlamesOther (unless_open test opened i name macro rest s)
unless_open_blames opened o true i name macro rest s = λ e. cc
unless_open_blames opened o false i name macro rest s = o i name macro rest s

of_macro_blames : (opened : Opened) → OpenedBlames opened → (o : Option Macro) (i : Inside) (name : Bytes) (rest : List Lexeme) (s : State)
    → BlamesOther (of_macro o opened i name rest s)
of_macro_blames opened o None i name rest s = λ e. cc
of_macro_blames opened o (Some macro) i name rest s = unless_open_blames opened o (is_among i.opened name) i name macro rest s

use_blames : (n : ℕ) → UseBlames (use_within n)
use_blames zero i name rest s =
    of_macro_blames (λ i name macro rest s. stopped _ i.outermost s) (λ i name macro rest s. λ e. cc) (s.macros name) i name rest s
use_blames (suc n) i name rest s =
    of_macro_blames (open_use (use_within n))
    (λ i name macro rest s. by_formals_blame (use_within n) (use_blames n) i name macro.body macro.formals rest s) (s.macros name) i name rest s

abbrev IncludeBlames : Included → Type 0
IncludeBlames at_include = (name : Bytes) (place : Place) (s : State) → BlamesOther (at_include name place s)

with_form_blames : {T : Type 0} (form : Form T) (code : FaultCode) → IsOther code → (t : Lexeme) (rest : List Lexeme)
    (next : T → State → Step Onward) (s : State) → ((meaning : T) (v : State) → BlamesOther (next meaning v))
    → BlamesOther (with_form form code t rest next s)
with_form_blames {T} form code other t rest next s h =
    and_then (read_some own_place form.taken rest s) (meant form.meaning code t next)
    (read_some_blames own_place form.taken rest s) (λ v. by_meaning form.meaning v)
  where
    by_meaning : (o : Option T) (v : State) → BlamesOther (meant o code t next v)
    by_meaning None v = other
    by_meaning (Some meaning) v = h meaning v

open_branch_blames : (t : Lexeme) (branches : List Branch) (s : State) (next : Branch → List Branch → State → Step Onward)
    → ((b : Branch) (outer : List Branch) → BlamesOther (next b outer s)) → BlamesOther (open_branch t branches s next)
open_branch_blames t [] s next h = λ e. cc
open_branch_blames t (b ∷ outer) s next h = by_last b.is_last
  where
    by_last : (last : Bool) → BlamesOther (unless_last last t s (next b outer))
    by_last true = λ e. cc
    by_last false = h b outer

all_closed_blames : (branches : List Branch) (s : State) → BlamesOther (all_closed branches s)
all_closed_blames [] s = tt
all_closed_blames (b ∷ outer) s = λ e. cc

skip_or_blames : (test : Bool) (branches : List Branch) (s : State) (next : List Branch → State → Step Onward)
    → BlamesOther (next branches s) → BlamesOther (skip_or test branches s next)
skip_or_blames true branches s next h = tt
skip_or_blames false branches s next h = h

module _ (at_use : Use) (uses : UseBlames at_use) (at_include : Included) (includes : IncludeBlames at_include) (name : Bytes) where
  at_directive_blames : (d : Directive) (t : Lexeme) (rest : List Lexeme) (branches : List Branch) (s : State)
      → BlamesOther (at_directive at_use at_include name d t rest branches s)
  at_directive_blames Define t rest branches s =
      skip_or_blames (is_skipped branches) branches s (at_define at_use at_include name t rest)
      (with_form_blames (definition_form rest) _ (λ e. cc) t rest _ s (λ d v. tt))
  at_directive_blames Undef t rest branches s =
      skip_or_blames (is_skipped branches) branches s (at_undef at_use at_include name t rest)
      (with_form_blames (next_token macro_name rest) _ (λ e. cc) t rest _ s (λ d v. tt))
  at_directive_blames Ifdef t rest branches s = with_form_blames (next_token name_of rest) _ (λ e. cc) t rest _ s (λ n v. tt)
  at_directive_blames Ifndef t rest branches s = with_form_blames (next_token name_of rest) _ (λ e. cc) t rest _ s (λ n v. tt)
  at_directive_blames Elsif t rest branches s =
      open_branch_blames t branches s _ (λ b outer. with_form_blames (next_token name_of rest) _ (λ e. cc) t rest _ s (λ n v. tt))
  at_directive_blames Else t rest branches s = open_branch_blames t branches s _ (λ b outer. tt)
  at_directive_blames Endif t rest [] s = λ e. cc
  at_directive_blames Endif t rest (b ∷ outer) s = tt
  at_directive_blames Include t rest branches s =
      skip_or_blames (is_skipped branches) branches s (at_file_name at_use at_include name t rest)
      (with_form_blames (next_token file_name rest) _ (λ e. cc) t rest _ s (λ file v.
      and_then (at_include (included_name name file) (own_place t) v) (onward 1 branches)
      (includes (included_name name file) (own_place t) v) (λ w. tt)))
  at_directive_blames Ignored t rest branches s =
      skip_or_blames (is_skipped branches) branches s (at_ignored at_use at_include name rest)
      (and_then (read_some own_place (length (line rest)) rest s) (onward (length (line rest)) branches)
      (read_some_blames own_place (length (line rest)) rest s) (λ w. tt))

  given_blames : (t : Lexeme) (branches : List Branch) (s : State) → BlamesOther (give (own_place t) t s >>= onward 0 branches)
  given_blames t branches s = and_then (give (own_place t) t s) (onward 0 branches) (give_blames (own_place t) t s) (λ w. tt)

  at_token_blames : (role : Role) (t : Lexeme) (rest : List Lexeme) (branches : List Branch) (s : State)
      → BlamesOther (at_token at_use at_include name role t rest branches s)
  at_token_blames line_end t rest branches s = tt
  at_token_blames (a_directive d) t rest branches s = at_directive_blames d t rest branches s
  at_token_blames (a_use macro) t rest branches s =
      let i : Inside = record { outermost = own_place t; opened = []; formals = [] } in
      skip_or_blames (is_skipped branches) branches s (at_outermost at_use at_include name macro t rest)
      (and_then (at_use i macro rest s) (λ next. onward next.0 branches next.1) (uses i macro rest s) (λ r. tt))
  at_token_blames (a_name word) t rest branches s =
      skip_or_blames (is_skipped branches) branches s (λ branches s. give (own_place t) t s >>= onward 0 branches) (given_blames t branches s)
  at_token_blames another t rest branches s =
      skip_or_blames (is_skipped branches) branches s (λ branches s. give (own_place t) t s >>= onward 0 branches) (given_blames t branches s)

  expand_file_blames : (taken : ℕ) (ts : List Lexeme) (branches : List Branch) (s : State)
      → BlamesOther (expand_file at_use at_include name taken ts branches s)
  expand_file_blames taken [] branches s = all_closed_blames branches s
  expand_file_blames (suc taken) (t ∷ rest) branches s = expand_file_blames taken rest branches s
  expand_file_blames zero (t ∷ rest) branches s =
      and_then (read_one (own_place t) s >>= at_token at_use at_include name (role_of t) t rest branches)
      (λ next. expand_file at_use at_include name next.taken rest next.branches next.state)
      (and_then (read_one (own_place t) s) (at_token at_use at_include name (role_of t) t rest branches)
      (read_one_blames (own_place t) s) (λ v. at_token_blames (role_of t) t rest branches v))
      (λ next. expand_file_blames next.taken rest next.branches next.state)

module _ (most : Limits) (tokens : ℕ → Bytes → List Token) (readings : Readings)
    (finds : (n : ℕ) (name : Bytes) → (bytes : Bytes) × (readings n name ≡ Some bytes)) where
  expand_bytes_blames : (at_include : Included) → IncludeBlames at_include → (name bytes : Bytes) (s : State)
      → BlamesOther (expand_bytes most tokens readings at_include name bytes s)
  expand_bytes_blames at_include includes name bytes s = by_size (nat_lt most.bytes (length bytes)) (length s.asked - 1)
    where
      by_size : (test : Bool) (file : ℕ) → BlamesOther (unless_large most tokens readings test at_include name bytes file s)
      by_size true file = λ e. cc
      by_size false file =
          expand_file_blames (use_within most.uses) (use_blames most.uses) at_include includes name 0 (lexemes_of bytes (tokens file bytes)) [] s

  -- a file that was found
  pub found_blames : (o : Option Bytes) (at_include : Included) → IncludeBlames at_include → (name : Bytes) (place : Place) (s : State)
      → (bytes : Bytes) → o ≡ Some bytes → BlamesOther (include_of most tokens readings o at_include name place s)
  found_blames o at_include includes name place s bytes e =
      subst (λ o. BlamesOther (include_of most tokens readings o at_include name place s)) (sym e)
      (expand_bytes_blames at_include includes name bytes s)

  pub include_blames : (n : ℕ) → IncludeBlames (include_within most tokens readings n)
  include_blames zero name place s = λ e. cc
  include_blames (suc n) name place s =
      let found = finds (length s.asked) name in
      found_blames (readings (length s.asked) name) (include_within most tokens readings n) (include_blames n) name place (asking name s)
      found.0 found.1
