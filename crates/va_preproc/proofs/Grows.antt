-- No step of an expansion takes back a name that was read.
use Rattle.std.proofs.Common.{◌≡◌, ◌-◌, ℕ, zero, suc, List, [], ◌∷◌, ◌++◌, length, refl, sym, ap, ◌∙◌}
use Rattle.std.specs.Prelude.{Option, Some, None, Ok, Err, Bool, true, false, unwrap_or, nat_lt}
use Rattle.std.specs.List.{zip}
use Rattle.std.specs.Option.{is_some}
use Rattle.va_base.specs.declared.place.Place.{Place}
use Rattle.va_base.specs.declared.token.Token.{Token}
use Rattle.va_base.specs.declared.token.TokenKind.{TokenKind}
use Rattle.va_base.specs.declared.token.TokenKind.TheVariants.{Word, System, Tick, Number, Text, Mark, Newline, Bad, End}
use Rattle.va_base.specs.declared.fault.FaultCode.{FaultCode}
use Rattle.va_preproc.specs.declared.condition.Branch.{Branch}
use Rattle.va_preproc.specs.declared.directive.Directive.{Directive}
use Rattle.va_preproc.specs.declared.directive.Directive.TheVariants.{Define, Undef, Ifdef, Ifndef, Elsif, Else, Endif, Include, Ignored}
use Rattle.va_preproc.specs.Lexemes.{Bytes, Lexeme, lexemes_of, Role, line_end, a_directive, a_use, a_name, another, role_of, found, name_of, is_among}
use Rattle.va_preproc.specs.Reading.{Macro, State, Step, ◌>>=◌, stopped, read_one_of, read_one, read_some, own_place, give_to_result, give_where, give, give_all}
use Rattle.va_preproc.specs.Definitions.{Form, line, next_token, macro_name, file_name, definition_form}
use Rattle.va_preproc.specs.Conditionals.{is_skipped, Onward, meant, with_form, all_closed, open_branch, unless_last}
use Rattle.va_preproc.specs.Uses.{list_form, Inside, Use, Opened, at_name, no_more, at_role, expand_list, expand_argument, expand_arguments, expand_body, matching, with_arguments, by_formals, open_use, unless_open, of_macro, use_within}
use Rattle.va_preproc.specs.Expansion.{Limits, Readings, included_name, onward, Included, skip_or, at_define, at_undef, at_file_name, at_ignored, at_directive, at_outermost, at_token, expand_file, asking, unless_large, expand_bytes, include_of, include_within}
use Rattle.va_preproc.specs.Values.{next_read}
use Rattle.va_preproc.specs.Steps.{asked_in, itself, at_onward}
use Rattle.va_preproc.proofs.Steps.{Extends, extends_refl, extends_one, extends_trans}

-- names are added at the end alone, and tokens are given to an argument or not as before
abbrev pub Kept : State → State → Type 0
Kept s v = Extends s.asked v.asked × (is_some v.argument ≡ is_some s.argument)

abbrev pub Grew : {T : Type 0} → (T → State) → State → Step T → Type 0
Grew f s (Ok v) = Kept s (f v)
Grew f s (Err stop) = Extends s.asked stop.asked

pub same : (s : State) → Kept s s
same s = (extends_refl s.asked, refl)

pub kept_then : (s v w : State) → Kept s v → Kept v w → Kept s w
kept_then s v w h k = (extends_trans s.asked v.asked w.asked h.0 k.0, k.1 ∙ h.1)

pub grew_later : {T : Type 0} (f : T → State) (s v : State) (m : Step T) → Kept s v → Grew f v m → Grew f s m
grew_later f s v (Ok w) h g = kept_then s v (f w) h g
grew_later f s v (Err stop) h g = extends_trans s.asked v.asked stop.asked h.0 g

-- the names that are read up to a step's end begin with those that were read before
pub grew_asked : {T : Type 0} (f : T → State) (s : State) (m : Step T) → Grew f s m → Extends s.asked (asked_in f m)
grew_asked f s (Ok v) g = g.0
grew_asked f s (Err stop) g = g

abbrev pub second : {X : Type 0} → X × State → State
second p = p.1

abbrev paired : {T : Type 0} → T → State → Step (T × State)
paired meaning s = Ok (meaning, s)

pub grew_then : {T U : Type 0} (f : T → State) (g : U → State) (s : State) (m : Step T) (next : T → Step U)
    → Grew f s m → ((v : T) → Grew g (f v) (next v)) → Grew g s (m >>= next)
grew_then f g s (Ok v) next e h = grew_later g s (f v) (next v) e (h v)
grew_then f g s (Err stop) next e h = e

pub read_one_grows : (place : Place) (s : State) → Grew itself s (read_one place s)
read_one_grows place s = by_left s.unread
  where
    by_left : (n : ℕ) → Grew itself s (read_one_of n place s)
    by_left zero = extends_refl s.asked
    by_left (suc n) = same s

read_some_grows : (blamed : Lexeme → Place) (n : ℕ) (ts : List Lexeme) (s : State) → Grew itself s (read_some blamed n ts s)
read_some_grows blamed n [] s = same s
read_some_grows blamed zero (t ∷ rest) s = same s
read_some_grows blamed (suc n) (t ∷ rest) s =
    grew_then itself itself s (read_one (blamed t) s) (read_some blamed n rest) (read_one_grows (blamed t) s)
    (λ v. read_some_grows blamed n rest v)

to_result_grows : (kind : TokenKind) (more : ℕ) (t : Lexeme) (place : Place) (s : State) → Grew itself s (give_to_result kind more t place s)
to_result_grows Word more t place s = same s
to_result_grows System more t place s = same s
to_result_grows Tick more t place s = same s
to_result_grows Number more t place s = same s
to_result_grows Text more t place s = same s
to_result_grows Mark more t place s = same s
to_result_grows Newline more t place s = same s
to_result_grows Bad more t place s = extends_refl s.asked
to_result_grows End more t place s = same s

give_grows : (place : Place) (t : Lexeme) (s : State) → Grew itself s (give place t s)
give_grows place t s = by_target s.argument s.free refl
  where
    by_target : (o : Option (List Lexeme)) (n : ℕ) → s.argument ≡ o → Grew itself s (give_where o n t place s)
    by_target (Some given) n e = (extends_refl s.asked, sym (ap is_some e))
    by_target None zero e = extends_refl s.asked
    by_target None (suc n) e = to_result_grows t.token.kind n t place s

give_all_grows : (place : Place) (ts : List Lexeme) (s : State) → Grew itself s (give_all place ts s)
give_all_grows place [] s = same s
give_all_grows place (t ∷ rest) s =
    grew_then itself itself s (read_one place s >>= give place t) (give_all place rest)
    (grew_then itself itself s (read_one place s) (give place t) (read_one_grows place s) (λ v. give_grows place t v))
    (λ v. give_all_grows place rest v)

abbrev pub UseGrows : Use → Type 0
UseGrows at_use = (i : Inside) (name : Bytes) (rest : List Lexeme) (s : State) → Grew second s (at_use i name rest s)

module _ (at_use : Use) (uses : UseGrows at_use) where
  at_name_grows : (i : Inside) (o : Option (List Lexeme)) (t : Lexeme) (s : State) → Grew itself s (at_name at_use i o t s)
  at_name_grows i None t s = give_grows i.outermost t s
  at_name_grows i (Some given) t s = give_all_grows i.outermost given s

  at_role_grows : (i : Inside) (role : Role) (t : Lexeme) (rest : List Lexeme) (s : State) → Grew second s (at_role at_use i role t rest s)
  at_role_grows i line_end t rest s = same s
  at_role_grows i (a_directive d) t rest s = extends_refl s.asked
  at_role_grows i (a_use macro) t rest s = uses i macro rest s
  at_role_grows i (a_name word) t rest s =
      grew_then itself second s (at_name at_use i (found i.formals word) t s) (no_more at_use i) (at_name_grows i (found i.formals word) t s)
      (λ v. same v)
  at_role_grows i another t rest s =
      grew_then itself second s (give i.outermost t s) (no_more at_use i) (give_grows i.outermost t s) (λ v. same v)

  expand_list_grows : (i : Inside) (taken : ℕ) (ts : List Lexeme) (s : State) → Grew itself s (expand_list at_use i taken ts s)
  expand_list_grows i taken [] s = same s
  expand_list_grows i (suc taken) (t ∷ rest) s = expand_list_grows i taken rest s
  expand_list_grows i zero (t ∷ rest) s =
      grew_then second itself s (read_one i.outermost s >>= at_role at_use i (role_of t) t rest)
      (λ next. expand_list at_use i next.0 rest next.1)
      (grew_then itself second s (read_one i.outermost s) (at_role at_use i (role_of t) t rest) (read_one_grows i.outermost s)
      (λ v. at_role_grows i (role_of t) t rest v))
      (λ next. expand_list_grows i next.0 rest next.1)

  expand_argument_grows : (i : Inside) (ts : List Lexeme) (s : State) → Grew second s (expand_argument at_use i ts s)
  expand_argument_grows i ts s = restored (expand_list at_use i 0 ts inner) (expand_list_grows i 0 ts inner)
    where
      inner : State
      inner = record s { argument = Some [] }

      restored : (m : Step State) → Grew itself inner m
          → Grew second s (m >>= λ after. Ok (unwrap_or after.argument [], record after { argument = s.argument }))
      restored (Ok after) g = (g.0, refl)
      restored (Err stop) g = g

  expand_arguments_grow : (i : Inside) (arguments : List (List Lexeme)) (s : State) → Grew second s (expand_arguments at_use i arguments s)
  expand_arguments_grow i [] s = same s
  expand_arguments_grow i (first ∷ more) s =
      grew_then second second s (expand_argument at_use i first s)
      (λ one. expand_arguments at_use i more one.1 >>= λ others. Ok (one.0 ∷ others.0, others.1))
      (expand_argument_grows i first s)
      (λ one. grew_then second second one.1 (expand_arguments at_use i more one.1) (λ others. Ok (one.0 ∷ others.0, others.1))
      (expand_arguments_grow i more one.1) (λ others. same others.1))

  expand_body_grows : (i : Inside) (macro : Bytes) (body : List Lexeme) (taken : ℕ) (formals : List (Bytes × List Lexeme)) (s : State)
      → Grew second s (expand_body at_use i macro body taken formals s)
  expand_body_grows i macro body taken formals s =
      let inner : Inside = record { outermost = i.outermost; opened = macro ∷ i.opened; formals = formals } in
      grew_then itself second s (expand_list at_use inner 0 body s) (λ after. Ok (taken, after)) (expand_list_grows inner 0 body s)
      (λ after. same after)

  with_arguments_grow : (i : Inside) (o : Option (List (List Lexeme))) (s : State) → Grew second s (with_arguments at_use i o s)
  with_arguments_grow i None s = extends_refl s.asked
  with_arguments_grow i (Some arguments) s = expand_arguments_grow i arguments s

  by_formals_grow : (i : Inside) (name : Bytes) (body : List Lexeme) (o : Option (List Bytes)) (rest : List Lexeme) (s : State)
      → Grew second s (by_formals at_use i name body o rest s)
  by_formals_grow i name body None rest s = expand_body_grows i name body 0 [] s
  by_formals_grow i name body (Some formals) rest s =
      let list = list_form rest in
      grew_then second second s (read_some (λ t. i.outermost) list.taken rest s >>= with_arguments at_use i (matching formals list.meaning))
      (λ given. expand_body at_use i name body list.taken (zip formals given.0) given.1)
      (grew_then itself second s (read_some (λ t. i.outermost) list.taken rest s) (with_arguments at_use i (matching formals list.meaning))
      (read_some_grows (λ t. i.outermost) list.taken rest s) (λ v. with_arguments_grow i (matching formals list.meaning) v))
      (λ given. expand_body_grows i name body list.taken (zip formals given.0) given.1)

abbrev OpenedGrows : Opened → Type 0
OpenedGrows opened = (i : Inside) (name : Bytes) (macro : Macro) (rest : List Lexeme) (s : State) → Grew second s (opened i name macro rest s)

unless_open_grows : (opened : Opened) → OpenedGrows opened → (test : Bool) (i : Inside) (name : Bytes) (macro : Macro) (rest : List Lexeme)
    (s : State) → Grew second s (unless_open test opened i name macro rest s)
unless_open_grows opened o true i name macro rest s = extends_refl s.asked
unless_open_grows opened o false i name macro rest s = o i name macro rest s

of_macro_grows : (opened : Opened) → OpenedGrows opened → (o : Option Macro) (i : Inside) (name : Bytes) (rest : List Lexeme) (s : State)
    → Grew second s (of_macro o opened i name rest s)
of_macro_grows opened o None i name rest s = extends_refl s.asked
of_macro_grows opened o (Some macro) i name rest s = unless_open_grows opened o (is_among i.opened name) i name macro rest s

pub use_grows : (n : ℕ) → UseGrows (use_within n)
use_grows zero i name rest s =
    of_macro_grows (λ i name macro rest s. stopped _ i.outermost s) (λ i name macro rest s. extends_refl s.asked) (s.macros name) i name rest s
use_grows (suc n) i name rest s =
    of_macro_grows (open_use (use_within n))
    (λ i name macro rest s. by_formals_grow (use_within n) (use_grows n) i name macro.body macro.formals rest s) (s.macros name) i name rest s

abbrev pub IncludeGrows : Included → Type 0
IncludeGrows at_include = (name : Bytes) (place : Place) (s : State) → Grew itself s (at_include name place s)

with_form_grows : {T : Type 0} (form : Form T) (code : FaultCode) (t : Lexeme) (rest : List Lexeme) (next : T → State → Step Onward)
    (s : State) → ((meaning : T) (v : State) → Grew at_onward v (next meaning v))
    → Grew at_onward s (with_form form code t rest next s)
with_form_grows {T} form code t rest next s h =
    grew_then itself at_onward s (read_some own_place form.taken rest s) (meant form.meaning code t next)
    (read_some_grows own_place form.taken rest s) (λ v. by_meaning form.meaning v)
  where
    by_meaning : (o : Option T) (v : State) → Grew at_onward v (meant o code t next v)
    by_meaning None v = extends_refl v.asked
    by_meaning (Some meaning) v = h meaning v

-- the token that a directive takes
pub next_read_grows : {T : Type 0} (read : Lexeme → Option T) (code : FaultCode) (t : Lexeme) (rest : List Lexeme) (s : State)
    → Grew second s (next_read read code t rest s)
next_read_grows {T} read code t rest s =
    grew_then itself second s (read_some own_place (next_token read rest).taken rest s) (meant (next_token read rest).meaning code t (paired {T = T}))
    (read_some_grows own_place (next_token read rest).taken rest s) (λ v. by_meaning (next_token read rest).meaning v)
  where
    by_meaning : (o : Option T) (v : State) → Grew second v (meant o code t (paired {T = T}) v)
    by_meaning None v = extends_refl v.asked
    by_meaning (Some meaning) v = same v

open_branch_grows : (t : Lexeme) (branches : List Branch) (s : State) (next : Branch → List Branch → State → Step Onward)
    → ((b : Branch) (outer : List Branch) → Grew at_onward s (next b outer s)) → Grew at_onward s (open_branch t branches s next)
open_branch_grows t [] s next h = extends_refl s.asked
open_branch_grows t (b ∷ outer) s next h = by_last b.is_last
  where
    by_last : (last : Bool) → Grew at_onward s (unless_last last t s (next b outer))
    by_last true = extends_refl s.asked
    by_last false = h b outer

all_closed_grows : (branches : List Branch) (s : State) → Grew itself s (all_closed branches s)
all_closed_grows [] s = same s
all_closed_grows (b ∷ outer) s = extends_refl s.asked

skip_or_grows : (test : Bool) (branches : List Branch) (s : State) (next : List Branch → State → Step Onward)
    → Grew at_onward s (next branches s) → Grew at_onward s (skip_or test branches s next)
skip_or_grows true branches s next h = same s
skip_or_grows false branches s next h = h

module _ (at_use : Use) (uses : UseGrows at_use) (at_include : Included) (includes : IncludeGrows at_include) (name : Bytes) where
  at_directive_grows : (d : Directive) (t : Lexeme) (rest : List Lexeme) (branches : List Branch) (s : State)
      → Grew at_onward s (at_directive at_use at_include name d t rest branches s)
  at_directive_grows Define t rest branches s =
      skip_or_grows (is_skipped branches) branches s (at_define at_use at_include name t rest)
      (with_form_grows (definition_form rest) _ t rest _ s (λ d v. same v))
  at_directive_grows Undef t rest branches s =
      skip_or_grows (is_skipped branches) branches s (at_undef at_use at_include name t rest)
      (with_form_grows (next_token macro_name rest) _ t rest _ s (λ d v. same v))
  at_directive_grows Ifdef t rest branches s = with_form_grows (next_token name_of rest) _ t rest _ s (λ n v. same v)
  at_directive_grows Ifndef t rest branches s = with_form_grows (next_token name_of rest) _ t rest _ s (λ n v. same v)
  at_directive_grows Elsif t rest branches s =
      open_branch_grows t branches s _ (λ b outer. with_form_grows (next_token name_of rest) _ t rest _ s (λ n v. same v))
  at_directive_grows Else t rest branches s = open_branch_grows t branches s _ (λ b outer. same s)
  at_directive_grows Endif t rest [] s = extends_refl s.asked
  at_directive_grows Endif t rest (b ∷ outer) s = same s
  at_directive_grows Include t rest branches s =
      skip_or_grows (is_skipped branches) branches s (at_file_name at_use at_include name t rest)
      (with_form_grows (next_token file_name rest) _ t rest _ s (λ file v.
      grew_then itself at_onward v (at_include (included_name name file) (own_place t) v) (onward 1 branches)
      (includes (included_name name file) (own_place t) v) (λ w. same w)))
  at_directive_grows Ignored t rest branches s =
      skip_or_grows (is_skipped branches) branches s (at_ignored at_use at_include name rest)
      (grew_then itself at_onward s (read_some own_place (length (line rest)) rest s) (onward (length (line rest)) branches)
      (read_some_grows own_place (length (line rest)) rest s) (λ w. same w))

  given_grows : (t : Lexeme) (branches : List Branch) (s : State) → Grew at_onward s (give (own_place t) t s >>= onward 0 branches)
  given_grows t branches s =
      grew_then itself at_onward s (give (own_place t) t s) (onward 0 branches) (give_grows (own_place t) t s) (λ w. same w)

  pub at_token_grows : (role : Role) (t : Lexeme) (rest : List Lexeme) (branches : List Branch) (s : State)
      → Grew at_onward s (at_token at_use at_include name role t rest branches s)
  at_token_grows line_end t rest branches s = same s
  at_token_grows (a_directive d) t rest branches s = at_directive_grows d t rest branches s
  at_token_grows (a_use macro) t rest branches s =
      let i : Inside = record { outermost = own_place t; opened = []; formals = [] } in
      skip_or_grows (is_skipped branches) branches s (at_outermost at_use at_include name macro t rest)
      (grew_then second at_onward s (at_use i macro rest s) (λ next. onward next.0 branches next.1) (uses i macro rest s) (λ r. same r.1))
  at_token_grows (a_name word) t rest branches s =
      skip_or_grows (is_skipped branches) branches s (λ branches s. give (own_place t) t s >>= onward 0 branches) (given_grows t branches s)
  at_token_grows another t rest branches s =
      skip_or_grows (is_skipped branches) branches s (λ branches s. give (own_place t) t s >>= onward 0 branches) (given_grows t branches s)

  pub expand_file_grows : (taken : ℕ) (ts : List Lexeme) (branches : List Branch) (s : State)
      → Grew itself s (expand_file at_use at_include name taken ts branches s)
  expand_file_grows taken [] branches s = all_closed_grows branches s
  expand_file_grows (suc taken) (t ∷ rest) branches s = expand_file_grows taken rest branches s
  expand_file_grows zero (t ∷ rest) branches s =
      grew_then at_onward itself s (read_one (own_place t) s >>= at_token at_use at_include name (role_of t) t rest branches)
      (λ next. expand_file at_use at_include name next.taken rest next.branches next.state)
      (grew_then itself at_onward s (read_one (own_place t) s) (at_token at_use at_include name (role_of t) t rest branches)
      (read_one_grows (own_place t) s) (λ v. at_token_grows (role_of t) t rest branches v))
      (λ next. expand_file_grows next.taken rest next.branches next.state)

module _ (most : Limits) (tokens : ℕ → Bytes → List Token) (readings : Readings) where
  pub expand_bytes_grows : (at_include : Included) → IncludeGrows at_include → (name bytes : Bytes) (s : State)
      → Grew itself s (expand_bytes most tokens readings at_include name bytes s)
  expand_bytes_grows at_include includes name bytes s = by_size (nat_lt most.bytes (length bytes)) (length s.asked - 1)
    where
      by_size : (test : Bool) (file : ℕ) → Grew itself s (unless_large most tokens readings test at_include name bytes file s)
      by_size true file = extends_refl s.asked
      by_size false file =
          expand_file_grows (use_within most.uses) (use_grows most.uses) at_include includes name 0 (lexemes_of bytes (tokens file bytes)) [] s

  pub include_of_grows : (o : Option Bytes) (at_include : Included) → IncludeGrows at_include → (name : Bytes) (place : Place) (s : State)
      → Grew itself (asking name s) (include_of most tokens readings o at_include name place (asking name s))
  include_of_grows None at_include includes name place s = extends_refl (s.asked ++ name ∷ [])
  include_of_grows (Some bytes) at_include includes name place s = expand_bytes_grows at_include includes name bytes (asking name s)

  pub include_grows : (n : ℕ) → IncludeGrows (include_within most tokens readings n)
  include_grows zero name place s = extends_refl s.asked
  include_grows (suc n) name place s =
      grew_later itself s (asking name s) _ (extends_one s.asked name, refl)
      (include_of_grows (readings (length s.asked) name) (include_within most tokens readings n) (include_grows n) name place s)

-- a step that gives a state, or something and a state
abbrev pub grew_itself : State → Step State → Type 0
grew_itself s m = Grew itself s m

abbrev pub grew_second : {X : Type 0} → State → Step (X × State) → Type 0
grew_second s m = Grew second s m
