-- The numbers of uses and includes that may be open are limits and nothing else.
use Rattle.std.proofs.Common.{◌≡◌, ◌≤◌, ◌⊎◌, inl, inr, ℕ, zero, suc, List, [], ◌∷◌, length, refl, sym, ap, subst, arith}
use Rattle.std.specs.Prelude.{Option, Some, None, Ok, Err, Bool, true, false, unwrap_or, nat_lt}
use Rattle.std.specs.List.{zip}
use Rattle.va_base.specs.declared.place.Place.{Place}
use Rattle.va_base.specs.declared.token.Token.{Token}
use Rattle.va_base.specs.declared.fault.FaultCode.TheVariants as code
use Rattle.va_preproc.specs.declared.directive.Directive.{Directive}
use Rattle.va_preproc.specs.declared.directive.Directive.TheVariants.{Define, Undef, Ifdef, Ifndef, Elsif, Else, Endif, Include, Ignored}
use Rattle.va_preproc.specs.Lexemes.{Bytes, Lexeme, lexemes_of, Role, line_end, a_directive, a_use, a_name, another, role_of, is_among}
use Rattle.va_preproc.specs.Reading.{Macro, State, Step, ◌>>=◌, stopped, read_one, read_some, own_place}
use Rattle.va_preproc.specs.Definitions.{next_token, file_name}
use Rattle.va_preproc.specs.declared.condition.Branch.{Branch}
use Rattle.va_preproc.specs.Conditionals.{is_skipped, Onward, meant}
use Rattle.va_preproc.specs.Uses.{Inside, Use, Opened, at_role, expand_list, expand_argument, expand_arguments, expand_body, matching, with_arguments, list_form, by_formals, open_use, unless_open, of_macro, checked_use, use_within}
use Rattle.va_preproc.specs.Expansion.{Limits, Readings, included_name, onward, Included, skip_or, at_file_name, at_directive, at_outermost, at_token, expand_file, asking, start, unless_large, expand_bytes, include_of, include_within, ended, expansion_of}
use Rattle.va_preproc.specs.Laws.{IsDeepCode, IsTooDeep, DepthsOnlyRefuse}

abbrev pub IsDeep : {T : Type 0} → Step T → Type 0
IsDeep (Ok value) = ⊥
IsDeep (Err stop) = IsDeepCode stop.fault.code

-- a step is refused by such a limit, or the other one is the same
abbrev pub Agrees : {T : Type 0} → Step T → Step T → Type 0
Agrees m other = IsDeep m ⊎ (other ≡ m)

same : {T : Type 0} (m : Step T) → Agrees m m
same m = inr refl

agree_then : {T U : Type 0} (m other : Step T) (next more : T → Step U) → Agrees m other
    → ((value : T) → Agrees (next value) (more value)) → Agrees (m >>= next) (other >>= more)
agree_then (Ok value) other next more (inl deep) h = absurd deep
agree_then (Ok value) other next more (inr e) h =
    subst (λ o. Agrees (next value) (o >>= more)) (sym e) (h value)
agree_then (Err stop) other next more (inl deep) h = inl deep
agree_then (Err stop) other next more (inr e) h = inr (ap (λ o. o >>= more) e)

-- the same step, and what follows it
then_agree : {T U : Type 0} (m : Step T) (next more : T → Step U) → ((value : T) → Agrees (next value) (more value))
    → Agrees (m >>= next) (m >>= more)
then_agree m next more h = agree_then m m next more (same m) h

abbrev pub UsesAgree : Use → Use → Type 0
UsesAgree a b = (i : Inside) (name : Bytes) (rest : List Lexeme) (s : State) → Agrees (a i name rest s) (b i name rest s)

module _ (a b : Use) (uses : UsesAgree a b) where
  at_role_agrees : (i : Inside) (role : Role) (t : Lexeme) (rest : List Lexeme) (s : State)
      → Agrees (at_role a i role t rest s) (at_role b i role t rest s)
  at_role_agrees i line_end t rest s = inr refl
  at_role_agrees i (a_directive d) t rest s = inr refl
  at_role_agrees i (a_use macro) t rest s = uses i macro rest s
  at_role_agrees i (a_name word) t rest s = inr refl
  at_role_agrees i another t rest s = inr refl

  expand_list_agrees : (i : Inside) (taken : ℕ) (ts : List Lexeme) (s : State) → Agrees (expand_list a i taken ts s) (expand_list b i taken ts s)
  expand_list_agrees i taken [] s = inr refl
  expand_list_agrees i (suc taken) (t ∷ rest) s = expand_list_agrees i taken rest s
  expand_list_agrees i zero (t ∷ rest) s =
      agree_then (read_one i.outermost s >>= at_role a i (role_of t) t rest) (read_one i.outermost s >>= at_role b i (role_of t) t rest)
      (λ next. expand_list a i next.0 rest next.1) (λ next. expand_list b i next.0 rest next.1)
      (then_agree (read_one i.outermost s) (at_role a i (role_of t) t rest) (at_role b i (role_of t) t rest)
      (λ v. at_role_agrees i (role_of t) t rest v))
      (λ next. expand_list_agrees i next.0 rest next.1)

  expand_argument_agrees : (i : Inside) (ts : List Lexeme) (s : State) → Agrees (expand_argument a i ts s) (expand_argument b i ts s)
  expand_argument_agrees i ts s =
      agree_then (expand_list a i 0 ts (record s { argument = Some [] })) (expand_list b i 0 ts (record s { argument = Some [] }))
      (λ after. Ok (unwrap_or after.argument [], record after { argument = s.argument }))
      (λ after. Ok (unwrap_or after.argument [], record after { argument = s.argument }))
      (expand_list_agrees i 0 ts (record s { argument = Some [] }))
      (λ after. inr refl)

  expand_arguments_agree : (i : Inside) (arguments : List (List Lexeme)) (s : State)
      → Agrees (expand_arguments a i arguments s) (expand_arguments b i arguments s)
  expand_arguments_agree i [] s = inr refl
  expand_arguments_agree i (first ∷ more) s =
      agree_then (expand_argument a i first s) (expand_argument b i first s)
      (λ one. expand_arguments a i more one.1 >>= λ others. Ok (one.0 ∷ others.0, others.1))
      (λ one. expand_arguments b i more one.1 >>= λ others. Ok (one.0 ∷ others.0, others.1))
      (expand_argument_agrees i first s)
      (λ one. agree_then (expand_arguments a i more one.1) (expand_arguments b i more one.1)
      (λ others. Ok (one.0 ∷ others.0, others.1)) (λ others. Ok (one.0 ∷ others.0, others.1))
      (expand_arguments_agree i more one.1) (λ others. inr refl))

  expand_body_agrees : (i : Inside) (macro : Bytes) (body : List Lexeme) (taken : ℕ) (formals : List (Bytes × List Lexeme)) (s : State)
      → Agrees (expand_body a i macro body taken formals s) (expand_body b i macro body taken formals s)
  expand_body_agrees i macro body taken formals s =
      let inner : Inside = record { outermost = i.outermost; opened = macro ∷ i.opened; formals = formals } in
      agree_then (expand_list a inner 0 body s) (expand_list b inner 0 body s) (λ after. Ok (taken, after)) (λ after. Ok (taken, after))
      (expand_list_agrees inner 0 body s) (λ after. inr refl)

  with_arguments_agree : (i : Inside) (o : Option (List (List Lexeme))) (s : State)
      → Agrees (with_arguments a i o s) (with_arguments b i o s)
  with_arguments_agree i None s = inr refl
  with_arguments_agree i (Some arguments) s = expand_arguments_agree i arguments s

  by_formals_agrees : (i : Inside) (name : Bytes) (body : List Lexeme) (o : Option (List Bytes)) (rest : List Lexeme) (s : State)
      → Agrees (by_formals a i name body o rest s) (by_formals b i name body o rest s)
  by_formals_agrees i name body None rest s = expand_body_agrees i name body 0 [] s
  by_formals_agrees i name body (Some formals) rest s =
      let list = list_form rest in
      agree_then (read_some (λ t. i.outermost) list.taken rest s >>= with_arguments a i (matching formals list.meaning))
      (read_some (λ t. i.outermost) list.taken rest s >>= with_arguments b i (matching formals list.meaning))
      (λ given. expand_body a i name body list.taken (zip formals given.0) given.1)
      (λ given. expand_body b i name body list.taken (zip formals given.0) given.1)
      (then_agree (read_some (λ t. i.outermost) list.taken rest s) (with_arguments a i (matching formals list.meaning))
      (with_arguments b i (matching formals list.meaning)) (λ v. with_arguments_agree i (matching formals list.meaning) v))
      (λ given. expand_body_agrees i name body list.taken (zip formals given.0) given.1)

abbrev OpenedAgree : Opened → Opened → Type 0
OpenedAgree a b =
    (i : Inside) (name : Bytes) (macro : Macro) (rest : List Lexeme) (s : State) → Agrees (a i name macro rest s) (b i name macro rest s)

unless_open_agrees : (a b : Opened) → OpenedAgree a b → (test : Bool) (i : Inside) (name : Bytes) (macro : Macro) (rest : List Lexeme)
    (s : State) → Agrees (unless_open test a i name macro rest s) (unless_open test b i name macro rest s)
unless_open_agrees a b o true i name macro rest s = inr refl
unless_open_agrees a b o false i name macro rest s = o i name macro rest s

of_macro_agrees : (a b : Opened) → OpenedAgree a b → (found : Option Macro) (i : Inside) (name : Bytes) (rest : List Lexeme) (s : State)
    → Agrees (of_macro found a i name rest s) (of_macro found b i name rest s)
of_macro_agrees a b o None i name rest s = inr refl
of_macro_agrees a b o (Some macro) i name rest s = unless_open_agrees a b o (is_among i.opened name) i name macro rest s

checked_agrees : (a b : Opened) → OpenedAgree a b → UsesAgree (checked_use a) (checked_use b)
checked_agrees a b o i name rest s = of_macro_agrees a b o (s.macros name) i name rest s

not_less : (n : ℕ) → suc n ≤ 0 → ⊥
not_less n h = omega arith

both_less : (n m : ℕ) → suc n ≤ suc m → n ≤ m
both_less n m h = omega arith

uses_agree : (n m : ℕ) → n ≤ m → UsesAgree (use_within n) (use_within m)
uses_agree zero zero h = λ i name rest s. inr refl
uses_agree zero (suc m) h =
    checked_agrees (λ i name macro rest s. stopped code.MacroDeep i.outermost s) (open_use (use_within m))
    (λ i name macro rest s. inl (inl refl))
uses_agree (suc n) zero h = absurd (not_less n h)
uses_agree (suc n) (suc m) h =
    checked_agrees (open_use (use_within n)) (open_use (use_within m))
    (λ i name macro rest s. by_formals_agrees (use_within n) (use_within m) (uses_agree n m (both_less n m h)) i name macro.body
    macro.formals rest s)

abbrev IncludesAgree : Included → Included → Type 0
IncludesAgree a b = (name : Bytes) (place : Place) (s : State) → Agrees (a name place s) (b name place s)

meant_agrees : {T U : Type 0} (o : Option T) (t : Lexeme) (next more : T → State → Step U) (s : State)
    → ((meaning : T) (v : State) → Agrees (next meaning v) (more meaning v))
    → Agrees (meant o code.Directive t next s) (meant o code.Directive t more s)
meant_agrees None t next more s h = inr refl
meant_agrees (Some meaning) t next more s h = h meaning s

skip_or_agrees : (test : Bool) (branches : List Branch) (s : State) (next more : List Branch → State → Step Onward)
    → Agrees (next branches s) (more branches s) → Agrees (skip_or test branches s next) (skip_or test branches s more)
skip_or_agrees true branches s next more h = inr refl
skip_or_agrees false branches s next more h = h

module _ (a b : Use) (uses : UsesAgree a b) (x y : Included) (includes : IncludesAgree x y) (name : Bytes) where
  at_file_name_agrees : (t : Lexeme) (rest : List Lexeme) (branches : List Branch) (s : State)
      → Agrees (at_file_name a x name t rest branches s) (at_file_name b y name t rest branches s)
  at_file_name_agrees t rest branches s =
      then_agree (read_some own_place (next_token file_name rest).taken rest s)
      (meant (next_token file_name rest).meaning code.Directive t (λ file v. x (included_name name file) (own_place t) v >>= onward 1 branches))
      (meant (next_token file_name rest).meaning code.Directive t (λ file v. y (included_name name file) (own_place t) v >>= onward 1 branches))
      (λ w. meant_agrees (next_token file_name rest).meaning t
      (λ file v. x (included_name name file) (own_place t) v >>= onward 1 branches)
      (λ file v. y (included_name name file) (own_place t) v >>= onward 1 branches) w
      (λ file v. agree_then (x (included_name name file) (own_place t) v) (y (included_name name file) (own_place t) v)
      (onward 1 branches) (onward 1 branches) (includes (included_name name file) (own_place t) v) (λ after. inr refl)))

  at_directive_agrees : (d : Directive) (t : Lexeme) (rest : List Lexeme) (branches : List Branch) (s : State)
      → Agrees (at_directive a x name d t rest branches s) (at_directive b y name d t rest branches s)
  at_directive_agrees Define t rest branches s = inr refl
  at_directive_agrees Undef t rest branches s = inr refl
  at_directive_agrees Ifdef t rest branches s = inr refl
  at_directive_agrees Ifndef t rest branches s = inr refl
  at_directive_agrees Elsif t rest branches s = inr refl
  at_directive_agrees Else t rest branches s = inr refl
  at_directive_agrees Endif t rest branches s = inr refl
  at_directive_agrees Include t rest branches s =
      skip_or_agrees (is_skipped branches) branches s (at_file_name a x name t rest) (at_file_name b y name t rest)
      (at_file_name_agrees t rest branches s)
  at_directive_agrees Ignored t rest branches s = inr refl

  at_outermost_agrees : (macro : Bytes) (t : Lexeme) (rest : List Lexeme) (branches : List Branch) (s : State)
      → Agrees (at_outermost a x name macro t rest branches s) (at_outermost b y name macro t rest branches s)
  at_outermost_agrees macro t rest branches s =
      let i : Inside = record { outermost = own_place t; opened = []; formals = [] } in
      agree_then (a i macro rest s) (b i macro rest s) (λ next. onward next.0 branches next.1) (λ next. onward next.0 branches next.1)
      (uses i macro rest s) (λ next. inr refl)

  at_token_agrees : (role : Role) (t : Lexeme) (rest : List Lexeme) (branches : List Branch) (s : State)
      → Agrees (at_token a x name role t rest branches s) (at_token b y name role t rest branches s)
  at_token_agrees line_end t rest branches s = inr refl
  at_token_agrees (a_directive d) t rest branches s = at_directive_agrees d t rest branches s
  at_token_agrees (a_use macro) t rest branches s =
      skip_or_agrees (is_skipped branches) branches s (at_outermost a x name macro t rest) (at_outermost b y name macro t rest)
      (at_outermost_agrees macro t rest branches s)
  at_token_agrees (a_name word) t rest branches s = inr refl
  at_token_agrees another t rest branches s = inr refl

  expand_file_agrees : (taken : ℕ) (ts : List Lexeme) (branches : List Branch) (s : State)
      → Agrees (expand_file a x name taken ts branches s) (expand_file b y name taken ts branches s)
  expand_file_agrees taken [] branches s = inr refl
  expand_file_agrees (suc taken) (t ∷ rest) branches s = expand_file_agrees taken rest branches s
  expand_file_agrees zero (t ∷ rest) branches s =
      agree_then (read_one (own_place t) s >>= at_token a x name (role_of t) t rest branches)
      (read_one (own_place t) s >>= at_token b y name (role_of t) t rest branches)
      (λ next. expand_file a x name next.taken rest next.branches next.state)
      (λ next. expand_file b y name next.taken rest next.branches next.state)
      (then_agree (read_one (own_place t) s) (at_token a x name (role_of t) t rest branches) (at_token b y name (role_of t) t rest branches)
      (λ v. at_token_agrees (role_of t) t rest branches v))
      (λ next. expand_file_agrees next.taken rest next.branches next.state)

module _ (most : Limits) (uses includes : ℕ) (tokens : ℕ → Bytes → List Token) (readings : Readings) (more_uses : most.uses ≤ uses) where
  abbrev wider : Limits
  wider = record most { uses = uses; includes = includes }

  unless_large_agrees : (test : Bool) (x y : Included) → IncludesAgree x y → (name bytes : Bytes) (file : ℕ) (s : State)
      → Agrees (unless_large most tokens readings test x name bytes file s) (unless_large wider tokens readings test y name bytes file s)
  unless_large_agrees true x y agree name bytes file s = inr refl
  unless_large_agrees false x y agree name bytes file s =
      expand_file_agrees (use_within most.uses) (use_within uses) (uses_agree most.uses uses more_uses) x y agree name 0
      (lexemes_of bytes (tokens file bytes)) [] s

  expand_bytes_agrees : (x y : Included) → IncludesAgree x y → (name bytes : Bytes) (s : State)
      → Agrees (expand_bytes most tokens readings x name bytes s) (expand_bytes wider tokens readings y name bytes s)
  expand_bytes_agrees x y agree name bytes s =
      unless_large_agrees (nat_lt most.bytes (length bytes)) x y agree name bytes _ s

  include_of_agrees : (o : Option Bytes) (x y : Included) → IncludesAgree x y → (name : Bytes) (place : Place) (s : State)
      → Agrees (include_of most tokens readings o x name place s) (include_of wider tokens readings o y name place s)
  include_of_agrees None x y agree name place s = inr refl
  include_of_agrees (Some bytes) x y agree name place s = expand_bytes_agrees x y agree name bytes s

  includes_agree : (n m : ℕ) → n ≤ m → IncludesAgree (include_within most tokens readings n) (include_within wider tokens readings m)
  includes_agree zero m h = λ name place s. inl (inr refl)
  includes_agree (suc n) zero h = absurd (not_less n h)
  includes_agree (suc n) (suc m) h = λ name place s.
      include_of_agrees (readings (length s.asked) name) (include_within most tokens readings n) (include_within wider tokens readings m)
      (includes_agree n m (both_less n m h)) name place (asking name s)

  ended_agrees : (bytes : Bytes) (m other : Step State) → Agrees m other
      → IsTooDeep (ended bytes m) ⊎ (ended bytes other ≡ ended bytes m)
  ended_agrees bytes (Ok s) other (inl deep) = absurd deep
  ended_agrees bytes (Err stop) other (inl deep) = inl deep
  ended_agrees bytes m other (inr e) = inr (ap (ended bytes) e)

  expansion_agrees : most.includes ≤ includes → (o : Option Bytes) (main : Bytes)
      → IsTooDeep (expansion_of o most tokens readings main)
      ⊎ (expansion_of o wider tokens readings main ≡ expansion_of o most tokens readings main)
  expansion_agrees more_includes None main = inr refl
  expansion_agrees more_includes (Some bytes) main =
      ended_agrees bytes
      (expand_bytes most tokens readings (include_within most tokens readings most.includes) main bytes (asking main (start most)))
      (expand_bytes wider tokens readings (include_within wider tokens readings includes) main bytes (asking main (start wider)))
      (expand_bytes_agrees (include_within most tokens readings most.includes) (include_within wider tokens readings includes)
      (includes_agree most.includes includes more_includes) main bytes (asking main (start most)))

pub depths_only_refuse : DepthsOnlyRefuse
depths_only_refuse most uses includes tokens readings main more_uses more_includes =
    expansion_agrees most uses includes tokens readings more_uses more_includes (readings 0 main) main
