-- What each step of an expansion keeps: the tokens of macros, arguments and the result come from files that were read.
use Rattle.std.proofs.Common.{◌≡◌, ◌<◌, ◌≤◌, ◌+◌, ◌-◌, lit≤, ℕ, zero, suc, List, [], ◌∷◌, ◌++◌, length, refl, sym, subst, arith}
use Rattle.std.specs.Prelude.{Option, Some, None, Ok, IsTrue, Bool, true, false, not, Contains, slice_get, unwrap_or, nat_lt}
use Rattle.std.specs.List.{zip}
use Rattle.std.specs.Str.{bytes_eq}
use Rattle.va_base.specs.declared.place.Place.{Place}
use Rattle.va_base.specs.declared.token.Token.{Token}
use Rattle.va_base.specs.declared.token.TokenKind.{TokenKind}
use Rattle.va_base.specs.declared.token.TokenKind.TheVariants.{Word, System, Tick, Number, Text, Mark, Newline, Bad, End}
use Rattle.va_base.specs.declared.fault.FaultCode.{FaultCode}
use Rattle.va_base.specs.declared.fault.FaultCode.TheVariants as code
use Rattle.va_base.specs.Expansion.{is_kept}
use Rattle.va_preproc.specs.declared.directive.Directive.{Directive}
use Rattle.va_preproc.specs.declared.directive.Directive.TheVariants.{Define, Undef, Ifdef, Ifndef, Elsif, Else, Endif, Include, Ignored}
use Rattle.va_preproc.specs.Lexemes.{Bytes, Lexeme, lexemes_of, Role, line_end, a_directive, a_use, a_name, another, role_by, role_of, tick_role, found, name_of}
use Rattle.va_preproc.specs.Reading.{Macro, State, Stop, Step, ◌>>=◌, stopped, read_one_of, read_one, read_some, own_place, placed, give_to_result, give_where, give, give_all}
use Rattle.va_preproc.specs.Definitions.{Form, line, next_token, macro_name, file_name, definition_form}
use Rattle.va_preproc.specs.declared.condition.Branch.{Branch}
use Rattle.va_preproc.specs.Conditionals.{is_skipped, Onward, meant, with_form, at_if, at_elsif, at_else, at_endif, all_closed, open_branch, unless_last}
use Rattle.va_preproc.specs.Uses.{list_form, Inside, Use, Opened, at_name, no_more, at_role, expand_list, expand_argument, expand_arguments, expand_body, matching, with_arguments, by_formals, open_use, unless_open, of_macro, checked_use, use_within}
use Rattle.va_preproc.specs.Expansion.{Limits, Readings, with_macro, included_name, onward, Included, skip_or, at_define, at_undef, at_file_name, at_ignored, at_directive, at_outermost, at_token, expand_file, asking, first_place, unless_large, expand_bytes, include_of, include_within}
use Rattle.va_preproc.specs.Laws.{IsOriginal, ComesFrom, AreOfFiles}
use Rattle.std.proofs.lemmas.List.{length-append}
use Rattle.std.proofs.lemmas.Bool.{false≢true}
use Rattle.std.proofs.lemmas.Option.{slice_get_within}
use Rattle.va_base.specs.declared.fault.Phase.TheVariants.{Expand}
use Rattle.va_base.specs.Faults.{number_of_code}
use Rattle.va_preproc.proofs.Forms.{if_option, list_keeps, matching_keeps, zip_keeps, found_keeps, definition_keeps}
use Rattle.va_preproc.proofs.Each.{Each, InOption, each_map, each_append, each_all, each_contained, each_of_map, each_both}
use Rattle.va_preproc.proofs.Steps.{Post, post_then, post_map, Extends, extends_refl, extends_one, extends_trans, get_extends}

-- the kinds that are given to a result or an argument
abbrev pub is_plain : TokenKind → Bool
is_plain Word = true
is_plain System = true
is_plain Tick = false
is_plain Number = true
is_plain Text = true
is_plain Mark = true
is_plain Newline = false
is_plain Bad = true
is_plain End = false

-- a token that is given has such a kind
abbrev pub FitsRole : Role → TokenKind → Type 0
FitsRole line_end kind = Unit {0}
FitsRole (a_directive d) kind = Unit {0}
FitsRole (a_use name) kind = Unit {0}
FitsRole (a_name name) kind = IsTrue (is_plain kind)
FitsRole another kind = IsTrue (is_plain kind)

fits_tick : (o : Option Directive) (name : Bytes) → FitsRole (tick_role o name) Tick
fits_tick None name = tt
fits_tick (Some d) name = tt

fits : (kind : TokenKind) (bytes : Bytes) → (kind ≡ End → ⊥) → FitsRole (role_by kind bytes) kind
fits Word bytes h = refl
fits System bytes h = refl
fits Tick bytes h = fits_tick _ _
fits Number bytes h = refl
fits Text bytes h = refl
fits Mark bytes h = refl
fits Newline bytes h = tt
fits Bad bytes h = refl
fits End bytes h = absurd (h refl)

-- a place lies in a file that was read
abbrev pub InFile : List Bytes → Place → Type 0
InFile asked place = place.file < length asked

in_more : (a b : List Bytes) → Extends a b → (place : Place) → InFile a place → InFile b place
in_more a b e place h = subst (λ names. place.file < length names) (sym e.1) (longer_in a e.0 place.file h)
  where
    longer_in : (a more : List Bytes) (n : ℕ) → n < length a → n < length (a ++ more)
    longer_in a more n h = omega (arith, length-append a more)

put_counted : (result : List Token) (t : Token) (free more room : ℕ) → length result + free ≡ room → free ≡ suc more
    → length (result ++ t ∷ []) + more ≡ room
put_counted result t free more room h e = omega (arith, length-append result (t ∷ []))

few_counted : (taken free room : ℕ) → taken + free ≡ room → taken ≤ room
few_counted taken free room e = omega arith

module _ (tokens : ℕ → Bytes → List Token) (readings : Readings) (room : ℕ) where
  -- a token of a file that was read
  pub record IsSound (asked : List Bytes) (t : Lexeme) : Type 0 where
    pub original : IsOriginal tokens readings asked t.token
    pub no_end : t.token.kind ≡ End → ⊥
    pub in_file : InFile asked t.token.place

  -- one that may be given
  pub record IsGiven (asked : List Bytes) (t : Lexeme) : Type 0 where
    pub sound : IsSound asked t
    pub plain : IsTrue (is_plain t.token.kind)

  -- what a state keeps
  pub record Keeps (s : State) : Type 0 where
    pub macros : (name : Bytes) → InOption (λ m. Each (IsSound s.asked) m.body) (s.macros name)
    pub result : Each (ComesFrom tokens readings s.asked) s.result
    pub argument : InOption (Each (IsGiven s.asked)) s.argument
    pub counted : length s.result + s.free ≡ room

  -- a state that keeps this, and more names
  pub record Later (asked : List Bytes) (s : State) : Type 0 where
    pub keeps : Keeps s
    pub extends : Extends asked s.asked

  -- an expansion that began after these names stops in this way
  pub record Refused (asked : List Bytes) (stop : Stop) : Type 0 where
    pub phase : stop.fault.phase ≡ Expand
    pub code : number_of_code stop.fault.code ≤ 11
    pub inside : InFile stop.asked stop.fault.place
    pub few : stop.fault.at ≤ room
    pub extends : Extends asked stop.asked

  refused_more : (a b : List Bytes) → Extends a b → (stop : Stop) → Refused b stop → Refused a stop
  refused_more a b e stop r = record {
    phase = r.phase;
    code = r.code;
    inside = r.inside;
    few = r.few;
    extends = extends_trans a b stop.asked e r.extends;
  }

  stops : {T : Type 0} (Q : T → Type 0) (fault : FaultCode) (place : Place) (s : State) → number_of_code fault ≤ 11 → Keeps s
      → InFile s.asked place → Post (Refused s.asked) Q (stopped fault place s)
  stops Q fault place s low k at = record {
    phase = refl;
    code = low;
    inside = at;
    few = few_counted (length s.result) s.free room k.counted;
    extends = extends_refl s.asked;
  }

  original_more : (a b : List Bytes) → Extends a b → (t : Token) → IsOriginal tokens readings a t → IsOriginal tokens readings b t
  original_more a b e t o = record {
    name = o.name;
    bytes = o.bytes;
    read = get_extends a b t.file o.name e o.read;
    holding = o.holding;
    among = o.among;
  }

  pub sound_more : (a b : List Bytes) → Extends a b → (t : Lexeme) → IsSound a t → IsSound b t
  sound_more a b e t o = record { original = original_more a b e t.token o.original; no_end = o.no_end; in_file = in_more a b e t.token.place o.in_file }

  given_more : (a b : List Bytes) → Extends a b → (t : Lexeme) → IsGiven a t → IsGiven b t
  given_more a b e t o = record { sound = sound_more a b e t o.sound; plain = o.plain }

  from_more : (a b : List Bytes) → Extends a b → (t : Token) → ComesFrom tokens readings a t → ComesFrom tokens readings b t
  from_more a b e t o = record { original = o.original; is = original_more a b e o.original o.is; same = o.same; kept = o.kept }

  sounds_more : (a b : List Bytes) → Extends a b → (ts : List Lexeme) → Each (IsSound a) ts → Each (IsSound b) ts
  sounds_more a b e = each_map (IsSound a) (IsSound b) (sound_more a b e)

  givens_more : (a b : List Bytes) → Extends a b → (ts : List Lexeme) → Each (IsGiven a) ts → Each (IsGiven b) ts
  givens_more a b e = each_map (IsGiven a) (IsGiven b) (given_more a b e)

  argument_more : (a b : List Bytes) → Extends a b → (o : Option (List Lexeme)) → InOption (Each (IsGiven a)) o → InOption (Each (IsGiven b)) o
  argument_more a b e None h = tt
  argument_more a b e (Some ts) h = givens_more a b e ts h

  later_here : (s : State) → Keeps s → Later s.asked s
  later_here s k = record { keeps = k; extends = extends_refl s.asked }

  later_more : (a b : List Bytes) → Extends a b → (s : State) → Later b s → Later a s
  later_more a b e s l = record { keeps = l.keeps; extends = extends_trans a b s.asked e l.extends }

  later_post : {T : Type 0} (f : T → State) (a b : List Bytes) → Extends a b → (m : Step T)
      → Post (Refused b) (λ v. Later b (f v)) m → Post (Refused a) (λ v. Later a (f v)) m
  later_post f a b e m = post_map (Refused b) (Refused a) (λ v. Later b (f v)) (λ v. Later a (f v)) m (refused_more a b e) (λ v l. later_more a b e (f v) l)

  -- a step, and one after it
  pub then_later : {T U : Type 0} (f : T → State) (g : U → State) (a : List Bytes) (m : Step T) (next : T → Step U)
      → Post (Refused a) (λ v. Later a (f v)) m → ((v : T) → Keeps (f v) → Extends a (f v).asked → Post (Refused (f v).asked) (λ u. Later (f v).asked (g u)) (next v))
      → Post (Refused a) (λ u. Later a (g u)) (m >>= next)
  then_later f g a m next q h =
      post_then (Refused a) (Refused a) (λ v. Later a (f v)) (λ u. Later a (g u)) m next (λ stop r. r) q
      (λ v l. later_post g a (f v).asked l.extends (next v) (h v l.keeps l.extends))

  read_one_of_keeps : (n : ℕ) (place : Place) (s : State) → Keeps s → InFile s.asked place → Post (Refused s.asked) (Later s.asked) (read_one_of n place s)
  read_one_of_keeps zero place s k at = stops (Later s.asked) code.TokensMany place s (lit≤ tt) k at
  read_one_of_keeps (suc n) place s k at = record {
    keeps = record { macros = k.macros; result = k.result; argument = k.argument; counted = k.counted };
    extends = extends_refl s.asked;
  }

  read_one_keeps : (place : Place) (s : State) → Keeps s → InFile s.asked place → Post (Refused s.asked) (Later s.asked) (read_one place s)
  read_one_keeps place s k at = read_one_of_keeps s.unread place s k at

  read_some_keeps : (blamed : Lexeme → Place) (n : ℕ) (ts : List Lexeme) (s : State) → Keeps s
      → Each (λ t. InFile s.asked (blamed t)) ts → Post (Refused s.asked) (Later s.asked) (read_some blamed n ts s)
  read_some_keeps blamed n [] s k at = later_here s k
  read_some_keeps blamed zero (t ∷ rest) s k at = later_here s k
  read_some_keeps blamed (suc n) (t ∷ rest) s k at =
      then_later (λ v. v) (λ v. v) s.asked (read_one (blamed t) s) (read_some blamed n rest) (read_one_keeps (blamed t) s k at.0)
      (λ v kept e. read_some_keeps blamed n rest v kept
      (each_map (λ t. InFile s.asked (blamed t)) (λ t. InFile v.asked (blamed t)) (λ t. in_more s.asked v.asked e (blamed t)) rest at.1))

  -- a token put at the end of the result
  put_keeps : (more : ℕ) (t : Lexeme) (place : Place) (s : State) → Keeps s → s.free ≡ suc more → IsSound s.asked t
      → IsTrue (is_kept t.token.kind)
      → Later s.asked (record s { result = s.result ++ placed place t.token ∷ []; free = more })
  put_keeps more t place s k e sound kept = record {
    keeps = record {
      macros = k.macros;
      result = each_append (ComesFrom tokens readings s.asked) s.result (placed place t.token ∷ []) k.result
          (record { original = t.token; is = sound.original; same = refl; kept = kept }, tt);
      argument = k.argument;
      counted = put_counted s.result (placed place t.token) s.free more room k.counted e;
    };
    extends = extends_refl s.asked;
  }

  kept_by : {given : TokenKind} (kind : TokenKind) → given ≡ kind → IsTrue (is_kept kind) → IsTrue (is_kept given)
  kept_by kind q h = subst (λ k. IsTrue (is_kept k)) (sym q) h

  give_to_result_keeps : (kind : TokenKind) (more : ℕ) (t : Lexeme) (place : Place) (s : State) → Keeps s → s.free ≡ suc more
      → IsSound s.asked t → t.token.kind ≡ kind → IsTrue (is_plain kind) → InFile s.asked place
      → Post (Refused s.asked) (Later s.asked) (give_to_result kind more t place s)
  give_to_result_keeps Word more t place s k e sound q plain at = put_keeps more t place s k e sound (kept_by Word q refl)
  give_to_result_keeps System more t place s k e sound q plain at = put_keeps more t place s k e sound (kept_by System q refl)
  give_to_result_keeps Tick more t place s k e sound q plain at = absurd (false≢true plain)
  give_to_result_keeps Number more t place s k e sound q plain at = put_keeps more t place s k e sound (kept_by Number q refl)
  give_to_result_keeps Text more t place s k e sound q plain at = put_keeps more t place s k e sound (kept_by Text q refl)
  give_to_result_keeps Mark more t place s k e sound q plain at = put_keeps more t place s k e sound (kept_by Mark q refl)
  give_to_result_keeps Newline more t place s k e sound q plain at = absurd (false≢true plain)
  give_to_result_keeps Bad more t place s k e sound q plain at = stops (Later s.asked) code.BadToken place s (lit≤ tt) k at
  give_to_result_keeps End more t place s k e sound q plain at = absurd (false≢true plain)

  give_where_keeps : (argument : Option (List Lexeme)) (free : ℕ) (t : Lexeme) (place : Place) (s : State) → Keeps s
      → s.argument ≡ argument → s.free ≡ free → IsGiven s.asked t → InFile s.asked place
      → Post (Refused s.asked) (Later s.asked) (give_where argument free t place s)
  give_where_keeps (Some given) free t place s k a f g at = record {
    keeps = record {
      macros = k.macros;
      result = k.result;
      argument = each_append (IsGiven s.asked) given (t ∷ []) (subst (InOption (Each (IsGiven s.asked))) a k.argument) (g, tt);
      counted = k.counted;
    };
    extends = extends_refl s.asked;
  }
  give_where_keeps None zero t place s k a f g at = stops (Later s.asked) code.TokensMany place s (lit≤ tt) k at
  give_where_keeps None (suc more) t place s k a f g at =
      give_to_result_keeps t.token.kind more t place s k f g.sound refl g.plain at

  give_keeps : (place : Place) (t : Lexeme) (s : State) → IsGiven s.asked t → Keeps s → InFile s.asked place
      → Post (Refused s.asked) (Later s.asked) (give place t s)
  give_keeps place t s g k at = give_where_keeps s.argument s.free t place s k refl refl g at

  give_all_keeps : (place : Place) (ts : List Lexeme) (s : State) → Each (IsGiven s.asked) ts → Keeps s → InFile s.asked place
      → Post (Refused s.asked) (Later s.asked) (give_all place ts s)
  give_all_keeps place [] s e k at = later_here s k
  give_all_keeps place (t ∷ rest) s e k at =
      then_later (λ v. v) (λ v. v) s.asked (read_one place s >>= give place t) (give_all place rest)
      (then_later (λ v. v) (λ v. v) s.asked (read_one place s) (give place t) (read_one_keeps place s k at)
      (λ v kept x. give_keeps place t v (given_more s.asked v.asked x t e.0) kept (in_more s.asked v.asked x place at)))
      (λ v kept x. give_all_keeps place rest v (givens_more s.asked v.asked x rest e.1) kept (in_more s.asked v.asked x place at))

  -- the place of the outermost use, and the expanded arguments of the formals
  abbrev pub FormalsKept : List Bytes → Inside → Type 0
  FormalsKept asked i = InFile asked i.outermost × Each (λ formal. Each (IsGiven asked) formal.1) i.formals

  formals_more : (a b : List Bytes) → Extends a b → (i : Inside) → FormalsKept a i → FormalsKept b i
  formals_more a b e i h = (
    in_more a b e i.outermost h.0,
    each_map (λ f. Each (IsGiven a) f.1) (λ f. Each (IsGiven b) f.1) (λ f. givens_more a b e f.1) i.formals h.1,
  )

  -- a use that keeps all this
  abbrev pub UseKeeps : Use → Type 0
  UseKeeps at_use =
      (i : Inside) (name : Bytes) (rest : List Lexeme) (s : State) → FormalsKept s.asked i → Each (IsSound s.asked) rest → Keeps s
      → Post (Refused s.asked) (λ r. Later s.asked r.1) (at_use i name rest s)

  fits_token : (asked : List Bytes) (t : Lexeme) → IsSound asked t → FitsRole (role_of t) t.token.kind
  fits_token asked t sound = fits t.token.kind t.bytes sound.no_end

  module _ (at_use : Use) (uses : UseKeeps at_use) (i : Inside) where
    at_name_keeps : (o : Option (List Lexeme)) (t : Lexeme) (s : State) → InOption (Each (IsGiven s.asked)) o → IsGiven s.asked t
        → Keeps s → InFile s.asked i.outermost → Post (Refused s.asked) (Later s.asked) (at_name at_use i o t s)
    at_name_keeps None t s h g k at = give_keeps i.outermost t s g k at
    at_name_keeps (Some given) t s h g k at = give_all_keeps i.outermost given s h k at

    no_more_keeps : (asked : List Bytes) (m : Step State) → Post (Refused asked) (Later asked) m → Post (Refused asked) (λ r. Later asked r.1) (m >>= no_more at_use i)
    no_more_keeps asked m h = then_later (λ v. v) (λ r. r.1) asked m (no_more at_use i) h (λ v kept e. later_here v kept)

    at_role_keeps : (role : Role) (t : Lexeme) (rest : List Lexeme) (s : State) → FitsRole role t.token.kind → IsSound s.asked t
        → FormalsKept s.asked i → Each (IsSound s.asked) rest → Keeps s → Post (Refused s.asked) (λ r. Later s.asked r.1) (at_role at_use i role t rest s)
    at_role_keeps line_end t rest s fit sound f e k = later_here s k
    at_role_keeps (a_directive d) t rest s fit sound f e k =
        stops {T = ℕ × State} (λ r. Later s.asked r.1) code.Directive i.outermost s (lit≤ tt) k f.0
    at_role_keeps (a_use macro) t rest s fit sound f e k = uses i macro rest s f e k
    at_role_keeps (a_name word) t rest s fit sound f e k =
        no_more_keeps s.asked (at_name at_use i (found i.formals word) t s)
        (at_name_keeps (found i.formals word) t s (found_keeps (IsGiven s.asked) i.formals word f.1) (record { sound = sound; plain = fit }) k f.0)
    at_role_keeps another t rest s fit sound f e k =
        no_more_keeps s.asked (give i.outermost t s) (give_keeps i.outermost t s (record { sound = sound; plain = fit }) k f.0)

    expand_list_keeps : (taken : ℕ) (ts : List Lexeme) (s : State) → FormalsKept s.asked i → Each (IsSound s.asked) ts → Keeps s
        → Post (Refused s.asked) (Later s.asked) (expand_list at_use i taken ts s)
    expand_list_keeps taken [] s f e k = later_here s k
    expand_list_keeps (suc taken) (t ∷ rest) s f e k = expand_list_keeps taken rest s f e.1 k
    expand_list_keeps zero (t ∷ rest) s f e k =
        then_later (λ r. r.1) (λ v. v) s.asked (read_one i.outermost s >>= at_role at_use i (role_of t) t rest)
        (λ next. expand_list at_use i next.0 rest next.1)
        (then_later (λ v. v) (λ r. r.1) s.asked (read_one i.outermost s) (at_role at_use i (role_of t) t rest) (read_one_keeps i.outermost s k f.0)
        (λ v kept x. at_role_keeps (role_of t) t rest v (fits_token s.asked t e.0) (sound_more s.asked v.asked x t e.0)
        (formals_more s.asked v.asked x i f) (sounds_more s.asked v.asked x rest e.1) kept))
        (λ r kept x. expand_list_keeps r.0 rest r.1 (formals_more s.asked r.1.asked x i f) (sounds_more s.asked r.1.asked x rest e.1) kept)

  -- what an argument gives, and a state
  abbrev pub GivesList : List Bytes → List Lexeme × State → Type 0
  GivesList asked r = Later asked r.1 × Each (IsGiven r.1.asked) r.0

  abbrev pub GivesLists : List Bytes → List (List Lexeme) × State → Type 0
  GivesLists asked r = Later asked r.1 × Each (Each (IsGiven r.1.asked)) r.0

  given_or_none : (asked : List Bytes) (o : Option (List Lexeme)) → InOption (Each (IsGiven asked)) o → Each (IsGiven asked) (unwrap_or o [])
  given_or_none asked None h = tt
  given_or_none asked (Some given) h = h

  lists_more : (a b : List Bytes) → Extends a b → (lists : List (List Lexeme)) → Each (Each (IsGiven a)) lists → Each (Each (IsGiven b)) lists
  lists_more a b e = each_map (Each (IsGiven a)) (Each (IsGiven b)) (givens_more a b e)

  parts_more : (a b : List Bytes) → Extends a b → (lists : List (List Lexeme)) → Each (Each (IsSound a)) lists → Each (Each (IsSound b)) lists
  parts_more a b e = each_map (Each (IsSound a)) (Each (IsSound b)) (sounds_more a b e)

  with_argument : (argument : Option (List Lexeme)) (s : State) → Keeps s → InOption (Each (IsGiven s.asked)) argument
      → Keeps (record s { argument = argument })
  with_argument argument s k h = record { macros = k.macros; result = k.result; argument = h; counted = k.counted }

  module _ (at_use : Use) (uses : UseKeeps at_use) where
    expand_argument_keeps : (i : Inside) (ts : List Lexeme) (s : State) → FormalsKept s.asked i → Each (IsSound s.asked) ts → Keeps s
        → Post (Refused s.asked) (GivesList s.asked) (expand_argument at_use i ts s)
    expand_argument_keeps i ts s f e k =
        post_then (Refused s.asked) (Refused s.asked) (Later s.asked) (GivesList s.asked) (expand_list at_use i 0 ts (record s { argument = Some [] }))
        (λ after. Ok (unwrap_or after.argument [], record after { argument = s.argument })) (λ stop r. r)
        (expand_list_keeps at_use uses i 0 ts (record s { argument = Some [] }) f e (with_argument (Some []) s k tt))
        (λ after l. (
          record {
            keeps = with_argument s.argument after l.keeps (argument_more s.asked after.asked l.extends s.argument k.argument);
            extends = l.extends;
          },
          given_or_none after.asked after.argument l.keeps.argument,
        ))

    expand_arguments_keeps : (i : Inside) (arguments : List (List Lexeme)) (s : State) → FormalsKept s.asked i
        → Each (Each (IsSound s.asked)) arguments → Keeps s → Post (Refused s.asked) (GivesLists s.asked) (expand_arguments at_use i arguments s)
    expand_arguments_keeps i [] s f e k = (later_here s k, tt)
    expand_arguments_keeps i (first ∷ more) s f e k =
        post_then (Refused s.asked) (Refused s.asked) (GivesList s.asked) (GivesLists s.asked) (expand_argument at_use i first s)
        (λ one. expand_arguments at_use i more one.1 >>= λ others. Ok (one.0 ∷ others.0, others.1)) (λ stop r. r)
        (expand_argument_keeps i first s f e.0 k)
        (λ one g. post_then (Refused one.1.asked) (Refused s.asked) (GivesLists one.1.asked) (GivesLists s.asked) (expand_arguments at_use i more one.1)
        (λ others. Ok (one.0 ∷ others.0, others.1)) (refused_more s.asked one.1.asked g.0.extends)
        (expand_arguments_keeps i more one.1 (formals_more s.asked one.1.asked g.0.extends i f)
        (parts_more s.asked one.1.asked g.0.extends more e.1) g.0.keeps)
        (λ others h. (
          later_more s.asked one.1.asked g.0.extends others.1 h.0,
          (givens_more one.1.asked others.1.asked h.0.extends one.0 g.1, h.1),
        )))

    expand_body_keeps : (i : Inside) (macro : Bytes) (body : List Lexeme) (taken : ℕ) (formals : List (Bytes × List Lexeme)) (s : State)
        → InFile s.asked i.outermost → Each (λ formal. Each (IsGiven s.asked) formal.1) formals → Each (IsSound s.asked) body → Keeps s
        → Post (Refused s.asked) (λ r. Later s.asked r.1) (expand_body at_use i macro body taken formals s)
    expand_body_keeps i macro body taken formals s at f e k =
        let inner : Inside = record { outermost = i.outermost; opened = macro ∷ i.opened; formals = formals } in
        then_later (λ v. v) (λ r. r.1) s.asked (expand_list at_use inner 0 body s) (λ after. Ok (taken, after))
        (expand_list_keeps at_use uses inner 0 body s (at, f) e k)
        (λ v kept x. later_here v kept)

    with_arguments_keeps : (i : Inside) (o : Option (List (List Lexeme))) (s : State) → FormalsKept s.asked i
        → InOption (Each (Each (IsSound s.asked))) o → Keeps s → Post (Refused s.asked) (GivesLists s.asked) (with_arguments at_use i o s)
    with_arguments_keeps i None s f e k = stops (GivesLists s.asked) code.MacroArgs i.outermost s (lit≤ tt) k f.0
    with_arguments_keeps i (Some arguments) s f e k = expand_arguments_keeps i arguments s f e k

    parts_option_more : (a b : List Bytes) → Extends a b → (o : Option (List (List Lexeme))) → InOption (Each (Each (IsSound a))) o
        → InOption (Each (Each (IsSound b))) o
    parts_option_more a b e None h = tt
    parts_option_more a b e (Some lists) h = parts_more a b e lists h

    by_formals_keeps : (i : Inside) (name : Bytes) (body : List Lexeme) (o : Option (List Bytes)) (rest : List Lexeme) (s : State)
        → FormalsKept s.asked i → Each (IsSound s.asked) body → Each (IsSound s.asked) rest → Keeps s
        → Post (Refused s.asked) (λ r. Later s.asked r.1) (by_formals at_use i name body o rest s)
    by_formals_keeps i name body None rest s f b e k = expand_body_keeps i name body 0 [] s f.0 tt b k
    by_formals_keeps i name body (Some formals) rest s f b e k =
        let list = list_form rest in
        post_then (Refused s.asked) (Refused s.asked) (GivesLists s.asked) (λ r. Later s.asked r.1)
        (read_some (λ t. i.outermost) list.taken rest s >>= with_arguments at_use i (matching formals list.meaning))
        (λ given. expand_body at_use i name body list.taken (zip formals given.0) given.1) (λ stop r. r)
        (post_then (Refused s.asked) (Refused s.asked) (Later s.asked) (GivesLists s.asked)
        (read_some (λ t. i.outermost) list.taken rest s) (with_arguments at_use i (matching formals list.meaning)) (λ stop r. r)
        (read_some_keeps (λ t. i.outermost) list.taken rest s k
        (each_map (IsSound s.asked) (λ t. InFile s.asked i.outermost) (λ t sound. f.0) rest e))
        (λ v l. post_map (Refused v.asked) (Refused s.asked) (GivesLists v.asked) (GivesLists s.asked)
        (with_arguments at_use i (matching formals list.meaning) v) (refused_more s.asked v.asked l.extends)
        (λ r g. (later_more s.asked v.asked l.extends r.1 g.0, g.1))
        (with_arguments_keeps i (matching formals list.meaning) v (formals_more s.asked v.asked l.extends i f)
        (parts_option_more s.asked v.asked l.extends (matching formals list.meaning)
        (matching_keeps (IsSound s.asked) formals list.meaning (list_keeps (IsSound s.asked) rest e))) l.keeps)))
        (λ given g. later_post (λ r. r.1) s.asked given.1.asked g.0.extends
        (expand_body at_use i name body list.taken (zip formals given.0) given.1)
        (expand_body_keeps i name body list.taken (zip formals given.0) given.1
        (in_more s.asked given.1.asked g.0.extends i.outermost f.0)
        (zip_keeps (IsGiven given.1.asked) formals given.0 g.1) (sounds_more s.asked given.1.asked g.0.extends body b) g.0.keeps))

  -- the same of a use of a macro that is known
  abbrev pub OpenedKeeps : Opened → Type 0
  OpenedKeeps opened =
      (i : Inside) (name : Bytes) (macro : Macro) (rest : List Lexeme) (s : State) → FormalsKept s.asked i
      → Each (IsSound s.asked) macro.body → Each (IsSound s.asked) rest → Keeps s
      → Post (Refused s.asked) (λ r. Later s.asked r.1) (opened i name macro rest s)

  unless_open_keeps : (test : Bool) (opened : Opened) → OpenedKeeps opened → (i : Inside) (name : Bytes) (macro : Macro)
      (rest : List Lexeme) (s : State) → FormalsKept s.asked i → Each (IsSound s.asked) macro.body → Each (IsSound s.asked) rest → Keeps s
      → Post (Refused s.asked) (λ r. Later s.asked r.1) (unless_open test opened i name macro rest s)
  unless_open_keeps true opened o i name macro rest s f b e k =
      stops {T = ℕ × State} (λ r. Later s.asked r.1) code.MacroSelf i.outermost s (lit≤ tt) k f.0
  unless_open_keeps false opened o i name macro rest s f b e k = o i name macro rest s f b e k

  of_macro_keeps : (found : Option Macro) (opened : Opened) → OpenedKeeps opened → (i : Inside) (name : Bytes)
      (rest : List Lexeme) (s : State) → FormalsKept s.asked i → InOption (λ m. Each (IsSound s.asked) m.body) found
      → Each (IsSound s.asked) rest → Keeps s → Post (Refused s.asked) (λ r. Later s.asked r.1) (of_macro found opened i name rest s)
  of_macro_keeps None opened o i name rest s f b e k =
      stops {T = ℕ × State} (λ r. Later s.asked r.1) code.UnknownMacro i.outermost s (lit≤ tt) k f.0
  of_macro_keeps (Some macro) opened o i name rest s f b e k = unless_open_keeps _ opened o i name macro rest s f b e k

  checked_use_keeps : (opened : Opened) → OpenedKeeps opened → UseKeeps (checked_use opened)
  checked_use_keeps opened o i name rest s f e k = of_macro_keeps (s.macros name) opened o i name rest s f (k.macros name) e k

  pub use_within_keeps : (n : ℕ) → UseKeeps (use_within n)
  use_within_keeps zero =
      checked_use_keeps (λ i name macro rest s. stopped code.MacroDeep i.outermost s) (λ i name macro rest s f b e k. stops {T = ℕ × State} (λ r. Later s.asked r.1) code.MacroDeep i.outermost s (lit≤ tt) k f.0)
  use_within_keeps (suc n) =
      checked_use_keeps (open_use (use_within n))
      (λ i name macro rest s f b e k. by_formals_keeps (use_within n) (use_within_keeps n) i name macro.body macro.formals rest s f b e k)

  -- an include that keeps all this
  abbrev pub IncludeKeeps : Included → Type 0
  IncludeKeeps at_include =
      (name : Bytes) (place : Place) (s : State) → Keeps s → InFile s.asked place
      → Post (Refused s.asked) (Later s.asked) (at_include name place s)

  -- the conditionals that are open began in files that were read
  abbrev pub Begun : List Bytes → List Branch → Type 0
  Begun asked = Each (λ b. InFile asked b.begins)

  begun_more : (a b : List Bytes) → Extends a b → (branches : List Branch) → Begun a branches → Begun b branches
  begun_more a b e = each_map (λ branch. InFile a branch.begins) (λ branch. InFile b branch.begins) (λ branch. in_more a b e branch.begins)

  -- where a file goes on
  abbrev pub GoesOn : List Bytes → Onward → Type 0
  GoesOn asked next = Later asked next.state × Begun next.state.asked next.branches

  goes_post : (a b : List Bytes) → Extends a b → (m : Step Onward) → Post (Refused b) (GoesOn b) m → Post (Refused a) (GoesOn a) m
  goes_post a b e m =
      post_map (Refused b) (Refused a) (GoesOn b) (GoesOn a) m (refused_more a b e) (λ v g. (later_more a b e v.state g.0, g.1))

  meant_keeps : {T : Type 0} (Q : T → Type 0) (o : Option T) (fault : FaultCode) (t : Lexeme)
      (next : T → State → Step Onward) (s : State) → number_of_code fault ≤ 11 → Keeps s → InFile s.asked (own_place t) → InOption Q o
      → ((meaning : T) → Q meaning → Post (Refused s.asked) (GoesOn s.asked) (next meaning s))
      → Post (Refused s.asked) (GoesOn s.asked) (meant o fault t next s)
  meant_keeps Q None fault t next s low k at q h = stops (GoesOn s.asked) fault (own_place t) s low k at
  meant_keeps Q (Some meaning) fault t next s low k at q h = h meaning q

  own_places : (asked : List Bytes) (ts : List Lexeme) → Each (IsSound asked) ts → Each (λ t. InFile asked (own_place t)) ts
  own_places asked = each_map (IsSound asked) (λ t. InFile asked (own_place t)) (λ t sound. sound.in_file)

  with_form_keeps : {T : Type 0} (Q : T → Type 0) (form : Form T) (fault : FaultCode) (t : Lexeme) (rest : List Lexeme)
      (next : T → State → Step Onward) (s : State) → number_of_code fault ≤ 11 → IsSound s.asked t → Each (IsSound s.asked) rest
      → Keeps s → InOption Q form.meaning
      → ((meaning : T) (v : State) → Q meaning → Keeps v → Extends s.asked v.asked
      → Post (Refused v.asked) (GoesOn v.asked) (next meaning v))
      → Post (Refused s.asked) (GoesOn s.asked) (with_form form fault t rest next s)
  with_form_keeps Q form fault t rest next s low sound e k q h =
      post_then (Refused s.asked) (Refused s.asked) (Later s.asked) (GoesOn s.asked) (read_some own_place form.taken rest s)
      (meant form.meaning fault t next) (λ stop r. r)
      (read_some_keeps own_place form.taken rest s k (own_places s.asked rest e))
      (λ v l. goes_post s.asked v.asked l.extends (meant form.meaning fault t next v)
      (meant_keeps Q form.meaning fault t next v low l.keeps (in_more s.asked v.asked l.extends (own_place t) sound.in_file) q
      (λ meaning p. h meaning v p l.keeps l.extends)))

  any_option : {T : Type 0} (o : Option T) → InOption (λ x. Unit {0}) o
  any_option None = tt
  any_option (Some x) = tt

  at_if_keeps : (condition : Bool → Bool) (t : Lexeme) (rest : List Lexeme) (branches : List Branch) (s : State) → IsSound s.asked t
      → Each (IsSound s.asked) rest → Begun s.asked branches → Keeps s
      → Post (Refused s.asked) (GoesOn s.asked) (at_if condition t rest branches s)
  at_if_keeps condition t rest branches s sound e b k =
      with_form_keeps (λ x. Unit {0}) (next_token name_of rest) code.Conditional t rest _ s (lit≤ tt) sound e k (any_option _)
      (λ name v q kept x. (
        later_here v kept,
        (in_more s.asked v.asked x (own_place t) sound.in_file, begun_more s.asked v.asked x branches b),
      ))

  open_branch_keeps : (t : Lexeme) (branches : List Branch) (s : State) (next : Branch → List Branch → State → Step Onward)
      → IsSound s.asked t → Begun s.asked branches → Keeps s
      → ((b : Branch) (outer : List Branch) → InFile s.asked b.begins → Begun s.asked outer
      → Post (Refused s.asked) (GoesOn s.asked) (next b outer s))
      → Post (Refused s.asked) (GoesOn s.asked) (open_branch t branches s next)
  open_branch_keeps t [] s next sound b k h = stops (GoesOn s.asked) code.Conditional (own_place t) s (lit≤ tt) k sound.in_file
  open_branch_keeps t (branch ∷ outer) s next sound b k h = by_last branch.is_last
    where
      by_last : (last : Bool) → Post (Refused s.asked) (GoesOn s.asked) (unless_last last t s (next branch outer))
      by_last true = stops (GoesOn s.asked) code.Conditional (own_place t) s (lit≤ tt) k sound.in_file
      by_last false = h branch outer b.0 b.1

  at_elsif_keeps : (t : Lexeme) (rest : List Lexeme) (branches : List Branch) (s : State) → IsSound s.asked t
      → Each (IsSound s.asked) rest → Begun s.asked branches → Keeps s
      → Post (Refused s.asked) (GoesOn s.asked) (at_elsif t rest branches s)
  at_elsif_keeps t rest branches s sound e b k = open_branch_keeps t branches s _ sound b k (λ branch outer at begun.
      with_form_keeps (λ x. Unit {0}) (next_token name_of rest) code.Conditional t rest _ s (lit≤ tt) sound e k (any_option _)
      (λ name v q kept x. (
        later_here v kept,
        (in_more s.asked v.asked x branch.begins at, begun_more s.asked v.asked x outer begun),
      )))

  at_else_keeps : (t : Lexeme) (branches : List Branch) (s : State) → IsSound s.asked t → Begun s.asked branches → Keeps s
      → Post (Refused s.asked) (GoesOn s.asked) (at_else t branches s)
  at_else_keeps t branches s sound b k =
      open_branch_keeps t branches s _ sound b k (λ branch outer at begun. (later_here s k, (at, begun)))

  at_endif_keeps : (t : Lexeme) (branches : List Branch) (s : State) → IsSound s.asked t → Begun s.asked branches → Keeps s
      → Post (Refused s.asked) (GoesOn s.asked) (at_endif t branches s)
  at_endif_keeps t [] s sound b k = stops (GoesOn s.asked) code.Conditional (own_place t) s (lit≤ tt) k sound.in_file
  at_endif_keeps t (branch ∷ outer) s sound b k = (later_here s k, b.1)

  all_closed_keeps : (branches : List Branch) (s : State) → Begun s.asked branches → Keeps s
      → Post (Refused s.asked) (Later s.asked) (all_closed branches s)
  all_closed_keeps [] s b k = later_here s k
  all_closed_keeps (branch ∷ outer) s b k = stops (Later s.asked) code.Conditional branch.begins s (lit≤ tt) k b.0

  onward_keeps : (taken : ℕ) (branches : List Branch) (asked : List Bytes) (m : Step State) → Begun asked branches
      → Post (Refused asked) (Later asked) m → Post (Refused asked) (GoesOn asked) (m >>= onward taken branches)
  onward_keeps taken branches asked m b h =
      post_then (Refused asked) (Refused asked) (Later asked) (GoesOn asked) m (onward taken branches) (λ stop r. r) h
      (λ v l. (l, begun_more asked v.asked l.extends branches b))

  with_macro_keeps : (name : Bytes) (o : Option Macro) (s : State) → InOption (λ m. Each (IsSound s.asked) m.body) o → Keeps s
      → Keeps (record s { macros = with_macro name o s.macros })
  with_macro_keeps name o s h k = record {
    macros = λ other. if_option (λ m. Each (IsSound s.asked) m.body) (bytes_eq other name) o (s.macros other) h (k.macros other);
    result = k.result;
    argument = k.argument;
    counted = k.counted;
  }

  skip_or_keeps : (test : Bool) (branches : List Branch) (s : State) (next : List Branch → State → Step Onward)
      → Begun s.asked branches → Keeps s → Post (Refused s.asked) (GoesOn s.asked) (next branches s)
      → Post (Refused s.asked) (GoesOn s.asked) (skip_or test branches s next)
  skip_or_keeps true branches s next b k h = (later_here s k, b)
  skip_or_keeps false branches s next b k h = h

  module _ (at_use : Use) (uses : UseKeeps at_use) (at_include : Included) (includes : IncludeKeeps at_include) (name : Bytes) where
    at_define_keeps : (t : Lexeme) (rest : List Lexeme) (branches : List Branch) (s : State) → IsSound s.asked t
        → Each (IsSound s.asked) rest → Begun s.asked branches → Keeps s
        → Post (Refused s.asked) (GoesOn s.asked) (at_define at_use at_include name t rest branches s)
    at_define_keeps t rest branches s sound e b k =
        with_form_keeps (λ d. Each (IsSound s.asked) d.1.body) (definition_form rest) code.Directive t rest _ s (lit≤ tt) sound e k
        (definition_keeps (IsSound s.asked) rest e)
        (λ d v q kept x. (
          later_here (record v { macros = with_macro d.0 (Some d.1) v.macros })
              (with_macro_keeps d.0 (Some d.1) v (sounds_more s.asked v.asked x d.1.body q) kept),
          begun_more s.asked v.asked x branches b,
        ))

    at_undef_keeps : (t : Lexeme) (rest : List Lexeme) (branches : List Branch) (s : State) → IsSound s.asked t
        → Each (IsSound s.asked) rest → Begun s.asked branches → Keeps s
        → Post (Refused s.asked) (GoesOn s.asked) (at_undef at_use at_include name t rest branches s)
    at_undef_keeps t rest branches s sound e b k =
        with_form_keeps (λ x. Unit {0}) (next_token macro_name rest) code.Directive t rest _ s (lit≤ tt) sound e k (any_option _)
        (λ macro v q kept x. (
          later_here (record v { macros = with_macro macro None v.macros }) (with_macro_keeps macro None v tt kept),
          begun_more s.asked v.asked x branches b,
        ))

    at_file_name_keeps : (t : Lexeme) (rest : List Lexeme) (branches : List Branch) (s : State) → IsSound s.asked t
        → Each (IsSound s.asked) rest → Begun s.asked branches → Keeps s
        → Post (Refused s.asked) (GoesOn s.asked) (at_file_name at_use at_include name t rest branches s)
    at_file_name_keeps t rest branches s sound e b k =
        with_form_keeps (λ x. Unit {0}) (next_token file_name rest) code.Directive t rest _ s (lit≤ tt) sound e k (any_option _)
        (λ file v q kept x. onward_keeps 1 branches v.asked (at_include (included_name name file) (own_place t) v)
        (begun_more s.asked v.asked x branches b)
        (includes (included_name name file) (own_place t) v kept (in_more s.asked v.asked x (own_place t) sound.in_file)))

    at_ignored_keeps : (rest : List Lexeme) (branches : List Branch) (s : State) → Each (IsSound s.asked) rest → Begun s.asked branches
        → Keeps s → Post (Refused s.asked) (GoesOn s.asked) (at_ignored at_use at_include name rest branches s)
    at_ignored_keeps rest branches s e b k =
        onward_keeps (length (line rest)) branches s.asked (read_some own_place (length (line rest)) rest s) b
        (read_some_keeps own_place (length (line rest)) rest s k (own_places s.asked rest e))

    at_directive_keeps : (d : Directive) (t : Lexeme) (rest : List Lexeme) (branches : List Branch) (s : State) → IsSound s.asked t
        → Each (IsSound s.asked) rest → Begun s.asked branches → Keeps s
        → Post (Refused s.asked) (GoesOn s.asked) (at_directive at_use at_include name d t rest branches s)
    at_directive_keeps Define t rest branches s sound e b k =
        skip_or_keeps (is_skipped branches) branches s (at_define at_use at_include name t rest) b k
        (at_define_keeps t rest branches s sound e b k)
    at_directive_keeps Undef t rest branches s sound e b k =
        skip_or_keeps (is_skipped branches) branches s (at_undef at_use at_include name t rest) b k
        (at_undef_keeps t rest branches s sound e b k)
    at_directive_keeps Ifdef t rest branches s sound e b k = at_if_keeps (λ defined. defined) t rest branches s sound e b k
    at_directive_keeps Ifndef t rest branches s sound e b k = at_if_keeps not t rest branches s sound e b k
    at_directive_keeps Elsif t rest branches s sound e b k = at_elsif_keeps t rest branches s sound e b k
    at_directive_keeps Else t rest branches s sound e b k = at_else_keeps t branches s sound b k
    at_directive_keeps Endif t rest branches s sound e b k = at_endif_keeps t branches s sound b k
    at_directive_keeps Include t rest branches s sound e b k =
        skip_or_keeps (is_skipped branches) branches s (at_file_name at_use at_include name t rest) b k
        (at_file_name_keeps t rest branches s sound e b k)
    at_directive_keeps Ignored t rest branches s sound e b k =
        skip_or_keeps (is_skipped branches) branches s (at_ignored at_use at_include name rest) b k
        (at_ignored_keeps rest branches s e b k)

    at_outermost_keeps : (macro : Bytes) (t : Lexeme) (rest : List Lexeme) (branches : List Branch) (s : State) → IsSound s.asked t
        → Each (IsSound s.asked) rest → Begun s.asked branches → Keeps s
        → Post (Refused s.asked) (GoesOn s.asked) (at_outermost at_use at_include name macro t rest branches s)
    at_outermost_keeps macro t rest branches s sound e b k =
        let i : Inside = record { outermost = own_place t; opened = []; formals = [] } in
        post_then (Refused s.asked) (Refused s.asked) (λ r. Later s.asked r.1) (GoesOn s.asked) (at_use i macro rest s)
        (λ next. onward next.0 branches next.1) (λ stop r. r)
        (uses i macro rest s (sound.in_file, tt) e k)
        (λ r l. (l, begun_more s.asked r.1.asked l.extends branches b))

    give_here_keeps : (t : Lexeme) (branches : List Branch) (s : State) → IsGiven s.asked t → Begun s.asked branches → Keeps s
        → Post (Refused s.asked) (GoesOn s.asked) (give (own_place t) t s >>= onward 0 branches)
    give_here_keeps t branches s g b k =
        onward_keeps 0 branches s.asked (give (own_place t) t s) b (give_keeps (own_place t) t s g k g.sound.in_file)

    at_token_keeps : (role : Role) (t : Lexeme) (rest : List Lexeme) (branches : List Branch) (s : State) → FitsRole role t.token.kind
        → IsSound s.asked t → Each (IsSound s.asked) rest → Begun s.asked branches → Keeps s
        → Post (Refused s.asked) (GoesOn s.asked) (at_token at_use at_include name role t rest branches s)
    at_token_keeps line_end t rest branches s fit sound e b k = (later_here s k, b)
    at_token_keeps (a_directive d) t rest branches s fit sound e b k = at_directive_keeps d t rest branches s sound e b k
    at_token_keeps (a_use macro) t rest branches s fit sound e b k =
        skip_or_keeps (is_skipped branches) branches s (at_outermost at_use at_include name macro t rest) b k
        (at_outermost_keeps macro t rest branches s sound e b k)
    at_token_keeps (a_name word) t rest branches s fit sound e b k =
        skip_or_keeps (is_skipped branches) branches s (λ outer v. give (own_place t) t v >>= onward 0 outer) b k
        (give_here_keeps t branches s (record { sound = sound; plain = fit }) b k)
    at_token_keeps another t rest branches s fit sound e b k =
        skip_or_keeps (is_skipped branches) branches s (λ outer v. give (own_place t) t v >>= onward 0 outer) b k
        (give_here_keeps t branches s (record { sound = sound; plain = fit }) b k)

    expand_file_keeps : (taken : ℕ) (ts : List Lexeme) (branches : List Branch) (s : State) → Each (IsSound s.asked) ts
        → Begun s.asked branches → Keeps s
        → Post (Refused s.asked) (Later s.asked) (expand_file at_use at_include name taken ts branches s)
    expand_file_keeps taken [] branches s e b k = all_closed_keeps branches s b k
    expand_file_keeps (suc taken) (t ∷ rest) branches s e b k = expand_file_keeps taken rest branches s e.1 b k
    expand_file_keeps zero (t ∷ rest) branches s e b k =
        post_then (Refused s.asked) (Refused s.asked) (GoesOn s.asked) (Later s.asked)
        (read_one (own_place t) s >>= at_token at_use at_include name (role_of t) t rest branches)
        (λ next. expand_file at_use at_include name next.taken rest next.branches next.state) (λ stop r. r)
        (post_then (Refused s.asked) (Refused s.asked) (Later s.asked) (GoesOn s.asked) (read_one (own_place t) s)
        (at_token at_use at_include name (role_of t) t rest branches) (λ stop r. r)
        (read_one_keeps (own_place t) s k e.0.in_file)
        (λ v l. goes_post s.asked v.asked l.extends (at_token at_use at_include name (role_of t) t rest branches v)
        (at_token_keeps (role_of t) t rest branches v (fits_token s.asked t e.0) (sound_more s.asked v.asked l.extends t e.0)
        (sounds_more s.asked v.asked l.extends rest e.1) (begun_more s.asked v.asked l.extends branches b) l.keeps)))
        (λ next g. later_post (λ v. v) s.asked next.state.asked g.0.extends
        (expand_file at_use at_include name next.taken rest next.branches next.state)
        (expand_file_keeps next.taken rest next.branches next.state (sounds_more s.asked next.state.asked g.0.extends rest e.1) g.1
        g.0.keeps))

  asking_keeps : (name : Bytes) (s : State) → Keeps s → Later s.asked (asking name s)
  asking_keeps name s k =
      let e = extends_one s.asked name in
      let now = s.asked ++ name ∷ [] in
      record {
        keeps = record {
          macros = λ other. bodies_more s.asked now e (s.macros other) (k.macros other);
          result = each_map (ComesFrom tokens readings s.asked) (ComesFrom tokens readings now) (from_more s.asked now e) s.result k.result;
          argument = argument_more s.asked now e s.argument k.argument;
          counted = k.counted;
        };
        extends = e;
      }
    where
      bodies_more : (a b : List Bytes) → Extends a b → (o : Option Macro) → InOption (λ m. Each (IsSound a) m.body) o
          → InOption (λ m. Each (IsSound b) m.body) o
      bodies_more a b e None h = tt
      bodies_more a b e (Some m) h = sounds_more a b e m.body h

  -- the tokens of a file that was read, which has this number
  read_tokens : AreOfFiles tokens → (asked : List Bytes) (file : ℕ) (name bytes : Bytes) → slice_get asked file ≡ Some name
      → readings file name ≡ Some bytes → Each (IsSound asked) (lexemes_of bytes (tokens file bytes))
  read_tokens are asked file name bytes at holding =
      each_of_map (IsSound asked) _ (tokens file bytes)
      (each_map (λ t. (t.file ≡ file) × ((t.place.file ≡ file) × ((t.kind ≡ End → ⊥) × Contains (tokens file bytes) t))) _
      (λ t h. record {
        original = record {
          name = name;
          bytes = bytes;
          read = subst (λ n. slice_get asked n ≡ Some name) (sym h.0) at;
          holding = subst (λ n. readings n name ≡ Some bytes) (sym h.0) holding;
          among = subst (λ n. Contains (tokens n bytes) t) (sym h.0) h.1.1.1;
        };
        no_end = h.1.1.0;
        in_file = subst (λ n. n < length asked) (sym h.1.0) (slice_get_within asked file name at);
      })
      (tokens file bytes)
      (each_both (λ t. t.file ≡ file) (λ t. (t.place.file ≡ file) × ((t.kind ≡ End → ⊥) × Contains (tokens file bytes) t)) (tokens file bytes)
      (each_all (λ t. t.file ≡ file) (tokens file bytes) (are.numbered file bytes))
      (each_both (λ t. t.place.file ≡ file) (λ t. (t.kind ≡ End → ⊥) × Contains (tokens file bytes) t) (tokens file bytes)
      (each_all (λ t. t.place.file ≡ file) (tokens file bytes) (are.placed_in file bytes))
      (each_both (λ t. t.kind ≡ End → ⊥) (Contains (tokens file bytes)) (tokens file bytes)
      (each_all (λ t. t.kind ≡ End → ⊥) (tokens file bytes) (are.no_end file bytes)) (each_contained (tokens file bytes))))))

  last_index : (names : List Bytes) (name : Bytes) → length (names ++ name ∷ []) - 1 ≡ length names
  last_index names name = omega (arith, length-append names (name ∷ []))

  -- the file that was read last
  at_end : (names : List Bytes) (name : Bytes) → slice_get (names ++ name ∷ []) (length (names ++ name ∷ []) - 1) ≡ Some name
  at_end names name = subst (λ n. slice_get (names ++ name ∷ []) n ≡ Some name) (sym (last_index names name)) (last_of names name)
    where
      last_of : (names : List Bytes) (name : Bytes) → slice_get (names ++ name ∷ []) (length names) ≡ Some name
      last_of [] name = refl
      last_of (first ∷ names) name = last_of names name

  module _ (are : AreOfFiles tokens) (most : Limits) where
    unless_large_keeps : (test : Bool) (at_include : Included) → IncludeKeeps at_include → (name bytes : Bytes) (file : ℕ) (s : State)
        → Each (IsSound s.asked) (lexemes_of bytes (tokens file bytes)) → file < length s.asked → Keeps s
        → Post (Refused s.asked) (Later s.asked) (unless_large most tokens readings test at_include name bytes file s)
    unless_large_keeps true at_include includes name bytes file s e at k =
        stops (Later s.asked) code.FileLarge (first_place file) s (lit≤ tt) k at
    unless_large_keeps false at_include includes name bytes file s e at k =
        expand_file_keeps (use_within most.uses) (use_within_keeps most.uses) at_include includes name 0
        (lexemes_of bytes (tokens file bytes)) [] s e tt k

    -- a file that was just asked for
    pub expand_bytes_keeps : (at_include : Included) → IncludeKeeps at_include → (name bytes : Bytes) (s : State)
        → readings (length s.asked) name ≡ Some bytes → Keeps s
        → Post (Refused (asking name s).asked) (Later (asking name s).asked) (expand_bytes most tokens readings at_include name bytes (asking name s))
    expand_bytes_keeps at_include includes name bytes s holding k =
        let now = asking name s in
        unless_large_keeps (nat_lt most.bytes (length bytes)) at_include includes name bytes (length now.asked - 1) now
        (read_tokens are now.asked (length now.asked - 1) name bytes (at_end s.asked name)
        (subst (λ n. readings n name ≡ Some bytes) (sym (last_index s.asked name)) holding))
        (slice_get_within now.asked (length now.asked - 1) name (at_end s.asked name)) (asking_keeps name s k).keeps

    include_of_keeps : (o : Option Bytes) (at_include : Included) → IncludeKeeps at_include → (name : Bytes) (place : Place) (s : State)
        → readings (length s.asked) name ≡ o → Keeps s → InFile s.asked place
        → Post (Refused s.asked) (Later s.asked) (include_of most tokens readings o at_include name place (asking name s))
    include_of_keeps None at_include includes name place s holding k at =
        let l = asking_keeps name s k in
        later_post (λ v. v) s.asked (asking name s).asked l.extends (stopped code.MissingInclude place (asking name s))
        (stops (Later (asking name s).asked) code.MissingInclude place (asking name s) (lit≤ tt) l.keeps
        (in_more s.asked (asking name s).asked l.extends place at))
    include_of_keeps (Some bytes) at_include includes name place s holding k at =
        later_post (λ v. v) s.asked (asking name s).asked (asking_keeps name s k).extends
        (expand_bytes most tokens readings at_include name bytes (asking name s))
        (expand_bytes_keeps at_include includes name bytes s holding k)

    pub include_within_keeps : (n : ℕ) → IncludeKeeps (include_within most tokens readings n)
    include_within_keeps zero name place s k at = stops (Later s.asked) code.IncludeDeep place s (lit≤ tt) k at
    include_within_keeps (suc n) name place s k at =
        include_of_keeps (readings (length s.asked) name) (include_within most tokens readings n) (include_within_keeps n) name place s refl k at
