-- The tokens of a file, a step at a time.
use Rattle.std.proofs.Common.{◌≡◌, List, refl, sym, ap, ◌∙◌, Bool, true, false}
use Rattle.std.specs.Prelude.{Option, Some, None, Ok, Err}
use Rattle.va_base.specs.declared.fault.FaultCode.{FaultCode}
use Rattle.va_base.specs.declared.fault.FaultCode.TheVariants.{Directive}
use Rattle.va_preproc.specs.Uses.{Use}
use Rattle.va_preproc.specs.declared.condition.Branch.{Branch}
use Rattle.va_preproc.specs.Lexemes.{Bytes, Lexeme}
use Rattle.va_preproc.specs.Reading.{Macro, State, Step, ◌>>=◌, read_some, own_place}
use Rattle.va_preproc.specs.Definitions.{Form, Definition, definition_form, macro_name, next_token}
use Rattle.va_preproc.specs.Conditionals.{Onward, meant, with_form}
use Rattle.va_preproc.specs.Expansion.{Included, skip_or, with_macro, at_define, at_undef}
use Rattle.va_preproc.specs.Values.{next_read}

-- where text isn't skipped
pub not_skipped : (test : Bool) (branches : List Branch) (s : State) (next : List Branch → State → Step Onward) → test ≡ false
    → skip_or test branches s next ≡ next branches s
not_skipped true branches s next e = cc
not_skipped false branches s next e = refl

abbrev paired : {T : Type 0} → T → State → Step (T × State)
paired meaning s = Ok (meaning, s)

meant_later : {T U : Type 0} (o : Option T) (code : FaultCode) (t : Lexeme) (next : T → State → Step U) (s : State)
    → meant o code t next s ≡ (meant o code t (paired {T = T}) s >>= λ p. next p.0 p.1)
meant_later None code t next s = refl
meant_later (Some meaning) code t next s = refl

step_later : {T U : Type 0} (m : Step State) (o : Option T) (code : FaultCode) (t : Lexeme) (next : T → State → Step U)
    → (m >>= meant o code t next) ≡ ((m >>= meant o code t (paired {T = T})) >>= λ p. next p.0 p.1)
step_later (Ok s) o code t next = meant_later o code t next s
step_later (Err stop) o code t next = refl

-- what follows the token that a directive takes
pub next_later : {T U : Type 0} (read : Lexeme → Option T) (code : FaultCode) (t : Lexeme) (rest : List Lexeme) (next : T → State → Step U)
    (s : State) → with_form (next_token read rest) code t rest next s ≡ (next_read read code t rest s >>= λ p. next p.0 p.1)
next_later read code t rest next s =
    step_later (read_some own_place (next_token read rest).taken rest s) (next_token read rest).meaning code t next

-- a definition that is of its form
pub define_later : (u : Use) (i : Included) (n : Bytes) (t : Lexeme) (rest : List Lexeme) (b : List Branch) (s v : State)
    (form : Form Definition) (name : Bytes) (m : Macro) → form ≡ definition_form rest → read_some own_place form.taken rest s ≡ Ok v
    → form.meaning ≡ Some (name, m)
    → at_define u i n t rest b s ≡ Ok (record { taken = form.taken; branches = b; state = record v { macros = with_macro name (Some m) v.macros } })
define_later u i n t rest b s v form name m e r f =
    ap (λ form. with_form form Directive t rest (λ definition s.
    Ok (record { taken = form.taken; branches = b; state = record s { macros = with_macro definition.0 (Some definition.1) s.macros } })) s) (sym e)
    ∙ ap (λ step. step >>= meant form.meaning Directive t (λ definition s.
    Ok (record { taken = form.taken; branches = b; state = record s { macros = with_macro definition.0 (Some definition.1) s.macros } }))) r
    ∙ ap (λ o. meant o Directive t (λ definition s.
    Ok (record { taken = form.taken; branches = b; state = record s { macros = with_macro definition.0 (Some definition.1) s.macros } })) v) f

-- the same of `undef`
pub undef_later : (u : Use) (i : Included) (n : Bytes) (t : Lexeme) (rest : List Lexeme) (b : List Branch) (s v : State) (name : Bytes)
    → next_read macro_name Directive t rest s ≡ Ok (name, v)
    → at_undef u i n t rest b s ≡ Ok (record { taken = 1; branches = b; state = record v { macros = with_macro name None v.macros } })
undef_later u i n t rest b s v name e =
    next_later macro_name Directive t rest (λ macro s. Ok (record { taken = 1; branches = b; state = record s { macros = with_macro macro None s.macros } })) s
    ∙ ap (λ step. step >>= λ p. Ok (record { taken = 1; branches = b; state = record p.1 { macros = with_macro p.0 None p.1.macros } })) e
