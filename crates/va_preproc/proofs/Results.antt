-- Each expansion that is not refused gives a result of the tokens of the files that it read.
use Rattle.std.proofs.Common.{◌≡◌, ◌≤◌, ◌+◌, ℕ, List, [], ◌∷◌, ◌++◌, length, refl, sym, ap, subst, arith}
use Rattle.std.specs.Prelude.{Option, Some, None, Ok, Err, slice_get, codes}
use Rattle.std.specs.Str.{bytes_eq}
use Rattle.va_base.specs.declared.token.Token.{Token}
use Rattle.va_preproc.specs.Lexemes.{Bytes}
use Rattle.va_preproc.specs.Reading.{State, Stop, Step}
use Rattle.va_preproc.specs.Expansion.{Limits, Readings, with_macro, asking, start_macros, start, expand_bytes, include_within, Expansion, lacking, faulty, expanded, ended, expansion_of, end_token}
use Rattle.va_preproc.specs.Laws.{ComesFrom, AreOfFiles, IsResult, GivesResults, IsFault, GivesFaults}
use Rattle.va_preproc.proofs.Each.{Each, InOption, all_each}
use Rattle.va_preproc.proofs.Forms.{if_option}
use Rattle.va_preproc.proofs.Steps.{Post, get_extends}
use Rattle.va_preproc.proofs.Kept.{IsSound, Keeps, Later, Refused, expand_bytes_keeps, include_within_keeps}

tokens_in : Expansion → List Token
tokens_in (lacking name) = []
tokens_in (faulty stop) = []
tokens_in (expanded tokens asked) = tokens

names_in : Expansion → List Bytes
names_in (lacking name) = []
names_in (faulty stop) = []
names_in (expanded tokens asked) = asked

is_expanded : Expansion → Type 0
is_expanded (lacking name) = ⊥
is_expanded (faulty stop) = ⊥
is_expanded (expanded tokens asked) = Unit {0}

not_faulty : (stop : Stop) (tokens : List Token) (asked : List Bytes) → faulty stop ≡ expanded tokens asked → ⊥
unfolding is_expanded
not_faulty stop tokens asked e = subst is_expanded (sym e) tt

not_lacking : (name : Bytes) (tokens : List Token) (asked : List Bytes) → lacking name ≡ expanded tokens asked → ⊥
unfolding is_expanded
not_lacking name tokens asked e = subst is_expanded (sym e) tt

same_tokens : (a b : List Token) (x y : List Bytes) → expanded a x ≡ expanded b y → a ≡ b
unfolding tokens_in
same_tokens a b x y e = ap tokens_in e

same_names : (a b : List Token) (x y : List Bytes) → expanded a x ≡ expanded b y → x ≡ y
unfolding names_in
same_names a b x y e = ap names_in e

within : (taken free limit : ℕ) → taken + free ≡ limit → taken ≤ limit
within taken free limit e = omega arith

start_keeps : (tokens : ℕ → Bytes → List Token) (readings : Readings) (most : Limits) → Keeps tokens readings most.result (start most)
start_keeps tokens readings most = record { macros = defined; result = tt; argument = tt; counted = from_nothing most.result }
  where
    from_nothing : (n : ℕ) → 0 + n ≡ n
    from_nothing n = omega arith

    defined : (name : Bytes) → InOption (λ m. Each (IsSound tokens readings most.result []) m.body) (start_macros name)
    defined name =
        if_option (λ m. Each (IsSound tokens readings most.result []) m.body) (bytes_eq name (codes "__VAMS_ENABLE__"))
        (Some (record { formals = None; body = [] }))
        (with_macro (codes "__VAMS_COMPACT_MODELING__") (Some (record { formals = None; body = [] })) (λ other. None) name)
        tt
        (if_option (λ m. Each (IsSound tokens readings most.result []) m.body) (bytes_eq name (codes "__VAMS_COMPACT_MODELING__"))
        (Some (record { formals = None; body = [] })) None tt tt)

ended_gives : (most : Limits) (tokens : ℕ → Bytes → List Token) (readings : Readings) (main bytes : Bytes) (result : List Token)
    (asked : List Bytes) (m : Step State) → readings 0 main ≡ Some bytes
    → Post (Refused tokens readings most.result (main ∷ [])) (Later tokens readings most.result (main ∷ [])) m → ended bytes m ≡ expanded result asked
    → IsResult most tokens readings main result asked
ended_gives most tokens readings main bytes result asked (Err stop) holding l e = absurd (not_faulty stop result asked e)
ended_gives most tokens readings main bytes result asked (Ok s) holding l e =
    let names = same_names (s.result ++ end_token bytes ∷ []) result s.asked asked e in
    record {
      bytes = bytes;
      main_file = holding;
      first = subst (λ x. slice_get x 0 ≡ Some main) names (get_extends (main ∷ []) s.asked 0 main l.extends refl);
      before = s.result;
      ends = sym (same_tokens (s.result ++ end_token bytes ∷ []) result s.asked asked e);
      each = all_each (ComesFrom tokens readings asked) s.result
          (subst (λ x. Each (ComesFrom tokens readings x) s.result) names l.keeps.result);
      few = within (length s.result) s.free most.result l.keeps.counted;
    }

main_gives : (o : Option Bytes) (most : Limits) (tokens : ℕ → Bytes → List Token) (readings : Readings) (main : Bytes) (result : List Token)
    (asked : List Bytes) → AreOfFiles tokens → readings 0 main ≡ o → expansion_of o most tokens readings main ≡ expanded result asked
    → IsResult most tokens readings main result asked
main_gives None most tokens readings main result asked are holding e = absurd (not_lacking main result asked e)
main_gives (Some bytes) most tokens readings main result asked are holding e =
    ended_gives most tokens readings main bytes result asked
    (expand_bytes most tokens readings (include_within most tokens readings most.includes) main bytes (asking main (start most))) holding
    (expand_bytes_keeps tokens readings most.result are most (include_within most tokens readings most.includes)
    (include_within_keeps tokens readings most.result are most most.includes) main bytes (start most) holding
    (start_keeps tokens readings most))
    e

pub gives_results : GivesResults
gives_results most tokens readings main result asked are e = main_gives (readings 0 main) most tokens readings main result asked are refl e

stop_in : Stop → Expansion → Stop
stop_in other (lacking name) = other
stop_in other (faulty stop) = stop
stop_in other (expanded tokens asked) = other

same_stop : (a b : Stop) → faulty a ≡ faulty b → a ≡ b
unfolding stop_in
same_stop a b e = ap (stop_in a) e

is_faulty : Expansion → Type 0
is_faulty (lacking name) = ⊥
is_faulty (faulty stop) = Unit {0}
is_faulty (expanded tokens asked) = ⊥

lacking_not_faulty : (name : Bytes) (stop : Stop) → lacking name ≡ faulty stop → ⊥
unfolding is_faulty
lacking_not_faulty name stop e = subst is_faulty (sym e) tt

ended_stops : (most : Limits) (tokens : ℕ → Bytes → List Token) (readings : Readings) (main bytes : Bytes) (stop : Stop) (m : Step State)
    → Post (Refused tokens readings most.result (main ∷ [])) (Later tokens readings most.result (main ∷ [])) m → ended bytes m ≡ faulty stop
    → IsFault most main stop
ended_stops most tokens readings main bytes stop (Err other) r e =
    subst (IsFault most main) (same_stop other stop e) (record {
      phase = r.phase;
      code = r.code;
      first = get_extends (main ∷ []) other.asked 0 main r.extends refl;
      inside = r.inside;
      few = r.few;
    })
ended_stops most tokens readings main bytes stop (Ok s) l e =
    absurd (not_faulty stop (s.result ++ end_token bytes ∷ []) s.asked (sym e))

main_stops : (o : Option Bytes) (most : Limits) (tokens : ℕ → Bytes → List Token) (readings : Readings) (main : Bytes) (stop : Stop)
    → AreOfFiles tokens → readings 0 main ≡ o → expansion_of o most tokens readings main ≡ faulty stop → IsFault most main stop
main_stops None most tokens readings main stop are holding e = absurd (lacking_not_faulty main stop e)
main_stops (Some bytes) most tokens readings main stop are holding e =
    ended_stops most tokens readings main bytes stop
    (expand_bytes most tokens readings (include_within most tokens readings most.includes) main bytes (asking main (start most)))
    (expand_bytes_keeps tokens readings most.result are most (include_within most tokens readings most.includes)
    (include_within_keeps tokens readings most.result are most most.includes) main bytes (start most) holding
    (start_keeps tokens readings most))
    e

pub gives_faults : GivesFaults
gives_faults most tokens readings main stop are e = main_stops (readings 0 main) most tokens readings main stop are refl e
