-- The names that were asked for are those that the expansion reads, from the first on.
use Rattle.std.proofs.Common.{◌≡◌, ◌++◌, ℕ, List, [], ◌∷◌, refl, sym, ap, ◌∙◌, subst, inl, inr}
use Rattle.std.specs.Prelude.{Option, Some, None, Result, Ok, Err, slice_get}
use Rattle.std.proofs.lemmas.List.{append-nil}
use Rattle.va_base.specs.declared.expanded.Expanded.{Expanded}
use Rattle.va_base.specs.declared.token.Token.{Token}
use Rattle.va_io.specs.Outside.{Holdings, held}
use Rattle.va_lexer.specs.Tokens.{tokens_of}
use Rattle.va_preproc.specs.declared.expansion.PreErr.{PreErr}
use Rattle.va_preproc.specs.declared.expansion.PreErr.TheVariants as answer
use Rattle.va_preproc.specs.Lexemes.{Bytes}
use Rattle.va_preproc.specs.Reading.{State, Step}
use Rattle.va_preproc.specs.Laws.{AreOfFiles}
use Rattle.va_preproc.specs.Answers.{Seen as FilesSeen, AreFirst, IsAnswer}
use Rattle.va_preproc.specs.Expansion.{Limits, limits, Readings, in_holdings, lacking, ended, end_token, expansion_of, expansion_by, expansion, reads}
use Rattle.va_preproc.proofs.Lexed.{lexed_tokens}
use Rattle.va_preproc.proofs.Results.{gives_results, gives_faults}
use Rattle.va_command.specs.Requests.{compile, AsksFirst}

first_of : (asked : List Bytes) (main : Bytes) → slice_get asked 0 ≡ Some main → AreFirst (main ∷ []) asked
first_of [] main e = cc
first_of (name ∷ asked) main e = (asked, cc)

-- the main file is read first
module _ (most : Limits) (tokens : ℕ → Bytes → List Token) (readings : Readings) (main : Bytes) (are : AreOfFiles tokens) where
  by_step : (bytes : Bytes) (step : Step State) → expansion_by most tokens readings main ≡ ended bytes step
      → AreFirst (main ∷ []) (reads (expansion_by most tokens readings main))
  by_step bytes (Err stop) e =
      subst (λ x. AreFirst (main ∷ []) (reads x)) (sym e)
      (first_of stop.asked main (gives_faults most tokens readings main stop are e).first)
  by_step bytes (Ok s) e =
      subst (λ x. AreFirst (main ∷ []) (reads x)) (sym e)
      (first_of s.asked main (gives_results most tokens readings main (s.result ++ end_token bytes ∷ []) s.asked are e).first)

  by_reading : (found : Option Bytes) → readings 0 main ≡ found
      → AreFirst (main ∷ []) (reads (expansion_by most tokens readings main))
  by_reading None e =
      subst (λ x. AreFirst (main ∷ []) (reads x)) (sym (ap (λ b. expansion_of b most tokens readings main) e)) ([], refl)
  by_reading (Some bytes) e = by_step bytes _ (ap (λ b. expansion_of b most tokens readings main) e)

  main_first : AreFirst (main ∷ []) (reads (expansion_by most tokens readings main))
  main_first = by_reading (readings 0 main) refl

-- where there is no main file
pub lacks_main : (holds : Holdings) (main : Bytes) → held holds main ≡ None → expansion holds main ≡ lacking main
lacks_main holds main e = ap (λ b. expansion_of b limits tokens_of (in_holdings holds) main) e

all_first : (names all : List Bytes) → all ≡ names → AreFirst names all
all_first names all e = ([], e ∙ sym (append-nil names))

-- whatever is answered
pub asks_first : (holds : Option Holdings) (files : FilesSeen) (file : Bytes) (result : Result Expanded PreErr)
    → IsAnswer holds file files result → AsksFirst holds files (compile file)
asks_first None files file result a = tt
asks_first (Some h) files file (Ok e) (names, x, same, asks) = (names, asks, all_first names _ (ap reads x))
asks_first (Some h) files file (Err (answer.Fault fault name)) (inl (stop, x, is, named, asks, none)) =
    (stop.asked, asks, all_first stop.asked _ (ap reads x))
asks_first (Some h) files file (Err (answer.Fault fault name)) (inr (missed, counts, code, (stop, x, is, named, asks, (last, first)))) =
    (stop.asked, asks, first)
asks_first (Some h) files file (Err answer.Missing) (cause, asks) =
    (file ∷ [], asks, main_first limits tokens_of (in_holdings h) file lexed_tokens.of_files)
asks_first (Some h) files file (Err (answer.Failed name)) (names, counts, asks, first) = (names ++ name ∷ [], asks, first)
asks_first (Some h) files file (Err answer.NoMemory) (names, asks, first) = (names, asks, first)
