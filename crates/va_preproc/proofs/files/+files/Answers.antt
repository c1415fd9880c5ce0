use Rattle.std.proofs.Common.{◌≡◌, ◌<◌, ◌≤◌, ◌+◌, ◌-◌, ℕ, [], ◌∷◌, ◌++◌, length, drop, take, sym, ap, subst, ◌∙◌, arith, refl, None, Ok, Err, get_or, rules}
use Rattle.std.specs.Global.{Vec}
use Rattle.std.specs.Prelude.{Result, reverse, string_bytes, All}
use Rattle.va_base.specs.declared.fault.Fault.{Fault}
use Rattle.std.proofs.lemmas.List.{length-append}
use Rattle.va_base.specs.declared.fault.Phase.TheVariants.{Expand}
use Rattle.va_base.specs.declared.fault.FaultCode.TheVariants.{FileLarge}
use Rattle.va_base.specs.declared.file.FileText.{FileText}
use Rattle.va_io.specs.Outside.{Appends, Gives, AsksFor}
use Rattle.va_io.specs.declared.files.FileErr.{FileErr}
use Rattle.va_lexer.specs.Tokens.{tokens_of}
use Rattle.va_preproc.specs.Reading.{◌>>=◌}
use Rattle.va_preproc.specs.Definitions.{file_name, next_token}
use Rattle.va_preproc.specs.Expansion.{Readings, onward, first_place}
use Rattle.va_preproc.specs.Answers.{AreFirst}
use Rattle.va_preproc.specs.Values.{step_of, state_of, names_of, lexemes_in}
use Rattle.va_preproc.specs.Steps.{limits_of, world, Asks, BreaksOff, names_in, asked_in, itself, at_onward, includes_by, token_step, file_step, IsFit, AreSmall, IfGiven}
use Rattle.va_preproc.proofs.Grows.{grew_asked, same, next_read_grows, read_one_grows, grew_itself, grew_second}
use Rattle.va_preproc.proofs.Asked.{asks_none, asks_same, asks_then, asks_read, asks_last, asks_memory, agrees_grown, breaks_then, still_none, fit_after, none_seen, small_more, small_last}
use Rattle.va_preproc.proofs.Stable.{still_within}
use Rattle.va_preproc.proofs.UseTurns.{rest_all}
use Rattle.va_preproc.proofs.Loops.{no_token}
use Rattle.va_preproc.proofs.FileSteps.{token_grew, include_grew, read_grew, include_reads, include_stops, include_asks, include_lacks, include_opens, last_number, name_at_end, last_reads, get_slice, less_one, positive, lexed_within, read_large, read_small, file_rest, rest_grew, file_read, file_read_stops, file_stays, file_goes_on, low_rest, grown_length, no_rest}
use Rattle.va_preproc.proofs.files.+files.Goals as goal

-- no read finds anything
abbrev nothing : Readings
nothing number name = None

pub expand_token-returns-in-Err-at_token-clause-asks : goal.expand_token-returns-in-Err-at_token-clause-asks
expand_token-returns-in-Err-at_token-clause-asks g t c = asks_same c.args.open.now.limits.bytes (world (g.F.Files.holds c.args.files.now) (g.F.Files.asked c.args.files.now) (g.F.Files.faults c.args.files.now)) c.args.known.now.files.items _ (ap (λ (v : Vec FileText). v.items) c.at_token.ensures.files)

pub expand_token-returns-in-Err-at_token-clause-follows : goal.expand_token-returns-in-Err-at_token-clause-follows
expand_token-returns-in-Err-at_token-clause-follows g t c = λ r agrees.
    subst (λ f. AreFirst (names_in f) (asked_in at_onward (token_step (limits_of c.args.open.now.limits) c.args.open.now.depth c.args.open.now.name.now c.args.known.now.files.items c.args.token.now c.args.rest.now (reverse c.args.branches.now.items) (state_of c.args.known.now c.args.progress.now) r))) (sym (ap (λ (v : Vec FileText). v.items) c.at_token.ensures.files)) (grew_asked at_onward (state_of c.args.known.now c.args.progress.now) _ (token_grew (limits_of c.args.open.now.limits) c.args.open.now.depth r c.args.open.now.name.now c.args.known.now.files.items c.args.token.now c.args.rest.now (reverse c.args.branches.now.items) (state_of c.args.known.now c.args.progress.now)))

pub expand_token-returns-in-Ok-clause-asks : goal.expand_token-returns-in-Ok-clause-asks
expand_token-returns-in-Ok-clause-asks g t c = asks_same c.args.open.now.limits.bytes (world (g.F.Files.holds c.args.files.now) (g.F.Files.asked c.args.files.now) (g.F.Files.faults c.args.files.now)) c.args.known.now.files.items _ (ap (λ (v : Vec FileText). v.items) c.at_token.ensures.files)

pub expand_token-returns-in-Ok-clause-fit : goal.expand_token-returns-in-Ok-clause-fit
expand_token-returns-in-Ok-clause-fit g t c =
    fit_after c.args.open.now.limits.bytes (state_of c.args.known.now c.args.progress.now) c.at_token.new.known c.at_token.new.progress (reverse c.at_token.new.branches.items)
    (token_step (limits_of c.args.open.now.limits) c.args.open.now.depth c.args.open.now.name.now c.args.known.now.files.items c.args.token.now c.args.rest.now (reverse c.args.branches.now.items) (state_of c.args.known.now c.args.progress.now) nothing) (names_of c.args.known.now) c.in-Ok.answer
    (none_seen c.args.known.now c.args.progress.now c.requires.fit.1)
    (c.in-Ok.ensures.within c.requires.fit.0 c.requires.within)
    (subst (AreSmall c.args.open.now.limits.bytes 0) (sym (ap (λ (v : Vec FileText). v.items) c.at_token.ensures.files)) c.requires.fit.2)
    (token_grew (limits_of c.args.open.now.limits) c.args.open.now.depth nothing c.args.open.now.name.now c.args.known.now.files.items c.args.token.now c.args.rest.now (reverse c.args.branches.now.items) (state_of c.args.known.now c.args.progress.now))
    (c.in-Ok.ensures.follows (includes_by (limits_of c.args.open.now.limits) c.args.open.now.depth nothing) c.args.open.now.name.now)

pub expand_token-returns-in-Ok-Err-clause-follows : goal.expand_token-returns-in-Ok-Err-clause-follows
expand_token-returns-in-Ok-Err-clause-follows g t c = λ r agrees. c.in-Ok-Err.ensures.follows r agrees ∙ ap (step_of _ _) c.in-Ok-Err.field-0-is

pub expand_token-returns-in-Ok-Ok-clause-follows : goal.expand_token-returns-in-Ok-Ok-clause-follows
expand_token-returns-in-Ok-Ok-clause-follows g t c = λ r agrees. c.in-Ok-Ok.ensures.follows r agrees ∙ ap (step_of _ _) c.in-Ok-Ok.field-0-is

pub at_include-returns-in-Err-clause-asks : goal.at_include-returns-in-Err-clause-asks
at_include-returns-in-Err-clause-asks g t c = asks_none c.args.open.now.limits.bytes (world (g.F.Files.holds c.args.files.now) (g.F.Files.asked c.args.files.now) (g.F.Files.faults c.args.files.now)) c.args.known.now.files.items

pub at_include-returns-in-Err-clause-follows : goal.at_include-returns-in-Err-clause-follows
at_include-returns-in-Err-clause-follows g t c = λ r agrees.
    include_stops (limits_of c.args.open.now.limits) c.args.open.now.depth r c.args.open.now.name.now c.args.known.now.files.items c.args.token.now c.args.rest.now (reverse c.args.branches.now.items) (state_of c.args.known.now c.args.progress.now) _ c.requires.include (c.in-Err.ensures c.args.known.now (c.first_file_name-meaning.ensures ∙ ap (λ f. (next_token file_name (lexemes_in f c.args.rest.now)).meaning) c.as_slice.ensures.value))

pub at_include-returns-in_default-clause-asks : goal.at_include-returns-in_default-clause-asks
at_include-returns-in_default-clause-asks g t c = asks_none c.args.open.now.limits.bytes (world (g.F.Files.holds c.args.files.now) (g.F.Files.asked c.args.files.now) (g.F.Files.faults c.args.files.now)) c.args.known.now.files.items

pub at_include-returns-in_default-clause-follows : goal.at_include-returns-in_default-clause-follows
at_include-returns-in_default-clause-follows g t c = λ r agrees. grew_asked at_onward (state_of c.args.known.now c.args.progress.now) _ (token_grew (limits_of c.args.open.now.limits) c.args.open.now.depth r c.args.open.now.name.now c.args.known.now.files.items c.args.token.now c.args.rest.now (reverse c.args.branches.now.items) (state_of c.args.known.now c.args.progress.now))

pub at_include-returns-in-Ok-Ok-clause-follows : goal.at_include-returns-in-Ok-Ok-clause-follows
at_include-returns-in-Ok-Ok-clause-follows g t c = λ r agrees.
    include_reads (limits_of c.args.open.now.limits) c.args.open.now.depth r c.args.open.now.name.now c.args.known.now.files.items c.args.token.now c.args.rest.now (reverse c.args.branches.now.items) (state_of c.args.known.now c.args.progress.now) (state_of c.args.known.now c.read_file_name.new.progress)
    _ (string_bytes c.in-Ok-included_name.path) c.requires.include
    (c.in-Ok.ensures c.args.known.now (c.first_file_name-meaning.ensures ∙ ap (λ f. (next_token file_name (lexemes_in f c.args.rest.now)).meaning) c.as_slice.ensures.value)) c.in-Ok-included_name.ensures
    ∙ ap (λ step. step >>= onward 1 (reverse c.args.branches.now.items)) (c.in-Ok-Ok.ensures.follows r agrees ∙ ap (step_of _ _) c.in-Ok-Ok.field-0-is)

pub at_include-returns-in-Ok-Err-clause-follows : goal.at_include-returns-in-Ok-Err-clause-follows
at_include-returns-in-Ok-Err-clause-follows g t c = λ r agrees.
    include_reads (limits_of c.args.open.now.limits) c.args.open.now.depth r c.args.open.now.name.now c.args.known.now.files.items c.args.token.now c.args.rest.now (reverse c.args.branches.now.items) (state_of c.args.known.now c.args.progress.now) (state_of c.args.known.now c.read_file_name.new.progress)
    _ (string_bytes c.in-Ok-included_name.path) c.requires.include
    (c.in-Ok.ensures c.args.known.now (c.first_file_name-meaning.ensures ∙ ap (λ f. (next_token file_name (lexemes_in f c.args.rest.now)).meaning) c.as_slice.ensures.value)) c.in-Ok-included_name.ensures
    ∙ ap (λ step. step >>= onward 1 (reverse c.args.branches.now.items)) (c.in-Ok-Err.ensures.follows r agrees ∙ ap (step_of _ _) c.in-Ok-Err.field-0-is)

pub at_include-returns-in-Err-include-clause-follows : goal.at_include-returns-in-Err-include-clause-follows
at_include-returns-in-Err-include-clause-follows g t c = λ r agrees.
    subst (λ step. BreaksOff at_onward step c.include.new.known.files.items c.in-Err-include.broken (λ name. r (length c.include.new.known.files.items) name ≡ None))
    (sym (include_reads (limits_of c.args.open.now.limits) c.args.open.now.depth r c.args.open.now.name.now c.args.known.now.files.items c.args.token.now c.args.rest.now (reverse c.args.branches.now.items) (state_of c.args.known.now c.args.progress.now) (state_of c.args.known.now c.read_file_name.new.progress)
    _ (string_bytes c.in-Ok-included_name.path) c.requires.include
    (c.in-Ok.ensures c.args.known.now (c.first_file_name-meaning.ensures ∙ ap (λ f. (next_token file_name (lexemes_in f c.args.rest.now)).meaning) c.as_slice.ensures.value)) c.in-Ok-included_name.ensures))
    (breaks_then itself at_onward (includes_by (limits_of c.args.open.now.limits) c.args.open.now.depth r (string_bytes c.in-Ok-included_name.path) c.args.token.now.place (state_of c.args.known.now c.read_file_name.new.progress))
    (onward 1 (reverse c.args.branches.now.items)) c.include.new.known.files.items c.in-Err-include.broken _ (c.in-Err-include.ensures.follows r agrees) (λ v. same v))

pub at_include-include-requires : goal.at_include-include-requires
at_include-include-requires g t c = λ κs l. (
  search rules,
  (
    l,
    (
      c.requires.fit.0,
      still_none (state_of c.args.known.now c.args.progress.now) c.args.known.now c.read_file_name.new.progress (none_seen c.args.known.now c.args.progress.now c.requires.fit.1)
          (subst (grew_second (state_of c.args.known.now c.args.progress.now)) (c.in-Ok.ensures c.args.known.now (c.first_file_name-meaning.ensures ∙ ap (λ f. (next_token file_name (lexemes_in f c.args.rest.now)).meaning) c.as_slice.ensures.value)) (next_read_grows file_name _ _ _ (state_of c.args.known.now c.args.progress.now))),
      c.requires.fit.2,
    ),
  ),
)

pub include-returns-clause-asks : goal.include-returns-clause-asks
include-returns-clause-asks g t c = subst (λ f. Asks c.args.open.now.limits.bytes (world (g.F.Files.holds c.args.files.now) (g.F.Files.asked c.args.files.now) (g.F.Files.faults c.args.files.now)) (world (g.F.Files.holds c.read.new.self) (g.F.Files.asked c.read.new.self) (g.F.Files.faults c.read.new.self)) c.args.known.now.files.items f []) (sym c.in-Ok.ensures.files) (asks_memory c.args.open.now.limits.bytes (world (g.F.Files.holds c.args.files.now) (g.F.Files.asked c.args.files.now) (g.F.Files.faults c.args.files.now)) (world (g.F.Files.holds c.read.new.self) (g.F.Files.asked c.read.new.self) (g.F.Files.faults c.read.new.self)) c.args.known.now.files.items c.in-Err-NoMemory.ensures.held c.in-Err-NoMemory.ensures.later (subst (λ (e : FileErr). AsksFor {T = Vec ℕ} (Err e) (g.F.Files.asked c.args.files.now) c.as_str-2.result.now (g.F.Files.asked c.read.new.self)) c.in-Err-NoMemory.field-0-is c.in-Err-NoMemory.ensures.asked))

pub include-returns-clause-follows : goal.include-returns-clause-follows
include-returns-clause-follows g t c = λ r agrees.
    subst (λ f. AreFirst (names_in f) (asked_in itself (includes_by (limits_of c.args.open.now.limits) c.args.open.now.depth r (string_bytes c.args.name) c.args.place (state_of c.args.known.now c.args.progress.now)))) (sym c.in-Ok.ensures.files) (grew_asked itself (state_of c.args.known.now c.args.progress.now) _ (include_grew (limits_of c.args.open.now.limits) c.args.open.now.depth r (string_bytes c.args.name) c.args.place (state_of c.args.known.now c.args.progress.now)))

pub include-returns-in-Err-Failed-clause-asks : goal.include-returns-in-Err-Failed-clause-asks
include-returns-in-Err-Failed-clause-asks g t c = subst (λ f. Asks c.args.open.now.limits.bytes (world (g.F.Files.holds c.args.files.now) (g.F.Files.asked c.args.files.now) (g.F.Files.faults c.args.files.now)) (world (g.F.Files.holds c.read.new.self) (g.F.Files.asked c.read.new.self) (g.F.Files.faults c.read.new.self)) c.args.known.now.files.items f (c.in-Ok.own ∷ [])) (sym c.in-Ok.ensures.files) (asks_last c.args.open.now.limits.bytes (world (g.F.Files.holds c.args.files.now) (g.F.Files.asked c.args.files.now) (g.F.Files.faults c.args.files.now)) (world (g.F.Files.holds c.read.new.self) (g.F.Files.asked c.read.new.self) (g.F.Files.faults c.read.new.self)) c.args.known.now.files.items c.in-Ok.own c.in-Err-Failed.ensures.held c.in-Err-Failed.ensures.later (subst (λ n. Appends (g.F.Files.asked c.args.files.now) (g.F.Files.asked c.read.new.self) (n ∷ [])) (c.as_str-2.ensures.value ∙ sym (c.in-Ok.ensures.name ∙ c.as_str.ensures.value)) (subst (λ (e : FileErr). AsksFor {T = Vec ℕ} (Err e) (g.F.Files.asked c.args.files.now) c.as_str-2.result.now (g.F.Files.asked c.read.new.self)) c.in-Err-Failed.field-0-is c.in-Err-Failed.ensures.asked)))

pub include-returns-in-Err-Missing-clause-asks : goal.include-returns-in-Err-Missing-clause-asks
include-returns-in-Err-Missing-clause-asks g t c = subst (λ f. Asks c.args.open.now.limits.bytes (world (g.F.Files.holds c.args.files.now) (g.F.Files.asked c.args.files.now) (g.F.Files.faults c.args.files.now)) (world (g.F.Files.holds c.read.new.self) (g.F.Files.asked c.read.new.self) (g.F.Files.faults c.read.new.self)) c.args.known.now.files.items f (c.in-Ok.own ∷ [])) (sym c.in-Ok.ensures.files) (asks_last c.args.open.now.limits.bytes (world (g.F.Files.holds c.args.files.now) (g.F.Files.asked c.args.files.now) (g.F.Files.faults c.args.files.now)) (world (g.F.Files.holds c.read.new.self) (g.F.Files.asked c.read.new.self) (g.F.Files.faults c.read.new.self)) c.args.known.now.files.items c.in-Ok.own c.in-Err-Missing.ensures.held c.in-Err-Missing.ensures.later (subst (λ n. Appends (g.F.Files.asked c.args.files.now) (g.F.Files.asked c.read.new.self) (n ∷ [])) (c.as_str-2.ensures.value ∙ sym (c.in-Ok.ensures.name ∙ c.as_str.ensures.value)) (subst (λ (e : FileErr). AsksFor {T = Vec ℕ} (Err e) (g.F.Files.asked c.args.files.now) c.as_str-2.result.now (g.F.Files.asked c.read.new.self)) c.in-Err-Missing.field-0-is c.in-Err-Missing.ensures.asked)))

pub include-returns-in-Err-Failed-clause-follows : goal.include-returns-in-Err-Failed-clause-follows
include-returns-in-Err-Failed-clause-follows g t c = λ r agrees. (subst (λ l. AreFirst l (asked_in itself (includes_by (limits_of c.args.open.now.limits) c.args.open.now.depth r (string_bytes c.args.name) c.args.place (state_of c.args.known.now c.args.progress.now)))) (λ j. names_in (sym c.in-Ok.ensures.files j) ++ sym (c.in-Ok.ensures.name ∙ c.as_str.ensures.value) j ∷ []) (include_asks (limits_of c.args.open.now.limits) c.args.open.now.depth r (string_bytes c.args.name) c.args.place (state_of c.args.known.now c.args.progress.now) (positive c.args.open.now.depth c.if-open-eq0.false)))

pub include-returns-in-Err-Missing-clause-follows : goal.include-returns-in-Err-Missing-clause-follows
include-returns-in-Err-Missing-clause-follows g t c = λ r agrees. (
  (subst (λ l. AreFirst l (asked_in itself (includes_by (limits_of c.args.open.now.limits) c.args.open.now.depth r (string_bytes c.args.name) c.args.place (state_of c.args.known.now c.args.progress.now)))) (λ j. names_in (sym c.in-Ok.ensures.files j) ++ sym (c.in-Ok.ensures.name ∙ c.as_str.ensures.value) j ∷ []) (include_asks (limits_of c.args.open.now.limits) c.args.open.now.depth r (string_bytes c.args.name) c.args.place (state_of c.args.known.now c.args.progress.now) (positive c.args.open.now.depth c.if-open-eq0.false))),
  λ lacks. include_lacks (limits_of c.args.open.now.limits) c.args.open.now.depth r (string_bytes c.args.name) c.args.place (state_of c.args.known.now c.args.progress.now) (positive c.args.open.now.depth c.if-open-eq0.false) ((λ j. r ((last_number c.args.known.now ∙ ap length (sym c.in-Ok.ensures.files)) j) (sym (c.in-Ok.ensures.name ∙ c.as_str.ensures.value) j)) ∙ lacks)
      ∙ (λ j. Err (record { fault = sym c.fault_at-fault.ensures j; asked = names_in (sym c.in-Ok.ensures.files j) ++ sym (c.in-Ok.ensures.name ∙ c.as_str.ensures.value) j ∷ [] })),
)

pub include-returns-then-open-eq0-clause-asks : goal.include-returns-then-open-eq0-clause-asks
include-returns-then-open-eq0-clause-asks g t c = asks_none c.args.open.now.limits.bytes (world (g.F.Files.holds c.args.files.now) (g.F.Files.asked c.args.files.now) (g.F.Files.faults c.args.files.now)) c.args.known.now.files.items

pub include-returns-in_default-clause-asks : goal.include-returns-in_default-clause-asks
include-returns-in_default-clause-asks g t c = asks_same c.args.open.now.limits.bytes (world (g.F.Files.holds c.args.files.now) (g.F.Files.asked c.args.files.now) (g.F.Files.faults c.args.files.now)) c.args.known.now.files.items _ c.name_for.ensures.files

pub include-returns-in_default-clause-follows : goal.include-returns-in_default-clause-follows
include-returns-in_default-clause-follows g t c = λ r agrees.
    subst (λ f. AreFirst (names_in f) (asked_in itself (includes_by (limits_of c.args.open.now.limits) c.args.open.now.depth r (string_bytes c.args.name) c.args.place (state_of c.args.known.now c.args.progress.now)))) (sym c.name_for.ensures.files) (grew_asked itself (state_of c.args.known.now c.args.progress.now) _ (include_grew (limits_of c.args.open.now.limits) c.args.open.now.depth r (string_bytes c.args.name) c.args.place (state_of c.args.known.now c.args.progress.now)))

pub include-returns-in-Ok-Ok-clause-asks : goal.include-returns-in-Ok-Ok-clause-asks
include-returns-in-Ok-Ok-clause-asks g t c = asks_then c.args.open.now.limits.bytes (world (g.F.Files.holds c.args.files.now) (g.F.Files.asked c.args.files.now) (g.F.Files.faults c.args.files.now)) (world (g.F.Files.holds c.read.new.self) (g.F.Files.asked c.read.new.self) (g.F.Files.faults c.read.new.self)) (world (g.F.Files.holds c.expand_last.new.files) (g.F.Files.asked c.expand_last.new.files) (g.F.Files.faults c.expand_last.new.files)) c.args.known.now.files.items c.add_file.new.known.files.items c.expand_last.new.known.files.items [] (subst (λ x. Asks c.args.open.now.limits.bytes (world (g.F.Files.holds c.args.files.now) (g.F.Files.asked c.args.files.now) (g.F.Files.faults c.args.files.now)) (world (g.F.Files.holds c.read.new.self) (g.F.Files.asked c.read.new.self) (g.F.Files.faults c.read.new.self)) c.args.known.now.files.items x []) (sym (c.add_file.ensures.files ∙ ap (λ x. x ++ (record { name = c.in-Ok.own; bytes = c.in-Ok-read.bytes.items }) ∷ []) c.in-Ok.ensures.files)) (asks_read c.args.open.now.limits.bytes (world (g.F.Files.holds c.args.files.now) (g.F.Files.asked c.args.files.now) (g.F.Files.faults c.args.files.now)) (world (g.F.Files.holds c.read.new.self) (g.F.Files.asked c.read.new.self) (g.F.Files.faults c.read.new.self)) c.args.known.now.files.items (record { name = c.in-Ok.own; bytes = c.in-Ok-read.bytes.items }) c.in-Ok-read.ensures.held c.in-Ok-read.ensures.later (subst (λ n. n ≤ c.args.open.now.limits.bytes + 1) c.in-Ok-read.bytes.ok.0 c.in-Ok-read.ensures.most) (subst (λ n. Appends (g.F.Files.asked c.args.files.now) (g.F.Files.asked c.read.new.self) (n ∷ [])) (c.as_str-2.ensures.value ∙ sym (c.in-Ok.ensures.name ∙ c.as_str.ensures.value)) c.in-Ok-read.ensures.asked) (subst (λ n. Gives (g.F.Files.holds c.args.files.now) n (c.args.open.now.limits.bytes + 1) c.in-Ok-read.bytes.items) (c.as_str-2.ensures.value ∙ sym (c.in-Ok.ensures.name ∙ c.as_str.ensures.value)) c.in-Ok-read.ensures.bytes))) c.in-Ok-Ok.ensures.asks

pub include-returns-in-Ok-Ok-clause-follows : goal.include-returns-in-Ok-Ok-clause-follows
include-returns-in-Ok-Ok-clause-follows g t c = λ r agrees. (include_opens (limits_of c.args.open.now.limits) c.args.open.now.depth r c.args.known.now c.add_file.new.known (record { name = c.in-Ok.own; bytes = c.in-Ok-read.bytes.items }) c.args.progress.now (string_bytes c.args.name) c.as_str-in-Ok-read.result.now c.args.place (positive c.args.open.now.depth c.if-open-eq0.false) (c.add_file.ensures.files ∙ ap (λ x. x ++ (record { name = c.in-Ok.own; bytes = c.in-Ok-read.bytes.items }) ∷ []) c.in-Ok.ensures.files) (c.add_file.ensures.macros ∙ c.in-Ok.ensures.macros) c.requires.fit.0 c.requires.fit.1 (c.in-Ok.ensures.name ∙ c.as_str.ensures.value) c.as_str-in-Ok-read.ensures.value (agrees_grown c.args.open.now.limits.bytes r c.add_file.new.known.files.items c.expand_last.new.known.files.items c.in-Ok-Ok.ensures.asks.more c.in-Ok-Ok.ensures.asks.grown agrees)) ∙ c.in-Ok-Ok.ensures.follows r agrees ∙ ap (step_of _ _) c.in-Ok-Ok.field-0-is

pub include-returns-in-Ok-Err-clause-asks : goal.include-returns-in-Ok-Err-clause-asks
include-returns-in-Ok-Err-clause-asks g t c = asks_then c.args.open.now.limits.bytes (world (g.F.Files.holds c.args.files.now) (g.F.Files.asked c.args.files.now) (g.F.Files.faults c.args.files.now)) (world (g.F.Files.holds c.read.new.self) (g.F.Files.asked c.read.new.self) (g.F.Files.faults c.read.new.self)) (world (g.F.Files.holds c.expand_last.new.files) (g.F.Files.asked c.expand_last.new.files) (g.F.Files.faults c.expand_last.new.files)) c.args.known.now.files.items c.add_file.new.known.files.items c.expand_last.new.known.files.items [] (subst (λ x. Asks c.args.open.now.limits.bytes (world (g.F.Files.holds c.args.files.now) (g.F.Files.asked c.args.files.now) (g.F.Files.faults c.args.files.now)) (world (g.F.Files.holds c.read.new.self) (g.F.Files.asked c.read.new.self) (g.F.Files.faults c.read.new.self)) c.args.known.now.files.items x []) (sym (c.add_file.ensures.files ∙ ap (λ x. x ++ (record { name = c.in-Ok.own; bytes = c.in-Ok-read.bytes.items }) ∷ []) c.in-Ok.ensures.files)) (asks_read c.args.open.now.limits.bytes (world (g.F.Files.holds c.args.files.now) (g.F.Files.asked c.args.files.now) (g.F.Files.faults c.args.files.now)) (world (g.F.Files.holds c.read.new.self) (g.F.Files.asked c.read.new.self) (g.F.Files.faults c.read.new.self)) c.args.known.now.files.items (record { name = c.in-Ok.own; bytes = c.in-Ok-read.bytes.items }) c.in-Ok-read.ensures.held c.in-Ok-read.ensures.later (subst (λ n. n ≤ c.args.open.now.limits.bytes + 1) c.in-Ok-read.bytes.ok.0 c.in-Ok-read.ensures.most) (subst (λ n. Appends (g.F.Files.asked c.args.files.now) (g.F.Files.asked c.read.new.self) (n ∷ [])) (c.as_str-2.ensures.value ∙ sym (c.in-Ok.ensures.name ∙ c.as_str.ensures.value)) c.in-Ok-read.ensures.asked) (subst (λ n. Gives (g.F.Files.holds c.args.files.now) n (c.args.open.now.limits.bytes + 1) c.in-Ok-read.bytes.items) (c.as_str-2.ensures.value ∙ sym (c.in-Ok.ensures.name ∙ c.as_str.ensures.value)) c.in-Ok-read.ensures.bytes))) c.in-Ok-Err.ensures.asks

pub include-returns-in-Ok-Err-clause-follows : goal.include-returns-in-Ok-Err-clause-follows
include-returns-in-Ok-Err-clause-follows g t c = λ r agrees. (include_opens (limits_of c.args.open.now.limits) c.args.open.now.depth r c.args.known.now c.add_file.new.known (record { name = c.in-Ok.own; bytes = c.in-Ok-read.bytes.items }) c.args.progress.now (string_bytes c.args.name) c.as_str-in-Ok-read.result.now c.args.place (positive c.args.open.now.depth c.if-open-eq0.false) (c.add_file.ensures.files ∙ ap (λ x. x ++ (record { name = c.in-Ok.own; bytes = c.in-Ok-read.bytes.items }) ∷ []) c.in-Ok.ensures.files) (c.add_file.ensures.macros ∙ c.in-Ok.ensures.macros) c.requires.fit.0 c.requires.fit.1 (c.in-Ok.ensures.name ∙ c.as_str.ensures.value) c.as_str-in-Ok-read.ensures.value (agrees_grown c.args.open.now.limits.bytes r c.add_file.new.known.files.items c.expand_last.new.known.files.items c.in-Ok-Err.ensures.asks.more c.in-Ok-Err.ensures.asks.grown agrees)) ∙ c.in-Ok-Err.ensures.follows r agrees ∙ ap (step_of _ _) c.in-Ok-Err.field-0-is

pub include-returns-in-Ok-read-clause-asks : goal.include-returns-in-Ok-read-clause-asks
include-returns-in-Ok-read-clause-asks g t c = asks_then c.args.open.now.limits.bytes (world (g.F.Files.holds c.args.files.now) (g.F.Files.asked c.args.files.now) (g.F.Files.faults c.args.files.now)) (world (g.F.Files.holds c.read.new.self) (g.F.Files.asked c.read.new.self) (g.F.Files.faults c.read.new.self)) (world (g.F.Files.holds c.expand_last.new.files) (g.F.Files.asked c.expand_last.new.files) (g.F.Files.faults c.expand_last.new.files)) c.args.known.now.files.items c.add_file.new.known.files.items c.expand_last.new.known.files.items _ (subst (λ x. Asks c.args.open.now.limits.bytes (world (g.F.Files.holds c.args.files.now) (g.F.Files.asked c.args.files.now) (g.F.Files.faults c.args.files.now)) (world (g.F.Files.holds c.read.new.self) (g.F.Files.asked c.read.new.self) (g.F.Files.faults c.read.new.self)) c.args.known.now.files.items x []) (sym (c.add_file.ensures.files ∙ ap (λ x. x ++ (record { name = c.in-Ok.own; bytes = c.in-Ok-read.bytes.items }) ∷ []) c.in-Ok.ensures.files)) (asks_read c.args.open.now.limits.bytes (world (g.F.Files.holds c.args.files.now) (g.F.Files.asked c.args.files.now) (g.F.Files.faults c.args.files.now)) (world (g.F.Files.holds c.read.new.self) (g.F.Files.asked c.read.new.self) (g.F.Files.faults c.read.new.self)) c.args.known.now.files.items (record { name = c.in-Ok.own; bytes = c.in-Ok-read.bytes.items }) c.in-Ok-read.ensures.held c.in-Ok-read.ensures.later (subst (λ n. n ≤ c.args.open.now.limits.bytes + 1) c.in-Ok-read.bytes.ok.0 c.in-Ok-read.ensures.most) (subst (λ n. Appends (g.F.Files.asked c.args.files.now) (g.F.Files.asked c.read.new.self) (n ∷ [])) (c.as_str-2.ensures.value ∙ sym (c.in-Ok.ensures.name ∙ c.as_str.ensures.value)) c.in-Ok-read.ensures.asked) (subst (λ n. Gives (g.F.Files.holds c.args.files.now) n (c.args.open.now.limits.bytes + 1) c.in-Ok-read.bytes.items) (c.as_str-2.ensures.value ∙ sym (c.in-Ok.ensures.name ∙ c.as_str.ensures.value)) c.in-Ok-read.ensures.bytes))) c.in-Err.ensures.asks

pub include-returns-in-Ok-read-clause-follows : goal.include-returns-in-Ok-read-clause-follows
include-returns-in-Ok-read-clause-follows g t c = λ r agrees.
    subst (λ step. BreaksOff itself step c.expand_last.new.known.files.items c.in-Err.broken (λ name. r (length c.expand_last.new.known.files.items) name ≡ None))
    (sym (include_opens (limits_of c.args.open.now.limits) c.args.open.now.depth r c.args.known.now c.add_file.new.known (record { name = c.in-Ok.own; bytes = c.in-Ok-read.bytes.items }) c.args.progress.now (string_bytes c.args.name) c.as_str-in-Ok-read.result.now c.args.place (positive c.args.open.now.depth c.if-open-eq0.false) (c.add_file.ensures.files ∙ ap (λ x. x ++ (record { name = c.in-Ok.own; bytes = c.in-Ok-read.bytes.items }) ∷ []) c.in-Ok.ensures.files) (c.add_file.ensures.macros ∙ c.in-Ok.ensures.macros) c.requires.fit.0 c.requires.fit.1 (c.in-Ok.ensures.name ∙ c.as_str.ensures.value) c.as_str-in-Ok-read.ensures.value (agrees_grown c.args.open.now.limits.bytes r c.add_file.new.known.files.items c.expand_last.new.known.files.items c.in-Err.ensures.asks.more c.in-Err.ensures.asks.grown agrees))) (c.in-Err.ensures.follows r agrees)

pub include-expand_last-requires : goal.include-expand_last-requires
include-expand_last-requires g t c = λ κs l. (search rules, (l, (omega (arith, ap length (c.add_file.ensures.files ∙ ap (λ x. x ++ (record { name = c.in-Ok.own; bytes = c.in-Ok-read.bytes.items }) ∷ []) c.in-Ok.ensures.files), length-append c.args.known.now.files.items ((record { name = c.in-Ok.own; bytes = c.in-Ok-read.bytes.items }) ∷ [])), (omega (arith, c.in-Ok.ensures.few, ap length c.add_file.ensures.files, length-append c.name_for.new.known.files.items ((record { name = c.in-Ok.own; bytes = c.in-Ok-read.bytes.items }) ∷ [])), (name_at_end c.args.known.now c.add_file.new.known (record { name = c.in-Ok.own; bytes = c.in-Ok-read.bytes.items }) c.as_str-in-Ok-read.result.now (c.add_file.ensures.files ∙ ap (λ x. x ++ (record { name = c.in-Ok.own; bytes = c.in-Ok-read.bytes.items }) ∷ []) c.in-Ok.ensures.files) ((c.in-Ok.ensures.name ∙ c.as_str.ensures.value) ∙ sym c.as_str-in-Ok-read.ensures.value), (still_within c.args.known.now c.add_file.new.known (record { name = c.in-Ok.own; bytes = c.in-Ok-read.bytes.items }) (c.add_file.ensures.files ∙ ap (λ x. x ++ (record { name = c.in-Ok.own; bytes = c.in-Ok-read.bytes.items }) ∷ []) c.in-Ok.ensures.files) (c.add_file.ensures.macros ∙ c.in-Ok.ensures.macros) c.requires.fit.0, c.requires.fit.1, small_more c.args.open.now.limits.bytes c.args.known.now.files.items c.add_file.new.known.files.items (record { name = c.in-Ok.own; bytes = c.in-Ok-read.bytes.items }) (c.add_file.ensures.files ∙ ap (λ x. x ++ (record { name = c.in-Ok.own; bytes = c.in-Ok-read.bytes.items }) ∷ []) c.in-Ok.ensures.files) c.requires.fit.2))))))

pub expand_last-returns-then-bytes-open-clause-asks : goal.expand_last-returns-then-bytes-open-clause-asks
expand_last-returns-then-bytes-open-clause-asks g t c = asks_none c.args.open.now.limits.bytes (world (g.F.Files.holds c.args.files.now) (g.F.Files.asked c.args.files.now) (g.F.Files.faults c.args.files.now)) c.args.known.now.files.items

pub expand_last-returns-in_default-clause-asks : goal.expand_last-returns-in_default-clause-asks
expand_last-returns-in_default-clause-asks g t c = asks_none c.args.open.now.limits.bytes (world (g.F.Files.holds c.args.files.now) (g.F.Files.asked c.args.files.now) (g.F.Files.faults c.args.files.now)) c.args.known.now.files.items

pub expand_last-returns-in_default-clause-follows : goal.expand_last-returns-in_default-clause-follows
expand_last-returns-in_default-clause-follows g t c = λ r agrees. grew_asked itself (state_of c.args.known.now c.args.progress.now) _ (read_grew (limits_of c.args.open.now.limits) c.args.open.now.depth (length c.args.known.now.files.items - 1) r c.args.open.now.name.now (state_of c.args.known.now c.args.progress.now))

pub expand_last-returns-then-bytes-open-clause-follows : goal.expand_last-returns-then-bytes-open-clause-follows
expand_last-returns-then-bytes-open-clause-follows g t c = λ r agrees.
    let found = (last_reads c.args.known.now c.index.result.now c.args.open.now.name.now c.args.open.now.limits.bytes r (get_slice c.args.known.now.files.items (length c.args.known.now.files.items - 1) c.index.result.now (less_one (length c.args.known.now.files.items) c.requires.some) (c.index.ensures ∙ ap (λ n. get_or c.args.known.now.files.items n c.index.result.now) (ap (λ n. n - 1) (c.len-number.ensures ∙ c.args.known.now.files.ok.0)))) c.requires.named agrees) in
    read_large (limits_of c.args.open.now.limits) c.args.open.now.depth (length c.args.known.now.files.items - 1) r c.args.open.now.name.now found.0 c.index.result.now.bytes (state_of c.args.known.now c.args.progress.now) found.1 found.2 (subst (λ b. c.args.open.now.limits.bytes < length b) c.as_list-bytes.ensures c.if-bytes-open.true) (ap (λ n. n - 1) (sym (last_number c.args.known.now)))
    ∙ ap (λ f. Err (record { fault = f; asked = names_of c.args.known.now })) (sym (c.fault_at.ensures
    ∙ ap (λ pl. record { phase = Expand; at = length c.args.progress.now.result.items; place = pl; code = FileLarge }) (c.place_of-place.ensures ∙ ap first_place (ap (λ n. n - 1) (c.len-number.ensures ∙ c.args.known.now.files.ok.0)))))

pub expand_last-returns-in-Ok-Ok-clause-follows : goal.expand_last-returns-in-Ok-Ok-clause-follows
expand_last-returns-in-Ok-Ok-clause-follows g t c = λ r agrees. (let found = (last_reads c.args.known.now c.index.result.now c.args.open.now.name.now c.args.open.now.limits.bytes r (get_slice c.args.known.now.files.items (length c.args.known.now.files.items - 1) c.index.result.now (less_one (length c.args.known.now.files.items) c.requires.some) (c.index.ensures ∙ ap (λ n. get_or c.args.known.now.files.items n c.index.result.now) (ap (λ n. n - 1) (c.len-number.ensures ∙ c.args.known.now.files.ok.0)))) c.requires.named (agrees_grown c.args.open.now.limits.bytes r c.args.known.now.files.items c.expand_file.new.known.files.items c.in-Ok-Ok.ensures.asks.more c.in-Ok-Ok.ensures.asks.grown agrees)) in
    read_small (limits_of c.args.open.now.limits) c.args.open.now.depth (length c.args.known.now.files.items - 1) r c.args.open.now.name.now found.0 c.index.result.now c.args.known.now.files.items (state_of c.args.known.now c.args.progress.now) found.1 found.2 (subst (λ b. length b ≤ c.args.open.now.limits.bytes) c.as_list-bytes.ensures c.if-bytes-open.false) (ap (λ n. n - 1) (sym (last_number c.args.known.now))) (get_slice c.args.known.now.files.items (length c.args.known.now.files.items - 1) c.index.result.now (less_one (length c.args.known.now.files.items) c.requires.some) (c.index.ensures ∙ ap (λ n. get_or c.args.known.now.files.items n c.index.result.now) (ap (λ n. n - 1) (c.len-number.ensures ∙ c.args.known.now.files.ok.0))))
    ∙ ap (λ ts. file_step (limits_of c.args.open.now.limits) c.args.open.now.depth c.args.open.now.name.now c.args.known.now.files.items ts [] (state_of c.args.known.now c.args.progress.now) r) (sym (c.as_slice.ensures.value ∙ c.in-Ok.ensures ∙ (λ j. tokens_of ((ap (λ n. n - 1) (c.len-number.ensures ∙ c.args.known.now.files.ok.0)) j) (c.as_list-bytes.ensures j))))) ∙ c.in-Ok-Ok.ensures.follows r agrees ∙ ap (step_of _ _) c.in-Ok-Ok.field-0-is

pub expand_last-returns-in-Ok-Err-clause-follows : goal.expand_last-returns-in-Ok-Err-clause-follows
expand_last-returns-in-Ok-Err-clause-follows g t c = λ r agrees. (let found = (last_reads c.args.known.now c.index.result.now c.args.open.now.name.now c.args.open.now.limits.bytes r (get_slice c.args.known.now.files.items (length c.args.known.now.files.items - 1) c.index.result.now (less_one (length c.args.known.now.files.items) c.requires.some) (c.index.ensures ∙ ap (λ n. get_or c.args.known.now.files.items n c.index.result.now) (ap (λ n. n - 1) (c.len-number.ensures ∙ c.args.known.now.files.ok.0)))) c.requires.named (agrees_grown c.args.open.now.limits.bytes r c.args.known.now.files.items c.expand_file.new.known.files.items c.in-Ok-Err.ensures.asks.more c.in-Ok-Err.ensures.asks.grown agrees)) in
    read_small (limits_of c.args.open.now.limits) c.args.open.now.depth (length c.args.known.now.files.items - 1) r c.args.open.now.name.now found.0 c.index.result.now c.args.known.now.files.items (state_of c.args.known.now c.args.progress.now) found.1 found.2 (subst (λ b. length b ≤ c.args.open.now.limits.bytes) c.as_list-bytes.ensures c.if-bytes-open.false) (ap (λ n. n - 1) (sym (last_number c.args.known.now))) (get_slice c.args.known.now.files.items (length c.args.known.now.files.items - 1) c.index.result.now (less_one (length c.args.known.now.files.items) c.requires.some) (c.index.ensures ∙ ap (λ n. get_or c.args.known.now.files.items n c.index.result.now) (ap (λ n. n - 1) (c.len-number.ensures ∙ c.args.known.now.files.ok.0))))
    ∙ ap (λ ts. file_step (limits_of c.args.open.now.limits) c.args.open.now.depth c.args.open.now.name.now c.args.known.now.files.items ts [] (state_of c.args.known.now c.args.progress.now) r) (sym (c.as_slice.ensures.value ∙ c.in-Ok.ensures ∙ (λ j. tokens_of ((ap (λ n. n - 1) (c.len-number.ensures ∙ c.args.known.now.files.ok.0)) j) (c.as_list-bytes.ensures j))))) ∙ c.in-Ok-Err.ensures.follows r agrees ∙ ap (step_of _ _) c.in-Ok-Err.field-0-is

pub expand_last-returns-clause-follows : goal.expand_last-returns-clause-follows
expand_last-returns-clause-follows g t c = λ r agrees.
    subst (λ step. BreaksOff itself step c.expand_file.new.known.files.items c.in-Err.broken (λ name. r (length c.expand_file.new.known.files.items) name ≡ None))
    (sym (let found = (last_reads c.args.known.now c.index.result.now c.args.open.now.name.now c.args.open.now.limits.bytes r (get_slice c.args.known.now.files.items (length c.args.known.now.files.items - 1) c.index.result.now (less_one (length c.args.known.now.files.items) c.requires.some) (c.index.ensures ∙ ap (λ n. get_or c.args.known.now.files.items n c.index.result.now) (ap (λ n. n - 1) (c.len-number.ensures ∙ c.args.known.now.files.ok.0)))) c.requires.named (agrees_grown c.args.open.now.limits.bytes r c.args.known.now.files.items c.expand_file.new.known.files.items c.in-Err.ensures.asks.more c.in-Err.ensures.asks.grown agrees)) in
    read_small (limits_of c.args.open.now.limits) c.args.open.now.depth (length c.args.known.now.files.items - 1) r c.args.open.now.name.now found.0 c.index.result.now c.args.known.now.files.items (state_of c.args.known.now c.args.progress.now) found.1 found.2 (subst (λ b. length b ≤ c.args.open.now.limits.bytes) c.as_list-bytes.ensures c.if-bytes-open.false) (ap (λ n. n - 1) (sym (last_number c.args.known.now))) (get_slice c.args.known.now.files.items (length c.args.known.now.files.items - 1) c.index.result.now (less_one (length c.args.known.now.files.items) c.requires.some) (c.index.ensures ∙ ap (λ n. get_or c.args.known.now.files.items n c.index.result.now) (ap (λ n. n - 1) (c.len-number.ensures ∙ c.args.known.now.files.ok.0))))
    ∙ ap (λ ts. file_step (limits_of c.args.open.now.limits) c.args.open.now.depth c.args.open.now.name.now c.args.known.now.files.items ts [] (state_of c.args.known.now c.args.progress.now) r) (sym (c.as_slice.ensures.value ∙ c.in-Ok.ensures ∙ (λ j. tokens_of ((ap (λ n. n - 1) (c.len-number.ensures ∙ c.args.known.now.files.ok.0)) j) (c.as_list-bytes.ensures j)))))) (c.in-Err.ensures.follows r agrees)

pub expand_last-expand_file-requires : goal.expand_last-expand_file-requires
expand_last-expand_file-requires g t c = λ κs l. (search rules, (l, ((c.requires.fit.0, c.requires.fit.1, small_last c.args.open.now.limits.bytes c.args.known.now.files.items c.index.result.now c.requires.some (get_slice c.args.known.now.files.items (length c.args.known.now.files.items - 1) c.index.result.now (less_one (length c.args.known.now.files.items) c.requires.some) (c.index.ensures ∙ ap (λ n. get_or c.args.known.now.files.items n c.index.result.now) (ap (λ n. n - 1) (c.len-number.ensures ∙ c.args.known.now.files.ok.0)))) (subst (λ b. length b ≤ c.args.open.now.limits.bytes) c.as_list-bytes.ensures c.if-bytes-open.false) c.requires.fit.2), subst (All (λ t. t.file < length c.args.known.now.files.items)) (sym (c.as_slice.ensures.value ∙ c.in-Ok.ensures ∙ (λ j. tokens_of ((ap (λ n. n - 1) (c.len-number.ensures ∙ c.args.known.now.files.ok.0)) j) (c.as_list-bytes.ensures j)))) (lexed_within (length c.args.known.now.files.items) (length c.args.known.now.files.items - 1) c.index.result.now.bytes (less_one (length c.args.known.now.files.items) c.requires.some)))))

pub expand_file-tokens-init : goal.expand_file-tokens-init
expand_file-tokens-init g t c = record {
  asks = asks_none c.args.open.now.limits.bytes (world (g.F.Files.holds c.args.files.now) (g.F.Files.asked c.args.files.now) (g.F.Files.faults c.args.files.now)) c.args.known.now.files.items;
  fit = c.requires.fit;
  follows = λ r agrees. ap (λ b. file_step (limits_of c.args.open.now.limits) c.args.open.now.depth c.args.open.now.name.now c.args.known.now.files.items c.args.tokens.now (reverse b) (state_of c.args.known.now c.args.progress.now) r) c.new-branches.ensures.items;
}

pub expand_file-returns-in-Err-clause-follows : goal.expand_file-returns-in-Err-clause-follows
expand_file-returns-in-Err-clause-follows g t c = λ r agrees.
    file_read_stops (limits_of c.args.open.now.limits) c.args.open.now.depth r c.args.open.now.name.now c.tokens.known.files.items c.args.tokens.now (take (length c.args.tokens.now - (c.tokens.at + 1)) (drop (c.tokens.at + 1) c.args.tokens.now)) c.tokens.at no_token (reverse c.tokens.branches.items) (state_of c.tokens.known c.tokens.progress) _ _ c.tokens-test.true (rest_all (c.tokens.at + 1) c.args.tokens.now) (c.in-Err.ensures c.tokens.known) (c.tokens.invariant.follows r agrees)

pub expand_file-returns-in-Ok-Err-clause-asks : goal.expand_file-returns-in-Ok-Err-clause-asks
expand_file-returns-in-Ok-Err-clause-asks g t c = asks_then c.args.open.now.limits.bytes (world (g.F.Files.holds c.args.files.now) (g.F.Files.asked c.args.files.now) (g.F.Files.faults c.args.files.now)) (world (g.F.Files.holds c.tokens.files) (g.F.Files.asked c.tokens.files) (g.F.Files.faults c.tokens.files)) (world (g.F.Files.holds c.expand_token.new.files) (g.F.Files.asked c.expand_token.new.files) (g.F.Files.faults c.expand_token.new.files)) c.args.known.now.files.items c.tokens.known.files.items c.expand_token.new.known.files.items [] c.tokens.invariant.asks c.in-Ok-Err.ensures.asks

pub expand_file-returns-in-Ok-Err-clause-follows : goal.expand_file-returns-in-Ok-Err-clause-follows
expand_file-returns-in-Ok-Err-clause-follows g t c = λ r agrees.
    (file_read (limits_of c.args.open.now.limits) c.args.open.now.depth r c.args.open.now.name.now c.tokens.known.files.items c.args.tokens.now (take (length c.args.tokens.now - (c.tokens.at + 1)) (drop (c.tokens.at + 1) c.args.tokens.now)) c.tokens.at no_token (reverse c.tokens.branches.items) (state_of c.tokens.known c.tokens.progress) (state_of c.tokens.known c.read_one.new.progress) _ c.tokens-test.true (rest_all (c.tokens.at + 1) c.args.tokens.now) (c.in_default.ensures c.tokens.known) (c.tokens.invariant.follows r (agrees_grown c.args.open.now.limits.bytes r c.tokens.known.files.items c.expand_token.new.known.files.items c.in-Ok-Err.ensures.asks.more c.in-Ok-Err.ensures.asks.grown agrees))) ∙ ap (λ step. step >>= file_rest (limits_of c.args.open.now.limits) c.args.open.now.depth r c.args.open.now.name.now c.tokens.known.files.items (take (length c.args.tokens.now - (c.tokens.at + 1)) (drop (c.tokens.at + 1) c.args.tokens.now))) (c.in-Ok-Err.ensures.follows r agrees ∙ ap (step_of _ _) c.in-Ok-Err.field-0-is)

pub expand_file-returns-in-Err-expand_token-clause-asks : goal.expand_file-returns-in-Err-expand_token-clause-asks
expand_file-returns-in-Err-expand_token-clause-asks g t c = asks_then c.args.open.now.limits.bytes (world (g.F.Files.holds c.args.files.now) (g.F.Files.asked c.args.files.now) (g.F.Files.faults c.args.files.now)) (world (g.F.Files.holds c.tokens.files) (g.F.Files.asked c.tokens.files) (g.F.Files.faults c.tokens.files)) (world (g.F.Files.holds c.expand_token.new.files) (g.F.Files.asked c.expand_token.new.files) (g.F.Files.faults c.expand_token.new.files)) c.args.known.now.files.items c.tokens.known.files.items c.expand_token.new.known.files.items _ c.tokens.invariant.asks c.in-Err-expand_token.ensures.asks

pub expand_file-returns-in-Err-expand_token-clause-follows : goal.expand_file-returns-in-Err-expand_token-clause-follows
expand_file-returns-in-Err-expand_token-clause-follows g t c = λ r agrees.
    subst (λ step. BreaksOff itself step c.expand_token.new.known.files.items c.in-Err-expand_token.broken (λ name. r (length c.expand_token.new.known.files.items) name ≡ None))
    (sym (file_read (limits_of c.args.open.now.limits) c.args.open.now.depth r c.args.open.now.name.now c.tokens.known.files.items c.args.tokens.now (take (length c.args.tokens.now - (c.tokens.at + 1)) (drop (c.tokens.at + 1) c.args.tokens.now)) c.tokens.at no_token (reverse c.tokens.branches.items) (state_of c.tokens.known c.tokens.progress) (state_of c.tokens.known c.read_one.new.progress) _ c.tokens-test.true (rest_all (c.tokens.at + 1) c.args.tokens.now) (c.in_default.ensures c.tokens.known) (c.tokens.invariant.follows r (agrees_grown c.args.open.now.limits.bytes r c.tokens.known.files.items c.expand_token.new.known.files.items c.in-Err-expand_token.ensures.asks.more c.in-Err-expand_token.ensures.asks.grown agrees))))
    (breaks_then at_onward itself (token_step (limits_of c.args.open.now.limits) c.args.open.now.depth c.args.open.now.name.now c.tokens.known.files.items (get_or c.args.tokens.now c.tokens.at no_token) (take (length c.args.tokens.now - (c.tokens.at + 1)) (drop (c.tokens.at + 1) c.args.tokens.now)) (reverse c.tokens.branches.items) (state_of c.tokens.known c.read_one.new.progress) r) (file_rest (limits_of c.args.open.now.limits) c.args.open.now.depth r c.args.open.now.name.now c.tokens.known.files.items (take (length c.args.tokens.now - (c.tokens.at + 1)) (drop (c.tokens.at + 1) c.args.tokens.now))) c.expand_token.new.known.files.items c.in-Err-expand_token.broken _
    (c.in-Err-expand_token.ensures.follows r agrees) (λ next. rest_grew (limits_of c.args.open.now.limits) c.args.open.now.depth r c.args.open.now.name.now c.tokens.known.files.items (take (length c.args.tokens.now - (c.tokens.at + 1)) (drop (c.tokens.at + 1) c.args.tokens.now)) next))

pub expand_file-tokens-preserved : goal.expand_file-tokens-preserved
expand_file-tokens-preserved g t c = record {
  asks = asks_then c.args.open.now.limits.bytes (world (g.F.Files.holds c.args.files.now) (g.F.Files.asked c.args.files.now) (g.F.Files.faults c.args.files.now)) (world (g.F.Files.holds c.tokens.files) (g.F.Files.asked c.tokens.files) (g.F.Files.faults c.tokens.files)) (world (g.F.Files.holds c.expand_token.new.files) (g.F.Files.asked c.expand_token.new.files) (g.F.Files.faults c.expand_token.new.files)) c.args.known.now.files.items c.tokens.known.files.items c.expand_token.new.known.files.items [] c.tokens.invariant.asks c.in-Ok-Ok.ensures.asks;
  fit = subst (λ (x : Result ℕ Fault). IfGiven (Ok x) (IsFit c.args.open.now.limits.bytes 0 c.expand_token.new.known c.expand_token.new.progress)) c.in-Ok-Ok.field-0-is c.in-Ok-Ok.ensures.fit;
  follows = λ r agrees.
      sym ((file_read (limits_of c.args.open.now.limits) c.args.open.now.depth r c.args.open.now.name.now c.tokens.known.files.items c.args.tokens.now (take (length c.args.tokens.now - (c.tokens.at + 1)) (drop (c.tokens.at + 1) c.args.tokens.now)) c.tokens.at no_token (reverse c.tokens.branches.items) (state_of c.tokens.known c.tokens.progress) (state_of c.tokens.known c.read_one.new.progress) _ c.tokens-test.true (rest_all (c.tokens.at + 1) c.args.tokens.now) (c.in_default.ensures c.tokens.known) (c.tokens.invariant.follows r (agrees_grown c.args.open.now.limits.bytes r c.tokens.known.files.items c.expand_token.new.known.files.items c.in-Ok-Ok.ensures.asks.more c.in-Ok-Ok.ensures.asks.grown agrees))) ∙ ap (λ step. step >>= file_rest (limits_of c.args.open.now.limits) c.args.open.now.depth r c.args.open.now.name.now c.tokens.known.files.items (take (length c.args.tokens.now - (c.tokens.at + 1)) (drop (c.tokens.at + 1) c.args.tokens.now))) (c.in-Ok-Ok.ensures.follows r agrees ∙ ap (step_of _ _) c.in-Ok-Ok.field-0-is)
      ∙ file_goes_on (limits_of c.args.open.now.limits) c.args.open.now.depth r c.args.open.now.name.now c.tokens.known.files.items c.args.tokens.now (take (length c.args.tokens.now - (c.tokens.at + 1)) (drop (c.tokens.at + 1) c.args.tokens.now)) c.tokens.at c.in-Ok-Ok.taken (c.tokens.at + (1 + c.min.result)) (reverse c.expand_token.new.branches.items) (state_of c.expand_token.new.known c.expand_token.new.progress) (rest_all (c.tokens.at + 1) c.args.tokens.now) (ap (λ m. c.tokens.at + (1 + m)) c.min.ensures)
      ∙ file_stays (limits_of c.args.open.now.limits) c.args.open.now.depth r c.args.open.now.name.now c.tokens.known.files.items c.expand_token.new.known.files.items c.in-Ok-Ok.ensures.asks.more (drop (c.tokens.at + (1 + c.min.result)) c.args.tokens.now) (reverse c.expand_token.new.branches.items) (state_of c.expand_token.new.known c.expand_token.new.progress) c.in-Ok-Ok.ensures.asks.grown
      (low_rest (length c.args.known.now.files.items) (length c.tokens.known.files.items) c.args.tokens.now (drop (c.tokens.at + (1 + c.min.result)) c.args.tokens.now) (c.tokens.at + (1 + c.min.result)) (grown_length c.args.known.now.files.items c.tokens.known.files.items c.tokens.invariant.asks.more c.tokens.invariant.asks.grown) refl c.requires.within));
}

pub expand_file-expand_token-requires : goal.expand_file-expand_token-requires
expand_file-expand_token-requires g t c = λ κs l. (
  search rules,
  (
    l,
    (
      (
        c.tokens.invariant.fit.0,
        still_none (state_of c.tokens.known c.tokens.progress) c.tokens.known c.read_one.new.progress (none_seen c.tokens.known c.tokens.progress c.tokens.invariant.fit.1)
            (subst (grew_itself (state_of c.tokens.known c.tokens.progress)) (c.in_default.ensures c.tokens.known) (read_one_grows _ (state_of c.tokens.known c.tokens.progress))),
        c.tokens.invariant.fit.2,
      ),
      low_rest (length c.args.known.now.files.items) (length c.tokens.known.files.items) c.args.tokens.now (take (length c.args.tokens.now - (c.tokens.at + 1)) (drop (c.tokens.at + 1) c.args.tokens.now)) (c.tokens.at + 1) (grown_length c.args.known.now.files.items c.tokens.known.files.items c.tokens.invariant.asks.more c.tokens.invariant.asks.grown) (rest_all (c.tokens.at + 1) c.args.tokens.now) c.requires.within,
    ),
  ),
)

pub expand_file-returns-clause-follows : goal.expand_file-returns-clause-follows
expand_file-returns-clause-follows g t c = λ r agrees.
    sym (c.tokens.invariant.follows r agrees) ∙ ap (λ ts. file_step (limits_of c.args.open.now.limits) c.args.open.now.depth c.args.open.now.name.now c.tokens.known.files.items ts (reverse c.tokens.branches.items) (state_of c.tokens.known c.tokens.progress) r) (no_rest c.tokens.at c.args.tokens.now c.tokens-test.false)
    ∙ c.in-Err-all_closed.ensures c.tokens.known
