use Rattle.std.proofs.Common.{◌≡◌, ◌∙◌, ◌+◌, ◌≤◌, ℕ, [], ◌∷◌, ◌++◌, length, refl, sym, ap, subst, None, Ok, Err}
use Rattle.std.proofs.lemmas.List.{append-nil}
use Rattle.std.specs.Global.{Vec}
use Rattle.std.specs.Prelude.{slice_get}
use Rattle.va_io.specs.Outside.{Appends, Gives, AsksFor}
use Rattle.va_io.specs.declared.files.FileErr.{FileErr}
use Rattle.va_lexer.specs.Tokens.{tokens_of}
use Rattle.va_preproc.specs.Expansion.{in_holdings, expansion_within, reads}
use Rattle.va_preproc.specs.Answers.{seen, AreFirst}
use Rattle.va_preproc.specs.Values.{step_of, state_of}
use Rattle.va_preproc.specs.Steps.{limits_of, world, Asks, BreaksOff, names_in, asked_in, itself, IsFit, IfGiven}
use Rattle.va_preproc.proofs.Asked.{asks_then, asks_read, appends_none}
use Rattle.va_preproc.proofs.Stable.{still_within}
use Rattle.va_preproc.proofs.Top.{starts, starts_within, one_small, asks_whole, short_whole, first_name, main_first, told_all, no_names, last_name, was_broken, memory_answers, finished_answers, finished_expanded, refused_answers, broken_answers}
use Rattle.va_preproc.proofs.expansion.expand_within.Goals as goal

pub expand_last-requires-clause-fit : goal.expand_last-requires-clause-fit
expand_last-requires-clause-fit g c = (still_within c.in-Ok.known c.add_file.new.known (record { name = c.in-Ok-name_for.own; bytes = c.in-Ok-read.bytes.items }) (c.add_file.ensures.files ∙ ap (λ x. x ++ (record { name = c.in-Ok-name_for.own; bytes = c.in-Ok-read.bytes.items }) ∷ []) c.in-Ok-name_for.ensures.files) (c.add_file.ensures.macros ∙ c.in-Ok-name_for.ensures.macros) (starts_within c.in-Ok.known c.in-Ok.ensures.macros), c.start_progress-progress.ensures.argument, one_small c.args.limits.now.bytes c.add_file.new.known.files.items (record { name = c.in-Ok-name_for.own; bytes = c.in-Ok-read.bytes.items }) ((c.add_file.ensures.files ∙ ap (λ x. x ++ (record { name = c.in-Ok-name_for.own; bytes = c.in-Ok-read.bytes.items }) ∷ []) c.in-Ok-name_for.ensures.files) ∙ ap (λ x. x ++ (record { name = c.in-Ok-name_for.own; bytes = c.in-Ok-read.bytes.items }) ∷ []) c.in-Ok.ensures.files))

pub returns-in-Ok-finished-clause-answer : goal.returns-in-Ok-finished-clause-answer
returns-in-Ok-finished-clause-answer g c =
    let whole = (asks_whole c.args.limits.now.bytes (world (g.F.Files.holds c.args.files.now) (g.F.Files.asked c.args.files.now) (g.F.Files.faults c.args.files.now)) (world (g.F.Files.holds c.expand_last.new.files) (g.F.Files.asked c.expand_last.new.files) (g.F.Files.faults c.expand_last.new.files)) c.in-Ok.known.files.items c.expand_last.new.known.files.items [] c.in-Ok.ensures.files (asks_then c.args.limits.now.bytes (world (g.F.Files.holds c.args.files.now) (g.F.Files.asked c.args.files.now) (g.F.Files.faults c.args.files.now)) (world (g.F.Files.holds c.read.new.self) (g.F.Files.asked c.read.new.self) (g.F.Files.faults c.read.new.self)) (world (g.F.Files.holds c.expand_last.new.files) (g.F.Files.asked c.expand_last.new.files) (g.F.Files.faults c.expand_last.new.files)) c.in-Ok.known.files.items c.add_file.new.known.files.items c.expand_last.new.known.files.items [] (subst (λ x. Asks c.args.limits.now.bytes (world (g.F.Files.holds c.args.files.now) (g.F.Files.asked c.args.files.now) (g.F.Files.faults c.args.files.now)) (world (g.F.Files.holds c.read.new.self) (g.F.Files.asked c.read.new.self) (g.F.Files.faults c.read.new.self)) c.in-Ok.known.files.items x []) (sym (c.add_file.ensures.files ∙ ap (λ x. x ++ (record { name = c.in-Ok-name_for.own; bytes = c.in-Ok-read.bytes.items }) ∷ []) c.in-Ok-name_for.ensures.files)) (asks_read c.args.limits.now.bytes (world (g.F.Files.holds c.args.files.now) (g.F.Files.asked c.args.files.now) (g.F.Files.faults c.args.files.now)) (world (g.F.Files.holds c.read.new.self) (g.F.Files.asked c.read.new.self) (g.F.Files.faults c.read.new.self)) c.in-Ok.known.files.items (record { name = c.in-Ok-name_for.own; bytes = c.in-Ok-read.bytes.items }) c.in-Ok-read.ensures.held c.in-Ok-read.ensures.later (subst (λ n. n ≤ c.args.limits.now.bytes + 1) c.in-Ok-read.bytes.ok.0 c.in-Ok-read.ensures.most) (subst (λ n. Appends (g.F.Files.asked c.args.files.now) (g.F.Files.asked c.read.new.self) (n ∷ [])) (sym c.in-Ok-name_for.ensures.name) c.in-Ok-read.ensures.asked) (subst (λ n. Gives (g.F.Files.holds c.args.files.now) n (c.args.limits.now.bytes + 1) c.in-Ok-read.bytes.items) (sym c.in-Ok-name_for.ensures.name) c.in-Ok-read.ensures.bytes))) c.in-Ok-Ok.ensures.asks)) in
    finished_answers (limits_of c.args.limits.now) (g.F.Files.holds c.args.files.now) c.args.main.now (seen (g.F.Files.asked c.args.files.now) (g.F.Files.asked c.expand_last.new.files) (g.F.Files.faults c.args.files.now) (g.F.Files.faults c.expand_last.new.files)) c.expand_last.new.known.files.items c.in-Ok-finished.ensures.tokens.0 c.in-Ok-finished.ensures.tokens.1 (first_name c.add_file.new.known.files.items c.expand_last.new.known.files.items c.in-Ok-Ok.ensures.asks.more (record { name = c.in-Ok-name_for.own; bytes = c.in-Ok-read.bytes.items }) c.in-Ok-finished.ensures.tokens.0 c.args.main.now ((c.add_file.ensures.files ∙ ap (λ x. x ++ (record { name = c.in-Ok-name_for.own; bytes = c.in-Ok-read.bytes.items }) ∷ []) c.in-Ok-name_for.ensures.files) ∙ ap (λ x. x ++ (record { name = c.in-Ok-name_for.own; bytes = c.in-Ok-read.bytes.items }) ∷ []) c.in-Ok.ensures.files) c.in-Ok-name_for.ensures.name c.in-Ok-Ok.ensures.asks.grown c.in-Ok-finished.ensures.tokens.1) (state_of c.expand_last.new.known c.expand_last.new.progress) c.in-Ok-finished.expanded (subst (λ x. IfGiven (Ok x) (IsFit c.args.limits.now.bytes 0 c.expand_last.new.known c.expand_last.new.progress)) c.in-Ok-Ok.field-0-is c.in-Ok-Ok.ensures.fit).2
    (subst (Appends (g.F.Files.asked c.args.files.now) (g.F.Files.asked c.expand_last.new.files)) (append-nil (names_in c.expand_last.new.known.files.items)) whole.0) whole.1 c.in-Ok-finished.ensures.tokens.2 c.in-Ok-finished.ensures.files refl
    (λ r agrees. (starts (limits_of c.args.limits.now) c.in-Ok.known c.add_file.new.known c.start_progress-progress.result (record { name = c.in-Ok-name_for.own; bytes = c.in-Ok-read.bytes.items }) c.args.main.now (record { macros = c.in-Ok.ensures.macros; files = c.in-Ok.ensures.files; unread = c.start_progress-progress.ensures.unread; tokens = c.start_progress-progress.ensures.tokens; free = c.start_progress-progress.ensures.free; argument = c.start_progress-progress.ensures.argument }) (c.add_file.ensures.files ∙ ap (λ x. x ++ (record { name = c.in-Ok-name_for.own; bytes = c.in-Ok-read.bytes.items }) ∷ []) c.in-Ok-name_for.ensures.files) (c.add_file.ensures.macros ∙ c.in-Ok-name_for.ensures.macros) c.in-Ok-name_for.ensures.name r) ∙ c.in-Ok-Ok.ensures.follows r agrees ∙ ap (step_of _ _) c.in-Ok-Ok.field-0-is)

pub returns-in-Ok-finished-clause-expanded : goal.returns-in-Ok-finished-clause-expanded
returns-in-Ok-finished-clause-expanded g c =
    finished_expanded (limits_of c.args.limits.now) (g.F.Files.holds c.args.files.now) c.args.main.now (seen (g.F.Files.asked c.args.files.now) (g.F.Files.asked c.expand_last.new.files) (g.F.Files.faults c.args.files.now) (g.F.Files.faults c.expand_last.new.files)) c.expand_last.new.known.files.items c.in-Ok-finished.ensures.tokens.0 c.in-Ok-finished.ensures.tokens.1 (first_name c.add_file.new.known.files.items c.expand_last.new.known.files.items c.in-Ok-Ok.ensures.asks.more (record { name = c.in-Ok-name_for.own; bytes = c.in-Ok-read.bytes.items }) c.in-Ok-finished.ensures.tokens.0 c.args.main.now ((c.add_file.ensures.files ∙ ap (λ x. x ++ (record { name = c.in-Ok-name_for.own; bytes = c.in-Ok-read.bytes.items }) ∷ []) c.in-Ok-name_for.ensures.files) ∙ ap (λ x. x ++ (record { name = c.in-Ok-name_for.own; bytes = c.in-Ok-read.bytes.items }) ∷ []) c.in-Ok.ensures.files) c.in-Ok-name_for.ensures.name c.in-Ok-Ok.ensures.asks.grown c.in-Ok-finished.ensures.tokens.1) (state_of c.expand_last.new.known c.expand_last.new.progress) c.in-Ok-finished.expanded (subst (λ x. IfGiven (Ok x) (IsFit c.args.limits.now.bytes 0 c.expand_last.new.known c.expand_last.new.progress)) c.in-Ok-Ok.field-0-is c.in-Ok-Ok.ensures.fit).2 c.requires.result
    c.in-Ok-finished.ensures.tokens.2 c.in-Ok-finished.ensures.files refl
    (λ r agrees. (starts (limits_of c.args.limits.now) c.in-Ok.known c.add_file.new.known c.start_progress-progress.result (record { name = c.in-Ok-name_for.own; bytes = c.in-Ok-read.bytes.items }) c.args.main.now (record { macros = c.in-Ok.ensures.macros; files = c.in-Ok.ensures.files; unread = c.start_progress-progress.ensures.unread; tokens = c.start_progress-progress.ensures.tokens; free = c.start_progress-progress.ensures.free; argument = c.start_progress-progress.ensures.argument }) (c.add_file.ensures.files ∙ ap (λ x. x ++ (record { name = c.in-Ok-name_for.own; bytes = c.in-Ok-read.bytes.items }) ∷ []) c.in-Ok-name_for.ensures.files) (c.add_file.ensures.macros ∙ c.in-Ok-name_for.ensures.macros) c.in-Ok-name_for.ensures.name r) ∙ c.in-Ok-Ok.ensures.follows r agrees ∙ ap (step_of _ _) c.in-Ok-Ok.field-0-is)

pub returns-in-Ok-Ok-clause-answer : goal.returns-in-Ok-Ok-clause-answer
returns-in-Ok-Ok-clause-answer g c =
    let whole = (asks_whole c.args.limits.now.bytes (world (g.F.Files.holds c.args.files.now) (g.F.Files.asked c.args.files.now) (g.F.Files.faults c.args.files.now)) (world (g.F.Files.holds c.expand_last.new.files) (g.F.Files.asked c.expand_last.new.files) (g.F.Files.faults c.expand_last.new.files)) c.in-Ok.known.files.items c.expand_last.new.known.files.items [] c.in-Ok.ensures.files (asks_then c.args.limits.now.bytes (world (g.F.Files.holds c.args.files.now) (g.F.Files.asked c.args.files.now) (g.F.Files.faults c.args.files.now)) (world (g.F.Files.holds c.read.new.self) (g.F.Files.asked c.read.new.self) (g.F.Files.faults c.read.new.self)) (world (g.F.Files.holds c.expand_last.new.files) (g.F.Files.asked c.expand_last.new.files) (g.F.Files.faults c.expand_last.new.files)) c.in-Ok.known.files.items c.add_file.new.known.files.items c.expand_last.new.known.files.items [] (subst (λ x. Asks c.args.limits.now.bytes (world (g.F.Files.holds c.args.files.now) (g.F.Files.asked c.args.files.now) (g.F.Files.faults c.args.files.now)) (world (g.F.Files.holds c.read.new.self) (g.F.Files.asked c.read.new.self) (g.F.Files.faults c.read.new.self)) c.in-Ok.known.files.items x []) (sym (c.add_file.ensures.files ∙ ap (λ x. x ++ (record { name = c.in-Ok-name_for.own; bytes = c.in-Ok-read.bytes.items }) ∷ []) c.in-Ok-name_for.ensures.files)) (asks_read c.args.limits.now.bytes (world (g.F.Files.holds c.args.files.now) (g.F.Files.asked c.args.files.now) (g.F.Files.faults c.args.files.now)) (world (g.F.Files.holds c.read.new.self) (g.F.Files.asked c.read.new.self) (g.F.Files.faults c.read.new.self)) c.in-Ok.known.files.items (record { name = c.in-Ok-name_for.own; bytes = c.in-Ok-read.bytes.items }) c.in-Ok-read.ensures.held c.in-Ok-read.ensures.later (subst (λ n. n ≤ c.args.limits.now.bytes + 1) c.in-Ok-read.bytes.ok.0 c.in-Ok-read.ensures.most) (subst (λ n. Appends (g.F.Files.asked c.args.files.now) (g.F.Files.asked c.read.new.self) (n ∷ [])) (sym c.in-Ok-name_for.ensures.name) c.in-Ok-read.ensures.asked) (subst (λ n. Gives (g.F.Files.holds c.args.files.now) n (c.args.limits.now.bytes + 1) c.in-Ok-read.bytes.items) (sym c.in-Ok-name_for.ensures.name) c.in-Ok-read.ensures.bytes))) c.in-Ok-Ok.ensures.asks)) in
    memory_answers (limits_of c.args.limits.now) (g.F.Files.holds c.args.files.now) c.args.main.now (seen (g.F.Files.asked c.args.files.now) (g.F.Files.asked c.expand_last.new.files) (g.F.Files.faults c.args.files.now) (g.F.Files.faults c.expand_last.new.files)) c.expand_last.new.known.files.items (record { name = c.in-Ok-name_for.own; bytes = c.in-Ok-read.bytes.items }) (ap (λ l. slice_get l 0) (c.in-Ok-Ok.ensures.asks.grown ∙ ap (λ l. l ++ c.in-Ok-Ok.ensures.asks.more) ((c.add_file.ensures.files ∙ ap (λ x. x ++ (record { name = c.in-Ok-name_for.own; bytes = c.in-Ok-read.bytes.items }) ∷ []) c.in-Ok-name_for.ensures.files) ∙ ap (λ x. x ++ (record { name = c.in-Ok-name_for.own; bytes = c.in-Ok-read.bytes.items }) ∷ []) c.in-Ok.ensures.files))) c.in-Ok-name_for.ensures.name (names_in c.expand_last.new.known.files.items)
    (subst (Appends (g.F.Files.asked c.args.files.now) (g.F.Files.asked c.expand_last.new.files)) (append-nil (names_in c.expand_last.new.known.files.items)) whole.0) whole.1
    (λ r agrees. subst (λ m. AreFirst (names_in c.expand_last.new.known.files.items) (asked_in itself m)) (sym ((starts (limits_of c.args.limits.now) c.in-Ok.known c.add_file.new.known c.start_progress-progress.result (record { name = c.in-Ok-name_for.own; bytes = c.in-Ok-read.bytes.items }) c.args.main.now (record { macros = c.in-Ok.ensures.macros; files = c.in-Ok.ensures.files; unread = c.start_progress-progress.ensures.unread; tokens = c.start_progress-progress.ensures.tokens; free = c.start_progress-progress.ensures.free; argument = c.start_progress-progress.ensures.argument }) (c.add_file.ensures.files ∙ ap (λ x. x ++ (record { name = c.in-Ok-name_for.own; bytes = c.in-Ok-read.bytes.items }) ∷ []) c.in-Ok-name_for.ensures.files) (c.add_file.ensures.macros ∙ c.in-Ok-name_for.ensures.macros) c.in-Ok-name_for.ensures.name r) ∙ c.in-Ok-Ok.ensures.follows r agrees ∙ ap (step_of _ _) c.in-Ok-Ok.field-0-is)) ([], sym (append-nil (names_in c.expand_last.new.known.files.items))))

pub returns-in-Ok-Err-clause-answer : goal.returns-in-Ok-Err-clause-answer
returns-in-Ok-Err-clause-answer g c =
    let asks = (asks_then c.args.limits.now.bytes (world (g.F.Files.holds c.args.files.now) (g.F.Files.asked c.args.files.now) (g.F.Files.faults c.args.files.now)) (world (g.F.Files.holds c.read.new.self) (g.F.Files.asked c.read.new.self) (g.F.Files.faults c.read.new.self)) (world (g.F.Files.holds c.expand_last.new.files) (g.F.Files.asked c.expand_last.new.files) (g.F.Files.faults c.expand_last.new.files)) c.in-Ok.known.files.items c.add_file.new.known.files.items c.expand_last.new.known.files.items [] (subst (λ x. Asks c.args.limits.now.bytes (world (g.F.Files.holds c.args.files.now) (g.F.Files.asked c.args.files.now) (g.F.Files.faults c.args.files.now)) (world (g.F.Files.holds c.read.new.self) (g.F.Files.asked c.read.new.self) (g.F.Files.faults c.read.new.self)) c.in-Ok.known.files.items x []) (sym (c.add_file.ensures.files ∙ ap (λ x. x ++ (record { name = c.in-Ok-name_for.own; bytes = c.in-Ok-read.bytes.items }) ∷ []) c.in-Ok-name_for.ensures.files)) (asks_read c.args.limits.now.bytes (world (g.F.Files.holds c.args.files.now) (g.F.Files.asked c.args.files.now) (g.F.Files.faults c.args.files.now)) (world (g.F.Files.holds c.read.new.self) (g.F.Files.asked c.read.new.self) (g.F.Files.faults c.read.new.self)) c.in-Ok.known.files.items (record { name = c.in-Ok-name_for.own; bytes = c.in-Ok-read.bytes.items }) c.in-Ok-read.ensures.held c.in-Ok-read.ensures.later (subst (λ n. n ≤ c.args.limits.now.bytes + 1) c.in-Ok-read.bytes.ok.0 c.in-Ok-read.ensures.most) (subst (λ n. Appends (g.F.Files.asked c.args.files.now) (g.F.Files.asked c.read.new.self) (n ∷ [])) (sym c.in-Ok-name_for.ensures.name) c.in-Ok-read.ensures.asked) (subst (λ n. Gives (g.F.Files.holds c.args.files.now) n (c.args.limits.now.bytes + 1) c.in-Ok-read.bytes.items) (sym c.in-Ok-name_for.ensures.name) c.in-Ok-read.ensures.bytes))) c.in-Ok-Err.ensures.asks) in
    let whole = asks_whole c.args.limits.now.bytes (world (g.F.Files.holds c.args.files.now) (g.F.Files.asked c.args.files.now) (g.F.Files.faults c.args.files.now)) (world (g.F.Files.holds c.expand_last.new.files) (g.F.Files.asked c.expand_last.new.files) (g.F.Files.faults c.expand_last.new.files)) c.in-Ok.known.files.items c.expand_last.new.known.files.items [] c.in-Ok.ensures.files asks in
    refused_answers (limits_of c.args.limits.now) (g.F.Files.holds c.args.files.now) c.args.main.now (seen (g.F.Files.asked c.args.files.now) (g.F.Files.asked c.expand_last.new.files) (g.F.Files.faults c.args.files.now) (g.F.Files.faults c.expand_last.new.files)) c.expand_last.new.known.files.items (record { name = c.in-Ok-name_for.own; bytes = c.in-Ok-read.bytes.items }) (ap (λ l. slice_get l 0) (c.in-Ok-Err.ensures.asks.grown ∙ ap (λ l. l ++ c.in-Ok-Err.ensures.asks.more) ((c.add_file.ensures.files ∙ ap (λ x. x ++ (record { name = c.in-Ok-name_for.own; bytes = c.in-Ok-read.bytes.items }) ∷ []) c.in-Ok-name_for.ensures.files) ∙ ap (λ x. x ++ (record { name = c.in-Ok-name_for.own; bytes = c.in-Ok-read.bytes.items }) ∷ []) c.in-Ok.ensures.files))) c.in-Ok-name_for.ensures.name c.in-Ok-Err.fault c.refused.result (short_whole c.args.limits.now.bytes (world (g.F.Files.holds c.args.files.now) (g.F.Files.asked c.args.files.now) (g.F.Files.faults c.args.files.now)) (world (g.F.Files.holds c.expand_last.new.files) (g.F.Files.asked c.expand_last.new.files) (g.F.Files.faults c.expand_last.new.files)) c.in-Ok.known.files.items c.expand_last.new.known.files.items [] c.in-Ok.ensures.files asks) c.refused.ensures
    (subst (Appends (g.F.Files.asked c.args.files.now) (g.F.Files.asked c.expand_last.new.files)) (append-nil (names_in c.expand_last.new.known.files.items)) whole.0) whole.1
    (λ r agrees. (starts (limits_of c.args.limits.now) c.in-Ok.known c.add_file.new.known c.start_progress-progress.result (record { name = c.in-Ok-name_for.own; bytes = c.in-Ok-read.bytes.items }) c.args.main.now (record { macros = c.in-Ok.ensures.macros; files = c.in-Ok.ensures.files; unread = c.start_progress-progress.ensures.unread; tokens = c.start_progress-progress.ensures.tokens; free = c.start_progress-progress.ensures.free; argument = c.start_progress-progress.ensures.argument }) (c.add_file.ensures.files ∙ ap (λ x. x ++ (record { name = c.in-Ok-name_for.own; bytes = c.in-Ok-read.bytes.items }) ∷ []) c.in-Ok-name_for.ensures.files) (c.add_file.ensures.macros ∙ c.in-Ok-name_for.ensures.macros) c.in-Ok-name_for.ensures.name r) ∙ c.in-Ok-Err.ensures.follows r agrees ∙ ap (step_of _ _) c.in-Ok-Err.field-0-is)

pub returns-in-Ok-read-clause-answer : goal.returns-in-Ok-read-clause-answer
returns-in-Ok-read-clause-answer g c =
    let whole = (asks_whole c.args.limits.now.bytes (world (g.F.Files.holds c.args.files.now) (g.F.Files.asked c.args.files.now) (g.F.Files.faults c.args.files.now)) (world (g.F.Files.holds c.expand_last.new.files) (g.F.Files.asked c.expand_last.new.files) (g.F.Files.faults c.expand_last.new.files)) c.in-Ok.known.files.items c.expand_last.new.known.files.items (last_name c.in-Err.broken) c.in-Ok.ensures.files (asks_then c.args.limits.now.bytes (world (g.F.Files.holds c.args.files.now) (g.F.Files.asked c.args.files.now) (g.F.Files.faults c.args.files.now)) (world (g.F.Files.holds c.read.new.self) (g.F.Files.asked c.read.new.self) (g.F.Files.faults c.read.new.self)) (world (g.F.Files.holds c.expand_last.new.files) (g.F.Files.asked c.expand_last.new.files) (g.F.Files.faults c.expand_last.new.files)) c.in-Ok.known.files.items c.add_file.new.known.files.items c.expand_last.new.known.files.items (last_name c.in-Err.broken) (subst (λ x. Asks c.args.limits.now.bytes (world (g.F.Files.holds c.args.files.now) (g.F.Files.asked c.args.files.now) (g.F.Files.faults c.args.files.now)) (world (g.F.Files.holds c.read.new.self) (g.F.Files.asked c.read.new.self) (g.F.Files.faults c.read.new.self)) c.in-Ok.known.files.items x []) (sym (c.add_file.ensures.files ∙ ap (λ x. x ++ (record { name = c.in-Ok-name_for.own; bytes = c.in-Ok-read.bytes.items }) ∷ []) c.in-Ok-name_for.ensures.files)) (asks_read c.args.limits.now.bytes (world (g.F.Files.holds c.args.files.now) (g.F.Files.asked c.args.files.now) (g.F.Files.faults c.args.files.now)) (world (g.F.Files.holds c.read.new.self) (g.F.Files.asked c.read.new.self) (g.F.Files.faults c.read.new.self)) c.in-Ok.known.files.items (record { name = c.in-Ok-name_for.own; bytes = c.in-Ok-read.bytes.items }) c.in-Ok-read.ensures.held c.in-Ok-read.ensures.later (subst (λ n. n ≤ c.args.limits.now.bytes + 1) c.in-Ok-read.bytes.ok.0 c.in-Ok-read.ensures.most) (subst (λ n. Appends (g.F.Files.asked c.args.files.now) (g.F.Files.asked c.read.new.self) (n ∷ [])) (sym c.in-Ok-name_for.ensures.name) c.in-Ok-read.ensures.asked) (subst (λ n. Gives (g.F.Files.holds c.args.files.now) n (c.args.limits.now.bytes + 1) c.in-Ok-read.bytes.items) (sym c.in-Ok-name_for.ensures.name) c.in-Ok-read.ensures.bytes))) c.in-Err.ensures.asks)) in
    broken_answers (limits_of c.args.limits.now) (g.F.Files.holds c.args.files.now) c.args.main.now (seen (g.F.Files.asked c.args.files.now) (g.F.Files.asked c.expand_last.new.files) (g.F.Files.faults c.args.files.now) (g.F.Files.faults c.expand_last.new.files)) c.expand_last.new.known.files.items (record { name = c.in-Ok-name_for.own; bytes = c.in-Ok-read.bytes.items }) (ap (λ l. slice_get l 0) (c.in-Err.ensures.asks.grown ∙ ap (λ l. l ++ c.in-Err.ensures.asks.more) ((c.add_file.ensures.files ∙ ap (λ x. x ++ (record { name = c.in-Ok-name_for.own; bytes = c.in-Ok-read.bytes.items }) ∷ []) c.in-Ok-name_for.ensures.files) ∙ ap (λ x. x ++ (record { name = c.in-Ok-name_for.own; bytes = c.in-Ok-read.bytes.items }) ∷ []) c.in-Ok.ensures.files))) c.in-Ok-name_for.ensures.name c.in-Err.broken c.broken_off.result c.broken_off.ensures whole.0 whole.1
    (was_broken (Unit {0}) (world (g.F.Files.holds c.read.new.self) (g.F.Files.asked c.read.new.self) (g.F.Files.faults c.read.new.self)) (world (g.F.Files.holds c.expand_last.new.files) (g.F.Files.asked c.expand_last.new.files) (g.F.Files.faults c.expand_last.new.files)) (g.F.Files.holds c.args.files.now) (seen (g.F.Files.asked c.args.files.now) (g.F.Files.asked c.expand_last.new.files) (g.F.Files.faults c.args.files.now) (g.F.Files.faults c.expand_last.new.files)) c.in-Err.broken c.in-Ok-read.ensures.held c.in-Ok-read.ensures.later refl c.in-Err.ensures.cause)
    (λ r agrees. subst (λ m. BreaksOff itself m c.expand_last.new.known.files.items c.in-Err.broken (λ name. r (length c.expand_last.new.known.files.items) name ≡ None)) (sym (starts (limits_of c.args.limits.now) c.in-Ok.known c.add_file.new.known c.start_progress-progress.result (record { name = c.in-Ok-name_for.own; bytes = c.in-Ok-read.bytes.items }) c.args.main.now (record { macros = c.in-Ok.ensures.macros; files = c.in-Ok.ensures.files; unread = c.start_progress-progress.ensures.unread; tokens = c.start_progress-progress.ensures.tokens; free = c.start_progress-progress.ensures.free; argument = c.start_progress-progress.ensures.argument }) (c.add_file.ensures.files ∙ ap (λ x. x ++ (record { name = c.in-Ok-name_for.own; bytes = c.in-Ok-read.bytes.items }) ∷ []) c.in-Ok-name_for.ensures.files) (c.add_file.ensures.macros ∙ c.in-Ok-name_for.ensures.macros) c.in-Ok-name_for.ensures.name r)) (c.in-Err.ensures.follows r agrees))

pub returns-in-Err-Failed-clause-answer : goal.returns-in-Err-Failed-clause-answer
returns-in-Err-Failed-clause-answer g c = (
  [],
  c.in-Err-Failed.ensures.failed (ap Err c.in-Err-Failed.field-0-is),
  subst (λ n. Appends (g.F.Files.asked c.args.files.now) (g.F.Files.asked c.read.new.self) (n ∷ [])) (sym c.in-Ok-name_for.ensures.name)
      (subst (λ (e : FileErr). AsksFor {T = Vec ℕ} (Err e) (g.F.Files.asked c.args.files.now) c.args.main.now (g.F.Files.asked c.read.new.self)) c.in-Err-Failed.field-0-is c.in-Err-Failed.ensures.asked),
  told_all (g.F.Files.holds c.args.files.now) (λ h. AreFirst (c.in-Ok-name_for.own ∷ []) (reads (expansion_within (limits_of c.args.limits.now) tokens_of h c.args.main.now)))
      (λ h. subst (λ n. AreFirst (n ∷ []) (reads (expansion_within (limits_of c.args.limits.now) tokens_of h c.args.main.now))) (sym c.in-Ok-name_for.ensures.name) (main_first (limits_of c.args.limits.now) (in_holdings h) c.args.main.now)),
)

pub returns-clause-answer : goal.returns-clause-answer
returns-clause-answer g c = (
  [],
  subst (λ o. Appends (g.F.Files.asked c.args.files.now) o []) (sym (subst (λ (e : FileErr). AsksFor {T = Vec ℕ} (Err e) (g.F.Files.asked c.args.files.now) c.args.main.now (g.F.Files.asked c.read.new.self)) c.in-Err-NoMemory.field-0-is c.in-Err-NoMemory.ensures.asked)) (appends_none (g.F.Files.asked c.args.files.now)),
  told_all (g.F.Files.holds c.args.files.now) (λ h. AreFirst [] (reads (expansion_within (limits_of c.args.limits.now) tokens_of h c.args.main.now))) (λ h. no_names (reads (expansion_within (limits_of c.args.limits.now) tokens_of h c.args.main.now))),
)
