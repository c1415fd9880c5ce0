use Rattle.std.proofs.Common.{◌≡◌, refl, map, string_bytes, rules, subst}
use Rattle.std.specs.Prelude.{List, ℕ}
use Rattle.va_command.specs.declared.status.Status.{Status}
use Rattle.va_command.specs.declared.status.Status.TheVariants.{Done}
use Rattle.va_preproc.specs.Answers.{seen as seen_files}
use Rattle.va_command.specs.Answers.{seen, IsDue, IsComplaint, EndsReason, Ends}
use Rattle.va_command.proofs.Ending.{ends_delivered, ends_complained}
use Rattle.va_command.proofs.Expected.{as_expected}
use Rattle.va_command.proofs.command.run.Goals as goal

pub returns-then-eq-clause-ends : goal.returns-then-eq-clause-ends
returns-then-eq-clause-ends g c =
    let O = g.O.Sink in
    let E = g.E.Sink in
    let args = c.args in
    let wrote = c.deliver.new.out in
    let files = seen_files (g.F.Files.asked args.files.now) (g.F.Files.asked c.due_for.new.files) (g.F.Files.faults args.files.now)
    (g.F.Files.faults c.due_for.new.files) in
    let due : Status → List ℕ → Type 0 =
    IsDue (g.F.Files.holds args.files.now) files g.A.Algebra.ops g.A.Algebra.valid (map string_bytes args.words.now) in
    let out = seen (O.written args.out.now) (O.written wrote) (O.faults args.out.now) (O.faults wrote) (O.room args.out.now) in
    let err = seen (E.written args.err.now) (E.written args.err.now) (E.faults args.err.now) (E.faults args.err.now) (E.room args.err.now) in
    let is_done : c.in-Ok.due.status ≡ Done = search rules in
    ends_delivered due out err c.in-Ok.due.text.items c.deliver.result
    (subst (λ status. due status c.in-Ok.due.text.items) is_done c.in-Ok.ensures.due)
    refl
    (rw (← c.as_slice.ensures.value) c.deliver.ensures)

pub returns-clause-expected : goal.returns-clause-expected
returns-clause-expected g c expected told steady out_steady err_steady =
    let O = g.O.Sink in
    let E = g.E.Sink in
    let args = c.args in
    let wrote = c.complain.new.err in
    let files = seen_files (g.F.Files.asked args.files.now) (g.F.Files.asked c.due_for.new.files) (g.F.Files.faults args.files.now)
    (g.F.Files.faults c.due_for.new.files) in
    let due : Status → List ℕ → Type 0 =
    IsDue (g.F.Files.holds args.files.now) files g.A.Algebra.ops g.A.Algebra.valid (map string_bytes args.words.now) in
    let out = seen (O.written args.out.now) (O.written args.out.now) (O.faults args.out.now) (O.faults args.out.now) (O.room args.out.now) in
    let err = seen (E.written args.err.now) (E.written wrote) (E.faults args.err.now) (E.faults wrote) (E.room args.err.now) in
    let reason : IsComplaint c.in-Ok.due.status = search rules in
    let ended : EndsReason c.in-Ok.due.text.items c.in-Ok.due.status err c.complain.result =
    rw (← c.as_slice-else-eq.ensures.value) c.complain.ensures in
    let ends : Ends due out err c.complain.result =
    ends_complained due out err c.in-Ok.due.text.items c.in-Ok.due.status c.complain.result c.in-Ok.ensures.due reason refl ended in
    as_expected g.A.Algebra.ops g.A.Algebra.valid (g.F.Files.holds args.files.now) files (map string_bytes args.words.now) out err c.complain.result ends expected told steady
    out_steady err_steady

pub returns-then-eq-clause-expected : goal.returns-then-eq-clause-expected
returns-then-eq-clause-expected g c expected told steady out_steady err_steady =
    let O = g.O.Sink in
    let E = g.E.Sink in
    let args = c.args in
    let wrote = c.deliver.new.out in
    let files = seen_files (g.F.Files.asked args.files.now) (g.F.Files.asked c.due_for.new.files) (g.F.Files.faults args.files.now)
    (g.F.Files.faults c.due_for.new.files) in
    let due : Status → List ℕ → Type 0 =
    IsDue (g.F.Files.holds args.files.now) files g.A.Algebra.ops g.A.Algebra.valid (map string_bytes args.words.now) in
    let out = seen (O.written args.out.now) (O.written wrote) (O.faults args.out.now) (O.faults wrote) (O.room args.out.now) in
    let err = seen (E.written args.err.now) (E.written args.err.now) (E.faults args.err.now) (E.faults args.err.now) (E.room args.err.now) in
    let is_done : c.in-Ok.due.status ≡ Done = search rules in
    let ends : Ends due out err c.deliver.result =
    ends_delivered due out err c.in-Ok.due.text.items c.deliver.result
    (subst (λ status. due status c.in-Ok.due.text.items) is_done c.in-Ok.ensures.due)
    refl
    (rw (← c.as_slice.ensures.value) c.deliver.ensures) in
    as_expected g.A.Algebra.ops g.A.Algebra.valid (g.F.Files.holds args.files.now) files (map string_bytes args.words.now) out err c.deliver.result ends expected told steady
    out_steady err_steady
