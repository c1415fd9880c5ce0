use Rattle.std.proofs.Common.{sym, ap, ◌∙◌, Err}
use Rattle.va_preproc.specs.Reading.{own_place}
use Rattle.va_preproc.specs.Values.{state_of, names_of}
use Rattle.va_preproc.proofs.Loops.{enough, short, no_token}
use Rattle.va_preproc.proofs.reading.read_own.Goals as goal

pub returns-then-unread-count : goal.returns-then-unread-count
returns-then-unread-count c = λ k.
    short own_place k.files.items c.args.count c.min-count.result c.args.tokens.now no_token (state_of k c.args.progress.now) c.min-count.ensures c.if-unread-count.true
    ∙ ap (λ fault. Err (record { fault = fault; asked = names_of k })) (sym c.fault_at.ensures)

pub returns : goal.returns
returns c = λ k.
    enough own_place k.files.items c.args.count c.min-count.result c.args.tokens.now (state_of k c.args.progress.now) c.min-count.ensures c.if-unread-count.false
