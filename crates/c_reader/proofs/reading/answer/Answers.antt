use Rattle.std.proofs.Common.{arith}
use Rattle.c_raw.specs.Views.{file_view}
use Rattle.c_reader.proofs.Readings.{file_read, fault_read}
use Rattle.c_reader.proofs.reading.answer.Goals as goal

pub returns-in_err-keeps_form-clause-form : goal.returns-in_err-keeps_form-clause-form
returns-in_err-keeps_form-clause-form c = λ at e.
    fault_read c.args.bytes.now _ _ c.in_ok-parsed.ensures.spelled (file_view c.in_ok-raw.raw) c.in_ok-raw.ensures.raw at
    (c.in_err-keeps_form.ensures.form at (grind arith))

pub returns-clause-file : goal.returns-clause-file
returns-clause-file c =
    file_read c.args.bytes.now _ _ c.in_ok-parsed.ensures.spelled (file_view c.in_ok-raw.raw) c.in_ok-raw.ensures.raw c.in_ok-file.file
    c.in_ok-keeps_form.ensures.kept c.in_ok-file.ensures.file
