use Rattle.c_reader.proofs.Readings.{answered}
use Rattle.c_reader.proofs.reading.read.Goals as goal

pub returns-clause-complete : goal.returns-clause-complete
returns-clause-complete c = λ r is.
    let found = c.answer-answer.ensures in
    answered c.args.bytes.now r c.answer-answer.result found.file found.bad found.syntax found.form is
