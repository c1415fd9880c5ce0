use Rattle.c_reader.proofs.Exists.{some_reading}
use Rattle.c_reader.proofs.Readings.{one_reading}
use Rattle.c_reader.proofs.laws.one_reading.Goals as goal

pub returns : goal.returns
returns c = λ text. record { some = some_reading text; one = one_reading text }
