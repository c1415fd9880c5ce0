use Rattle.va_command.proofs.Fronts.{size_front}
use Rattle.va_command.proofs.front.source_of_tree.Goals as goal

pub returns-in-Err-Fault-clause-refused : goal.returns-in-Err-Fault-clause-refused
returns-in-Err-Fault-clause-refused c =
    size_front c.args.e.now c.in-Err-Fault.fault (c.in-Err-Fault.ensures.fault c.in-Err-Fault.fault (cc (c.in-Err-Fault.field-0-is)))
