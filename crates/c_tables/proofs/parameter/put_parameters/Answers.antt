use Rattle.std.proofs.Common.{arith}
use Rattle.va_base.specs.Tables.{parameter_text}
use Rattle.c_tree.specs.TablesOf.{parameter_line}
use Rattle.c_tables.proofs.Printing.{prints_numbered, prints_last_numbered}
use Rattle.c_tables.proofs.parameter.put_parameters.Goals as goal

pub loop-id-preserved : goal.loop-id-preserved
loop-id-preserved c = λ new more.
    c.loop-id.invariant new
    (prints_numbered parameter_line parameter_text _ _ new c.args.rows.now c.loop-id.id c.index-rows-id.result (omega arith) c.index-rows-id.is c.in_ok-put_parameter.ensures more)

pub returns : goal.returns
returns c = c.loop-id.invariant _ (prints_last_numbered parameter_line parameter_text _ c.args.rows.now c.loop-id.id (omega arith))
