use Rattle.std.specs.Prelude.{◌≡◌, true, []}
use Rattle.std.proofs.Common.{sym, ◌∙◌, subst}
use Rattle.predict.specs.Table.{is_among}
use Rattle.va_build.specs.Due.{tail_rows}
use Rattle.va_build.specs.Reading.{row_symbols, IsTailRow}
use Rattle.va_build.proofs.DueRows.{entered, node_left}
use Rattle.va_build.proofs.OperandsDue.{tail_next}
use Rattle.va_build.proofs.reader.Reader.take_end.Goals as goal

pub peek-requires : goal.peek-requires
peek-requires c = node_left c.requires.2

pub tail_row-requires : goal.tail_row-requires
tail_row-requires c = subst (λ i. is_among tail_rows i ≡ true) (sym c.peek.ensures) (tail_next c.requires)

pub enter-requires : goal.enter-requires
enter-requires c = node_left c.requires.2

pub returns-in-End : goal.returns-in-End
returns-in-End c = (_, subst (λ i. row_symbols i ≡ []) (c.peek.ensures ∙ sym (entered c.enter.ensures)) (subst (IsTailRow _) c.in-End.is c.tail_row.ensures), c.enter.ensures)
