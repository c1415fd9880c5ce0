use Rattle.std.proofs.Common.{sym, arith, inl, inr}
use Rattle.va_build.proofs.SizeDeepRow.{no_deep_row, one_deep_row}
use Rattle.va_build.proofs.size_rules.row_deep.Goals as goal

pub returns-then-depth-gt-TOO_DEEP : goal.returns-then-depth-gt-TOO_DEEP
returns-then-depth-gt-TOO_DEEP c = sym (no_deep_row c.args.at c.args.depth c.args.count (inr (omega (arith, c.if-depth-gt-TOO_DEEP.true))))

pub returns-then-count-depth : goal.returns-then-count-depth
returns-then-count-depth c = sym (one_deep_row c.args.at c.args.depth c.args.count (omega (arith, c.if-depth-gt-TOO_DEEP.false)) (omega (arith, c.if-depth-gt-TOO_DEEP.false, c.if-count-depth.true)))

pub returns-else-count-depth : goal.returns-else-count-depth
returns-else-count-depth c = sym (no_deep_row c.args.at c.args.depth c.args.count (inl (omega (arith, c.if-depth-gt-TOO_DEEP.false, c.if-count-depth.false))))
