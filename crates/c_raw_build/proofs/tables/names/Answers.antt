use Rattle.std.proofs.Common.{arith, refl, subst, [], ◌∷◌}
use Rattle.c_raw_build.specs.RawTables.{more_strings}
use Rattle.c_raw_build.specs.Reading.{row_symbols, Reads}
use Rattle.c_raw_build.specs.TableParts.{names_from}
use Rattle.c_raw_build.proofs.TakenRows.{ends, goes_on, map_same}
use Rattle.c_raw_build.proofs.DueRows.{no_other, node_left, room}
use Rattle.c_raw_build.proofs.DueTokens.{ahead, due, passed, taken, token_due}
use Rattle.c_raw_build.proofs.tables.names.Goals as goal

pub loop-reader-preserved : goal.loop-reader-preserved
unfolding row_symbols more_strings
loop-reader-preserved c = record {
  read = goes_on (λ x. x) (more_strings c.args.text.now) _ _ _ _ _ _ _ _ _ 133 c.loop-reader.invariant.read c.row.ensures c.in-133.is refl c.in_ok-push-in-133.ensures.items (grind arith) (grind arith) (grind arith) (grind arith) (grind arith) (grind arith);
  due = due (passed 1 (passed 1 (taken 133 c.loop-reader.invariant.due c.row.ensures c.in-133.is) c.pass.ensures refl) c.pass-in-133.ensures refl) refl;
}

pub returns-in-134 : goal.returns-in-134
unfolding row_symbols more_strings
returns-in-134 c =
    subst (Reads (names_from c.args.text.now c.args.first) c.args.reader.now c.row.new.self) (map_same c.loop-reader.list.items)
    (ends (more_strings c.args.text.now) _ _ _ _ _ _ 134 c.loop-reader.invariant.read c.row.ensures c.in-134.is refl (grind arith) (grind arith) (grind arith))

pub string-requires : goal.string-requires
string-requires c = c.requires.own

pub row-requires : goal.row-requires
row-requires c = node_left (ahead c.loop-reader.invariant.due)

pub pass-requires : goal.pass-requires
unfolding row_symbols
pass-requires c = room 1 (taken 133 c.loop-reader.invariant.due c.row.ensures c.in-133.is).due refl

pub string-requires-in-133 : goal.string-requires-in-133
unfolding row_symbols
string-requires-in-133 c = token_due (passed 1 (taken 133 c.loop-reader.invariant.due c.row.ensures c.in-133.is) c.pass.ensures refl) c.at.ensures refl

pub pass-requires-in-133 : goal.pass-requires-in-133
unfolding row_symbols
pass-requires-in-133 c = room 1 (passed 1 (taken 133 c.loop-reader.invariant.due c.row.ensures c.in-133.is) c.pass.ensures refl).due refl

pub unreachable-requires : goal.unreachable-requires
unfolding row_symbols
unreachable-requires c = no_other (133 ∷ 134 ∷ []) (ahead c.loop-reader.invariant.due) c.row.ensures refl (c.in_default.in_default-own.rest.0.1, (c.in_default.in_default-own.rest.1, tt))
