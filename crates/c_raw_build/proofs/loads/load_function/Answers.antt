use Rattle.std.proofs.Common.{arith, map, refl, [], ◌∷◌}
use Rattle.c_raw_build.specs.Reading.{ReadsSecond, row_symbols}
use Rattle.c_raw_build.specs.RawTables.{load_function, load_statements}
use Rattle.std.proofs.lemmas.Result.{IfOk-weaker}
use Rattle.c_raw.specs.Views.{load_view}
use Rattle.c_raw_build.proofs.TakenRows.{read}
use Rattle.c_raw_build.proofs.DueRows.{no_other, node_left, room}
use Rattle.c_raw_build.proofs.DueTokens.{ahead, passed, taken}
use Rattle.c_raw_build.proofs.loads.load_function.Goals as goal

pub returns-in-90 : goal.returns-in-90
unfolding row_symbols load_function
returns-in-90 c =
    IfOk-weaker c.load_body.result (λ list. ReadsSecond (load_statements c.args.text.now) c.pass.new.self c.load_body.new.reader (map load_view list.items)) _
    (λ list body. read (load_function c.args.text.now) _ _ _ _ 90 _ c.row.ensures c.in-90.is (grind arith) (grind arith) (grind arith) (grind arith)) c.load_body.ensures

pub returns-in-91 : goal.returns-in-91
unfolding row_symbols load_function
returns-in-91 c =
    IfOk-weaker c.load_body-in-91.result (λ list. ReadsSecond (load_statements c.args.text.now) c.pass-in-91.new.self c.load_body-in-91.new.reader (map load_view list.items)) _
    (λ list body. read (load_function c.args.text.now) _ _ _ _ 91 _ c.row.ensures c.in-91.is (grind arith) (grind arith) (grind arith) (grind arith)) c.load_body-in-91.ensures

pub returns-in-92 : goal.returns-in-92
unfolding row_symbols load_function
returns-in-92 c =
    IfOk-weaker c.load_body-in-92.result (λ list. ReadsSecond (load_statements c.args.text.now) c.pass-in-92.new.self c.load_body-in-92.new.reader (map load_view list.items)) _
    (λ list body. read (load_function c.args.text.now) _ _ _ _ 92 _ c.row.ensures c.in-92.is (grind arith) (grind arith) (grind arith) (grind arith)) c.load_body-in-92.ensures

pub returns-in-93 : goal.returns-in-93
unfolding row_symbols load_function
returns-in-93 c =
    IfOk-weaker c.load_body-in-93.result (λ list. ReadsSecond (load_statements c.args.text.now) c.pass-in-93.new.self c.load_body-in-93.new.reader (map load_view list.items)) _
    (λ list body. read (load_function c.args.text.now) _ _ _ _ 93 _ c.row.ensures c.in-93.is (grind arith) (grind arith) (grind arith) (grind arith)) c.load_body-in-93.ensures

pub returns-in-94 : goal.returns-in-94
unfolding row_symbols load_function
returns-in-94 c =
    IfOk-weaker c.load_body-in-94.result (λ list. ReadsSecond (load_statements c.args.text.now) c.pass-in-94.new.self c.load_body-in-94.new.reader (map load_view list.items)) _
    (λ list body. read (load_function c.args.text.now) _ _ _ _ 94 _ c.row.ensures c.in-94.is (grind arith) (grind arith) (grind arith) (grind arith)) c.load_body-in-94.ensures

pub returns-in-95 : goal.returns-in-95
unfolding row_symbols load_function
returns-in-95 c =
    IfOk-weaker c.load_body-in-95.result (λ list. ReadsSecond (load_statements c.args.text.now) c.pass-in-95.new.self c.load_body-in-95.new.reader (map load_view list.items)) _
    (λ list body. read (load_function c.args.text.now) _ _ _ _ 95 _ c.row.ensures c.in-95.is (grind arith) (grind arith) (grind arith) (grind arith)) c.load_body-in-95.ensures

pub returns-in-96 : goal.returns-in-96
unfolding row_symbols load_function
returns-in-96 c =
    IfOk-weaker c.load_body-in-96.result (λ list. ReadsSecond (load_statements c.args.text.now) c.pass-in-96.new.self c.load_body-in-96.new.reader (map load_view list.items)) _
    (λ list body. read (load_function c.args.text.now) _ _ _ _ 96 _ c.row.ensures c.in-96.is (grind arith) (grind arith) (grind arith) (grind arith)) c.load_body-in-96.ensures

pub row-requires : goal.row-requires
row-requires c = node_left (ahead c.requires)

pub pass-requires : goal.pass-requires
unfolding row_symbols
pass-requires c = room 17 (taken 90 c.requires c.row.ensures c.in-90.is).due refl

pub load_body-requires : goal.load_body-requires
unfolding row_symbols
load_body-requires c = passed 17 (taken 90 c.requires c.row.ensures c.in-90.is) c.pass.ensures refl

pub pass-requires-in-91 : goal.pass-requires-in-91
unfolding row_symbols
pass-requires-in-91 c = room 17 (taken 91 c.requires c.row.ensures c.in-91.is).due refl

pub load_body-requires-in-91 : goal.load_body-requires-in-91
unfolding row_symbols
load_body-requires-in-91 c = passed 17 (taken 91 c.requires c.row.ensures c.in-91.is) c.pass-in-91.ensures refl

pub pass-requires-in-92 : goal.pass-requires-in-92
unfolding row_symbols
pass-requires-in-92 c = room 13 (taken 92 c.requires c.row.ensures c.in-92.is).due refl

pub load_body-requires-in-92 : goal.load_body-requires-in-92
unfolding row_symbols
load_body-requires-in-92 c = passed 13 (taken 92 c.requires c.row.ensures c.in-92.is) c.pass-in-92.ensures refl

pub pass-requires-in-93 : goal.pass-requires-in-93
unfolding row_symbols
pass-requires-in-93 c = room 16 (taken 93 c.requires c.row.ensures c.in-93.is).due refl

pub load_body-requires-in-93 : goal.load_body-requires-in-93
unfolding row_symbols
load_body-requires-in-93 c = passed 16 (taken 93 c.requires c.row.ensures c.in-93.is) c.pass-in-93.ensures refl

pub pass-requires-in-94 : goal.pass-requires-in-94
unfolding row_symbols
pass-requires-in-94 c = room 16 (taken 94 c.requires c.row.ensures c.in-94.is).due refl

pub load_body-requires-in-94 : goal.load_body-requires-in-94
unfolding row_symbols
load_body-requires-in-94 c = passed 16 (taken 94 c.requires c.row.ensures c.in-94.is) c.pass-in-94.ensures refl

pub pass-requires-in-95 : goal.pass-requires-in-95
unfolding row_symbols
pass-requires-in-95 c = room 21 (taken 95 c.requires c.row.ensures c.in-95.is).due refl

pub load_body-requires-in-95 : goal.load_body-requires-in-95
unfolding row_symbols
load_body-requires-in-95 c = passed 21 (taken 95 c.requires c.row.ensures c.in-95.is) c.pass-in-95.ensures refl

pub pass-requires-in-96 : goal.pass-requires-in-96
unfolding row_symbols
pass-requires-in-96 c = room 24 (taken 96 c.requires c.row.ensures c.in-96.is).due refl

pub load_body-requires-in-96 : goal.load_body-requires-in-96
unfolding row_symbols
load_body-requires-in-96 c = passed 24 (taken 96 c.requires c.row.ensures c.in-96.is) c.pass-in-96.ensures refl

pub unreachable-requires : goal.unreachable-requires
unfolding row_symbols
unreachable-requires c = no_other (90 ∷ 91 ∷ 92 ∷ 93 ∷ 94 ∷ 95 ∷ 96 ∷ []) (ahead c.requires) c.row.ensures refl (c.in_default.in_default-own.rest.0.0.0.0.0.0.1, (c.in_default.in_default-own.rest.0.0.0.0.0.1, (c.in_default.in_default-own.rest.0.0.0.0.1, (c.in_default.in_default-own.rest.0.0.0.1, (c.in_default.in_default-own.rest.0.0.1, (c.in_default.in_default-own.rest.0.1, (c.in_default.in_default-own.rest.1, tt)))))))
