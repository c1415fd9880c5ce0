use Rattle.std.proofs.Common.{refl, rules, subst, sym, arith, List, ℕ, ◌≡◌, [], ◌∷◌, ◌++◌}
use Rattle.c_raw_build.specs.BodyDue.{behind_blocks, left_of_body}
use Rattle.c_raw_build.specs.Due.{AreDueIn}
use Rattle.c_raw_build.specs.Reading.{row_symbols}
use Rattle.c_raw_build.specs.Steps.{BodyOn, innermost_first}
use Rattle.c_raw_build.proofs.BodyDue.{alone_due, block_passed, block_room, taken_before}
use Rattle.c_raw_build.proofs.DueRows.{no_other, node_left}
use Rattle.c_raw_build.proofs.DueTokens.{ahead, due}
use Rattle.c_raw_build.proofs.Statements.{statement_read, block_ended, body_ended, innermost_push}
use Rattle.c_raw_build.proofs.bodies.statements.Goals as goal

pub loop-reader-init : goal.loop-reader-init
loop-reader-init c =
    let none : c.new-between.result.items ≡ [] = search rules in
    record {
      read = search rules;
      due = subst (λ (l : List ℕ). AreDueIn c.args.text.now (left_of_body (innermost_first l)) c.args.reader.now) (sym none) (alone_due 22 c.requires);
    }

pub row-requires : goal.row-requires
row-requires c = node_left (ahead (due {lefts = 22 ∷ []} c.loop-reader.invariant.due refl))

pub head-requires : goal.head-requires
unfolding row_symbols
head-requires c = due (taken_before 22 33 c.loop-reader.invariant.due c.row.ensures c.in-33.is) refl

pub loop-reader-preserved-in-Continue-branch-3 : goal.loop-reader-preserved-in-Continue-branch-3
unfolding row_symbols
loop-reader-preserved-in-Continue-branch-3 c =
    let on = statement_read c.args.text.now _ _ _ _ _ _ _ c.in_ok-next-in-33.next _ c.loop-reader.invariant.read c.row.ensures c.in-33.is c.in_ok-next-in-33.ensures.read c.in_ok-push-in-33.ensures.items in
    let rest = c.in_ok-next-in-33.ensures.due (innermost_first c.loop-reader.between.items) (taken_before 22 33 c.loop-reader.invariant.due c.row.ensures c.in-33.is) in
    record {
      read = subst (λ (blocks : List ℕ). BodyOn c.args.text.now c.args.reader.now c.head.new.reader c.push.new.self.items blocks) (sym c.in_ok-open_blocks-in-33.ensures) on;
      due = subst (λ (blocks : List ℕ). AreDueIn c.args.text.now (left_of_body blocks) c.head.new.reader) (sym c.in_ok-open_blocks-in-33.ensures) rest;
    }

pub returns-in-None : goal.returns-in-None
returns-in-None c =
    let none : c.loop-reader.between.items ≡ [] = grind arith in
    let on = subst (λ (l : List ℕ). BodyOn c.args.text.now c.args.reader.now c.loop-reader.reader c.loop-reader.list.items (innermost_first l)) none c.loop-reader.invariant.read in
    body_ended c.args.text.now _ _ _ _ _ on c.row.ensures c.in-34.is

pub pass-requires : goal.pass-requires
unfolding row_symbols
pass-requires c =
    let before : c.loop-reader.between.items ≡ c.pop.new.self.items ++ c.in-Some.count ∷ [] = grind arith in
    let ended = taken_before 22 34 c.loop-reader.invariant.due c.row.ensures c.in-34.is in
    let behind = subst (λ (l : List ℕ). AreDueIn c.args.text.now (behind_blocks l) c.row.new.self) (innermost_push _ _ _ before) ended in
    block_room c.in-Some.count (innermost_first c.pop.new.self.items) behind

pub loop-reader-preserved : goal.loop-reader-preserved
unfolding row_symbols
loop-reader-preserved c =
    let before : c.loop-reader.between.items ≡ c.pop.new.self.items ++ c.in-Some.count ∷ [] = grind arith in
    let on = subst (λ (l : List ℕ). BodyOn c.args.text.now c.args.reader.now c.loop-reader.reader c.loop-reader.list.items l) (innermost_push _ _ _ before) c.loop-reader.invariant.read in
    let ended = taken_before 22 34 c.loop-reader.invariant.due c.row.ensures c.in-34.is in
    let behind = subst (λ (l : List ℕ). AreDueIn c.args.text.now (behind_blocks l) c.row.new.self) (innermost_push _ _ _ before) ended in
    record {
      read = block_ended c.args.text.now _ _ c.row.new.self _ _ _ _ _ _ on c.row.ensures c.in-34.is (grind arith) c.pass.ensures;
      due = block_passed c.in-Some.count (innermost_first c.pop.new.self.items) behind c.pass.ensures;
    }

pub unreachable-requires : goal.unreachable-requires
unreachable-requires c = no_other (33 ∷ 34 ∷ []) (ahead (due {lefts = 22 ∷ []} c.loop-reader.invariant.due refl)) c.row.ensures refl (c.in_default.in_default-own.rest.0.1, (c.in_default.in_default-own.rest.1, tt))
