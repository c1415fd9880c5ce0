use Rattle.std.proofs.Common.{rules, ◌≡◌, ◌<◌, ◌+◌, ◌-◌, length, arith, get_or, refl}
use Rattle.graphs.proofs.Walking.{walk_next, walk_finish, walk_below, rows_of, mark_same}
use Rattle.graphs.proofs.depth.advance.Goals as goal

pub bounds-left-node : goal.bounds-left-node
bounds-left-node c =
    let b : c.args.node < length c.args.seen.now = walk_below _ _ _ _ _ _ _ _ c.requires.walks in
    omega (arith, c.requires.walks.left_len)

pub offset_bounds-left-node : goal.offset_bounds-left-node
offset_bounds-left-node c =
    let b : c.args.node < length c.args.seen.now = walk_below _ _ _ _ _ _ _ _ c.requires.walks in
    let d : c.args.node < length c.args.left.now = omega (arith, c.requires.walks.left_len) in
    search rules

pub returns-then-remaining-eq0-clause-walks : goal.returns-then-remaining-eq0-clause-walks
returns-then-remaining-eq0-clause-walks c = walk_finish _ _ _ _ _ _ _ _ _ c.requires.walks (search rules) c.in_ok-push.ensures.items

pub returns-clause-walks : goal.returns-clause-walks
returns-clause-walks c =
    let q : get_or c.args.left.now c.args.node 0 ≡ get_or c.args.left.now c.args.node 0 - 1 + 1 = omega arith in
    walk_next _ _ _ _ _ _ _ _ _ _ _ _ c.args.node (get_or c.args.left.now c.args.node 0 - 1) _ (rows_of _ _ _ _ _ c.requires.rows) c.requires.walks q
    c.row.ensures.value refl c.in_ok-push-2.ensures.items c.in_ok-mark.ensures.marked refl c.in_ok-mark.ensures.work

pub returns-clause-kept : goal.returns-clause-kept
returns-clause-kept c = λ z h. mark_same _ _ _ z c.in_ok-mark.ensures.marked h
