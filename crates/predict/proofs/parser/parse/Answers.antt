use Rattle.std.proofs.Common.{◌≡◌, ℕ, ◌+◌, List, [], ◌∷◌, length, take, get_or, arith, refl, sym, ap, subst, length-append, Result, Err}
use Rattle.std.proofs.lemmas.List.{take_more, take_all}
use Rattle.predict.specs.declared.parser.ParseErr.{ParseErr}
use Rattle.predict.specs.declared.parser.ParseErr.TheVariants.{At}
use Rattle.predict.specs.declared.tree.ParseNode.{ParseNode}
use Rattle.predict.specs.Sentence.{IsParsed, IsFirstBad}
use Rattle.predict.proofs.Text.{begins, goes_on, first_bad, parsed, last_is, not_sentence}
use Rattle.predict.proofs.parser.parse.Goals as goal

same_at : (a b : ℕ) (r s : Result (List ParseNode) ParseErr) → r ≡ Err (At a) → s ≡ Err (At b) → r ≡ s → a ≡ b
same_at a b r s e f g = cc

pub loop-at-init : goal.loop-at-init
loop-at-init g c =
    let grammar = c.args.grammar.now in
    let stack = c.in_ok-parser.ensures.stack in
    record {
      reads = begins (g.G.Grammar.rules grammar) _ _ stack c.in_ok-parser.ensures.nodes;
      left = subst (g.G.Grammar.is_open grammar) (sym stack) (g.met.G.Grammar.no_dead_end grammar).starts;
      ended = λ e. absurd (omega (arith, ap length c.requires.1, length-append c.requires.0 ((g.G.Grammar.rules grammar).end_kind ∷ [])));
    }

-- the kind that is not taken is the first bad one
bad_here : (g : _) (c : goal.After-drop-parser-then-not-branch-2 g) → IsFirstBad (g.G.Grammar.rules c.args.grammar.now) c.args.kinds.now c.loop-at.at
bad_here g c =
    let grammar = c.args.grammar.now in
    let kinds = c.args.kinds.now in
    let at = c.loop-at.at in
    let known = c.loop-at.invariant in
    first_bad (g.G.Grammar.rules grammar) (g.G.Grammar.is_open grammar) (g.met.G.Grammar.no_dead_end grammar) kinds at (get_or kinds at 0) _ _ c.loop-at-test.true (take_more kinds at 0 c.loop-at-test.true) known.reads known.left
    (c.in_ok-take.ensures.refused c.if-not-branch.true)

pub returns-then-not-branch-clause-sentence : goal.returns-then-not-branch-clause-sentence
returns-then-not-branch-clause-sentence g c h = absurd (not_sentence (g.G.Grammar.rules c.args.grammar.now) c.args.kinds.now c.loop-at.at (bad_here g c) h)

pub returns-then-not-branch-clause-blamed : goal.returns-then-not-branch-clause-blamed
returns-then-not-branch-clause-blamed g c at e =
    subst (IsFirstBad (g.G.Grammar.rules c.args.grammar.now) c.args.kinds.now) (same_at c.loop-at.at at _ _ refl refl e) (bad_here g c)

pub loop-at-preserved : goal.loop-at-preserved
loop-at-preserved g c =
    let rules = g.G.Grammar.rules c.args.grammar.now in
    let kinds = c.args.kinds.now in
    let known = c.loop-at.invariant in
    let taken = c.in_ok-take.ensures in
    let was = c.if-not-branch.false in
    record {
      reads = goes_on rules (take c.loop-at.at kinds) (take (c.loop-at.at + 1) kinds) (get_or kinds c.loop-at.at 0) _ _ _ _ (take_more kinds c.loop-at.at 0 c.loop-at-test.true) known.reads (taken.taken was);
      left = taken.left was;
      ended = λ e. taken.ended was (last_is c.requires.0 kinds rules.end_kind c.loop-at.at c.requires.1 e);
    }

pub returns-clause-parsed : goal.returns-clause-parsed
returns-clause-parsed g c =
    let rules = g.G.Grammar.rules c.args.grammar.now in
    let kinds = c.args.kinds.now in
    let known = c.loop-at.invariant in
    let all_done : c.loop-at.at ≡ length kinds = omega arith in
    subst (IsParsed rules kinds) (sym c.into_tree.ensures) (parsed rules kinds (take c.loop-at.at kinds) _ _ (take_all c.loop-at.at kinds c.loop-at-test.false) (known.ended all_done) known.reads)
