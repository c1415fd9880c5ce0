use Rattle.std.specs.Prelude.{◌++◌, ◌∷◌, [], map, Some, IsSome}
use Rattle.std.proofs.Common.{ap, sym, subst, ◌∙◌, arith}
use Rattle.std.proofs.lemmas.List.FromFn.{map-range_with_len_more}
use Rattle.va_sem.specs.Declarations.{analog_bodies}
use Rattle.va_sem.specs.rules.Biased.{analysis_of}
use Rattle.va_sem.specs.rules.BranchKinds.{kind_of}
use Rattle.va_sem.proofs.Walks.{map_append}
use Rattle.va_sem.proofs.surveys.surveyed_kinds.Goals as goal

pub known_kind-kind-requires : goal.known_kind-kind-requires
known_kind-kind-requires c = subst IsSome (sym (c.in_ok-facts.ensures c.loop-branch.branch)) (c.requires.kinds c.loop-branch.branch)

pub loop-branch-preserved : goal.loop-branch-preserved
loop-branch-preserved c =
    let kind = kind_of (analysis_of c.args.names.now (analog_bodies c.args.m.now)) in
    ap (map Some) c.in_ok-push.ensures.items
    ∙ map_append Some c.loop-branch.kinds.items (c.known_kind-kind.result ∷ [])
    ∙ (λ j. c.loop-branch.invariant j ++ (c.known_kind-kind.ensures ∙ c.in_ok-facts.ensures c.loop-branch.branch) j ∷ [])
    ∙ sym (map-range_with_len_more kind 0 c.loop-branch.branch c.loop-branch.branch (omega arith))
