use Rattle.std.specs.Prelude.{◌++◌, ◌∷◌, [], map, List}
use Rattle.std.specs.List.{range_with_len}
use Rattle.std.proofs.Common.{ap, sym, ◌∙◌, arith}
use Rattle.std.proofs.lemmas.List.{append_assoc}
use Rattle.std.proofs.lemmas.List.FromFn.{map-range_with_len_more}
use Rattle.va_sem.specs.declared.branch.Unknown.{Unknown}
use Rattle.va_sem.specs.declared.branch.Unknown.TheVariants.{Node}
use Rattle.va_sem.proofs.surveys.add_nodes.Goals as goal

pub loop-node-preserved : goal.loop-node-preserved
loop-node-preserved c =
    c.in_ok-push.ensures.items
    ∙ ap (λ (list : List Unknown). list ++ Node c.loop-node.node ∷ []) c.loop-node.invariant
    ∙ append_assoc c.args.list.now.items (map Node (range_with_len 0 c.loop-node.node)) (Node c.loop-node.node ∷ [])
    ∙ ap (λ (list : List Unknown). c.args.list.now.items ++ list) (sym (map-range_with_len_more Node 0 c.loop-node.node c.loop-node.node (omega arith)))
