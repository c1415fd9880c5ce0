use Rattle.std.specs.Prelude.{List, map, drop, get_or, reverse}
use Rattle.std.proofs.Common.{ap, sym, ◌∙◌, ◌-◌, arith}
use Rattle.std.proofs.lemmas.Option.{slice_get-get_or}
use Rattle.predict.specs.declared.tree.ParseNode.{ParseNode}
use Rattle.va_build.specs.Reading.{trees_of}
use Rattle.va_build.specs.SizeLinks.{tail_of}
use Rattle.va_build.specs.SizeRows.{links_of}
use Rattle.va_build.proofs.SizeLinks.{joined_tails, joined_links, from_one}
use Rattle.va_build.proofs.size_links.tree_links.Goals as goal

pub loop-i-preserved : goal.loop-i-preserved
loop-i-preserved c =
    let nodes : List ParseNode = c.args.nodes.now in
    let i = c.loop-i.i in
    let none : ParseNode = record { row = 0; children = 0 } in
    let n : ParseNode = get_or nodes (i - 1) none in
    let more = from_one nodes i (i - 1) n (slice_get-get_or nodes (i - 1) none (omega (arith, c.loop-i-test.true, c.loop-i.auto.i))) (omega (arith, c.loop-i-test.true)) in
    record {
      tails = c.in_ok-join.ensures.tails ∙ joined_tails n (drop i nodes) (reverse c.loop-i.tails.items) c.loop-i.invariant.tails ∙ ap (λ (ns : List ParseNode). map tail_of (trees_of ns)) (sym more);
      links = c.in_ok-join.ensures.links ∙ joined_links n (drop i nodes) (reverse c.loop-i.tails.items) (reverse c.loop-i.links.items) c.loop-i.invariant.tails c.loop-i.invariant.links ∙ ap links_of (sym more);
    }
