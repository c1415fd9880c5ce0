use Rattle.std.proofs.Common.{ap, arith, refl, sym, ◌∙◌, subst}
use Rattle.va_tree.specs.declared.source.Source.{Source}
use Rattle.va_build.specs.Reading.{first_tree, later_trees, trees_of}
use Rattle.va_build.specs.SourceOf.{source_of}
use Rattle.va_build.specs.Width.{width}
use Rattle.va_build.specs.SizeFaults.{IsFaultAt}
use Rattle.va_build.proofs.SizeFaults.{none_stands, least_stands, same_fault}
use Rattle.va_build.proofs.DueRows.{text_due, text_wide}
use Rattle.va_build.proofs.OrderedText.{source_in_order}
use Rattle.va_build.proofs.SizePlaces.{stands_below}
use Rattle.va_build.proofs.TopItems.{parsed_source}
use Rattle.va_build.proofs.TreesBack.{parsed_back}
use Rattle.va_build.proofs.SizeTrees.{parsed_derived, source_deep, source_names}
use Rattle.va_build.proofs.size.size_fault.Goals as goal

pub scan-requires-clause-derived : goal.scan-requires-clause-derived
scan-requires-clause-derived c = (parsed_derived _ c.args.tree.now c.nodes.result.now c.requires.parsed c.nodes.ensures, tt)

pub scan-requires-clause-whole : goal.scan-requires-clause-whole
scan-requires-clause-whole c = ap (λ ns. later_trees (trees_of ns)) c.nodes.ensures ∙ ap later_trees (parsed_back _ c.args.tree.now c.requires.parsed)

pub scan-requires-clause-fits : goal.scan-requires-clause-fits
scan-requires-clause-fits c =
    let d = text_due c.args.e.now c.args.tree.now c.requires.expanded c.requires.parsed (record { nodes = c.nodes.result.now; at = 0 }) c.nodes.ensures refl in
    omega (arith, d.fits)

pub returns-in-None-clause-none : goal.returns-in-None-clause-none
returns-in-None-clause-none c = λ eq s is.
    none_stands c.args.e.now s c.in_ok-found.found.deep c.first_long-long.result c.in_ok-found.found.extra
    (source_deep c.args.e.now s c.args.tree.now c.nodes.result.now c.in_ok-found.found.deep c.requires.parsed c.nodes.ensures is (c.in_ok-found.ensures.deep c.args.e.now))
    c.first_long-long.ensures
    (source_names c.args.e.now s c.args.tree.now c.nodes.result.now c.in_ok-found.found.extra c.requires.parsed c.nodes.ensures is (c.in_ok-found.ensures.extra c.args.e.now))
    (sym c.earliest-first.ensures ∙ c.in-None.is)

pub fault_at-fault-requires : goal.fault_at-fault-requires
fault_at-fault-requires c =
    let p = c.requires.parsed in
    let s : Source = source_of c.args.e.now p.tree in
    let is = parsed_source c.args.e.now c.args.tree.now p in
    stands_below c.args.e.now s (width (first_tree (trees_of c.nodes.result.now))) c.in_ok-found.found.deep c.first_long-long.result c.in_ok-found.found.extra c.in-Some.stands
    (text_wide c.args.e.now c.args.tree.now c.nodes.result.now p c.nodes.ensures)
    c.in_ok-found.ensures.within
    c.first_long-long.ensures
    (source_names c.args.e.now s c.args.tree.now c.nodes.result.now c.in_ok-found.found.extra p c.nodes.ensures is (c.in_ok-found.ensures.extra c.args.e.now))
    (source_in_order c.args.e.now s is)
    (sym c.earliest-first.ensures ∙ c.in-Some.is)

pub returns-in-Some-clause-fault : goal.returns-in-Some-clause-fault
returns-in-Some-clause-fault c = λ f eq s is.
    least_stands c.args.e.now s c.in_ok-found.found.deep c.first_long-long.result c.in_ok-found.found.extra c.in-Some.stands f
    (source_deep c.args.e.now s c.args.tree.now c.nodes.result.now c.in_ok-found.found.deep c.requires.parsed c.nodes.ensures is (c.in_ok-found.ensures.deep c.args.e.now))
    c.first_long-long.ensures
    (source_names c.args.e.now s c.args.tree.now c.nodes.result.now c.in_ok-found.found.extra c.requires.parsed c.nodes.ensures is (c.in_ok-found.ensures.extra c.args.e.now))
    (sym c.earliest-first.ensures ∙ c.in-Some.is)
    (subst (IsFaultAt c.args.e.now c.in-Some.stands) (same_fault c.fault_at-fault.result f eq) c.fault_at-fault.ensures)
