-- From what was found at the top of a text to the source that the text stands for, or to its fault of size.
use Rattle.std.specs.Prelude.{◌≡◌, List, [], ◌++◌, Result, Err, refl}
use Rattle.std.proofs.Common.{ap, sym, ◌∙◌, subst}
use Rattle.predict.specs.declared.tree.ParseNode.{ParseNode}
use Rattle.predict.specs.Sentence.{IsParsed}
use Rattle.va_base.specs.declared.expanded.Expanded.{Expanded}
use Rattle.va_base.specs.declared.fault.Fault.{Fault}
use Rattle.va_tree.specs.declared.source.Source.{Source}
use Rattle.va_tree.specs.Size.{LeastSizeFault, IsWithinSize}
use Rattle.va_build.specs.declared.source.TreeErr.{TreeErr}
use Rattle.va_build.specs.declared.source.TreeErr.TheVariants as refusal
use Rattle.va_grammar.specs.Kinds.{kinds_of}
use Rattle.va_build.specs.Reading.{trees_of, first_tree}
use Rattle.va_grammar.specs.Sets.{va_rules}
use Rattle.va_build.specs.SourceOf.{IsSourceOf, IsSourceFaulty, IsSourceWithinSize, source_of, all_of_sort, nature, discipline_of, module_of}
use Rattle.va_build.proofs.TakenRows.{nothing_behind}
use Rattle.va_build.proofs.TreesBack.{parsed_back}

-- nothing of this sort was found
pub none_found : {X : Type 0} (old new one : List X) → new ≡ old → one ≡ [] → new ≡ old ++ one
none_found {X} old new one p q = p ∙ nothing_behind old ∙ sym (ap (λ (l : List X). old ++ l) q)

-- the source that the parse tree of a text stands for
pub parsed_source : (e : Expanded) (all : List ParseNode) (p : IsParsed va_rules (kinds_of e) all) → IsSourceOf e (source_of e p.tree)
parsed_source e all p = record { tree = p.tree; sentence = p.sentence; only = p.only; source = refl }

-- what was read of the nodes of a text is its source
pub read_source : (e : Expanded) (all : List ParseNode) (p : IsParsed va_rules (kinds_of e) all) (s : Source)
    → s.natures ≡ all_of_sort nature e 0 (first_tree (trees_of all))
    → s.disciplines ≡ all_of_sort discipline_of e 0 (first_tree (trees_of all))
    → s.modules ≡ all_of_sort module_of e 0 (first_tree (trees_of all))
    → IsSourceOf e s
read_source e all p s natures disciplines modules =
    let one : first_tree (trees_of all) ≡ p.tree = ap first_tree (parsed_back (kinds_of e) all p) in
    let whole : s ≡ source_of e (first_tree (trees_of all)) = λ j. record { natures = natures j; disciplines = disciplines j; modules = modules j } in
    record { tree = p.tree; sentence = p.sentence; only = p.only; source = whole ∙ ap (source_of e) one }

-- the fault that was found is the one that is answered
pub faulty : (e : Expanded) (all : List ParseNode) (p : IsParsed va_rules (kinds_of e) all) (found f : Fault)
    → ((s : Source) → IsSourceOf e s → LeastSizeFault e s found)
    → f ≡ found
    → IsSourceFaulty e f
faulty e all p found f least is = record {
  faulty = source_of e p.tree;
  source = parsed_source e all p;
  least = subst (LeastSizeFault e (source_of e p.tree)) (sym is) (least (source_of e p.tree) (parsed_source e all p));
}

-- no fault of size stands in the source that was read
pub within : (e : Expanded) (s : Source) → IsSourceOf e s → ((s : Source) → IsSourceOf e s → IsWithinSize e s) → IsSourceWithinSize e s
within e s is none = record { source = is; within = none s is }

-- the fault that is answered
pub same_fault : (a b : Fault) → (let r : Result Source TreeErr = Err (refusal.Fault a) in r) ≡ Err (refusal.Fault b) → b ≡ a
same_fault a b e = cc
