use Rattle.std.specs.Prelude.{List, map, reverse, ◌++◌}
use Rattle.std.proofs.Common.{ap, sym, ◌∙◌}
use Rattle.va_grammar.specs.Parts.{symbol_of}
use Rattle.va_build.specs.SizeRows.{dues}
use Rattle.va_build.specs.SizeScan.{due_parts}
use Rattle.va_grammar.specs.declared.rows.Part.{Part}
use Rattle.va_build.specs.declared.size_rules.Due.{Due}
use Rattle.va_build.proofs.SizeScan.{dues_pushed}
use Rattle.va_build.proofs.size_scan.push_row.Goals as goal

pub returns-in_ok-push_parts : goal.returns-in_ok-push_parts
returns-in_ok-push_parts c =
    let old : List Due = reverse c.args.due.now.items in
    c.in_ok-push_parts.ensures
    ∙ ap (λ (l : List Due). due_parts c.args.below c.in-Some.front.now ++ l) c.in_ok-push_part.ensures
    ∙ dues_pushed c.in-Some.front.now c.in-Some.tail.now c.args.below c.args.last old
    ∙ ap (λ (ps : List Part). dues (map symbol_of ps) c.args.below c.args.last ++ old) (sym c.in-Some.ensures.cases.0)
