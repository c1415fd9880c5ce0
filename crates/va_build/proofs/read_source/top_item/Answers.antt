use Rattle.std.proofs.Common.{refl}
use Rattle.va_build.specs.SourceOf.{nature, discipline_of, module_of}
use Rattle.va_build.proofs.TopRows.{top_read}
use Rattle.va_build.specs.Reading.{row_symbols}
use Rattle.va_build.proofs.DueRows.{behind, node_left, one_due, only, taken_only}
use Rattle.va_build.proofs.read_source.top_item.Goals as goal

pub returns-clause-natures : goal.returns-clause-natures
returns-clause-natures c = top_read nature c.args.e.now _ _ _ _ _ _ c.args.found.now.natures.items _ c.enter.ensures (only 2 c.requires.due c.enter.ensures refl) c.in_ok-attributes.ensures c.in_ok-declared_at_top.ensures.natures

pub returns-clause-disciplines : goal.returns-clause-disciplines
returns-clause-disciplines c = top_read discipline_of c.args.e.now _ _ _ _ _ _ c.args.found.now.disciplines.items _ c.enter.ensures (only 2 c.requires.due c.enter.ensures refl) c.in_ok-attributes.ensures c.in_ok-declared_at_top.ensures.disciplines

pub returns-clause-modules : goal.returns-clause-modules
returns-clause-modules c = top_read module_of c.args.e.now _ _ _ _ _ _ c.args.found.now.modules.items _ c.enter.ensures (only 2 c.requires.due c.enter.ensures refl) c.in_ok-attributes.ensures c.in_ok-declared_at_top.ensures.modules

pub enter-requires : goal.enter-requires
enter-requires c = node_left c.requires.due

pub attribute_groups-requires-clause-due : goal.attribute_groups-requires-clause-due
unfolding row_symbols
attribute_groups-requires-clause-due c = one_due (taken_only 2 c.requires.due c.enter.ensures refl)

pub declared_at_top-requires-clause-due : goal.declared_at_top-requires-clause-due
unfolding row_symbols
declared_at_top-requires-clause-due c = one_due (behind (taken_only 2 c.requires.due c.enter.ensures refl) c.in_ok-attributes.ensures)
