use Rattle.std.proofs.Common.{refl, [], ◌∷◌}
use Rattle.va_build.specs.Reading.{row_symbols}
use Rattle.va_build.specs.SourceOf.{nature, discipline_of, module_of}
use Rattle.va_build.proofs.TopRows.{own_read, other_read}
use Rattle.va_build.proofs.DueRows.{no_other, node_left, one_due, taken}
use Rattle.va_build.proofs.read_source.declared_at_top.Goals as goal

pub returns-in_ok-push-in-3-clause-natures : goal.returns-in_ok-push-in-3-clause-natures
unfolding row_symbols
returns-in_ok-push-in-3-clause-natures c = own_read nature c.args.e.now _ _ _ _ 3 _ _ c.args.found.now.natures.items _ _ c.enter.ensures c.in-3.is refl c.in_ok-next-in-3.ensures.nature c.in_ok-push-in-3.ensures.items

pub returns-in_ok-push-in-3-clause-disciplines : goal.returns-in_ok-push-in-3-clause-disciplines
unfolding row_symbols
returns-in_ok-push-in-3-clause-disciplines c = other_read nature discipline_of c.args.e.now _ _ _ _ 3 _ _ c.args.found.now.disciplines.items _ _ c.enter.ensures c.in-3.is refl c.in_ok-next-in-3.ensures.nature c.in_ok-next-in-3.ensures.no_discipline refl

pub returns-in_ok-push-in-3-clause-modules : goal.returns-in_ok-push-in-3-clause-modules
unfolding row_symbols
returns-in_ok-push-in-3-clause-modules c = other_read nature module_of c.args.e.now _ _ _ _ 3 _ _ c.args.found.now.modules.items _ _ c.enter.ensures c.in-3.is refl c.in_ok-next-in-3.ensures.nature c.in_ok-next-in-3.ensures.no_module refl

pub returns-in_ok-push-in-4-clause-natures : goal.returns-in_ok-push-in-4-clause-natures
unfolding row_symbols
returns-in_ok-push-in-4-clause-natures c = other_read discipline_of nature c.args.e.now _ _ _ _ 4 _ _ c.args.found.now.natures.items _ _ c.enter.ensures c.in-4.is refl c.in_ok-next-in-4.ensures.discipline c.in_ok-next-in-4.ensures.no_nature refl

pub returns-in_ok-push-in-4-clause-disciplines : goal.returns-in_ok-push-in-4-clause-disciplines
unfolding row_symbols
returns-in_ok-push-in-4-clause-disciplines c = own_read discipline_of c.args.e.now _ _ _ _ 4 _ _ c.args.found.now.disciplines.items _ _ c.enter.ensures c.in-4.is refl c.in_ok-next-in-4.ensures.discipline c.in_ok-push-in-4.ensures.items

pub returns-in_ok-push-in-4-clause-modules : goal.returns-in_ok-push-in-4-clause-modules
unfolding row_symbols
returns-in_ok-push-in-4-clause-modules c = other_read discipline_of module_of c.args.e.now _ _ _ _ 4 _ _ c.args.found.now.modules.items _ _ c.enter.ensures c.in-4.is refl c.in_ok-next-in-4.ensures.discipline c.in_ok-next-in-4.ensures.no_module refl

pub returns-in_ok-push-in-5-clause-natures : goal.returns-in_ok-push-in-5-clause-natures
unfolding row_symbols
returns-in_ok-push-in-5-clause-natures c = other_read module_of nature c.args.e.now _ _ _ _ 5 _ _ c.args.found.now.natures.items _ _ c.enter.ensures c.in-5.is refl c.in_ok-next-in-5.ensures.module c.in_ok-next-in-5.ensures.no_nature refl

pub returns-in_ok-push-in-5-clause-disciplines : goal.returns-in_ok-push-in-5-clause-disciplines
unfolding row_symbols
returns-in_ok-push-in-5-clause-disciplines c = other_read module_of discipline_of c.args.e.now _ _ _ _ 5 _ _ c.args.found.now.disciplines.items _ _ c.enter.ensures c.in-5.is refl c.in_ok-next-in-5.ensures.module c.in_ok-next-in-5.ensures.no_discipline refl

pub returns-in_ok-push-in-5-clause-modules : goal.returns-in_ok-push-in-5-clause-modules
unfolding row_symbols
returns-in_ok-push-in-5-clause-modules c = own_read module_of c.args.e.now _ _ _ _ 5 _ _ c.args.found.now.modules.items _ _ c.enter.ensures c.in-5.is refl c.in_ok-next-in-5.ensures.module c.in_ok-push-in-5.ensures.items

pub enter-requires : goal.enter-requires
enter-requires c = node_left c.requires.due

pub nature-requires-clause-due : goal.nature-requires-clause-due
unfolding row_symbols
nature-requires-clause-due c = one_due (taken 3 c.requires.due c.enter.ensures c.in-3.is)

pub discipline_of-requires-clause-due : goal.discipline_of-requires-clause-due
unfolding row_symbols
discipline_of-requires-clause-due c = one_due (taken 4 c.requires.due c.enter.ensures c.in-4.is)

pub module_of-requires-clause-due : goal.module_of-requires-clause-due
unfolding row_symbols
module_of-requires-clause-due c = one_due (taken 5 c.requires.due c.enter.ensures c.in-5.is)

pub unreachable-requires : goal.unreachable-requires
unreachable-requires c = no_other (3 ∷ 4 ∷ 5 ∷ []) c.requires.due c.enter.ensures refl (c.in_default.in_default-own.rest.0.0.1, (c.in_default.in_default-own.rest.0.1, (c.in_default.in_default-own.rest.1, tt)))
