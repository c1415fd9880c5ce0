use Rattle.std.specs.Prelude.{length}
use Rattle.std.proofs.Common.{ap, Ok}
use Rattle.va_tree.proofs.OwnNames.{own_tokens}
use Rattle.va_build.proofs.OrderedText.{source_in_order}
use Rattle.va_build.proofs.TopItems.{faulty, same_fault, within}
use Rattle.va_build.proofs.source.build.Goals as goal

pub returns-in-Some-clause-fault : goal.returns-in-Some-clause-fault
returns-in-Some-clause-fault c = λ f eq. faulty c.args.e.now _ c.requires.parsed c.in-Some.fault f (c.in_ok-found.ensures.fault c.in-Some.fault (ap (λ x. Ok x) c.in-Some.is)) (same_fault _ _ eq)

pub returns-in_ok-source-in-None-clause-source : goal.returns-in_ok-source-in-None-clause-source
returns-in_ok-source-in-None-clause-source c = within c.args.e.now _ c.in_ok-source-in-None.ensures (c.in_ok-found.ensures.none (ap (λ x. Ok x) c.in-None.is))

pub returns-in_ok-source-in-None-clause-own_tokens : goal.returns-in_ok-source-in-None-clause-own_tokens
returns-in_ok-source-in-None-clause-own_tokens c = own_tokens c.in_ok-source-in-None.source (length c.args.e.now.tokens) (source_in_order c.args.e.now _ c.in_ok-source-in-None.ensures)

pub returns-in_ok-source-in-None-clause-text_order : goal.returns-in_ok-source-in-None-clause-text_order
returns-in_ok-source-in-None-clause-text_order c = source_in_order c.args.e.now _ c.in_ok-source-in-None.ensures
