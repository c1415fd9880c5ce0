use Rattle.std.specs.Prelude.{not, [], ◌&&◌}
use Rattle.std.proofs.Common.{ap, sym, subst, ◌∙◌}
use Rattle.va_base.specs.declared.fault.FaultCode.TheVariants.{ArgumentCount}
use Rattle.va_tree.specs.Expressions.{arguments_of}
use Rattle.va_sem.specs.Builtins.{taken_at}
use Rattle.va_sem.specs.NamesFaults.{fault_if}
use Rattle.va_sem.specs.Typing.{call_takes, argument_count}
use Rattle.va_sem.specs.TypesFaults.{kind_faults}
use Rattle.va_types.specs.Found.{Finds}
use Rattle.va_types.proofs.Finding.{finds_then}
use Rattle.va_types.proofs.FittingKinds.{counted}
use Rattle.va_types.proofs.kinds.note_call.Goals as goal

pub returns-clause-answer : goal.returns-clause-answer
returns-clause-answer c =
    c.both.ensures
    ∙ (λ j. (c.call_takes-takes.ensures ∙ ap (call_takes c.args.table.now c.args.at c.args.callee c.args.name.now) (sym (counted c.args.args.now))) j && c.note_kinds-fit.ensures.answer j)

pub returns-clause-finds : goal.returns-clause-finds
returns-clause-finds c =
    finds_then [] [] (fault_if (not (call_takes c.args.table.now c.args.at c.args.callee c.args.name.now (argument_count (arguments_of c.args.args.now)))) c.args.at ArgumentCount)
    (kind_faults c.args.table.now.uses (taken_at c.args.callee c.args.name.now) 0 (arguments_of c.args.args.now)) c.args.found.now c.note_if.new.self c.note_kinds-fit.new.found
    (subst (λ b. Finds [] (fault_if (not b) c.args.at ArgumentCount) c.args.found.now c.note_if.new.self)
    (c.call_takes-takes.ensures ∙ ap (call_takes c.args.table.now c.args.at c.args.callee c.args.name.now) (sym (counted c.args.args.now))) c.note_if.ensures)
    c.note_kinds-fit.ensures.finds
