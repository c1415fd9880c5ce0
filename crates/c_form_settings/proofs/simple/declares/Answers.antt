use Rattle.std.proofs.Common.{sym, ◌∙◌}
use Rattle.c_form_settings.proofs.Declaring.{adds-known, adds-new}
use Rattle.c_form_settings.proofs.simple.declares.Goals as goal

pub returns : goal.returns
returns c = λ h.
    adds-new c.args.pass.now c.declare.new.pass c.args.statement.now c.in-Some.start (sym c.declared.ensures.start ∙ c.in-Some.is)
    (sym c.is_known.ensures ∙ c.if-is_known.false) c.in-Some.ensures.fresh (c.in_ok-declare.ensures c.in-Some.ensures.fresh h)

pub returns-then-is_known : goal.returns-then-is_known
returns-then-is_known c = λ h.
    adds-known c.args.pass.now c.args.statement.now c.in-Some.start (sym c.declared.ensures.start ∙ c.in-Some.is)
    (sym c.is_known.ensures ∙ c.if-is_known.true) h
