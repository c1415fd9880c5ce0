use Rattle.std.proofs.Common.{◌∙◌, ap, sym, subst, All, zip, length}
use Rattle.va_sem.specs.declared.names.Names.{Names}
use Rattle.va_sem.specs.Kinds.{HasAllKinds}
use Rattle.va_sem.proofs.Modules.{modules_named}
use Rattle.va_sem.proofs.SomeKind.{modules_have_kinds}
use Rattle.va_sem.proofs.checked.Checked.seal.Goals as goal

pub kinds_of_modules-requires-clause-named : goal.kinds_of_modules-requires-clause-named
kinds_of_modules-requires-clause-named c =
    ap length c.as_list-2.ensures ∙ ap (λ (n : Names). length n.modules) c.requires.names ∙ modules_named c.args.source
    ∙ sym (ap length c.as_list.ensures)

pub kinds_of_modules-requires-clause-kinds : goal.kinds_of_modules-requires-clause-kinds
kinds_of_modules-requires-clause-kinds c =
    subst (All HasAllKinds)
    (λ j. zip (sym c.as_list.ensures j) (sym (c.as_list-2.ensures ∙ ap (λ (n : Names). n.modules) c.requires.names) j))
    (modules_have_kinds c.args.source c.requires.keeps)

pub unknowns_of_modules-requires : goal.unknowns_of_modules-requires
unknowns_of_modules-requires c =
    ap length c.as_list-4.ensures ∙ ap (λ (n : Names). length n.modules) c.requires.names ∙ modules_named c.args.source
    ∙ sym (ap length c.as_list-3.ensures)
