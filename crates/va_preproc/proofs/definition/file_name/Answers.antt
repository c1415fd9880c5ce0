use Rattle.std.proofs.Common.{sym, ap, ◌∙◌, Some}
use Rattle.va_preproc.proofs.DefinitionForms.{named_file, unnamed_file}
use Rattle.va_preproc.proofs.definition.file_name.Goals as goal

pub returns-in-Ok : goal.returns-in-Ok
returns-in-Ok c = ap Some c.in-Ok.ensures.cases.0 ∙ sym (named_file c.in-Some.content.now _ c.in-Some.ensures c.in-Ok.ensures.cases.1)

pub returns-in-Err : goal.returns-in-Err
returns-in-Err c = sym (unnamed_file c.in-Some.content.now _ c.in-Some.ensures c.in-Err.ensures.cases.0)
