-- The types of the code that clauses speak of, under one name.
pub use Rattle.va_base.specs.declared.file.FileText.{FileText}
pub use Rattle.va_preproc.specs.declared.condition.Branch.{Branch}
pub use Rattle.va_preproc.specs.declared.directive.Directive.{Directive}
pub use Rattle.va_preproc.specs.declared.known.Known.{Known}
