use Rattle.std.proofs.Common.{sym, ◌∙◌}
use Rattle.c_tree.specs.Form.{blamed}
use Rattle.c_raw.specs.Views.{file_view}
use Rattle.c_reader.proofs.Exists.{none_blamed}
use Rattle.c_reader.proofs.reading.keeps_form.Goals as goal

pub returns-in-Ok-None-clause-kept : goal.returns-in-Ok-None-clause-kept
returns-in-Ok-None-clause-kept c = none_blamed (blamed (file_view c.args.raw.now)) (sym c.in-Ok-None.ensures ∙ c.in-Ok-None.field-0-is)
