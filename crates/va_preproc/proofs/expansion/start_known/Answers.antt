use Rattle.std.proofs.Common.{◌∙◌, ap, [], None, Some}
use Rattle.std.specs.Prelude.{codes}
use Rattle.va_preproc.specs.Expansion.{with_macro}
use Rattle.va_preproc.proofs.Tables.{table_empty}
use Rattle.va_preproc.proofs.expansion.start_known.Goals as goal

pub returns-clause-macros : goal.returns-clause-macros
returns-clause-macros c =
    let files = c.new.result.items in
    let empty = Some (record { formals = None; body = [] }) in
    c.in_ok-define-2.ensures files
    ∙ ap (with_macro (codes "__VAMS_ENABLE__") empty)
    (c.in_ok-define.ensures files ∙ ap (with_macro (codes "__VAMS_COMPACT_MODELING__") empty) (table_empty files c.new-macros.result c.new-macros.ensures.empty))
