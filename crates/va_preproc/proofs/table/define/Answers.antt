use Rattle.std.proofs.Common.{◌∙◌, Some}
use Rattle.std.proofs.lemmas.Result.{on_ok_weaker}
use Rattle.va_preproc.specs.Expansion.{with_macro}
use Rattle.va_preproc.specs.Values.{macro_seen, macros_in}
use Rattle.va_preproc.proofs.table.define.Goals as goal

pub returns : goal.returns
returns c =
    let key = c.in_ok-key.ensures.items_if_clones_equal (λ x y e. e) in
    let body = c.in_ok-body.ensures.items_if_clones_equal (λ x y e. e) in
    on_ok_weaker c.insert.result
    (λ known files. known files
    ∙ (λ j. with_macro (key j) (Some (macro_seen files c.args.formals (body j))) (macros_in files c.args.macros.now)))
    c.insert.ensures
