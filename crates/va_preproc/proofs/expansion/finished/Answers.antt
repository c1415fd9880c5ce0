use Rattle.std.proofs.Common.{◌<◌, ◌-◌, ◌^◌, ◌∙◌, ◌++◌, ◌∷◌, [], length, ap, sym, subst}
use Rattle.va_preproc.specs.Expansion.{end_token}
use Rattle.va_preproc.proofs.FileSteps.{get_slice}
use Rattle.va_preproc.proofs.Top.{within_numbers}
use Rattle.va_preproc.proofs.expansion.finished.Goals as goal

pub end_token-end-requires : goal.end_token-end-requires
end_token-end-requires c =
    let files = c.args.known.files.items in
    subst (λ l. length l < 2 ^ 32 - 1) (sym c.as_list.ensures)
    (within_numbers files c.index.result.now c.requires.small
    (get_slice files 0 c.index.result.now c.requires.some c.index.ensures) c.requires.some)

pub returns-clause-tokens : goal.returns-clause-tokens
returns-clause-tokens c =
    let files = c.args.known.files.items in
    let items = c.args.progress.result.items in (
      c.index.result.now,
      get_slice files 0 c.index.result.now c.requires.some c.index.ensures,
      c.new.ensures ∙ c.in_ok-push.ensures.items
          ∙ ap (λ t. items ++ t ∷ []) (c.end_token-end.ensures ∙ ap end_token c.as_list.ensures),
    )
