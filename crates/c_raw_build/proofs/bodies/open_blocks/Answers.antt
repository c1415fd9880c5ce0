use Rattle.std.specs.Prelude.{◌∷◌, ℕ, List}
use Rattle.std.proofs.Common.{ap, sym, ◌∙◌}
use Rattle.c_raw.specs.declared.body.RawStatement.{RawStatement}
use Rattle.c_raw_build.specs.Steps.{opened, innermost_first}
use Rattle.c_raw_build.proofs.Statements.{innermost_push}
use Rattle.c_raw_build.proofs.bodies.open_blocks.Goals as goal

pub returns-in_ok-push-in-If-2 : goal.returns-in_ok-push-in-If-2
returns-in_ok-push-in-If-2 c =
    innermost_push _ _ 3 c.in_ok-push-in-If-2.ensures.items ∙ ap (λ (l : List ℕ). 3 ∷ l) (innermost_push _ _ 1 c.in_ok-push-in-If.ensures.items)
    ∙ ap (λ (s : RawStatement). opened s (innermost_first c.args.between.now.items)) (sym c.in-If.is)

pub returns-in_ok-push-in-For : goal.returns-in_ok-push-in-For
returns-in_ok-push-in-For c =
    innermost_push _ _ 1 c.in_ok-push-in-For.ensures.items ∙ ap (λ (s : RawStatement). opened s (innermost_first c.args.between.now.items)) (sym c.in-For.is)
