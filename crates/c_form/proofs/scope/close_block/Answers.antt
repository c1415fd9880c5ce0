use Rattle.std.proofs.Common.{◌≡◌, ◌∙◌, ap, refl, ◌++◌, ◌∷◌, [], rules}
use Rattle.std.specs.Prelude.{nat_eq}
use Rattle.indexmap.specs.IndexMap.{get}
use Rattle.c_form.specs.OpenBlocks.{innermost_first}
use Rattle.c_form.specs.Scopes.{undone}
use Rattle.c_form.specs.declared.scope.Frame.{Frame}
use Rattle.c_form.proofs.Knowing.{closed}
use Rattle.c_form.proofs.scope.close_block.Goals as goal

pub returns-in_ok-restore_all : goal.returns-in_ok-restore_all
returns-in_ok-restore_all c = λ known outer s.
    let popped : c.args.scope.now.outer.items ≡ c.pop.new.self.items ++ c.in-Some.around ∷ [] = search rules in
    closed c.args.scope.now _ c.in-Some.around c.pop.new.self.items known outer popped c.replace-closed.ensures.after refl
    (λ i. c.in_ok-restore_all.ensures i ∙ ap (λ f. undone (get nat_eq c.args.scope.now.types) (innermost_first (Frame.hidden f).items) i) c.replace-closed.ensures.value) s
