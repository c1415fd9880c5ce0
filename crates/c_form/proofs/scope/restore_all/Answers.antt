use Rattle.std.proofs.Common.{◌≡◌, ◌∙◌, ◌++◌, ◌∷◌, [], rules}
use Rattle.std.specs.Prelude.{nat_eq}
use Rattle.indexmap.specs.IndexMap.{get}
use Rattle.c_form.proofs.Knowing.{undo-step}
use Rattle.c_form.proofs.scope.restore_all.Goals as goal

pub undo-preserved : goal.undo-preserved
undo-preserved c =
    let popped : c.undo.hidden.items ≡ c.pop.new.self.items ++ c.in-Some.last ∷ [] = search rules in
    λ i. undo-step (get nat_eq c.undo.types) (get nat_eq c.restore.new.types) c.undo.hidden.items c.pop.new.self.items c.in-Some.last i
    popped c.in_ok-restore.ensures ∙ c.undo.invariant i
