use Rattle.std.proofs.Common.{◌≡◌, ◌∙◌, ◌++◌, ◌∷◌, [], rules}
use Rattle.va_scopes.specs.Tables.{by_name}
use Rattle.va_scopes.proofs.Scoping.{undo-step}
use Rattle.va_scopes.proofs.scopes.restore_all.Goals as goal

pub undo-preserved : goal.undo-preserved
undo-preserved c =
    let popped : c.undo.hidden.items ≡ c.pop.new.self.items ++ c.in-Some.last ∷ [] = search rules in
    λ n. undo-step (by_name c.undo.table) (by_name c.restore.new.table) c.undo.hidden.items c.pop.new.self.items c.in-Some.last n
    popped c.in_ok-restore.ensures ∙ c.undo.invariant n
