use Rattle.std.proofs.Common.{◌≡◌, ◌∙◌, ap, refl, ◌++◌, ◌∷◌, [], rules}
use Rattle.va_scopes.specs.Tables.{by_name}
use Rattle.va_scopes.specs.Seeing.{innermost_first, undone}
use Rattle.va_scopes.specs.declared.scopes.Frame.{Frame}
use Rattle.va_scopes.proofs.Scoping.{closed}
use Rattle.va_scopes.proofs.scopes.close_scope.Goals as goal

pub returns-in_ok-restore_all : goal.returns-in_ok-restore_all
returns-in_ok-restore_all c = λ known around outer s.
    let popped : c.args.scopes.now.outer.items ≡ c.pop.new.self.items ++ c.in-Some.around ∷ [] = search rules in
    closed c.args.scopes.now _ c.in-Some.around c.pop.new.self.items known around outer popped c.replace-closed.ensures.after refl
    (λ n. c.in_ok-restore_all.ensures n ∙ ap (λ f. undone (by_name c.args.scopes.now.table) (innermost_first (Frame.hidden f).items) n) c.replace-closed.ensures.value) s
