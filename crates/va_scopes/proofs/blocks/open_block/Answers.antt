use Rattle.std.proofs.Common.{◌≡◌, ap, ◌∙◌, ◌∷◌, ◌++◌, subst}
use Rattle.std.specs.Prelude.{map}
use Rattle.std.proofs.lemmas.Result.{on_ok_weaker}
use Rattle.va_sem.specs.NamesFaults.{declaration_faults}
use Rattle.va_sem.specs.Scopes.{counting, block_names, name_of}
use Rattle.va_scopes.specs.Bindings.{declared_by, name_at}
use Rattle.va_scopes.specs.Blocks.{block_with}
use Rattle.va_scopes.specs.Seeing.{IsScope}
use Rattle.va_scopes.proofs.BlockNames.{names_are, named_at}
use Rattle.va_scopes.proofs.Finding.{finds_same}
use Rattle.va_scopes.proofs.blocks.open_block.Goals as goal

pub returns-clause-scope : goal.returns-clause-scope
returns-clause-scope c =
    let names : map declared_by c.in_ok-bindings.bindings.items ≡ block_names (block_with c.args.declarations.now) =
    c.in_ok-bindings.ensures ∙ names_are c.args.declarations.now in
    on_ok_weaker c.declare_all.result
    (λ declares known outer s.
    subst (λ names. IsScope c.declare_all.new.scopes (counting names ++ known) (known ∷ outer)) names
    (declares known (known ∷ outer) (c.in_ok-open_scope.ensures known outer s)))
    c.declare_all.ensures

pub returns-clause-faults : goal.returns-clause-faults
returns-clause-faults c =
    let names : map declared_by c.in_ok-bindings.bindings.items ≡ block_names (block_with c.args.declarations.now) =
    c.in_ok-bindings.ensures ∙ names_are c.args.declarations.now in
    on_ok_weaker c.declare_all.result
    (λ declares.
    finds_same _ _ _ _ (ap (λ bindings. declaration_faults (map name_at bindings)) c.as_slice.ensures.value
    ∙ ap declaration_faults (named_at c.in_ok-bindings.bindings.items ∙ ap (map name_of) names))
    c.in_ok-find_twice_declared.ensures)
    c.declare_all.ensures
