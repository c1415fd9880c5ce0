use Rattle.std.proofs.Common.{arith, ap, sym, ◌∙◌}
use Rattle.std.specs.Prelude.{map, []}
use Rattle.std.specs.Option.{is_some}
use Rattle.va_scopes.specs.Bindings.{name_at}
use Rattle.va_scopes.specs.Tables.{by_name}
use Rattle.va_scopes.proofs.SecondDeclarations.{again_step, again_end, repeated_again, some_or, finds_if, again_none}
use Rattle.va_scopes.proofs.Finding.{finds_same}
use Rattle.va_scopes.proofs.twice.find_repeated.Goals as goal

pub loop-binding-preserved : goal.loop-binding-preserved
loop-binding-preserved c = λ new more.
    c.loop-binding.invariant new
    (again_step _ _ new (λ k. is_some (by_name c.loop-binding.before k)) (λ k. is_some (by_name c.put.new.table k))
    c.args.names.now c.loop-binding.binding-index _ (omega arith)
    (λ k. ap is_some (c.in_ok-earlier.ensures.after k) ∙ some_or _ _ (by_name c.loop-binding.before k))
    (finds_if _ _ _ _ _ _ (c.is_some.ensures ∙ ap is_some c.in_ok-earlier.ensures.before) c.note_if.ensures) more)

pub returns : goal.returns
returns c =
    finds_same _ _ _ _ (sym (repeated_again [] (map name_at c.args.names.now)))
    (c.loop-binding.invariant _ (again_end _ (λ k. is_some (by_name c.loop-binding.before k)) c.args.names.now c.loop-binding.binding-index (omega arith)))

pub loop-binding-init : goal.loop-binding-init
loop-binding-init c = λ new more.
    finds_same _ _ _ _ (again_none c.new-before.result (map name_at c.args.names.now) c.new-before.ensures.empty) more
