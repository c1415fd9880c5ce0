use Rattle.std.proofs.Common.{◌≡◌, refl, ap, ◌∙◌, length, rules}
use Rattle.std.specs.Prelude.{nat_eq, if◌then◌else◌, ◌==◌, Some}
use Rattle.indexmap.specs.IndexMap.{get}
use Rattle.c_form_settings.specs.declared.pass.Pass.{Pass}
use Rattle.c_form_settings.specs.declared.state.Local.{Local}
use Rattle.c_form_settings.proofs.Declaring.{declares-is}
use Rattle.c_form_settings.proofs.pass.declare.Goals as goal

pub returns : goal.returns
returns c = λ one h.
    let new : Pass = record { locals = c.insert.new.self; frame = c.wait.new.frame; outer = c.args.pass.now.outer } in
    let base : c.len-base.result ≡ length c.args.pass.now.outer.items = search rules in
    declares-is c.args.number c.args.state c.args.pass.now new refl
    (ap (λ v. v.items) c.in_ok-wait.ensures.ending ∙ c.in_ok-push.ensures.items)
    c.in_ok-wait.ensures.joins c.in_ok-wait.ensures.heads (ap (λ v. v.items) c.in_ok-wait.ensures.turns)
    (λ i. c.in_ok-insert.ensures.updates.0 i
    ∙ ap (λ n. if c.args.number == i then Some (let l : Local = record { base = n; state = c.args.state } in l) else get nat_eq c.args.pass.now.locals i) base)
    one h
