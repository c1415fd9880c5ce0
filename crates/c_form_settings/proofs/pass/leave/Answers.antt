use Rattle.std.proofs.Common.{refl, ap, ◌∙◌}
use Rattle.std.specs.Prelude.{nat_eq}
use Rattle.indexmap.specs.IndexMap.{get}
use Rattle.c_form_settings.specs.declared.state.Event.TheVariants.{Break}
use Rattle.c_form_settings.specs.Passes.{depth_of, told}
use Rattle.c_form_settings.proofs.Moving.{break-moves}
use Rattle.c_form_settings.proofs.pass.leave.Goals as goal

pub returns : goal.returns
returns c = λ h.
    break-moves c.args.pass.now _ _ refl refl refl refl
    (λ i. c.in_ok-tell_all.ensures i
    ∙ ap (λ n. told Break n i c.deref.result.now (get nat_eq c.args.pass.now.locals i)) c.depth-opened.ensures
    ∙ ap (λ l. told Break (depth_of c.args.pass.now) i l (get nat_eq c.args.pass.now.locals i))
    (c.deref.ensures.value ∙ ap (λ v. v.items) c.replace-turns.ensures.value)) h
