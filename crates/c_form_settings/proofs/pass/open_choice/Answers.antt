use Rattle.std.proofs.Common.{◌≡◌, refl, ap, ◌∙◌}
use Rattle.std.specs.Prelude.{nat_eq}
use Rattle.indexmap.specs.IndexMap.{get}
use Rattle.c_form_settings.specs.declared.state.Event.TheVariants.{Choice}
use Rattle.c_form_settings.specs.Passes.{depth_of, told}
use Rattle.c_form_settings.proofs.Moving.{choice-moves}
use Rattle.c_form_settings.proofs.pass.open_choice.Goals as goal

pub returns : goal.returns
returns c = λ h.
    let joins : c.replace-joins.result.items ≡ c.args.pass.now.frame.joins.items = ap (λ v. v.items) c.replace-joins.ensures.value in
    choice-moves c.args.pass.now c.open_block.new.pass _ _ _ _ c.in_ok-open_block-2.ensures.blocks c.in_ok-open_block.ensures.blocks
    (ap (λ v. v.items) c.new_frame-2.ensures.ending ∙ joins)
    (ap (λ v. v.items) c.new_frame.ensures.ending ∙ c.in_ok-again.ensures ∙ c.deref.ensures.value ∙ joins)
    refl refl refl
    (λ i. ap (λ m. get nat_eq m i) c.in_ok-open_block-2.ensures.locals
    ∙ ap (λ m. get nat_eq m i) c.in_ok-open_block.ensures.locals
    ∙ c.in_ok-tell_all.ensures i
    ∙ ap (λ n. told Choice n i c.deref-2.result.now (get nat_eq c.args.pass.now.locals i)) c.depth-opened.ensures
    ∙ ap (λ l. told Choice (depth_of c.args.pass.now) i l (get nat_eq c.args.pass.now.locals i)) (c.deref-2.ensures.value ∙ joins)) h
