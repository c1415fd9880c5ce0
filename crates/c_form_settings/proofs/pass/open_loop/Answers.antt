use Rattle.std.proofs.Common.{◌≡◌, refl, ap, ◌∙◌}
use Rattle.std.specs.Prelude.{nat_eq}
use Rattle.indexmap.specs.IndexMap.{get}
use Rattle.c_form_settings.specs.declared.state.Event.TheVariants.{Loop}
use Rattle.c_form_settings.specs.Passes.{depth_of, told}
use Rattle.c_form_settings.proofs.Moving.{loop-moves}
use Rattle.c_form_settings.proofs.pass.open_loop.Goals as goal

pub returns : goal.returns
returns c = λ h.
    let heads : c.replace-heads.result.items ≡ c.args.pass.now.frame.heads.items = ap (λ v. v.items) c.replace-heads.ensures.value in
    loop-moves c.args.pass.now _ _ _ c.in_ok-open_block.ensures.blocks
    (ap (λ v. v.items) c.new_frame.ensures.ending ∙ heads)
    (ap (λ v. v.items) c.new_frame.ensures.turns ∙ c.in_ok-turns.ensures ∙ c.deref.ensures.value ∙ heads)
    refl refl refl
    (λ i. ap (λ m. get nat_eq m i) c.in_ok-open_block.ensures.locals
    ∙ c.in_ok-tell_all.ensures i
    ∙ ap (λ n. told Loop n i c.deref-2.result.now (get nat_eq c.args.pass.now.locals i)) c.depth-opened.ensures
    ∙ ap (λ l. told Loop (depth_of c.args.pass.now) i l (get nat_eq c.args.pass.now.locals i)) (c.deref-2.ensures.value ∙ heads)) h
