use Rattle.std.proofs.Common.{ap, ◌∙◌}
use Rattle.std.specs.Prelude.{nat_eq}
use Rattle.std.specs.List.{flat_map}
use Rattle.indexmap.specs.IndexMap.{get}
use Rattle.c_form.proofs.Blaming.{blames_as}
use Rattle.c_form_settings.specs.declared.state.Event.TheVariants.{Close}
use Rattle.c_form_settings.specs.Passes.{depth_of, lacking_in, told}
use Rattle.c_form_settings.proofs.Moving.{close-moves}
use Rattle.c_form_settings.proofs.pass.close.Goals as goal

pub returns : goal.returns
returns c = record {
  blames = blames_as c.all_lacking.ensures (ap (flat_map (lacking_in c.args.pass.now c.args.at)) c.deref.ensures.value);
  moves = λ h.
      close-moves c.args.pass.now _ c.close_block.ensures.blocks
      (λ i. ap (λ m. get nat_eq m i) c.close_block.ensures.locals
      ∙ c.in_ok-tell_all.ensures i
      ∙ ap (λ n. told Close n i c.deref-2.result.now (get nat_eq c.args.pass.now.locals i)) c.depth-opened.ensures
      ∙ ap (λ l. told Close (depth_of c.args.pass.now) i l (get nat_eq c.args.pass.now.locals i)) c.deref-2.ensures.value) h;
}
