use Rattle.std.proofs.Common.{◌≡◌, ap, ◌∙◌, ◌++◌, ◌∷◌, [], rules}
use Rattle.c_form.specs.OpenBlocks.{innermost_first}
use Rattle.c_form_settings.proofs.Moving.{closed-blocks}
use Rattle.c_form_settings.proofs.pass.close_block.Goals as goal

pub returns-in-Some-clause-blocks : goal.returns-in-Some-clause-blocks
returns-in-Some-clause-blocks c =
    let popped : c.args.pass.now.outer.items ≡ c.pop.new.self.items ++ c.in-Some.around ∷ [] = search rules in
    ap (λ f. f ∷ innermost_first c.pop.new.self.items) c.replace-closed.ensures.after
    ∙ closed-blocks c.args.pass.now.frame c.in-Some.around c.pop.new.self.items c.args.pass.now.outer.items popped
