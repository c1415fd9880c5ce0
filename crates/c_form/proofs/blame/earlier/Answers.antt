use Rattle.std.proofs.Common.{ap, sym, ◌∙◌}
use Rattle.c_tree.specs.Form.{least_of}
use Rattle.c_form.specs.Blames.{lesser}
use Rattle.c_form.proofs.Blaming.{least_append}
use Rattle.c_form.proofs.blame.earlier.Goals as goal

pub returns : goal.returns
returns c = λ left right e f.
    c.lesser.ensures ∙ ap (λ a. lesser a c.args.second) e ∙ ap (lesser (least_of left)) f ∙ sym (least_append left right)
