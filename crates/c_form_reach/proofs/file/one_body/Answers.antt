use Rattle.std.proofs.Common.{ap, sym, ◌∙◌}
use Rattle.c_tree.specs.rules.Reach.{cells_set_in, is_temperature, of_fields, set_deeper, set_twice}
use Rattle.c_raw.specs.Blocks.{block_view}
use Rattle.c_form.proofs.Blaming.{◌▸◌, blames_as}
use Rattle.c_form.proofs.Flat.{block-of-body}
use Rattle.c_form_reach.proofs.file.one_body.Goals as goal

pub returns : goal.returns
returns c = λ m.
    let own = sym (block-of-body c.args.body.now) in
    blames_as c.deeper.ensures (ap set_deeper (ap block_view c.statements.ensures ∙ own))
    ▸ blames_as c.in_ok-twice.ensures (ap set_twice (ap block_view c.statements-2.ensures ∙ own))
    ▸ blames_as c.temperatures.ensures (ap (λ b. of_fields is_temperature (cells_set_in b)) (ap block_view c.statements-3.ensures ∙ own))
    ▸ c.in_ok-spoken_of.ensures
