use Rattle.c_raw.specs.Views.{module_view}
use Rattle.c_form_reach.proofs.file.ReachBodyRule.blame_body.Goals as goal

pub returns : goal.returns
returns c = c.in_ok-one_body.ensures (module_view c.args._tree.now)
