use Rattle.std.proofs.Common.{ap, ◌∙◌, List, ◌++◌, ◌∷◌, []}
use Rattle.c_raw.specs.Blocks.{is_body}
use Rattle.c_form.specs.Bodies.{is_one_block}
use Rattle.c_form.specs.declared.body.Body.{Body}
use Rattle.c_form.specs.declared.body.Body.TheVariants.{SetupModel, SetupInstance, Evaluation}
use Rattle.c_form.proofs.Blaming.{passes-more, both-four}
use Rattle.c_form.proofs.body.bodies_of.Goals as goal

pub returns-clause-blocks : goal.returns-clause-blocks
returns-clause-blocks c =
    let parts = both-four _ _ _ _ c.requires in
    let functions : List Body = c.in_ok-bodies.bodies.items in
    let with_model : List Body = functions ++ SetupModel c.as_list-2.result ∷ [] in
    let with_instance : List Body = with_model ++ SetupInstance c.as_list-3.result ∷ [] in
    let model = passes-more is_one_block functions (SetupModel c.as_list-2.result) c.in_ok-bodies.ensures.blocks (ap is_body c.as_list-2.ensures ∙ parts.1) in
    let instance = passes-more is_one_block with_model (SetupInstance c.as_list-3.result) model (ap is_body c.as_list-3.ensures ∙ parts.2) in
    let all = passes-more is_one_block with_instance (Evaluation c.as_list-4.result) instance (ap is_body c.as_list-4.ensures ∙ parts.3) in
    rw (c.in_ok-push-3.ensures.items, c.in_ok-push-2.ensures.items, c.in_ok-push.ensures.items) all
