use Rattle.std.proofs.Common.{List, [], ap, ◌∙◌}
use Rattle.c_tree.specs.Raw.{RawModule}
use Rattle.c_tree.specs.rules.Bodies.{RawBody}
use Rattle.c_raw.specs.Views.{module_view}
use Rattle.c_raw.specs.declared.body.RawStatement.{RawStatement}
use Rattle.c_form.specs.Bodies.{body_view}
use Rattle.c_form.specs.Scopes.{walked, known_at_end}
use Rattle.c_form.proofs.Blaming.{◌▸◌, blames_as}
use Rattle.c_form.proofs.Walking.{items-walked}
use Rattle.c_form_types.specs.Places.{AreTypes, item_blamed}
use Rattle.c_form_types.proofs.Typing.{own-types}
use Rattle.c_form_types.proofs.bodies.one_body.Goals as goal

pub returns : goal.returns
returns c =
    let m : RawModule = module_view c.args.tree.now in
    let b : RawBody = body_view c.args.body.now in
    let list : List RawStatement = c.statements.result.now in
    let t : AreTypes c.in_ok-types.types m b = c.in_ok-types.ensures c.requires.typed in
    blames_as
    (blames_as c.in_ok-scope.ensures.blames
    (ap (λ x. walked (item_blamed x (body_view c.in_ok-types.types.body)) [] [] list) t.tree ∙ ap (λ y. walked (item_blamed m y) [] [] list) t.body)
    ▸ c.in_ok-returned.ensures (record { tree = m; body = b; known = known_at_end [] [] list }) (record { types_of = t; locals = c.in_ok-scope.ensures.knows }))
    (items-walked (item_blamed m b) c.args.body.now list c.statements.ensures c.requires.block)

pub all_statements-requires : goal.all_statements-requires
all_statements-requires c = own-types _ _ _ (c.in_ok-types.ensures c.requires.typed)
