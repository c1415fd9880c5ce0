use Rattle.std.proofs.Common.{sym, ap, ◌∙◌, ℕ, List}
use Rattle.std.specs.Prelude.{map}
use Rattle.std.specs.List.{flat_map}
use Rattle.c_tree.specs.Raw.{At}
use Rattle.c_tree.specs.rules.Bodies.{Item, of_statement, items_in, repeated}
use Rattle.c_tree.specs.rules.Locals.{declared}
use Rattle.c_raw.specs.Blocks.{at_view}
use Rattle.c_raw.specs.declared.body.RawStatement.{RawStatement}
use Rattle.c_form.specs.Bodies.{in_statement, statements_of}
use Rattle.c_form.proofs.Blaming.{blames_as}
use Rattle.c_form.proofs.Flat.{items-body, block-of-body}
use Rattle.c_form.proofs.declarations.locals_again.Goals as goal

pub returns : goal.returns
returns c =
    let part : Item → List (At ℕ) = of_statement declared in
    let body : List RawStatement = c.statements.result.now in
    let numbers = ap (map at_view) c.deref.ensures.value ∙ c.in_ok-numbers.ensures ∙ ap (flat_map (in_statement part)) c.statements.ensures
    ∙ items-body part (statements_of c.args.body.now) c.requires ∙ ap (λ b. flat_map part (items_in b)) (sym (block-of-body c.args.body.now)) in
    blames_as c.in_ok-repeated.ensures (ap repeated numbers)
