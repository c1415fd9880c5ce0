use Rattle.std.proofs.Common.{sym, ◌∙◌, ℕ, List}
use Rattle.c_raw.specs.Blocks.{right_view}
use Rattle.c_tree.specs.rules.Types.{differs, operands_differ, type_of_right}
use Rattle.c_form.proofs.Blaming.{◌▸◌, blames_as, least_is}
use Rattle.c_form_types.proofs.Operands.{blames-operands, or-none}
use Rattle.c_form_types.proofs.right_sides.right_differs.Goals as goal

pub returns-in-Some : goal.returns-in-Some
returns-in-Some c = λ p k.
    let xs : List ℕ = operands_differ p.tree p.body p.known (right_view c.args.right.now) in
    let ys : List ℕ = differs (type_of_right p.tree p.body p.known (right_view c.args.right.now)) c.args.ty c.args.at in
    c.in_ok-operand_differs.ensures p k
    ▸ blames-operands xs ys c.in-Some.token (sym (least_is (c.in_ok-operands_differ.ensures p k)) ∙ c.in-Some.is) c.blame.ensures

pub returns-in_ok-result_differs-in-None : goal.returns-in_ok-result_differs-in-None
returns-in_ok-result_differs-in-None c = λ p k.
    let xs : List ℕ = operands_differ p.tree p.body p.known (right_view c.args.right.now) in
    let ys : List ℕ = differs (type_of_right p.tree p.body p.known (right_view c.args.right.now)) c.args.ty c.args.at in
    c.in_ok-operand_differs.ensures p k
    ▸ blames_as (c.in_ok-result_differs-in-None.ensures p k) (sym (or-none xs ys (sym (least_is (c.in_ok-operands_differ.ensures p k)) ∙ c.in-None.is)))
