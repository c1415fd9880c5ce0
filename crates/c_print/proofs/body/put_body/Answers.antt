use Rattle.std.proofs.Common.{◌≡◌, sym, ◌∙◌, subst, ◌++◌, ◌∷◌, [], List, length, rules}
use Rattle.std.proofs.lemmas.Bool.{eqb-true}
use Rattle.c_print.specs.declared.body.OpenBlock.{OpenBlock}
use Rattle.c_print.specs.Pending.{pending}
use Rattle.c_print.specs.Prints.{Prints}
use Rattle.c_print.proofs.Bodies.{prints-empty, prints-done}
use Rattle.c_print.proofs.body.put_body.Goals as goal

pub steps-preserved-in_ok-left-in-Some-pop : goal.steps-preserved-in_ok-left-in-Some-pop
steps-preserved-in_ok-left-in-Some-pop c = λ new more.
    let popped : c.steps.open.items ≡ c.pop.new.self.items ++ c.in-Some-pop.block ∷ [] = search rules in
    let P : List OpenBlock → Type 0 = λ blocks. Prints c.steps.out.items new (pending c.args.k blocks) in
    let rest : Prints c.steps.out.items new (pending c.args.k c.steps.open.items) =
    subst P (sym popped) (c.in_ok-left-in-Some-pop.ensures.prints new more) in
    c.steps.invariant new (prints-empty c.args.k c.steps.left.now c.steps.open.items c.steps.out.items new c.in-None.ensures.cases rest)

pub returns : goal.returns
returns c =
    let none : length c.steps.left.now ≡ 0 = eqb-true (length c.steps.left.now) 0 (sym c.is_empty.ensures ∙ c.if-not-is_empty.false) in
    let closed : length c.steps.open.items ≡ 0 = search rules in
    c.steps.invariant c.steps.out.items (prints-done c.args.k c.steps.left.now c.steps.open.items c.steps.out.items none closed)
