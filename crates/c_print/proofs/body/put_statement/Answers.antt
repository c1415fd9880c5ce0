use Rattle.std.proofs.Common.{ap, sym, ◌∙◌, refl, take, drop, subst, ◌++◌, ◌∷◌}
use Rattle.c_tree.specs.declared.body.CStatement.{CStatement}
use Rattle.c_tree.specs.Text.{body_words}
use Rattle.c_print.specs.declared.body.Closing.TheVariants.{Else, Leave}
use Rattle.c_print.specs.Pending.{pending}
use Rattle.c_print.specs.Prints.{Prints}
use Rattle.c_print.proofs.Bodies.{prints-simple, prints-choice, prints-loop}
use Rattle.c_print.proofs.body.put_statement.Goals as goal

pub returns-in_ok-put_simple-in-Simple-clause-prints : goal.returns-in_ok-put_simple-in-Simple-clause-prints
returns-in_ok-put_simple-in-Simple-clause-prints c = λ new more.
    let P : CStatement → Type 0 = λ s.
    Prints c.args.out.now.items new (body_words c.args.k (s ∷ c.args.rest.now) ++ pending c.args.k c.args.open.now.items) in
    subst P (sym c.in-Simple.is)
    (prints-simple c.args.k c.in-Simple.simple c.args.rest.now (pending c.args.k c.args.open.now.items) c.args.out.now.items
    c.put_simple.new.out.items new c.in_ok-put_simple-in-Simple.ensures more)

pub returns-in_ok-push-in-If-clause-prints : goal.returns-in_ok-push-in-If-clause-prints
returns-in_ok-push-in-If-clause-prints c = λ new more.
    let P : CStatement → Type 0 = λ s.
    Prints c.args.out.now.items new (body_words c.args.k (s ∷ c.args.rest.now) ++ pending c.args.k c.args.open.now.items) in
    let others = c.split.ensures.rest in
    subst P (sym c.in-If.is)
    (prints-choice c.args.k c.in-If.test c.in-If.first c.in-If.second c.args.rest.now c.split.result.0.now
    (record { closing = Else c.split-in-If.result.0; rest = c.split-in-If.result.1 }) c.args.open.now.items c.push.new.self.items
    c.split-in-If.result.0 c.args.out.now.items c.put_choice_opens.new.out.items new c.split.ensures.first refl
    (c.split-in-If.ensures.first ∙ ap (take c.in-If.second) others) (c.split-in-If.ensures.rest ∙ ap (drop c.in-If.second) others)
    c.in_ok-push-in-If.ensures.items c.in_ok-put_choice_opens-in-If.ensures more)

pub returns-in_ok-push-in-For-clause-prints : goal.returns-in_ok-push-in-For-clause-prints
returns-in_ok-push-in-For-clause-prints c = λ new more.
    let P : CStatement → Type 0 = λ s.
    Prints c.args.out.now.items new (body_words c.args.k (s ∷ c.args.rest.now) ++ pending c.args.k c.args.open.now.items) in
    let others = c.split-in-For.ensures.rest in
    subst P (sym c.in-For.is)
    (prints-loop c.args.k c.in-For.test c.in-For.before c.in-For.turn c.args.rest.now c.split-in-For.result.0.now
    (record { closing = Leave c.in-For.test c.split-in-For-2.result.0; rest = c.split-in-For-2.result.1 }) c.args.open.now.items c.push-in-For.new.self.items
    c.split-in-For-2.result.0 c.args.out.now.items c.put_template.new.out.items new c.split-in-For.ensures.first refl
    (c.split-in-For-2.ensures.first ∙ ap (take c.in-For.turn) others) (c.split-in-For-2.ensures.rest ∙ ap (drop c.in-For.turn) others)
    c.in_ok-push-in-For.ensures.items c.in_ok-put_template-in-For.ensures more)
