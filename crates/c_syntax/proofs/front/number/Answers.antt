use Rattle.std.proofs.Common.{◌≡◌, ◌+◌, ◌-◌, take, drop, ap, sym, ◌∙◌, arith, Some, true, false}
use Rattle.std.proofs.lemmas.List.{take_rest}
use Rattle.va_base.specs.Longest.{longest}
use Rattle.c_tree.specs.tokens.Spelling.{is_number_tail, tail_kind}
use Rattle.c_syntax.specs.Fronts.{front}
use Rattle.c_syntax.proofs.Numbers.{number-front}
use Rattle.c_syntax.proofs.front.number.Goals as goal

pub returns-then-not-is_within : goal.returns-then-not-is_within
returns-then-not-is_within c =
    let text = c.args.text.now in
    let digits = c.front_len-digits.result in
    let tail = c.tail_len-tail.result in
    sym (number-front text digits tail false c.requires c.front_len-digits.ensures.count
    (ap (longest is_number_tail) (sym (take_rest text digits)) ∙ c.tail_len-tail.ensures.longest)
    (sym c.is_within.ensures ∙ c.if-not-is_within.true))

pub returns : goal.returns
returns c =
    let text = c.args.text.now in
    let digits = c.front_len-digits.result in
    let tail = c.tail_len-tail.result in
    let span : digits + tail - digits ≡ tail = omega arith in
    let kind : c.tail_kind-kind.result ≡ tail_kind (take tail (drop digits text)) =
    c.tail_kind-kind.ensures ∙ ap (λ k. tail_kind (take k (drop digits text))) span in
    ap (λ k. Some (front k (digits + tail))) kind
    ∙ sym (number-front text digits tail true c.requires c.front_len-digits.ensures.count
    (ap (longest is_number_tail) (sym (take_rest text digits)) ∙ c.tail_len-tail.ensures.longest)
    (sym c.is_within.ensures ∙ c.if-not-is_within.false))
