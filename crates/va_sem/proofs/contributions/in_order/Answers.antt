use Rattle.std.proofs.Common.{◌∙◌, ap, rules}
use Rattle.std.proofs.lemmas.List.Sorted.{answers_always}
use Rattle.va_sem.specs.declared.findings.Given.{Given}
use Rattle.va_sem.specs.TextOrder.{in_text_order}
use Rattle.va_sem.proofs.SortedOnce.{sorted_is}
use Rattle.va_sem.proofs.contributions.in_order.Goals as goal

pub returns : goal.returns
returns c =
    sorted_is (λ (g : Given). g.at) _ _ (c.in_ok-sort_by_key.ensures.sorted (λ (g : Given). g.at) (answers_always _ _ _ (λ f a r g h. search rules)))
    (c.sort_by_key.ensures.stable (λ (g : Given). g.at) (answers_always _ _ _ (λ f a r g h. search rules)))
    ∙ ap (in_text_order (λ (g : Given). g.at)) c.in_ok-list.ensures.items
