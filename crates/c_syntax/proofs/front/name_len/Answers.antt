use Rattle.std.proofs.Common.{◌≡◌, ◌+◌, length, drop, ap, sym, ◌∙◌, arith, Some, true, false}
use Rattle.std.proofs.lemmas.List.{take_rest, length-drop}
use Rattle.std.specs.List.{prefix_len}
use Rattle.va_base.specs.Spelling.{begins}
use Rattle.va_base.specs.Longest.{longest}
use Rattle.c_tree.specs.tokens.Spelling.{is_word_byte, is_in_name}
use Rattle.c_syntax.specs.Fronts.{begins_name}
use Rattle.c_syntax.proofs.Names.{name-word, word-ends, name-stop, next-name}
use Rattle.c_syntax.proofs.front.name_len.Goals as goal

pub names-init : goal.names-init
names-init c =
    let text = c.args.text.now in
    let count = c.front_len-at.ensures.count in
    record {
      within = c.front_len-at.ensures.within;
      ends = ap (λ k. begins is_word_byte (drop k text)) count ∙ word-ends text;
      whole = λ n e. name-word text n (ap (λ k. longest is_in_name (drop k text)) (sym count) ∙ e) ∙ ap (λ k. Some (k + n)) (sym count);
    }

pub names-preserved : goal.names-preserved
names-preserved c =
    let text = c.args.text.now in
    let at = c.names.at in
    let r = c.front_len-at-in-names.result in
    let within = c.front_len-at-in-names.ensures.within in
    let cut = take_rest text (at + 2) in
    let count : r ≡ prefix_len is_word_byte (drop (at + 2) text) = c.front_len-at-in-names.ensures.count ∙ ap (prefix_len is_word_byte) cut in
    let name : begins_name (drop at text) ≡ true = ap begins_name (sym (take_rest text at)) ∙ sym c.begins_name.ensures ∙ c.names-test.true in
    let next = next-name text at r c.names.invariant.within count name in
    record {
      within = omega (arith, within, ap length cut, length-drop (at + 2) text, next.long);
      ends = next.ends;
      whole = λ n e. c.names.invariant.whole (2 + (r + n)) (next.whole n e) ∙ ap (λ k. Some k) (omega arith);
    }

pub returns-clause-longest : goal.returns-clause-longest
returns-clause-longest c =
    let text = c.args.text.now in
    let at = c.names.at in
    let none : begins_name (drop at text) ≡ false = ap begins_name (sym (take_rest text at)) ∙ sym c.begins_name.ensures ∙ c.names-test.false in
    c.names.invariant.whole 0 (name-stop (drop at text) none c.names.invariant.ends) ∙ ap (λ k. Some k) (omega arith)
