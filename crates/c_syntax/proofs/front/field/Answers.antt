use Rattle.std.proofs.Common.{ap, sym, ◌∙◌}
use Rattle.std.proofs.lemmas.List.{take_rest}
use Rattle.va_base.specs.Longest.{longest}
use Rattle.c_tree.specs.tokens.Spelling.{is_in_name}
use Rattle.c_syntax.proofs.Names.{front-field, front-no_field}
use Rattle.c_syntax.proofs.front.field.Goals as goal

pub returns-then-not-begins_name : goal.returns-then-not-begins_name
returns-then-not-begins_name c = sym (front-no_field c.args.text.now c.requires (sym c.begins_name.ensures ∙ c.if-not-begins_name.true))

pub returns : goal.returns
returns c =
    let text = c.args.text.now in
    sym (front-field text c.name_len.result (sym c.begins_name.ensures ∙ c.if-not-begins_name.false)
    (ap (longest is_in_name) (sym (take_rest text 2)) ∙ c.name_len.ensures.longest))
