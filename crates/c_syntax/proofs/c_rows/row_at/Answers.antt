use Rattle.std.proofs.Common.{sym, ap, ◌∙◌, slice_get}
use Rattle.c_syntax.specs.grammar.Sets.{c_table}
use Rattle.c_syntax.specs.grammar.Choices.{kind_place, next_rows, row_with_place}
use Rattle.c_syntax.proofs.Tables.{choice_ruled, none_outside}
use Rattle.c_syntax.proofs.c_rows.row_at.Goals as goal

pub returns-then-left-ge-NONTERMINALS : goal.returns-then-left-ge-NONTERMINALS
returns-then-left-ge-NONTERMINALS c = sym (none_outside c.args.left c.args.next c.if-left-ge-NONTERMINALS.true)

pub returns-in-Some : goal.returns-in-Some
returns-in-Some c =
    let place = sym c.in-Some.is ∙ c.place_of_kind.ensures ∙ ap (λ kinds. kind_place kinds c.args.next) c.kinds_at.ensures in
    c.row_in.ensures ∙ ap (λ rows. slice_get rows c.in-Some.place) c.rows_at.ensures
    ∙ ap (row_with_place (next_rows 0 c_table.rows c.args.left)) place ∙ choice_ruled c.args.left c.args.next

pub returns-in-None : goal.returns-in-None
returns-in-None c =
    let place = sym c.in-None.is ∙ c.place_of_kind.ensures ∙ ap (λ kinds. kind_place kinds c.args.next) c.kinds_at.ensures in
    ap (row_with_place (next_rows 0 c_table.rows c.args.left)) place ∙ choice_ruled c.args.left c.args.next
