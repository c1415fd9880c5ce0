use Rattle.std.proofs.Common.{ℕ, ◌<◌, List, [], length, get_or, ◌∙◌, sym, subst, arith}
use Rattle.std.proofs.lemmas.Option.{slice_get-get_or}
use Rattle.va_grammar.specs.declared.tables.TheConstants.{ROW_AT}
use Rattle.va_grammar.proofs.Entries.{none_outside, entry_chosen, line_length}
use Rattle.va_grammar.proofs.va_rows.row_at.Goals.{
  then-left-ge-NONTERMINALS-via-then-left-ge-NONTERMINALS,
  then-left-ge-NONTERMINALS-via-else-left-ge-NONTERMINALS+then-next-ge-KINDS,
}
use Rattle.va_grammar.proofs.va_rows.row_at.Goals as goal

pub returns-then-left-ge-NONTERMINALS : goal.returns-then-left-ge-NONTERMINALS
returns-then-left-ge-NONTERMINALS c =
    elim c.then-left-ge-NONTERMINALS.branch [
      | then-left-ge-NONTERMINALS-via-then-left-ge-NONTERMINALS w ↦ none_outside c.args.left c.args.next (λ a b. omega (arith, a, w.if-left-ge-NONTERMINALS))
      | then-left-ge-NONTERMINALS-via-else-left-ge-NONTERMINALS+then-next-ge-KINDS w ↦ none_outside c.args.left c.args.next (λ a b. omega (arith, b, w.if-next-ge-KINDS))
    ]

pub returns : goal.returns
returns c =
    let none : List ℕ = [] in
    let line = get_or ROW_AT c.args.left none in
    let at_left = slice_get-get_or ROW_AT c.args.left none c.if-left-ge-NONTERMINALS.false in
    let long : c.args.next < length line = subst (λ n. c.args.next < n) (sym (line_length c.args.left line at_left)) c.if-next-ge-KINDS.false in
    c.row_in.ensures ∙ entry_chosen c.args.left c.args.next (get_or line c.args.next 0) line at_left (slice_get-get_or line c.args.next 0 long)
