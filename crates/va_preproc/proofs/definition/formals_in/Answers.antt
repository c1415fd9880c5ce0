use Rattle.std.proofs.Common.{◌≤◌, ◌<◌, ◌-◌, ◌+◌, ℕ, sym, ap, ◌∙◌, arith, drop}
use Rattle.std.specs.Global.{Vec}
use Rattle.std.specs.Prelude.{map, Some}
use Rattle.va_preproc.specs.Definitions.{formals_form}
use Rattle.va_preproc.specs.Values.{lexemes_in}
use Rattle.va_preproc.proofs.DefinitionForms.{formals_turn, formals_closed, formals_end}
use Rattle.va_preproc.proofs.Formals.{fresh_name, formal_added}
use Rattle.va_preproc.proofs.Lists.{more}
use Rattle.va_preproc.proofs.Loops.{no_token}
use Rattle.va_preproc.proofs.definition.formals_in.Goals as goal

two_within : (n at : ℕ) → 1 < n - at → at + 2 ≤ n
two_within n at h = omega arith

pub formals-preserved : goal.formals-preserved
formals-preserved c =
    let l = c.formals in
    let files = c.args.files.now in
    let see = λ (name : Vec ℕ). name.items in
    record {
      all = l.invariant.all
          ∙ formals_turn files c.args.tokens.now l.at no_token (map see l.seen.keys) c.in-Some.name.now c.formals-test.true
          (c.in-Some.ensures)
          c.in-Comma.ensures
          ∙ ap (λ names. more (l.at + 2) (formals_form names (lexemes_in files (drop (l.at + 2) c.args.tokens.now))))
          (sym (ap (map see) c.in_ok-insert.ensures.keys
          ∙ formal_added l.seen.keys _ c.in-Some.name.now (c.in_ok-to_vec.ensures.items_if_clones_equal (λ x y e. e))
          (fresh_name (map see l.seen.keys) _ c.in-Some.name.now c.in-Some.ensures)));
      within = two_within _ l.at c.formals-test.true;
    }

pub returns-in-Closing-clause-formals : goal.returns-in-Closing-clause-formals
returns-in-Closing-clause-formals c =
    let l = c.formals in
    let files = c.args.files.now in
    let see = λ (name : Vec ℕ). name.items in
    ap (λ names. record { taken = l.at + 2; meaning = Some names })
    (ap (map see) c.in_ok-insert.ensures.keys
    ∙ formal_added l.seen.keys _ c.in-Some.name.now (c.in_ok-to_vec.ensures.items_if_clones_equal (λ x y e. e))
    (fresh_name (map see l.seen.keys) _ c.in-Some.name.now c.in-Some.ensures))
    ∙ sym (l.invariant.all
    ∙ formals_closed files c.args.tokens.now l.at no_token (map see l.seen.keys) c.in-Some.name.now c.formals-test.true c.in-Some.ensures c.in-Closing.ensures)

pub returns-clause-formals : goal.returns-clause-formals
returns-clause-formals c =
    sym (c.formals.invariant.all ∙ formals_end c.args.files.now c.args.tokens.now c.formals.at _ c.formals.invariant.within c.formals-test.false)
