use Rattle.std.proofs.Common.{◌≡◌, ◌≤◌, ◌-◌, ◌+◌, ℕ, suc, List, sym, ap, ◌∙◌, take, drop, arith, Some, Bor}
use Rattle.std.specs.Prelude.{map}
use Rattle.va_base.specs.declared.token.Token.{Token}
use Rattle.va_preproc.specs.Values.{lexemes_in}
use Rattle.va_preproc.proofs.Lists.{joined, joined_end, joined_same, map_push, at_list_end, at_argument_end, at_part, between_more, pairs_bound}
use Rattle.va_preproc.proofs.Loops.{no_token}
use Rattle.va_preproc.proofs.argument.arguments_in.Goals as goal
use Rattle.va_preproc.proofs.argument.arguments_in.Goals.{in-ArgumentEnd+in_ok-push-in-ArgumentEnd, in-OfArgument}

pub returns-in-ListEnd-clause-arguments : goal.returns-in-ListEnd-clause-arguments
returns-in-ListEnd-clause-arguments c =
    let l = c.loop-at in
    let lex = lexemes_in c.args.files.now in
    let see = λ (argument : Bor (List Token)). lex argument.now in
    let done = map see l.arguments.items in
    let current = lex (take (l.at - l.begin) (drop l.begin c.args.tokens.now)) in
    sym (l.invariant.all
    ∙ ap (joined done current l.at) (at_list_end c.args.files.now c.args.tokens.now l.at no_token c.loop-at-test.true l.pairs (sym c.in-ListEnd.ensures))
    ∙ joined_end done current l.at
    ∙ ap (λ items. record { taken = l.at + 1; meaning = Some items })
    (sym (ap (map see) c.in_ok-push-in-ListEnd.ensures.items ∙ map_push see l.arguments.items _)))

nothing_between : (n : ℕ) → n + 1 - (n + 1) ≡ 0
nothing_between n = omega arith

begins_later : (b n : ℕ) → b ≡ n + 1 → b ≤ n + 1
begins_later b n e = omega arith

begins_before : (b c n : ℕ) → b ≡ c → c ≤ n → b ≤ n + 1
begins_before b c n e h = omega arith

none_open : (p n : ℕ) → p ≡ 0 → p ≤ n + 1
none_open p n e = omega arith

open_within : (p q o n : ℕ) → p ≡ o → o ≤ suc q → q ≤ n → p ≤ n + 1
open_within p q o n e h k = omega arith

pub loop-at-preserved : goal.loop-at-preserved
loop-at-preserved c =
    let l = c.loop-at in
    let ts = c.args.tokens.now in
    let lex = lexemes_in c.args.files.now in
    let see = λ (argument : Bor (List Token)). lex argument.now in
    let done = map see l.arguments.items in
    let current = lex (take (l.at - l.begin) (drop l.begin ts)) in
    let m = c.match-part_of in
    elim m.branch [
      | in-ArgumentEnd+in_ok-push-in-ArgumentEnd w ↦ record {
        all = l.invariant.all
            ∙ at_argument_end c.args.files.now ts l.at no_token c.loop-at-test.true l.pairs done current (sym w.in-ArgumentEnd.ensures)
            ∙ joined_same _ _ _ _ (l.at + 1) 0 m.pairs (lex (drop (l.at + 1) ts))
            (sym (ap (λ v. map see v.items) w.arguments-is ∙ ap (map see) w.in_ok-push-in-ArgumentEnd.ensures.items ∙ map_push see l.arguments.items _))
            (sym (ap (λ n. lex (take (l.at + 1 - n) (drop n ts))) w.begin-is ∙ ap (λ n. lex (take n (drop (l.at + 1) ts))) (nothing_between l.at)))
            (sym w.pairs-is);
        begun = begins_later m.begin l.at w.begin-is;
        nested = none_open m.pairs l.at w.pairs-is;
      }
      | in-OfArgument w ↦ record {
        all = l.invariant.all
            ∙ at_part c.args.files.now ts l.at no_token c.loop-at-test.true l.pairs done current w.in-OfArgument.open (sym w.in-OfArgument.ensures)
            ∙ joined_same _ _ _ _ (l.at + 1) w.in-OfArgument.open m.pairs (lex (drop (l.at + 1) ts))
            (sym (ap (λ v. map see v.items) w.arguments-is))
            (sym (ap (λ n. lex (take (l.at + 1 - n) (drop n ts))) w.begin-is ∙ between_more c.args.files.now ts l.begin l.at no_token l.invariant.begun c.loop-at-test.true))
            (sym w.pairs-is);
        begun = begins_before m.begin l.begin l.at w.begin-is l.invariant.begun;
        nested = open_within m.pairs l.pairs w.in-OfArgument.open l.at w.pairs-is (pairs_bound l.pairs _ w.in-OfArgument.open w.in-OfArgument.ensures) l.invariant.nested;
      }
    ]
