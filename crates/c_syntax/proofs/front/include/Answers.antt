use Rattle.std.proofs.Common.{◌≡◌, ◌+◌, ◌-◌, ◌++◌, length, take, drop, ap, sym, ◌∙◌, Some, codes}
use Rattle.std.proofs.lemmas.List.{take_rest}
use Rattle.c_tree.specs.declared.token.CTokenKind.TheVariants.{Include}
use Rattle.c_syntax.specs.Fronts.{front}
use Rattle.std.proofs.lemmas.Slice.Eq.{starts_is}
use Rattle.std.proofs.lemmas.Bool.Decides.{Decides-eqb}
use Rattle.va_base.proofs.Tests.{true_not_false}
use Rattle.c_syntax.proofs.Longest.{rest_of}
use Rattle.c_syntax.proofs.Names.{front-include, front-no_include}
use Rattle.c_syntax.proofs.front.include.Goals as goal

pub returns-then-not-starts_with : goal.returns-then-not-starts_with
returns-then-not-starts_with c =
    let rest = rest_of c.args.text.now in
    let is = starts_is Decides-eqb rest (codes "include") c.starts_with.result c.starts_with.ensures.value in
    sym (front-no_include c.args.text.now c.requires (λ more e. true_not_false (is.1 more e) c.if-not-starts_with.true))

pub returns : goal.returns
returns c =
    let rest = rest_of c.args.text.now in
    let is = starts_is Decides-eqb rest (codes "include") c.starts_with.result c.starts_with.ensures.value in
    let line = take (length rest - 7) (drop 7 rest) in
    let cut : rest ≡ codes "include" ++ line = is.0 c.if-not-starts_with.false ∙ ap (λ t. codes "include" ++ t) (sym (take_rest rest 7)) in
    ap (λ n. Some (front Include (8 + n))) c.front_len.ensures.count ∙ sym (front-include c.args.text.now line c.requires cut)
