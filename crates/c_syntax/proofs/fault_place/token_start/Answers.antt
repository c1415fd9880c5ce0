use Rattle.std.proofs.Common.{◌≡◌, ◌<◌, ◌≤◌, ◌+◌, length, drop, ap, sym, ◌∙◌, arith}
use Rattle.std.proofs.lemmas.List.{take_rest, length-drop}
use Rattle.c_tree.specs.tokens.Tokens.{tokens_from}
use Rattle.c_syntax.specs.Fronts.{front_of}
use Rattle.c_syntax.proofs.Lists.{tokens-past, tokens-stop, tokens-first, tokens-none, start_among, start-first, start-later, start-none}
use Rattle.c_syntax.proofs.fault_place.token_start.Goals as goal

pub bytes-preserved-then-is_separator : goal.bytes-preserved-then-is_separator
bytes-preserved-then-is_separator c =
    let bytes = c.args.bytes.now in
    let lt = c.bytes-test.true in
    record {
      within = omega arith;
      start = c.bytes.invariant.start
          ∙ ap (λ t. start_among (length bytes) t.tokens c.bytes.left) (tokens-past bytes c.bytes.at lt (sym c.is_separator.ensures ∙ c.if-is_separator.true));
    }

pub returns-in_default : goal.returns-in_default
returns-in_default c =
    let bytes = c.args.bytes.now in
    sym (c.bytes.invariant.start
    ∙ ap (λ t. start_among (length bytes) t.tokens c.bytes.left)
    (tokens-stop bytes c.bytes.at c.bytes-test.true (sym c.is_separator.ensures ∙ c.if-is_separator.false)
    (ap front_of (sym (take_rest bytes c.bytes.at)) ∙ sym c.in_default.ensures.front))
    ∙ start-none (length bytes) c.bytes.left)

pub returns-then-left-eq0 : goal.returns-then-left-eq0
returns-then-left-eq0 c =
    let bytes = c.args.bytes.now in
    let at = c.bytes.at in
    let token = c.in-Some.token in
    let cut = take_rest bytes at in
    let within = c.in-Some.ensures.within in
    let first = tokens-first bytes at token c.bytes-test.true (sym c.is_separator.ensures ∙ c.if-is_separator.false)
    (ap front_of (sym cut) ∙ sym c.in-Some.ensures.front) c.in-Some.ensures.some (omega (arith, within, ap length cut)) in
    sym (c.bytes.invariant.start ∙ start-first (length bytes) _ _ _ c.bytes.left first c.if-left-eq0.true)

pub bytes-preserved : goal.bytes-preserved
bytes-preserved c =
    let bytes = c.args.bytes.now in
    let at = c.bytes.at in
    let token = c.in-Some.token in
    let cut = take_rest bytes at in
    let within = c.in-Some.ensures.within in
    let fits : token.len ≤ length (drop at bytes) = omega (arith, within, ap length cut) in
    let left = c.if-left-eq0.false in
    let first = tokens-first bytes at token c.bytes-test.true (sym c.is_separator.ensures ∙ c.if-is_separator.false)
    (ap front_of (sym cut) ∙ sym c.in-Some.ensures.front) c.in-Some.ensures.some fits in
    record {
      within = omega (arith, fits, length-drop at bytes, c.bytes-test.true);
      start = c.bytes.invariant.start ∙ start-later (length bytes) _ _ _ c.bytes.left first (omega arith);
    }

pub returns : goal.returns
returns c =
    let bytes = c.args.bytes.now in
    sym (c.bytes.invariant.start
    ∙ ap (λ t. start_among (length bytes) t.tokens c.bytes.left) (tokens-none bytes c.bytes.at c.bytes-test.false)
    ∙ start-none (length bytes) c.bytes.left)
