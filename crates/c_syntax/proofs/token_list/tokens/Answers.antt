use Rattle.std.proofs.Common.{◌≡◌, ◌≤◌, ◌+◌, List, length, drop, refl, ap, sym, ◌∙◌, arith, Some}
use Rattle.std.proofs.lemmas.List.{take_rest, length-drop}
use Rattle.c_tree.specs.tokens.Tokens.{c_tokens_of}
use Rattle.c_syntax.specs.Fronts.{front_of}
use Rattle.std.proofs.Common.{subst}
use Rattle.std.specs.List.{All}
use Rattle.std.proofs.lemmas.List.Elements.{All-push}
use Rattle.c_tree.specs.declared.token.CToken.{CToken}
use Rattle.c_syntax.specs.Fronts.{IsWithin}
use Rattle.c_syntax.proofs.Lists.{tokens-separator, tokens-token, tokens-bad, tokens-end}
use Rattle.c_syntax.proofs.token_list.tokens.Goals as goal

pub bytes-preserved-then-is_separator : goal.bytes-preserved-then-is_separator
bytes-preserved-then-is_separator c =
    let bytes = c.args.bytes.now in
    let lt = c.bytes-test.true in
    record {
      within = omega arith;
      fit = c.bytes.invariant.fit;
      tokens = tokens-separator bytes c.bytes.at c.bytes.tokens.items (c_tokens_of bytes) lt (sym c.is_separator.ensures ∙ c.if-is_separator.true)
          c.bytes.invariant.tokens;
    }

pub returns-in_default-clause-bad : goal.returns-in_default-clause-bad
returns-in_default-clause-bad c = λ at e.
    let bytes = c.args.bytes.now in
    let same : c.bytes.at ≡ at = cc in
    tokens-bad bytes c.bytes.at c.bytes.tokens.items (c_tokens_of bytes) c.bytes-test.true (sym c.is_separator.ensures ∙ c.if-is_separator.false)
    (ap front_of (sym (take_rest bytes c.bytes.at)) ∙ sym c.in_default.ensures.front) c.bytes.invariant.tokens
    ∙ ap (λ k. Some k) same

pub bytes-preserved : goal.bytes-preserved
bytes-preserved c =
    let bytes = c.args.bytes.now in
    let at = c.bytes.at in
    let token = c.in-Some.token in
    let cut = take_rest bytes at in
    let within = c.in-Some.ensures.within in
    let fits : token.len ≤ length (drop at bytes) = omega (arith, within, ap length cut) in
    let inside : at + token.len ≤ length bytes = omega (arith, fits, length-drop at bytes, c.bytes-test.true) in
    let P : List CToken → Type 0 = All (IsWithin bytes) in
    record {
      within = inside;
      fit = subst P (sym c.in_ok-push.ensures.items)
          (All-push (IsWithin bytes) c.bytes.tokens.items (record { kind = token.kind; first = at; len = token.len }) c.bytes.invariant.fit inside);
      tokens = tokens-token bytes at token (record { kind = token.kind; first = at; len = token.len }) c.bytes.tokens.items c.push.new.self.items
          (c_tokens_of bytes) c.bytes-test.true (sym c.is_separator.ensures ∙ c.if-is_separator.false)
          (ap front_of (sym cut) ∙ sym c.in-Some.ensures.front) c.in-Some.ensures.some fits refl c.in_ok-push.ensures.items c.bytes.invariant.tokens;
    }

pub returns-clause-tokens : goal.returns-clause-tokens
returns-clause-tokens c =
    tokens-end c.args.bytes.now c.bytes.at c.bytes.tokens.items (c_tokens_of c.args.bytes.now) c.bytes-test.false c.bytes.invariant.tokens
