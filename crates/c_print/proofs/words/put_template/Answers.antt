use Rattle.std.proofs.Common.{[], ◌∷◌, arith, rules}
use Rattle.std.proofs.lemmas.Str.Pattern.{split_parts}
use Rattle.c_print.specs.Prints.{Prints}
use Rattle.c_print.proofs.Printing.{prints_template, prints_last}
use Rattle.c_print.proofs.words.put_template.Goals as goal

pub words-preserved : goal.words-preserved
words-preserved c =
    let rest = c.words.rest.now in
    let cut = rw c.in-Some.is at (split_parts 32 rest c.split_once.result c.split_once.ensures.cases (omega arith)) in
    let first : Prints c.words.out.items c.put_word.new.out.items (c.in-Some.word.now ∷ []) =
    rw (← c.as_bytes.ensures.value) c.in_ok-put_word.ensures in (
      λ new more. c.words.invariant.0 new (prints_template _ _ new rest c.in-Some.word.now c.in-Some.more.now cut.0 cut.1 first more),
      search rules,
    )

pub returns : goal.returns
returns c =
    let rest = c.words.rest.now in
    let none = rw c.in_default.is at (split_parts 32 rest c.split_once.result c.split_once.ensures.cases (omega arith)) in
    let last : Prints c.words.out.items c.put_word-2.new.out.items (rest ∷ []) =
    rw (← c.as_bytes-2.ensures.value) c.in_ok-put_word-2.ensures in
    c.words.invariant.0 _ (prints_last _ _ rest none last)
