-- A module keeps to classes where each value that its statements ask for does.
use Rattle.std.specs.Prelude.{Bool, true, false, List, [], ◌∷◌, ℕ}
use Rattle.std.proofs.Common.{inl}
use Rattle.va_sem.specs.rules.Values.{Purpose, assigned, contributed}
use Rattle.va_tree.specs.declared.stmt.EventKind.TheVariants.{InitialStep, FinalStep}
use Rattle.va_tree.specs.Expressions.{Expression}
use Rattle.va_tree.specs.Statements.{Statement, Statements, Items, Defaults, null, block, only_if, if_else, cases, for_loop, while_loop, repeat_loop, event, assign, contribute, task, no_more as no_statement, statement_then, no_items, item_then, no_defaults, default_then}
use Rattle.va_meaning.specs.Classes.{Classes, Slots, IsIn, AreIn, AssignmentIn, ContributionIn, Keeps, AllKeep, ItemsKeep, DefaultsKeep, BlocksKeep}
use Rattle.va_meaning.specs.EachValue.{EachValue, EachValueOfAll, EachValueOfItems, EachValueOfDefaults, EachValueOfBlocks}
use Rattle.va_meaning.specs.Elaborated.{Elaborated}
use Rattle.va_meaning.specs.Runs.{under, under_all, item_values}
use Rattle.va_meaning.proofs.Everything.{are_both}

-- P holds of what is assigned, and Q of what is contributed; tests are of every kind.
module _ {C : Type 0} (M : Elaborated) (K : Classes C) (slots : Slots C) (P Q : Bool → Purpose → Expression → Type 0)
    (assigns : (here : Bool) (at : ℕ) (e : Expression) → P here (assigned at) e → AssignmentIn M K slots false (M.meaning at) e)
    (contributes : (here biased : Bool) (at : ℕ) (e : Expression) → Q here (contributed at) e → ContributionIn M K slots biased false (M.meaning at) e)
    (tests : (e : Expression) → IsIn M K slots K.top e) where
  are_tests : (es : List Expression) → AreIn M K slots K.top es
  are_tests [] = tt
  are_tests (e ∷ es) = (tests e, are_tests es)

  items_tests : (items : Items) → AreIn M K slots K.top (item_values items)
  items_tests no_items = tt
  items_tests (item_then at values body rest) = are_both M K slots values (item_values rest) (are_tests values) (items_tests rest)

  mutual
    pub each_keeps : (here b : Bool) (p : Statement) → EachValue M P here p → EachValue M Q here p → Keeps M K slots b false p
    each_keeps here b (null at) h q = tt
    each_keeps here b (block at label declarations body) h q = all_keep here b body h q
    each_keeps here b (only_if at test first) h q = inl ((tests test, tt), each_keeps (under M here test) (under M b test) first h.1 q.1)
    each_keeps here b (if_else at test first second) h q =
        inl ((tests test, tt), (each_keeps (under M here test) (under M b test) first h.1 q.1, each_keeps (under M here test) (under M b test) second h.2 q.2))
    each_keeps here b (cases at selector items defaults) h q =
        let all_here = under_all M here (selector ∷ item_values items) in
        let below = under_all M b (selector ∷ item_values items) in
        inl ((tests selector, items_tests items), (items_keep all_here below items h.1 q.1, defaults_keep all_here below defaults h.2 q.2))
    each_keeps here b (for_loop at target first test target' step body) h q = (
      assigns true target.at first h.1,
      inl ((tests test, tt), (assigns true target'.at step h.2, each_keeps true (under M b test) body h.3 q.3)),
    )
    each_keeps here b (while_loop at test body) h q = inl ((tests test, tt), each_keeps true (under M b test) body h.1 q.1)
    each_keeps here b (repeat_loop at count body) h q = inl ((tests count, tt), each_keeps true (under M b count) body h.1 q.1)
    each_keeps here b (event at InitialStep analyses body) h q = each_keeps here b body h q
    each_keeps here b (event at FinalStep analyses body) h q = tt
    each_keeps here b (assign at target value) h q = assigns here at value h
    each_keeps here b (contribute at bytes first second value) h q = contributes here b at value q
    each_keeps here b (task at bytes args) h q = tt

    all_keep : (here b : Bool) (ps : Statements) → EachValueOfAll M P here ps → EachValueOfAll M Q here ps → AllKeep M K slots b false ps
    all_keep here b no_statement h q = tt
    all_keep here b (statement_then p ps) h q = (each_keeps here b p h.0 q.0, all_keep here b ps h.1 q.1)

    items_keep : (here b : Bool) (items : Items) → EachValueOfItems M P here items → EachValueOfItems M Q here items → ItemsKeep M K slots b false items
    items_keep here b no_items h q = tt
    items_keep here b (item_then at values body rest) h q = (each_keeps here b body h.0 q.0, items_keep here b rest h.1 q.1)

    defaults_keep : (here b : Bool) (defaults : Defaults) → EachValueOfDefaults M P here defaults → EachValueOfDefaults M Q here defaults
        → DefaultsKeep M K slots b false defaults
    defaults_keep here b no_defaults h q = tt
    defaults_keep here b (default_then at body rest) h q = each_keeps here b body h.0 q.0

  pub blocks_keep : (blocks : List Statement) → EachValueOfBlocks M P blocks → EachValueOfBlocks M Q blocks → BlocksKeep M K slots blocks
  blocks_keep [] h q = tt
  blocks_keep (p ∷ ps) h q = (each_keeps false false p h.0 q.0, blocks_keep ps h.1 q.1)
