-- What is said of each value that the statements of a module ask for (Analog procedural block).
use Rattle.std.specs.Prelude.{Bool, true, false, List, [], ◌∷◌}
use Rattle.va_sem.specs.rules.Values.{Purpose, assigned, contributed, tested}
use Rattle.va_tree.specs.declared.stmt.EventKind.TheVariants.{InitialStep, FinalStep}
use Rattle.va_tree.specs.Expressions.{Expression}
use Rattle.va_tree.specs.Statements.{Statement, Statements, Items, Defaults, null, block, only_if, if_else, cases, for_loop, while_loop, repeat_loop, event, assign, contribute, task, no_more as no_statement, statement_then, no_items, item_then, no_defaults, default_then}
use Rattle.va_meaning.specs.Elaborated.{Elaborated}
use Rattle.va_meaning.specs.Runs.{under, under_all, item_values}

module _ (M : Elaborated) (P : Bool → Purpose → Expression → Type 0) where
  -- of each of some expressions that are tested
  abbrev pub EachTested : Bool → List Expression → Type 0
  EachTested here [] = Unit {0}
  EachTested here (e ∷ es) = P here tested e × EachTested here es

  abbrev mutual
    -- P holds of each value, by whether it stands under a biased condition or in a loop, its head included, and by what it is for.
    pub EachValue : Bool → Statement → Type 0
    EachValue here (null at) = Unit {0}
    EachValue here (block at label declarations body) = EachValueOfAll here body
    EachValue here (only_if at test a) = P here tested test × EachValue (under M here test) a
    EachValue here (if_else at test a b) = P here tested test × EachValue (under M here test) a × EachValue (under M here test) b
    EachValue here (cases at selector items defaults) =
        EachTested here (selector ∷ item_values items)
        × EachValueOfItems (under_all M here (selector ∷ item_values items)) items
        × EachValueOfDefaults (under_all M here (selector ∷ item_values items)) defaults
    EachValue here (for_loop at target first test target' step body) =
        P here tested test × P true (assigned target.at) first × P true (assigned target'.at) step × EachValue true body
    EachValue here (while_loop at test body) = P here tested test × EachValue true body
    EachValue here (repeat_loop at count body) = P here tested count × EachValue true body
    EachValue here (event at InitialStep analyses body) = EachValue here body
    EachValue here (event at FinalStep analyses body) = Unit {0}
    EachValue here (assign at target value) = P here (assigned at) value
    EachValue here (contribute at bytes first second value) = P here (contributed at) value
    EachValue here (task at bytes args) = Unit {0}

    pub EachValueOfAll : Bool → Statements → Type 0
    EachValueOfAll here no_statement = Unit {0}
    EachValueOfAll here (statement_then s rest) = EachValue here s × EachValueOfAll here rest

    pub EachValueOfItems : Bool → Items → Type 0
    EachValueOfItems here no_items = Unit {0}
    EachValueOfItems here (item_then at values body rest) = EachValue here body × EachValueOfItems here rest

    pub EachValueOfDefaults : Bool → Defaults → Type 0
    EachValueOfDefaults here no_defaults = Unit {0}
    EachValueOfDefaults here (default_then at body rest) = EachValue here body × EachValueOfDefaults here rest

  -- and of each value of the analogue blocks
  abbrev pub EachValueOfBlocks : List Statement → Type 0
  EachValueOfBlocks [] = Unit {0}
  EachValueOfBlocks (s ∷ rest) = EachValue false s × EachValueOfBlocks rest
