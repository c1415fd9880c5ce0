-- What doesn't depend on the unknowns (Conditional statements, Switch branches). This profile tells it by biased variables: a module
-- keeps to a set of them.
use Rattle.std.specs.Prelude.{◌≡◌, ℕ, ◌||◌, Bool, true, false, List, [], ◌∷◌, Option, Some}
use Rattle.va_sem.specs.declared.branch.BranchKind.TheVariants.{Collapsing}
use Rattle.va_sem.specs.declared.builtin.SystemFunction.TheVariants.{Limit}
use Rattle.va_sem.specs.declared.names.Meaning.{Meaning}
use Rattle.va_sem.specs.declared.names.Meaning.TheVariants.{Var, Access}
use Rattle.va_tree.specs.declared.stmt.EventKind.TheVariants.{InitialStep, FinalStep}
use Rattle.va_tree.specs.Expressions.{Expression, Arguments, literal, infinity, name, group, unary, binary, choose, call, no_more, text_then, expression_then}
use Rattle.va_tree.specs.Statements.{Statement, Statements, Items, Defaults, null, block, only_if, if_else, cases, for_loop, while_loop, repeat_loop, event, assign, contribute, task, no_more as no_statement, statement_then, no_items, item_then, no_defaults, default_then}
use Rattle.va_meaning.specs.Called.{Called, builtin, system, function, access, none, called}
use Rattle.va_meaning.specs.Elaborated.{Elaborated}
use Rattle.va_meaning.specs.Points.{State}
use Rattle.va_meaning.specs.Runs.{under, under_all, item_values}

-- A call is fixed where the arguments that are looked at are: of `$limit` the first alone. An access is not.
abbrev pub IsCallFixed : Called → Type 0 → Type 0 → Type 0
IsCallFixed (builtin b) first all = all
IsCallFixed (system Limit) first all = first
IsCallFixed (system s) first all = all
IsCallFixed (function f) first all = all
IsCallFixed (access b turned flow) first all = ⊥
IsCallFixed none first all = Unit {0}

module _ (M : Elaborated) (biased : ℕ → Bool) where
  abbrev pub IsNameFixed : Option Meaning → Type 0
  IsNameFixed (Some (Var x)) = biased x ≡ false
  IsNameFixed m = Unit {0}

  abbrev mutual
    -- An expression is fixed: what of it is looked at reads no unknown and no biased variable.
    pub IsFixed : Expression → Type 0
    IsFixed (literal at value integer) = Unit {0}
    IsFixed (infinity at) = Unit {0}
    IsFixed (name at bytes) = IsNameFixed (M.meaning at)
    IsFixed (group at inner) = IsFixed inner
    IsFixed (unary at op operand) = IsFixed operand
    IsFixed (binary at left op right) = IsFixed left × IsFixed right
    IsFixed (choose at test a b) = IsFixed test × IsFixed a × IsFixed b
    IsFixed (call at callee bytes args) = IsCallFixed (called (M.meaning at) callee bytes) (IsFirstFixed args) (AreFixed args)

    pub AreFixed : Arguments → Type 0
    AreFixed no_more = Unit {0}
    AreFixed (text_then text rest) = AreFixed rest
    AreFixed (expression_then e rest) = IsFixed e × AreFixed rest

    pub IsFirstFixed : Arguments → Type 0
    IsFirstFixed no_more = Unit {0}
    IsFirstFixed (text_then text rest) = Unit {0}
    IsFirstFixed (expression_then e rest) = IsFixed e

  -- What is assigned under a biased condition, or has a biased value, is a biased variable.
  abbrev pub AssignmentKeeps : Bool → Option Meaning → Type 0
  AssignmentKeeps is_biased (Some (Var x)) = is_biased ≡ true → biased x ≡ true
  AssignmentKeeps is_biased m = Unit {0}

  -- No potential is contributed to a collapsing branch under a biased condition.
  abbrev pub ContributionKeeps : Bool → Option Meaning → Type 0
  ContributionKeeps is_biased (Some (Access b turned false)) = M.kind b ≡ Collapsing → is_biased ≡ false
  ContributionKeeps is_biased m = Unit {0}

  abbrev mutual
    -- This holds of all assignments and contributions in a statement, by whether a condition over it is biased.
    pub Keeps : Bool → Statement → Type 0
    Keeps here (null at) = Unit {0}
    Keeps here (block at label declarations body) = AllKeep here body
    Keeps here (only_if at test a) = Keeps (under M here test) a
    Keeps here (if_else at test a b) = Keeps (under M here test) a × Keeps (under M here test) b
    Keeps here (cases at selector items defaults) =
        ItemsKeep (under_all M here (selector ∷ item_values items)) items × DefaultsKeep (under_all M here (selector ∷ item_values items)) defaults
    Keeps here (for_loop at target first test target' step body) =
        AssignmentKeeps (under M here test || M.is_biased first) (M.meaning target.at)
        × AssignmentKeeps (under M here test || M.is_biased step) (M.meaning target'.at) × Keeps (under M here test) body
    Keeps here (while_loop at test body) = Keeps (under M here test) body
    Keeps here (repeat_loop at count body) = Keeps (under M here count) body
    Keeps here (event at InitialStep analyses body) = Keeps here body
    Keeps here (event at FinalStep analyses body) = Unit {0}
    Keeps here (assign at target value) = AssignmentKeeps (here || M.is_biased value) (M.meaning at)
    Keeps here (contribute at bytes first second value) = ContributionKeeps here (M.meaning at)
    Keeps here (task at bytes args) = Unit {0}

    pub AllKeep : Bool → Statements → Type 0
    AllKeep here no_statement = Unit {0}
    AllKeep here (statement_then s rest) = Keeps here s × AllKeep here rest

    pub ItemsKeep : Bool → Items → Type 0
    ItemsKeep here no_items = Unit {0}
    ItemsKeep here (item_then at values body rest) = Keeps here body × ItemsKeep here rest

    pub DefaultsKeep : Bool → Defaults → Type 0
    DefaultsKeep here no_defaults = Unit {0}
    DefaultsKeep here (default_then at body rest) = Keeps here body × DefaultsKeep here rest

  abbrev pub BlocksKeep : List Statement → Type 0
  BlocksKeep [] = Unit {0}
  BlocksKeep (s ∷ rest) = Keeps false s × BlocksKeep rest

-- A module keeps to a set of biased variables: each expression that isn't biased is fixed, and its statements keep to the set.
pub record KeepsToBias (M : Elaborated) (biased : ℕ → Bool) : Type 0 where
  pub expressions : (e : Expression) → M.is_biased e ≡ false → IsFixed M biased e
  pub blocks : BlocksKeep M biased M.blocks

-- States with the same values of fixed variables, and the same marks of collapsing branches.
pub record SameFixed {V : Type 0} (M : Elaborated) (biased : ℕ → Bool) (s t : State V) : Type 0 where
  pub variables : (x : ℕ) → biased x ≡ false → s.variables x ≡ t.variables x
  pub marks : (b : ℕ) → M.kind b ≡ Collapsing → s.marks b ≡ t.marks b
