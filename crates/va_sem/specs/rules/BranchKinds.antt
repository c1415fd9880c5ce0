-- What the contributions to a branch make of it (Contribution statements, Switch branches). This profile knows three kinds, and
-- refuses other switch branches.
use Rattle.std.specs.Prelude.{ℕ, ◌==◌, ◌&&◌, ◌||◌, Bool, true, false, not, List, Option, Some, None, if◌then◌else◌, filter, filter_map, length}
use Rattle.std.specs.List.{list_any, list_all}
use Rattle.va_tree.specs.declared.expr.UnaryOp.{UnaryOp}
use Rattle.va_tree.specs.declared.expr.UnaryOp.TheVariants.{Plus, Minus, Not}
use Rattle.va_tree.specs.Expressions.{Expression, literal, infinity, name, group, unary, binary, choose, call}
use Rattle.va_tree.specs.Statements.{Statement, Statements, Items, Defaults, null, block, only_if, if_else, cases, for_loop, while_loop, repeat_loop, event, assign, contribute, task, no_more, statement_then, no_items, item_then, no_defaults, default_then}
use Rattle.va_sem.specs.declared.branch.BranchKind.{BranchKind}
use Rattle.va_sem.specs.declared.branch.BranchKind.TheVariants.{Flow, Collapsing, Potential}
use Rattle.va_sem.specs.declared.names.Meaning.{Meaning}
use Rattle.va_sem.specs.declared.names.Meaning.TheVariants as means
use Rattle.va_sem.specs.TextOrder.{in_text_order}
use Rattle.va_sem.specs.rules.Uses.{meaning_of, is_access_to, is_flow_of}
use Rattle.va_sem.specs.rules.Values.{Purpose, contributed, Value, evaluated, is_evaluated}
use Rattle.va_sem.specs.rules.Biased.{Analysis, is_biased}

-- a contribution: the token of its access, its branch, whether it is of a flow, and the conditions over it
pub record Contribution : Type 0 where
  pub at : ℕ
  pub branch : ℕ
  pub is_flow : Bool
  pub value : Expression
  pub conditions : List Expression

abbrev pub contribution_by : ℕ → Value → Option Meaning → Option Contribution
contribution_by at v (Some (means.Access branch turned flow)) =
    Some (record { at = at; branch = branch; is_flow = flow; value = v.expression; conditions = v.around.conditions })
contribution_by at v _ = None

abbrev pub contribution_for : (ℕ → Option Meaning) → Value → Purpose → Option Contribution
contribution_for meaning v (contributed at) = contribution_by at v (meaning at)
contribution_for meaning v _ = None

-- the contributions of a module, in the order of their tokens
abbrev pub contributions : Analysis → List Contribution
contributions a = in_text_order (λ c. c.at) (filter_map (λ v. contribution_for a.meaning v v.purpose) a.values)

abbrev pub signed_zero : UnaryOp → Bool → Bool
signed_zero Plus zero = zero
signed_zero Minus zero = zero
signed_zero Not zero = false

-- a numeral of mantissa 0, under any signs and parentheses
abbrev pub is_zero : Expression → Bool
is_zero (literal at value integer) = value.mantissa == 0
is_zero (infinity at) = false
is_zero (name at bytes) = false
is_zero (group at inner) = is_zero inner
is_zero (unary at op operand) = signed_zero op (is_zero operand)
is_zero (binary at left op right) = false
is_zero (choose at test first second) = false
is_zero (call at callee bytes args) = false

module _ (meaning : ℕ → Option Meaning) (branch : ℕ) where
  abbrev mutual
    -- Whether every path through a statement contributes to the branch. Values play no part, so no loop does.
    pub always_contributes : Statement → Bool
    always_contributes (null at) = false
    always_contributes (block at label declarations body) = some_contributes body
    always_contributes (only_if at test body) = false
    always_contributes (if_else at test first second) = always_contributes first && always_contributes second
    always_contributes (cases at selector items no_defaults) = false
    always_contributes (cases at selector items (default_then at' body rest)) = each_item_contributes items && (always_contributes body && each_default_contributes rest)
    always_contributes (for_loop at target first test target' step body) = false
    always_contributes (while_loop at test body) = false
    always_contributes (repeat_loop at count body) = false
    always_contributes (event at kind analyses body) = is_evaluated kind && always_contributes body
    always_contributes (assign at target value) = false
    always_contributes (contribute at access first second value) = is_access_to branch (meaning at)
    always_contributes (task at bytes args) = false

    pub some_contributes : Statements → Bool
    some_contributes no_more = false
    some_contributes (statement_then s rest) = always_contributes s || some_contributes rest

    pub each_item_contributes : Items → Bool
    each_item_contributes no_items = true
    each_item_contributes (item_then at values body rest) = always_contributes body && each_item_contributes rest

    pub each_default_contributes : Defaults → Bool
    each_default_contributes no_defaults = true
    each_default_contributes (default_then at body rest) = always_contributes body && each_default_contributes rest

abbrev pub is_empty : {T : Type 0} → List T → Bool
is_empty list = length list == 0

module _ (a : Analysis) where
  abbrev pub flows_to : ℕ → List Contribution
  flows_to branch = filter (λ c. c.branch == branch && c.is_flow) (contributions a)

  abbrev pub potentials_to : ℕ → List Contribution
  potentials_to branch = filter (λ c. c.branch == branch && not c.is_flow) (contributions a)

  -- zero under fixed conditions
  abbrev pub may_collapse : Contribution → Bool
  may_collapse c = is_zero c.value && not (list_any (is_biased a.meaning a.biased) c.conditions)

  -- whether the flow of a branch is read
  abbrev pub is_flow_read : ℕ → Bool
  is_flow_read branch = list_any (λ part. is_flow_of branch (meaning_of a.meaning part)) (evaluated a.values)

  -- Flow: no potential is contributed. Collapsing: each potential that is contributed may collapse the branch, and its flow isn't
  -- read. Potential: no flow is contributed, and every path contributes. Any other branch has no kind.
  abbrev pub kind_of : ℕ → Option BranchKind
  kind_of branch =
      if is_empty (potentials_to branch) then Some Flow
      else (if list_all may_collapse (potentials_to branch) && not (is_flow_read branch) then Some Collapsing
      else (if is_empty (flows_to branch) && list_any (always_contributes a.meaning branch) a.blocks then Some Potential
      else None))
