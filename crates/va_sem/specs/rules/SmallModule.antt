-- A small module of which rows are worked out by hand. The text of its analogue block differs from row to row.
use Rattle.std.specs.Prelude.{ℕ, Bool, true, false, List, [], ◌∷◌, Option, Some, None, codes, map}
use Rattle.std.specs.List.{range_with_len}
use Rattle.alg_laws.specs.declared.number.Ty.TheVariants.{Integer, Real}
use Rattle.va_base.specs.Tables.{PairLine}
use Rattle.va_tree.specs.declared.expr.BinaryOp.TheVariants.{Greater}
use Rattle.va_tree.specs.Expressions.{Expression}
use Rattle.va_tree.specs.Parts.{statement}
use Rattle.va_tree.specs.Statements.{Statement}
use Rattle.va_sem.specs.declared.branch.BranchKind.{BranchKind}
use Rattle.va_sem.specs.declared.branch.Unknown.{Unknown}
use Rattle.va_sem.specs.declared.names.BranchName.{BranchName}
use Rattle.va_sem.specs.declared.names.Meaning.{Meaning}
use Rattle.va_sem.specs.declared.names.Meaning.TheVariants as means
use Rattle.va_sem.specs.declared.names.ModuleNames.{ModuleNames}
use Rattle.va_sem.specs.declared.names.NameUse.{NameUse}
use Rattle.va_sem.specs.declared.names.NodeName.{NodeName}
use Rattle.va_sem.specs.declared.pattern.PatternEntry.{PatternEntry}
use Rattle.va_sem.specs.Typing.{Typing, Signature}
use Rattle.va_sem.specs.rules.Biased.{Analysis, analysis_of}
use Rattle.va_sem.specs.rules.BranchKinds.{kind_of}
use Rattle.va_sem.specs.rules.Dependence.{pattern}
use Rattle.va_sem.specs.rules.Unknowns.{unknowns, collapsible_pairs}
use Rattle.va_sem.specs.NamesFaults.{FaultAt}
use Rattle.va_sem.specs.rules.Limits.{Limits, limits}
use Rattle.va_sem.specs.rules.Faults.{broken_rules}
use Rattle.va_sem.specs.rules.Written.{Written, Access, number, variable, parameter, reads, between}

abbrev pub pair : ℕ → Option ℕ → BranchName
pair plus minus = record { plus = plus; minus = minus; name = None }

abbrev pub node_called : List ℕ → NodeName
node_called name = record { name = name; discipline = 0 }

-- A module with the ports a and c and the inner node i, the parameters p and q, the variables x and y and the integer variable n.
-- Its branches are a to c, a to the reference node, i to c, b from a to c, and a to i. Its function takes a real and an integer.
abbrev pub small_names : List NameUse → ModuleNames
small_names uses = record {
  nodes = node_called (codes "a") ∷ node_called (codes "c") ∷ node_called (codes "i") ∷ [];
  ports = 2;
  branches = pair 0 (Some 1) ∷ pair 0 None ∷ pair 2 (Some 1) ∷ record { plus = 0; minus = Some 1; name = Some (codes "b") } ∷ pair 0 (Some 2) ∷ [];
  params = codes "p" ∷ codes "q" ∷ [];
  vars = codes "x" ∷ codes "y" ∷ codes "n" ∷ [];
  functions = codes "f" ∷ [];
  uses = uses;
}

-- `V` and `I` of these branches
abbrev pub v : ℕ → List Meaning → Access
v number names = record { branch = number; flow = false; names = names }

abbrev pub i : ℕ → List Meaning → Access
i number names = record { branch = number; flow = true; names = names }

abbrev pub v_a_c : Access
v_a_c = v 0 (means.Node 0 ∷ means.Node 1 ∷ [])

abbrev pub i_a_c : Access
i_a_c = i 0 (means.Node 0 ∷ means.Node 1 ∷ [])

abbrev pub v_a : Access
v_a = v 1 (means.Node 0 ∷ [])

abbrev pub i_a : Access
i_a = i 1 (means.Node 0 ∷ [])

abbrev pub v_i_c : Access
v_i_c = v 2 (means.Node 2 ∷ means.Node 1 ∷ [])

abbrev pub i_i_c : Access
i_i_c = i 2 (means.Node 2 ∷ means.Node 1 ∷ [])

-- x, y, n, p and q
abbrev pub x : Written Expression
x = variable 0

abbrev pub y : Written Expression
y = variable 1

abbrev pub n : Written Expression
n = variable 2

abbrev pub p : Written Expression
p = parameter 0

-- `V(a) > 0`
abbrev pub biased_test : Written Expression
biased_test = between (reads v_a) Greater (number 0)

abbrev pub small_types : List NameUse → Typing
small_types uses = record {
  uses = uses;
  variables = Real ∷ Real ∷ Integer ∷ [];
  parameters = Real ∷ Real ∷ [];
  functions = (let f : Signature = record { arguments = Real ∷ Integer ∷ []; result = Real } in f ∷ []);
}

-- The name of the module is token 0, and the statement of its analogue block begins at token 2.
abbrev pub analysis : Written Statement → Analysis
analysis s = analysis_of (small_names (s 2).uses) ((s 2).is ∷ [])

abbrev pub broken_within : Limits → Written Statement → List FaultAt
broken_within most s =
    broken_rules most (small_types (s 2).uses) (small_names (s 2).uses)
    (record { at = 0; blocks = (s 2).is ∷ []; functions = []; parts = statement (s 2).is ∷ [] })

abbrev pub broken : Written Statement → List FaultAt
broken = broken_within limits

-- the same of a module without analogue block, of whose function this is the statement
abbrev pub broken_in_function : Written Statement → List FaultAt
broken_in_function s =
    broken_rules limits (small_types (s 2).uses) (small_names (s 2).uses) (record { at = 0; blocks = []; functions = (s 2).is ∷ []; parts = [] })

abbrev pub kinds : Written Statement → List (Option BranchKind)
kinds s = map (kind_of (analysis s)) (range_with_len 0 3)

abbrev pub unknown_list : Written Statement → List Unknown
unknown_list s = unknowns (small_names (s 2).uses) (analysis s)

abbrev pub pairs : Written Statement → List PairLine
pairs s = collapsible_pairs (small_names (s 2).uses) (analysis s)

abbrev pub collapse : ℕ → Option ℕ → PairLine
collapse first second = record { first = first; second = second }

-- of x, y and n
abbrev pub biased : Written Statement → List Bool
biased s = map (analysis s).biased (range_with_len 0 3)

abbrev pub timed : Written Statement → List Bool
timed s = map (analysis s).timed (range_with_len 0 3)

abbrev pub entries : Written Statement → List PatternEntry
entries s = pattern (small_types (s 2).uses) (small_names (s 2).uses) (analysis s)

-- listed with their resistive part, their reactive part, or both
abbrev pub resistive : ℕ → ℕ → PatternEntry
resistive row col = record { row = row; col = col; resist = true; react = false }

abbrev pub reactive : ℕ → ℕ → PatternEntry
reactive row col = record { row = row; col = col; resist = false; react = true }

abbrev pub both : ℕ → ℕ → PatternEntry
both row col = record { row = row; col = col; resist = true; react = true }
