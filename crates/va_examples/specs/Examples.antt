-- What a small module gives at a point, over the numbers modulo 1000003.
use Rattle.std.specs.Prelude.{ℕ, zero, suc, ◌+◌, ◌==◌, Bool, if◌then◌else◌, List, [], ◌∷◌, Option, Some, None, codes, get_or, length}
use Rattle.alg_laws.specs.declared.dual.Dual.{Dual}
use Rattle.alg_laws.specs.declared.number.Number.{Number}
use Rattle.alg_laws.specs.declared.number.Number.TheVariants.{Real}
use Rattle.alg_laws.specs.declared.number.Reason.{Reason}
use Rattle.alg_laws.specs.Dual.{dual}
use Rattle.alg_laws.specs.Outcome.{Outcome, gives, ◌>>=◌}
use Rattle.alg_laws.specs.Residue.{residue_ops}
use Rattle.va_tree.specs.declared.expr.Expr.{Expr}
use Rattle.va_tree.specs.declared.module.Direction.TheVariants.{Inout}
use Rattle.va_tree.specs.declared.module.Item.{Item}
use Rattle.va_tree.specs.declared.module.ItemBody.TheVariants as item
use Rattle.va_tree.specs.declared.module.Module.{Module}
use Rattle.va_tree.specs.declared.source.Source.{Source}
use Rattle.va_tree.specs.declared.stmt.Stmt.{Stmt}
use Rattle.va_sem.specs.Meanings.{names_of_module}
use Rattle.va_sem.specs.SmallTrees.{natures, disciplines, module_at}
use Rattle.va_meaning.specs.Elaborated.{Elaborated}
use Rattle.va_meaning.specs.Elaboration.{elaborated}
use Rattle.va_meaning.specs.Residuals.{jacobian_column, operating_value, residual_parts}
use Rattle.va_meaning.specs.SetUp.{Settings, Answer, answer, instance_level, was_given, point_of, collapse_flags}
use Rattle.va_examples.specs.Notation.{Text, n, row, plain, across, to_ground, contribute, contribute_alone}

-- module m(a, c); inout a, c; electrical a, c; items endmodule, with `electrical`, `V` and `I` declared before it
abbrev pub module_of : List (Text Item) → Module
module_of items =
    module_at [] 76 (codes "m") (n 78 (codes "a") ∷ n 80 (codes "c") ∷ [])
    (plain (item.Direction 83 Inout None (n 84 (codes "a") ∷ n 86 (codes "c") ∷ [])) ∷ plain (item.Nodes 88 (codes "electrical") (n 89 (codes "a") ∷ n 91 (codes "c") ∷ [])) ∷ (row items 93).is)

abbrev pub source_of : Module → Source
source_of m = record { natures = natures; disciplines = disciplines; modules = m ∷ [] }

abbrev pub model : List (Text Item) → Elaborated
model items = let m = module_of items in elaborated (names_of_module (source_of m) 0 m) m

-- V(a), V(c), V(a, c), I(a) <+ e; and I(a, c) <+ e;
abbrev pub v_a : Text Expr
v_a = to_ground (codes "V") (codes "a")

abbrev pub v_c : Text Expr
v_c = to_ground (codes "V") (codes "c")

abbrev pub v_a_c : Text Expr
v_a_c = across (codes "V") (codes "a") (codes "c")

abbrev pub to_a : Text Expr → Text Stmt
to_a = contribute_alone (codes "I") (codes "a")

abbrev pub to_a_c : Text Expr → Text Stmt
to_a_c = contribute (codes "I") (codes "a") (codes "c")

-- what is given: nothing, or by the numbers of parameters on the model alone
abbrev pub by_default : Settings ℕ
by_default = record { model = λ p. None; instance = λ p. None }

abbrev pub on_model : List (Option (Number ℕ)) → Settings ℕ
on_model given = record { model = λ p. get_or given p None; instance = λ p. None }

abbrev pub on_instance : List (Option (Number ℕ)) → Settings ℕ
on_instance given = record { model = λ p. None; instance = λ p. get_or given p None }

abbrev pub on_both : List (Option (Number ℕ)) → List (Option (Number ℕ)) → Settings ℕ
on_both model instance = record { model = λ p. get_or model p None; instance = λ p. get_or instance p None }

-- a value in two parts, the resistive and the reactive one
abbrev pub part : ℕ → ℕ → Dual ℕ
part resistive reactive = record { main = resistive; part = reactive }

-- What set-up and an evaluation at 300 kelvin and some unknowns give, where loops make at most 10 turns at each entry.
abbrev pub answer_at : List (Text Item) → Settings ℕ → List ℕ → Outcome Reason (Answer ℕ)
answer_at items settings unknowns = answer (model items) residue_ops settings 300 (λ i. get_or unknowns i 0) 10

-- the residuals
abbrev pub rows_at : List (Text Item) → Settings ℕ → List ℕ → Outcome Reason (List (Dual ℕ))
rows_at items settings unknowns = answer_at items settings unknowns >>= λ a. gives a.rows

-- the collapse flags
abbrev pub flags_at : List (Text Item) → Settings ℕ → List ℕ → Outcome Reason (List Bool)
flags_at items settings unknowns = answer_at items settings unknowns >>= λ a. gives (collapse_flags (model items) a.last)

-- the parameters of the instance that are out of range
abbrev pub errors_at : List (Text Item) → Settings ℕ → List ℕ → Outcome Reason (List ℕ)
errors_at items settings unknowns = answer_at items settings unknowns >>= λ a. gives a.instance.errors

-- the operating-point value of a variable
abbrev pub variable_at : ℕ → List (Text Item) → Settings ℕ → List ℕ → Outcome Reason (Number ℕ)
variable_at x items settings unknowns = answer_at items settings unknowns >>= λ a. gives (operating_value a.last x)

-- the columns of the Jacobian, as many as there are unknowns, from one on
abbrev pub columns_from : Elaborated → Settings ℕ → List (Number ℕ) → List ℕ → ℕ → ℕ → Outcome Reason (List (List (Dual ℕ)))
columns_from M settings values unknowns j zero = gives []
columns_from M settings values unknowns j (suc more) = do
  column ← jacobian_column M residue_ops (point_of M residue_ops (was_given M residue_ops settings) values 300 (λ i. get_or unknowns i 0)) 10 j
  rest ← columns_from M settings values unknowns (j + 1) more
  gives (column ∷ rest)

abbrev pub columns_at : List (Text Item) → Settings ℕ → List ℕ → Outcome Reason (List (List (Dual ℕ)))
columns_at items settings unknowns = do
  instance ← instance_level (model items) residue_ops settings
  columns_from (model items) settings instance.values unknowns 0 (length unknowns)

-- The residuals where a parameter moves on the model from a value, nothing is given, and no unknown moves. Each has two parts, and each
-- of these its sensitivity.
abbrev pub moved_rows : List (Text Item) → ℕ → ℕ → List ℕ → Outcome Reason (List (Dual (Dual ℕ)))
moved_rows items number value unknowns = do
  instance ← instance_level (model items) (dual residue_ops) (record { model = λ p. if p == number then Some (Real (part value 1)) else None; instance = λ p. None })
  residual_parts (model items) (dual residue_ops) (point_of (model items) (dual residue_ops) (was_given (model items) residue_ops by_default) instance.values (part 300 0) (λ i. part (get_or unknowns i 0) 0)) 10
