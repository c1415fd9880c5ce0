use Rattle.std.proofs.Common.{refl, ap, ◌∙◌, lit<, lit≤}
use Rattle.std.specs.Prelude.{[], ◌∷◌, Some, codes}
use Rattle.std.specs.List.{IsDistinct}
use Rattle.va_tree.specs.declared.expr.Expr.{Name}
use Rattle.va_tree.specs.declared.expr.Expr.TheVariants.{Call}
use Rattle.va_tree.specs.declared.expr.Arg.TheVariants as arg
use Rattle.va_tree.specs.declared.expr.BinaryOp.TheVariants.{Divide}
use Rattle.va_tree.specs.declared.expr.Callee.TheVariants.{Function}
use Rattle.va_tree.specs.Expressions.{name as named, binary}
use Rattle.va_tree.specs.ExpressionLaws.{expression-Binary, expression-Call}
use Rattle.first_form.specs.Worked.{bare, directions, disciplines, resistance, contribution, resistor_module}
use Rattle.first_form.proofs.worked.resistor_worked_by_hand.Goals as goal

pub returns : goal.returns
unfolding IsDistinct
returns c =
    let args = arg.Expr (Name 34 (codes "a")) ∷ arg.Expr (Name 36 (codes "c")) ∷ [] in
    record {
      resistor_is_of_the_form = record {
        parts = record {
          parameters = bare resistance ∷ [];
          shape = record {
            only = resistor_module;
            natures = refl;
            disciplines = refl;
            modules = refl;
            attributes = refl;
            name_is = refl;
            ports = refl;
            items = record {
              directions = bare directions;
              disciplines = bare disciplines;
              contribution = bare contribution;
              listed = refl;
              bare = refl;
              inout = refl;
              electrical = refl;
              flow_is = ap Some (expression-Binary 32 (Call 32 Function (codes "V") args) Divide (Name 39 (codes "r"))
                  ∙ ap (λ e. binary 32 e Divide (named 39 (codes "r"))) (expression-Call 32 Function (codes "V") args));
            };
          };
          named = refl;
        };
        in_order = record {
          free = refl;
          distinct = ((refl, (refl, tt)), ((refl, tt), (tt, tt)));
          few = lit≤ tt;
          sum = (refl, refl, (0, lit< tt, refl));
          shallow = lit≤ tt;
        };
      };
      resistor_rows = refl;
    }
