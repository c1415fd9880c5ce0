use Rattle.std.proofs.Common.{refl}
use Rattle.std.specs.Fmt.{digits}
use Rattle.std.specs.Str.{is_utf8, chars}
use lib.Utf8.{encode}
use Rattle.va_sem.proofs.rules_worked.unknowns_worked_by_hand.Goals as goal

-- each row by computation
pub returns : goal.returns
unfolding digits is_utf8 chars encode
returns c = record {
  branches_by_first_contribution = refl;
  pairs_by_first_contribution = refl;
  defaults_where_they_stand = refl;
  as_many_unknowns = refl;
  too_many_unknowns = refl;
  branch_without_kind_is_no_unknown = refl;
  as_many_parameters = refl;
  too_many_parameters = refl;
  as_many_nodes = refl;
  too_many_nodes = refl;
  as_many_products = refl;
  too_many_products = refl;
  nodes_that_are_looked_at = refl;
  node_in_an_access = refl;
}
