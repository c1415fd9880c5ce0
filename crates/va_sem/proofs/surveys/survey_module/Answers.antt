use Rattle.std.specs.Prelude.{List, length, flat_map}
use Rattle.std.specs.Ordering.{nat_cmp}
use Rattle.std.specs.BTreeMap as tree
use Rattle.std.proofs.Common.{◌∙◌, ap}
use Rattle.alg_laws.specs.Least.{listed}
use Rattle.va_sem.specs.declared.names.NameUse.{NameUse}
use Rattle.va_sem.specs.Typing.{meaning_at}
use Rattle.va_sem.specs.rules.Findings.{given_in}
use Rattle.va_sem.proofs.Surveying.{found_is}
use Rattle.va_sem.proofs.surveys.survey_module.Goals as goal

pub returns : goal.returns
returns c =
    let M = tree.get nat_cmp c.in_ok-meanings.meanings in
    record {
      meanings = λ at. c.in_ok-meanings.ensures at ∙ ap (λ (u : List NameUse). meaning_at u at) c.as_list.ensures;
      findings = found_is c.args.names.now c.args.m.now M (listed c.as_slice.result.now) (length c.as_list-2.result.now) c.as_list-items.result.now c.in_ok-findings.findings.items
          (λ at. c.in_ok-meanings.ensures at ∙ ap (λ (u : List NameUse). meaning_at u at) c.as_list.ensures)
          (ap length c.as_list-2.ensures) c.as_list-items.ensures
          (λ x. ap (λ list. listed list x) c.as_slice.ensures.value ∙ c.in_ok-biased.ensures x)
          c.in_ok-findings.ensures;
      givens = c.in_ok-givens.ensures ∙ ap (flat_map given_in) c.as_slice-2.ensures.value;
    }
