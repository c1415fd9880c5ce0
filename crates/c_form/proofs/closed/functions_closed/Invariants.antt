use Rattle.std.proofs.Common.{◌≡◌, take}
use Rattle.std.specs.Prelude.{true}
use Rattle.std.specs.List.{list_all}
use Rattle.c_raw.specs.Blocks.{is_body}
use Rattle.c_raw.specs.declared.file.RawFunction.{RawFunction}
use Rattle.c_form.proofs.closed.functions_closed.Given as goal

abbrev pub invariant-loop-function : goal.invariant-loop-function
invariant-loop-function l = list_all (λ f. is_body (RawFunction.body f)) (take l.function-index l.list) ≡ true
