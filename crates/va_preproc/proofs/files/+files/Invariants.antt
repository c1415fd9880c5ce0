use Rattle.std.proofs.Common.{◌≡◌, ◌+◌, ◌*◌, ◌-◌, [], drop, length}
use Rattle.std.specs.Prelude.{reverse}
use Rattle.va_preproc.specs.Expansion.{Readings}
use Rattle.va_preproc.specs.Values.{state_of}
use Rattle.va_preproc.specs.Steps.{limits_of, world, Asks, Agrees, IsFit, file_step}
use Rattle.va_preproc.proofs.files.+files.Given as goal

abbrev pub decreases-expand_last : goal.decreases-expand_last
decreases-expand_last g l = 5 * l.open.now.depth + 4

abbrev pub decreases-expand_file : goal.decreases-expand_file
decreases-expand_file g l = 5 * l.open.now.depth + 3

abbrev pub decreases-expand_token : goal.decreases-expand_token
decreases-expand_token g l = 5 * l.open.now.depth + 2

abbrev pub decreases-at_include : goal.decreases-at_include
decreases-at_include g l = 5 * l.open.now.depth + 1

abbrev pub decreases-include : goal.decreases-include
decreases-include g l = 5 * l.open.now.depth

-- what was asked for so far, and what is left of the file
abbrev pub invariant-expand_file-tokens : goal.invariant-expand_file-tokens
invariant-expand_file-tokens g l =
    let F = g.F.Files in
    let most = l.fn.open.limits.bytes in
    let limits = limits_of l.fn.open.limits in
    let depth = l.fn.open.depth in
    let name = l.fn.open.name.now in
    record {
      asks : Asks most (world (F.holds l.fn.files) (F.asked l.fn.files) (F.faults l.fn.files)) (world (F.holds l.files) (F.asked l.files) (F.faults l.files))
          l.fn.known.files.items l.known.files.items [];
      fit : IsFit most 0 l.known l.progress;
      follows : (r : Readings) → Agrees most r l.known.files.items
          → file_step limits depth name l.known.files.items (drop l.at l.fn.tokens) (reverse l.branches.items) (state_of l.known l.progress) r
          ≡ file_step limits depth name l.fn.known.files.items l.fn.tokens [] (state_of l.fn.known l.fn.progress) r;
    }

abbrev pub decreases-expand_file-tokens : goal.decreases-expand_file-tokens
decreases-expand_file-tokens g l = length l.fn.tokens - l.at
