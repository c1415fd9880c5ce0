use Rattle.std.proofs.Common.{sym}
use Rattle.va_base.specs.Expansion.{token_bytes}
use Rattle.va_preproc.proofs.Roles.{other_kind}
use Rattle.va_preproc.proofs.role.is_line_end.Goals as goal

-- no other kind is a line's end
pub returns-in_default : goal.returns-in_default
returns-in_default c = λ files. sym (other_kind c.args.token.now.kind (token_bytes files c.args.token.now) c.in_default.not-Newline)
