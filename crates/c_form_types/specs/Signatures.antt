-- The signature of what is called, as the program makes it.
use Rattle.std.specs.Prelude.{Option, Some, None}
use Rattle.c_tree.specs.rules.Types as rule
use Rattle.c_form_types.specs.declared.signatures.Signature.{Signature}

abbrev pub signature_view : Signature → rule.Signature
signature_view s = record { arguments = s.arguments.items; result = s.result }

abbrev pub shown : Option Signature → Option rule.Signature
shown None = None
shown (Some s) = Some (signature_view s)
