-- What is known of a checked text.
use Rattle.std.specs.Prelude.{◌≡◌, ◌≤◌, map, length, Some, Contains}
use Rattle.va_tree.specs.declared.source.Source.{Source}
use Rattle.va_tree.specs.Nodes.{Node, nodes_of_source}
use Rattle.va_tree.specs.OwnTokens.{EachNameHasItsToken}
use Rattle.va_sem.specs.declared.checked.Checked.TheInside.{Inside}
use Rattle.va_sem.specs.Meanings.{names_of}
use Rattle.va_sem.specs.Typing.{types_of}
use Rattle.va_sem.specs.Faults.{KeepsRules, HasSoundNumerals}
use Rattle.va_sem.specs.Kinds.{kinds_of, unknowns_of}

-- At most 64 modules, and no node deeper than 500, as where no fault of size stands.
pub record IsOfSize (s : Source) : Type 0 where
  pub modules : length s.modules ≤ 64
  pub depth : (n : Node) → Contains (nodes_of_source s) n → n.depth ≤ 500

-- The tree is of allowed size, each of its names has a token of its own, it keeps all rules and its numerals are sound, and what
-- stands beside it is what the definitions say of it.
pub record IsChecked (c : Inside) : Type 0 where
  pub size : IsOfSize c.source
  pub tokens : EachNameHasItsToken c.source
  pub keeps : KeepsRules c.source
  pub numerals : HasSoundNumerals c.source
  pub names : c.names ≡ names_of c.source
  pub types : c.typed ≡ types_of c.source (names_of c.source)
  pub kinds : map (map Some) c.kinds ≡ kinds_of c.source
  pub unknowns : c.unknowns ≡ unknowns_of c.source
