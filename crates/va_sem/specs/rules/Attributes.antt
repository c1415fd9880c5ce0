-- The strings of attributes (Lexical conventions).
use Rattle.std.specs.Prelude.{List, Option, None, filter, flat_map, option_and_then}
use Rattle.std.specs.List.{last_or}
use Rattle.std.specs.Str.{bytes_eq}
use Rattle.va_tree.specs.declared.source.Attribute.{Attribute}
use Rattle.va_tree.specs.declared.source.AttributeGroup.{AttributeGroup}
use Rattle.va_sem.specs.Lookup.{Bytes}
use Rattle.va_sem.specs.Disciplines.{units_given as string_given}

-- The string of a declaration's attribute of this name. Of several attributes the last counts, also where it has no string.
abbrev pub attribute_string : Bytes → List AttributeGroup → Option Bytes
attribute_string name groups =
    option_and_then (λ (a : Attribute). option_and_then string_given a.value)
    (last_or None (filter (λ (a : Attribute). bytes_eq a.name name) (flat_map (λ (g : AttributeGroup). g.attributes) groups)))
