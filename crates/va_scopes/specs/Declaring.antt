-- Declarations put before those that are seen, one after the other.
use Rattle.std.specs.Prelude.{List, [], ◌∷◌, if◌then◌else◌}
use Rattle.va_sem.specs.Scopes.{Declared, is_builtin}

-- the name of a built-in function can't be declared
abbrev pub in_front : Declared → List Declared → List Declared
in_front d known = if is_builtin d.name then known else d ∷ known

abbrev pub all_in_front : List Declared → List Declared → List Declared
all_in_front [] known = known
all_in_front (d ∷ names) known = in_front d (all_in_front names known)
