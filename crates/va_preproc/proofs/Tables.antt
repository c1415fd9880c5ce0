-- The table of macros.
use Rattle.std.proofs.Common.{◌≡◌, ℕ, List, [], refl, sym, ap, ◌∙◌, Bool, true, false}
use Rattle.std.specs.Global.{Vec}
use Rattle.std.specs.Prelude.{Option, None, option_map, if◌then◌else◌}
use Rattle.std.specs.Str.{bytes_eq}
use Rattle.std.proofs.lemmas.Slice.Eq.{bytes_eq-Decides}
use Rattle.std.specs.Map.{KeepsOthers, lookup}
use Rattle.indexmap.specs.IndexMap.{IndexMap, get_by, UpdatesBy}
use Rattle.va_base.specs.declared.file.FileText.{FileText}
use Rattle.va_preproc.specs.declared.known.Macro.{Macro as OwnedMacro}
use Rattle.va_preproc.specs.Lexemes.{Bytes}
use Rattle.va_preproc.specs.Expansion.{with_macro}
use Rattle.va_preproc.specs.Values.{macro_in, macros_in}

-- the macros of a table without entries
pub table_empty : {S : Type 0} (files : List FileText) (table : IndexMap (Vec ℕ) OwnedMacro S) → table.entries ≡ [] → macros_in files table ≡ (λ name. None)
table_empty files table e = λ j name. option_map (macro_in files) (lookup (λ key. bytes_eq name key.items) (e j))

same_names : (a b : Bytes) → bytes_eq a b ≡ true → a ≡ b
same_names a b e = (bytes_eq-Decides a b).0 e

module _ {S : Type 0} (files : List FileText) (old new : IndexMap (Vec ℕ) OwnedMacro S) (name : Bytes) (w : Option OwnedMacro)
    (updates : UpdatesBy (λ a b. bytes_eq a.items b.items) (λ key. bytes_eq name key.items) old new w) where
  by_test : (other : Bytes) (b : Bool) → bytes_eq other name ≡ b
      → option_map (macro_in files) (get_by (λ key. bytes_eq other key.items) new)
      ≡ (if b then option_map (macro_in files) w else macros_in files old other)
  unfolding KeepsOthers
  by_test other true e =
      ap (λ n. option_map (macro_in files) (get_by (λ key. bytes_eq n key.items) new)) (same_names other name e)
      ∙ ap (option_map (macro_in files)) updates.1
  by_test other false e =
      ap (option_map (macro_in files)) (updates.3 (λ key. bytes_eq other key.items)
      (λ x y h. ap (λ n. bytes_eq n y.items) (same_names other x.items h))
      (λ k h. ap (bytes_eq other) (sym (same_names name k.items h)) ∙ e))

  pub table_updates : macros_in files new ≡ with_macro name (option_map (macro_in files) w) (macros_in files old)
  table_updates = λ j other. by_test other (bytes_eq other name) refl j
