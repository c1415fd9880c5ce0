-- Cells and collapse flags that are set again, by what was set before.
use Rattle.std.proofs.Common.{◌≡◌, ℕ, List, [], ◌∷◌, ◌++◌, refl, ap, sym, ◌∙◌}
use Rattle.std.specs.Global.{Vec}
use Rattle.std.specs.Prelude.{map, Bool, true, false, not, cond, ◌==◌, ◌&&◌, ◌||◌, if◌then◌else◌}
use Rattle.std.specs.Str.{bytes_eq}
use Rattle.std.specs.Set.{KeepsOthers}
use Rattle.std.proofs.lemmas.Slice.Eq.{bytes_eq-Decides}
use Rattle.indexmap.specs.IndexSet.{IndexSet, contains_by, UpdatesBy}
use Rattle.c_tree.specs.declared.body.CCell.{CCell}
use Rattle.c_tree.specs.declared.body.Level.{Level}
use Rattle.c_tree.specs.declared.body.Level.TheVariants.{Instance, Model}
use Rattle.c_tree.specs.Raw.{At, word_at}
use Rattle.c_tree.specs.Text.{field_word}
use Rattle.c_tree.specs.rules.Bodies.{tokens_of}
use Rattle.c_tree.specs.rules.Reach.{cells_twice, flags_twice, same_cell, same_level, set_again}
use Rattle.c_form.proofs.Naming.{bytes_eq-sym}
use Rattle.c_form.proofs.Seen.{repeated_at, tokens_at}
use Rattle.c_form_reach.specs.Settings.{has_name}

same_names : (a b : List ℕ) → bytes_eq a b ≡ true → a ≡ b
same_names a b e = (bytes_eq-Decides a b).0 e

-- a name that is entered
module _ {S : Type 0} (old new : IndexSet (Vec ℕ) S) (name : List ℕ)
    (updates : UpdatesBy (λ a b. bytes_eq a.items b.items) (λ key. bytes_eq name key.items) old new true) where
  by_test : (other : List ℕ) (b : Bool) → bytes_eq other name ≡ b → has_name new other ≡ (b || has_name old other)
  unfolding KeepsOthers
  by_test other true e = ap (λ n. contains_by (λ key. bytes_eq n key.items) new) (same_names other name e) ∙ updates.1
  by_test other false e =
      updates.3 (λ key. bytes_eq other key.items) (λ x y h. ap (λ n. bytes_eq n y.items) (same_names other x.items h))
      (λ k h. ap (bytes_eq other) (sym (same_names name k.items h)) ∙ e)

  pub name-entered : (other : List ℕ) → has_name new other ≡ (bytes_eq other name || has_name old other)
  name-entered other = by_test other (bytes_eq other name) refl

same_level-sym : (a b : Level) → same_level a b ≡ same_level b a
same_level-sym Instance Instance = refl
same_level-sym Instance Model = refl
same_level-sym Model Instance = refl
same_level-sym Model Model = refl

pub same_cell-sym : (a b : CCell) → same_cell a b ≡ same_cell b a
same_cell-sym a b =
    ap (λ t. t && bytes_eq (field_word a.field) (field_word b.field)) (same_level-sym a.level b.level)
    ∙ ap (λ t. same_level b.level a.level && t) (bytes_eq-sym (field_word a.field) (field_word b.field))

-- cells at their words
abbrev pub cell_token : At CCell → ℕ
cell_token c = word_at c

abbrev pub cell_key : At CCell → CCell
cell_key c = c.value

cell-tokens : (cell : CCell) (xs : List (At CCell)) → tokens_at cell_token cell_key same_cell cell xs ≡ set_again cell xs
cell-tokens cell [] = refl
cell-tokens cell (c ∷ rest) = ap (λ l. if same_cell c.value cell then word_at c ∷ l else l) (cell-tokens cell rest)

pub cells-again : (xs : List (At CCell)) → repeated_at cell_token cell_key same_cell xs ≡ cells_twice xs
cells-again [] = refl
cells-again (c ∷ rest) =
    ap (λ l. l ++ repeated_at cell_token cell_key same_cell rest) (cell-tokens c.value rest)
    ∙ ap (λ l. set_again c.value rest ++ l) (cells-again rest)

-- flags at their words
abbrev pub flag_token : At ℕ → ℕ
flag_token f = word_at f

abbrev pub flag_key : At ℕ → ℕ
flag_key f = f.value

abbrev pub at_word : At ℕ → At ℕ
at_word f = record { at = word_at f; value = f.value }

flag-tokens : (i : ℕ) (xs : List (At ℕ)) → tokens_at flag_token flag_key (λ a b. a == b) i xs ≡ tokens_of i (map at_word xs)
flag-tokens i [] = refl
flag-tokens i (x ∷ rest) = ap (λ l. if x.value == i then word_at x ∷ l else l) (flag-tokens i rest)

pub flags-again : (xs : List (At ℕ)) → repeated_at flag_token flag_key (λ a b. a == b) xs ≡ flags_twice xs
flags-again [] = refl
flags-again (x ∷ rest) =
    ap (λ l. l ++ repeated_at flag_token flag_key (λ a b. a == b) rest) (flag-tokens x.value rest)
    ∙ ap (λ l. tokens_of x.value (map at_word rest) ++ l) (flags-again rest)

pub unless-seen : (seen fresh : Bool) (at : ℕ) → fresh ≡ not seen → (if fresh then [] else at ∷ []) ≡ (if seen then at ∷ [] else [])
unless-seen true true at e = cc e
unless-seen true false at e = refl
unless-seen false true at e = refl
unless-seen false false at e = cc e

-- a number that is entered
pub number-entered : (b c : Bool) → cond b true c ≡ (b || c)
number-entered true c = refl
number-entered false c = refl
