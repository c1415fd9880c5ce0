-- Raw trees without places and repeats, worked out by hand on a small file of which one part is replaced; and what the laws ask of
-- a raw tree and of a file, by trees that lack it.
use Rattle.std.specs.Prelude.{◌≡◌, ◌^◌, ℕ, List, [], ◌∷◌, map}
use Rattle.alg_laws.specs.declared.number.Ty.TheVariants.{Integer, Real}
use Rattle.c_tree.specs.declared.body.CField.{CField}
use Rattle.c_tree.specs.declared.body.CField.TheVariants.{Param, Given, Temperature}
use Rattle.c_tree.specs.FileOf.{file_of}
use Rattle.c_tree.specs.Form.{blamed}
use Rattle.c_tree.specs.Raw.{At, simple, set_cell, closed, loop, RawField, RawModule, RawFile}
use Rattle.c_tree.specs.RawOf.{at_0, raw_of}
use Rattle.c_tree.specs.WorkedForm.{on, real, model, small, descriptor, file}
use Rattle.c_law_form_ignores_places.specs.Forget.{forget, numbered_once}

-- a loop without `break`
abbrev pub endless : RawFile
endless = file (record small { eval = loop (closed 108) (closed 109) }) descriptor

-- the number 0 twice and then a wrong one
abbrev pub misnumbered : RawFile
misnumbered = file (record small { numbers = on 10 0 ∷ on 30 0 ∷ on 35 1 ∷ [] }) descriptor

-- a module that nowhere writes its number
abbrev pub unnumbered : RawFile
unnumbered = file (record small { numbers = [] }) descriptor

-- a module whose model has the field `p4294967296`, which its set-up sets: a number that no token of a text has
abbrev pub great_field : RawFile
great_field = file (record small {
  model_fields = record { ty = Real; field = on 11 (Param 1) } ∷ record { ty = Integer; field = on 12 (Given 1) }
      ∷ record { ty = Real; field = on 13 (Param (2 ^ 32)) } ∷ [];
  setup_model = simple (set_cell (model 100 (Param (2 ^ 32))) (real 104)) (closed 106);
}) descriptor

-- the numbers of each module, and the fields of the models
abbrev pub numbers_in : RawFile → List (List (At ℕ))
numbers_in raw = map (λ m. RawModule.numbers m) raw.modules

abbrev pub model_fields_in : RawFile → List (List CField)
model_fields_in raw = map (λ m. map (λ f. At.value (RawField.field f)) (RawModule.model_fields m)) raw.modules

pub record WorkedTrees : Type 0 where
  -- the small file obeys the rules and writes what they ask for
  pub own_tree : numbered_once (forget (file small descriptor)) ≡ raw_of (file_of (file small descriptor))
  -- what is blamed at a token is blamed at 0
  pub blamed_there : blamed endless ≡ 108 ∷ []
  pub blamed_at_0 : blamed (forget endless) ≡ 0 ∷ []
  pub wrong_number : blamed (numbered_once misnumbered) ≡ 35 ∷ []
  -- a missing number is not blamed, and the tree of the file has it
  pub number_not_asked : blamed unnumbered ≡ []
  pub numbers_missing : numbers_in (numbered_once (forget unnumbered)) ≡ [] ∷ []
  pub numbers_written : numbers_in (raw_of (file_of unnumbered)) ≡ (at_0 0 ∷ []) ∷ []
  -- a name that no token spells gives another field, so the tree of the file lacks the one that is set
  pub great_not_blamed : blamed great_field ≡ []
  pub another_field : model_fields_in (raw_of (file_of great_field)) ≡ (Param 1 ∷ Given 1 ∷ Temperature ∷ []) ∷ []
  pub own_tree_blamed : blamed (raw_of (file_of great_field)) ≡ 2 ∷ []
