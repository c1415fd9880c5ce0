-- The rules of biased and timed variables are those of edges and seeds.
use Rattle.std.specs.Prelude.{◌≡◌, ℕ, ◌==◌, ◌||◌, ◌&&◌, Bool, true, false, List, [], ◌∷◌, ◌++◌, Option, Some, None, if◌then◌else◌, map, flat_map}
use Rattle.std.specs.List.{list_any}
use Rattle.std.proofs.Common.{refl, sym, ◌∙◌, ap}
use Rattle.std.proofs.lemmas.List.Folds.{list_any-append}
use Rattle.graphs.specs.declared.edge.Edge.{Edge}
use Rattle.graphs.specs.Edges.{is_in, leads, follows}
use Rattle.graphs.proofs.Reached.{bridge}
use Rattle.va_tree.specs.Expressions.{Expression}
use Rattle.va_sem.specs.declared.names.Meaning.{Meaning}
use Rattle.va_sem.specs.declared.names.Meaning.TheVariants as means
use Rattle.va_sem.specs.LookedAt.{looked_at}
use Rattle.va_sem.specs.rules.Uses.{meaning_of, is_access, is_ddt, is_variable_in}
use Rattle.va_sem.specs.rules.Biased.{is_biased, is_assigned_to, biased_by, timed_by}
use Rattle.va_sem.specs.rules.Values.{Purpose, assigned, contributed, tested, initial, Value}
use Rattle.va_sem.specs.rules.ReachLaws.{variable_named, edge_to, targets, edges_from, seeds_from, biasing, timing, biased_edges, biased_seeds, timed_edges, timed_seeds, VariablesAreReached}
use Rattle.va_sem.proofs.BranchSets.{or_false, and_true, and_false}

or_shuffle : (a b c d : Bool) → ((a || b) || (c || d)) ≡ ((a || c) || (b || d))
or_shuffle true b c d = refl
or_shuffle false true true d = refl
or_shuffle false true false d = refl
or_shuffle false false c d = refl

both_parts : (a b e : Bool) → ((a && e) || (b && e)) ≡ (e && (a || b))
both_parts a b true = (λ j. and_true a j || and_true b j)
both_parts a b false = (λ j. and_false a j || and_false b j)

or_and : (a b e : Bool) → ((a && e) || (b && e)) ≡ ((a || b) && e)
or_and true true true = refl
or_and true true false = refl
or_and true false true = refl
or_and true false false = refl
or_and false b e = refl

any_both : {T : Type 0} (f g : T → Bool) (xs : List T) → list_any (λ x. f x || g x) xs ≡ (list_any f xs || list_any g xs)
any_both f g [] = refl
any_both f g (x ∷ xs) = ap (λ v. (f x || g x) || v) (any_both f g xs) ∙ or_shuffle (f x) (g x) (list_any f xs) (list_any g xs)

any_flat : {S T : Type 0} (p : T → Bool) (f : S → List T) (xs : List S) → list_any p (flat_map f xs) ≡ list_any (λ x. list_any p (f x)) xs
any_flat p f [] = refl
any_flat p f (x ∷ xs) = list_any-append p (f x) (flat_map f xs) ∙ ap (λ v. list_any p (f x) || v) (any_flat p f xs)

module _ (meaning : ℕ → Option Meaning) (set : ℕ → Bool) (x : ℕ) where
  -- one part that is read
  one_part : (t : ℕ) (m : Option Meaning) → leads (map (edge_to t) (variable_named m)) set x ≡ (is_variable_in set m && (t == x))
  one_part t None = refl
  one_part t (Some (means.Var v)) = or_false (set v && (t == x))
  one_part t (Some (means.Access branch turned flow)) = refl
  one_part t (Some (means.Node k)) = refl
  one_part t (Some (means.Branch k)) = refl
  one_part t (Some (means.Param k)) = refl
  one_part t (Some (means.Function k)) = refl
  one_part t (Some (means.Discipline k)) = refl
  one_part t (Some (means.Nature k)) = refl
  one_part t (Some (means.Module k)) = refl
  one_part t (Some (means.Builtin k)) = refl

  leads_parts : (t : ℕ) (parts : List Expression) → leads (flat_map (λ part. map (edge_to t) (variable_named (meaning_of meaning part))) parts) set x ≡ (list_any (λ part. is_variable_in set (meaning_of meaning part)) parts && (t == x))
  leads_parts t [] = refl
  leads_parts t (part ∷ parts) =
      list_any-append (λ (e : Edge). set e.from && (e.to == x)) (map (edge_to t) (variable_named (meaning_of meaning part))) (flat_map (λ p. map (edge_to t) (variable_named (meaning_of meaning p))) parts)
      ∙ (λ j. one_part t (meaning_of meaning part) j || leads_parts t parts j)
      ∙ or_and (is_variable_in set (meaning_of meaning part)) (list_any (λ p. is_variable_in set (meaning_of meaning p)) parts) (t == x)

  module _ (is_source : Option Meaning → Bool) (parts : List Expression) where
    abbrev reads : Expression → Bool
    reads part = is_source (meaning_of meaning part) || is_variable_in set (meaning_of meaning part)

    seed_if : (t : ℕ) (a : Bool) → is_in (if a then t ∷ [] else []) x ≡ (a && (t == x))
    seed_if t true = or_false (t == x)
    seed_if t false = refl

    none_if : (a : Bool) → is_in (if a then [] else []) x ≡ false
    none_if true = refl
    none_if false = refl

    -- where a value is assigned to a variable, and where to none
    to_one : (t : ℕ) → (is_in (if list_any (λ part. is_source (meaning_of meaning part)) parts then t ∷ [] else []) x
        || leads (flat_map (λ target. flat_map (λ part. map (edge_to target) (variable_named (meaning_of meaning part))) parts) (t ∷ [])) set x) ≡ ((t == x) && list_any reads parts)
    to_one t =
        let A : Bool = list_any (λ part. is_source (meaning_of meaning part)) parts in
        let B : Bool = list_any (λ part. is_variable_in set (meaning_of meaning part)) parts in
        (λ j. seed_if t A j || (list_any-append (λ (e : Edge). set e.from && (e.to == x)) (flat_map (λ part. map (edge_to t) (variable_named (meaning_of meaning part))) parts) [] ∙ or_false (leads (flat_map (λ part. map (edge_to t) (variable_named (meaning_of meaning part))) parts) set x) ∙ leads_parts t parts) j)
        ∙ both_parts A B (t == x)
        ∙ ap (λ v. (t == x) && v) (sym (any_both (λ part. is_source (meaning_of meaning part)) (λ part. is_variable_in set (meaning_of meaning part)) parts))

    to_none : (is_in (if list_any (λ part. is_source (meaning_of meaning part)) parts then [] else []) x || false) ≡ false
    to_none = or_false (is_in (if list_any (λ part. is_source (meaning_of meaning part)) parts then [] else []) x) ∙ none_if (list_any (λ part. is_source (meaning_of meaning part)) parts)

    by_meaning : (m : Option Meaning) → (is_in (if list_any (λ part. is_source (meaning_of meaning part)) parts then variable_named m else []) x
        || leads (flat_map (λ target. flat_map (λ part. map (edge_to target) (variable_named (meaning_of meaning part))) parts) (variable_named m)) set x) ≡ (is_variable_in (λ other. other == x) m && list_any reads parts)
    by_meaning (Some (means.Var v)) = to_one v
    by_meaning None = to_none
    by_meaning (Some (means.Access branch turned flow)) = to_none
    by_meaning (Some (means.Node k)) = to_none
    by_meaning (Some (means.Branch k)) = to_none
    by_meaning (Some (means.Param k)) = to_none
    by_meaning (Some (means.Function k)) = to_none
    by_meaning (Some (means.Discipline k)) = to_none
    by_meaning (Some (means.Nature k)) = to_none
    by_meaning (Some (means.Module k)) = to_none
    by_meaning (Some (means.Builtin k)) = to_none

    by_purpose : (p : Purpose) → (is_in (seeds_from meaning is_source parts p) x || leads (edges_from meaning parts p) set x) ≡ (is_assigned_to meaning x p && list_any reads parts)
    by_purpose (assigned at) = by_meaning (meaning at)
    by_purpose (contributed at) = to_none
    by_purpose tested = to_none
    by_purpose initial = to_none

  -- over all values
  by_values : (is_source : Option Meaning → Bool) (parts : Value → List Expression) (values : List Value)
      → follows (flat_map (λ v. edges_from meaning (parts v) v.purpose) values) (flat_map (λ v. seeds_from meaning is_source (parts v) v.purpose) values) set x
      ≡ list_any (λ v. is_assigned_to meaning x v.purpose && list_any (reads is_source (parts v)) (parts v)) values
  by_values is_source parts [] = refl
  by_values is_source parts (v ∷ values) =
      let S : List ℕ = seeds_from meaning is_source (parts v) v.purpose in
      let E : List Edge = edges_from meaning (parts v) v.purpose in
      let T : List ℕ = flat_map (λ w. seeds_from meaning is_source (parts w) w.purpose) values in
      let F : List Edge = flat_map (λ w. edges_from meaning (parts w) w.purpose) values in
      (λ j. list_any-append (λ y. y == x) S T j || list_any-append (λ (e : Edge). set e.from && (e.to == x)) E F j)
      ∙ or_shuffle (is_in S x) (is_in T x) (leads E set x) (leads F set x)
      ∙ (λ j. by_purpose is_source (parts v) v.purpose j || by_values is_source parts values j)

biased_same : (meaning : ℕ → Option Meaning) (values : List Value) (set : ℕ → Bool) (x : ℕ) → biased_by meaning values set x ≡ follows (biased_edges meaning values) (biased_seeds meaning values) set x
biased_same meaning values set x =
    let part : Expression → Bool = λ p. is_access (meaning_of meaning p) || is_variable_in set (meaning_of meaning p) in
    (λ j. list_any (λ v. is_assigned_to meaning x v.purpose && sym (any_flat part looked_at (v.expression ∷ v.around.conditions)) j) values)
    ∙ sym (by_values meaning set x is_access (biasing meaning) values)

timed_same : (meaning : ℕ → Option Meaning) (values : List Value) (set : ℕ → Bool) (x : ℕ) → timed_by meaning values set x ≡ follows (timed_edges meaning values) (timed_seeds meaning values) set x
timed_same meaning values set x = sym (by_values meaning set x is_ddt (timing meaning) values)

pub variables_are_reached : VariablesAreReached
variables_are_reached = record {
  biased = λ meaning n values set below x b. biased_same meaning values set x;
  timed = λ meaning n values set below x b. timed_same meaning values set x;
  biased_least = λ meaning n values x. bridge n (biased_by meaning values) (biased_edges meaning values) (biased_seeds meaning values) (λ set below y b. biased_same meaning values set y) x;
  timed_least = λ meaning n values x. bridge n (timed_by meaning values) (timed_edges meaning values) (timed_seeds meaning values) (λ set below y b. timed_same meaning values set y) x;
}
