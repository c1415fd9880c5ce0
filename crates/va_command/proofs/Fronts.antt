-- A text after expansion has one source at most, and none where a fault of syntax or size stands.
use Rattle.std.proofs.Common.{◌≡◌, ◌+◌, ℕ, zero, suc, List, [], ◌∷◌, ◌++◌, take, drop, refl, sym, ap, ◌∙◌, subst, inl, inr}
use Rattle.predict.specs.Sentence.{IsSentence, BeginsSentence, IsFirstBad}
use Rattle.va_base.specs.declared.expanded.Expanded.{Expanded}
use Rattle.va_base.specs.declared.fault.Fault.{Fault}
use Rattle.va_tree.specs.declared.source.Source.{Source}
use Rattle.va_tree.specs.Size.{LeastSizeFault, IsWithinSize}
use Rattle.va_grammar.specs.Kinds.{kinds_of}
use Rattle.va_grammar.specs.Sets.{va_rules}
use Rattle.va_build.specs.SourceOf.{source_of, IsSourceOf, IsSourceWithinSize, IsSourceFaulty}
use Rattle.first_form.specs.Form.{IsSourceOfForm}
use Rattle.va_command.specs.Faults.{IsFrontFault, IsTextFault}
use Rattle.va_command.specs.Answers.{IsBuilt}

taken : (kinds : List ℕ) (n : ℕ) → take n kinds ++ drop n kinds ≡ kinds
taken [] zero = refl
taken [] (suc n) = refl
taken (k ∷ kinds) zero = refl
taken (k ∷ kinds) (suc n) = ap (λ ks. k ∷ ks) (taken kinds n)

-- a sentence has no first bad token
not_bad : (kinds : List ℕ) (at : ℕ) → IsSentence va_rules kinds → IsFirstBad va_rules kinds at → ⊥
not_bad kinds at s b = b.bad (drop (at + 1) kinds, subst (IsSentence va_rules) (sym (taken kinds (at + 1))) s)

pub same_source : (e : Expanded) (s t : Source) → IsSourceOf e s → IsSourceOf e t → s ≡ t
same_source e s t a b = a.source ∙ ap (source_of e) (b.only a.tree a.sentence) ∙ sym b.source

-- a source within size has no fault of size
not_faulty : (e : Expanded) (s t : Source) (fault : Fault) → IsSourceWithinSize e s → IsSourceOf e t → LeastSizeFault e t fault → ⊥
not_faulty e s t fault w is least =
    let within : IsWithinSize e t = subst (IsWithinSize e) (same_source e s t w.source is) w.within in
    within fault.at fault.code least.stands.stands

-- the fault that the building of a tree answers
pub size_front : (e : Expanded) (fault : Fault) → IsSourceFaulty e fault → IsFrontFault e fault
size_front e fault is = inr (record { source = is.faulty; is = is.source; least = is.least })

-- a text with a fault is none of those that are compiled
pub fault_not_built : (e : Expanded) (fault : Fault) → IsTextFault e fault → IsBuilt e → ⊥
fault_not_built e fault (inl (inl syntax)) (source, within, f) =
    not_bad (kinds_of e) fault.at (within.source.tree, within.source.sentence) syntax.bad
fault_not_built e fault (inl (inr size)) (source, within, f) =
    not_faulty e source size.source fault within size.is size.least
fault_not_built e fault (inr unbuilt) (source, within, (form, is)) =
    unbuilt.no_form form (subst (λ s. IsSourceOfForm s form) (same_source e source unbuilt.source within.source unbuilt.within.source) is)
