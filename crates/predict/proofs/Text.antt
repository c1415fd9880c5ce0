-- A whole text, kind by kind.
use Rattle.std.proofs.Common.{◌≡◌, ℕ, ◌+◌, ◌<◌, List, [], ◌∷◌, ◌++◌, length, take, drop, get_or, refl, ap, sym, ◌∙◌, subst, append_assoc, arith}
use Rattle.std.proofs.lemmas.List.{append-nil, length-append, take-append-drop}
use Rattle.std.proofs.Math.Seq.{get_or-append_seam}
use Rattle.predict.specs.declared.symbol.Symbol.{Symbol}
use Rattle.predict.specs.declared.symbol.Symbol.TheVariants.{Kind, Left}
use Rattle.predict.specs.declared.tree.ParseNode.{ParseNode}
use Rattle.predict.specs.Rules.{Rules}
use Rattle.predict.specs.Tree.{Parts, no_parts, token, subtree, spelling, spelling_of, nodes, nodes_of}
use Rattle.predict.specs.Sentence.{IsTreeOf, ArePartsOf, IsSentenceOf, IsSentence, BeginsSentence, IsFirstBad, IsParsed}
use Rattle.predict.specs.Laws.{NoDeadEnd}
use Rattle.predict.specs.Stack.{Completes, Takes, Refuses, IsWhole, Reads}
use Rattle.predict.proofs.Unique.{only_tree}

whole_of : (rules : Rules) (kinds : List ℕ) (all : List ParseNode) (parts : Parts) → ArePartsOf rules (Left rules.start ∷ Kind rules.end_kind ∷ []) parts rules.end_kind → spelling_of parts ≡ kinds → nodes_of parts ≡ all → IsWhole rules kinds all
whole_of rules kinds all (subtree t (token k no_parts)) h e g =
    record {
      whole = t;
      sentence = (spelling t, sym e ∙ (λ j. spelling t ++ h.1.0 j ∷ []), record { derived = subst (λ (n : ℕ). IsTreeOf rules rules.start t n) h.1.0 h.0; spelled = refl });
      listed = sym (append-nil (nodes t)) ∙ g;
    }
whole_of rules kinds all no_parts h e g = absurd h
whole_of rules kinds all (token k p) h e g = absurd h
whole_of rules kinds all (subtree t no_parts) h e g = absurd h.1
whole_of rules kinds all (subtree t (subtree u p)) h e g = absurd h.1
whole_of rules kinds all (subtree t (token k (token j p))) h e g = absurd h.1.1
whole_of rules kinds all (subtree t (token k (subtree u p))) h e g = absurd h.1.1

parts_of : (rules : Rules) (kinds : List ℕ) (all : List ParseNode) → IsWhole rules kinds all → Completes rules (Left rules.start ∷ Kind rules.end_kind ∷ []) [] kinds all
parts_of rules kinds all w =
    record {
      parts = subtree w.whole (token rules.end_kind no_parts);
      derived = (w.sentence.2.derived, (refl, tt));
      spelled = ap (λ xs. xs ++ rules.end_kind ∷ []) w.sentence.2.spelled ∙ sym w.sentence.1;
      gathered = append-nil (nodes w.whole) ∙ w.listed;
    }

-- Before the first kind the whole text is left.
pub begins : (rules : Rules) (symbols : List Symbol) (so_far : List ParseNode) → symbols ≡ Left rules.start ∷ Kind rules.end_kind ∷ [] → so_far ≡ [] → Reads rules [] symbols so_far
begins rules symbols so_far e f =
    let at : Reads rules [] (Left rules.start ∷ Kind rules.end_kind ∷ []) [] = record { forth = λ kinds all c. whole_of rules kinds all c.parts c.derived c.spelled c.gathered; back = parts_of rules } in
    subst (λ (s : List Symbol). Reads rules [] s so_far) (sym e) (subst (λ (n : List ParseNode). Reads rules [] (Left rules.start ∷ Kind rules.end_kind ∷ []) n) (sym f) at)

-- One kind more is done.
pub goes_on : (rules : Rules) (done done' : List ℕ) (k : ℕ) (s t : List Symbol) (a b : List ParseNode) → done' ≡ done ++ k ∷ [] → Reads rules done s a → Takes rules k s a t b → Reads rules done' t b
goes_on rules done done' k s t a b e r takes =
    let same : (kinds : List ℕ) → done ++ k ∷ kinds ≡ done' ++ kinds = λ kinds. sym (append_assoc done (k ∷ []) kinds) ∙ ap (λ xs. xs ++ kinds) (sym e) in
    record {
      forth = λ kinds all c. subst (λ (xs : List ℕ). IsWhole rules xs all) (same kinds) (r.forth (k ∷ kinds) all ((takes kinds all).1 c));
      back = λ kinds all w. (takes kinds all).0 (r.back (k ∷ kinds) all (subst (λ (xs : List ℕ). IsWhole rules xs all) (sym (same kinds)) w));
    }

-- What is done begins some sentence.
good_so_far : (rules : Rules) (is_open : List Symbol → Type 0) → NoDeadEnd rules is_open → (done : List ℕ) (symbols : List Symbol) (so_far : List ParseNode) → Reads rules done symbols so_far → is_open symbols → BeginsSentence rules done
good_so_far rules is_open law done [] so_far r h =
    let w = r.forth [] so_far (record { parts = no_parts; derived = tt; spelled = refl; gathered = append-nil so_far }) in
    ([], (w.whole, w.sentence))
good_so_far rules is_open law done (x ∷ symbols) so_far r h =
    let more = law.completed (x ∷ symbols) h (λ e. cc) in
    let w = r.forth (spelling_of more.parts) (so_far ++ nodes_of more.parts) (record { parts = more.parts; derived = more.derived; spelled = refl; gathered = refl }) in
    (spelling_of more.parts, (w.whole, w.sentence))

-- What is refused is the first bad kind.
pub first_bad : (rules : Rules) (is_open : List Symbol → Type 0) → NoDeadEnd rules is_open → (kinds : List ℕ) (at k : ℕ) (symbols : List Symbol) (so_far : List ParseNode) → at < length kinds → take (at + 1) kinds ≡ take at kinds ++ k ∷ [] →
    Reads rules (take at kinds) symbols so_far → is_open symbols → Refuses rules k symbols so_far → IsFirstBad rules kinds at
first_bad rules is_open law kinds at k symbols so_far h e r o refused =
    record {
      within = h;
      good = good_so_far rules is_open law (take at kinds) symbols so_far r o;
      bad = λ b. refused b.0 (nodes b.1.0) (r.back (k ∷ b.0) (nodes b.1.0) (record { whole = b.1.0; sentence = subst (IsSentenceOf rules b.1.0) (ap (λ xs. xs ++ b.0) e ∙ append_assoc (take at kinds) (k ∷ []) b.0) b.1.1; listed = refl }));
    }

-- Where nothing is left the text is a sentence, with the nodes so far.
pub parsed : (rules : Rules) (kinds done : List ℕ) (symbols : List Symbol) (so_far : List ParseNode) → done ≡ kinds → symbols ≡ [] → Reads rules done symbols so_far → IsParsed rules kinds so_far
parsed rules kinds done symbols so_far d e r =
    let at = subst (λ (s : List Symbol). Reads rules done s so_far) e r in
    let w = at.forth [] so_far (record { parts = no_parts; derived = tt; spelled = refl; gathered = append-nil so_far }) in
    let sentence = subst (IsSentenceOf rules w.whole) (append-nil done ∙ d) w.sentence in
    record { tree = w.whole; sentence = sentence; listed = sym w.listed; only = λ other h. only_tree rules other w.whole kinds h sentence }

-- the last of the kinds
pub last_is : (front kinds : List ℕ) (k at : ℕ) → kinds ≡ front ++ k ∷ [] → at + 1 ≡ length kinds → get_or kinds at 0 ≡ k
last_is front kinds k at e f =
    let len : at ≡ length front = omega (arith, ap length e, length-append front (k ∷ [])) in
    ap (λ xs. get_or xs at 0) e ∙ ap (λ n. get_or (front ++ k ∷ []) n 0) len ∙ get_or-append_seam front k [] 0

-- What has a bad kind is no sentence.
pub not_sentence : (rules : Rules) (kinds : List ℕ) (at : ℕ) → IsFirstBad rules kinds at → IsSentence rules kinds → ⊥
not_sentence rules kinds at b h = b.bad (drop (at + 1) kinds, subst (IsSentence rules) (sym (take-append-drop (at + 1) kinds)) h)
