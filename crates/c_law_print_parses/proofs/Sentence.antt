-- What a tree of a file spells is a sentence.
use Rattle.std.proofs.Common.{◌≡◌, List, [], ◌∷◌, ◌++◌, refl, sym, subst}
use Rattle.std.specs.Prelude.{true, map}
use Rattle.std.specs.List.{list_all}
use Rattle.std.proofs.lemmas.Bool.{and_parts}
use Rattle.predict.specs.Tree.{Tree}
use Rattle.predict.specs.Sentence.{IsTreeOf, IsSentenceOf}
use Rattle.predict.specs.Table.{is_among, kinds_at}
use Rattle.predict.proofs.Complete.{row_closed}
use Rattle.c_tree.specs.Words.{Word}
use Rattle.c_syntax.specs.grammar.Sets.{c_grammar, c_sets, c_rules}
use Rattle.c_law_words.specs.Kinds.{kind_of_word}
use Rattle.c_law_words.proofs.Derived.{Derives, tree_is}
use Rattle.c_law_words.proofs.Listed.{rows_same, c_closed, c_apart}
use Rattle.c_law_words.proofs.Pieces.{Writes}

end_follows : is_among (kinds_at c_sets.follows 0) 0 ≡ true
end_follows = (and_parts (is_among (kinds_at c_sets.follows c_grammar.start) c_grammar.end_kind) (list_all (row_closed c_sets) c_grammar.rows) c_closed).0

file_derived : (t : Tree) (ws : List Word) → Writes 0 t ws → IsTreeOf c_rules 0 t 0
unfolding c_rules
file_derived t ws w = tree_is c_grammar c_sets c_closed c_apart 0 t 0 (subst (λ rows. Derives rows 0 t) (sym rows_same) w.derived) end_follows

pub sentence : (t : Tree) (ws : List Word) → Writes 0 t ws → IsSentenceOf c_rules t (map kind_of_word ws ++ 0 ∷ [])
unfolding c_rules
sentence t ws w = (map kind_of_word ws, refl, record { derived = file_derived t ws w; spelled = w.kinds })
