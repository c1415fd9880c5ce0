-- A text spells only files that can be spelled.
use Rattle.std.proofs.Common.{◌≡◌, ◌<◌, ◌^◌, ℕ, List, [], ◌∷◌, length, refl, ap, sym, subst, ◌∙◌, arith}
use Rattle.std.specs.Prelude.{Bool, true, ◌&&◌, nat_lt}
use Rattle.std.specs.List.{list_all}
use Rattle.predict.specs.Tree.{Tree}
use Rattle.c_tree.specs.FileOf.{modules_of, file_of}
use Rattle.c_tree.specs.Raw.{RawModule, RawDescriptor, RawFile}
use Rattle.c_tree.specs.Spelling.{EachHas, HaveBlocks, CanBeSpelled, is_unsigned, is_counted, are_bytes, spells_tables, spells_bodies, spells_node, spells_entry, spells_pair, spells_param, spells_row, spells_function, spells_access, spells_statement, spells_load}
use Rattle.c_tree.specs.Text.{load_functions, loads_of}
use Rattle.c_tree.specs.declared.file.CModule.{CModule}
use Rattle.c_raw_build.specs.Placed.{Placed, part}
use Rattle.c_raw_build.specs.RawFiles.{file}
use Rattle.c_raw_build.specs.RowNumbers.{file_row, exports_row}
use Rattle.c_raw_build.specs.Words.{CText}
use Rattle.c_law_print_parses.proofs.Lefts.{file_left, modules_left, exports_left, descriptors_left}
use Rattle.c_law_words.proofs.Listed.{row_list}
use Rattle.c_law_spelled.proofs.Rows.{IsOf, sub, only_row, each_both, each_told, each_weaker, each_passes}
use Rattle.c_law_spelled.proofs.Tokens.{text_of, sentence_tree, tokens_few}
use Rattle.c_law_spelled.proofs.Tables.{DescriptorFits, descriptors_fit}
use Rattle.c_law_spelled.proofs.Modules.{IsFine, ModuleFits, ModuleCounted, modules_fit, modules_lists_counted, raw_counted}
use Rattle.c_law_spelled.specs.Spelled.{SpellsFile, OneFile, OnlySpelled, has_counted_lists, AreCounted, SpelledExactly}
use Rattle.c_tree.specs.declared.table.ParamRow.{ParamRow}
use Rattle.c_tree.specs.declared.file.CFile.{CFile}
use Rattle.c_tree.specs.Text as printed
use Rattle.c_tree.specs.tokens.Tokens.{c_tokens_of}
use Rattle.c_syntax.specs.Syntax.{IsSyntax, text_kinds}
use Rattle.c_syntax.specs.grammar.Sets.{c_rules}
use Rattle.c_raw_build.specs.RawOf.{raw_of}
use Rattle.predict.proofs.Unique.{only_tree}
use Rattle.c_law_print_parses.proofs.Printed.{print_is_syntax}
use Rattle.c_law_print_parses.proofs.Standing.{print_stands_for}
use Rattle.std.proofs.lemmas.Bool.{and_parts, and_from}

-- modules with their descriptors
abbrev HasCounted : CModule → Type 0
HasCounted m = has_counted_lists m ≡ true

each_fine : (ms : List RawModule) (ds : List RawDescriptor) → EachHas ModuleFits ms → EachHas DescriptorFits ds → EachHas HasCounted (modules_of ms ds)
    → EachHas IsFine (modules_of ms ds)
each_fine [] ds h g c = tt
each_fine (m ∷ ms) [] h g c = (h.0 [] 0 refl refl c.0, each_fine ms [] h.1 g c.1)
each_fine (m ∷ ms) (d ∷ ds) h g c = (h.0 d.name d.num_terminals.value g.0.0 g.0.1 c.0, each_fine ms ds h.1 g.1 c.1)

each_counted : (ms : List RawModule) (ds : List RawDescriptor) → EachHas ModuleCounted ms → EachHas HasCounted (modules_of ms ds)
each_counted [] ds h = tt
each_counted (m ∷ ms) [] h = (h.0 [] 0, each_counted ms [] h.1)
each_counted (m ∷ ms) (d ∷ ds) h = (h.0 d.name d.num_terminals.value, each_counted ms ds h.1)

modules_length : (ms : List RawModule) (ds : List RawDescriptor) → length (modules_of ms ds) ≡ length ms
modules_length [] ds = refl
modules_length (m ∷ ms) [] = let rest = modules_length ms [] in omega (arith, rest)
modules_length (m ∷ ms) (d ∷ ds) = let rest = modules_length ms ds in omega (arith, rest)

-- a file whose lists are counted
file_spelled : (f : RawFile) → EachHas ModuleFits f.modules → EachHas DescriptorFits f.descriptors → AreCounted (file_of f) → CanBeSpelled (file_of f)
file_spelled f h g c =
    let all = modules_of f.modules f.descriptors in
    let p = and_parts (is_counted all) (list_all has_counted_lists all) c in
    let fine = each_fine f.modules f.descriptors h g (each_told has_counted_lists all p.1) in
    record {
      modules = p.0;
      tables = each_passes spells_tables all (each_weaker IsFine (λ m. spells_tables m ≡ true) (λ m k. k.tables) all fine);
      bodies = each_passes spells_bodies all (each_weaker IsFine (λ m. spells_bodies m ≡ true) (λ m k. k.bodies) all fine);
      blocks = each_weaker IsFine HaveBlocks (λ m k. k.blocks) all fine;
    }

file_counted : (f : RawFile) → EachHas ModuleCounted f.modules → is_counted f.modules ≡ true → AreCounted (file_of f)
file_counted f h c =
    let all = modules_of f.modules f.descriptors in
    and_from (is_counted all) (list_all has_counted_lists all) (subst (λ n. nat_lt n (2 ^ 32) ≡ true) (sym (modules_length f.modules f.descriptors)) c)
    (each_passes has_counted_lists all (each_counted f.modules f.descriptors h))

module _ {text : CText} where
  tree_spelled : (t : Tree) → IsOf text file_left (record { at = 0; tree = t }) → AreCounted (file_of (file text (record { at = 0; tree = t })))
      → CanBeSpelled (file_of (file text (record { at = 0; tree = t })))
  unfolding row_list file
  tree_spelled t o c =
      let p : Placed = record { at = 0; tree = t } in
      let r = only_row file_left file_row p refl o in
      let exports = only_row exports_left exports_row (part 2 p) refl (sub file_row 2 exports_left p refl r) in
      file_spelled (file text p) (modules_fit (part 1 p) (sub file_row 1 modules_left p refl r))
      (descriptors_fit (part 1 (part 2 p)) (sub exports_row 1 descriptors_left (part 2 p) refl exports)) c

  tree_counted : (t : Tree) → length text.tokens < 2 ^ 32 → IsOf text file_left (record { at = 0; tree = t }) → AreCounted (file_of (file text (record { at = 0; tree = t })))
  unfolding row_list file
  tree_counted t few o =
      let p : Placed = record { at = 0; tree = t } in
      let list = sub file_row 1 modules_left p refl (only_row file_left file_row p refl o) in
      file_counted (file text p) (modules_lists_counted few (part 1 p) list) (raw_counted few (part 1 p) list)

-- the file of the text's only tree
spelled_file : (text : List ℕ) (f : CFile) (s : SpellsFile text f) → file_of (file (text_of text) (record { at = 0; tree = s.syntax.sentence.0 })) ≡ f
spelled_file text f s = ap file_of (s.is_raw s.syntax.sentence.0 s.syntax.sentence.1) ∙ s.file_is

counted_spelled : (text : List ℕ) (f : CFile) → SpellsFile text f → AreCounted f → CanBeSpelled f
counted_spelled text f s c =
    let t = s.syntax.sentence.0 in
    let same = spelled_file text f s in
    subst CanBeSpelled same (tree_spelled t (sentence_tree text t s.syntax.sentence.1) (subst AreCounted (sym same) c))

-- the tree of a text gives its file
tree_spells : (text : List ℕ) (s : IsSyntax text) → SpellsFile text (file_of (raw_of text (c_tokens_of text).tokens s.sentence.0))
tree_spells text s =
    let t = s.sentence.0 in
    let tokens = (c_tokens_of text).tokens in
    record {
      syntax = s;
      raw = raw_of text tokens t;
      is_raw = λ other sentence. ap (raw_of text tokens) (only_tree c_rules other t (text_kinds text) sentence s.sentence.1);
      file_is = refl;
    }

pub one_file : OneFile
one_file text s = (
  file_of (raw_of text (c_tokens_of text).tokens s.sentence.0),
  tree_spells text s,
  λ g other. sym other.file_is ∙ ap file_of (sym (other.is_raw s.sentence.0 s.sentence.1)),
)

pub only_spelled : OnlySpelled (2 ^ 32)
only_spelled text f few s =
    let t = s.syntax.sentence.0 in
    let short : length (text_of text).tokens < 2 ^ 32 = (let fewer = tokens_few 0 0 text in omega (arith, few, fewer)) in
    counted_spelled text f s (subst AreCounted (spelled_file text f s) (tree_counted t short (sentence_tree text t s.syntax.sentence.1)))

-- a file that can be spelled has counted lists
names_counted : (p : ParamRow) → spells_param p ≡ true → is_counted (ParamRow.names p) ≡ true
names_counted p h =
    let a = nat_lt 0 (length p.names) in
    let b = is_counted p.names in
    let c = list_all are_bytes p.names in
    let d = are_bytes p.description in
    let four = and_parts (a && b && c && d) (are_bytes p.units) h in
    let three = and_parts (a && b && c) d four.0 in
    let two = and_parts (a && b) c three.0 in
    (and_parts a b two.0).1

module_counted : (m : CModule) → (spells_tables m ≡ true) × (spells_bodies m ≡ true) → has_counted_lists m ≡ true
module_counted m h =
    let a = are_bytes m.name in
    let b = is_unsigned m.ports in
    let c = is_counted m.nodes in
    let d = list_all spells_node m.nodes in
    let e = is_counted m.entries in
    let f = list_all spells_entry m.entries in
    let g = is_counted m.collapse in
    let i = list_all spells_pair m.collapse in
    let j = is_counted m.params in
    let k = list_all spells_param m.params in
    let l = list_all spells_row m.model_fields in
    let ten = and_parts (a && b && c && d && e && f && g && i && j && k && l) (list_all spells_row m.inst_fields) h.0 in
    let nine = and_parts (a && b && c && d && e && f && g && i && j && k) l ten.0 in
    let eight = and_parts (a && b && c && d && e && f && g && i && j) k nine.0 in
    let seven = and_parts (a && b && c && d && e && f && g && i) j eight.0 in
    let six = and_parts (a && b && c && d && e && f && g) i seven.0 in
    let five = and_parts (a && b && c && d && e && f) g six.0 in
    let four = and_parts (a && b && c && d && e) f five.0 in
    let three = and_parts (a && b && c && d) e four.0 in
    let two = and_parts (a && b && c) d three.0 in
    let one = and_parts (a && b) c two.0 in
    let names = each_passes (λ p. is_counted (ParamRow.names p)) m.params
    (each_weaker (λ p. spells_param p ≡ true) (λ p. is_counted (ParamRow.names p) ≡ true) names_counted m.params (each_told spells_param m.params eight.1)) in
    all_pass c e g j (list_all (λ p. is_counted (ParamRow.names p)) m.params) (is_counted m.functions) one.1 three.1 five.1 seven.1 names (functions_of h.1)
  where
    all_pass : (a b c d e f : Bool) → a ≡ true → b ≡ true → c ≡ true → d ≡ true → e ≡ true → f ≡ true → (a && b && c && d && e && f) ≡ true
    all_pass a b c d e f pa pb pc pd pe pf = λ x. pa x && pb x && pc x && pd x && pe x && pf x

    functions_of : spells_bodies m ≡ true → is_counted m.functions ≡ true
    functions_of h =
        let a = is_counted m.functions in
        let b = list_all spells_function m.functions in
        let c = list_all spells_access m.access in
        let d = list_all spells_statement m.setup_model in
        let e = list_all spells_statement m.setup_instance in
        let f = list_all spells_statement m.eval in
        let six = and_parts (a && b && c && d && e && f) (list_all (λ l. list_all spells_load (loads_of m.loads l)) load_functions) h in
        let five = and_parts (a && b && c && d && e) f six.0 in
        let four = and_parts (a && b && c && d) e five.0 in
        let three = and_parts (a && b && c) d four.0 in
        let two = and_parts (a && b) c three.0 in
        (and_parts a b two.0).0

spelled_counted : (f : CFile) → CanBeSpelled f → AreCounted f
spelled_counted f s =
    let tables = each_told spells_tables f.modules s.tables in
    let bodies = each_told spells_bodies f.modules s.bodies in
    let both = each_both (λ m. spells_tables m ≡ true) (λ m. spells_bodies m ≡ true) f.modules tables bodies in
    and_from (is_counted f.modules) (list_all has_counted_lists f.modules) s.modules
    (each_passes has_counted_lists f.modules (each_weaker (λ m. (spells_tables m ≡ true) × (spells_bodies m ≡ true)) HasCounted module_counted f.modules both))

-- and its print spells it
print_spells : (f : CFile) → CanBeSpelled f → SpellsFile (printed.text_of f) f
print_spells f s =
    let stands = print_stands_for f s in
    record { syntax = print_is_syntax f s; raw = stands.raw; is_raw = stands.is_raw; file_is = stands.file_is stands.raw stands.is_raw }

pub spelled_exactly : SpelledExactly
spelled_exactly f = (λ s. (spelled_counted f s, (printed.text_of f, print_spells f s)), λ h. counted_spelled h.1.0 f h.1.1 h.0)
