-- All rows hold.
use Rattle.std.specs.Prelude.{◌≡◌, ℕ, ◌+◌, suc, zero, List, [], ◌∷◌, ◌++◌, Some, refl, map, slice_get}
use Rattle.std.proofs.Common.{ap, subst, arith, zero-add}
use Rattle.predict.specs.Tree.{Tree, node, no_parts, subtree}
use Rattle.predict.specs.FirstFit.{Written, IsRowOf}
use Rattle.va_build.specs.Reading.{row_symbols, first_tree, later_trees}
use Rattle.va_grammar.specs.Rows.{rows}
use Rattle.va_grammar.specs.Sets.{va_grammar, va_rules}
use Rattle.va_build.proofs.SizeLaws.{RowHolds, NamesHold, AllHold}
use Rattle.va_build.specs.SizeRows.{deep_in, modules_in, name_index, bare_declaration}
use Rattle.va_build.specs.SourceOf.{module_of, of_sort, all_of_sort}
use Rattle.va_build.specs.SourceItems.{attribute_groups}
use Rattle.va_build.specs.Width.{width}
use Rattle.va_build.proofs.SizeDerived.{by_rows}
use Rattle.va_build.proofs.SizeItems.{row_0, row_2, row_3, row_4, row_5, row_6, row_8, row_10, row_11, row_14, row_15, row_20, row_22, row_23, row_25, row_26, row_29, row_30, row_37, row_39, row_40, row_43, row_44, row_46, row_47, row_48, row_59, row_60, row_62, row_63, row_64, row_66, row_71, row_72, row_73, row_74, row_82, row_83}
use Rattle.va_build.proofs.SizeStatements.{row_76, row_77, row_79, row_80, row_89, row_90, row_91, row_92, row_93, row_94, row_95, row_96, row_97, row_101, row_103, row_104, row_105, row_107, row_109, row_111, row_112, row_115, row_123, row_124, row_125}
use Rattle.va_build.proofs.SizeExpressions.{row_127, row_129, row_131, row_132, row_134, row_135, row_137, row_138, row_140, row_141, row_142, row_144, row_145, row_146, row_147, row_148, row_150, row_151, row_152, row_154, row_155, row_156, row_157, row_159, row_160, row_162, row_163, row_164, row_165, row_168, row_169, row_170, row_171}
use Rattle.va_tree.specs.declared.module.Module.{Module}

names_append : (xs ys : List Module) → map name_index (xs ++ ys) ≡ map name_index xs ++ (map name_index ys ++ [])
names_append [] [] = refl
names_append [] (y ∷ ys) = ap (λ (l : List ℕ). name_index y ∷ l) (names_append [] ys)
names_append (x ∷ xs) ys = ap (λ (l : List ℕ). name_index x ∷ l) (names_append xs ys)

names_0 : NamesHold 0 0
unfolding row_symbols modules_in
names_0 e depth last at ts h = names_append (of_sort module_of e at (first_tree ts)) (all_of_sort module_of e (at + width (first_tree ts)) (first_tree (later_trees ts)))

-- the modules of a declaration do not hang on its attributes
names_2 : NamesHold 1 2
unfolding row_symbols modules_in
names_2 e depth last at ts h =
    let first : Tree = first_tree ts in
    by_rows (λ u. map name_index (of_sort module_of e at (node 2 (subtree first (subtree u no_parts)))) ≡ map name_index (bare_declaration module_of e (at + width first) u) ++ []) 2 (3 ∷ 4 ∷ 5 ∷ []) (first_tree (later_trees ts)) h.1.0.0 refl h.1.0.1 (
      λ us d. by_rows (λ v. map name_index (module_of e (attribute_groups e at first) (at + width first) v) ≡ map name_index (module_of e [] (at + width first) v) ++ []) 8 (15 ∷ []) (first_tree us) d.0.0 refl d.0.1 (λ vs f. refl, tt),
      (
        λ us d. by_rows (λ v. map name_index (module_of e (attribute_groups e at first) (at + width first) v) ≡ map name_index (module_of e [] (at + width first) v) ++ []) 12 (22 ∷ []) (first_tree us) d.0.0 refl d.0.1 (λ vs f. refl, tt),
        (
          λ us d. by_rows (λ v. map name_index (module_of e (attribute_groups e at first) (at + width first) v) ≡ map name_index (module_of e [] (at + width first) v) ++ []) 16 (30 ∷ []) (first_tree us) d.0.0 refl d.0.1 (λ vs f. refl, tt),
          tt,
        ),
      ),
    )

names_3 : NamesHold 2 3
unfolding row_symbols modules_in
names_3 e depth last at ts h = by_rows (λ u. map name_index (module_of e [] at u) ≡ []) 8 (15 ∷ []) (first_tree ts) h.0.0 refl h.0.1 (λ us d. refl, tt)

names_4 : NamesHold 2 4
unfolding row_symbols modules_in
names_4 e depth last at ts h = by_rows (λ u. map name_index (module_of e [] at u) ≡ []) 12 (22 ∷ []) (first_tree ts) h.0.0 refl h.0.1 (λ us d. refl, tt)

names_5 : NamesHold 2 5
unfolding row_symbols modules_in
names_5 e depth last at ts h = by_rows (λ u. map name_index (module_of e [] at u) ≡ map name_index (module_of e [] at u) ++ []) 16 (30 ∷ []) (first_tree ts) h.0.0 refl h.0.1 (λ us d. refl, tt)

all_hold : AllHold 0 rows
unfolding row_symbols deep_in modules_in
all_hold = (
  (row_0, names_0),
  (
    (λ e depth at ts h. refl, λ e depth last at ts h. refl),
    (
      (row_2, names_2),
      (
        (row_3, names_3),
        (
          (row_4, names_4),
          (
            (row_5, names_5),
            (
              (row_6, λ e depth last at ts h. refl),
              (
                (λ e depth at ts h. refl, λ e depth last at ts h. refl),
                (
                  (row_8, λ e depth last at ts h. refl),
                  (
                    (λ e depth at ts h. refl, λ e depth last at ts h. refl),
                    (
                      (row_10, λ e depth last at ts h. refl),
                      (
                        (row_11, λ e depth last at ts h. refl),
                        (
                          (λ e depth at ts h. refl, λ e depth last at ts h. refl),
                          (
                            (λ e depth at ts h. refl, λ e depth last at ts h. refl),
                            (
                              (row_14, λ e depth last at ts h. refl),
                              (
                                (row_15, λ e depth last at ts h. refl),
                                (
                                  (λ e depth at ts h. refl, λ e depth last at ts h. refl),
                                  (
                                    (λ e depth at ts h. refl, λ e depth last at ts h. refl),
                                    (
                                      (λ e depth at ts h. refl, λ e depth last at ts h. refl),
                                      (
                                        (λ e depth at ts h. refl, λ e depth last at ts h. refl),
                                        (
                                          (row_20, λ e depth last at ts h. refl),
                                          (
                                            (λ e depth at ts h. refl, λ e depth last at ts h. refl),
                                            (
                                              (row_22, λ e depth last at ts h. refl),
                                              (
                                                (row_23, λ e depth last at ts h. refl),
                                                (
                                                  (λ e depth at ts h. refl, λ e depth last at ts h. refl),
                                                  (
                                                    (row_25, λ e depth last at ts h. refl),
                                                    (
                                                      (row_26, λ e depth last at ts h. refl),
                                                      (
                                                        (λ e depth at ts h. refl, λ e depth last at ts h. refl),
                                                        (
                                                          (λ e depth at ts h. refl, λ e depth last at ts h. refl),
                                                          (
                                                            (row_29, λ e depth last at ts h. refl),
                                                            (
                                                              (row_30, λ e depth last at ts h. refl),
                                                              (
                                                                (λ e depth at ts h. refl, λ e depth last at ts h. refl),
                                                                (
                                                                  (λ e depth at ts h. refl, λ e depth last at ts h. refl),
                                                                  (
                                                                    (λ e depth at ts h. refl, λ e depth last at ts h. refl),
                                                                    (
                                                                      (λ e depth at ts h. refl, λ e depth last at ts h. refl),
                                                                      (
                                                                        (λ e depth at ts h. refl, λ e depth last at ts h. refl),
                                                                        (
                                                                          (λ e depth at ts h. refl, λ e depth last at ts h. refl),
                                                                          (
                                                                            (row_37, λ e depth last at ts h. refl),
                                                                            (
                                                                              (λ e depth at ts h. refl, λ e depth last at ts h. refl),
                                                                              (
                                                                                (row_39, λ e depth last at ts h. refl),
                                                                                (
                                                                                  (row_40, λ e depth last at ts h. refl),
                                                                                  (
                                                                                    (λ e depth at ts h. refl, λ e depth last at ts h. refl),
                                                                                    (
                                                                                      (λ e depth at ts h. refl, λ e depth last at ts h. refl),
                                                                                      (
                                                                                        (row_43, λ e depth last at ts h. refl),
                                                                                        (
                                                                                          (row_44, λ e depth last at ts h. refl),
                                                                                          (
                                                                                            (λ e depth at ts h. refl, λ e depth last at ts h. refl),
                                                                                            (
                                                                                              (row_46, λ e depth last at ts h. refl),
                                                                                              (
                                                                                                (row_47, λ e depth last at ts h. refl),
                                                                                                (
                                                                                                  (row_48, λ e depth last at ts h. refl),
                                                                                                  (
                                                                                                    (λ e depth at ts h. refl, λ e depth last at ts h. refl),
                                                                                                    (
                                                                                                      (λ e depth at ts h. refl, λ e depth last at ts h. refl),
                                                                                                      (
                                                                                                        (λ e depth at ts h. refl, λ e depth last at ts h. refl),
                                                                                                        (
                                                                                                          (λ e depth at ts h. refl, λ e depth last at ts h. refl),
                                                                                                          (
                                                                                                            (λ e depth at ts h. refl, λ e depth last at ts h. refl),
                                                                                                            (
                                                                                                              (λ e depth at ts h. refl, λ e depth last at ts h. refl),
                                                                                                              (
                                                                                                                (λ e depth at ts h. refl, λ e depth last at ts h. refl),
                                                                                                                (
                                                                                                                  (λ e depth at ts h. refl, λ e depth last at ts h. refl),
                                                                                                                  (
                                                                                                                    (λ e depth at ts h. refl, λ e depth last at ts h. refl),
                                                                                                                    (
                                                                                                                      (λ e depth at ts h. refl, λ e depth last at ts h. refl),
                                                                                                                      (
                                                                                                                        (row_59, λ e depth last at ts h. refl),
                                                                                                                        (
                                                                                                                          (row_60, λ e depth last at ts h. refl),
                                                                                                                          (
                                                                                                                            (λ e depth at ts h. refl, λ e depth last at ts h. refl),
                                                                                                                            (
                                                                                                                              (row_62, λ e depth last at ts h. refl),
                                                                                                                              (
                                                                                                                                (row_63, λ e depth last at ts h. refl),
                                                                                                                                (
                                                                                                                                  (row_64, λ e depth last at ts h. refl),
                                                                                                                                  (
                                                                                                                                    (λ e depth at ts h. refl, λ e depth last at ts h. refl),
                                                                                                                                    (
                                                                                                                                      (row_66, λ e depth last at ts h. refl),
                                                                                                                                      (
                                                                                                                                        (λ e depth at ts h. refl, λ e depth last at ts h. refl),
                                                                                                                                        (
                                                                                                                                          (λ e depth at ts h. refl, λ e depth last at ts h. refl),
                                                                                                                                          (
                                                                                                                                            (λ e depth at ts h. refl, λ e depth last at ts h. refl),
                                                                                                                                            (
                                                                                                                                              (λ e depth at ts h. refl, λ e depth last at ts h. refl),
                                                                                                                                              (
                                                                                                                                                (row_71, λ e depth last at ts h. refl),
                                                                                                                                                (
                                                                                                                                                  (row_72, λ e depth last at ts h. refl),
                                                                                                                                                  (
                                                                                                                                                    (row_73, λ e depth last at ts h. refl),
                                                                                                                                                    (
                                                                                                                                                      (row_74, λ e depth last at ts h. refl),
                                                                                                                                                      (
                                                                                                                                                        (λ e depth at ts h. refl, λ e depth last at ts h. refl),
                                                                                                                                                        (
                                                                                                                                                          (row_76, λ e depth last at ts h. refl),
                                                                                                                                                          (
                                                                                                                                                            (row_77, λ e depth last at ts h. refl),
                                                                                                                                                            (
                                                                                                                                                              (λ e depth at ts h. refl, λ e depth last at ts h. refl),
                                                                                                                                                              (
                                                                                                                                                                (row_79, λ e depth last at ts h. refl),
                                                                                                                                                                (
                                                                                                                                                                  (row_80, λ e depth last at ts h. refl),
                                                                                                                                                                  (
                                                                                                                                                                    (λ e depth at ts h. refl, λ e depth last at ts h. refl),
                                                                                                                                                                    (
                                                                                                                                                                      (row_82, λ e depth last at ts h. refl),
                                                                                                                                                                      (
                                                                                                                                                                        (row_83, λ e depth last at ts h. refl),
                                                                                                                                                                        (
                                                                                                                                                                          (λ e depth at ts h. refl, λ e depth last at ts h. refl),
                                                                                                                                                                          (
                                                                                                                                                                            (λ e depth at ts h. refl, λ e depth last at ts h. refl),
                                                                                                                                                                            (
                                                                                                                                                                              (λ e depth at ts h. refl, λ e depth last at ts h. refl),
                                                                                                                                                                              (
                                                                                                                                                                                (λ e depth at ts h. refl, λ e depth last at ts h. refl),
                                                                                                                                                                                (
                                                                                                                                                                                  (λ e depth at ts h. refl, λ e depth last at ts h. refl),
                                                                                                                                                                                  (
                                                                                                                                                                                    (row_89, λ e depth last at ts h. refl),
                                                                                                                                                                                    (
                                                                                                                                                                                      (row_90, λ e depth last at ts h. refl),
                                                                                                                                                                                      (
                                                                                                                                                                                        (row_91, λ e depth last at ts h. refl),
                                                                                                                                                                                        (
                                                                                                                                                                                          (row_92, λ e depth last at ts h. refl),
                                                                                                                                                                                          (
                                                                                                                                                                                            (row_93, λ e depth last at ts h. refl),
                                                                                                                                                                                            (
                                                                                                                                                                                              (row_94, λ e depth last at ts h. refl),
                                                                                                                                                                                              (
                                                                                                                                                                                                (row_95, λ e depth last at ts h. refl),
                                                                                                                                                                                                (
                                                                                                                                                                                                  (row_96, λ e depth last at ts h. refl),
                                                                                                                                                                                                  (
                                                                                                                                                                                                    (row_97, λ e depth last at ts h. refl),
                                                                                                                                                                                                    (
                                                                                                                                                                                                      (λ e depth at ts h. refl, λ e depth last at ts h. refl),
                                                                                                                                                                                                      (
                                                                                                                                                                                                        (λ e depth at ts h. refl, λ e depth last at ts h. refl),
                                                                                                                                                                                                        (
                                                                                                                                                                                                          (λ e depth at ts h. refl, λ e depth last at ts h. refl),
                                                                                                                                                                                                          (
                                                                                                                                                                                                            (row_101, λ e depth last at ts h. refl),
                                                                                                                                                                                                            (
                                                                                                                                                                                                              (λ e depth at ts h. refl, λ e depth last at ts h. refl),
                                                                                                                                                                                                              (
                                                                                                                                                                                                                (row_103, λ e depth last at ts h. refl),
                                                                                                                                                                                                                (
                                                                                                                                                                                                                  (row_104, λ e depth last at ts h. refl),
                                                                                                                                                                                                                  (
                                                                                                                                                                                                                    (row_105, λ e depth last at ts h. refl),
                                                                                                                                                                                                                    (
                                                                                                                                                                                                                      (λ e depth at ts h. refl, λ e depth last at ts h. refl),
                                                                                                                                                                                                                      (
                                                                                                                                                                                                                        (row_107, λ e depth last at ts h. refl),
                                                                                                                                                                                                                        (
                                                                                                                                                                                                                          (λ e depth at ts h. refl, λ e depth last at ts h. refl),
                                                                                                                                                                                                                          (
                                                                                                                                                                                                                            (row_109, λ e depth last at ts h. refl),
                                                                                                                                                                                                                            (
                                                                                                                                                                                                                              (λ e depth at ts h. refl, λ e depth last at ts h. refl),
                                                                                                                                                                                                                              (
                                                                                                                                                                                                                                (row_111, λ e depth last at ts h. refl),
                                                                                                                                                                                                                                (
                                                                                                                                                                                                                                  (row_112, λ e depth last at ts h. refl),
                                                                                                                                                                                                                                  (
                                                                                                                                                                                                                                    (λ e depth at ts h. refl, λ e depth last at ts h. refl),
                                                                                                                                                                                                                                    (
                                                                                                                                                                                                                                      (λ e depth at ts h. refl, λ e depth last at ts h. refl),
                                                                                                                                                                                                                                      (
                                                                                                                                                                                                                                        (row_115, λ e depth last at ts h. refl),
                                                                                                                                                                                                                                        (
                                                                                                                                                                                                                                          (λ e depth at ts h. refl, λ e depth last at ts h. refl),
                                                                                                                                                                                                                                          (
                                                                                                                                                                                                                                            (λ e depth at ts h. refl, λ e depth last at ts h. refl),
                                                                                                                                                                                                                                            (
                                                                                                                                                                                                                                              (λ e depth at ts h. refl, λ e depth last at ts h. refl),
                                                                                                                                                                                                                                              (
                                                                                                                                                                                                                                                (λ e depth at ts h. refl, λ e depth last at ts h. refl),
                                                                                                                                                                                                                                                (
                                                                                                                                                                                                                                                  (λ e depth at ts h. refl, λ e depth last at ts h. refl),
                                                                                                                                                                                                                                                  (
                                                                                                                                                                                                                                                    (λ e depth at ts h. refl, λ e depth last at ts h. refl),
                                                                                                                                                                                                                                                    (
                                                                                                                                                                                                                                                      (λ e depth at ts h. refl, λ e depth last at ts h. refl),
                                                                                                                                                                                                                                                      (
                                                                                                                                                                                                                                                        (row_123, λ e depth last at ts h. refl),
                                                                                                                                                                                                                                                        (
                                                                                                                                                                                                                                                          (row_124, λ e depth last at ts h. refl),
                                                                                                                                                                                                                                                          (
                                                                                                                                                                                                                                                            (row_125, λ e depth last at ts h. refl),
                                                                                                                                                                                                                                                            (
                                                                                                                                                                                                                                                              (λ e depth at ts h. refl, λ e depth last at ts h. refl),
                                                                                                                                                                                                                                                              (
                                                                                                                                                                                                                                                                (row_127, λ e depth last at ts h. refl),
                                                                                                                                                                                                                                                                (
                                                                                                                                                                                                                                                                  (λ e depth at ts h. refl, λ e depth last at ts h. refl),
                                                                                                                                                                                                                                                                  (
                                                                                                                                                                                                                                                                    (row_129, λ e depth last at ts h. refl),
                                                                                                                                                                                                                                                                    (
                                                                                                                                                                                                                                                                      (λ e depth at ts h. refl, λ e depth last at ts h. refl),
                                                                                                                                                                                                                                                                      (
                                                                                                                                                                                                                                                                        (row_131, λ e depth last at ts h. refl),
                                                                                                                                                                                                                                                                        (
                                                                                                                                                                                                                                                                          (row_132, λ e depth last at ts h. refl),
                                                                                                                                                                                                                                                                          (
                                                                                                                                                                                                                                                                            (λ e depth at ts h. refl, λ e depth last at ts h. refl),
                                                                                                                                                                                                                                                                            (
                                                                                                                                                                                                                                                                              (row_134, λ e depth last at ts h. refl),
                                                                                                                                                                                                                                                                              (
                                                                                                                                                                                                                                                                                (row_135, λ e depth last at ts h. refl),
                                                                                                                                                                                                                                                                                (
                                                                                                                                                                                                                                                                                  (λ e depth at ts h. refl, λ e depth last at ts h. refl),
                                                                                                                                                                                                                                                                                  (
                                                                                                                                                                                                                                                                                    (row_137, λ e depth last at ts h. refl),
                                                                                                                                                                                                                                                                                    (
                                                                                                                                                                                                                                                                                      (row_138, λ e depth last at ts h. refl),
                                                                                                                                                                                                                                                                                      (
                                                                                                                                                                                                                                                                                        (λ e depth at ts h. refl, λ e depth last at ts h. refl),
                                                                                                                                                                                                                                                                                        (
                                                                                                                                                                                                                                                                                          (row_140, λ e depth last at ts h. refl),
                                                                                                                                                                                                                                                                                          (
                                                                                                                                                                                                                                                                                            (row_141, λ e depth last at ts h. refl),
                                                                                                                                                                                                                                                                                            (
                                                                                                                                                                                                                                                                                              (row_142, λ e depth last at ts h. refl),
                                                                                                                                                                                                                                                                                              (
                                                                                                                                                                                                                                                                                                (λ e depth at ts h. refl, λ e depth last at ts h. refl),
                                                                                                                                                                                                                                                                                                (
                                                                                                                                                                                                                                                                                                  (row_144, λ e depth last at ts h. refl),
                                                                                                                                                                                                                                                                                                  (
                                                                                                                                                                                                                                                                                                    (row_145, λ e depth last at ts h. refl),
                                                                                                                                                                                                                                                                                                    (
                                                                                                                                                                                                                                                                                                      (row_146, λ e depth last at ts h. refl),
                                                                                                                                                                                                                                                                                                      (
                                                                                                                                                                                                                                                                                                        (row_147, λ e depth last at ts h. refl),
                                                                                                                                                                                                                                                                                                        (
                                                                                                                                                                                                                                                                                                          (row_148, λ e depth last at ts h. refl),
                                                                                                                                                                                                                                                                                                          (
                                                                                                                                                                                                                                                                                                            (λ e depth at ts h. refl, λ e depth last at ts h. refl),
                                                                                                                                                                                                                                                                                                            (
                                                                                                                                                                                                                                                                                                              (row_150, λ e depth last at ts h. refl),
                                                                                                                                                                                                                                                                                                              (
                                                                                                                                                                                                                                                                                                                (row_151, λ e depth last at ts h. refl),
                                                                                                                                                                                                                                                                                                                (
                                                                                                                                                                                                                                                                                                                  (row_152, λ e depth last at ts h. refl),
                                                                                                                                                                                                                                                                                                                  (
                                                                                                                                                                                                                                                                                                                    (λ e depth at ts h. refl, λ e depth last at ts h. refl),
                                                                                                                                                                                                                                                                                                                    (
                                                                                                                                                                                                                                                                                                                      (row_154, λ e depth last at ts h. refl),
                                                                                                                                                                                                                                                                                                                      (
                                                                                                                                                                                                                                                                                                                        (row_155, λ e depth last at ts h. refl),
                                                                                                                                                                                                                                                                                                                        (
                                                                                                                                                                                                                                                                                                                          (row_156, λ e depth last at ts h. refl),
                                                                                                                                                                                                                                                                                                                          (
                                                                                                                                                                                                                                                                                                                            (row_157, λ e depth last at ts h. refl),
                                                                                                                                                                                                                                                                                                                            (
                                                                                                                                                                                                                                                                                                                              (λ e depth at ts h. refl, λ e depth last at ts h. refl),
                                                                                                                                                                                                                                                                                                                              (
                                                                                                                                                                                                                                                                                                                                (row_159, λ e depth last at ts h. refl),
                                                                                                                                                                                                                                                                                                                                (
                                                                                                                                                                                                                                                                                                                                  (row_160, λ e depth last at ts h. refl),
                                                                                                                                                                                                                                                                                                                                  (
                                                                                                                                                                                                                                                                                                                                    (λ e depth at ts h. refl, λ e depth last at ts h. refl),
                                                                                                                                                                                                                                                                                                                                    (
                                                                                                                                                                                                                                                                                                                                      (row_162, λ e depth last at ts h. refl),
                                                                                                                                                                                                                                                                                                                                      (
                                                                                                                                                                                                                                                                                                                                        (row_163, λ e depth last at ts h. refl),
                                                                                                                                                                                                                                                                                                                                        (
                                                                                                                                                                                                                                                                                                                                          (row_164, λ e depth last at ts h. refl),
                                                                                                                                                                                                                                                                                                                                          (
                                                                                                                                                                                                                                                                                                                                            (row_165, λ e depth last at ts h. refl),
                                                                                                                                                                                                                                                                                                                                            (
                                                                                                                                                                                                                                                                                                                                              (λ e depth at ts h. refl, λ e depth last at ts h. refl),
                                                                                                                                                                                                                                                                                                                                              (
                                                                                                                                                                                                                                                                                                                                                (λ e depth at ts h. refl, λ e depth last at ts h. refl),
                                                                                                                                                                                                                                                                                                                                                (
                                                                                                                                                                                                                                                                                                                                                  (row_168, λ e depth last at ts h. refl),
                                                                                                                                                                                                                                                                                                                                                  (
                                                                                                                                                                                                                                                                                                                                                    (row_169, λ e depth last at ts h. refl),
                                                                                                                                                                                                                                                                                                                                                    (
                                                                                                                                                                                                                                                                                                                                                      (row_170, λ e depth last at ts h. refl),
                                                                                                                                                                                                                                                                                                                                                      (
                                                                                                                                                                                                                                                                                                                                                        (row_171, λ e depth last at ts h. refl),
                                                                                                                                                                                                                                                                                                                                                        (
                                                                                                                                                                                                                                                                                                                                                          (λ e depth at ts h. refl, λ e depth last at ts h. refl),
                                                                                                                                                                                                                                                                                                                                                          tt,
                                                                                                                                                                                                                                                                                                                                                        ),
                                                                                                                                                                                                                                                                                                                                                      ),
                                                                                                                                                                                                                                                                                                                                                    ),
                                                                                                                                                                                                                                                                                                                                                  ),
                                                                                                                                                                                                                                                                                                                                                ),
                                                                                                                                                                                                                                                                                                                                              ),
                                                                                                                                                                                                                                                                                                                                            ),
                                                                                                                                                                                                                                                                                                                                          ),
                                                                                                                                                                                                                                                                                                                                        ),
                                                                                                                                                                                                                                                                                                                                      ),
                                                                                                                                                                                                                                                                                                                                    ),
                                                                                                                                                                                                                                                                                                                                  ),
                                                                                                                                                                                                                                                                                                                                ),
                                                                                                                                                                                                                                                                                                                              ),
                                                                                                                                                                                                                                                                                                                            ),
                                                                                                                                                                                                                                                                                                                          ),
                                                                                                                                                                                                                                                                                                                        ),
                                                                                                                                                                                                                                                                                                                      ),
                                                                                                                                                                                                                                                                                                                    ),
                                                                                                                                                                                                                                                                                                                  ),
                                                                                                                                                                                                                                                                                                                ),
                                                                                                                                                                                                                                                                                                              ),
                                                                                                                                                                                                                                                                                                            ),
                                                                                                                                                                                                                                                                                                          ),
                                                                                                                                                                                                                                                                                                        ),
                                                                                                                                                                                                                                                                                                      ),
                                                                                                                                                                                                                                                                                                    ),
                                                                                                                                                                                                                                                                                                  ),
                                                                                                                                                                                                                                                                                                ),
                                                                                                                                                                                                                                                                                              ),
                                                                                                                                                                                                                                                                                            ),
                                                                                                                                                                                                                                                                                          ),
                                                                                                                                                                                                                                                                                        ),
                                                                                                                                                                                                                                                                                      ),
                                                                                                                                                                                                                                                                                    ),
                                                                                                                                                                                                                                                                                  ),
                                                                                                                                                                                                                                                                                ),
                                                                                                                                                                                                                                                                              ),
                                                                                                                                                                                                                                                                            ),
                                                                                                                                                                                                                                                                          ),
                                                                                                                                                                                                                                                                        ),
                                                                                                                                                                                                                                                                      ),
                                                                                                                                                                                                                                                                    ),
                                                                                                                                                                                                                                                                  ),
                                                                                                                                                                                                                                                                ),
                                                                                                                                                                                                                                                              ),
                                                                                                                                                                                                                                                            ),
                                                                                                                                                                                                                                                          ),
                                                                                                                                                                                                                                                        ),
                                                                                                                                                                                                                                                      ),
                                                                                                                                                                                                                                                    ),
                                                                                                                                                                                                                                                  ),
                                                                                                                                                                                                                                                ),
                                                                                                                                                                                                                                              ),
                                                                                                                                                                                                                                            ),
                                                                                                                                                                                                                                          ),
                                                                                                                                                                                                                                        ),
                                                                                                                                                                                                                                      ),
                                                                                                                                                                                                                                    ),
                                                                                                                                                                                                                                  ),
                                                                                                                                                                                                                                ),
                                                                                                                                                                                                                              ),
                                                                                                                                                                                                                            ),
                                                                                                                                                                                                                          ),
                                                                                                                                                                                                                        ),
                                                                                                                                                                                                                      ),
                                                                                                                                                                                                                    ),
                                                                                                                                                                                                                  ),
                                                                                                                                                                                                                ),
                                                                                                                                                                                                              ),
                                                                                                                                                                                                            ),
                                                                                                                                                                                                          ),
                                                                                                                                                                                                        ),
                                                                                                                                                                                                      ),
                                                                                                                                                                                                    ),
                                                                                                                                                                                                  ),
                                                                                                                                                                                                ),
                                                                                                                                                                                              ),
                                                                                                                                                                                            ),
                                                                                                                                                                                          ),
                                                                                                                                                                                        ),
                                                                                                                                                                                      ),
                                                                                                                                                                                    ),
                                                                                                                                                                                  ),
                                                                                                                                                                                ),
                                                                                                                                                                              ),
                                                                                                                                                                            ),
                                                                                                                                                                          ),
                                                                                                                                                                        ),
                                                                                                                                                                      ),
                                                                                                                                                                    ),
                                                                                                                                                                  ),
                                                                                                                                                                ),
                                                                                                                                                              ),
                                                                                                                                                            ),
                                                                                                                                                          ),
                                                                                                                                                        ),
                                                                                                                                                      ),
                                                                                                                                                    ),
                                                                                                                                                  ),
                                                                                                                                                ),
                                                                                                                                              ),
                                                                                                                                            ),
                                                                                                                                          ),
                                                                                                                                        ),
                                                                                                                                      ),
                                                                                                                                    ),
                                                                                                                                  ),
                                                                                                                                ),
                                                                                                                              ),
                                                                                                                            ),
                                                                                                                          ),
                                                                                                                        ),
                                                                                                                      ),
                                                                                                                    ),
                                                                                                                  ),
                                                                                                                ),
                                                                                                              ),
                                                                                                            ),
                                                                                                          ),
                                                                                                        ),
                                                                                                      ),
                                                                                                    ),
                                                                                                  ),
                                                                                                ),
                                                                                              ),
                                                                                            ),
                                                                                          ),
                                                                                        ),
                                                                                      ),
                                                                                    ),
                                                                                  ),
                                                                                ),
                                                                              ),
                                                                            ),
                                                                          ),
                                                                        ),
                                                                      ),
                                                                    ),
                                                                  ),
                                                                ),
                                                              ),
                                                            ),
                                                          ),
                                                        ),
                                                      ),
                                                    ),
                                                  ),
                                                ),
                                              ),
                                            ),
                                          ),
                                        ),
                                      ),
                                    ),
                                  ),
                                ),
                              ),
                            ),
                          ),
                        ),
                      ),
                    ),
                  ),
                ),
              ),
            ),
          ),
        ),
      ),
    ),
  ),
)

found : (from : ℕ) (all : List Written) (i n : ℕ) (row : Written) → AllHold from all → slice_get all i ≡ Some row → from + i ≡ n → RowHolds row.left n × NamesHold row.left n
found from [] i n row h e s = cc
found from (r ∷ all) zero n row h e s =
    let same : r ≡ row = cc in
    let here : from ≡ n = omega (arith, s) in
    subst (λ m. RowHolds row.left m × NamesHold row.left m) here (subst (λ (w : Written). RowHolds w.left from × NamesHold w.left from) same h.0)
found from (r ∷ all) (suc i) n row h e s = found (suc from) all i n row h.1 e (omega (arith, s))

pub row_holds : (l row : ℕ) → IsRowOf va_grammar row l (va_rules.symbols row) → RowHolds l row
row_holds l row is = (found 0 rows row row (record { left = l; symbols = va_rules.symbols row }) all_hold is (zero-add row)).0

pub names_hold : (l row : ℕ) → IsRowOf va_grammar row l (va_rules.symbols row) → NamesHold l row
names_hold l row is = (found 0 rows row row (record { left = l; symbols = va_rules.symbols row }) all_hold is (zero-add row)).1
