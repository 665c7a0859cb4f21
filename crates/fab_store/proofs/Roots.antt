-- Roots, put one after the other into a table.
use Rattle.std.proofs.Common.{◌≡◌, ◌==◌, ℕ, suc, ◌+◌, ◌<◌, Bool, true, false, List, [], ◌∷◌, ◌++◌, length, map, take, drop, get_or, refl, sym, ap, ◌∙◌, subst, IsTrue, if◌then◌else◌}
use Rattle.std.specs.List.{AllByRecursion, filter}
use Rattle.std.proofs.lemmas.List.{append-nil, map-append, take_more}
use Rattle.std.proofs.lemmas.List.Elements.{filter-append}
use Rattle.std.proofs.Math.Seq.{split_at}
use Rattle.fab_base.specs.FlatMap.{FlatMap, is_before}
use Rattle.fab_base.specs.FlatMap as flat
use Rattle.fab_base.proofs.Lists.{all_filter, all_map}
use Rattle.fab_protocol.specs.Tables.{ascends, placed}
use Rattle.fab_protocol.specs.Versions.{Row, begun, name_of}
use Rattle.fab_protocol.proofs.ShelfKept.{Root, root_name, as_table}
use Rattle.fab_protocol.proofs.TableLaws.{ascends_parts, placed_behind}

abbrev pub here : ℕ → Root → Bool
here s root = root.0.store == s

module _ (s : ℕ) (roots : FlatMap) (i : ℕ) (root : Root) (within : i < length roots) (at : root ≡ get_or roots i root) where
  one_more : take (i + 1) roots ≡ take i roots ++ root ∷ []
  one_more = take_more roots i root within ∙ ap (λ (r : Root). take i roots ++ r ∷ []) (sym at)

  so_far : filter (here s) (take (i + 1) roots) ≡ filter (here s) (take i roots) ++ filter (here s) (root ∷ [])
  so_far = ap (filter (here s)) one_more ∙ filter-append (here s) (take i roots) (root ∷ [])

  -- a root of another store
  pub passed_over : here s root ≡ false → map begun (filter (here s) (take i roots)) ≡ map begun (filter (here s) (take (i + 1) roots))
  passed_over other =
      let none : filter (here s) (root ∷ []) ≡ [] = rw other refl in
      ap (map begun) (sym (append-nil (filter (here s) (take i roots))) ∙ ap (λ (rs : FlatMap). filter (here s) (take i roots) ++ rs) (sym none) ∙ sym so_far)

  -- one of this store goes behind all before it
  pub put_behind : IsTrue (flat.ascends roots) → here s root ≡ true
      → placed name_of (begun root) (map begun (filter (here s) (take i roots))) ≡ map begun (filter (here s) (take (i + 1) roots))
  put_behind ascending same =
      let rows : List Row = map begun (filter (here s) (take i roots)) in
      let parts : roots ≡ take i roots ++ root ∷ drop (suc i) roots =
      split_at roots i root within ∙ ap (λ (r : Root). take i roots ++ r ∷ drop (suc i) roots) (sym at) in
      let whole : IsTrue (ascends root_name (take i roots ++ root ∷ drop (suc i) roots)) =
      subst (λ (rs : FlatMap). IsTrue (ascends root_name rs)) parts (as_table roots ∙ ascending) in
      let before : AllByRecursion (λ (r : Root). IsTrue (is_before r.0 root.0)) (take i roots) = (ascends_parts root_name (take i roots) (drop (suc i) roots) root whole).0 in
      let all : AllByRecursion (λ (r : Row). IsTrue (is_before r.0 root.0)) rows =
      all_map (λ (r : Row). IsTrue (is_before r.0 root.0)) begun (filter (here s) (take i roots))
      (all_filter (λ (r : Root). IsTrue (is_before r.0 root.0)) (here s) (take i roots) before) in
      let one : filter (here s) (root ∷ []) ≡ root ∷ [] = rw same refl in
      ap (placed name_of (begun root)) (sym (append-nil rows))
      ∙ placed_behind name_of (begun root) rows [] all
      ∙ sym (map-append begun (filter (here s) (take i roots)) (root ∷ []))
      ∙ ap (map begun) (ap (λ (rs : FlatMap). filter (here s) (take i roots) ++ rs) (sym one) ∙ sym so_far)

  -- the roots so far, with one more
  pub next_root : IsTrue (flat.ascends roots) → (old new : List Row) → old ≡ map begun (filter (here s) (take i roots))
      → new ≡ (if here s root then placed name_of (begun root) old else old) → new ≡ map begun (filter (here s) (take (i + 1) roots))
  next_root ascending old new so put =
      put ∙ elim (here s root) as (λ b. here s root ≡ b → (if b then placed name_of (begun root) old else old) ≡ map begun (filter (here s) (take (i + 1) roots))) [
        | true ↦ λ e. ap (placed name_of (begun root)) so ∙ put_behind ascending e
        | false ↦ λ e. so ∙ passed_over e
      ] refl
