-- An answer in each heap that is saved, and in the entries that they stand for.
use Rattle.std.proofs.Common.{◌≡◌, ℕ, zero, suc, ◌<◌, ◌≤◌, List, [], ◌∷◌, length, map, refl, ap, arith}
use Rattle.fab_base.specs.FlatMap.{FlatMap}
use Rattle.fab_language.specs.Heaps.{Heap}
use Rattle.fab_left.specs.Left as left
use Rattle.fab_left.specs.Left.{with_more, wider_entry}
use Rattle.fab_stack.specs.declared.stack.Entry.{Entry}
use Rattle.fab_stack.specs.declared.stack.Entry.TheVariants.{Rest, Tried, Returning}
use Rattle.fab_stack.specs.Stacks.{entries_of, trials, heap_at, place}

module _ (more : FlatMap) where
  heap_wider : (n : ℕ) (heaps : List Heap) → n < length heaps → heap_at n (map (with_more more) heaps) ≡ with_more more (heap_at n heaps)
  heap_wider n [] h = absurd (omega arith)
  heap_wider zero (g ∷ heaps) h = refl
  heap_wider (suc n) (g ∷ heaps) h = heap_wider n heaps (omega arith)

  pub entries_wider : (items : List Entry) (heaps : List Heap) → trials items ≤ length heaps → entries_of items (map (with_more more) heaps) ≡ map (wider_entry more) (entries_of items heaps)
  entries_wider [] heaps h = refl
  entries_wider (Rest method ss depth ∷ ks) heaps h = ap (λ l. left.rest (place method.now depth) ss.now ∷ l) (entries_wider ks heaps h)
  entries_wider (Tried method locals otherwise depth ∷ ks) heaps h =
      let few : trials ks < length heaps = omega (arith, h) in
      rw (heap_wider (trials ks) heaps few, entries_wider ks heaps (omega arith)) refl
  entries_wider (Returning callee depth caller caller_depth locals target ∷ ks) heaps h =
      ap (λ l. left.returning (place callee.now depth) (place caller.now caller_depth) locals.items target ∷ l) (entries_wider ks heaps h)
