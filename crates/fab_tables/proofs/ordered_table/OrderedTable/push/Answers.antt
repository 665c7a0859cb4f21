use Rattle.std.proofs.Common.{length, ap, ◌∙◌, ◌++◌, ◌∷◌, [], Some}
use Rattle.std.specs.BTreeMap.{get_by}
use Rattle.std.specs.Cmp.Lexicographic.{slice_cmp}
use Rattle.std.specs.Ordering.{nat_cmp}
use Rattle.std.proofs.lemmas.Map.Text.{btree_map_updates_str}
use Rattle.fab_tables.proofs.PlaceLemmas.{again, once}
use Rattle.fab_tables.proofs.ordered_table.OrderedTable.push.Goals as goal
use Rattle.fab_tables.proofs.ordered_table.OrderedTable.push.Goals.{then-first+in_ok-insert, else-first}

pub invariant_of-self-2 : goal.invariant_of-self-2
invariant_of-self-2 c = elim c.if-first.branch [
  | then-first+in_ok-insert w ↦
      rw w.self-inside-is
      (once (λ q. get_by (λ k. slice_cmp nat_cmp q k.now) c.self.inside.numbers) c.self.inside.names.items c.reserve.new.self.items c.push.new.self.items c.as_str-text.result c.get.result
      c.self.invariant c.get.ensures.value c.in_ok-reserve.ensures.items (c.in_ok-push.ensures.items ∙ ap (λ s. s.names.items ++ c.as_str-text.result ∷ []) w.self-inside-is)
      (λ q. get_by (λ k. slice_cmp nat_cmp q k.now) w.insert.new.self) (length w.as_slice.result.now) w.if-first.ensures (ap length w.as_slice.ensures.value)
      (btree_map_updates_str c.as_str-text.result.now c.self.inside.numbers w.insert.new.self (Some (length w.as_slice.result.now)) w.in_ok-insert.ensures.updates))
  | else-first w ↦
      rw w.self-inside-is
      (again (λ q. get_by (λ k. slice_cmp nat_cmp q k.now) c.self.inside.numbers) c.self.inside.names.items c.reserve.new.self.items c.push.new.self.items c.as_str-text.result c.get.result
      c.self.invariant c.get.ensures.value c.in_ok-reserve.ensures.items (c.in_ok-push.ensures.items ∙ ap (λ s. s.names.items ++ c.as_str-text.result ∷ []) w.self-inside-is) w.if-first.ensures)
]
