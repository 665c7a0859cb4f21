-- Which journals there are.
use Rattle.std.proofs.Common.{◌≡◌, ℕ, List, [], ◌∷◌, map, Option, Some, None, refl, sym, ap}
use Rattle.std.proofs.Common.{subst}
use Rattle.std.specs.Prelude.{option_map}
use Rattle.fab_world.specs.Machine.{World}
use Rattle.fab_node.specs.Standing.{GivenModel, IsJournalOf, JournalModel, NodeModel}
use Rattle.fab_core.specs.Cores.{NodesStand, SlotStands, slot}
use Rattle.fab_core.specs.Telling.{IsJournalAt, those_in}
use Rattle.fab_core.specs.Places.{journals_of}
use Rattle.fab_core.proofs.Filled.{journal_slot}

-- ---- journals

journal_by : (g : GivenModel) (w : World) (n : ℕ) (o : Option NodeModel) → SlotStands g w n o → IsJournalAt g (w.node n) n (option_map (λ x. x.journal) o)
journal_by g w n None s = s
journal_by g w n (Some x) s = (s.0, subst (λ m. IsJournalOf m (w.node n) x.journal.content x.journal.synced) s.1 s.2.journal)

-- the journals are those of the run
pub journals_at : (g : GivenModel) (w : World) (nodes : List (Option NodeModel)) → NodesStand g w nodes → (n : ℕ)
    → IsJournalAt g (w.node n) n (slot (journals_of nodes) n)
journals_at g w nodes stand n =
    subst (IsJournalAt g (w.node n) n) (sym (journal_slot nodes n)) (journal_by g w n (slot nodes n) (stand n))

-- those of the nodes that there are
pub those_map : {A B : Type 0} (f : A → B) (xs : List (Option A)) → map f (those_in xs) ≡ those_in (map (option_map f) xs)
those_map f [] = refl
those_map f (None ∷ xs) = those_map f xs
those_map f (Some x ∷ xs) = ap (λ ys. f x ∷ ys) (those_map f xs)
