-- Stores before anything is known of them.
use Rattle.std.proofs.Common.{◌≡◌, ℕ, Bool, true, false, ◌==◌, if◌then◌else◌, [], None, refl, ap, ◌∙◌}
use Rattle.std.specs.List.{filter, flat_map}
use Rattle.fab_base.specs.declared.message.Message.{Message}
use Rattle.fab_base.specs.declared.message.Message.TheVariants as m
use Rattle.fab_base.specs.FlatMap.{FlatMap}
use Rattle.fab_protocol.specs.Stores.{prepared_as, shelf_at_start}
use Rattle.fab_protocol.specs.Versions.{Row, left_by}
use Rattle.fab_release.specs.Replay.{StoreSeen, is_shown, shown_roots, store_applies}
use Rattle.fab_release.specs.Sights.{Public, Sight}
use Rattle.fab_shelf.specs.Shelves.{left_behind}
use Rattle.fab_public.specs.States.{unstored}

pub stands_first : (sight : Sight) (P : Public) (made : StoreSeen) (roots : FlatMap) (number n : ℕ) → made ≡ record { shelf = shelf_at_start roots number; asked = None }
    → roots ≡ shown_roots sight P → number ≡ n → made ≡ unstored sight P n
stands_first sight P made roots number n is are here =
    is ∙ ap (λ (rows : FlatMap). record { shelf = shelf_at_start rows number; asked = None }) are ∙ ap (unstored sight P) here

-- what a Commit leaves, of seen objects
pub applies_shown : (sight : Sight) (P : Public) (s d : ℕ) (message : Message) (x : StoreSeen)
    → filter (λ (row : Row). is_shown sight P row.0) (left_behind d message x.shelf.prepared) ≡ store_applies sight P s d message x
applies_shown sight P s d (m.Commit t) x = by (t.worker == d)
  where
    by : (b : Bool) → filter (λ (row : Row). is_shown sight P row.0) (if b then flat_map (λ p. left_by p.1) (prepared_as t x.shelf.prepared) else [])
        ≡ (if b then filter (λ (row : Row). is_shown sight P row.0) (flat_map (λ p. left_by p.1) (prepared_as t x.shelf.prepared)) else [])
    by true = refl
    by false = refl
applies_shown sight P s d (m.Fetch t o) x = refl
applies_shown sight P s d (m.Object t o version y) x = refl
applies_shown sight P s d (m.Deny t o why) x = refl
applies_shown sight P s d (m.Prepare t items) x = refl
applies_shown sight P s d (m.Vote t answer) x = refl
applies_shown sight P s d (m.Abort t) x = refl
applies_shown sight P s d (m.Boot b) x = refl
applies_shown sight P s d (m.Inquire t) x = refl
