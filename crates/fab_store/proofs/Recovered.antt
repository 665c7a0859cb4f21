-- Records of what was heard, kept again.
use Rattle.std.proofs.Common.{◌≡◌, ℕ, Option, Some, None, List, [], ◌∷◌, ◌++◌, ◌↔◌, IfSome, refl, ◌∙◌}
use Rattle.fab_base.specs.declared.message.Message.{Message}
use Rattle.fab_base.specs.declared.entry.Entry.{Entry}
use Rattle.fab_base.specs.FlatMap.{FlatMap}
use Rattle.fab_base.specs.MessageSpelling.{KeepsCounts}
use Rattle.fab_rights.specs.declared.rights.Rights.{Rights}
use Rattle.fab_protocol.specs.Stores.{Shelf, hears, keeps, keeps_said, shelf_at_start, shelf_of}
use Rattle.fab_protocol.proofs.Kept.{says_can_keep}
use Rattle.fab_store.specs.Histories.{AreReadable, Heard, behind_all, record_in, records_of}
use Rattle.fab_store.specs.Stock.{AreKept, CanKeepSaid, shelf_behind}
use Rattle.fab_store.proofs.Spelling.{kept_said}

hears_kept : (rights : Rights) (s n : ℕ) (heard : Option Message) (shelf : Shelf) → IfSome heard KeepsCounts
    → CanKeepSaid rights s (hears rights s n heard shelf).entry shelf
hears_kept rights s n None shelf counts = tt
hears_kept rights s n (Some message) shelf counts =
    kept_said rights s (hears rights s n (Some message) shelf).entry shelf (λ kept there. says_can_keep rights s shelf kept n message counts there)

-- one record more in front, if there is one
ahead : (rights : Rights) (s : ℕ) (entry : Option Entry) (entries : List Entry) (shelf : Shelf) → CanKeepSaid rights s entry shelf
    → AreKept rights s entries (keeps_said entry shelf) → AreKept rights s (record_in entry ++ entries) shelf
ahead rights s None entries shelf can rest = rest
ahead rights s (Some entry) entries shelf can rest = (can, rest)

pub all_kept : (rights : Rights) (s : ℕ) (heard : List Heard) (shelf : Shelf) → AreReadable heard → AreKept rights s (records_of rights s heard shelf) shelf
all_kept rights s [] shelf readable = tt
all_kept rights s (h ∷ hs) shelf readable =
    let entry = (hears rights s h.0 h.1 shelf).entry in
    ahead rights s entry (records_of rights s hs (keeps_said entry shelf)) shelf (hears_kept rights s h.0 h.1 shelf readable.0)
    (all_kept rights s hs (keeps_said entry shelf) readable.1)

one_again : (entry : Option Entry) (entries : List Entry) (shelf : Shelf) → shelf_behind (record_in entry ++ entries) shelf ≡ shelf_behind entries (keeps_said entry shelf)
one_again None entries shelf = refl
one_again (Some entry) entries shelf = refl

all_again : (rights : Rights) (s : ℕ) (heard : List Heard) (shelf : Shelf) → shelf_behind (records_of rights s heard shelf) shelf ≡ behind_all rights s heard shelf
all_again rights s [] shelf = refl
all_again rights s (h ∷ hs) shelf =
    let entry = (hears rights s h.0 h.1 shelf).entry in
    one_again entry (records_of rights s hs (keeps_said entry shelf)) shelf ∙ all_again rights s hs (keeps_said entry shelf)

pub recovered : (rights : Rights) (s : ℕ) (roots : FlatMap) (heard : List Heard)
    → shelf_of roots s (records_of rights s heard (shelf_at_start roots s)) ≡ behind_all rights s heard (shelf_at_start roots s)
unfolding shelf_of
recovered rights s roots heard = all_again rights s heard (shelf_at_start roots s)

-- ---- records in two parts

pub in_a_row : (rights : Rights) (s : ℕ) (first second : List Entry) (shelf : Shelf)
    → AreKept rights s (first ++ second) shelf ↔ (AreKept rights s first shelf × AreKept rights s second (shelf_behind first shelf))
in_a_row rights s [] second shelf = (λ h. (tt, h), λ h. h.1)
in_a_row rights s (entry ∷ first) second shelf =
    let rest = in_a_row rights s first second (keeps entry shelf) in
    (λ h. let parts = rest.0 h.1 in ((h.0, parts.0), parts.1), λ h. (h.0.0, rest.1 (h.0.1, h.1)))

pub of_roots : (roots : FlatMap) (s : ℕ) (entries : List Entry) → shelf_of roots s entries ≡ shelf_behind entries (shelf_at_start roots s)
unfolding shelf_of
of_roots roots s entries = refl
