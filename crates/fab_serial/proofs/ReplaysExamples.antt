-- Commits and their replay, computed.
use Rattle.std.proofs.Common.{◌≡◌, ℕ, Bool, true, false, List, [], ◌∷◌, refl}
use Rattle.std.specs.Prelude.{◌==◌}
use Rattle.fab_base.specs.declared.object.Oid.{Oid}
use Rattle.fab_base.specs.declared.object.Object.{Object}
use Rattle.fab_base.specs.declared.object.Tid.{Tid}
use Rattle.fab_base.specs.FlatMap.{FlatMap}
use Rattle.fab_net.specs.declared.event.Event.TheVariants.{Begin}
use Rattle.fab_net.specs.declared.note.Commit.{Commit}
use Rattle.fab_net.specs.declared.note.Logged.{Logged}
use Rattle.fab_net.specs.declared.note.Note.{Note}
use Rattle.fab_net.specs.declared.note.Note.TheVariants as note
use Rattle.fab_integrity.specs.Changed.{changed, named}
use Rattle.fab_serial.specs.Replays.{commits_at}

abbrev tid : Tid
tid = record { worker = 3; boot = 1; number = 2 }

abbrev commit : Commit
commit = record { worker = 3; request = 5; tid = tid; answers = [] }

abbrev with_notes : List Note → Logged
with_notes notes = record { event = Begin 3; bytes = []; notes = notes; whole = true; marked = false }

-- a decision is a commit, an end that came to nothing and a beginning are none
two_notes : commits_at (with_notes (note.Begun tid 5 ∷ note.Decided tid 5 true [] ∷ [])) ≡ commit ∷ []
two_notes = refl

no_commit : commits_at (with_notes (note.Decided tid 5 false [] ∷ [])) ≡ []
no_commit = refl

no_commit_of_it : commits_at (with_notes (note.Decided tid 5 false [] ∷ [])) ≡ commit ∷ [] → ⊥
no_commit_of_it h = cc

-- ---- three objects of two classes, of which the first and the third were written and the second was made

abbrev oid : ℕ → ℕ → Oid
oid number class = record { store = 1; class = class; worker = 65535; boot = 0; number = number; site = 65535; index = 0 }

abbrev thing : ℕ → Object
thing class = record { class = class; fields = [] }

abbrev rows : FlatMap
rows = (oid 0 0, thing 0) ∷ (oid 2 0, thing 0) ∷ (oid 1 1, thing 1) ∷ []

abbrev is_first : ℕ → Bool
is_first class = class == 0

second_row : named (oid 1 1 ∷ []) rows ≡ (oid 1 1, thing 1) ∷ []
second_row = refl

-- of the first class, only what was changed
first_class : changed is_first (oid 0 0 ∷ oid 1 1 ∷ []) (oid 2 0 ∷ []) rows [] ≡ (oid 0 0, thing 0) ∷ (oid 2 0, thing 0) ∷ []
first_class = refl

nothing_made : changed is_first (oid 0 0 ∷ oid 1 1 ∷ []) [] rows [] ≡ (oid 0 0, thing 0) ∷ []
nothing_made = refl

every_class : changed (λ class. true) (oid 0 0 ∷ oid 1 1 ∷ []) (oid 2 0 ∷ []) rows [] ≡ rows
every_class = refl

not_of_the_others : changed is_first (oid 1 1 ∷ []) [] rows [] ≡ (oid 1 1, thing 1) ∷ [] → ⊥
not_of_the_others h = cc
