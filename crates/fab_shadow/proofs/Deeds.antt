-- What is to be shown of an event: behind it and its entries the world and the replay stand to each other as before, and its messages
-- to the set are what the replay says at the entries.
use Rattle.std.proofs.Common.{◌≡◌, ℕ, List, [], ◌∷◌, ◌++◌, true}
use Rattle.std.specs.Prelude.{◌==◌}
use Rattle.std.specs.List.{filter, flat_map}
use Rattle.fab_base.specs.declared.message.Message.{Message}
use Rattle.fab_net.specs.declared.event.Inner.{Inner}
use Rattle.fab_net.specs.declared.note.Commit.{Commit}
use Rattle.fab_net.specs.declared.note.Logged.{Logged}
use Rattle.fab_world.specs.Machine.{Setting, World, node_of, act, bytes_in}
use Rattle.fab_world.specs.Workers.{Act}
use Rattle.fab_release.specs.declared.release.Release.{Release}
use Rattle.fab_release.specs.Sights.{Sight, Public}
use Rattle.fab_release.specs.Record.{seen_by, of_note, received, recovered}
use Rattle.fab_release.specs.Replay.{Rebuilt}
use Rattle.fab_integrity.proofs.Costs.{noted_outside}
use Rattle.fab_integrity.proofs.Worlds.{Lands}
use Rattle.fab_shadow.proofs.Shadow.{Shadow}
use Rattle.fab_shadow.proofs.Fold.{after, tells}
use Rattle.fab_shadow.proofs.Logs.{IsLogged}

module _ (S : Setting) (sight : Sight) (P : Public) where
  -- the world is v behind an act with these entries, which sends this
  pub record Did (v : World) (log : List Logged) (cs : List Commit) (k : Rebuilt) (entries : List Release) (sends : List (ℕ × Message)) : Type 0 where
    pub shadow : Shadow S sight P v log cs (after sight P k entries)
    pub tells : (d : ℕ) → sight.has d ≡ true → filter (λ y. y.0 == d) (tells sight P k entries) ≡ filter (λ y. y.0 == d) sends

  module _ (w : World) (log : List Logged) (cs : List Commit) (k : Rebuilt) where
    -- what the notes of node n release
    abbrev pub noted : ℕ → Act → List Release
    noted n act = flat_map (of_note sight n (seen_by sight n log) log) act.notes

    -- This act of node n, with these entries before and behind those of its notes: whatever is lost of what it sends.
    abbrev pub Makes : ℕ → List Release → Act → List Release → Type 0
    Makes n before act behind =
        (x : Logged) → IsLogged n act.notes x → (v : World) → Lands n act w v
        → Did v (log ++ x ∷ []) (cs ++ noted_outside sight.has act.notes) k (before ++ noted n act ++ behind) act.sends

    -- so for an event, whose node is outside the set
    abbrev pub Goes : Inner → Type 0
    Goes e = Makes (node_of e) (received sight e (bytes_in S w e)) (act S w e) (recovered sight e)
