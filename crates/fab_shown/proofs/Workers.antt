-- What a worker does: where its record decides, it is of its attempt and of the parts of this, and what it sends has no more of anything than a message may have.
use Rattle.std.proofs.Common.{◌≡◌, ℕ, suc, List, [], ◌∷◌, map, Option, Some, None, refl}
use Rattle.std.specs.List.{AllByRecursion, flat_map}
use Rattle.fab_base.specs.declared.entry.Entry.{Entry}
use Rattle.fab_base.specs.declared.entry.Entry.TheVariants as e
use Rattle.fab_base.specs.declared.message.Message.{Message}
use Rattle.fab_base.specs.declared.message.Message.TheVariants as m
use Rattle.fab_base.specs.declared.object.Tid.{Tid}
use Rattle.fab_base.specs.FieldSpelling.{KeepsItems}
use Rattle.fab_base.specs.MessageSpelling.{KeepsCounts}
use Rattle.fab_base.proofs.Lists.{all_append}
use Rattle.fab_language.specs.Meaning.{Meant}
use Rattle.fab_net.specs.declared.outcome.ReqOutcome.{ReqOutcome}
use Rattle.fab_net.specs.declared.outcome.ReqOutcome.TheVariants as o
use Rattle.fab_rights.specs.declared.rights.Rights.{Rights}
use Rattle.fab_rights.specs.Computed.{stores_in}
use Rattle.fab_protocol.specs.declared.parts.Decision.{Decision}
use Rattle.fab_protocol.specs.declared.parts.Parts.{Parts}
use Rattle.fab_protocol.specs.Parts.{items_at, stores_of}
use Rattle.fab_world.specs.Attempts.{parts_of}
use Rattle.fab_world.specs.Workers.{Act, Attempt, Kept, aborts, begins, closed, gives, gives_up, request_of, resumes, sending, stays, takes, tid_of, to_all, wakes}
use Rattle.fab_world.proofs.WorkerActs.{again, closed_each, resumed, silenced, taken}

abbrev Counts : ℕ × Message → Type 0
Counts y = KeepsCounts y.1

-- what a worker records: a decision of this attempt and these parts, that its request ended, or a boot
abbrev pub IsOf : Tid → Parts → Entry → Type 0
IsOf t p (e.Decided u request value stores) = (u ≡ t) × (value ≡ p.value) × (stores ≡ stores_of p)
IsOf t p (e.Closed request code node) = Unit {0}
IsOf t p (e.Boot b) = Unit {0}
IsOf t p (e.Prepared u items) = ⊥
IsOf t p (e.Refused u) = ⊥
IsOf t p (e.Applied u) = ⊥
IsOf t p (e.Released u) = ⊥
IsOf t p (e.BootSeen w b) = ⊥

abbrev pub IsOfIf : Tid → Parts → Option Entry → Type 0
IsOfIf t p None = Unit {0}
IsOfIf t p (Some entry) = IsOf t p entry

pub record IsSound (t : Tid) (p : Parts) (act : Act) : Type 0 where
  pub entry : IsOfIf t p act.entry
  pub sends : AllByRecursion (λ (y : ℕ × Message). KeepsCounts y.1) act.sends

closed_of : (t : Tid) (p : Parts) (request : ℕ) (outcome : ReqOutcome) → IsOf t p (closed request outcome)
closed_of t p request outcome = closed_each (IsOf t p) request (λ code node. tt) outcome

all_told : (ss : List ℕ) (message : Message) → KeepsCounts message → AllByRecursion Counts (to_all ss message)
all_told [] message h = tt
all_told (s ∷ ss) message h = (h, all_told ss message h)

module _ (rights : Rights) (k n : ℕ) (kept : Kept) (a : Attempt) (meant : Meant) (asked : (s : ℕ) → KeepsItems (items_at (parts_of a.answers meant) s)) where
  abbrev t : Tid
  t = tid_of n kept a

  abbrev p : Parts
  p = parts_of a.answers meant

  abbrev Sound : Act → Type 0
  Sound act = IsSound t p act

  pub sound_stays : (b : Attempt) → Sound (stays b)
  sound_stays b = record { entry = tt; sends = tt }

  pub sound_begins : Sound (begins rights k n kept a)
  sound_begins = record { entry = tt; sends = tt }

  all_asked : (ss : List ℕ) → AllByRecursion Counts (map (λ s. (s, m.Prepare t (items_at p s))) ss)
  all_asked [] = tt
  all_asked (s ∷ ss) = (asked s, all_asked ss)

  sound_gives : (outcome : ReqOutcome) → Sound (gives rights k n kept outcome a)
  sound_gives outcome = record { entry = closed_of t p (request_of kept) outcome; sends = tt }

  sound_aborts : (act : Act) → Sound act → Sound (sending (aborts rights k n kept a p) act)
  sound_aborts act h = record {
    entry = h.entry;
    sends = all_append Counts (aborts rights k n kept a p) act.sends (all_told (stores_of p) (m.Abort t) tt) h.sends;
  }

  pub sound_resumes : Sound (resumes rights k n kept a meant)
  sound_resumes = resumed rights k n kept a meant Sound (record {
    finds = λ site x row is there. record { entry = tt; sends = tt };
    fetches = λ site x is none. record { entry = tt; sends = (tt, tt) };
    decides = λ value is none. record { entry = (refl, refl, refl); sends = all_told (stores_of p) (m.Commit t) tt };
    asks = λ value s ss is at. record { entry = tt; sends = all_append Counts (map (λ s. (s, m.Prepare t (items_at p s))) (s ∷ ss)) [] (all_asked (s ∷ ss)) tt };
    fails = λ is. record { entry = tt; sends = tt };
    stops = λ limit is. record { entry = closed_of t p (request_of kept) (o.Stopped limit); sends = tt };
  })

  pub sound_takes : (s : ℕ) (message : Message) → Sound (takes rights k n kept s message a p)
  sound_takes s message = taken rights k n kept s a p message Sound (record {
    rests = λ h. record { entry = tt; sends = tt };
    learns = λ x h. record { entry = tt; sends = tt };
    denied = λ reason x. sound_gives (o.Denied s reason);
    tires = λ x h. sound_gives o.Conflict;
    tries = λ x h. record { entry = tt; sends = tt };
    gives_up = λ x h. sound_aborts (gives rights k n kept o.Conflict a) (sound_gives o.Conflict);
    aborts = λ x h. sound_aborts (again rights k n kept a) (record { entry = tt; sends = tt });
    decides = λ x h. record { entry = (refl, refl, refl); sends = all_told (stores_of p) (m.Commit t) tt };
    waits = λ x l ls h. record { entry = tt; sends = tt };
    commits = λ x h. record { entry = tt; sends = (tt, tt) };
    forgets = λ x h g. record { entry = tt; sends = (tt, tt) };
  })

  pub sound_gives_up : (s : ℕ) → Sound (gives_up rights k n kept s a p)
  sound_gives_up s = silenced rights k n kept s a p Sound (sound_gives (o.Silent s)) (λ ls is. sound_aborts (gives rights k n kept (o.Silent s) a) (sound_gives (o.Silent s)))

  commits_told : (ds : List Decision) → AllByRecursion Counts (flat_map (λ d. to_all d.stores (m.Commit d.tid)) ds)
  commits_told [] = tt
  commits_told (d ∷ ds) =
      all_append Counts (to_all d.stores (m.Commit d.tid)) (flat_map (λ (x : Decision). to_all x.stores (m.Commit x.tid)) ds) (all_told d.stores (m.Commit d.tid) tt) (commits_told ds)

  pub sound_wakes : Sound (wakes rights k n kept)
  sound_wakes = record {
    entry = tt;
    sends = all_append Counts (flat_map (λ (d : Decision). to_all d.stores (m.Commit d.tid)) kept.decided) (to_all (stores_in rights) (m.Boot (suc kept.boot)))
        (commits_told kept.decided) (all_told (stores_in rights) (m.Boot (suc kept.boot)) tt);
  }
