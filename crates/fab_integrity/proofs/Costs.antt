-- What each event costs its node: attempts and boots, whether it is at work behind it, and which commit it notes.
use Rattle.std.proofs.Common.{◌≡◌, ◌⊎◌, ℕ, ◌+◌, ◌≤◌, List, [], ◌∷◌, length, Bool, true, not, IsTrue}
use Rattle.std.proofs.Common.{Option, Some, None, refl, sym, ap, inl, inr, arith, true≢false}
use Rattle.std.specs.List.{filter, flat_map}
use Rattle.std.proofs.lemmas.Bool.{and_parts}
use Rattle.fab_base.specs.declared.object.Tid.{Tid}
use Rattle.fab_base.specs.declared.message.Answer.{Answer}
use Rattle.fab_base.specs.declared.message.Answer.TheVariants.{Yes}
use Rattle.fab_base.specs.declared.message.Items.{Items}
use Rattle.fab_base.specs.declared.message.Message.{Message}
use Rattle.fab_base.specs.declared.message.Message.TheVariants as m
use Rattle.fab_base.specs.declared.entry.Entry.{Entry}
use Rattle.fab_base.specs.declared.entry.Entry.TheVariants as e
use Rattle.fab_language.specs.Meaning.{Meant}
use Rattle.fab_net.specs.declared.event.Inner.{Inner}
use Rattle.fab_net.specs.declared.event.Inner.TheVariants as i
use Rattle.fab_net.specs.declared.note.Commit.{Commit}
use Rattle.fab_net.specs.declared.note.Note.{Note}
use Rattle.fab_net.specs.declared.outcome.ReqOutcome.{ReqOutcome}
use Rattle.fab_net.specs.declared.outcome.ReqOutcome.TheVariants as ends
use Rattle.fab_rights.specs.declared.rights.Rights.{Rights}
use Rattle.fab_protocol.specs.declared.parts.Parts.{Parts}
use Rattle.fab_protocol.specs.declared.said.Said.{Said}
use Rattle.fab_protocol.specs.Stores as stores
use Rattle.fab_protocol.specs.Stores.{Shelf, vote, voted, asks}
use Rattle.fab_world.specs.Machine.{Setting, World, kept, shelf, node_of, act, may, is_running, is_evaluating, front_of, of_store, meant, parts}
use Rattle.fab_world.specs.Serial.{commit_in, attempts_in}
use Rattle.fab_world.specs.Workers as workers
use Rattle.fab_world.specs.Workers.{Kept, Phase, Attempt, Act, aborts, aborts_in, closed, gives, request_of, resumes, sending, stays, takes, tid_of, wakes}
use Rattle.fab_protocol.proofs.StoreActs.{answered}
use Rattle.fab_world.proofs.WorkerActs.{again, closed_each, heard, resumed, taken, woken}

-- ---- what is counted

-- a node that isn't idle is at work
abbrev pub work_of : Phase → ℕ
work_of workers.Idle = 0
work_of workers.Evaluating = 1
work_of (workers.Fetching o) = 1
work_of (workers.Preparing ls) = 1

-- what a record adds to a worker's boots, and to its outcomes
abbrev pub boots_by : Entry → ℕ
boots_by (e.Boot b) = 1
boots_by (e.Decided t request value stores) = 0
boots_by (e.Closed request code node) = 0
boots_by (e.Prepared t items) = 0
boots_by (e.Refused t) = 0
boots_by (e.Applied t) = 0
boots_by (e.Released t) = 0
boots_by (e.BootSeen w b) = 0

abbrev pub outcomes_by : Entry → ℕ
outcomes_by (e.Boot b) = 0
outcomes_by (e.Decided t request value stores) = 1
outcomes_by (e.Closed request code node) = 1
outcomes_by (e.Prepared t items) = 0
outcomes_by (e.Refused t) = 0
outcomes_by (e.Applied t) = 0
outcomes_by (e.Released t) = 0
outcomes_by (e.BootSeen w b) = 0

-- the same of the record of an act, if it has one
abbrev pub boots_in : Option Entry → ℕ
boots_in None = 0
boots_in (Some entry) = boots_by entry

abbrev pub outcomes_in : Option Entry → ℕ
outcomes_in None = 0
outcomes_in (Some entry) = outcomes_by entry

-- the commits that notes have
abbrev pub noted_commits : List Note → List Commit
noted_commits notes = flat_map commit_in notes

-- and those of workers outside D
abbrev pub noted_outside : (ℕ → Bool) → List Note → List Commit
noted_outside D notes = filter (λ c. not (D c.worker)) (noted_commits notes)

-- the commit that an attempt comes to
abbrev pub commit_at : ℕ → Kept → Attempt → Commit
commit_at n kept a = record { worker = n; request = request_of kept; tid = tid_of n kept a; answers = a.answers }

-- Of an act over an attempt: a commit is noted by a node at work, which is idle behind it, and with a record that ends the
-- request; it takes so many attempts and boots more. Where P fails, nothing is said of work.
pub record Goes (P : Type 0) (n : ℕ) (kept : Kept) (a : Attempt) (act : Act) (more : ℕ) : Type 0 where
  pub work : P → length (noted_commits act.notes) + work_of act.attempt.phase ≤ work_of a.phase + more
  pub low : boots_in act.entry + act.attempt.number ≤ a.number + more
  pub commits : (noted_commits act.notes ≡ []) ⊎ ((noted_commits act.notes ≡ commit_at n kept a ∷ []) × (outcomes_in act.entry ≡ 1))

-- ---- a worker's acts

closed_no_boot : (request : ℕ) (outcome : ReqOutcome) → boots_by (closed request outcome) ≡ 0
closed_no_boot request outcome = closed_each (λ entry. boots_by entry ≡ 0) request (λ code node. refl) outcome

evaluating_works : (phase : Phase) → is_evaluating phase ≡ true → 1 ≤ work_of phase
evaluating_works workers.Idle h = absurd (true≢false (sym h))
evaluating_works workers.Evaluating h = omega arith
evaluating_works (workers.Fetching o) h = omega arith
evaluating_works (workers.Preparing ls) h = omega arith

module _ (P : Type 0) (rights : Rights) (k n : ℕ) (kept : Kept) (a : Attempt) where
  -- of the attempt a, no more
  abbrev On : Act → Type 0
  On act = Goes P n kept a act 0

  goes_stays : (sends : List (ℕ × Message)) → On (sending sends (stays a))
  goes_stays sends = record { work = λ p. omega arith; low = omega arith; commits = inl refl }

  -- the request ends without a commit, or the try
  goes_gives : (sends : List (ℕ × Message)) (outcome : ReqOutcome) → On (sending sends (gives rights k n kept outcome a))
  goes_gives sends outcome = record { work = λ p. omega arith; low = omega (arith, closed_no_boot (request_of kept) outcome); commits = inl refl }

  goes_again : (sends : List (ℕ × Message)) → On (sending sends (again rights k n kept a))
  goes_again sends = record { work = λ p. omega arith; low = omega arith; commits = inl refl }

  goes_resumes : (meant : Meant) → (P → 1 ≤ work_of a.phase) → On (resumes rights k n kept a meant)
  goes_resumes meant on = resumed rights k n kept a meant On (record {
    finds = λ site o row is there. record { work = λ p. omega arith; low = omega arith; commits = inl refl };
    fetches = λ site o is none. record { work = λ p. let h = on p in omega (arith, h); low = omega arith; commits = inl refl };
    decides = λ value is none. record { work = λ p. let h = on p in omega (arith, h); low = omega arith; commits = inr (refl, refl) };
    asks = λ value s ss is at. record { work = λ p. let h = on p in omega (arith, h); low = omega arith; commits = inl refl };
    fails = λ is. record { work = λ p. omega arith; low = omega arith; commits = inl refl };
    stops = λ limit is. record { work = λ p. omega arith; low = omega (arith, closed_no_boot (request_of kept) (ends.Stopped limit)); commits = inl refl };
  })

  goes_takes : (s : ℕ) (message : Message) (parts : Parts) → On (takes rights k n kept s message a parts)
  goes_takes s message parts = taken rights k n kept s a parts message On (record {
    rests = λ e. goes_stays [];
    learns = λ x e. record { work = λ p. let busy : work_of a.phase ≡ 1 = ap work_of x.awaited.phase_is in omega (arith, busy); low = omega arith; commits = inl refl };
    denied = λ reason x. goes_gives [] (ends.Denied s reason);
    tires = λ x e. goes_gives [] ends.Conflict;
    tries = λ x e. goes_again [];
    gives_up = λ x e. goes_gives (aborts rights k n kept a parts) ends.Conflict;
    aborts = λ x e. goes_again (aborts rights k n kept a parts);
    decides = λ x e. record { work = λ p. let busy : work_of a.phase ≡ 1 = ap work_of x.awaited.phase_is in omega (arith, busy); low = omega arith; commits = inr (refl, refl) };
    waits = λ x l ls e. record { work = λ p. let busy : work_of a.phase ≡ 1 = ap work_of x.awaited.phase_is in omega (arith, busy); low = omega arith; commits = inl refl };
    commits = λ x e. goes_stays ((s, m.Commit x.tid) ∷ []);
    forgets = λ x e g. goes_stays ((s, m.Abort x.tid) ∷ []);
  })

  goes_wakes : Goes P n kept a (wakes rights k n kept) 1
  goes_wakes = record { work = λ p. omega arith; low = omega arith; commits = inl refl }

-- ---- a store's acts: no commit, and no boot of its own

-- what a store says has no commit and no boot
pub record IsQuiet (said : Said) : Type 0 where
  pub none : noted_commits said.notes ≡ []
  pub same : boots_in said.entry ≡ 0

voted_no_boot : (t : Tid) (items : Items) (answer : Answer) → boots_by (voted t items answer) ≡ 0
voted_no_boot t items Yes = refl
voted_no_boot t items _ = refl

-- so is what it says to any message
pub quiet_says : (rights : Rights) (s n : ℕ) (message : Message) (shelf : Shelf) → IsQuiet (stores.says rights s n message shelf)
quiet_says rights s n message shelf = answered rights s n shelf IsQuiet message (record {
  rests = λ h. record { none = refl; same = refl };
  lacks = λ t o h. record { none = refl; same = refl };
  bars = λ t o h. record { none = refl; same = refl };
  shows = λ t o row h there. record { none = refl; same = refl };
  too_late = λ t items h. record { none = refl; same = refl };
  votes_on = λ t items h above. record { none = refl; same = voted_no_boot t items (vote rights s n t items shelf) };
  applies = λ t h there. record { none = refl; same = refl };
  releases = λ t h there. record { none = refl; same = refl };
  boots = λ b h later. record { none = refl; same = refl };
})

goes_store : (S : Setting) (P : Type 0) (n : ℕ) (kept : Kept) (a : Attempt) (said : Said) (more : ℕ) → IsQuiet said → Goes P n kept a (of_store S a said) more
goes_store S P n kept a said more quiet = record {
  work = λ p. omega (arith, ap length quiet.none);
  low = omega (arith, quiet.same);
  commits = inl quiet.none;
}

-- ---- an event's act

module _ (S : Setting) where
  -- what an event that may come costs its node
  pub goes_act : (w : World) (e : Inner) → Goes (IsTrue (may S w e)) (node_of e) (kept S w (node_of e)) (w.node (node_of e)).attempt (act S w e) (attempts_in e)
  goes_act w (i.Begin n) = record { work = λ p. omega arith; low = omega arith; commits = inl refl }
  goes_act w (i.Resume n) =
      goes_resumes (IsTrue (may S w (i.Resume n))) S.rights S.cache n (kept S w n) (w.node n).attempt (meant S w n)
      (λ can. evaluating_works (w.node n).attempt.phase (and_parts (is_running S w n) (is_evaluating (w.node n).attempt.phase) can).1)
  goes_act w (i.Deliver a b) =
      let P = IsTrue (may S w (i.Deliver a b)) in
      heard S w (λ act. Goes P b (kept S w b) (w.node b).attempt act 0) a b (goes_stays P S.rights S.cache b (kept S w b) (w.node b).attempt [])
      (λ message worker. goes_takes P S.rights S.cache b (kept S w b) (w.node b).attempt a message (parts S w b))
      (λ message store. goes_store S P b (kept S w b) (w.node b).attempt (stores.says S.rights b a message (shelf S w b)) 0 (quiet_says S.rights b a message (shelf S w b)))
      (S.read (front_of (w.queue a b)))
  goes_act w (i.Idle n s) =
      goes_gives (IsTrue (may S w (i.Idle n s))) S.rights S.cache n (kept S w n) (w.node n).attempt
      (aborts_in S.rights S.cache n (kept S w n) (w.node n).attempt.phase (w.node n).attempt (parts S w n)) (ends.Silent s)
  goes_act w (i.Recover n) =
      let P = IsTrue (may S w (i.Recover n)) in
      woken S w (λ act. Goes P n (kept S w n) (w.node n).attempt act 1) n (λ worker. goes_wakes P S.rights S.cache n (kept S w n) (w.node n).attempt)
      (λ store. goes_store S P n (kept S w n) (w.node n).attempt (asks (shelf S w n)) 1 (record { none = refl; same = refl }))
