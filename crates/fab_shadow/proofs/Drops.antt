-- An attempt of a worker outside the set ends without a commit: the caches are emptied.
use Rattle.std.proofs.Common.{◌≡◌, ℕ, zero, suc, ◌≤◌, Bool, true, false, List}
use Rattle.std.proofs.Common.{[], ◌∷◌, ◌++◌, map, cond, Option, refl, sym, ap, ◌∙◌, subst, arith}
use Rattle.std.specs.Prelude.{◌==◌, if◌then◌else◌}
use Rattle.std.specs.List.{filter, range_with_len}
use Rattle.std.proofs.lemmas.Bool.{eqb-true, both_ways}
use Rattle.std.proofs.lemmas.List.{length-map}
use Rattle.fab_base.specs.declared.entry.Entry.{Entry}
use Rattle.fab_base.specs.declared.object.Oid.{Oid}
use Rattle.fab_base.specs.declared.object.Tid.{Tid}
use Rattle.fab_base.specs.declared.message.Message.{Message}
use Rattle.fab_base.specs.declared.message.Message.TheVariants as m
use Rattle.fab_net.specs.declared.note.Commit.{Commit}
use Rattle.fab_net.specs.declared.note.Logged.{Logged}
use Rattle.fab_net.specs.declared.note.Note.{Note}
use Rattle.fab_protocol.specs.declared.parts.Parts.{Parts}
use Rattle.fab_protocol.specs.Parts.{stores_of}
use Rattle.fab_protocol.specs.Versions.{Rows}
use Rattle.fab_world.specs.Machine.{Setting, World, kept, parts}
use Rattle.fab_world.specs.Workers as workers
use Rattle.fab_world.specs.Workers.{Act, Attempt, Phase, dropped, fresh, aborts_in, to_all}
use Rattle.fab_release.specs.declared.release.Release.{Release}
use Rattle.fab_release.specs.Sights.{Sight, Public}
use Rattle.fab_release.specs.Replay.{Rebuilt, WorkerSeen, Runs, Waits, Votes, over, no_caches, closes, sharers, tid_of}
use Rattle.fab_isolation.specs.Law.{IsShared}
use Rattle.fab_integrity.proofs.Invariant.{In, IsWorker, Standing, limit, limit_at, limit_in, rank, standing, tid_at}
use Rattle.fab_integrity.proofs.Costs.{noted_commits, noted_outside}
use Rattle.fab_integrity.proofs.Lasting.{kept_behind}
use Rattle.fab_integrity.proofs.Lists.{in_blank}
use Rattle.fab_integrity.proofs.Tids.{limit_at_most}
use Rattle.fab_integrity.proofs.Worlds.{Lands}
use Rattle.fab_shadow.proofs.Shadow.{never, Stands, ShadowsWorker, Keeps, InPhase, cache_of}
use Rattle.fab_shadow.proofs.Fold.{AtWorker, after, tells}
use Rattle.fab_shadow.proofs.Notes.{AreOwn}
use Rattle.fab_shadow.proofs.Logs.{IsLogged, changes_told}
use Rattle.fab_shadow.proofs.Frames.{stands_after}
use Rattle.fab_shadow.proofs.Deeds.{Did}
use Rattle.fab_shadow.proofs.Here.{calm_made, recorded_calm}

-- ---- caches that are empty

pub blank_cache : (caches : List Rows) (s : ℕ) → cache_of (map (λ cache. []) caches) s ≡ []
blank_cache [] s = refl
blank_cache (cache ∷ caches) zero = refl
blank_cache (cache ∷ caches) (suc s) = blank_cache caches s

none_cached : {A : Type 0} (xs : List A) (s : ℕ) → cache_of (map (λ x. []) xs) s ≡ []
none_cached [] s = refl
none_cached (x ∷ xs) zero = refl
none_cached (x ∷ xs) (suc s) = none_cached xs s

-- ---- one message to all that take part

-- to those of the set that are asked, each of them is sent what all are sent
sent_step : (has : ℕ → Bool) (f : ℕ → Message) (s d : ℕ) (fewer rest : List (ℕ × Message)) → has d ≡ true → filter (λ z. z.0 == d) fewer ≡ filter (λ z. z.0 == d) rest
    → (b : Bool) → has s ≡ b → (c : Bool) → (s == d) ≡ c
    → filter (λ z. z.0 == d) (cond b ((s, f s) ∷ fewer) fewer) ≡ cond c ((s, f s) ∷ filter (λ z. z.0 == d) rest) (filter (λ z. z.0 == d) rest)
sent_step has f s d fewer rest inside same true e true g =
    ap (λ c. cond c ((s, f s) ∷ filter (λ z. z.0 == d) fewer) (filter (λ z. z.0 == d) fewer)) g ∙ ap (λ zs. (s, f s) ∷ zs) same
sent_step has f s d fewer rest inside same true e false g = ap (λ c. cond c ((s, f s) ∷ filter (λ z. z.0 == d) fewer) (filter (λ z. z.0 == d) fewer)) g ∙ same
sent_step has f s d fewer rest inside same false e true g = absurd (both_ways (has s) e (ap has (eqb-true s d g) ∙ inside))
sent_step has f s d fewer rest inside same false e false g = same

abbrev sent_by : (ℕ → Message) → ℕ → ℕ × Message
sent_by f s = (s, f s)

map_step : (has : ℕ → Bool) (f : ℕ → Message) (s : ℕ) (ss : List ℕ) (b : Bool)
    → map (sent_by f) (cond b (s ∷ filter has ss) (filter has ss)) ≡ cond b ((s, f s) ∷ map (sent_by f) (filter has ss)) (map (sent_by f) (filter has ss))
map_step has f s ss true = refl
map_step has f s ss false = refl

pub sent_of_each : (has : ℕ → Bool) (f : ℕ → Message) (ss : List ℕ) (d : ℕ) → has d ≡ true
    → filter (λ z. z.0 == d) (map (sent_by f) (filter has ss)) ≡ filter (λ z. z.0 == d) (map (sent_by f) ss)
sent_of_each has f [] d inside = refl
sent_of_each has f (s ∷ ss) d inside =
    ap (filter (λ (z : ℕ × Message). z.0 == d)) (map_step has f s ss (has s))
    ∙ sent_step has f s d (map (sent_by f) (filter has ss)) (map (sent_by f) ss) inside (sent_of_each has f ss d inside) (has s) refl (s == d) refl

-- of messages to each, that to d alone counts
alike_step : (f g : ℕ → Message) (s d : ℕ) (rest other : List (ℕ × Message)) → f d ≡ g d → filter (λ z. z.0 == d) rest ≡ filter (λ z. z.0 == d) other
    → (b : Bool) → (s == d) ≡ b
    → cond b ((s, f s) ∷ filter (λ z. z.0 == d) rest) (filter (λ z. z.0 == d) rest) ≡ cond b ((s, g s) ∷ filter (λ z. z.0 == d) other) (filter (λ z. z.0 == d) other)
alike_step f g s d rest other same more false e = more
alike_step f g s d rest other same more true e =
    let here : s ≡ d = eqb-true s d e in
    ap (λ (message : Message). (s, message) ∷ filter (λ z. z.0 == d) rest) (ap f here ∙ same ∙ ap g (sym here)) ∙ ap (λ zs. (s, g s) ∷ zs) more

pub sent_alike : (f g : ℕ → Message) (ss : List ℕ) (d : ℕ) → f d ≡ g d → filter (λ z. z.0 == d) (map (sent_by f) ss) ≡ filter (λ z. z.0 == d) (map (sent_by g) ss)
sent_alike f g [] d same = refl
sent_alike f g (s ∷ ss) d same = alike_step f g s d (map (sent_by f) ss) (map (sent_by g) ss) same (sent_alike f g ss d same) (s == d) refl

module _ (S : Setting) (sight : Sight) (P : Public) (shared : IsShared S sight P) (w : World) (log : List Logged) (cs : List Commit) (k : Rebuilt)
    (stands : Stands S sight P w log cs k) (n : ℕ) (me : IsWorker S sight.has never n) (up : (w.node n).up ≡ true) where
  abbrev a : Attempt
  a = (w.node n).attempt

  abbrev here : Standing
  here = standing S sight.has never w cs n

  -- nothing is left of it but its number
  abbrev pub drops : Option Entry → ℕ → List (ℕ × Message) → List Note → Act
  drops entry tries sends notes = record { entry = entry; attempt = record (dropped a) { tries = tries }; sends = sends; notes = notes }

  dropped_seen : (entry : Option Entry) (tries : ℕ) (sends : List (ℕ × Message)) (notes : List Note) (y : WorkerSeen) (more : List Logged)
      → (kept_behind entry (kept S w n)).boot ≡ (kept S w n).boot → Keeps S sight P here y
      → ShadowsWorker S sight P n (stands_after S sight P here here.deals (drops entry tries sends notes)) more (over sight P (no_caches sight P) y)
  dropped_seen entry tries sends notes y more boot keeps = record {
    keeps = record {
      boot = keeps.boot ∙ sym boot;
      number = λ _. keeps.number up;
      commits = keeps.commits;
      parties = keeps.parties;
      wide = length-map a.caches (λ cache. []) ∙ keeps.wide;
      wide_too = refl;
      cached = λ s inside. none_cached (range_with_len 0 64) s ∙ sym (blank_cache a.caches s);
    };
    phase = refl;
  }

  limit_later : (entry : Option Entry) (tries : ℕ) (sends : List (ℕ × Message)) (notes : List Note) → (kept_behind entry (kept S w n)).boot ≡ (kept S w n).boot
      → limit here ≤ limit (stands_after S sight P here here.deals (drops entry tries sends notes))
  limit_later entry tries sends notes boot =
      let at : limit here ≡ rank (kept S w n).boot (limit_at a.phase a.number) = ap (λ b. limit_in b (kept S w n).boot a) up in
      let low = limit_at_most a.phase a.number in
      omega (arith, at, low, boot)

  -- so a drop is made, whatever entries there are of it
  pub dropped_made : (entry : Option Entry) (tries : ℕ) (sends : List (ℕ × Message)) (notes : List Note) (entries : List Release) (y : WorkerSeen)
      → (kept_behind entry (kept S w n)).boot ≡ (kept S w n).boot → noted_commits notes ≡ [] → AreOwn n notes → ((t : Tid) → changes_told t notes ≡ [])
      → Keeps S sight P here y → AtWorker k (after sight P k entries) n (over sight P (no_caches sight P) y) k.table
      → ((d : ℕ) → sight.has d ≡ true → filter (λ z. z.0 == d) (tells sight P k entries) ≡ filter (λ z. z.0 == d) sends)
      → (x : Logged) → IsLogged n notes x → (v : World) → Lands n (drops entry tries sends notes) w v
      → Did S sight P v (log ++ x ∷ []) (cs ++ noted_outside sight.has notes) k entries sends
  dropped_made entry tries sends notes entries y boot none own untold keeps at said =
      calm_made S sight P shared w log cs k stands n me (drops entry tries sends notes) entries (over sight P (no_caches sight P) y) none own at
      (λ x logged. dropped_seen entry tries sends notes y (log ++ x ∷ []) boot keeps)
      (λ x logged. recorded_calm S sight P shared w log cs k stands n me (drops entry tries sends notes) x logged untold (limit_later entry tries sends notes boot)
      (λ waits. absurd waits))
      (λ r i. absurd i) (λ rows i r j. absurd (subst (In r) (in_blank a.caches rows i) j)) said

  -- ---- what those that take part are told

  -- of a vote, all of the set that are asked
  pub closes_votes : (commit : Bool) (y : WorkerSeen) (part : Parts) → tid_of sight P n y ≡ tid_at n here → sharers sight P part ≡ sharers sight P (parts S w n) → (d : ℕ)
      → sight.has d ≡ true
      → filter (λ z. z.0 == d) (closes sight P n commit (Votes part) y)
      ≡ filter (λ z. z.0 == d) (to_all (stores_of (parts S w n)) (if commit then m.Commit (tid_at n here) else m.Abort (tid_at n here)))
  closes_votes commit y part tid same d inside =
      ap (λ ss. filter (λ z. z.0 == d) (to_all ss (if commit then m.Commit (tid_of sight P n y) else m.Abort (tid_of sight P n y)))) same
      ∙ sent_of_each sight.has (λ s. if commit then m.Commit (tid_of sight P n y) else m.Abort (tid_of sight P n y)) (stores_of (parts S w n)) d inside
      ∙ ap (λ t. filter (λ z. z.0 == d) (to_all (stores_of (parts S w n)) (if commit then m.Commit t else m.Abort t))) tid

  waits_or_runs : (b : Bool) (o : Oid) (commit : Bool) (y : WorkerSeen) → closes sight P n commit (if b then Waits o else Runs) y ≡ []
  waits_or_runs true o commit y = refl
  waits_or_runs false o commit y = refl

  -- where an attempt ends without a commit
  pub aborts_told : (y : WorkerSeen) → tid_of sight P n y ≡ tid_at n here → (phase : Phase) → InPhase S sight P n phase here log y → (d : ℕ) → sight.has d ≡ true
      → filter (λ z. z.0 == d) (closes sight P n false y.stage y)
      ≡ filter (λ z. z.0 == d) (aborts_in S.rights S.cache n (kept S w n) phase a (parts S w n))
  aborts_told y tid workers.Idle h d inside = ap (λ s. filter (λ (z : ℕ × Message). z.0 == d) (closes sight P n false s y)) h
  aborts_told y tid workers.Evaluating h d inside = ap (λ s. filter (λ (z : ℕ × Message). z.0 == d) (closes sight P n false s y)) h.stage
  aborts_told y tid (workers.Fetching o) h d inside =
      ap (λ s. filter (λ (z : ℕ × Message). z.0 == d) (closes sight P n false s y)) h.stage
      ∙ ap (filter (λ (z : ℕ × Message). z.0 == d)) (waits_or_runs (sight.has o.store) o false y)
  aborts_told y tid (workers.Preparing ls) h d inside =
      ap (λ s. filter (λ (z : ℕ × Message). z.0 == d) (closes sight P n false s y)) h.stage ∙ closes_votes false y h.parts tid h.shade.stores d inside
