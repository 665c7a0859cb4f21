-- A worker outside the set takes a message of a store: what the replay does where it is received, and acts that leave an attempt as it is,
-- or end it without a commit.
use Rattle.std.proofs.Common.{◌≡◌, ℕ, suc, Bool, true, false, List, [], ◌∷◌, ◌++◌, cond, Option, Some, None, refl, sym, ap, ◌∙◌, subst, arith}
use Rattle.std.specs.Prelude.{◌==◌, ◌&&◌, if◌then◌else◌}
use Rattle.std.specs.List.{filter}
use Rattle.std.proofs.lemmas.Bool.{and_from, both_ways, cond_both, ne_eqb, or_left}
use Rattle.std.proofs.lemmas.List.{append-nil}
use Rattle.fab_base.specs.declared.entry.Entry.{Entry}
use Rattle.fab_base.specs.declared.message.Message.{Message}
use Rattle.fab_base.specs.declared.object.Tid.{Tid}
use Rattle.fab_net.specs.declared.note.Commit.{Commit}
use Rattle.fab_net.specs.declared.note.Logged.{Logged}
use Rattle.fab_net.specs.declared.note.Note.{Note}
use Rattle.fab_net.specs.declared.note.Note.TheVariants as note
use Rattle.fab_net.specs.declared.outcome.ReqOutcome.{ReqOutcome}
use Rattle.fab_net.specs.declared.outcome.ReqOutcome.TheVariants.{Conflict}
use Rattle.fab_rights.specs.Computed.{is_store, is_worker}
use Rattle.fab_rights.specs.declared.rights.Rights.{Rights}
use Rattle.fab_world.specs.Machine.{Setting, World, front_of, kept, parts}
use Rattle.fab_world.specs.Workers.{Act, Attempt, aborts_in, closed, closes, dropped, gives, noting, request_of, sending, stays, try_ends, undecided}
use Rattle.fab_release.specs.declared.release.Release.{Release}
use Rattle.fab_release.specs.declared.release.Release.TheVariants.{Received, Decided}
use Rattle.fab_release.specs.Sights.{Sight, Public}
use Rattle.fab_release.specs.Replay as replay
use Rattle.fab_release.specs.Replay.{Rebuilt, WorkerSeen, at_store, at_worker, hears, is_heard, no_caches, next}
use Rattle.fab_release.specs.Replay.{over, sends, store_applies, store_hears, store_says, tabled, told, worker_hears, worker_says}
use Rattle.fab_isolation.specs.Law.{IsShared}
use Rattle.fab_integrity.proofs.Invariant.{IsWorker, Standing, deals, standing}
use Rattle.fab_integrity.proofs.Costs.{noted_commits, noted_outside}
use Rattle.fab_integrity.proofs.Lasting.{kept_behind}
use Rattle.fab_integrity.proofs.WorkerMoves.{closed_keeps}
use Rattle.fab_integrity.proofs.Worlds.{Lands}
use Rattle.fab_shadow.proofs.Shadow.{never, Stands, ShadowsWorker}
use Rattle.fab_shadow.proofs.Fold.{AtWorker, after, after_append, at_worker_refl, tells, tells_append}
use Rattle.fab_shadow.proofs.Notes.{AreOwn}
use Rattle.fab_shadow.proofs.Logs.{IsLogged, changes_told, seen_mine}
use Rattle.fab_shadow.proofs.Deeds.{Did, Makes, noted}
use Rattle.fab_shadow.proofs.Frames.{shadows_log, stands_after}
use Rattle.fab_shadow.proofs.Here.{answer_dated, at_as, at_next, calm_made, limit_here, recorded_calm, same_tid, shadows}
use Rattle.fab_shadow.proofs.Drops.{aborts_told, dropped_made, drops}

module _ (S : Setting) (sight : Sight) (P : Public) (shared : IsShared S sight P) (w : World) (log : List Logged) (cs : List Commit) (k : Rebuilt)
    (stands : Stands S sight P w log cs k) (n : ℕ) (me : IsWorker S sight.has never n) (up : (w.node n).up ≡ true) (s : ℕ) where
  abbrev a : Attempt
  a = (w.node n).attempt

  abbrev here : Standing
  here = standing S sight.has never w cs n

  abbrev y : WorkerSeen
  y = k.worker n

  abbrev bytes : List ℕ
  bytes = front_of (w.queue s n)

  -- what is released where it is received, of a store in the set or of another
  abbrev pub entries : Bool → List Release
  entries b = if b then Received n s bytes ∷ [] else []

  worker_is : is_worker P.rights n ≡ true
  worker_is = ap (λ (rights : Rights). is_worker rights n) shared.public_is.rights ∙ me.kind

  -- where it stands, as it is up
  abbrev awake : Standing
  awake = record { kept = kept S w n; attempt = a; up = true; deals = deals cs n }

  pub is_awake : here ≡ awake
  is_awake = λ i. record { kept = kept S w n; attempt = a; up = up i; deals = deals cs n }

  -- ---- what the replay does

  module _ (is : is_store S.rights s ≡ true) (message : Message) (read : S.read bytes ≡ Some message) where
    heard_is : is_heard sight P n s ≡ true
    heard_is =
        or_left (is_worker P.rights n && is_store P.rights s) (is_store P.rights n && is_worker P.rights s)
        (and_from (is_worker P.rights n) (is_store P.rights s) worker_is (ap (λ (rights : Rights). is_store rights s) shared.public_is.rights ∙ is))

    read_is : P.read bytes ≡ Some message
    read_is = shared.public_is.read bytes ∙ read

    heard_next : next sight P (Received n s bytes) k ≡ at_worker sight P k n (worker_hears sight P n s message)
    heard_next =
        ap (λ b. if b then hears sight P n s (P.read bytes) k else k) heard_is
        ∙ ap (λ found. hears sight P n s found k) read_is
        ∙ ap (λ b. if b then at_worker sight P k n (worker_hears sight P n s message)
        else tabled sight P (store_applies sight P n s message (k.store n)) (at_store sight P k n (store_hears sight P n s message))) worker_is

    heard_said : sends sight P (Received n s bytes) k ≡ worker_says sight P n s message y
    heard_said =
        ap (λ b. if b then told sight P n s (P.read bytes) k else []) heard_is
        ∙ ap (λ found. told sight P n s found k) read_is
        ∙ ap (λ b. if b then worker_says sight P n s message y else store_says sight P n s message (k.store n)) worker_is

    -- the worker in the replay has heard it, if the store is in the set, and says what it says at once
    abbrev pub heard_by : Bool → WorkerSeen
    heard_by b = if b then worker_hears sight P n s message y else y

    abbrev pub said_by : Bool → List (ℕ × Message)
    said_by b = if b then worker_says sight P n s message y else []

    pub at_heard : (b : Bool) → AtWorker k (after sight P k (entries b)) n (heard_by b) k.table
    at_heard true =
        subst (λ z. AtWorker k z n (worker_hears sight P n s message y) k.table) (sym heard_next)
        (at_next sight P k k n y k.table (worker_hears sight P n s message) (at_worker_refl k n))
    at_heard false = at_worker_refl k n

    pub says_heard : (b : Bool) → tells sight P k (entries b) ≡ said_by b
    says_heard true = append-nil (sends sight P (Received n s bytes) k) ∙ heard_said
    says_heard false = refl

    -- by most messages nothing changes there, and to most nothing is said at once
    calm_by : (b : Bool) → (b ≡ true → worker_hears sight P n s message y ≡ y) → heard_by b ≡ y
    calm_by true e = e refl
    calm_by false e = refl

    mute_by : (b : Bool) → (b ≡ true → worker_says sight P n s message y ≡ []) → said_by b ≡ []
    mute_by true e = e refl
    mute_by false e = refl

    pub at_calm : (b : Bool) → (b ≡ true → worker_hears sight P n s message y ≡ y) → AtWorker k (after sight P k (entries b)) n y k.table
    at_calm b e = at_as sight P k (after sight P k (entries b)) n (heard_by b) y k.table (calm_by b e) (at_heard b)

    pub says_mute : (b : Bool) → (b ≡ true → worker_says sight P n s message y ≡ []) → tells sight P k (entries b) ≡ []
    says_mute b e = says_heard b ∙ mute_by b e

    -- to a store in the set one thing is said
    pub says_one : (answer : Message) → (b : Bool) → sight.has s ≡ b → (b ≡ true → worker_says sight P n s message y ≡ (s, answer) ∷ []) → (d : ℕ) → sight.has d ≡ true
        → filter (λ z. z.0 == d) (tells sight P k (entries b)) ≡ filter (λ z. z.0 == d) ((s, answer) ∷ [])
    says_one answer true has e d inside = ap (filter (λ (z : ℕ × Message). z.0 == d)) (says_heard true ∙ e refl)
    says_one answer false has e d inside =
        sym (ap (λ b. cond b ((s, answer) ∷ []) []) (ne_eqb s d (λ same. both_ways (sight.has s) has (ap sight.has same ∙ inside))))

  -- ---- entries

  -- what is to be shown of an act with these entries in all
  abbrev pub Done : List Release → Act → Type 0
  Done es act =
      (x : Logged) → IsLogged n act.notes x → (v : World) → Lands n act w v
      → Did S sight P v (log ++ x ∷ []) (cs ++ noted_outside sight.has act.notes) k es act.sends

  -- behind what was received stands what the notes release
  pub made_by : (es rest : List Release) (act : Act) → noted S sight P w log cs k n act ≡ rest → Done (es ++ rest) act → Makes S sight P w log cs k n es act []
  made_by es rest act e h x logged v lands =
      subst (λ z. Did S sight P v (log ++ x ∷ []) (cs ++ noted_outside sight.has act.notes) k z act.sends)
      (sym (append-nil (es ++ noted S sight P w log cs k n act) ∙ ap (λ zs. es ++ zs) e)) (h x logged v lands)

  pub made_quietly : (es : List Release) (act : Act) → noted S sight P w log cs k n act ≡ [] → Done es act → Makes S sight P w log cs k n es act []
  made_quietly es act e h = made_by es [] act e (subst (λ z. Done z act) (sym (append-nil es)) h)

  -- ---- the attempt stays as it is

  abbrev pub stays_saying : List (ℕ × Message) → Act
  stays_saying said = record { entry = None; attempt = a; sends = said; notes = [] }

  stays_seen : (said : List (ℕ × Message)) (x : Logged) → IsLogged n [] x
      → ShadowsWorker S sight P n (stands_after S sight P here here.deals (stays_saying said)) (log ++ x ∷ []) y
  stays_seen said x logged =
      subst (λ u. ShadowsWorker S sight P n u (log ++ x ∷ []) y) is_awake
      (shadows_log S sight P n here log (log ++ x ∷ []) y (seen_mine sight n [] log x logged) (shadows S sight P shared w log cs k stands n me))

  -- it may say something, if the replay says the same
  pub stays_made : (es : List Release) (said : List (ℕ × Message)) → AtWorker k (after sight P k es) n y k.table
      → ((d : ℕ) → sight.has d ≡ true → filter (λ z. z.0 == d) (tells sight P k es) ≡ filter (λ z. z.0 == d) said)
      → Makes S sight P w log cs k n es (stays_saying said) []
  stays_made es said at says =
      made_quietly es (stays_saying said) refl
      (calm_made S sight P shared w log cs k stands n me (stays_saying said) es y refl tt at (stays_seen said)
      (λ x logged. recorded_calm S sight P shared w log cs k stands n me (stays_saying said) x logged (λ t. refl)
      (let at = limit_here S sight P shared w log cs k stands n me up in omega (arith, at)) (λ waits. (waits, refl)))
      (λ r i shown at. answer_dated S sight P shared w log cs k stands n me r i shown) (λ rows i r j. (rows, i, j)) says)

  -- ---- it ends without a commit

  abbrev dropping : Option Entry → ℕ → List (ℕ × Message) → List Note → Act
  dropping entry tries sends notes = drops S sight P shared w log cs k stands n me up entry tries sends notes

  abbrev OfItsOwn : List Note → Type 0
  OfItsOwn notes = AreOwn n notes × ((t : Tid) → changes_told t notes ≡ [])

  module _ (es : List Release) (at : AtWorker k (after sight P k es) n y k.table) (mute : tells sight P k es ≡ []) where
    at_dropped : AtWorker k (after sight P k (es ++ Decided n false ∷ [])) n (over sight P (no_caches sight P) y) k.table
    at_dropped =
        subst (λ z. AtWorker k z n (over sight P (no_caches sight P) y) k.table) (sym (after_append sight P k es (Decided n false ∷ [])))
        (at_next sight P k (after sight P k es) n y k.table (over sight P (no_caches sight P)) at)

    -- then those of the set that were asked are told so
    says_dropped : (d : ℕ) → sight.has d ≡ true → filter (λ z. z.0 == d) (tells sight P k (es ++ Decided n false ∷ []))
        ≡ filter (λ z. z.0 == d) (aborts_in S.rights S.cache n (kept S w n) a.phase a (parts S w n))
    says_dropped d inside =
        let h = shadows S sight P shared w log cs k stands n me in
        ap (filter (λ (z : ℕ × Message). z.0 == d))
        (tells_append sight P k es (Decided n false ∷ []) ∙ ap (λ zs. zs ++ tells sight P (after sight P k es) (Decided n false ∷ [])) mute
        ∙ append-nil (replay.closes sight P n false ((after sight P k es).worker n).stage ((after sight P k es).worker n))
        ∙ ap (λ (v : WorkerSeen). replay.closes sight P n false v.stage v) at.worker)
        ∙ aborts_told S sight P shared w log cs k stands n me up y (same_tid S sight P shared w log cs k stands n me y h.keeps up) a.phase h.phase d inside

    ends_made : (entry : Option Entry) (tries : ℕ) (sends : List (ℕ × Message)) (notes : List Note) → (kept_behind entry (kept S w n)).boot ≡ (kept S w n).boot
        → noted_commits notes ≡ [] → OfItsOwn notes → noted S sight P w log cs k n (dropping entry tries sends notes) ≡ Decided n false ∷ []
        → sends ≡ aborts_in S.rights S.cache n (kept S w n) a.phase a (parts S w n)
        → Makes S sight P w log cs k n es (dropping entry tries sends notes) []
    ends_made entry tries sends notes boot none own released aborts =
        made_by es (Decided n false ∷ []) (dropping entry tries sends notes) released
        (dropped_made S sight P shared w log cs k stands n me up entry tries sends notes (es ++ Decided n false ∷ []) y boot none own.0 own.1
        (shadows S sight P shared w log cs k stands n me).keeps at_dropped
        (λ d inside. says_dropped d inside ∙ ap (filter (λ (z : ℕ × Message). z.0 == d)) (sym aborts)))

    -- the request ends, or the attempt alone
    pub gives_made : (outcome : ReqOutcome) (sends : List (ℕ × Message)) → sends ≡ aborts_in S.rights S.cache n (kept S w n) a.phase a (parts S w n)
        → Makes S sight P w log cs k n es (sending sends (gives S.rights S.cache n (kept S w n) outcome a)) []
    gives_made outcome sends aborts =
        let c = closed_keeps (request_of (kept S w n)) outcome (kept S w n) in
        ends_made (Some (closed (request_of (kept S w n)) outcome)) 0 (sends ++ []) (undecided S.rights S.cache n (kept S w n) a ++ note.Closed (request_of (kept S w n)) outcome ∷ [])
        c.0 refl (((λ t ne. refl), ((λ t ne. refl), tt)), (λ t. refl)) refl (append-nil sends ∙ aborts)

    pub tries_made : (sends : List (ℕ × Message)) → sends ≡ aborts_in S.rights S.cache n (kept S w n) a.phase a (parts S w n)
        → Makes S sight P w log cs k n es (sending sends (try_ends S.rights S.cache n (kept S w n) a)) []
    tries_made sends aborts =
        cond_both (suc a.tries == 8) (closes S.rights S.cache n (kept S w n) Conflict a) (stays (record (dropped a) { tries = suc a.tries }))
        (λ act. Makes S sight P w log cs k n es (sending sends (noting (undecided S.rights S.cache n (kept S w n) a) act)) [])
        (λ _. gives_made Conflict sends aborts)
        (λ _. ends_made None (suc a.tries) (sends ++ []) (undecided S.rights S.cache n (kept S w n) a ++ []) refl refl (((λ t ne. refl), tt), (λ t. refl)) refl
        (append-nil sends ∙ aborts))
