-- A worker outside D acts: what is to be shown of its act, so that the invariant holds behind it.
use Rattle.std.proofs.Common.{◌≡◌, ℕ, ◌+◌, ◌≤◌, Bool, true, not, ◌||◌, ◌==◌, IsTrue, IsFalse}
use Rattle.std.proofs.Common.{List, map, Some, refl, sym, ap, ◌∙◌, subst, inl, inr, arith}
use Rattle.std.proofs.lemmas.Bool.{or_cases, or_left, or_right}
use Rattle.std.proofs.lemmas.Bool.Decides.{nat_tests}
use Rattle.fab_base.specs.declared.message.Message.{Message}
use Rattle.fab_base.specs.declared.object.Oid.{Oid}
use Rattle.fab_base.specs.declared.object.Tid.{Tid}
use Rattle.fab_base.specs.MessageSpelling.{IsMessage}
use Rattle.fab_base.specs.Tids.{is_above}
use Rattle.fab_base.specs.FieldSpelling.{sent_version}
use Rattle.fab_net.specs.declared.note.Commit.{Commit}
use Rattle.fab_net.specs.declared.outcome.ReqOutcome.{ReqOutcome}
use Rattle.fab_protocol.specs.Tables.{OnlyOnce}
use Rattle.fab_protocol.specs.Versions.{Row, Rows, names_of, maker_of}
use Rattle.fab_world.specs.Machine.{Setting, World, kept, shelf}
use Rattle.fab_world.specs.Serial.{IsSetting}
use Rattle.fab_world.specs.Workers as workers
use Rattle.fab_world.specs.Workers.{Act, Attempt, Kept, is_in, kept_of, closed}
use Rattle.fab_world.proofs.WorkerActs.{closed_each}
use Rattle.fab_integrity.proofs.Invariant.{In, State, Standing, Inv, IsWorker, IsStore, Moves, WorkerOk, IsHad, IsAwaited, IsEnded, IsPreparing, Says}
use Rattle.fab_integrity.proofs.Invariant.{Has, TakesPart}
use Rattle.fab_integrity.proofs.Invariant.{current, decision_of, meant_by, tid_at, standing, deals}
use Rattle.fab_integrity.proofs.Frames as frames
use Rattle.fab_integrity.proofs.Worlds.{Lands, IsSent}
use Rattle.fab_integrity.proofs.Readings.{read_back}
use Rattle.fab_integrity.proofs.Lasting.{kept_behind, keeps_behind}

-- ---- what lasts

-- the record of a request that ends without a commit leaves the boot and the decisions
pub closed_keeps : (request : ℕ) (outcome : ReqOutcome) (k : Kept)
    → ((workers.worker_keeps (closed request outcome) k).boot ≡ k.boot) × ((workers.worker_keeps (closed request outcome) k).decided ≡ k.decided)
closed_keeps request outcome k =
    closed_each (λ entry. ((workers.worker_keeps entry k).boot ≡ k.boot) × ((workers.worker_keeps entry k).decided ≡ k.decided)) request (λ code node. (refl, refl)) outcome

-- ---- objects that aren't of a later attempt

above_on : (t u p : Tid) → u.boot ≡ t.boot → t.number ≤ u.number → is_above t p ≡ true → is_above u p ≡ true
above_on t u p same later h = grind (arith, nat_tests)

made_on : (n : ℕ) (o : Oid) (t u : Tid) → u.boot ≡ t.boot → t.number ≤ u.number → IsTrue (not (o.worker == n) || is_above t (maker_of o))
    → IsTrue (not (o.worker == n) || is_above u (maker_of o))
made_on n o t u same later h = elim (or_cases (not (o.worker == n)) (is_above t (maker_of o)) h) [
  | inl other ↦ or_left (not (o.worker == n)) (is_above u (maker_of o)) other
  | inr above ↦ or_right (not (o.worker == n)) (is_above u (maker_of o)) (above_on t u (maker_of o) same later above)
]

module _ (S : Setting) (D ex : ℕ → Bool) where
  -- what it had it has still, in the same boot and in no earlier attempt
  pub had_on : (n : ℕ) (v u : Standing) (C : State) (r : Row) → u.kept.boot ≡ v.kept.boot → v.attempt.number ≤ u.attempt.number
      → IsHad S D ex n v C r → IsHad S D ex n u C r
  had_on n v u C r same later h =
      record { fit = h.fit; version = h.version; before = made_on n r.0 (tid_at n v) (tid_at n u) same later h.before; known = h.known }

  -- what is to be shown of a worker behind its act
  pub record GoesOn (n : ℕ) (v u : Standing) (C : State) : Type 0 where
    pub moves : Moves S D ex n v u
    pub deals : u.deals ≡ v.deals
    pub decided : u.kept.decided ≡ v.kept.decided
    pub answers : (r : Row) → In r u.attempt.answers → IsHad S D ex n u C r
    pub cached : (rows : Rows) (r : Row) → In rows u.attempt.caches → In r rows → IsHad S D ex n u C r
    pub once : OnlyOnce (names_of u.attempt.answers)
    pub awaited : (o : Oid) → u.attempt.phase ≡ workers.Fetching o → IsAwaited S D ex u o
    pub ended : IsPreparing u.attempt.phase → IsEnded (meant_by S (current S n u)).ending
    pub low : u.kept.boot + u.attempt.number ≤ 4000000001

  worker_on : (n : ℕ) (v u : Standing) (C : State) → WorkerOk S D ex n v C → GoesOn n v u C → WorkerOk S D ex n u C
  worker_on n v u C ok g = record {
    answers = g.answers;
    cached = g.cached;
    once = g.once;
    awaited = g.awaited;
    past = λ c h. let lt = ok.past c (subst (In c) g.deals h) in omega (arith, lt, g.moves.later);
    closed = λ c h o.
        let there = subst (In c) g.deals h in
        elim (g.moves.opens c.tid o) [
          | inl old ↦ ok.closed c there old
          | inr late ↦ let lt = ok.past c there in omega (arith, lt, late)
        ];
    ended = g.ended;
    listed = g.decided ∙ ok.listed ∙ ap (map (decision_of S)) (sym g.deals);
    booted = omega (arith, ok.booted, g.moves.boots);
    low = g.low;
  }

  module _ (given : IsSetting S) (w v : World) (cs : List Commit) (C : State) (n : ℕ) (inv : Inv S D ex w cs C) (me : IsWorker S D ex n) where
    -- where the worker stands behind an act that decides nothing
    abbrev pub after : Act → Standing
    after act = record { kept = kept_behind act.entry (kept S w n); attempt = act.attempt; up = true; deals = deals cs n }

    lands_after : (act : Act) → Lands n act w v → standing S D ex v cs n ≡ after act
    lands_after act lands =
        let k : kept S v n ≡ kept_behind act.entry (kept S w n) = ap kept_of lands.entries ∙ keeps_behind (w.node n).entries act.entry in
        λ i. record { kept = k i; attempt = lands.attempt i; up = lands.up i; deals = deals cs n }

    -- so what holds holds behind its act, if what it sends and awaits is as it should be
    pub goes_on : (act : Act) → Lands n act w v → GoesOn n (standing S D ex w cs n) (after act) C
        → ((s : ℕ) → IsStore S D ex s → (message : Message) → In (s, message) act.sends → IsMessage sent_version message × Says S n s (after act) message)
        → ((s : ℕ) → IsStore S D ex s → (ls : List ℕ) → act.attempt.phase ≡ workers.Preparing ls → TakesPart S s (current S n (after act))
        → IsFalse (is_in s ls) → Has S (shelf S w s) (tid_at n (after act)))
        → Inv S D ex v cs C
    goes_on act lands goes says voted =
        let e = lands_after act lands in
        frames.worker_keeps S D ex given (IsSent act) w v cs cs C C n inv me lands.follows (λ x ne. refl)
        (subst (Moves S D ex n (standing S D ex w cs n)) (sym e) goes.moves)
        (frames.rises_refl C)
        (subst (λ u. WorkerOk S D ex n u C) (sym e) (worker_on n (standing S D ex w cs n) (after act) C (inv.worker n me) goes))
        (λ s hs bytes message sent read.
        let p = says s hs sent.message sent.listed in
        let same = read_back S given sent.message message p.0.body (subst (λ b. S.read b ≡ Some message) sent.spells read) in
        subst (λ u. Says S n s u message) (sym e) (subst (Says S n s (after act)) (sym same) p.1))
        (λ s hs ls ph part out.
        subst (λ u. Has S (shelf S w s) (tid_at n u)) (sym e)
        (voted s hs ls (sym (ap (λ (b : Attempt). b.phase) lands.attempt) ∙ ph) (subst (λ u. TakesPart S s (current S n u)) e part) out))
        (λ s hs c h part. (inv.pair n s me hs).aged c h part)
        (λ o x hs. inv.cells o x hs)
        inv.commits
