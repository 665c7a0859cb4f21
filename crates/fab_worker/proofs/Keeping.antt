-- Records, kept one after the other.
use Rattle.std.proofs.Common.{◌≡◌, ℕ, suc, ◌+◌, ◌≤◌, ◌<◌, List, [], ◌∷◌, ◌++◌, length, fold, unwrap_or, slice_get, refl, sym, ap, ◌∙◌, subst, arith}
use Rattle.std.proofs.lemmas.List.{length_push}
use Rattle.fab_base.specs.declared.entry.Entry.{Entry}
use Rattle.fab_base.specs.declared.entry.Entry.TheVariants as e
use Rattle.fab_net.specs.declared.outcome.ReqOutcome.{ReqOutcome}
use Rattle.fab_net.specs.declared.outcome.ReqOutcome.TheVariants.{Committed, Unfinished}
use Rattle.fab_rights.specs.declared.rights.Rights.{Rights}
use Rattle.fab_protocol.specs.declared.parts.Decision.{Decision}
use Rattle.fab_session.specs.Sittings.{Sitting}
use Rattle.fab_world.specs.Workers.{Kept, closings, kept_of, worker_keeps}
use Rattle.fab_worker.specs.Records.{AreEnding, EndsRequest, boots_in, decisions_behind, session_behind}
use Rattle.fab_worker.specs.Plans.{AreKept}

-- ---- a record that ends a request finds one that is left

-- of the first of these records, and of those behind it
pub record IsNext (entry : Entry) (others : List Entry) (s : Sitting) : Type 0 where
  pub left : EndsRequest entry → length s.outcomes < s.requests
  pub rest : AreEnding (session_behind entry s).requests others (length (session_behind entry s).outcomes)

ends_one : (requests : ℕ) (others : List Entry) (outcomes : List ReqOutcome) (outcome : ReqOutcome) → AreEnding requests others (suc (length outcomes))
    → AreEnding requests others (length (outcomes ++ outcome ∷ []))
ends_one requests others outcomes outcome h =
    let n : suc (length outcomes) ≡ length (outcomes ++ outcome ∷ []) = omega (arith, length_push outcomes outcome) in
    subst (λ k. AreEnding requests others k) n h

pub next_ends : (entry : Entry) (others : List Entry) (s : Sitting) → AreEnding s.requests (entry ∷ others) (length s.outcomes) → IsNext entry others s
next_ends (e.Decided t request value stores) others s h = record { left = λ _. h.0; rest = ends_one s.requests others s.outcomes _ h.1 }
next_ends (e.Closed request outcome node) others s h = record { left = λ _. h.0; rest = ends_one s.requests others s.outcomes _ h.1 }
next_ends (e.Boot b) others s h = record { left = λ no. absurd no; rest = h }
next_ends (e.Prepared t items) others s h = record { left = λ no. absurd no; rest = h }
next_ends (e.Refused t) others s h = record { left = λ no. absurd no; rest = h }
next_ends (e.Applied t) others s h = record { left = λ no. absurd no; rest = h }
next_ends (e.Released t) others s h = record { left = λ no. absurd no; rest = h }
next_ends (e.BootSeen n b) others s h = record { left = λ no. absurd no; rest = h }

-- records that may be kept do
one_kept : (requests : ℕ) (entries : List Entry) (kept : Kept) (request : ℕ) → request ≡ suc (length kept.outcomes) → request ≤ requests → length kept.outcomes < requests
one_kept requests entries kept request same few = omega arith

pub all_end : (requests : ℕ) (entries : List Entry) (kept : Kept) → AreKept requests entries kept → AreEnding requests entries (length kept.outcomes)
all_end requests [] kept h = tt
all_end requests (e.Decided t request value stores ∷ entries) kept h =
    let n : length (worker_keeps (e.Decided t request value stores) kept).outcomes ≡ suc (length kept.outcomes) = omega (arith, length_push kept.outcomes) in
    (one_kept requests entries kept request h.0.0 h.0.1, subst (λ k. AreEnding requests entries k) n (all_end requests entries _ h.1))
all_end requests (e.Closed request outcome node ∷ entries) kept h =
    let n : length (worker_keeps (e.Closed request outcome node) kept).outcomes ≡ suc (length kept.outcomes) = omega (arith, length_push kept.outcomes) in
    (one_kept requests entries kept request h.0.0 h.0.1, subst (λ k. AreEnding requests entries k) n (all_end requests entries _ h.1))
all_end requests (e.Boot b ∷ entries) kept h = all_end requests entries _ h.1
all_end requests (e.Prepared t items ∷ entries) kept h = absurd h.0
all_end requests (e.Refused t ∷ entries) kept h = absurd h.0
all_end requests (e.Applied t ∷ entries) kept h = absurd h.0
all_end requests (e.Released t ∷ entries) kept h = absurd h.0
all_end requests (e.BootSeen n b ∷ entries) kept h = absurd h.0

-- ---- what records make of a session and of decisions is what they make of a worker

abbrev pub sat : Sitting → List Entry → Sitting
sat s entries = fold (λ s entry. session_behind entry s) s entries

abbrev pub decisions_all : List Decision → List Entry → List Decision
decisions_all decided entries = fold (λ ds entry. decisions_behind entry ds) decided entries

abbrev pub start : Kept
start = record { boot = 1; decided = []; outcomes = [] }

abbrev pub behind_all : Kept → List Entry → Kept
behind_all kept entries = fold (λ k entry. worker_keeps entry k) kept entries

pub record IsSession (old new : Sitting) (entries : List Entry) (decided : List Decision) (kept : Kept) : Type 0 where
  pub worker : new.worker ≡ old.worker
  pub boot : new.boot ≡ old.boot
  pub number : new.number ≡ old.number
  pub requests : new.requests ≡ old.requests
  pub tries : new.tries ≡ 0
  pub outcomes : new.outcomes ≡ (behind_all kept entries).outcomes
  pub decisions : decisions_all decided entries ≡ (behind_all kept entries).decided

pub folded : (entries : List Entry) (s : Sitting) (kept : Kept) → s.tries ≡ 0 → s.outcomes ≡ kept.outcomes → IsSession s (sat s entries) entries kept.decided kept
folded [] s kept none same = record { worker = refl; boot = refl; number = refl; requests = refl; tries = none; outcomes = same; decisions = refl }
folded (e.Decided t request value stores ∷ entries) s kept none same =
    let h = folded entries (session_behind (e.Decided t request value stores) s) (worker_keeps (e.Decided t request value stores) kept) refl (ap (λ (os : List ReqOutcome). os ++ Committed t value ∷ []) same) in
    record { worker = h.worker; boot = h.boot; number = h.number; requests = h.requests; tries = h.tries; outcomes = h.outcomes; decisions = h.decisions }
folded (e.Closed request outcome node ∷ entries) s kept none same =
    let h = folded entries (session_behind (e.Closed request outcome node) s) (worker_keeps (e.Closed request outcome node) kept) refl (ap (λ (os : List ReqOutcome). os ++ unwrap_or (slice_get (closings node) outcome) Unfinished ∷ []) same) in
    record { worker = h.worker; boot = h.boot; number = h.number; requests = h.requests; tries = h.tries; outcomes = h.outcomes; decisions = h.decisions }
folded (e.Boot b ∷ entries) s kept none same =
    let h = folded entries s (worker_keeps (e.Boot b) kept) none same in
    record { worker = h.worker; boot = h.boot; number = h.number; requests = h.requests; tries = h.tries; outcomes = h.outcomes; decisions = h.decisions }
folded (e.Prepared t items ∷ entries) s kept none same =
    let h = folded entries s kept none same in
    record { worker = h.worker; boot = h.boot; number = h.number; requests = h.requests; tries = h.tries; outcomes = h.outcomes; decisions = h.decisions }
folded (e.Refused t ∷ entries) s kept none same =
    let h = folded entries s kept none same in
    record { worker = h.worker; boot = h.boot; number = h.number; requests = h.requests; tries = h.tries; outcomes = h.outcomes; decisions = h.decisions }
folded (e.Applied t ∷ entries) s kept none same =
    let h = folded entries s kept none same in
    record { worker = h.worker; boot = h.boot; number = h.number; requests = h.requests; tries = h.tries; outcomes = h.outcomes; decisions = h.decisions }
folded (e.Released t ∷ entries) s kept none same =
    let h = folded entries s kept none same in
    record { worker = h.worker; boot = h.boot; number = h.number; requests = h.requests; tries = h.tries; outcomes = h.outcomes; decisions = h.decisions }
folded (e.BootSeen n b ∷ entries) s kept none same =
    let h = folded entries s kept none same in
    record { worker = h.worker; boot = h.boot; number = h.number; requests = h.requests; tries = h.tries; outcomes = h.outcomes; decisions = h.decisions }

-- ---- the boot is one more than there are Boot records

boots_more : (entries : List Entry) (kept : Kept) → (behind_all kept entries).boot ≡ kept.boot + boots_in entries
boots_more [] kept = omega arith
boots_more (e.Decided t request value stores ∷ entries) kept = boots_more entries (worker_keeps (e.Decided t request value stores) kept)
boots_more (e.Closed request outcome node ∷ entries) kept = boots_more entries (worker_keeps (e.Closed request outcome node) kept)
boots_more (e.Boot b ∷ entries) kept = let h = boots_more entries (worker_keeps (e.Boot b) kept) in omega (arith, h)
boots_more (e.Prepared t items ∷ entries) kept = boots_more entries kept
boots_more (e.Refused t ∷ entries) kept = boots_more entries kept
boots_more (e.Applied t ∷ entries) kept = boots_more entries kept
boots_more (e.Released t ∷ entries) kept = boots_more entries kept
boots_more (e.BootSeen n b ∷ entries) kept = boots_more entries kept

pub boot_of : (entries : List Entry) → (kept_of entries).boot ≡ boots_in entries + 1
unfolding kept_of
boot_of entries = omega (arith, boots_more entries start)
