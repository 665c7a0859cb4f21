-- No store that isn't hostile ends a request by an ill-formed object.
use Rattle.std.proofs.Common.{◌≡◌, ◌⊎◌, inl, inr, ℕ, ◌+◌, ◌<◌, ◌≤◌, List, ◌∷◌, ◌++◌, true, false, not, ◌&&◌, ◌==◌, IsTrue, refl, sym, ap, ◌∙◌, subst, arith}
use Rattle.std.specs.Prelude.{nat_lt}
use Rattle.std.proofs.lemmas.Bool.{and_from, and_parts, both_ways, cases_eq, cases_order, eq-eqb, lt-ltb, ne_eqb, not-true, not_from_false, or_left, or_right}
use Rattle.fab_base.specs.declared.object.Object.{Object}
use Rattle.fab_base.specs.declared.object.Oid.{Oid}
use Rattle.fab_base.specs.declared.object.Tid.{Tid}
use Rattle.fab_base.specs.Tids.{is_above}
use Rattle.fab_net.specs.declared.event.Inner.{Inner}
use Rattle.fab_net.specs.declared.event.Inner.TheVariants as i
use Rattle.fab_net.specs.declared.note.Commit.{Commit}
use Rattle.fab_net.specs.declared.outcome.Denial.TheVariants.{IllFormed}
use Rattle.fab_net.specs.declared.outcome.ReqOutcome.TheVariants.{Denied}
use Rattle.fab_rights.specs.Computed.{is_worker, suits}
use Rattle.fab_protocol.specs.Versions.{maker_of}
use Rattle.fab_world.specs.Machine.{Setting, World, at_start, form_of, front_of, is_running, kept, may}
use Rattle.fab_world.specs.Serial.{IsSetting, IsEvaluation, IsRun, commits_in, world_of}
use Rattle.fab_world.specs.Workers as workers
use Rattle.fab_world.specs.Workers.{Attempt, Kept, Phase, awaits_object, is_made_before, tid_of}
use Rattle.fab_integrity.proofs.Invariant.{In, deals, limit_at, limit_in, rank, rank_of}
use Rattle.fab_integrity.proofs.Runs.{front_run}
use Rattle.fab_integrity.proofs.Transport.{front_in}
use Rattle.fab_outcomes.specs.Causes.{IsIll, IsGiven, Misleads, StoresAreWellFormed}
use Rattle.fab_outcomes.proofs.Having.{have_causes}
use Rattle.fab_outcomes.proofs.Nodes.{event_may}
use Rattle.fab_outcomes.proofs.Outcomes.{move_enabled}
use Rattle.fab_outcomes.proofs.Stored.{IsGood}
use Rattle.fab_outcomes.proofs.Tidy.{Good, Made, Store, Tidy, Worker, good_run, tidy_run}

-- what has the smaller rank comes before
below_above : (t u : Tid) → rank_of u < rank_of t → t.number < 4294967296 → is_above t u ≡ true
below_above t u less low = elim (cases_order u.boot t.boot) [
  | inr (inl earlier) ↦ or_left (nat_lt u.boot t.boot) ((t.boot == u.boot) && nat_lt u.number t.number) (lt-ltb u.boot t.boot earlier)
  | inl same ↦ or_right (nat_lt u.boot t.boot) ((t.boot == u.boot) && nat_lt u.number t.number)
      (and_from (t.boot == u.boot) (nat_lt u.number t.number) (eq-eqb t.boot u.boot (sym same)) (lt-ltb u.number t.number (omega (arith, less, same))))
  | inr (inr later) ↦ absurd (omega (arith, less, low, later))
]

module _ (S : Setting) (given : IsSetting S) (law : IsEvaluation S) where
  module _ (w : World) (cs : List Commit) (good : Good S w cs) (n : ℕ) (me : Worker S n) (up : (w.node n).up ≡ true) where
    abbrev a : Attempt
    a = (w.node n).attempt

    abbrev tid : Tid
    tid = tid_of n (kept S w n) a

    -- what it fetches it fetches in this attempt, behind all that it committed
    fetching_limit : (s : ℕ) (t : Tid) (o : Oid) (phase : Phase) → awaits_object S.rights S.cache n (kept S w n) s t o a phase ≡ true → limit_at phase a.number ≡ a.number
    fetching_limit s t o (workers.Fetching p) h = refl
    fetching_limit s t o workers.Idle h = absurd (both_ways false refl h)
    fetching_limit s t o workers.Evaluating h = absurd (both_ways false refl h)
    fetching_limit s t o (workers.Preparing ls) h = absurd (both_ways false refl h)

    made_before : (s : ℕ) (t : Tid) (o : Oid) → awaits_object S.rights S.cache n (kept S w n) s t o a a.phase ≡ true → Made S cs o
        → is_made_before S.rights S.cache n (kept S w n) o a ≡ true
    made_before s t o waits made = elim (cases_eq o.worker n) [
      | inr other ↦ or_left (not (o.worker == n)) (is_above tid (maker_of o)) (not_from_false (o.worker == n) (ne_eqb o.worker n other))
      | inl own ↦ or_right (not (o.worker == n)) (is_above tid (maker_of o)) (by_maker own (made (subst (Worker S) (sym own) me)))
    ]
      where
        by_maker : o.worker ≡ n → (o.boot ≡ 0) ⊎ ((c : Commit) × In c (deals cs o.worker) × (c.tid ≡ maker_of o)) → is_above tid (maker_of o) ≡ true
        by_maker own (inl root) =
            let booted : 1 ≤ (kept S w n).boot = (good.inv.worker n me).booted in
            or_left (nat_lt o.boot (kept S w n).boot) (((kept S w n).boot == o.boot) && nat_lt o.number a.number) (lt-ltb o.boot (kept S w n).boot (omega (arith, root, booted)))
        by_maker own (inr made_in) =
            let k = good.inv.worker n me in
            let c : Commit = made_in.0 in
            let past : rank_of c.tid < limit_in (w.node n).up (kept S w n).boot a = k.past c (subst (λ z. In c (deals cs z)) own made_in.1) in
            let at : limit_in (w.node n).up (kept S w n).boot a ≡ rank (kept S w n).boot a.number =
            ap (λ b. limit_in b (kept S w n).boot a) up ∙ ap (rank (kept S w n).boot) (fetching_limit s t o a.phase waits) in
            let same : rank_of c.tid ≡ rank_of (maker_of o) = ap rank_of made_in.2 in
            let few : (kept S w n).boot + a.number ≤ 4000000001 = k.low in
            below_above tid (maker_of o) (omega (arith, past, at, same)) (omega (arith, few))

    -- so no object that an honest store answers is ill formed
    not_ill : (s : ℕ) (t : Tid) (o : Oid) (version : ℕ) (x : Object) → awaits_object S.rights S.cache n (kept S w n) s t o a a.phase ≡ true
        → IsGood S.rights (Made S cs) (o, version, x) → IsIll S w n o version x → ⊥
    not_ill s t o version x waits g (inl shape) = both_ways (suits S.rights o x) shape g.suited
    not_ill s t o version x waits g (inr (inl none)) = let low : 1 ≤ version = g.low in omega (arith, low, none)
    not_ill s t o version x waits g (inr (inr own)) = both_ways (is_made_before S.rights S.cache n (kept S w n) o a) own (made_before s t o waits g.made)

  -- an event in which an honest store misleads can't come
  never_misled : (w : World) (cs : List Commit) → Good S w cs → Tidy S w cs → (n s : ℕ) → IsTrue (is_worker S.rights n) → S.hostile s ≡ false → (event : Inner)
      → IsTrue (may S w event) → Misleads S w n s event → ⊥
  never_misled w cs good tidy n s is honest event can x =
      let can_hear : IsTrue (may S w (i.Deliver s n)) = subst (λ e. IsTrue (may S w e)) x.heard.is can in
      let p = and_parts _ _ can_hear in
      let running : is_running S w n ≡ true = (and_parts _ _ p.0).0 in
      let r = and_parts _ _ running in
      let up : (w.node n).up ≡ true = r.1 in
      let outside : S.hostile n ≡ false = not-true (S.hostile n) (and_parts _ _ r.0).1 in
      let store : Store S s = record { kind = x.heard.store; outside = honest } in
      let me : Worker S n = record { kind = is; outside = outside } in
      let g = tidy.waits s n store (front_of (w.queue s n)) x.tid x.name x.version x.object (front_in (w.queue s n) p.1) x.heard.read in
      not_ill w cs good n me up s x.tid x.name x.version x.object x.current g x.ill

  pub stores_are_well_formed : StoresAreWellFormed S
  stores_are_well_formed moves n r s run is honest ended =
      let g : IsGiven S moves n r (Denied s IllFormed) = (have_causes S moves n r (Denied s IllFormed) run is).0 ended in
      let all : IsRun S (g.before ++ g.move ∷ g.more) = subst (IsRun S) g.is run in
      let before : IsRun S g.before = front_run S g.before (g.move ∷ g.more) all in
      let can = move_enabled S (at_start S) g.before g.move g.more all.enabled in
      never_misled (world_of S g.before) (commits_in S S.hostile g.before) (good_run S given law g.before before) (tidy_run S given law g.before before) n s is honest
      g.event (event_may S (world_of S g.before) (form_of g.move) g.event can.1 g.whole) g.gives
