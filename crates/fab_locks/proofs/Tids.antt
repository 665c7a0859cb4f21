-- Held transactions: no tid twice, and what stays when some go.
use Rattle.std.proofs.Common.{◌≡◌, ℕ, zero, suc, Bool, true, false, not, ◌||◌, List, [], ◌∷◌, ◌++◌, get_or, remove, IsFalse, refl, sym, ◌∙◌, ap, arith}
use Rattle.std.specs.List.{filter}
use Rattle.std.proofs.lemmas.Bool.{eqb-true, and_parts}
use Rattle.std.proofs.lemmas.Bool.Decides.{nat_tests}
use Rattle.fab_base.specs.declared.object.Tid.{Tid}
use Rattle.fab_base.specs.declared.message.Items.{Items}
use Rattle.fab_protocol.specs.Versions.{is_tid}
use Rattle.fab_protocol.specs.Stores.{Prepared, prepared_as, without}
use Rattle.fab_locks.specs.Conflicts.{AreDistinct, IsHeldAt, holds_tid}

-- tids that are alike are one
pub one_tid : (t u : Tid) → is_tid t u ≡ true → t ≡ u
one_tid t u h =
    let parts = and_parts _ _ h in
    let others = and_parts _ _ parts.1 in
    let worker = eqb-true t.worker u.worker parts.0 in
    let boot = eqb-true t.boot u.boot others.0 in
    let number = eqb-true t.number u.number others.1 in
    λ i. record { worker = worker i; boot = boot i; number = number i }

pub tid_flips : (t u : Tid) → is_tid t u ≡ is_tid u t
tid_flips t u = grind (arith, nat_tests)

pub tid_self : (t : Tid) → is_tid t t ≡ true
tid_self t = grind (arith, nat_tests)

-- ---- the first is held, or one behind it
pub holds_here : (p : Prepared) (ps : List Prepared) (t : Tid) → is_tid p.0 t ≡ true → holds_tid t (p ∷ ps) ≡ true
holds_here p ps t e = ap (λ b. b || holds_tid t ps) e

holds_past : (p : Prepared) (ps : List Prepared) (t : Tid) → is_tid p.0 t ≡ false → holds_tid t (p ∷ ps) ≡ holds_tid t ps
holds_past p ps t e = ap (λ b. b || holds_tid t ps) e

pub absent_first : (p : Prepared) (ps : List Prepared) (t : Tid) → holds_tid t (p ∷ ps) ≡ false → is_tid p.0 t ≡ false
absent_first p ps t h = grind arith

pub absent_rest : (p : Prepared) (ps : List Prepared) (t : Tid) → holds_tid t (p ∷ ps) ≡ false → holds_tid t ps ≡ false
absent_rest p ps t h = sym (holds_past p ps t (absent_first p ps t h)) ∙ h

-- ---- one more
absent_behind : (p : Prepared) (ps : List Prepared) (q : Prepared) → holds_tid p.0 ps ≡ false → is_tid q.0 p.0 ≡ false → holds_tid p.0 (ps ++ q ∷ []) ≡ false
absent_behind p [] q h e = holds_past q [] p.0 e
absent_behind p (r ∷ ps) q h e =
    holds_past r (ps ++ q ∷ []) p.0 (absent_first r ps p.0 h) ∙ absent_behind p ps q (absent_rest r ps p.0 h) e

pub distinct_push : (ps : List Prepared) (t : Tid) (items : Items) → AreDistinct ps → IsFalse (holds_tid t ps) → AreDistinct (ps ++ (t, items) ∷ [])
distinct_push [] t items h absent = (refl, tt)
distinct_push (p ∷ ps) t items h absent =
    (absent_behind p ps (t, items) h.0 (tid_flips t p.0 ∙ absent_first p ps t absent), distinct_push ps t items h.1 (absent_rest p ps t absent))

-- ---- some go
module _ (test : Prepared → Bool) where
  pub kept_here : (p : Prepared) (ps : List Prepared) → test p ≡ true → filter test (p ∷ ps) ≡ p ∷ filter test ps
  kept_here p ps e = rw e refl

  pub kept_past : (p : Prepared) (ps : List Prepared) → test p ≡ false → filter test (p ∷ ps) ≡ filter test ps
  kept_past p ps e = rw e refl

  absent_filter : (t : Tid) (ps : List Prepared) → holds_tid t ps ≡ false → holds_tid t (filter test ps) ≡ false
  absent_filter t [] h = refl
  absent_filter t (p ∷ ps) h = step (absent_filter t ps (absent_rest p ps t h)) (test p) refl
    where
      step : holds_tid t (filter test ps) ≡ false → (b : Bool) → test p ≡ b → holds_tid t (filter test (p ∷ ps)) ≡ false
      step rest true e = ap (holds_tid t) (kept_here p ps e) ∙ holds_past p (filter test ps) t (absent_first p ps t h) ∙ rest
      step rest false e = ap (holds_tid t) (kept_past p ps e) ∙ rest

  pub distinct_filter : (ps : List Prepared) → AreDistinct ps → AreDistinct (filter test ps)
  distinct_filter [] h = tt
  distinct_filter (p ∷ ps) h = step (distinct_filter ps h.1) (test p) refl
    where
      step : AreDistinct (filter test ps) → (b : Bool) → test p ≡ b → AreDistinct (filter test (p ∷ ps))
      step rest true e = rw (kept_here p ps e) (absent_filter p.0 ps h.0, rest)
      step rest false e = rw (kept_past p ps e) rest

-- ---- one goes
pub without_absent : (t : Tid) (ps : List Prepared) → holds_tid t ps ≡ false → without t ps ≡ ps
without_absent t [] h = refl
without_absent t (p ∷ ps) h =
    kept_here (λ q. not (is_tid q.0 t)) p ps (ap not (absent_first p ps t h))
    ∙ ap (λ l. p ∷ l) (without_absent t ps (absent_rest p ps t h))

pub prepared_absent : (t : Tid) (ps : List Prepared) → holds_tid t ps ≡ false → prepared_as t ps ≡ []
prepared_absent t [] h = refl
prepared_absent t (p ∷ ps) h =
    kept_past (λ q. is_tid q.0 t) p ps (absent_first p ps t h) ∙ prepared_absent t ps (absent_rest p ps t h)

-- whoever is held behind the first isn't the first
apart_first : (p : Prepared) (ps : List Prepared) (t : Tid) (i : ℕ) → holds_tid p.0 ps ≡ false → IsHeldAt t ps i → is_tid p.0 t ≡ false
apart_first p [] t i h at = absurd (omega (arith, at.in_range))
apart_first p (q ∷ ps) t zero h at =
    ap (is_tid p.0) (sym (one_tid q.0 t (at.tid_here q))) ∙ tid_flips p.0 q.0 ∙ absent_first q ps p.0 h
apart_first p (q ∷ ps) t (suc i) h at =
    apart_first p ps t i (absent_rest q ps p.0 h) (record { in_range = omega (arith, at.in_range); tid_here = at.tid_here })

held_tail : (p : Prepared) (ps : List Prepared) (t : Tid) (i : ℕ) → IsHeldAt t (p ∷ ps) (suc i) → IsHeldAt t ps i
held_tail p ps t i at = record { in_range = omega (arith, at.in_range); tid_here = at.tid_here }

-- the first has the tid, and none behind it
pub absent_tail : (p : Prepared) (ps : List Prepared) (t : Tid) → holds_tid p.0 ps ≡ false → is_tid p.0 t ≡ true → holds_tid t ps ≡ false
absent_tail p ps t h e = ap (λ u. holds_tid u ps) (sym (one_tid p.0 t e)) ∙ h

pub removed_at : (t : Tid) (ps : List Prepared) (i : ℕ) → AreDistinct ps → IsHeldAt t ps i → without t ps ≡ remove ps i
removed_at t [] i h at = absurd (omega (arith, at.in_range))
removed_at t (p ∷ ps) zero h at =
    kept_past (λ q. not (is_tid q.0 t)) p ps (ap not (at.tid_here p)) ∙ without_absent t ps (absent_tail p ps t h.0 (at.tid_here p))
removed_at t (p ∷ ps) (suc i) h at =
    kept_here (λ q. not (is_tid q.0 t)) p ps (ap not (apart_first p ps t i h.0 (held_tail p ps t i at)))
    ∙ ap (λ l. p ∷ l) (removed_at t ps i h.1 (held_tail p ps t i at))

pub prepared_at : (t : Tid) (ps : List Prepared) (i : ℕ) → AreDistinct ps → IsHeldAt t ps i → (d : Prepared) → prepared_as t ps ≡ get_or ps i d ∷ []
prepared_at t [] i h at d = absurd (omega (arith, at.in_range))
prepared_at t (p ∷ ps) zero h at d =
    kept_here (λ q. is_tid q.0 t) p ps (at.tid_here p) ∙ ap (λ l. p ∷ l) (prepared_absent t ps (absent_tail p ps t h.0 (at.tid_here p)))
prepared_at t (p ∷ ps) (suc i) h at d =
    kept_past (λ q. is_tid q.0 t) p ps (apart_first p ps t i h.0 (held_tail p ps t i at))
    ∙ prepared_at t ps i h.1 (held_tail p ps t i at) d

-- what is taken out of place i
pub taken_at : (t : Tid) (ps : List Prepared) (i : ℕ) → AreDistinct ps → IsHeldAt t ps i → (d : Prepared) → d ≡ get_or ps i d → prepared_as t ps ≡ (t, d.1) ∷ []
taken_at t ps i h at d e =
    prepared_at t ps i h at d
    ∙ ap (λ p. p ∷ []) (sym e)
    ∙ ap (λ u. (u, d.1) ∷ []) (ap (λ p. p.0) e ∙ one_tid (get_or ps i d).0 t (at.tid_here d))
