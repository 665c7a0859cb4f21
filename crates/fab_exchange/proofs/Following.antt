-- What may follow in a run that keeps crash lines may come, whole or with a mark; and an event that comes is due as the lines have it.
use Rattle.std.proofs.Common.{◌≡◌, ℕ, ◌≤◌, List, Bool, true, false, not, ◌&&◌, is_some, Option, Some, None, length, min}
use Rattle.std.proofs.Common.{refl, sym, ap, ◌∙◌, subst, arith, true≢false}
use Rattle.std.specs.Prelude.{nat_le, if◌then◌else◌}
use Rattle.std.proofs.lemmas.Bool.{and_from, and_parts, eq-eqb, eqb-true, le-leb, not_from_false}
use Rattle.fab_net.specs.declared.event.Event.{Event}
use Rattle.fab_net.specs.declared.event.Event.TheVariants as e
use Rattle.fab_net.specs.declared.event.Inner.{Inner}
use Rattle.fab_net.specs.declared.event.Inner.TheVariants as i
use Rattle.fab_world.specs.Machine.{Setting, World, Move, Fails, form_of, act, node_of, enabled, may, record_at}
use Rattle.fab_world.specs.Crashing.{CrashLine, crashes_by, cut_at, goes_on, is_cut_to, is_due, keeps_by, line_now, may_follow, must_crash}
use Rattle.fab_core.specs.Cores.{marked, unmarked}
use Rattle.fab_exchange.specs.Dues.{form_by}

min_least : (a b : ℕ) → min a b ≤ b
min_least a b = omega arith

module _ (S : Setting) (lines : ℕ → List CrashLine) (w : World) (moves : List Move) where
  abbrev calm : Inner → Bool
  calm e = not (must_crash S lines w moves (node_of e))

  pub goes_may : (e : Inner) → goes_on S lines w moves e ≡ true → may S w e ≡ true
  goes_may (i.Resume n) h = h
  goes_may (i.Begin n) h = (and_parts (may S w (i.Begin n)) (calm (i.Begin n)) h).0
  goes_may (i.Deliver a b) h = (and_parts (may S w (i.Deliver a b)) (calm (i.Deliver a b)) h).0
  goes_may (i.Idle n s) h = (and_parts (may S w (i.Idle n s)) (calm (i.Idle n s)) h).0
  goes_may (i.Recover n) h = (and_parts (may S w (i.Recover n)) (calm (i.Recover n)) h).0

  pub comes_goes : (e : Inner) → (may S w e && calm e) ≡ true → goes_on S lines w moves e ≡ true
  comes_goes (i.Resume n) h = (and_parts (may S w (i.Resume n)) (calm (i.Resume n)) h).0
  comes_goes (i.Begin n) h = h
  comes_goes (i.Deliver a b) h = h
  comes_goes (i.Idle n s) h = h
  comes_goes (i.Recover n) h = h

  -- where it is cut, it writes a record, of which no more is kept than there is
  cut_some : (e : Inner) (keep most : ℕ) → is_cut_to S lines (cut_at S lines w moves e) keep most ≡ true → (is_some (act S w e).entry ≡ true) × (nat_le keep most ≡ true)
  cut_some e keep most h = by (is_some (act S w e).entry) (keeps_by S lines (line_now S lines w moves (node_of e))) h
    where
      by : (b : Bool) (kept : Option ℕ) → is_cut_to S lines (if b then kept else None) keep most ≡ true → (b ≡ true) × (nat_le keep most ≡ true)
      by true (Some bytes) k =
          let same : keep ≡ min bytes most = eqb-true keep (min bytes most) k in
          (refl, le-leb keep most (subst (λ z. z ≤ most) (sym same) (min_least bytes most)))
      by true None k = absurd (true≢false (sym k))
      by false kept k = absurd (true≢false (sym k))

  -- what may follow may come
  pub follows_enabled : (event : Event) → may_follow S lines w moves (form_of (unmarked event)) ≡ true → enabled S w (form_of (unmarked event)) ≡ true
  follows_enabled (e.Begin n) h = goes_may (i.Begin n) (and_parts _ _ h).0
  follows_enabled (e.Resume n) h = goes_may (i.Resume n) (and_parts _ _ h).0
  follows_enabled (e.Deliver a b) h = goes_may (i.Deliver a b) (and_parts _ _ h).0
  follows_enabled (e.Idle n s) h = goes_may (i.Idle n s) (and_parts _ _ h).0
  follows_enabled (e.Recover n) h = goes_may (i.Recover n) (and_parts _ _ h).0
  follows_enabled (e.CrashIn keep x) h =
      let p = and_parts (may S w x && calm x) (is_cut_to S lines (cut_at S lines w moves x) keep (length (record_at S w x))) h in
      let q = (and_parts (may S w x) (calm x) p.0).0 in
      let r = cut_some x keep (length (record_at S w x)) p.1 in
      and_from (may S w x && is_some (act S w x).entry) (nat_le keep (length (record_at S w x))) (and_from (may S w x) (is_some (act S w x).entry) q r.0) r.1
  follows_enabled (e.Post n) h = (and_parts _ _ h).0
  follows_enabled (e.Crash n) h = (and_parts _ _ h).0

  failed_follows : (e : Inner) → goes_on S lines w moves e ≡ true → enabled S w (Fails 0 e) ≡ true → may_follow S lines w moves (Fails 0 e) ≡ true
  failed_follows e goes can = and_from (goes_on S lines w moves e) (enabled S w (Fails 0 e)) goes can

  -- so may its mark, where that may come
  pub marked_follows : (event : Event) → may_follow S lines w moves (form_of (unmarked event)) ≡ true → enabled S w (form_of (marked event)) ≡ true
      → may_follow S lines w moves (form_of (marked event)) ≡ true
  marked_follows (e.Begin n) h can = failed_follows (i.Begin n) (and_parts _ _ h).0 can
  marked_follows (e.Resume n) h can = failed_follows (i.Resume n) (and_parts _ _ h).0 can
  marked_follows (e.Deliver a b) h can = failed_follows (i.Deliver a b) (and_parts _ _ h).0 can
  marked_follows (e.Idle n s) h can = failed_follows (i.Idle n s) (and_parts _ _ h).0 can
  marked_follows (e.Recover n) h can = failed_follows (i.Recover n) (and_parts _ _ h).0 can
  marked_follows (e.CrashIn keep x) h can =
      failed_follows x (comes_goes x (and_parts (may S w x && calm x) (is_cut_to S lines (cut_at S lines w moves x) keep (length (record_at S w x))) h).0) can
  marked_follows (e.Post n) h can = absurd (true≢false (sym can))
  marked_follows (e.Crash n) h can = absurd (true≢false (sym can))

  -- ---- an event that comes, as the lines have it

  module _ (e : Inner) where
    abbrev most : ℕ
    most = length (record_at S w e)

    pub form_due : (may S w e && calm e) ≡ true → is_due S lines w moves (form_by e (cut_at S lines w moves e) most) ≡ true
    form_due h = by (cut_at S lines w moves e) refl
      where
        by : (bytes : Option ℕ) → cut_at S lines w moves e ≡ bytes → is_due S lines w moves (form_by e bytes most) ≡ true
        by None is = and_from (may S w e && calm e) (not (is_some (cut_at S lines w moves e))) h (not_from_false (is_some (cut_at S lines w moves e)) (ap is_some is))
        by (Some bytes) is =
            and_from (may S w e && calm e) (is_cut_to S lines (cut_at S lines w moves e) (min bytes most) most) h
            (ap (λ c. is_cut_to S lines c (min bytes most) most) is ∙ eq-eqb (min bytes most) (min bytes most) refl)

    -- a line that cuts makes no crash by itself
    cut_calm : (bytes : ℕ) → cut_at S lines w moves e ≡ Some bytes → calm e ≡ true
    cut_calm bytes is = by (is_some (act S w e).entry) (line_now S lines w moves (node_of e)) is
      where
        by : (b : Bool) (line : Option CrashLine) → (if b then keeps_by S lines line else None) ≡ Some bytes → not (crashes_by S lines line) ≡ true
        by false line k = absurd (cc)
        by true None k = absurd (cc)
        by true (Some line) k = ap (λ z. not (not (is_some z))) k

    pub form_follows : goes_on S lines w moves e ≡ true → may_follow S lines w moves (form_by e (cut_at S lines w moves e) most) ≡ true
    form_follows h = by (cut_at S lines w moves e) refl
      where
        by : (bytes : Option ℕ) → cut_at S lines w moves e ≡ bytes → may_follow S lines w moves (form_by e bytes most) ≡ true
        by None is = and_from (goes_on S lines w moves e) (not (is_some (cut_at S lines w moves e))) h (not_from_false (is_some (cut_at S lines w moves e)) (ap is_some is))
        by (Some bytes) is =
            and_from (may S w e && calm e) (is_cut_to S lines (cut_at S lines w moves e) (min bytes most) most)
            (and_from (may S w e) (calm e) (goes_may e h) (cut_calm bytes is))
            (ap (λ c. is_cut_to S lines c (min bytes most) most) is ∙ eq-eqb (min bytes most) (min bytes most) refl)
