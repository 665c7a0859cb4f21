-- The counter of a worker that is up is the number of tries that were lost in a row; and a node has failed where the run has its mark.
use Rattle.std.proofs.Common.{◌≡◌, inl, inr, ℕ, suc, ◌+◌, List, [], ◌∷◌, ◌++◌, length, Bool, true, false, not, ◌==◌, ◌||◌, IsTrue, if◌then◌else◌}
use Rattle.std.proofs.Common.{Option, Some, None, refl, sym, ap, ◌∙◌, subst, arith, length-append}
use Rattle.std.proofs.Math.Bool.{or-false}
use Rattle.std.proofs.lemmas.Bool.{and_parts, both_ways, eq-eqb, ne_eqb, not_from_false, or_right}
use Rattle.fab_net.specs.declared.event.Inner.{Inner}
use Rattle.fab_net.specs.declared.outcome.ReqOutcome.{ReqOutcome}
use Rattle.fab_rights.specs.Computed.{is_worker}
use Rattle.fab_world.specs.Machine.{Setting, World, Node, Move, Form, Does, act, are_enabled, enabled, form_of, kept, node_of, option_list, runs, step, steps}
use Rattle.fab_world.specs.Workers.{Attempt, kept_of, request_of}
use Rattle.fab_outcomes.specs.Causes.{fails, has_failed, loses, loses_try, recovers, starts_over, tries_from}
use Rattle.fab_outcomes.proofs.Records.{outcome_by, outcomes_more}
use Rattle.fab_outcomes.proofs.Acts.{Goes, Loses, Commits, Ends, IsAwake, comes_at}
use Rattle.fab_outcomes.proofs.Nodes.{Own, Beside, Downs, Touches, IsApart, touches, failed_steps}
use Rattle.fab_integrity.proofs.Changes.{does_changes}

module _ (S : Setting) (n : ℕ) where
  -- ---- marks

  or_again : (a b c : Bool) → (a || b) || c ≡ a || (b || c)
  or_again true b c = refl
  or_again false b c = refl

  -- a node has failed behind moves that have its mark, or if it had before
  pub failed_runs : (w : World) (moves : List Move) → ((runs S w moves).node n).failed ≡ (w.node n).failed || has_failed n moves
  failed_runs w [] = sym (or-false (w.node n).failed)
  failed_runs w (move ∷ moves) =
      failed_runs (step S w move) moves ∙ ap (λ b. b || has_failed n moves) (failed_steps S w (form_of move) n)
      ∙ or_again (w.node n).failed (fails n (form_of move)) (has_failed n moves)

  -- ---- tries

  abbrev tries : World → ℕ
  tries w = (w.node n).attempt.tries

  abbrev request : World → ℕ
  request w = request_of (kept S w n)

  -- the count behind a move, by whether it starts over and whether a try is lost in it
  abbrev next : Bool → Bool → ℕ → ℕ
  next over lost count = if over then 0 else (if lost then suc count else count)

  module _ (w : World) (form : Form) (count : ℕ) where
    abbrev v : World
    v = steps S w form

    abbrev Counts : Type 0
    Counts = tries v ≡ next (recovers n form || not (request v == request w)) (loses S w n form) count

    -- the same request, and no recovery
    counts_on : recovers n form ≡ false → request v ≡ request w → (lost : Bool) → loses S w n form ≡ lost → tries v ≡ next false lost count → Counts
    counts_on stays same lost is h =
        h ∙ sym (ap (λ b. next (b || not (request v == request w)) (loses S w n form) count) stays
        ∙ ap (λ b. next (not b) (loses S w n form) count) (eq-eqb (request v) (request w) same) ∙ ap (λ b. next false b count) is)

    counts_over : tries v ≡ 0 → recovers n form || not (request v == request w) ≡ true → Counts
    counts_over none over = none ∙ sym (ap (λ b. next b (loses S w n form) count) over)

    counts_beside : IsApart S w form n → tries w ≡ count → Counts
    counts_beside apart h =
        counts_on apart.recovers (ap (λ (x : Node). request_of (kept_of x.entries)) apart.node) false apart.loses
        (ap (λ (x : Node). x.attempt.tries) apart.node ∙ h)

  module _ (me : is_worker S.rights n ≡ true) where
    -- an event of the worker
    module _ (w : World) (e : Inner) (count : ℕ) (at : node_of e ≡ n) (can : IsTrue (enabled S w (Does e))) (counted : (w.node n).up ≡ true → tries w ≡ count) where
      abbrev behind : World
      behind = steps S w (Does e)

      tries_are : tries behind ≡ (act S w e).attempt.tries
      tries_are = ap (λ (x : Attempt). x.tries) (subst (λ z. (behind.node z).attempt ≡ (act S w e).attempt) at (does_changes S w e).attempt)

      requests_are : (more : Option ReqOutcome) → outcome_by (act S w e).entry ≡ more → request behind ≡ request w + length (option_list more)
      requests_are more is =
          let entries : ((behind).node n).entries ≡ (w.node n).entries ++ option_list (act S w e).entry =
          subst (λ z. ((behind).node z).entries ≡ (w.node z).entries ++ option_list (act S w e).entry) at (does_changes S w e).entries in
          let all = ap (λ es. length (kept_of es).outcomes) entries ∙ ap length (outcomes_more (w.node n).entries (act S w e).entry)
          ∙ length-append (kept S w n).outcomes (option_list (outcome_by (act S w e).entry)) in
          let new = ap (λ o. length (option_list o)) is in
          omega (arith, all, new)

      ended : (o : ReqOutcome) → outcome_by (act S w e).entry ≡ Some o → (act S w e).attempt.tries ≡ 0 → Counts w (Does e) count
      ended o is none =
          let more = requests_are (Some o) is in
          counts_over w (Does e) count (tries_are ∙ none)
          (or_right (recovers n (Does e)) (not (request behind == request w)) (not_from_false (request behind == request w)
          (ne_eqb (request behind) (request w) (λ same. absurd (omega (arith, more, same))))))

      went_on : recovers n (Does e) ≡ false → (lost : Bool) → loses_try S w n e ≡ lost → (act S w e).entry ≡ None
          → (act S w e).attempt.tries ≡ next false lost count → Counts w (Does e) count
      went_on stays lost is none counts =
          let same = requests_are None (ap outcome_by none) in counts_on w (Does e) count stays (omega (arith, same)) lost is (tries_are ∙ counts)

      awake : IsAwake S w n count me e (act S w e) → Counts w (Does e) count
      awake up = elim up.comes [
        | Goes none same kept_on idle ↦ went_on up.stays_up false kept_on none (same ∙ counted up.up)
        | Loses none more lost idle ↦ went_on up.stays_up true lost none (more ∙ ap suc (counted up.up))
        | Commits value stores is none busy idle ↦ ended _ (ap outcome_by is) none
        | Ends outcome is none gives busy idle ↦ ended outcome is none
      ]

      acts_counted : Counts w (Does e) count
      acts_counted = elim (comes_at S w n count me e at can counted) [
        | inr r ↦ counts_over w (Does e) count (tries_are ∙ ap (λ (x : Attempt). x.tries) r.fresh)
            (ap (λ x. recovers n (Does x) || not (request behind == request w)) r.is ∙ ap (λ b. b || not (request behind == request w)) (eq-eqb n n refl))
        | inl up ↦ awake up
      ]

    -- each move that may come
    module _ (w : World) (form : Form) (count : ℕ) (can : IsTrue (enabled S w form)) (counted : (w.node n).up ≡ true → tries w ≡ count) where
      by_touch : Touches S w form n → ((steps S w form).node n).up ≡ true → Counts w form count
      by_touch (Own e is at) up =
          subst (λ f. Counts w f count) (sym is) (acts_counted w e count at (subst (λ f. IsTrue (enabled S w f)) is can) counted)
      by_touch (Beside apart) up = counts_beside w form count apart (counted (sym (ap (λ (x : Node). x.up) apart.node) ∙ up))
      by_touch (Downs down fallen) up = absurd (both_ways ((steps S w form).node n).up down up)

      counted_steps : ((steps S w form).node n).up ≡ true → Counts w form count
      counted_steps up = by_touch (touches S w form n) up

    -- so it is behind each run
    pub counted_runs : (w : World) (count : ℕ) (moves : List Move) → IsTrue (are_enabled S w moves) → ((w.node n).up ≡ true → tries w ≡ count)
        → ((runs S w moves).node n).up ≡ true → tries (runs S w moves) ≡ tries_from S n count w moves
    counted_runs w count [] can counted up = counted up
    counted_runs w count (move ∷ moves) can counted up =
        let p = and_parts (enabled S w (form_of move)) (are_enabled S (step S w move) moves) can in
        counted_runs (step S w move) (next (starts_over S w n move) (loses S w n (form_of move)) count) moves p.1
        (counted_steps w (form_of move) count p.0 counted) up
