-- What is left of a job goes on with the object that lacks.
use Rattle.std.proofs.Common.{◌≡◌, ℕ, true, false, List, [], ◌∷◌, map, Result, Ok, Err, IfOk, sym, ap, ◌∙◌, subst, arith}
use Rattle.std.specs.declared.alloc.AllocError.{AllocError}
use Rattle.std.proofs.lemmas.Bool.{true≢false}
use Rattle.std.proofs.lemmas.Bool.Decides.{nat_tests}
use Rattle.std.proofs.lemmas.List.{length-map}
use Rattle.fab_base.specs.declared.object.Object.{Object}
use Rattle.fab_base.specs.declared.object.Oid.{Oid}
use Rattle.fab_base.specs.declared.object.Tid.{Tid}
use Rattle.fab_rights.specs.Computed.{has_bit}
use Rattle.fab_tree.specs.declared.resolved.Method.{Method}
use Rattle.fab_laws.specs.Changes.{IsOf}
use Rattle.fab_fewer.proofs.Fewer.{knows_all_touched}
use Rattle.fab_left.specs.Left.{IsNew, at_start, wider_entry, with_more}
use Rattle.fab_left.proofs.Stacks.{answer_begun, answer_stems}
use Rattle.fab_stack.specs.declared.stack.Entry.{Entry}
use Rattle.fab_stack.specs.Attempts.{is_made_in}
use Rattle.fab_stack.specs.Points as points
use Rattle.fab_stack.specs.Points.{Point, point_before, with_answer}
use Rattle.fab_stack.specs.Stacks.{entries_of}
use Rattle.fab_stack.specs.Stepping.{IsMatched}
use Rattle.fab_stack.proofs.Answering.{entries_wider}
use Rattle.fab_meaning.specs.declared.paused.Paused.{Paused}
use Rattle.fab_meaning.specs.declared.paused.Turn.{Turn}
use Rattle.fab_meaning.specs.Jobs.{Job, answered}
use Rattle.fab_meaning.specs.Lefts.{IsLeftOf, asked_by, means_in}
use Rattle.fab_meaning.specs.Turns.{IsPausedAt, Turns, Waits}

made_of : (t : Tid) (o : Oid) → IsOf t o → is_made_in t o ≡ true
made_of t o is = grind (arith, nat_tests, is.worker, is.boot, is.number)

-- what lacks is new
needed_new : (job : Job) (x : Paused) → IsPausedAt job x → is_made_in job.tid x.oid ≡ false → IsNew job.tid job.known x.oid
needed_new job x paused unmade = record {
  unknown = (knows_all_touched (has_bit job.seen.labels) (has_bit job.seen.classes) job.program job.known job.request job.tid job.fuel job.given).missing x.site x.oid paused.lacks;
  unmade = λ is. absurd (true≢false (sym (made_of job.tid x.oid is) ∙ unmade));
}

-- what is left, over the map with an answer more
module _ (job : Job) (first : Method) (items : List Entry) (p : Point) (o : Oid) (version : ℕ) (x : Object) (new : IsNew job.tid job.known o) (rest : IsLeftOf job first items p) where
  entries_more : entries_of items (with_answer o version x p).base.saved ≡ map (wider_entry ((o, x) ∷ [])) (entries_of items p.base.saved)
  entries_more = entries_wider ((o, x) ∷ []) items p.base.saved (omega (arith, rest.matched))

  left_answered : IsLeftOf (answered o x job) first items (with_answer o version x p)
  left_answered = record {
    begun = rw entries_more (answer_begun o x job.tid job.known new (means_in job) (at_start first) (asked_by job) (entries_of items p.base.saved) p.state rest.begun);
    stem = rw entries_more (answer_stems o x job.tid job.known new (entries_of items p.base.saved) p.state rest.stem);
    matched = rest.matched ∙ sym (length-map p.base.saved (with_more ((o, x) ∷ [])));
    tid = rest.tid;
  }

module _ (self : Paused) (waits : Waits self) (version : ℕ) (x : Object) where
  abbrev before : Point
  before = point_before self.fuel self.pairs self.state

  abbrev after : Point
  after = with_answer self.oid version x before

  unmade_in : (job : Job) → IsPausedAt job self → is_made_in job.tid self.oid ≡ false
  unmade_in job paused = ap (λ (t : Tid). is_made_in t self.oid) (sym paused.rest.tid ∙ waits.paused.rest.tid) ∙ waits.unmade

  -- the state takes the answer
  pub lacks_it : points.Lacks self.oid before
  lacks_it = record {
    absent = waits.paused.rest.stem.state.none_new self.oid (needed_new waits.job self waits.paused waits.unmade);
    unmade = ap (λ (t : Tid). is_made_in t self.oid) waits.paused.rest.tid ∙ waits.unmade;
  }

  -- and is matched behind it
  pub matched_behind : IsMatched self.stack.items after
  matched_behind =
      (left_answered waits.job self.first.now self.stack.items before self.oid version x (needed_new waits.job self waits.paused waits.unmade) waits.paused.rest).matched

  goes_to : (turn : Turn) → ((job : Job) → self.program.now ≡ job.program → self.seen ≡ job.seen → IsLeftOf job self.first.now self.stack.items after → Turns job turn)
      → (job : Job) → IsPausedAt job self → Turns (answered self.oid x job) turn
  goes_to turn h job paused =
      h (answered self.oid x job) paused.program paused.seen
      (left_answered job self.first.now self.stack.items before self.oid version x (needed_new job self paused (unmade_in job paused)) paused.rest)

  pub answered_turns : (p : Point) (r : Result Turn AllocError) → p ≡ after
      → IfOk r (λ turn. (job : Job) → self.program.now ≡ job.program → self.seen ≡ job.seen → IsLeftOf job self.first.now self.stack.items p → Turns job turn)
      → IfOk r (λ turn. (job : Job) → IsPausedAt job self → Turns (answered self.oid x job) turn)
  answered_turns p (Ok turn) at h =
      goes_to turn (subst (λ (z : Point). (job : Job) → self.program.now ≡ job.program → self.seen ≡ job.seen → IsLeftOf job self.first.now self.stack.items z → Turns job turn) at h)
  answered_turns p (Err e) at h = tt
