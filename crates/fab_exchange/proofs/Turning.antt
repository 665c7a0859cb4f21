-- What the answers of an exchange tell, of what was found and what came.
use Rattle.std.proofs.Common.{◌≡◌, ℕ, ◌<◌, List, true, false, not, Some, None, refl, sym, ap, ◌∙◌, subst}
use Rattle.std.specs.List.{IsDistinct, list_any}
use Rattle.fab_base.specs.FlatMap.{is_same}
use Rattle.fab_eval.specs.Attempts.{is_made_in}
use Rattle.fab_eval.specs.declared.done.Done.{Done}
use Rattle.fab_eval.specs.declared.job.Job.{Job}
use Rattle.fab_net.specs.declared.event.Event.TheVariants as e
use Rattle.fab_net.specs.declared.event.Inner.{Inner}
use Rattle.fab_net.specs.declared.event.Inner.TheVariants as i
use Rattle.fab_protocol.specs.Versions.{names_of}
use Rattle.fab_rights.specs.Computed.{is_node}
use Rattle.fab_world.specs.Machine.{Move, form_of, may, node_of}
use Rattle.fab_world.specs.Crashing.{goes_on, may_follow, must_crash}
use Rattle.fab_world.specs.Serial.{IsWaiting}
use Rattle.fab_settings.specs.Settings.{lines_of}
use Rattle.fab_node.specs.Standing.{GivenModel, IsGiven}
use Rattle.fab_core.specs.Cores.{CoreModel, InnerHasDone, setting, unmarked, world, world_by}
use Rattle.fab_core.specs.Telling.{TellsJob}
use Rattle.fab_core.proofs.Tables.{node_below}
use Rattle.fab_exchange.specs.Comings.{HasComeAs}
use Rattle.fab_exchange.specs.Dues.{comes, crashes, form_at, found_at, is_some_due}
use Rattle.fab_exchange.specs.Turns.{Acts, AreOver, Asks, Ends, HasCome, IsCurrent, NoneCame, Takes, Waits, due, is_resume, node_with, resumes}
use Rattle.fab_exchange.specs.declared.found.Found.TheVariants as f
use Rattle.fab_exchange.proofs.Finds.{NeedsNone, comes_due, crash_due, finds, is_over, none_due, post_due, posts_so, somewhere}
use Rattle.fab_exchange.proofs.Following.{comes_goes, form_follows}
use Rattle.fab_exchange.proofs.Forms.{came_resume, form_node, form_resume}
use Rattle.std.proofs.lemmas.Bool.{and_from, not_from_false}

none_resumes : (x : Inner) → NeedsNone x → resumes x ≡ false
none_resumes (i.Begin m) h = refl
none_resumes (i.Resume m) h = absurd h
none_resumes (i.Deliver a b) h = refl
none_resumes (i.Idle m s) h = refl
none_resumes (i.Recover m) h = refl

-- ---- what came, by what was found

module _ (m new : CoreModel) (n : ℕ) where
  -- its crash
  pub crash_acts : found_at m.given m.moves n ≡ Some f.Crash → HasCome n (e.Crash n) m new → Acts n m new
  crash_acts is came = record {
    event = e.Crash n;
    due = crash_due m.given m.moves n (finds m.given m.moves n f.Crash is);
    node = refl;
    came = came;
    other = came_resume came.applied (e.Crash n) refl;
  }

  -- a post to it
  module _ (h : ℕ) (is : found_at m.given m.moves n ≡ Some (f.Post h)) where
    target_is : node_with (world m) (form_of (unmarked (e.Post h))) ≡ n
    target_is = (posts_so m.given m.moves h n (finds m.given m.moves n (f.Post h) is).0).1

    pub post_acts : HasCome (node_with (world m) (form_of (unmarked (e.Post h)))) (e.Post h) m new → Acts n m new
    post_acts came =
        let p = finds m.given m.moves n (f.Post h) is in
        let q = posts_so m.given m.moves h n p.0 in record {
          event = e.Post h;
          due = post_due m.given m.moves n h q.0 q.1 p.1;
          node = q.1;
          came = subst (λ k. HasCome k (e.Post h) m new) target_is came;
          other = came_resume came.applied (e.Post h) refl;
        }

    pub no_post : NoneCame (node_with (world m) (form_of (unmarked (e.Post h)))) m new → NoneCame n m new
    no_post none = subst (λ k. NoneCame k m new) target_is none

  -- another event of it
  module _ (x : Inner) (is : found_at m.given m.moves n ≡ Some (f.Does x)) where
    its_node : node_of x ≡ n
    its_node = (finds m.given m.moves n (f.Does x) is).1

    pub does_acts : HasComeAs x m new → Acts n m new
    does_acts came =
        let p = finds m.given m.moves n (f.Does x) is in record {
          event = came.event;
          due = subst (λ y. due m.given m.moves y ≡ true) (sym came.form) (comes_due m.given m.moves n x p.0 p.1 p.2);
          node = ap (node_with (world m)) came.form ∙ form_node m.given m.moves x ∙ p.1;
          came = subst (λ k. HasCome k came.event m new) its_node came.came;
          other = came_resume came.came.applied came.event (ap is_resume came.form ∙ form_resume m.given m.moves x ∙ none_resumes x p.3);
        }

    pub does_none : NoneCame (node_of x) m new → NoneCame n m new
    does_none none = subst (λ k. NoneCame k m new) its_node none

module _ (g : GivenModel) (old : List Move) (n : ℕ) where
  -- what is found may follow, and needs no evaluation
  pub crash_follows : found_at g old n ≡ Some f.Crash → may_follow (setting g) (lines_of g.program) (world_by g old) old (form_of (unmarked (e.Crash n))) ≡ true
  crash_follows is = crash_due g old n (finds g old n f.Crash is)

  pub post_follows : (h : ℕ) → found_at g old n ≡ Some (f.Post h)
      → may_follow (setting g) (lines_of g.program) (world_by g old) old (form_of (unmarked (e.Post h))) ≡ true
  post_follows h is =
      let p = finds g old n (f.Post h) is in
      let q = posts_so g old h n p.0 in post_due g old n h q.0 q.1 p.1

  pub found_goes : (x : Inner) → found_at g old n ≡ Some (f.Does x) → goes_on (setting g) (lines_of g.program) (world_by g old) old x ≡ true
  unfolding comes crashes
  found_goes x is =
      let p = finds g old n (f.Does x) is in
      comes_goes (setting g) (lines_of g.program) (world_by g old) old x
      (and_from (may (setting g) (world_by g old) x) (not (must_crash (setting g) (lines_of g.program) (world_by g old) old (node_of x))) p.0
      (not_from_false (must_crash (setting g) (lines_of g.program) (world_by g old) old (node_of x))
      (subst (λ k. must_crash (setting g) (lines_of g.program) (world_by g old) old k ≡ false) (sym p.1) p.2)))

  pub found_needs : (x : Inner) → found_at g old n ≡ Some (f.Does x) → InnerHasDone g (world_by g old) x None
  found_needs x is = by x (finds g old n (f.Does x) is).3
    where
      by : (y : Inner) → NeedsNone y → InnerHasDone g (world_by g old) y None
      by (i.Begin m) h = tt
      by (i.Resume m) h = absurd h
      by (i.Deliver a b) h = tt
      by (i.Idle m s) h = tt
      by (i.Recover m) h = tt

  -- the end of its evaluation is due
  pub found_resumes : found_at g old n ≡ Some f.Evaluation → may (setting g) (world_by g old) (i.Resume n) ≡ true
  unfolding comes
  found_resumes is = (finds g old n f.Evaluation is).0

  found_calm : found_at g old n ≡ Some f.Evaluation → must_crash (setting g) (lines_of g.program) (world_by g old) old n ≡ false
  unfolding crashes
  found_calm is = (finds g old n f.Evaluation is).1

  -- its evaluation is asked for
  pub asks : (new : List Move) (job : Job) → found_at g old n ≡ Some f.Evaluation → TellsJob g (world_by g old) n (Some job)
      → IsDistinct is_same (names_of job.answers) → list_any (λ a. is_made_in job.tid a.0) job.answers ≡ false → new ≡ old → Asks g n old new job
  asks new job is tells distinct before same =
      record {
        comes = found_resumes is;
        calm = found_calm is;
        current = record { at_work = tells.0; job_is = tells.1 };
        distinct = distinct;
        made_before = before;
        moves = same;
      }

  module _ (given : IsGiven g) where
    low : (k : ℕ) → is_node g.rights k ≡ true → k < 64
    low k is = node_below g.rights k given.accepted.workers given.accepted.stores is

    pub waits : (new : List Move) → found_at g old n ≡ None → is_some_due g old ≡ true → new ≡ old → Waits g n old new
    waits new none some same = record { none = none_due g old low n none; some = somewhere g old some; moves = same }

    pub ends : (new : List Move) → is_some_due g old ≡ false → (AreOver g old → (m : ℕ) → IsWaiting (setting g) (world_by g old) m → ⊥) → new ≡ old → Ends g old new
    ends new none left same = let over = is_over g old low none in record { over = over; left = left over; moves = same }

-- what the job came to was taken
pub takes : (m new : CoreModel) (n : ℕ) (done : Done) → IsCurrent m.given m.moves n done.job
    → goes_on (setting m.given) (lines_of m.given.program) (world m) m.moves (i.Resume n) ≡ true → HasComeAs (i.Resume n) m new → Takes n done m new
unfolding form_at
takes m new n done current goes came = record {
  current = current;
  event = came.event;
  is = came.is;
  may = subst (λ y. may_follow (setting m.given) (lines_of m.given.program) (world m) m.moves y ≡ true) (sym came.form)
      (form_follows (setting m.given) (lines_of m.given.program) (world m) m.moves (i.Resume n) goes);
  came = came.came;
}
