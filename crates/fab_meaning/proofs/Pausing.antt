-- A job is begun, and comes to an end or to an object that lacks.
use Rattle.std.proofs.Common.{◌≡◌, ℕ, Bool, true, false, List, [], ◌∷◌, length, take, Option, Some, None, Result, Ok, Err, IfOk, sym, ap, ◌∙◌, subst}
use Rattle.std.specs.Prelude.{slice_get}
use Rattle.std.specs.declared.alloc.AllocError.{AllocError}
use Rattle.fab_base.specs.declared.object.Tid.{Tid}
use Rattle.fab_base.specs.declared.object.Value.{Value}
use Rattle.fab_base.specs.FlatMap.{FlatMap, ascends}
use Rattle.fab_places.specs.declared.masks.Seen.{Seen}
use Rattle.fab_rights.specs.Computed.{has_bit}
use Rattle.fab_tree.specs.declared.resolved.Method.{Method}
use Rattle.fab_tree.specs.declared.resolved.Resolved.{Resolved}
use Rattle.fab_language.specs.declared.ending.Ending.{Ending}
use Rattle.fab_language.specs.declared.ending.Ending.TheVariants as endings
use Rattle.fab_language.specs.Heaps.{touched}
use Rattle.fab_language.specs.Meaning.{Meant, meant_at, meant_by}
use Rattle.fab_erasure.specs.Erased.{blank_result, locals_at_start}
use Rattle.fab_left.specs.ErasedActs.{meanings}
use Rattle.fab_left.specs.Left.{AllStem, at_start, rest}
use Rattle.fab_left.proofs.Beginning.{all_known, erased_begins, erased_none, erased_skipped}
use Rattle.fab_stack.specs.declared.halt.End.{End}
use Rattle.fab_stack.specs.declared.halt.End.TheVariants.{Failed, Stopped, Missing}
use Rattle.fab_stack.specs.declared.stack.Entry.{Entry}
use Rattle.fab_stack.specs.declared.stepping.Way.{Way}
use Rattle.fab_stack.specs.declared.stepping.Way.TheVariants.{Over, Lacks}
use Rattle.fab_stack.specs.Points.{Point, point_over, with_locals}
use Rattle.fab_stack.specs.Stacks.{entries_of}
use Rattle.fab_stack.specs.Stepping.{IsMatched, IsSameAttempt, Runs}
use Rattle.fab_meaning.specs.declared.paused.Paused.{Paused}
use Rattle.fab_meaning.specs.declared.paused.Turn.{Turn}
use Rattle.fab_meaning.specs.declared.paused.Turn.TheVariants as turns
use Rattle.fab_meaning.specs.Ends.{IsMeant, ending_of}
use Rattle.fab_meaning.specs.Jobs.{Job, meant_of}
use Rattle.fab_meaning.specs.Lefts.{IsLeftOf, means_in}
use Rattle.fab_meaning.specs.Turns.{IsDone, IsOver, IsPausedAt, Turns}

-- ---- all is over

-- a run ended so, and lacks nothing
abbrev pub IsSettled : Result (Option Value) End → Type 0
IsSettled (Ok v) = Unit {0}
IsSettled (Err Failed) = Unit {0}
IsSettled (Err (Stopped stop)) = Unit {0}
IsSettled (Err (Missing site o)) = ⊥

over_by : (ended : Result (Option Value) End) (e : Ending) → IsSettled ended → e ≡ ending_of ended → IsOver e
over_by (Ok v) e s is = subst IsOver (sym is) tt
over_by (Err Failed) e s is = subst IsOver (sym is) tt
over_by (Err (Stopped stop)) e s is = subst IsOver (sym is) tt
over_by (Err (Missing site o)) e s is = absurd s

meant_turn : (job : Job) (ended : Result (Option Value) End) (p : Point) (turn : Turn) → IsSettled ended → meant_of job ≡ meant_at (ending_of ended) p.state
    → IsDone ended p turn → Turns job turn
meant_turn job ended p (turns.Done m) s is d = (subst (λ (x : Meant). IsMeant m x) (sym is) d, over_by ended m.ending s d.ending)
meant_turn job ended p (turns.Paused q) s is d = absurd d

pub done_turns : (job : Job) (ended : Result (Option Value) End) (p : Point) (r : Result Turn AllocError) → IsSettled ended
    → meant_of job ≡ meant_at (ending_of ended) p.state → IfOk r (IsDone ended p) → IfOk r (Turns job)
done_turns job ended p (Ok turn) s is d = meant_turn job ended p turn s is d
done_turns job ended p (Err e) s is d = tt

-- ---- a job is begun

module _ (job : Job) where
  abbrev sees : ℕ → Bool
  sees = has_bit job.seen.labels

  abbrev shows : ℕ → Bool
  shows = has_bit job.seen.classes

  -- where its method is there and seen, all of it is left
  pub begun_left : (first : Method) (items : List Entry) (p : Point) → slice_get job.program.methods job.request.method ≡ Some first → sees first.begin.number ≡ true
      → ascends job.known ≡ true → p ≡ with_locals (locals_at_start sees shows first job.request.args) (point_over job.tid job.fuel job.known job.given)
      → entries_of items p.base.saved ≡ rest (at_start first) first.body ∷ [] → IsMatched items p → IsLeftOf job first items p
  begun_left first items p is seen up at entries matched = record {
    begun = rw (entries, ap (λ (x : Point). x.state) at) (erased_begins job.program job.tid job.request job.fuel job.known first is sees shows job.given seen);
    stem = rw (entries, ap (λ (x : Point). x.state) at) (all_known job.tid job.known first job.fuel (locals_at_start sees shows first job.request.args) job.given up);
    matched = matched;
    tid = ap (λ (x : Point). x.base.tid) at;
  }

  -- where it isn't there, it gives nothing
  pub none_meant : (p : Point) → slice_get job.program.methods job.request.method ≡ None → p ≡ point_over job.tid job.fuel job.known job.given
      → meant_of job ≡ meant_at (endings.Ended None) p.state
  none_meant p none at =
      ap meant_by (erased_none job.program job.tid job.request job.fuel job.known sees shows job.given none) ∙ ap (λ (x : Point). meant_at (endings.Ended None) x.state) (sym at)

  -- where it isn't seen, it gives a blank, if anything
  pub skipped_meant : (first : Method) (p : Point) → slice_get job.program.methods job.request.method ≡ Some first → sees first.begin.number ≡ false
      → p ≡ point_over job.tid job.fuel job.known job.given → meant_of job ≡ meant_at (endings.Ended (blank_result sees shows (Some first))) p.state
  skipped_meant first p is unseen at =
      ap meant_by (erased_skipped job.program job.tid job.request job.fuel job.known sees shows job.given first is unseen)
      ∙ ap (λ (x : Point). meant_at (endings.Ended (blank_result sees shows (Some first))) x.state) (sym at)

-- ---- what steps made of all that is left of a job, they made of the job

module _ (program : Resolved) (seen : Seen) (first : Method) (js : List Entry) (p : Point) (ks : List Entry) (q : Point) where
  abbrev RunsTo : Way → Type 0
  RunsTo way = (known : FlatMap) → AllStem p.base.tid known (entries_of js p.base.saved) p.state
      → Runs (meanings (has_bit seen.labels) (has_bit seen.classes) program p.base.tid) (at_start first) p.base.tid known way (entries_of js p.base.saved) p.state (entries_of ks q.base.saved) q.state

  module _ (job : Job) (is : program ≡ job.program) (sees_so : seen ≡ job.seen) (left_is : IsLeftOf job first js p) where
    abbrev Made : Resolved → Seen → Tid → Way → Type 0
    Made program seen tid way = AllStem tid job.known (entries_of js p.base.saved) p.state
        → Runs (meanings (has_bit seen.labels) (has_bit seen.classes) program tid) (at_start first) tid job.known way (entries_of js p.base.saved) p.state (entries_of ks q.base.saved) q.state

    abbrev Ran : Way → Type 0
    Ran way = Runs (means_in job) (at_start first) job.tid job.known way (entries_of js p.base.saved) p.state (entries_of ks q.base.saved) q.state

    made : (way : Way) → RunsTo way → Ran way
    made way h =
        let of_program : Made job.program seen p.base.tid way = subst (λ (x : Resolved). Made x seen p.base.tid way) is (h job.known) in
        let of_seen : Made job.program job.seen p.base.tid way = subst (λ (x : Seen). Made job.program x p.base.tid way) sees_so of_program in
        subst (λ (t : Tid). Made job.program job.seen t way) left_is.tid of_seen left_is.stem

    over_meant : (ended : Result (Option Value) End) → Ran (Over ended) → IsSettled ended × (meant_of job ≡ meant_at (ending_of ended) q.state)
    over_meant (Ok v) r = (tt, ap meant_by (left_is.begun [] tt ∙ r))
    over_meant (Err Failed) r = (tt, ap meant_by (left_is.begun [] tt ∙ r))
    over_meant (Err (Stopped stop)) r = (tt, ap meant_by (left_is.begun [] tt ∙ r))
    over_meant (Err (Missing site o)) r = absurd r

    -- it is over
    pub over_turn : (ended : Result (Option Value) End) (turn : Turn) → RunsTo (Over ended) → IsDone ended q turn → Turns job turn
    over_turn ended turn h d = let m = over_meant ended (made (Over ended) h) in meant_turn job ended q turn m.0 m.1 d

    -- it lacks an object
    pub lacks_paused : (x : Paused) → x.program.now ≡ program → x.seen ≡ seen → x.first.now ≡ first → x.stack.items ≡ ks → x.state ≡ q
        → RunsTo (Lacks x.site x.oid x.fuel x.pairs x.objects) → IsMatched ks q → IsSameAttempt q.base p.base → IsPausedAt job x
    lacks_paused x pi ei fi si qi h matched same =
        let r = made (Lacks x.site x.oid x.fuel x.pairs x.objects) h in record {
          program = pi ∙ is;
          seen = ei ∙ sees_so;
          lacks = ap (λ (m : Meant). m.ending) (ap meant_by (left_is.begun [] tt ∙ r.0));
          rest = rw (fi, si, qi) (record {
            begun = λ more fresh. left_is.begun more fresh ∙ r.1.same more fresh;
            stem = r.1.stem;
            matched = matched;
            tid = same.tid ∙ left_is.tid;
          });
          objects = r.2 ∙ sym (ap (λ (z : Point). length (touched (take x.pairs z.state.touches))) qi);
        }

  -- whatever job it is
  pub over_turns : (ended : Result (Option Value) End) (r : Result Turn AllocError) → RunsTo (Over ended) → IfOk r (IsDone ended q)
      → IfOk r (λ turn. (job : Job) → program ≡ job.program → seen ≡ job.seen → IsLeftOf job first js p → Turns job turn)
  over_turns ended (Ok turn) h d = λ job is sees_so left_is. over_turn job is sees_so left_is ended turn h d
  over_turns ended (Err e) h d = tt

pub turns_of : (job : Job) (program : Resolved) (seen : Seen) (first : Method) (items : List Entry) (p : Point) (r : Result Turn AllocError) → program ≡ job.program → seen ≡ job.seen
    → IsLeftOf job first items p → IfOk r (λ turn. (other : Job) → program ≡ other.program → seen ≡ other.seen → IsLeftOf other first items p → Turns other turn)
    → IfOk r (Turns job)
turns_of job program seen first items p (Ok turn) is sees_so left_is h = h job is sees_so left_is
turns_of job program seen first items p (Err e) is sees_so left_is h = tt
