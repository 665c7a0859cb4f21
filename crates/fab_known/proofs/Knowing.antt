-- A worker's request is run on: what is kept of its last run, and what comes of it.
use Rattle.std.proofs.Common.{◌≡◌, ℕ, ◌==◌, Bool, true, false, not, ◌&&◌, List, [], ◌∷◌, ◌++◌, length, take, Option, Some, None, refl, sym, ap, ◌∙◌, subst, arith}
use Rattle.std.proofs.lemmas.Bool.{and_parts, eqb-true, not-true}
use Rattle.std.proofs.lemmas.List.{map-append, take_at}
use Rattle.fab_base.specs.declared.object.Object.{Object}
use Rattle.fab_base.specs.declared.object.Oid.{Oid}
use Rattle.fab_base.specs.declared.object.Tid.{Tid}
use Rattle.fab_base.specs.declared.object.Value.{Value}
use Rattle.fab_base.specs.FlatMap.{FlatMap, is_same, map_of, put}
use Rattle.fab_base.proofs.NameOrder.{one_name}
use Rattle.fab_integrity.proofs.Tids.{tid_is as one_tid}
use Rattle.fab_map.proofs.Rows.{put_more}
use Rattle.fab_language.specs.Meaning.{Meant}
use Rattle.fab_meaning.specs.declared.paused.Paused.{Paused}
use Rattle.fab_meaning.specs.declared.paused.Turn.{Turn}
use Rattle.fab_meaning.specs.Jobs.{Job, answered}
use Rattle.fab_meaning.specs.Turns.{IsOver, IsPausedAt, Turns}
use Rattle.fab_protocol.specs.Versions.{Row, Rows, is_made_in, is_tid, objects_of}
use Rattle.fab_release.specs.Bundles.{erased_of}
use Rattle.fab_rights.specs.Computed.{has_bit}
use Rattle.fab_settings.specs.Settings.{request_at}
use Rattle.fab_tree.specs.declared.resolved.Request.{Request}
use Rattle.fab_known.specs.declared.known.Last.{Last}
use Rattle.fab_known.specs.Knowing.{Lacks, Runner, ran_by}
use Rattle.fab_known.specs.Lasts.{IsAnswer, IsLast, IsRun, IsTurned, PausesSo, job_over}

-- ---- the object that lacked is known behind the rows of the last run

abbrev pub is_next : Last → Rows → Oid → ℕ → Tid → Bool
is_next last before name number t =
    (last.number == number) && is_tid last.tid t && (length before == last.rows) && is_same name last.pause.oid && not (is_made_in t last.pause.oid)

pub is_answer : (rows before : Rows) (row : Row) (last : Last) (number : ℕ) (t : Tid) (x : Object) → rows ≡ before ++ row ∷ [] → is_next last before row.0 number t ≡ true → x ≡ row.2
    → IsAnswer rows last number t x
is_answer rows before row last number t x split e copy =
    let a = last.number == number in
    let b = is_tid last.tid t in
    let c = length before == last.rows in
    let d = is_same row.0 last.pause.oid in
    let one = and_parts (a && b && c && d) (not (is_made_in t last.pause.oid)) e in
    let two = and_parts (a && b && c) d one.0 in
    let three = and_parts (a && b) c two.0 in
    let four = and_parts a b three.0 in
    let front : take last.rows rows ≡ before = ap (take last.rows) split ∙ take_at before (row ∷ []) last.rows (eqb-true (length before) last.rows three.1) in
    record {
      version = row.1;
      number_is = eqb-true last.number number four.0;
      tid_is = one_tid last.tid t four.1;
      rows_are = split ∙ (λ i. sym front i ++ (one_name row.0 last.pause.oid two.1 i, row.1, sym copy i) ∷ []);
      unmade = not-true (is_made_in t last.pause.oid) one.1;
    }

-- ---- what comes of a run

module _ (r : Runner) (given : List Value) (number : ℕ) (t : Tid) where
  abbrev over : FlatMap → Option Request → Meant
  over known q = erased_of (has_bit r.seen.labels) (has_bit r.seen.classes) r.program q t known given

  pub turned : (rows : Rows) (request : Request) → request_at r.program t.worker number ≡ Some request → (o : Option Paused) → PausesSo (job_over r rows given request t) o
      → IsTurned r rows given number t o
  turned rows request asked None h = subst (λ (q : Option Request). IsOver (over (map_of (objects_of rows)) q).ending) (sym asked) h
  turned rows request asked (Some p) h = record { request = request; asked = asked; paused = h }

  -- what it lacks
  pub lacked : (rows : Rows) (p : Paused) → IsRun r rows given number t p → Lacks (Some p.oid) (ran_by r t.worker number t (map_of (objects_of rows)) given).ending
  lacked rows p is = (p.site, ap (λ (q : Option Request). (over (map_of (objects_of rows)) q).ending) is.asked ∙ is.paused.lacks)

  module _ (rows : Rows) (last : Last) (x : Object) (a : IsAnswer rows last number t x) (is : IsLast r rows given last) where
    abbrev before : Job
    before = job_over r (take last.rows rows) given is.run.request last.tid

    one_more : map_of (objects_of rows) ≡ put last.pause.oid x (map_of (objects_of (take last.rows rows)))
    one_more =
        ap (λ (l : Rows). map_of (objects_of l)) a.rows_are
        ∙ ap map_of (map-append (λ (row : Row). (row.0, row.2)) (take last.rows rows) ((last.pause.oid, a.version, x) ∷ []))
        ∙ put_more (objects_of (take last.rows rows)) (last.pause.oid, x) []

    same_job : answered last.pause.oid x before ≡ job_over r rows given is.run.request t
    same_job = λ i. record before { known = sym one_more i; tid = a.tid_is i }

    asked_still : request_at r.program t.worker number ≡ Some is.run.request
    asked_still = (λ i. request_at r.program (sym a.tid_is i).worker (sym a.number_is i)) ∙ is.run.asked

    pub goes_on : (turn : Turn) (o : Option Paused) → ((job : Job) → IsPausedAt job last.pause → Turns (answered last.pause.oid x job) turn) → ((job : Job) → Turns job turn → PausesSo job o)
        → IsTurned r rows given number t o
    goes_on turn o h k = turned rows is.run.request asked_still o (subst (λ (job : Job). PausesSo job o) same_job (k (answered last.pause.oid x before) (h before is.run.paused)))
