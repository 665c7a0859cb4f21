-- Lines from the first place on are those of a report, in its order, and the other way round.
use Rattle.std.proofs.Common.{◌≡◌, ℕ, suc, ◌+◌, ◌<◌, ◌≤◌, true, false, List, [], ◌∷◌, ◌++◌, map, length, refl, sym, ap, subst, ◌∙◌, arith}
use Rattle.std.specs.List.{flat_map, AllByRecursion}
use Rattle.std.specs.Fmt.{decimal}
use Rattle.fab_reports.specs.declared.line.ShownEvent.{ShownEvent}
use Rattle.fab_reports.specs.declared.line.ShownCommit.{ShownCommit}
use Rattle.fab_reports.specs.declared.line.ShownOutcome.{ShownOutcome}
use Rattle.fab_reports.specs.declared.line.ShownObject.{ShownObject}
use Rattle.fab_reports.specs.declared.line.Line.{Line}
use Rattle.fab_reports.specs.declared.line.Line.TheVariants as l
use Rattle.fab_reports.specs.declared.kinds.LineKind.{LineKind}
use Rattle.fab_reports.specs.declared.kinds.LineKind.TheVariants as lk
use Rattle.fab_reports.specs.declared.place.Place.{Place}
use Rattle.fab_reports.specs.Kinds.{kinds_from}
use Rattle.fab_reports.specs.Lines.{spelled_line, IsLine, IsShownEvent, IsShownCommit, IsShownOutcome, IsShownObject}
use Rattle.fab_reports.specs.Reports.{numbered_events, numbered_commits, listed, IsReport}
use Rattle.fab_reports.specs.Reading.{is_over, place_behind, first_place}
use Rattle.fab_reports.proofs.Given.{IsIn}
use Rattle.fab_reports.proofs.ReportLaws.{rank, in_rank, may_stand, IsLineOf, Rest, end_line, head_text, AreReported}

-- what stands from a place on
abbrev listed_from : Place → List ShownEvent → List ShownCommit → List ShownOutcome → List ShownObject → List Line
listed_from p events commits outcomes objects =
    numbered_events p.events events ++ (numbered_commits p.commits commits ++ (map l.Outcome outcomes ++ (map l.Object objects ++ l.End (p.events + length events) ∷ [])))

-- lines in this order, with no kind that is over at the place
record Listed (p : Place) (xs : List Line) : Type 0 where
  events : List ShownEvent
  commits : List ShownCommit
  outcomes : List ShownOutcome
  objects : List ShownObject
  order : xs ≡ listed_from p events commits outcomes objects
  fits : AllByRecursion IsLine xs
  no_events : 0 < rank p.last → events ≡ []
  no_commits : 1 < rank p.last → commits ≡ []
  no_outcomes : 2 < rank p.last → outcomes ≡ []

event_first : (p : Place) (x : ShownEvent) (xs : List Line) → rank p.last ≤ 0 → IsShownEvent x → Listed (record p { events = suc p.events }) xs → Listed p (l.Event (suc p.events) x ∷ xs)
event_first p x xs low fits r =
    let count : suc p.events + length r.events ≡ p.events + suc (length r.events) = omega arith in
    record {
      events = x ∷ r.events;
      commits = r.commits;
      outcomes = r.outcomes;
      objects = r.objects;
      order =
          ap (λ (ys : List Line). l.Event (suc p.events) x ∷ ys) r.order
          ∙ ap (λ (n : ℕ). l.Event (suc p.events) x ∷ (numbered_events (suc p.events) r.events ++ (numbered_commits p.commits r.commits ++ (map l.Outcome r.outcomes ++ (map l.Object r.objects ++ l.End n ∷ []))))) count;
      fits = (fits, r.fits);
      no_events = λ lt. absurd (omega arith);
      no_commits = λ lt. absurd (omega arith);
      no_outcomes = λ lt. absurd (omega arith);
    }

commit_first : (p : Place) (c : ShownCommit) (xs : List Line) → rank p.last ≤ 1 → IsShownCommit c → Listed (record p { last = lk.Commit; commits = suc p.commits }) xs
    → Listed p (l.Commit (suc p.commits) c ∷ xs)
commit_first p c xs low fits r =
    let q : Place = record p { last = lk.Commit; commits = suc p.commits } in
    let none : r.events ≡ [] = r.no_events (omega arith) in
    record {
      events = [];
      commits = c ∷ r.commits;
      outcomes = r.outcomes;
      objects = r.objects;
      order = ap (λ (ys : List Line). l.Commit (suc p.commits) c ∷ ys) (r.order ∙ ap (λ (es : List ShownEvent). listed_from q es r.commits r.outcomes r.objects) none);
      fits = (fits, r.fits);
      no_events = λ lt. refl;
      no_commits = λ lt. absurd (omega arith);
      no_outcomes = λ lt. absurd (omega arith);
    }

outcome_first : (p : Place) (x : ShownOutcome) (xs : List Line) → rank p.last ≤ 2 → IsShownOutcome x → Listed (record p { last = lk.Outcome }) xs → Listed p (l.Outcome x ∷ xs)
outcome_first p x xs low fits r =
    let q : Place = record p { last = lk.Outcome } in
    let none : r.events ≡ [] = r.no_events (omega arith) in
    let nothing : r.commits ≡ [] = r.no_commits (omega arith) in
    record {
      events = [];
      commits = [];
      outcomes = x ∷ r.outcomes;
      objects = r.objects;
      order = ap (λ (ys : List Line). l.Outcome x ∷ ys)
          (r.order ∙ ap (λ (es : List ShownEvent). listed_from q es r.commits r.outcomes r.objects) none ∙ ap (λ (cs : List ShownCommit). listed_from q [] cs r.outcomes r.objects) nothing);
      fits = (fits, r.fits);
      no_events = λ lt. refl;
      no_commits = λ lt. refl;
      no_outcomes = λ lt. absurd (omega arith);
    }

object_first : (p : Place) (x : ShownObject) (xs : List Line) → rank p.last ≤ 3 → IsShownObject x → Listed (record p { last = lk.Object }) xs → Listed p (l.Object x ∷ xs)
object_first p x xs low fits r =
    let q : Place = record p { last = lk.Object } in
    let none : r.events ≡ [] = r.no_events (omega arith) in
    let nothing : r.commits ≡ [] = r.no_commits (omega arith) in
    let no_more : r.outcomes ≡ [] = r.no_outcomes (omega arith) in
    record {
      events = [];
      commits = [];
      outcomes = [];
      objects = x ∷ r.objects;
      order = ap (λ (ys : List Line). l.Object x ∷ ys)
          (r.order ∙ ap (λ (es : List ShownEvent). listed_from q es r.commits r.outcomes r.objects) none ∙ ap (λ (cs : List ShownCommit). listed_from q [] cs r.outcomes r.objects) nothing
          ∙ ap (λ (os : List ShownOutcome). listed_from q [] [] os r.objects) no_more);
      fits = (fits, r.fits);
      no_events = λ lt. refl;
      no_commits = λ lt. refl;
      no_outcomes = λ lt. refl;
    }

only_end : (p : Place) → Listed p (l.End p.events ∷ [])
only_end p = record {
  events = [];
  commits = [];
  outcomes = [];
  objects = [];
  order = ap (λ (n : ℕ). l.End n ∷ []) (omega arith);
  fits = (tt, tt);
  no_events = λ lt. refl;
  no_commits = λ lt. refl;
  no_outcomes = λ lt. refl;
}

ended_rest : (p : Place) (xs : List Line) → is_over p ≡ true → Rest p xs → xs ≡ []
ended_rest p [] t h = refl
ended_rest p (x ∷ xs) t h = absurd (let f : is_over p ≡ false = h.0 in cc)

by_kind : (p : Place) (x : Line) (xs : List Line) (kind : LineKind) → IsIn kind (kinds_from p.last) → IsLineOf p kind x → is_over p ≡ false → Rest (place_behind p x) xs
    → ((q : Place) → Rest q xs → is_over q ≡ false → Listed q xs) → Listed p (x ∷ xs)
by_kind p x xs lk.Event i h f rest on =
    let y : Line = l.Event (suc p.events) h.0.1 in
    let behind : Rest (place_behind p y) xs = subst (λ (z : Line). Rest (place_behind p z) xs) (sym h.2) rest in
    subst (λ (z : Line). Listed p (z ∷ xs)) h.2 (event_first p h.0.1 xs (in_rank p.last lk.Event i) h.1.1 (on (place_behind p y) behind f))
by_kind p x xs lk.Commit i h f rest on =
    let y : Line = l.Commit (suc p.commits) h.0.1 in
    let behind : Rest (place_behind p y) xs = subst (λ (z : Line). Rest (place_behind p z) xs) (sym h.2) rest in
    subst (λ (z : Line). Listed p (z ∷ xs)) h.2 (commit_first p h.0.1 xs (in_rank p.last lk.Commit i) h.1.1 (on (place_behind p y) behind refl))
by_kind p x xs lk.Outcome i h f rest on =
    let y : Line = l.Outcome h.0 in
    let behind : Rest (place_behind p y) xs = subst (λ (z : Line). Rest (place_behind p z) xs) (sym h.2) rest in
    subst (λ (z : Line). Listed p (z ∷ xs)) h.2 (outcome_first p h.0 xs (in_rank p.last lk.Outcome i) h.1 (on (place_behind p y) behind refl))
by_kind p x xs lk.Object i h f rest on =
    let y : Line = l.Object h.0 in
    let behind : Rest (place_behind p y) xs = subst (λ (z : Line). Rest (place_behind p z) xs) (sym h.2) rest in
    subst (λ (z : Line). Listed p (z ∷ xs)) h.2 (object_first p h.0 xs (in_rank p.last lk.Object i) h.1 (on (place_behind p y) behind refl))
by_kind p x xs lk.End i h f rest on =
    let y : Line = l.End p.events in
    let behind : Rest (place_behind p y) xs = subst (λ (z : Line). Rest (place_behind p z) xs) (sym h.2) rest in
    let nothing : xs ≡ [] = ended_rest (place_behind p y) xs refl behind in
    subst (λ (zs : List Line). Listed p zs) (ap (λ (z : Line). z ∷ []) h.2 ∙ ap (λ (zs : List Line). x ∷ zs) (sym nothing)) (only_end p)

to_listed : (xs : List Line) (p : Place) → Rest p xs → is_over p ≡ false → Listed p xs
to_listed [] p h f = absurd cc
to_listed (x ∷ xs) p h f = by_kind p x xs h.1.0 h.1.1 h.1.2 f h.2 (λ q rest g. to_listed xs q rest g)

-- ---- the other way round

rest_objects : (xs : List ShownObject) (p : Place) (n : ℕ) → n ≡ p.events → rank p.last ≤ 3 → is_over p ≡ false → AllByRecursion IsLine (map l.Object xs ++ l.End n ∷ [])
    → Rest p (map l.Object xs ++ l.End n ∷ [])
rest_objects [] p n e low f fits = subst (λ (k : ℕ). Rest p (l.End k ∷ [])) (sym e) (end_line p f)
rest_objects (x ∷ xs) p n e low f fits =
    (f, (lk.Object, may_stand p.last lk.Object f low, (x, fits.0, refl)), rest_objects xs (place_behind p (l.Object x)) n e (omega arith) refl fits.1)

rest_outcomes : (xs : List ShownOutcome) (hs : List ShownObject) (p : Place) (n : ℕ) → n ≡ p.events → rank p.last ≤ 2 → is_over p ≡ false
    → AllByRecursion IsLine (map l.Outcome xs ++ (map l.Object hs ++ l.End n ∷ [])) → Rest p (map l.Outcome xs ++ (map l.Object hs ++ l.End n ∷ []))
rest_outcomes [] hs p n e low f fits = rest_objects hs p n e (omega arith) f fits
rest_outcomes (x ∷ xs) hs p n e low f fits =
    (f, (lk.Outcome, may_stand p.last lk.Outcome f low, (x, fits.0, refl)), rest_outcomes xs hs (place_behind p (l.Outcome x)) n e (omega arith) refl fits.1)

rest_commits : (xs : List ShownCommit) (os : List ShownOutcome) (hs : List ShownObject) (p : Place) (n : ℕ) → n ≡ p.events → rank p.last ≤ 1 → is_over p ≡ false
    → AllByRecursion IsLine (numbered_commits p.commits xs ++ (map l.Outcome os ++ (map l.Object hs ++ l.End n ∷ [])))
    → Rest p (numbered_commits p.commits xs ++ (map l.Outcome os ++ (map l.Object hs ++ l.End n ∷ [])))
rest_commits [] os hs p n e low f fits = rest_outcomes os hs p n e (omega arith) f fits
rest_commits (x ∷ xs) os hs p n e low f fits = (
  f,
  (lk.Commit, may_stand p.last lk.Commit f low, (((decimal (suc p.commits), 32), x), ((refl, (omega arith, omega arith)), fits.0), refl)),
  rest_commits xs os hs (place_behind p (l.Commit (suc p.commits) x)) n e (omega arith) refl fits.1,
)

rest_events : (xs : List ShownEvent) (cs : List ShownCommit) (os : List ShownOutcome) (hs : List ShownObject) (p : Place) (n : ℕ) → n ≡ p.events + length xs → rank p.last ≤ 0 → is_over p ≡ false
    → AllByRecursion IsLine (numbered_events p.events xs ++ (numbered_commits p.commits cs ++ (map l.Outcome os ++ (map l.Object hs ++ l.End n ∷ []))))
    → Rest p (numbered_events p.events xs ++ (numbered_commits p.commits cs ++ (map l.Outcome os ++ (map l.Object hs ++ l.End n ∷ []))))
rest_events [] cs os hs p n e low f fits = rest_commits cs os hs p n (omega (arith, e)) (omega arith) f fits
rest_events (x ∷ xs) cs os hs p n e low f fits = (
  f,
  (lk.Event, may_stand p.last lk.Event f low, (((decimal (suc p.events), 32), x), ((refl, (omega arith, omega arith)), fits.0), refl)),
  rest_events xs cs os hs (place_behind p (l.Event (suc p.events) x)) n (omega (arith, e)) low f fits.1,
)

-- ---- reports

pub is_report : (bytes : List ℕ) (lines : List Line) → AreReported lines → bytes ≡ flat_map spelled_line lines → IsReport bytes lines
is_report bytes lines h spelled =
    let r = to_listed h.0.1 first_place h.1.1 refl in
    subst (λ (ls : List Line). bytes ≡ flat_map spelled_line ls → IsReport bytes ls) h.2
    (λ s. record {
      events = r.events;
      commits = r.commits;
      outcomes = r.outcomes;
      objects = r.objects;
      order = ap (λ (ls : List Line). l.Head ∷ ls) (r.order ∙ ap (λ (n : ℕ). numbered_events 0 r.events ++ (numbered_commits 0 r.commits ++ (map l.Outcome r.outcomes ++ (map l.Object r.objects ++ l.End n ∷ [])))) (none_before r.events));
      fits = (tt, r.fits);
      spelled = s;
    })
    spelled
  where
    none_before : (xs : List ShownEvent) → 0 + length xs ≡ length xs
    none_before xs = omega arith

pub are_reported : (bytes : List ℕ) (lines : List Line) → IsReport bytes lines → AreReported lines
are_reported bytes lines h =
    let fits : AllByRecursion IsLine (listed h.events h.commits h.outcomes h.objects) = subst (λ (ls : List Line). AllByRecursion IsLine ls) h.order h.fits in (
      (head_text, numbered_events 0 h.events ++ (numbered_commits 0 h.commits ++ (map l.Outcome h.outcomes ++ (map l.Object h.objects ++ l.End (length h.events) ∷ [])))),
      (refl, rest_events h.events h.commits h.outcomes h.objects first_place (length h.events) (omega arith) (omega arith) refl fits.1),
      sym h.order,
    )
