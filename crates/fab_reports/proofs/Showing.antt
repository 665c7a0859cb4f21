-- Each line of the report of a run that can be shown has a spelling.
use Rattle.std.proofs.Common.{◌≡◌, ◌≢◌, ℕ, zero, suc, ◌+◌, ◌<◌, ◌^◌, Bool, true, false, cond, Option, Some, None, List, [], ◌∷◌, ◌++◌, map, length, refl, ap, codes, arith}
use Rattle.std.specs.Prelude.{IsSome, find, option_map, slice_get}
use Rattle.std.specs.List.{AllByRecursion}
use Rattle.std.specs.Str.{bytes_eq}
use Rattle.fab_base.specs.declared.object.Oid.{Oid}
use Rattle.fab_base.specs.declared.object.Object.{Object}
use Rattle.fab_base.specs.declared.object.Value.{Value}
use Rattle.fab_base.specs.declared.object.Value.TheVariants.{Int, Null, Ref}
use Rattle.fab_base.specs.FieldSpelling.{IsOid}
use Rattle.fab_base.specs.FlatMap.{is_same}
use Rattle.fab_tree.specs.declared.resolved.Resolved.{Resolved}
use Rattle.fab_language.specs.Words.{text_or, has_number, node_text, class_text}
use Rattle.fab_net.specs.declared.event.Event.{Event}
use Rattle.fab_net.specs.declared.event.Event.TheVariants as ne
use Rattle.fab_net.specs.declared.event.Inner.{Inner}
use Rattle.fab_net.specs.declared.event.Inner.TheVariants as ni
use Rattle.fab_net.specs.declared.note.Commit.{Commit}
use Rattle.fab_net.specs.declared.note.Logged.{Logged}
use Rattle.fab_net.specs.declared.outcome.ReqOutcome.{ReqOutcome}
use Rattle.fab_net.specs.declared.outcome.ReqOutcome.TheVariants as no
use Rattle.fab_trace.specs.Report.{target_behind, commits_in}
use Rattle.fab_reports.specs.declared.line.ShownValue.TheVariants as v
use Rattle.fab_reports.specs.declared.line.Line.{Line}
use Rattle.fab_reports.specs.declared.line.Line.TheVariants as l
use Rattle.fab_reports.specs.Lines.{IsWord, AreBytes, IsShownName, IsShownValue, IsShownInner, IsShownEvent, IsShownEnding, IsLine}
use Rattle.fab_reports.specs.Reports.{numbered_events, numbered_commits}
use Rattle.fab_reports.specs.Printed.{inner_of, event_of, events_of, name_or, name_of, value_of, result_of, commit_of, ending_of, outcomes_of, all_outcomes, object_of, all_objects, lines_of_report}
use Rattle.fab_reports.specs.Showable.{HasWords, IsNode, IsClass, IsInnerIn, IsEventIn, IsLogIn, IsValueIn, IsResultIn, IsCommitIn, IsOutcomeIn, AreOutcomesIn, IsRowIn, AreHeldIn, IsShowable}

-- ---- names

found_word : {X : Type 0} (name : X → List ℕ) (test : X → Bool) (xs : List X) → AllByRecursion (λ x. IsWord (name x)) xs → IsSome (find test xs) → IsWord (text_or [] (option_map name (find test xs)))
found_word name test [] h s = absurd cc
found_word {X = X} name test (x ∷ xs) h s = go (found_word name test xs h.1) (test x) s where
  go : (IsSome (find test xs) → IsWord (text_or [] (option_map name (find test xs)))) → (t : Bool) → IsSome (cond t (Some x) (find test xs)) → IsWord (text_or [] (option_map name (cond t (Some x) (find test xs))))
  go ih true s = h.0
  go ih false s = ih s

node_word : (r : Resolved) (n : ℕ) → HasWords r → IsNode r n → IsWord (node_text r n)
node_word r n h s = found_word (λ x. x.name.text) (λ x. has_number n x.node) r.nodes h.nodes s

at_word : {X : Type 0} (name : X → List ℕ) (xs : List X) (n : ℕ) → AllByRecursion (λ x. IsWord (name x)) xs → n < length xs → IsWord (text_or [] (option_map name (slice_get xs n)))
at_word name [] n h lt = absurd (omega arith)
at_word name (x ∷ xs) zero h lt = h.0
at_word name (x ∷ xs) (suc n) h lt = at_word name xs n h.1 (omega arith)

class_word : (r : Resolved) (n : ℕ) → HasWords r → IsClass r n → IsWord (class_text r n)
class_word r n h lt = at_word (λ c. c.name.text) r.classes n h.classes lt

root_name : {X : Type 0} (name : X → List ℕ) (test : X → Bool) (oid : Oid) (xs : List X) → AllByRecursion (λ x. IsWord (name x) × (name x ≢ codes "null")) xs → IsOid oid
    → IsShownName (name_or oid (option_map name (find test xs))) × IsShownValue (v.Object (name_or oid (option_map name (find test xs))))
root_name name test oid [] h o = (o, o)
root_name {X = X} name test oid (x ∷ xs) h o = go (root_name name test oid xs h.1 o) (test x) where
  go : IsShownName (name_or oid (option_map name (find test xs))) × IsShownValue (v.Object (name_or oid (option_map name (find test xs)))) → (t : Bool)
      → IsShownName (name_or oid (option_map name (cond t (Some x) (find test xs)))) × IsShownValue (v.Object (name_or oid (option_map name (cond t (Some x) (find test xs)))))
  go ih true = (h.0.0, h.0)
  go ih false = ih

name_fits : (r : Resolved) (oid : Oid) → HasWords r → IsOid oid → IsShownName (name_of r oid) × IsShownValue (v.Object (name_of r oid))
name_fits r oid h o = root_name (λ x. x.name.text) (λ x. is_same x.oid oid) oid r.roots h.roots o

value_fits : (r : Resolved) (x : Value) → HasWords r → IsValueIn x → IsShownValue (value_of r x)
value_fits r (Int n) h f = f
value_fits r Null h f = tt
value_fits r (Ref oid) h f = (name_fits r oid h f).1

values_fit : (r : Resolved) (xs : List Value) → HasWords r → AllByRecursion IsValueIn xs → AllByRecursion IsShownValue (map (value_of r) xs)
values_fit r [] h f = tt
values_fit r (x ∷ xs) h f = (value_fits r x h f.0, values_fit r xs h f.1)

not_null : codes "none" ≢ codes "null"
not_null e = absurd (let differs : ◌≡◌ {A = Bool} false true = ap (λ (x : List ℕ). bytes_eq x (codes "null")) e in cc)

result_fits : (r : Resolved) (x : Option Value) → HasWords r → IsResultIn x → IsShownValue (result_of r x)
result_fits r None h f = (refl, not_null)
result_fits r (Some x) h f = value_fits r x h f

-- ---- events

inner_fits : (r : Resolved) (x : Inner) (bytes : List ℕ) → HasWords r → IsInnerIn r x → AreBytes bytes → IsShownInner (inner_of r x bytes)
inner_fits r (ni.Begin n) bytes h f b = node_word r n h f
inner_fits r (ni.Resume n) bytes h f b = node_word r n h f
inner_fits r (ni.Deliver a c) bytes h f b = (node_word r a h f.0, node_word r c h f.1, b)
inner_fits r (ni.Idle n s) bytes h f b = (node_word r n h f.0, node_word r s h f.1)
inner_fits r (ni.Recover n) bytes h f b = node_word r n h f

event_fits : (r : Resolved) (x : Event) (target : ℕ) (bytes : List ℕ) → HasWords r → IsEventIn r x target → AreBytes bytes → IsShownEvent (event_of r x target bytes)
event_fits r (ne.Begin n) target bytes h f b = inner_fits r (ni.Begin n) bytes h f b
event_fits r (ne.Resume n) target bytes h f b = inner_fits r (ni.Resume n) bytes h f b
event_fits r (ne.Deliver a c) target bytes h f b = inner_fits r (ni.Deliver a c) bytes h f b
event_fits r (ne.Idle n s) target bytes h f b = inner_fits r (ni.Idle n s) bytes h f b
event_fits r (ne.Recover n) target bytes h f b = inner_fits r (ni.Recover n) bytes h f b
event_fits r (ne.Post x) target bytes h f b = (node_word r x h f.0, node_word r target h f.1, b)
event_fits r (ne.Crash n) target bytes h f b = node_word r n h f
event_fits r (ne.CrashIn keep x) target bytes h f b = (f.0, inner_fits r x bytes h f.1 b)

-- lines in two parts
both_fit : (a b : List Line) → AllByRecursion IsLine a → AllByRecursion IsLine b → AllByRecursion IsLine (a ++ b)
both_fit [] b ha hb = hb
both_fit (x ∷ a) b ha hb = (ha.0, both_fit a b ha.1 hb)

events_fit : (r : Resolved) (before log : List Logged) (n : ℕ) → HasWords r → IsLogIn r before log → AllByRecursion IsLine (numbered_events n (events_of r before log))
events_fit r before [] n h f = tt
events_fit r before (x ∷ log) n h f =
    (event_fits r x.event (target_behind r before x.event) x.bytes h f.0.0 f.0.1, events_fit r (before ++ x ∷ []) log (suc n) h f.1)

commits_fit : (r : Resolved) (cs : List Commit) (n : ℕ) → HasWords r → AllByRecursion (IsCommitIn r) cs → AllByRecursion IsLine (numbered_commits n (map (commit_of r) cs))
commits_fit r [] n h f = tt
commits_fit r (c ∷ cs) n h f = (record { worker = node_word r c.worker h f.0.0; request = f.0.1.0; attempt = f.0.1.1 }, commits_fit r cs (suc n) h f.1)

-- ---- outcomes

ending_fits : (r : Resolved) (x : ReqOutcome) → HasWords r → IsOutcomeIn r x → IsShownEnding (ending_of r x)
ending_fits r (no.Committed t value) h f = (f.0, result_fits r value h f.1)
ending_fits r no.Failed h f = tt
ending_fits r no.Conflict h f = tt
ending_fits r (no.Silent n) h f = node_word r n h f
ending_fits r (no.Denied n denial) h f = node_word r n h f
ending_fits r (no.Stopped limit) h f = tt
ending_fits r no.NodeDown h f = tt
ending_fits r no.Unfinished h f = tt

outcomes_fit : (r : Resolved) (n k : ℕ) (xs : List ReqOutcome) → HasWords r → k + length xs < 2 ^ 32 → AllByRecursion (λ x. IsNode r n × IsOutcomeIn r x) xs → AllByRecursion IsLine (map l.Outcome (outcomes_of r n k xs))
outcomes_fit r n k [] h lt f = tt
outcomes_fit r n k (x ∷ xs) h lt f =
    (record { worker = node_word r n h f.0.0; request = (omega arith, omega arith); ending = ending_fits r x h f.0.1 }, outcomes_fit r n (suc k) xs h (omega arith) f.1)

mapped_fit : {A : Type 0} (f : A → Line) (a b : List A) → AllByRecursion IsLine (map f a) → AllByRecursion IsLine (map f b) → AllByRecursion IsLine (map f (a ++ b))
mapped_fit f [] b ha hb = hb
mapped_fit f (x ∷ a) b ha hb = (ha.0, mapped_fit f a b ha.1 hb)

all_outcomes_fit : (r : Resolved) (n : ℕ) (xs : List (List ReqOutcome)) → HasWords r → AreOutcomesIn r n xs → AllByRecursion IsLine (map l.Outcome (all_outcomes r n xs))
all_outcomes_fit r n [] h f = tt
all_outcomes_fit r n (xs ∷ more) h f =
    mapped_fit l.Outcome (outcomes_of r n 0 xs) (all_outcomes r (suc n) more) (outcomes_fit r n 0 xs h (omega (arith, f.0.0)) f.0.1) (all_outcomes_fit r (suc n) more h f.1)

-- ---- objects

objects_fit : (r : Resolved) (s : ℕ) (rows : List (Oid × ℕ × Object)) → HasWords r → AllByRecursion (IsRowIn r s) rows → AllByRecursion IsLine (map l.Object (map (object_of r s) rows))
objects_fit r s [] h f = tt
objects_fit r s (row ∷ rows) h f =
    let x = f.0 in (
      record {
        store = node_word r s h x.store;
        name = (name_fits r row.0 h x.name).0;
        class = class_word r row.0.class h x.class;
        version = x.version;
        fields = values_fit r row.2.fields h x.fields;
      },
      objects_fit r s rows h f.1,
    )

all_objects_fit : (r : Resolved) (s : ℕ) (held : List (List (Oid × ℕ × Object))) → HasWords r → AreHeldIn r s held → AllByRecursion IsLine (map l.Object (all_objects r s held))
all_objects_fit r s [] h f = tt
all_objects_fit r s (rows ∷ more) h f =
    mapped_fit l.Object (map (object_of r s) rows) (all_objects r (suc s) more) (objects_fit r s rows h f.0) (all_objects_fit r (suc s) more h f.1)

-- ---- the whole

pub each_fits : (r : Resolved) (log : List Logged) (held : List (List (Oid × ℕ × Object))) (outcomes : List (List ReqOutcome))
    → IsShowable r log held outcomes → AllByRecursion IsLine (lines_of_report r log held outcomes)
each_fits r log held outcomes f =
    let w = f.words in
    let es = numbered_events 0 (events_of r [] log) in
    let cs = numbered_commits 0 (map (commit_of r) (commits_in log)) in
    let os = map l.Outcome (all_outcomes r 0 outcomes) in
    let hs = map l.Object (all_objects r 0 held) in
    let last : List Line = l.End (length (events_of r [] log)) ∷ [] in (
      tt,
      both_fit es (cs ++ (os ++ (hs ++ last))) (events_fit r [] log 0 w f.events_are_in)
          (both_fit cs (os ++ (hs ++ last)) (commits_fit r (commits_in log) 0 w f.commits_are_in)
          (both_fit os (hs ++ last) (all_outcomes_fit r 0 outcomes w f.outcomes_are_in)
          (both_fit hs last (all_objects_fit r 0 held w f.held_are_in) (tt, tt)))),
    )
