-- What is printed of a run is the report of the lines that it shows.
use Rattle.std.proofs.Common.{◌≡◌, ℕ, suc, Option, Some, None, List, [], ◌∷◌, ◌++◌, map, length, refl, sym, ap, ◌∙◌, append_assoc, length-append, codes, arith}
use Rattle.std.proofs.lemmas.List.{append-nil}
use Rattle.std.specs.Prelude.{option_map, find}
use Rattle.std.specs.List.{flat_map, AllByRecursion}
use Rattle.std.specs.Fmt.{decimal}
use Rattle.fab_base.specs.declared.object.Oid.{Oid}
use Rattle.fab_base.specs.declared.object.Object.{Object}
use Rattle.fab_base.specs.declared.object.Value.{Value}
use Rattle.fab_base.specs.declared.object.Value.TheVariants.{Int, Null, Ref}
use Rattle.fab_base.specs.FieldSpelling.{oid_bytes}
use Rattle.fab_base.specs.FlatMap.{is_same}
use Rattle.fab_tree.specs.declared.resolved.Resolved.{Resolved}
use Rattle.fab_language.specs.Words.{line, spaced, hex, node_text, class_text, name_text, value_text, result_text, text_or}
use Rattle.fab_net.specs.declared.event.Event.{Event}
use Rattle.fab_net.specs.declared.event.Event.TheVariants as ne
use Rattle.fab_net.specs.declared.event.Inner.{Inner}
use Rattle.fab_net.specs.declared.event.Inner.TheVariants as ni
use Rattle.fab_net.specs.declared.note.Commit.{Commit}
use Rattle.fab_net.specs.declared.note.Logged.{Logged}
use Rattle.fab_net.specs.declared.outcome.ReqOutcome.{ReqOutcome}
use Rattle.fab_net.specs.declared.outcome.ReqOutcome.TheVariants as no
use Rattle.fab_trace.specs.Report.{inner_words, event_words, target_behind, events_text, commits_in, commits_text, outcome_words, outcomes_text, held_line, held_text, report}
use Rattle.fab_trace.specs.Report as printed
use Rattle.fab_reports.specs.declared.line.Line.{Line}
use Rattle.fab_reports.specs.declared.line.Line.TheVariants as l
use Rattle.fab_reports.specs.Lines.{shown_name, shown_value, shown_inner, shown_event, shown_ending, spelled_line, IsLine}
use Rattle.fab_reports.specs.Reports.{numbered_events, numbered_commits, IsReport}
use Rattle.fab_reports.specs.Printed.{inner_of, event_of, events_of, name_or, name_of, value_of, result_of, commit_of, ending_of, outcomes_of, all_outcomes, object_of, all_objects, lines_of_report}

-- ---- lists of lines

abbrev text : List Line → List ℕ
text lines = flat_map spelled_line lines

in_two : (a b : List Line) → text (a ++ b) ≡ text a ++ text b
in_two [] b = refl
in_two (x ∷ a) b = ap (λ (y : List ℕ). spelled_line x ++ y) (in_two a b) ∙ sym (append_assoc (spelled_line x) (text a) (text b))

map_two : {A : Type 0} (f : A → Line) (a b : List A) → map f (a ++ b) ≡ map f a ++ map f b
map_two f [] b = refl
map_two f (x ∷ a) b = ap (λ (ys : List Line). f x ∷ ys) (map_two f a b)

text_two : {A : Type 0} (f : A → Line) (a b : List A) → text (map f (a ++ b)) ≡ text (map f a) ++ text (map f b)
text_two f a b = ap text (map_two f a b) ∙ in_two (map f a) (map f b)

-- ---- events

inner_shown : (r : Resolved) (x : Inner) (bytes : List ℕ) → inner_words r x bytes ≡ shown_inner (inner_of r x bytes)
inner_shown r (ni.Begin n) bytes = refl
inner_shown r (ni.Resume n) bytes = refl
inner_shown r (ni.Deliver a b) bytes = refl
inner_shown r (ni.Idle n s) bytes = refl
inner_shown r (ni.Recover n) bytes = refl

event_shown : (r : Resolved) (x : Event) (target : ℕ) (bytes : List ℕ) → event_words r x target bytes ≡ shown_event (event_of r x target bytes)
event_shown r (ne.Begin n) target bytes = refl
event_shown r (ne.Resume n) target bytes = refl
event_shown r (ne.Deliver a b) target bytes = refl
event_shown r (ne.Idle n s) target bytes = refl
event_shown r (ne.Recover n) target bytes = refl
event_shown r (ne.Post h) target bytes = refl
event_shown r (ne.Crash n) target bytes = refl
event_shown r (ne.CrashIn keep x) target bytes = ap (λ (ws : List (List ℕ)). codes "crashin" ∷ decimal keep ∷ ws) (inner_shown r x bytes)

events_shown : (r : Resolved) (before log : List Logged) → events_text r before log ≡ text (numbered_events (length before) (events_of r before log))
events_shown r before [] = refl
events_shown r before (x ∷ log) =
    let target = target_behind r before x.event in
    let count : length (before ++ x ∷ []) ≡ suc (length before) = omega (arith, length-append before (x ∷ [])) in
    ap (λ (ws : List (List ℕ)). line (codes "event" ++ spaced (decimal (suc (length before)) ∷ ws)) ++ events_text r (before ++ x ∷ []) log) (event_shown r x.event target x.bytes)
    ∙ ap (λ (y : List ℕ). line (codes "event" ++ spaced (decimal (suc (length before)) ∷ shown_event (event_of r x.event target x.bytes))) ++ y)
    (events_shown r (before ++ x ∷ []) log ∙ ap (λ (n : ℕ). text (numbered_events n (events_of r (before ++ x ∷ []) log))) count)

-- ---- commits

commits_shown : (r : Resolved) (k : ℕ) (cs : List Commit) → commits_text r k cs ≡ text (numbered_commits k (map (commit_of r) cs))
commits_shown r k [] = refl
commits_shown r k (c ∷ cs) =
    ap (λ (y : List ℕ). spelled_line (l.Commit (suc k) (commit_of r c)) ++ y) (commits_shown r (suc k) cs)

-- ---- names and values

name_shown : (r : Resolved) (oid : Oid) → name_text r oid ≡ shown_name (name_of r oid)
name_shown r oid = by_root (option_map (λ x. x.name.text) (find (λ x. is_same x.oid oid) r.roots)) where
  by_root : (o : Option (List ℕ)) → text_or (35 ∷ hex (oid_bytes oid)) o ≡ shown_name (name_or oid o)
  by_root None = refl
  by_root (Some t) = refl

value_shown : (r : Resolved) (x : Value) → value_text r x ≡ shown_value (value_of r x)
value_shown r (Int n) = refl
value_shown r Null = refl
value_shown r (Ref oid) = name_shown r oid

result_shown : (r : Resolved) (x : Option Value) → result_text r x ≡ shown_value (result_of r x)
result_shown r None = refl
result_shown r (Some x) = value_shown r x

values_shown : (r : Resolved) (xs : List Value) → map (value_text r) xs ≡ map shown_value (map (value_of r) xs)
values_shown r [] = refl
values_shown r (x ∷ xs) =
    ap (λ (y : List ℕ). y ∷ map (value_text r) xs) (value_shown r x) ∙ ap (λ (ys : List (List ℕ)). shown_value (value_of r x) ∷ ys) (values_shown r xs)

-- ---- outcomes

ending_shown : (r : Resolved) (x : ReqOutcome) → outcome_words r x ≡ shown_ending (ending_of r x)
ending_shown r (no.Committed t value) = ap (λ (y : List ℕ). codes "committed" ∷ printed.tid_text t ∷ y ∷ []) (result_shown r value)
ending_shown r no.Failed = refl
ending_shown r no.Conflict = refl
ending_shown r (no.Silent n) = refl
ending_shown r (no.Denied n denial) = refl
ending_shown r (no.Stopped limit) = refl
ending_shown r no.NodeDown = refl
ending_shown r no.Unfinished = refl

outcomes_shown : (r : Resolved) (n k : ℕ) (xs : List ReqOutcome) → printed.outcomes_of r n k xs ≡ text (map l.Outcome (outcomes_of r n k xs))
outcomes_shown r n k [] = refl
outcomes_shown r n k (x ∷ xs) =
    ap (λ (ws : List (List ℕ)). line (codes "outcome" ++ spaced (node_text r n ∷ decimal (suc k) ∷ ws)) ++ printed.outcomes_of r n (suc k) xs) (ending_shown r x)
    ∙ ap (λ (y : List ℕ). line (codes "outcome" ++ spaced (node_text r n ∷ decimal (suc k) ∷ shown_ending (ending_of r x))) ++ y) (outcomes_shown r n (suc k) xs)

all_outcomes_shown : (r : Resolved) (n : ℕ) (xs : List (List ReqOutcome)) → outcomes_text r n xs ≡ text (map l.Outcome (all_outcomes r n xs))
all_outcomes_shown r n [] = refl
all_outcomes_shown r n (xs ∷ more) =
    ap (λ (y : List ℕ). y ++ outcomes_text r (suc n) more) (outcomes_shown r n 0 xs)
    ∙ ap (λ (y : List ℕ). text (map l.Outcome (outcomes_of r n 0 xs)) ++ y) (all_outcomes_shown r (suc n) more)
    ∙ sym (text_two l.Outcome (outcomes_of r n 0 xs) (all_outcomes r (suc n) more))

-- ---- objects

object_shown : (r : Resolved) (s : ℕ) (row : Oid × ℕ × Object) → held_line r s row ≡ spelled_line (l.Object (object_of r s row))
object_shown r s row =
    ap (λ (y : List ℕ). line (codes "object" ++ spaced (node_text r s ∷ y ∷ class_text r row.0.class ∷ decimal row.1 ∷ map (value_text r) row.2.fields))) (name_shown r row.0)
    ∙ ap (λ (ys : List (List ℕ)). line (codes "object" ++ spaced (node_text r s ∷ shown_name (name_of r row.0) ∷ class_text r row.0.class ∷ decimal row.1 ∷ ys))) (values_shown r row.2.fields)

objects_shown : (r : Resolved) (s : ℕ) (rows : List (Oid × ℕ × Object)) → flat_map (held_line r s) rows ≡ text (map l.Object (map (object_of r s) rows))
objects_shown r s [] = refl
objects_shown r s (row ∷ rows) =
    ap (λ (y : List ℕ). y ++ flat_map (held_line r s) rows) (object_shown r s row)
    ∙ ap (λ (y : List ℕ). spelled_line (l.Object (object_of r s row)) ++ y) (objects_shown r s rows)

all_objects_shown : (r : Resolved) (s : ℕ) (held : List (List (Oid × ℕ × Object))) → held_text r s held ≡ text (map l.Object (all_objects r s held))
all_objects_shown r s [] = refl
all_objects_shown r s (rows ∷ more) =
    ap (λ (y : List ℕ). y ++ held_text r (suc s) more) (objects_shown r s rows)
    ∙ ap (λ (y : List ℕ). text (map l.Object (map (object_of r s) rows)) ++ y) (all_objects_shown r (suc s) more)
    ∙ sym (text_two l.Object (map (object_of r s) rows) (all_objects r (suc s) more))

-- ---- the whole

six_parts : (h e c o b n : List ℕ) → ((((h ++ e) ++ c) ++ o) ++ b) ++ n ≡ h ++ (e ++ (c ++ (o ++ (b ++ n))))
six_parts h e c o b n = simp append_assoc

as_many : (r : Resolved) (before log : List Logged) → length (events_of r before log) ≡ length log
as_many r before [] = refl
as_many r before (x ∷ log) = ap suc (as_many r (before ++ x ∷ []) log)

pub report_shown : (r : Resolved) (log : List Logged) (held : List (List (Oid × ℕ × Object))) (outcomes : List (List ReqOutcome))
    → report r log held outcomes ≡ text (lines_of_report r log held outcomes)
report_shown r log held outcomes =
    let es = numbered_events 0 (events_of r [] log) in
    let cs = numbered_commits 0 (map (commit_of r) (commits_in log)) in
    let os = map l.Outcome (all_outcomes r 0 outcomes) in
    let hs = map l.Object (all_objects r 0 held) in
    let last : List Line = l.End (length (events_of r [] log)) ∷ [] in
    let head = line (codes "fab report 1") in
    let end : line (codes "end" ++ spaced (decimal (length log) ∷ [])) ≡ text last =
    ap (λ (n : ℕ). line (codes "end" ++ spaced (decimal n ∷ []))) (sym (as_many r [] log)) ∙ sym (append-nil _) in
    six_parts head (events_text r [] log) (commits_text r 0 (commits_in log)) (outcomes_text r 0 outcomes) (held_text r 0 held) (line (codes "end" ++ spaced (decimal (length log) ∷ [])))
    ∙ ap (λ (y : List ℕ). head ++ (y ++ (commits_text r 0 (commits_in log) ++ (outcomes_text r 0 outcomes ++ (held_text r 0 held ++ line (codes "end" ++ spaced (decimal (length log) ∷ []))))))) (events_shown r [] log)
    ∙ ap (λ (y : List ℕ). head ++ (text es ++ (y ++ (outcomes_text r 0 outcomes ++ (held_text r 0 held ++ line (codes "end" ++ spaced (decimal (length log) ∷ []))))))) (commits_shown r 0 (commits_in log))
    ∙ ap (λ (y : List ℕ). head ++ (text es ++ (text cs ++ (y ++ (held_text r 0 held ++ line (codes "end" ++ spaced (decimal (length log) ∷ []))))))) (all_outcomes_shown r 0 outcomes)
    ∙ ap (λ (y : List ℕ). head ++ (text es ++ (text cs ++ (text os ++ (y ++ line (codes "end" ++ spaced (decimal (length log) ∷ []))))))) (all_objects_shown r 0 held)
    ∙ ap (λ (y : List ℕ). head ++ (text es ++ (text cs ++ (text os ++ (text hs ++ y))))) end
    ∙ ap (λ (y : List ℕ). head ++ (text es ++ (text cs ++ (text os ++ y)))) (sym (in_two hs last))
    ∙ ap (λ (y : List ℕ). head ++ (text es ++ (text cs ++ y))) (sym (in_two os (hs ++ last)))
    ∙ ap (λ (y : List ℕ). head ++ (text es ++ y)) (sym (in_two cs (os ++ (hs ++ last))))
    ∙ ap (λ (y : List ℕ). head ++ y) (sym (in_two es (cs ++ (os ++ (hs ++ last)))))

pub is_its_report : (r : Resolved) (log : List Logged) (held : List (List (Oid × ℕ × Object))) (outcomes : List (List ReqOutcome))
    → AllByRecursion IsLine (lines_of_report r log held outcomes) → IsReport (report r log held outcomes) (lines_of_report r log held outcomes)
is_its_report r log held outcomes fits = record {
  events = events_of r [] log;
  commits = map (commit_of r) (commits_in log);
  outcomes = all_outcomes r 0 outcomes;
  objects = all_objects r 0 held;
  order = refl;
  fits = fits;
  spelled = report_shown r log held outcomes;
}
