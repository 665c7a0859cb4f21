-- Lines where they stand, and reports, keep to what readers keep to.
use Rattle.std.proofs.Common.{◌≡◌, ℕ, suc, ◌<◌, ◌≤◌, Bool, true, false, List, [], ◌∷◌, ◌++◌, map, length, refl, sym, ap, subst, ◌∙◌, append_assoc, length-append, codes, arith, inl, inr}
use Rattle.std.proofs.lemmas.List.{append-nil}
use Rattle.std.specs.List.{flat_map}
use Rattle.std.specs.Fmt.{decimal}
use Rattle.fab_language.specs.Words.{hex, line, spaced, stop_text}
use Rattle.fab_trace.specs.Report.{denial_text}
use Rattle.fab_wire.proofs.ReaderLaws.{IsBytes, Reads, both_reads}
use Rattle.fab_reports.specs.declared.line.Attempt.{Attempt}
use Rattle.fab_reports.specs.declared.line.ShownInner.{ShownInner}
use Rattle.fab_reports.specs.declared.line.ShownInner.TheVariants as i
use Rattle.fab_reports.specs.declared.line.ShownEvent.{ShownEvent}
use Rattle.fab_reports.specs.declared.line.ShownEvent.TheVariants as e
use Rattle.fab_reports.specs.declared.line.ShownValue.{ShownValue}
use Rattle.fab_reports.specs.declared.line.ShownEnding.{ShownEnding}
use Rattle.fab_reports.specs.declared.line.ShownEnding.TheVariants as o
use Rattle.fab_reports.specs.declared.line.ShownCommit.{ShownCommit}
use Rattle.fab_reports.specs.declared.line.ShownOutcome.{ShownOutcome}
use Rattle.fab_reports.specs.declared.line.ShownObject.{ShownObject}
use Rattle.fab_reports.specs.declared.line.Line.{Line}
use Rattle.fab_reports.specs.declared.line.Line.TheVariants as l
use Rattle.fab_reports.specs.declared.kinds.LineKind.{LineKind}
use Rattle.fab_reports.specs.declared.kinds.LineKind.TheVariants as lk
use Rattle.fab_reports.specs.declared.place.Place.{Place}
use Rattle.fab_reports.specs.Kinds.{line_kind_text, kinds_from}
use Rattle.fab_reports.specs.Lines.{shown_name, shown_attempt, shown_value, shown_inner, shown_event, shown_ending, spelled_line, IsShownEvent, IsShownCommit, IsShownOutcome, IsShownObject}
use Rattle.fab_reports.specs.Reading.{kind_at, line_by, line_at, is_last, is_over, place_behind, first_place, lines_at, report_at}
use Rattle.fab_reports.proofs.Combining.{Image, image_reads, picked_reads}
use Rattle.fab_reports.proofs.Given.{IsIn, kind_reads, exact_reads, small_bytes}
use Rattle.fab_reports.proofs.FieldLaws.{attempt_text, IsCounted, counted_reads, end_before, values_text}
use Rattle.fab_reports.proofs.LineLaws.{inner_text, event_text, event_reads, commit_text, commit_reads, ending_text, outcome_text, outcome_reads, object_text, object_reads}
use Rattle.fab_reports.proofs.Repeating.{IsRest, Items, items_reads}

-- ---- how lines are spelled, word by word

-- a word and what stands behind it, up to the line feed
word_tail : (w more behind : List ℕ) → more ++ 10 ∷ [] ≡ 32 ∷ behind → (w ++ more) ++ 10 ∷ [] ≡ (w ++ 32 ∷ []) ++ behind
word_tail w more behind h = append_assoc w more (10 ∷ []) ∙ ap (λ (x : List ℕ). w ++ x) h ∙ sym (append_assoc w (32 ∷ []) behind)

last_word : (w : List ℕ) → spaced (w ∷ []) ++ 10 ∷ [] ≡ 32 ∷ (w ++ 10 ∷ [])
last_word w = ap (λ (x : List ℕ). 32 ∷ (x ++ 10 ∷ [])) (append-nil w)

next_word : (w : List ℕ) (ws : List (List ℕ)) (behind : List ℕ) → spaced ws ++ 10 ∷ [] ≡ 32 ∷ behind → spaced (w ∷ ws) ++ 10 ∷ [] ≡ 32 ∷ ((w ++ 32 ∷ []) ++ behind)
next_word w ws behind h = ap (λ (x : List ℕ). 32 ∷ x) (word_tail w (spaced ws) behind h)

-- a word that is given
given_word : (w : List ℕ) (ws : List (List ℕ)) (behind : List ℕ) → spaced ws ++ 10 ∷ [] ≡ 32 ∷ behind → spaced (w ∷ ws) ++ 10 ∷ [] ≡ 32 ∷ (w ++ (32 ∷ behind))
given_word w ws behind h = ap (λ (x : List ℕ). 32 ∷ x) (append_assoc w (spaced ws) (10 ∷ []) ∙ ap (λ (x : List ℕ). w ++ x) h)

inner_spelled : (x : ShownInner) → spaced (shown_inner x) ++ 10 ∷ [] ≡ 32 ∷ inner_text x
inner_spelled (i.Begin worker) = given_word (codes "begin") (worker ∷ []) (worker ++ 10 ∷ []) (last_word worker)
inner_spelled (i.Resume worker) = given_word (codes "resume") (worker ∷ []) (worker ++ 10 ∷ []) (last_word worker)
inner_spelled (i.Deliver sender receiver bytes) =
    given_word (codes "deliver") (sender ∷ receiver ∷ hex bytes ∷ []) _ (next_word sender (receiver ∷ hex bytes ∷ []) _ (next_word receiver (hex bytes ∷ []) _ (last_word (hex bytes))))
inner_spelled (i.Idle worker node) = given_word (codes "idle") (worker ∷ node ∷ []) _ (next_word worker (node ∷ []) _ (last_word node))
inner_spelled (i.Recover node) = given_word (codes "recover") (node ∷ []) (node ++ 10 ∷ []) (last_word node)

event_spelled : (x : ShownEvent) → spaced (shown_event x) ++ 10 ∷ [] ≡ 32 ∷ event_text x
event_spelled (e.Inner x) = inner_spelled x
event_spelled (e.Post sender receiver bytes) =
    given_word (codes "post") (sender ∷ receiver ∷ hex bytes ∷ []) _ (next_word sender (receiver ∷ hex bytes ∷ []) _ (next_word receiver (hex bytes ∷ []) _ (last_word (hex bytes))))
event_spelled (e.Crash node) = given_word (codes "crash") (node ∷ []) (node ++ 10 ∷ []) (last_word node)
event_spelled (e.CrashIn keep x) = given_word (codes "crashin") (decimal keep ∷ shown_inner x) _ (next_word (decimal keep) (shown_inner x) _ (inner_spelled x))

attempt_word : (end : ℕ) (a : Attempt) → shown_attempt a ++ end ∷ [] ≡ attempt_text end a
attempt_word end a = append_assoc (decimal a.boot) (46 ∷ decimal a.number) (end ∷ []) ∙ sym (append_assoc (decimal a.boot) (46 ∷ []) (decimal a.number ++ end ∷ []))

last_attempt : (a : Attempt) → spaced (shown_attempt a ∷ []) ++ 10 ∷ [] ≡ 32 ∷ attempt_text 10 a
last_attempt a = last_word (shown_attempt a) ∙ ap (λ (x : List ℕ). 32 ∷ x) (attempt_word 10 a)

commit_spelled : (c : ShownCommit) → spaced (c.worker ∷ decimal c.request ∷ shown_attempt c.attempt ∷ []) ++ 10 ∷ [] ≡ 32 ∷ commit_text c
commit_spelled c =
    next_word c.worker (decimal c.request ∷ shown_attempt c.attempt ∷ []) _ (next_word (decimal c.request) (shown_attempt c.attempt ∷ []) _ (last_attempt c.attempt))

ending_spelled : (x : ShownEnding) → spaced (shown_ending x) ++ 10 ∷ [] ≡ 32 ∷ ending_text x
ending_spelled (o.Committed attempt result) =
    given_word (codes "committed") (shown_attempt attempt ∷ shown_value result ∷ []) _
    (next_word (shown_attempt attempt) (shown_value result ∷ []) _ (last_word (shown_value result))
    ∙ ap (λ (x : List ℕ). 32 ∷ (x ++ (shown_value result ++ 10 ∷ []))) (attempt_word 32 attempt))
ending_spelled o.Failed = refl
ending_spelled o.Conflict = refl
ending_spelled (o.Silent node) = given_word (codes "silent") (node ∷ []) (node ++ 10 ∷ []) (last_word node)
ending_spelled (o.Denied node denial) = given_word (codes "denied") (node ∷ denial_text denial ∷ []) _ (next_word node (denial_text denial ∷ []) _ (last_word (denial_text denial)))
ending_spelled (o.Stopped stop) = given_word (codes "stopped") (stop_text stop ∷ []) _ (last_word (stop_text stop))
ending_spelled o.NodeDown = refl
ending_spelled o.Unfinished = refl

values_spelled : (xs : List ShownValue) → spaced (map shown_value xs) ++ 10 ∷ [] ≡ end_before xs ∷ values_text xs
values_spelled [] = refl
values_spelled (x ∷ xs) = ap (λ (y : List ℕ). 32 ∷ y) (append_assoc (shown_value x) (spaced (map shown_value xs)) (10 ∷ []) ∙ ap (λ (y : List ℕ). shown_value x ++ y) (values_spelled xs))

-- ---- lines

abbrev line_body : Line → List ℕ
line_body l.Head = []
line_body (l.Event number event) = (decimal number ++ 32 ∷ []) ++ event_text event
line_body (l.Commit number c) = (decimal number ++ 32 ∷ []) ++ commit_text c
line_body (l.Outcome x) = outcome_text x
line_body (l.Object x) = object_text x
line_body (l.End events) = decimal events ++ 10 ∷ []

abbrev pub IsLineOf : Place → LineKind → Line → Type 0
IsLineOf p lk.Event = Image (λ (q : (List ℕ × ℕ) × ShownEvent). l.Event (suc p.events) q.1) (λ q. IsCounted (suc p.events) 32 q.0 × IsShownEvent q.1)
IsLineOf p lk.Commit = Image (λ (q : (List ℕ × ℕ) × ShownCommit). l.Commit (suc p.commits) q.1) (λ q. IsCounted (suc p.commits) 32 q.0 × IsShownCommit q.1)
IsLineOf p lk.Outcome = Image (λ x. l.Outcome x) IsShownOutcome
IsLineOf p lk.Object = Image (λ x. l.Object x) IsShownObject
IsLineOf p lk.End = Image (λ (q : List ℕ × ℕ). l.End p.events) (IsCounted p.events 10)

counted_text : (n end : ℕ) (q : List ℕ × ℕ) → IsCounted n end q → decimal n ++ end ∷ [] ≡ q.0 ++ q.1 ∷ []
counted_text n end q h =
    let same : end ≡ q.1 = omega (arith, h.1.0, h.1.1) in
    ap (λ (x : List ℕ). x ++ end ∷ []) (sym h.0) ∙ ap (λ (b : ℕ). q.0 ++ b ∷ []) same

line_by_reads : (p : Place) (kind : LineKind) → Reads (line_by p kind) line_body (IsLineOf p kind)
line_by_reads p lk.Event =
    image_reads (λ q. l.Event (suc p.events) q.1) line_body (both_reads (counted_reads (suc p.events) 32 (omega arith)) event_reads)
    (λ q fq. ap (λ (x : List ℕ). x ++ event_text q.1) (counted_text (suc p.events) 32 q.0 fq.0))
line_by_reads p lk.Commit =
    image_reads (λ q. l.Commit (suc p.commits) q.1) line_body (both_reads (counted_reads (suc p.commits) 32 (omega arith)) commit_reads)
    (λ q fq. ap (λ (x : List ℕ). x ++ commit_text q.1) (counted_text (suc p.commits) 32 q.0 fq.0))
line_by_reads p lk.Outcome = image_reads (λ x. l.Outcome x) line_body outcome_reads (λ x fx. refl)
line_by_reads p lk.Object = image_reads (λ x. l.Object x) line_body object_reads (λ x fx. refl)
line_by_reads p lk.End = image_reads (λ q. l.End p.events) line_body (counted_reads p.events 10 (omega arith)) (λ q fq. counted_text p.events 10 q fq)

outcome_spelled : (x : ShownOutcome) → spelled_line (l.Outcome x) ≡ codes "outcome " ++ outcome_text x
outcome_spelled x =
    ap (λ (y : List ℕ). codes "outcome" ++ y)
    (next_word x.worker (decimal x.request ∷ shown_ending x.ending) ((decimal x.request ++ 32 ∷ []) ++ ending_text x.ending)
    (next_word (decimal x.request) (shown_ending x.ending) (ending_text x.ending) (ending_spelled x.ending)))

version_spelled : (n : ℕ) (xs : List ShownValue) → spaced (decimal n ∷ map shown_value xs) ++ 10 ∷ [] ≡ 32 ∷ (decimal n ++ (end_before xs ∷ values_text xs))
version_spelled n xs = ap (λ (y : List ℕ). 32 ∷ y) (append_assoc (decimal n) (spaced (map shown_value xs)) (10 ∷ []) ∙ ap (λ (y : List ℕ). decimal n ++ y) (values_spelled xs))

object_spelled : (x : ShownObject) → spelled_line (l.Object x) ≡ codes "object " ++ object_text x
object_spelled x =
    let ws = map shown_value x.fields in
    let version : List ℕ = decimal x.version ++ (end_before x.fields ∷ values_text x.fields) in
    ap (λ (y : List ℕ). codes "object" ++ y)
    (next_word x.store (shown_name x.name ∷ x.class ∷ decimal x.version ∷ ws) ((shown_name x.name ++ 32 ∷ []) ++ ((x.class ++ 32 ∷ []) ++ version))
    (next_word (shown_name x.name) (x.class ∷ decimal x.version ∷ ws) ((x.class ++ 32 ∷ []) ++ version)
    (next_word x.class (decimal x.version ∷ ws) version (version_spelled x.version x.fields))))

line_spelled : (p : Place) (kind : LineKind) (x : Line) → IsLineOf p kind x → spelled_line x ≡ line_kind_text kind ++ line_body x
line_spelled p lk.Event x h =
    subst (λ (y : Line). spelled_line y ≡ line_kind_text lk.Event ++ line_body y) h.2
    (ap (λ (y : List ℕ). codes "event" ++ y) (next_word (decimal (suc p.events)) (shown_event h.0.1) (event_text h.0.1) (event_spelled h.0.1)))
line_spelled p lk.Commit x h =
    subst (λ (y : Line). spelled_line y ≡ line_kind_text lk.Commit ++ line_body y) h.2
    (ap (λ (y : List ℕ). codes "commit" ++ y) (next_word (decimal (suc p.commits)) (h.0.1.worker ∷ decimal h.0.1.request ∷ shown_attempt h.0.1.attempt ∷ []) (commit_text h.0.1) (commit_spelled h.0.1)))
line_spelled p lk.Outcome x h = subst (λ (y : Line). spelled_line y ≡ line_kind_text lk.Outcome ++ line_body y) h.2 (outcome_spelled h.0)
line_spelled p lk.Object x h = subst (λ (y : Line). spelled_line y ≡ line_kind_text lk.Object ++ line_body y) h.2 (object_spelled h.0)
line_spelled p lk.End x h =
    subst (λ (y : Line). spelled_line y ≡ line_kind_text lk.End ++ line_body y) h.2 (ap (λ (y : List ℕ). codes "end" ++ y) (last_word (decimal p.events)))

kind_bytes : (kind : LineKind) → IsBytes (line_kind_text kind)
kind_bytes lk.Event = small_bytes (codes "event ") refl
kind_bytes lk.Commit = small_bytes (codes "commit ") refl
kind_bytes lk.Outcome = small_bytes (codes "outcome ") refl
kind_bytes lk.Object = small_bytes (codes "object ") refl
kind_bytes lk.End = small_bytes (codes "end ") refl

kinds_read : (last : LineKind) → is_last last ≡ false → Reads (kind_at line_kind_text (kinds_from last)) line_kind_text (λ kind. IsIn kind (kinds_from last))
kinds_read lk.Event h = kind_reads line_kind_text (kinds_from lk.Event) refl (λ kind i. kind_bytes kind) lk.Event (inl refl)
kinds_read lk.Commit h = kind_reads line_kind_text (kinds_from lk.Commit) refl (λ kind i. kind_bytes kind) lk.Commit (inl refl)
kinds_read lk.Outcome h = kind_reads line_kind_text (kinds_from lk.Outcome) refl (λ kind i. kind_bytes kind) lk.Outcome (inl refl)
kinds_read lk.Object h = kind_reads line_kind_text (kinds_from lk.Object) refl (λ kind i. kind_bytes kind) lk.Object (inl refl)
kinds_read lk.End h = absurd cc

-- a line that may stand at the place
abbrev pub AtPlace : Place → Line → Type 0
AtPlace p x = (kind : LineKind) × IsIn kind (kinds_from p.last) × IsLineOf p kind x

line_reads : (p : Place) → is_over p ≡ false → Reads (line_at p) spelled_line (AtPlace p)
unfolding line_at
line_reads p h =
    picked_reads (line_by p) spelled_line (λ kind. line_body) (IsLineOf p) (kinds_read p.last h) (λ kind i. line_by_reads p kind)
    (λ kind x i f. line_spelled p kind x f)

-- ---- where lines stand

abbrev pub rank : LineKind → ℕ
rank lk.Event = 0
rank lk.Commit = 1
rank lk.Outcome = 2
rank lk.Object = 3
rank lk.End = 4

pub in_rank : (last kind : LineKind) → IsIn kind (kinds_from last) → rank last ≤ rank kind
in_rank lk.Event kind h = omega arith
in_rank lk.Commit kind (inl e) = let r : rank kind ≡ 1 = ap rank e in omega arith
in_rank lk.Commit kind (inr (inl e)) = let r : rank kind ≡ 2 = ap rank e in omega arith
in_rank lk.Commit kind (inr (inr (inl e))) = let r : rank kind ≡ 3 = ap rank e in omega arith
in_rank lk.Commit kind (inr (inr (inr (inl e)))) = let r : rank kind ≡ 4 = ap rank e in omega arith
in_rank lk.Commit kind (inr (inr (inr (inr e)))) = absurd e
in_rank lk.Outcome kind (inl e) = let r : rank kind ≡ 2 = ap rank e in omega arith
in_rank lk.Outcome kind (inr (inl e)) = let r : rank kind ≡ 3 = ap rank e in omega arith
in_rank lk.Outcome kind (inr (inr (inl e))) = let r : rank kind ≡ 4 = ap rank e in omega arith
in_rank lk.Outcome kind (inr (inr (inr e))) = absurd e
in_rank lk.Object kind (inl e) = let r : rank kind ≡ 3 = ap rank e in omega arith
in_rank lk.Object kind (inr (inl e)) = let r : rank kind ≡ 4 = ap rank e in omega arith
in_rank lk.Object kind (inr (inr e)) = absurd e
in_rank lk.End kind h = absurd h

pub may_stand : (last kind : LineKind) → is_last last ≡ false → rank last ≤ rank kind → IsIn kind (kinds_from last)
may_stand lk.Event lk.Event h r = inl refl
may_stand lk.Event lk.Commit h r = inr (inl refl)
may_stand lk.Event lk.Outcome h r = inr (inr (inl refl))
may_stand lk.Event lk.Object h r = inr (inr (inr (inl refl)))
may_stand lk.Event lk.End h r = inr (inr (inr (inr (inl refl))))
may_stand lk.Commit lk.Event h r = absurd (omega arith)
may_stand lk.Commit lk.Commit h r = inl refl
may_stand lk.Commit lk.Outcome h r = inr (inl refl)
may_stand lk.Commit lk.Object h r = inr (inr (inl refl))
may_stand lk.Commit lk.End h r = inr (inr (inr (inl refl)))
may_stand lk.Outcome lk.Event h r = absurd (omega arith)
may_stand lk.Outcome lk.Commit h r = absurd (omega arith)
may_stand lk.Outcome lk.Outcome h r = inl refl
may_stand lk.Outcome lk.Object h r = inr (inl refl)
may_stand lk.Outcome lk.End h r = inr (inr (inl refl))
may_stand lk.Object lk.Event h r = absurd (omega arith)
may_stand lk.Object lk.Commit h r = absurd (omega arith)
may_stand lk.Object lk.Outcome h r = absurd (omega arith)
may_stand lk.Object lk.Object h r = inl refl
may_stand lk.Object lk.End h r = inr (inl refl)
may_stand lk.End kind h r = absurd cc

abbrev pub Rest : Place → List Line → Type 0
Rest = IsRest is_over AtPlace place_behind

pub end_line : (p : Place) → is_over p ≡ false → Rest p (l.End p.events ∷ [])
end_line p h = (h, (lk.End, may_stand p.last lk.End h (rank_le p.last), ((decimal p.events, 10), (refl, (omega arith, omega arith)), refl)), refl) where
  rank_le : (kind : LineKind) → rank kind ≤ 4
  rank_le lk.Event = omega arith
  rank_le lk.Commit = omega arith
  rank_le lk.Outcome = omega arith
  rank_le lk.Object = omega arith
  rank_le lk.End = omega arith

some_byte : (x : List ℕ) → 0 < length (line x)
some_byte x = omega (arith, length-append x (10 ∷ []))

line_some : (x : Line) → 0 < length (spelled_line x)
line_some l.Head = some_byte (codes "fab report 1")
line_some (l.Event number event) = some_byte (codes "event" ++ spaced (decimal number ∷ shown_event event))
line_some (l.Commit number c) = some_byte (codes "commit" ++ spaced (decimal number ∷ c.worker ∷ decimal c.request ∷ shown_attempt c.attempt ∷ []))
line_some (l.Outcome x) = some_byte (codes "outcome" ++ spaced (x.worker ∷ decimal x.request ∷ shown_ending x.ending))
line_some (l.Object x) = some_byte (codes "object" ++ spaced (x.store ∷ shown_name x.name ∷ x.class ∷ decimal x.version ∷ map shown_value x.fields))
line_some (l.End events) = some_byte (codes "end" ++ spaced (decimal events ∷ []))

pub line_items : Items is_over line_at place_behind spelled_line AtPlace
line_items = record {
  reads = line_reads;
  some = λ p x fx. line_some x;
  ends = λ p. ended_at (is_over p) p refl;
} where
  ended_at : (t : Bool) (p : Place) → is_over p ≡ t → (xs : List Line) × Rest p xs
  ended_at true p h = ([], h)
  ended_at false p h = (l.End p.events ∷ [], end_line p h)

pub lines_reads : (p : Place) → Reads (lines_at p) (flat_map spelled_line) (Rest p)
unfolding lines_at
lines_reads p = items_reads line_items p

abbrev pub head_text : List ℕ
head_text = line (codes "fab report 1")

abbrev pub headed : List ℕ × List Line → List Line
headed q = l.Head ∷ q.1

abbrev pub AreReported : List Line → Type 0
AreReported = Image headed (λ q. (q.0 ≡ head_text) × Rest first_place q.1)

pub report_reads : Reads report_at (flat_map spelled_line) AreReported
unfolding report_at
report_reads =
    image_reads headed (flat_map spelled_line) (both_reads (exact_reads head_text (small_bytes head_text refl)) (lines_reads first_place))
    (λ q fq. ap (λ (x : List ℕ). x ++ flat_map spelled_line q.1) (sym fq.0))
