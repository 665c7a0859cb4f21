-- Reading a report from left to right. A reader answers what it read and the bytes after it, or the number of bytes
-- that are left where the first wrong byte stands, none where the bytes end too early.
use Rattle.std.specs.Prelude.{ℕ, zero, suc, ◌+◌, ◌-◌, ◌*◌, Bool, true, false, not, List, [], ◌∷◌, ◌++◌, map, length, drop, max, Option, Some, None, option_map, Result, Ok, Err, nat_lt, nat_le, ◌&&◌, ◌==◌, if◌then◌else◌, codes, pos, negsuc}
use Rattle.std.specs.List.{list_any}
use Rattle.std.specs.Option.{option_map_or}
use Rattle.std.specs.Str.{bytes_eq}
use Rattle.std.specs.Char.{is_ascii_digit}
use Rattle.std.specs.Fmt.{decimal}
use Rattle.fab_base.specs.declared.object.Oid.{Oid}
use Rattle.fab_base.specs.Tokens.{is_word_byte, is_hex_digit, hex_value}
use Rattle.fab_language.specs.Words.{line}
use Rattle.fab_wire.specs.Reading.{Reader, ◌>>=◌, both, made, chosen, byte_at}
use Rattle.fab_reports.specs.declared.line.ShownName.{ShownName}
use Rattle.fab_reports.specs.declared.line.ShownName.TheVariants.{Root, Unnamed}
use Rattle.fab_reports.specs.declared.line.ShownValue.{ShownValue}
use Rattle.fab_reports.specs.declared.line.ShownValue.TheVariants as v
use Rattle.fab_reports.specs.declared.line.ShownInner.{ShownInner}
use Rattle.fab_reports.specs.declared.line.ShownInner.TheVariants as i
use Rattle.fab_reports.specs.declared.line.ShownEvent.{ShownEvent}
use Rattle.fab_reports.specs.declared.line.ShownEvent.TheVariants as e
use Rattle.fab_reports.specs.declared.line.Attempt.{Attempt}
use Rattle.fab_reports.specs.declared.line.ShownCommit.{ShownCommit}
use Rattle.fab_reports.specs.declared.line.ShownEnding.{ShownEnding}
use Rattle.fab_reports.specs.declared.line.ShownEnding.TheVariants as o
use Rattle.fab_reports.specs.declared.line.ShownOutcome.{ShownOutcome}
use Rattle.fab_reports.specs.declared.line.ShownObject.{ShownObject}
use Rattle.fab_reports.specs.declared.line.Line.{Line}
use Rattle.fab_reports.specs.declared.line.Line.TheVariants as l
use Rattle.fab_reports.specs.declared.kinds.InnerKind.{InnerKind}
use Rattle.fab_reports.specs.declared.kinds.InnerKind.TheVariants as ik
use Rattle.fab_reports.specs.declared.kinds.EventKind.{EventKind}
use Rattle.fab_reports.specs.declared.kinds.EventKind.TheVariants as ek
use Rattle.fab_reports.specs.declared.kinds.EndingKind.{EndingKind}
use Rattle.fab_reports.specs.declared.kinds.EndingKind.TheVariants as ok
use Rattle.fab_reports.specs.declared.kinds.LineKind.{LineKind}
use Rattle.fab_reports.specs.declared.kinds.LineKind.TheVariants as lk
use Rattle.fab_reports.specs.declared.place.Place.{Place}
use Rattle.fab_reports.specs.Kinds.{inner_kind_text, event_kind_text, ending_kind_text, line_kind_text, denial_kind_text, stop_kind_text, inner_kinds, event_kinds, ending_kinds, denial_kinds, stop_kinds, kinds_from}

-- ---- given words

-- how many bytes two lists have in common at their fronts
abbrev pub shared : List ℕ → List ℕ → ℕ
shared [] bytes = 0
shared (w ∷ ws) [] = 0
shared (w ∷ ws) (b ∷ bs) = if w == b then suc (shared ws bs) else 0

-- these bytes
abbrev pub exactly : List ℕ → Reader (List ℕ)
exactly text bytes =
    if shared text bytes == length text then Ok (text, drop (length text) bytes) else Err (length bytes - shared text bytes)

-- one of a few words, behind others of which one goes on for so long
abbrev pub kind_from : {K : Type 0} → (K → List ℕ) → ℕ → List K → Reader K
kind_from text longest [] bytes = Err (length bytes - longest)
kind_from text longest (k ∷ ks) bytes =
    if shared (text k) bytes == length (text k) then Ok (k, drop (length (text k)) bytes)
    else kind_from text (max longest (shared (text k) bytes)) ks bytes

abbrev pub kind_at : {K : Type 0} → (K → List ℕ) → List K → Reader K
kind_at text kinds = kind_from text 0 kinds

-- ---- words of any length, each with the byte that ends it

abbrev pub is_end : List ℕ → ℕ → Bool
is_end ends b = list_any (λ e. e == b) ends

-- Byte by byte: each gives a next state or is wrong, and at the end the state has to stand for something.
abbrev pub scan : {S A : Type 0} → (S → ℕ → Option S) → (S → Option A) → List ℕ → S → Reader (A × ℕ)
scan step done ends s [] = Err 0
scan step done ends s (b ∷ rest) =
    if is_end ends b then option_map_or (λ a. Ok ((a, b), rest)) (done s) (Err (length (b ∷ rest)))
    else option_map_or (λ t. scan step done ends t rest) (step s b) (Err (length (b ∷ rest)))

-- without the byte that ends it, where there is one such byte
abbrev pub before : {A : Type 0} → (List ℕ → Reader (A × ℕ)) → ℕ → Reader A
before read end = made (λ p. p.0) (read (end ∷ []))

-- a number within bounds, without leading zeros: what it is with one more digit
abbrev pub next_number : ℕ → ℕ → Option ℕ → ℕ → Option ℕ
next_number least most None b = if is_ascii_digit b && (nat_le least (b - 48) && nat_le (b - 48) most) then Some (b - 48) else None
next_number least most (Some n) b =
    if is_ascii_digit b && (not (n == 0) && nat_le (10 * n + (b - 48)) most) then Some (10 * n + (b - 48)) else None

abbrev pub number_step : ℕ → ℕ → Option ℕ → ℕ → Option (Option ℕ)
number_step least most s b = option_map (λ n. Some n) (next_number least most s b)

unfoldable pub number_at : ℕ → ℕ → List ℕ → Reader (ℕ × ℕ)
number_at least most ends = scan (number_step least most) (λ s. s) ends None

-- a name or a keyword
abbrev pub may_go_on : ℕ → ℕ → Bool
may_go_on so_far b = is_word_byte b && (if so_far == 0 then not (is_ascii_digit b) else nat_lt so_far 64)

abbrev pub word_step : List ℕ → ℕ → Option (List ℕ)
word_step w b = if may_go_on (length w) b then Some (w ++ b ∷ []) else None

abbrev pub word_done : List ℕ → Option (List ℕ)
word_done [] = None
word_done (b ∷ bs) = Some (b ∷ bs)

unfoldable pub word_at : List ℕ → Reader (List ℕ × ℕ)
word_at ends = scan word_step word_done ends []

-- bytes in digits, two for each; of the next the first digit may stand alone
abbrev pub hex_step : List ℕ × Option ℕ → ℕ → Option (List ℕ × Option ℕ)
hex_step s b =
    if is_hex_digit b then Some (option_map_or (λ high. (s.0 ++ (16 * high + hex_value b) ∷ [], None)) s.1 (s.0, Some (hex_value b)))
    else None

abbrev pub hex_done : List ℕ × Option ℕ → Option (List ℕ)
hex_done s = option_map_or (λ high. None) s.1 (Some s.0)

unfoldable pub bytes_at : List ℕ → Reader (List ℕ × ℕ)
bytes_at ends = scan hex_step hex_done ends ([], None)

-- ---- names and values

-- a digit of base 16
abbrev pub digit_at : Reader ℕ
digit_at [] = Err 0
digit_at (b ∷ rest) = if is_hex_digit b then Ok (hex_value b, rest) else Err (length (b ∷ rest))

-- numbers of 8, 16 and 32 bits in digits
unfoldable pub pair_at : Reader ℕ
pair_at = made (λ p. 16 * p.0 + p.1) (both digit_at digit_at)

unfoldable pub two_at : Reader ℕ
two_at = made (λ p. 256 * p.0 + p.1) (both pair_at pair_at)

unfoldable pub four_at : Reader ℕ
four_at = made (λ p. 65536 * p.0 + p.1) (both two_at two_at)

unfoldable pub oid_at : Reader Oid
oid_at =
    made (λ p. record { store = p.0; class = p.1.0; worker = p.1.1.0; boot = p.1.1.1.0; number = p.1.1.1.1.0; site = p.1.1.1.1.1.0; index = p.1.1.1.1.1.1 })
    (both two_at (both two_at (both two_at (both four_at (both four_at (both two_at two_at))))))

-- one of the bytes that end a word
abbrev pub end_at : List ℕ → Reader ℕ
end_at ends [] = Err 0
end_at ends (b ∷ rest) = if is_end ends b then Ok (b, rest) else Err (length (b ∷ rest))

-- as the first byte says
abbrev pub either_at : {A : Type 0} → (ℕ → Bool) → Reader A → Reader A → Reader A
either_at test first second [] = Err 0
either_at test first second (b ∷ rest) = if test b then first (b ∷ rest) else second (b ∷ rest)

unfoldable pub unnamed_at : List ℕ → Reader (ShownName × ℕ)
unnamed_at ends = made (λ p. (Unnamed p.1.0, p.1.1)) (both (byte_at 35 35) (both oid_at (end_at ends)))

unfoldable pub rooted_at : List ℕ → Reader (ShownName × ℕ)
rooted_at ends = made (λ p. (Root p.0, p.1)) (word_at ends)

unfoldable pub name_at : List ℕ → Reader (ShownName × ℕ)
name_at ends = either_at (λ b. b == 35) (unnamed_at ends) (rooted_at ends)

unfoldable pub negative_at : List ℕ → Reader (ShownValue × ℕ)
negative_at ends = made (λ p. (v.Number (negsuc (p.1.0 - 1)), p.1.1)) (both (byte_at 45 45) (number_at 1 2147483648 ends))

unfoldable pub natural_at : List ℕ → Reader (ShownValue × ℕ)
natural_at ends = made (λ p. (v.Number (pos p.0), p.1)) (number_at 0 2147483647 ends)

-- the value that a name stands for
abbrev pub named_value : ShownName → ShownValue
named_value (Root text) = if bytes_eq text (codes "null") then v.Null else v.Object (Root text)
named_value (Unnamed oid) = v.Object (Unnamed oid)

unfoldable pub named_at : List ℕ → Reader (ShownValue × ℕ)
named_at ends = made (λ p. (named_value p.0, p.1)) (name_at ends)

unfoldable pub value_at : List ℕ → Reader (ShownValue × ℕ)
value_at ends = either_at (λ b. b == 45) (negative_at ends) (either_at is_ascii_digit (natural_at ends) (named_at ends))

-- As many as come, until the state says that it is over; each item takes a byte at least, so there are no more than bytes.
abbrev pub repeated : {P A : Type 0} → (P → Bool) → (P → Reader A) → (P → A → P) → ℕ → P → Reader (List A)
repeated over read after zero p = λ bytes. if over p then Ok ([], bytes) else Err 0
repeated {A = A} over read after (suc n) p = λ bytes.
    if over p then Ok ([], bytes)
    else made (λ (q : A × List A). q.0 ∷ q.1) (chosen (read p) (λ a. made (λ (others : List A). (a, others)) (repeated over read after n (after p a)))) bytes

-- the values behind a word that this byte ended, each behind a space
unfoldable pub fields_at : ℕ → Reader (List ShownValue)
fields_at end bytes =
    made (map (λ (p : ShownValue × ℕ). p.0)) (repeated (λ b. not (b == 32)) (λ b. value_at (codes " \n")) (λ b p. p.1) (length bytes) end) bytes

-- ---- lines

unfoldable pub u32_before : ℕ → Reader ℕ
u32_before end = before (number_at 0 4294967295) end

unfoldable pub request_before : ℕ → Reader ℕ
request_before end = before (number_at 1 4294967295) end

unfoldable pub word_before : ℕ → Reader (List ℕ)
word_before end = before word_at end

unfoldable pub bytes_before : ℕ → Reader (List ℕ)
bytes_before end = before bytes_at end

unfoldable pub attempt_before : ℕ → Reader Attempt
attempt_before end = made (λ p. record { boot = p.0; number = p.1 }) (both (u32_before 46) (u32_before end))

abbrev pub inner_by : InnerKind → Reader ShownInner
inner_by ik.Begin = made (λ w. i.Begin w) (word_before 10)
inner_by ik.Resume = made (λ w. i.Resume w) (word_before 10)
inner_by ik.Deliver = made (λ p. i.Deliver p.0 p.1.0 p.1.1) (both (word_before 32) (both (word_before 32) (bytes_before 10)))
inner_by ik.Idle = made (λ p. i.Idle p.0 p.1) (both (word_before 32) (word_before 10))
inner_by ik.Recover = made (λ w. i.Recover w) (word_before 10)

unfoldable pub inner_at : Reader ShownInner
inner_at = chosen (kind_at inner_kind_text inner_kinds) inner_by

abbrev pub event_by : EventKind → Reader ShownEvent
event_by (ek.Inner kind) = made (λ x. e.Inner x) (inner_by kind)
event_by ek.Post = made (λ p. e.Post p.0 p.1.0 p.1.1) (both (word_before 32) (both (word_before 32) (bytes_before 10)))
event_by ek.Crash = made (λ w. e.Crash w) (word_before 10)
event_by ek.CrashIn = made (λ p. e.CrashIn p.0 p.1) (both (u32_before 32) inner_at)

unfoldable pub event_at : Reader ShownEvent
event_at = chosen (kind_at event_kind_text event_kinds) event_by

unfoldable pub commit_at : Reader ShownCommit
commit_at =
    made (λ p. record { worker = p.0; request = p.1.0; attempt = p.1.1 }) (both (word_before 32) (both (request_before 32) (attempt_before 10)))

abbrev pub ending_by : EndingKind → Reader ShownEnding
ending_by ok.Committed = made (λ p. o.Committed p.0 p.1) (both (attempt_before 32) (before value_at 10))
ending_by ok.Failed = λ bytes. Ok (o.Failed, bytes)
ending_by ok.Conflict = λ bytes. Ok (o.Conflict, bytes)
ending_by ok.Silent = made (λ w. o.Silent w) (word_before 10)
ending_by ok.Denied = made (λ p. o.Denied p.0 p.1) (both (word_before 32) (kind_at denial_kind_text denial_kinds))
ending_by ok.Stopped = made (λ s. o.Stopped s) (kind_at stop_kind_text stop_kinds)
ending_by ok.NodeDown = λ bytes. Ok (o.NodeDown, bytes)
ending_by ok.Unfinished = λ bytes. Ok (o.Unfinished, bytes)

unfoldable pub ending_at : Reader ShownEnding
ending_at = chosen (kind_at ending_kind_text ending_kinds) ending_by

unfoldable pub outcome_at : Reader ShownOutcome
outcome_at =
    made (λ p. record { worker = p.0; request = p.1.0; ending = p.1.1 }) (both (word_before 32) (both (request_before 32) ending_at))

-- a version, and the values behind it
unfoldable pub held_at : Reader (ℕ × List ShownValue)
held_at = chosen (number_at 0 4294967295 (codes " \n")) (λ n. made (λ fields. (n.0, fields)) (fields_at n.1))

unfoldable pub object_at : Reader ShownObject
object_at =
    made (λ p. record { store = p.0; name = p.1.0; class = p.1.1.0; version = p.1.1.1.0; fields = p.1.1.1.1 })
    (both (word_before 32) (both (before name_at 32) (both (word_before 32) held_at)))

-- a line's own number, and what ends it
abbrev pub counted : ℕ → ℕ → Reader (List ℕ × ℕ)
counted n end = both (exactly (decimal n)) (byte_at end end)

abbrev pub line_by : Place → LineKind → Reader Line
line_by p lk.Event = made (λ q. l.Event (suc p.events) q.1) (both (counted (suc p.events) 32) event_at)
line_by p lk.Commit = made (λ q. l.Commit (suc p.commits) q.1) (both (counted (suc p.commits) 32) commit_at)
line_by p lk.Outcome = made (λ x. l.Outcome x) outcome_at
line_by p lk.Object = made (λ x. l.Object x) object_at
line_by p lk.End = made (λ _. l.End p.events) (counted p.events 10)

-- a line that may stand at this place
unfoldable pub line_at : Place → Reader Line
line_at p = chosen (kind_at line_kind_text (kinds_from p.last)) (line_by p)

abbrev pub is_last : LineKind → Bool
is_last lk.Event = false
is_last lk.Commit = false
is_last lk.Outcome = false
is_last lk.Object = false
is_last lk.End = true

abbrev pub is_over : Place → Bool
is_over p = is_last p.last

-- the place behind a line
abbrev pub place_behind : Place → Line → Place
place_behind p l.Head = p
place_behind p (l.Event number event) = record p { events = suc p.events }
place_behind p (l.Commit number commit) = record p { last = lk.Commit; commits = suc p.commits }
place_behind p (l.Outcome x) = record p { last = lk.Outcome }
place_behind p (l.Object x) = record p { last = lk.Object }
place_behind p (l.End events) = record p { last = lk.End }

abbrev pub first_place : Place
first_place = record { last = lk.Event; events = 0; commits = 0 }

-- the lines from a place on
unfoldable pub lines_at : Place → Reader (List Line)
lines_at p bytes = repeated is_over line_at place_behind (length bytes) p bytes

unfoldable pub report_at : Reader (List Line)
report_at = made (λ q. l.Head ∷ q.1) (both (exactly (line (codes "fab report 1"))) (lines_at first_place))

-- all of the bytes
unfoldable pub all_of : List ℕ → Result (List Line) ℕ
all_of bytes = do
  lines ← report_at bytes
  if length lines.1 == 0 then Ok lines.0 else Err (length lines.1)
