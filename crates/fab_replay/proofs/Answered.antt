-- What an answer tells of moves, taken apart by what is wanted.
use Rattle.std.specs.Prelude.{◌≡◌, ℕ, suc, ◌+◌, true, IsTrue, List, ◌∷◌, length, Some, None}
use Rattle.std.proofs.Common.{sym, ap, ◌∙◌, arith, length-append}
use Rattle.std.proofs.lemmas.Bool.{false≢true}
use Rattle.std.proofs.lemmas.List.{length-map}
use Rattle.fab_world.specs.Machine.{Move}
use Rattle.fab_node.specs.Standing.{GivenModel}
use Rattle.fab_core.specs.Cores.{unmarked}
use Rattle.fab_replay.specs.Kept.{has_mark}
use Rattle.fab_replay.specs.Replays.{HasNoFault, IsFaulty, IsStopped, IsWhole, StopsBefore, StopsIn, Tells, events_of, first_mark, is_scheduled, moves_of}
use Rattle.fab_replay.specs.declared.replayed.Replayed.{Replayed}
use Rattle.fab_replay.specs.declared.replayed.Replayed.TheVariants as r
use Rattle.fab_replay.specs.declared.replayed.Wanted.{Wanted}
use Rattle.fab_replay.specs.declared.replayed.Wanted.TheVariants.{Report, Run, Trust, View}
use Rattle.fab_replay.proofs.Marks.{first_has, first_marked, first_unmarked}

-- ---- of a schedule

module _ (g : GivenModel) (moves : List Move) where
  pub whole_of : (wanted : Wanted) → IsTrue (is_scheduled wanted) → IsWhole g wanted moves → moves ≡ moves_of (events_of g.program)
  whole_of Report is h = h
  whole_of (Run x) is h = absurd (false≢true is)
  whole_of (View nodes seen part) is h = h
  whole_of (Trust nodes part) is h = h

  pub whole_by : (wanted : Wanted) → IsTrue (is_scheduled wanted) → moves ≡ moves_of (events_of g.program) → IsWhole g wanted moves
  whole_by Report is h = h
  whole_by (Run x) is h = absurd (false≢true is)
  whole_by (View nodes seen part) is h = h
  whole_by (Trust nodes part) is h = h

  pub faulty_by : (wanted : Wanted) (node : ℕ) → IsTrue (is_scheduled wanted) → StopsIn g moves node → IsFaulty g wanted moves node
  faulty_by Report node is h = h
  faulty_by (Run x) node is h = absurd (false≢true is)
  faulty_by (View nodes seen part) node is h = h
  faulty_by (Trust nodes part) node is h = h

  pub stopped_of : (wanted : Wanted) (number : ℕ) → IsStopped g wanted moves number → StopsBefore g moves number
  stopped_of Report number h = h
  stopped_of (Run x) number h = absurd h
  stopped_of (View nodes seen part) number h = h
  stopped_of (Trust nodes part) number h = h

  pub stopped_by : (wanted : Wanted) (number : ℕ) → IsTrue (is_scheduled wanted) → StopsBefore g moves number → IsStopped g wanted moves number
  stopped_by Report number is h = h
  stopped_by (Run x) number is h = absurd (false≢true is)
  stopped_by (View nodes seen part) number is h = h
  stopped_by (Trust nodes part) number is h = h

  -- ---- marks

  unmarked_whole : moves ≡ moves_of (events_of g.program) → first_mark moves ≡ None
  unmarked_whole h = ap first_mark h ∙ first_unmarked (events_of g.program)

  pub whole_unmarked : (wanted : Wanted) → IsWhole g wanted moves → first_mark moves ≡ None
  whole_unmarked Report h = unmarked_whole h
  whole_unmarked (Run x) h = h.1
  whole_unmarked (View nodes seen part) h = unmarked_whole h
  whole_unmarked (Trust nodes part) h = unmarked_whole h

  pub stopped_unmarked : (wanted : Wanted) (number : ℕ) → IsStopped g wanted moves number → first_mark moves ≡ None
  stopped_unmarked wanted number h = let s = stopped_of wanted number h in ap first_mark s.moves_are ∙ first_unmarked s.before

  marked_in : (node : ℕ) → StopsIn g moves node → first_mark moves ≡ Some node
  marked_in node h = ap first_mark h.moves_are ∙ first_marked h.before h.event ∙ ap Some (sym h.node_is)

  pub faulty_marked : (wanted : Wanted) (node : ℕ) → IsFaulty g wanted moves node → first_mark moves ≡ Some node
  faulty_marked Report node h = marked_in node h
  faulty_marked (Run x) node h = h.1
  faulty_marked (View nodes seen part) node h = marked_in node h
  faulty_marked (Trust nodes part) node h = marked_in node h

  pub faulty_has : (wanted : Wanted) (node : ℕ) → IsFaulty g wanted moves node → has_mark moves node ≡ true
  faulty_has wanted node h = first_has moves node (faulty_marked wanted node h)

  pub none_marked : (wanted : Wanted) (x : Replayed) → Tells g wanted moves x → HasNoFault x → first_mark moves ≡ None
  none_marked wanted (r.Done bytes) h none = whole_unmarked wanted h.0
  none_marked wanted (r.NotEnabled number) h none = stopped_unmarked wanted number h
  none_marked wanted (r.JournalFault node report) h none = absurd none

  -- ---- one answer

  -- a schedule's run that stopped isn't whole
  stopped_parts : (number : ℕ) → StopsBefore g moves number → moves ≡ moves_of (events_of g.program) → ⊥
  stopped_parts number h all =
      let long : length moves ≡ length (events_of g.program) = ap length all ∙ length-map (events_of g.program) unmarked in
      let short : length moves ≡ length h.before = ap length h.moves_are ∙ length-map h.before unmarked in
      let parts : length (events_of g.program) ≡ length h.before + length (h.event ∷ h.more) = ap length h.events ∙ length-append h.before (h.event ∷ h.more) in
      omega (arith, long, short, parts)

  whole_stopped : (wanted : Wanted) (number : ℕ) → IsWhole g wanted moves → IsStopped g wanted moves number → ⊥
  whole_stopped Report number h k = stopped_parts number k h
  whole_stopped (Run x) number h k = k
  whole_stopped (View nodes seen part) number h k = stopped_parts number k h
  whole_stopped (Trust nodes part) number h k = stopped_parts number k h

  -- its number says how many moves there are
  numbered : (number : ℕ) → StopsBefore g moves number → number ≡ suc (length moves)
  numbered number h =
      let short : length moves ≡ length h.before = ap length h.moves_are ∙ length-map h.before unmarked in
      h.number_is ∙ ap suc (sym short)

  same_node : (m n : ℕ) → first_mark moves ≡ Some m → first_mark moves ≡ Some n → m ≡ n
  same_node m n h k = cc

  both_ways : (n : ℕ) → first_mark moves ≡ None → first_mark moves ≡ Some n → ⊥
  both_ways n h k = absurd (cc)

  pub one_of_run : (wanted : Wanted) (x y : Replayed) → Tells g wanted moves x → Tells g wanted moves y → x ≡ y
  one_of_run wanted (r.Done a) (r.Done b) h k = ap r.Done (h.1 ∙ sym k.1)
  one_of_run wanted (r.Done a) (r.NotEnabled n) h k = absurd (whole_stopped wanted n h.0 k)
  one_of_run wanted (r.NotEnabled m) (r.Done b) h k = absurd (whole_stopped wanted m k.0 h)
  one_of_run wanted (r.NotEnabled m) (r.NotEnabled n) h k =
      ap r.NotEnabled (numbered m (stopped_of wanted m h) ∙ sym (numbered n (stopped_of wanted n k)))
  one_of_run wanted (r.JournalFault m None) y h k = absurd h
  one_of_run wanted x (r.JournalFault n None) h k = absurd k
  one_of_run wanted (r.JournalFault m (Some a)) (r.JournalFault n (Some b)) h k =
      let nodes : m ≡ n = same_node m n (faulty_marked wanted m h.0) (faulty_marked wanted n k.0) in
      let bytes : a ≡ b = h.1 ∙ sym k.1 in
      ap (λ node. r.JournalFault node (Some a)) nodes ∙ ap (λ text. r.JournalFault n (Some text)) bytes
  one_of_run wanted (r.JournalFault m (Some a)) (r.Done b) h k = absurd (both_ways m (whole_unmarked wanted k.0) (faulty_marked wanted m h.0))
  one_of_run wanted (r.JournalFault m (Some a)) (r.NotEnabled n) h k = absurd (both_ways m (stopped_unmarked wanted n k) (faulty_marked wanted m h.0))
  one_of_run wanted (r.Done a) (r.JournalFault n (Some b)) h k = absurd (both_ways n (whole_unmarked wanted h.0) (faulty_marked wanted n k.0))
  one_of_run wanted (r.NotEnabled m) (r.JournalFault n (Some b)) h k = absurd (both_ways n (stopped_unmarked wanted m h) (faulty_marked wanted n k.0))
