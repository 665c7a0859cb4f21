-- The counts behind one event more.
use Rattle.std.proofs.Common.{◌≡◌, ℕ, ◌+◌, ◌≤◌, ◌<◌, ◌^◌, List, [], ◌∷◌, ◌++◌, length, Bool, true, false, ◌&&◌, ◌==◌, min}
use Rattle.std.proofs.Common.{refl, sym, ap, ◌∙◌, subst, inl, inr, arith}
use Rattle.std.specs.Prelude.{slice_index_or, slice_set}
use Rattle.std.proofs.lemmas.Bool.{cases_eq, eq-eqb, ne_eqb}
use Rattle.std.proofs.lemmas.List.{get_or-set_same, get_or-set_other, length-set}
use Rattle.std.proofs.lemmas.List.Sums.{count_by-le-length}
use Rattle.fab_net.specs.declared.event.Event.{Event}
use mir.Val.{bool_byte}
use Rattle.fab_lined.proofs.Begun.{one}
use Rattle.fab_lined.proofs.Lines.{count_last}
use Rattle.fab_world.specs.Machine.{Move, form_of}
use Rattle.fab_world.specs.Crashing.{crashes_of, events_of, is_counted, is_crash}
use Rattle.fab_net.specs.Events.{node_at}
use Rattle.fab_core.specs.Moved.{move_by}
use Rattle.fab_core.specs.declared.applied.Applied.{Applied}
use Rattle.fab_exchange.specs.Tallies.{counted_in, crashed_in}
use Rattle.fab_exchange.specs.Exchanges.{AreCounts, none_yet}
use Rattle.fab_exchange.specs.declared.counting.Count.{Count}
use Rattle.fab_exchange.proofs.Keeping.{counts_as, crashes_as}

-- a number that has room for one more
byte_one : (b : Bool) → bool_byte b ≡ one b
byte_one true = refl
byte_one false = refl

one_least : (b : Bool) → one b ≤ 1
one_least true = omega arith
one_least false = omega arith

pub one_added : (had most byte sum : ℕ) {a : Bool} (b : Bool) → sum ≡ min (had + byte) 18446744073709551615 → byte ≡ bool_byte a → a ≡ b
    → had ≤ most → most + 1 < 2 ^ 64 → sum ≡ had + one b
one_added had most byte sum b is made same few fits =
    let more : byte ≡ one b = made ∙ ap bool_byte same ∙ byte_one b in
    let least = one_least b in omega (arith, is, more, least, few, fits)

module _ (event : Event) (applied : Applied) (moves : List Move) where
  abbrev n : ℕ
  n = node_at event

  abbrev later : List Move
  later = moves ++ move_by applied event ∷ []

  events_later : (k : ℕ) → events_of k later ≡ events_of k moves + one (counted_in event && (n == k))
  events_later k =
      count_last (λ (m : Move). is_counted k (form_of m)) moves (move_by applied event) ∙ ap (λ b. events_of k moves + one b) (counts_as event applied k)

  crashes_later : (k : ℕ) → crashes_of k later ≡ crashes_of k moves + one (crashed_in event applied && (n == k))
  crashes_later k =
      count_last (λ (m : Move). is_crash k (form_of m)) moves (move_by applied event) ∙ ap (λ b. crashes_of k moves + one b) (crashes_as event applied k)

  with_none : (b : Bool) → one (b && false) ≡ 0
  with_none true = refl
  with_none false = refl

  with_all : (b : Bool) → one (b && true) ≡ one b
  with_all true = refl
  with_all false = refl

  -- the count of node k
  abbrev of_node : ℕ → List Move → Count
  of_node k ms = record { events = events_of k ms; crashes = crashes_of k ms }

  other : (k : ℕ) → (k ≡ n → ⊥) → of_node k later ≡ of_node k moves
  other k ne =
      let apart = ne_eqb n k (λ s. ne (sym s)) in
      let e : events_of k later ≡ events_of k moves =
      events_later k ∙ ap (λ b. events_of k moves + one (counted_in event && b)) apart ∙ ap (λ z. events_of k moves + z) (with_none (counted_in event)) ∙ omega arith in
      let c : crashes_of k later ≡ crashes_of k moves =
      crashes_later k ∙ ap (λ b. crashes_of k moves + one (crashed_in event applied && b)) apart ∙ ap (λ z. crashes_of k moves + z) (with_none (crashed_in event applied)) ∙ omega arith in
      λ j. record { events = e j; crashes = c j }

  here : of_node n later ≡ record { events = events_of n moves + one (counted_in event); crashes = crashes_of n moves + one (crashed_in event applied) }
  here =
      let same = eq-eqb n n refl in
      let e : events_of n later ≡ events_of n moves + one (counted_in event) =
      events_later n ∙ ap (λ b. events_of n moves + one (counted_in event && b)) same ∙ ap (λ z. events_of n moves + z) (with_all (counted_in event)) in
      let c : crashes_of n later ≡ crashes_of n moves + one (crashed_in event applied) =
      crashes_later n ∙ ap (λ b. crashes_of n moves + one (crashed_in event applied && b)) same ∙ ap (λ z. crashes_of n moves + z) (with_all (crashed_in event applied)) in
      λ j. record { events = e j; crashes = c j }

  pub few_events : (k : ℕ) → events_of k moves ≤ length moves
  few_events k = count_by-le-length (λ (m : Move). is_counted k (form_of m)) moves

  pub few_crashes : (k : ℕ) → crashes_of k moves ≤ length moves
  few_crashes k = count_by-le-length (λ (m : Move). is_crash k (form_of m)) moves

  module _ (counts : List Count) (are : AreCounts moves counts) where
    -- a node of a number that isn't there has no count
    pub counts_beyond : 64 ≤ n → AreCounts later counts
    counts_beyond far = record {
      long = are.long;
      each = λ k low. are.each k low ∙ sym (other k (λ s. absurd (omega (arith, far, low, s))));
    }

    pub counts_set : n < 64 → (x : Count) → x ≡ of_node n later → AreCounts later (slice_set counts n x)
    counts_set near x is = record {
      long = length-set counts n x ∙ are.long;
      each = λ k low. elim (cases_eq k n) [
        | inl same ↦
            subst (λ z. slice_index_or (slice_set counts n x) z none_yet ≡ of_node z later) (sym same)
            (get_or-set_same counts n x none_yet (let l = are.long in omega (arith, l, near)) ∙ is)
        | inr ne ↦ get_or-set_other counts n k x none_yet ne ∙ are.each k low ∙ sym (other k ne)
      ];
    }

    pub counts_added : n < 64 → (old : Count) (a b : ℕ) → old ≡ slice_index_or counts n none_yet → a ≡ old.events + one (counted_in event)
        → b ≡ old.crashes + one (crashed_in event applied) → AreCounts later (slice_set counts n (record { events = a; crashes = b }))
    counts_added near old a b is more crashed =
        let same = is ∙ are.each n near in
        counts_set near (record { events = a; crashes = b })
        ((λ j. record {
          events = (more ∙ ap (λ (c : Count). c.events + one (counted_in event)) same) j;
          crashes = (crashed ∙ ap (λ (c : Count). c.crashes + one (crashed_in event applied)) same) j;
        }) ∙ sym here)
