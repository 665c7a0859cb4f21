-- How far a schedule came, event by event.
use Rattle.std.specs.Prelude.{◌≡◌, ℕ, ◌+◌, ◌≤◌, ◌<◌, false, List, [], ◌∷◌, ◌++◌, map, length}
use Rattle.std.proofs.Common.{refl, sym, ap, ◌∙◌, subst, arith, append_assoc, length-append}
use Rattle.std.proofs.lemmas.List.{append-nil}
use Rattle.fab_tree.specs.declared.resolved.Resolved.{Resolved}
use Rattle.fab_tree.specs.declared.resolved.Event.{Event as Scheduled}
use Rattle.fab_net.specs.declared.event.Event.{Event}
use Rattle.fab_world.specs.Machine.{Enabled, enabled, form_of}
use Rattle.fab_world.specs.Serial.{attempts}
use Rattle.fab_node.specs.Standing.{GivenModel}
use Rattle.fab_core.specs.Cores.{CoreModel, marked, setting, slot, unmarked, world_by}
use Rattle.fab_net.specs.Events.{node_at}
use Rattle.fab_replay.specs.Replays.{StopsBefore, StopsIn, event_of, events_of, moves_of}
use Rattle.fab_replay.specs.Running.{AreBehind, ComesBy, fails_by}
use Rattle.fab_replay.specs.declared.running.Came.{Came}
use Rattle.fab_replay.specs.declared.running.Came.TheVariants as c
use Rattle.fab_replay.specs.Kept.{IsFrontRun}
use Rattle.fab_replay.proofs.Behind.{still, then_behind}
use Rattle.fab_replay.proofs.Keeping.{front_of}
use Rattle.fab_replay.proofs.Moves.{attempts_step, moves_more}

-- so many events came, all whole, and these are left
pub record SoFar (first now : CoreModel) (rest : List Scheduled) (number : ℕ) : Type 0 where
  pub given : now.given ≡ first.given
  pub before : List Event
  pub events : events_of first.given.program ≡ before ++ map event_of rest
  pub moves : now.moves ≡ moves_of before
  pub count : number ≡ length before
  pub few : number + length rest ≤ 100000
  pub tries : attempts now.moves ≤ number
  pub behind : AreBehind (λ n. false) first.journals now.journals

pub begins : (first : CoreModel) (program : Resolved) → program ≡ first.given.program → length program.schedule ≤ 100000 → first.moves ≡ [] → SoFar first first program.schedule 0
begins first program e few none = record {
  given = refl;
  before = [];
  events = ap events_of (sym e);
  moves = none;
  count = refl;
  few = omega (arith, few);
  tries = let n : attempts first.moves ≡ 0 = ap attempts none in omega (arith, n);
  behind = λ n. still (slot first.journals n);
}

pub few_attempts : (first now : CoreModel) (rest : List Scheduled) (number : ℕ) → SoFar first now rest number → attempts now.moves < 4000000000
few_attempts first now rest number h = let a = h.few in let b = h.tries in omega (arith, a, b)

-- the next event of those that are left, and what became of it
module _ (first now new : CoreModel) (left : List Scheduled) (x : Scheduled) (rest : List Scheduled) (number : ℕ) (event : Event) (came : Came) (parts : left ≡ x ∷ rest)
    (is : event ≡ event_of x) (so : SoFar first now left number) (done : ComesBy now.given event now.moves new.moves came) where
  here : SoFar first now (x ∷ rest) number
  here = subst (λ xs. SoFar first now xs number) parts so

  comes : (c : Came) → came ≡ c → ComesBy now.given (event_of x) now.moves new.moves c
  comes c e = subst (λ k. ComesBy now.given (event_of x) now.moves new.moves k) e (subst (λ k. ComesBy now.given k now.moves new.moves came) is done)

  pub goes_on : came ≡ c.Whole → new.given ≡ now.given → AreBehind (fails_by event came) now.journals new.journals → SoFar first new rest (number + 1)
  goes_on e given behind =
      let whole = comes c.Whole e in
      record {
        given = given ∙ here.given;
        before = here.before ++ event_of x ∷ [];
        events = here.events ∙ sym (append_assoc here.before (event_of x ∷ []) (map event_of rest));
        moves = whole.moves ∙ ap (λ ms. ms ++ unmarked (event_of x) ∷ []) here.moves ∙ sym (moves_more here.before (event_of x));
        count = let a = here.count in let b = length-append here.before (event_of x ∷ []) in omega (arith, a, b);
        few = let a = here.few in omega (arith, a);
        tries =
            let a = attempts_step now.moves (unmarked (event_of x)) number here.tries in
            subst (λ ms. attempts ms ≤ number + 1) (sym whole.moves) a;
        behind = λ n.
            then_behind false (slot first.journals n) (slot now.journals n) (slot new.journals n) (here.behind n)
            (subst (λ k. AreBehind (fails_by event k) now.journals new.journals) e behind n);
      }

  pub stops_before : came ≡ c.Barred → StopsBefore first.given new.moves (number + 1)
  stops_before e =
      let barred = comes c.Barred e in
      record {
        before = here.before;
        event = event_of x;
        more = map event_of rest;
        events = here.events;
        moves_are = barred.moves ∙ here.moves;
        number_is = let a = here.count in omega (arith, a);
        barred =
            subst (λ (g : GivenModel). enabled (setting g) (world_by g new.moves) (form_of (unmarked (event_of x))) ≡ false) here.given
            (ap (λ ms. enabled (setting now.given) (world_by now.given ms) (form_of (unmarked (event_of x)))) barred.moves ∙ barred.barred);
      }

  pub stops_in : came ≡ c.Cut → (node : ℕ) → node ≡ node_at event → StopsIn first.given new.moves node
  stops_in e node at =
      let cut = comes c.Cut e in
      record {
        before = here.before;
        event = event_of x;
        more = map event_of rest;
        events = here.events;
        moves_are = cut.moves ∙ ap (λ ms. ms ++ marked (event_of x) ∷ []) here.moves;
        node_is = at ∙ ap node_at is;
        may =
            subst (λ (g : GivenModel). Enabled (setting g) (world_by g (moves_of here.before)) (unmarked (event_of x))) here.given
            (subst (λ ms. Enabled (setting now.given) (world_by now.given ms) (unmarked (event_of x))) here.moves cut.may.may);
      }

pub came_through : (first now : CoreModel) (number : ℕ) → SoFar first now [] number → now.moves ≡ moves_of (events_of first.given.program)
came_through first now number h = h.moves ∙ ap moves_of (sym (append-nil h.before) ∙ sym h.events)

-- where memory ran out, a front of them came
module _ (first now new : CoreModel) (rest : List Scheduled) (number : ℕ) (so : SoFar first now rest number) where
  pub front_came : new.moves ≡ now.moves → IsFrontRun first.given new.moves
  front_came same =
      (length so.before, same ∙ so.moves ∙ ap moves_of (front_of so.before (map event_of rest) (events_of first.given.program) (sym so.events)))

  pub front_behind : AreBehind (λ n. false) now.journals new.journals → AreBehind (λ n. false) first.journals new.journals
  front_behind h n = then_behind false (slot first.journals n) (slot now.journals n) (slot new.journals n) (so.behind n) (h n)
