-- An exchange at the start, and one whose run stays as it is.
use Rattle.std.proofs.Common.{◌≡◌, ℕ, List, [], replicate, true}
use Rattle.std.proofs.Common.{refl, sym, ap, ◌∙◌, subst}
use Rattle.std.proofs.lemmas.Bool.{false≢true}
use Rattle.std.proofs.lemmas.List.{get_or-replicate, length-replicate}
use Rattle.fab_rights.specs.Computed.{nodes_in}
use Rattle.fab_world.specs.Machine.{Move, at_start}
use Rattle.fab_world.specs.Crashing.{keeps_lines}
use Rattle.fab_settings.specs.Settings.{lines_of}
use Rattle.fab_node.specs.Standing.{GivenModel}
use Rattle.fab_core.specs.Cores.{CoreModel, setting, slot}
use Rattle.fab_core.specs.Moved.{faults_in, sure_in}
use Rattle.fab_exchange.specs.Exchanges.{AreCounts, IsExchange, IsMarked, has_mark, none_yet}
use Rattle.fab_exchange.specs.declared.counting.Count.{Count}
use Rattle.fab_exchange.proofs.Keeping.{marked_same}

pub start_counts : AreCounts [] (replicate 64 none_yet)
start_counts = record { long = length-replicate 64 none_yet; each = λ n low. get_or-replicate 64 n none_yet none_yet low }

-- no event yet, and no journal has failed
pub start_is : (core : CoreModel) (nodes : List ℕ) (counts : List Count) → core.moves ≡ [] → ((n : ℕ) → faults_in (slot core.journals n) ≡ 0)
    → nodes ≡ nodes_in core.given.rights → AreCounts [] counts → IsExchange core nodes counts
start_is core nodes counts empty sound are counted = record {
  nodes_are = are;
  lined = subst (λ (ms : List Move). keeps_lines (setting core.given) (lines_of core.given.program) (at_start (setting core.given)) [] ms ≡ true) (sym empty) refl;
  counted = subst (λ ms. AreCounts ms counts) (sym empty) counted;
  marked = λ n. subst (λ (ms : List Move). IsMarked (has_mark ms n) (slot core.journals n)) (sym empty)
      (record { failed = λ h. absurd (false≢true h); sound = λ h. sound n; never = λ h. refl });
}

-- nothing came, and no journal failed
pub still_is : (old new : CoreModel) (nodes : List ℕ) (counts : List Count) → new.given ≡ old.given → new.moves ≡ old.moves
    → ((n : ℕ) → faults_in (slot new.journals n) ≡ faults_in (slot old.journals n)) → ((n : ℕ) → sure_in (slot new.journals n) ≡ sure_in (slot old.journals n))
    → IsExchange old nodes counts → IsExchange new nodes counts
still_is old new nodes counts given moves faults sure h = record {
  nodes_are = h.nodes_are ∙ ap (λ (g : GivenModel). nodes_in g.rights) (sym given);
  lined = subst (λ (ms : List Move). keeps_lines (setting new.given) (lines_of new.given.program) (at_start (setting new.given)) [] ms ≡ true) (sym moves)
      (subst (λ (g : GivenModel). keeps_lines (setting g) (lines_of g.program) (at_start (setting g)) [] old.moves ≡ true) (sym given) h.lined);
  counted = subst (λ ms. AreCounts ms counts) (sym moves) h.counted;
  marked = λ n. marked_same (has_mark old.moves n) (has_mark new.moves n) (slot old.journals n) (slot new.journals n) (ap (λ ms. has_mark ms n) moves) (faults n) (sure n) (h.marked n);
}
