use Rattle.std.proofs.Common.{sym, ◌∙◌}
use Rattle.std.proofs.lemmas.Bool.{both_ways, iff_false}
use Rattle.fab_places.proofs.policies.may_hold.Goals as goal
use Rattle.fab_places.proofs.policies.may_hold.Goals.{then-is_reader, else-is_reader}

pub returns-then-is_reader-2 : goal.returns-then-is_reader-2
returns-then-is_reader-2 c = elim c.if-is_reader.branch [
  | then-is_reader w ↦ record {
    exact = (
      λ t. record { reads = c.is_reader.ensures.0 w.if-is_reader.true; learns = w.is_reader-then-is_reader.ensures.0 (sym w.value-is ∙ c.if-is_reader-2.true); writes = c.is_writer.ensures.0 t },
      λ holds. c.is_writer.ensures.1 holds.writes,
    );
  }
  | else-is_reader w ↦ absurd (both_ways _ w.if-is_reader.false (sym w.value-is ∙ c.if-is_reader-2.true))
]

pub returns-else-is_reader-2 : goal.returns-else-is_reader-2
returns-else-is_reader-2 c = record {
  exact = (
    λ t. absurd (both_ways _ c.if-is_reader-2.false t),
    λ holds. elim c.if-is_reader.branch [
      | then-is_reader w ↦ w.value-is ∙ w.is_reader-then-is_reader.ensures.1 holds.learns
      | else-is_reader w ↦ absurd (iff_false c.is_reader.ensures w.if-is_reader.false holds.reads)
    ],
  );
}
