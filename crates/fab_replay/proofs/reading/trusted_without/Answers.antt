use Rattle.std.specs.Prelude.{◌↔◌, IsBitSet}
use Rattle.std.proofs.Common.{subst}
use Rattle.fab_places.specs.Places.{ClassExcludes}
use Rattle.fab_replay.proofs.Readable.{class_excludes}
use Rattle.fab_replay.proofs.reading.trusted_without.Goals as goal

pub returns : goal.returns
returns c = λ k. class_excludes c.args.program.now c.requires.numbers c.args.hostile c.requires.hostile c.excluding.result k
    (subst (λ d. IsBitSet c.excluding.result k ↔ ClassExcludes c.args.program.now d c.args.hostile k) c.requires.of (c.excluding.ensures.exact k))
