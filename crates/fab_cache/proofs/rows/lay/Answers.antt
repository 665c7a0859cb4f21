use Rattle.fab_cache.proofs.Laying.{none_laid, shorter, some_laid, still_fits}
use Rattle.std.proofs.Common.{◌≡◌, ◌∙◌, length, arith}
use Rattle.fab_cache.proofs.rows.lay.Goals as goal

pub loop-one-preserved-in-Some-one : goal.loop-one-preserved-in-Some-one
loop-one-preserved-in-Some-one c =
    let place : c.len.result ≡ length c.pop.new.self.items = omega (arith, c.pop.new.self.ok.0) in
    record {
      onward = c.loop-one.invariant.onward
          ∙ some_laid c.loop-one.new.items c.pop.new.self.items c.in-Some.one c.in-Some-one.cache c.loop-one.caches c.len.result
          c.in-Some.ensures.items c.in-Some-one.is place c.loop-one.invariant.fits;
      fits = still_fits c.pop.new.self.items c.loop-one.caches c.len.result c.in-Some-one.cache
          (shorter c.loop-one.new.items c.pop.new.self.items c.in-Some.one (length c.loop-one.caches) c.in-Some.ensures.items c.loop-one.invariant.fits);
    }

pub loop-one-preserved : goal.loop-one-preserved
loop-one-preserved c =
    let short = shorter c.loop-one.new.items c.pop.new.self.items c.in-Some.one (length c.loop-one.caches) c.in-Some.ensures.items c.loop-one.invariant.fits in
    record {
      onward = c.loop-one.invariant.onward
          ∙ none_laid c.loop-one.new.items c.pop.new.self.items c.in-Some.one c.loop-one.caches c.in-Some.ensures.items c.in_default-one.is;
      fits = omega (arith, short);
    }
