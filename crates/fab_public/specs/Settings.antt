-- What is known before any entry, as the replay sees it.
use Rattle.fab_rights.specs.Computed.{has_bit}
use Rattle.fab_release.specs.Bundles.{public_of, sight_of}
use Rattle.fab_release.specs.Sights.{Public, Sight}
use Rattle.fab_public.specs.declared.setting.Setting.{Setting}

abbrev pub sight_at : Setting → Sight
sight_at c = sight_of (has_bit c.seen.labels) (has_bit c.seen.classes) (has_bit c.nodes) c.part.now

abbrev pub public_at : Setting → Public
public_at c = public_of (has_bit c.seen.labels) (has_bit c.seen.classes) c.rights.now c.part.now
