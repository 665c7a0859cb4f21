-- What posts, crashes and events begin with, and what may follow the parts of a run.
use Rattle.std.specs.Prelude.{Bool, true, false}
use Rattle.fab_base.specs.declared.token.Mark.TheVariants as m
use Rattle.fab_base.specs.declared.token.Kind.{Kind}
use Rattle.fab_base.specs.declared.token.Kind.TheVariants as k

abbrev pub begins_post : Kind → Bool
begins_post (k.Fixed m.Post) = true
begins_post _ = false

abbrev pub begins_crash : Kind → Bool
begins_crash (k.Fixed m.Crash) = true
begins_crash _ = false

abbrev pub begins_step : Kind → Bool
begins_step (k.Fixed m.Begin) = true
begins_step (k.Fixed m.Resume) = true
begins_step (k.Fixed m.Deliver) = true
begins_step (k.Fixed m.Idle) = true
begins_step (k.Fixed m.Recover) = true
begins_step _ = false

abbrev pub begins_event : Kind → Bool
begins_event (k.Fixed m.CrashIn) = true
begins_event (k.Fixed m.Post) = true
begins_event (k.Fixed m.Crash) = true
begins_event x = begins_step x

-- the number of a crash goes on with `keep`
abbrev pub after_number : Kind → Bool
after_number (k.Fixed m.Keep) = false
after_number _ = true

-- crashes go on with `cache`
abbrev pub after_crashes : Kind → Bool
after_crashes (k.Fixed m.Cache) = false
after_crashes _ = true

-- the cache goes on with `schedule`
abbrev pub after_cache : Kind → Bool
after_cache (k.Fixed m.Schedule) = false
after_cache _ = true
