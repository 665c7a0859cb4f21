-- The schedule, its events and their steps, part by part.
use Rattle.std.proofs.Common.{◌≡◌, ℕ, IsTrue, List, [], ◌∷◌, length, refl, sym, subst}
use Rattle.fab_base.specs.declared.token.Mark.{Mark}
use Rattle.fab_base.specs.declared.token.Mark.TheVariants as m
use Rattle.fab_base.specs.declared.token.Kind.{Kind}
use Rattle.fab_base.specs.declared.token.Kind.TheVariants as k
use Rattle.fab_base.specs.declared.token.Token.{Token}
use Rattle.fab_tree.specs.declared.name.Name.{Name}
use Rattle.fab_tree.specs.declared.event.Step.{Step}
use Rattle.fab_tree.specs.declared.event.Step.TheVariants as steps
use Rattle.fab_tree.specs.declared.event.Event.{Event}
use Rattle.fab_tree.specs.declared.event.Event.TheVariants as events
use Rattle.fab_tree.specs.Lists.{Is, is, IsName, IsNumeral, Ended, Repeated}
use Rattle.fab_tree.specs.Runs.{IsStep, begin, resume, deliver, idle, recover, IsEvent, step, crash_in, post, crash, IsSchedule, no_schedule, schedule}
use Rattle.fab_reading.specs.Reading.{Lacks, Starts, Refused, Follows, any}
use Rattle.fab_reading.proofs.Rules.{Then, End, Sign, HasText, Going, start, turn, behind_mark, followed, token_of, lacks_too, never, here}
use Rattle.fab_reading.proofs.TokenRules.{name_text}
use Rattle.fab_reading.proofs.ItemRules.{same_starts}
use Rattle.fab_bundle.specs.Pieces.{begins_step, begins_event, after_cache}
use Rattle.fab_bundle.specs.Firsts.{step_begins, event_begins}

-- ---- step = "begin" name | "resume" name | "deliver" name name | "idle" name name | "recover" name

-- what stands behind the word that a step begins with
abbrev BehindWord : Kind → List Token → Step → List Token → Type 0
BehindWord (k.Fixed m.Begin) a v b = (x : Name) × (v ≡ steps.Begin x) × IsName a x b
BehindWord (k.Fixed m.Resume) a v b = (x : Name) × (v ≡ steps.Resume x) × IsName a x b
BehindWord (k.Fixed m.Deliver) a v b = (x : Name × Name) × (v ≡ steps.Deliver x.0 x.1) × Then IsName IsName a x b
BehindWord (k.Fixed m.Idle) a v b = (x : Name × Name) × (v ≡ steps.Idle x.0 x.1) × Then IsName IsName a x b
BehindWord (k.Fixed m.Recover) a v b = (x : Name) × (v ≡ steps.Recover x) × IsName a x b
BehindWord _ a v b = ⊥

behind_word : (t : Token) (a : List Token) (v : Step) (b : List Token) → IsStep (t ∷ a) v b → BehindWord t.kind a v b
behind_word t a v b (begin {x = x} (is e) p) = subst (λ y. BehindWord y a v b) (sym e) (x, refl, p)
behind_word t a v b (resume {x = x} (is e) p) = subst (λ y. BehindWord y a v b) (sym e) (x, refl, p)
behind_word t a v b (deliver {x = x} {y = z} (is e) p q) = subst (λ y. BehindWord y a v b) (sym e) ((x, z), refl, followed _ p q)
behind_word t a v b (idle {x = x} {y = z} (is e) p q) = subst (λ y. BehindWord y a v b) (sym e) ((x, z), refl, followed _ p q)
behind_word t a v b (recover {x = x} (is e) p) = subst (λ y. BehindWord y a v b) (sym e) (x, refl, p)

step_back : {mark : Mark} (t : Token) (a : List Token) (v : Step) (b : List Token) → t.kind ≡ k.Fixed mark → IsStep (t ∷ a) v b → BehindWord (k.Fixed mark) a v b
step_back t a v b e d = subst (λ y. BehindWord y a v b) e (behind_word t a v b d)

module _ {room : ℕ} {a c : List Token} where
  pub begin_start : Is m.Begin a c → Going IsStep any room a IsName steps.Begin room c
  begin_start i = behind_mark (λ at. steps.Begin) i refl (λ t e more v after p. begin (is e) p) (λ t e more u after d h. step_back t more u after e d)

  pub resume_start : Is m.Resume a c → Going IsStep any room a IsName steps.Resume room c
  resume_start i = behind_mark (λ at. steps.Resume) i refl (λ t e more v after p. resume (is e) p) (λ t e more u after d h. step_back t more u after e d)

  pub deliver_start : Is m.Deliver a c → Going IsStep any room a (Then IsName IsName) (λ v. steps.Deliver v.0 v.1) room c
  deliver_start i =
      behind_mark (λ at v. steps.Deliver v.0 v.1) i refl (λ t e more v after p. deliver (is e) p.first p.second) (λ t e more u after d h. step_back t more u after e d)

  pub idle_start : Is m.Idle a c → Going IsStep any room a (Then IsName IsName) (λ v. steps.Idle v.0 v.1) room c
  idle_start i =
      behind_mark (λ at v. steps.Idle v.0 v.1) i refl (λ t e more v after p. idle (is e) p.first p.second) (λ t e more u after d h. step_back t more u after e d)

  pub recover_start : Is m.Recover a c → Going IsStep any room a IsName steps.Recover room c
  recover_start i = behind_mark (λ at. steps.Recover) i refl (λ t e more v after p. recover (is e) p) (λ t e more u after d h. step_back t more u after e d)

pub step_text : HasText IsStep
step_text = (token_of m.Begin ∷ name_text.0, steps.Begin name_text.1, λ after. begin (is refl) (name_text.2 after))

no_step_begins : (x : Kind) → (x ≡ k.Fixed m.Begin → ⊥) → (x ≡ k.Fixed m.Resume → ⊥) → (x ≡ k.Fixed m.Deliver → ⊥) → (x ≡ k.Fixed m.Idle → ⊥) → (x ≡ k.Fixed m.Recover → ⊥) → IsTrue (begins_step x) → ⊥
no_step_begins (k.Fixed m.Begin) f g h i j l = f refl
no_step_begins (k.Fixed m.Resume) f g h i j l = g refl
no_step_begins (k.Fixed m.Deliver) f g h i j l = h refl
no_step_begins (k.Fixed m.Idle) f g h i j l = i refl
no_step_begins (k.Fixed m.Recover) f g h i j l = j refl
no_step_begins _ f g h i j l = never l

no_step_starts : (a : List Token) → Lacks m.Begin a → Lacks m.Resume a → Lacks m.Deliver a → Lacks m.Idle a → Lacks m.Recover a → Starts begins_step a → ⊥
no_step_starts [] f g h i j l = l
no_step_starts (t ∷ ts) f g h i j l = no_step_begins t.kind (λ e. f ts (is e)) (λ e. g ts (is e)) (λ e. h ts (is e)) (λ e. i ts (is e)) (λ e. j ts (is e)) l

pub step_refused : {room : ℕ} (a : List Token) → Lacks m.Begin a → Lacks m.Resume a → Lacks m.Deliver a → Lacks m.Idle a → Lacks m.Recover a → Refused IsStep any room a (length a)
step_refused a f g h i j = here begins_step step_begins step_text (no_step_starts a f g h i j)

-- ---- event = step | "crashin" number step | "post" name | "crash" name

-- what begins with this mark begins no step
no_step : {mark : Mark} {t : Token} {a : List Token} {v : Step} {b : List Token} → (IsTrue (begins_step (k.Fixed mark)) → ⊥) → t.kind ≡ k.Fixed mark
    → IsStep (t ∷ a) v b → ⊥
no_step h e p = h (subst (λ x. IsTrue (begins_step x)) e (step_begins _ _ _ p))

cut_back : {t : Token} {a : List Token} {v : Event} {b : List Token} → t.kind ≡ k.Fixed m.CrashIn → IsEvent (t ∷ a) v b
    → (x : ℕ × Step) × (v ≡ events.CrashIn x.0 x.1) × Then IsNumeral IsStep a x b
cut_back e (step p) = absurd (no_step never e p)
cut_back e (crash_in {n = n} {x = x} (is g) p q) = ((n, x), refl, followed _ p q)
cut_back e (post (is g) p) = absurd (cc)
cut_back e (crash (is g) p) = absurd (cc)

pub cut_start : {room : ℕ} {a c : List Token} → Is m.CrashIn a c → Going IsEvent any room a (Then IsNumeral IsStep) (λ v. events.CrashIn v.0 v.1) room c
cut_start i = behind_mark (λ at v. events.CrashIn v.0 v.1) i refl (λ t e more v after p. crash_in (is e) p.first p.second) (λ t e more u after d h. cut_back e d)

posted_back : {t : Token} {a : List Token} {v : Event} {b : List Token} → t.kind ≡ k.Fixed m.Post → IsEvent (t ∷ a) v b → (x : Name) × (v ≡ events.Post x) × IsName a x b
posted_back e (step p) = absurd (no_step never e p)
posted_back e (crash_in (is g) p q) = absurd (cc)
posted_back e (post {x = x} (is g) p) = (x, refl, p)
posted_back e (crash (is g) p) = absurd (cc)

pub posted_start : {room : ℕ} {a c : List Token} → Is m.Post a c → Going IsEvent any room a IsName events.Post room c
posted_start i = behind_mark (λ at. events.Post) i refl (λ t e more v after p. post (is e) p) (λ t e more u after d h. posted_back e d)

crashed_back : {t : Token} {a : List Token} {v : Event} {b : List Token} → t.kind ≡ k.Fixed m.Crash → IsEvent (t ∷ a) v b
    → (x : Name) × (v ≡ events.Crash x) × IsName a x b
crashed_back e (step p) = absurd (no_step never e p)
crashed_back e (crash_in (is g) p q) = absurd (cc)
crashed_back e (post (is g) p) = absurd (cc)
crashed_back e (crash {x = x} (is g) p) = (x, refl, p)

pub crashed_start : {room : ℕ} {a c : List Token} → Is m.Crash a c → Going IsEvent any room a IsName events.Crash room c
crashed_start i = behind_mark (λ at. events.Crash) i refl (λ t e more v after p. crash (is e) p) (λ t e more u after d h. crashed_back e d)

stepped_back : {a : List Token} {v : Event} {b : List Token} → Starts begins_step a → IsEvent a v b → (y : Step) × (v ≡ events.Step y) × IsStep a y b
stepped_back s (step {x = y} p) = (y, refl, p)
stepped_back s (crash_in (is e) p q) = absurd (never (subst (λ x. IsTrue (begins_step x)) e s))
stepped_back s (post (is e) p) = absurd (never (subst (λ x. IsTrue (begins_step x)) e s))
stepped_back s (crash (is e) p) = absurd (never (subst (λ x. IsTrue (begins_step x)) e s))

-- a step alone
pub stepped_start : {room : ℕ} (a : List Token) → Starts begins_step a → Going IsEvent any room a IsStep events.Step room a
stepped_start {room = room} a s =
    turn events.Step (start IsEvent any room a) (λ more v after. step) (λ more v after same d f. stepped_back (same_starts begins_step a more same s) d)

pub event_text : HasText IsEvent
event_text = (step_text.0, events.Step step_text.1, λ after. step (step_text.2 after))

no_event_begins : (x : Kind) → (IsTrue (begins_step x) → ⊥) → (x ≡ k.Fixed m.CrashIn → ⊥) → (x ≡ k.Fixed m.Post → ⊥) → (x ≡ k.Fixed m.Crash → ⊥) → IsTrue (begins_event x) → ⊥
no_event_begins (k.Fixed m.CrashIn) f g h i l = g refl
no_event_begins (k.Fixed m.Post) f g h i l = h refl
no_event_begins (k.Fixed m.Crash) f g h i l = i refl
no_event_begins x f g h i l = f l

no_event_starts : (a : List Token) → (Starts begins_step a → ⊥) → Lacks m.CrashIn a → Lacks m.Post a → Lacks m.Crash a → Starts begins_event a → ⊥
no_event_starts [] f g h i l = l
no_event_starts (t ∷ ts) f g h i l = no_event_begins t.kind f (λ e. g ts (is e)) (λ e. h ts (is e)) (λ e. i ts (is e)) l

pub event_refused : {room : ℕ} (a : List Token) → (Starts begins_step a → ⊥) → Lacks m.CrashIn a → Lacks m.Post a → Lacks m.Crash a → Refused IsEvent any room a (length a)
event_refused a f g h i = here begins_event event_begins event_text (no_event_starts a f g h i)

-- ---- schedule = ["schedule" "{" {event ";"} "}"]

abbrev pub ScheduleChain : List Token → Unit {0} × (List Event × Unit {0}) → List Token → Type 0
ScheduleChain = Then (Sign m.LeftBrace) (Then (Repeated (Ended m.Semicolon IsEvent)) (Sign m.RightBrace))

schedule_back : {t : Token} {a : List Token} {v : List Event} {b : List Token} → t.kind ≡ k.Fixed m.Schedule → IsSchedule (t ∷ a) v b → Follows after_cache b
    → (x : Unit {0} × (List Event × Unit {0})) × (v ≡ x.1.0) × ScheduleChain a x b
schedule_back e no_schedule h = absurd (never (subst (λ x. IsTrue (after_cache x)) e h))
schedule_back e (schedule {xs = xs} (is g) p q r) h = ((tt, (xs, tt)), refl, followed _ p (followed _ q r))

pub schedule_start : {room : ℕ} {a c : List Token} → Is m.Schedule a c → Going IsSchedule after_cache room a ScheduleChain (λ v. v.1.0) room c
schedule_start i =
    behind_mark (λ at v. v.1.0) i refl (λ t e more v after p. schedule (is e) p.first p.second.first p.second.second) (λ t e more u after d h. schedule_back e d h)

none_back : {a : List Token} {v : List Event} {b : List Token} → Lacks m.Schedule a → IsSchedule a v b → (x : Unit {0}) × (v ≡ []) × (a ≡ b)
none_back h no_schedule = (tt, refl, refl)
none_back h (schedule i j p l) = absurd (h _ i)

-- no schedule is given
pub schedule_none : {room : ℕ} (a : List Token) → Lacks m.Schedule a → Going IsSchedule after_cache room a End (λ x. []) room a
schedule_none {room = room} a lacks = turn (λ x. []) (start IsSchedule after_cache room a) (λ more v after p. subst (λ x. IsSchedule more [] x) p no_schedule) (λ more v after same p h. none_back (λ c i. lacks_too a more c lacks same i) p)

pub schedule_text : HasText IsSchedule
schedule_text = ([], [], λ after. no_schedule)
