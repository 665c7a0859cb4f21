-- What an evaluation that lacks an object, or none, makes of a worker.
use Rattle.std.proofs.Common.{◌≡◌, ℕ, true, false, if◌then◌else◌, List, [], ◌∷◌, ◌++◌, Option, Some, None, refl, sym, ap, ◌∙◌, subst}
use Rattle.fab_base.specs.declared.message.Message.{Message}
use Rattle.fab_base.specs.declared.message.Message.TheVariants.{Fetch}
use Rattle.fab_base.specs.declared.object.Oid.{Oid}
use Rattle.fab_base.specs.declared.object.Tid.{Tid}
use Rattle.fab_base.specs.FlatMap.{map_of}
use Rattle.fab_known.specs.Knowing.{Lacks, Runner, ran_by}
use Rattle.fab_known.specs.Tables.{AreAlike}
use Rattle.fab_language.specs.declared.ending.Ending.{Ending}
use Rattle.fab_language.specs.declared.ending.Ending.TheVariants as endings
use Rattle.fab_language.specs.Meaning.{Meant}
use Rattle.fab_protocol.specs.Caches.{cached_row}
use Rattle.fab_protocol.specs.Versions.{Rows, objects_of}
use Rattle.fab_release.specs.Replay.{WorkerSeen, asked_by, asks_by, fetch, got_by, knows, row_at, run, tid_of, unless_cached}
use Rattle.fab_release.specs.Sights.{Public, Sight}
use Rattle.fab_public.specs.States.{IsRunBy}

-- what runs is as everybody may know it
pub ran_is : (sight : Sight) (P : Public) (n : ℕ) (v : WorkerSeen) (r : Runner) (t : Tid) → IsRunBy P r → t ≡ tid_of sight P n v
    → ran_by r t.worker v.request t (map_of (objects_of v.known)) v.given ≡ run sight P n v
ran_is sight P n v r t by is =
    ap (λ (u : Tid). ran_by r u.worker v.request u (map_of (objects_of v.known)) v.given) is
    ∙ by.same n v.request (tid_of sight P n v) (map_of (objects_of v.known)) v.given

pub lacks_by : (sight : Sight) (P : Public) (n : ℕ) (v : WorkerSeen) (r : Runner) (t : Tid) (o : Option Oid) → IsRunBy P r → t ≡ tid_of sight P n v
    → Lacks o (ran_by r t.worker v.request t (map_of (objects_of v.known)) v.given).ending → Lacks o (run sight P n v).ending
lacks_by sight P n v r t o by is h = subst (λ (m : Meant). Lacks o m.ending) (ran_is sight P n v r t by is) h

module _ (sight : Sight) (P : Public) (n : ℕ) (e : Ending) (v : WorkerSeen) where
  abbrev pub fetched : Oid → List (ℕ × Message)
  fetched o = let told : ℕ × Message = (o.store, Fetch (tid_of sight P n v) o) in unless_cached sight P (cached_row v.caches o) (told ∷ [])

  -- an object of a store in the set
  pub asks_inside : (o : Oid) → Lacks (Some o) e → sight.has o.store ≡ true → asked_by sight P o (cached_row v.caches o) v ≡ asks_by sight P e v
  asks_inside o l has = sym (ap (λ (x : Ending). asks_by sight P x v) l.1 ∙ ap (λ b. if b then asked_by sight P o (cached_row v.caches o) v else v) has)

  pub fetch_inside : (o : Oid) → Lacks (Some o) e → sight.has o.store ≡ true → fetched o ≡ fetch sight P n e v
  fetch_inside o l has = sym (ap (λ (x : Ending). fetch sight P n x v) l.1 ∙ ap (λ b. if b then fetched o else []) has)

  pub got_inside : (table : Rows) (version : ℕ) (o : Oid) → Lacks (Some o) e → sight.has o.store ≡ true → v ≡ got_by sight P table version e v
  got_inside table version o l has =
      sym (ap (λ (x : Ending). got_by sight P table version x v) l.1 ∙ ap (λ b. if b then v else knows sight P (row_at table o version) v) has)

  -- an object of another store
  pub asks_outside : (o : Oid) → Lacks (Some o) e → sight.has o.store ≡ false → v ≡ asks_by sight P e v
  asks_outside o l has = sym (ap (λ (x : Ending). asks_by sight P x v) l.1 ∙ ap (λ b. if b then asked_by sight P o (cached_row v.caches o) v else v) has)

  pub fetch_outside : (o : Oid) → Lacks (Some o) e → sight.has o.store ≡ false → [] ≡ fetch sight P n e v
  fetch_outside o l has = sym (ap (λ (x : Ending). fetch sight P n x v) l.1 ∙ ap (λ b. if b then fetched o else []) has)

  pub got_outside : (table : Rows) (version : ℕ) (o : Oid) → Lacks (Some o) e → sight.has o.store ≡ false → knows sight P (row_at table o version) v ≡ got_by sight P table version e v
  got_outside table version o l has =
      sym (ap (λ (x : Ending). got_by sight P table version x v) l.1 ∙ ap (λ b. if b then v else knows sight P (row_at table o version) v) has)

-- no object
module _ (sight : Sight) (P : Public) (n : ℕ) where
  pub asks_none : (e : Ending) (v : WorkerSeen) → Lacks None e → v ≡ asks_by sight P e v
  asks_none (endings.Ended value) v l = refl
  asks_none endings.Failed v l = refl
  asks_none (endings.Stopped stop) v l = refl
  asks_none (endings.Missing site o) v l = absurd l

  pub fetch_none : (e : Ending) (v : WorkerSeen) → Lacks None e → [] ≡ fetch sight P n e v
  fetch_none (endings.Ended value) v l = refl
  fetch_none endings.Failed v l = refl
  fetch_none (endings.Stopped stop) v l = refl
  fetch_none (endings.Missing site o) v l = absurd l

  pub got_none : (table : Rows) (version : ℕ) (e : Ending) (v : WorkerSeen) → Lacks None e → v ≡ got_by sight P table version e v
  got_none table version (endings.Ended value) v l = refl
  got_none table version endings.Failed v l = refl
  got_none table version (endings.Stopped stop) v l = refl
  got_none table version (endings.Missing site o) v l = absurd l

-- what is got of a table is what is got of one that is alike
pub got_alike : (sight : Sight) (P : Public) (rows others : Rows) (version : ℕ) (ending : Ending) (v : WorkerSeen) → AreAlike rows others
    → got_by sight P rows version ending v ≡ got_by sight P others version ending v
got_alike sight P rows others version (endings.Missing site o) v h = ap (λ (l : Rows). if sight.has o.store then v else record v { known = v.known ++ l }) (h o version)
got_alike sight P rows others version (endings.Ended value) v h = refl
got_alike sight P rows others version endings.Failed v h = refl
got_alike sight P rows others version (endings.Stopped stop) v h = refl
