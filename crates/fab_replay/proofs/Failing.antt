-- Events in which a call of a journal counts as having failed.
use Rattle.std.specs.Prelude.{◌≡◌, Bool, true, false, ◌&&◌, ◌||◌, length, is_some}
use Rattle.std.proofs.Common.{refl, ap, ◌∙◌, arith}
use Rattle.std.proofs.lemmas.Bool.{le-leb}
use Rattle.fab_net.specs.declared.event.Inner.{Inner}
use Rattle.fab_net.specs.declared.event.Inner.TheVariants as i
use Rattle.fab_world.specs.Machine.{Cuts, Fails, Setting, World, act, enabled, may, record_at}
use Rattle.fab_replay.specs.Running.{is_recovery}

module _ (S : Setting) (w : World) where
  -- a record may be cut before its first byte
  from_first : (e : Inner) → enabled S w (Cuts 0 e) ≡ (may S w e && is_some (act S w e).entry && true)
  from_first e = ap (λ b. may S w e && is_some (act S w e).entry && b) (le-leb 0 (length (record_at S w e)) (omega arith))

  of_recovery : (m entry : Bool) → ((true && m) || (m && entry && true)) ≡ (m && true && true)
  of_recovery true entry = refl
  of_recovery false entry = refl

  -- a recovery calls the journal, and every other event where it writes a record
  fails_is : (e : Inner) → ((is_recovery e && may S w e) || (may S w e && is_some (act S w e).entry && true)) ≡ enabled S w (Fails 0 e)
  fails_is (i.Begin n) = refl
  fails_is (i.Resume n) = refl
  fails_is (i.Deliver a b) = refl
  fails_is (i.Idle n s) = refl
  fails_is (i.Recover n) = of_recovery (may S w (i.Recover n)) (is_some (act S w (i.Recover n)).entry)

  pub may_fail : (e : Inner) (recovers cut : Bool) → recovers ≡ (is_recovery e && may S w e) → cut ≡ enabled S w (Cuts 0 e) → (recovers || cut) ≡ enabled S w (Fails 0 e)
  may_fail e recovers cut r c = ap (λ b. b || cut) r ∙ ap (λ b. (is_recovery e && may S w e) || b) (c ∙ from_first e) ∙ fails_is e
