use Rattle.std.proofs.Common.{◌≡◌, ◌+◌, ◌++◌, ◌∷◌, [], List, ap, sym, ◌∙◌, subst, take}
use Rattle.std.proofs.lemmas.List.{take_more}
use Rattle.fab_net.specs.declared.note.Logged.{Logged}
use Rattle.fab_record.specs.Kept.{IsPast}
use Rattle.fab_record.specs.Views.{sight_in}
use Rattle.fab_record.proofs.Passing.{released_step}
use Rattle.fab_record.proofs.whole.released.Goals as goal

pub loop-logged-preserved : goal.loop-logged-preserved
loop-logged-preserved c =
    let sight = sight_in c.in_ok-sights.sights in
    let log = c.args.log.now in
    let i = c.loop-logged.logged-index in
    let x = c.logged-item.result in
    let more : take (i + 1) log ≡ take i log ++ x ∷ [] = take_more log i x c.loop-logged-test.true ∙ ap (λ (y : Logged). take i log ++ y ∷ []) (sym c.logged-item.is) in (
      subst (λ (l : List Logged). IsPast sight l c.put.new.self) (sym more) (c.in_ok-put.ensures (take i log) c.loop-logged.invariant.0),
      released_step sight log i x c.loop-logged.past c.loop-logged.out c.put_event.new.out _ c.loop-logged.invariant.0
          c.loop-logged-test.true c.logged-item.is c.in_ok-put_event.ensures more c.loop-logged.invariant.1,
    )
