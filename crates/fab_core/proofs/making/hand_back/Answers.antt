use Rattle.std.proofs.Common.{◌≡◌, ◌-◌, [], ◌++◌, take, ap, ◌∙◌}
use Rattle.fab_core.proofs.Taking.{room_behind, room_here}
use Rattle.fab_core.proofs.AtStart.{all_back, back_next}
use Rattle.fab_core.proofs.making.hand_back.Goals as goal

pub put_journal-requires : goal.put_journal-requires
put_journal-requires g c = room_here c.made.made.items c.pop.new.self.items c.in-Some.slot _ _ c.in-Some.ensures.items c.made.invariant.places

pub made-preserved : goal.made-preserved
made-preserved g c =
    let J = g.J.Journal in
    record {
      taken = back_next (λ journal. record { content = J.content journal; synced = J.synced journal; room = J.room journal; faults = J.faults journal; sure = J.sure journal })
          _ _ c.made.made.items c.pop.new.self.items c.in-Some.slot _ c.in-Some.ensures.items c.put_journal.ensures.journals c.made.invariant.taken;
      places = room_behind c.made.made.items c.pop.new.self.items c.in-Some.slot _ _ _ _ c.in-Some.ensures.items c.made.invariant.places
          c.put_journal.ensures.count c.put_journal.ensures.capacity;
    }

pub returns : goal.returns
returns g c =
    let J = g.J.Journal in
    let last = c.in_default.ensures in
    let none : c.made.made.items ≡ [] =
    last.items ∙ ap (λ items. items ++ []) (last.rest ∙ ap (λ len. take (len - 1) c.made.made.items) last.cases.0) in
    all_back (λ journal. record { content = J.content journal; synced = J.synced journal; room = J.room journal; faults = J.faults journal; sure = J.sure journal })
    c.made.journals.items c.reverse.new.self.items c.made.made.items _ c.reverse.ensures.items none c.made.invariant.taken
