use Rattle.fab_node.specs.Standing.{NodeModel}
use Rattle.fab_core.proofs.Taking.{room_behind, room_first, room_here, taken_first, taken_next}
use Rattle.fab_core.proofs.reading.journals_of.Goals as goal

pub nodes-init : goal.nodes-init
nodes-init g c = record {
  taken = taken_first _ (λ (x : NodeModel). x.journal) c.args.places.items c.args.nodes.items c.reverse.new.self.items c.requires.none c.reverse.ensures.items;
  places = room_first c.args.nodes.items c.reverse.new.self.items _ _ c.reverse.ensures.items c.requires.none c.requires.enough;
}

pub put_journal-requires : goal.put_journal-requires
put_journal-requires g c = room_here c.nodes.rest.items c.pop.new.self.items c.in-Some.slot _ _ c.in-Some.ensures.items c.nodes.invariant.places

pub nodes-preserved : goal.nodes-preserved
nodes-preserved g c = record {
  taken = taken_next (λ (x : NodeModel). x.journal) _ _ _ c.nodes.rest.items c.pop.new.self.items c.in-Some.slot c.in-Some.ensures.items
      c.put_journal.ensures.journals c.nodes.invariant.taken;
  places = room_behind c.nodes.rest.items c.pop.new.self.items c.in-Some.slot _ _ _ _ c.in-Some.ensures.items c.nodes.invariant.places
      c.put_journal.ensures.count c.put_journal.ensures.capacity;
}
