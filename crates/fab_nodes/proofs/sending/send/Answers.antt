use Rattle.std.proofs.Common.{rules, ◌≡◌, ◌≤◌, ◌∷◌, [], ℕ, List, length, reverse, sym, subst, ◌∙◌}
use Rattle.std.proofs.lemmas.List.{nil_from_length}
use Rattle.fab_queues.specs.Channels.{spare_of}
use Rattle.fab_nodes.specs.Transit.{AreSentOut, bytes_to, is_up_at}
use Rattle.fab_nodes.proofs.Sent.{last_first, room_left, sent_more, sent_none, still_none}
use Rattle.fab_nodes.proofs.sending.send.Goals as goal

pub loop-to-preserved : goal.loop-to-preserved
loop-to-preserved g c =
    let e : reverse c.loop-to.rest.items ≡ (c.in-Some.to, c.in-Some.bytes) ∷ reverse c.pop.new.self.items =
    last_first c.pop.new.self.items c.loop-to.rest.items (c.in-Some.to, c.in-Some.bytes) c.in-Some.ensures.items in
    record {
      lanes = c.send_one.ensures.sent.lanes ∙ c.loop-to.invariant.lanes;
      room = λ b p.
          room_left b (c.in-Some.to, c.in-Some.bytes) (reverse c.pop.new.self.items) (spare_of c.loop-to.queues c.args.n b) (spare_of c.send_one.new.queues c.args.n b)
          (subst (λ (ys : List (ℕ × List ℕ)). length (bytes_to b ys) ≤ spare_of c.loop-to.queues c.args.n b) e (c.loop-to.invariant.room b p)) (c.send_one.ensures.room b);
      idle = λ b down.
          still_none c.args.rights.now (is_up_at c.args.nodes.now) c.args.n ((c.in-Some.to, c.in-Some.bytes) ∷ []) c.loop-to.queues c.send_one.new.queues
          c.send_one.ensures.sent b down (c.loop-to.invariant.idle b down);
      goes = λ last sent.
          c.loop-to.invariant.goes last
          (subst (λ (ys : List (ℕ × List ℕ)). AreSentOut c.args.rights.now (is_up_at c.args.nodes.now) c.args.n ys c.loop-to.queues last) (sym e)
          (sent_more c.args.rights.now (is_up_at c.args.nodes.now) c.args.n (c.in-Some.to, c.in-Some.bytes) (reverse c.pop.new.self.items) c.loop-to.queues
          c.send_one.new.queues last c.send_one.ensures.sent sent));
    }

pub returns : goal.returns
returns g c =
    let none : length c.loop-to.rest.items ≡ 0 = search (rules, c.in_default.ensures.cases) in
    c.loop-to.invariant.goes c.loop-to.queues
    (subst (λ (ys : List (ℕ × List ℕ)). AreSentOut c.args.rights.now (is_up_at c.args.nodes.now) c.args.n (reverse ys) c.loop-to.queues c.loop-to.queues)
    (sym (nil_from_length c.loop-to.rest.items none)) (sent_none c.args.rights.now (is_up_at c.args.nodes.now) c.args.n c.loop-to.queues))
