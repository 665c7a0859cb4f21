use Rattle.std.proofs.Common.{◌≡◌, Err, map, length, reverse, sym, ap, ◌∙◌, subst, arith}
use Rattle.std.proofs.lemmas.List.{length-map, length-reverse}
use Rattle.fab_core.specs.Honest.{AreFor, honest_up}
use Rattle.fab_core.specs.Starts.{AreBack, IsLeft}
use Rattle.fab_core.proofs.Left.{IsHeaded, fresh_back, headed_on, journals_in, left_back}
use Rattle.fab_core.proofs.AtStart.{all_taken, failed_back, failed_room, handed_keys, long_on, nothing_left, places_on, started_on, taken_on, unmoved_back, unmoved_room}
use Rattle.fab_core.proofs.making.make_nodes.Goals as goal

pub hand_back-requires : goal.hand_back-requires
hand_back-requires g c =
    let J = g.J.Journal in
    let same = c.in-Err-Memory.ensures.memory (ap Err c.in-Err-Memory.field-0-is) in
    unmoved_room (λ j. (J.faults j, J.sure j)) c.numbers.rest.items c.next_node.new.rest.items _ _ _ _ same c.numbers.invariant.places c.in-Err-Memory.ensures.capacity

pub returns-in-Err-Memory-clause-unfailed : goal.returns-in-Err-Memory-clause-unfailed
returns-in-Err-Memory-clause-unfailed g c back e =
    let J = g.J.Journal in
    let same = c.in-Err-Memory.ensures.memory (ap Err c.in-Err-Memory.field-0-is) in
    let handed : c.from_vec.result ≡ back = cc in
    unmoved_back (λ j. (J.faults j, J.sure j)) c.numbers.rest.items c.next_node.new.rest.items back _ _ _ same c.numbers.invariant.taken
    (ap (map (λ j. (J.faults j, J.sure j))) (sym handed ∙ c.from_vec.ensures) ∙ handed_keys (λ journal. record { content = J.content journal; synced = J.synced journal; room = J.room journal; faults = J.faults journal; sure = J.sure journal })
    c.hand_back.result.items c.next_node.new.rest.items c.next_node.new.nodes.items c.hand_back.ensures)

pub returns-in-Err-Memory-clause-fresh : goal.returns-in-Err-Memory-clause-fresh
returns-in-Err-Memory-clause-fresh g c back e =
    let J = g.J.Journal in
    let same = c.in-Err-Memory.ensures.memory (ap Err c.in-Err-Memory.field-0-is) in
    let handed : c.from_vec.result ≡ back = cc in
    let inv = c.numbers.invariant in
    let low = c.numbers-test.true in
    let views = ap (map (λ journal. record { content = J.content journal; synced = J.synced journal; room = J.room journal; faults = J.faults journal; sure = J.sure journal })) (sym handed ∙ c.from_vec.ensures) ∙ c.hand_back.ensures in
    let keys = unmoved_back (λ j. (J.faults j, J.sure j)) c.numbers.rest.items c.next_node.new.rest.items back _ _ _ same inv.taken
    (handed_keys (λ journal. record { content = J.content journal; synced = J.synced journal; room = J.room journal; faults = J.faults journal; sure = J.sure journal }) back c.next_node.new.rest.items c.next_node.new.nodes.items views) in
    let many = sym (length-map back (λ j. (J.faults j, J.sure j))) ∙ ap length keys ∙ length-reverse (map (λ j. (J.faults j, J.sure j)) c.args.journals.items) ∙ length-map c.args.journals.items (λ j. (J.faults j, J.sure j)) ∙ c.requires.many in
    fresh_back (λ journal. record { content = J.content journal; synced = J.synced journal; room = J.room journal; faults = J.faults journal; sure = J.sure journal }) g.met.J.Journal.within c.args.given.now c.numbers.number (journals_in c.next_node.new.nodes.items) c.next_node.new.rest.items back (omega (arith, low))
    (subst (λ ns. AreFor IsHeaded (honest_up c.args.given.now c.numbers.number) (journals_in ns)) (sym same.nodes) inv.headed)
    (c.in-Err-Memory.ensures.empty (ap Err c.in-Err-Memory.field-0-is)) views many

pub returns-in-Err-Failed-clause-back : goal.returns-in-Err-Failed-clause-back
returns-in-Err-Failed-clause-back g c node back e =
    let J = g.J.Journal in
    let failed = c.in-Err-Failed.ensures.failed (ap Err c.in-Err-Failed.field-0-is) in
    let inv = c.numbers.invariant in
    let same : c.numbers.number ≡ node = cc in
    let handed : c.from_vec-in-Err-Failed.result ≡ back = cc in
    subst (λ n. AreBack c.args.given.now n (reverse (map (λ j. (J.faults j, J.sure j)) c.args.journals.items)) (map (λ j. (J.faults j, J.sure j)) back)) same
    (failed_back (λ j. (J.faults j, J.sure j)) c.args.given.now c.numbers.number _ _ _ _ back _ inv.started inv.long inv.taken failed
    (ap (map (λ j. (J.faults j, J.sure j))) (sym handed ∙ c.from_vec-in-Err-Failed.ensures) ∙ handed_keys (λ journal. record { content = J.content journal; synced = J.synced journal; room = J.room journal; faults = J.faults journal; sure = J.sure journal })
    c.hand_back-in-Err-Failed.result.items c.next_node.new.rest.items c.next_node.new.nodes.items c.hand_back-in-Err-Failed.ensures))

pub returns-in-Err-Failed-clause-left : goal.returns-in-Err-Failed-clause-left
returns-in-Err-Failed-clause-left g c node back e =
    let J = g.J.Journal in
    let failed = c.in-Err-Failed.ensures.failed (ap Err c.in-Err-Failed.field-0-is) in
    let ends = c.in-Err-Failed.ensures.left (ap Err c.in-Err-Failed.field-0-is) in
    let inv = c.numbers.invariant in
    let same : c.numbers.number ≡ node = cc in
    let handed : c.from_vec-in-Err-Failed.result ≡ back = cc in
    let low = c.numbers-test.true in
    let views = ap (map (λ journal. record { content = J.content journal; synced = J.synced journal; room = J.room journal; faults = J.faults journal; sure = J.sure journal })) (sym handed ∙ c.from_vec-in-Err-Failed.ensures) ∙ c.hand_back-in-Err-Failed.ensures in
    let keys = failed_back (λ j. (J.faults j, J.sure j)) c.args.given.now c.numbers.number _ _ _ _ back _ inv.started inv.long inv.taken failed (handed_keys (λ journal. record { content = J.content journal; synced = J.synced journal; room = J.room journal; faults = J.faults journal; sure = J.sure journal }) back c.next_node.new.rest.items c.next_node.new.nodes.items views) in
    let many = length-reverse (map (λ j. (J.faults j, J.sure j)) c.args.journals.items) ∙ length-map c.args.journals.items (λ j. (J.faults j, J.sure j)) ∙ c.requires.many in
    let headed = subst (λ ns. AreFor IsHeaded (honest_up c.args.given.now c.numbers.number) (journals_in ns)) (sym failed.nodes) inv.headed in
    subst (λ n. AreFor (λ m j. IsLeft n m (J.content j) (J.synced j)) (honest_up c.args.given.now 64) back) same
    (left_back (λ journal. record { content = J.content journal; synced = J.synced journal; room = J.room journal; faults = J.faults journal; sure = J.sure journal })
    g.met.J.Journal.within c.args.given.now c.numbers.number (omega (arith, low)) _ _ back _ (λ j. (J.faults j, J.sure j)) headed ends views keys many)

pub numbers-preserved : goal.numbers-preserved
numbers-preserved g c =
    let J = g.J.Journal in
    let next = c.in-Ok.ensures.next in
    let inv = c.numbers.invariant in
    record {
      started = started_on c.args.given.now c.numbers.number _ _ next.slot next.nodes inv.started inv.long next.stands;
      long = long_on c.numbers.number _ _ next.slot next.nodes inv.long;
      taken = taken_on _ _ next.slot _ _ _ next.nodes next.journals inv.taken;
      empty = c.in-Ok.ensures.rest;
      headed = headed_on c.args.given.now c.numbers.number _ _ next.slot next.nodes next.stands inv.headed;
      places = places_on (λ j. (J.faults j, J.sure j)) c.numbers.rest.items c.next_node.new.rest.items _ _ next.slot _ _ next.nodes next.journals inv.places c.in-Ok.ensures.capacity;
    }

pub returns-clause-faults : goal.returns-clause-faults
returns-clause-faults g c =
    let J = g.J.Journal in
    let inv = c.numbers.invariant in
    let low = c.numbers-test.false in
    let high = c.numbers.auto.number-end in
    all_taken (λ j. (J.faults j, J.sure j)) c.numbers.nodes.items c.numbers.rest.items _
    (nothing_left (λ j. (J.faults j, J.sure j)) c.args.given.now c.numbers.nodes.items c.numbers.rest.items c.args.journals.items inv.started
    (omega (arith, inv.long, low, high)) inv.taken c.requires.many)
    inv.taken

pub returns-clause-places : goal.returns-clause-places
returns-clause-places g c =
    let J = g.J.Journal in
    let inv = c.numbers.invariant in
    let low = c.numbers-test.false in
    let high = c.numbers.auto.number-end in
    let places = inv.places in
    record {
      none = nothing_left (λ j. (J.faults j, J.sure j)) c.args.given.now c.numbers.nodes.items c.numbers.rest.items c.args.journals.items inv.started
          (omega (arith, inv.long, low, high)) inv.taken c.requires.many;
      enough = omega (arith, places);
    }
