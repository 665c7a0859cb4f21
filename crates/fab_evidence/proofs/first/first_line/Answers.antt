use Rattle.std.proofs.Common.{◌≡◌, ◌∷◌, take, ap, ◌∙◌, rules, arith}
use Rattle.std.proofs.lemmas.Bool.{ne_eqb}
use Rattle.std.proofs.lemmas.List.{nil_from_length}
use Rattle.std.proofs.lemmas.Grind.{common_steps}
use Rattle.fab_evidence.specs.First.{lines_in}
use Rattle.fab_evidence.proofs.Lines.{ended_here, never_ended, one_on}
use Rattle.fab_evidence.proofs.first.first_line.Goals as goal

pub letters-preserved : goal.letters-preserved
letters-preserved c =
    one_on c.args.bytes.now c.letters.rest.now c.letters.count c.in-Some.byte.now c.in-Some.after.now c.letters.invariant (search rules)
    (ne_eqb c.in-Some.byte.now 10 c.if-byte-eq10.false)

pub returns-then-byte-eq10-clause-lines : goal.returns-then-byte-eq10-clause-lines
returns-then-byte-eq10-clause-lines c =
    let p : c.letters.rest.now ≡ c.in-Some.byte.now ∷ c.in-Some.after.now = search rules in
    let e : lines_in c.args.bytes.now ≡ take c.letters.count c.args.bytes.now ∷ lines_in c.in-Some.after.now =
    ended_here c.args.bytes.now c.letters.rest.now c.letters.count c.in-Some.after.now c.letters.invariant (p ∙ ap (λ b. b ∷ c.in-Some.after.now) c.if-byte-eq10.true) in
    grind (arith, common_steps, e)

pub returns-clause-lines : goal.returns-clause-lines
returns-clause-lines c = never_ended c.args.bytes.now c.letters.rest.now c.letters.count c.letters.invariant (nil_from_length c.letters.rest.now (c.in_default.ensures {u = tt}).cases) c.requires
