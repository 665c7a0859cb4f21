use Rattle.std.proofs.Common.{◌≡◌, ◌+◌, ◌≤◌, ◌∷◌, [], length, drop, sym, ap, ◌∙◌, arith, rules}
use Rattle.std.proofs.lemmas.Grind.{common_steps}
use Rattle.fab_reports.specs.Reading.{shared}
use Rattle.fab_evidence.proofs.Fronts.{shared_past_word}
use Rattle.fab_evidence.proofs.journals.shared_name.Goals as goal

pub returns-clause-count : goal.returns-clause-count
returns-clause-count c =
    let first : c.shared_front-shared.result ≡ shared c.args.name.now c.args.bytes.now = c.shared_front-shared.ensures.count in
    let far : length c.args.name.now ≤ shared c.args.name.now c.args.bytes.now = omega (arith, first) in
    let tail : c.shared_front.result ≡ shared (32 ∷ []) (drop c.shared_front-shared.result c.args.bytes.now) = first_of (search rules, grind (arith, common_steps)) in
    ap (λ k. c.shared_front-shared.result + k) tail ∙ ap (λ k. k + shared (32 ∷ []) (drop k c.args.bytes.now)) first ∙ sym (shared_past_word c.args.name.now (32 ∷ []) c.args.bytes.now far)
