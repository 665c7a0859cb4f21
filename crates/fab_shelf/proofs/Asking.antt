-- What is asked of one transaction more.
use Rattle.std.proofs.Common.{◌≡◌, ℕ, ◌+◌, ◌<◌, List, [], ◌∷◌, ◌++◌, length, map, take, get_or, sym, ap, ◌∙◌}
use Rattle.std.proofs.lemmas.List.{map-append, take_more}
use Rattle.fab_base.specs.declared.message.Message.{Message}
use Rattle.fab_base.specs.declared.message.Message.TheVariants.{Inquire}
use Rattle.fab_protocol.specs.Stores.{Prepared}
use Rattle.fab_sent.specs.Messages.{all_spelled}
use Rattle.fab_base.specs.MessageSpelling.{spelled}

abbrev asked : Prepared → ℕ × Message
asked p = (p.0.worker, Inquire p.0)

abbrev spelled_send : ℕ × Message → ℕ × List ℕ
spelled_send y = (y.0, spelled y.1)

pub one_more : (ps : List Prepared) (i : ℕ) (p : Prepared) (sends new : List (ℕ × List ℕ)) (send : ℕ × List ℕ) → i < length ps → p ≡ get_or ps i p
    → sends ≡ all_spelled (map asked (take i ps)) → send ≡ (p.0.worker, spelled (Inquire p.0)) → new ≡ sends ++ send ∷ [] → new ≡ all_spelled (map asked (take (i + 1) ps))
one_more ps i p sends new send within at so spells pushed =
    pushed
    ∙ ap (λ (l : List (ℕ × List ℕ)). l ++ send ∷ []) so
    ∙ ap (λ (y : ℕ × List ℕ). all_spelled (map asked (take i ps)) ++ y ∷ []) spells
    ∙ sym (map-append spelled_send (map asked (take i ps)) (asked p ∷ []))
    ∙ ap all_spelled (sym (map-append asked (take i ps) (p ∷ [])) ∙ ap (map asked) (ap (λ (q : Prepared). take i ps ++ q ∷ []) at ∙ sym (take_more ps i p within)))
