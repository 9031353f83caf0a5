use Rattle.link_simulation.proofs.Common.{◌≤◌, [], ◌∷◌, refl, arith, Side, all_of_each}
use Rattle.link_laws.proofs.model.meanings.a_message_may_go_alone.Goals as goal

pub returns-clause-alone : goal.returns-clause-alone
returns-clause-alone c =
    record { limited = refl; none_sending = refl; none_waiting = refl; in_order = refl; has_id = omega arith }

-- what the message uses: what its origin may send, and what its recipient may receive
abbrev egress : Side
egress = record { cap = 3; users = 0 ∷ [] }

abbrev ingress : Side
ingress = record { cap = 7; users = 0 ∷ [] }

pub returns-clause-least : goal.returns-clause-least
returns-clause-least c = record {
  side = egress;
  used = (0, omega arith, refl);
  own = refl;
  least = all_of_each (λ (other : Side). 3 ≤ other.cap) (egress ∷ ingress ∷ []) (omega arith, (omega arith, tt));
}

pub returns-clause-time : goal.returns-clause-time
returns-clause-time c = record { covers = omega arith; least = λ k h. omega (arith, h) }
