use Rattle.std.proofs.Common.{of_calls, rules, refl, ap, ℕ}
use Rattle.std.proofs.lemmas.Map.Lookups.{exact_unsigned, exact_pairs, CmpEqualImpliesEq}
use Rattle.std.proofs.lemmas.Map.Views.{tells_apart}
use Rattle.std.specs.BTreeMap.{get}
use Rattle.std.specs.Ordering.{nat_cmp}
use Rattle.p2p_simulated.proofs.Callers.{callable_on_each, answers_if_unchanged, pair_answers_if_unchanged}
use Rattle.p2p_simulated.specs.Sides.Subjects.{sent_by}
use Rattle.uses.specs.Senders.{sending}
use Rattle.uses.specs.contracts.peers.ValidatorOrd.TheImpl.{ghosts}
use Rattle.uses.specs.declared.peers.Validator.{Validator}
use Rattle.uses.proofs.peers.rates_of_validators.Goals as goal

abbrev validator_of : ℕ × ℕ → Validator
validator_of parts = record { region = parts.0; number = parts.1 }

-- validators that the order calls equal are equal, since their regions and numbers are
exact : CmpEqualImpliesEq ghosts.cmp
exact p q same = ap validator_of (exact_pairs nat_cmp nat_cmp exact_unsigned exact_unsigned (p.region, p.number) (q.region, q.number) same)

pub allocate-requires-clause-egress : goal.allocate-requires-clause-egress
allocate-requires-clause-egress c = search (of_calls, callable_on_each)

pub allocate-requires-clause-ingress : goal.allocate-requires-clause-ingress
allocate-requires-clause-ingress c = search (of_calls, callable_on_each)

pub returns : goal.returns
returns c =
    let caps = sending (get ghosts.cmp c.args.egress.now) in
    let fair = c.in_ok-allocate.ensures.under_caps caps (record {
      by_egress = answers_if_unchanged _ _ _ (λ p a f k. search rules) _;
      by_ingress = answers_if_unchanged _ _ _ (λ p a f k. search rules) _;
      by_link = pair_answers_if_unchanged _ _ _ (λ p q a f k. search rules) _;
    }) in
    record {
      kept = record {
        fair = fair;
        within = λ sender cap is. c.a_side_keeps_to_its_cap.ensures caps c.args.flows.now fair.rates (record {
          egress = λ p q same. ap caps.egress (tells_apart exact p q same);
          ingress = λ p q same. refl;
          link = λ p q r s same also. refl;
        }) fair.fair (sent_by sender) cap is;
      };
    }
