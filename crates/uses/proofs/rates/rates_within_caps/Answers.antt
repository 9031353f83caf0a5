use Rattle.std.proofs.Common.{refl, ap}
use Rattle.std.proofs.lemmas.Map.Lookups.{exact_unsigned}
use Rattle.std.proofs.lemmas.Map.Views.{tells_apart}
use Rattle.std.proofs.lemmas.Result.{IfOk-weaker}
use Rattle.std.specs.BTreeMap.{get}
use Rattle.std.specs.Ordering.{nat_cmp}
use Rattle.p2p_simulated.specs.Fairness.UnderCaps.{AreOfPeers}
use Rattle.p2p_simulated.specs.Sides.Subjects.{sent_by}
use Rattle.uses.specs.Senders.{sending}
use Rattle.uses.proofs.rates.rates_within_caps.Goals as goal

-- numbers that are one peer are equal, so they have one cap
of_peers : (c : goal.After-rates_of_senders) → AreOfPeers nat_cmp (sending (get nat_cmp c.args.egress.now))
of_peers c = record {
  egress = λ p q same. ap (get nat_cmp c.args.egress.now) (tells_apart exact_unsigned p q same);
  ingress = λ p q same. refl;
  link = λ p q r s same also. refl;
}

pub returns : goal.returns
returns c = record {
  kept = IfOk-weaker c.rates_of_senders.result _ _ (λ rates fair. record {
    fair = fair;
    within = λ sender cap is.
        c.a_side_keeps_to_its_cap.ensures (sending (get nat_cmp c.args.egress.now)) c.args.flows.now fair.rates
        (of_peers c) fair.fair (sent_by sender) cap is;
  }) c.rates_of_senders.ensures.fair;
}
