use Rattle.std.proofs.Common.{of_calls, rules, refl}
use Rattle.std.proofs.lemmas.Result.{IfOk-weaker}
use Rattle.std.specs.BTreeMap.{get}
use Rattle.std.specs.Ordering.{nat_cmp}
use Rattle.p2p_simulated.proofs.Callers.{callable_on_each, answers_if_unchanged, pair_answers_if_unchanged}
use Rattle.uses.specs.Senders.{sending}
use Rattle.uses.proofs.rates.rates_of_senders.Goals as goal

-- the closures may be called
pub allocate-requires-clause-egress : goal.allocate-requires-clause-egress
allocate-requires-clause-egress c = search (of_calls, callable_on_each)

pub allocate-requires-clause-ingress : goal.allocate-requires-clause-ingress
allocate-requires-clause-ingress c = search (of_calls, callable_on_each)

-- and answer by the caps
pub returns : goal.returns
returns c = record {
  fair = IfOk-weaker c.allocate.result _ _ (λ rates fair. fair (sending (get nat_cmp c.args.egress.now)) (record {
    by_egress = answers_if_unchanged _ _ _ (λ p a f k. search rules) _;
    by_ingress = answers_if_unchanged _ _ _ (λ p a f k. search rules) _;
    by_link = pair_answers_if_unchanged _ _ _ (λ p q a f k. (k, refl)) _;
  })) c.allocate.ensures.under_caps;
}
