use Rattle.std.proofs.Common.{of_calls, rules}
use Rattle.p2p_simulated_c.proofs.Common.{IfOk-weaker, IfErr-weaker, caps_in}
use Rattle.fairness.proofs.Sides.Answers.{answers_if_unchanged, pair_answers_if_unchanged}
use Rattle.fairness.proofs.Sides.Callable.{callable_on_each, callable_on_each_pair}
use Rattle.p2p_simulated_c.proofs.planner.Caps.rates.Goals as goal

-- the closures may be called
pub rates_under_caps-requires-clause-egress : goal.rates_under_caps-requires-clause-egress
rates_under_caps-requires-clause-egress c = search (of_calls, callable_on_each)

pub rates_under_caps-requires-clause-ingress : goal.rates_under_caps-requires-clause-ingress
rates_under_caps-requires-clause-ingress c = search (of_calls, callable_on_each)

pub rates_under_caps-requires-clause-link : goal.rates_under_caps-requires-clause-link
rates_under_caps-requires-clause-link c = search (of_calls, callable_on_each_pair)

-- and answer by the caps
pub returns-clause-plan : goal.returns-clause-plan
returns-clause-plan c =
    IfOk-weaker c.rates_under_caps.result _ _ (λ answer plan. plan (caps_in c.args.self.now) (record {
      by_egress = answers_if_unchanged _ _ _ (λ p a f k. search rules) _;
      by_ingress = answers_if_unchanged _ _ _ (λ p a f k. search rules) _;
      by_link = pair_answers_if_unchanged _ _ _ (λ p q a f k. search rules) _;
    })) c.rates_under_caps.ensures.plan

pub returns-clause-refused : goal.returns-clause-refused
returns-clause-refused c =
    IfErr-weaker c.rates_under_caps.result _ _ (λ why refused. refused (caps_in c.args.self.now) (record {
      by_egress = answers_if_unchanged _ _ _ (λ p a f k. search rules) _;
      by_ingress = answers_if_unchanged _ _ _ (λ p a f k. search rules) _;
      by_link = pair_answers_if_unchanged _ _ _ (λ p q a f k. search rules) _;
    })) c.rates_under_caps.ensures.refused
