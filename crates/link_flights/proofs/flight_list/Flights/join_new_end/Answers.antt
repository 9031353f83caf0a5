use Rattle.link_flights.proofs.Common.{inl, inr, take, sym, ◌∙◌, have_end}
use Rattle.link_flights.proofs.Common.{false≢true, true, ◌≡◌, ◌⊎◌, Contains, subst, All-weaker, SharesEndAt}
use Rattle.link_pairs.specs.declared.message.Message.{Message}
use Rattle.link_flights.specs.Flights.Components.{HasListedEnd}
use Rattle.link_flights.proofs.Flights.Search.{listed_before}
use Rattle.std.proofs.lemmas.List.Elements.{Contains-get_or}
use Rattle.link_flights.proofs.flight_list.Flights.join_new_end.Goals as goal

pub returns-then-not-have-clause-listed : goal.returns-then-not-have-clause-listed
returns-then-not-have-clause-listed g c = record {
  listed = λ via. absurd (false≢true (sym c.if-not-have.true ∙ c.have.ensures ∙ via));
  more = λ at here. here;
  only = λ k d low. inl (Contains-get_or c.args.component.now.near.items k d low);
}

pub returns-then-was_joined-clause-listed : goal.returns-then-was_joined-clause-listed
returns-then-was_joined-clause-listed g c =
    let old = c.args.component.now in
    let m = c.args.joined.now.message.value in
    record {
      listed = λ via. listed_before g.P.Ord.cmp g.met.P.Ord.total c.args.end m c.args.self.now.list.items
          (take c.args.number old.joined.items) old.near.items c.requires.before
          (c.was_joined.ensures c.if-was_joined.true);
      more = λ at here. here;
      only = λ k d low. inl (Contains-get_or old.near.items k d low);
    }

pub returns-clause-listed : goal.returns-clause-listed
returns-clause-listed g c =
    let cmp = g.P.Ord.cmp in
    let list = c.args.self.now.list.items in
    let old = c.args.component.now.near.items in
    let new = c.join_end.new.component.near.items in
    let e = c.in_ok-join_end.ensures in
    let via = sym c.have.ensures ∙ c.if-not-have.false in
    let ends = c.args.joined.now.ends in
    subst (λ (m : Message g.row.P.Denot). HasListedEnd cmp c.args.end ends m list old new) c.deref.ensures
    (record {
      listed = λ is. e.listed;
      more = e.more;
      only = All-weaker (λ p. Contains old p ⊎ SharesEndAt cmp c.args.end c.deref.result.now list p)
          (λ p. Contains old p
          ⊎ ((have_end ends c.args.end ≡ true) × SharesEndAt cmp c.args.end c.deref.result.now list p))
          (λ p is. elim is [ inl was ↦ inl was | inr shares ↦ inr (via, shares) ]) new e.only;
    })
