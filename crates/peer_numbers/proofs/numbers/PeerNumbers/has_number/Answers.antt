use Rattle.std.proofs.Common.{rules, ◌≡◌, Some, slice_get, get_or, length, arith, refl, ap, sym, ◌∙◌}
use Rattle.std.proofs.lemmas.Bool.{ltb-true}
use Rattle.std.proofs.lemmas.Option.{slice_get_read}
use Rattle.peer_numbers.proofs.Peers.{number_there}
use Rattle.peer_numbers.proofs.numbers.PeerNumbers.has_number.Goals as goal

pub returns-in-Some : goal.returns-in-Some
returns-in-Some g c = λ same.
    let peers = c.self.inside.peers.items in
    let all : c.deref.result.now ≡ peers = c.deref.ensures.value in
    let within = ltb-true c.args.number (length c.deref.result.now) (sym c.in-Some.ensures.lookup.0) in
    let there : slice_get peers c.args.number ≡ Some c.in-Some.known.now =
    slice_get_read peers (length peers) c.args.number c.in-Some.known.now refl
    (omega (arith, within, ap length all))
    (c.in-Some.ensures.lookup.1 ∙ ap (λ ps. get_or ps c.args.number c.in-Some.known.now) all) in
    rw (← c.self.view_is)
    (number_there g.P.Ord.cmp g.met.P.Ord.total c.self.inside.peers.items c.self.inside.numbers.entries c.self.invariant
    c.args.number c.in-Some.known.now c.args.peer.now there
    (search rules))
