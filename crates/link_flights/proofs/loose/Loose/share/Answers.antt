use Rattle.link_flights.proofs.Common.{◌≡◌, ◌<◌, ◌∙◌, ◌++◌, ◌∷◌, [], map, take, get_or, length, sym, ap, subst, arith}
use Rattle.link_flights.proofs.Common.{add-one, Arc, Global, map-append, length-map, get_or-map}
use Rattle.std.proofs.Math.Seq.{take-suc}
use Rattle.link_pairs.specs.declared.message.Message.{Message}
use Rattle.link_flights.proofs.loose.Loose.share.Goals as goal

pub loop-message-preserved : goal.loop-message-preserved
loop-message-preserved g c =
    let at = c.loop-message.message-index in
    let value = λ (m : Arc (Message g.row.P.Denot) Global). m.value in
    let one = c.message-item.result in
    let all = c.deref-message-items.result.now in
    let is : map value all ≡ c.args.self.now = ap (map value) c.deref-message-items.ensures.value ∙ c.self.view_is in
    let here : c.in_ok-clone.field-0.value ≡ get_or (map value all) at one.value =
    c.in_ok-clone.ensures.cases ∙ ap value c.message-item.is ∙ sym (get_or-map value all at one one.value c.loop-message-test.true) in
    ap (map value) c.in_ok-push.ensures.items
    ∙ map-append value c.loop-message.messages.items (c.in_ok-clone.field-0 ∷ [])
    ∙ ap (λ l. l ++ c.in_ok-clone.field-0.value ∷ []) c.loop-message.invariant
    ∙ ap (λ m. take at c.args.self.now ++ m ∷ []) (here ∙ ap (λ l. get_or l at one.value) is)
    ∙ sym (take-suc c.args.self.now at one.value (subst (λ l. at < length l) is
    (omega (arith, c.loop-message-test.true, length-map all value))))
    ∙ ap (λ n. take n c.args.self.now) (sym (add-one at))
