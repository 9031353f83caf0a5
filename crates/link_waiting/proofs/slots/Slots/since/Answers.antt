use Rattle.link_waiting.proofs.Common.{None, sym, ap, ◌∙◌, unwrap_or, get_or_from_slice_get}
use Rattle.std.proofs.lemmas.Option.{unwrap_or-slice_get}
use Rattle.link_waiting.proofs.slots.Slots.since.Goals as goal

pub returns-in_err-get : goal.returns-in_err-get
returns-in_err-get g c =
    c.from_residual.ensures ∙ ap (λ found. unwrap_or found None) c.in_err-get.ensures
    ∙ unwrap_or-slice_get c.args.self.now.sinces.items c.args.pair None

pub returns : goal.returns
returns g c = sym (get_or_from_slice_get c.args.self.now.sinces.items c.args.pair c.in_ok-get.field-0.now None (sym c.in_ok-get.ensures))
