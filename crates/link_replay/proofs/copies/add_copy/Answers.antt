use Rattle.link_replay.proofs.Common.{[], ◌∷◌, map, ap, ◌∙◌, map-append, outgoing}
use Rattle.link_replay.proofs.copies.add_copy.Goals as goal

pub returns-clause-added : goal.returns-clause-added
returns-clause-added g c =
    let copy = c.in_ok-copy_message.field-0 in (
      outgoing copy,
      ap (map outgoing) c.in_ok-push.ensures.items ∙ map-append outgoing c.args.copies.now.items (copy ∷ []),
      c.in_ok-copy_message.ensures.same,
    )
