use Rattle.chains.proofs.Common.{◌≡◌, ap, ◌∙◌, length, replicate, Table, now_of, rows_in, no_end, Link}
use Rattle.std.proofs.Common.{filter, is_some, rules}
use Rattle.std.proofs.lemmas.Fn.{filter_same}
use Rattle.chains.proofs.Closing.{gaps_closed, filled_without}
use Rattle.chains.proofs.tables.Tables.close_gaps.Goals as goal

pub relink_all-requires-clause-filled : goal.relink_all-requires-clause-filled
relink_all-requires-clause-filled c =
    let t : Table = now_of c.args.self.now in
    let kept : c.unmark.new.self.items ≡ filter (λ (link : Link). is_some link.owner) t.links =
    c.unmark.ensures.items
    ∙ filter_same _ (λ (link : Link). is_some link.owner) _ (λ x b f' k. search rules) _ _ c.commit_kept.ensures.items in
    let empty : c.clear_ends.new.ends.items ≡ replicate (length t.ends) no_end =
    c.clear_ends.ensures.items ∙ ap (λ ends. replicate (length ends) no_end) c.unmark-2.ensures.items in
    filled_without t (record { links = c.unmark.new.self.items; ends = c.clear_ends.new.ends.items }) c.requires
    (gaps_closed t c.unmark.new.self.items c.clear_ends.new.ends.items kept empty)

pub returns-clause-rows : goal.returns-clause-rows
returns-clause-rows c =
    let t : Table = now_of c.args.self.now in
    let kept : c.unmark.new.self.items ≡ filter (λ (link : Link). is_some link.owner) t.links =
    c.unmark.ensures.items
    ∙ filter_same _ (λ (link : Link). is_some link.owner) _ (λ x b f' k. search rules) _ _ c.commit_kept.ensures.items in
    let empty : c.clear_ends.new.ends.items ≡ replicate (length t.ends) no_end =
    c.clear_ends.ensures.items ∙ ap (λ ends. replicate (length ends) no_end) c.unmark-2.ensures.items in
    ap rows_in c.commit.ensures.now ∙ c.relink_all.ensures.rows
    ∙ gaps_closed t c.unmark.new.self.items c.clear_ends.new.ends.items kept empty
