use Rattle.fair_rates.proofs.Common.{◌≡◌, ℕ, cond, Some, ◌++◌, ◌∷◌, [], ap, sym, ◌∙◌, arith, length, insert, lookup}
use Rattle.fair_rates.proofs.Common.{is_eq, common_steps}
use Rattle.std.proofs.lemmas.List.Edits.{insert_end}
use Rattle.fair_rates.proofs.Sides.Numbers.{in_list, in_order, in_map}
use Rattle.fair_rates.proofs.bandwidth.numbers.Numbers.note.Goals.{then-count-eq0+in_ok-reserve, else-count-eq0}
use Rattle.fair_rates.proofs.bandwidth.numbers.Numbers.note.Goals as goal

pub returns-in_ok-push-clause-order : goal.returns-in_ok-push-clause-order
returns-in_ok-push-clause-order g c =
    let numbers = c.args.self.now in
    let entry : g.row.K.Denot × ℕ = (c.args.key, c.args.number) in
    let items : c.if-count-eq0.self.listed.items ≡ numbers.listed.items = elim c.if-count-eq0.branch [
      | then-count-eq0+in_ok-reserve w ↦ ap (λ n. n.listed.items) w.self-is ∙ w.reserve.ensures.items
      | else-count-eq0 w ↦ ap (λ n. n.listed.items) w.self-is
    ] in
    let end : c.args.place ≡ length numbers.listed.items =
    grind (arith, common_steps, c.if-place-count.true, c.len-count.ensures, numbers.listed.ok.0) in
    in_order g.K.Ord.cmp g.met.K.Ord.total numbers (record { listed = c.push.new.self; later = numbers.later }) c.args.key
    c.args.number c.args.place c.requires.gap (c.in_ok-push.ensures.items ∙ ap (λ es. es ++ entry ∷ []) items
    ∙ sym (insert_end numbers.listed.items entry) ∙ ap (λ n. insert numbers.listed.items n entry) (sym end))
    c.requires.order

pub returns-in_ok-push-clause-numbers : goal.returns-in_ok-push-clause-numbers
returns-in_ok-push-clause-numbers g c =
    let numbers = c.args.self.now in
    let entry : g.row.K.Denot × ℕ = (c.args.key, c.args.number) in
    let items : c.if-count-eq0.self.listed.items ≡ numbers.listed.items = elim c.if-count-eq0.branch [
      | then-count-eq0+in_ok-reserve w ↦ ap (λ n. n.listed.items) w.self-is ∙ w.reserve.ensures.items
      | else-count-eq0 w ↦ ap (λ n. n.listed.items) w.self-is
    ] in
    let later : c.if-count-eq0.self.later ≡ numbers.later = elim c.if-count-eq0.branch [
      | then-count-eq0+in_ok-reserve w ↦ ap (λ n. n.later) w.self-is
      | else-count-eq0 w ↦ ap (λ n. n.later) w.self-is
    ] in
    let end : c.args.place ≡ length numbers.listed.items =
    grind (arith, common_steps, c.if-place-count.true, c.len-count.ensures, numbers.listed.ok.0) in
    in_list g.K.Ord.cmp g.met.K.Ord.total numbers (record { listed = c.push.new.self; later = c.if-count-eq0.self.later })
    c.args.key c.args.number c.args.place c.requires.gap (c.in_ok-push.ensures.items ∙ ap (λ es. es ++ entry ∷ []) items
    ∙ sym (insert_end numbers.listed.items entry) ∙ ap (λ n. insert numbers.listed.items n entry) (sym end))
    later

pub returns-in_ok-insert-clause-order : goal.returns-in_ok-insert-clause-order
returns-in_ok-insert-clause-order g c =
    let numbers = c.args.self.now in
    let entry : g.row.K.Denot × ℕ = (c.args.key, c.args.number) in
    let items : c.if-count-eq0.self.listed.items ≡ numbers.listed.items = elim c.if-count-eq0.branch [
      | then-count-eq0+in_ok-reserve w ↦ ap (λ n. n.listed.items) w.self-is ∙ w.reserve.ensures.items
      | else-count-eq0 w ↦ ap (λ n. n.listed.items) w.self-is
    ] in
    in_order g.K.Ord.cmp g.met.K.Ord.total numbers (record { listed = c.insert.new.self; later = numbers.later }) c.args.key
    c.args.number c.args.place c.requires.gap
    (c.in_ok-insert.ensures.items ∙ ap (λ es. insert es c.args.place entry) items)
    c.requires.order

pub returns-in_ok-insert-clause-numbers : goal.returns-in_ok-insert-clause-numbers
returns-in_ok-insert-clause-numbers g c =
    let numbers = c.args.self.now in
    let entry : g.row.K.Denot × ℕ = (c.args.key, c.args.number) in
    let items : c.if-count-eq0.self.listed.items ≡ numbers.listed.items = elim c.if-count-eq0.branch [
      | then-count-eq0+in_ok-reserve w ↦ ap (λ n. n.listed.items) w.self-is ∙ w.reserve.ensures.items
      | else-count-eq0 w ↦ ap (λ n. n.listed.items) w.self-is
    ] in
    let later : c.if-count-eq0.self.later ≡ numbers.later = elim c.if-count-eq0.branch [
      | then-count-eq0+in_ok-reserve w ↦ ap (λ n. n.later) w.self-is
      | else-count-eq0 w ↦ ap (λ n. n.later) w.self-is
    ] in
    in_list g.K.Ord.cmp g.met.K.Ord.total numbers
    (record { listed = c.insert.new.self; later = c.if-count-eq0.self.later })
    c.args.key c.args.number c.args.place c.requires.gap
    (c.in_ok-insert.ensures.items ∙ ap (λ es. insert es c.args.place entry) items)
    later

pub returns-in_ok-insert-2-clause-numbers : goal.returns-in_ok-insert-2-clause-numbers
returns-in_ok-insert-2-clause-numbers g c q =
    let numbers = c.args.self.now in
    let items : c.if-count-eq0.self.listed.items ≡ numbers.listed.items = elim c.if-count-eq0.branch [
      | then-count-eq0+in_ok-reserve w ↦ ap (λ n. n.listed.items) w.self-is ∙ w.reserve.ensures.items
      | else-count-eq0 w ↦ ap (λ n. n.listed.items) w.self-is
    ] in
    let later : c.if-count-eq0.self.later ≡ numbers.later = elim c.if-count-eq0.branch [
      | then-count-eq0+in_ok-reserve w ↦ ap (λ n. n.later) w.self-is
      | else-count-eq0 w ↦ ap (λ n. n.later) w.self-is
    ] in
    in_map g.K.Ord.cmp g.met.K.Ord.total numbers (record {
      listed = c.if-count-eq0.self.listed;
      later = c.insert-else-count-lt-MOST_LISTED.new.self;
    })
    c.args.key c.args.number c.args.place c.requires.gap items q (c.in_ok-insert-2.ensures.updates.0 q
    ∙ ap (λ ls. cond (is_eq (g.K.Ord.cmp c.args.key q)) (Some c.args.number)
    (lookup (λ other. is_eq (g.K.Ord.cmp q other)) ls.entries)) later)
