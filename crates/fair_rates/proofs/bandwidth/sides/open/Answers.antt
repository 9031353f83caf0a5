use Rattle.fair_rates.proofs.Common.{◌∙◌, ◌≡◌, ap, length, ◌++◌, ◌∷◌, [], Registry, subject_of, number_of, HasNumber}
use Rattle.std.proofs.Common.{vec_len}
use Rattle.fair_rates.proofs.Sides.Registry.{absent, opens, finds_more}
use Rattle.fair_rates.proofs.bandwidth.sides.open.Goals as goal

pub note-requires : goal.note-requires
note-requires g c = record { order = c.requires.finds.order; gap = c.requires.gap }

pub returns-in_default : goal.returns-in_default
returns-in_default g c =
    let old = c.args.registry.now in
    let s = subject_of c.args.subject in
    record {
      registers = record {
        asked = λ asks h. record {
          registered =
              absent g.P.Ord.cmp g.met.P.Ord.total asks old.sides.items (number_of g.P.Ord.cmp old) h.registered s
              c.args.place c.args.cap c.in_default.is c.requires.none;
          order = h.order;
        };
        finds = c.requires.finds;
      };
      refused = tt;
    }

pub returns-clause-registers : goal.returns-clause-registers
returns-clause-registers g c =
    let cmp = g.P.Ord.cmp in
    let old = c.args.registry.now in
    let new : Registry g.row.P.Denot = c.note.new.self in
    let s = subject_of c.args.subject in
    let n = c.len-number.result in
    let last : n ≡ length old.sides.items = c.len-number.ensures ∙ old.sides.ok.0 in
    let users = c.in_ok-push.ensures.items ∙ ap (λ us. us ++ c.args.place ∷ []) c.in_ok-users.ensures.items in
    let sides = ap (λ v. v.items) c.note.ensures.sides ∙ c.in_ok-push-2.ensures.items in
    let numbers : HasNumber cmp s n old new = c.in_ok-note.ensures.numbers in
    record {
      asked = λ asks h. record {
        registered =
            opens cmp g.met.P.Ord.total asks old.sides.items (number_of cmp old) h.registered s c.args.place c.args.cap
            c.in-Some.cap _ _ (number_of cmp new) c.in-Some.is c.requires.none sides c.from_u128-cap.ensures users n
            last numbers;
        order = c.in_ok-note.ensures.order;
      };
      finds =
          finds_more cmp old new s n numbers c.len-number.ensures
          (ap (λ v. vec_len v) c.note.ensures.sides ∙ c.in_ok-push-2.ensures.len) c.in_ok-note.ensures.order
          c.requires.finds;
    }
