-- What is in flight as rows: what is found among rows is found among messages.
use Rattle.link_flights.proofs.Common.{◌≡◌, ℕ, zero, suc, ◌<◌, Bool, true, false, cond, ◌&&◌, ◌||◌}
use Rattle.link_flights.proofs.Common.{List, [], ◌∷◌, ◌++◌, length, ◌-◌, get_or, take, drop, Option, Some, None, IfSome}
use Rattle.link_flights.proofs.Common.{All, refl, sym, ap, ap₂, subst, ◌∙◌, arith, list_any, remove, Ordering}
use Rattle.link_flights.proofs.Common.{IsTotalOrder, map-append, length-map, All-append, All-weaker}
use Rattle.link_flights.proofs.Common.{get_or_from_slice_get, same_peer, number_of, is_due_by, Flight}
use Rattle.link_flights.proofs.Common.{End, Origin, Recipient, has_come, IsNextPlace, PassesNowhere, items_of, IsRow}
use Rattle.link_flights.proofs.Common.{share, All-take, list_any_at, number_stays, with_item, AreKept, Line}
use Rattle.std.proofs.Common.{eqb, Result, Ok, Err, OnOk, OnErr}
use Rattle.std.specs.List.{slice_get}
use Rattle.std.specs.Result.{is_err}
use Rattle.std.proofs.lemmas.List.{take-map, drop-map}
use Rattle.std.proofs.lemmas.List.Elements.{All-head, All-tail, All-drop}
use Rattle.std.proofs.lemmas.List.Folds.{list_any_none}
use Rattle.peer_numbers.specs.Peers.{IsWithPeer}
use Rattle.std.specs.Prelude.{not}
use Rattle.std.proofs.Math.Bool.{and-false}
use Rattle.std.proofs.lemmas.Option.{same_Some}
use Rattle.std.proofs.lemmas.Cmp.{eq_by_cmp_equiv}
use Rattle.peer_numbers.proofs.Peers.{same_number, other_peer}
use Rattle.row_table.specs.Rows.{Versions, IsNext, passes, is_sent_by, is_received_by}
use Rattle.row_table.specs.Rows.{has_come as row_has_come}
use Rattle.row_table.specs.declared.row.Row.{Row}
use Rattle.link_pairs.specs.declared.message.Message.{Message}
use Rattle.link_pairs.specs.Pairs.Messages.{message_of}
use Rattle.link_simulation.specs.Simulation.Messages.{is_delivered}
use Rattle.link_flights.specs.Flights.Rows.{line_of}

-- ---- rows and their items

not_true : (b : Bool) → (b ≡ true → ⊥) → b ≡ false
not_true true h = absurd (h refl)
not_true false h = refl

module _ {T : Type 0} where
  -- a row and its item stand at that place
  pub record IsAt (rows : List (Row T)) (at : ℕ) : Type 0 where
    pub row : Row T
    pub get : slice_get rows at ≡ Some row
    pub row_or : (d : Row T) → get_or rows at d ≡ row
    pub item_or : (d : T) → get_or (items_of rows) at d ≡ row.item

  pub there : (rows : List (Row T)) (at : ℕ) → at < length rows → IsAt rows at
  there [] at h = absurd (omega arith)
  there (row ∷ rows) zero h = record { row = row; get = refl; row_or = λ d. refl; item_or = λ d. refl }
  there (row ∷ rows) (suc at) h =
      let it = there rows at (omega arith) in
      record { row = it.row; get = it.get; row_or = it.row_or; item_or = it.item_or }

  -- what all rows have, that row has
  pub of_row : (Q : Row T → Type 0) (rows : List (Row T)) (at : ℕ) → at < length rows → (it : IsAt rows at) → All Q rows → Q it.row
  of_row Q rows at h it all = subst Q (it.row_or it.row) (all at it.row h)

  -- a test of rows answers what one of items does
  abbrev pub Agree : (Row T → Bool) → (T → Bool) → List (Row T) → Type 0
  Agree test told rows = All (λ row. test row ≡ told row.item) rows

  pub nowhere : (told : T → Bool) (rows : List (Row T)) (from : ℕ) → All (λ row. told row.item ≡ false) rows
      → PassesNowhere told (items_of rows) from (length (items_of rows))
  nowhere told rows from all i low high d =
      let within : i < length rows = omega (arith, high, length-map rows (λ (row : Row T). row.item)) in
      let it = there rows i within in
      ap told (it.item_or d) ∙ of_row (λ row. told row.item ≡ false) rows i within it all

  module _ (test : Row T → Bool) (told : T → Bool) (rows : List (Row T)) (agree : Agree test told rows) where
    passes-told : (at : ℕ) → at < length rows → (it : IsAt rows at)
        → passes test (slice_get rows at) ≡ told it.row.item
    passes-told at within it =
        ap (passes test) it.get ∙ of_row (λ row. test row ≡ told row.item) rows at within it agree

    fails : (at : ℕ) → at < length rows → (passes test (slice_get rows at) ≡ true → ⊥)
        → (d : T) → told (get_or (items_of rows) at d) ≡ false
    fails at within never d =
        let it = there rows at within in
        ap told (it.item_or d) ∙ not_true _ (λ passed. never (passes-told at within it ∙ passed))

    -- the next row that passes has the next item
    pub next-items : (from : ℕ) (next : Option ℕ) → IsNext test rows from next
        → IfSome next (λ at. at < length rows) → IsNextPlace told (items_of rows) from next
    next-items from None is within =
        λ i low high d. fails i (omega (arith, high, length-map rows (λ (row : Row T). row.item))) (is i low) d
    next-items from (Some at) is within =
        let it = there rows at within in
        record {
          low = is.on;
          high = omega (arith, within, length-map rows (λ (row : Row T). row.item));
          before = λ i low high d. fails i (omega (arith, high, within)) (is.first i low high) d;
          here = λ d. ap told (it.item_or d) ∙ sym (passes-told at within it) ∙ is.there;
        }

  pub any-items : (test : Row T → Bool) (told : T → Bool) (rows : List (Row T)) → Agree test told rows
      → list_any test rows ≡ list_any told (items_of rows)
  any-items test told [] agree = refl
  any-items test told (row ∷ rows) agree =
      ap₂ (λ a b. a || b) (All-head (λ row. test row ≡ told row.item) row rows agree)
      (any-items test told rows (All-tail (λ row. test row ≡ told row.item) row rows agree))

  pub none-items : (told : T → Bool) (rows : List (Row T)) → All (λ row. told row.item ≡ false) rows
      → list_any told (items_of rows) ≡ false
  none-items told [] all = refl
  none-items told (row ∷ rows) all =
      ap₂ (λ a b. a || b) (All-head (λ row. told row.item ≡ false) row rows all)
      (none-items told rows (All-tail (λ row. told row.item ≡ false) row rows all))

-- ---- one row of a pair

module _ {T : Type 0} (rows : List (Row T)) (sender receiver : ℕ) where
  -- the row has both
  abbrev pub is_between : Row T → Bool
  is_between row = is_sent_by sender row && is_received_by receiver row

  abbrev IsPast : ℕ → Option ℕ → Type 0
  IsPast i None = Unit {0}
  IsPast i (Some next) = i < next

  -- of those with one of the ends, the next is known, and no row of the pair stands before it
  pub record IsWalk (owned : Row T → Bool) (next : Option ℕ) : Type 0 where
    pub within : IfSome next (λ at. at < length rows)
    pub here : IfSome next (λ at. passes owned (slice_get rows at) ≡ true)
    pub past : (i : ℕ) → IsPast i next → passes is_between (slice_get rows i) ≡ true → ⊥

  -- how many rows are still ahead
  abbrev pub ahead : Option ℕ → ℕ
  ahead None = 0
  ahead (Some at) = length rows - at

  module _ (owned : Row T → Bool) where
    pub walk_found : (at : ℕ) (row : Row T) → IsWalk owned (Some at) → slice_get rows at ≡ Some row
        → (owned row ≡ true → is_between row ≡ true) → list_any is_between rows ≡ true
    walk_found at row walk get both =
        list_any_at is_between rows at row walk.within
        (ap is_between (get_or_from_slice_get rows at row row get)
        ∙ both (ap (passes owned) (sym get) ∙ walk.here))

    pub walk_ends : IsWalk owned None → list_any is_between rows ≡ false
    walk_ends walk =
        list_any_none is_between rows
        (λ i d within. let it = there rows i within in
        ap is_between (it.row_or d)
        ∙ not_true _ (λ passed. walk.past i tt (ap (passes is_between) it.get ∙ passed)))

-- ---- rows with numbers

module _ {P : Type 0} (cmp : P → P → Ordering) (total : IsTotalOrder cmp) where
  abbrev Item : Type 0
  Item = Flight P

  -- the end of a message, and the owner of a row at that end
  abbrev pub end_of : End → Message P → P
  end_of Origin m = m.origin
  end_of Recipient m = m.recipient

  abbrev is_owned_by : End → ℕ → Row Item → Bool
  is_owned_by Origin = is_sent_by
  is_owned_by Recipient = is_received_by

  -- the rows of a number are the messages that share the end
  pub owned : (end : End) (peers : List P) (m : Message P) (number : ℕ) (rows : List (Row Item)) → All (IsRow cmp peers) rows
      → number_of cmp peers (end_of end m) ≡ Some number
      → Agree (is_owned_by end number) (λ one. share cmp end m one.message.value) rows
  owned Origin peers m number rows all is =
      All-weaker (IsRow cmp peers) _ (λ row r. same_number cmp total peers m.origin _ number row.sender is r.sender) rows all
  owned Recipient peers m number rows all is =
      All-weaker (IsRow cmp peers) _ (λ row r. same_number cmp total peers m.recipient _ number row.receiver is r.receiver) rows all

  -- a peer without a number is at the end of none
  pub unowned : (end : End) (peers : List P) (m : Message P) (rows : List (Row Item)) → All (IsRow cmp peers) rows
      → number_of cmp peers (end_of end m) ≡ None
      → All (λ (row : Row Item). share cmp end m row.item.message.value ≡ false) rows
  unowned Origin peers m rows all is =
      All-weaker (IsRow cmp peers) _ (λ row r. other_peer cmp total peers m.origin _ row.sender is r.sender) rows all
  unowned Recipient peers m rows all is =
      All-weaker (IsRow cmp peers) _ (λ row r. other_peer cmp total peers m.recipient _ row.receiver is r.receiver) rows all

  pub come : (t : ℕ) (moment : Option ℕ) → row_has_come t moment ≡ has_come t moment
  come t None = refl
  come t (Some moment) = refl

  -- the rows that are due are the messages that have finished
  pub due : (peers : List P) (t : ℕ) (rows : List (Row Item)) → All (IsRow cmp peers) rows
      → Agree (is_due_by t) (λ one. has_come t one.finish) rows
  due peers t rows all =
      All-weaker (IsRow cmp peers) _ (λ row r. come t row.moment ∙ ap (has_come t) r.moment) rows all

  -- whether a message goes from one peer to another
  abbrev pub is_of_pair : P → P → Item → Bool
  is_of_pair origin recipient one =
      same_peer cmp origin one.message.value.origin && same_peer cmp recipient one.message.value.recipient

  -- the rows of two numbers are the messages of the pair
  pub of_pair : (peers : List P) (origin recipient : P) (sender receiver : ℕ) (rows : List (Row Item))
      → All (IsRow cmp peers) rows → number_of cmp peers origin ≡ Some sender
      → number_of cmp peers recipient ≡ Some receiver
      → Agree (is_between rows sender receiver) (is_of_pair origin recipient) rows
  of_pair peers origin recipient sender receiver rows all is are =
      All-weaker (IsRow cmp peers) _
      (λ row r. ap₂ (λ a b. a && b)
      (same_number cmp total peers origin _ sender row.sender is r.sender)
      (same_number cmp total peers recipient _ receiver row.receiver are r.receiver))
      rows all

  -- no message is of a pair without a number
  pub no_origin : (peers : List P) (origin recipient : P) (rows : List (Row Item)) → All (IsRow cmp peers) rows
      → number_of cmp peers origin ≡ None
      → All (λ (row : Row Item). is_of_pair origin recipient row.item ≡ false) rows
  no_origin peers origin recipient rows all is =
      All-weaker (IsRow cmp peers) _
      (λ row r. ap (λ a. a && same_peer cmp recipient row.item.message.value.recipient)
      (other_peer cmp total peers origin _ row.sender is r.sender))
      rows all

  pub no_recipient : (peers : List P) (origin recipient : P) (rows : List (Row Item)) → All (IsRow cmp peers) rows
      → number_of cmp peers recipient ≡ None
      → All (λ (row : Row Item). is_of_pair origin recipient row.item ≡ false) rows
  no_recipient peers origin recipient rows all is =
      All-weaker (IsRow cmp peers) _
      (λ row r. ap (λ b. same_peer cmp origin row.item.message.value.origin && b)
      (other_peer cmp total peers recipient _ row.receiver is r.receiver)
      ∙ and-false (same_peer cmp origin row.item.message.value.origin))
      rows all

-- ---- what is kept and what is seen

pub on_ok : {T E Q : Type 0} (r : Result T E) → is_err r ≡ false → OnOk r Q → Q
on_ok (Ok x) h q = q
on_ok (Err e) h q = cc

pub on_err : {T E Q : Type 0} (r : Result T E) → is_err r ≡ true → OnErr r Q → Q
on_err (Ok x) h q = cc
on_err (Err e) h q = q

module _ {P : Type 0} (given_up : Bool) (rows : Versions (Flight P)) (line : Line P)
    (seen : line_of given_up rows ≡ line) where
  -- what is not given up is seen
  pub kept : given_up ≡ false → items_of rows.now ≡ line.items
  kept h = ap (λ b. cond b [] (items_of rows.now)) (sym h) ∙ ap (λ l. l.items) seen

  -- where one is seen, all is not given up
  pub not_given_up : (at : ℕ) → at < length line.items → given_up ≡ false
  not_given_up at h = by given_up (subst (λ (l : Line P). at < length l.items) (sym seen) h)
    where
      by : (b : Bool) → at < length (cond b [] (items_of rows.now)) → b ≡ false
      by false h = refl
      by true h = absurd (omega (arith, h))

  -- and it stands in a row
  pub row_seen : (at : ℕ) → at < length line.items → IsAt rows.now at × (at < length rows.now)
  row_seen at h =
      let all = kept (not_given_up at h) in
      let within : at < length rows.now =
      omega (arith, h, ap length all, length-map rows.now (λ (row : Row (Flight P)). row.item)) in
      (there rows.now at within, within)

  module _ (cmp : P → P → Ordering) (total : IsTotalOrder cmp) (peers : List P) (all : All (IsRow cmp peers) rows.now) where
    abbrev is_sharing : End → Message P → Flight P → Bool
    is_sharing end m one = share cmp end m one.message.value

    -- the first row of a number is the first message that shares the end
    pub first_shared : (end : End) (m : Message P) (number : ℕ) (next : Option ℕ) → given_up ≡ false
        → number_of cmp peers (end_of cmp total end m) ≡ Some number
        → IsNext (is_owned_by cmp total end number) rows.now 0 next → IfSome next (λ at. at < length rows.now)
        → IsNextPlace (is_sharing end m) line.items 0 next
    first_shared end m number next h is first within =
        subst (λ items. IsNextPlace (is_sharing end m) items 0 next) (kept h)
        (next-items (is_owned_by cmp total end number) (is_sharing end m) rows.now
        (owned cmp total end peers m number rows.now all is) 0 next first within)

    -- no message shares the end with a peer that has no number
    pub none_shared : (end : End) (m : Message P) → given_up ≡ false → number_of cmp peers (end_of cmp total end m) ≡ None
        → IsNextPlace (is_sharing end m) line.items 0 None
    none_shared end m h is =
        subst (λ items. IsNextPlace (is_sharing end m) items 0 None) (kept h)
        (nowhere (is_sharing end m) rows.now 0 (unowned cmp total end peers m rows.now all is))

    abbrev owner_at : End → Row (Flight P) → ℕ
    owner_at Origin row = row.sender
    owner_at Recipient row = row.receiver

    number_at : (end : End) (row : Row (Flight P)) → IsRow cmp peers row
        → number_of cmp peers (end_of cmp total end row.item.message.value) ≡ Some (owner_at end row)
    number_at Origin row is = is.sender
    number_at Recipient row is = is.receiver

    -- the first row of the owner of one from a place on is the first message that shares the end with that
    pub shared_from : (end : End) (at from : ℕ) (next : Option ℕ) → at < length line.items
        → ((row : Row (Flight P)) → slice_get rows.now at ≡ Some row
        → IsNext (is_owned_by cmp total end (owner_at end row)) rows.now from next)
        → IfSome next (λ at. at < length rows.now) → (d : Flight P)
        → IsNextPlace (is_sharing end (get_or line.items at d).message.value) line.items from next
    shared_from end at from next low ahead within d =
        let here = row_seen at low in
        let row = here.0.row in
        let m = row.item.message.value in
        let is = number_at end row (of_row (IsRow cmp peers) rows.now at here.1 here.0 all) in
        let found = next-items (is_owned_by cmp total end (owner_at end row)) (is_sharing end m) rows.now
        (owned cmp total end peers m (owner_at end row) rows.now all is) from next (ahead row here.0.get) within in
        let same : items_of rows.now ≡ line.items = kept (not_given_up at low) in
        subst (λ items. IsNextPlace (is_sharing end (get_or items at d).message.value) items from next) same
        (subst
        (λ (one : Flight P). IsNextPlace (is_sharing end one.message.value) (items_of rows.now) from next)
        (sym (here.0.item_or d)) found)

    -- whether one is delivered, as its row tells
    pub row_delivered : (at : ℕ) → at < length line.items → (row : Row (Flight P)) → slice_get rows.now at ≡ Some row
        → (d : Flight P) → (row.item.should_deliver && not (eqb row.sender row.receiver))
        ≡ is_delivered cmp (message_of (get_or line.items at d).message.value)
    row_delivered at low row got d =
        let here = row_seen at low in
        let r = of_row (IsRow cmp peers) rows.now at here.1 here.0 all in
        let m = here.0.row.item.message.value in
        let item : get_or line.items at d ≡ here.0.row.item =
        ap (λ items. get_or items at d) (sym (kept (not_given_up at low))) ∙ here.0.item_or d in
        let told : (here.0.row.item.should_deliver && not (eqb here.0.row.sender here.0.row.receiver))
        ≡ is_delivered cmp (message_of m) =
        ap₂ (λ a b. a && not b) here.0.row.item.as_sent
        (same_number cmp total peers m.recipient m.origin here.0.row.receiver here.0.row.sender r.receiver r.sender
        ∙ (eq_by_cmp_equiv total).symm m.recipient m.origin) in
        ap (λ (it : Row (Flight P)). it.item.should_deliver && not (eqb it.sender it.receiver))
        (same_Some row here.0.row (sym got ∙ here.0.get))
        ∙ told ∙ ap (λ (one : Flight P). is_delivered cmp (message_of one.message.value)) (sym item)

-- ---- rows that come, change and leave

-- more peers have numbers: the rows stay
pub rows_stay : {P : Type 0} (cmp : P → P → Ordering) (peers new : List P) (peer : P) (rows : List (Row (Flight P))) → IsWithPeer cmp peers peer new
    → All (IsRow cmp peers) rows → All (IsRow cmp new) rows
rows_stay cmp peers new peer rows with all =
    All-weaker (IsRow cmp peers) (IsRow cmp new)
    (λ row r. record {
      sender = number_stays cmp peers peer new with _ row.sender r.sender;
      receiver = number_stays cmp peers peer new with _ row.receiver r.receiver;
      moment = r.moment;
    })
    rows all

module _ {P : Type 0} (cmp : P → P → Ordering) (peers : List P) where
  abbrev pub AllRows : List (Row (Flight P)) → Type 0
  AllRows = All (IsRow cmp peers)

  -- rows that stand as they did at the mark are kept
  pub taken_back : (old new : Versions (Flight P)) → AreKept cmp peers old → new.now ≡ old.before
      → new.before ≡ old.before → AreKept cmp peers new
  taken_back old new was now before = record {
    now = subst AllRows (sym now) was.before;
    before = subst AllRows (sym before) was.before;
  }

  -- so are rows at a new mark
  pub committed : (old new : Versions (Flight P)) → AreKept cmp peers old → new.now ≡ old.now
      → new.before ≡ old.now → AreKept cmp peers new
  committed old new was now before = record {
    now = subst AllRows (sym now) was.now;
    before = subst AllRows (sym before) was.now;
  }

  -- so are others, with the mark as it was
  pub changed : (old new : Versions (Flight P)) (rows : List (Row (Flight P)))
      → AreKept cmp peers old → AllRows rows → new.now ≡ rows → new.before ≡ old.before → AreKept cmp peers new
  changed old new rows was all now before = record {
    now = subst AllRows (sym now) all;
    before = subst AllRows (sym before) was.before;
  }

  pub all_removed : (rows : List (Row (Flight P))) (at : ℕ) → AllRows rows → AllRows (remove rows at)
  all_removed rows at all =
      All-append (IsRow cmp peers) (take at rows) (drop (suc at) rows) (All-take (IsRow cmp peers) at rows all)
      (All-drop (IsRow cmp peers) (suc at) rows all)

  -- another flight of the same message
  pub row_changed : (row : Row (Flight P)) (one : Flight P) (moment : Option ℕ)
      → IsRow cmp peers row → one.message.value ≡ row.item.message.value → moment ≡ one.finish
      → IsRow cmp peers (with_item one moment row)
  row_changed row one moment is same timed = record {
    sender = ap (λ m. number_of cmp peers m.origin) same ∙ is.sender;
    receiver = ap (λ m. number_of cmp peers m.recipient) same ∙ is.receiver;
    moment = timed;
  }

  -- more peers have numbers
  pub kept_more : (new : List P) (peer : P) (rows : Versions (Flight P)) → IsWithPeer cmp peers peer new
      → AreKept cmp peers rows → AreKept cmp new rows
  kept_more new peer rows with was = record {
    now = rows_stay cmp peers new peer rows.now with was.now;
    before = rows_stay cmp peers new peer rows.before with was.before;
  }

pub items_removed : {T : Type 0} (rows : List (Row T)) (at : ℕ) → items_of (remove rows at) ≡ remove (items_of rows) at
items_removed rows at =
    map-append (λ row. row.item) (take at rows) (drop (suc at) rows)
    ∙ ap₂ (λ xs ys. xs ++ ys) (sym (take-map (λ row. row.item) at rows)) (sym (drop-map (λ row. row.item) (suc at) rows))
