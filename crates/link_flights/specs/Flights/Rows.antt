-- What is in flight as rows, each with the numbers of two peers and a finish.
use Rattle.std.specs.Prelude.{◌≡◌, Bool, List, [], Some, All, map, cond}
use Rattle.std.specs.declared.cmp.Ordering.{Ordering}
use Rattle.peer_numbers.specs.Peers.{number_of}
use Rattle.row_table.specs.Rows.{Versions}
use Rattle.row_table.specs.declared.row.Row.{Row}
use Rattle.link_flights.specs.declared.flight.Flight.{Flight}
use Rattle.link_flights.specs.Flights.Table.{Line}

-- what the rows keep
abbrev pub items_of : {T : Type 0} → List (Row T) → List T
items_of rows = map (λ row. row.item) rows

-- the messages in flight, none of them once all is given up, and those that were at the last mark
abbrev pub line_of : {P : Type 0} → Bool → Versions (Flight P) → Line P
line_of given_up rows = record { items = cond given_up [] (items_of rows.now); before = items_of rows.before }

module _ {P : Type 0} (cmp : P → P → Ordering) (peers : List P) where
  -- a row has the numbers of its message's peers, and its finish
  pub record IsRow (row : Row (Flight P)) : Type 0 where
    pub sender : number_of cmp peers row.item.message.value.origin ≡ Some row.sender
    pub receiver : number_of cmp peers row.item.message.value.recipient ≡ Some row.receiver
    pub moment : row.moment ≡ row.item.finish

  -- all rows have, and had at the last mark
  pub record AreKept (rows : Versions (Flight P)) : Type 0 where
    pub now : All IsRow rows.now
    pub before : All IsRow rows.before
