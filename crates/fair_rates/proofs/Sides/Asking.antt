-- What one flow asks for, one side after another.
use Rattle.fair_rates.proofs.Common.{subst, ◌≡◌, ℕ, Bool, true, false, cond, List, [], ◌∷◌, ◌++◌, sym, append_assoc}
use Rattle.fair_rates.proofs.Common.{append-nil, Ordering, Registry, Answered, Ask, sent_by, received_by, sent_between}
use Rattle.fair_rates.proofs.Common.{asks_of_one, Registers, FindsSides, rules}

module _ {P : Type 0} (cmp : P → P → Ordering) where
  -- some asks, and then others
  registers_both : (first more : List (Ask P)) (old middle new : Registry P)
      → Registers cmp first old middle → Registers cmp more middle new → Registers cmp (first ++ more) old new
  registers_both first more old middle new r s = search (rules, append_assoc)

  -- no ask
  registers_none : (old : Registry P) → FindsSides cmp old → Registers cmp [] old old
  registers_none old finds = search (rules, append-nil)

  -- the flow at place n, and what was answered for it
  module _ (n : ℕ) (a : Answered P) where
    abbrev for_origin : Ask P
    for_origin = record { place = n; subject = sent_by a.flow.origin; answer = a.egress }

    abbrev for_recipient : Ask P
    for_recipient = record { place = n; subject = received_by a.flow.recipient; answer = a.ingress }

    abbrev for_pair : Ask P
    for_pair = record { place = n; subject = sent_between a.flow.origin a.flow.recipient; answer = a.link }

    -- it asks for the ingress of its recipient if it is delivered
    abbrev RegistersIf : Bool → Registry P → Registry P → Type 0
    RegistersIf b old new = Registers cmp (cond b (for_recipient ∷ []) []) old new

    pub registers_it : (b : Bool) (old new now : Registry P) → b ≡ true → now ≡ new
        → Registers cmp (for_recipient ∷ []) old new → RegistersIf b old now
    registers_it true old new now e same r = subst (Registers cmp (for_recipient ∷ []) old) (sym same) r
    registers_it false old new now e same r = cc e

    pub registers_nothing : (b : Bool) (old now : Registry P) → b ≡ false → now ≡ old → FindsSides cmp old
        → RegistersIf b old now
    registers_nothing true old now e same finds = cc e
    registers_nothing false old now e same finds = subst (Registers cmp [] old) (sym same) (registers_none old finds)

    -- all that it asks for, one after another
    pub registers_all : (old one two new : Registry P) → Registers cmp (for_origin ∷ []) old one
        → RegistersIf a.flow.delivered one two → Registers cmp (for_pair ∷ []) two new
        → Registers cmp (asks_of_one n a) old new
    registers_all old one two new r s t = search (rules, registers_both)
