-- What reads take of known bytes.
use Rattle.link_traces.proofs.Common.{◌≡◌, ℕ, List, [], ◌++◌, Option, None, Some, refl, sym, ap, subst, ◌∙◌}
use Rattle.link_traces.proofs.Common.{append_assoc, Consumes, Keeps, reader_remaining}
use Rattle.std.proofs.Common.{Bool, true, false}
use Rattle.std.proofs.Common.{◌==◌, if◌then◌else◌}
use Rattle.std.specs.Io.KnownBytes.{prepend_known}
use Rattle.std.specs.Io.Buffered.{reader_buffer, reader_capacity, reader_inner}
use Rattle.std.specs.declared.io.buffered.BufReader.{BufReader}

-- known bytes are kept, and then lose some
pub kept_consumes : (a b c : Option (List ℕ)) (bs : List ℕ) → Keeps a b → Consumes b c bs → Consumes a c bs
kept_consumes None b c bs p q = tt
kept_consumes (Some x) None c bs p q = absurd p
kept_consumes (Some x) (Some y) None bs p q = absurd q
kept_consumes (Some x) (Some y) (Some z) bs p q = sym p ∙ q

-- they lose some, and then some more
pub consumes_more : (a b c : Option (List ℕ)) (bs cs : List ℕ) → Consumes a b bs → Consumes b c cs
    → Consumes a c (bs ++ cs)
consumes_more None b c bs cs p q = tt
consumes_more (Some x) None c bs cs p q = absurd p
consumes_more (Some x) (Some y) None bs cs p q = absurd q
consumes_more (Some x) (Some y) (Some z) bs cs p q = p ∙ ap (λ l. bs ++ l) q ∙ sym (append_assoc bs cs z)

-- they lose none
pub consumes_none : (a : Option (List ℕ)) → Consumes a a []
consumes_none None = tt
consumes_none (Some x) = refl

-- ---- a reader with a buffer

none_before : (known : Option (List ℕ)) → prepend_known [] known ≡ known
none_before None = refl
none_before (Some xs) = refl

-- a new one has what is left of the one behind it
pub new_reader : {T A : Type 0} (remaining : T → Option (List ℕ)) (r : BufReader T A) (known : Option (List ℕ))
    → remaining (reader_inner r) ≡ known → reader_buffer r ≡ [] → reader_capacity r ≡ 8192
    → reader_remaining remaining r ≡ known
new_reader remaining r known is empty capacity =
    ap (λ n. if n == 0 then None else prepend_known (reader_buffer r) (remaining (reader_inner r))) capacity
    ∙ ap (λ bs. prepend_known bs (remaining (reader_inner r))) empty ∙ none_before (remaining (reader_inner r)) ∙ is

consumes_front : (empty : Bool) (known : Option (List ℕ)) (front rest : List ℕ)
    → Consumes (if empty then None else prepend_known (front ++ rest) known)
    (if empty then None else prepend_known rest known) front
consumes_front true known front rest = tt
consumes_front false None front rest = tt
consumes_front false (Some xs) front rest = append_assoc front rest xs

-- what stands in front of the buffer is taken
pub front_taken : {T A : Type 0} (remaining : T → Option (List ℕ)) (old new : BufReader T A) (front : List ℕ)
    → reader_buffer old ≡ front ++ reader_buffer new → reader_inner new ≡ reader_inner old
    → reader_capacity new ≡ reader_capacity old
    → Consumes (reader_remaining remaining old) (reader_remaining remaining new) front
front_taken remaining old new front buffer inner capacity =
    let before : reader_remaining remaining old ≡ (if reader_capacity old == 0 then None
    else prepend_known (front ++ reader_buffer new) (remaining (reader_inner old))) =
    ap (λ bs. if reader_capacity old == 0 then None else prepend_known bs (remaining (reader_inner old))) buffer in
    let after : reader_remaining remaining new ≡ (if reader_capacity old == 0 then None
    else prepend_known (reader_buffer new) (remaining (reader_inner old))) =
    ap (λ n. if n == 0 then None else prepend_known (reader_buffer new) (remaining (reader_inner new))) capacity
    ∙ ap (λ i. if reader_capacity old == 0 then None else prepend_known (reader_buffer new) (remaining i)) inner in
    subst (λ k. Consumes k (reader_remaining remaining new) front) (sym before)
    (subst (λ k. Consumes (if reader_capacity old == 0 then None
    else prepend_known (front ++ reader_buffer new) (remaining (reader_inner old))) k front) (sym after)
    (consumes_front (reader_capacity old == 0) (remaining (reader_inner old)) front (reader_buffer new)))
