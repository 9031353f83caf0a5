-- A list that is written over the front of another.
use Rattle.p2p_simulated_c.proofs.Common.{◌≡◌, ℕ, ◌+◌, ◌<◌, ◌≤◌, List, [], ◌∷◌, ◌++◌, length, min, take, drop, get_or}
use Rattle.p2p_simulated_c.proofs.Common.{sym, ap, ◌∙◌, ◌-◌, replicate, arith, append-nil, length-take, length-append}
use Rattle.p2p_simulated_c.proofs.Common.{take_all, drop_all, take_more, length-replicate, written}
use Rattle.std.proofs.Common.{append_assoc, ⊎_elim}
use Rattle.std.proofs.lemmas.Bool.{cases_lt}
use Rattle.std.proofs.lemmas.List.{drop_more, set_at, take-replicate}
use Rattle.std.proofs.lemmas.List.{drop-drop, drop-replicate, take-append-le, drop-append-le}
use Rattle.std.proofs.Math.Seq.{take-append_seam, take-append-add, drop-append_seam, drop-append-add, take-length}
use Rattle.std.specs.List.{slice_set}

-- none
pub none_written : {X : Type 0} (items old : List X) → items ≡ [] → old ≡ written items old
none_written items old none =
    sym
    (ap (λ xs. take (length old) xs ++ drop (length xs) old) none
    ∙ ap (λ xs. xs ++ old) (take_all (length old) [] (omega arith)))

-- so many
pub all_written : {X : Type 0} (items old : List X) (count : ℕ) → count ≡ min (length items) (length old)
    → take count items ++ drop count old ≡ written items old
all_written items old count is = ⊎_elim
    (λ (lt : length items < length old). ap (λ n. take n items ++ drop n old) (is ∙ omega arith)
    ∙ ap (λ xs. xs ++ drop (length items) old)
    (take_all (length items) items (omega arith) ∙ sym (take_all (length old) items (omega arith))))
    (λ (le : length old ≤ length items). ap (λ n. take n items ++ drop n old) (is ∙ omega arith)
    ∙ ap (λ xs. take (length old) items ++ xs)
    (drop_all (length old) old (omega arith) ∙ sym (drop_all (length items) old le)))
    (cases_lt (length items) (length old))

-- one more
pub one_written : {X : Type 0} (items old now : List X) (i : ℕ) (x : X) → i < length items → i < length old
    → now ≡ take i items ++ drop i old → x ≡ get_or items i x
    → slice_set now i x ≡ take (i + 1) items ++ drop (i + 1) old
one_written items old now i x below room is item =
    let front = take i items in
    let long : length front ≡ i = length-take i items ∙ omega arith in
    ap (λ xs. slice_set xs i x) (is ∙ ap (λ xs. front ++ xs) (drop_more old i x room)) ∙ set_at front _ _ x i long
    ∙ sym (append_assoc front (x ∷ []) (drop (i + 1) old))
    ∙ ap (λ xs. xs ++ drop (i + 1) old) (ap (λ y. front ++ y ∷ []) item ∙ sym (take_more items i x below))

-- the first so many of a list with zeros behind it
take_behind : (xs : List ℕ) (m given count room : ℕ) → given ≡ min (length xs) room → count ≡ min (length xs + m) room
    → take count (xs ++ replicate m 0) ≡ take given xs ++ replicate (count - given) 0
take_behind xs m given count room is_given is_count = ⊎_elim
    (λ (lt : length xs < room).
    let whole : given ≡ length xs = omega arith in
    let sum : count ≡ length xs + (count - given) = omega arith in
    let few : count - given ≤ m = omega arith in
    ap (λ n. take n (xs ++ replicate m 0)) sum ∙ take-append-add xs (replicate m 0) (count - given)
    ∙ ap (λ zs. xs ++ zs) (take-replicate (count - given) m 0 few)
    ∙ ap (λ ys. ys ++ replicate (count - given) 0) (sym (ap (λ n. take n xs) whole ∙ take-length xs)))
    (λ (le : room ≤ length xs).
    let same : count ≡ given = omega arith in
    let none : 0 ≡ count - given = omega arith in
    take-append-le count xs (replicate m 0) (omega arith) ∙ ap (λ n. take n xs) same
    ∙ sym (append-nil (take given xs)) ∙ ap (λ n. take given xs ++ replicate n 0) none)
    (cases_lt (length xs) room)

-- a list, and zeros behind it, which are written after it
pub zeros_written : (xs old : List ℕ) (m given count : ℕ) → given ≡ min (length xs) (length old)
    → count ≡ min (length xs + m) (length old)
    → take given (written xs old) ++ (replicate (count - given) 0 ++ drop (count - given) (drop given (written xs old)))
    ≡ written (xs ++ replicate m 0) old
zeros_written xs old m given count is_given is_count =
    let front = take given xs in
    let long : length front ≡ given = length-take given xs ∙ omega arith in
    let kept : take given (front ++ drop given old) ≡ front =
    ap (λ n. take n (front ++ drop given old)) (sym long) ∙ take-append_seam front (drop given old) in
    let behind : drop given (front ++ drop given old) ≡ drop given old =
    ap (λ n. drop n (front ++ drop given old)) (sym long) ∙ drop-append_seam front (drop given old) in
    let sum : given + (count - given) ≡ count = omega arith in
    let rest : drop (count - given) (drop given (front ++ drop given old)) ≡ drop count old =
    ap (drop (count - given)) behind ∙ drop-drop (count - given) given old ∙ ap (λ n. drop n old) sum in
    let whole : count ≡ min (length (xs ++ replicate m 0)) (length old) =
    is_count ∙ ap (λ n. min n (length old))
    (sym (length-append xs (replicate m 0) ∙ ap (λ n. length xs + n) (length-replicate m 0))) in
    ap (λ now. take given now ++ (replicate (count - given) 0 ++ drop (count - given) (drop given now))) (sym (all_written xs old given is_given))
    ∙ ap (λ ys. ys ++ (replicate (count - given) 0 ++ drop (count - given) (drop given (front ++ drop given old)))) kept
    ∙ ap (λ ys. front ++ (replicate (count - given) 0 ++ ys)) rest
    ∙ sym (append_assoc front (replicate (count - given) 0) (drop count old))
    ∙ ap (λ ys. ys ++ drop count old) (sym (take_behind xs m given count (length old) is_given is_count))
    ∙ all_written (xs ++ replicate m 0) old count whole

-- what is left of a list and of zeros behind it from so many on
pub drop_behind : (xs : List ℕ) (m from : ℕ)
    → drop from (xs ++ replicate m 0) ≡ drop from xs ++ replicate (m - (from - length xs)) 0
drop_behind xs m from = ⊎_elim
    (λ (lt : from < length xs).
    let none : m ≡ m - (from - length xs) = omega arith in
    drop-append-le from xs (replicate m 0) (omega arith) ∙ ap (λ n. drop from xs ++ replicate n 0) none)
    (λ (le : length xs ≤ from).
    let sum : from ≡ length xs + (from - length xs) = omega arith in
    ap (λ n. drop n (xs ++ replicate m 0)) sum ∙ drop-append-add xs (replicate m 0) (from - length xs)
    ∙ drop-replicate (from - length xs) m 0
    ∙ ap (λ ys. ys ++ replicate (m - (from - length xs)) 0) (sym (drop_all from xs le)))
    (cases_lt from (length xs))
