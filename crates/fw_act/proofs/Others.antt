-- A frame to each of some seats of one kind.
use Rattle.std.proofs.Common.{◌≡◌, ℕ, suc, ◌+◌, ◌-◌, ◌<◌, Bool, true, false, not, nat_eq, List, [], ◌∷◌, ◌++◌, map, filter, refl, sym, ap, ◌∙◌, arith, append_assoc, inl, inr}
use Rattle.std.proofs.lemmas.Bool.{cases_Bool, eqb-true, eq-eqb}
use Rattle.fw_list.specs.Lists.{numbers_from}
use Rattle.fw_base.specs.declared.seat.Seat.{Seat}
use Rattle.fw_base.specs.declared.seat.Seat.TheVariants as seats
use Rattle.fw_trace.specs.Client as clients
use Rattle.fw_node.specs.Histories.{Out}

to_each : (f : ℕ → Seat) (bytes : List ℕ) (xs : List ℕ) → clients.to_all (map f xs) bytes ≡ map (λ i. (f i, bytes)) xs
to_each f bytes [] = refl
to_each f bytes (x ∷ xs) = ap (λ (all : Out). (f x, bytes) ∷ all) (to_each f bytes xs)

pub sent_each : (f : ℕ → Seat) (xs : List ℕ) (to : List Seat) (bytes written : List ℕ) (old new : Out) → to ≡ map f xs → bytes ≡ written → new ≡ old ++ clients.to_all to bytes → new ≡ old ++ map (λ i. (f i, written)) xs
sent_each f xs to bytes written old new seats same sent =
    sent ∙ ap (λ b. old ++ clients.to_all to b) same ∙ ap (λ s. old ++ clients.to_all s written) seats ∙ ap (λ (all : Out). old ++ all) (to_each f written xs)

-- ---- all but one

abbrev pub but : ℕ → ℕ → Bool
but own i = not (nat_eq i own)

others_from : (own k end : ℕ) → k < end → but own k ≡ true → filter (but own) (numbers_from k (end - k)) ≡ k ∷ filter (but own) (numbers_from (k + 1) (end - (k + 1)))
others_from own k end below other =
    let left : end - k ≡ suc (end - (k + 1)) = omega arith in
    ap (λ n. filter (but own) (numbers_from k n)) left ∙ rw other refl

others_behind : (own k end : ℕ) → k < end → but own k ≡ false → filter (but own) (numbers_from k (end - k)) ≡ filter (but own) (numbers_from (k + 1) (end - (k + 1)))
others_behind own k end below same =
    let left : end - k ≡ suc (end - (k + 1)) = omega arith in
    ap (λ n. filter (but own) (numbers_from k n)) left ∙ rw same refl

but-other : (own k : ℕ) → (k ≡ own → ⊥) → but own k ≡ true
but-other own k apart = elim (cases_Bool (nat_eq k own)) [ inl same ↦ absurd (apart (eqb-true k own same)) | inr other ↦ rw other refl ]

but-same : (own k : ℕ) → k ≡ own → but own k ≡ false
but-same own k same = rw (eq-eqb k own same) refl

-- one more of the others
pub others_more : (own : ℕ) (all whole : List Seat) (k end : ℕ) → k < end → (k ≡ own → ⊥) → all ++ map seats.Agree (filter (but own) (numbers_from k (end - k))) ≡ whole
    → (all ++ seats.Agree k ∷ []) ++ map seats.Agree (filter (but own) (numbers_from (k + 1) (end - (k + 1)))) ≡ whole
others_more own all whole k end below other parts =
    append_assoc all (seats.Agree k ∷ []) (map seats.Agree (filter (but own) (numbers_from (k + 1) (end - (k + 1)))))
    ∙ ap (λ l. all ++ map seats.Agree l) (sym (others_from own k end below (but-other own k other)))
    ∙ parts

-- the one is left out
pub others_same : (own : ℕ) (all whole : List Seat) (k end : ℕ) → k < end → k ≡ own → all ++ map seats.Agree (filter (but own) (numbers_from k (end - k))) ≡ whole
    → all ++ map seats.Agree (filter (but own) (numbers_from (k + 1) (end - (k + 1)))) ≡ whole
others_same own all whole k end below same parts = ap (λ l. all ++ map seats.Agree l) (sym (others_behind own k end below (but-same own k same))) ∙ parts
