-- Numbers that are gone through one after another.
use Rattle.std.proofs.Common.{◌≡◌, ℕ, suc, ◌+◌, ◌-◌, ◌<◌, Bool, true, false, List, [], ◌∷◌, ◌++◌, map, length, get_or, drop, refl, sym, ap, ◌∙◌, arith, append_assoc, append-nil, Option, Some, None, ap₂, drop-cons, add-one}
use Rattle.std.specs.Prelude.{count_by, ◌==◌, filter, if◌then◌else◌, Result, Ok, Err, OnOk}
use Rattle.fw_base.specs.declared.seat.Seat.{Seat}
use Rattle.fw_fair.specs.Correct.{is_whole}
use Rattle.fw_fair.proofs.Ranks.{filter_yes, filter_no}
use Rattle.fw_list.specs.Lists.{numbers_from}
use Rattle.fw_base.specs.declared.params.Params.{Params}
use Rattle.fw_op.specs.declared.op.Op.{Op}
use Rattle.fw_op.specs.declared.reply.Reply.{Reply}
use Rattle.fw_trace.specs.declared.Told.{Told}
use Rattle.fw_trace.specs.declared.Sent.{Sent}
use Rattle.fw_trace.specs.Lists.{front_of}
use Rattle.fw_trace.specs.Trace.{Trace, crossing}
use Rattle.fw_frame.specs.View.{Entry}
use Rattle.fw_hand.specs.Hands.{PlainHand}
use Rattle.fw_rules.specs.World.{Deployed, accepted_by, in_row}
use Rattle.fw_report.specs.declared.summary.AgreedLine.{AgreedLine}
use Rattle.fw_report.specs.declared.summary.AcceptLine.{AcceptLine}
use Rattle.fw_report.specs.declared.summary.CrossLine.{CrossLine}
use Rattle.fw_seen.specs.Summary.{agreed_line, agreed_lines, accept_line_of, accept_lines, reply_numbers, line_of_copies, row_lines, cross_lines}
use Rattle.fw_seen.specs.Crossing.{whole_row_lines}

-- what follows with Ok
pub on_ok : {T E : Type 0} (r : Result T E) (P Q : Type 0) → (P → Q) → OnOk r P → OnOk r Q
on_ok (Ok x) P Q f p = f p
on_ok (Err e) P Q f p = p

-- the numbers that are left begin with the next one
pub numbers_more : (first n i : ℕ) → i < n → numbers_from first (n - i) ≡ first ∷ numbers_from (first + 1) (n - (i + 1))
numbers_more first n i inside = let one : n - i ≡ suc (n - (i + 1)) = omega arith in ap (numbers_from first) one

-- one part more of a list
pub part_more : {A : Type 0} (old new part rest all : List A) → old ++ (part ++ rest) ≡ all → new ≡ old ++ part → new ++ rest ≡ all
part_more old new part rest all before pushed = ap (λ xs. xs ++ rest) pushed ∙ append_assoc old part rest ∙ before

-- one number more of a row
pub row_more : (row : ℕ) (down : List ℕ) (old new all : List CrossLine) (n i copies : ℕ) → i < n → copies ≡ count_by (λ x. x == i + 1) down
    → old ++ row_lines row down (numbers_from (i + 1) (n - i)) ≡ all → new ≡ old ++ line_of_copies row (i + 1) copies
    → new ++ row_lines row down (numbers_from (i + 1 + 1) (n - (i + 1))) ≡ all
row_more row down old new all n i copies inside counted before pushed =
    part_more old new (line_of_copies row (i + 1) (count_by (λ x. x == i + 1) down)) (row_lines row down (numbers_from (i + 1 + 1) (n - (i + 1)))) all
    (ap (λ ns. old ++ row_lines row down ns) (sym (numbers_more (i + 1) n i inside)) ∙ before)
    (pushed ∙ ap (λ m. old ++ line_of_copies row (i + 1) m) counted)

-- one row more
pub rows_more : (p : Params) (faulty : List Seat) (pool : List (Sent (List ℕ))) (old new all : List CrossLine) (n i : ℕ) → i < n
    → old ++ cross_lines p pool (filter (is_whole p faulty) (numbers_from i (n - i))) ≡ all → new ≡ old ++ whole_row_lines p faulty pool i
    → new ++ cross_lines p pool (filter (is_whole p faulty) (numbers_from (i + 1) (n - (i + 1)))) ≡ all
rows_more p faulty pool old new all n i inside before pushed = part_more old new (whole_row_lines p faulty pool i) rest all (ap (λ ls. old ++ ls) (by (is_whole p faulty i) refl) ∙ before) pushed
  where
    rest : List CrossLine
    rest = cross_lines p pool (filter (is_whole p faulty) (numbers_from (i + 1) (n - (i + 1))))

    here : filter (is_whole p faulty) (numbers_from i (n - i)) ≡ filter (is_whole p faulty) (i ∷ numbers_from (i + 1) (n - (i + 1)))
    here = ap (filter (is_whole p faulty)) (numbers_more i n i inside)

    by : (b : Bool) → is_whole p faulty i ≡ b → whole_row_lines p faulty pool i ++ rest ≡ cross_lines p pool (filter (is_whole p faulty) (numbers_from i (n - i)))
    by true whole =
        ap (λ (t : Bool). (if t then row_lines i (reply_numbers p (crossing (in_row i) pool)) (numbers_from 1 p.numbers) else []) ++ rest) whole
        ∙ sym (ap (cross_lines p pool) (here ∙ filter_yes (is_whole p faulty) i (numbers_from (i + 1) (n - (i + 1))) whole))
    by false broken =
        ap (λ (t : Bool). (if t then row_lines i (reply_numbers p (crossing (in_row i) pool)) (numbers_from 1 p.numbers) else []) ++ rest) broken
        ∙ sym (ap (cross_lines p pool) (here ∙ filter_no (is_whole p faulty) i (numbers_from (i + 1) (n - (i + 1))) broken))

-- one client more
pub accept_more : (d : Deployed) (t : Trace (List ℕ) Op) (old new all : List AcceptLine) (told : List (Told Reply)) (numbers : List ℕ) (i c : ℕ) → i < length numbers → c ≡ get_or numbers i 0 → told ≡ accepted_by d c t
    → old ++ accept_lines d t (drop i numbers) ≡ all → new ≡ old ++ map (accept_line_of c) told
    → new ++ accept_lines d t (drop (i + 1) numbers) ≡ all
accept_more d t old new all told numbers i c inside is heard before pushed =
    part_more old new (map (accept_line_of c) (accepted_by d c t)) (accept_lines d t (drop (i + 1) numbers)) all
    (ap (λ ns. old ++ accept_lines d t ns) (sym (drop-cons numbers i 0 inside ∙ ap₂ (λ (x n : ℕ). x ∷ drop n numbers) (sym is) (sym (add-one i)))) ∙ before)
    (pushed ∙ ap (λ ts. old ++ map (accept_line_of c) ts) heard)

-- one number more of the agreed list
pub agreed_more : (hand : PlainHand) (reads : ℕ → Option Entry) (old new all : List AgreedLine) (line : AgreedLine) (e : Entry) (n i : ℕ) → i < n → reads (i + 1) ≡ Some e
    → old ++ agreed_lines hand (i + 1) (front_of (map reads (numbers_from (i + 1) (n - i)))) ≡ all → line ≡ agreed_line hand (i + 1) e → new ≡ old ++ line ∷ []
    → new ++ agreed_lines hand (i + 1 + 1) (front_of (map reads (numbers_from (i + 1 + 1) (n - (i + 1))))) ≡ all
agreed_more hand reads old new all line e n i inside read before lined pushed =
    let ns = numbers_from (i + 1 + 1) (n - (i + 1)) in
    part_more old new (agreed_line hand (i + 1) e ∷ []) (agreed_lines hand (i + 1 + 1) (front_of (map reads ns))) all
    (ap (λ (o : Option Entry). old ++ agreed_lines hand (i + 1) (front_of (o ∷ map reads ns))) (sym read)
    ∙ ap (λ ms. old ++ agreed_lines hand (i + 1) (front_of (map reads ms))) (sym (numbers_more (i + 1) n i inside))
    ∙ before)
    (pushed ∙ ap (λ l. old ++ l ∷ []) lined)

-- no number more
pub agreed_end : (hand : PlainHand) (reads : ℕ → Option Entry) (lines all : List AgreedLine) (n i : ℕ) → i < n → reads (i + 1) ≡ None
    → lines ++ agreed_lines hand (i + 1) (front_of (map reads (numbers_from (i + 1) (n - i)))) ≡ all → lines ≡ all
agreed_end hand reads lines all n i inside none before =
    let ns = numbers_from (i + 1 + 1) (n - (i + 1)) in
    sym (append-nil lines)
    ∙ ap (λ (o : Option Entry). lines ++ agreed_lines hand (i + 1) (front_of (o ∷ map reads ns))) (sym none)
    ∙ ap (λ ms. lines ++ agreed_lines hand (i + 1) (front_of (map reads ms))) (sym (numbers_more (i + 1) n i inside))
    ∙ before
