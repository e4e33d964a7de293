-- The head of a hand file.
use Rattle.std.proofs.Common.{◌≡◌, ℕ, ◌+◌, ◌*◌, ◌^◌, ◌<◌, ◌≤◌, ◌≢◌, nat_lt, List, [], ◌++◌, length, Option, Some, None, refl, sym, ap, ◌∙◌, append_assoc, arith, rules, IsTrue, length-append}
use Rattle.std.specs.Prelude.{MatchOption, IfSome}
use Rattle.std.proofs.Math.Arith.{digits_lt}
use Rattle.std.proofs.lemmas.Bool.{and_parts, ltb-true}
use Rattle.std.proofs.lemmas.List.{append-nil}
use Rattle.fw_list.specs.Numbers.{u32}
use Rattle.fw_base.specs.declared.params.Params.{Params}
use Rattle.fw_base.specs.declared.seat.Seat.{Seat}
use Rattle.fw_base.specs.declared.seat.Seat.TheVariants.{Agree, Exec, Filter, Client}
use Rattle.fw_base.specs.Seats.{fits, seat_index, seats, filters_from}
use Rattle.fw_base.specs.Sizes.{accepted, agreements, executors, width}
use Rattle.fw_base.proofs.Placing.{one_row, behind}
use Rattle.fw_base.proofs.Naming.{agreements_few, executors_few, width_small, clients_few}
use Rattle.fw_hand.specs.Files.{params_bytes}
use Rattle.fw_wire.specs.Reading.{Finds, then_text, ThenFits}
use Rattle.fw_hand.specs.Reading.{IsWord, four_bytes, AreFour, AreWords, mark_of, mark_bytes, IsSeatOf}
use Rattle.fw_wire.proofs.Reading.{Same}
use Rattle.fw_wire.proofs.Fronts.{u32_split, length-u32}

-- ---- numbers

pub number_finds : (old new : List ℕ) (found : Option ℕ) → MatchOption found ((length old < 4) × (new ≡ old)) (λ n. old ≡ u32 n ++ new) → IfSome found (λ n. n < 2 ^ 32) → Finds u32 IsWord old found new
number_finds old new None h small = record { read = tt; each = λ n rest fits e. absurd (omega (arith, h.0, length-u32 n, length-append (u32 n) rest, ap length e)) }
number_finds old new (Some n) h small = record {
  read = (h, small);
  each = λ m rest fits e. let same = u32_split n m new rest small fits (sym h ∙ e) in (ap (λ (x : ℕ). Some x) same.0, same.1);
}

-- ---- sizes

abbrev pub sizes_of : ((ℕ × ℕ) × (ℕ × ℕ)) × ((ℕ × ℕ) × (ℕ × ℕ)) → Params
sizes_of x = record { f = x.0.0.0; g = x.0.0.1; h = x.0.1.0; numbers = x.0.1.1; views = x.1.0.0; clients = x.1.0.1; stamps = x.1.1.0; pipe = x.1.1.1 }

eight : (a b c d e f g h : List ℕ) → a ++ (b ++ (c ++ (d ++ (e ++ (f ++ (g ++ (h ++ []))))))) ≡ ((a ++ b) ++ (c ++ d)) ++ ((e ++ f) ++ (g ++ h))
eight a b c d e f g h = simp (append_assoc, append-nil)

pub sizes_same : Same (then_text four_bytes (λ _. four_bytes)) (ThenFits AreFour (λ _. AreFour)) params_bytes AreWords sizes_of
sizes_same = record {
  from = λ p. (((p.f, p.g), (p.h, p.numbers)), ((p.views, p.clients), (p.stamps, p.pipe)));
  texts = λ x f. eight (u32 x.0.0.0) (u32 x.0.0.1) (u32 x.0.1.0) (u32 x.0.1.1) (u32 x.1.0.0) (u32 x.1.0.1) (u32 x.1.1.0) (u32 x.1.1.1);
  fits_to = λ x f. record { f = f.0.0.0; g = f.0.0.1; h = f.0.1.0; numbers = f.0.1.1; views = f.1.0.0; clients = f.1.0.1; stamps = f.1.1.0; pipe = f.1.1.1 };
  fits_from = λ p w. (((w.f, w.g), (w.h, w.numbers)), ((w.views, w.clients), (w.stamps, w.pipe)));
  back = λ p w. refl;
}

pub words_of : (p : Params) → IsTrue (accepted p) → AreWords p
words_of p sizes = record { f = search rules; g = search rules; h = search rules; numbers = search rules; views = search rules; clients = search rules; stamps = search rules; pipe = search rules }

-- ---- whose it is

pub index_below : (p : Params) (s : Seat) → IsTrue (fits p s) → seat_index p s < seats p
index_below p (Agree i) h = omega (arith, ltb-true i (agreements p) h)
index_below p (Exec j) h = omega (arith, ltb-true j (executors p) h)
index_below p (Filter r c) h =
    let both = and_parts (nat_lt r (width p)) (nat_lt c (width p)) h in
    let inside : r * width p + c < width p * width p = digits_lt (ltb-true r (width p) both.0) (ltb-true c (width p) both.1) in
    below (filters_from p) (r * width p) c (width p * width p) p.clients inside
  where
    below : (a b c d e : ℕ) → b + c < d → a + b + c < a + d + e
    below a b c d e h = omega arith
index_below p (Client c) h = omega (arith, ltb-true c p.clients h)

square_few : (w : ℕ) → w ≤ 10 → w * w ≤ 100
square_few w h = grind arith

pub seats_few : (p : Params) → IsTrue (accepted p) → seats p ≤ 1000
seats_few p sizes = omega (arith, square_few (width p) (width_small p sizes), agreements_few p sizes, executors_few p sizes, clients_few p sizes)

filter_inside : (p : Params) (r c : ℕ) → IsTrue (fits p (Filter r c)) → r * width p + c < width p * width p
filter_inside p r c h =
    let both = and_parts (nat_lt r (width p)) (nat_lt c (width p)) h in
    digits_lt (ltb-true r (width p) both.0) (ltb-true c (width p) both.1)

far : (a b c d e : ℕ) → b + c < d → a + b + c ≡ a + d + e → ⊥
far a b c d e h same = omega arith

-- seats of one index are one
pub same_seat : (p : Params) (s t : Seat) → IsTrue (fits p s) → IsTrue (fits p t) → seat_index p s ≡ seat_index p t → s ≡ t
same_seat p (Agree i) (Agree j) f g e = ap Agree e
same_seat p (Agree i) (Exec j) f g e = absurd (omega (arith, ltb-true i (agreements p) f, e))
same_seat p (Agree i) (Filter r c) f g e = absurd (omega (arith, ltb-true i (agreements p) f, e))
same_seat p (Agree i) (Client c) f g e = absurd (omega (arith, ltb-true i (agreements p) f, e))
same_seat p (Exec i) (Agree j) f g e = absurd (omega (arith, ltb-true j (agreements p) g, e))
same_seat p (Exec i) (Exec j) f g e = ap Exec (omega (arith, e))
same_seat p (Exec i) (Filter r c) f g e = absurd (omega (arith, ltb-true i (executors p) f, e))
same_seat p (Exec i) (Client c) f g e = absurd (omega (arith, ltb-true i (executors p) f, e))
same_seat p (Filter r c) (Agree j) f g e = absurd (omega (arith, ltb-true j (agreements p) g, e))
same_seat p (Filter r c) (Exec j) f g e = absurd (omega (arith, ltb-true j (executors p) g, e))
same_seat p (Filter r c) (Filter s d) f g e =
    let one = and_parts (nat_lt r (width p)) (nat_lt c (width p)) f in
    let other = and_parts (nat_lt s (width p)) (nat_lt d (width p)) g in
    let same = one_row r c s d (width p) (ltb-true c (width p) one.1) (ltb-true d (width p) other.1) (behind (filters_from p) (r * width p) c (s * width p) d e) in
    ap (λ x. Filter x c) same.0 ∙ ap (Filter s) same.1
same_seat p (Filter r c) (Client d) f g e = absurd (far (filters_from p) (r * width p) c (width p * width p) d (filter_inside p r c f) e)
same_seat p (Client c) (Agree j) f g e = absurd (omega (arith, ltb-true j (agreements p) g, e))
same_seat p (Client c) (Exec j) f g e = absurd (omega (arith, ltb-true j (executors p) g, e))
same_seat p (Client c) (Filter r d) f g e = absurd (far (filters_from p) (r * width p) d (width p * width p) c (filter_inside p r d g) (sym e))
same_seat p (Client c) (Client d) f g e = ap Client (omega (arith, e))

mark_small : (p : Params) (s : Option Seat) → IsTrue (accepted p) → IsSeatOf p s → mark_of p s < 2 ^ 32
mark_small p None sizes h = omega arith
mark_small p (Some s) sizes h = omega (arith, index_below p s h, seats_few p sizes)

-- a mark is of one seat
same_mark : (p : Params) (s t : Option Seat) → IsTrue (accepted p) → IsSeatOf p s → IsSeatOf p t → mark_of p s ≡ mark_of p t → s ≡ t
same_mark p None None sizes f g e = refl
same_mark p None (Some t) sizes f g e = absurd (omega (arith, index_below p t g, seats_few p sizes, e))
same_mark p (Some s) None sizes f g e = absurd (omega (arith, index_below p s f, seats_few p sizes, e))
same_mark p (Some s) (Some t) sizes f g e = ap Some (same_seat p s t f g e)

pub mark_found : (p : Params) (n : ℕ) (s : Option Seat) (old new : List ℕ) → IsTrue (accepted p) → IsSeatOf p s → mark_of p s ≡ n → Finds u32 IsWord old (Some n) new → Finds (mark_bytes p) (IsSeatOf p) old (Some s) new
mark_found p n s old new sizes fit is q = record {
  read = (q.read.0 ∙ ap (λ (m : ℕ). u32 m ++ new) (sym is), fit);
  each = λ t rest fits e.
      let next = q.each (mark_of p t) rest (mark_small p t sizes fits) e in
      let same : n ≡ mark_of p t = cc in
      (ap Some (same_mark p s t sizes fit fits (is ∙ same)), next.1);
}

pub no_mark : (p : Params) (old mid new : List ℕ) → IsTrue (accepted p) → Finds u32 IsWord old None mid → Finds (mark_bytes p) (IsSeatOf p) old None new
no_mark p old mid new sizes q = record {
  read = tt;
  each = λ t rest fits e.
      let next = q.each (mark_of p t) rest (mark_small p t sizes fits) e in
      absurd (let no : ⊥ = cc in no);
}

pub mark_of_none : (p : Params) (n : ℕ) (old mid new : List ℕ) → IsTrue (accepted p) → ((t : Option Seat) → IsSeatOf p t → n ≢ mark_of p t) → Finds u32 IsWord old (Some n) mid → Finds (mark_bytes p) (IsSeatOf p) old None new
mark_of_none p n old mid new sizes none q = record {
  read = tt;
  each = λ t rest fits e.
      let next = q.each (mark_of p t) rest (mark_small p t sizes fits) e in
      let same : n ≡ mark_of p t = cc in
      absurd (none t fits same);
}

-- no seat has the index of a place behind the last, nor is it the mark
pub behind_all : (p : Params) (n : ℕ) → seats p ≤ n → (n ≡ 4294967295 → ⊥) → (t : Option Seat) → IsSeatOf p t → n ≢ mark_of p t
behind_all p n high other None fits e = other e
behind_all p n high other (Some t) fits e = omega (arith, index_below p t fits, e)
