-- The composites of a frame as their fields, one behind the other.
use Rattle.std.proofs.Common.{◌≡◌, ℕ, ◌<◌, ◌≤◌, Bool, ◌&&◌, nat_le, nat_lt, nat_eq, List, ◌++◌, length, map, Option, Some, None, Result, Ok, Err, refl, sym, ap, subst, ◌∙◌, append_assoc, arith, IsTrue, option_map}
use Rattle.std.specs.Prelude.{IfOk, IfSome}
use Rattle.std.specs.List.{flat_map, list_all}
use Rattle.std.proofs.lemmas.Bool.{and_parts, and_from, leb-true, le-leb, lt-ltb, eqb-true, eq-eqb}
use Rattle.fw_list.specs.declared.limits.TheConstants.{SIGNATURE_LEN}
use Rattle.fw_list.specs.Numbers.{u32, within, ascending}
use Rattle.fw_base.specs.Sizes.{agreements, quorum}
use Rattle.fw_base.specs.declared.params.Params.{Params}
use Rattle.fw_frame.specs.Frames.{PlainSigner, PlainProof, PlainChange, PlainEntry}
use Rattle.fw_frame.specs.Ranges.{has_length, number_fits, entry_fits, signers_fit, proof_fits, proofs_fit, change_fits, changes_fit, view_fits, values_fit}
use Rattle.fw_wire.specs.Reading.{FindsWhere}
use Rattle.fw_frame.specs.Reading.{list_fits}
use Rattle.fw_frame.specs.Spelling.{entry_bytes, signers_bytes, proof_bytes, proofs_bytes, change_bytes, changes_bytes}
use Rattle.fw_wire.proofs.Reading.{as_fits}
use Rattle.fw_wire.proofs.Fields.{then_text, then_fits, after_fits, SameWhere}

-- the parts of a longer conjunction
pub three : (a b c : Bool) → IsTrue (a && b && c) → IsTrue a × IsTrue b × IsTrue c
three a b c h =
    let x = and_parts (a && b) c h in
    let y = and_parts a b x.0 in
    (y.0, y.1, x.1)

pub four : (a b c d : Bool) → IsTrue (a && b && c && d) → IsTrue a × IsTrue b × IsTrue c × IsTrue d
four a b c d h =
    let x = and_parts (a && b && c) d h in
    let y = three a b c x.0 in
    (y.0, y.1, y.2, x.1)

pub five : (a b c d e : Bool) → IsTrue (a && b && c && d && e) → IsTrue a × IsTrue b × IsTrue c × IsTrue d × IsTrue e
five a b c d e h =
    let x = and_parts (a && b && c && d) e h in
    let y = four a b c d x.0 in
    (y.0, y.1, y.2, y.3, x.1)

-- a proof is of a number from 1 on
pub proof_low : (p : Params) (view : ℕ) (q : PlainProof) → IsTrue (proof_fits p view q) → 1 ≤ q.number
proof_low p view q h =
    let f = four (nat_lt q.view view) (number_fits p q.number) (entry_fits p q.entry) (signers_fit p q.signers) h in
    leb-true 1 q.number (and_parts (nat_le 1 q.number) (nat_le q.number p.numbers) f.1).0

counted_read : {A : Type 0} (t : A → List ℕ) (key : A → ℕ) (fits : A → Bool) (f : ℕ → Bool) (count : ℕ) (old mid new : List ℕ) (found : Option (List A))
    → old ≡ u32 count ++ mid → IsTrue (f count) → IfSome found (λ xs. (mid ≡ flat_map t xs ++ new) × IsTrue (list_fits key fits count xs))
    → IfSome found (λ xs. (old ≡ u32 (length xs) ++ flat_map t xs ++ new) × IsTrue (f (length xs) && list_all fits xs && ascending (map key xs)))
counted_read t key fits f count old mid new None e w h = tt
counted_read t key fits f count old mid new (Some xs) e w h =
    let parts = three (nat_eq (length xs) count) (list_all fits xs) (ascending (map key xs)) h.1 in
    let same : length xs ≡ count = eqb-true _ _ parts.0 in (
      e ∙ (ap (λ (m : List ℕ). u32 count ++ m) h.0 ∙ (sym (append_assoc (u32 count) (flat_map t xs) new) ∙ ap (λ n. u32 n ++ flat_map t xs ++ new) (sym same))),
      and_from _ _ (and_from _ _ (ap f same ∙ w) parts.1) parts.2,
    )

-- a list behind its count
pub counted : {A : Type 0} (t : A → List ℕ) (key : A → ℕ) (fits : A → Bool) (f : ℕ → Bool) {count : ℕ} {old mid new : List ℕ} {found : Option (List A)}
    → FindsWhere u32 f old (Some count) mid → FindsWhere (flat_map t) (list_fits key fits count) mid found new
    → FindsWhere (λ xs. u32 (length xs) ++ flat_map t xs) (λ xs. f (length xs) && list_all fits xs && ascending (map key xs)) old found new
counted t key fits f {count = count} {old = old} {mid = mid} {new = new} {found = found} p q = record {
  read = counted_read t key fits f count old mid new found p.read.0 p.read.1 q.read;
  each = λ xs rest h e.
      let parts = three (f (length xs)) (list_all fits xs) (ascending (map key xs)) h in
      let first = p.each (length xs) (flat_map t xs ++ rest) parts.0 (e ∙ append_assoc (u32 (length xs)) (flat_map t xs) rest) in
      let same : length xs ≡ count = cc in
      q.each xs rest (and_from _ _ (and_from _ _ (eq-eqb (length xs) count same) parts.1) parts.2) first.1;
}

-- exactly so many
pub within_one : (n m : ℕ) → IsTrue (within n m n) → IsTrue (nat_eq m n)
within_one n m h =
    let parts = and_parts (nat_le n m) (nat_le m n) h in
    let low = leb-true n m parts.0 in
    let high = leb-true m n parts.1 in
    eq-eqb m n (omega arith)

pub one_within : (n m : ℕ) → IsTrue (nat_eq m n) → IsTrue (within n m n)
one_within n m h =
    let same = eqb-true m n h in
    and_from _ _ (le-leb n m (omega arith)) (le-leb m n (omega arith))

pub from_one : (n m : ℕ) (b c : Bool) → IsTrue (within n m n && b && c) → IsTrue (nat_eq m n && b && c)
from_one n m b c h =
    let parts = three (within n m n) b c h in
    and_from _ _ (and_from _ _ (within_one n m parts.0) parts.1) parts.2

pub to_one : (n m : ℕ) (b c : Bool) → IsTrue (nat_eq m n && b && c) → IsTrue (within n m n && b && c)
to_one n m b c h =
    let parts = three (nat_eq m n) b c h in
    and_from _ _ (and_from _ _ (one_within n m parts.0) parts.1) parts.2

pub proofs_counted : {B E : Type 0} (h : B → List PlainProof) (r : Result (Option B) E) (p : Params) (view count : ℕ) (old mid new : List ℕ)
    → FindsWhere u32 (λ n. nat_le n p.numbers) old (Some count) mid
    → IfOk r (λ found. FindsWhere (flat_map proof_bytes) (list_fits (λ q. q.number) (proof_fits p view) count) mid (option_map h found) new)
    → IfOk r (λ found. FindsWhere proofs_bytes (proofs_fit p view) old (option_map h found) new)
proofs_counted h (Err e) p view count old mid new a b = tt
proofs_counted h (Ok found) p view count old mid new a b = counted proof_bytes (λ q. q.number) (proof_fits p view) (λ n. nat_le n p.numbers) a b

abbrev pub to_fits : Params → ℕ → PlainChange → Bool
to_fits p view c = nat_eq c.view view && change_fits p c

pub changes_counted : {B E : Type 0} (h : B → List PlainChange) (r : Result (Option B) E) (p : Params) (view count q : ℕ) (old mid new : List ℕ) → q ≡ quorum p
    → FindsWhere u32 (λ n. within q n q) old (Some count) mid
    → IfOk r (λ found. FindsWhere (flat_map change_bytes) (list_fits (λ c. c.agree) (to_fits p view) count) mid (option_map h found) new)
    → IfOk r (λ found. FindsWhere changes_bytes (changes_fit p view) old (option_map h found) new)
changes_counted h (Err e) p view count q old mid new is a b = tt
changes_counted h (Ok found) p view count q old mid new is a b =
    as_fits (λ cs f. from_one (quorum p) (length cs) (list_all (to_fits p view) cs) (ascending (map (λ c. c.agree) cs)) f)
    (λ cs f. to_one (quorum p) (length cs) (list_all (to_fits p view) cs) (ascending (map (λ c. c.agree) cs)) f)
    (counted change_bytes (λ c. c.agree) (to_fits p view) (λ n. within (quorum p) n (quorum p)) (subst (λ (k : ℕ). FindsWhere u32 (λ n. within k n k) old (Some count) mid) is a) b)

-- ---- a proof

abbrev pub proof_of : ℕ × (ℕ × (PlainEntry × List PlainSigner)) → PlainProof
proof_of x = record { view = x.0; number = x.1.0; entry = x.1.1.0; signers = x.1.1.1 }

pub proof_same : (p : Params) (view least : ℕ)
    → SameWhere (then_text u32 (then_text u32 (then_text entry_bytes signers_bytes)))
    (then_fits (λ n. nat_lt n view) (then_fits (λ n. nat_le least n && number_fits p n) (then_fits (entry_fits p) (signers_fit p))))
    proof_bytes (λ q. nat_le least q.number && proof_fits p view q) proof_of
proof_same p view least = record {
  from = λ q. (q.view, (q.number, (q.entry, q.signers)));
  texts = λ x fits. simp append_assoc;
  fits_to = λ x h.
      let a = and_parts (nat_lt x.0 view) _ h in
      let b = and_parts (nat_le least x.1.0 && number_fits p x.1.0) _ a.1 in
      let c = and_parts (nat_le least x.1.0) (number_fits p x.1.0) b.0 in
      let d = and_parts (entry_fits p x.1.1.0) (signers_fit p x.1.1.1) b.1 in
      and_from _ _ c.0 (and_from _ _ (and_from _ _ (and_from _ _ a.0 c.1) d.0) d.1);
  fits_from = λ q h.
      let a = and_parts (nat_le least q.number) (proof_fits p view q) h in
      let b = four (nat_lt q.view view) (number_fits p q.number) (entry_fits p q.entry) (signers_fit p q.signers) a.1 in
      and_from _ _ b.0 (and_from _ _ (and_from _ _ a.0 b.1) (and_from _ _ b.2 b.3));
  back = λ q h. refl;
}

-- ---- a view change

abbrev pub change_of : ℕ × (ℕ × (List PlainProof × List ℕ)) → PlainChange
change_of x = record { view = x.0; agree = x.1.0; proofs = x.1.1.0; sig = x.1.1.1 }

abbrev pub change_rest : Params → ℕ → ℕ → ℕ × (List PlainProof × List ℕ) → Bool
change_rest p least view x = then_fits (λ n. nat_le least n && nat_lt n (agreements p)) (then_fits (proofs_fit p view) (has_length SIGNATURE_LEN)) x

pub change_same : (p : Params) (low high least : ℕ) → 0 < low → high < p.views
    → SameWhere (then_text u32 (then_text u32 (then_text proofs_bytes (λ bytes. bytes)))) (after_fits (λ n. within low n high) (change_rest p least))
    change_bytes (λ c. nat_le least c.agree && (within low c.view high && change_fits p c)) change_of
change_same p low high least pos below = record {
  from = λ c. (c.view, (c.agree, (c.proofs, c.sig)));
  texts = λ x fits. simp append_assoc;
  fits_to = λ x h.
      let a = and_parts (within low x.0 high) _ h in
      let w = and_parts (nat_le low x.0) (nat_le x.0 high) a.0 in
      let ge = leb-true low x.0 w.0 in
      let le = leb-true x.0 high w.1 in
      let b = and_parts (nat_le least x.1.0 && nat_lt x.1.0 (agreements p)) _ a.1 in
      let c = and_parts (nat_le least x.1.0) (nat_lt x.1.0 (agreements p)) b.0 in
      let d = and_parts (proofs_fit p x.0 x.1.1.0) (has_length SIGNATURE_LEN x.1.1.1) b.1 in
      and_from _ _ c.0 (and_from _ _ a.0
      (and_from _ _ (and_from _ _ (and_from _ _ (and_from _ _ (lt-ltb 0 x.0 (omega arith)) (lt-ltb x.0 p.views (omega arith))) c.1) d.0) d.1));
  fits_from = λ y h.
      let a = and_parts (nat_le least y.agree) _ h in
      let b = and_parts (within low y.view high) (change_fits p y) a.1 in
      let c = five (nat_lt 0 y.view) (view_fits p y.view) (nat_lt y.agree (agreements p)) (proofs_fit p y.view y.proofs) (values_fit y.sig) b.1 in
      and_from _ _ b.0 (and_from _ _ (and_from _ _ a.0 c.2) (and_from _ _ c.3 c.4));
  back = λ c h. refl;
}

-- a change to one view
pub to_view : (p : Params) (view least : ℕ) (c : PlainChange) → IsTrue (nat_le least c.agree && (within view c.view view && change_fits p c)) → IsTrue (nat_le least c.agree && (nat_eq c.view view && change_fits p c))
to_view p view least c h =
    let a = and_parts (nat_le least c.agree) _ h in
    let b = and_parts (within view c.view view) (change_fits p c) a.1 in
    and_from _ _ a.0 (and_from _ _ (within_one view c.view b.0) b.1)

pub from_view : (p : Params) (view least : ℕ) (c : PlainChange) → IsTrue (nat_le least c.agree && (nat_eq c.view view && change_fits p c)) → IsTrue (nat_le least c.agree && (within view c.view view && change_fits p c))
from_view p view least c h =
    let a = and_parts (nat_le least c.agree) _ h in
    let b = and_parts (nat_eq c.view view) (change_fits p c) a.1 in
    and_from _ _ a.0 (and_from _ _ (one_within view c.view b.0) b.1)

pub change_to_view : {B E : Type 0} (h : B → PlainChange) (r : Result (Option B) E) (p : Params) (view least : ℕ) (old new : List ℕ)
    → IfOk r (λ found. FindsWhere change_bytes (λ c. nat_le least c.agree && (within view c.view view && change_fits p c)) old (option_map h found) new)
    → IfOk r (λ found. FindsWhere change_bytes (λ c. nat_le least c.agree && (nat_eq c.view view && change_fits p c)) old (option_map h found) new)
change_to_view h (Err e) p view least old new a = tt
change_to_view h (Ok found) p view least old new a = as_fits (to_view p view least) (from_view p view least) a
