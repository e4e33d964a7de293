-- The kinds of frames as their fields, one behind the other.
use Rattle.std.proofs.Common.{◌≡◌, ℕ, ◌-◌, ◌<◌, Bool, ◌&&◌, ◌||◌, inl, inr, nat_le, nat_lt, nat_eq, List, [], ◌∷◌, ◌++◌, Option, Some, None, Result, Ok, Err, option_map, refl, sym, ap, ◌∙◌, append_assoc, arith, IsTrue}
use Rattle.std.proofs.Math.Bool.{and_assoc}
use Rattle.std.proofs.lemmas.List.{append-nil}
use Rattle.std.specs.Prelude.{IfOk, IfSome}
use Rattle.std.specs.List.{list_all}
use Rattle.std.proofs.lemmas.Bool.{ltb-true, and_parts, and_from, or_cases, or_left, or_right, cases_Bool, both_ways, eqb-true, eq-eqb, leb-false, lt-ltb, le-leb}
use Rattle.fw_list.specs.declared.limits.TheConstants.{BODY_LEN, SIGNATURE_LEN}
use Rattle.fw_list.specs.Numbers.{u32, within}
use Rattle.fw_base.specs.Sizes.{agreements, executors}
use Rattle.fw_base.specs.declared.params.Params.{Params}
use Rattle.fw_frame.specs.Frames.{PlainEntry, PlainSigner, PlainChange, PlainFrame, Request, Propose, Vote, Change, NewView, Agreed, Share, Reply, Want}
use Rattle.fw_frame.specs.Ranges.{has_length, asker_fits, body_fits, values_fit, proofs_fit, change_fits, entry_fits, signers_fit, changes_fit, view_fits, frame_fits, IsFrame}
use Rattle.fw_wire.specs.Reading.{FindsWhere}
use Rattle.fw_frame.specs.Reading.{kind_of, fields_bytes, kind_fits, answer_bytes, answered_fits}
use Rattle.fw_frame.specs.Spelling.{entry_bytes, signers_bytes, change_bytes, changes_bytes, frame_bytes}
use Rattle.fw_frame.proofs.Fields.{three, five}
use Rattle.fw_wire.proofs.Fields.{then_text, then_fits, after_fits, SameWhere}

-- a kind's fields, from a way back
same_by : {A : Type 0} {t : A → List ℕ} {f : A → Bool} (p : Params) (k : ℕ) (to : A → PlainFrame) (from : PlainFrame → A)
    → ((x : A) → fields_bytes (to x) ≡ t x) → ((x : A) → kind_fits p k (to x) ≡ f x) → ((y : PlainFrame) → kind_of y ≡ k → to (from y) ≡ y)
    → SameWhere t f fields_bytes (kind_fits p k) to
same_by p k to from texts fits back =
    let again : (y : PlainFrame) → IsTrue (kind_fits p k y) → to (from y) ≡ y = λ y h. back y (eqb-true (kind_of y) k (and_parts (nat_eq (kind_of y) k) (frame_fits p y) h).0) in
    record {
      from = from;
      texts = λ x fits. texts x;
      fits_to = λ x h. fits x ∙ h;
      fits_from = λ y h. sym (fits (from y)) ∙ (ap (kind_fits p k) (again y h) ∙ h);
      back = again;
    }

-- ---- proposals

abbrev pub propose_of : ℕ × (ℕ × (PlainEntry × List ℕ)) → PlainFrame
propose_of x = Propose x.0 x.1.0 x.1.1.0 x.1.1.1

abbrev propose_from : PlainFrame → ℕ × (ℕ × (PlainEntry × List ℕ))
propose_from (Propose view number entry sig) = (view, (number, (entry, sig)))
propose_from y = (0, (0, (None, [])))

propose_back : (y : PlainFrame) → kind_of y ≡ 2 → propose_of (propose_from y) ≡ y
propose_back y e = grind arith

pub propose_same : (p : Params) → SameWhere (then_text u32 (then_text u32 (then_text entry_bytes (λ bytes. bytes))))
    (then_fits (λ n. nat_lt n p.views) (then_fits (λ n. within 1 n p.numbers) (then_fits (entry_fits p) (has_length SIGNATURE_LEN)))) fields_bytes (kind_fits p 2) propose_of
propose_same p = same_by p 2 propose_of propose_from (λ x. simp append_assoc) (λ x. simp and_assoc) propose_back

-- ---- votes

abbrev pub vote_of : ℕ × (ℕ × (ℕ × (ℕ × (List ℕ × List ℕ)))) → PlainFrame
vote_of x = Vote x.0 x.1.0 x.1.1.0 x.1.1.1.0 x.1.1.1.1.0 x.1.1.1.1.1

abbrev vote_from : PlainFrame → ℕ × (ℕ × (ℕ × (ℕ × (List ℕ × List ℕ))))
vote_from (Vote phase view number agree digest sig) = (phase, (view, (number, (agree, (digest, sig)))))
vote_from y = (0, (0, (0, (0, ([], [])))))

vote_back : (y : PlainFrame) → kind_of y ≡ 3 → vote_of (vote_from y) ≡ y
vote_back y e = grind arith

pub vote_same : (p : Params)
    → SameWhere (then_text u32 (then_text u32 (then_text u32 (then_text u32 (then_text (λ bytes. bytes) (λ bytes. bytes))))))
    (then_fits (λ n. nat_le n 1) (then_fits (λ n. nat_lt n p.views) (then_fits (λ n. within 1 n p.numbers)
    (then_fits (λ n. nat_lt n (agreements p)) (then_fits (has_length 32) (has_length SIGNATURE_LEN)))))) fields_bytes (kind_fits p 3) vote_of
vote_same p = same_by p 3 vote_of vote_from (λ x. simp append_assoc) (λ x. simp and_assoc) vote_back

-- ---- new views

abbrev pub new_view_of : ℕ × (List PlainChange × List ℕ) → PlainFrame
new_view_of x = NewView x.0 x.1.0 x.1.1

abbrev new_view_from : PlainFrame → ℕ × (List PlainChange × List ℕ)
new_view_from (NewView view changes sig) = (view, (changes, sig))
new_view_from y = (0, ([], []))

new_view_back : (y : PlainFrame) → kind_of y ≡ 5 → new_view_of (new_view_from y) ≡ y
new_view_back y e = grind arith

abbrev pub new_view_rest : Params → ℕ → List PlainChange × List ℕ → Bool
new_view_rest p view x = then_fits (changes_fit p view) (has_length SIGNATURE_LEN) x

pub new_view_same : (p : Params)
    → SameWhere (then_text u32 (then_text changes_bytes (λ bytes. bytes))) (after_fits (λ n. nat_lt 0 n && view_fits p n) (new_view_rest p)) fields_bytes (kind_fits p 5) new_view_of
new_view_same p = same_by p 5 new_view_of new_view_from (λ x. simp append_assoc) (λ x. simp and_assoc) new_view_back

-- ---- agreed entries

abbrev pub agreed_of : ℕ × (ℕ × (PlainEntry × List PlainSigner)) → PlainFrame
agreed_of x = Agreed x.0 x.1.0 x.1.1.0 x.1.1.1

abbrev agreed_from : PlainFrame → ℕ × (ℕ × (PlainEntry × List PlainSigner))
agreed_from (Agreed view number entry signers) = (view, (number, (entry, signers)))
agreed_from y = (0, (0, (None, [])))

agreed_back : (y : PlainFrame) → kind_of y ≡ 6 → agreed_of (agreed_from y) ≡ y
agreed_back y e = grind arith

pub agreed_same : (p : Params) → SameWhere (then_text u32 (then_text u32 (then_text entry_bytes signers_bytes)))
    (then_fits (λ n. nat_lt n p.views) (then_fits (λ n. within 1 n p.numbers) (then_fits (entry_fits p) (signers_fit p)))) fields_bytes (kind_fits p 6) agreed_of
agreed_same p = same_by p 6 agreed_of agreed_from (λ x. simp append_assoc) (λ x. simp and_assoc) agreed_back

-- ---- whom a reply is for, and its body

abbrev pub whole : ℕ × (ℕ × List ℕ) → Bool
whole x = nat_le 1 x.1.0 || nat_eq x.0 0 && list_all (nat_eq 0) x.1.1

pub answer_from : (p : Params) → 0 < p.clients → (x : ℕ × (ℕ × List ℕ)) → IsTrue (answered_fits p x)
    → IsTrue (then_fits (λ n. nat_lt n p.clients) (then_fits (λ n. nat_le n p.stamps) (has_length BODY_LEN)) x)
answer_from p some x h =
    let a = and_parts (body_fits x.1.1) _ h in
    elim (or_cases (asker_fits p x.0 x.1.0) (nat_eq x.0 0 && nat_eq x.1.0 0 && list_all (nat_eq 0) x.1.1) a.1) [
      | inl asks ↦
          let b = and_parts (nat_lt x.0 p.clients) (within 1 x.1.0 p.stamps) asks in
          let c = and_parts (nat_le 1 x.1.0) (nat_le x.1.0 p.stamps) b.1 in
          and_from _ _ b.0 (and_from _ _ c.1 a.0)
      | inr zeros ↦
          let b = three (nat_eq x.0 0) (nat_eq x.1.0 0) (list_all (nat_eq 0) x.1.1) zeros in
          let client = eqb-true x.0 0 b.0 in
          let stamp = eqb-true x.1.0 0 b.1 in
          and_from _ _ (lt-ltb x.0 p.clients (omega arith)) (and_from _ _ (le-leb x.1.0 p.stamps (omega arith)) a.0)
    ]

pub answer_to : (p : Params) (x : ℕ × (ℕ × List ℕ)) → IsTrue (then_fits (λ n. nat_lt n p.clients) (then_fits (λ n. nat_le n p.stamps) (has_length BODY_LEN)) x) → IsTrue (whole x) → IsTrue (answered_fits p x)
answer_to p x f w =
    let a = and_parts (nat_lt x.0 p.clients) _ f in
    let b = and_parts (nat_le x.1.0 p.stamps) (has_length BODY_LEN x.1.1) a.1 in
    and_from _ _ b.1 (elim (cases_Bool (nat_le 1 x.1.0)) [
      | inl asks ↦ or_left _ _ (and_from _ _ a.0 (and_from _ _ asks b.0))
      | inr none ↦
          let zeros = elim (or_cases (nat_le 1 x.1.0) (nat_eq x.0 0 && list_all (nat_eq 0) x.1.1) w) as (λ _. IsTrue (nat_eq x.0 0 && list_all (nat_eq 0) x.1.1)) [
            | inl asks ↦ absurd (both_ways (nat_le 1 x.1.0) none asks)
            | inr z ↦ z
          ] in
          let c = and_parts (nat_eq x.0 0) (list_all (nat_eq 0) x.1.1) zeros in
          let low = leb-false 1 x.1.0 none in
          or_right _ _ (and_from _ _ (and_from _ _ c.0 (eq-eqb x.1.0 0 (omega arith))) c.1)
    ])

-- ---- shares

abbrev pub share_of : ℕ × (ℕ × ((ℕ × (ℕ × List ℕ)) × List ℕ)) → PlainFrame
share_of x = Share x.0 x.1.0 x.1.1.0.0 x.1.1.0.1.0 x.1.1.0.1.1 x.1.1.1

abbrev share_from : PlainFrame → ℕ × (ℕ × ((ℕ × (ℕ × List ℕ)) × List ℕ))
share_from (Share number exec client stamp body shares) = (number, (exec, ((client, (stamp, body)), shares)))
share_from y = (0, (0, ((0, (0, [])), [])))

share_back : (y : PlainFrame) → kind_of y ≡ 7 → share_of (share_from y) ≡ y
share_back y e = grind arith

pub share_same : (p : Params) → SameWhere (then_text u32 (then_text u32 (then_text answer_bytes (λ bytes. bytes))))
    (then_fits (λ n. within 1 n p.numbers) (then_fits (λ n. nat_lt n (executors p)) (then_fits (answered_fits p) (has_length SIGNATURE_LEN)))) fields_bytes (kind_fits p 7) share_of
share_same p = same_by p 7 share_of share_from (λ x. simp append_assoc) (λ x. simp and_assoc) share_back

-- ---- replies

abbrev pub reply_of : ℕ × ((ℕ × (ℕ × List ℕ)) × List ℕ) → PlainFrame
reply_of x = Reply x.0 x.1.0.0 x.1.0.1.0 x.1.0.1.1 x.1.1

abbrev reply_from : PlainFrame → ℕ × ((ℕ × (ℕ × List ℕ)) × List ℕ)
reply_from (Reply number client stamp body secrets) = (number, ((client, (stamp, body)), secrets))
reply_from y = (0, ((0, (0, [])), []))

reply_back : (y : PlainFrame) → kind_of y ≡ 8 → reply_of (reply_from y) ≡ y
reply_back y e = grind arith

pub reply_same : (p : Params) → SameWhere (then_text u32 (then_text answer_bytes (λ bytes. bytes)))
    (then_fits (λ n. within 1 n p.numbers) (then_fits (answered_fits p) (has_length SIGNATURE_LEN))) fields_bytes (kind_fits p 8) reply_of
reply_same p = same_by p 8 reply_of reply_from (λ x. simp append_assoc) (λ x. simp and_assoc) reply_back

-- ---- view changes

abbrev change_from : PlainFrame → PlainChange
change_from (Change c) = c
change_from y = record { view = 0; agree = 0; proofs = []; sig = [] }

change_back : (y : PlainFrame) → kind_of y ≡ 4 → Change (change_from y) ≡ y
change_back y e = grind arith

abbrev pub any_change : Params → PlainChange → Bool
any_change p c = nat_le 0 c.agree && (within 1 c.view (p.views - 1) && change_fits p c)

is_any_change : (p : Params) (c : PlainChange) → IsTrue (change_fits p c) → IsTrue (any_change p c)
is_any_change p c h =
    let f = five (nat_lt 0 c.view) (view_fits p c.view) (nat_lt c.agree (agreements p)) (proofs_fit p c.view c.proofs) (values_fit c.sig) h in
    let low = ltb-true 0 c.view f.0 in
    let high = ltb-true c.view p.views f.1 in
    and_from _ _ (le-leb 0 c.agree (omega arith)) (and_from _ _ (and_from _ _ (le-leb 1 c.view (omega arith)) (le-leb c.view (p.views - 1) (omega arith))) h)

pub change_frame_same : (p : Params) → SameWhere change_bytes (any_change p) fields_bytes (kind_fits p 4) (λ c. Change c)
change_frame_same p =
    let again : (y : PlainFrame) → IsTrue (kind_fits p 4 y) → Change (change_from y) ≡ y = λ y h. change_back y (eqb-true (kind_of y) 4 (and_parts (nat_eq (kind_of y) 4) (frame_fits p y) h).0) in
    record {
      from = change_from;
      texts = λ x fits. refl;
      fits_to = λ x h. (and_parts (within 1 x.view (p.views - 1)) (change_fits p x) (and_parts (nat_le 0 x.agree) _ h).1).1;
      fits_from = λ y h. is_any_change p (change_from y) (ap (kind_fits p 4) (again y h) ∙ h);
      back = again;
    }

-- ---- the kind

frame_is : (y : PlainFrame) → frame_bytes y ≡ kind_of y ∷ fields_bytes y
frame_is (Request r) = refl
frame_is (Propose view number entry sig) = refl
frame_is (Vote phase view number agree digest sig) = refl
frame_is (Change c) = refl
frame_is (NewView view changes sig) = refl
frame_is (Agreed view number entry signers) = refl
frame_is (Share number exec client stamp body shares) = refl
frame_is (Reply number client stamp body secrets) = refl
frame_is (Want number) = refl

kind_is : (y : PlainFrame) (k : ℕ) (rest left : List ℕ) → k ∷ left ≡ frame_bytes y ++ rest → (kind_of y ≡ k) × (left ≡ fields_bytes y ++ rest)
kind_is y k rest left e =
    let whole : k ∷ left ≡ kind_of y ∷ (fields_bytes y ++ rest) = e ∙ ap (λ (m : List ℕ). m ++ rest) (frame_is y) in
    (cc, cc)

with_kind_read : (p : Params) (k : ℕ) (old mid new : List ℕ) (found : Option PlainFrame) → old ≡ k ∷ mid
    → IfSome found (λ y. (mid ≡ fields_bytes y ++ new) × IsTrue (kind_fits p k y)) → IfSome found (λ y. (old ≡ frame_bytes y ++ new) × IsTrue (frame_fits p y))
with_kind_read p k old mid new None e h = tt
with_kind_read p k old mid new (Some y) e h =
    let parts = and_parts (nat_eq (kind_of y) k) (frame_fits p y) h.1 in
    let kind = eqb-true (kind_of y) k parts.0 in
    (e ∙ (ap (λ (m : List ℕ). k ∷ m) h.0 ∙ (ap (λ z. z ∷ (fields_bytes y ++ new)) (sym kind) ∙ ap (λ (m : List ℕ). m ++ new) (sym (frame_is y)))), parts.1)

pub with_kind : (p : Params) (k : ℕ) (old mid new : List ℕ) (found : Option PlainFrame) → old ≡ k ∷ mid → FindsWhere fields_bytes (kind_fits p k) mid found new → FindsWhere frame_bytes (frame_fits p) old found new
with_kind p k old mid new found e f = record {
  read = with_kind_read p k old mid new found e f.read;
  each = λ y rest fits h.
      let kind = kind_is y k rest mid (sym e ∙ h) in
      f.each y rest (and_from _ _ (eq-eqb (kind_of y) k kind.0) fits) kind.1;
}

pub ok_with_kind : {B E : Type 0} (h : B → PlainFrame) (r : Result (Option B) E) (p : Params) (k : ℕ) (old mid new : List ℕ) → old ≡ k ∷ mid
    → IfOk r (λ found. FindsWhere fields_bytes (kind_fits p k) mid (option_map h found) new) → IfOk r (λ found. FindsWhere frame_bytes (frame_fits p) old (option_map h found) new)
ok_with_kind h (Ok found) p k old mid new e f = with_kind p k old mid new (option_map h found) e f
ok_with_kind h (Err x) p k old mid new e f = tt

pub no_kind : (p : Params) (old new : List ℕ) → old ≡ [] → FindsWhere frame_bytes (frame_fits p) old None new
no_kind p old new e = record {
  read = tt;
  each = λ y rest fits h.
      let none : [] ≡ kind_of y ∷ (fields_bytes y ++ rest) = sym e ∙ (h ∙ ap (λ (m : List ℕ). m ++ rest) (frame_is y)) in
      absurd (let no : ⊥ = cc in no);
}

-- all of the bytes
pub whole_frame : (p : Params) (bytes old new : List ℕ) (found : Option PlainFrame) → old ≡ bytes → FindsWhere frame_bytes (frame_fits p) old found new
    → (f : PlainFrame) → IsFrame p bytes f → (found ≡ Some f) × (new ≡ [])
whole_frame p bytes old new found e h f is = h.each f [] is.fits (e ∙ (is.spelled ∙ sym (append-nil (frame_bytes f))))
