-- Parts of a known length, the values of a slot, and keys.
use Rattle.std.proofs.Common.{◌≡◌, ℕ, ◌*◌, List, ◌++◌, length, Some, None, refl, sym, ap, ap₂, subst, ◌∙◌, IsTrue}
use Rattle.fw_list.specs.declared.limits.TheConstants.{ROW_LEN}
use Rattle.fw_base.specs.declared.params.Params.{Params}
use Rattle.fw_base.specs.declared.slot.Slot.{Slot}
use Rattle.fw_base.specs.Sizes.{accepted}
use Rattle.fw_wire.proofs.Fronts.{same_front}
use Rattle.fw_directory.specs.Directories.{PlainDirectory, rows}
use Rattle.fw_hand.specs.declared.hand.Held.{Held}
use Rattle.fw_hand.specs.Hands.{AreListed}
use Rattle.fw_wire.specs.Reading.{Finds}
use Rattle.fw_hand.specs.Reading.{IsHalf, IsHeldAt, IsDirectoryFor}

-- ---- halves of keys

pub half_on : (old part new : List ℕ) → old ≡ part ++ new → length part ≡ 32 → Finds (λ bytes. bytes) IsHalf old (Some part) new
half_on old part new is len = record {
  read = (is, len);
  each = λ x rest fits e. let same = same_front part x new rest (len ∙ sym fits) (sym is ∙ e) in (ap (λ (y : List ℕ). Some y) same.0, same.1);
}

-- ---- values of a slot

abbrev pub held_at : Slot → List ℕ → Held
held_at slot values = record { slot = slot; values = values }

listed_at : (d : PlainDirectory) (point : ℕ) (slot : Slot) (h : Held) → IsHeldAt d point slot h → AreListed d slot point h.values
listed_at d point slot h fits = subst (λ s. AreListed d s point h.values) fits.0 fits.1.each

pub held_on : (d : PlainDirectory) (point : ℕ) (slot : Slot) (old part new : List ℕ) → old ≡ part ++ new → length part ≡ ROW_LEN → AreListed d slot point part → Finds (λ h. h.values) (IsHeldAt d point slot) old (Some (held_at slot part)) new
held_on d point slot old part new is len listed = record {
  read = (is, (refl, record { whole = len; each = listed }));
  each = λ x rest fits e.
      let same = same_front part x.values new rest (len ∙ sym fits.1.whole) (sym is ∙ e) in
      (ap₂ (λ s v. Some (held_at s v)) (sym fits.0) same.0, same.1);
}

pub held_off : (d : PlainDirectory) (point : ℕ) (slot : Slot) (old part mid new : List ℕ) → old ≡ part ++ mid → length part ≡ ROW_LEN → ¬ AreListed d slot point part → Finds (λ h. h.values) (IsHeldAt d point slot) old None new
held_off d point slot old part mid new is len unlisted = record {
  read = tt;
  each = λ x rest fits e.
      let same = same_front part x.values mid rest (len ∙ sym fits.1.whole) (sym is ∙ e) in
      absurd (unlisted (subst (AreListed d slot point) (sym same.0) (listed_at d point slot x fits)));
}

-- ---- digests

abbrev pub directory_at : Params → List ℕ → PlainDirectory
directory_at p digests = record { params = p; digests = digests }

whole_of : (p : Params) (d : PlainDirectory) → IsDirectoryFor p d → length d.digests ≡ ROW_LEN * rows p
whole_of p d fits = fits.1.whole ∙ ap (λ q. ROW_LEN * rows q) fits.0

pub directory_on : (p : Params) (old part new : List ℕ) → IsTrue (accepted p) → old ≡ part ++ new → length part ≡ ROW_LEN * rows p → Finds (λ d. d.digests) (IsDirectoryFor p) old (Some (directory_at p part)) new
directory_on p old part new sizes is len = record {
  read = (is, (refl, record { sizes = sizes; whole = len }));
  each = λ x rest fits e.
      let same = same_front part x.digests new rest (len ∙ sym (whole_of p x fits)) (sym is ∙ e) in
      (ap₂ (λ q v. Some (directory_at q v)) (sym fits.0) same.0, same.1);
}
