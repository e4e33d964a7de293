-- A hand file as its parts, one behind the other.
use Rattle.std.proofs.Common.{◌≡◌, ℕ, List, [], ◌++◌, Option, Some, None, refl, sym, ap, ◌∙◌, append_assoc, option_map, codes}
use Rattle.std.specs.Prelude.{IfSome}
use Rattle.std.proofs.lemmas.List.{append-nil}
use Rattle.fw_list.specs.Numbers.{u32}
use Rattle.fw_base.specs.declared.params.Params.{Params}
use Rattle.fw_base.specs.declared.seat.Seat.{Seat}
use Rattle.fw_directory.specs.Directories.{PlainDirectory}
use Rattle.fw_hand.specs.Hands.{PlainHand, IsHandIn}
use Rattle.fw_hand.specs.Files.{params_bytes, seat_mark, part_bytes, hand_file, IsHandFile}
use Rattle.fw_wire.specs.Reading.{Finds, then_text, ThenFits}
use Rattle.fw_hand.specs.Reading.{mark_of, IsSeatOf, head_bytes, IsHead, IsDirectoryFor, IsPartOf, file_bytes, IsFile}
use Rattle.fw_wire.proofs.Reading.{Same}

-- ---- the whole

mark_same : (p : Params) (hand : Option PlainHand) → seat_mark p hand ≡ mark_of p (option_map (λ h. h.seat) hand)
mark_same p None = refl
mark_same p (Some h) = refl

owner_fits : (d : PlainDirectory) (hand : Option PlainHand) → IfSome hand (IsHandIn d) → IsSeatOf d.params (option_map (λ h. h.seat) hand)
owner_fits d None h = tt
owner_fits d (Some hand) h = h.seat

abbrev pub file_at : (Params × Option Seat) × (PlainDirectory × Option PlainHand) → PlainDirectory × Option PlainHand
file_at x = x.1

abbrev pub rest_bytes : Params × Option Seat → PlainDirectory × Option PlainHand → List ℕ
rest_bytes h = then_text (λ d. d.digests) (λ _. part_bytes)

abbrev pub RestFits : Params × Option Seat → PlainDirectory × Option PlainHand → Type 0
RestFits h = ThenFits (IsDirectoryFor h.0) (λ d. IsPartOf d h.1)

pub file_same : Same (then_text head_bytes rest_bytes) (ThenFits IsHead RestFits) file_bytes IsFile file_at
file_same = record {
  from = λ y. ((y.0.params, option_map (λ h. h.seat) y.1), y);
  texts = λ x f. spelled x.0.0 x.0.1 x.1.0 x.1.1 f.1.0.0 f.1.1.0;
  fits_to = λ x f. record { directory = f.1.0.1; hand = f.1.1.1 };
  fits_from = λ y g. ((g.directory.sizes, owner_fits y.0 y.1 g.hand), ((refl, g.directory), (refl, g.hand)));
  back = λ y g. refl;
}
  where
    spelled : (p : Params) (owner : Option Seat) (d : PlainDirectory) (hand : Option PlainHand) → d.params ≡ p → option_map (λ h. h.seat) hand ≡ owner
        → hand_file d hand ≡ ((codes "fwh1" ++ params_bytes p) ++ u32 (mark_of p owner)) ++ (d.digests ++ part_bytes hand)
    spelled p owner d hand same one =
        append_assoc ((codes "fwh1" ++ params_bytes d.params) ++ u32 (seat_mark d.params hand)) d.digests (part_bytes hand)
        ∙ ap (λ (n : ℕ). ((codes "fwh1" ++ params_bytes d.params) ++ u32 n) ++ (d.digests ++ part_bytes hand)) (mark_same d.params hand ∙ ap (mark_of d.params) one)
        ∙ ap (λ (q : Params). ((codes "fwh1" ++ params_bytes q) ++ u32 (mark_of q owner)) ++ (d.digests ++ part_bytes hand)) same

-- ---- to the end

pub one_file : (bytes left : List ℕ) (found : Option (PlainDirectory × Option PlainHand)) → Finds file_bytes IsFile bytes found left → (d : PlainDirectory) (hand : Option PlainHand) → IsHandFile bytes d hand → (found ≡ Some (d, hand)) × (left ≡ [])
one_file bytes left found p d hand is = p.each (d, hand) [] (record { directory = is.directory; hand = is.dealt }) (is.spelled ∙ sym (append-nil (hand_file d hand)))
