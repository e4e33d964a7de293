-- The replies that a filter makes of shares can be sent.
use Rattle.std.proofs.Common.{◌≡◌, ℕ, zero, suc, ◌+◌, List, length, map, take, All, Some, refl, ap, ◌∙◌, arith}
use Rattle.std.specs.Prelude.{filter, IfSome}
use Rattle.std.proofs.lemmas.List.{length-map}
use Rattle.fw_list.specs.Lists.{numbers_from}
use Rattle.fw_list.specs.declared.limits.TheConstants.{SIGNATURE_LEN}
use Rattle.fw_base.specs.declared.params.Params.{Params}
use Rattle.fw_base.specs.declared.seat.Seat.{Seat}
use Rattle.fw_base.specs.declared.seat.Seat.TheVariants as seats
use Rattle.fw_frame.specs.View.{Frame, Shares, Replies}
use Rattle.fw_means.specs.Means.{joined_values, joined_byte}
use Rattle.fw_rules.specs.Roles.{share_from, is_equal, joined, combined_with, combined_of}
use Rattle.fw_lengths.specs.Lengths.{HasFrameLength}
use Rattle.fw_lengths.proofs.Options.{when-if, first_some-if}
use Rattle.fw_lengths.proofs.Pieces.{IsShortGiven, IsShort, replies-long}
use Rattle.fw_share.specs.Shares.{Share}
use Rattle.fw_share.specs.Combining.{joining}

-- the bodies of a share's answers are short
abbrev pub HasShortAnswers : Share → Type 0
HasShortAnswers s = All IsShortGiven s.value.0

length-numbers : (first count : ℕ) → length (numbers_from first count) ≡ count
length-numbers first zero = refl
length-numbers first (suc count) = ap suc (length-numbers (first + 1) count)

joined-long : (shares : List (ℕ × List ℕ)) → length (joined_values shares) ≡ SIGNATURE_LEN
unfolding joined_values
joined-long shares = length-map (numbers_from 0 SIGNATURE_LEN) (joined_byte shares) ∙ length-numbers 0 SIGNATURE_LEN

-- the reply that shares make
pub combined-short : (p : Params) (n : ℕ) (kept : List Share) → All HasShortAnswers kept → IfSome (combined_of (joining p) n kept) HasFrameLength
combined-short p n kept short =
    first_some-if (combined_with (joining p) n kept) HasShortAnswers HasFrameLength
    (λ s answers.
    let reply = joined (joining p) n s.value.0 (filter (is_equal n s) kept) in
    let long = joined-long (map (λ (t : Share). (t.exec + 1, t.value.1)) (take (p.g + 1) (filter (is_equal n s) kept))) in
    when-if HasFrameLength _ (Some ((joining p).write (Replies reply))) (replies-long reply answers (omega (arith, long))))
    kept short

-- the share that a frame of short pieces is
pub share-short : (p : Params) (from : Seat) (v : Frame) → IsShort p v → IfSome (share_from from v) HasShortAnswers
share-short p (seats.Exec j) (Shares s) short =
    when-if HasShortAnswers _ (Some (record { number = s.number; exec = s.exec; value = (s.answers, s.values) })) short.0
share-short p _ _ short = tt
