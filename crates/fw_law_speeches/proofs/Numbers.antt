-- The means of a deployment read the numbers that they write.
use Rattle.std.proofs.Common.{ℕ, ◌^◌, ◌<◌, ◌≡◌, ◌&&◌, true, nat_le, nat_lt, List, [], ◌∷◌, ◌++◌, refl, sym, ◌∙◌, ap, subst, IsTrue, arith}
use Rattle.std.specs.Prelude.{drop}
use Rattle.std.proofs.lemmas.Bool.{leb-true, and_parts}
use Rattle.fw_list.specs.Numbers.{u32}
use Rattle.fw_base.specs.declared.params.Params.{Params}
use Rattle.fw_base.specs.Sizes.{accepted, executors}
use Rattle.fw_frame.specs.Frames.{PlainFrame}
use Rattle.fw_frame.specs.Frames as frames
use Rattle.fw_frame.specs.Ranges.{answer_fits, values_fit, number_fits, frame_fits}
use Rattle.fw_frame.specs.Spelling.{frame_bytes}
use Rattle.fw_frame.specs.View.{Share, Reply, Frame, Shares, Replies, first_given, viewed}
use Rattle.fw_directory.specs.Directories.{PlainDirectory}
use Rattle.fw_hand.specs.Hands.{PlainHand}
use Rattle.fw_means.specs.Means.{written}
use Rattle.fw_lengths.proofs.Admitted.{valid-shows}
use Rattle.fw_wire.proofs.Fronts.{u32_split}
use Rattle.fw_rules.specs.Deployed.{means_of}
use Rattle.fw_law_speeches.specs.Frames.{ReadsNumbers}

numbers_small : (p : Params) → IsTrue (accepted p) → p.numbers < 2 ^ 32
numbers_small p h = grind arith

-- the number of a reply or share
abbrev number_in : Frame → ℕ
number_in (Replies a) = a.number
number_in (Shares s) = s.number
number_in _ = 0

small : (p : Params) → IsTrue (accepted p) → (n : ℕ) → nat_le n p.numbers ≡ true → n < 2 ^ 32
small p a n e =
    let most = leb-true n p.numbers e in
    let all = numbers_small p a in
    omega (arith, most, all)

-- what stands first, and the rest of five
front : (n c t b v : List ℕ) → n ++ c ++ t ++ b ++ v ≡ n ++ (c ++ t ++ b ++ v)
front [] c t b v = refl
front (x ∷ n) c t b v = ap (λ (bytes : List ℕ). x ∷ bytes) (front n c t b v)

-- bytes that spell a reply and are those of a frame that is seen as a reply have the number of both
same_number : (p : Params) → IsTrue (accepted p) → (a b : Reply) (f : PlainFrame) → nat_le a.number p.numbers ≡ true → viewed f ≡ Replies b → written (Replies a) ≡ frame_bytes f → IsTrue (frame_fits p f) → b.number ≡ a.number
same_number p ok a b (frames.Reply number client stamp body secrets) most seen spelled fits =
    let given = first_given a.answers in
    let begins = (and_parts (number_fits p number && answer_fits p client stamp body) (values_fit secrets) fits).0 in
    let range = (and_parts (number_fits p number) (answer_fits p client stamp body) begins).0 in
    let top = (and_parts (nat_le 1 number) (nat_le number p.numbers) range).1 in
    let behind : u32 a.number ++ u32 given.client ++ u32 given.stamp ++ given.body ++ a.values ≡ u32 number ++ u32 client ++ u32 stamp ++ body ++ secrets = ap (λ (bytes : List ℕ). drop 1 bytes) spelled in
    let fronts = sym (front (u32 a.number) (u32 given.client) (u32 given.stamp) given.body a.values) ∙ behind ∙ front (u32 number) (u32 client) (u32 stamp) body secrets in
    let same = u32_split a.number number (u32 given.client ++ u32 given.stamp ++ given.body ++ a.values) (u32 client ++ u32 stamp ++ body ++ secrets) (small p ok a.number most) (small p ok number top) fronts in
    sym (same.0 ∙ ap number_in seen)
same_number p ok a b (frames.Request r) most seen spelled fits = cc
same_number p ok a b (frames.Propose view number entry sig) most seen spelled fits = cc
same_number p ok a b (frames.Vote phase view number agree digest sig) most seen spelled fits = cc
same_number p ok a b (frames.Change c) most seen spelled fits = cc
same_number p ok a b (frames.NewView view changes sig) most seen spelled fits = cc
same_number p ok a b (frames.Agreed view number entry signers) most seen spelled fits = cc
same_number p ok a b (frames.Share number exec client stamp body shares) most seen spelled fits = cc
same_number p ok a b (frames.Want number) most seen spelled fits = cc

share_number : (p : Params) (s : Share) (f : PlainFrame) → viewed f ≡ Shares s → IsTrue (frame_fits p f) → nat_le s.number p.numbers ≡ true
share_number p s (frames.Share number exec client stamp body shares) seen fits =
    let rest = (and_parts (number_fits p number && nat_lt exec (executors p) && answer_fits p client stamp body) (values_fit shares) fits).0 in
    let front = (and_parts (number_fits p number && nat_lt exec (executors p)) (answer_fits p client stamp body) rest).0 in
    let range = (and_parts (number_fits p number) (nat_lt exec (executors p)) front).0 in
    let top = (and_parts (nat_le 1 number) (nat_le number p.numbers) range).1 in
    subst (λ (n : ℕ). nat_le n p.numbers ≡ true) (ap number_in seen) top
share_number p s (frames.Request r) seen fits = cc
share_number p s (frames.Propose view number entry sig) seen fits = cc
share_number p s (frames.Vote phase view number agree digest sig) seen fits = cc
share_number p s (frames.Change c) seen fits = cc
share_number p s (frames.NewView view changes sig) seen fits = cc
share_number p s (frames.Agreed view number entry signers) seen fits = cc
share_number p s (frames.Reply number client stamp body secrets) seen fits = cc
share_number p s (frames.Want number) seen fits = cc

pub reads_numbers : (d : PlainDirectory) (hand : PlainHand) → IsTrue (accepted d.params) → ReadsNumbers (means_of d hand)
reads_numbers d hand ok = record {
  replies = λ a b most e. (
      let shown = valid-shows d (written (Replies a)) (Replies b) e in
      same_number d.params ok a b shown.frame most shown.seen shown.spelled shown.fits);
  shares = λ m s e. (
      let shown = valid-shows d m (Shares s) e in
      share_number d.params s shown.frame shown.seen shown.fits);
}
