-- Replies of a number as they are read, and means that read the numbers that they write.
use Rattle.std.specs.Prelude.{ℕ, ◌≡◌, Bool, true, false, nat_eq, nat_le, Option, Some}
use Rattle.fw_trace.specs.Filter as filters
use Rattle.fw_frame.specs.View.{Share, Reply, Frame, Shares, Replies}
use Rattle.fw_rules.specs.Means.{Means}
use Rattle.fw_means.specs.Means.{when}
use Rattle.fw_rules.specs.Roles.{Valued, combined_of, filter_speech}

-- a reply of this number
abbrev pub is_reply : ℕ → Option Frame → Bool
is_reply n (Some (Replies a)) = nat_eq a.number n
is_reply n _ = false

-- the message reads as a reply of this number
abbrev pub is_reply_of : {M : Type 0} → Means M → ℕ → M → Bool
is_reply_of k n m = is_reply n (k.read m)

-- a written reply is read with its number, where that is one of the list; and a share that is read has such a number
pub record ReadsNumbers {M : Type 0} (k : Means M) : Type 0 where
  pub replies : (a b : Reply) → nat_le a.number k.params.numbers ≡ true → k.read (k.write (Replies a)) ≡ Some (Replies b) → b.number ≡ a.number
  pub shares : (m : M) (s : Share) → k.read m ≡ Some (Shares s) → nat_le s.number k.params.numbers ≡ true

-- a filter's speech that makes replies of numbers of the list alone
abbrev pub numbered_speech : {M : Type 0} → Means M → ℕ → ℕ → filters.Speech M Valued
numbered_speech k r c = record (filter_speech k r c) { combined = λ n shares. when (nat_le n k.params.numbers) (combined_of k n shares) }
