-- Where reading needs memory.
use Rattle.std.specs.Prelude.{◌≡◌, ℕ, ◌≤◌, List, ◌++◌, IsTrue}
use Rattle.fw_list.specs.Numbers.{u32}
use Rattle.fw_op.specs.declared.start.Start.{Start}
use Rattle.fw_record.specs.declared.limits.TheConstants.{MOST_RECORDS}
use Rattle.fw_record.specs.Records.{start_bytes, start_fits}

-- the bytes begin with a record
pub record BeginsWithStart (clients : ℕ) (bytes : List ℕ) : Type 0 where
  pub start : Start
  pub rest : List ℕ
  pub is : bytes ≡ start_bytes start ++ rest
  pub fitting : IsTrue (start_fits clients start)

-- the bytes begin with a count and a record
pub record BeginsWithStarts (clients : ℕ) (bytes : List ℕ) : Type 0 where
  pub count : ℕ
  pub behind : List ℕ
  pub is : bytes ≡ u32 count ++ behind
  pub few : count ≤ MOST_RECORDS
  pub first : BeginsWithStart clients behind
