-- Where a record stands among others, or would stand.
use Rattle.std.specs.Prelude.{◌≡◌, ℕ, ◌<◌, ◌≤◌, List, length, Some, None, slice_index_or, slice_set, insert, remove}
use Rattle.fw_op.specs.declared.reply.Name.{Name}
use Rattle.fw_op.specs.declared.start.Start.{Start}
use Rattle.fw_store.specs.Store.{name_of, record_of, changed, without, added}

-- the record of the name stands here: it is changed and removed here
pub record StandsAt (n : Name) (rs : List Start) (k : ℕ) : Type 0 where
  pub within : k < length rs
  pub finds : (d : Start) → record_of n rs ≡ Some (slice_index_or rs k d)
  pub changes : (how : Start → Start) (d : Start) → changed how n rs ≡ slice_set rs k (how (slice_index_or rs k d))
  pub removes : without n rs ≡ remove rs k

-- there is no record of the name, and one is added here
pub record IsMissingAt (n : Name) (rs : List Start) (k : ℕ) : Type 0 where
  pub within : k ≤ length rs
  pub none : record_of n rs ≡ None
  pub adds : (new : Start) → name_of new ≡ n → added new rs ≡ insert rs k new
