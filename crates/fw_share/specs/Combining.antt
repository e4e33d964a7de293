-- What a combiner keeps, and the replies that it makes.
use Rattle.std.specs.Prelude.{ℕ, ◌+◌, ◌&&◌, not, nat_eq, List, [], ◌∷◌, ◌++◌, length, filter, Option, Some, None, if◌then◌else◌}
use Rattle.fw_base.specs.declared.params.Params.{Params}
use Rattle.fw_text.specs.Texts.{hash}
use Rattle.fw_trace.specs.Filter.{has_share}
use Rattle.fw_frame.specs.View.{Replies}
use Rattle.fw_means.specs.Means.{when, joined_values, written}
use Rattle.fw_rules.specs.Means.{Means}
use Rattle.fw_rules.specs.Roles.{is_equal, joined}
use Rattle.fw_share.specs.Shares.{Share}

-- the sizes of its deployment, and the shares that are kept: the first of each number and executor, in order
pub record Combining : Type 0 where
  pub params : Params
  pub kept : List Share

-- what a reply is made with: nothing is signed and nothing is read
abbrev pub joining : Params → Means (List ℕ)
joining p = record {
  params = p;
  hash = hash;
  sign = λ slot point text. [];
  join = joined_values;
  read = λ bytes. None;
  write = written;
}

-- a share is kept where it is the first of its number and executor
abbrev pub added : List Share → Share → List Share
added kept s = if has_share kept s.number s.exec then kept else kept ++ s ∷ []

-- the shares that say of their number what this one says
abbrev pub equal_to : Share → List Share → List Share
equal_to s kept = filter (is_equal s.number s) kept

-- the reply's bytes, where this share is kept and is the g + 1st with its number and its answers: the shares are joined
abbrev pub made_by : Params → List Share → Share → Option (List ℕ)
made_by p kept s =
    let equal = equal_to s (kept ++ s ∷ []) in
    when (not (has_share kept s.number s.exec) && nat_eq (length equal) (p.g + 1))
    (Some ((joining p).write (Replies (joined (joining p) s.number s.value.0 equal))))

-- the same of what may be a share
abbrev pub added_if : List Share → Option Share → List Share
added_if kept None = kept
added_if kept (Some s) = added kept s

abbrev pub made_if : Params → List Share → Option Share → Option (List ℕ)
made_if p kept None = None
made_if p kept (Some s) = made_by p kept s
